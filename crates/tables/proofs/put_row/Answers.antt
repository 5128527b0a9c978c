-- `tables::put_row` meets its contract: two rows are set. Assumes nothing.
use Rattle.std.proofs.Common.{refl}
use Rattle.tables.specs.Tables.Bounds.{set_rows}
use Rattle.tables.proofs.put_row.Goals as goal

pub returns : goal.returns
unfolding set_rows
returns c = rw (c.encode-lowest.ensures, c.encode-spans.ensures) refl
