-- `tables::beyond` meets its contract: nothing is left exactly where the byte is within the span. Assumes nothing.
use Rattle.std.proofs.Common.{arith}
use Rattle.tables.proofs.Within.{within_beyond}
use Rattle.tables.proofs.beyond.Goals as goal

pub returns : goal.returns
returns c = rw c.saturating_sub.ensures (within_beyond _ _ _ (omega arith) (omega arith))
