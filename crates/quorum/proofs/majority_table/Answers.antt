-- `quorum::majority_table` meets its contract: the constant's 254 entries are computed from the rule, all by one proof. Assumes nothing.
use mathlib.Core.Path.{refl}
use Rattle.quorum.specs.Quorum.{is_majority}
use Rattle.quorum.specs.Mask.{ones}
use Rattle.quorum.specs.Majorities.{entry, entries, row, rows, majorities}
use Rattle.quorum.proofs.majority_table.Goals as goal

pub returns : goal.returns
unfolding majorities rows row entries entry is_majority ones
returns c = refl
