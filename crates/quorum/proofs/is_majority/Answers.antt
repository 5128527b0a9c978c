-- `quorum::is_majority` meets its contract: the count is compared with half of the total. Assumes nothing.
use Prim.Native.Nat.{◌/◌}
use mathlib.Core.Path.{◌∙◌, ap}
use lib.Dec.{ltb}
use Rattle.quorum.proofs.Quorum.Laws.{majority_half}
use Rattle.quorum.proofs.is_majority.Goals as goal

pub returns : goal.returns
returns c = ap (ltb (c.args.total / 2)) c.count_bits.ensures ∙ majority_half _ _
