-- `refusal::is_count` meets its contract: the two bounds are joined as there. Assumes nothing.
use mathlib.Core.Path.{refl}
use Rattle.message.specs.Plan.{is_count}
use Rattle.refusal.proofs.is_count.Goals as goal

pub returns : goal.returns
unfolding is_count
returns c = refl
