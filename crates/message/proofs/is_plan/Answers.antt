-- `message::is_plan` meets its contract: the three counts are joined as there. Assumes nothing.
use mathlib.Core.Path.{refl}
use Rattle.message.specs.Plan.{is_plan, is_count}
use Rattle.message.proofs.is_plan.Goals as goal

pub returns : goal.returns
unfolding is_plan is_count
returns c = refl
