-- `message::is_value` meets its contract: the two bounds are joined as there. Assumes nothing.
use mathlib.Core.Path.{refl}
use Rattle.message.specs.Form.{is_value}
use Rattle.message.proofs.is_value.Goals as goal

pub returns : goal.returns
unfolding is_value
returns c = refl
