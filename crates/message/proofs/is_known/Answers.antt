-- `message::is_known` meets its contract: the definition is the tests. Assumes nothing.
use mathlib.Core.Path.{refl}
use Rattle.message.specs.Form.{is_known}
use Rattle.message.proofs.is_known.Goals as goal

pub returns : goal.returns
unfolding is_known
returns c = refl
