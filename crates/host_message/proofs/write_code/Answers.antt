-- `host_message::write_code` meets its contract: the number of what the writer answers. Assumes nothing.
use mathlib.Core.Path.{◌∙◌, ap}
use Rattle.host_message.specs.Code.{written_code}
use Rattle.host_message.proofs.write_code.Goals as goal

pub returns : goal.returns
returns c = c.written_code.ensures ∙ ap written_code c.write_message.ensures
