-- `codec::read_message` meets its contract: what is refused is the reader's refusal, and else the slice is what it decodes to.
-- Assumes nothing.
use Rattle.std.proofs.Common.{◌∙◌, sym, ap}
use Rattle.message.specs.Outcome.{accepted}
use Rattle.message.proofs.Outcome.Laws.{refused_number, number_some}
use Rattle.message.proofs.Codec.Laws.{read_message_number}
use Rattle.codec.proofs.read_message.Goals as goal

pub returns-in-Err : goal.returns-in-Err
returns-in-Err c = refused_number _ _ c.in-Err.ensures (number_some _)

pub returns : goal.returns
returns c = ap accepted c.decode_message.ensures ∙ read_message_number _ _ (sym c.in_default.ensures)
