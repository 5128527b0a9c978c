-- `message::encode` meets its contract: at each kind of message the bytes are computed. Assumes nothing.
use Rattle.std.proofs.Common.{arith}
use Rattle.message.specs.Form.{slot_of, bytes_of, message_length}
use Rattle.message.proofs.Form.Laws.{high_byte}
use Rattle.message.proofs.encode.Goals as goal

pub returns-in-Phase1a : goal.returns-in-Phase1a
unfolding slot_of bytes_of message_length
returns-in-Phase1a c = rw (c.in-Phase1a.is, c.to_be_bytes.ensures, high_byte c.args.plan.order (omega arith))

pub returns-in-Phase2a : goal.returns-in-Phase2a
unfolding slot_of bytes_of message_length
returns-in-Phase2a c = rw (c.in-Phase2a.is, c.to_be_bytes.ensures, high_byte c.args.plan.order (omega arith))

pub returns-in-Phase2b : goal.returns-in-Phase2b
unfolding slot_of bytes_of message_length
returns-in-Phase2b c = rw (c.in-Phase2b.is, c.to_be_bytes.ensures, high_byte c.args.plan.order (omega arith))

pub returns-in-Decision : goal.returns-in-Decision
unfolding slot_of bytes_of message_length
returns-in-Decision c = rw (c.in-Decision.is, c.to_be_bytes.ensures, high_byte c.args.plan.order (omega arith))
