-- `message::encode_1b` meets its contract: at each kind of vote the bytes are computed. Assumes nothing.
use Rattle.std.proofs.Common.{arith}
use Rattle.message.specs.Form.{slot_of, bytes_of, bytes_of1b, message_length}
use Rattle.message.proofs.Form.Laws.{high_byte}
use Rattle.message.proofs.encode_1b.Goals as goal

pub returns-in-None : goal.returns-in-None
unfolding slot_of bytes_of bytes_of1b message_length
returns-in-None c = rw (c.in-None.is, c.to_be_bytes.ensures, high_byte c.args.plan.order (omega arith))

pub returns-in-Some : goal.returns-in-Some
unfolding slot_of bytes_of bytes_of1b message_length
returns-in-Some c = rw (c.in-Some.is, c.to_be_bytes.ensures, high_byte c.args.plan.order (omega arith))
