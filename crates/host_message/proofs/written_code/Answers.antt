-- `host_message::written_code` meets its contract: the refusal, or the eight bytes. Assumes nothing.
use Rattle.std.proofs.Common.{◌∙◌}
use Rattle.host_message.proofs.CodeLaws.{written_refused, written_bytes}
use Rattle.host_message.proofs.written_code.Goals as goal

pub returns-then-written-ne0 : goal.returns-then-written-ne0
returns-then-written-ne0 c = written_refused _ c.if-written-ne0.true

pub returns : goal.returns
returns c = c.pack.ensures ∙ written_bytes _ c.if-written-ne0.false
