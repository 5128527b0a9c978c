-- `host_message::paxos_commit_read` meets its contract: the refusal's number, or that of the bytes of a message. Assumes nothing.
use mathlib.Core.Path.{◌∙◌, sym, ap}
use Rattle.message.specs.Outcome.{number_of, outcome}
use Rattle.message.proofs.Codec.Laws.{read_message_number, read_message_number_length}
use Rattle.host_message.specs.Code.{read_code}
use Rattle.host_message.proofs.paxos_commit_read.Goals as goal

pub message_code-requires : goal.message_code-requires
message_code-requires c = read_message_number_length _ _ (sym c.message_refusal.ensures ∙ ap (λ r. number_of (outcome r)) c.in-Ok.is)

pub returns-in-Ok : goal.returns-in-Ok
returns-in-Ok c =
    c.message_code.ensures ∙ ap read_code (read_message_number _ _ (sym c.message_refusal.ensures ∙ ap (λ r. number_of (outcome r)) c.in-Ok.is))
