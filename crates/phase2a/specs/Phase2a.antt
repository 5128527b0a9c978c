-- Phase2a, kind 6 (document 01, "The nine events" and "Refusals by place"), and ownership of ballots. Its conditions are read from the messages in
-- the leader's own inbox (the crate inbox).
--     owner, owns                   which ballots a leader owns
--     phase2a_message, keep_own, send_both, phase2a  kind 6: the message that it sends, then the sending
-- The laws of ownership are in Phase2a/Laws.antt, and the own 2a's place in Phase2a/Own.antt. Assumes nothing.
pub mod Laws
pub mod Own
use Rattle.std.specs.Prelude.{ℕ, ◌-◌, ◌%◌, Bool, not, ◌&&◌, List, leb, eqb, Option}
use Rattle.message.specs.declared.Plan.{Plan}
use Rattle.message.specs.declared.Message.{Message}
use Rattle.message.specs.declared.Message.TheVariants.{Phase2a}
use Rattle.message.specs.Outcome.{Outcome, accepted, and_then, refuse_if}
use Rattle.slots.specs.declared.Put.{Put}
use Rattle.slots.specs.View.{View, sending}
use Rattle.change.specs.declared.Change.{Change}
use Rattle.change.specs.declared.Sent.TheVariants.{Slot}
use Rattle.change.specs.declared.Update.TheVariants.{Inbox}
use Rattle.quorum.specs.Quorum.{is_quorum}
use Rattle.inbox.specs.Inbox.{any, is1b, is2a, highest_report, proposal}

-- leader l owns ballot b when b > 0 and (b - 1) mod L = l (document 02, Paper 4)
abbrev pub owner : Plan → ℕ → ℕ
owner p b = (b - 1) % p.leaders

unfoldable pub owns : Plan → ℕ → ℕ → Bool
owns p who b = leb 1 b && eqb (owner p b) who

-- kind 6: the inbox has no 2a for (i, b), and the acceptors with a 1b there for i with mbal b are a majority; then the 2a with the value
-- of the highest report
unfoldable pub phase2a_message : Plan → List Message → ℕ → ℕ → ℕ → Outcome Message
phase2a_message p inbox who i b =
    refuse_if (not (owns p who b)) 10
    (refuse_if (any (is2a i b) inbox) 12
    (refuse_if (not (is_quorum p.acceptors (λ a. any (is1b i b a) inbox))) 12
    (accepted (Phase2a i b (proposal (highest_report i b inbox))))))

-- the own 2a is appended to the inbox unless there
unfoldable pub keep_own : View → Message → ℕ → Option Put → Outcome Change
keep_own box m slot store =
    sending 14 (box.send m) (λ place kept. accepted (record { table = Inbox kept; network = store; sent = Slot slot }))

unfoldable pub send_both : View → View → Message → Outcome Change
send_both box net m = sending 13 (net.send m) (keep_own box m)

unfoldable pub phase2a : Plan → View → View → ℕ → ℕ → ℕ → Outcome Change
phase2a p box net who i b = and_then (phase2a_message p box.messages who i b) (send_both box net)
