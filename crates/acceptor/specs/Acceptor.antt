-- The step of an acceptor, kind 3 (document 01, "The plan and four tables", "The nine events" and "Refusals by place").
--     vote_at                   the place of an instance's three bytes of an acceptor in Q: mbal, bal, val
--     acceptor_judged           rows 1, 2, 4 and 5: the plan and both tables
--     vote_of                   the vote report of a last vote
--     phase1b, phase2b          the two actions
--     acceptor_receive, acceptor_verdict   rows 7 to 13: what an event changes, or its refusal
--     acceptor_step             the whole call
-- Row 4 itself is `are_votes` of the crate `votes`. Laws are in Acceptor/Laws.antt, and what is judged in Acceptor/Sound.antt. Assumes nothing.
pub mod Laws
pub mod Updates
pub mod Sound
use Rattle.std.specs.Prelude.{ℕ, ◌+◌, ◌*◌, not, cond, List, ltb, leb, eqb, length, get_or, None, Option}
use Rattle.message.specs.declared.Plan.{Plan}
use Rattle.message.specs.declared.Vote as VoteType
use Rattle.message.specs.declared.Message.{Message}
use Rattle.message.specs.declared.Message.TheVariants.{Phase1a, Phase1b, Phase2a, Phase2b, Decision}
use Rattle.message.specs.Outcome.{Outcome, accepted, refused, and_then, refuse_if}
use Rattle.message.specs.Plan.{is_plan}
use Rattle.slots.specs.Table.{is_table_length, is_table}
use Rattle.slots.specs.View.{View, view_table, sending}
use Rattle.votes.specs.Votes.{are_votes}
use Rattle.change.specs.declared.Change.{Change}
use Rattle.change.specs.declared.Sent.TheVariants.{Slot}
use Rattle.change.specs.declared.Update.TheVariants.{Vote}
use Rattle.change.specs.Change.{Step, applied}
use Rattle.event.specs.Event.{kind_of, who_of, slot_number, is_event}
use Rattle.message.specs.Form.{cast_vote}

-- from byte 3 × (ins × A + acc): mbal, bal, val
unfoldable pub vote_at : Plan → ℕ → ℕ → ℕ
vote_at p ins acc = 3 * (ins * p.acceptors + acc)

unfoldable pub acceptor_judged : Plan → List ℕ → List ℕ → Outcome (Unit {0})
acceptor_judged p votes network =
    refuse_if (not (is_plan p)) 1
    (refuse_if (not (eqb (length votes) (3 * (p.rms * p.acceptors)))) 2
    (refuse_if (not (is_table_length (length network))) 2
    (refuse_if (not (are_votes votes)) 4
    (refuse_if (not (is_table p network)) 5
    (accepted tt)))))

-- val 0 is no vote
unfoldable pub vote_of : ℕ → ℕ → Option VoteType.Vote
vote_of bal val = cond (eqb val 0) None (cast_vote bal val)

-- Phase1b, on a 1a at `ballot`: mbal is below it; mbal becomes it, and a 1b with the new mbal and the old vote is sent
unfoldable pub phase1b : Plan → List ℕ → View → ℕ → ℕ → ℕ → Outcome Change
phase1b p votes net acc ins ballot =
    let at : ℕ = vote_at p ins acc in
    let bal : ℕ = get_or votes (at + 1) 0 in
    let val : ℕ = get_or votes (at + 2) 0 in
    refuse_if (leb ballot (get_or votes at 0)) 12
    (sending 13 (net.send (Phase1b ins acc ballot (vote_of bal val)))
    (λ slot store. accepted (record { table = Vote at ballot bal val; network = store; sent = Slot slot })))

-- Phase2b, on a 2a at `ballot` with `val`: mbal is not above it; mbal, bal and val become the message's, and a 2b is sent
unfoldable pub phase2b : Plan → List ℕ → View → ℕ → ℕ → ℕ → ℕ → Outcome Change
phase2b p votes net acc ins ballot val =
    let at : ℕ = vote_at p ins acc in
    refuse_if (ltb ballot (get_or votes at 0)) 12
    (sending 13 (net.send (Phase2b ins acc ballot val))
    (λ slot store. accepted (record { table = Vote at ballot ballot val; network = store; sent = Slot slot })))

-- row 9
unfoldable pub acceptor_receive : Plan → List ℕ → View → ℕ → Message → Outcome Change
acceptor_receive p votes net who (Phase1a ins bal) = phase1b p votes net who ins bal
acceptor_receive p votes net who (Phase1b ins acc mbal vote) = refused 9
acceptor_receive p votes net who (Phase2a ins bal val) = phase2b p votes net who ins bal val
acceptor_receive p votes net who (Phase2b ins acc bal val) = refused 9
acceptor_receive p votes net who (Decision val) = refused 9

-- row 7, with another role's kind; row 8 is in the slot; the plan is judged here too, so that the part by itself needs no check before it
unfoldable pub acceptor_verdict : Plan → List ℕ → View → List ℕ → Outcome Change
acceptor_verdict p votes net e =
    refuse_if (not (is_plan p)) 1
    (refuse_if (not (is_event p e)) 7
    (refuse_if (not (eqb (kind_of e) 3)) 7
    (and_then (net.slot (slot_number e)) (acceptor_receive p votes net (who_of e)))))

-- the event is taken on the messages that N holds
unfoldable pub acceptor_step : Plan → List ℕ → List ℕ → List ℕ → Step
acceptor_step p votes network e =
    applied p votes network (and_then (acceptor_judged p votes network) (λ _. acceptor_verdict p votes (view_table p network) e))
