-- The step of a leader, kinds 4 to 8 (document 01, "The nine events" and "Refusals by place"; document 02, Papers 5 and 6). Kind 6 reads
-- its conditions from the messages in the leader's own inbox (the crate inbox), kinds 7 and 8 from its bytes of the summary (the crate summary, whose is_summary and
-- stands have their names here too). Ownership of ballots and kind 6 are the crate `phase2a`, whose definitions (owns, phase2a_message, keep_own,
-- send_both, phase2a) have their names here too.
--     leader_judged                 rows 1, 2, 5 and 6: the plan and both tables
--     receipt                       kind 4
--     phase1a                       kind 5
--     decide_send                   kinds 7 and 8
--     leader_kind, leader_verdict_by  rows 7 to 14, by what counts as decided: what an event changes, or its refusal
--     leader_step_by                the call without a summary, by what counts as decided
--     summary_after                 the leader's bytes of the summary after an event: an accepted receipt marks
--     LeaderStep, leader_step_of, leader_marked  what a leader's own call answers and leaves in the inbox, N and those bytes
--     leader_step                   the whole call: rows 1, 2, 5, 6, then 20, then 7 on, Decided read from the summary
-- What is judged is in Leader/Sound.antt. Assumes nothing.
pub mod Sound
pub mod Updates
pub mod Received
use Rattle.std.specs.Prelude.{ℕ, Bool, not, cond, List, ltb, eqb, length, None, Result}
use Rattle.message.specs.declared.Plan.{Plan}
use Rattle.message.specs.declared.Message.{Message}
use Rattle.message.specs.declared.Message.TheVariants.{Phase1a, Phase1b, Phase2a, Phase2b, Decision}
use Rattle.message.specs.Outcome.{Outcome, accepted, refused, and_then, refuse_if}
use Rattle.message.specs.Plan.{is_plan}
use Rattle.slots.specs.Table.{is_table_length, is_table, messages}
use Rattle.slots.specs.View.{View, view_table, sending}
use Rattle.change.specs.declared.Change.{Change}
use Rattle.change.specs.declared.Sent.{Sent}
use Rattle.change.specs.declared.Sent.TheVariants.{Slot, Quiet}
use Rattle.change.specs.declared.Update.TheVariants.{Inbox}
use Rattle.change.specs.Change.{Step, step_of, applied}
use Rattle.event.specs.Event.{kind_of, who_of, high_of, low_of, slot_number, is_event}
use Rattle.inbox.specs.Inbox.{decided, for_all, for_some}
use Rattle.summary.specs.Summary.{marked_at}
use Rattle.message.specs.declared.Refusal.{Refusal}
unfoldable pub use Rattle.summary.specs.Summary.{is_summary, stands}
unfoldable pub use Rattle.phase2a.specs.Phase2a.{owns, phase2a_message, keep_own, send_both, phase2a}

unfoldable pub leader_judged : Plan → List ℕ → List ℕ → Outcome (Unit {0})
leader_judged p inbox network =
    refuse_if (not (is_plan p)) 1
    (refuse_if (not (is_table_length (length inbox))) 2
    (refuse_if (not (is_table_length (length network))) 2
    (refuse_if (not (is_table p network)) 5
    (refuse_if (not (is_table p inbox)) 6
    (accepted tt)))))

-- kind 4: the message is appended to the inbox unless there
unfoldable pub receipt_store : View → Message → Outcome Change
receipt_store box m =
    sending 14 (box.send m) (λ slot store. accepted (record { table = Inbox store; network = None; sent = Quiet }))

-- row 9: a 1b and a 2b are taken, and of the 2a messages those at ballot 0, which weights send (document 02, Paper 6)
unfoldable pub receipt : View → Message → Outcome Change
receipt box (Phase1a ins bal) = refused 9
receipt box (Phase1b ins acc mbal vote) = receipt_store box (Phase1b ins acc mbal vote)
receipt box (Phase2a ins bal val) = refuse_if (not (eqb bal 0)) 9 (receipt_store box (Phase2a ins bal val))
receipt box (Phase2b ins acc bal val) = receipt_store box (Phase2b ins acc bal val)
receipt box (Decision val) = refused 9

-- a message sent, with nothing for the inbox
unfoldable pub send_only : View → Message → Outcome Change
send_only net m = sending 13 (net.send m) (λ slot store. accepted (record { table = Inbox None; network = store; sent = Slot slot }))

-- kind 5
unfoldable pub phase1a : Plan → View → ℕ → ℕ → ℕ → Outcome Change
phase1a p net who i b =
    refuse_if (not (owns p who b)) 10
    (send_only net (Phase1a i b))

-- kinds 7 and 8, by whether they are enabled
unfoldable pub decide_send : View → Bool → ℕ → Outcome Change
decide_send net enabled val =
    refuse_if (not enabled) 12
    (send_only net (Decision val))

-- the kinds' own rows; for kind 4 row 8 is in the slot. Commit where `isDecided i 1` for all i, Abort where `isDecided i 2` for some i
unfoldable pub leader_kind : Plan → (ℕ → ℕ → Bool) → View → View → List ℕ → ℕ → Outcome Change
leader_kind p isDecided box net e kind =
    cond (eqb kind 4) (and_then (net.slot (slot_number e)) (receipt box))
    (cond (eqb kind 5) (phase1a p net (who_of e) (high_of e) (low_of e))
    (cond (eqb kind 6) (phase2a p box net (who_of e) (high_of e) (low_of e))
    (cond (eqb kind 7) (decide_send net (for_all p.rms (λ i. isDecided i 1)) 1)
    (decide_send net (for_some p.rms (λ i. isDecided i 2)) 2))))

-- row 7, with another role's kind. The plan is judged here too, so that the part by itself needs no check before it
unfoldable pub leader_verdict_by : Plan → (ℕ → ℕ → Bool) → View → View → List ℕ → Outcome Change
leader_verdict_by p isDecided box net e =
    refuse_if (not (is_plan p)) 1
    (refuse_if (not (is_event p e)) 7
    (refuse_if (ltb (kind_of e) 4) 7
    (leader_kind p isDecided box net e (kind_of e))))

-- the call without a summary: the event is taken on the messages that the inbox and N hold
unfoldable pub leader_step_by : Plan → (ℕ → ℕ → Bool) → List ℕ → List ℕ → List ℕ → Step
leader_step_by p isDecided inbox network e =
    applied p inbox network (and_then (leader_judged p inbox network) (λ _. leader_verdict_by p isDecided (view_table p inbox) (view_table p network) e))

-- of kind 4 that was accepted, by what the inbox then says is Decided; `net` is N, which a receipt leaves as it was
abbrev pub summary_after : (ℕ → ℕ → Bool) → View → List ℕ → Outcome Sent → List ℕ → List ℕ
summary_after isDecided net e (accepted sent) summary = cond (eqb (kind_of e) 4) (marked_at isDecided summary (net.slot (slot_number e))) summary
summary_after isDecided net e (refused number) summary = summary

-- `step` has the answer, the inbox and N
pub record LeaderStep : Type 0 where
  pub step : Step
  pub summary : List ℕ

-- the answer's enum and the tables at exit
abbrev pub leader_step_of : Result Sent Refusal → List ℕ → List ℕ → List ℕ → LeaderStep
leader_step_of answer inbox summary network = record { step = step_of answer inbox network; summary = summary }

-- a step on the inbox and N, and the summary after it
abbrev pub leader_marked : (List ℕ → ℕ → ℕ → Bool) → (List ℕ → View) → List ℕ → List ℕ → Step → LeaderStep
leader_marked isDecided view summary e s =
    record { step = s; summary = summary_after (isDecided s.table) (view s.network) e s.answer summary }

unfoldable pub leader_step : Plan → List ℕ → List ℕ → List ℕ → List ℕ → LeaderStep
leader_step p inbox summary network e =
    leader_marked (λ box. decided p (messages p box)) (view_table p) summary e
    (applied p inbox network
    (and_then (leader_judged p inbox network) (λ _.
    refuse_if (not (is_summary p.rms summary)) 20
    (leader_verdict_by p (stands summary) (view_table p inbox) (view_table p network) e))))
