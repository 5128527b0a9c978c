-- The step of a resource manager (document 01: a weight), kinds 0, 1 and 2 (document 01, "The nine events" and "Refusals by place").
--     are_states            row 3: every byte of W is a state
--     rm_judged             rows 1, 2, 3 and 5: the plan and both tables
--     rm_choose             kinds 0 and 1: RMPrepare and RMChooseToAbort
--     rm_receive            kind 2: RMRcvCommitMsg and RMRcvAbortMsg
--     rm_kind, rm_verdict   rows 7 to 13: what an event changes, or its refusal
--     rm_step               the whole call
-- Its laws are in Rm/Laws.antt. Assumes nothing.
pub mod Laws
pub mod Updates
use Rattle.std.specs.Prelude.{ℕ, Bool, not, cond, List, ltb, leb, eqb, length, get_or, None}
use Rattle.message.specs.declared.Plan.{Plan}
use Rattle.message.specs.declared.Message.{Message}
use Rattle.message.specs.declared.Message.TheVariants.{Phase1a, Phase1b, Phase2a, Phase2b, Decision}
use Rattle.message.specs.Outcome.{Outcome, accepted, refused, and_then, refuse_if}
use Rattle.message.specs.Plan.{is_plan}
use Rattle.slots.specs.All.{all}
use Rattle.slots.specs.Table.{is_table_length, is_table}
use Rattle.slots.specs.View.{View, view_table, sending}
use Rattle.change.specs.declared.Change.{Change}
use Rattle.change.specs.declared.Sent.TheVariants.{Slot, Quiet}
use Rattle.change.specs.declared.Update.TheVariants.{State}
use Rattle.change.specs.Change.{Step, applied}
use Rattle.event.specs.Event.{kind_of, who_of, slot_number, is_event}
use Rattle.tcommit.specs.RmState.{working, prepared, committed, aborted}

unfoldable pub are_states : List ℕ → Bool
are_states = all (λ state. leb state aborted)

unfoldable pub rm_judged : Plan → List ℕ → List ℕ → Outcome (Unit {0})
rm_judged p states network =
    refuse_if (not (is_plan p)) 1
    (refuse_if (not (eqb (length states) p.rms)) 2
    (refuse_if (not (is_table_length (length network))) 2
    (refuse_if (not (are_states states)) 3
    (refuse_if (not (is_table p network)) 5
    (accepted tt)))))

-- enabled when working; the state becomes `next`, and 2a(who, 0, val) is sent
unfoldable pub rm_choose : View → ℕ → ℕ → ℕ → ℕ → Outcome Change
rm_choose net who state next val =
    refuse_if (not (eqb state working)) 12
    (sending 13 (net.send (Phase2a who 0 val))
    (λ slot store. accepted (record { table = State who next; network = store; sent = Slot slot })))

-- the state becomes the decision, and nothing is sent
abbrev pub rm_decided : ℕ → ℕ → Outcome Change
rm_decided who next = accepted (record { table = State who next; network = None; sent = Quiet })

-- row 11; 1 is Commit, 2 Abort
unfoldable pub rm_receive_decision : ℕ → ℕ → ℕ → Outcome Change
rm_receive_decision who state val =
    cond (eqb val 1)
    (refuse_if (eqb state working) 11
    (refuse_if (eqb state aborted) 11
    (rm_decided who committed)))
    (refuse_if (eqb state committed) 11
    (rm_decided who aborted))

-- row 9
unfoldable pub rm_receive : ℕ → ℕ → Message → Outcome Change
rm_receive who state (Phase1a ins bal) = refused 9
rm_receive who state (Phase1b ins acc mbal vote) = refused 9
rm_receive who state (Phase2a ins bal val) = refused 9
rm_receive who state (Phase2b ins acc bal val) = refused 9
rm_receive who state (Decision val) = rm_receive_decision who state val

-- the kinds' own rows; for kind 2 row 8 is in the slot
unfoldable pub rm_kind : View → ℕ → ℕ → ℕ → ℕ → Outcome Change
rm_kind net kind who state slot =
    cond (eqb kind 0) (rm_choose net who state prepared 1)
    (cond (eqb kind 1) (rm_choose net who state aborted 2)
    (and_then (net.slot slot) (rm_receive who state)))

-- row 7, with another role's kind; the plan is judged here too, so that the part by itself needs no check before it
unfoldable pub rm_verdict : Plan → List ℕ → View → List ℕ → Outcome Change
rm_verdict p states net e =
    refuse_if (not (is_plan p)) 1
    (refuse_if (not (is_event p e)) 7
    (refuse_if (ltb 2 (kind_of e)) 7
    (rm_kind net (kind_of e) (who_of e) (get_or states (who_of e) 0) (slot_number e))))

-- the event is taken on the messages that N holds
unfoldable pub rm_step : Plan → List ℕ → List ℕ → List ℕ → Step
rm_step p states network e =
    applied p states network (and_then (rm_judged p states network) (λ _. rm_verdict p states (view_table p network) e))
