-- What a resource manager's step changes beside N is W alone.
--     rm_changes     what an event comes to changes a state
-- Assumes nothing.
use Rattle.std.specs.Prelude.{ℕ, not, List, ltb, eqb, get_or}
use Rattle.message.specs.declared.Plan.{Plan}
use Rattle.message.specs.declared.Message.{Message}
use Rattle.message.specs.declared.Message.TheVariants.{Phase1a, Phase1b, Phase2a, Phase2b, Decision}
use Rattle.message.specs.Plan.{is_plan}
use Rattle.slots.specs.View.{View}
use Rattle.change.specs.Change.Updates.{IsState, Changes, changes_refuse_if, changes_cond, changes_and_then, changes_sending}
use Rattle.event.specs.Event.{kind_of, who_of, slot_number, is_event}
use Rattle.tcommit.specs.RmState.{working, prepared, committed, aborted}
use Rattle.rm.specs.Rm.{rm_choose, rm_decided, rm_receive_decision, rm_receive, rm_kind, rm_verdict}

module _ (net : View) (who state : ℕ) where
  choose_changes : (next val : ℕ) → Changes IsState (rm_choose net who state next val)
  unfolding rm_choose
  choose_changes next val = changes_refuse_if IsState (not (eqb state working)) 12 _ (changes_sending IsState 13 (net.send (Phase2a who 0 val)) _ (λ slot store. tt))

  receive_changes : (m : Message) → Changes IsState (rm_receive who state m)
  unfolding rm_receive rm_receive_decision
  receive_changes (Phase1a ins bal) = tt
  receive_changes (Phase1b ins acc mbal vote) = tt
  receive_changes (Phase2a ins bal val) = tt
  receive_changes (Phase2b ins acc bal val) = tt
  receive_changes (Decision val) =
      changes_cond IsState (eqb val 1) _ _
      (changes_refuse_if IsState (eqb state working) 11 _ (changes_refuse_if IsState (eqb state aborted) 11 (rm_decided who committed) tt))
      (changes_refuse_if IsState (eqb state committed) 11 (rm_decided who aborted) tt)

pub rm_changes : (p : Plan) (states : List ℕ) (net : View) (e : List ℕ) → Changes IsState (rm_verdict p states net e)
unfolding rm_verdict rm_kind
rm_changes p states net e =
    let state : ℕ = get_or states (who_of e) 0 in
    changes_refuse_if IsState (not (is_plan p)) 1 _
    (changes_refuse_if IsState (not (is_event p e)) 7 _
    (changes_refuse_if IsState (ltb 2 (kind_of e)) 7 _
    (changes_cond IsState (eqb (kind_of e) 0) _ _ (choose_changes net (who_of e) state prepared 1)
    (changes_cond IsState (eqb (kind_of e) 1) _ _ (choose_changes net (who_of e) state aborted 2)
    (changes_and_then IsState (net.slot (slot_number e)) _ (receive_changes net (who_of e) state))))))
