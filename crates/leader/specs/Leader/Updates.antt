-- What an event of a leader comes to changes, beside N, its inbox alone; the summary is marked after it.
--     leader_changes     what an event comes to changes the inbox
-- Assumes nothing.
use Rattle.std.specs.Prelude.{ℕ, Bool, not, List, ltb, eqb}
use Rattle.message.specs.declared.Plan.{Plan}
use Rattle.message.specs.declared.Message.{Message}
use Rattle.message.specs.declared.Message.TheVariants.{Phase1a, Phase1b, Phase2a, Phase2b, Decision}
use Rattle.message.specs.Plan.{is_plan}
use Rattle.slots.specs.View.{View}
use Rattle.change.specs.Change.Updates.{IsInbox, Changes, changes_refuse_if, changes_cond, changes_and_then, changes_sending}
use Rattle.event.specs.Event.{kind_of, who_of, high_of, low_of, slot_number, is_event}
use Rattle.leader.specs.Leader.{owns, phase2a_message, keep_own, send_both, phase2a, receipt_store, receipt, send_only, phase1a, decide_send, leader_kind, leader_verdict_by}

receipt_changes : (box : View) (m : Message) → Changes IsInbox (receipt box m)
unfolding receipt receipt_store
receipt_changes box (Phase1a ins bal) = tt
receipt_changes box (Phase1b ins acc mbal vote) = changes_sending IsInbox 14 _ _ (λ slot store. tt)
receipt_changes box (Phase2a ins bal val) = changes_refuse_if IsInbox (not (eqb bal 0)) 9 _ (changes_sending IsInbox 14 _ _ (λ slot store. tt))
receipt_changes box (Phase2b ins acc bal val) = changes_sending IsInbox 14 _ _ (λ slot store. tt)
receipt_changes box (Decision val) = tt

send_changes : (net : View) (m : Message) → Changes IsInbox (send_only net m)
unfolding send_only
send_changes net m = changes_sending IsInbox 13 (net.send m) _ (λ slot store. tt)

decide_changes : (net : View) (enabled : Bool) (val : ℕ) → Changes IsInbox (decide_send net enabled val)
unfolding decide_send
decide_changes net enabled val = changes_refuse_if IsInbox (not enabled) 12 _ (send_changes net (Decision val))

propose_changes : (p : Plan) (box net : View) (who i b : ℕ) → Changes IsInbox (phase2a p box net who i b)
unfolding phase2a send_both keep_own
propose_changes p box net who i b =
    changes_and_then IsInbox (phase2a_message p box.messages who i b) _ (λ m.
    changes_sending IsInbox 13 (net.send m) _ (λ slot store. changes_sending IsInbox 14 (box.send m) _ (λ place kept. tt)))

pub leader_changes : (p : Plan) (isDecided : ℕ → ℕ → Bool) (box net : View) (e : List ℕ) → Changes IsInbox (leader_verdict_by p isDecided box net e)
unfolding leader_verdict_by leader_kind phase1a
leader_changes p isDecided box net e =
    changes_refuse_if IsInbox (not (is_plan p)) 1 _
    (changes_refuse_if IsInbox (not (is_event p e)) 7 _
    (changes_refuse_if IsInbox (ltb (kind_of e) 4) 7 _
    (changes_cond IsInbox (eqb (kind_of e) 4) _ _ (changes_and_then IsInbox (net.slot (slot_number e)) _ (receipt_changes box))
    (changes_cond IsInbox (eqb (kind_of e) 5) _ _ (changes_refuse_if IsInbox (not (owns p (who_of e) (low_of e))) 10 _ (send_changes net (Phase1a (high_of e) (low_of e))))
    (changes_cond IsInbox (eqb (kind_of e) 6) _ _ (propose_changes p box net (who_of e) (high_of e) (low_of e))
    (changes_cond IsInbox (eqb (kind_of e) 7) _ _ (decide_changes net _ 1)
    (decide_changes net _ 2)))))))
