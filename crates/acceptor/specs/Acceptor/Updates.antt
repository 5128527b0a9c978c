-- What an acceptor's step changes beside N is Q alone.
--     acceptor_changes     what an event comes to changes a vote
-- Assumes nothing.
use Rattle.std.specs.Prelude.{ℕ, not, List, eqb}
use Rattle.message.specs.declared.Plan.{Plan}
use Rattle.message.specs.declared.Message.{Message}
use Rattle.message.specs.declared.Message.TheVariants.{Phase1a, Phase1b, Phase2a, Phase2b, Decision}
use Rattle.message.specs.Plan.{is_plan}
use Rattle.slots.specs.View.{View}
use Rattle.change.specs.Change.Updates.{IsVote, Changes, changes_refuse_if, changes_and_then, changes_sending}
use Rattle.event.specs.Event.{kind_of, who_of, slot_number, is_event}
use Rattle.acceptor.specs.Acceptor.{phase1b, phase2b, acceptor_receive, acceptor_verdict}

module _ (p : Plan) (votes : List ℕ) (net : View) (who : ℕ) where
  receive_changes : (m : Message) → Changes IsVote (acceptor_receive p votes net who m)
  unfolding acceptor_receive phase1b phase2b
  receive_changes (Phase1a ins bal) = changes_refuse_if IsVote _ 12 _ (changes_sending IsVote 13 _ _ (λ slot store. tt))
  receive_changes (Phase1b ins acc mbal vote) = tt
  receive_changes (Phase2a ins bal val) = changes_refuse_if IsVote _ 12 _ (changes_sending IsVote 13 _ _ (λ slot store. tt))
  receive_changes (Phase2b ins acc bal val) = tt
  receive_changes (Decision val) = tt

pub acceptor_changes : (p : Plan) (votes : List ℕ) (net : View) (e : List ℕ) → Changes IsVote (acceptor_verdict p votes net e)
unfolding acceptor_verdict
acceptor_changes p votes net e =
    changes_refuse_if IsVote (not (is_plan p)) 1 _
    (changes_refuse_if IsVote (not (is_event p e)) 7 _
    (changes_refuse_if IsVote (not (eqb (kind_of e) 3)) 7 _
    (changes_and_then IsVote (net.slot (slot_number e)) _ (receive_changes p votes net (who_of e)))))
