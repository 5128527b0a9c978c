-- What module PaxosCommit makes of one event call on the record.
--     Published   an accepted call is an action of PCNext, of kind 8 one of WidenedNext, a receipt apart; a receipt and a refused call leave W, Q
--                 and N
-- That it holds of every call is in proofs/Behaviour.antt. Assumes nothing.
use Rattle.std.specs.Prelude.{ℕ, List, ◌≡◌}
use Rattle.message.specs.declared.Plan.{Plan}
use Rattle.message.specs.Outcome.{accepted, refused}
use Rattle.change.specs.declared.Sent.{Sent}
use Rattle.event.specs.Event.{kind_of}
use Rattle.paxos_commit.specs.PaxosCommit.{PCNext}
use Rattle.paxos_commit.specs.Widened.{WidenedNext}
use Rattle.record.specs.Record.{Tables, record_step}
use Rattle.matching.specs.Reading.{is_rm, is_acceptor, is_majority_set}
use Rattle.conformance.specs.Record.{record_state}
use Rattle.safety.specs.Grounds.{Unchanged}

-- the event call e on the tables t, as module PaxosCommit sees it
pub record Published (p : Plan) (t : Tables) (e : List ℕ) : Type 0 where
  -- accepted and no receipt, it is an action of the widened module
  pub acts : (sent : Sent) → (record_step p t e).answer ≡ accepted sent → (kind_of e ≡ 4 → ⊥)
      → WidenedNext (is_rm p) (is_acceptor p) (is_majority_set p) (record_state p t) (record_state p (record_step p t e).tables)
  -- and of the module as printed, if its kind is not 8
  pub as_printed : (sent : Sent) → (record_step p t e).answer ≡ accepted sent → (kind_of e ≡ 4 → ⊥) → (kind_of e ≡ 8 → ⊥)
      → PCNext (is_rm p) (is_acceptor p) (is_majority_set p) (record_state p t) (record_state p (record_step p t e).tables)
  -- W, Q and N keep their bytes
  pub receipt : kind_of e ≡ 4 → Unchanged t (record_step p t e).tables
  pub refusal : (k : ℕ) → (record_step p t e).answer ≡ refused k → Unchanged t (record_step p t e).tables
