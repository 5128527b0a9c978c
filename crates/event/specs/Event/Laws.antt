-- What an event of the plan says of its bytes.
--     EventParts, event_parts     row 7 taken apart: a kind, a process of its role, and arguments in range
--     rm_who, acceptor_who, leader_who     the process by its role
--     event_instance              the instance of kinds 5 and 6
-- Assumes nothing.
use Rattle.std.specs.Prelude.{ℕ, ◌≤◌, ◌<◌, true, ◌&&◌, List, ◌≡◌, length}
use Rattle.std.proofs.Math.Bool.{Bool}
use Rattle.std.proofs.Common.{arith}
use Rattle.std.proofs.Math.Dec.{ltb, leb, eqb}
use borrow.Author.Tests.{ltb-true, leb-true, le-leb, lt-leb, eq-eqb, ne_eqb}
use Rattle.message.specs.declared.Plan.{Plan}
use Rattle.message.proofs.Outcome.Laws.{both}
use Rattle.event.specs.Event.{kind_of, who_of, high_of, low_of, who_limit, are_arguments, is_event}

pub record EventParts (p : Plan) (e : List ℕ) : Type 0 where
  pub kind : kind_of e ≤ 8
  pub who : who_of e < who_limit p (kind_of e)
  pub arguments : are_arguments p (kind_of e) (high_of e) (low_of e) ≡ true

module _ (p : Plan) (e : List ℕ) (event : is_event p e ≡ true) where
  pub event_parts : EventParts p e
  unfolding is_event
  event_parts =
      let form : Bool = eqb (length e) 4 && leb (kind_of e) 8 in
      let named : Bool = ltb (who_of e) (who_limit p (kind_of e)) in
      let last = both (form && named) (are_arguments p (kind_of e) (high_of e) (low_of e)) event in
      let first = both form named last.0 in
      record {
        kind = leb-true _ _ (both (eqb (length e) 4) (leb (kind_of e) 8) first.0).1;
        who = ltb-true _ _ first.1;
        arguments = last.1;
      }

  pub rm_who : kind_of e ≤ 2 → who_of e < p.rms
  unfolding who_limit
  rm_who h = rw (le-leb (kind_of e) 2 h) at event_parts.who

  pub acceptor_who : kind_of e ≡ 3 → who_of e < p.acceptors
  unfolding who_limit
  acceptor_who h = rw (lt-leb (kind_of e) 2 (omega arith), eq-eqb (kind_of e) 3 h) at event_parts.who

  pub leader_who : 3 < kind_of e → who_of e < p.leaders
  unfolding who_limit
  leader_who h = rw (lt-leb (kind_of e) 2 (omega arith), ne_eqb (kind_of e) 3 (λ k. omega arith)) at event_parts.who

  pub event_instance : 4 < kind_of e → kind_of e ≤ 6 → high_of e < p.rms
  unfolding are_arguments
  event_instance h k =
      ltb-true _ _
      (rw (lt-leb (kind_of e) 1 (omega arith), lt-leb (kind_of e) 4 h, le-leb (kind_of e) 6 k) at event_parts.arguments)
