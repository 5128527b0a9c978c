-- From a read event's kind to the rows of `rm_verdict`.
--     prepares, chooses_to_abort   kinds 0 and 1: what is set and sent
--     takes_decision               kind 2: what the slot's message says
--     other_role                   another kind is refused
-- Assumes nothing.
use Prim.Native.Nat.{ℕ, ◌+◌, ◌*◌, ◌<◌, ◌≤◌}
use mathlib.Core.Bool.{true, not}
use mathlib.Core.List.{List}
use mathlib.Core.Path.{◌≡◌, refl, ap}
use native.Mathlib.Omega.{arith}
use lib.ListN.{get_or}
use borrow.Author.Tests.{lt-ltb, le-ltb}
use Rattle.message.specs.declared.Plan.{Plan}
use Rattle.message.specs.Outcome.{refused, and_then}
use Rattle.message.specs.Plan.{is_plan}
use Rattle.message.proofs.Guards.{halt, pass}
use Rattle.slots.specs.View.{View}
use Rattle.tcommit.specs.RmState.{prepared, aborted}
use Rattle.event.specs.declared.Kind.{Kind}
use Rattle.event.specs.declared.Kind.TheVariants.{Prepare, ChooseToAbort, TakeDecision, Vote, Receipt, Phase1a, Phase2a, Commit, Abort}
use Rattle.event.specs.declared.Event.{Event}
use Rattle.event.specs.Event.{kind_number}
use Rattle.event.proofs.Reading.{ReadBytes}
use Rattle.rm.specs.Rm.{rm_choose, rm_receive, rm_kind, rm_verdict}

other_number : (k : Kind) → (k ≡ Prepare → ⊥) → (k ≡ ChooseToAbort → ⊥) → (k ≡ TakeDecision → ⊥) → 2 < kind_number k
other_number Prepare a b c = absurd (a refl)
other_number ChooseToAbort a b c = absurd (b refl)
other_number TakeDecision a b c = absurd (c refl)
other_number Vote a b c = omega arith
other_number Receipt a b c = omega arith
other_number Phase1a a b c = omega arith
other_number Phase2a a b c = omega arith
other_number Commit a b c = omega arith
other_number Abort a b c = omega arith

module _ (p : Plan) (states : List ℕ) (net : View) (e : List ℕ) (r : Event) (plan : is_plan p ≡ true) (read : ReadBytes p e r) where
  by_kind : (k : Kind) → r.kind ≡ k → kind_number k ≤ 2
      → rm_kind net (kind_number k) r.who (get_or states r.who 0) (256 * r.high + r.low) ≡ rm_verdict p states net e
  unfolding rm_verdict
  by_kind k is h =
      pass _ _ _ (ap not plan)
      (pass _ _ _ (ap not read.form)
      (pass _ _ _ (le-ltb 2 _ (rw (read.kind, is) h))
      (rw (read.kind, is, read.who, read.slot))))

  pub prepares : r.kind ≡ Prepare → rm_choose net r.who (get_or states r.who 0) prepared 1 ≡ rm_verdict p states net e
  unfolding rm_kind
  prepares is = by_kind Prepare is (omega arith)

  pub chooses_to_abort : r.kind ≡ ChooseToAbort → rm_choose net r.who (get_or states r.who 0) aborted 2 ≡ rm_verdict p states net e
  unfolding rm_kind
  chooses_to_abort is = by_kind ChooseToAbort is (omega arith)

  pub takes_decision : r.kind ≡ TakeDecision
      → and_then (net.slot (256 * r.high + r.low)) (rm_receive r.who (get_or states r.who 0)) ≡ rm_verdict p states net e
  unfolding rm_kind
  takes_decision is = by_kind TakeDecision is (omega arith)

  pub other_role : (r.kind ≡ Prepare → ⊥) → (r.kind ≡ ChooseToAbort → ⊥) → (r.kind ≡ TakeDecision → ⊥) → refused 7 ≡ rm_verdict p states net e
  unfolding rm_verdict
  other_role a b c =
      pass _ _ _ (ap not plan)
      (pass _ _ _ (ap not read.form)
      (halt _ _ _ (lt-ltb 2 _ (rw read.kind (other_number r.kind a b c)))))
