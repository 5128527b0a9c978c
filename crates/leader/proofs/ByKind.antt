-- From a read event's kind to the rows of `leader_verdict_by`.
--     receives                     kind 4: what the slot's message says
--     starts, proposes             kinds 5 and 6: the 1a or the 2a that is sent
--     commits, aborts              kinds 7 and 8: the decision
--     other_role                   another kind is refused
-- Assumes nothing.
use Prim.Native.Nat.{ℕ, ◌+◌, ◌*◌, ◌<◌, ◌≤◌}
use mathlib.Core.Bool.{Bool, true, not}
use mathlib.Core.List.{List}
use mathlib.Core.Path.{◌≡◌, refl, ap}
use native.Mathlib.Omega.{arith}
use borrow.Author.Tests.{lt-ltb, le-ltb}
use Rattle.message.specs.declared.Plan.{Plan}
use Rattle.message.specs.Outcome.{refused, and_then, refuse_if}
use Rattle.message.specs.Plan.{is_plan}
use Rattle.message.proofs.Guards.{halt, pass}
use Rattle.slots.specs.View.{View}
use Rattle.event.specs.declared.Kind.{Kind}
use Rattle.event.specs.declared.Kind.TheVariants.{Prepare, ChooseToAbort, TakeDecision, Vote, Receipt, Commit, Abort}
use Rattle.event.specs.declared.Kind.TheVariants as Kinds
use Rattle.event.specs.declared.Event.{Event}
use Rattle.event.specs.Event.{kind_number}
use Rattle.event.proofs.Reading.{ReadBytes}
use Rattle.inbox.specs.Inbox.{for_all, for_some}
use Rattle.leader.specs.Leader.{receipt, phase1a, phase2a, decide_send, leader_kind, leader_verdict_by}

other_number : (k : Kind) → (k ≡ Receipt → ⊥) → (k ≡ Kinds.Phase1a → ⊥) → (k ≡ Kinds.Phase2a → ⊥) → (k ≡ Commit → ⊥) → (k ≡ Abort → ⊥) → kind_number k < 4
other_number Prepare a b c d e = omega arith
other_number ChooseToAbort a b c d e = omega arith
other_number TakeDecision a b c d e = omega arith
other_number Vote a b c d e = omega arith
other_number Receipt a b c d e = absurd (a refl)
other_number Kinds.Phase1a a b c d e = absurd (b refl)
other_number Kinds.Phase2a a b c d e = absurd (c refl)
other_number Commit a b c d e = absurd (d refl)
other_number Abort a b c d e = absurd (e refl)

module _ (p : Plan) (isDecided : ℕ → ℕ → Bool) (box net : View) (e : List ℕ) (r : Event) (plan : is_plan p ≡ true) (read : ReadBytes p e r) where
  by_kind : (k : Kind) → r.kind ≡ k → 4 ≤ kind_number k
      → leader_kind p isDecided box net e (kind_number k) ≡ leader_verdict_by p isDecided box net e
  unfolding leader_verdict_by
  by_kind k is h =
      pass _ _ _ (ap not plan)
      (pass _ _ _ (ap not read.form)
      (pass _ _ _ (le-ltb _ 4 (rw (read.kind, is) h))
      (rw (read.kind, is))))

  pub receives : r.kind ≡ Receipt → and_then (net.slot (256 * r.high + r.low)) (receipt box) ≡ leader_verdict_by p isDecided box net e
  unfolding leader_kind
  receives is = rw (← read.slot) (by_kind Receipt is (omega arith))

  pub starts : r.kind ≡ Kinds.Phase1a → phase1a p net r.who r.high r.low ≡ leader_verdict_by p isDecided box net e
  unfolding leader_kind
  starts is = rw (← read.who, ← read.high, ← read.low) (by_kind Kinds.Phase1a is (omega arith))

  pub proposes : r.kind ≡ Kinds.Phase2a
      → refuse_if (not (is_plan p)) 1 (phase2a p box net r.who r.high r.low) ≡ leader_verdict_by p isDecided box net e
  unfolding leader_kind refuse_if
  proposes is = rw (plan, ← read.who, ← read.high, ← read.low) (by_kind Kinds.Phase2a is (omega arith))

  pub commits : r.kind ≡ Commit → decide_send net (for_all p.rms (λ i. isDecided i 1)) 1 ≡ leader_verdict_by p isDecided box net e
  unfolding leader_kind
  commits is = by_kind Commit is (omega arith)

  pub aborts : r.kind ≡ Abort → decide_send net (for_some p.rms (λ i. isDecided i 2)) 2 ≡ leader_verdict_by p isDecided box net e
  unfolding leader_kind
  aborts is = by_kind Abort is (omega arith)

  pub other_role : (r.kind ≡ Receipt → ⊥) → (r.kind ≡ Kinds.Phase1a → ⊥) → (r.kind ≡ Kinds.Phase2a → ⊥) → (r.kind ≡ Commit → ⊥) → (r.kind ≡ Abort → ⊥)
      → refused 7 ≡ leader_verdict_by p isDecided box net e
  unfolding leader_verdict_by
  other_role a b c d f =
      pass _ _ _ (ap not plan)
      (pass _ _ _ (ap not read.form)
      (halt _ _ _ (lt-ltb _ 4 (rw read.kind (other_number r.kind a b c d f)))))
