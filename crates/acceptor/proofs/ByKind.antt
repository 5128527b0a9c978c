-- From a read event's kind to the rows of `acceptor_verdict`: kind 3 goes on to the slot, another is refused.
-- Assumes nothing.
use Prim.Native.Nat.{ℕ, ◌+◌, ◌*◌}
use mathlib.Core.Bool.{not, true}
use mathlib.Core.List.{List}
use mathlib.Core.Path.{◌≡◌, ◌∙◌, ap}
use borrow.Author.Tests.{eq-eqb, ne_eqb}
use Rattle.message.specs.declared.Plan.{Plan}
use Rattle.message.specs.Outcome.{refused, and_then}
use Rattle.message.specs.Plan.{is_plan}
use Rattle.message.proofs.Guards.{halt, pass}
use Rattle.slots.specs.View.{View}
use Rattle.event.specs.declared.Event.{Event}
use Rattle.event.specs.declared.Kind.TheVariants.{Vote}
use Rattle.event.specs.Event.{kind_number}
use Rattle.event.proofs.Reading.{ReadBytes, same_kind}
use Rattle.acceptor.specs.Acceptor.{acceptor_receive, acceptor_verdict}

module _ (p : Plan) (votes : List ℕ) (net : View) (e : List ℕ) (r : Event) (plan : is_plan p ≡ true) (read : ReadBytes p e r) where
  pub vote_kind : r.kind ≡ Vote → (slot : ℕ) → slot ≡ 256 * r.high + r.low → and_then (net.slot slot) (acceptor_receive p votes net r.who) ≡ acceptor_verdict p votes net e
  unfolding acceptor_verdict
  vote_kind is slot at =
      pass _ _ _ (ap not plan)
      (pass _ _ _ (ap not read.form)
      (pass _ _ _ (ap not (eq-eqb _ _ (read.kind ∙ ap kind_number is)))
      (rw (read.slot, read.who, at))))

  pub other_kind : (r.kind ≡ Vote → ⊥) → refused 7 ≡ acceptor_verdict p votes net e
  unfolding acceptor_verdict
  other_kind is =
      pass _ _ _ (ap not plan)
      (pass _ _ _ (ap not read.form)
      (halt _ _ _ (ap not (ne_eqb _ _ (λ three. is (same_kind _ _ (rw (← read.kind) three)))))))
