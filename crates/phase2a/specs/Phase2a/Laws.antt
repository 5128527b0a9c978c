-- Ownership of ballots: all that anything above may use of it.
--     owns_rule             the rule, in words
--     owns_owner            a ballot above 0 is owned by a leader of the plan
--     one_owner             and by no other
--     owns_above            ballot 0 is nobody's
--     owns_turns            a leader's ballots: its number plus one, and from there every L-th
-- Assumes nothing.
use Rattle.std.specs.Prelude.{ℕ, ◌+◌, ◌-◌, ◌*◌, ◌/◌, ◌%◌, ◌<◌, true, ◌↔◌, ◌≡◌, refl, leb, eqb}
use Rattle.std.proofs.Common.{sym, ap, ◌∙◌, mod-lt, mod-eq_of_lt, arith}
use Rattle.std.proofs.Math.Nat.{mod-add-div', add-mul-mod_self_right}
use borrow.Author.Tests.{le-leb, leb-true, eq-eqb, eqb-true}
use Rattle.message.specs.declared.Plan.{Plan}
use Rattle.message.proofs.Outcome.Laws.{both}
use Rattle.message.specs.Plan.{is_plan}
use Rattle.message.proofs.PlanLaws.{plan_bounds}
use Rattle.phase2a.specs.Phase2a.{owner, owns}

module _ (p : Plan) (b : ℕ) where
  pub owns_rule : (l : ℕ) → (owns p l b ≡ true) ↔ ((0 < b) × ((b - 1) % p.leaders ≡ l))
  unfolding owns
  owns_rule l = (
    λ h. let t = both (leb 1 b) (eqb (owner p b) l) h in (leb-true 1 b t.0, eqb-true _ _ t.1),
    λ (above, is). rw (le-leb 1 b above, eq-eqb (owner p b) l is),
  )

  pub owns_owner : is_plan p ≡ true → 0 < b → (owner p b < p.leaders) × (owns p (owner p b) b ≡ true)
  owns_owner plan above = (mod-lt (b - 1) (plan_bounds p plan).leaders_least, (owns_rule (owner p b)).1 (above, refl))

  pub one_owner : (l k : ℕ) → owns p l b ≡ true → owns p k b ≡ true → l ≡ k
  one_owner l k h j = sym ((owns_rule l).0 h).1 ∙ ((owns_rule k).0 j).1

  pub owns_above : (l : ℕ) → owns p l b ≡ true → 0 < b
  owns_above l h = ((owns_rule l).0 h).0

  pub owns_turns : (l : ℕ) → l < p.leaders → (owns p l b ≡ true) ↔ ((turn : ℕ) × (b ≡ l + 1 + turn * p.leaders))
  owns_turns l member = (there, back)
    where
      there : owns p l b ≡ true → (turn : ℕ) × (b ≡ l + 1 + turn * p.leaders)
      there h =
          let (above, is) = (owns_rule l).0 h in
          let parts : (b - 1) % p.leaders + (b - 1) / p.leaders * p.leaders ≡ b - 1 = mod-add-div' (b - 1) p.leaders in
          ((b - 1) / p.leaders, omega arith)

      back : (turn : ℕ) × (b ≡ l + 1 + turn * p.leaders) → owns p l b ≡ true
      back (turn, is) =
          let before : b - 1 ≡ l + turn * p.leaders = omega arith in
          (owns_rule l).1 (omega arith, ap (λ (x : ℕ). x % p.leaders) before ∙ add-mul-mod_self_right l turn p.leaders ∙ mod-eq_of_lt member)
