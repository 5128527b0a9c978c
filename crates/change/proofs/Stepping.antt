-- A role's own call: `o` is what the plan and the tables were judged, `v` what the event comes to.
--     step_refused      a judgement that refuses
--     step_performed    a sound one, and what was then performed
--     apply_verdict     what was applied is what was evaluated
-- Assumes nothing.
use Prim.Native.Nat.{ℕ}
use mathlib.Core.List.{List}
use mathlib.Core.Path.{◌≡◌, ◌∙◌, ap}
use Rattle.message.specs.declared.Plan.{Plan}
use Rattle.message.specs.Outcome.{Outcome, accepted, refused, and_then}
use Rattle.change.specs.declared.Change.{Change}
use Rattle.change.specs.Change.{Step, applied}
use Rattle.change.specs.Change.{refusal}

module _ (p : Plan) (table network : List ℕ) (o : Outcome (Unit {0})) (v : Outcome Change) where
  pub step_refused : (k : ℕ) → refused k ≡ o → refusal table network k ≡ applied p table network (and_then o (λ _. v))
  unfolding and_then
  step_refused k e = ap (λ (j : Outcome (Unit {0})). applied p table network (and_then j (λ _. v))) e

  pub step_performed : accepted tt ≡ o → (r : Step) → r ≡ applied p table network v → r ≡ applied p table network (and_then o (λ _. v))
  unfolding and_then
  step_performed e r h = h ∙ ap (λ (j : Outcome (Unit {0})). applied p table network (and_then j (λ _. v))) e

pub apply_verdict : (p : Plan) (table network : List ℕ) (o v : Outcome Change) → o ≡ v → (r : Step) → r ≡ applied p table network o → r ≡ applied p table network v
apply_verdict p table network o v e r h = h ∙ ap (applied p table network) e
