-- A plan by its three counts.
--     plan_rms, _acceptors, _leaders     a count out of range: so is the plan
--     plan_counts                        all three in range
-- Assumes nothing.
use mathlib.Core.Bool.{Bool, true, false, ◌&&◌}
use mathlib.Core.Path.{◌≡◌, refl}
use Rattle.message.specs.declared.Plan.{Plan}
use Rattle.message.specs.Plan.{is_count, is_plan}

first_false : (a b : Bool) → a ≡ false → (a && b) ≡ false
first_false a b e = rw e

second_false : (a b : Bool) → b ≡ false → (a && b) ≡ false
second_false true b e = e
second_false false b e = refl

both_true : (a b : Bool) → a ≡ true → b ≡ true → (a && b) ≡ true
both_true a b e f = rw (e, f)

module _ (p : Plan) where
  pub plan_rms : is_count 16 p.rms ≡ false → is_plan p ≡ false
  unfolding is_plan
  plan_rms h = first_false (is_count 16 p.rms && is_count 7 p.acceptors) (is_count 4 p.leaders) (first_false _ _ h)

  pub plan_acceptors : is_count 7 p.acceptors ≡ false → is_plan p ≡ false
  unfolding is_plan
  plan_acceptors h = first_false (is_count 16 p.rms && is_count 7 p.acceptors) (is_count 4 p.leaders) (second_false (is_count 16 p.rms) _ h)

  pub plan_leaders : is_count 4 p.leaders ≡ false → is_plan p ≡ false
  unfolding is_plan
  plan_leaders h = second_false (is_count 16 p.rms && is_count 7 p.acceptors) _ h

  pub plan_counts : is_count 16 p.rms ≡ true → is_count 7 p.acceptors ≡ true → is_count 4 p.leaders ≡ true → is_plan p ≡ true
  unfolding is_plan
  plan_counts n a l = both_true (is_count 16 p.rms && is_count 7 p.acceptors) _ (both_true _ _ n a) l
