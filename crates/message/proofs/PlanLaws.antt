-- The bounds of a plan in range, and of what its counts make.
--     PlanBounds, plan_bounds
--     bytes_bound                 a product of two bytes is small, so the code's numbers fit
-- Assumes nothing.
use Rattle.std.specs.Prelude.{ℕ, ◌*◌, ◌≤◌, ◌<◌, true, ◌&&◌, ◌≡◌}
use Rattle.std.proofs.Common.{mul-le-mul, arith, leb-true}
use Rattle.message.specs.declared.Plan.{Plan}
use Rattle.message.proofs.Outcome.Laws.{both}
use Rattle.message.specs.Plan.{is_count, is_plan}

pub record PlanBounds (p : Plan) : Type 0 where
  pub rms_least : 1 ≤ p.rms
  pub rms_most : p.rms ≤ 16
  pub acceptors_least : 1 ≤ p.acceptors
  pub acceptors_most : p.acceptors ≤ 7
  pub leaders_least : 1 ≤ p.leaders
  pub leaders_most : p.leaders ≤ 4

count_bounds : (most count : ℕ) → is_count most count ≡ true → (1 ≤ count) × (count ≤ most)
unfolding is_count
count_bounds most count e = let b = both _ _ e in (leb-true _ _ b.0, leb-true _ _ b.1)

pub plan_bounds : (p : Plan) → is_plan p ≡ true → PlanBounds p
unfolding is_plan
plan_bounds p e =
    let rest = both (is_count 16 p.rms && is_count 7 p.acceptors) (is_count 4 p.leaders) e in
    let first = both (is_count 16 p.rms) (is_count 7 p.acceptors) rest.0 in
    let n = count_bounds 16 p.rms first.0 in
    let a = count_bounds 7 p.acceptors first.1 in
    let l = count_bounds 4 p.leaders rest.1 in
    record { rms_least = n.0; rms_most = n.1; acceptors_least = a.0; acceptors_most = a.1; leaders_least = l.0; leaders_most = l.1 }

pub bytes_bound : (a b : ℕ) → a < 256 → b < 256 → a * b ≤ 65025
bytes_bound a b p q = mul-le-mul {n₁ = a} {m₁ = b} {n₂ = 255} {m₂ = 255} (omega arith) (omega arith)
