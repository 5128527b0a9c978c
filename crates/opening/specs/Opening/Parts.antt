-- The places of the equal parts of I.
--     parts_apart      a part ends where a later one starts, or before
--     inbox_within     leader l's inbox lies within I
-- Assumes nothing.
use Rattle.std.specs.Prelude.{ℕ, suc, ◌+◌, ◌*◌, ◌/◌, ◌<◌, ◌≤◌, List, length}
use Rattle.std.proofs.Common.{le_trans, suc-mul, mul-le-mul_right}
use Rattle.std.proofs.Math.Nat.{mul-div-le}
use Rattle.message.specs.declared.Plan.{Plan}
use Rattle.opening.specs.Opening.{inbox_size}

pub parts_apart : (s k l : ℕ) → k < l → k * s + s ≤ l * s
parts_apart s k l h = rw suc-mul at (mul-le-mul_right {m = suc k} {n = l} s h)

pub inbox_within : (p : Plan) (inboxes : List ℕ) (l : ℕ) → 0 < p.leaders → l < p.leaders → l * inbox_size p inboxes + inbox_size p inboxes ≤ length inboxes
unfolding inbox_size
inbox_within p inboxes l some h = le_trans (parts_apart (length inboxes / p.leaders) l p.leaders h) (mul-div-le (length inboxes) p.leaders)
