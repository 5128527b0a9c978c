-- The plan of an order and its range (document 01, "The plan and four tables").
--     is_count                           a count from 1 to a limit
--     is_plan                            whether a plan is in range; where it is not, every call refuses 1
-- Its laws are in proofs/PlanLaws.antt. Assumes nothing.
use Rattle.std.specs.Prelude.{ℕ, Bool, ◌&&◌, leb}
use Rattle.message.specs.declared.Plan.{Plan}

-- from 1 to `most`
unfoldable pub is_count : ℕ → ℕ → Bool
is_count most count = leb 1 count && leb count most

-- 1 to 16 resource managers (document 01: weights, n), 1 to 7 acceptors (A), 1 to 4 leaders (L)
unfoldable pub is_plan : Plan → Bool
unfolding is_count
is_plan p = is_count 16 p.rms && is_count 7 p.acceptors && is_count 4 p.leaders
