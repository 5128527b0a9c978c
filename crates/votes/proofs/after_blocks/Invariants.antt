-- The loops of `votes::after_blocks`: block by block, and within one the three rows of lanes.
use Rattle.std.proofs.Common.{ℕ, ◌≡◌, ◌<◌, [], length, get_or}
use Rattle.votes.specs.Votes.Laws.Lanes.{Rows, Passed}
use Rattle.votes.proofs.after_blocks.Given as goal

abbrev pub invariant-loop-left : goal.invariant-loop-left
invariant-loop-left l =
    (length l.rows ≡ 3) × ((k : ℕ) → k < 3 → length (get_or l.rows k []) ≡ 16) × Passed l.fn.votes l.left l.rows

abbrev pub decreases-loop-left : goal.decreases-loop-left
decreases-loop-left l = length l.left

abbrev pub invariant-loop-k : goal.invariant-loop-k
invariant-loop-k l = Rows l.k l.left 1 l.initial.row-items l.row-items
