-- `votes::after_blocks` meets its contract: where the lanes are clear, the bytes after the blocks are votes exactly when all are. Assumes nothing.
use Rattle.std.proofs.Common.{ℕ, List, ◌≡◌, refl, length, arith, length-drop, take_all}
use Rattle.votes.specs.Votes.Laws.Lanes.{three, rows_none, rows_step, passed_none, passed_step}
use Rattle.votes.proofs.after_blocks.Goals as goal

pub loop-left-init : goal.loop-left-init
loop-left-init c = (refl, three (λ (x : List ℕ). length x ≡ 16) _ refl refl refl, passed_none _ _)

pub loop-k-init : goal.loop-k-init
loop-k-init c = rows_none _ _ _ c.loop-left.invariant.0 c.loop-left.invariant.1

pub gather_lanes-requires : goal.gather_lanes-requires
gather_lanes-requires c = (c.loop-k.invariant.sizes _ c.loop-k-test.true, omega arith)

pub loop-k-preserved : goal.loop-k-preserved
loop-k-preserved c = rows_step _ _ _ _ _ c.loop-k.invariant c.loop-k-test.true _ c.gather_lanes.ensures

pub loop-left-preserved : goal.loop-left-preserved
loop-left-preserved c = (
  c.loop-k.invariant.size,
  c.loop-k.invariant.sizes,
  passed_step _ c.loop-left-test.true _ c.loop-k-test.false _ _ c.loop-k.invariant _ _
      (take_all _ _ (omega (arith, length-drop 48 c.loop-left.left.now))) c.loop-left.invariant.2,
)
