-- `summary::part_size` meets its contract: without a division it answers what one would. Assumes nothing.
use native.Mathlib.Omega.{arith}
use Rattle.message.proofs.PlanLaws.{bytes_bound}
use Rattle.summary.proofs.Parts.{no_leaders, whole_size}
use Rattle.summary.proofs.part_size.Goals as goal

pub returns-then-leaders-eq0 : goal.returns-then-leaders-eq0
returns-then-leaders-eq0 c = no_leaders _ _ c.if-leaders-eq0.true

pub overflow_mul-n : goal.overflow_mul-n
overflow_mul-n c = omega (arith, bytes_bound c.args.plan.rms c.args.plan.leaders (omega arith) (omega arith))

pub returns-then-size-n : goal.returns-then-size-n
returns-then-size-n c = whole_size _ _ _ c.if-leaders-eq0.false c.if-size-n.true
