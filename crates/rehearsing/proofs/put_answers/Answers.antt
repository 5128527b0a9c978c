-- `rehearsing::put_answers` meets its contract: the lines of the numbers that are left, put where those so far end, give the whole. Assumes nothing.
use Rattle.rehearsing.proofs.Running.{lines_step, lines_end}
use Rattle.rehearsing.proofs.put_answers.Goals as goal

pub loop-number-preserved : goal.loop-number-preserved
loop-number-preserved c = lines_step _ _ _ _ _ c.loop-number.invariant c.loop-number-test.true _ c.put_line-at.ensures

pub returns : goal.returns
returns c = lines_end _ _ _ _ _ c.loop-number.invariant c.loop-number-test.false
