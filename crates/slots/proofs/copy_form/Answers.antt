-- `slots::copy_form` meets its contract: the first `i` bytes are the form's. Assumes nothing.
use Rattle.std.proofs.Common.{arith, length-set}
use Rattle.slots.proofs.Copy.{copy_step, copy_end}
use Rattle.slots.proofs.copy_form.Goals as goal

pub loop-i-preserved : goal.loop-i-preserved
loop-i-preserved c = (
  simp length-set c.loop-i.invariant.0,
  copy_step c.loop-i.slot c.args.form.now c.loop-i.i (omega arith) (omega arith) c.loop-i.invariant.1,
)

pub returns : goal.returns
returns c =
    copy_end c.loop-i.slot c.args.form.now c.loop-i.i (omega arith) (omega arith) c.loop-i.invariant.1
