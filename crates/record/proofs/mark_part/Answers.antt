-- `record::mark_part` meets its contract: the parts that are lent are the leader's inbox and its bytes of the summary. Assumes nothing.
use mathlib.Core.Path.{refl}
use Rattle.record.proofs.Stepping.{marked_part}
use Rattle.record.proofs.mark_part.Goals as goal

pub returns : goal.returns
returns c =
    marked_part c.args.plan c.args.inboxes.now c.args.summary.now c.args.network.now c.args.leader
    c.args.slot _ refl _ c.part_size-count.ensures _ c.mark.ensures
