-- `leader::mark_receipt` meets its contract: the kind decides. Assumes nothing.
use Rattle.slots.specs.View.Bytes.{view_bytes}
use Rattle.summary.specs.Summary.{decided_bytes}
use Rattle.leader.proofs.Judging.{marks_other, marks_receipt}
use Rattle.leader.proofs.mark_receipt.Goals as goal

pub returns-then-byte_at : goal.returns-then-byte_at
returns-then-byte_at c sent =
    marks_receipt (decided_bytes c.args.plan c.args.inbox.now) (view_bytes c.args.plan c.args.network.now) _ _ _ c.byte_at.ensures sent
    c.if-byte_at.true _ c.slot_number.ensures _ c.mark.ensures

pub returns-else-byte_at : goal.returns-else-byte_at
returns-else-byte_at c sent =
    marks_other (decided_bytes c.args.plan c.args.inbox.now) (view_bytes c.args.plan c.args.network.now) c.args.event.now _ _ c.byte_at.ensures
    sent c.if-byte_at.false
