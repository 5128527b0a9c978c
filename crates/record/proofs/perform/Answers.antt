-- `record::perform` meets its contract: what was evaluated is applied and, of a receipt, marked. Assumes nothing.
use Rattle.message.proofs.Outcome.Laws.{left_by}
use Rattle.record.specs.Record.{tables_of}
use Rattle.record.proofs.Stepping.{performed_refused, performed_other, performed_receipt, receiver}
use Rattle.record.proofs.perform.Goals as goal

-- a refusal
pub returns-in_err-sent : goal.returns-in_err-sent
returns-in_err-sent c =
    rw (left_by c.from_residual.ensures.1)
    (performed_refused c.args.plan (tables_of c.args.states.now c.args.votes.now c.args.network.now c.args.inboxes.now c.args.summary.now)
    c.args.event.now _ c.evaluate-verdict.ensures _ c.byte_at-leader.ensures
    (tables_of c.apply.new.states c.apply.new.votes c.apply.new.network c.apply.new.inboxes c.args.summary.now)
    _ (c.in_err-sent.ensures _))

-- a receipt: its leader is one, and its bytes are marked
pub mark_part-requires : goal.mark_part-requires
mark_part-requires c =
    receiver c.args.plan (tables_of c.args.states.now c.args.votes.now c.args.network.now c.args.inboxes.now c.args.summary.now)
    c.args.event.now _ c.evaluate-verdict.ensures _ c.byte_at-leader.ensures
    (tables_of c.apply.new.states c.apply.new.votes c.apply.new.network c.apply.new.inboxes c.args.summary.now)
    _ (c.in_ok-sent.ensures _) _ c.byte_at.ensures c.if-byte_at.true

pub returns-then-byte_at : goal.returns-then-byte_at
returns-then-byte_at c =
    performed_receipt c.args.plan (tables_of c.args.states.now c.args.votes.now c.args.network.now c.args.inboxes.now c.args.summary.now)
    c.args.event.now _ c.evaluate-verdict.ensures _ c.byte_at-leader.ensures
    (tables_of c.apply.new.states c.apply.new.votes c.apply.new.network c.apply.new.inboxes c.args.summary.now)
    _ (c.in_ok-sent.ensures _) _ c.byte_at.ensures c.if-byte_at.true
    _ c.slot_number-slot.ensures _ c.mark_part.ensures

-- any other kind
pub returns-else-byte_at : goal.returns-else-byte_at
returns-else-byte_at c =
    performed_other c.args.plan (tables_of c.args.states.now c.args.votes.now c.args.network.now c.args.inboxes.now c.args.summary.now)
    c.args.event.now _ c.evaluate-verdict.ensures _ c.byte_at-leader.ensures
    (tables_of c.apply.new.states c.apply.new.votes c.apply.new.network c.apply.new.inboxes c.args.summary.now)
    _ (c.in_ok-sent.ensures _) _ c.byte_at.ensures c.if-byte_at.false
