-- `acceptor::evaluate` meets its contract: the kind decides, and the answer is the slot's. Assumes nothing.
use Rattle.std.proofs.Common.{sym, ◌∙◌}
use Rattle.message.proofs.Guards.{passed, went_refused, went_on}
use Rattle.message.proofs.Outcome.Laws.{left_by}
use Rattle.event.proofs.Reading.{read_bytes}
use Rattle.acceptor.specs.Acceptor.{acceptor_receive}
use Rattle.acceptor.proofs.ByKind.{vote_kind, other_kind}
use Rattle.acceptor.proofs.evaluate.Goals as goal

pub returns-in_err-m-in-Vote : goal.returns-in_err-m-in-Vote
returns-in_err-m-in-Vote c =
    let read = read_bytes _ _ _ (sym c.read_event.ensures ∙ c.in-Some.is) in
    rw (left_by c.from_residual.ensures.1)
    (went_refused (acceptor_receive _ _ _ _) _ _ c.message_at.ensures _ c.in_err-m-in-Vote.was
    ∙ vote_kind _ _ _ _ _ (passed c.is_plan.ensures c.if-not-is_plan.false) read c.in-Vote.is _ c.slot.ensures)

pub returns-in_ok-m-in-Vote : goal.returns-in_ok-m-in-Vote
returns-in_ok-m-in-Vote c =
    let read = read_bytes _ _ _ (sym c.read_event.ensures ∙ c.in-Some.is) in
    c.receive.ensures
    ∙ went_on (acceptor_receive _ _ _ _) _ _ c.message_at.ensures _ c.in_ok-m-in-Vote.was
    ∙ vote_kind _ _ _ _ _ (passed c.is_plan.ensures c.if-not-is_plan.false) read c.in-Vote.is _ c.slot.ensures

pub returns-in_default-kind : goal.returns-in_default-kind
returns-in_default-kind c =
    let read = read_bytes _ _ _ (sym c.read_event.ensures ∙ c.in-Some.is) in
    other_kind _ _ _ _ _ (passed c.is_plan.ensures c.if-not-is_plan.false) read c.in_default-kind.not-Vote
