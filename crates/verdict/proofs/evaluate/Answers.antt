-- `verdict::evaluate` meets its contract: what the event's role makes of it. Assumes nothing.
use Rattle.message.proofs.Guards.{passed, failed}
use Rattle.verdict.proofs.Evaluating.{no_event, on_states_lem, on_votes_lem, is_led, on_inbox_lem}
use Rattle.verdict.proofs.evaluate.Goals as goal

-- no event
pub returns-then-not-is_event : goal.returns-then-not-is_event
returns-then-not-is_event c = no_event _ _ _ (failed c.is_event.ensures c.if-not-is_event.true)

-- kinds 0 to 2
pub returns-then-kind : goal.returns-then-kind
returns-then-kind c =
    on_states_lem _ _ _ (passed c.is_event.ensures c.if-not-is_event.false) _ c.byte_at-kind.ensures
    c.if-kind.true _ c.evaluate.ensures

-- kind 3
pub returns-then-kind-2 : goal.returns-then-kind-2
returns-then-kind-2 c =
    on_votes_lem _ _ _ (passed c.is_event.ensures c.if-not-is_event.false) _ c.byte_at-kind.ensures
    c.if-kind.false c.if-kind-2.true _ c.evaluate-then-kind-2.ensures

-- kinds 4 to 8
pub evaluate_leader-requires : goal.evaluate_leader-requires
evaluate_leader-requires c =
    is_led _ _ (passed c.is_event.ensures c.if-not-is_event.false) _ c.byte_at-kind.ensures
    c.if-kind.false c.if-kind-2.false

pub returns : goal.returns
returns c =
    on_inbox_lem _ _ _ (passed c.is_event.ensures c.if-not-is_event.false) _ c.byte_at-kind.ensures
    c.if-kind.false c.if-kind-2.false _ c.evaluate_leader.ensures
