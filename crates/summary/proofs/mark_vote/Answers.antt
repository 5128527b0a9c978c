-- `summary::mark_vote` meets its contract: each way out is one case of a 2b's mark. Assumes nothing.
use Rattle.message.proofs.Guards.{passed, failed}
use Rattle.summary.proofs.Marking.{mark_stands, mark_none, mark_set}
use Rattle.summary.proofs.mark_vote.Goals as goal

pub returns-then-with-byte : goal.returns-then-with-byte
returns-then-with-byte c =
    mark_stands _ _ _ _ _ c.byte_at-byte.ensures _ c.saturating_sub.ensures _ c.insert_bit-with.ensures c.if-with-byte.true

pub returns-then-not-is_decided : goal.returns-then-not-is_decided
returns-then-not-is_decided c =
    mark_none _ _ _ _ _ c.byte_at-byte.ensures _ c.saturating_sub.ensures _ c.insert_bit-with.ensures
    (failed c.is_decided.ensures c.if-not-is_decided.true)

pub returns : goal.returns
returns c =
    mark_set _ _ _ _ _ c.byte_at-byte.ensures _ c.saturating_sub.ensures _ c.insert_bit-with.ensures
    (passed c.is_decided.ensures c.if-not-is_decided.false) _ c.set_byte.ensures
