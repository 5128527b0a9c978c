-- `summary::mark_decline` meets its contract: each way out is one case of a 2a's mark. Assumes nothing.
use Rattle.summary.proofs.Marking.{decline_later, decline_other, decline_set}
use Rattle.summary.proofs.mark_decline.Goals as goal

pub returns-then-bal-ne0 : goal.returns-then-bal-ne0
returns-then-bal-ne0 c = decline_later _ _ _ _ c.if-bal-ne0.true

pub returns-then-val-ne2 : goal.returns-then-val-ne2
returns-then-val-ne2 c = decline_other _ _ _ _ c.if-val-ne2.true

pub returns : goal.returns
returns c =
    decline_set _ _ _ _ c.if-bal-ne0.false c.if-val-ne2.false _ c.byte_at-byte.ensures _ c.insert_bit.ensures _ c.set_byte.ensures
