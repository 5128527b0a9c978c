-- `summary::mark_message` meets its contract: a message that is no 2a and no 2b marks nothing. Assumes nothing.
use Rattle.summary.specs.Summary.{marked}
use Rattle.std.proofs.Common.{inl, inr}
use Rattle.summary.proofs.mark_message.Goals as goal

pub returns-in-Phase1a : goal.returns-in-Phase1a
unfolding marked
returns-in-Phase1a c =
    elim c.in-Phase1a.is [
      | inl (ins, bal, e) ↦ rw e
      | inr (inl (ins, acc, mbal, vote, e)) ↦ rw e
      | inr (inr (val, e)) ↦ rw e
    ]
