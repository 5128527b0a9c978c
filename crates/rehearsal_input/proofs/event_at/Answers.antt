-- `rehearsal_input::event_at` meets its contract: the part is the definition's. Assumes nothing.
use Rattle.rehearsal_input.proofs.Parts.{event_part}
use native.Mathlib.Omega.{arith}
use Rattle.rehearsal_input.proofs.event_at.Goals as goal

pub returns : goal.returns
returns c = event_part _ _ (omega arith) _ (rw (← c.saturating_mul.ensures) c.min-from.ensures) _ c.min-size.ensures
