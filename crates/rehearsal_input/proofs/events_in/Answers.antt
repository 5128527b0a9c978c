-- `rehearsal_input::events_in` meets its contract: the part is the definition's. Assumes nothing.
use Rattle.rehearsal_input.proofs.Parts.{events_part}
use Rattle.rehearsal_input.proofs.events_in.Goals as goal

pub returns : goal.returns
returns c = events_part _ _ _ c.min-end.ensures c.min-from.ensures
