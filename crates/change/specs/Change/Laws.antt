-- What an answer says of the tables.
--     refused_keeps    a refused answer means that nothing changed
-- Assumes nothing.
use Rattle.std.specs.Prelude.{ℕ, List, ◌≡◌}
use Rattle.std.proofs.Common.{sym, ap}
use Rattle.message.specs.declared.Plan.{Plan}
use Rattle.message.specs.Outcome.{Outcome, accepted, refused}
use Rattle.message.proofs.Outcome.Laws.{accepted_not_refused}
use Rattle.change.specs.declared.Change.{Change}
use Rattle.change.specs.Change.{refusal, applied}

pub refused_keeps : (p : Plan) (table network : List ℕ) (o : Outcome Change) (number : ℕ)
    → (applied p table network o).answer ≡ refused number → applied p table network o ≡ refusal table network number
refused_keeps p table network (accepted change) number e = absurd (accepted_not_refused (sym e))
refused_keeps p table network (refused k) number e = ap (λ (o : Outcome _). record { answer = o; table = table; network = network }) e
