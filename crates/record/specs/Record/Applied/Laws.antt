-- On tables of any content a refusal of `record::perform` changes no byte.
--     applied_keeps
-- Assumes nothing.
use Rattle.std.specs.Prelude.{ℕ, Bool, ◌&&◌, List, ◌≡◌, refl}
use Rattle.std.proofs.Common.{sym, ap}
use Rattle.message.specs.declared.Plan.{Plan}
use Rattle.message.specs.Outcome.{Outcome, accepted, refused}
use Rattle.message.proofs.Outcome.Laws.{accepted_not_refused}
use Rattle.message.specs.Plan.{is_plan}
use Rattle.slots.specs.View.Bytes.{view_bytes}
use Rattle.change.specs.declared.Change.{Change}
use Rattle.event.specs.Event.{who_of}
use Rattle.inbox.specs.Inbox.{decided}
use Rattle.verdict.specs.Verdict.{record_verdict}
use Rattle.record.specs.Record.{Tables, RecordStep, record_refusal, marking}
use Rattle.record.specs.Record.Summary.{marking_refused}
use Rattle.record.specs.Record.Applied.{applied_to, record_applied}

pub applied_keeps : (p : Plan) (t : Tables) (e : List ℕ) (k : ℕ) → (record_applied p t e).answer ≡ refused k → (record_applied p t e).tables ≡ t
unfolding record_applied
applied_keeps p t e k = go (λ inbox i v. is_plan p && decided p (view_bytes p inbox).messages i v) (record_verdict p t e)
  where
    go : (isDecided : List ℕ → ℕ → ℕ → Bool) (o : Outcome Change) → (applied_to p (who_of e) t o).answer ≡ refused k
        → (marking p isDecided (view_bytes p) e (applied_to p (who_of e) t o)).tables ≡ t
    go isDecided (accepted change) h = absurd (accepted_not_refused (sym h))
    go isDecided (refused number) h =
        ap (λ (r : RecordStep). r.tables) (marking_refused p isDecided (view_bytes p) e (record_refusal t number) number refl)
