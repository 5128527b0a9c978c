-- A list call whose answer became a number.
--     run_coded     the number is its answer's
--     run_kept      where it is not 0, tables and answers are as they were
-- Assumes nothing.
use Rattle.std.specs.Prelude.{ℕ, List, ◌≡◌, refl}
use Rattle.std.proofs.Common.{◌∙◌, ap}
use Rattle.message.specs.declared.Plan.{Plan}
use Rattle.message.specs.Outcome.{Outcome, accepted, refused, number_of}
use Rattle.record.specs.Record.{Tables}
use Rattle.batch.specs.Run.{Run, record_run}
use Rattle.batch.proofs.RunLaws.{run_refused}
use Rattle.host_batch.specs.Code.{host_run, host_run_of}

pub run_coded : {r s : Run} → r ≡ s → {number : ℕ} → number ≡ number_of r.answer → host_run number r.tables r.answers ≡ host_run_of s
run_coded {r} e h = ap (λ (k : ℕ). host_run k r.tables r.answers) h ∙ ap host_run_of e

pub run_kept : (p : Plan) (t : Tables) (events answers : List ℕ)
    → ((host_run_of (record_run p t events answers)).number ≡ 0 → ⊥)
    → host_run_of (record_run p t events answers) ≡ host_run (host_run_of (record_run p t events answers)).number t answers
run_kept p t events answers n = go (record_run p t events answers).answer refl
  where
    go : (o : Outcome (Unit {0})) → (record_run p t events answers).answer ≡ o
        → host_run_of (record_run p t events answers) ≡ host_run (host_run_of (record_run p t events answers)).number t answers
    go (accepted a) is = absurd (n (ap number_of is))
    go (refused k) is = rw (run_refused p t events answers k is)
