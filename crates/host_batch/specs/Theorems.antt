-- What the number of a list call says.
--     run_means     0, or the refusal's number; tables and lent answers stand beside it
--     run_keeps     where it is not 0, tables and answers are as they were
-- Assumes nothing.
use Rattle.std.specs.Prelude.{ℕ, List, ◌≡◌, refl}
use Rattle.message.specs.declared.Plan.{Plan}
use Rattle.message.specs.Outcome.{accepted, refused}
use Rattle.record.specs.Record.{Tables}
use Rattle.batch.specs.Run.{record_run}
use Rattle.host_batch.specs.Code.{host_run, host_run_of}
use Rattle.host_batch.specs.Code.Laws.{run_kept}

module _ (t : Tables) where
  pub run_means : (k : ℕ) (answers : List ℕ)
      → ((host_run k t answers).number ≡ k)
      × ((host_run k t answers).tables ≡ t)
      × ((host_run k t answers).answers ≡ answers)
      × (host_run_of (record { answer = accepted tt; tables = t; answers = answers }) ≡ host_run 0 t answers)
      × (host_run_of (record { answer = refused k; tables = t; answers = answers }) ≡ host_run k t answers)
  run_means k answers = (refl, refl, refl, refl, refl)

  pub run_keeps : (p : Plan) (events answers : List ℕ)
      → ((host_run_of (record_run p t events answers)).number ≡ 0 → ⊥)
      → host_run_of (record_run p t events answers) ≡ host_run (host_run_of (record_run p t events answers)).number t answers
  run_keeps p events answers = run_kept p t events answers
