-- The list call for other languages: 0 or the refusal, the five tables, and the lent answers.
--     HostRun, host_run, host_run_of
-- Its laws are in Code/Laws.antt. Assumes nothing.
pub mod Laws
use Rattle.std.specs.Prelude.{ℕ, List}
use Rattle.message.specs.Outcome.{number_of}
use Rattle.record.specs.Record.{Tables}
use Rattle.batch.specs.Run.{Run}

pub record HostRun : Type 0 where
  pub number : ℕ
  pub tables : Tables
  pub answers : List ℕ

-- the number, the five tables and the answers at exit
abbrev pub host_run : ℕ → Tables → List ℕ → HostRun
host_run number t answers = record { number = number; tables = t; answers = answers }

abbrev pub host_run_of : Run → HostRun
host_run_of r = host_run (number_of r.answer) r.tables r.answers
