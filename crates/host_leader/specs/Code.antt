-- A leader's own call for other languages: a number for the answer, and all that it is lent.
--     HostLeader, host_leader, host_leader_of
-- Its law is in Code/Laws.antt. Assumes nothing.
pub mod Laws
use Rattle.std.specs.Prelude.{ℕ, List}
use Rattle.leader.specs.Leader.{LeaderStep}
use Rattle.host_code.specs.Code.{HostStep, host_step, host_step_of}

-- `step` has the number, the inbox and N
pub record HostLeader : Type 0 where
  pub step : HostStep
  pub summary : List ℕ

-- the number, and the inbox, the summary and N at exit
abbrev pub host_leader : ℕ → List ℕ → List ℕ → List ℕ → HostLeader
host_leader code inbox summary network = record { step = host_step code inbox network; summary = summary }

abbrev pub host_leader_of : LeaderStep → HostLeader
host_leader_of s = record { step = host_step_of s.step; summary = s.summary }
