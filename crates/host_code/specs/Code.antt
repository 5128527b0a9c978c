-- What the calls for other languages are given and answer, as numbers.
--     plan_of                           the plan of three counts and an order number
--     sent_code, answer_code           the number of a step's answer
--     HostStep, host_step, host_step_of  a role's step with that number for its answer
--     packed, are_bytes                 several bytes as one number; whether numbers are bytes
-- Their laws are in proofs/CodeLaws.antt. Assumes nothing.
use Rattle.std.specs.Prelude.{ℕ, ◌+◌, ◌*◌, Bool, cond, List, [], ◌∷◌, ltb}
use Rattle.message.specs.declared.Plan.{Plan}
use Rattle.message.specs.Outcome.{Outcome, accepted, refused}
use Rattle.slots.specs.All.{all}
use Rattle.slots.specs.Table.{max_slots}
use Rattle.change.specs.declared.Sent.{Sent}
use Rattle.change.specs.declared.Sent.TheVariants.{Slot, Quiet}
use Rattle.change.specs.Change.{Step}

abbrev pub plan_of : ℕ → ℕ → ℕ → ℕ → Plan
plan_of rms acceptors leaders order = record { rms = rms; acceptors = acceptors; leaders = leaders; order = order }

-- a slot is its number, quiet is 65535. A slot of N is below 1,024, so no call answers 65534
abbrev pub sent_code : Sent → ℕ
sent_code (Slot slot) = cond (ltb slot max_slots) slot 65534
sent_code Quiet = 65535

-- an acceptance is below 65536, and refusal k is 65536 + k
abbrev pub answer_code : Outcome Sent → ℕ
answer_code (accepted sent) = sent_code sent
answer_code (refused number) = 65536 + number

-- the number of a role's step, and its two tables
pub record HostStep : Type 0 where
  pub code : ℕ
  pub table : List ℕ
  pub network : List ℕ

-- the number and both tables at exit
abbrev pub host_step : ℕ → List ℕ → List ℕ → HostStep
host_step code table network = record { code = code; table = table; network = network }

abbrev pub host_step_of : Step → HostStep
host_step_of s = host_step (answer_code s.answer) s.table s.network

-- bytes as one number, the first of them lowest: the sum of byte k × 256^k
abbrev pub packed : List ℕ → ℕ
packed [] = 0
packed (byte ∷ bytes) = byte + 256 * packed bytes

unfoldable pub are_bytes : List ℕ → Bool
are_bytes = all (λ number. ltb number 256)
