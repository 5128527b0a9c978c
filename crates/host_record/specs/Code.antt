-- Opening, the event call and the ending for other languages: a number for the answer, and the five tables.
--     HostOpening, host_opening, host_opening_of  opening: 0, or the refusal
--     HostEvent, host_event, host_event_of        the event call: the number of its answer
--     ending_number, ending_outcome, ending_code  how an order stands: rows 1, 2 and 3, and the number
-- Their laws are in proofs/CodeLaws.antt. Assumes nothing.
use Rattle.std.specs.Prelude.{ℕ, ◌+◌, not, List, eqb, length}
use Rattle.message.specs.declared.Plan.{Plan}
use Rattle.message.specs.Outcome.{Outcome, accepted, refused, number_of, refuse_if}
use Rattle.message.specs.Plan.{is_plan}
use Rattle.rm.specs.Rm.{are_states}
use Rattle.ending.specs.declared.Ending.{Ending}
use Rattle.ending.specs.declared.Ending.TheVariants.{Open, Committed, Aborted}
use Rattle.ending.specs.Ending.{ending_of}
use Rattle.record.specs.Record.{Tables, Opening, RecordStep}
use Rattle.host_code.specs.Code.{answer_code}

pub record HostOpening : Type 0 where
  pub number : ℕ
  pub tables : Tables

-- the number and the five tables at exit
abbrev pub host_opening : ℕ → Tables → HostOpening
host_opening number t = record { number = number; tables = t }

abbrev pub host_opening_of : Opening → HostOpening
host_opening_of o = host_opening (number_of o.answer) o.tables

pub record HostEvent : Type 0 where
  pub code : ℕ
  pub tables : Tables

-- the number and the five tables at exit
abbrev pub host_event : ℕ → Tables → HostEvent
host_event code t = record { code = code; tables = t }

abbrev pub host_event_of : RecordStep → HostEvent
host_event_of s = host_event (answer_code s.answer) s.tables

-- as the value of a decision: 1 is Commit, 2 Abort
abbrev pub ending_number : Ending → ℕ
ending_number Open = 0
ending_number Committed = 1
ending_number Aborted = 2

-- the call is lent W alone
unfoldable pub ending_outcome : Plan → List ℕ → Outcome Ending
ending_outcome p states =
    refuse_if (not (is_plan p)) 1
    (refuse_if (not (eqb (length states) p.rms)) 2
    (refuse_if (not (are_states states)) 3
    (accepted (ending_of states))))

-- refusal k is 65536 + k
abbrev pub ending_code : Outcome Ending → ℕ
ending_code (accepted ending) = ending_number ending
ending_code (refused number) = 65536 + number
