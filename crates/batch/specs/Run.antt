-- The list call (document 02, Papers 2 and 5): a whole list of events on one record, run in order.
--     events_of                     the events of a list's bytes, four bytes each
--     single_calls                  the single event calls one after the other, each on the tables as the one before left them
--     tables_left, numbers_of       the tables as the last of them left them; the number of each, 0 where it is accepted
--     Run, run_of                    what the list call answers and leaves in the tables and in the lent answers
--     is_list, run_judged           row 19; rows 1 to 6, then 19, then 20
--     finished_run, settled_run, record_run  the list call: the single calls' tables and numbers; a refused one changes no byte
-- Its laws are in proofs/RunLaws.antt. Assumes nothing.
use Rattle.std.specs.Prelude.{ℕ, ◌*◌, ◌/◌, ◌%◌, Bool, ◌&&◌, not, List, [], ◌∷◌, map, eqb, length, Result}
use Rattle.message.specs.declared.Plan.{Plan}
use Rattle.message.specs.Outcome.{Outcome, accepted, refused, and_then, refuse_if, number_of, outcome}
use Rattle.leader.specs.Leader.{is_summary}
use Rattle.record.specs.Record.{Tables, RecordStep, record_judged, record_step}
use Rattle.message.specs.declared.Refusal.{Refusal}

-- the events, four bytes each; a rest is none
abbrev pub events_of : List ℕ → List (List ℕ)
events_of (kind ∷ who ∷ high ∷ low ∷ rest) = (kind ∷ who ∷ high ∷ low ∷ []) ∷ events_of rest
events_of (kind ∷ who ∷ high ∷ []) = []
events_of (kind ∷ who ∷ []) = []
events_of (kind ∷ []) = []
events_of [] = []

-- the single calls one after the other; an event's refusal ends nothing
abbrev pub single_calls : Plan → Tables → List (List ℕ) → List RecordStep
single_calls p t [] = []
single_calls p t (e ∷ es) = record_step p t e ∷ single_calls p (record_step p t e).tables es

-- what such calls leave
abbrev pub tables_left : Tables → List RecordStep → Tables
tables_left t [] = t
tables_left t (s ∷ ss) = tables_left s.tables ss

-- what they answer: 0 or the refusal
abbrev pub numbers_of : List RecordStep → List ℕ
numbers_of = map (λ (s : RecordStep). number_of s.answer)

pub record Run : Type 0 where
  pub answer : Outcome (Unit {0})
  pub tables : Tables
  pub answers : List ℕ

-- the answer's enum, the tables and the lent answers at exit
abbrev pub run_of : Result (Unit {0}) Refusal → Tables → List ℕ → Run
run_of judged t answers = record { answer = outcome judged; tables = t; answers = answers }

-- row 19: whole events, and an answer for each
abbrev pub is_list : List ℕ → List ℕ → Bool
is_list events answers = eqb (length events % 4) 0 && eqb (length answers) (length events / 4)

-- row 20 is checked after 19
unfoldable pub run_judged : Plan → Tables → List ℕ → List ℕ → Outcome (Unit {0})
run_judged p t events answers =
    and_then (record_judged p t) (λ _.
    refuse_if (not (is_list events answers)) 19
    (refuse_if (not (is_summary (p.rms * p.leaders) t.summary)) 20
    (accepted tt)))

-- the single calls' tables and numbers
unfoldable pub finished_run : Plan → Tables → List ℕ → Run
finished_run p t events =
    let calls = single_calls p t (events_of events) in
    record { answer = accepted tt; tables = tables_left t calls; answers = numbers_of calls }

-- that, or the tables and the answers as they were
abbrev pub settled_run : Run → Tables → List ℕ → Outcome (Unit {0}) → Run
settled_run run t answers (accepted a) = run
settled_run run t answers (refused number) = record { answer = refused number; tables = t; answers = answers }

unfoldable pub record_run : Plan → Tables → List ℕ → List ℕ → Run
record_run p t events answers = settled_run (finished_run p t events) t answers (run_judged p t events answers)
