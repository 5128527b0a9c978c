-- The lists of calls of Lists.antt without a summary (document 02, Paper 5): what is Decided, or declined (Paper 6), is read from the inbox, row 20 does
-- not stand, and a fifth table is neither read nor changed.
--     plain_calls                   the single event calls one after the other
--     plain_judged, plain_run       the list call: rows 1 to 6, then 19
--     plain_counted, plain_made     the events that a list of calls comes to, and the single calls
--     plain_answers, plain_after    what they answer, and the tables that they leave
-- Their laws are in proofs/Plain/Laws.antt, the comparison in proofs/Standing.antt. Assumes nothing.
use Rattle.std.specs.Prelude.{ℕ, not, List, [], ◌∷◌, ◌++◌, map}
use Rattle.message.specs.declared.Plan.{Plan}
use Rattle.message.specs.Outcome.{Outcome, accepted, and_then, refuse_if}
use Rattle.change.specs.declared.Sent.{Sent}
use Rattle.record.specs.Record.{Tables, RecordStep, record_judged, plain_step}
use Rattle.batch.specs.Run.{events_of, tables_left, numbers_of, Run, is_list, settled_run}
use Rattle.safety.specs.Lists.{Call, event, run, counted_for}

-- `plain_step` is the event call without a summary
abbrev pub plain_calls : Plan → Tables → List (List ℕ) → List RecordStep
plain_calls p t [] = []
plain_calls p t (e ∷ es) = plain_step p t e ∷ plain_calls p (plain_step p t e).tables es

-- the list call as `record_run`, of these
unfoldable pub plain_judged : Plan → Tables → List ℕ → List ℕ → Outcome (Unit {0})
plain_judged p t events answers =
    and_then (record_judged p t) (λ _.
    refuse_if (not (is_list events answers)) 19
    (accepted tt))

abbrev pub plain_finished : Plan → Tables → List ℕ → Run
plain_finished p t events =
    let calls = plain_calls p t (events_of events) in
    record { answer = accepted tt; tables = tables_left t calls; answers = numbers_of calls }

abbrev pub plain_run : Plan → Tables → List ℕ → List ℕ → Run
plain_run p t events answers = settled_run (plain_finished p t events) t answers (plain_judged p t events answers)

-- as `counted`, `made`, `answers` and `tables_after`, of these
abbrev pub plain_counted : Plan → Tables → List Call → List (List ℕ)
plain_counted p t [] = []
plain_counted p t (event e ∷ cs) = e ∷ plain_counted p (plain_step p t e).tables cs
plain_counted p t (run events given ∷ cs) = counted_for (plain_run p t events given).answer events ++ plain_counted p (plain_run p t events given).tables cs

abbrev pub plain_made : Plan → Tables → List Call → List RecordStep
plain_made p t calls = plain_calls p t (plain_counted p t calls)

abbrev pub plain_answers : Plan → Tables → List Call → List (Outcome Sent)
plain_answers p t calls = map (λ (s : RecordStep). s.answer) (plain_made p t calls)

abbrev pub plain_after : Plan → Tables → List Call → Tables
plain_after p t calls = tables_left t (plain_made p t calls)
