-- What the rehearsal prints for an input (document 01, "The rehearsal").
--     calls_in, fresh_tables   the events as calls, and the tables with so many slots in N and in each inbox
--     lines_of, text_of          a line for each call of a list, and the word
--     number_lines, cut_line   the lines from the answers' bytes, and that of a cut last event
--     printed_for, rehearsed   what is printed
--     rehearsal                what is printed, at the start of a lent buffer
-- The plan and the events' bytes are those of rehearsal_input/specs, lines and words of rehearsal_text/specs. The laws are in Rehearsal/Laws.antt.
-- Assumes nothing.
pub mod Laws
use Rattle.std.specs.Prelude.{ℕ, zero, suc, ◌*◌, ◌%◌, cond, List, [], ◌∷◌, ◌++◌, map, ltb, eqb, length, take, drop, replicate}
use Rattle.message.specs.declared.Plan.{Plan}
use Rattle.message.specs.Outcome.{Outcome, accepted, refused, number_of}
use Rattle.change.specs.declared.Sent.{Sent}
use Rattle.ending.specs.Ending.{ending_of}
use Rattle.slots.specs.Table.{slot_size}
use Rattle.record.specs.Record.{Tables, tables_of}
use Rattle.safety.specs.Lists.{Call, event, answers, tables_after}
use Rattle.rehearsal_input.specs.Input.{plan_in, events_in}
use Rattle.rehearsal_text.specs.Text.{line, word_of, Put, put_of}

-- "then events": at most so many, each the next four bytes; the last has fewer where it is cut
unfoldable pub calls_in : ℕ → List ℕ → List Call
calls_in zero bytes = []
calls_in (suc most) [] = []
calls_in (suc most) (b ∷ bytes) = event (take 4 (b ∷ bytes)) ∷ calls_in most (drop 4 (b ∷ bytes))

-- zeros: n bytes in W, 3 × n × A in Q, so many slots, and n × L bytes in the summary
unfoldable pub fresh_tables : ℕ → Plan → Tables
fresh_tables slots p =
    tables_of (replicate p.rms 0) (replicate (3 * (p.rms * p.acceptors)) 0) (replicate (slot_size * slots) 0) (replicate (p.leaders * (slot_size * slots)) 0)
    (replicate (p.rms * p.leaders) 0)

-- "one line per event, 0 or the refusal"
abbrev pub number_lines : List ℕ → List ℕ
number_lines [] = []
number_lines (number ∷ rest) = line number ++ number_lines rest

abbrev pub lines_of : List (Outcome Sent) → List ℕ
lines_of said = number_lines (map number_of said)

unfoldable pub text_of : Plan → Tables → List Call → List ℕ
text_of p t calls = lines_of (answers p t calls) ++ word_of (ending_of (tables_after p t calls).states)

-- "A cut last event prints 7"
unfoldable pub cut_line : List ℕ → List ℕ
cut_line events = cond (eqb (length events % 4) 0) [] (line 7)

-- "A bad or short plan prints only 1"; at most 8,192 events, on tables with 1,024 slots
unfoldable pub printed_for : Outcome Plan → List ℕ → List ℕ
printed_for (accepted p) events = text_of p (fresh_tables 1024 p) (calls_in 8192 events)
printed_for (refused number) events = line number

unfoldable pub rehearsed : List ℕ → List ℕ
rehearsed input = printed_for (plan_in input) (events_in input)

-- the number of bytes printed, and the buffer that they begin; nothing where it has not the 3 × 8,192 + 10 bytes of the longest output
unfoldable pub rehearsal : List ℕ → List ℕ → Put
rehearsal input output =
    cond (ltb (length output) 24586) (put_of 0 output)
    (put_of (length (rehearsed input)) (rehearsed input ++ drop (length (rehearsed input)) output))
