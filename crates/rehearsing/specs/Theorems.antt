-- What the rehearsal prints, in document 01's words ("The rehearsal").
--     plan_short, plan_bad       "A bad or short plan prints only 1"
--     printed                    else a line for each answer of the event calls, and the word of W after them
--     opened                     the tables of these calls are those that opening leaves
--     calls_count                an event for every four bytes, and one for what is left; at most 8,192
--     rest_ignored               bytes after the last of these events play no part
--     no_line_11                 no event call of a rehearsal answers 11
-- Assumes nothing.
use Rattle.std.specs.Prelude.{ℕ, zero, suc, ◌+◌, ◌*◌, ◌/◌, ◌≤◌, ◌<◌, min, true, false, ◌≡◌, length, drop, replicate}
use mathlib.Core.List.{List, [], ◌∷◌, ◌++◌, Memᴰ}
use Rattle.std.proofs.Math.Path.{refl}
use Rattle.std.proofs.Common.{arith, length-drop}
use Rattle.std.proofs.lemmas.List.{length-replicate}
use Rattle.message.specs.declared.Plan.{Plan}
use Rattle.message.specs.Outcome.{accepted, refused}
use Rattle.message.specs.Plan.{is_plan}
use Rattle.slots.specs.Table.{is_table_length}
use Rattle.ending.specs.Ending.{ending_of}
use Rattle.record.specs.Record.{Tables, zeroed, record_open}
use Rattle.safety.specs.Lists.{Fresh, Call, answers, tables_after}
use Rattle.safety.proofs.Theorems.{never_11}
use Rattle.rehearsal_input.specs.Input.{plan_of, events_in}
use Rattle.rehearsal_input.proofs.Input.Laws.{plan_in_short, plan_in_bad, plan_in_good, plan_in_more}
use Rattle.rehearsal_input.proofs.Theorems.{rest_ignored as events-rest}
use Rattle.rehearsal_text.specs.Text.{ascii, line, word_of}
use Rattle.rehearsing.specs.Rehearsal.{calls_in, fresh_tables, lines_of, text_of, printed_for, rehearsed}
use Rattle.rehearsing.specs.Rehearsal.Laws.{calls_take, opens}

module _ (input : List ℕ) where
  pub plan_short : length input < 5 → rehearsed input ≡ ascii "1\n"
  unfolding rehearsed printed_for line
  plan_short h = rw (plan_in_short input h)

  module _ (h : 5 ≤ length input) where
    pub plan_bad : is_plan (plan_of input) ≡ false → rehearsed input ≡ ascii "1\n"
    unfolding rehearsed printed_for line
    plan_bad bad = rw (plan_in_bad input h bad)

    pub printed : is_plan (plan_of input) ≡ true
        → rehearsed input
        ≡ lines_of (answers (plan_of input) (fresh_tables 1024 (plan_of input)) (calls_in 8192 (drop 5 input)))
        ++ word_of (ending_of (tables_after (plan_of input) (fresh_tables 1024 (plan_of input)) (calls_in 8192 (drop 5 input))).states)
    unfolding rehearsed printed_for text_of events_in
    printed good = rw (plan_in_good input h good, calls_take 8192 (drop 5 input))

zeros : (n : ℕ) → replicate n 0 ≡ zeroed (replicate n 0)
unfolding zeroed
zeros n = rw (length-replicate {A = ℕ} n 0)

module _ (p : Plan) where
  fresh : (slots : ℕ) → Fresh (fresh_tables slots p)
  unfolding fresh_tables
  fresh slots = (zeros p.rms, zeros (3 * (p.rms * p.acceptors)), zeros (8 * slots), zeros (p.leaders * (8 * slots)), zeros (p.rms * p.leaders))

  pub opened : is_plan p ≡ true → (t : Tables)
      → length t.states ≡ p.rms → length t.votes ≡ 3 * (p.rms * p.acceptors)
      → length t.network ≡ 8 * 1024 → length t.inboxes ≡ p.leaders * (8 * 1024)
      → length t.summary ≡ p.rms * p.leaders
      → ((record_open p t).answer ≡ accepted tt) × ((record_open p t).tables ≡ fresh_tables 1024 p)
  unfolding is_table_length
  opened plan t w q n i s = rw (opens p 1024 plan refl t w q n i s) (refl, refl)

  pub no_line_11 : (slots : ℕ) (calls : List Call) → Memᴰ (refused 11) (answers p (fresh_tables slots p) calls) → ⊥
  no_line_11 slots = never_11 p (fresh_tables slots p) (fresh slots)

pub calls_count : (most : ℕ) (bytes : List ℕ) → length (calls_in most bytes) ≡ min most ((length bytes + 3) / 4)
unfolding calls_in
calls_count zero bytes = omega arith
calls_count (suc k) [] = omega arith
calls_count (suc k) (x ∷ xs) = let h = calls_count k (drop 3 xs) in let l = length-drop 3 xs in omega arith

pub rest_ignored : (input more : List ℕ) → length input ≡ 32773 → rehearsed (input ++ more) ≡ rehearsed input
unfolding rehearsed
rest_ignored input more size = rw (plan_in_more input more (omega arith), events-rest input more size)
