-- From the list call and its lines to the text of all.
--     lines_step, lines_end     line by line: the lines from here give those from the start
--     cut_none, cut_put         no event is cut; one is
--     run_put                   the lines of the list call's answers, that of a cut event, then the word: the text of all the calls
-- Assumes nothing.
use Prim.Native.Nat.{ℕ, suc, ◌+◌, ◌*◌, ◌/◌, ◌%◌, ◌≤◌, ◌<◌}
use mathlib.Core.List.{List, ◌++◌}
use mathlib.Core.Path.{◌≡◌, sym, ◌∙◌, ap}
use native.Mathlib.Numerals.{add-one}
use native.Mathlib.Omega.{arith}
use lib.ListN.{length, get_or, take, drop, drop_of_length-le}
use lib.Seq.{drop-cons, length-take-le}
use borrow.Author.Tests.{eq-eqb, ne_eqb}
use Rattle.message.specs.declared.Plan.{Plan}
use Rattle.message.specs.Outcome.{accepted}
use Rattle.ending.specs.declared.Ending as EndingType
use Rattle.ending.specs.Ending.{ending_of}
use Rattle.record.specs.Record.{Tables, RecordStep, lent_judged}
use Rattle.batch.specs.Run.{events_of, single_calls, tables_left, numbers_of, Run, finished_run, record_run}
use Rattle.batch.proofs.RunLaws.{run_whole}
use Rattle.rehearsal_text.specs.Text.{line, word_of, Put, put_of, put}
use Rattle.rehearsal_text.proofs.Text.Laws.{put_none, put_then}
use Rattle.rehearsing.specs.Rehearsal.{calls_in, text_of, number_lines, cut_line}
use Rattle.rehearsing.specs.Rehearsal.Laws.{events_whole, text_whole}

module _ (answers output : List ℕ) (at i : ℕ) (whole : Put) (inv : put at (number_lines (drop i answers)) output ≡ whole) where
  pub lines_step : i < length answers → (o : Put) → o ≡ put at (line (get_or answers i 0)) output
      → put o.end (number_lines (drop (i + 1) answers)) o.buffer ≡ whole
  lines_step h o lined =
      rw (lined, add-one i)
      (sym (put_then at (line (get_or answers i 0)) (number_lines (drop (suc i) answers)) output)
      ∙ ap (λ (l : List ℕ). put at (number_lines l) output) (sym (drop-cons answers i 0 h)) ∙ inv)

  pub lines_end : length answers ≤ i → put_of at output ≡ whole
  lines_end h = sym (put_none at output) ∙ ap (λ (l : List ℕ). put at (number_lines l) output) (sym (drop_of_length-le answers h)) ∙ inv

module _ (events output : List ℕ) (at : ℕ) where
  pub cut_none : length events % 4 ≡ 0 → put_of at output ≡ put at (cut_line events) output
  unfolding cut_line
  cut_none none = rw (eq-eqb _ _ none) (sym (put_none at output))

  pub cut_put : (length events % 4 ≡ 0 → ⊥) → (o : Put) → o ≡ put at (line 7) output → o ≡ put at (cut_line events) output
  unfolding cut_line
  cut_put some o lined = rw (ne_eqb _ _ some) lined

-- three texts, one after the other
put_three : (a b c output : List ℕ) (o : Put) → o ≡ put 0 a output → (q : Put) → q ≡ put o.end b o.buffer
    → (s : Put) → s ≡ put q.end c q.buffer → s ≡ put 0 (a ++ (b ++ c)) output
put_three a b c output o one q two s three =
    three
    ∙ ap (λ (x : Put). put x.end c x.buffer) two
    ∙ sym (put_then o.end b c o.buffer)
    ∙ ap (λ (x : Put). put x.end (b ++ c) x.buffer) one
    ∙ sym (put_then 0 a (b ++ c) output)

module _ (events given : List ℕ) (few : length events ≤ 32768) (room : length given ≡ 8192) where
  four_each : length (take (length events / 4 * 4) events) ≡ 4 * length (take (length events / 4) given)
  four_each =
      let e = length-take-le (length events / 4 * 4) events (omega arith) in
      let a = length-take-le (length events / 4) given (omega arith) in
      rw (e, a) (omega arith)

  pub run_put : (p : Plan) (t : Tables) → lent_judged p t ≡ accepted tt → (output : List ℕ)
      → (r : Run) → r ≡ record_run p t (take (length events / 4 * 4) events) (take (length events / 4) given)
      → (o : Put) → o ≡ put 0 (number_lines r.answers) output
      → (q : Put) → q ≡ put o.end (cut_line events) o.buffer
      → (ending : EndingType.Ending) → ending ≡ ending_of r.tables.states
      → (s : Put) → s ≡ put q.end (word_of ending) q.buffer
      → s ≡ put 0 (text_of p t (calls_in 8192 events)) output
  unfolding finished_run
  run_put p t ok output r ran o lined q cut ending is s word =
      let list : List ℕ = take (length events / 4 * 4) events in
      let done : r ≡ finished_run p t list = ran ∙ run_whole p t list (take (length events / 4) given) ok four_each in
      let calls : List RecordStep = single_calls p t (events_of events) in
      let same : single_calls p t (events_of list) ≡ calls = ap (single_calls p t) (events_whole events) in
      let numbers : r.answers ≡ numbers_of calls = ap (λ (x : Run). x.answers) done ∙ ap numbers_of same in
      let left : r.tables ≡ tables_left t calls = ap (λ (x : Run). x.tables) done ∙ ap (tables_left t) same in
      let ended : ending ≡ ending_of (tables_left t calls).states = is ∙ ap (λ (u : Tables). ending_of u.states) left in
      put_three (number_lines (numbers_of calls)) (cut_line events) (word_of (ending_of (tables_left t calls).states)) output
      o (rw numbers at lined) q cut s (rw ended at word)
      ∙ ap (λ (l : List ℕ). put 0 l output) (sym (text_whole p 8192 events few t ok))
