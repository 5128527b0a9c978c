-- The judgement of a list call, row by row; and from it to the whole call.
--     list_stopped, list_cut, list_unsound, list_sound     1 to 6; 19; 20; all are sound
--     run_stopped, run_ready, run_finished                 it refuses; the events can run; they were run
-- Assumes nothing.
use Prim.Native.Nat.{ℕ, ◌*◌}
use mathlib.Core.Bool.{true, false}
use mathlib.Core.List.{List}
use mathlib.Core.Path.{◌≡◌, sym, ◌∙◌}
use Rattle.message.specs.declared.Plan.{Plan}
use Rattle.message.specs.Outcome.{accepted, refused, and_then, refuse_if}
use Rattle.leader.specs.Leader.{is_summary}
use Rattle.record.specs.Record.{Tables, record_judged, lent_judged}
use Rattle.batch.specs.Run.{Run, is_list, run_judged, finished_run, record_run}
use Rattle.batch.proofs.RunLaws.{judged_list, list_judged}

module _ (p : Plan) (t : Tables) (events answers : List ℕ) where
  -- the plan and the four tables were judged
  pub list_stopped : (k : ℕ) → refused k ≡ record_judged p t → refused k ≡ run_judged p t events answers
  unfolding run_judged and_then
  list_stopped k bad = rw (← bad)

  module _ (judged : accepted tt ≡ record_judged p t) where
    pub list_cut : is_list events answers ≡ false → refused 19 ≡ run_judged p t events answers
    unfolding run_judged and_then refuse_if
    list_cut cut = rw (← judged, cut)

    module _ (is : is_list events answers ≡ true) (count : ℕ) (of-count : count ≡ p.rms * p.leaders) where
      pub list_unsound : is_summary count t.summary ≡ false → refused 20 ≡ run_judged p t events answers
      unfolding run_judged and_then refuse_if
      list_unsound wrong = rw (← judged, is, ← of-count, wrong)

      pub list_sound : is_summary count t.summary ≡ true → accepted tt ≡ run_judged p t events answers
      unfolding run_judged and_then refuse_if
      list_sound right = rw (← judged, is, ← of-count, right)

  -- so was the whole call
  pub run_stopped : (k : ℕ) → refused k ≡ run_judged p t events answers
      → record { answer = refused k; tables = t; answers = answers } ≡ record_run p t events answers
  unfolding record_run
  run_stopped k bad = rw (← bad)

  module _ (sound : accepted tt ≡ run_judged p t events answers) where
    pub run_ready : (lent_judged p t ≡ accepted tt) × (is_list events answers ≡ true)
    run_ready = let is = judged_list p t events answers (sym sound) in (sym (sound ∙ list_judged p t events answers is), is)

    pub run_finished : (run : Run) → run ≡ finished_run p t events → run ≡ record_run p t events answers
    unfolding record_run
    run_finished run done = rw (← sound) done
