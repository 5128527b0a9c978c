-- A list of events, event by event.
--     Running                               after i events: the answers so far and the single calls from here on are those from the start
--     running_start, running_next, running_end
--     event_within                          the next event lies within the list
-- Assumes nothing.
use Prim.Native.Nat.{ℕ, ◌+◌, ◌-◌, ◌*◌, ◌≤◌, ◌<◌}
use mathlib.Core.Bool.{true}
use mathlib.Core.List.{List, [], ◌∷◌, ◌++◌}
use mathlib.Core.Path.{◌≡◌, refl, ◌∙◌}
use mathlib.Core.List.{append-nil}
use native.Mathlib.Nat.{add-sub_cancel_left}
use native.Mathlib.Numerals.{add-one}
use native.Mathlib.Omega.{arith}
use lib.ListN.{length, set, take, drop, length-set, drop_of_length-le}
use lib.Seq.{take-suc-set, take_all, append_snoc}
use Rattle.message.specs.declared.Plan.{Plan}
use Rattle.message.specs.Outcome.{accepted, number_of}
use Rattle.record.specs.Record.{Tables, RecordStep, lent_judged, record_step}
use Rattle.record.specs.Record.Applied.{record_applied}
use Rattle.record.proofs.Stepping.{step_applied}
use Rattle.conformance.proofs.Theorems.{record_sound}
use Rattle.batch.specs.Run.{events_of, single_calls, tables_left, numbers_of, Run, is_list, finished_run}
use Rattle.batch.proofs.RunLaws.{is_list_lem, events_at}

-- a list call that was accepted
abbrev run_as : Tables → List ℕ → Run
run_as t answers = record { answer = accepted tt; tables = t; answers = answers }

same_run : {t u : Tables} {a b : List ℕ} → t ≡ u → a ≡ b → run_as t a ≡ run_as u b
same_run e f = rw (e, f)

-- the calls that are left after i events
abbrev rest : Plan → List ℕ → Tables → ℕ → List RecordStep
rest p events t i = single_calls p t (events_of (drop (i * 4) events))

pub record Running (p : Plan) (t₀ : Tables) (events : List ℕ) (t : Tables) (answers : List ℕ) (i : ℕ) : Type 0 where
  pub within : i ≤ length answers
  pub whole : length events ≡ 4 * length answers
  pub judged : lent_judged p t ≡ accepted tt
  pub tables : tables_left t (rest p events t i) ≡ (finished_run p t₀ events).tables
  pub answered : take i answers ++ numbers_of (rest p events t i) ≡ (finished_run p t₀ events).answers

module _ (p : Plan) (t₀ : Tables) (events : List ℕ) where
  pub running_start : (answers : List ℕ) → lent_judged p t₀ ≡ accepted tt → is_list events answers ≡ true → Running p t₀ events t₀ answers 0
  unfolding finished_run
  running_start answers ok is =
      record { within = omega arith; whole = is_list_lem events answers is; judged = ok; tables = refl; answered = refl }

  module _ (t : Tables) (answers : List ℕ) (i : ℕ) (r : Running p t₀ events t answers i) where
    pub event_within : i < length answers → i * 4 + 4 ≤ length events
    event_within h = let w = r.whole in omega arith

    pub running_next : i < length answers → (s : RecordStep) → s ≡ record_applied p t (take (i * 4 + 4 - i * 4) (drop (i * 4) events))
        → (k : ℕ) → k ≡ number_of s.answer → Running p t₀ events s.tables (set answers i k) (i + 1)
    running_next h s done k number =
        let e : List ℕ = take 4 (drop (i * 4) events) in
        let called : s ≡ record_step p t e = rw (add-sub_cancel_left (i * 4) 4) at done ∙ step_applied p t e r.judged in
        let split = events_at events i (event_within h) in
        let taken : take (i + 1) (set answers i k) ≡ take i answers ++ (k ∷ []) = rw (add-one i) (take-suc-set answers i k h) in
        record {
          within = rw (length-set answers i k) (omega (arith, h));
          whole = rw (length-set answers i k) r.whole;
          judged = rw called (record_sound p t e r.judged);
          tables = rw called (rw split at r.tables);
          answered =
              rw (
                taken,
                number,
                called,
                append_snoc (take i answers) (number_of (record_step p t e).answer) (numbers_of (rest p events (record_step p t e).tables (i + 1))),
              )
              (rw split at r.answered);
        }

    pub running_end : length answers ≤ i → run_as t answers ≡ finished_run p t₀ events
    unfolding finished_run
    running_end h =
        let past : length events ≤ i * 4 = let w = r.whole in omega arith in
        let none = drop_of_length-le events past in
        let all = take_all i answers h in
        same_run (rw none at r.tables) (rw (none, append-nil (take i answers), all) at r.answered)
