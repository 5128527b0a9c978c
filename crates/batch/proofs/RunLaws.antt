-- Laws of the list call's definition.
--     is_list_lem, no_list, a_list   row 19 in numbers: a list has four bytes for each answer; in words
--     events_at                      a list from event i on: that event, then the list from the next one on
--     calls_append, left_append      the single calls of two lists of events, and the tables that they leave
--     events_append                  the events of two lists of whole events, one after the other
--     calls_keep                     what each call keeps, all of them keep
--     finished_sound, finished_halves     a sound record stays so; two lists one after the other
--     answer_judged                  what the call answers
--     list_judged, whole_judged      of a list rows 1 to 6 and 20 are left
--     run_sound                      an accepted call found the record sound, its summary too
--     run_whole, run_lent            a list on a sound record, and on one that is not
--     run_cut, run_bad               what is no list, where rows 1 to 6 pass; where they do not
--     lent_summary                   where rows 1 to 6 pass, row 20 is left
--     run_accepted, run_refused      the two cases of the call
-- Assumes nothing.
use Rattle.std.specs.Prelude.{ℕ, zero, suc, ◌+◌, ◌*◌, ◌/◌, ◌%◌, ◌≤◌, Bool, not, List, [], ◌∷◌, ◌++◌, ◌⊎◌, ◌≡◌, eqb, length, take, drop}
use Rattle.std.proofs.Math.Bool.{true, false}
use Rattle.std.proofs.lemmas.List.{map-append}
use Rattle.std.proofs.Common.{inl, inr, ⊎_elim, sym, ◌∙◌, arith, length-drop, drop-drop, eqb-true, eq-eqb}
use Rattle.std.proofs.Math.Path.{refl, ap}
use Rattle.std.proofs.lemmas.Bool.{eqb-false}
use Rattle.message.proofs.Outcome.Laws.{accepted_not_refused, both}
use Rattle.message.specs.declared.Plan.{Plan}
use Rattle.message.specs.Outcome.{Outcome, accepted, refused, and_then, refuse_if, number_of}
use Rattle.leader.specs.Leader.{is_summary}
use Rattle.record.specs.Record.{Tables, RecordStep, record_judged, lent_judged, record_step}
use Rattle.conformance.proofs.Theorems.{record_sound}
use Rattle.batch.specs.Run.{events_of, single_calls, tables_left, is_list, run_judged, finished_run, settled_run, record_run}

pub is_list_lem : (events answers : List ℕ) → is_list events answers ≡ true → length events ≡ 4 * length answers
is_list_lem events answers is =
    let parts = both (eqb (length events % 4) 0) (eqb (length answers) (length events / 4)) is in
    let cut = eqb-true (length events % 4) 0 parts.0 in
    let each = eqb-true (length answers) (length events / 4) parts.1 in
    omega arith

module _ (events answers : List ℕ) where
  pub no_list : is_list events answers ≡ false → (length events % 4 ≡ 0 → ⊥) ⊎ (length answers ≡ length events / 4 → ⊥)
  no_list h = go (eqb (length events % 4) 0) refl
    where
      go : (whole : Bool) → eqb (length events % 4) 0 ≡ whole → (length events % 4 ≡ 0 → ⊥) ⊎ (length answers ≡ length events / 4 → ⊥)
      go false e = inl (eqb-false _ _ e)
      go true e = inr (eqb-false _ _ (rw e at h))

  pub a_list : is_list events answers ≡ true → (length events % 4 ≡ 0 → ⊥) ⊎ (length answers ≡ length events / 4 → ⊥) → ⊥
  a_list h =
      let parts = both (eqb (length events % 4) 0) (eqb (length answers) (length events / 4)) h in
      ⊎_elim (λ n. n (eqb-true _ _ parts.0)) (λ n. n (eqb-true _ _ parts.1))

events_first : (bytes : List ℕ) → 4 ≤ length bytes → events_of bytes ≡ take 4 bytes ∷ events_of (drop 4 bytes)
events_first (a ∷ b ∷ c ∷ d ∷ rest) h = refl
events_first [] h = absurd (omega (arith, h))
events_first (a ∷ []) h = absurd (omega (arith, h))
events_first (a ∷ b ∷ []) h = absurd (omega (arith, h))
events_first (a ∷ b ∷ c ∷ []) h = absurd (omega (arith, h))

pub events_at : (bytes : List ℕ) (i : ℕ) → i * 4 + 4 ≤ length bytes
    → events_of (drop (i * 4) bytes) ≡ take 4 (drop (i * 4) bytes) ∷ events_of (drop ((i + 1) * 4) bytes)
events_at bytes i h =
    let left : 4 ≤ length (drop (i * 4) bytes) = rw (length-drop (i * 4) bytes) (omega (arith, h)) in
    let next : i * 4 + 4 ≡ (i + 1) * 4 = omega arith in
    events_first (drop (i * 4) bytes) left ∙ ap (λ (rest : List ℕ). take 4 (drop (i * 4) bytes) ∷ events_of rest) (drop-drop 4 (i * 4) bytes ∙ ap (λ (n : ℕ). drop n bytes) next)

pub events_append : (n : ℕ) (first second : List ℕ) → length first ≡ 4 * n → events_of (first ++ second) ≡ events_of first ++ events_of second
events_append zero [] second h = refl
events_append (suc n) (a ∷ b ∷ c ∷ d ∷ rest) second h =
    ap (λ (es : List (List ℕ)). (a ∷ b ∷ c ∷ d ∷ []) ∷ es) (events_append n rest second (omega (arith, h)))
events_append zero (a ∷ rest) second h = absurd (omega (arith, h))
events_append (suc n) [] second h = absurd (omega (arith, h))
events_append (suc n) (a ∷ []) second h = absurd (omega (arith, h))
events_append (suc n) (a ∷ b ∷ []) second h = absurd (omega (arith, h))
events_append (suc n) (a ∷ b ∷ c ∷ []) second h = absurd (omega (arith, h))

pub calls_append : (p : Plan) (t : Tables) (es fs : List (List ℕ))
    → single_calls p t (es ++ fs) ≡ single_calls p t es ++ single_calls p (tables_left t (single_calls p t es)) fs
calls_append p t [] fs = refl
calls_append p t (e ∷ es) fs = ap (λ (ss : List RecordStep). record_step p t e ∷ ss) (calls_append p (record_step p t e).tables es fs)

pub left_append : (t : Tables) (a b : List RecordStep) → tables_left t (a ++ b) ≡ tables_left (tables_left t a) b
left_append t [] b = refl
left_append t (s ∷ ss) b = left_append s.tables ss b

-- what each call keeps, all of them keep
pub calls_keep : (p : Plan) (P : Tables → Type 0) → ((t : Tables) (e : List ℕ) → P t → P (record_step p t e).tables)
    → (t : Tables) → P t → (es : List (List ℕ)) → P (tables_left t (single_calls p t es))
calls_keep p P step t h [] = h
calls_keep p P step t h (e ∷ es) = calls_keep p P step (record_step p t e).tables (step t e h) es

pub finished_sound : (p : Plan) (t : Tables) → lent_judged p t ≡ accepted tt → (events : List ℕ) → lent_judged p (finished_run p t events).tables ≡ accepted tt
unfolding finished_run
finished_sound p t ok events = calls_keep p (λ u. lent_judged p u ≡ accepted tt) (record_sound p) t ok (events_of events)

-- the calls of two lists
pub finished_halves : (p : Plan) (t : Tables) (n : ℕ) (first second : List ℕ) → length first ≡ 4 * n
    → finished_run p t (first ++ second)
    ≡ record {
      answer = (finished_run p (finished_run p t first).tables second).answer;
      tables = (finished_run p (finished_run p t first).tables second).tables;
      answers = (finished_run p t first).answers ++ (finished_run p (finished_run p t first).tables second).answers;
    }
unfolding finished_run
finished_halves p t n first second whole =
    let one : List RecordStep = single_calls p t (events_of first) in
    let two : List RecordStep = single_calls p (tables_left t one) (events_of second) in
    let calls : single_calls p t (events_of (first ++ second)) ≡ one ++ two =
    ap (single_calls p t) (events_append n first second whole) ∙ calls_append p t (events_of first) (events_of second) in
    rw (calls, left_append t one two, map-append (λ (s : RecordStep). number_of s.answer) one two)

module _ (p : Plan) (t : Tables) (events answers : List ℕ) where
  by_cases : (o : Outcome (Unit {0}))
      → (((settled_run (finished_run p t events) t answers o).answer ≡ accepted tt) → settled_run (finished_run p t events) t answers o ≡ finished_run p t events)
      × ((k : ℕ) → (settled_run (finished_run p t events) t answers o).answer ≡ refused k
      → settled_run (finished_run p t events) t answers o ≡ record { answer = refused k; tables = t; answers = answers })
  unfolding finished_run
  by_cases (accepted a) = (λ h. refl, λ k h. absurd (accepted_not_refused (sym h)))
  by_cases (refused number) = (λ h. absurd (accepted_not_refused h), λ k h. ap (λ (o : Outcome (Unit {0})). record { answer = o; tables = t; answers = answers }) h)

  pub answer_judged : (record_run p t events answers).answer ≡ run_judged p t events answers
  unfolding record_run finished_run
  answer_judged = go (run_judged p t events answers)
    where
      go : (o : Outcome (Unit {0})) → (settled_run (finished_run p t events) t answers o).answer ≡ o
      go (accepted u) = refl
      go (refused number) = refl

  pub run_accepted : (record_run p t events answers).answer ≡ accepted tt → record_run p t events answers ≡ finished_run p t events
  unfolding record_run
  run_accepted = (by_cases (run_judged p t events answers)).0

  pub run_refused : (k : ℕ) → (record_run p t events answers).answer ≡ refused k
      → record_run p t events answers ≡ record { answer = refused k; tables = t; answers = answers }
  unfolding record_run
  run_refused = (by_cases (run_judged p t events answers)).1

  pub run_bad : (k : ℕ) → record_judged p t ≡ refused k → record_run p t events answers ≡ record { answer = refused k; tables = t; answers = answers }
  unfolding record_run run_judged and_then
  run_bad k h = rw h

  pub list_judged : is_list events answers ≡ true → run_judged p t events answers ≡ lent_judged p t
  unfolding run_judged lent_judged refuse_if
  list_judged is = rw is

  pub whole_judged : length events ≡ 4 * length answers → run_judged p t events answers ≡ lent_judged p t
  whole_judged size =
      let cut : length events % 4 ≡ 0 = omega arith in
      let each : length answers ≡ length events / 4 = omega arith in
      list_judged (rw (eq-eqb _ _ cut, eq-eqb _ _ each))

  pub judged_list : run_judged p t events answers ≡ accepted tt → is_list events answers ≡ true
  unfolding run_judged and_then refuse_if
  judged_list = go (record_judged p t) (is_list events answers)
    where
      go : (o : Outcome (Unit {0})) (b : Bool)
          → and_then o (λ _. refuse_if (not b) 19 (refuse_if (not (is_summary (p.rms * p.leaders) t.summary)) 20 (accepted tt))) ≡ accepted (tt {0}) → b ≡ true
      go (accepted u) true h = refl
      go (accepted u) false h = absurd (accepted_not_refused h)
      go (refused k) b h = absurd (accepted_not_refused h)

  pub run_sound : (record_run p t events answers).answer ≡ accepted tt → lent_judged p t ≡ accepted tt
  run_sound is = let ok = sym answer_judged ∙ is in sym (list_judged (judged_list ok)) ∙ ok

  pub run_whole : lent_judged p t ≡ accepted tt → length events ≡ 4 * length answers → record_run p t events answers ≡ finished_run p t events
  unfolding record_run
  run_whole ok size = rw (whole_judged size, ok)

  pub run_lent : (k : ℕ) → lent_judged p t ≡ refused k → length events ≡ 4 * length answers
      → record_run p t events answers ≡ record { answer = refused k; tables = t; answers = answers }
  unfolding record_run
  run_lent k bad size = rw (whole_judged size, bad)

  pub run_cut : record_judged p t ≡ accepted tt → (length events ≡ 4 * length answers → ⊥) → (record_run p t events answers).answer ≡ refused 19
  unfolding run_judged and_then refuse_if
  run_cut ok cut = answer_judged ∙ go (is_list events answers) refl
    where
      go : (b : Bool) → is_list events answers ≡ b → run_judged p t events answers ≡ refused 19
      go true is = absurd (cut (is_list_lem events answers is))
      go false is = rw (ok, is)

pub lent_summary : (p : Plan) (t : Tables) → record_judged p t ≡ accepted tt
    → lent_judged p t ≡ refuse_if (not (is_summary (p.rms * p.leaders) t.summary)) 20 (accepted tt)
unfolding lent_judged and_then
lent_summary p t ok = rw ok
