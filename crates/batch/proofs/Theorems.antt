-- What the list call answers and leaves (document 02, Papers 2 and 5), for every plan, all tables, any bytes as the list and as the lent answers.
-- `record_run` is what the contract of `batch::run` names.
--     run_answers     the lowest number that applies is returned: 1 to 6 for the plan and the four tables, then 19, then 20 for the summary
--     run_1_to_6, run_19, run_20     1 to 6 as the event call; then 19 exactly where the list has not four bytes for each answer; then 20 exactly
--                     where the summary has not n × L bytes, or one above 3
--     run_numbers     so it is one of 1 to 6, 19 or 20; and what an accepted call writes is 0 or one of 7 to 14
--     run_keeps       a refused call leaves all tables and the answers as they were
--     run_empty       the empty list is accepted where 1 to 6 and 20 pass, and changes nothing
--     run_one         a list of one event is the event call: its number, 0 or the refusal, and its tables
--     run_halves      a list is its two halves one after the other
--     perform_means   on a sound record `record::perform` is the event call; on any tables its refusal changes no byte
--     run_means       how the contract reads the call's answer; what `tables_left` and an answer's number are
-- Empty, one and halves leave nothing open: they give every list. Assumes nothing.
use Rattle.std.specs.Prelude.{ℕ, ◌*◌, ◌≤◌, Bool, not, ◌⊎◌, ◌↔◌, length, Ok, Err}
use Rattle.std.proofs.Math.Bool.{true, false}
use mathlib.Core.List.{List, [], ◌∷◌, ◌++◌, Memᴰ}
use Rattle.std.proofs.Math.Path.{◌≡◌, refl}
use Rattle.std.proofs.Common.{sym, ◌∙◌, ap, arith, length-append}
use Rattle.std.proofs.lemmas.Bool.{not-true, not-false}
use Rattle.message.specs.declared.Plan.{Plan}
use Rattle.message.specs.declared.Refusal.{Refusal}
use Rattle.message.specs.Outcome.{Outcome, accepted, refused, refuse_if, number_of, refusal_number}
use Rattle.message.proofs.Outcome.Laws.{accepted_not_refused}
use Rattle.message.specs.Rows.{Lowest}
use Rattle.message.proofs.Rows.Laws.{is_ascending, ruled_row, ruled_end, lowest_of_ruled}
use Rattle.change.specs.declared.Sent.{Sent}
use Rattle.leader.specs.Leader.{is_summary}
use Rattle.record.specs.Record.{Tables, RecordStep, record_judged, lent_judged, record_step}
use Rattle.record.specs.Record.Applied.{record_applied}
use Rattle.record.specs.Record.Applied.Laws.{applied_keeps}
use Rattle.record.proofs.Stepping.{step_applied}
use Rattle.matching.specs.Leader.{WrongSummary}
use Rattle.matching.proofs.Leader.Own.{summary_wrong, summary_right}
use Rattle.conformance.proofs.Record.Judges.{record_judges_then}
use Rattle.batch.specs.Rows.{run_rows}
use Rattle.batch.specs.Run.{events_of, tables_left, Run, run_of, is_list, run_judged, finished_run, record_run}
use Rattle.batch.proofs.RunLaws.{no_list, a_list, finished_sound, finished_halves, answer_judged, whole_judged, run_accepted, run_refused}
use Rattle.batch.proofs.RunLaws.{run_sound, run_whole, run_lent, run_cut, run_bad, lent_summary}
use Rattle.batch.proofs.RunNumbers.{run_number, written_number}

module _ (p : Plan) (t : Tables) (events answers : List ℕ) where
  pub run_answers : Lowest (run_rows p t events answers) (record_run p t events answers).answer
  unfolding is_ascending run_judged
  run_answers =
      rw (answer_judged p t events answers)
      (lowest_of_ruled _ refl _
      (record_judges_then p t _ _
      (ruled_row (not (is_list events answers)) 19 _ _ _ (λ h. no_list events answers (not-true _ h)) (λ h. a_list events answers (not-false _ h)) (λ _.
      ruled_row (not (is_summary (p.rms * p.leaders) t.summary)) 20 _ _ _ (λ h. summary_wrong _ t.summary (not-true _ h)) (λ h. summary_right _ t.summary (not-false _ h)) (λ _.
      ruled_end (tt {0}))))))

  pub run_1_to_6 : (k : ℕ) → record_judged p t ≡ refused k → (record_run p t events answers).answer ≡ refused k
  run_1_to_6 k h = ap (λ (r : Run). r.answer) (run_bad p t events answers k h)

  -- what is left after 1 to 6 and 19
  of_summary : record_judged p t ≡ accepted tt → length events ≡ 4 * length answers
      → (record_run p t events answers).answer ≡ refuse_if (not (is_summary (p.rms * p.leaders) t.summary)) 20 (accepted tt)
  of_summary ok whole = answer_judged p t events answers ∙ whole_judged p t events answers whole ∙ lent_summary p t ok

  pub run_19 : record_judged p t ≡ accepted tt → ((record_run p t events answers).answer ≡ refused 19) ↔ (length events ≡ 4 * length answers → ⊥)
  unfolding refuse_if
  run_19 ok = (λ is whole. go (is_summary (p.rms * p.leaders) t.summary) (sym (of_summary ok whole) ∙ is), run_cut p t events answers ok)
    where
      go : (b : Bool) → refuse_if (not b) 20 (accepted (tt {0})) ≡ refused 19 → ⊥
      go true h = accepted_not_refused (sym h)
      go false h = let same : ◌≡◌ {A = ℕ} 20 19 = cc in omega (arith, same)

  pub run_20 : record_judged p t ≡ accepted tt → length events ≡ 4 * length answers
      → ((record_run p t events answers).answer ≡ refused 20) ↔ WrongSummary (p.rms * p.leaders) t.summary
  unfolding refuse_if
  run_20 ok whole = go (is_summary (p.rms * p.leaders) t.summary) refl (of_summary ok whole)
    where
      go : (b : Bool) → is_summary (p.rms * p.leaders) t.summary ≡ b → (record_run p t events answers).answer ≡ refuse_if (not b) 20 (accepted tt)
          → ((record_run p t events answers).answer ≡ refused 20) ↔ WrongSummary (p.rms * p.leaders) t.summary
      go true right is = ((λ h. absurd (accepted_not_refused (sym h ∙ is))), λ wrong. absurd (summary_right _ t.summary right wrong))
      go false wrong is = ((λ h. summary_wrong _ t.summary wrong), λ h. is)

  pub run_numbers :
      ((k : ℕ) → (record_run p t events answers).answer ≡ refused k → ((1 ≤ k) × (k ≤ 6)) ⊎ ((k ≡ 19) ⊎ (k ≡ 20)))
      × ((record_run p t events answers).answer ≡ accepted tt → (k : ℕ) → Memᴰ k (record_run p t events answers).answers
      → (k ≡ 0) ⊎ ((7 ≤ k) × (k ≤ 14)))
  unfolding finished_run
  run_numbers = (
    (λ k is. run_number p t events answers k ((run_answers.refuses k).0 is).0),
    λ is k there.
        written_number p t (run_sound p t events answers is) (events_of events) k
        (rw (ap (λ (r : Run). r.answers) (run_accepted p t events answers is)) at there),
  )

  pub run_keeps : (k : ℕ) → (record_run p t events answers).answer ≡ refused k
      → ((record_run p t events answers).tables ≡ t) × ((record_run p t events answers).answers ≡ answers)
  run_keeps k is = let kept = run_refused p t events answers k is in (ap (λ (r : Run). r.tables) kept, ap (λ (r : Run). r.answers) kept)

-- `record_applied` is what the contract of `record::perform` names, which the list call makes of each event
pub perform_means : (p : Plan) (t : Tables) (e : List ℕ)
    → (lent_judged p t ≡ accepted tt → record_applied p t e ≡ record_step p t e)
    × ((k : ℕ) → (record_applied p t e).answer ≡ refused k → (record_applied p t e).tables ≡ t)
perform_means p t e = (step_applied p t e, applied_keeps p t e)

pub run_means : (t : Tables) (answers : List ℕ)
    → (run_of (Ok tt) t answers ≡ record { answer = accepted tt; tables = t; answers = answers })
    × ((r : Refusal) → run_of (Err r) t answers ≡ record { answer = refused (refusal_number r); tables = t; answers = answers })
    × ((k : ℕ) → number_of {A = Sent} (refused k) ≡ k)
    × ((sent : Sent) → number_of (accepted sent) ≡ 0)
    × (tables_left t [] ≡ t)
    × ((s : RecordStep) (ss : List RecordStep) → tables_left t (s ∷ ss) ≡ tables_left s.tables ss)
run_means t answers = (refl, (λ r. refl), (λ k. refl), (λ sent. refl), refl, λ s ss. refl)

module _ (p : Plan) (t : Tables) where
  pub run_empty : lent_judged p t ≡ accepted tt → record_run p t [] [] ≡ record { answer = accepted tt; tables = t; answers = [] }
  unfolding finished_run
  run_empty ok = run_whole p t [] [] ok refl

  pub run_one : (kind who high low before : ℕ) → lent_judged p t ≡ accepted tt
      → record_run p t (kind ∷ who ∷ high ∷ low ∷ []) (before ∷ [])
      ≡ record {
        answer = accepted tt;
        tables = (record_step p t (kind ∷ who ∷ high ∷ low ∷ [])).tables;
        answers = number_of (record_step p t (kind ∷ who ∷ high ∷ low ∷ [])).answer ∷ [];
      }
  unfolding finished_run
  run_one kind who high low before ok = run_whole p t (kind ∷ who ∷ high ∷ low ∷ []) (before ∷ []) ok refl

  pub run_halves : (first a second b : List ℕ) → length first ≡ 4 * length a → length second ≡ 4 * length b
      → record_run p t (first ++ second) (a ++ b)
      ≡ record {
        answer = (record_run p (record_run p t first a).tables second b).answer;
        tables = (record_run p (record_run p t first a).tables second b).tables;
        answers = (record_run p t first a).answers ++ (record_run p (record_run p t first a).tables second b).answers;
      }
  run_halves first a second b one two = go (lent_judged p t) refl
    where
      both_whole : length (first ++ second) ≡ 4 * length (a ++ b)
      both_whole = rw (length-append first second, length-append a b) (omega (arith, one, two))

      go : (o : Outcome (Unit {0})) → lent_judged p t ≡ o
          → record_run p t (first ++ second) (a ++ b)
          ≡ record {
            answer = (record_run p (record_run p t first a).tables second b).answer;
            tables = (record_run p (record_run p t first a).tables second b).tables;
            answers = (record_run p t first a).answers ++ (record_run p (record_run p t first a).tables second b).answers;
          }
      go (refused k) bad = rw (run_lent p t first a k bad one, run_lent p t second b k bad two) (run_lent p t (first ++ second) (a ++ b) k bad both_whole)
      go (accepted u) ok =
          rw (run_whole p t first a ok one, run_whole p (finished_run p t first).tables second b (finished_sound p t ok first) two)
          (run_whole p t (first ++ second) (a ++ b) ok both_whole ∙ finished_halves p t (length a) first second one)
