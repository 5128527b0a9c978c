-- With a summary of n × L bytes all answers are those without one, and so are the four tables: for Standing.antt, which says what that means.
-- Assumes nothing.
use Rattle.std.specs.Prelude.{ℕ, ◌*◌, true, ◌≡◌, length}
use mathlib.Core.List.{List, map}
use Rattle.std.proofs.Common.{◌∙◌}
use Rattle.std.proofs.Math.Path.{sym, ap}
use Rattle.std.proofs.Math.ListN.{replicate}
use Rattle.message.specs.declared.Plan.{Plan}
use Rattle.summary.specs.Summary.Laws.{zeros_sound}
use Rattle.leader.specs.Leader.{is_summary}
use Rattle.record.specs.Record.{Tables, with_summary, zeroed, RecordStep}
use Rattle.batch.specs.Run.{tables_left, Run, record_run}
use Rattle.safety.specs.Lists.{Fresh, Call, counted, made, answers, tables_after}
use Rattle.safety.proofs.Grounds.Marks.{standing_zeros}
use Rattle.safety.proofs.Theorems.{used_fresh}
use Rattle.safety.specs.Plain.{plain_run, plain_answers, plain_after}
use Rattle.safety.proofs.Plain.Laws.{Marked, marked_events, left_beside, answers_beside, run_same, made_same}

module _ (p : Plan) (t : Tables) (fresh : Fresh t) (calls : List Call) where
  module _ (whole : length t.summary ≡ p.rms * p.leaders) where
    right : is_summary (p.rms * p.leaders) t.summary ≡ true
    unfolding zeroed
    right = ap (is_summary (p.rms * p.leaders)) (fresh.4 ∙ ap (λ (n : ℕ). replicate n 0) whole) ∙ zeros_sound (p.rms * p.leaders)

    marked : Marked p t
    marked = (used_fresh p t fresh, standing_zeros p t right fresh.3 fresh.4)

    pub same_answers : (answers p t calls ≡ plain_answers p t calls) × (plain_after p t calls ≡ with_summary (tables_after p t calls) t.summary)
    same_answers =
        let same = made_same p t.summary t marked calls in (
          sym (ap (map (λ (r : RecordStep). r.answer)) same ∙ answers_beside t.summary (made p t calls)),
          ap (tables_left t) same ∙ left_beside t.summary t (made p t calls),
        )

    -- a list call after them: its own answer, and the bytes that it writes or keeps
    pub same_runs : (events given : List ℕ)
        → ((record_run p (tables_after p t calls) events given).answer ≡ (plain_run p (plain_after p t calls) events given).answer)
        × ((record_run p (tables_after p t calls) events given).answers ≡ (plain_run p (plain_after p t calls) events given).answers)
    same_runs events given =
        let same =
        ap (λ (u : Tables). plain_run p u events given) same_answers.1
        ∙ run_same p t.summary (tables_after p t calls) (marked_events p t marked (counted p t calls)) events given in
        (sym (ap (λ (r : Run). r.answer) same), sym (ap (λ (r : Run). r.answers) same))
