-- Calls with a summary beside the same calls without: where the summary says what the inboxes do, they answer the same and leave the same in the
-- four tables.
--     Marked, marked_event, marked_events     a record that was opened and used, its summary one of n × L bytes; so it stays
--     beside, beside_run                 what a call answers and leaves, with other bytes for the summary
--     step_same, calls_same, run_same    an event call; event calls one after the other; a list call
--     left_beside, answers_beside        of such calls
--     counted_same, made_same            lists of calls
-- Assumes nothing.
use Rattle.std.specs.Prelude.{ℕ, ◌<◌, ◌⊎◌, ◌≡◌}
use mathlib.Core.List.{List, [], ◌∷◌, ◌++◌, map}
use Rattle.std.proofs.Math.Path.{refl, ap, ap₂}
use Rattle.std.proofs.Common.{sym, ◌∙◌, subst}
use Rattle.message.specs.declared.Plan.{Plan}
use Rattle.message.specs.Outcome.{Outcome, accepted, refused, refuse_if, number_of}
use Rattle.change.specs.declared.Sent.{Sent}
use Rattle.summary.specs.Summary.Standing.{stands_says}
use Rattle.record.specs.Record.{Tables, with_summary, are_lengths, record_judged, RecordStep, by_summary, by_inbox, record_step, plain_step}
use Rattle.record.specs.Record.Plain.{plain_with, plain_same}
use Rattle.batch.specs.Run.{events_of, single_calls, tables_left, numbers_of, Run, run_judged, finished_run, settled_run, record_run}
use Rattle.batch.proofs.RunLaws.{calls_keep}
use Rattle.safety.specs.Lists.{Call, event, run, counted_for, counted, made}
use Rattle.safety.proofs.Lists.Laws.{run_tables}
use Rattle.safety.specs.Grounds.{Standing}
use Rattle.safety.proofs.Grounds.Steps.{Used, used_event, standing_event}
use Rattle.safety.specs.Plain.{plain_calls, plain_judged, plain_finished, plain_run, plain_counted, plain_made}

abbrev pub Marked : Plan → Tables → Type 0
Marked p t = Used p t × Standing p t

-- the answer and the tables, with other bytes for the summary
abbrev pub beside : List ℕ → RecordStep → RecordStep
beside s r = record { answer = r.answer; tables = with_summary r.tables s }

abbrev pub beside_run : List ℕ → Run → Run
beside_run s r = record { answer = r.answer; tables = with_summary r.tables s; answers = r.answers }

pub left_beside : (s : List ℕ) (t : Tables) (steps : List RecordStep) → tables_left (with_summary t s) (map (beside s) steps) ≡ with_summary (tables_left t steps) s
left_beside s t [] = refl
left_beside s t (r ∷ rs) = left_beside s r.tables rs

pub answers_beside : (s : List ℕ) (steps : List RecordStep)
    → map (λ (r : RecordStep). r.answer) (map (beside s) steps) ≡ map (λ (r : RecordStep). r.answer) steps
answers_beside s [] = refl
answers_beside s (r ∷ rs) = ap (λ (l : List (Outcome Sent)). r.answer ∷ l) (answers_beside s rs)

numbers_beside : (s : List ℕ) (steps : List RecordStep) → numbers_of (map (beside s) steps) ≡ numbers_of steps
numbers_beside s [] = refl
numbers_beside s (r ∷ rs) = ap (λ (l : List ℕ). number_of r.answer ∷ l) (numbers_beside s rs)

module _ (p : Plan) where
  pub marked_event : (t : Tables) (e : List ℕ) → Marked p t → Marked p (record_step p t e).tables
  marked_event t e (u, g) = (used_event p t e u, standing_event p t e u g)

  pub marked_events : (t : Tables) → Marked p t → (es : List (List ℕ)) → Marked p (tables_left t (single_calls p t es))
  marked_events = calls_keep p (Marked p) marked_event

  marked_run : (t : Tables) → Marked p t → (events given : List ℕ) → Marked p (record_run p t events given).tables
  marked_run t k events given = subst (Marked p) (run_tables p t events given) (marked_events t k (counted_for (record_run p t events given).answer events))

  module _ (s : List ℕ) where
    module _ (t : Tables) (g : Standing p t) where
      -- a leader reads the same from its bytes as from its inbox
      reads_same : (l : ℕ) → l < p.leaders → (i v : ℕ) → i < p.rms → (v ≡ 1) ⊎ (v ≡ 2) → by_summary p t l i v ≡ by_inbox p t l i v
      reads_same l member = stands_says p _ _ (g.says l member)

      pub step_same : (e : List ℕ) → plain_step p (with_summary t s) e ≡ beside s (record_step p t e)
      step_same e =
          let (answer, tables) = plain_same p t e g.right reads_same in
          plain_with p t e s
          ∙ ap₂ (λ (o : Outcome Sent) (u : Tables). record { answer = o; tables = with_summary u s }) (sym answer) (sym tables)

      judged_same : (events given : List ℕ) → plain_judged p (with_summary t s) events given ≡ run_judged p t events given
      unfolding plain_judged run_judged refuse_if record_judged are_lengths
      judged_same events given = rw g.right

    pub calls_same : (t : Tables) → Marked p t → (es : List (List ℕ)) → plain_calls p (with_summary t s) es ≡ map (beside s) (single_calls p t es)
    calls_same t k [] = refl
    calls_same t k (e ∷ es) =
        ap (λ (r : RecordStep). r ∷ plain_calls p r.tables es) (step_same t k.1 e)
        ∙ ap (λ (l : List RecordStep). beside s (record_step p t e) ∷ l) (calls_same (record_step p t e).tables (marked_event t e k) es)

    finished_same : (t : Tables) → Marked p t → (events : List ℕ) → plain_finished p (with_summary t s) events ≡ beside_run s (finished_run p t events)
    unfolding finished_run
    finished_same t k events =
        let calls : List RecordStep = single_calls p t (events_of events) in
        ap (λ (l : List RecordStep). record { answer = accepted tt; tables = tables_left (with_summary t s) l; answers = numbers_of l })
        (calls_same t k (events_of events))
        ∙ ap₂ (λ (u : Tables) (l : List ℕ). record { answer = accepted tt; tables = u; answers = l }) (left_beside s t calls) (numbers_beside s calls)

    pub run_same : (t : Tables) → Marked p t → (events given : List ℕ) → plain_run p (with_summary t s) events given ≡ beside_run s (record_run p t events given)
    unfolding record_run
    run_same t k events given =
        ap₂ (λ (r : Run) (o : Outcome (Unit {0})). settled_run r (with_summary t s) given o) (finished_same t k events) (judged_same t k.1 events given)
        ∙ go (run_judged p t events given)
      where
        go : (o : Outcome (Unit {0}))
            → settled_run (beside_run s (finished_run p t events)) (with_summary t s) given o ≡ beside_run s (settled_run (finished_run p t events) t given o)
        go (accepted a) = refl
        go (refused number) = refl

    pub counted_same : (t : Tables) → Marked p t → (calls : List Call) → plain_counted p (with_summary t s) calls ≡ counted p t calls
    counted_same t k [] = refl
    counted_same t k (event e ∷ cs) =
        ap (λ (r : RecordStep). e ∷ plain_counted p r.tables cs) (step_same t k.1 e)
        ∙ ap (λ (l : List (List ℕ)). e ∷ l) (counted_same (record_step p t e).tables (marked_event t e k) cs)
    counted_same t k (run events given ∷ cs) =
        ap (λ (r : Run). counted_for r.answer events ++ plain_counted p r.tables cs) (run_same t k events given)
        ∙ ap (λ (l : List (List ℕ)). counted_for (record_run p t events given).answer events ++ l)
        (counted_same (record_run p t events given).tables (marked_run t k events given) cs)

    pub made_same : (t : Tables) → Marked p t → (calls : List Call) → plain_made p (with_summary t s) calls ≡ map (beside s) (made p t calls)
    made_same t k calls = ap (plain_calls p (with_summary t s)) (counted_same t k calls) ∙ calls_same t k (counted p t calls)
