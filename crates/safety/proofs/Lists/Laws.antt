-- Laws of lists of calls.
--     run_tables, after_run                         a list call leaves what the single calls leave that it counts as
--     events_counted                                event calls count as their events
--     counted_append, made_append, tables_append    the calls of two lists, one after the other
--     each_append                                   what holds of each call of both holds of each call of the second
--     each_split                                    what holds after each call of both holds after each of the second
-- Assumes nothing.
use Rattle.std.specs.Prelude.{ℕ, List, [], ◌∷◌, ◌++◌, map, ◌≡◌}
use Rattle.std.proofs.Common.{append_assoc, ◌∙◌, ap}
use Rattle.std.proofs.Math.Path.{refl, sym}
use Rattle.message.specs.declared.Plan.{Plan}
use Rattle.message.specs.Outcome.{Outcome, accepted, refused}
use Rattle.record.specs.Record.{Tables, RecordStep, record_step}
use Rattle.batch.specs.Run.{single_calls, tables_left, Run, finished_run, record_run}
use Rattle.batch.proofs.RunLaws.{calls_append, left_append, run_accepted, run_refused}
use Rattle.safety.specs.Lists.{Call, event, run, counted_for, counted, made, Each, AfterEach, tables_after}

module _ (p : Plan) where
  pub run_tables : (t : Tables) (events given : List ℕ)
      → tables_left t (single_calls p t (counted_for (record_run p t events given).answer events)) ≡ (record_run p t events given).tables
  unfolding finished_run
  run_tables t events given = go (record_run p t events given).answer refl
    where
      go : (o : Outcome (Unit {0})) → (record_run p t events given).answer ≡ o
          → tables_left t (single_calls p t (counted_for o events)) ≡ (record_run p t events given).tables
      go (accepted u) is = sym (ap (λ (r : Run). r.tables) (run_accepted p t events given is))
      go (refused k) is = sym (ap (λ (r : Run). r.tables) (run_refused p t events given k is))

  pub after_run : (t : Tables) (events given : List ℕ) (cs : List Call)
      → tables_after p t (run events given ∷ cs) ≡ tables_after p (record_run p t events given).tables cs
  after_run t events given cs =
      let own : List (List ℕ) = counted_for (record_run p t events given).answer events in
      let rest : List (List ℕ) = counted p (record_run p t events given).tables cs in
      ap (tables_left t) (calls_append p t own rest)
      ∙ left_append t (single_calls p t own) (single_calls p (tables_left t (single_calls p t own)) rest)
      ∙ ap (λ (u : Tables). tables_left u (single_calls p u rest)) (run_tables t events given)

  pub events_counted : (t : Tables) (es : List (List ℕ)) (calls : List Call)
      → counted p t (map event es ++ calls) ≡ es ++ counted p (tables_left t (single_calls p t es)) calls
  events_counted t [] calls = refl
  events_counted t (e ∷ es) calls = ap (λ (l : List (List ℕ)). e ∷ l) (events_counted (record_step p t e).tables es calls)

  pub counted_append : (t : Tables) (calls more : List Call) → counted p t (calls ++ more) ≡ counted p t calls ++ counted p (tables_after p t calls) more
  counted_append t [] more = refl
  counted_append t (event e ∷ cs) more = ap (λ (es : List (List ℕ)). e ∷ es) (counted_append (record_step p t e).tables cs more)
  counted_append t (run events given ∷ cs) more =
      let own : List (List ℕ) = counted_for (record_run p t events given).answer events in
      ap (λ (es : List (List ℕ)). own ++ es) (counted_append (record_run p t events given).tables cs more)
      ∙ sym (append_assoc own (counted p (record_run p t events given).tables cs) (counted p (tables_after p (record_run p t events given).tables cs) more))
      ∙ ap (λ (u : Tables). (own ++ counted p (record_run p t events given).tables cs) ++ counted p u more) (sym (after_run t events given cs))

  pub made_append : (t : Tables) (calls more : List Call) → made p t (calls ++ more) ≡ made p t calls ++ made p (tables_after p t calls) more
  made_append t calls more = ap (single_calls p t) (counted_append t calls more) ∙ calls_append p t (counted p t calls) (counted p (tables_after p t calls) more)

  pub tables_append : (t : Tables) (calls more : List Call) → tables_after p t (calls ++ more) ≡ tables_after p (tables_after p t calls) more
  tables_append t calls more = ap (tables_left t) (made_append t calls more) ∙ left_append t (made p t calls) (made p (tables_after p t calls) more)

pub each_append : (P : Tables → RecordStep → Type 0) (t : Tables) (a b : List RecordStep) → Each P t (a ++ b) → Each P (tables_left t a) b
each_append P t [] b h = h
each_append P t (s ∷ ss) b h = each_append P s.tables ss b h.1

-- what holds after each call of two lists, one after the other, holds after each of the second
pub each_split : (p : Plan) (P : Tables → RecordStep → Type 0) (t : Tables) (calls more : List Call)
    → AfterEach p P t (calls ++ more) → AfterEach p P (tables_after p t calls) more
each_split p P t calls more h = each_append P t (made p t calls) (made p (tables_after p t calls) more) (rw (made_append p t calls more) at h)
