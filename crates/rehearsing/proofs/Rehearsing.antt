-- From the text to the rehearsal.
--     votes_within, summary_within                the bytes of Q and of the summary, at most
--     opened_judged, run_opened                   the tables' parts are opened as the fresh ones, which are sound
--     nothing_put, rehearsal_put                  a buffer that is too short, and one that is not
--     plan_given_lem, plan_refused                the two cases of the text
--     events_within, given_plan                   what the events' length and the plan are known to be
-- Assumes nothing.
use Prim.Native.Nat.{ℕ, ◌+◌, ◌*◌, ◌≤◌, ◌<◌}
use mathlib.Core.Bool.{true}
use mathlib.Core.List.{List}
use mathlib.Core.Path.{◌≡◌, refl, sym, ◌∙◌, ap}
use native.Mathlib.Nat.{mul-le-mul}
use native.Mathlib.Omega.{arith}
use lib.ListN.{length, take}
use lib.Seq.{length-take-le}
use borrow.Author.Tests.{lt-ltb, le-ltb}
use Rattle.message.specs.declared.Plan.{Plan}
use Rattle.message.specs.Outcome.{accepted, outcome, refusal_number}
use Rattle.message.specs.Plan.{is_plan}
use Rattle.message.proofs.PlanLaws.{plan_bounds}
use Rattle.slots.specs.Table.{is_table_length}
use Rattle.record.specs.Record.{Tables, tables_of, Opening, record_open, lent_judged}
use Rattle.safety.specs.Lists.{Call}
use Rattle.message.specs.declared.Refusal.{Refusal}
use Rattle.std.specs.Prelude.{Result, Ok, Err}
use Rattle.rehearsal_input.specs.Input.{plan_in, events_in}
use Rattle.rehearsal_input.proofs.Input.Laws.{plan_in_is}
use Rattle.rehearsal_input.proofs.Theorems.{events_count}
use Rattle.rehearsal_text.specs.Text.{line, Put, put_of, put}
use Rattle.rehearsal_text.proofs.Text.Laws.{put_within}
use Rattle.rehearsing.specs.Rehearsal.{calls_in, fresh_tables, text_of, printed_for, rehearsed, rehearsal}
use Rattle.rehearsing.specs.Rehearsal.Laws.{opens, fresh_judged, rehearsed_length}

module _ (p : Plan) (plan : is_plan p ≡ true) where
  pub votes_within : p.rms * p.acceptors ≤ 112
  votes_within =
      mul-le-mul {n₁ = p.rms} {m₁ = p.acceptors} {n₂ = 16} {m₂ = 7} (plan_bounds p plan).rms_most (plan_bounds p plan).acceptors_most

  pub summary_within : p.rms * p.leaders ≤ 64
  summary_within =
      mul-le-mul {n₁ = p.rms} {m₁ = p.leaders} {n₂ = 16} {m₂ = 4} (plan_bounds p plan).rms_most (plan_bounds p plan).leaders_most

  module _ (w q n i s : List ℕ) (lengths : (length w ≡ 16) × (length q ≡ 336) × (length n ≡ 8192) × (length i ≡ 32768) × (length s ≡ 64))
      (o : Opening)
      (cleared : o
      ≡ record_open p (tables_of (take p.rms w) (take (3 * (p.rms * p.acceptors)) q) n (take (p.leaders * 8192) i) (take (p.rms * p.leaders) s))) where
    tables_opened : o.tables ≡ fresh_tables 1024 p
    unfolding is_table_length
    tables_opened =
        let b = plan_bounds p plan in
        let v = votes_within in
        let m = summary_within in
        let first = b.rms_most in
        let last = b.leaders_most in
        let is = opens p 1024 plan refl _ (length-take-le p.rms w (omega arith)) (length-take-le (3 * (p.rms * p.acceptors)) q (omega arith))
        lengths.2 (length-take-le (p.leaders * 8192) i (omega arith)) (length-take-le (p.rms * p.leaders) s (omega arith)) in
        ap (λ (x : Opening). x.tables) (cleared ∙ is)

    pub opened_judged : lent_judged p o.tables ≡ accepted tt
    unfolding is_table_length
    opened_judged = ap (lent_judged p) tables_opened ∙ fresh_judged p 1024 plan refl

    pub run_opened : (calls : List Call) (output : List ℕ) (r : Put) → r ≡ put 0 (text_of p o.tables calls) output
        → r ≡ put 0 (text_of p (fresh_tables 1024 p) calls) output
    run_opened calls output r run = run ∙ ap (λ (x : Tables). put 0 (text_of p x calls) output) tables_opened

module _ (input output : List ℕ) where
  pub nothing_put : length output < 24586 → put_of 0 output ≡ rehearsal input output
  unfolding rehearsal
  nothing_put h = rw (lt-ltb (length output) 24586 h)

  pub rehearsal_put : 24586 ≤ length output → (text : List ℕ) → text ≡ rehearsed input
      → (s : Put) → s ≡ put 0 text output → s ≡ rehearsal input output
  unfolding rehearsal
  rehearsal_put h text is s done =
      let k = rehearsed_length input in
      let zero_more : 0 + length (rehearsed input) ≡ length (rehearsed input) = omega arith in
      let whole = put_within 0 (rehearsed input) output (omega arith) in
      rw (le-ltb (length output) 24586 h) (done ∙ ap (λ (l : List ℕ). put 0 l output) is ∙ rw zero_more at whole)

module _ (input : List ℕ) (begun : Result Plan Refusal) (read : outcome begun ≡ plan_in input) where
  module _ (p : Plan) (given : begun ≡ Ok p) where
    plan_is : plan_in input ≡ accepted p
    plan_is = sym read ∙ ap outcome given

    pub given_plan : is_plan p ≡ true
    given_plan = plan_in_is input p plan_is

    pub plan_given_lem : (events : List ℕ) → events ≡ events_in input → text_of p (fresh_tables 1024 p) (calls_in 8192 events) ≡ rehearsed input
    unfolding rehearsed printed_for
    plan_given_lem events is = rw (plan_is, is)

  pub plan_refused : (refusal : Refusal) → begun ≡ Err refusal → line (refusal_number refusal) ≡ rehearsed input
  unfolding rehearsed printed_for
  plan_refused refusal refusing = rw (sym read ∙ ap outcome refusing)

pub events_within : (input events : List ℕ) → events ≡ events_in input → length events ≤ 32768
events_within input events is = let k = events_count input in rw is (omega arith)
