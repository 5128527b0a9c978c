-- What `rm_judged` judges.
--     Sound            rows 1, 2, 3 and 5 do not apply
--     sound, judged    so exactly where it accepts
-- Assumes nothing.
use Rattle.std.specs.Prelude.{ℕ, true, List, ◌≡◌, length}
use Rattle.std.proofs.Common.{eq-eqb, eqb-true}
use Rattle.std.proofs.lemmas.Bool.{not-false}
use Rattle.message.specs.declared.Plan.{Plan}
use Rattle.message.specs.Outcome.{accepted, refuse_if}
use Rattle.message.proofs.Outcome.Laws.{refuse_if_accepted}
use Rattle.message.specs.Plan.{is_plan}
use Rattle.slots.specs.Table.{is_table_length, is_table}
use Rattle.rm.specs.Rm.{are_states, rm_judged}

-- rows 1, 2, 3 and 5 do not apply
pub record Sound (p : Plan) (states network : List ℕ) : Type 0 where
  pub plan : is_plan p ≡ true
  pub one_each : length states ≡ p.rms
  pub whole : is_table_length (length network) ≡ true
  pub known : are_states states ≡ true
  pub ordered : is_table p network ≡ true

pub sound : (p : Plan) (states network : List ℕ) → rm_judged p states network ≡ accepted tt → Sound p states network
unfolding rm_judged
sound p states network e =
    let plan = refuse_if_accepted _ _ _ _ e in
    let one_each = refuse_if_accepted _ _ _ _ plan.1 in
    let whole = refuse_if_accepted _ _ _ _ one_each.1 in
    let known = refuse_if_accepted _ _ _ _ whole.1 in
    let ordered = refuse_if_accepted _ _ _ _ known.1 in
    record {
      plan = not-false _ plan.0;
      one_each = eqb-true _ _ (not-false _ one_each.0);
      whole = not-false _ whole.0;
      known = not-false _ known.0;
      ordered = not-false _ ordered.0;
    }

pub judged : (p : Plan) (states network : List ℕ) → Sound p states network → rm_judged p states network ≡ accepted tt
unfolding rm_judged refuse_if
judged p states network s = rw (s.plan, eq-eqb _ _ s.one_each, s.whole, s.known, s.ordered)
