-- What `acceptor_judged` judges.
--     Sound            rows 1, 2, 4 and 5 do not apply
--     sound, judged    so exactly where it accepts
-- Assumes nothing.
use Rattle.std.specs.Prelude.{ℕ, ◌*◌, true, List, ◌≡◌, length}
use Rattle.std.proofs.Common.{eq-eqb, eqb-true}
use Rattle.std.proofs.lemmas.Bool.{not-false}
use Rattle.message.specs.declared.Plan.{Plan}
use Rattle.message.specs.Outcome.{accepted, refuse_if}
use Rattle.message.proofs.Outcome.Laws.{refuse_if_accepted}
use Rattle.message.specs.Plan.{is_plan}
use Rattle.slots.specs.Table.{is_table_length, is_table}
use Rattle.votes.specs.Votes.{are_votes}
use Rattle.acceptor.specs.Acceptor.{acceptor_judged}

-- rows 1, 2, 4 and 5 do not apply
pub record Sound (p : Plan) (votes network : List ℕ) : Type 0 where
  pub plan : is_plan p ≡ true
  pub three_each : length votes ≡ 3 * (p.rms * p.acceptors)
  pub whole : is_table_length (length network) ≡ true
  pub known : are_votes votes ≡ true
  pub ordered : is_table p network ≡ true

pub sound : (p : Plan) (votes network : List ℕ) → acceptor_judged p votes network ≡ accepted tt → Sound p votes network
unfolding acceptor_judged
sound p votes network e =
    let plan = refuse_if_accepted _ _ _ _ e in
    let three_each = refuse_if_accepted _ _ _ _ plan.1 in
    let whole = refuse_if_accepted _ _ _ _ three_each.1 in
    let known = refuse_if_accepted _ _ _ _ whole.1 in
    let ordered = refuse_if_accepted _ _ _ _ known.1 in
    record {
      plan = not-false _ plan.0;
      three_each = eqb-true _ _ (not-false _ three_each.0);
      whole = not-false _ whole.0;
      known = not-false _ known.0;
      ordered = not-false _ ordered.0;
    }

pub judged : (p : Plan) (votes network : List ℕ) → Sound p votes network → acceptor_judged p votes network ≡ accepted tt
unfolding acceptor_judged refuse_if
judged p votes network s = rw (s.plan, eq-eqb _ _ s.three_each, s.whole, s.known, s.ordered)
