-- What `leader_judged` judges.
--     Sound            rows 1, 2, 5 and 6 do not apply
--     sound, judged    so exactly where it accepts
-- Assumes nothing.
use Rattle.std.specs.Prelude.{ℕ, true, List, ◌≡◌, length}
use Rattle.std.proofs.lemmas.Bool.{not-false}
use Rattle.message.specs.declared.Plan.{Plan}
use Rattle.message.specs.Outcome.{accepted, refuse_if}
use Rattle.message.proofs.Outcome.Laws.{refuse_if_accepted}
use Rattle.message.specs.Plan.{is_plan}
use Rattle.slots.specs.Table.{is_table_length, is_table}
use Rattle.leader.specs.Leader.{leader_judged}

-- rows 1, 2, 5 and 6 do not apply
pub record Sound (p : Plan) (inbox network : List ℕ) : Type 0 where
  pub plan : is_plan p ≡ true
  pub inbox_whole : is_table_length (length inbox) ≡ true
  pub network_whole : is_table_length (length network) ≡ true
  pub network_ordered : is_table p network ≡ true
  pub inbox_ordered : is_table p inbox ≡ true

pub sound : (p : Plan) (inbox network : List ℕ) → leader_judged p inbox network ≡ accepted tt → Sound p inbox network
unfolding leader_judged
sound p inbox network e =
    let plan = refuse_if_accepted _ _ _ _ e in
    let inbox_whole = refuse_if_accepted _ _ _ _ plan.1 in
    let network_whole = refuse_if_accepted _ _ _ _ inbox_whole.1 in
    let network_ordered = refuse_if_accepted _ _ _ _ network_whole.1 in
    let inbox_ordered = refuse_if_accepted _ _ _ _ network_ordered.1 in
    record {
      plan = not-false _ plan.0;
      inbox_whole = not-false _ inbox_whole.0;
      network_whole = not-false _ network_whole.0;
      network_ordered = not-false _ network_ordered.0;
      inbox_ordered = not-false _ inbox_ordered.0;
    }

pub judged : (p : Plan) (inbox network : List ℕ) → Sound p inbox network → leader_judged p inbox network ≡ accepted tt
unfolding leader_judged refuse_if
judged p inbox network s = rw (s.plan, s.inbox_whole, s.network_whole, s.network_ordered, s.inbox_ordered)
