-- What `record_judged` judges.
--     Lengths, lengths                             row 2 does not apply
--     Sound, sound_of                              rows 1 to 6 do not apply
--     sound, judged                                so exactly where it accepts
--     inbox_whole, inbox_ordered                   each inbox by itself
--     judged_rm, judged_acceptor, judged_leader    what is sound for the record is sound for each role's own call
-- Assumes nothing.
use Rattle.std.specs.Prelude.{ℕ, ◌*◌, ◌%◌, ◌<◌, true, ◌&&◌, ◌≡◌, length}
use Rattle.std.proofs.Math.Bool.{Bool}
use Rattle.std.proofs.Math.Dec.{eqb}
use borrow.Author.Tests.{eq-eqb, eqb-true, not-false}
use Rattle.message.specs.declared.Plan.{Plan}
use Rattle.message.specs.Outcome.{accepted, refuse_if}
use Rattle.message.proofs.Outcome.Laws.{refuse_if_accepted, both}
use Rattle.message.specs.Plan.{is_plan}
use Rattle.message.proofs.PlanLaws.{plan_bounds}
use Rattle.slots.specs.Table.{is_table_length, is_table}
use Rattle.inbox.specs.Inbox.Quantifiers.{for_all_all, all_for_all}
use Rattle.rm.specs.Rm.{are_states, rm_judged}
use Rattle.rm.specs.Rm.Laws as Rm
use Rattle.votes.specs.Votes.{are_votes}
use Rattle.acceptor.specs.Acceptor.{acceptor_judged}
use Rattle.acceptor.specs.Acceptor.Sound as Acceptor
use Rattle.leader.specs.Leader.{leader_judged}
use Rattle.leader.specs.Leader.Sound as Leader
use Rattle.record.specs.Record.{Tables, inbox_size, inbox_of, are_lengths, are_inboxes, record_judged}
use Rattle.record.specs.Record.Parts.{length_inbox_of}

pub record Lengths (p : Plan) (t : Tables) : Type 0 where
  pub one_each : length t.states ≡ p.rms
  pub three_each : length t.votes ≡ 3 * (p.rms * p.acceptors)
  pub network_whole : is_table_length (length t.network) ≡ true
  pub equal_parts : length t.inboxes % p.leaders ≡ 0
  pub part_whole : is_table_length (inbox_size p t.inboxes) ≡ true

pub record Sound (p : Plan) (t : Tables) : Type 0 where
  pub plan : is_plan p ≡ true
  pub one_each : length t.states ≡ p.rms
  pub three_each : length t.votes ≡ 3 * (p.rms * p.acceptors)
  pub network_whole : is_table_length (length t.network) ≡ true
  pub equal_parts : length t.inboxes % p.leaders ≡ 0
  pub part_whole : is_table_length (inbox_size p t.inboxes) ≡ true
  pub known_states : are_states t.states ≡ true
  pub known_votes : are_votes t.votes ≡ true
  pub network_ordered : is_table p t.network ≡ true
  pub inboxes_ordered : (l : ℕ) → l < p.leaders → is_table p (inbox_of p t.inboxes l) ≡ true

module _ (p : Plan) (t : Tables) where
  pub lengths : are_lengths p t ≡ true → Lengths p t
  unfolding are_lengths
  lengths right =
      let one : Bool = eqb (length t.states) p.rms in
      let two : Bool = one && eqb (length t.votes) (3 * (p.rms * p.acceptors)) in
      let three : Bool = two && is_table_length (length t.network) in
      let four : Bool = three && eqb (length t.inboxes % p.leaders) 0 in
      let last = both four (is_table_length (inbox_size p t.inboxes)) right in
      let parts = both three _ last.0 in
      let whole = both two _ parts.0 in
      let each = both one _ whole.0 in
      record {
        one_each = eqb-true _ _ each.0;
        three_each = eqb-true _ _ each.1;
        network_whole = whole.1;
        equal_parts = eqb-true _ _ parts.1;
        part_whole = last.1;
      }

  pub sound_of : is_plan p ≡ true → are_lengths p t ≡ true → are_states t.states ≡ true → are_votes t.votes ≡ true
      → is_table p t.network ≡ true → are_inboxes p t.inboxes ≡ true → Sound p t
  unfolding are_inboxes
  sound_of plan right states votes network inboxes =
      let l = lengths right in
      record {
        plan = plan;
        one_each = l.one_each;
        three_each = l.three_each;
        network_whole = l.network_whole;
        equal_parts = l.equal_parts;
        part_whole = l.part_whole;
        known_states = states;
        known_votes = votes;
        network_ordered = network;
        inboxes_ordered = for_all_all _ p.leaders inboxes;
      }

  pub sound : record_judged p t ≡ accepted tt → Sound p t
  unfolding record_judged
  sound e =
      let plan = refuse_if_accepted _ _ _ _ e in
      let right = refuse_if_accepted _ _ _ _ plan.1 in
      let states = refuse_if_accepted _ _ _ _ right.1 in
      let votes = refuse_if_accepted _ _ _ _ states.1 in
      let network = refuse_if_accepted _ _ _ _ votes.1 in
      let inboxes = refuse_if_accepted _ _ _ _ network.1 in
      sound_of (not-false _ plan.0) (not-false _ right.0) (not-false _ states.0) (not-false _ votes.0) (not-false _ network.0)
      (not-false _ inboxes.0)

  module _ (s : Sound p t) where
    pub lengths_right : are_lengths p t ≡ true
    unfolding are_lengths
    lengths_right = rw (eq-eqb _ _ s.one_each, eq-eqb _ _ s.three_each, s.network_whole, eq-eqb _ _ s.equal_parts, s.part_whole)

    pub judged : record_judged p t ≡ accepted tt
    unfolding record_judged refuse_if are_inboxes
    judged =
        let all = all_for_all (λ l. is_table p (inbox_of p t.inboxes l)) p.leaders s.inboxes_ordered in
        rw (s.plan, lengths_right, s.known_states, s.known_votes, s.network_ordered, all)

    pub judged_rm : rm_judged p t.states t.network ≡ accepted tt
    judged_rm = Rm.judged p t.states t.network
        (record { plan = s.plan; one_each = s.one_each; whole = s.network_whole; known = s.known_states; ordered = s.network_ordered })

    pub judged_acceptor : acceptor_judged p t.votes t.network ≡ accepted tt
    judged_acceptor = Acceptor.judged p t.votes t.network
        (record { plan = s.plan; three_each = s.three_each; whole = s.network_whole; known = s.known_votes; ordered = s.network_ordered })

    module _ (l : ℕ) (member : l < p.leaders) where
      pub inbox_whole : is_table_length (length (inbox_of p t.inboxes l)) ≡ true
      inbox_whole = rw (length_inbox_of p t.inboxes l (plan_bounds p s.plan).leaders_least member) s.part_whole

      pub judged_leader : leader_judged p (inbox_of p t.inboxes l) t.network ≡ accepted tt
      judged_leader = Leader.judged p (inbox_of p t.inboxes l) t.network
          (record {
            plan = s.plan;
            inbox_whole = inbox_whole;
            network_whole = s.network_whole;
            network_ordered = s.network_ordered;
            inbox_ordered = s.inboxes_ordered l member;
          })
