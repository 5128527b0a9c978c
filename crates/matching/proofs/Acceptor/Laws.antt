-- What an accepted step of an acceptor sets.
--     Took, took                an accepted step: the tables were sound, the event is one of kind 3, and this is its change
--     wrote                     three bytes of Q are written and a message is sent
--     phase1b_acts, phase2b_acts     the published action, the sent message, the bytes of Q
--     keeps, stays_sound        a refusal changes nothing; well-formed tables stay so
-- Assumes nothing.
use Rattle.std.specs.Prelude.{ℕ, ◌+◌, ◌*◌, ◌≤◌, ◌<◌, true, List, ◌⊎◌, ◌↔◌, ◌≡◌, refl, ltb, leb, length, get_or, set}
use Rattle.std.proofs.Common.{sym, ◌∙◌, ap, subst}
use borrow.Author.Tests.{lt-ltb, ltb-true, ltb-false, leb-false, eqb-true, not-false}
use Rattle.message.specs.declared.Plan.{Plan}
use Rattle.message.specs.declared.Message as Wire
use Rattle.message.specs.declared.Message.TheVariants.{Phase1a, Phase1b, Phase2a, Phase2b, Decision}
use Rattle.message.specs.Outcome.{Outcome, accepted, refused, and_then}
use Rattle.message.proofs.Outcome.Laws.{accepted_not_refused, refuse_if_accepted, both}
use Rattle.message.specs.Form.{is_value, is_in_range}
use Rattle.slots.specs.Table.{is_table, messages}
use Rattle.slots.specs.Send.{message_at}
use Rattle.slots.specs.View.{view_table, store_bytes, sending}
use Rattle.change.specs.declared.Change.{Change}
use Rattle.change.specs.declared.Sent.TheVariants.{Slot}
use Rattle.change.specs.declared.Update.TheVariants as Updates
use Rattle.change.specs.declared.Sent.{Sent}
use Rattle.change.specs.Change.{Step, applied}
use Rattle.change.specs.Change.{refusal}
use Rattle.change.specs.Change.Laws.{refused_keeps}
use Rattle.event.specs.Event.{kind_of, who_of, slot_number, is_event}
use Rattle.event.specs.Event.Laws.{acceptor_who}
use Rattle.paxos_commit.specs.PaxosCommit as Source
use Rattle.votes.specs.Votes.{is_vote_state, are_votes}
use Rattle.acceptor.specs.Acceptor.{vote_at, acceptor_judged, phase1b, phase2b, acceptor_receive, acceptor_verdict, acceptor_step}
use Rattle.votes.specs.Votes.Laws.{are_votes_set}
use Rattle.acceptor.specs.Acceptor.Sound.{Sound, sound, judged}
use Rattle.matching.specs.Reading.{val_of, set_of, a_state_of}
use Rattle.matching.specs.Call.{Accepted, Sends}
use Rattle.matching.proofs.Call.Laws.{member_at, slot_in_range, Joined, stored, applied_accepted, and_then_accepted, sending_accepted}
use Rattle.matching.specs.Acceptor.{Phase1bAction, Phase2bAction, state_of, report_of, InSlot}
use Rattle.matching.proofs.Acceptor.Votes.{with_vote, length_with_vote, with_mbal_lem, value_state, entry_mbal}
use Rattle.matching.proofs.Acceptor.Votes.{report_is, kept_state, report_range, raised, cast}

-- an accepted step
pub record Took (p : Plan) (votes network e : List ℕ) : Type 0 where
  pub tables : Sound p votes network
  pub event : is_event p e ≡ true
  pub kind : kind_of e ≡ 3
  pub change : Change
  pub verdict : and_then (message_at (messages p network) (slot_number e)) (acceptor_receive p votes (view_table p network) (who_of e)) ≡ accepted change
  pub step : acceptor_step p votes network e ≡ applied p votes network (accepted change)

pub took : (p : Plan) (votes network e : List ℕ) → Accepted (acceptor_step p votes network e).answer → Took p votes network e
unfolding acceptor_step acceptor_verdict
took p votes network e (a, is) =
    let c = applied_accepted p votes network _ a is in
    let j = and_then_accepted (acceptor_judged p votes network) (λ _. acceptor_verdict p votes (view_table p network) e) c.0 c.1 in
    let plan = refuse_if_accepted _ _ _ _ j.2 in
    let event = refuse_if_accepted _ _ _ _ plan.1 in
    let kind = refuse_if_accepted _ _ _ _ event.1 in
    record {
      tables = sound p votes network j.1;
      event = not-false _ event.0;
      kind = eqb-true _ _ (not-false _ kind.0);
      change = c.0;
      verdict = kind.1;
      step = ap (applied p votes network) c.1;
    }

module _ (p : Plan) (votes network e : List ℕ) where
  -- Q and N are sound after it, of the same lengths
  abbrev SoundAfter : Step → Type 0
  SoundAfter r = Sound p r.table r.network × (length r.table ≡ length votes) × (length r.network ≡ length network)

  -- three bytes were written, and a message sent
  record Wrote (at mbal bal val : ℕ) (m : Wire.Message) (r : Step) : Type 0 where
    pub sends : Sends p network m r.answer r.network
    pub joins : (x : Source.Message) → set_of (messages p r.network) x ↔ Joined (messages p network) m x
    pub table_is : r.table ≡ with_vote votes at mbal bal val
    pub sound_after : SoundAfter r

  module _ (t : Took p votes network e) where
    abbrev after : Step
    after = acceptor_step p votes network e

    who : who_of e < p.acceptors
    who = acceptor_who p e t.event t.kind

    module _ (ins mbal bal val : ℕ) (vote : is_vote_state bal val ≡ true) where
      abbrev at : ℕ
      at = vote_at p ins (who_of e)

      known_after : are_votes (with_vote votes at mbal bal val) ≡ true
      unfolding vote_at
      known_after = are_votes_set votes t.tables.known (ins * p.acceptors + who_of e) mbal bal val vote

      sound_with : (network' : List ℕ) → length network' ≡ length network → is_table p network' ≡ true
          → SoundAfter (record { answer = refused 0; table = with_vote votes at mbal bal val; network = network' })
      sound_with network' same ordered = (
        record {
          plan = t.tables.plan;
          three_each = length_with_vote votes at mbal bal val ∙ t.tables.three_each;
          whole = rw same t.tables.whole;
          known = known_after;
          ordered = ordered;
        },
        length_with_vote votes at mbal bal val,
        same,
      )

      wrote : (m : Wire.Message) → is_in_range p m ≡ true
          → sending 13 ((view_table p network).send m)
          (λ slot store. accepted (record { table = Updates.Vote at mbal bal val; network = store; sent = Slot slot }))
          ≡ accepted t.change
          → Wrote at mbal bal val m after
      wrote m range sent =
          let (slot, store, send, is) = sending_accepted 13 _ _ _ sent in
          let s = stored p network t.tables.plan t.tables.whole t.tables.ordered m range slot store send in
          let step : applied p votes network (accepted (record { table = Updates.Vote at mbal bal val; network = store; sent = Slot slot })) ≡ after
          = ap (applied p votes network) is ∙ sym t.step in
          subst (Wrote at mbal bal val m) step
          (record {
            sends = record { slot = slot; answered = refl; stands = s.stands; first = s.first; stores = s.stores };
            joins = s.joins;
            table_is = refl;
            sound_after = sound_with (store_bytes p store network) s.same_length s.ordered;
          })

    in_range_lem : (m : Wire.Message) → InSlot p network e m → is_in_range p m ≡ true
    in_range_lem = slot_in_range p network t.tables.whole t.tables.ordered (slot_number e)

    -- on a 1a
    module _ (ins bal : ℕ) (is : InSlot p network e (Phase1a ins bal)) where
      instance_1a : ins < p.rms
      unfolding is_in_range
      instance_1a = ltb-true _ _ (both (ltb ins p.rms) (leb 1 bal) (in_range_lem _ is)).0

      promised : (get_or votes (vote_at p ins (who_of e)) 0 < bal)
          × Wrote (vote_at p ins (who_of e)) bal (get_or votes (vote_at p ins (who_of e) + 1) 0) (get_or votes (vote_at p ins (who_of e) + 2) 0)
          (report_of p votes (who_of e) ins bal) after
      unfolding and_then acceptor_receive phase1b
      promised =
          let got : phase1b p votes (view_table p network) (who_of e) ins bal ≡ accepted t.change = rw is at t.verdict in
          let low = refuse_if_accepted _ _ _ _ got in
          let vote = kept_state p votes ins (who_of e) instance_1a who t.tables.three_each t.tables.known in
          let range = report_range p votes ins (who_of e) instance_1a who t.tables.three_each t.tables.known bal in
          (leb-false _ _ low.0, wrote ins bal _ _ vote (report_of p votes (who_of e) ins bal) range low.1)

      pub phase1b_acts : (rm_state : ℕ → ℕ)
          → Phase1bAction p (who_of e) ins bal (state_of p votes network rm_state) (state_of p after.table after.network rm_state)
          × Sends p network (report_of p votes (who_of e) ins bal) after.answer after.network
          × (after.table ≡ set votes (vote_at p ins (who_of e)) bal)
      phase1b_acts rm_state =
          let (low, w) = promised in
          let table = w.table_is ∙ with_mbal_lem votes (vote_at p ins (who_of e)) bal in (
            (
              (Phase1a ins bal, member_at _ _ _ is, refl),
              rw (entry_mbal p votes ins (who_of e) instance_1a who) low,
              ap (a_state_of p) table ∙ raised p votes ins (who_of e) instance_1a who t.tables.three_each bal,
              λ x. subst (Adds x) (report_is p votes ins (who_of e) instance_1a who bal) (w.joins x),
              refl,
            ),
            w.sends,
            table,
          )
        where
          Adds : Source.Message → Source.Message → Type 0
          Adds x m = set_of (messages p after.network) x ↔ (set_of (messages p network) x ⊎ (x ≡ m))

    -- on a 2a
    module _ (ins bal val : ℕ) (is : InSlot p network e (Phase2a ins bal val)) where
      range_2a : (ins < p.rms) × (is_value val ≡ true)
      unfolding is_in_range
      range_2a = let b = both (ltb ins p.rms) (is_value val) (in_range_lem _ is) in (ltb-true _ _ b.0, b.1)

      in_range_2b : is_in_range p (Phase2b ins (who_of e) bal val) ≡ true
      unfolding is_in_range
      in_range_2b = rw (lt-ltb ins p.rms range_2a.0, lt-ltb (who_of e) p.acceptors who, range_2a.1)

      voted : (get_or votes (vote_at p ins (who_of e)) 0 ≤ bal) × Wrote (vote_at p ins (who_of e)) bal bal val (Phase2b ins (who_of e) bal val) after
      unfolding and_then acceptor_receive phase2b
      voted =
          let got : phase2b p votes (view_table p network) (who_of e) ins bal val ≡ accepted t.change = rw is at t.verdict in
          let low = refuse_if_accepted _ _ _ _ got in
          (ltb-false _ _ low.0, wrote ins bal bal val (value_state bal val range_2a.1) (Phase2b ins (who_of e) bal val) in_range_2b low.1)

      pub phase2b_acts : (rm_state : ℕ → ℕ)
          → Phase2bAction p (who_of e) ins bal (val_of val) (state_of p votes network rm_state) (state_of p after.table after.network rm_state)
          × Sends p network (Phase2b ins (who_of e) bal val) after.answer after.network
          × (after.table ≡ with_vote votes (vote_at p ins (who_of e)) bal bal val)
      phase2b_acts rm_state =
          let (low, w) = voted in (
            (
              (Phase2a ins bal val, member_at _ _ _ is, refl),
              rw (entry_mbal p votes ins (who_of e) range_2a.0 who) low,
              ap (a_state_of p) w.table_is ∙ cast p votes ins (who_of e) range_2a.0 who t.tables.three_each bal val range_2a.1,
              w.joins,
              refl,
            ),
            w.sends,
            w.table_is,
          )

    -- an accepted step by its message
    took_sound : SoundAfter after
    unfolding acceptor_receive
    took_sound =
        let (m, is, taken) = and_then_accepted (message_at (messages p network) (slot_number e)) _ _ t.verdict in go m is taken
      where
        go : (m : Wire.Message) → InSlot p network e m → acceptor_receive p votes (view_table p network) (who_of e) m ≡ accepted t.change
            → SoundAfter after
        go (Phase1a ins bal) is taken = (promised ins bal is).1.sound_after
        go (Phase1b ins acc mbal vote) is taken = absurd (accepted_not_refused taken)
        go (Phase2a ins bal val) is taken = (voted ins bal val is).1.sound_after
        go (Phase2b ins acc bal val) is taken = absurd (accepted_not_refused taken)
        go (Decision val) is taken = absurd (accepted_not_refused taken)

  pub keeps : (k : ℕ) → (acceptor_step p votes network e).answer ≡ refused k → acceptor_step p votes network e ≡ refusal votes network k
  unfolding acceptor_step
  keeps k is =
      refused_keeps p votes network (and_then (acceptor_judged p votes network) (λ _. acceptor_verdict p votes (view_table p network) e)) k is

  abbrev Kept : Step → Type 0
  Kept r = (acceptor_judged p r.table r.network ≡ accepted tt) × (length r.table ≡ length votes) × (length r.network ≡ length network)

  pub stays_sound : acceptor_judged p votes network ≡ accepted tt → Kept (acceptor_step p votes network e)
  stays_sound s = go (acceptor_step p votes network e).answer refl
    where
      go : (answer : Outcome Sent) → (acceptor_step p votes network e).answer ≡ answer → Kept (acceptor_step p votes network e)
      go (accepted a) is = let (s, l, n) = took_sound (took p votes network e (a, is)) in (judged p _ _ s, l, n)
      go (refused k) is = subst Kept (sym (keeps k is)) (s, refl, refl)
