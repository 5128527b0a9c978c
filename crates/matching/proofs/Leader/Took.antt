-- An accepted step of a leader, and what its stores leave.
--     Took, took            an accepted step: the tables were sound, the event is one of kinds 4 to 8, and this is its change
--     SoundAfter, Sending   both tables are sound after it, of the same lengths; a message was sent
--     store_acts, only_acts, both_acts     a message stored in the inbox, in N, in both
-- By kind in Laws.antt. Assumes nothing.
use Rattle.std.specs.Prelude.{ℕ, ◌≤◌, Bool, true, List, ◌≡◌, length, Option}
use Rattle.std.proofs.Math.Path.{refl, subst}
use Rattle.std.proofs.Common.{sym, ◌∙◌, ap, ltb-false}
use Rattle.std.proofs.lemmas.Bool.{not-false}
use Rattle.message.specs.declared.Plan.{Plan}
use Rattle.message.specs.declared.Message as Wire
use Rattle.message.specs.declared.Message.TheVariants.{Phase1a, Phase1b, Phase2a, Phase2b, Decision}
use Rattle.message.specs.Outcome.{Outcome, accepted, refused}
use Rattle.message.proofs.Outcome.Laws.{accepted_not_refused, refuse_if_accepted}
use Rattle.message.specs.Form.{is_in_range}
use Rattle.slots.specs.declared.Put.{Put}
use Rattle.slots.specs.Table.{is_table, messages}
use Rattle.slots.proofs.Table.Holds.{all_in_range, holds_judged}
use Rattle.slots.specs.View.{View, view_table, store_bytes, sends}
use Rattle.change.specs.declared.Change.{Change}
use Rattle.change.specs.declared.Sent.TheVariants.{Slot, Quiet}
use Rattle.change.specs.Change.{Step, applied}
use Rattle.event.specs.Event.{kind_of, is_event}
use Rattle.paxos_commit.specs.PaxosCommit.{AState, State}
use Rattle.leader.specs.Leader.{leader_judged, receipt_store, receipt, send_only, keep_own, send_both}
use Rattle.leader.specs.Leader.{leader_kind, leader_verdict_by, leader_step_by}
use Rattle.leader.specs.Leader.Sound.{Sound, sound}
use Rattle.matching.specs.Reading.{message_of}
use Rattle.matching.specs.Call.{Accepted, Stores, Sends}
use Rattle.matching.proofs.Call.Laws.{Stored, stored, applied_accepted, and_then_accepted, sending_accepted}
use Rattle.matching.specs.Leader.{state_of}
use Rattle.matching.proofs.Leader.Guards.{Joins}

-- an accepted step
pub record Took (p : Plan) (isDecided : ℕ → ℕ → Bool) (inbox network e : List ℕ) : Type 0 where
  pub tables : Sound p inbox network
  pub event : is_event p e ≡ true
  pub least : 4 ≤ kind_of e
  pub change : Change
  pub verdict : leader_kind p isDecided (view_table p inbox) (view_table p network) e (kind_of e) ≡ accepted change
  pub step : leader_step_by p isDecided inbox network e ≡ applied p inbox network (accepted change)

pub took : (p : Plan) (isDecided : ℕ → ℕ → Bool) (inbox network e : List ℕ) → Accepted (leader_step_by p isDecided inbox network e).answer
    → Took p isDecided inbox network e
unfolding leader_step_by leader_verdict_by
took p isDecided inbox network e (a, is) =
    let c = applied_accepted p inbox network _ a is in
    let j = and_then_accepted (leader_judged p inbox network) (λ _. leader_verdict_by p isDecided (view_table p inbox) (view_table p network) e) c.0 c.1 in
    let plan = refuse_if_accepted _ _ _ _ j.2 in
    let event = refuse_if_accepted _ _ _ _ plan.1 in
    let least = refuse_if_accepted _ _ _ _ event.1 in
    record {
      tables = sound p inbox network j.1;
      event = not-false _ event.0;
      least = ltb-false _ _ least.0;
      change = c.0;
      verdict = least.1;
      step = ap (applied p inbox network) c.1;
    }

-- a message that is taken is stored
pub receipt_stores : (box : View) (m : Wire.Message) (change : Change) → receipt box m ≡ accepted change → receipt_store box m ≡ accepted change
unfolding receipt
receipt_stores box (Phase1a ins bal) change e = absurd (accepted_not_refused e)
receipt_stores box (Phase1b ins acc mbal vote) change e = e
receipt_stores box (Phase2a ins bal val) change e = (refuse_if_accepted _ _ _ _ e).1
receipt_stores box (Phase2b ins acc bal val) change e = e
receipt_stores box (Decision val) change e = absurd (accepted_not_refused e)

module _ (p : Plan) (inbox network e : List ℕ) (rm_state : ℕ → ℕ) (a_state : ℕ → ℕ → AState) where
  abbrev pub before : State
  before = state_of p network rm_state a_state

  abbrev pub next : Step → State
  next r = state_of p r.network rm_state a_state

  -- both tables are sound after it, of the same lengths
  abbrev pub SoundAfter : Step → Type 0
  SoundAfter r = Sound p r.table r.network × (length r.table ≡ length inbox) × (length r.network ≡ length network)

  -- m is sent, and nothing else changes but the inbox
  abbrev pub Sending : Wire.Message → Step → Type 0
  Sending m r = Joins p (message_of m) before (next r) × Sends p network m r.answer r.network

  module _ {isDecided : ℕ → ℕ → Bool} (t : Took p isDecided inbox network e) where
    abbrev pub after : Step
    after = leader_step_by p isDecided inbox network e

    abbrev pub took_by : Outcome Change → Type 0
    took_by o = o ≡ accepted t.change

    step_of : (o : Outcome Change) → took_by o → applied p inbox network o ≡ after
    step_of o is = ap (applied p inbox network) is ∙ sym t.step

    pub inbox_range : all_in_range p (messages p inbox) ≡ true
    inbox_range = (holds_judged p inbox t.tables.inbox_whole t.tables.inbox_ordered).in_range

    sound_after : (inbox' network' : List ℕ) → length inbox' ≡ length inbox → length network' ≡ length network
        → is_table p inbox' ≡ true → is_table p network' ≡ true
        → SoundAfter (record { answer = refused 0; table = inbox'; network = network' })
    sound_after inbox' network' l n i o = (
      record {
        plan = t.tables.plan;
        inbox_whole = rw l t.tables.inbox_whole;
        network_whole = rw n t.tables.network_whole;
        network_ordered = o;
        inbox_ordered = i;
      },
      l,
      n,
    )

    module _ (m : Wire.Message) (range : is_in_range p m ≡ true) where
      stored_network : (slot : ℕ) (store : Option Put) → (view_table p network).send m ≡ sends slot store
          → Stored p network m slot (store_bytes p store network)
      stored_network slot store send =
          stored p network t.tables.plan t.tables.network_whole t.tables.network_ordered m range slot store send

      stored_inbox : (slot : ℕ) (store : Option Put) → (view_table p inbox).send m ≡ sends slot store
          → Stored p inbox m slot (store_bytes p store inbox)
      stored_inbox slot store send =
          stored p inbox t.tables.plan t.tables.inbox_whole t.tables.inbox_ordered m range slot store send

      -- what a stored message says of N
      sending_of : (slot : ℕ) (network' inbox' : List ℕ) → Stored p network m slot network'
          → Sending m (record { answer = accepted (Slot slot); table = inbox'; network = network' })
      sending_of slot network' inbox' s = (
        record { sends = s.joins; rm_same = refl; acceptor_same = refl },
        record { slot = slot; answered = refl; stands = s.stands; first = s.first; stores = s.stores },
      )

      -- kinds 5, 7 and 8
      pub only_acts : took_by (send_only (view_table p network) m) → Sending m after × (after.table ≡ inbox) × SoundAfter after
      unfolding send_only
      only_acts is =
          let (slot, store, send, done) = sending_accepted 13 _ _ _ is in
          let s = stored_network slot store send in
          subst (λ (r : Step). Sending m r × (r.table ≡ inbox) × SoundAfter r) (step_of _ done)
          (sending_of slot _ inbox s, refl, sound_after inbox _ refl s.same_length t.tables.inbox_ordered s.ordered)

      -- kind 6
      pub both_acts : took_by (send_both (view_table p inbox) (view_table p network) m)
          → Sending m after × Stores p inbox m after.table × SoundAfter after
      unfolding send_both keep_own
      both_acts is =
          let (slot, store, send, kept) = sending_accepted 13 _ _ _ is in
          let (place, own, keep, done) = sending_accepted 14 _ _ _ kept in
          let s = stored_network slot store send in
          let o = stored_inbox place own keep in
          subst (λ (r : Step). Sending m r × Stores p inbox m r.table × SoundAfter r) (step_of _ done)
          (sending_of slot _ inbox s, o.stores, sound_after _ _ o.same_length s.same_length o.ordered s.ordered)

      -- kind 4
      pub store_acts : took_by (receipt_store (view_table p inbox) m)
          → (after.answer ≡ accepted Quiet) × Stores p inbox m after.table × (after.network ≡ network) × SoundAfter after
      unfolding receipt_store
      store_acts is =
          let (place, own, keep, done) = sending_accepted 14 _ _ _ is in
          let o = stored_inbox place own keep in
          subst (λ (r : Step). (r.answer ≡ accepted Quiet) × Stores p inbox m r.table × (r.network ≡ network) × SoundAfter r) (step_of _ done)
          (refl, o.stores, refl, sound_after _ network o.same_length refl o.ordered t.tables.network_ordered)
