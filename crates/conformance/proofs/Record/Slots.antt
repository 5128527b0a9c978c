-- The slot that an accepted call answers is one of N's, of which there are at most 1,024.
--     slot_below                                  the event call
--     rm_slot, acceptor_slot, leader_slot         a role's own call
-- Assumes nothing.
use Prim.Native.Nat.{ℕ, zero, suc, ◌%◌, ◌<◌, zero-le, suc-le-suc}
use Rattle.std.specs.Prelude.{true, List, [], ◌∷◌, ◌≡◌, eqb, length}
use Rattle.std.proofs.Common.{⊎_elim, sym, ◌∙◌, arith, leb-true}
use Rattle.std.proofs.Math.Decide.{ℕ_discrete}
use Rattle.message.specs.declared.Plan.{Plan}
use Rattle.message.specs.declared.Message as Wire
use Rattle.message.specs.declared.Message.TheVariants.{Phase1a, Phase1b, Phase2a, Phase2b, Decision}
use Rattle.message.specs.Outcome.{Outcome, accepted, and_then}
use Rattle.message.proofs.Outcome.Laws.{accepted_inj, accepted_not_refused, both}
use Rattle.slots.specs.Table.{slot_size, max_slots, is_table_length, is_table, messages}
use Rattle.slots.proofs.Table.Holds.{holds_judged}
use Rattle.slots.specs.Send.{message_at}
use Rattle.slots.specs.View.{view_table}
use Rattle.change.specs.declared.Sent.{Sent}
use Rattle.change.specs.declared.Sent.TheVariants.{Slot, Quiet}
use Rattle.change.specs.declared.Change.{Change}
use Rattle.event.specs.Event.{kind_of, who_of, slot_number}
use Rattle.event.specs.Event.Laws.{event_parts}
use Rattle.paxos_commit.specs.PaxosCommit.{AState, initial}
use Rattle.rm.specs.Rm.{rm_step}
use Rattle.rm.specs.Rm.Laws as RmSound
use Rattle.acceptor.specs.Acceptor.{acceptor_receive, acceptor_step}
use Rattle.acceptor.specs.Acceptor.Sound as AcceptorSound
use Rattle.leader.specs.Leader.{stands, receipt, leader_kind, leader_step}
use Rattle.leader.specs.Leader.Sound as LeaderSound
use Rattle.matching.specs.Call.{room_of, Sends}
use Rattle.matching.proofs.Call.Laws.{and_then_accepted}
use Rattle.matching.proofs.Rm.Laws as Rm
use Rattle.matching.proofs.Acceptor.Laws as Acceptor
use Rattle.matching.proofs.Leader.Took as LeaderTook
use Rattle.matching.proofs.Leader.Own as Own
use Rattle.matching.proofs.Theorems as Match
use Rattle.record.specs.Record.{Tables, record_step}
use Rattle.record.specs.Record.Laws.{Sound, sound, judged}
use Rattle.record.specs.Record.Summary.{lent_judged_lem, lent_sound}
use Rattle.conformance.specs.Record.{Acted, prepares, chooses_to_abort, receives_commit, receives_abort, promises, casts_vote}
use Rattle.conformance.specs.Record.{receives, opens_ballot, proposes, commits, aborts}
use Rattle.conformance.proofs.Record.Steps.{taken, stays_sound}
use Rattle.conformance.proofs.Record.Acts.{acts}

at_below : (ms : List Wire.Message) (k : ℕ) (m : Wire.Message) → message_at ms k ≡ accepted m → k < length ms
unfolding message_at
at_below [] k m e = absurd (accepted_not_refused e)
at_below (x ∷ ms) zero m e = suc-le-suc zero-le
at_below (x ∷ ms) (suc k) m e = suc-le-suc (at_below ms k m e)

-- a slot of a table that holds a message
held_below : (p : Plan) (t : List ℕ) → is_table_length (length t) ≡ true → is_table p t ≡ true
    → (k : ℕ) (m : Wire.Message) → message_at (messages p t) k ≡ accepted m → (k < room_of t) × (k < max_slots)
unfolding is_table_length
held_below p t whole ordered k m at =
    let below = at_below (messages p t) k m at in
    let fits = (holds_judged p t whole ordered).fits in
    let few = leb-true (room_of t) max_slots (both (eqb (length t % slot_size) 0) _ whole).1 in
    (omega arith, omega arith)

-- the answered slot of a call that sends, and none of a quiet one
sent_below : (p : Plan) (network : List ℕ) (m : Wire.Message) (answer : Outcome Sent) (network' : List ℕ) (s : ℕ)
    → is_table_length (length network') ≡ true → is_table p network' ≡ true → Sends p network m answer network' → answer ≡ accepted (Slot s)
    → (s < room_of network') × (s < max_slots)
sent_below p network m answer network' s whole ordered sends is =
    let same : Slot sends.slot ≡ Slot s = accepted_inj (sym sends.answered ∙ is) in
    let is-s : sends.slot ≡ s = cc in
    rw (← is-s) (held_below p network' whole ordered sends.slot m sends.stands)

quiet_no_slot : {A : Type 0} (answer : Outcome Sent) (s : ℕ) → answer ≡ accepted Quiet → answer ≡ accepted (Slot s) → A
quiet_no_slot answer s q is = let same : Quiet ≡ Slot s = accepted_inj (sym q ∙ is) in let z : ◌≡◌ {A = ℕ} 0 1 = cc in absurd (omega arith)

pub slot_below : (p : Plan) (t : Tables) (e : List ℕ) (s : ℕ) → (record_step p t e).answer ≡ accepted (Slot s)
    → (s < room_of (record_step p t e).tables.network) × (s < max_slots)
slot_below p t e s is = go (acts p t e (Slot s) is)
  where
    after : Sound p (record_step p t e).tables
    after =
        let u = taken p t e (Slot s) is in
        sound p _ (lent_sound p _ (stays_sound p t e (lent_judged_lem p t (judged p t u.tables) u.right))).0

    by : (m : Wire.Message) → Sends p t.network m (record_step p t e).answer (record_step p t e).tables.network
        → (s < room_of (record_step p t e).tables.network) × (s < max_slots)
    by m sends = sent_below p t.network m _ _ s after.network_whole after.network_ordered sends is

    quiet : (record_step p t e).answer ≡ accepted Quiet → (s < room_of (record_step p t e).tables.network) × (s < max_slots)
    quiet q = quiet_no_slot (record_step p t e).answer s q is

    go : Acted p t e (record_step p t e).answer (record_step p t e).tables → (s < room_of (record_step p t e).tables.network) × (s < max_slots)
    go (prepares k w a sends tables) = by _ sends
    go (chooses_to_abort k w a sends tables) = by _ sends
    go (receives_commit k w m a q tables) = quiet q
    go (receives_abort k w m a q tables) = quiet q
    go (promises k w ins bal at a sends tables) = by _ sends
    go (casts_vote k w ins bal val at a sends tables) = by _ sends
    go (receives k w m at r q inbox stores tables) = quiet q
    go (opens_ballot k w i o a sends tables) = by _ sends
    go (proposes k w i o a same sends inbox stores tables) = by _ sends
    go (commits k w a sends tables) = by _ sends
    go (aborts k w a sends tables) = by _ sends

-- a role's own call
module _ (p : Plan) (e : List ℕ) (s : ℕ) where
  pub rm_slot : (states network : List ℕ) → (rm_step p states network e).answer ≡ accepted (Slot s) → s < max_slots
  rm_slot states network is = go (ℕ_discrete (kind_of e) 0) (ℕ_discrete (kind_of e) 1)
    where
      none : ℕ → ℕ → AState
      none i a = initial

      took : Rm.Took p states network e
      took = Rm.took p states network e (Slot s, is)

      after : RmSound.Sound p (rm_step p states network e).table (rm_step p states network e).network
      after =
          let (j, l, n) = Rm.stays_sound p states network e (RmSound.judged p states network took.tables) in
          RmSound.sound p (rm_step p states network e).table (rm_step p states network e).network j

      by : (m : Wire.Message) → Sends p network m (rm_step p states network e).answer (rm_step p states network e).network → s < max_slots
      by m sends = (sent_below p network m _ _ s after.whole after.ordered sends is).1

      go : Dec (kind_of e ≡ 0) → Dec (kind_of e ≡ 1) → s < max_slots
      go (yes k) d = by _ (Match.rm_prepare p states network e none (Slot s, is) k).1
      go (no n) (yes k) = by _ (Match.rm_choose_to_abort p states network e none (Slot s, is) k).1
      go (no n) (no l) =
          let small = took.small in
          let (m, at, learnt, x) = Rm.receive_acts p states network e none took (omega arith) in
          ⊎_elim (λ h. quiet_no_slot (rm_step p states network e).answer s h.1.0 is) (λ h. quiet_no_slot (rm_step p states network e).answer s h.1.0 is) learnt

  pub acceptor_slot : (votes network : List ℕ) → (acceptor_step p votes network e).answer ≡ accepted (Slot s) → s < max_slots
  unfolding acceptor_receive
  acceptor_slot votes network is =
      let (m, at, got) = and_then_accepted _ (acceptor_receive p votes (view_table p network) (who_of e)) _ took.verdict in go m at took.change got
    where
      took : Acceptor.Took p votes network e
      took = Acceptor.took p votes network e (Slot s, is)

      none : ℕ → ℕ
      none i = 0

      after : AcceptorSound.Sound p (acceptor_step p votes network e).table (acceptor_step p votes network e).network
      after =
          let (j, l, n) = Acceptor.stays_sound p votes network e (AcceptorSound.judged p votes network took.tables) in
          AcceptorSound.sound p (acceptor_step p votes network e).table (acceptor_step p votes network e).network j

      by : (m : Wire.Message) → Sends p network m (acceptor_step p votes network e).answer (acceptor_step p votes network e).network → s < max_slots
      by m sends = (sent_below p network m _ _ s after.whole after.ordered sends is).1

      go : (m : Wire.Message) → message_at (messages p network) (slot_number e) ≡ accepted m → (change : Change)
          → acceptor_receive p votes (view_table p network) (who_of e) m ≡ accepted change → s < max_slots
      go (Phase1a ins bal) at change got = by _ (Match.acceptor_phase1b p votes network e none (Slot s, is) ins bal at).1
      go (Phase1b ins acc mbal vote) at change got = absurd (accepted_not_refused got)
      go (Phase2a ins bal val) at change got = by _ (Match.acceptor_phase2b p votes network e none (Slot s, is) ins bal val at).1
      go (Phase2b ins acc bal val) at change got = absurd (accepted_not_refused got)
      go (Decision val) at change got = absurd (accepted_not_refused got)

  pub leader_slot : (inbox summary network : List ℕ) → (leader_step p inbox summary network e).step.answer ≡ accepted (Slot s) → s < max_slots
  unfolding leader_kind
  leader_slot inbox summary network is = go (ℕ_discrete (kind_of e) 4) (ℕ_discrete (kind_of e) 5) (ℕ_discrete (kind_of e) 6) (ℕ_discrete (kind_of e) 7)
    where
      none : ℕ → ℕ
      none i = 0

      first : ℕ → ℕ → AState
      first i a = initial

      took : LeaderTook.Took p (stands summary) inbox network e
      took = Own.own_took p inbox summary network e (Slot s, is)

      after : LeaderSound.Sound p (leader_step p inbox summary network e).step.table (leader_step p inbox summary network e).step.network
      after =
          let (j, l, n, kept) = Own.own_sound p inbox summary network e (LeaderSound.judged p inbox network took.tables) in
          LeaderSound.sound p (leader_step p inbox summary network e).step.table (leader_step p inbox summary network e).step.network j

      by : (m : Wire.Message) → Sends p network m (leader_step p inbox summary network e).step.answer (leader_step p inbox summary network e).step.network → s < max_slots
      by m sends = (sent_below p network m _ _ s after.network_whole after.network_ordered sends is).1

      receipt_quiet : kind_of e ≡ 4 → s < max_slots
      receipt_quiet kind =
          let got : and_then (message_at (messages p network) (slot_number e)) (receipt (view_table p inbox)) ≡ accepted took.change
          = rw kind at took.verdict in
          let (m, at, ok) = and_then_accepted _ (receipt (view_table p inbox)) _ got in
          quiet_no_slot (leader_step p inbox summary network e).step.answer s (Match.leader_receipt p inbox summary network e none first (Slot s, is) kind m at).0 is

      go : Dec (kind_of e ≡ 4) → Dec (kind_of e ≡ 5) → Dec (kind_of e ≡ 6) → Dec (kind_of e ≡ 7) → s < max_slots
      go (yes k) d5 d6 d7 = receipt_quiet k
      go (no n4) (yes k) d6 d7 = by _ (Match.leader_phase1a p inbox summary network e none first (Slot s, is) k).1
      go (no n4) (no n5) (yes k) d7 = by _ (Match.leader_phase2a p inbox summary network e none first (Slot s, is) k).2
      go (no n4) (no n5) (no n6) (yes k) = by _ (Match.leader_commit p inbox summary network e none first (Slot s, is) k).1
      go (no n4) (no n5) (no n6) (no n7) =
          let last = (event_parts p e took.event).kind in
          let least = took.least in
          let k : kind_of e ≡ 8 = omega arith in by _ (Match.leader_abort p inbox summary network e none first (Slot s, is) k).1
