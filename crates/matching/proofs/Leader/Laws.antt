-- What an accepted step of a leader sets, by kind.
--     receipt_slot, receipt_acts     kind 4: the slot holds a message, and it is stored in the inbox
--     phase1a_acts, phase2a_acts, commit_acts, abort_acts     kinds 5 to 8: the published action, the sent message, the inbox
--     proposal_first, proposal_none     the 2a that is proposed
--     owner_one, owner_none             the owner of a ballot
--     keeps, stays_sound    a refused step changes nothing; well-formed tables stay so
-- Assumes nothing.
use Rattle.std.specs.Prelude.{ℕ, ◌≤◌, ◌<◌, Bool, true, false, List, ◌∷◌, ◌++◌, ◌≡◌, eqb, length, Option}
use Rattle.std.proofs.Math.Path.{refl, ap}
use Rattle.std.proofs.Common.{sym, ◌∙◌, subst, arith}
use borrow.Author.Tests.{lt-ltb, le-leb, eqb-true, eqb-false, not-false}
use Rattle.message.specs.declared.Plan.{Plan}
use Rattle.message.specs.declared.Vote.{Vote}
use Rattle.message.specs.declared.Message as Wire
use Rattle.message.specs.declared.Message.TheVariants.{Phase1a, Phase1b, Phase2a, Decision}
use Rattle.message.specs.Outcome.{Outcome, accepted, refused, and_then}
use Rattle.message.proofs.Outcome.Laws.{accepted_inj, refuse_if_accepted}
use Rattle.message.specs.Plan.{is_plan}
use Rattle.message.specs.Form.{is_value, is_in_range, cast_vote}
use Rattle.slots.specs.Table.{messages}
use Rattle.slots.proofs.Table.Holds.{all_in_range, holds_judged}
use Rattle.slots.specs.Send.{message_at}
use Rattle.slots.specs.View.{view_table}
use Rattle.change.specs.declared.Sent.{Sent}
use Rattle.change.specs.declared.Sent.TheVariants.{Quiet}
use Rattle.change.specs.Change.{Step}
use Rattle.change.specs.Change.{refusal}
use Rattle.change.specs.Change.Laws.{refused_keeps}
use Rattle.event.specs.Event.{kind_of, who_of, high_of, low_of, slot_number}
use Rattle.event.specs.Event.Laws.{event_parts, event_instance}
use Rattle.inbox.specs.Inbox.{highest_report, proposal, for_all, for_some}
use Rattle.paxos_commit.specs.PaxosCommit as Source
use Rattle.paxos_commit.specs.PaxosCommit.{AState, State}
use Rattle.leader.specs.Leader.{owns, leader_judged, receipt, phase1a, phase2a_message, send_both, phase2a, decide_send}
use Rattle.leader.specs.Leader.{leader_kind, leader_verdict_by, leader_step_by}
use Rattle.phase2a.specs.Phase2a.{owner}
use Rattle.phase2a.specs.Phase2a.Laws as Owners
use Rattle.leader.specs.Leader.Sound.{judged}
use Rattle.matching.specs.Reading.{message_of, set_of}
use Rattle.matching.specs.Call.{Stores, Sends}
use Rattle.matching.proofs.Call.Laws.{member_at, and_then_accepted}
use Rattle.matching.specs.Leader.{Phase1aAction, Phase2aAction, CommitBy, AbortBy, proposed, Reports}
use Rattle.matching.specs.Leader.Decided.{DecidedBy, Reflects}
use Rattle.matching.proofs.Leader.Decided.{reflects_by}
use Rattle.matching.proofs.Leader.Conditions.{in_range_lem}
use Rattle.matching.proofs.Leader.Highest.{highest_first, highest_none, proposal_value}
use Rattle.matching.proofs.Leader.Guards as Guards
use Rattle.matching.proofs.Leader.Took.{Took, took, receipt_stores, before, next, SoundAfter, Sending}
use Rattle.matching.proofs.Leader.Took.{inbox_range, only_acts, both_acts, store_acts}

module _ {p : Plan} {isDecided : ℕ → ℕ → Bool} {inbox network e : List ℕ} (rm_state : ℕ → ℕ) (a_state : ℕ → ℕ → AState)
    (t : Took p isDecided inbox network e) where
  abbrev after : Step
  after = leader_step_by p isDecided inbox network e

  -- the tables are sound after it
  abbrev Still : Type 0
  Still = SoundAfter p inbox network e rm_state a_state after

  -- the published action led here, m was sent, and the inbox keeps its bytes
  abbrev Acts : (State → State → Type 0) → Wire.Message → Type 0
  Acts action m =
      action (before p inbox network e rm_state a_state) (next p inbox network e rm_state a_state after)
      × Sends p network m after.answer after.network
      × (after.table ≡ inbox)

  -- kind 4
  abbrev Receives : Wire.Message → Type 0
  Receives m = (after.answer ≡ accepted Quiet) × (after.network ≡ network) × Stores p inbox m after.table

  module _ (kind : kind_of e ≡ 4) where
    receipt_some : (m : Wire.Message) × (message_at (messages p network) (slot_number e) ≡ accepted m) × Receives m × Still
    unfolding leader_kind
    receipt_some =
        let got : and_then (message_at (messages p network) (slot_number e)) (receipt (view_table p inbox)) ≡ accepted t.change
        = rw kind at t.verdict in
        let (m, at, taken) = and_then_accepted _ (receipt (view_table p inbox)) _ got in
        let held = (holds_judged p network t.tables.network_whole t.tables.network_ordered).in_range in
        let (quiet, stores, kept, s)
        = store_acts p inbox network e rm_state a_state t m (in_range_lem p _ m held (member_at _ _ m at)) (receipt_stores _ m _ taken) in
        (m, at, (quiet, kept, stores), s)

    -- the slot is used
    pub receipt_slot : (m : Wire.Message) × (message_at (messages p network) (slot_number e) ≡ accepted m)
    receipt_slot = let (m, at, got, s) = receipt_some in (m, at)

    pub receipt_acts : (m : Wire.Message) → message_at (messages p network) (slot_number e) ≡ accepted m → Receives m
    receipt_acts m at = let (x, is, got, s) = receipt_some in subst Receives (accepted_inj (sym is ∙ at)) got

  -- kind 5
  pub phase1a_acts : kind_of e ≡ 5 → Acts (Phase1aAction p (low_of e) (high_of e)) (Phase1a (high_of e) (low_of e)) × Still
  unfolding leader_kind phase1a is_in_range
  phase1a_acts kind =
      let got : phase1a p (view_table p network) (who_of e) (high_of e) (low_of e) ≡ accepted t.change = rw kind at t.verdict in
      let own = refuse_if_accepted _ _ _ _ got in
      let named = event_instance p e t.event (omega arith) (omega arith) in
      let above = Owners.owns_above p (low_of e) (who_of e) (not-false _ own.0) in
      let ((j, sends), kept, s)
      = only_acts p inbox network e rm_state a_state t (Phase1a (high_of e) (low_of e)) (rw (lt-ltb _ _ named, le-leb 1 (low_of e) above)) own.1 in
      (((j.sends, j.rm_same, j.acceptor_same), sends, kept), s)

  -- kind 6
  abbrev Acts2a : Type 0
  Acts2a =
      Phase2aAction p (set_of (messages p inbox)) (low_of e) (high_of e)
      (before p inbox network e rm_state a_state) (next p inbox network e rm_state a_state after)

  abbrev Proposes : Type 0
  Proposes =
      (acts : Acts2a)
      × (Source.phase2a (high_of e) (low_of e) acts.1.2 ≡ message_of (proposed p inbox e))
      × Sends p network (proposed p inbox e) after.answer after.network
      × Stores p inbox (proposed p inbox e) after.table

  pub phase2a_acts : kind_of e ≡ 6 → Proposes × Still
  unfolding leader_kind phase2a phase2a_message is_in_range
  phase2a_acts kind =
      let got : phase2a p (view_table p inbox) (view_table p network) (who_of e) (high_of e) (low_of e) ≡ accepted t.change
      = rw kind at t.verdict in
      let (m, is, sent)
      = and_then_accepted (phase2a_message p (messages p inbox) (who_of e) (high_of e) (low_of e))
      (send_both (view_table p inbox) (view_table p network)) _ got in
      let own = refuse_if_accepted _ _ _ _ is in
      let new = refuse_if_accepted _ _ _ _ own.1 in
      let quorum = refuse_if_accepted _ _ _ _ new.1 in
      let is_m : proposed p inbox e ≡ m = accepted_inj quorum.1 in
      let named = event_instance p e t.event (omega arith) (omega arith) in
      let range = inbox_range p inbox network e rm_state a_state t in
      let ((j, sends), stores, s)
      = both_acts p inbox network e rm_state a_state t (proposed p inbox e)
      (rw (lt-ltb _ _ named, proposal_value p (messages p inbox) range (high_of e) (low_of e)))
      (rw (← is_m) at sent) in
      let (acts, same) = Guards.phase2a_acts p (messages p inbox) (high_of e) (low_of e) _ range new.0 (not-false _ quorum.0) _ j in
      ((acts, same, sends, stores), s)

  -- kinds 7 and 8: a test passed, and its decision was sent
  decided_acts : (test : Bool) (v : ℕ) → is_in_range p (Decision v) ≡ true → decide_send (view_table p network) test v ≡ accepted t.change
      → (test ≡ true) × (Sending p inbox network e rm_state a_state (Decision v) after × (after.table ≡ inbox) × Still)
  unfolding decide_send
  decided_acts test v range got =
      let sent = refuse_if_accepted _ _ _ _ got in
      (not-false _ sent.0, only_acts p inbox network e rm_state a_state t (Decision v) range sent.1)

  -- by what the test reflects
  pub commit_acts : (Decided : ℕ → Source.Val → Type 0) → (all_in_range p (messages p inbox) ≡ true → Reflects isDecided Decided)
      → kind_of e ≡ 7 → Acts (CommitBy p Decided) (Decision 1) × Still
  unfolding leader_kind is_in_range is_value
  commit_acts Decided reflects kind =
      let (all, ((j, sends), kept, s)) = decided_acts (for_all p.rms (λ i. isDecided i 1)) 1 refl (rw kind at t.verdict) in
      ((Guards.commit_acts p isDecided Decided (reflects (inbox_range p inbox network e rm_state a_state t)) _ all _ j, sends, kept), s)

  pub abort_acts : (Decided : ℕ → Source.Val → Type 0) → (all_in_range p (messages p inbox) ≡ true → Reflects isDecided Decided)
      → kind_of e ≡ 8 → Acts (AbortBy p Decided) (Decision 2) × Still
  unfolding leader_kind is_in_range is_value
  abort_acts Decided reflects kind =
      let (some, ((j, sends), kept, s)) = decided_acts (for_some p.rms (λ i. isDecided i 2)) 2 refl (rw kind at t.verdict) in
      ((Guards.abort_acts p isDecided Decided (reflects (inbox_range p inbox network e rm_state a_state t)) _ some _ j, sends, kept), s)

  -- an accepted step by its kind
  still_sound : Still
  still_sound = go (eqb (kind_of e) 4) (eqb (kind_of e) 5) (eqb (kind_of e) 6) (eqb (kind_of e) 7) refl refl refl refl
    where
      go : (b c d f : Bool) → eqb (kind_of e) 4 ≡ b → eqb (kind_of e) 5 ≡ c → eqb (kind_of e) 6 ≡ d → eqb (kind_of e) 7 ≡ f → Still
      go true c d f h4 h5 h6 h7 = (receipt_some (eqb-true _ _ h4)).3
      go false true d f h4 h5 h6 h7 = (phase1a_acts (eqb-true _ _ h5)).1
      go false false true f h4 h5 h6 h7 = (phase2a_acts (eqb-true _ _ h6)).1
      go false false false true h4 h5 h6 h7 = (commit_acts (DecidedBy isDecided) (λ _. reflects_by isDecided) (eqb-true _ _ h7)).1
      go false false false false h4 h5 h6 h7 =
          let n4 : kind_of e ≡ 4 → ⊥ = eqb-false _ _ h4 in
          let n5 : kind_of e ≡ 5 → ⊥ = eqb-false _ _ h5 in
          let n6 : kind_of e ≡ 6 → ⊥ = eqb-false _ _ h6 in
          let n7 : kind_of e ≡ 7 → ⊥ = eqb-false _ _ h7 in
          (abort_acts (DecidedBy isDecided) (λ _. reflects_by isDecided) (omega (arith, t.least, (event_parts p e t.event).kind))).1

module _ (p : Plan) (isDecided : ℕ → ℕ → Bool) (inbox network e : List ℕ) where
  pub keeps : (k : ℕ) → (leader_step_by p isDecided inbox network e).answer ≡ refused k
      → leader_step_by p isDecided inbox network e ≡ refusal inbox network k
  unfolding leader_step_by
  keeps k is =
      refused_keeps p inbox network
      (and_then (leader_judged p inbox network) (λ _. leader_verdict_by p isDecided (view_table p inbox) (view_table p network) e)) k is

  abbrev Kept : Step → Type 0
  Kept r = (leader_judged p r.table r.network ≡ accepted tt) × (length r.table ≡ length inbox) × (length r.network ≡ length network)

  pub stays_sound : leader_judged p inbox network ≡ accepted tt → Kept (leader_step_by p isDecided inbox network e)
  stays_sound s = go (leader_step_by p isDecided inbox network e).answer refl
    where
      go : (answer : Outcome Sent) → (leader_step_by p isDecided inbox network e).answer ≡ answer → Kept (leader_step_by p isDecided inbox network e)
      go (accepted a) is =
          let (after, l, n) = still_sound (λ rm. 0) (λ i ac. Source.initial) (took p isDecided inbox network e (a, is)) in
          (judged p _ _ after, l, n)
      go (refused k) is = subst Kept (sym (keeps k is)) (s, refl, refl)

-- the proposed 2a: of several highest reports the first, and 2 where none reports a vote
module _ (p : Plan) (inbox e : List ℕ) where
  pub proposal_first : (xs ys : List Wire.Message) (a c v : ℕ) → messages p inbox ≡ xs ++ (Phase1b (high_of e) a (low_of e) (cast_vote c v) ∷ ys)
      → ((d : ℕ) → Reports xs (high_of e) (low_of e) d → d < c) → ((d : ℕ) → Reports ys (high_of e) (low_of e) d → d ≤ c)
      → proposed p inbox e ≡ Phase2a (high_of e) (low_of e) v
  unfolding proposal
  proposal_first xs ys a c v is h k =
      ap (λ (w : Option Vote). Phase2a (high_of e) (low_of e) (proposal w))
      (ap (highest_report (high_of e) (low_of e)) is ∙ highest_first (high_of e) (low_of e) xs ys a c v h k)

  pub proposal_none : ((d : ℕ) → Reports (messages p inbox) (high_of e) (low_of e) d → ⊥) → proposed p inbox e ≡ Phase2a (high_of e) (low_of e) 2
  unfolding proposal
  proposal_none h = ap (λ (w : Option Vote). Phase2a (high_of e) (low_of e) (proposal w)) (highest_none (high_of e) (low_of e) (messages p inbox) h)

-- a ballot above 0 has one owner, ballot 0 none
module _ (p : Plan) where
  pub owner_one : is_plan p ≡ true → (b : ℕ) → 0 < b
      → (l : ℕ) × (l < p.leaders) × (owns p l b ≡ true) × ((k : ℕ) → owns p k b ≡ true → k ≡ l)
  owner_one plan b above =
      let o = Owners.owns_owner p b plan above in
      (owner p b, o.0, o.1, λ k h. Owners.one_owner p b k (owner p b) h o.1)

  pub owner_none : (l : ℕ) → owns p l 0 ≡ true → ⊥
  owner_none l h = let above = Owners.owns_above p 0 l h in omega arith
