-- The event call taken apart.
--     rm_part, acceptor_part, leader_part     the step of each role
--     marked_step                             the role's step, and the summary marked by it
--     role_rm, role_acceptor, role_leader     which is the role's own step, by the event's kind
--     step_role                               on a sound record an event call is that step
--     Taken, taken                            so is an accepted one
--     keeps                                   a refused call leaves all tables as they were
--     stays_sound                             a sound record stays sound
-- Assumes nothing.
use Rattle.std.specs.Prelude.{ℕ, ◌≤◌, ◌<◌, Bool, not, List, ◌≡◌, length}
use Rattle.std.proofs.Math.Bool.{true, false}
use Rattle.std.proofs.Math.Path.{refl, ap}
use Rattle.std.proofs.Common.{sym, ◌∙◌, subst, arith}
use Rattle.std.proofs.Math.Decide.{dec_le, ℕ_discrete}
use borrow.Author.Tests.{le-leb, lt-leb, eq-eqb, ne_eqb}
use Rattle.message.specs.declared.Plan.{Plan}
use Rattle.message.specs.Outcome.{Outcome, accepted, refused, and_then, refuse_if}
use Rattle.message.proofs.Outcome.Laws.{accepted_not_refused}
use Rattle.message.proofs.PlanLaws.{plan_bounds}
use Rattle.slots.specs.Table.{is_table, messages}
use Rattle.slots.specs.View.{view_table}
use Rattle.change.specs.declared.Sent.{Sent}
use Rattle.change.specs.Change.{Step}
use Rattle.event.specs.Event.{kind_of, who_of, is_event}
use Rattle.event.specs.Event.Laws.{leader_who}
use Rattle.rm.specs.Rm.{rm_step}
use Rattle.rm.specs.Rm.Laws as RmSound
use Rattle.acceptor.specs.Acceptor.{acceptor_step}
use Rattle.acceptor.specs.Acceptor.Sound as AcceptorSound
use Rattle.inbox.specs.Inbox.{decided}
use Rattle.leader.specs.Leader.{is_summary, stands, LeaderStep, leader_step_by, leader_step}
use Rattle.leader.specs.Leader.Sound as LeaderSound
use Rattle.record.specs.Record.{Tables, inbox_size, inbox_of, with_inbox, lent_judged, RecordStep, record_refusal}
use Rattle.record.specs.Record.{on_states, on_votes, on_inbox, role_step, settled, by_summary, marking, record_step}
use Rattle.record.specs.Record.Parts.{length_inbox_of, length_with_inbox, inbox_size_with_inbox, inbox_of_with, inbox_of_with_other, with_own}
use Rattle.record.specs.Record.Laws.{Sound, sound, judged, judged_rm, judged_acceptor, judged_leader}
use Rattle.record.specs.Record.Summary.{marking_other, part_sound, with_sound, lent_judged_lem, lent_sound}
use Rattle.matching.proofs.Rm.Laws as Rm
use Rattle.matching.proofs.Acceptor.Laws as Acceptor
use Rattle.matching.proofs.Leader.Laws as Leader
use Rattle.matching.proofs.Leader.Own as Own
use Rattle.conformance.specs.Record.{own_inbox, own_summary, on_own, SoundSummary}

-- a call by the role of its kind
pub data Role (e : List ℕ) : Type 0 where
  rm : kind_of e ≤ 2 → Role e
  acceptor : kind_of e ≡ 3 → Role e
  leader : 3 < kind_of e → Role e

pub role_of : (e : List ℕ) → Role e
role_of e =
    elim (dec_le (kind_of e) 2) [
      | yes h ↦ rm h
      | no h ↦ elim (ℕ_discrete (kind_of e) 3) [ yes k ↦ acceptor k | no k ↦ leader (omega (arith, h, k)) ]
    ]

module _ (p : Plan) (t : Tables) (e : List ℕ) where
  abbrev pub rm_part : Step
  rm_part = rm_step p t.states t.network e

  abbrev pub acceptor_part : Step
  acceptor_part = acceptor_step p t.votes t.network e

  abbrev pub leader_part : LeaderStep
  leader_part = leader_step p (own_inbox p t e) (own_summary p t e) t.network e

  -- what the messages of an inbox say is Decided
  abbrev box_decided : List ℕ → ℕ → ℕ → Bool
  box_decided inbox = decided p (messages p inbox)

  -- the role's step, Decided read from the summary, and the summary marked by it
  abbrev pub marked_step : RecordStep
  marked_step = marking p box_decided (view_table p) e (role_step p (by_summary p t) t e)

  pub role_rm : kind_of e ≤ 2 → marked_step ≡ on_states t rm_part
  unfolding role_step
  role_rm h = marking_other p box_decided (view_table p) e (role_step p (by_summary p t) t e) (λ k. omega arith) ∙ rw (le-leb (kind_of e) 2 h)

  pub role_acceptor : kind_of e ≡ 3 → marked_step ≡ on_votes t acceptor_part
  unfolding role_step
  role_acceptor h =
      marking_other p box_decided (view_table p) e (role_step p (by_summary p t) t e) (λ k. omega arith)
      ∙ rw (lt-leb (kind_of e) 2 (omega arith), eq-eqb (kind_of e) 3 h)

  -- a leader's step without a summary
  abbrev plain_part : Step
  plain_part = leader_step_by p (stands (own_summary p t e)) (own_inbox p t e) t.network e

  step_leader : 3 < kind_of e → role_step p (by_summary p t) t e ≡ on_inbox p (who_of e) t plain_part
  unfolding role_step
  step_leader h = rw (lt-leb (kind_of e) 2 (omega arith), ne_eqb (kind_of e) 3 (λ k. omega arith))

  -- the tables are sound, and the event is one
  module _ (s : Sound p t) (right : SoundSummary p t) (event : is_event p e ≡ true) where
    some : 0 < p.leaders
    some = (plan_bounds p s.plan).leaders_least

    module _ (large : 3 < kind_of e) where
      member : who_of e < p.leaders
      member = leader_who p e event large

      pub own_right : is_summary p.rms (own_summary p t e) ≡ true
      own_right = part_sound p t.summary s.plan right (who_of e) member

      plain_size : length plain_part.table ≡ inbox_size p t.inboxes
      plain_size =
          let (j, l, n) = Leader.stays_sound p _ (own_inbox p t e) t.network e (judged_leader p t s (who_of e) member) in
          l ∙ length_inbox_of p t.inboxes (who_of e) some member

      pub role_leader : marked_step ≡ on_own p (who_of e) t leader_part
      role_leader =
          let back = inbox_of_with p t.inboxes (who_of e) some member plain_part.table plain_size in
          ap (marking p box_decided (view_table p) e) (step_leader large)
          ∙ rw (back, Own.own_marked p (own_inbox p t e) (own_summary p t e) t.network e own_right)

  pub step_role : lent_judged p t ≡ accepted tt → is_event p e ≡ true → record_step p t e ≡ marked_step
  unfolding record_step and_then refuse_if
  step_role j event = rw (j, event)

  -- an accepted call
  pub record Taken : Type 0 where
    pub tables : Sound p t
    pub right : SoundSummary p t
    pub event_is : is_event p e ≡ true
    pub is_role : record_step p t e ≡ marked_step

  pub taken : (sent : Sent) → (record_step p t e).answer ≡ accepted sent → Taken
  unfolding record_step and_then refuse_if
  taken sent is = go (lent_judged p t) (is_event p e) refl refl is
    where
      go : (o : Outcome (Unit {0})) (b : Bool) → lent_judged p t ≡ o → is_event p e ≡ b
          → (settled t (and_then o (λ _. refuse_if (not b) 7 (accepted marked_step)))).answer ≡ accepted sent → Taken
      go (refused k) b j event is = absurd (accepted_not_refused is)
      go (accepted a) false j event is = absurd (accepted_not_refused is)
      go (accepted a) true j event is =
          let (four, right) = lent_sound p t j in
          record { tables = sound p t four; right = right; event_is = event; is_role = step_role j event }

  -- a refused role's step leaves the record as it was
  role_keeps : Sound p t → SoundSummary p t → is_event p e ≡ true
      → (k : ℕ) → marked_step.answer ≡ refused k → marked_step ≡ record_refusal t k
  role_keeps s right event k = go (role_of e)
    where
      go : Role e → marked_step.answer ≡ refused k → marked_step ≡ record_refusal t k
      go (rm h) is =
          let same = role_rm h in
          same ∙ ap (on_states t) (Rm.keeps p t.states t.network e k (ap (λ (r : RecordStep). r.answer) (sym same) ∙ is))
      go (acceptor h) is =
          let same = role_acceptor h in
          same ∙ ap (on_votes t) (Acceptor.keeps p t.votes t.network e k (ap (λ (r : RecordStep). r.answer) (sym same) ∙ is))
      go (leader h) is =
          let same = role_leader s right event h in
          let (step, kept)
          = Own.own_keeps p (own_inbox p t e) (own_summary p t e) t.network e k (ap (λ (r : RecordStep). r.answer) (sym same) ∙ is) in
          same ∙ rw (step, kept, with_own p t.inboxes (who_of e), with_own p t.summary (who_of e))

  pub keeps : (k : ℕ) → (record_step p t e).answer ≡ refused k → record_step p t e ≡ record_refusal t k
  unfolding record_step and_then refuse_if
  keeps k is = go (lent_judged p t) (is_event p e) refl refl is
    where
      go : (o : Outcome (Unit {0})) (b : Bool) → lent_judged p t ≡ o → is_event p e ≡ b
          → (settled t (and_then o (λ _. refuse_if (not b) 7 (accepted marked_step)))).answer ≡ refused k
          → settled t (and_then o (λ _. refuse_if (not b) 7 (accepted marked_step))) ≡ record_refusal t k
      go (refused j) b is-j event is = ap (λ (o : Outcome Sent). record { answer = o; tables = t }) is
      go (accepted a) false j event is = ap (λ (o : Outcome Sent). record { answer = o; tables = t }) is
      go (accepted a) true j event is =
          let (four, right) = lent_sound p t j in role_keeps (sound p t four) right event k is

  -- what a role's step leaves is sound, and so is the rest
  abbrev StillSound : RecordStep → Type 0
  StillSound r = Sound p r.tables × SoundSummary p r.tables

  role_sound : Sound p t → SoundSummary p t → is_event p e ≡ true → StillSound marked_step
  role_sound s right event = go (role_of e)
    where
      some : 0 < p.leaders
      some = (plan_bounds p s.plan).leaders_least

      go : Role e → StillSound marked_step
      go (rm h) =
          let (j, l, n) = Rm.stays_sound p t.states t.network e (judged_rm p t s) in
          let r = RmSound.sound p _ _ j in
          subst StillSound (sym (role_rm h)) (
            record {
              plan = s.plan;
              one_each = r.one_each;
              three_each = s.three_each;
              network_whole = r.whole;
              equal_parts = s.equal_parts;
              part_whole = s.part_whole;
              known_states = r.known;
              known_votes = s.known_votes;
              network_ordered = r.ordered;
              inboxes_ordered = s.inboxes_ordered;
            },
            right,
          )
      go (acceptor h) =
          let (j, l, n) = Acceptor.stays_sound p t.votes t.network e (judged_acceptor p t s) in
          let r = AcceptorSound.sound p _ _ j in
          subst StillSound (sym (role_acceptor h)) (
            record {
              plan = s.plan;
              one_each = s.one_each;
              three_each = r.three_each;
              network_whole = r.whole;
              equal_parts = s.equal_parts;
              part_whole = s.part_whole;
              known_states = s.known_states;
              known_votes = r.known;
              network_ordered = r.ordered;
              inboxes_ordered = s.inboxes_ordered;
            },
            right,
          )
      go (leader h) =
          let member = leader_who p e event h in
          let box : List ℕ = leader_part.step.table in
          let (j, l, n, kept)
          = Own.own_sound p (own_inbox p t e) (own_summary p t e) t.network e (judged_leader p t s (who_of e) member) in
          let r = LeaderSound.sound p _ _ j in
          let size = l ∙ length_inbox_of p t.inboxes (who_of e) some member in
          let same = length_with_inbox p t.inboxes (who_of e) some member box size in
          subst StillSound (sym (role_leader s right event h)) (
            record {
              plan = s.plan;
              one_each = s.one_each;
              three_each = s.three_each;
              network_whole = r.network_whole;
              equal_parts = rw same s.equal_parts;
              part_whole = rw (inbox_size_with_inbox p t.inboxes (who_of e) some member box size) s.part_whole;
              known_states = s.known_states;
              known_votes = s.known_votes;
              network_ordered = r.network_ordered;
              inboxes_ordered = λ k m. ordered k m (ℕ_discrete k (who_of e)) member size r.inbox_ordered;
            },
            with_sound p t.summary s.plan right (who_of e) member leader_part.summary (kept.1 (own_right s right event h)),
          )
        where
          ordered : (k : ℕ) → k < p.leaders → Dec (k ≡ who_of e) → who_of e < p.leaders → length leader_part.step.table ≡ inbox_size p t.inboxes
              → is_table p leader_part.step.table ≡ true
              → is_table p (inbox_of p (with_inbox p t.inboxes (who_of e) leader_part.step.table) k) ≡ true
          ordered k m (yes is) member size o = rw (is, inbox_of_with p t.inboxes (who_of e) some member leader_part.step.table size) o
          ordered k m (no other) member size o =
              rw (inbox_of_with_other p t.inboxes (who_of e) some member leader_part.step.table size k m other) (s.inboxes_ordered k m)

  pub stays_sound : lent_judged p t ≡ accepted tt → lent_judged p (record_step p t e).tables ≡ accepted tt
  stays_sound j = go (record_step p t e).answer refl
    where
      go : (o : Outcome Sent) → (record_step p t e).answer ≡ o → lent_judged p (record_step p t e).tables ≡ accepted tt
      go (refused k) is = rw (keeps k is) j
      go (accepted sent) is =
          let u = taken sent is in
          let (after, right) = role_sound u.tables u.right u.event_is in
          rw u.is_role (lent_judged_lem p _ (judged p _ after) right)
