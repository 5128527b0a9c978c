-- The inboxes of the other leaders, the summary, and calls whose event is no event.
--     inbox_kept       an event call changes no inbox but that of its own leader
--     unmarked, summary_kept     of the summary it changes only its own leader's bytes, and those only by kind 4
--     summary_grows    no bit of the summary is cleared
--     no_event         on sound tables every call refuses what is no event with 7
-- Assumes nothing.
use Rattle.std.specs.Prelude.{ℕ, ◌≤◌, ◌<◌, Bool, true, false, List, ◌⊎◌, ◌≡◌, refl, length}
use Rattle.std.proofs.Common.{inl, inr, ⊎_elim, ◌∙◌, ap, arith}
use Rattle.std.proofs.Math.Decide.{ℕ_discrete}
use Rattle.message.specs.declared.Plan.{Plan}
use Rattle.message.specs.declared.Message as Wire
use Rattle.message.specs.Outcome.{Outcome, accepted, refused, and_then, refuse_if}
use Rattle.message.proofs.PlanLaws.{plan_bounds}
use Rattle.change.specs.declared.Sent.{Sent}
use Rattle.event.specs.Event.{kind_of, who_of, is_event}
use Rattle.event.specs.Event.Laws.{leader_who}
use Rattle.rm.specs.Rm.{rm_judged, rm_verdict, rm_step}
use Rattle.rm.specs.Rm.Laws as RmSound
use Rattle.acceptor.specs.Acceptor.{acceptor_judged, acceptor_verdict, acceptor_step}
use Rattle.acceptor.specs.Acceptor.Sound as AcceptorSound
use Rattle.summary.specs.Summary.{marked}
use Rattle.summary.specs.Summary.Laws.{marked_length, marked_grows}
use Rattle.leader.specs.Leader.{is_summary, stands, leader_judged, leader_verdict_by, leader_step}
use Rattle.leader.specs.Leader.Sound as LeaderSound
use Rattle.record.specs.Record.{Tables, inbox_size, inbox_of, with_inbox, summary_of, lent_judged, RecordStep, record_step}
use Rattle.record.specs.Record.Parts.{length_inbox_of, inbox_of_with, inbox_of_with_other}
use Rattle.record.specs.Record.Laws.{judged_leader}
use Rattle.matching.proofs.Leader.Own as Own
use Rattle.conformance.specs.Record.{own_inbox, own_summary, Acted, prepares, chooses_to_abort, receives_commit, receives_abort, promises, casts_vote}
use Rattle.conformance.specs.Record.{receives, opens_ballot, proposes, commits, aborts}
use Rattle.conformance.proofs.Record.Steps.{Role, rm, acceptor, leader, role_of, leader_part, role_rm, role_acceptor, role_leader, Taken, taken, keeps}
use Rattle.conformance.proofs.Record.Acts.{acts}

module _ (p : Plan) (t : Tables) (e : List ℕ) where
  -- the inboxes of leader l before the call and after it
  abbrev Kept : ℕ → RecordStep → Type 0
  Kept l r = inbox_of p r.tables.inboxes l ≡ inbox_of p t.inboxes l

  pub inbox_kept : (l : ℕ) → l < p.leaders → (kind_of e ≤ 3) ⊎ (l ≡ who_of e → ⊥) → Kept l (record_step p t e)
  inbox_kept l member apart = go (record_step p t e).answer refl
    where
      by : Taken p t e → Role e → Kept l (record_step p t e)
      by u (rm h) = rw (u.is_role ∙ role_rm p t e h) refl
      by u (acceptor h) = rw (u.is_role ∙ role_acceptor p t e h) refl
      by u (leader h) = other apart
        where
          some : 0 < p.leaders
          some = (plan_bounds p u.tables.plan).leaders_least

          who : who_of e < p.leaders
          who = leader_who p e u.event_is h

          size : length (leader_part p t e).step.table ≡ inbox_size p t.inboxes
          size =
              let (j, l, n, s)
              = Own.own_sound p (own_inbox p t e) (own_summary p t e) t.network e (judged_leader p t u.tables (who_of e) who) in
              l ∙ length_inbox_of p t.inboxes (who_of e) some who

          other : (kind_of e ≤ 3) ⊎ (l ≡ who_of e → ⊥) → Kept l (record_step p t e)
          other (inl small) = absurd (omega arith)
          other (inr n) =
              rw (u.is_role ∙ role_leader p t e u.tables u.right u.event_is h)
              (inbox_of_with_other p t.inboxes (who_of e) some who (leader_part p t e).step.table size l member n)

      go : (o : Outcome Sent) → (record_step p t e).answer ≡ o → Kept l (record_step p t e)
      go (refused k) is = rw (keeps p t e k is) refl
      go (accepted sent) is = by (taken p t e sent is) (role_of e)

  -- the summary after a receipt: the leader's bytes marked
  abbrev Marks : Tables → Type 0
  Marks u =
      (kind_of e ≡ 4)
      × (who_of e < p.leaders)
      × ((d : ℕ → ℕ → Bool) × (m : Wire.Message) × (u.summary ≡ with_inbox p t.summary (who_of e) (marked d (own_summary p t e) m)))

  marks : {a : Outcome Sent} {u : Tables} → Acted p t e a u → (u.summary ≡ t.summary) ⊎ Marks u
  marks (prepares kind weight does sent same) = inl (ap (λ (u : Tables). u.summary) same)
  marks (chooses_to_abort kind weight does sent same) = inl (ap (λ (u : Tables). u.summary) same)
  marks (receives_commit kind weight slot does is same) = inl (ap (λ (u : Tables). u.summary) same)
  marks (receives_abort kind weight slot does is same) = inl (ap (λ (u : Tables). u.summary) same)
  marks (promises kind acc ins bal slot does sent same) = inl (ap (λ (u : Tables). u.summary) same)
  marks (casts_vote kind acc ins bal val slot does sent same) = inl (ap (λ (u : Tables). u.summary) same)
  marks (receives kind member m slot takes is box stores same) = inr (kind, member, (_, m, ap (λ (u : Tables). u.summary) same))
  marks (opens_ballot kind member weight owned does sent same) = inl (ap (λ (u : Tables). u.summary) same)
  marks (proposes kind member weight owned does is sent box stores same) = inl (ap (λ (u : Tables). u.summary) same)
  marks (commits kind member does sent same) = inl (ap (λ (u : Tables). u.summary) same)
  marks (aborts kind member does sent same) = inl (ap (λ (u : Tables). u.summary) same)

  after : ((record_step p t e).tables.summary ≡ t.summary) ⊎ Marks (record_step p t e).tables
  after = go (record_step p t e).answer refl
    where
      go : (o : Outcome Sent) → (record_step p t e).answer ≡ o → ((record_step p t e).tables.summary ≡ t.summary) ⊎ Marks (record_step p t e).tables
      go (refused k) is = inl (ap (λ (r : RecordStep). r.tables.summary) (keeps p t e k is))
      go (accepted sent) is = marks (acts p t e sent is)

  pub unmarked : (kind_of e ≡ 4 → ⊥) → (record_step p t e).tables.summary ≡ t.summary
  unmarked other = ⊎_elim (λ same. same) (λ h. absurd (other h.0)) after

  -- as many bytes as there were
  marked_size : (d : ℕ → ℕ → Bool) (m : Wire.Message) → who_of e < p.leaders → length (marked d (own_summary p t e) m) ≡ inbox_size p t.summary
  marked_size d m who = marked_length d (own_summary p t e) m ∙ length_inbox_of p t.summary (who_of e) (omega arith) who

  pub summary_kept : (l : ℕ) → l < p.leaders → (l ≡ who_of e → ⊥) → summary_of p (record_step p t e).tables l ≡ summary_of p t l
  summary_kept l member apart = go after
    where
      go : ((record_step p t e).tables.summary ≡ t.summary) ⊎ Marks (record_step p t e).tables → summary_of p (record_step p t e).tables l ≡ summary_of p t l
      go (inl same) = ap (λ (s : List ℕ). inbox_of p s l) same
      go (inr (kind, who, (d, m, is))) =
          ap (λ (s : List ℕ). inbox_of p s l) is
          ∙ inbox_of_with_other p t.summary (who_of e) (omega arith) who (marked d (own_summary p t e) m) (marked_size d m who) l member apart

  pub summary_grows : (l i v : ℕ) → l < p.leaders → stands (summary_of p t l) i v ≡ true → stands (summary_of p (record_step p t e).tables l) i v ≡ true
  summary_grows l i v member stood = go after (ℕ_discrete l (who_of e))
    where
      go : ((record_step p t e).tables.summary ≡ t.summary) ⊎ Marks (record_step p t e).tables → Dec (l ≡ who_of e)
          → stands (summary_of p (record_step p t e).tables l) i v ≡ true
      go (inl same) which = ap (λ (s : List ℕ). stands (inbox_of p s l) i v) same ∙ stood
      go (inr marks) (no apart) = ap (λ (s : List ℕ). stands s i v) (summary_kept l member apart) ∙ stood
      go (inr (kind, who, (d, m, is))) (yes own) =
          let bytes : summary_of p (record_step p t e).tables l ≡ marked d (own_summary p t e) m
          = ap (λ (k : ℕ). summary_of p (record_step p t e).tables k) own
          ∙ ap (λ (s : List ℕ). inbox_of p s (who_of e)) is
          ∙ inbox_of_with p t.summary (who_of e) (omega arith) who (marked d (own_summary p t e) m) (marked_size d m who) in
          ap (λ (s : List ℕ). stands s i v) bytes ∙ marked_grows d (own_summary p t e) i v m (rw own at stood)

-- what is no event is 7 in every call
module _ (p : Plan) (e : List ℕ) (none : is_event p e ≡ false) where
  pub no_event_record : (t : Tables) → lent_judged p t ≡ accepted tt → (record_step p t e).answer ≡ refused 7
  unfolding record_step and_then refuse_if
  no_event_record t sound = rw (sound, none)

  pub no_event_rm : (states network : List ℕ) → rm_judged p states network ≡ accepted tt → (rm_step p states network e).answer ≡ refused 7
  unfolding rm_step rm_verdict and_then refuse_if
  no_event_rm states network sound = rw (sound, (RmSound.sound p states network sound).plan, none)

  pub no_event_acceptor : (votes network : List ℕ) → acceptor_judged p votes network ≡ accepted tt → (acceptor_step p votes network e).answer ≡ refused 7
  unfolding acceptor_step acceptor_verdict and_then refuse_if
  no_event_acceptor votes network sound = rw (sound, (AcceptorSound.sound p votes network sound).plan, none)

  pub no_event_leader : (inbox summary network : List ℕ) → leader_judged p inbox network ≡ accepted tt → is_summary p.rms summary ≡ true
      → (leader_step p inbox summary network e).step.answer ≡ refused 7
  unfolding leader_step leader_verdict_by and_then refuse_if
  no_event_leader inbox summary network sound right = rw (sound, right, (LeaderSound.sound p inbox network sound).plan, none)
