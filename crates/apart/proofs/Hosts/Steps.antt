-- One happening: it is a step of module PaxosCommit, Decide widened, keeps a system grounded, and does not answer 11.
--     call_claim, deliver_claim, restart_claim     what is claimed, of each case
--     one_claim               so of every genuine happening
--     grounded_one, path_one, agreed_one, not_11_one     what is then safe
-- Assumes nothing.
use Rattle.std.specs.Prelude.{ℕ, true, ◌⊎◌, ◌≡◌, refl}
use mathlib.Core.List.{List, [], Memᴰ}
use Rattle.std.proofs.Common.{inl, inr, ⊎_elim, sym, ap, ap₂, subst}
use Rattle.message.specs.declared.Plan.{Plan}
use Rattle.message.specs.Outcome.{Outcome, accepted, refused}
use Rattle.message.proofs.Outcome.Laws.{accepted_not_refused}
use Rattle.message.specs.Codec.{read_message}
use Rattle.message.proofs.Codec.Laws.{read_message_form}
use Rattle.slots.specs.Table.{messages}
use Rattle.slots.specs.View.{store_bytes}
use Rattle.change.specs.declared.Sent.{Sent}
use Rattle.change.specs.Change.{Step, refusal}
use Rattle.event.specs.Event.{who_of, is_event}
use Rattle.tcommit.specs.RmState.{committed, aborted}
use Rattle.tcommit.specs.TCommit.{TCNext}
use Rattle.paxos_commit.proofs.PaxosCommit.Safety.Histories.{inv_widened, tc_widened}
use Rattle.paxos_commit.proofs.PaxosCommit.Safety.Agreement.{consistent}
use Rattle.matching.specs.Reading.{is_rm}
use Rattle.matching.specs.Call.{Accepted}
use Rattle.matching.proofs.Call.Laws.{stored}
use Rattle.matching.proofs.Rm.Laws as RmLaws
use Rattle.matching.proofs.Acceptor.Laws as AcceptorLaws
use Rattle.matching.proofs.Leader.Own.{own_keeps, own_took}
use Rattle.matching.proofs.Theorems.{majorities_meet}
use Rattle.safety.proofs.Grounds.Stored.{member_split}
use Rattle.deliver.specs.Deliver.{Delivery, deliver_step}
use Rattle.deliver.specs.Deliver.Laws.{delivered as delivered-is, deliver_keeps, deliver_not_11}
use Rattle.apart.specs.Hosts.{Role, rm, acceptor, leader, System, Happening, call, delivery, restart, Left, left_by, made, called, delivered}
use Rattle.apart.specs.Hosts.{restarted, only, sent_by, OwnNumber, NotForged, TableKept, SummaryKept, Genuine, row, published}
use Rattle.apart.proofs.Hosts.Tied.{Tied, Grounded, Allowed, Claim, summary_same, claim_refused, claim_network}
use Rattle.apart.proofs.Hosts.Restart.{kept_reading}
use Rattle.apart.proofs.Hosts.Rm.{event_11, rm_claim, rm_not_11}
use Rattle.apart.proofs.Hosts.Acceptor.{acceptor_claim, acceptor_not_11}
use Rattle.apart.proofs.Hosts.Leader.{leader_claim, leader_not_11}

module _ (p : Plan) (s : System) (g : Grounded p s) where
  -- the role's own call on host k
  abbrev step : Role → ℕ → List ℕ → Left
  step role k e = called p role (s.hosts role k) e

  keeps : (role : Role) (k : ℕ) (e : List ℕ) (j : ℕ) → (step role k e).answer ≡ refused j
      → step role k e ≡ left_by (refusal (s.hosts role k).table (s.hosts role k).network j) (s.hosts role k).summary
  keeps rm k e j is = ap (λ (r : Step). left_by r (s.hosts rm k).summary) (RmLaws.keeps p _ _ e j is)
  keeps acceptor k e j is = ap (λ (r : Step). left_by r (s.hosts acceptor k).summary) (AcceptorLaws.keeps p _ _ e j is)
  keeps leader k e j is = let (left, same) = own_keeps p _ _ _ e j is in ap₂ left_by left same

  event : (role : Role) (k : ℕ) (e : List ℕ) → Accepted (step role k e).answer → is_event p e ≡ true
  event rm k e taken = (RmLaws.took p _ _ e taken).event
  event acceptor k e taken = (AcceptorLaws.took p _ _ e taken).event
  event leader k e taken = (own_took p _ _ _ e taken).event

  -- the host that the event names
  own : (role : Role) (e : List ℕ) → Accepted (step role (who_of e) e).answer → Claim p s role (who_of e) (step role (who_of e) e) (sent_by p (step role (who_of e) e))
  own rm e taken = rm_claim p s e g.tied taken
  own acceptor e taken = acceptor_claim p s g e taken
  own leader e taken = leader_claim p s g e taken

  call_claim : (role : Role) (k : ℕ) (e : List ℕ) → OwnNumber p k e → Claim p s role k (step role k e) (sent_by p (step role k e))
  call_claim role k e named = go (step role k e).answer refl
    where
      go : (o : Outcome Sent) → (step role k e).answer ≡ o → Claim p s role k (step role k e) (sent_by p (step role k e))
      go (refused j) is = claim_refused p s g.tied role k (step role k e) j (keeps role k e j is)
      go (accepted a) is =
          subst (λ (i : ℕ). Accepted (step role i e).answer → Claim p s role i (step role i e) (sent_by p (step role i e)))
          (named (event role k e (a, is))) (own role e) (a, is)

  module _ (role : Role) (k : ℕ) where
    abbrev network : List ℕ
    network = (s.hosts role k).network

    -- N after a delivery has what it had, and what the bytes read as
    deliver_claim : (bytes : List ℕ) → NotForged s (only (read_message p bytes)) → Claim p s role k (delivered p (s.hosts role k) bytes) []
    deliver_claim bytes genuine = go (deliver_step p network bytes).answer refl
      where
        go : (o : Outcome Sent) → (deliver_step p network bytes).answer ≡ o → Claim p s role k (delivered p (s.hosts role k) bytes) []
        go (refused j) is =
            claim_network p s g.tied role k (delivered p (s.hosts role k) bytes)
            (λ m h. g.tied.networks role k m (rw (deliver_keeps p network bytes j is) at h)) refl (summary_same role (s.hosts role k) _ refl)
        go (accepted a) is =
            let d = delivered-is p network bytes a is in
            let range = (read_message_form p bytes d.message d.read).in_range in
            let stored_is = stored p network d.plan d.whole d.ordered d.message range d.slot d.store d.send in
            let after_is : (deliver_step p network bytes).network ≡ store_bytes p d.store network = ap (λ (r : Delivery). r.network) d.step in
            let there : Memᴰ d.message (only (read_message p bytes)) = rw d.read (mathlib.Core.List.Memᴰ.head refl) in
            claim_network p s g.tied role k (delivered p (s.hosts role k) bytes)
            (λ m h. ⊎_elim (g.tied.networks role k m) (λ e. rw e (genuine d.message there))
            (member_split p network (store_bytes p d.store network) d.message stored_is.stores m
            (subst (λ (n : List ℕ). Memᴰ m (messages p n)) after_is h)))
            refl
            (summary_same role (s.hosts role k) _ refl)

    restart_claim : (table summary network' : List ℕ) → TableKept (s.hosts role k) table → SummaryKept role (s.hosts role k) summary
        → NotForged s (messages p network') → Claim p s role k (restarted table summary network') []
    restart_claim table summary network' same stood genuine =
        claim_network p s g.tied role k (restarted table summary network') genuine (kept_reading p (s.hosts role k) table same) stood

  pub one_claim : (h : Happening) → Genuine p s h → Allowed p s (made p s h).system × Tied p (made p s h).system
  one_claim (call role k e) named = call_claim role k e named
  one_claim (delivery role k bytes) genuine = deliver_claim role k bytes genuine
  one_claim (restart role k table summary network') (same, stood, genuine) = restart_claim role k table summary network' same stood genuine

  module _ (h : Happening) (genuine : Genuine p s h) where
    pub grounded_one : Grounded p (made p s h).system
    grounded_one =
        let (allowed, tied) = one_claim h genuine in
        record { inv = inv_widened (majorities_meet p).1 g.inv (published p (made p s h).system) allowed; tied = tied }

    pub path_one : (row (made p s h).system ≡ row s) ⊎ TCNext (is_rm p) (row s) (row (made p s h).system)
    path_one = ⊎_elim inr inl (tc_widened (majorities_meet p).1 g.inv (published p (made p s h).system) (one_claim h genuine).0)

    pub agreed_one : (i j : ℕ) → is_rm p i → is_rm p j → row (made p s h).system i ≡ committed → row (made p s h).system j ≡ aborted → ⊥
    agreed_one i j q k is gone = consistent grounded_one.inv (majorities_meet p).1 j i k q gone is

  -- 11 is refused to an event of a weight's host alone
  named_11 : (role : Role) (k : ℕ) (e : List ℕ) → (step role k e).answer ≡ refused 11 → is_event p e ≡ true
  named_11 rm k e is = event_11 p _ _ e (published p s).a_state is
  named_11 acceptor k e is = absurd (acceptor_not_11 p _ _ e (row s) is)
  named_11 leader k e is = absurd (leader_not_11 p _ _ _ e (row s) (published p s).a_state is)

  own_not_11 : (role : Role) (e : List ℕ) → (step role (who_of e) e).answer ≡ refused 11 → ⊥
  own_not_11 rm e = rm_not_11 p s e g
  own_not_11 acceptor e = acceptor_not_11 p _ _ e (row s)
  own_not_11 leader e = leader_not_11 p _ _ _ e (row s) (published p s).a_state

  pub not_11_one : (h : Happening) → Genuine p s h → (made p s h).answer ≡ refused 11 → ⊥
  not_11_one (call role k e) named is =
      subst (λ (i : ℕ). (step role i e).answer ≡ refused 11 → ⊥) (named (named_11 role k e is)) (own_not_11 role e) is
  not_11_one (delivery role k bytes) genuine is = deliver_not_11 p _ bytes is
  not_11_one (restart role k table summary network') genuine is = accepted_not_refused (sym is)
