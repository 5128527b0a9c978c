-- Each event keeps a record grounded.
--     Unowned                   what N may gain while no inbox does: not a 2a at a ballot that a leader owns
--     unowned_other, _zero      what is no 2a; a 2a at ballot 0
--     grounded_proposes         Phase2a, by which N and the leader's inbox gain such a 2a
--     grounded_acted            each case of `Acted`; an inbox that gains a message was not full
-- Assumes nothing.
use Rattle.std.specs.Prelude.{ℕ, ◌<◌, Bool, true, false, List, ◌≡◌, refl, length}
use Rattle.std.proofs.lemmas.Bool.{false≢true}
use Rattle.std.proofs.Common.{inl, inr, ⊎_elim, sym, ◌∙◌, ap, arith}
use Rattle.message.specs.declared.Plan.{Plan}
use Rattle.message.specs.declared.Message as Wire
use Rattle.message.specs.Outcome.{Outcome}
use Rattle.change.specs.declared.Sent.{Sent}
use Rattle.event.specs.Event.{who_of, high_of, low_of}
use Rattle.paxos_commit.specs.PaxosCommit.{Val, Message, phase1a, phase1b, phase2a, phase2b, Commit, Abort, Send, UnchangedMsgs}
use Rattle.paxos_commit.proofs.Widened.Laws.{of_prepared, announced_kept}
use Rattle.paxos_commit.proofs.PaxosCommit.Safety.Rm.{inv_rm_prepare, inv_rm_choose_to_abort, inv_rm_rcv_commit, inv_rm_rcv_abort}
use Rattle.paxos_commit.proofs.PaxosCommit.Safety.Leader.{inv_phase1a, inv_phase2a, inv_decide_commit, inv_decide_abort}
use Rattle.paxos_commit.proofs.PaxosCommit.Safety.Acceptor.{inv_phase1b, inv_phase2b}
use Rattle.leader.specs.Leader.{owns}
use Rattle.phase2a.specs.Phase2a.Laws.{one_owner, owns_above}
use Rattle.record.specs.Record.{Tables, inbox_size, with_inbox}
use Rattle.record.specs.Record.Laws.{Sound}
use Rattle.matching.specs.Reading.{is_rm, is_acceptor, is_majority_set, message_of}
use Rattle.matching.proofs.Theorems.{majorities_meet}
use Rattle.matching.specs.Call.{Stores}
use Rattle.matching.proofs.Call.Laws.{member_at}
use Rattle.matching.specs.Leader.{Phase2aAction, DecidedOrDeclinedIn, InboxFull}
use Rattle.conformance.specs.Record.{record_state, own_inbox, Acted}
use Rattle.conformance.specs.Record.{prepares, chooses_to_abort, receives_commit, receives_abort, promises, casts_vote, receives, opens_ballot}
use Rattle.conformance.specs.Record.{proposes, commits, aborts}
use Rattle.safety.specs.Grounds.{sent_in, seen_by, InvOf, Standing, Grounded}
use Rattle.safety.proofs.Grounds.Marks.{commit_seen, abort_seen, box_whole}
use Rattle.safety.proofs.Grounds.Inboxes.{grounded_same, grounded_inbox}

abbrev pub is_proposal : Message → Bool
is_proposal (phase1a i b) = false
is_proposal (phase1b i m r v a) = false
is_proposal (phase2a i b v) = true
is_proposal (phase2b a i b v) = false
is_proposal Commit = false
is_proposal Abort = false

abbrev pub Unowned : Plan → Message → Type 0
Unowned p m = (l b i : ℕ) (v : Val) → owns p l b ≡ true → phase2a i b v ≡ m → ⊥

pub unowned_other : (p : Plan) (m : Message) → is_proposal m ≡ false → Unowned p m
unowned_other p m h l b i v o e = false≢true (sym h ∙ ap is_proposal (sym e))

pub unowned_zero : (p : Plan) (j : ℕ) (w : Val) → Unowned p (phase2a j 0 w)
unowned_zero p j w l b i v o e = let d : b ≡ 0 = cc in let above = owns_above p b l o in omega arith

same_inboxes : {t' u : Tables} → t' ≡ u → t'.inboxes ≡ u.inboxes
same_inboxes same = ap (λ (u : Tables). u.inboxes) same

module _ (p : Plan) (t : Tables) (e : List ℕ) (answer : Outcome Sent) (t' : Tables) (g : Grounded p t) (s : Sound p t') (standing : Standing p t') where
  sends : (m : Message) → Send (is_rm p) (is_acceptor p) (is_majority_set p) m (record_state p t) (record_state p t') → InvOf p t' → t'.inboxes ≡ t.inboxes
      → Unowned p m → Grounded p t'
  sends m sent inv same unowned =
      grounded_same p t t' g s standing inv (λ x h. (sent x).1 (inl h)) same
      (λ l b i v o h. ⊎_elim (λ k. k) (λ is. absurd (unowned l b i v o is)) ((sent _).0 h))

  quiet : UnchangedMsgs (is_rm p) (is_acceptor p) (is_majority_set p) (record_state p t) (record_state p t') → InvOf p t' → t'.inboxes ≡ t.inboxes → Grounded p t'
  quiet sent inv same = grounded_same p t t' g s standing inv (λ x h. (sent x).1 h) same (λ l b i v o h. (sent _).0 h)

  -- all that the event's leader has received was sent
  heard : who_of e < p.leaders → (x : Message) → seen_by p t (who_of e) x → sent_in p t x
  heard = g.inboxes (who_of e)

  announced : who_of e < p.leaders → (i : ℕ) (v : Val) → DecidedOrDeclinedIn p (seen_by p t (who_of e)) i v → DecidedOrDeclinedIn p (sent_in p t) i v
  announced member = announced_kept (is_rm p) (is_acceptor p) (is_majority_set p) _ _ (heard member)

  -- Phase2a: the leader has no 2a for the instance and its ballot, so nobody has sent one, and no other leader has to have it
  grounded_proposes : who_of e < p.leaders → is_rm p (high_of e) → owns p (who_of e) (low_of e) ≡ true
      → (acts : Phase2aAction p (seen_by p t (who_of e)) (low_of e) (high_of e) (record_state p t) (record_state p t'))
      → (m : Wire.Message) → phase2a (high_of e) (low_of e) acts.1.2 ≡ message_of m → (box : List ℕ) → Stores p (own_inbox p t e) m box
      → length box ≡ inbox_size p t.inboxes → t'.inboxes ≡ with_inbox p t.inboxes (who_of e) box → Grounded p t'
  grounded_proposes member rm owned acts m is box stores whole same =
      grounded_inbox p t t' g s standing
      (inv_phase2a g.inv (record_state p t') (majorities_meet p).1 _ (heard member) (low_of e) (high_of e) rm (owns_above p (low_of e) (who_of e) owned) unsent acts)
      (λ x h. (sent x).1 (inl h)) (who_of e) member m box stores whole same
      (rw (← is) ((sent _).1 (inr refl)))
      (λ k b i v o h. ⊎_elim inl (λ d. inr (d ∙ is, owner k b i v o d)) ((sent _).0 h))
    where
      sent : Send (is_rm p) (is_acceptor p) (is_majority_set p) (phase2a (high_of e) (low_of e) acts.1.2) (record_state p t) (record_state p t')
      sent = acts.1.5

      unsent : (v : Val) → sent_in p t (phase2a (high_of e) (low_of e) v) → ⊥
      unsent v h = acts.0 v (g.own_2a (who_of e) member (low_of e) owned (high_of e) v h)

      owner : (k b i : ℕ) (v : Val) → owns p k b ≡ true → phase2a i b v ≡ phase2a (high_of e) (low_of e) acts.1.2 → k ≡ who_of e
      owner k b i v o d = let low : b ≡ low_of e = cc in one_owner p (low_of e) k (who_of e) (rw low at o) owned

  pub grounded_acted : (InboxFull p (own_inbox p t e) t.network e → ⊥) → Acted p t e answer t' → Grounded p t'
  grounded_acted room (prepares kind rm acts sent same) =
      sends _ acts.2 (inv_rm_prepare g.inv (record_state p t') (who_of e) rm acts) (same_inboxes same) (unowned_zero p (who_of e) _)
  grounded_acted room (chooses_to_abort kind rm acts sent same) =
      sends _ acts.2 (inv_rm_choose_to_abort g.inv (record_state p t') (who_of e) rm acts) (same_inboxes same) (unowned_zero p (who_of e) _)
  grounded_acted room (receives_commit kind rm slot acts is same) =
      quiet acts.3 (inv_rm_rcv_commit g.inv (record_state p t') (who_of e) rm acts) (same_inboxes same)
  grounded_acted room (receives_abort kind rm slot acts is same) =
      quiet acts.3 (inv_rm_rcv_abort g.inv (record_state p t') (who_of e) rm acts) (same_inboxes same)
  grounded_acted room (promises kind acc ins bal slot acts sent same) =
      sends _ acts.3 (inv_phase1b g.inv (record_state p t') (who_of e) acc ins bal acts) (same_inboxes same) (unowned_other p _ refl)
  grounded_acted room (casts_vote kind acc ins bal val slot acts sent same) =
      sends _ acts.3 (inv_phase2b g.inv (record_state p t') (who_of e) acc ins bal _ acts) (same_inboxes same) (unowned_other p _ refl)
  grounded_acted room (receives kind member m slot taken is box stores same) =
      grounded_inbox p t t' g s standing (rw same g.inv) (λ x h. rw same h) (who_of e) member m box stores
      (box_whole p t e g.sound member m (λ full. room (inl (kind, (m, slot, full)))) box stores)
      (same_inboxes same)
      (rw same (m, member_at _ _ m slot, refl))
      (λ k b i v o h. inl (rw same at h))
  grounded_acted room (opens_ballot kind member rm owned acts sent same) =
      sends _ acts.0 (inv_phase1a g.inv (record_state p t') (low_of e) (high_of e) rm (owns_above p (low_of e) (who_of e) owned) acts)
      (same_inboxes same)
      (unowned_other p _ refl)
  grounded_acted room (proposes kind member rm owned acts is sent box stores same) =
      grounded_proposes member rm owned acts _ is box stores (box_whole p t e g.sound member _ (λ full. room (inr (kind, full))) box stores)
      (same_inboxes same)
  grounded_acted room (commits kind member acts sent same) =
      sends _ acts.1 (inv_decide_commit g.inv (record_state p t') (DecidedOrDeclinedIn p (seen_by p t (who_of e)))
      (λ i d. of_prepared (is_rm p) (is_acceptor p) (is_majority_set p) (sent_in p t) i (announced member i _ d))
      (commit_seen p t g.sound g.standing (who_of e) member _ _ acts))
      (same_inboxes same)
      (unowned_other p _ refl)
  grounded_acted room (aborts kind member acts sent same) =
      sends _ acts.1 (inv_decide_abort g.inv (record_state p t') (DecidedOrDeclinedIn p (seen_by p t (who_of e))) (λ i. announced member i _)
      (abort_seen p t g.sound g.standing (who_of e) member _ _ acts))
      (same_inboxes same)
      (unowned_other p _ refl)
