-- Each event call is a step of module PaxosCommit as published, for kind 8 with Decide widened, its conditions read from msgs: what a leader reads
-- from its inbox, and from its bytes of the summary, is so in N.
--     NextByKind          an action of PCNext, or for kind 8 of Decide widened
--     next_widened, next_published     so it is one of the widened module, and of the printed one if the kind is not 8
--     ActsOrReceives, NextOrStays     that, or a receipt
--     published_action    where an event call is accepted, its `Action` is such an action, a receipt apart
--     published_acted     so the call is, and a receipt leaves W, Q and N
-- Assumes nothing.
use Rattle.std.specs.Prelude.{ℕ, ◌<◌, true, List, ◌⊎◌, ◌≡◌}
use Rattle.std.proofs.Common.{inl, inr, ⊎_elim, sym, ◌∙◌, ap, arith}
use Rattle.message.specs.declared.Plan.{Plan}
use Rattle.message.specs.Outcome.{Outcome}
use Rattle.change.specs.declared.Sent.{Sent}
use Rattle.event.specs.Event.{kind_of, who_of, high_of, low_of}
use Rattle.paxos_commit.specs.PaxosCommit.{State, Message, Commit, Abort, UnchangedMsgs, PCNext, Phase2a, Phase1b, Phase2b}
use Rattle.paxos_commit.specs.Widened.{WidenedDecide, WidenedNext}
use Rattle.paxos_commit.proofs.PaxosCommit.Safety.Leader.{phase2a_of_part, decide_commit_of_part, decide_abort_of_part}
use Rattle.leader.specs.Leader.{owns}
use Rattle.phase2a.specs.Phase2a.Laws.{owns_above}
use Rattle.record.specs.Record.{Tables, with_inboxes, with_summary}
use Rattle.matching.specs.Reading.{is_rm, is_acceptor, is_majority_set, val_of, message_of}
use Rattle.matching.specs.Call.{SlotHolds}
use Rattle.matching.specs.Rm.{RMPrepare, RMChooseToAbort, RMRcvCommitMsg, RMRcvAbortMsg}
use Rattle.matching.specs.Leader.{Phase2aAction}
use Rattle.conformance.specs.Record.{record_state, Acted}
use Rattle.conformance.specs.Action.{ActsOnSlot, Action}
use Rattle.conformance.proofs.Action.Laws.{action_acted, copies_acted}
use Rattle.conformance.specs.Record.{prepares, chooses_to_abort, receives_commit, receives_abort, promises, casts_vote, receives, opens_ballot}
use Rattle.conformance.specs.Record.{proposes, commits, aborts}
use Rattle.safety.specs.Grounds.{sent_in, seen_by, Unchanged, Grounded}
use Rattle.safety.proofs.Grounds.Marks.{commit_seen, abort_seen}

-- kind 8 may send Abort where a resource manager has declined (document 02, Paper 6)
abbrev pub NextByKind : Plan → List ℕ → State → State → Type 0
NextByKind p e s s' =
    PCNext (is_rm p) (is_acceptor p) (is_majority_set p) s s' ⊎ ((kind_of e ≡ 8) × WidenedDecide (is_rm p) (is_acceptor p) (is_majority_set p) s s')

pub next_widened : (p : Plan) (e : List ℕ) (s s' : State) → NextByKind p e s s' → WidenedNext (is_rm p) (is_acceptor p) (is_majority_set p) s s'
next_widened p e s s' (inl next) = inl next
next_widened p e s s' (inr (kind, decides)) = inr decides

pub next_published : (p : Plan) (e : List ℕ) (s s' : State) → (kind_of e ≡ 8 → ⊥) → NextByKind p e s s' → PCNext (is_rm p) (is_acceptor p) (is_majority_set p) s s'
next_published p e s s' other (inl next) = next
next_published p e s s' other (inr (kind, decides)) = absurd (other kind)

-- such an action, of a kind that is not the receipt's; or a receipt
abbrev pub ActsOrReceives : Plan → Tables → List ℕ → Tables → Type 0
ActsOrReceives p t e t' =
    ((kind_of e ≡ 4 → ⊥) × NextByKind p e (record_state p t) (record_state p t'))
    ⊎ ((kind_of e ≡ 4) × Unchanged t t')

pub unchanged_of : (t : Tables) {t' : Tables} {inboxes summary : List ℕ} → t' ≡ with_summary (with_inboxes t inboxes) summary → Unchanged t t'
unchanged_of t same = (ap (λ (u : Tables). u.states) same, ap (λ (u : Tables). u.votes) same, ap (λ (u : Tables). u.network) same)

-- to a state s'; by a receipt the variables stay
abbrev pub NextOrStays : Plan → Tables → List ℕ → State → Type 0
NextOrStays p t e s' =
    ((kind_of e ≡ 4 → ⊥) × NextByKind p e (record_state p t) s')
    ⊎ ((kind_of e ≡ 4)
    × (s'.rm_state ≡ (record_state p t).rm_state)
    × (s'.a_state ≡ (record_state p t).a_state)
    × UnchangedMsgs (is_rm p) (is_acceptor p) (is_majority_set p) (record_state p t) s')

module _ (p : Plan) (t : Tables) (e : List ℕ) (g : Grounded p t) where
  heard : who_of e < p.leaders → (x : Message) → seen_by p t (who_of e) x → sent_in p t x
  heard = g.inboxes (who_of e)

  module _ (s' : State) where
    -- the leader has no 2a for the instance and its ballot, so nobody has sent one
    published_2a : who_of e < p.leaders → owns p (who_of e) (low_of e) ≡ true
        → Phase2aAction p (seen_by p t (who_of e)) (low_of e) (high_of e) (record_state p t) s'
        → Phase2a (is_rm p) (is_acceptor p) (is_majority_set p) (low_of e) (high_of e) (record_state p t) s'
    published_2a member owned acts =
        phase2a_of_part g.inv _ (heard member) s' (low_of e) (high_of e)
        (λ v h. acts.0 v (g.own_2a (who_of e) member (low_of e) owned (high_of e) v h))
        acts

    acting : {k : ℕ} → kind_of e ≡ k → (k ≡ 4 → ⊥) → PCNext (is_rm p) (is_acceptor p) (is_majority_set p) (record_state p t) s' → NextOrStays p t e s'
    acting kind other next = inl (λ four. other (sym kind ∙ four), inl next)

    taken : (SlotHolds p t.network e (λ m. message_of m ≡ Commit) × RMRcvCommitMsg p (who_of e) (record_state p t) s')
        ⊎ (SlotHolds p t.network e (λ m. message_of m ≡ Abort) × RMRcvAbortMsg p (who_of e) (record_state p t) s')
        → RMPrepare p (who_of e) (record_state p t) s'
        ⊎ (RMChooseToAbort p (who_of e) (record_state p t) s'
        ⊎ (RMRcvCommitMsg p (who_of e) (record_state p t) s' ⊎ RMRcvAbortMsg p (who_of e) (record_state p t) s'))
    taken (inl (slot, acts)) = inr (inr (inl acts))
    taken (inr (slot, acts)) = inr (inr (inr acts))

    voted : ActsOnSlot p t e (record_state p t) s'
        → Phase1b (is_rm p) (is_acceptor p) (is_majority_set p) (who_of e) (record_state p t) s'
        ⊎ Phase2b (is_rm p) (is_acceptor p) (is_majority_set p) (who_of e) (record_state p t) s'
    voted (inl (ins, bal, slot, acts)) = inl (ins, bal, acts)
    voted (inr (ins, bal, val, slot, acts)) = inr (ins, bal, val_of val, acts)

    -- of the call only its kind, and that who, instance and ballot are in range, is taken; what is set is what the action says
    pub published_action : {answer : Outcome Sent} {t' : Tables} → Acted p t e answer t' → Action p t e (record_state p t) s' → NextOrStays p t e s'
    published_action (prepares kind rm acts sent same) a = acting kind (λ x. omega arith) (inl (who_of e, rm, inl (a.kind_0 kind)))
    published_action (chooses_to_abort kind rm acts sent same) a = acting kind (λ x. omega arith) (inl (who_of e, rm, inr (inl (a.kind_1 kind))))
    published_action (receives_commit kind rm slot acts is same) a = acting kind (λ x. omega arith) (inl (who_of e, rm, taken (a.kind_2 kind)))
    published_action (receives_abort kind rm slot acts is same) a = acting kind (λ x. omega arith) (inl (who_of e, rm, taken (a.kind_2 kind)))
    published_action (promises kind acc ins bal slot acts sent same) a = acting kind (λ x. omega arith) (inr (inr (inr (who_of e, acc, voted (a.kind_3 kind)))))
    published_action (casts_vote kind acc ins bal val slot acts sent same) a = acting kind (λ x. omega arith) (inr (inr (inr (who_of e, acc, voted (a.kind_3 kind)))))
    published_action (receives kind member m slot taken is box stores same) a = let (r, v, u) = a.kind_4 kind in inr (kind, r, v, u)
    published_action (opens_ballot kind member rm owned acts sent same) a =
        acting kind (λ x. omega arith) (inr (inl (low_of e, high_of e, rm, owns_above p (low_of e) (who_of e) owned, inl (a.kind_5 kind))))
    published_action (proposes kind member rm owned acts is sent box stores same) a =
        acting kind (λ x. omega arith)
        (inr (inl (low_of e, high_of e, rm, owns_above p (low_of e) (who_of e) owned, inr (published_2a member owned (a.kind_6 kind)))))
    published_action (commits kind member acts sent same) a =
        acting kind (λ x. omega arith)
        (inr (inr (inl (decide_commit_of_part g.inv _ (heard member) s' (commit_seen p t g.sound g.standing (who_of e) member _ _ (a.kind_7 kind))))))
    published_action (aborts kind member acts sent same) a =
        inl (
          λ four. omega arith,
          inr (kind, decide_abort_of_part g.inv _ (heard member) s' (abort_seen p t g.sound g.standing (who_of e) member _ _ (a.kind_8 kind))),
        )

  pub published_acted : {answer : Outcome Sent} {t' : Tables} → Acted p t e answer t' → ActsOrReceives p t e t'
  published_acted {answer} {t'} acted =
      ⊎_elim inl
      (λ (kind, row, states, msgs). inr (kind, unchanged_of t (copies_acted p t e answer t' acted kind).3.2))
      (published_action (record_state p t') acted (action_acted p t e answer t' acted))
