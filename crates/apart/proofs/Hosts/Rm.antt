-- A resource manager's own call on its own host.
--     row_set             the row of states, when one weight has a new byte
--     rm_claim            an accepted call keeps what is claimed
--     event_11            on any tables, what is refused with 11 is an event
--     rm_not_11           no decision that came contradicts the weight's state
-- Assumes nothing.
use Rattle.std.specs.Prelude.{ℕ, Bool, true, false, cond, List, [], ◌∷◌, ◌⊎◌, ◌≡◌, refl, eqb}
use Rattle.std.proofs.Common.{inl, inr, ⊎_elim, ◌∙◌, ap, arith, eqb-true}
use Rattle.std.proofs.Math.Path.{fun_ext}
use Rattle.std.proofs.Math.Decide.{ℕ_discrete}
use Rattle.message.specs.declared.Plan.{Plan}
use Rattle.message.specs.declared.Message as Wire
use Rattle.message.specs.declared.Message.TheVariants.{Phase2a}
use Rattle.message.specs.Outcome.{accepted, refused}
use Rattle.message.specs.Rows.{Either, here, below, Lowest}
use Rattle.message.proofs.Rows.Named.{row_applies, applies_row}
use Rattle.slots.specs.Table.{messages}
use Rattle.slots.specs.Send.{message_at}
use Rattle.change.specs.declared.Sent.TheVariants.{Quiet}
use Rattle.event.specs.Event.{kind_of, who_of, slot_number, is_event}
use Rattle.event.specs.Event.Laws.{rm_who}
use Rattle.tcommit.specs.RmState.{working, prepared, committed, aborted}
use Rattle.tcommit.specs.TCommit.{except}
use Rattle.tcommit.proofs.TCommit.Laws.{except_here}
use Rattle.paxos_commit.specs.PaxosCommit.{AState, Commit, Abort, PCNext}
use Rattle.paxos_commit.proofs.PaxosCommit.Safety.Agreement.{can_commit_lem, not_committed_lem}
use Rattle.rm.specs.Rm.{rm_step}
use Rattle.matching.specs.Reading.{is_rm, is_acceptor, is_majority_set, message_of, set_of, rm_state_of}
use Rattle.matching.specs.Call.{Accepted, SlotHolds}
use Rattle.matching.proofs.Call.Laws.{member_at}
use Rattle.matching.specs.Rm.{RMPrepare, RMChooseToAbort, RMRcvCommitMsg, RMRcvAbortMsg, Contradicts, state_of, rm_rows}
use Rattle.matching.proofs.Rm.Laws as RmLaws
use Rattle.matching.proofs.Theorems.{majorities_meet, rm_answers, rm_member, rm_prepare, rm_choose_to_abort, rm_receive_commit, rm_receive_abort}
use Rattle.safety.proofs.Grounds.Kept.{unowned_zero}
use Rattle.apart.specs.Hosts.{rm, Host, System, Left, called, after, sent_by, row, published}
use Rattle.apart.proofs.Hosts.Tied.{Tied, Grounded, Heard, heard_of, Claim, claim_sends, tied_same, nets_quiet, wire_adds}

pub row_set : (weights : ℕ → Host) (i v : ℕ) (h : Host) → rm_state_of h.table ≡ except (rm_state_of (weights i).table) i v
    → (λ (j : ℕ). rm_state_of (except weights i h j).table j) ≡ except (λ (j : ℕ). rm_state_of (weights j).table j) i v
row_set weights i v h is = fun_ext (λ (j : ℕ). go j (eqb j i) refl)
  where
    go : (j : ℕ) (b : Bool) → eqb j i ≡ b → rm_state_of (cond b h (weights j)).table j ≡ cond b v (rm_state_of (weights j).table j)
    go j true e = rw (eqb-true j i e) (ap (λ (f : ℕ → ℕ). f i) is ∙ except_here (rm_state_of (weights i).table) i v)
    go j false e = refl

-- row 7
pub event_11 : (p : Plan) (states network e : List ℕ) (a_state : ℕ → ℕ → AState) → (rm_step p states network e).answer ≡ refused 11 → is_event p e ≡ true
event_11 p states network e a_state is = go (is_event p e) refl
  where
    rows : Lowest (rm_rows p states network e (state_of p states network a_state)) (rm_step p states network e).answer
    rows = rm_answers p states network e a_state

    go : (b : Bool) → is_event p e ≡ b → is_event p e ≡ true
    go true h = h
    go false h = absurd (((rows.refuses 11).0 is).1 7 (omega arith) (applies_row (rm_rows p states network e (state_of p states network a_state)) 7 (here (inl h, tt))))

module _ (p : Plan) (s : System) (e : List ℕ) where
  abbrev i : ℕ
  i = who_of e

  abbrev states : List ℕ
  states = (s.hosts rm i).table

  abbrev network : List ℕ
  network = (s.hosts rm i).network

  abbrev r : Left
  r = called p rm (s.hosts rm i) e

  abbrev a_state : ℕ → ℕ → AState
  a_state = (published p s).a_state

  heard : Tied p s → Heard p s.wire network
  heard g = heard_of p s.wire network (g.networks rm i)

  module _ (g : Tied p s) (taken : Accepted r.answer) where
    -- nothing was sent
    quiet : r.answer ≡ accepted Quiet → r.host.network ≡ network
        → PCNext (is_rm p) (is_acceptor p) (is_majority_set p) (published p s) (published p (after s rm i r [])) → Claim p s rm i r (sent_by p r)
    quiet is same next =
        rw is (
          inl (inl next),
          tied_same p s g _ (λ x h. h) (nets_quiet p s g rm i r (λ m h. g.networks rm i m (rw same at h))) (λ l. refl) (λ l j v h. h) (λ l b j v o h. h),
        )

    member : is_rm p i
    member = rm_member p states network e taken

    took : RmLaws.Took p states network e
    took = RmLaws.took p states network e taken

    prepares : kind_of e ≡ 0 → Claim p s rm i r (sent_by p r)
    prepares kind =
        let ((works, is, joined, same), sent, table) = rm_prepare p states network e a_state taken kind in
        let acts : RMPrepare p i (published p s) (published p (after s rm i r (Phase2a i 0 1 ∷ [])))
        = (works, row_set (s.hosts rm) i prepared _ is, wire_adds s.wire (Phase2a i 0 1), refl) in
        claim_sends p s g rm i r (Phase2a i 0 1) sent (λ l. refl) (λ l j v h. h) (unowned_zero p i _) (inl (inl (i, member, inl acts)))

    chooses : kind_of e ≡ 1 → Claim p s rm i r (sent_by p r)
    chooses kind =
        let ((works, is, joined, same), sent, table) = rm_choose_to_abort p states network e a_state taken kind in
        let acts : RMChooseToAbort p i (published p s) (published p (after s rm i r (Phase2a i 0 2 ∷ [])))
        = (works, row_set (s.hosts rm) i aborted _ is, wire_adds s.wire (Phase2a i 0 2), refl) in
        claim_sends p s g rm i r (Phase2a i 0 2) sent (λ l. refl) (λ l j v h. h) (unowned_zero p i _) (inl (inl (i, member, inr (inl acts))))

    learns_commit : kind_of e ≡ 2 → (m : Wire.Message) → message_at (messages p network) (slot_number e) ≡ accepted m → message_of m ≡ Commit
        → Claim p s rm i r (sent_by p r)
    learns_commit kind m slot commit =
        let ((told, is, same, unchanged), silent, table, n) = rm_receive_commit p states network e a_state taken kind m slot commit in
        let acts : RMRcvCommitMsg p i (published p s) (published p (after s rm i r []))
        = (heard g _ told, row_set (s.hosts rm) i committed _ is, refl, λ x. (λ h. h, λ h. h)) in
        quiet silent n (inl (i, member, inr (inr (inl acts))))

    learns_abort : kind_of e ≡ 2 → (m : Wire.Message) → message_at (messages p network) (slot_number e) ≡ accepted m → message_of m ≡ Abort
        → Claim p s rm i r (sent_by p r)
    learns_abort kind m slot abort =
        let ((told, is, same, unchanged), silent, table, n) = rm_receive_abort p states network e a_state taken kind m slot abort in
        let acts : RMRcvAbortMsg p i (published p s) (published p (after s rm i r []))
        = (heard g _ told, row_set (s.hosts rm) i aborted _ is, refl, λ x. (λ h. h, λ h. h)) in
        quiet silent n (inl (i, member, inr (inr (inr acts))))

    pub rm_claim : Claim p s rm i r (sent_by p r)
    rm_claim = go (ℕ_discrete (kind_of e) 0) (ℕ_discrete (kind_of e) 1)
      where
        go : Dec (kind_of e ≡ 0) → Dec (kind_of e ≡ 1) → Claim p s rm i r (sent_by p r)
        go (yes k) d = prepares k
        go (no n) (yes k) = chooses k
        go (no n) (no l) =
            let small = took.small in
            let two : kind_of e ≡ 2 = omega arith in
            let (m, slot, learnt, sound) = RmLaws.receive_acts p states network e a_state took two in
            ⊎_elim (λ c. learns_commit two m slot c.0) (λ a. learns_abort two m slot a.0) learnt

  -- row 11
  abbrev Contradicted : Type 0
  Contradicted = (kind_of e ≡ 2) × SlotHolds p network e (λ m. Contradicts (rm_state_of states i) m)

  row_11 : r.answer ≡ refused 11 → Contradicted
  row_11 is = go (row_applies (rm_rows p states network e (state_of p states network a_state)) 11 (((rm_answers p states network e a_state).refuses 11).0 is).0)
    where
      go : Either (Contradicted × Unit {1}) (Unit {1} → ⊥) → Contradicted
      go (here h) = h.0
      go (below h) = absurd (h tt)

  module _ (g : Grounded p s) where
    disagrees : is_rm p i → (m : Wire.Message) → set_of s.wire (message_of m) → Contradicts (row s i) m → ⊥
    disagrees member m there (inl (commit, state)) = unlike (row s i) (can_commit_lem g.inv (majorities_meet p).1 (rw commit at there) i member) state
      where
        unlike : (n : ℕ) → (n ≡ prepared) ⊎ (n ≡ committed) → (n ≡ working) ⊎ (n ≡ aborted) → ⊥
        unlike n (inl a) (inl b) = omega arith
        unlike n (inl a) (inr b) = omega arith
        unlike n (inr a) (inl b) = omega arith
        unlike n (inr a) (inr b) = omega arith
    disagrees member m there (inr (abort, state)) = not_committed_lem g.inv (majorities_meet p).1 (rw abort at there) i member state

    pub rm_not_11 : r.answer ≡ refused 11 → ⊥
    rm_not_11 is =
        let (kind, (m, there, against)) = row_11 is in
        disagrees (rm_who p e (event_11 p states network e a_state is) (omega arith)) m (heard g.tied _ (m, member_at _ _ m there, refl)) against
