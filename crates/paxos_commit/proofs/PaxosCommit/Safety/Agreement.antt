-- What the invariant gives.
--     chosen_2a, chosen_2b   what a majority has chosen at a ballot is what every later ballot proposes, and what is voted for there
--     one_chosen             an instance chooses one value
--     proposed_first         what is chosen prepared was proposed by the resource manager
--     declined_chooses       an instance whose resource manager has declined chooses nothing but aborted
--     declined_ends          and Commit is not sent
--     never_both             Commit and Abort are not both sent
--     can_commit_lem         with a Commit every resource manager is prepared or committed
--     not_committed_lem      with an Abort none is committed
--     consistent, type_ok    no two have decided differently; all variables are in range
-- Assumes nothing.
use Rattle.std.specs.Prelude.{ℕ, zero, suc, ◌≤◌, ◌<◌, Bool, true, ◌⊎◌, ◌≡◌, refl}
use Rattle.std.proofs.Common.{inl, inr, ⊎_elim, sym, arith}
use Rattle.std.proofs.Math.Decide.{dec_le, dec_lt}
use Rattle.tcommit.specs.RmState as RmState
use Rattle.tcommit.specs.TCommit.{can_commit, not_committed, TCConsistent}
use Rattle.paxos_commit.specs.PaxosCommit.{Val, Val-discrete, prepared, aborted, Message, phase2a, phase2b, Commit, Abort, State}
use Rattle.paxos_commit.specs.PaxosCommit.{MajoritiesMeet, PCTypeOK, Decided}
use Rattle.paxos_commit.proofs.PaxosCommit.Laws.{unlike}
use Rattle.paxos_commit.specs.Widened.{Declined}
use Rattle.paxos_commit.specs.PaxosCommit.Safety.{Grounds, Refused, Inv}

grounds_range : (msgs : Message → Type 0) (i n : ℕ) → Grounds msgs i n → n ≤ RmState.aborted
grounds_range msgs i zero h = omega arith
grounds_range msgs i (suc zero) h = omega arith
grounds_range msgs i (suc (suc zero)) h = omega arith
grounds_range msgs i (suc (suc (suc zero))) h = omega arith
grounds_range msgs i (suc (suc (suc (suc n)))) h = absurd h

module _ {RM Acceptor : ℕ → Type 0} {Majority : (ℕ → Bool) → Type 0} {s : State} (inv : Inv RM Acceptor Majority s) where
  pub type_ok : PCTypeOK RM Acceptor Majority s
  type_ok = (λ i q. grounds_range s.msgs i (s.rm_state i) (inv.states i q), inv.ranges)

  pub told_commit : (i : ℕ) → RM i → s.rm_state i ≡ RmState.committed → s.msgs Commit
  told_commit i q e = rw e at (inv.states i q)

  module _ (meet : MajoritiesMeet RM Acceptor Majority) where
    pub chosen_2a : (i c b : ℕ) (v w : Val) (MS : ℕ → Bool) → Majority MS → ((a : ℕ) → MS a ≡ true → s.msgs (phase2b a i c v))
        → c ≤ b → s.msgs (phase2a i b w) → w ≡ v
    chosen_2a i c b v w MS many votes l h = go (Val-discrete w v) (dec_lt c b)
      where
        go : Dec (w ≡ v) → Dec (c < b) → w ≡ v
        go (yes e) k = e
        go (no d) (yes k) = let (a, member, past, none) = inv.safe i b c w v MS h k (λ e. d (sym e)) many in absurd (none (votes a member))
        go (no d) (no k) =
            let (a, member, again) = meet MS MS many many in
            let e : b ≡ c = omega arith in
            inv.one_value i c w v (rw e at h) (inv.voted a i c v (votes a member)).0

    pub chosen_2b : (i c b : ℕ) (v w : Val) (MS : ℕ → Bool) → Majority MS → ((a : ℕ) → MS a ≡ true → s.msgs (phase2b a i c v))
        → c ≤ b → (a : ℕ) → s.msgs (phase2b a i b w) → w ≡ v
    chosen_2b i c b v w MS many votes l a h = chosen_2a i c b v w MS many votes l (inv.voted a i b w h).0

    pub one_chosen : (i : ℕ) (v w : Val) → Decided RM Acceptor Majority s.msgs i v → Decided RM Acceptor Majority s.msgs i w → v ≡ w
    one_chosen i v w (c, MS, many, votes) (b, MS', many', votes') = go (dec_le c b) (meet MS MS' many many')
      where
        go : Dec (c ≤ b) → (a : ℕ) × (MS a ≡ true) × (MS' a ≡ true) → v ≡ w
        go (yes l) (a, m, m') = sym (chosen_2b i c b v w MS many votes l a (votes' a m'))
        go (no l) (a, m, m') = chosen_2b i b c w v MS' many' votes' (omega arith) a (votes a m)

    -- what is chosen prepared was proposed by the resource manager
    pub proposed_first : (i : ℕ) → Decided RM Acceptor Majority s.msgs i prepared → s.msgs (phase2a i 0 prepared)
    proposed_first i (b, MS, many, votes) =
        let (a, member, again) = meet MS MS many many in
        inv.prepared_first i b (inv.voted a i b prepared (votes a member)).0

    refused_not_chosen : (i : ℕ) → Refused RM Acceptor Majority s.msgs i → Decided RM Acceptor Majority s.msgs i prepared → ⊥
    refused_not_chosen i (inl r) d = unlike (one_chosen i prepared aborted d r)
    refused_not_chosen i (inr (e, h)) d = unlike (inv.one_value i 0 prepared aborted (proposed_first i d) h)

    -- an instance whose resource manager has declined chooses nothing but aborted
    pub declined_chooses : (i : ℕ) (v : Val) → Declined s.msgs i → Decided RM Acceptor Majority s.msgs i v → v ≡ aborted
    declined_chooses i v h d =
        let (a, member, again) = meet d.1 d.1 d.2 d.2 in
        ⊎_elim (λ e. absurd (refused_not_chosen i (inr (refl, h)) (rw e at d))) (λ e. e) (inv.ranges _ (d.3 a member)).2

    pub declined_ends : (i : ℕ) → RM i → Declined s.msgs i → s.msgs Commit → ⊥
    declined_ends i q h sent = refused_not_chosen i (inr (refl, h)) (inv.decisions.0 sent i q)

    pub never_both : s.msgs Commit → s.msgs Abort → ⊥
    never_both h k = let (i, q, r) = inv.decisions.1 k in refused_not_chosen i r (inv.decisions.0 h i q)

    -- the grounds that agree with a proposal of prepared and with Commit
    ready : (i n : ℕ) → s.msgs (phase2a i 0 prepared) → s.msgs Commit → Grounds s.msgs i n → (n ≡ RmState.prepared) ⊎ (n ≡ RmState.committed)
    ready i zero first h g = absurd (g prepared first)
    ready i (suc zero) first h g = inl refl
    ready i (suc (suc zero)) first h g = inr refl
    ready i (suc (suc (suc zero))) first h (inl g) = absurd (unlike (inv.one_value i 0 prepared aborted first g))
    ready i (suc (suc (suc zero))) first h (inr g) = absurd (never_both h g)
    ready i (suc (suc (suc (suc n)))) first h g = absurd g

    pub can_commit_lem : s.msgs Commit → can_commit RM s.rm_state
    can_commit_lem h i q = ready i (s.rm_state i) (proposed_first i (inv.decisions.0 h i q)) h (inv.states i q)

    pub not_committed_lem : s.msgs Abort → not_committed RM s.rm_state
    not_committed_lem h i q e = never_both (told_commit i q e) h

    pub consistent : TCConsistent RM s.rm_state
    consistent i j p q e d = ⊎_elim (λ k. omega arith) (λ k. omega arith) (can_commit_lem (told_commit j q d) i p)
