-- The actions of a resource manager keep the invariant, and each is a step of Transaction Commit or leaves its state.
--     inv_rm_prepare, inv_rm_choose_to_abort, inv_rm_rcv_commit, inv_rm_rcv_abort
--     tc_rm_prepare, tc_rm_choose_to_abort, tc_rm_rcv_commit, tc_rm_rcv_abort
-- Assumes nothing.
use Rattle.std.specs.Prelude.{ℕ, zero, suc, ◌<◌, Bool, ◌⊎◌, ◌≡◌, refl}
use Rattle.std.proofs.Common.{inl, inr, ⊎_elim, ◌∙◌, arith}
use Rattle.tcommit.specs.RmState as RmState
use Rattle.tcommit.specs.TCommit.{except, TCStep, not_committed}
use Rattle.tcommit.proofs.TCommit.Laws.{except_cases, except_here, except_unchanged}
use Rattle.paxos_commit.specs.PaxosCommit.{Val, prepared, aborted, phase2a, State}
use Rattle.paxos_commit.specs.PaxosCommit.{MajoritiesMeet, Send, RMPrepare, RMChooseToAbort, RMRcvCommitMsg, RMRcvAbortMsg}
use Rattle.paxos_commit.specs.PaxosCommit.Safety.{Grounds, Inv}
use Rattle.paxos_commit.proofs.PaxosCommit.Safety.Growth.{Grounded, inv_says, inv_quiet}
use Rattle.paxos_commit.proofs.PaxosCommit.Safety.Agreement.{told_commit, can_commit_lem, never_both, not_committed_lem}

module _ {RM Acceptor : ℕ → Type 0} {Majority : (ℕ → Bool) → Type 0} {s : State} (inv : Inv RM Acceptor Majority s) (s' : State)
    (rm : ℕ) (member : RM rm) where
  -- rm alone moves, to n
  one_state : (n : ℕ) → s'.rm_state ≡ except s.rm_state rm n → Grounds s'.msgs rm n → Grounded RM s s'
  one_state n e g = rw e (λ i q. except_cases (λ j u. (u ≡ s.rm_state j) ⊎ Grounds s'.msgs j u) s.rm_state rm n (inr g) (λ j other. inl refl) i)

  -- the one proposal of a resource manager that works
  proposes : (v : Val) (n : ℕ) → (v ≡ prepared) ⊎ (v ≡ aborted) → 0 < n → s.rm_state rm ≡ RmState.working → s'.rm_state ≡ except s.rm_state rm n
      → Send RM Acceptor Majority (phase2a rm 0 v) s s' → s'.a_state ≡ s.a_state → Grounds s'.msgs rm n → Inv RM Acceptor Majority s'
  proposes v n value moves works e sent same g =
      inv_says inv _ sent same (member, value) (
        rw works at (inv.states rm member),
        (λ k. inl refl),
        (λ c w MS l. absurd (omega arith)),
        λ z k. let d = rw e at k in let f = except_here s.rm_state rm n in omega arith,
      )
      (one_state n e g)

  pub inv_rm_prepare : RMPrepare RM Acceptor Majority rm s s' → Inv RM Acceptor Majority s'
  inv_rm_prepare (works, e, sent, same) =
      proposes prepared RmState.prepared (inl refl) (omega arith) works e sent same ((sent _).1 (inr refl))

  pub inv_rm_choose_to_abort : RMChooseToAbort RM Acceptor Majority rm s s' → Inv RM Acceptor Majority s'
  inv_rm_choose_to_abort (works, e, sent, same) =
      proposes aborted RmState.aborted (inr refl) (omega arith) works e sent same (inl ((sent _).1 (inr refl)))

  pub inv_rm_rcv_commit : RMRcvCommitMsg RM Acceptor Majority rm s s' → Inv RM Acceptor Majority s'
  inv_rm_rcv_commit (told, e, same, sent) = inv_quiet inv sent same (one_state RmState.committed e ((sent _).1 told))

  pub inv_rm_rcv_abort : RMRcvAbortMsg RM Acceptor Majority rm s s' → Inv RM Acceptor Majority s'
  inv_rm_rcv_abort (told, e, same, sent) = inv_quiet inv sent same (one_state RmState.aborted e (inr ((sent _).1 told)))

  pub tc_rm_prepare : RMPrepare RM Acceptor Majority rm s s' → TCStep RM s.rm_state s'.rm_state
  tc_rm_prepare (works, e, sent, same) = inl (rm, member, inl (works, e))

  module _ (meet : MajoritiesMeet RM Acceptor Majority) where
    pub tc_rm_choose_to_abort : RMChooseToAbort RM Acceptor Majority rm s s' → TCStep RM s.rm_state s'.rm_state
    tc_rm_choose_to_abort (works, e, sent, same) = inl (rm, member, inr (inr (inl works, none, e)))
      where
        none : not_committed RM s.rm_state
        none i q k = ⊎_elim (λ j. omega arith) (λ j. omega arith) (can_commit_lem inv meet (told_commit inv i q k) rm member)

    pub tc_rm_rcv_commit : RMRcvCommitMsg RM Acceptor Majority rm s s' → TCStep RM s.rm_state s'.rm_state
    tc_rm_rcv_commit (told, e, same, sent) =
        let can = can_commit_lem inv meet told in
        ⊎_elim (λ k. inl (rm, member, inr (inl (k, can, e)))) (λ k. inr (e ∙ except_unchanged s.rm_state rm RmState.committed k)) (can rm member)

    pub tc_rm_rcv_abort : RMRcvAbortMsg RM Acceptor Majority rm s s' → TCStep RM s.rm_state s'.rm_state
    tc_rm_rcv_abort (told, e, same, sent) = go (s.rm_state rm) refl (inv.states rm member)
      where
        go : (n : ℕ) → s.rm_state rm ≡ n → Grounds s.msgs rm n → TCStep RM s.rm_state s'.rm_state
        go zero k g = inl (rm, member, inr (inr (inl k, not_committed_lem inv meet told, e)))
        go (suc zero) k g = inl (rm, member, inr (inr (inr k, not_committed_lem inv meet told, e)))
        go (suc (suc zero)) k g = absurd (never_both inv meet g told)
        go (suc (suc (suc zero))) k g = inr (e ∙ except_unchanged s.rm_state rm RmState.aborted k)
        go (suc (suc (suc (suc n)))) k g = absurd g
