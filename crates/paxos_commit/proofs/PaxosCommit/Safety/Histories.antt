-- Behaviours: the invariant holds at every time, and every step is a step of Transaction Commit or leaves rm_state.
--     inv_init, inv_step, tc_step    the invariant at first and after a step of the module as printed, and that step in Transaction Commit
--     inv_widened, tc_widened        a step with Decide widened
--     inv_run, tc_run                every time, and all steps, of a behaviour with Decide widened
--     spec_widened                   a behaviour of the module as printed is one
-- Assumes nothing.
use Rattle.std.specs.Prelude.{ℕ, zero, suc, Bool, ◌≡◌}
use Rattle.std.proofs.Common.{inl, inr, ⊎_elim, arith}
use Rattle.tcommit.specs.TCommit.{TCStep, TCSpec}
use Rattle.paxos_commit.specs.PaxosCommit.{State, MajoritiesMeet, PCInit, PCStep, PCSpec, Decided}
use Rattle.paxos_commit.specs.Widened.{DecidedOrDeclined, WidenedStep, WidenedSpec}
use Rattle.paxos_commit.proofs.Widened.Laws.{of_prepared}
use Rattle.paxos_commit.specs.PaxosCommit.Safety.{Inv}
use Rattle.paxos_commit.proofs.PaxosCommit.Safety.Growth.{inv_quiet}
use Rattle.paxos_commit.proofs.PaxosCommit.Safety.Rm.{inv_rm_prepare, inv_rm_choose_to_abort, inv_rm_rcv_commit, inv_rm_rcv_abort}
use Rattle.paxos_commit.proofs.PaxosCommit.Safety.Rm.{tc_rm_prepare, tc_rm_choose_to_abort, tc_rm_rcv_commit, tc_rm_rcv_abort}
use Rattle.paxos_commit.proofs.PaxosCommit.Safety.Leader.{inv_phase1a, inv_phase2a, inv_decide_commit, inv_decide_abort}
use Rattle.paxos_commit.proofs.PaxosCommit.Safety.Acceptor.{inv_phase1b, inv_phase2b}

module _ {RM Acceptor : ℕ → Type 0} {Majority : (ℕ → Bool) → Type 0} where
  pub inv_init : {s : State} → PCInit RM Acceptor Majority s → Inv RM Acceptor Majority s
  inv_init (works, fresh, none) =
      record {
        ranges = λ x h. absurd (none x h);
        one_value = λ i b v w h. absurd (none _ h);
        prepared_first = λ i b h. absurd (none _ h);
        voted = λ a i b v h. absurd (none _ h);
        last_vote = λ i a b q k e. let f = fresh i a q k in let z : ◌≡◌ {A = ℕ} 0 1 = cc in absurd (omega arith);
        promised = λ i m r v a h. absurd (none _ h);
        one_report = λ i m r q v w a h. absurd (none _ h);
        report = λ i m r v a h. absurd (none _ h);
        safe = λ i b c v w MS h. absurd (none _ h);
        states = λ i q. rw (works i q) (λ v. none _);
        decisions = (λ h. absurd (none _ h), λ h. absurd (none _ h));
      }

  module _ (meet : MajoritiesMeet RM Acceptor Majority) where
    inv_step : {s : State} → Inv RM Acceptor Majority s → (s' : State) → PCStep RM Acceptor Majority s s' → Inv RM Acceptor Majority s'
    inv_step inv s' (inl (inl (rm, q, inl h))) = inv_rm_prepare inv s' rm q h
    inv_step inv s' (inl (inl (rm, q, inr (inl h)))) = inv_rm_choose_to_abort inv s' rm q h
    inv_step inv s' (inl (inl (rm, q, inr (inr (inl h))))) = inv_rm_rcv_commit inv s' rm q h
    inv_step inv s' (inl (inl (rm, q, inr (inr (inr h))))) = inv_rm_rcv_abort inv s' rm q h
    inv_step inv s' (inl (inr (inl (bal, rm, q, l, inl h)))) = inv_phase1a inv s' bal rm q l h
    inv_step {s} inv s' (inl (inr (inl (bal, rm, q, l, inr h)))) = inv_phase2a inv s' meet s.msgs (λ x k. k) bal rm q l h.0 h
    inv_step {s} inv s' (inl (inr (inr (inl (inl h))))) = inv_decide_commit inv s' (Decided RM Acceptor Majority s.msgs) (λ i d. d) h
    inv_step {s} inv s' (inl (inr (inr (inl (inr h))))) = inv_decide_abort inv s' (Decided RM Acceptor Majority s.msgs) (λ i d. inl d) h
    inv_step inv s' (inl (inr (inr (inr (acc, k, inl (ins, bal, h)))))) = inv_phase1b inv s' acc k ins bal h
    inv_step inv s' (inl (inr (inr (inr (acc, k, inr (ins, bal, val, h)))))) = inv_phase2b inv s' acc k ins bal val h
    inv_step inv s' (inr (row, same, sent)) = inv_quiet inv sent same (λ i q. inl (rw row))

    tc_step : {s : State} → Inv RM Acceptor Majority s → (s' : State) → PCStep RM Acceptor Majority s s' → TCStep RM s.rm_state s'.rm_state
    tc_step inv s' (inl (inl (rm, q, inl h))) = tc_rm_prepare inv s' rm q h
    tc_step inv s' (inl (inl (rm, q, inr (inl h)))) = tc_rm_choose_to_abort inv s' rm q meet h
    tc_step inv s' (inl (inl (rm, q, inr (inr (inl h))))) = tc_rm_rcv_commit inv s' rm q meet h
    tc_step inv s' (inl (inl (rm, q, inr (inr (inr h))))) = tc_rm_rcv_abort inv s' rm q meet h
    tc_step inv s' (inl (inr (inl (bal, rm, q, l, inl h)))) = inr h.1
    tc_step inv s' (inl (inr (inl (bal, rm, q, l, inr h)))) = inr h.2
    tc_step inv s' (inl (inr (inr (inl (inl h))))) = inr h.2
    tc_step inv s' (inl (inr (inr (inl (inr h))))) = inr h.2
    tc_step inv s' (inl (inr (inr (inr (acc, k, inl (ins, bal, h)))))) = inr h.4
    tc_step inv s' (inl (inr (inr (inr (acc, k, inr (ins, bal, val, h)))))) = inr h.4
    tc_step inv s' (inr h) = inr h.0

    pub inv_widened : {s : State} → Inv RM Acceptor Majority s → (s' : State) → WidenedStep RM Acceptor Majority s s' → Inv RM Acceptor Majority s'
    inv_widened inv s' (inl (inl next)) = inv_step inv s' (inl next)
    inv_widened {s} inv s' (inl (inr (inl h))) = inv_decide_commit inv s' (DecidedOrDeclined RM Acceptor Majority s.msgs) (of_prepared RM Acceptor Majority s.msgs) h
    inv_widened {s} inv s' (inl (inr (inr h))) = inv_decide_abort inv s' (DecidedOrDeclined RM Acceptor Majority s.msgs) (λ i d. d) h
    inv_widened inv s' (inr same) = inv_step inv s' (inr same)

    pub tc_widened : {s : State} → Inv RM Acceptor Majority s → (s' : State) → WidenedStep RM Acceptor Majority s s' → TCStep RM s.rm_state s'.rm_state
    tc_widened inv s' (inl (inl next)) = tc_step inv s' (inl next)
    tc_widened inv s' (inl (inr (inl h))) = inr h.2
    tc_widened inv s' (inl (inr (inr h))) = inr h.2
    tc_widened inv s' (inr same) = inr same.0

    module _ (state : ℕ → State) (spec : WidenedSpec RM Acceptor Majority state) where
      pub inv_run : (t : ℕ) → Inv RM Acceptor Majority (state t)
      inv_run zero = inv_init spec.0
      inv_run (suc t) = inv_widened (inv_run t) (state (suc t)) (spec.1 t)

      pub tc_run : TCSpec RM (λ t. (state t).rm_state)
      tc_run = (spec.0.0, λ t. tc_widened (inv_run t) (state (suc t)) (spec.1 t))

  pub spec_widened : (state : ℕ → State) → PCSpec RM Acceptor Majority state → WidenedSpec RM Acceptor Majority state
  spec_widened state (first, steps) = (first, λ t. ⊎_elim (λ next. inl (inl next)) inr (steps t))
