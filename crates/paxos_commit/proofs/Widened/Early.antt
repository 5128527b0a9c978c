-- What the widened module does and the printed one does not.
--     abort_decided     a behaviour of the printed module sends Abort only where some instance has chosen aborted
--     declining         one of the widened that sends it where nobody has voted: a resource manager chooses to abort, and Abort is sent
--     declining_spec, no_vote     it is a behaviour of the widened module; it has no vote
-- Assumes nothing.
use Rattle.std.specs.Prelude.{ℕ, zero, suc, Bool, true, false, ◌⊎◌, ◌≡◌, refl}
use Rattle.std.proofs.lemmas.Bool.{false≢true}
use Rattle.std.proofs.Common.{inl, inr, sym, ◌∙◌, ap, arith}
use Rattle.tcommit.specs.RmState.{working}
use Rattle.tcommit.specs.RmState as RmState
use Rattle.tcommit.specs.TCommit.{except}
use Rattle.paxos_commit.specs.PaxosCommit.{Val, aborted, Message, phase1a, phase1b, phase2a, phase2b, Commit, Abort, State, initial}
use Rattle.paxos_commit.specs.PaxosCommit.{Send, UnchangedMsgs, Decided, PCStep, PCSpec}
use Rattle.paxos_commit.proofs.PaxosCommit.Laws.{decided_kept}
use Rattle.paxos_commit.specs.Widened.{WidenedStep, WidenedSpec}

module _ (RM Acceptor : ℕ → Type 0) (Majority : (ℕ → Bool) → Type 0) where
  abbrev AbortChosen : State → Type 0
  AbortChosen s = (rm : ℕ) × RM rm × Decided RM Acceptor Majority s.msgs rm aborted

  abbrev is_abort : Message → Bool
  is_abort (phase1a ins bal) = false
  is_abort (phase1b ins mbal bal val acc) = false
  is_abort (phase2a ins bal val) = false
  is_abort (phase2b acc ins bal val) = false
  is_abort Commit = false
  is_abort Abort = true

  -- a step sends nothing, or one message, and that is Abort only where aborted is chosen
  abbrev SendsOne : State → State → Type 0
  SendsOne s s' =
      UnchangedMsgs RM Acceptor Majority s s' ⊎ ((m : Message) × Send RM Acceptor Majority m s s' × (Abort ≡ m → AbortChosen s))

  module _ (s s' : State) where
    other : (m : Message) → is_abort m ≡ false → Abort ≡ m → AbortChosen s
    other m h e = absurd (false≢true (sym h ∙ ap is_abort (sym e)))

    sends_one : PCStep RM Acceptor Majority s s' → SendsOne s s'
    sends_one (inl (inl (rm, q, inl h))) = inr (_, h.2, other _ refl)
    sends_one (inl (inl (rm, q, inr (inl h)))) = inr (_, h.2, other _ refl)
    sends_one (inl (inl (rm, q, inr (inr (inl h))))) = inl h.3
    sends_one (inl (inl (rm, q, inr (inr (inr h))))) = inl h.3
    sends_one (inl (inr (inl (bal, rm, q, l, inl h)))) = inr (_, h.0, other _ refl)
    sends_one (inl (inr (inl (bal, rm, q, l, inr h)))) = inr (_, h.1.5, other _ refl)
    sends_one (inl (inr (inr (inl (inl h))))) = inr (_, h.1, other _ refl)
    sends_one (inl (inr (inr (inl (inr h))))) = inr (_, h.1, λ e. h.0)
    sends_one (inl (inr (inr (inr (acc, k, inl (ins, bal, h)))))) = inr (_, h.3, other _ refl)
    sends_one (inl (inr (inr (inr (acc, k, inr (ins, bal, val, h)))))) = inr (_, h.3, other _ refl)
    sends_one (inr (row, same, sent)) = inl sent

    -- so it stays true that Abort is sent only there
    stays_chosen : (s.msgs Abort → AbortChosen s) → SendsOne s s' → s'.msgs Abort → AbortChosen s'
    stays_chosen before (inl sent) h =
        let (rm, q, d) = before ((sent Abort).0 h) in (rm, q, decided_kept RM Acceptor Majority _ _ (λ x k. (sent x).1 k) rm aborted d)
    stays_chosen before (inr (m, sent, only)) h =
        let (rm, q, d) = chosen ((sent Abort).0 h) in (rm, q, decided_kept RM Acceptor Majority _ _ (λ x k. (sent x).1 (inl k)) rm aborted d)
      where
        chosen : s.msgs Abort ⊎ (Abort ≡ m) → AbortChosen s
        chosen (inl k) = before k
        chosen (inr e) = only e

  module _ (state : ℕ → State) (spec : PCSpec RM Acceptor Majority state) where
    pub abort_decided : (t : ℕ) → (state t).msgs Abort → AbortChosen (state t)
    abort_decided zero h = absurd (spec.0.2 Abort h)
    abort_decided (suc t) h = stays_chosen (state t) (state (suc t)) (abort_decided t) (sends_one (state t) (state (suc t)) (spec.1 t)) h

module _ (rm : ℕ) where
  -- nothing; then the 2a by which rm declines; then Abort too, and no more
  abbrev pub declining : ℕ → State
  declining zero = record { rm_state = λ i. working; a_state = λ ins acc. initial; msgs = λ x. ⊥ }
  declining (suc zero) =
      record { rm_state = except (λ i. working) rm RmState.aborted; a_state = λ ins acc. initial; msgs = λ x. ⊥ ⊎ (x ≡ phase2a rm 0 aborted) }
  declining (suc (suc t)) =
      record {
        rm_state = except (λ i. working) rm RmState.aborted;
        a_state = λ ins acc. initial;
        msgs = λ x. (⊥ ⊎ (x ≡ phase2a rm 0 aborted)) ⊎ (x ≡ Abort);
      }

  pub no_vote : (acc ins bal : ℕ) (v : Val) → (declining 2).msgs (phase2b acc ins bal v) → ⊥
  no_vote acc ins bal v (inl (inl h)) = h
  no_vote acc ins bal v (inl (inr e)) = let z : ◌≡◌ {A = ℕ} 0 1 = cc in omega arith
  no_vote acc ins bal v (inr e) = let z : ◌≡◌ {A = ℕ} 0 1 = cc in omega arith

  pub declining_spec : (RM Acceptor : ℕ → Type 0) (Majority : (ℕ → Bool) → Type 0) → RM rm → WidenedSpec RM Acceptor Majority declining
  declining_spec RM Acceptor Majority q = ((λ i k. refl, λ ins acc k l. refl, λ x h. h), steps)
    where
      steps : (t : ℕ) → WidenedStep RM Acceptor Majority (declining t) (declining (suc t))
      steps zero = inl (inl (inl (rm, q, inr (inl (refl, refl, λ x. (λ h. h, λ h. h), refl)))))
      steps (suc zero) = inl (inr (inr ((rm, q, inr (refl, inr refl)), λ x. (λ h. h, λ h. h), refl, refl)))
      steps (suc (suc t)) = inr (refl, refl, λ x. (λ h. h, λ h. h))
