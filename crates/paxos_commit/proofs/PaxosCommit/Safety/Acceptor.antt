-- The actions of an acceptor keep the invariant.
--     inv_phase1b, inv_phase2b
-- Assumes nothing.
use Rattle.std.specs.Prelude.{ℕ, ◌≤◌, Bool, ◌≡◌, refl}
use Rattle.std.proofs.Common.{inl, inr, arith}
use Rattle.paxos_commit.specs.PaxosCommit.{Val, Bal, minus_one, ballot, at_most, Message, AState, State}
use Rattle.paxos_commit.specs.PaxosCommit.{except₂, IsMessage, Send, Phase1bOn, Phase2bOn}
use Rattle.paxos_commit.proofs.PaxosCommit.Laws.{at_most_refl, except₂_cases, except₂_here}
use Rattle.paxos_commit.specs.PaxosCommit.Safety.{Inv}
use Rattle.paxos_commit.proofs.PaxosCommit.Safety.Growth.{Fits, Moved, stays, inv_sends}

module _ {RM Acceptor : ℕ → Type 0} {Majority : (ℕ → Bool) → Type 0} {s : State} (inv : Inv RM Acceptor Majority s) (s' : State)
    (acc : ℕ) (member : Acceptor acc) where
  -- acc moves to u in instance i, and sends m
  acts : (i : ℕ) (u : AState) (m : Message) → s'.a_state ≡ except₂ s.a_state i acc u → Send RM Acceptor Majority m s s' → s'.rm_state ≡ s.rm_state
      → IsMessage RM Acceptor Majority m → (s'.a_state i acc ≡ u → Fits RM Acceptor Majority s s' m)
      → Moved RM Acceptor s'.msgs i acc (s.a_state i acc) u → Inv RM Acceptor Majority s'
  acts i u m e sent row ok fits moved =
      let others = stays inv s'.msgs (λ x h. (sent x).1 (inl h)) in
      inv_sends inv m sent ok (fits (rw e (except₂_here s.a_state i acc u)))
      (rw e (except₂_cases (λ j a. Moved RM Acceptor s'.msgs j a (s.a_state j a)) s.a_state i acc u moved others))
      (λ j k. inl (rw row))

  -- the remembered vote is not above mbal
  last_below : (i b : ℕ) → RM i → (s.a_state i acc).mbal ≤ b → at_most (s.a_state i acc).bal (ballot b)
  last_below i b q l = go (s.a_state i acc).bal refl
    where
      go : (r : Bal) → (s.a_state i acc).bal ≡ r → at_most r (ballot b)
      go minus_one e = tt
      go (ballot c) e = let low = (inv.voted acc i c _ (inv.last_vote i acc c q member e)).1 in omega arith

  pub inv_phase1b : (i b : ℕ) → Phase1bOn RM Acceptor Majority acc i b s s' → Inv RM Acceptor Majority s'
  inv_phase1b i b (asked, lower, e, sent, row) =
      let q = (inv.ranges _ asked).0 in
      acts i _ _ e sent row (q, member)
      (λ here. (rw here (omega arith), λ c. inv.last_vote i acc c q member, λ c w vote l. (inv.voted acc i c w vote).2, λ r w h. let low = inv.promised i b r w acc h in omega arith))
      (omega arith, at_most_refl (s.a_state i acc).bal, λ c m n k. (sent _).1 (inl (inv.last_vote i acc c m n k)))

  pub inv_phase2b : (i b : ℕ) (v : Val) → Phase2bOn RM Acceptor Majority acc i b v s s' → Inv RM Acceptor Majority s'
  inv_phase2b i b v (asked, lower, e, sent, row) =
      let (q, value) = inv.ranges _ asked in
      acts i _ _ e sent row (member, q, value)
      (λ here. (asked, omega arith, rw here (omega arith), rw here (omega arith)))
      (omega arith, last_below i b q (omega arith), λ c m n k. let d : b ≡ c = cc in rw (← d) ((sent _).1 (inr refl)))
