-- The laws of the definitions of module PaxosCommit.
--     at_most_refl, at_most_trans  the order of Ballot ∪ {-1}
--     maximum_bounds              no element of a set exceeds its maximum
--     except₂_cases               what holds of the new value at its place, and of the old ones everywhere, holds of f EXCEPT
--     unlike                      prepared is not aborted
--     decided_kept                what is decided by some messages is decided by more
-- Assumes nothing.
use Rattle.std.specs.Prelude.{ℕ, Bool, true, false, ◌&&◌, cond, ◌≡◌, refl, eqb}
use Rattle.std.proofs.Common.{inl, inr, arith, eqb-true, eq-eqb}
use Rattle.paxos_commit.specs.PaxosCommit.{Bal, minus_one, ballot, at_most, Maximum, Message, Val, prepared, aborted, AState, except₂, Decided}

pub at_most_refl : (n : Bal) → at_most n n
at_most_refl minus_one = tt
at_most_refl (ballot b) = omega arith

pub at_most_trans : (l m n : Bal) → at_most l m → at_most m n → at_most l n
at_most_trans minus_one m n h k = tt
at_most_trans (ballot b) minus_one n h k = absurd h
at_most_trans (ballot b) (ballot c) minus_one h k = k
at_most_trans (ballot b) (ballot c) (ballot d) h k = omega arith

pub maximum_bounds : (S : Bal → Type 0) (n m : Bal) → Maximum S n → S m → at_most m n
maximum_bounds S n m (inl (empty, e)) h = absurd (empty m h)
maximum_bounds S n m (inr (most, bound)) h = bound m h

pub except₂_cases : (P : ℕ → ℕ → AState → Type 0) (f : ℕ → ℕ → AState) (i a : ℕ) (v : AState)
    → P i a v → ((j c : ℕ) → P j c (f j c)) → (j c : ℕ) → P j c (except₂ f i a v j c)
except₂_cases P f i a v here there j c = go (eqb j i) (eqb c a) refl refl
  where
    go : (s t : Bool) → eqb j i ≡ s → eqb c a ≡ t → P j c (cond (s && t) v (f j c))
    go true true d e = rw (eqb-true j i d, eqb-true c a e) here
    go true false d e = there j c
    go false t d e = there j c

pub except₂_here : (f : ℕ → ℕ → AState) (i a : ℕ) (v : AState) → except₂ f i a v i a ≡ v
except₂_here f i a v = rw (eq-eqb i i refl, eq-eqb a a refl)

pub unlike : prepared ≡ aborted → ⊥
unlike e = let z : ◌≡◌ {A = ℕ} 0 1 = cc in omega arith

module _ (RM Acceptor : ℕ → Type 0) (Majority : (ℕ → Bool) → Type 0) where
  pub decided_kept : (seen msgs : Message → Type 0) → ((x : Message) → seen x → msgs x)
      → (i : ℕ) (v : Val) → Decided RM Acceptor Majority seen i v → Decided RM Acceptor Majority msgs i v
  decided_kept seen msgs sub i v (b, MS, many, votes) = (b, MS, many, λ a m. sub _ (votes a m))
