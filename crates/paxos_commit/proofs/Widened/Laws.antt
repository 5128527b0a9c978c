-- Laws of what a leader may announce.
--     of_prepared      of prepared nothing is widened
--     announced_kept   what some messages let a leader announce, more do
-- Assumes nothing.
use Rattle.std.specs.Prelude.{ℕ, Bool}
use Rattle.std.proofs.Common.{inl, inr}
use Rattle.paxos_commit.specs.PaxosCommit.{Val, prepared, Message, Decided}
use Rattle.paxos_commit.proofs.PaxosCommit.Laws.{unlike, decided_kept}
use Rattle.paxos_commit.specs.Widened.{DecidedOrDeclined}

module _ (RM Acceptor : ℕ → Type 0) (Majority : (ℕ → Bool) → Type 0) (seen : Message → Type 0) where
  pub of_prepared : (i : ℕ) → DecidedOrDeclined RM Acceptor Majority seen i prepared → Decided RM Acceptor Majority seen i prepared
  of_prepared i (inl d) = d
  of_prepared i (inr (e, h)) = absurd (unlike e)

  pub announced_kept : (msgs : Message → Type 0) → ((x : Message) → seen x → msgs x)
      → (i : ℕ) (v : Val) → DecidedOrDeclined RM Acceptor Majority seen i v → DecidedOrDeclined RM Acceptor Majority msgs i v
  announced_kept msgs sub i v (inl d) = inl (decided_kept RM Acceptor Majority seen msgs sub i v d)
  announced_kept msgs sub i v (inr (e, h)) = inr (e, sub _ h)
