-- What the number of a leader's own call stands for, and that beside it stand the inbox, N and the leader's bytes of the summary (leader_means).
-- Assumes nothing.
use Rattle.std.specs.Prelude.{ℕ, ◌+◌, ◌<◌, List, ◌≡◌, refl}
use Rattle.std.proofs.Common.{ap}
use Rattle.message.specs.Outcome.{accepted, refused}
use Rattle.change.specs.declared.Sent.TheVariants.{Slot, Quiet}
use Rattle.host_code.proofs.Theorems.{code_means}
use Rattle.host_leader.specs.Code.{host_leader, host_leader_of}

module _ (I S N : List ℕ) where
  pub leader_means : (k : ℕ)
      → ((host_leader k I S N).step.code ≡ k)
      × ((host_leader k I S N).step.table ≡ I)
      × ((host_leader k I S N).step.network ≡ N)
      × ((host_leader k I S N).summary ≡ S)
      × (k < 1024
      → host_leader_of (record { step = record { answer = accepted (Slot k); table = I; network = N }; summary = S }) ≡ host_leader k I S N)
      × (host_leader_of (record { step = record { answer = accepted Quiet; table = I; network = N }; summary = S }) ≡ host_leader 65535 I S N)
      × (host_leader_of (record { step = record { answer = refused k; table = I; network = N }; summary = S }) ≡ host_leader (65536 + k) I S N)
  leader_means k = (refl, refl, refl, refl, λ below. ap (λ (n : ℕ). host_leader n I S N) (code_means.0 k below), refl, refl)
