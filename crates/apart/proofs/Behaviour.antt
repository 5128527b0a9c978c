-- Hosts that are apart implement module PaxosCommit with Decide widened (document 02, Paper 6): each list of genuine happenings from fresh hosts is a
-- behaviour of WidenedSpec, with what was sent as msgs, so the theorems of document 001 (paxos_commit's Theorems.antt) hold of it.
--     published_means     the variables: byte i of weight i's W, entry (i, a) of acceptor a's Q, the messages that were sent
--     hosts_published     every genuine happening after every list of genuine ones is an action of PCNext, or Abort sent where a weight has
--                         declined, or leaves the variables
--     state_at            the state at time n: what the first n happenings of a list leave
--     hosts_behaviour     it is a behaviour of WidenedSpec
--     hosts_commits       so the row of weight states is one of TCSpec
-- Assumes nothing.
use Rattle.std.specs.Prelude.{ℕ, zero, suc, List, [], ◌∷◌, ◌⊎◌, ◌≡◌, refl, get_or, take}
use Rattle.std.proofs.Common.{inl, inr, ⊎_elim}
use Rattle.message.specs.declared.Plan.{Plan}
use Rattle.tcommit.specs.TCommit.{TCSpec}
use Rattle.paxos_commit.specs.PaxosCommit.{State, PCStep}
use Rattle.paxos_commit.specs.Widened.{WidenedStep, WidenedSpec}
use Rattle.paxos_commit.proofs.Theorems.{widened_paxos_commit_implements}
use Rattle.paxos_commit.proofs.Words.{EarlyAbort, widened_next}
use Rattle.matching.specs.Reading.{is_rm, is_acceptor, is_majority_set, a_state_of, set_of}
use Rattle.matching.proofs.Theorems.{majorities_meet}
use Rattle.apart.specs.Hosts.{rm, acceptor, System, Happening, made, Genuine, row, published, Fresh, system_after, AllGenuine}
use Rattle.apart.proofs.Hosts.Tied.{Grounded}
use Rattle.apart.proofs.Hosts.Steps.{one_claim, grounded_one}
use Rattle.apart.proofs.Hosts.Lists.{initial, grounded_fresh, grounded_after}

pub published_means : (p : Plan) (s : System)
    → ((i : ℕ) → (published p s).rm_state i ≡ get_or (s.hosts rm i).table i 0)
    × ((i a : ℕ) → (published p s).a_state i a ≡ a_state_of p (s.hosts acceptor a).table i a)
    × ((published p s).msgs ≡ set_of s.wire)
published_means p s = (λ i. refl, λ i a. refl, refl)

-- after the last happening the state stays
abbrev pub state_at : Plan → System → List Happening → ℕ → State
state_at p s hs n = published p (system_after p s (take n hs))

module _ (p : Plan) where
  steps : (s : System) → Grounded p s → (hs : List Happening) → AllGenuine p s hs → (n : ℕ)
      → WidenedStep (is_rm p) (is_acceptor p) (is_majority_set p) (state_at p s hs n) (state_at p s hs (suc n))
  steps s g [] ok zero = inr (refl, refl, λ x. (λ h. h, λ h. h))
  steps s g [] ok (suc n) = inr (refl, refl, λ x. (λ h. h, λ h. h))
  steps s g (h ∷ hs) (ok, rest) zero = (one_claim p s g h ok).0
  steps s g (h ∷ hs) (ok, rest) (suc n) = steps (made p s h).system (grounded_one p s g h ok) hs rest n

module _ (p : Plan) (s : System) (fresh : Fresh s) (hs : List Happening) (ok : AllGenuine p s hs) where
  pub hosts_published : (h : Happening) → Genuine p (system_after p s hs) h
      → PCStep (is_rm p) (is_acceptor p) (is_majority_set p) (published p (system_after p s hs)) (published p (made p (system_after p s hs) h).system)
      ⊎ EarlyAbort (is_rm p) (is_acceptor p) (is_majority_set p) (published p (system_after p s hs)) (published p (made p (system_after p s hs) h).system)
  hosts_published h genuine =
      ⊎_elim (λ next. ⊎_elim (λ printed. inl (inl printed)) inr ((widened_next (is_rm p) (is_acceptor p) (is_majority_set p) _ _).0 next)) (λ same. inl (inr same))
      (one_claim p (system_after p s hs) (grounded_after p s (grounded_fresh p s fresh) hs ok) h genuine).0

  pub hosts_behaviour : WidenedSpec (is_rm p) (is_acceptor p) (is_majority_set p) (state_at p s hs)
  hosts_behaviour = (initial p s fresh, steps p s (grounded_fresh p s fresh) hs ok)

  pub hosts_commits : TCSpec (is_rm p) (λ n. row (system_after p s (take n hs)))
  hosts_commits = widened_paxos_commit_implements (is_rm p) (is_acceptor p) (is_majority_set p) (majorities_meet p).1 (state_at p s hs) hosts_behaviour
