-- Paxos Commit is safe at every size: the theorems of modules TCommit and PaxosCommit of document 001, and agreement. RM, Acceptor and
-- Majority are any sets such that any two majorities meet; □P is P at every time t of a behaviour.
--     transaction_commit_safe     TCSpec ⇒ □(TCTypeOK ∧ TCConsistent)
--     paxos_commit_types          PCSpec ⇒ □PCTypeOK
--     paxos_commit_implements     PCSpec ⇒ TC!TCSpec
--     agreement_2a, agreement_2b  what a majority has voted for at a ballot is what every 2a and every 2b there and at later ballots carries
--     one_value_chosen            no instance chooses two values
--     one_decision                Commit and Abort are never both sent
--     next_cases                  PCNext is these nine actions, each in its ranges, and no other
-- With Decide widened by section 4.2 (Widened.antt) all theorems on PCSpec stand, under the same names with `widened` before them (for the actions:
-- `widened_next` of Words.antt), and besides:
--     published_widened           PCSpec ⇒ WidenedSpec
--     only_prepared, declined_aborts     the sentences of section 4.2: prepared is chosen only where the resource manager has proposed it at
--                                 ballot 0; where it has proposed aborted there, nothing but aborted is chosen
--     declined_no_commit          and Commit is never sent
--     widened_grounds             Abort is sent only where aborted is chosen, or the resource manager has so declined
--     widened_early               what is not kept: Abort where no acceptor has voted. Of PCSpec this can't be, by
--     published_grounds           Abort is sent only where aborted is chosen
-- Assumes nothing.
use Rattle.std.specs.Prelude.{ℕ, ◌≤◌, ◌<◌, Bool, true, ◌⊎◌, ◌≡◌, refl}
use Rattle.std.proofs.Common.{inl, inr, ⊎_elim}
use Rattle.tcommit.specs.TCommit.{TCTypeOK, TCConsistent, TCSpec}
use Rattle.tcommit.proofs.TCommit.Laws.{tc_safe}
use Rattle.paxos_commit.specs.PaxosCommit.{Val, prepared, aborted, phase2a, phase2b, Commit, Abort, State, MajoritiesMeet}
use Rattle.paxos_commit.specs.PaxosCommit.{PCTypeOK, Decided, PCNext, PCSpec}
use Rattle.paxos_commit.specs.PaxosCommit as Module
use Rattle.paxos_commit.proofs.PaxosCommit.Safety.Agreement.{type_ok, chosen_2a, chosen_2b, one_chosen, never_both}
use Rattle.paxos_commit.proofs.PaxosCommit.Safety.Agreement.{proposed_first, declined_chooses, declined_ends}
use Rattle.paxos_commit.proofs.PaxosCommit.Safety.Histories.{inv_run, tc_run, spec_widened}
use Rattle.paxos_commit.specs.Widened.{WidenedSpec}
use Rattle.paxos_commit.proofs.Widened.Early.{abort_decided, declining, declining_spec, no_vote}

pub transaction_commit_safe : (RM : ℕ → Type 0) (rm_state : ℕ → ℕ → ℕ) → TCSpec RM rm_state
    → (t : ℕ) → TCTypeOK RM (rm_state t) × TCConsistent RM (rm_state t)
transaction_commit_safe = tc_safe

-- every behaviour of the module as printed is one of the widened
pub published_widened : (RM Acceptor : ℕ → Type 0) (Majority : (ℕ → Bool) → Type 0) (state : ℕ → State) → PCSpec RM Acceptor Majority state
    → WidenedSpec RM Acceptor Majority state
published_widened RM Acceptor Majority = spec_widened

-- the widened module
module _ (RM Acceptor : ℕ → Type 0) (Majority : (ℕ → Bool) → Type 0) (meet : MajoritiesMeet RM Acceptor Majority)
    (state : ℕ → State) (spec : WidenedSpec RM Acceptor Majority state) where
  pub widened_paxos_commit_types : (t : ℕ) → PCTypeOK RM Acceptor Majority (state t)
  widened_paxos_commit_types t = type_ok (inv_run meet state spec t)

  pub widened_paxos_commit_implements : TCSpec RM (λ t. (state t).rm_state)
  widened_paxos_commit_implements = tc_run meet state spec

  -- a majority's 2b for instance i, ballot c and value v are in msgs
  module _ (t i c b : ℕ) (v w : Val) (MS : ℕ → Bool) (many : Majority MS)
      (votes : (a : ℕ) → MS a ≡ true → (state t).msgs (phase2b a i c v)) (later : c ≤ b) where
    pub widened_agreement_2a : (state t).msgs (phase2a i b w) → w ≡ v
    widened_agreement_2a = chosen_2a (inv_run meet state spec t) meet i c b v w MS many votes later

    pub widened_agreement_2b : (a : ℕ) → (state t).msgs (phase2b a i b w) → w ≡ v
    widened_agreement_2b = chosen_2b (inv_run meet state spec t) meet i c b v w MS many votes later

  pub widened_one_value_chosen : (t i : ℕ) (v w : Val)
      → Decided RM Acceptor Majority (state t).msgs i v → Decided RM Acceptor Majority (state t).msgs i w → v ≡ w
  widened_one_value_chosen t = one_chosen (inv_run meet state spec t) meet

  pub widened_one_decision : (t : ℕ) → (state t).msgs Commit → (state t).msgs Abort → ⊥
  widened_one_decision t = never_both (inv_run meet state spec t) meet

  -- section 4.2: "the value Prepared can be chosen in the instance for resource manager rm only if rm sends a phase 2a message for ballot
  -- number 0 with value Prepared"
  pub only_prepared : (t rm : ℕ) → Decided RM Acceptor Majority (state t).msgs rm prepared → (state t).msgs (phase2a rm 0 prepared)
  only_prepared t = proposed_first (inv_run meet state spec t) meet

  -- "If rm instead sends a phase 2a message for ballot 0 with value Aborted, then its instance of the Paxos algorithm can choose only Aborted"
  pub declined_aborts : (t rm : ℕ) (v : Val) → (state t).msgs (phase2a rm 0 aborted) → Decided RM Acceptor Majority (state t).msgs rm v → v ≡ aborted
  declined_aborts t rm = declined_chooses (inv_run meet state spec t) meet rm

  -- "which implies that the transaction must be aborted"
  pub declined_no_commit : (t rm : ℕ) → RM rm → (state t).msgs (phase2a rm 0 aborted) → (state t).msgs Commit → ⊥
  declined_no_commit t rm q = declined_ends (inv_run meet state spec t) meet rm q

  pub widened_grounds : (t : ℕ) → (state t).msgs Abort
      → (rm : ℕ) × RM rm × (Decided RM Acceptor Majority (state t).msgs rm aborted ⊎ (state t).msgs (phase2a rm 0 aborted))
  widened_grounds t h = let (rm, q, r) = (inv_run meet state spec t).decisions.1 h in (rm, q, ⊎_elim inl (λ (e, d). inr d) r)

-- the module as printed
module _ (RM Acceptor : ℕ → Type 0) (Majority : (ℕ → Bool) → Type 0) (meet : MajoritiesMeet RM Acceptor Majority)
    (state : ℕ → State) (spec : PCSpec RM Acceptor Majority state) where
  abbrev widened : WidenedSpec RM Acceptor Majority state
  widened = published_widened RM Acceptor Majority state spec

  pub paxos_commit_types : (t : ℕ) → PCTypeOK RM Acceptor Majority (state t)
  paxos_commit_types = widened_paxos_commit_types RM Acceptor Majority meet state widened

  pub paxos_commit_implements : TCSpec RM (λ t. (state t).rm_state)
  paxos_commit_implements = widened_paxos_commit_implements RM Acceptor Majority meet state widened

  -- a majority's 2b for instance i, ballot c and value v are in msgs
  module _ (t i c b : ℕ) (v w : Val) (MS : ℕ → Bool) (many : Majority MS)
      (votes : (a : ℕ) → MS a ≡ true → (state t).msgs (phase2b a i c v)) (later : c ≤ b) where
    pub agreement_2a : (state t).msgs (phase2a i b w) → w ≡ v
    agreement_2a = widened_agreement_2a RM Acceptor Majority meet state widened t i c b v w MS many votes later

    pub agreement_2b : (a : ℕ) → (state t).msgs (phase2b a i b w) → w ≡ v
    agreement_2b = widened_agreement_2b RM Acceptor Majority meet state widened t i c b v w MS many votes later

  pub one_value_chosen : (t i : ℕ) (v w : Val) → Decided RM Acceptor Majority (state t).msgs i v → Decided RM Acceptor Majority (state t).msgs i w
      → v ≡ w
  one_value_chosen = widened_one_value_chosen RM Acceptor Majority meet state widened

  pub one_decision : (t : ℕ) → (state t).msgs Commit → (state t).msgs Abort → ⊥
  one_decision = widened_one_decision RM Acceptor Majority meet state widened

-- as printed
pub published_grounds : (RM Acceptor : ℕ → Type 0) (Majority : (ℕ → Bool) → Type 0) (state : ℕ → State) → PCSpec RM Acceptor Majority state
    → (t : ℕ) → (state t).msgs Abort → (rm : ℕ) × RM rm × Decided RM Acceptor Majority (state t).msgs rm aborted
published_grounds = abort_decided

-- one resource manager is enough: it chooses to abort, and Abort is sent
pub widened_early : (RM Acceptor : ℕ → Type 0) (Majority : (ℕ → Bool) → Type 0) (rm : ℕ) → RM rm
    → (state : ℕ → State) × WidenedSpec RM Acceptor Majority state × (state 2).msgs Abort
    × ((acc ins bal : ℕ) (v : Val) → (state 2).msgs (phase2b acc ins bal v) → ⊥)
widened_early RM Acceptor Majority rm q = (declining rm, declining_spec rm RM Acceptor Majority q, inr refl, λ acc ins bal v. no_vote rm acc ins bal v)

-- what follows from each action follows from PCNext
module _ (RM Acceptor : ℕ → Type 0) (Majority : (ℕ → Bool) → Type 0) (s s' : State) where
  pub next_cases : {P : Type 0}
      → ((rm : ℕ) → RM rm → Module.RMPrepare RM Acceptor Majority rm s s' → P)
      → ((rm : ℕ) → RM rm → Module.RMChooseToAbort RM Acceptor Majority rm s s' → P)
      → ((rm : ℕ) → RM rm → Module.RMRcvCommitMsg RM Acceptor Majority rm s s' → P)
      → ((rm : ℕ) → RM rm → Module.RMRcvAbortMsg RM Acceptor Majority rm s s' → P)
      → ((bal rm : ℕ) → RM rm → 0 < bal → Module.Phase1a RM Acceptor Majority bal rm s s' → P)
      → ((bal rm : ℕ) → RM rm → 0 < bal → Module.Phase2a RM Acceptor Majority bal rm s s' → P)
      → (Module.Decide RM Acceptor Majority s s' → P)
      → ((acc : ℕ) → Acceptor acc → Module.Phase1b RM Acceptor Majority acc s s' → P)
      → ((acc : ℕ) → Acceptor acc → Module.Phase2b RM Acceptor Majority acc s s' → P)
      → PCNext RM Acceptor Majority s s' → P
  next_cases prepare choose commit abort begin propose decide promise vote (inl (rm, q, inl h)) = prepare rm q h
  next_cases prepare choose commit abort begin propose decide promise vote (inl (rm, q, inr (inl h))) = choose rm q h
  next_cases prepare choose commit abort begin propose decide promise vote (inl (rm, q, inr (inr (inl h)))) = commit rm q h
  next_cases prepare choose commit abort begin propose decide promise vote (inl (rm, q, inr (inr (inr h)))) = abort rm q h
  next_cases prepare choose commit abort begin propose decide promise vote (inr (inl (bal, rm, q, l, inl h))) = begin bal rm q l h
  next_cases prepare choose commit abort begin propose decide promise vote (inr (inl (bal, rm, q, l, inr h))) = propose bal rm q l h
  next_cases prepare choose commit abort begin propose decide promise vote (inr (inr (inl h))) = decide h
  next_cases prepare choose commit abort begin propose decide promise vote (inr (inr (inr (acc, k, inl h)))) = promise acc k h
  next_cases prepare choose commit abort begin propose decide promise vote (inr (inr (inr (acc, k, inr h)))) = vote acc k h
