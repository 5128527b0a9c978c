-- Module PaxosCommit of document 001 (A.3), in its order and under its names. A set is a predicate, a set of acceptors a test on their
-- numbers, an action a relation between the state before it and after it, and a behaviour a state for each time. What is written
-- otherwise than on the page: Ballot is the set of all numbers; a state of a resource manager is its number; CHOOSE is "some"; Phase2a is
-- first given over a set `seen` of messages, from which a leader reads its conditions, and Decide over what counts as decided: read
-- from msgs they are the source's; Phase1b and Phase2b are first given for one message. Its theorems are in proofs/Theorems.antt.
--     Bal, Maximum                     Ballot ∪ {-1}, and the maximum of a set of them
--     Assume                           ASSUME; of it the theorems use MajoritiesMeet alone
--     Message, IsMessage               the fields of each type of message, and their ranges
--     State, PCTypeOK, PCInit, Send    the variables rmState, aState and msgs; their ranges, the initial predicate, and sending
--     RMPrepare, RMChooseToAbort, RMRcvCommitMsg, RMRcvAbortMsg
--     Phase1a, Phase2a, Decide, Phase1b, Phase2b, PCNext, PCStep, PCSpec
--     Enabled                          an action that some next state satisfies
-- Assumes nothing.
pub mod Safety
use Rattle.std.specs.Prelude.{ℕ, suc, ◌≤◌, ◌<◌, Bool, true, ◌&&◌, cond, ◌⊎◌, ◌↔◌, ◌≡◌, eqb}
use Rattle.tcommit.specs.RmState.{working, committed}
use Rattle.tcommit.specs.RmState as RmState
use Rattle.tcommit.specs.TCommit.{except, TCTypeOK}

-- {"prepared", "aborted", "none"}
pub data Val : Type 0 where
  prepared aborted none : Val
  deriving Discrete as Val-discrete

-- Ballot ∪ {-1}
pub data Bal : Type 0 where
  minus_one : Bal
  ballot : ℕ → Bal

-- the order of numbers, with -1 below all ballots
abbrev pub at_most : Bal → Bal → Type 0
at_most minus_one n = Unit {0}
at_most (ballot b) minus_one = ⊥
at_most (ballot b) (ballot c) = b ≤ c

-- n is Maximum(S): -1 if S is empty, else the number of S that no other exceeds
abbrev pub Maximum : (Bal → Type 0) → Bal → Type 0
Maximum S n = (((m : Bal) → S m → ⊥) × (n ≡ minus_one)) ⊎ (S n × ((m : Bal) → S m → at_most m n))

pub data Message : Type 0 where
  phase1a : (ins bal : ℕ) → Message
  phase1b : (ins mbal : ℕ) (bal : Bal) (val : Val) (acc : ℕ) → Message
  phase2a : (ins bal : ℕ) (val : Val) → Message
  phase2b : (acc ins bal : ℕ) (val : Val) → Message
  Commit Abort : Message

pub record AState : Type 0 where
  pub mbal : ℕ
  pub bal : Bal
  pub val : Val

pub record State : Type 1 where
  pub rm_state : ℕ → ℕ
  pub a_state : ℕ → ℕ → AState
  pub msgs : Message → Type 0

-- an acceptor that has voted for nothing and acted on no ballot
abbrev pub initial : AState
initial = record { mbal = 0; bal = minus_one; val = none }

-- [a_state EXCEPT ![ins][acc] = v]
abbrev pub except₂ : (ℕ → ℕ → AState) → ℕ → ℕ → AState → (ℕ → ℕ → AState)
except₂ f ins acc v = λ i a. cond (eqb i ins && eqb a acc) v (f i a)

-- CONSTANT RM, Acceptor, Majority; Ballot is the set of all numbers
module _ (RM Acceptor : ℕ → Type 0) (Majority : (ℕ → Bool) → Type 0) where
  -- any two majorities have a member in common
  abbrev pub MajoritiesMeet : Type 0
  MajoritiesMeet = (MS1 MS2 : ℕ → Bool) → Majority MS1 → Majority MS2 → (ac : ℕ) × (MS1 ac ≡ true) × (MS2 ac ≡ true)

  -- ASSUME: majorities are sets of acceptors, and any two meet
  abbrev pub Assume : Type 0
  Assume = ((MS : ℕ → Bool) → Majority MS → (ac : ℕ) → MS ac ≡ true → Acceptor ac) × MajoritiesMeet

  -- the set Message; ballots, and the value and the ballot of a report, are in range by their types
  abbrev pub IsMessage : Message → Type 0
  IsMessage (phase1a ins bal) = RM ins × (0 < bal)
  IsMessage (phase1b ins mbal bal val acc) = RM ins × Acceptor acc
  IsMessage (phase2a ins bal val) = RM ins × ((val ≡ prepared) ⊎ (val ≡ aborted))
  IsMessage (phase2b acc ins bal val) = Acceptor acc × RM ins × ((val ≡ prepared) ⊎ (val ≡ aborted))
  IsMessage Commit = Unit {0}
  IsMessage Abort = Unit {0}

  -- a_state is in range by its type
  abbrev pub PCTypeOK : State → Type 0
  PCTypeOK s = TCTypeOK RM s.rm_state × ((m : Message) → s.msgs m → IsMessage m)

  abbrev pub PCInit : State → Type 0
  PCInit s =
      ((rm : ℕ) → RM rm → s.rm_state rm ≡ working)
      × ((ins ac : ℕ) → RM ins → Acceptor ac → s.a_state ins ac ≡ initial)
      × ((m : Message) → s.msgs m → ⊥)

  -- msgs' = msgs ∪ {m}
  abbrev pub Send : Message → State → State → Type 0
  Send m s s' = (x : Message) → s'.msgs x ↔ (s.msgs x ⊎ (x ≡ m))

  abbrev pub UnchangedMsgs : State → State → Type 0
  UnchangedMsgs s s' = (x : Message) → s'.msgs x ↔ s.msgs x

  abbrev pub RMPrepare : ℕ → State → State → Type 0
  RMPrepare rm s s' =
      (s.rm_state rm ≡ working)
      × (s'.rm_state ≡ except s.rm_state rm RmState.prepared)
      × Send (phase2a rm 0 prepared) s s'
      × (s'.a_state ≡ s.a_state)

  abbrev pub RMChooseToAbort : ℕ → State → State → Type 0
  RMChooseToAbort rm s s' =
      (s.rm_state rm ≡ working)
      × (s'.rm_state ≡ except s.rm_state rm RmState.aborted)
      × Send (phase2a rm 0 aborted) s s'
      × (s'.a_state ≡ s.a_state)

  abbrev pub RMRcvCommitMsg : ℕ → State → State → Type 0
  RMRcvCommitMsg rm s s' =
      s.msgs Commit
      × (s'.rm_state ≡ except s.rm_state rm committed)
      × (s'.a_state ≡ s.a_state)
      × UnchangedMsgs s s'

  abbrev pub RMRcvAbortMsg : ℕ → State → State → Type 0
  RMRcvAbortMsg rm s s' =
      s.msgs Abort
      × (s'.rm_state ≡ except s.rm_state rm RmState.aborted)
      × (s'.a_state ≡ s.a_state)
      × UnchangedMsgs s s'

  abbrev pub Phase1a : ℕ → ℕ → State → State → Type 0
  Phase1a bal rm s s' = Send (phase1a rm bal) s s' × (s'.rm_state ≡ s.rm_state) × (s'.a_state ≡ s.a_state)

  -- m ∈ mset: a 1b of rm for ballot bal from an acceptor of MS, with its report
  abbrev pub Reported : (Message → Type 0) → ℕ → ℕ → (ℕ → Bool) → Bal → Val → ℕ → Type 0
  Reported seen bal rm MS b v ac = seen (phase1b rm bal b v ac) × (MS ac ≡ true)

  -- val: aborted if maxbal is -1, else the value of some m in mset with m.bal = maxbal
  abbrev pub ProposedVal : (Message → Type 0) → ℕ → ℕ → (ℕ → Bool) → Val → Type 0
  ProposedVal seen bal rm MS val =
      (maxbal : Bal)
      × Maximum (λ b. (v : Val) × (ac : ℕ) × Reported seen bal rm MS b v ac) maxbal
      × (((maxbal ≡ minus_one) × (val ≡ aborted)) ⊎ ((maxbal ≡ minus_one → ⊥) × ((ac : ℕ) × Reported seen bal rm MS maxbal val ac)))

  -- Phase2a with its conditions read from `seen`
  abbrev pub Phase2aFrom : (Message → Type 0) → ℕ → ℕ → State → State → Type 0
  Phase2aFrom seen bal rm s s' =
      ((v : Val) → seen (phase2a rm bal v) → ⊥)
      × ((MS : ℕ → Bool) × Majority MS × (val : Val)
      × ((ac : ℕ) → MS ac ≡ true → (b : Bal) × (v : Val) × Reported seen bal rm MS b v ac)
      × ProposedVal seen bal rm MS val
      × Send (phase2a rm bal val) s s')
      × (s'.rm_state ≡ s.rm_state)
      × (s'.a_state ≡ s.a_state)

  abbrev pub Phase2a : ℕ → ℕ → State → State → Type 0
  Phase2a bal rm s s' = Phase2aFrom s.msgs bal rm s s'

  -- instance rm has chosen v
  abbrev pub Decided : (Message → Type 0) → ℕ → Val → Type 0
  Decided seen rm v = (b : ℕ) × (MS : ℕ → Bool) × Majority MS × ((ac : ℕ) → MS ac ≡ true → seen (phase2b ac rm b v))

  -- Decide by what is decided
  abbrev pub DecideCommitWhere : (ℕ → Val → Type 0) → State → State → Type 0
  DecideCommitWhere decided s s' =
      ((rm : ℕ) → RM rm → decided rm prepared) × Send Commit s s' × (s'.rm_state ≡ s.rm_state) × (s'.a_state ≡ s.a_state)

  abbrev pub DecideAbortWhere : (ℕ → Val → Type 0) → State → State → Type 0
  DecideAbortWhere decided s s' =
      ((rm : ℕ) × RM rm × decided rm aborted) × Send Abort s s' × (s'.rm_state ≡ s.rm_state) × (s'.a_state ≡ s.a_state)

  abbrev pub Decide : State → State → Type 0
  Decide s s' = DecideCommitWhere (Decided s.msgs) s s' ⊎ DecideAbortWhere (Decided s.msgs) s s'

  -- Phase1b for the message phase1a ins bal
  abbrev pub Phase1bOn : ℕ → ℕ → ℕ → State → State → Type 0
  Phase1bOn acc ins bal s s' =
      s.msgs (phase1a ins bal)
      × ((s.a_state ins acc).mbal < bal)
      × (s'.a_state ≡ except₂ s.a_state ins acc (record { mbal = bal; bal = (s.a_state ins acc).bal; val = (s.a_state ins acc).val }))
      × Send (phase1b ins bal (s.a_state ins acc).bal (s.a_state ins acc).val acc) s s'
      × (s'.rm_state ≡ s.rm_state)

  abbrev pub Phase1b : ℕ → State → State → Type 0
  Phase1b acc s s' = (ins bal : ℕ) × Phase1bOn acc ins bal s s'

  -- Phase2b for the message phase2a ins bal val
  abbrev pub Phase2bOn : ℕ → ℕ → ℕ → Val → State → State → Type 0
  Phase2bOn acc ins bal val s s' =
      s.msgs (phase2a ins bal val)
      × ((s.a_state ins acc).mbal ≤ bal)
      × (s'.a_state ≡ except₂ s.a_state ins acc (record { mbal = bal; bal = ballot bal; val = val }))
      × Send (phase2b acc ins bal val) s s'
      × (s'.rm_state ≡ s.rm_state)

  abbrev pub Phase2b : ℕ → State → State → Type 0
  Phase2b acc s s' = (ins bal : ℕ) × (val : Val) × Phase2bOn acc ins bal val s s'

  abbrev pub PCNext : State → State → Type 0
  PCNext s s' =
      ((rm : ℕ) × RM rm × (RMPrepare rm s s' ⊎ (RMChooseToAbort rm s s' ⊎ (RMRcvCommitMsg rm s s' ⊎ RMRcvAbortMsg rm s s'))))
      ⊎ (((bal rm : ℕ) × RM rm × (0 < bal) × (Phase1a bal rm s s' ⊎ Phase2a bal rm s s'))
      ⊎ (Decide s s'
      ⊎ ((acc : ℕ) × Acceptor acc × (Phase1b acc s s' ⊎ Phase2b acc s s'))))

  -- [PCNext]_⟨rmState, aState, msgs⟩: an action, or the variables stay
  abbrev pub PCStep : State → State → Type 0
  PCStep s s' = PCNext s s' ⊎ ((s'.rm_state ≡ s.rm_state) × (s'.a_state ≡ s.a_state) × UnchangedMsgs s s')

  -- state t is the state at time t
  abbrev pub PCSpec : (ℕ → State) → Type 0
  PCSpec state = PCInit (state 0) × ((t : ℕ) → PCStep (state t) (state (suc t)))

  abbrev pub Enabled : (State → State → Type 0) → State → Type 1
  Enabled action s = (s' : State) × action s s'
