-- Module PaxosCommit with Decide widened (document 02, Paper 6). Section 4.2 of document 001: a resource manager that has proposed aborted at
-- ballot 0 has made its instance one that "can choose only Aborted", so Paxos Commit "can short-circuit and inform all processes that the
-- transaction has aborted"; this "is possible only for phase 2a messages with ballot number 0". PaxosCommit.antt is the module as printed, and
-- here is what is otherwise. Which of its theorems stand is in proofs/Theorems.antt.
--     Declined              a resource manager has proposed aborted at ballot 0
--     DecidedOrDeclined     what a leader may announce: what is decided, and aborted where the resource manager has declined
--     WidenedDecide         Decide by that
--     WidenedNext, WidenedStep, WidenedSpec     PCNext, PCStep and PCSpec with it
-- Assumes nothing.
use Rattle.std.specs.Prelude.{ℕ, suc, Bool, ◌⊎◌, ◌≡◌}
use Rattle.paxos_commit.specs.PaxosCommit.{Val, aborted, Message, phase2a, State}
use Rattle.paxos_commit.specs.PaxosCommit.{PCInit, UnchangedMsgs, Decided, DecideCommitWhere, DecideAbortWhere, PCNext}

abbrev pub Declined : (Message → Type 0) → ℕ → Type 0
Declined seen rm = seen (phase2a rm 0 aborted)

module _ (RM Acceptor : ℕ → Type 0) (Majority : (ℕ → Bool) → Type 0) where
  abbrev pub DecidedOrDeclined : (Message → Type 0) → ℕ → Val → Type 0
  DecidedOrDeclined seen rm v = Decided RM Acceptor Majority seen rm v ⊎ ((v ≡ aborted) × Declined seen rm)

  abbrev pub WidenedDecide : State → State → Type 0
  WidenedDecide s s' =
      DecideCommitWhere RM Acceptor Majority (DecidedOrDeclined s.msgs) s s'
      ⊎ DecideAbortWhere RM Acceptor Majority (DecidedOrDeclined s.msgs) s s'

  -- Decide is a case of WidenedDecide, so this is PCNext with the one in place of the other
  abbrev pub WidenedNext : State → State → Type 0
  WidenedNext s s' = PCNext RM Acceptor Majority s s' ⊎ WidenedDecide s s'

  -- [WidenedNext]_⟨rmState, aState, msgs⟩
  abbrev pub WidenedStep : State → State → Type 0
  WidenedStep s s' =
      WidenedNext s s'
      ⊎ ((s'.rm_state ≡ s.rm_state) × (s'.a_state ≡ s.a_state) × UnchangedMsgs RM Acceptor Majority s s')

  abbrev pub WidenedSpec : (ℕ → State) → Type 0
  WidenedSpec state = PCInit RM Acceptor Majority (state 0) × ((t : ℕ) → WidenedStep (state t) (state (suc t)))
