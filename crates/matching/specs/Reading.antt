-- How the bytes of a record are read as the variables of module PaxosCommit.
--     is_rm, is_acceptor, is_majority_set  the constants of a plan
--     val_of, bal_of, message_of           a message as the source's record: a 1b without a vote has bal -1 and val "none"
--     set_of                              a list of messages as a set
--     rm_state_of, a_state_of             W and Q as functions
-- Its laws are in proofs/Reading/Laws.antt. Assumes nothing.
use Rattle.std.specs.Prelude.{ℕ, ◌+◌, ◌<◌, Bool, true, ◌&&◌, cond, ◌≡◌, ltb, eqb, get_or, None, Option, Some}
use mathlib.Core.List.{List, Memᴰ}
use Rattle.message.specs.declared.Plan.{Plan}
use Rattle.message.specs.declared.Vote.{Vote}
use Rattle.message.specs.declared.Message as Wire
use Rattle.message.specs.declared.Message.TheVariants.{Phase1a, Phase1b, Phase2a, Phase2b, Decision}
use Rattle.acceptor.specs.Acceptor.{vote_at}
use Rattle.quorum.specs.Quorum.{is_quorum}
use Rattle.paxos_commit.specs.PaxosCommit.{Val, prepared, aborted, none, Bal, minus_one, ballot, AState, initial}
use Rattle.paxos_commit.specs.PaxosCommit.{Message, phase1a, phase1b, phase2a, phase2b, Commit, Abort}

-- numbered from 0
abbrev pub is_rm : Plan → ℕ → Type 0
is_rm p rm = rm < p.rms

abbrev pub is_acceptor : Plan → ℕ → Type 0
is_acceptor p ac = ac < p.acceptors

-- a set of acceptors of the plan with 2 × size > A
abbrev pub is_majority_set : Plan → (ℕ → Bool) → Type 0
is_majority_set p MS = ((ac : ℕ) → MS ac ≡ true → is_acceptor p ac) × (is_quorum p.acceptors MS ≡ true)

-- 1 prepared, 2 aborted
abbrev pub val_of : ℕ → Val
val_of v = cond (eqb v 1) prepared aborted

-- a vote report as the source's two fields
abbrev pub bal_of : Option Vote → Bal
bal_of None = minus_one
bal_of (Some vote) = ballot vote.bal

abbrev pub vote_val_of : Option Vote → Val
vote_val_of None = none
vote_val_of (Some vote) = val_of vote.val

abbrev pub message_of : Wire.Message → Message
message_of (Phase1a ins bal) = phase1a ins bal
message_of (Phase1b ins acc mbal vote) = phase1b ins mbal (bal_of vote) (vote_val_of vote) acc
message_of (Phase2a ins bal val) = phase2a ins bal (val_of val)
message_of (Phase2b ins acc bal val) = phase2b acc ins bal (val_of val)
message_of (Decision val) = cond (eqb val 1) Commit Abort

-- the set of the messages of a list
abbrev pub set_of : List Wire.Message → Message → Type 0
set_of ms x = (m : Wire.Message) × Memᴰ m ms × (message_of m ≡ x)

-- byte rm of W
abbrev pub rm_state_of : List ℕ → ℕ → ℕ
rm_state_of states rm = get_or states rm 0

-- the three bytes mbal, bal, val: val 0 is no vote, and then bal stands for -1
abbrev pub vote_state_of : ℕ → ℕ → ℕ → AState
vote_state_of mbal bal val =
    cond (eqb val 0)
    (record { mbal = mbal; bal = minus_one; val = none })
    (record { mbal = mbal; bal = ballot bal; val = val_of val })

-- the three bytes of Q from `vote_at` on
abbrev pub a_state_of : Plan → List ℕ → ℕ → ℕ → AState
a_state_of p votes i a =
    cond (ltb i p.rms && ltb a p.acceptors)
    (vote_state_of (get_or votes (vote_at p i a) 0) (get_or votes (vote_at p i a + 1) 0) (get_or votes (vote_at p i a + 2) 0))
    initial
