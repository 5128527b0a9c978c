-- Why Paxos Commit is safe: the invariant that holds of every state. Instances are i, acceptors a, ballots b and c, values v and w; 1b, 2a
-- and 2b are the messages phase1b, phase2a and phase2b.
--     Blocked   a majority that will never choose a value at a ballot
--     Refused   why an Abort may be announced
--     Grounds   what the state of a resource manager rests on
--     Inv       the invariant
-- In proofs/PaxosCommit/Safety: Growth.antt, what every action does and why that keeps the invariant; Agreement.antt, what the invariant
-- gives; Rm.antt, Leader.antt and Acceptor.antt, a lemma for each action; Histories.antt, behaviours.
-- Assumes nothing.
use Rattle.std.specs.Prelude.{ℕ, zero, suc, ◌≤◌, ◌<◌, Bool, true, ◌⊎◌, ◌≡◌}
use Rattle.paxos_commit.specs.PaxosCommit.{Val, prepared, aborted, Bal, ballot, at_most, Message, phase1b, phase2a, phase2b}
use Rattle.paxos_commit.specs.PaxosCommit.{Commit, Abort, AState, State, IsMessage, Decided}
use Rattle.paxos_commit.specs.Widened.{DecidedOrDeclined}

-- some acceptor of MS is past ballot c and has not voted for v there: MS never chooses v at c
abbrev pub Blocked : (ℕ → ℕ → AState) → (Message → Type 0) → ℕ → ℕ → Val → (ℕ → Bool) → Type 0
Blocked a_state msgs i c v MS = (a : ℕ) × (MS a ≡ true) × (c < (a_state i a).mbal) × (msgs (phase2b a i c v) → ⊥)

-- what the state of resource manager i rests on
abbrev pub Grounds : (Message → Type 0) → ℕ → ℕ → Type 0
-- working: it has proposed nothing
Grounds msgs i zero = (v : Val) → msgs (phase2a i 0 v) → ⊥
-- prepared: it has proposed so
Grounds msgs i (suc zero) = msgs (phase2a i 0 prepared)
-- committed: it was told to
Grounds msgs i (suc (suc zero)) = msgs Commit
-- aborted: it chose to, and has proposed so, or was told to
Grounds msgs i (suc (suc (suc zero))) = msgs (phase2a i 0 aborted) ⊎ msgs Abort
-- there is no other state
Grounds msgs i (suc (suc (suc (suc n)))) = ⊥

module _ (RM Acceptor : ℕ → Type 0) (Majority : (ℕ → Bool) → Type 0) where
  -- instance i has chosen aborted, or can choose nothing else, since its resource manager has proposed so at ballot 0
  abbrev pub Refused : (Message → Type 0) → ℕ → Type 0
  Refused msgs i = DecidedOrDeclined RM Acceptor Majority msgs i aborted

  pub record Inv (s : State) : Type 0 where
    -- every message is of the set Message
    pub ranges : (x : Message) → s.msgs x → IsMessage RM Acceptor Majority x
    -- a ballot proposes one value
    pub one_value : (i b : ℕ) (v w : Val) → s.msgs (phase2a i b v) → s.msgs (phase2a i b w) → v ≡ w
    -- nobody proposes prepared before the resource manager does
    pub prepared_first : (i b : ℕ) → s.msgs (phase2a i b prepared) → s.msgs (phase2a i 0 prepared)
    -- a vote is for what its ballot proposes; the voter does not go back below it, and remembers it or a later one
    pub voted : (a i b : ℕ) (v : Val) → s.msgs (phase2b a i b v)
        → s.msgs (phase2a i b v) × (b ≤ (s.a_state i a).mbal) × at_most (ballot b) (s.a_state i a).bal
    -- the vote that an acceptor remembers was sent
    pub last_vote : (i a b : ℕ) → RM i → Acceptor a → (s.a_state i a).bal ≡ ballot b → s.msgs (phase2b a i b (s.a_state i a).val)
    -- a 1b is a promise not to go back below its ballot m
    pub promised : (i m : ℕ) (r : Bal) (v : Val) (a : ℕ) → s.msgs (phase1b i m r v a) → m ≤ (s.a_state i a).mbal
    -- an acceptor sends one 1b for an instance and a ballot
    pub one_report : (i m : ℕ) (r q : Bal) (v w : Val) (a : ℕ) → s.msgs (phase1b i m r v a) → s.msgs (phase1b i m q w a) → (r ≡ q) × (v ≡ w)
    -- a 1b reports a vote of its sender, and the sender has no later vote below m
    pub report : (i m : ℕ) (r : Bal) (v : Val) (a : ℕ) → s.msgs (phase1b i m r v a)
        → ((c : ℕ) → r ≡ ballot c → s.msgs (phase2b a i c v)) × ((c : ℕ) (w : Val) → s.msgs (phase2b a i c w) → c < m → at_most (ballot c) r)
    -- when a ballot proposes v, no majority ever chooses another value at a lower ballot
    pub safe : (i b c : ℕ) (v w : Val) (MS : ℕ → Bool) → s.msgs (phase2a i b v) → c < b → (w ≡ v → ⊥) → Majority MS
        → Blocked s.a_state s.msgs i c w MS
    -- every resource manager is in one of the four states, on its grounds
    pub states : (i : ℕ) → RM i → Grounds s.msgs i (s.rm_state i)
    -- Commit is sent when all instances have chosen prepared, Abort when some instance is refused
    pub decisions : (s.msgs Commit → (i : ℕ) → RM i → Decided RM Acceptor Majority s.msgs i prepared)
        × (s.msgs Abort → (i : ℕ) × RM i × Refused s.msgs i)
