-- What a leader reads from its inbox (document 01, "The nine events"), on the list of messages in it.
--     any                                    whether some message passes a test
--     is1b, is2a, is2b                       the messages of an instance and ballot
--     higher, report_of, highest_report, proposal   the value that Phase2a proposes
--     chosen, is_chosen2b, decided           Decided(i, v)
--     for_all, for_some                      for all, and for some, of the numbers below a count
--     reports_of                             what Phase2a asks of the inbox, in one answer
-- The laws by which the code passes over the inbox are in Inbox/. Assumes nothing.
pub mod Slots
pub mod Reports
pub mod Votes
pub mod Members
pub mod Quantifiers
pub mod Blocks
use Rattle.std.specs.Prelude.{ℕ, zero, suc, Bool, true, false, ◌&&◌, ◌||◌, cond, List, [], ◌∷◌, ltb, eqb, length, None, Option, Some}
use Rattle.message.specs.declared.Plan.{Plan}
use Rattle.message.specs.declared.Vote.{Vote}
use Rattle.message.specs.declared.Message.{Message}
use Rattle.message.specs.declared.Message.TheVariants.{Phase1a, Phase1b, Phase2a, Phase2b, Decision}
use Rattle.message.specs.Plan.{is_plan}
use Rattle.quorum.specs.Quorum.{is_quorum}
use Rattle.inbox.specs.declared.Reports as Declared
use Rattle.message.specs.Form.{cast_vote}

unfoldable pub any : (Message → Bool) → List Message → Bool
any test [] = false
any test (m ∷ ms) = test m || any test ms

-- a 1b of instance i with mbal b from acceptor a
unfoldable pub is1b : ℕ → ℕ → ℕ → Message → Bool
is1b i b a (Phase1a _ _) = false
is1b i b a (Phase1b ins acc mbal vote) = eqb ins i && (eqb mbal b && eqb acc a)
is1b i b a (Phase2a _ _ _) = false
is1b i b a (Phase2b _ _ _ _) = false
is1b i b a (Decision _) = false

-- a 2a of instance i at ballot b
unfoldable pub is2a : ℕ → ℕ → Message → Bool
is2a i b (Phase1a _ _) = false
is2a i b (Phase1b _ _ _ _) = false
is2a i b (Phase2a ins bal val) = eqb ins i && eqb bal b
is2a i b (Phase2b _ _ _ _) = false
is2a i b (Decision _) = false

-- a 2b of instance i at ballot b with value v from acceptor a
unfoldable pub is2b : ℕ → ℕ → ℕ → ℕ → Message → Bool
is2b i b v a (Phase1a _ _) = false
is2b i b v a (Phase1b _ _ _ _) = false
is2b i b v a (Phase2a _ _ _) = false
is2b i b v a (Phase2b ins acc bal val) = eqb ins i && (eqb bal b && (eqb val v && eqb acc a))
is2b i b v a (Decision _) = false

-- of two vote reports the one with the higher ballot, and of equals the first
unfoldable pub higher : Option Vote → Option Vote → Option Vote
higher None second = second
higher (Some v) None = Some v
higher (Some v) (Some w) = cond (ltb v.bal w.bal) (Some w) (Some v)

-- the vote report in a 1b of instance i with mbal b
unfoldable pub report_of : ℕ → ℕ → Message → Option Vote
report_of i b (Phase1a _ _) = None
report_of i b (Phase1b ins acc mbal vote) = cond (eqb ins i && eqb mbal b) vote None
report_of i b (Phase2a _ _ _) = None
report_of i b (Phase2b _ _ _ _) = None
report_of i b (Decision _) = None

unfoldable pub highest_report : ℕ → ℕ → List Message → Option Vote
highest_report i b [] = None
highest_report i b (m ∷ ms) = higher (report_of i b m) (highest_report i b ms)

-- 2 where none reports a vote
unfoldable pub proposal : Option Vote → ℕ
proposal None = 2
proposal (Some vote) = vote.val

-- the acceptors with a 2b of (i, b, v) are a majority
unfoldable pub chosen : Plan → List Message → ℕ → ℕ → ℕ → Bool
chosen p inbox i b v = is_quorum p.acceptors (λ a. any (is2b i b v a) inbox)

-- a 2b of (i, v) whose ballot is one at which (i, v) is chosen
unfoldable pub is_chosen2b : Plan → List Message → ℕ → ℕ → Message → Bool
is_chosen2b p inbox i v (Phase1a _ _) = false
is_chosen2b p inbox i v (Phase1b _ _ _ _) = false
is_chosen2b p inbox i v (Phase2a _ _ _) = false
is_chosen2b p inbox i v (Phase2b ins acc bal val) = eqb ins i && (eqb val v && chosen p inbox i bal v)
is_chosen2b p inbox i v (Decision _) = false

-- Decided(i, v): at some ballot (i, v) is chosen. It is the ballot of a 2b in the inbox, since a majority is not empty.
unfoldable pub decided : Plan → List Message → ℕ → ℕ → Bool
decided p inbox i v = any (is_chosen2b p inbox i v) inbox

unfoldable pub for_all : ℕ → (ℕ → Bool) → Bool
for_all zero test = true
for_all (suc count) test = test count && for_all count test

unfoldable pub for_some : ℕ → (ℕ → Bool) → Bool
for_some zero test = false
for_some (suc count) test = test count || for_some count test

-- for the code: a 2a of (i, b) is there, the plan is in range and the acceptors with a 1b of (i, b) are a majority, the highest vote report,
-- and how many messages there are
abbrev pub reports_of : Plan → List Message → ℕ → ℕ → Declared.Reports
reports_of p inbox i b =
    record {
      proposed = any (is2a i b) inbox;
      quorum = is_plan p && is_quorum p.acceptors (λ a. any (is1b i b a) inbox);
      vote = highest_report i b inbox;
      count = length inbox;
    }
