-- The pass for Decided, block by block. What it gathers stands in Inbox/Votes.antt of `inbox`.
--     block_slots    the slots of a block, which are passed at once
--     begins2b       a slot begins as a 2b of the instance does
--     Counted        what some slots further come to: a majority, which decides, or what was gathered by them
-- Assumes nothing.
use Rattle.std.specs.Prelude.{ℕ, ◌+◌, Bool, true, false, ◌&&◌, List, ◌≡◌, eqb, get_or}
use Rattle.message.specs.declared.Plan.{Plan}
use Rattle.message.specs.declared.Message.{Message}
use Rattle.message.specs.Form.{map2b}
use Rattle.inbox.specs.Inbox.{decided}
use Rattle.inbox.specs.Inbox.Votes.{Counts}

-- the slots of a block
abbrev pub block_slots : ℕ
block_slots = 9

-- the slot at an index begins as a 2b of the instance does: map, then instance
unfoldable pub begins2b : ℕ → List ℕ → ℕ → Bool
begins2b i t at = eqb (get_or t at 0) map2b && eqb (get_or t (at + 1) 0) i

-- what some slots further come to: `major`, they had a majority; `rest`, the messages ahead after these slots
pub record Counted (p : Plan) (i v : ℕ) (ms : List Message) (masks : List ℕ) (rest : List Message) (major : Bool) : Type 0 where
  pub decides : major ≡ true → decided p ms i v ≡ true
  pub further : major ≡ false → Counts p i v ms masks rest
