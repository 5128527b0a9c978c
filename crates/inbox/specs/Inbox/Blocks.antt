-- Slots that Phase2a passes.
--     block_slots           the slots of a block, which are passed at once
--     bit1b                 the bit that the two maps of a 1b have, and no other map
--     Passed, AllPassed     a slot is no 1b and no 2a of the instance and ballot; each of some slots is so
-- Assumes nothing.
use Rattle.std.specs.Prelude.{ℕ, ◌+◌, ◌*◌, ◌≤◌, ◌<◌, List, ◌≡◌, get_or}
use Rattle.std.specs.Int.Bits.{bit_and}
use Rattle.message.specs.Form.{map2a}
use Rattle.slots.specs.Table.{slot_size}

-- the slots of a block
abbrev pub block_slots : ℕ
block_slots = 33

abbrev pub bit1b : ℕ
bit1b = 4

-- the slot at place k is no 1b and no 2a of instance i and ballot b
pub record Passed (i b : ℕ) (t : List ℕ) (k : ℕ) : Type 0 where
  pub no_1b : bit_and (get_or t (k * slot_size) 0) bit1b ≡ bit1b → get_or t (k * slot_size + 1) 0 ≡ i → get_or t (k * slot_size + 3) 0 ≡ b → ⊥
  pub no_2a : get_or t (k * slot_size) 0 ≡ map2a → get_or t (k * slot_size + 1) 0 ≡ i → get_or t (k * slot_size + 2) 0 ≡ b → ⊥

-- so is each slot from the place `from` up to the one before `to`
pub record AllPassed (i b : ℕ) (t : List ℕ) (from to : ℕ) : Type 0 where
  pub each : (k : ℕ) → k < to → from ≤ k → Passed i b t k
