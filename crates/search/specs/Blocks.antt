-- Slots that are passed, and the one that is found. The form is the number of eight bytes.
--     NoneBegins     none of the slots from a place on begins with the word `head`
--     IsForm, NoneIsForm     the slot at a place is the form; none of the slots from a place on is
--     Passed         a place up to which that is so
--     Found          the first slot that is the form, or the end
--     Located        where eight bytes that are the form stand or go
-- Assumes nothing.
use Rattle.std.specs.Prelude.{ℕ, ◌*◌, ◌≤◌, ◌<◌, List, ◌≡◌, length}
use Rattle.slots.specs.declared.Place.{Place}
use Rattle.slots.specs.Table.{slot_size}
use Rattle.slots.specs.Table.Scan.{locate}
use Rattle.slots.specs.Table.Words.{WordFrom}
use Rattle.search.specs.Words.{EightFrom}

-- none of the slots at `from` to before `to` begins with the word
pub record NoneBegins (t : List ℕ) (head from to : ℕ) : Type 0 where
  pub each : (k : ℕ) → from ≤ k → k < to → WordFrom t (k * slot_size) head → ⊥

-- the slot at `k` is the form
abbrev pub IsForm : List ℕ → ℕ → ℕ → Type 0
IsForm t form k = EightFrom t (k * slot_size) form

-- none of them is the form
abbrev pub NoneIsForm : List ℕ → ℕ → ℕ → ℕ → Type 0
NoneIsForm t form from to = (k : ℕ) → from ≤ k → k < to → IsForm t form k → ⊥

-- up to `r` none is
pub record Passed (t : List ℕ) (form from end r : ℕ) : Type 0 where
  pub after : from ≤ r
  pub before : r ≤ end
  pub others : NoneIsForm t form from r

-- and the slot at `r` is, unless that is the end
pub record Found (t : List ℕ) (form from end r : ℕ) : Type 0 where
  pub passed : Passed t form from end r
  pub is : r < end → IsForm t form r

-- `r` is where eight bytes that are the form stand or go
pub record Located (t : List ℕ) (form : ℕ) (r : Place) : Type 0 where
  pub of_bytes : (bytes : List ℕ) → length bytes ≡ slot_size → EightFrom bytes 0 form → r ≡ locate t bytes
