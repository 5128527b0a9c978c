-- What a read leaves in its buffer, as far as a contract can say it.
--     Filled     the buffer is as long as it was, and no more bytes are counted than it has
--     Taken      where the reader's bytes are known: those that are counted are its next, and fewer than the buffer has are its last; before
--                a read failed, some that begin the buffer were its next
-- Filled's laws are in Console/Laws.antt. Assumes nothing.
pub mod Laws
use Rattle.std.specs.Prelude.{ℕ, ◌<◌, ◌≤◌, List, Option, Result, Ok, Err, ◌≡◌, length, take}
use Rattle.std.specs.Io.KnownBytes.{Consumes, IsAtEnd}

abbrev pub Filled : {E : Type 0} → Result ℕ E → List ℕ → List ℕ → Type 0
Filled (Ok count) before after = (count ≤ length after) × (length after ≡ length before)
Filled (Err _) before after = length after ≡ length before

abbrev pub Taken : {E : Type 0} → Result ℕ E → Option (List ℕ) → Option (List ℕ) → List ℕ → Type 0
Taken (Ok count) before after buffer = Consumes before after (take count buffer) × (count < length buffer → IsAtEnd after)
Taken (Err _) before after buffer = (done : ℕ) × Consumes before after (take done buffer)
