-- What is known of the bytes that were read.
--     filled_within     they are within the buffer
--     filled_part       a part of the buffer has as many as were read
-- Assumes nothing.
use Rattle.std.specs.Prelude.{ℕ, ◌≤◌, List, Result, Ok, ◌≡◌, length, take}
use Rattle.std.proofs.Common.{sym, subst, length-take-le}
use Rattle.console.specs.Console.{Filled}

module _ {E : Type 0} (input : Result ℕ E) (count : ℕ) (before after : List ℕ) (read : input ≡ Ok count) (filled : Filled input before after) where
  pub filled_within : count ≤ length after
  filled_within = (subst (λ (i : Result ℕ E). Filled i before after) read filled).0

  pub filled_part : count ≡ length (take count after)
  filled_part = sym (length-take-le count after filled_within)
