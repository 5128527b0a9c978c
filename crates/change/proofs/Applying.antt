-- Three bytes of Q that are set.
--     set_vote_out, set_vote_in            past the end and within
-- Assumes nothing.
use Prim.Native.Nat.{ℕ, ◌+◌, ◌≤◌}
use mathlib.Core.List.{List}
use mathlib.Core.Path.{◌≡◌, ◌∙◌}
use native.Mathlib.Omega.{arith}
use lib.ListN.{length, set}
use lib.Seq.{set_out}

module _ (votes : List ℕ) (at mbal bal val : ℕ) where
  pub set_vote_out : length votes ≤ at → votes ≡ set (set (set votes at mbal) (at + 1) bal) (at + 2) val
  set_vote_out h =
      let next : length votes ≤ at + 1 = omega arith in
      let last : length votes ≤ at + 2 = omega arith in
      rw (set_out votes at mbal h, set_out votes (at + 1) bal next, set_out votes (at + 2) val last)

  pub set_vote_in : (one two three : List ℕ) → one ≡ set votes at mbal → two ≡ set one (at + 1) bal → three ≡ set two (at + 2) val
      → three ≡ set (set (set votes at mbal) (at + 1) bal) (at + 2) val
  set_vote_in one two three a b c = c ∙ rw (b, a)
