-- Sets of acceptors (document 01: "A majority is any set of acceptors with 2 × size > A").
--     count_acceptors    how many of the first so many acceptors pass a test
--     is_majority        whether so many of so many acceptors are a majority
--     is_quorum          whether those of so many acceptors that pass a test are a majority
--     Distinct, AmongFirst     a list of different acceptors of a set, by which a majority is said without counting
-- Its laws are in proofs/Quorum/Laws.antt; proofs/Quorum/Sets.antt says what a quorum is in document 01's words. Assumes nothing.
use Rattle.std.specs.Prelude.{ℕ, zero, suc, ◌+◌, ◌*◌, ◌<◌, Bool, true, cond, ◌≡◌, ltb}
use mathlib.Core.List.{List, [], ◌∷◌, Memᴰ}

unfoldable pub count_acceptors : ℕ → (ℕ → Bool) → ℕ
count_acceptors zero test = 0
count_acceptors (suc total) test = cond (test 0) 1 0 + count_acceptors total (λ a. test (suc a))

unfoldable pub is_majority : ℕ → ℕ → Bool
is_majority total size = ltb total (2 * size)

unfoldable pub is_quorum : ℕ → (ℕ → Bool) → Bool
is_quorum total test = is_majority total (count_acceptors total test)

-- no number stands twice
abbrev pub Distinct : List ℕ → Type 0
Distinct [] = Unit {0}
Distinct (a ∷ xs) = (Memᴰ a xs → ⊥) × Distinct xs

-- all below a count, and in a set
abbrev pub AmongFirst : ℕ → (ℕ → Bool) → List ℕ → Type 0
AmongFirst total test xs = (a : ℕ) → Memᴰ a xs → (a < total) × (test a ≡ true)
