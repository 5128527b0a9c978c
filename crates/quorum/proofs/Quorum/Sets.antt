-- A majority in document 01's words: "any set of acceptors with 2 × size > A".
--     quorum_set, set_quorum   a quorum has such a list of more than half, and what has one is a quorum
-- Assumes nothing.
use Rattle.std.specs.Prelude.{ℕ, zero, suc, ◌+◌, ◌*◌, ◌≤◌, ◌<◌, Bool, true, false, not, ◌&&◌, cond, ◌≡◌, refl, eqb, length}
use Rattle.std.proofs.Common.{zero-le, suc-le-suc, sym, ◌∙◌, ap, not-suc-le-zero, le_of_suc-le-suc, zero-add, arith}
use mathlib.Core.List.Memᴰ
use mathlib.Core.List.{List, [], ◌∷◌, map, Memᴰ}
use Rattle.std.proofs.Math.Decide.{ℕ_discrete}
use Rattle.std.proofs.lemmas.List.{length-map}
use borrow.Author.Tests.{ltb-true, lt-ltb, ne_eqb, eq-eqb}
use Rattle.quorum.specs.Quorum.{count_acceptors, is_majority, is_quorum, Distinct, AmongFirst}
use Rattle.quorum.proofs.Quorum.Laws.{count_ext}

mem_map : (xs : List ℕ) (b : ℕ) → Memᴰ b (map suc xs) → (a : ℕ) × (b ≡ suc a) × Memᴰ a xs
mem_map [] b h = absurd (Memᴰ.not-nil h)
mem_map (a ∷ xs) b (Memᴰ.head e) = (a, e, Memᴰ.head refl)
mem_map (a ∷ xs) b (Memᴰ.tail h) = let (x, e, m) = mem_map xs b h in (x, e, Memᴰ.tail m)

distinct_map : (xs : List ℕ) → Distinct xs → Distinct (map suc xs)
distinct_map [] d = tt
distinct_map (a ∷ xs) (new, d) = (λ h. let (x, e, m) = mem_map xs (suc a) h in let same : a ≡ x = omega arith in new (rw same m), distinct_map xs d)

-- the members of a set below a count
Listed : ℕ → (ℕ → Bool) → Type 0
Listed total test = (xs : List ℕ) × Distinct xs × AmongFirst total test xs × (length xs ≡ count_acceptors total test)

listed : (total : ℕ) (test : ℕ → Bool) → Listed total test
unfolding Listed count_acceptors
listed zero test = ([], tt, λ a h. absurd (Memᴰ.not-nil h), refl)
listed (suc total) test = go (test 0) refl (listed total (λ a. test (suc a)))
  where
    above : (xs : List ℕ) → AmongFirst total (λ a. test (suc a)) xs → AmongFirst (suc total) test (map suc xs)
    above xs among b h = let (a, e, m) = mem_map xs b h in let (l, s) = among a m in (rw e (suc-le-suc l), rw e s)

    with_zero : (xs : List ℕ) → test 0 ≡ true → AmongFirst (suc total) test (map suc xs) → AmongFirst (suc total) test (0 ∷ map suc xs)
    with_zero xs e among b (Memᴰ.head is) = (rw is (suc-le-suc zero-le), rw is e)
    with_zero xs e among b (Memᴰ.tail m) = among b m

    go : (t : Bool) → test 0 ≡ t → Listed total (λ a. test (suc a))
        → (xs : List ℕ) × Distinct xs × AmongFirst (suc total) test xs × (length xs ≡ cond t 1 0 + count_acceptors total (λ a. test (suc a)))
    go true e (xs, d, among, size) = (
      0 ∷ map suc xs,
      (λ h. let (a, is, m) = mem_map xs 0 h in omega arith, distinct_map xs d),
      with_zero xs e (above xs among),
      (let z = length-map xs suc ∙ size in omega arith),
    )
    go false e (xs, d, among, size) = (map suc xs, distinct_map xs d, above xs among, length-map xs suc ∙ size ∙ sym (zero-add _))

and_not : (t b : Bool) → b ≡ false → t ≡ (t && not b)
and_not true b e = rw e
and_not false b e = refl

-- a set without one of its members
count_without : (total : ℕ) (test : ℕ → Bool) (a : ℕ) → a < total → test a ≡ true
    → count_acceptors total test ≡ suc (count_acceptors total (λ x. test x && not (eqb x a)))
unfolding count_acceptors
count_without zero test a h e = absurd (not-suc-le-zero h)
count_without (suc total) test zero h e =
    let rest : count_acceptors total (λ x. test (suc x)) ≡ count_acceptors total (λ x. test (suc x) && not (eqb (suc x) 0))
    = count_ext total _ _ (λ x l. and_not (test (suc x)) _ (ne_eqb (suc x) 0 (λ k. omega arith))) in
    rw e (omega arith)
count_without (suc total) test (suc a) h e =
    rw (count_without total (λ x. test (suc x)) a (le_of_suc-le-suc h) e)
    (go (test 0) (count_acceptors total (λ x. test (suc x) && not (eqb x a))) (count_ext total _ _ (λ x l. ap (λ (b : Bool). test (suc x) && not b) (same x))))
  where
    same : (x : ℕ) → eqb x a ≡ eqb (suc x) (suc a)
    same x =
        elim (ℕ_discrete x a) [
          | yes k ↦ eq-eqb x a k ∙ sym (eq-eqb (suc x) (suc a) (ap suc k))
          | no n ↦ ne_eqb x a n ∙ sym (ne_eqb (suc x) (suc a) (λ k. n (omega arith)))
        ]

    go : (t : Bool) (c : ℕ) {d : ℕ} → c ≡ d → cond t 1 0 + suc c ≡ suc (cond (t && not (eqb 0 (suc a))) 1 0 + d)
    go t c e = rw (ne_eqb 0 (suc a) (λ k. omega arith), ← e) (by t)
      where
        by : (t : Bool) → cond t 1 0 + suc c ≡ suc (cond (t && true) 1 0 + c)
        by true = omega arith
        by false = omega arith

-- a list of different members is not longer than the set
distinct_fits : (total : ℕ) (xs : List ℕ) (test : ℕ → Bool) → Distinct xs → AmongFirst total test xs → length xs ≤ count_acceptors total test
distinct_fits total [] test d among = zero-le
distinct_fits total (a ∷ xs) test (new, d) among =
    let (l, e) = among a (Memᴰ.head refl) in
    rw (count_without total test a l e) (suc-le-suc (distinct_fits total xs _ d others))
  where
    others : AmongFirst total (λ x. test x && not (eqb x a)) xs
    others b m =
        let (l, e) = among b (Memᴰ.tail m) in
        (l, rw (e, ne_eqb b a (λ k. new (rw k at m))))

module _ (total : ℕ) (test : ℕ → Bool) where
  pub quorum_set : is_quorum total test ≡ true → (xs : List ℕ) × Distinct xs × AmongFirst total test xs × (total < 2 * length xs)
  unfolding is_quorum is_majority Listed
  quorum_set h = let (xs, d, among, size) = listed total test in (xs, d, among, rw size (ltb-true total _ h))

  pub set_quorum : (xs : List ℕ) → Distinct xs → AmongFirst total test xs → total < 2 * length xs → is_quorum total test ≡ true
  unfolding is_quorum is_majority
  set_quorum xs d among many = let fits = distinct_fits total xs test d among in lt-ltb total (2 * count_acceptors total test) (omega arith)
