-- The laws of counting acceptors.
--     majority_half  more than half, by division
--     count_ext      tests that agree on the acceptors count the same
--     quorum_ext     so they are quorums together
--     count_some     a count above 0 has a member
--     quorum_some    so a quorum has one
--     quorum_apart   a quorum has a member outside any set that is none
--     quorums_meet   two quorums have a member in common: what module PaxosCommit assumes of Majority
-- Assumes nothing.
use Rattle.std.specs.Prelude.{ℕ, zero, suc, ◌+◌, ◌*◌, ◌/◌, ◌≤◌, ◌<◌, Bool, true, false, not, ◌&&◌, cond, ◌≡◌, refl, ltb}
use Rattle.std.proofs.Common.{suc-le-suc, zero-le, ap, ap₂, not-suc-le-zero, arith, lt-ltb, le-ltb, ltb-true, ltb-false}
use Rattle.std.proofs.lemmas.Bool.{false≢true, not-true}
use Rattle.quorum.specs.Quorum.{count_acceptors, is_majority, is_quorum}

pub majority_half : (total size : ℕ) → ltb (total / 2) size ≡ is_majority total size
unfolding is_majority
majority_half total size = go (ltb total (2 * size)) refl
  where
    go : (t : Bool) → ltb total (2 * size) ≡ t → ltb (total / 2) size ≡ t
    go true e = let l : total < 2 * size = ltb-true _ _ e in lt-ltb (total / 2) size (omega arith)
    go false e = let l : 2 * size ≤ total = ltb-false _ _ e in le-ltb (total / 2) size (omega arith)

pub count_ext : (total : ℕ) (f g : ℕ → Bool) → ((a : ℕ) → a < total → f a ≡ g a) → count_acceptors total f ≡ count_acceptors total g
unfolding count_acceptors
count_ext zero f g h = refl
count_ext (suc total) f g h =
    ap₂ (λ (t : Bool) (k : ℕ). cond t 1 0 + k) (h 0 (suc-le-suc zero-le))
    (count_ext total (λ a. f (suc a)) (λ a. g (suc a)) (λ a k. h (suc a) (suc-le-suc k)))

pub quorum_ext : (total : ℕ) (f g : ℕ → Bool) → ((a : ℕ) → a < total → f a ≡ g a) → is_quorum total f ≡ is_quorum total g
unfolding is_quorum
quorum_ext total f g h = ap (is_majority total) (count_ext total f g h)

pub count_some : (total : ℕ) (f : ℕ → Bool) → 0 < count_acceptors total f → (a : ℕ) × (a < total) × (f a ≡ true)
unfolding count_acceptors
count_some zero f h = absurd (not-suc-le-zero h)
count_some (suc total) f h = go (f 0) refl h (count_some total (λ a. f (suc a)))
  where
    rest : ℕ
    rest = count_acceptors total (λ a. f (suc a))

    go : (t : Bool) → f 0 ≡ t → 0 < cond t 1 0 + rest
        → (0 < rest → (a : ℕ) × (a < total) × (f (suc a) ≡ true)) → (a : ℕ) × (a < suc total) × (f a ≡ true)
    go true e h more = (0, suc-le-suc zero-le, e)
    go false e h more = let r = more (omega arith) in (suc r.0, suc-le-suc r.1, r.2)

pub quorum_some : (total : ℕ) (f : ℕ → Bool) → is_quorum total f ≡ true → (a : ℕ) × (a < total) × (f a ≡ true)
unfolding is_quorum is_majority
quorum_some total f h = let m = ltb-true total _ h in count_some total f (omega arith)

count_both : (total : ℕ) (f g : ℕ → Bool) → count_acceptors total f + count_acceptors total g ≤ total + count_acceptors total (λ a. f a && g a)
unfolding count_acceptors
count_both zero f g = zero-le
count_both (suc total) f g = go (f 0) (g 0) _ _ _ (count_both total (λ a. f (suc a)) (λ a. g (suc a)))
  where
    go : (s t : Bool) (x y z : ℕ) → x + y ≤ total + z → (cond s 1 0 + x) + (cond t 1 0 + y) ≤ suc total + (cond (s && t) 1 0 + z)
    go true true x y z h = omega arith
    go true false x y z h = omega arith
    go false true x y z h = omega arith
    go false false x y z h = omega arith

both : (s t : Bool) → (s && t) ≡ true → (s ≡ true) × (t ≡ true)
both true t e = (refl, e)
both false t e = absurd (false≢true e)

pub quorums_meet : (total : ℕ) (f g : ℕ → Bool) → is_quorum total f ≡ true → is_quorum total g ≡ true
    → (a : ℕ) × (a < total) × (f a ≡ true) × (g a ≡ true)
unfolding is_quorum is_majority
quorums_meet total f g h k =
    let m = ltb-true total _ h in
    let n = ltb-true total _ k in
    let c = count_both total f g in
    let r = count_some total (λ a. f a && g a) (omega arith) in
    let b = both (f r.0) (g r.0) r.2 in
    (r.0, r.1, b.0, b.1)

count_apart : (total : ℕ) (f g : ℕ → Bool) → count_acceptors total f ≤ count_acceptors total g + count_acceptors total (λ a. f a && not (g a))
unfolding count_acceptors
count_apart zero f g = zero-le
count_apart (suc total) f g = go (f 0) (g 0) _ _ _ (count_apart total (λ a. f (suc a)) (λ a. g (suc a)))
  where
    go : (s t : Bool) (x y z : ℕ) → x ≤ y + z → cond s 1 0 + x ≤ (cond t 1 0 + y) + (cond (s && not t) 1 0 + z)
    go true true x y z h = omega arith
    go true false x y z h = omega arith
    go false t x y z h = omega arith

pub quorum_apart : (total : ℕ) (f g : ℕ → Bool) → is_quorum total f ≡ true → is_quorum total g ≡ false
    → (a : ℕ) × (a < total) × (f a ≡ true) × (g a ≡ false)
unfolding is_quorum is_majority
quorum_apart total f g h k =
    let m = ltb-true total _ h in
    let n = ltb-false total _ k in
    let c = count_apart total f g in
    let r = count_some total (λ a. f a && not (g a)) (omega arith) in
    let b = both (f r.0) (not (g r.0)) r.2 in
    (r.0, r.1, b.0, not-true _ b.1)
