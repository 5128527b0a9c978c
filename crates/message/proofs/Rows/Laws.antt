-- A chain of refusals answers the first row that applies, which has the lowest number if the rows' numbers ascend.
--     is_ascending         the numbers ascend, from `least` on
--     Ruled                the chain answers the first row that applies; ruled_row, _guard, _both, _pass, _skip and _end give it row by row
--     lowest_of_ruled      so it answers the lowest number
--     in_order_of_ruled    it answers by the rows in their order, whatever their numbers
--     lowest_in_order      which is the lowest number where they ascend
--     applies_of_first     the first row that applies does
-- Assumes nothing.
use Rattle.std.specs.Prelude.{ℕ, suc, ◌≤◌, ◌<◌, Bool, ◌&&◌, ◌≡◌, leb}
use Rattle.std.proofs.Math.Bool.{true, false}
use Rattle.std.proofs.Math.Path.{refl}
use Rattle.std.proofs.Common.{sym, ◌∙◌, ap, arith, leb-true}
use Rattle.message.specs.Outcome.{Outcome, accepted, refused, refuse_if}
use Rattle.message.proofs.Outcome.Laws.{both, accepted_not_refused}
use Rattle.message.specs.Rows.{Rows, end, guard, row, here, below, Applies, First, InOrder, Lowest}

unfoldable pub is_ascending : ℕ → Rows → Bool
is_ascending least end = true
is_ascending least (guard number applies rest) = leb least number && is_ascending (suc number) rest

abbrev pub NoneOf : Rows → Type 1
NoneOf end = Unit {1}
NoneOf (guard number applies rest) = (applies → ⊥) × NoneOf rest

-- what an answer says of the rows
unfoldable pub Ruled : {A : Type 0} → Outcome A → Rows → Type 1
Ruled (refused k) rows = First rows k
Ruled (accepted a) rows = NoneOf rows

module _ {A : Type 0} where
  pub ruled_end : (a : A) → Ruled (accepted a) end
  unfolding Ruled
  ruled_end a = tt

  -- a row that does not apply, and has no test in the chain
  pub ruled_skip : (k : ℕ) (t : Type 1) (rows : Rows) → (t → ⊥) → (o : Outcome A) → Ruled o rows → Ruled o (guard k t rows)
  unfolding Ruled
  ruled_skip k t rows n (accepted a) r = (n, r)
  ruled_skip k t rows n (refused j) r = below (n, r)

  pub ruled_guard : (b : Bool) (k : ℕ) (t : Type 1) (rows : Rows) (rest : Outcome A)
      → (b ≡ true → t) → (b ≡ false → t → ⊥) → (b ≡ false → Ruled rest rows) → Ruled (refuse_if b k rest) (guard k t rows)
  unfolding Ruled refuse_if
  ruled_guard true k t rows rest holds fails next = here (refl, holds refl)
  ruled_guard false k t rows rest holds fails next = ruled_skip k t rows (fails refl) rest (next refl)

  pub ruled_row : (b : Bool) (k : ℕ) (t : Type 0) (rows : Rows) (rest : Outcome A)
      → (b ≡ true → t) → (b ≡ false → t → ⊥) → (b ≡ false → Ruled rest rows) → Ruled (refuse_if b k rest) (row k t rows)
  ruled_row b k t rows rest holds fails next = ruled_guard b k _ rows rest (λ e. (holds e, tt)) (λ e h. fails e h.0) next

  -- a row that was judged before
  pub ruled_pass : (b : Bool) (k : ℕ) (rows : Rows) (rest : Outcome A) → b ≡ false → Ruled rest rows → Ruled (refuse_if b k rest) rows
  unfolding refuse_if
  ruled_pass b k rows rest e r = rw e r

  pub ruled_both : (b c : Bool) (k : ℕ) (t : Type 0) (rows : Rows) (rest : Outcome A) → (b ≡ true → t) → (c ≡ true → t)
      → (b ≡ false → c ≡ false → t → ⊥) → (b ≡ false → c ≡ false → Ruled rest rows)
      → Ruled (refuse_if b k (refuse_if c k rest)) (row k t rows)
  unfolding Ruled refuse_if
  ruled_both true c k t rows rest first second neither go = here (refl, (first refl, tt))
  ruled_both false true k t rows rest first second neither go = here (refl, (second refl, tt))
  ruled_both false false k t rows rest first second neither go =
      ruled_skip k _ rows (λ h. neither refl refl h.0) rest (go refl refl)

-- no row below the first has a lower number
applies_least : (least : ℕ) (rows : Rows) → is_ascending least rows ≡ true → (k : ℕ) → Applies rows k → least ≤ k
unfolding is_ascending
applies_least least end up k h = absurd (h tt)
applies_least least (guard n t rest) up k (here h) = let b = both (leb least n) (is_ascending (suc n) rest) up in let l = leb-true least n b.0 in omega (arith, h.0)
applies_least least (guard n t rest) up k (below h) =
    let b = both (leb least n) (is_ascending (suc n) rest) up in let l = leb-true least n b.0 in let m = applies_least (suc n) rest b.1 k h in omega arith

pub applies_of_first : (rows : Rows) (k : ℕ) → First rows k → Applies rows k
applies_of_first end k h = h
applies_of_first (guard n t rest) k (here h) = here h
applies_of_first (guard n t rest) k (below h) = below (applies_of_first rest k h.1)

-- the first row that applies has the lowest number
first_lowest : (least : ℕ) (rows : Rows) → is_ascending least rows ≡ true → (k : ℕ) → First rows k → (j : ℕ) → Applies rows j → k ≤ j
unfolding is_ascending
first_lowest least end up k f j h = absurd (h tt)
first_lowest least (guard n t rest) up k (here f) j (here h) = omega (arith, f.0, h.0)
first_lowest least (guard n t rest) up k (here f) j (below h) =
    let m = applies_least (suc n) rest (both (leb least n) (is_ascending (suc n) rest) up).1 j h in omega (arith, f.0)
first_lowest least (guard n t rest) up k (below f) j (here h) = absurd (f.0 h.1)
first_lowest least (guard n t rest) up k (below f) j (below h) = first_lowest (suc n) rest (both (leb least n) (is_ascending (suc n) rest) up).1 k f.1 j h

none_applies : (rows : Rows) → NoneOf rows → (k : ℕ) → Applies rows k → ⊥
none_applies end n k h = h tt
none_applies (guard m t rest) n k (here h) = n.0 h.1
none_applies (guard m t rest) n k (below h) = none_applies rest n.1 k h

pub lowest_of_ruled : {A : Type 0} (rows : Rows) → is_ascending 0 rows ≡ true → (answer : Outcome A) → Ruled answer rows → Lowest rows answer
unfolding Ruled
lowest_of_ruled rows up (accepted a) r =
    record {
      refuses = λ k. (λ e. absurd (accepted_not_refused (sym e)), λ h. absurd (none_applies rows r k h.0));
      accepts = (λ h. none_applies rows r, λ h. (a, refl));
    }
lowest_of_ruled {A} rows up (refused n) r =
    record {
      refuses = λ k. (λ e. at k (number k e), λ h. same k h);
      accepts = (λ h. absurd (accepted_not_refused h.1), λ h. absurd (h n (applies_of_first rows n r)));
    }
  where
    number : (k : ℕ) → ◌≡◌ {A = Outcome A} (refused n) (refused k) → n ≡ k
    number k e = cc

    at : (k : ℕ) → n ≡ k → Applies rows k × ((j : ℕ) → j < k → Applies rows j → ⊥)
    at k e = rw (← e) (applies_of_first rows n r, λ j l h. let m = first_lowest 0 rows up n r j h in omega arith)

    same : (k : ℕ) → Applies rows k × ((j : ℕ) → j < k → Applies rows j → ⊥) → ◌≡◌ {A = Outcome A} (refused n) (refused k)
    same k h =
        let m = first_lowest 0 rows up n r k h.0 in
        let l : n < k → ⊥ = λ s. h.1 n s (applies_of_first rows n r) in
        let e : n ≡ k = omega arith in rw e

-- no two rows are the first
first_one : (rows : Rows) (k j : ℕ) → First rows k → First rows j → k ≡ j
first_one end k j f g = absurd (f tt)
first_one (guard n t rest) k j (here f) (here g) = f.0 ∙ sym g.0
first_one (guard n t rest) k j (here f) (below g) = absurd (g.0 f.1)
first_one (guard n t rest) k j (below f) (here g) = absurd (f.0 g.1)
first_one (guard n t rest) k j (below f) (below g) = first_one rest k j f.1 g.1

pub in_order_of_ruled : {A : Type 0} (rows : Rows) (answer : Outcome A) → Ruled answer rows → InOrder rows answer
unfolding Ruled
in_order_of_ruled rows (accepted a) r =
    record {
      refuses = λ k. (λ e. absurd (accepted_not_refused (sym e)), λ h. absurd (none_applies rows r k (applies_of_first rows k h)));
      accepts = (λ h. none_applies rows r, λ h. (a, refl));
    }
in_order_of_ruled {A} rows (refused n) r =
    record {
      refuses = λ k. (λ e. let same : n ≡ k = cc in rw (← same) r, λ h. ap refused (first_one rows n k r h));
      accepts = (λ h. absurd (accepted_not_refused h.1), λ h. absurd (h n (applies_of_first rows n r)));
    }

none_of : (rows : Rows) → ((k : ℕ) → Applies rows k → ⊥) → NoneOf rows
none_of end n = tt
none_of (guard m t rest) n = (λ h. n m (here (refl, h)), none_of rest (λ k h. n k (below h)))

pub lowest_in_order : {A : Type 0} (rows : Rows) → is_ascending 0 rows ≡ true → (answer : Outcome A) → InOrder rows answer → Lowest rows answer
unfolding Ruled
lowest_in_order {A} rows up answer o = lowest_of_ruled rows up answer (go answer o)
  where
    go : (answer : Outcome A) → InOrder rows answer → Ruled answer rows
    go (accepted a) o = none_of rows (o.accepts.0 (a, refl))
    go (refused k) o = (o.refuses k).0 refl
