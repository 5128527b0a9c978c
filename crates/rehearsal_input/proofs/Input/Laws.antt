-- Laws of the input.
--     plan_in_short, _bad, _good    an input without a plan, with a bad one, with a good one
--     plan_in_number                the refusal is 1
--     plan_in_is, plan_in_more      an accepted plan is in range; bytes after it play no part
--     take_least, drop_least        so many elements, or all
-- Assumes nothing.
use Rattle.std.specs.Prelude.{ℕ, ◌≤◌, ◌<◌, min, Bool, true, false, List, ◌++◌, ◌≡◌, refl, ltb, length, take, drop}
use Rattle.std.proofs.Common.{sym, ◌∙◌, arith, length-append, drop_of_length-le, take_all, lt-ltb, le-ltb, ltb-true, ltb-false}
use Rattle.std.proofs.Math.ListN.{get_or-append}
use Rattle.std.proofs.Math.Seq.{drop-length}
use Rattle.message.specs.declared.Plan.{Plan}
use Rattle.message.specs.Outcome.{accepted, refused, refuse_if, number_of}
use Rattle.message.specs.Plan.{is_plan}
use Rattle.rehearsal_input.specs.Input.{plan_size, plan_of, plan_in}

module _ (input : List ℕ) where
  pub plan_in_short : length input < plan_size → plan_in input ≡ refused 1
  unfolding plan_in refuse_if
  plan_in_short h = rw (lt-ltb (length input) plan_size h)

  pub plan_in_bad : plan_size ≤ length input → is_plan (plan_of input) ≡ false → plan_in input ≡ refused 1
  unfolding plan_in refuse_if
  plan_in_bad h bad = rw (le-ltb (length input) plan_size h, bad)

  pub plan_in_good : plan_size ≤ length input → is_plan (plan_of input) ≡ true → plan_in input ≡ accepted (plan_of input)
  unfolding plan_in refuse_if
  plan_in_good h good = rw (le-ltb (length input) plan_size h, good)

pub plan_in_number : (input : List ℕ) → number_of (plan_in input) ≤ 1
unfolding plan_in refuse_if
plan_in_number input = go (ltb (length input) plan_size) refl (is_plan (plan_of input)) refl
  where
    go : (short : Bool) → ltb (length input) plan_size ≡ short → (good : Bool) → is_plan (plan_of input) ≡ good → number_of (plan_in input) ≤ 1
    go true s good g = rw s (omega arith)
    go false s false g = rw (s, g) (omega arith)
    go false s true g = rw (s, g) (omega arith)

pub plan_in_is : (input : List ℕ) (p : Plan) → plan_in input ≡ accepted p → is_plan p ≡ true
unfolding plan_in refuse_if
plan_in_is input p = go (ltb (length input) plan_size) refl (is_plan (plan_of input)) refl
  where
    go : (short : Bool) → ltb (length input) plan_size ≡ short → (good : Bool) → is_plan (plan_of input) ≡ good
        → plan_in input ≡ accepted p → is_plan p ≡ true
    go true s good g e = let z : ◌≡◌ {A = ℕ} 0 1 = cc (rw s at e) in absurd (omega arith)
    go false s false g e = let z : ◌≡◌ {A = ℕ} 0 1 = cc (rw (s, g) at e) in absurd (omega arith)
    go false s true g e = let same : plan_of input ≡ p = cc (rw (s, g) at e) in rw (← same) g

pub plan_in_more : (input more : List ℕ) → plan_size ≤ length input → plan_in (input ++ more) ≡ plan_in input
unfolding plan_in
plan_in_more input more h =
    let long = length-append input more in
    let n = get_or-append input more 0 0 (omega arith) in
    let a = get_or-append input more 0 1 (omega arith) in
    let l = get_or-append input more 0 2 (omega arith) in
    let high = get_or-append input more 0 3 (omega arith) in
    let low = get_or-append input more 0 4 (omega arith) in
    rw (le-ltb (length (input ++ more)) plan_size (omega arith), le-ltb (length input) plan_size h, n, a, l, high, low)

module _ (n : ℕ) (l : List ℕ) where
  pub take_least : take (min n (length l)) l ≡ take n l
  take_least = go (ltb n (length l)) refl
    where
      go : (b : Bool) → ltb n (length l) ≡ b → take (min n (length l)) l ≡ take n l
      go true h = let k = ltb-true n (length l) h in let e : min n (length l) ≡ n = omega arith in rw e
      go false h =
          let k = ltb-false n (length l) h in
          let e : min n (length l) ≡ length l = omega arith in
          rw e (take_all (length l) l (omega arith) ∙ sym (take_all n l (omega arith)))

  pub drop_least : drop (min n (length l)) l ≡ drop n l
  drop_least = go (ltb n (length l)) refl
    where
      go : (b : Bool) → ltb n (length l) ≡ b → drop (min n (length l)) l ≡ drop n l
      go true h = let k = ltb-true n (length l) h in let e : min n (length l) ≡ n = omega arith in rw e
      go false h =
          let k = ltb-false n (length l) h in
          let e : min n (length l) ≡ length l = omega arith in
          rw e (drop-length l ∙ sym (drop_of_length-le l k))
