-- Testing byte by byte.
--     all_step, all_stop, all_end     one byte further: it passes, it fails, there is none
--     all_append                      of two lists one after the other
--     all_set                         after a byte was set
--     list_all_all                    what an iterator's `all` answers
-- Assumes nothing.
use Rattle.std.specs.Prelude.{ℕ, zero, suc, ◌+◌, ◌≤◌, ◌<◌, Bool, true, false, ◌&&◌, List, [], ◌∷◌, ◌++◌, ◌≡◌, refl, length, get_or, drop, set}
use Rattle.std.specs.List.{list_all}
use Rattle.std.proofs.Math.Bool.{and_assoc}
use Rattle.std.proofs.Common.{sym, ◌∙◌, ap, add-one, drop_of_length-le, drop-cons}
use Rattle.message.proofs.Outcome.Laws.{both}
use Rattle.slots.specs.All.{all}

module _ (test : ℕ → Bool) (l : List ℕ) (i : ℕ) where
  pub all_step : i < length l → test (get_or l i 0) ≡ true → all test (drop (i + 1) l) ≡ all test (drop i l)
  unfolding all
  all_step h e = rw (drop-cons l i 0 h, e, add-one)

  pub all_stop : i < length l → test (get_or l i 0) ≡ false → all test (drop i l) ≡ false
  unfolding all
  all_stop h e = rw (drop-cons l i 0 h, e)

  pub all_end : length l ≤ i → all test (drop i l) ≡ true
  unfolding all
  all_end h = rw (drop_of_length-le l h)

pub all_append : (test : ℕ → Bool) (a b : List ℕ) → all test (a ++ b) ≡ (all test a && all test b)
unfolding all
all_append test [] b = refl
all_append test (x ∷ a) b = ap (λ (r : Bool). test x && r) (all_append test a b) ∙ sym (and_assoc (test x) (all test a) (all test b))

pub all_set : (test : ℕ → Bool) (l : List ℕ) (i v : ℕ) → test v ≡ true → all test l ≡ true → all test (set l i v) ≡ true
unfolding all
all_set test [] i v h e = e
all_set test (x ∷ l) zero v h e = rw h (both (test x) (all test l) e).1
all_set test (x ∷ l) (suc i) v h e = let b = both (test x) (all test l) e in rw b.0 (all_set test l i v h b.1)

pub list_all_all : (test : ℕ → Bool) (l : List ℕ) → list_all test l ≡ all test l
unfolding all
list_all_all test [] = refl
list_all_all test (x ∷ l) = ap (λ (r : Bool). test x && r) (list_all_all test l)
