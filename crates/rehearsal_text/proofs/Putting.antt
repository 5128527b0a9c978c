-- Text put into a buffer.
--     words_put            what stands in the buffer after the part that has room is copied
--     two_put              a text and then another, as one
--     put_as               a text by another name
--     line_one             a digit and LF
--     line_decimal         a number's digits and LF
--     line_of              the same, of what is equal to the number
-- Assumes nothing.
use Prim.Native.Nat.{ℕ, ◌+◌, ◌-◌, ◌/◌, ◌%◌, ◌<◌, min}
use mathlib.Core.Bool.{Bool, true, false}
use mathlib.Core.List.{List, [], ◌∷◌, ◌++◌, append_assoc}
use mathlib.Core.Path.{◌≡◌, refl, sym, ◌∙◌, ap}
use native.Mathlib.Omega.{arith}
use lib.ListN.{length, take, drop}
use borrow.Rule.Slice.PartMut.{put_mid}
use Rattle.std.specs.Prelude.{ltb}
use Rattle.std.specs.Fmt.{decimal}
use Rattle.std.proofs.Common.{length-take-le, drop-drop, lt-ltb, ltb-true, ltb-false}
use Rattle.std.proofs.lemmas.Fmt.{decimal_digit, decimal_step}
use Rattle.rehearsal_text.specs.Text.{line, Put, put_of, put}
use Rattle.rehearsal_text.proofs.Text.Laws.{put_then, put_most, put_within}

pub words_put : (at m from to : ℕ) (words output part : List ℕ) → at < length output → m ≡ min (length words) (length output - at) → from ≡ at → to ≡ at + m
    → part ≡ take m words → put_of (at + m) (put_mid from (to - from) output part) ≡ put at words output
words_put at m from to words output part room most low high is =
    let long = length-take-le m words (omega arith) in
    let size : at + m - at ≡ m = omega arith in
    let within = put_within at (take m words) output (omega arith) in
    rw (is, low, high, size)
    (ap (λ (l : List ℕ). put_of (at + m) (take at output ++ (take m words ++ l))) (drop-drop m at output)
    ∙ ap (put_of (at + m)) (sym (append_assoc (take at output) (take m words) (drop (at + m) output)))
    ∙ sym (rw long at within)
    ∙ put_most at m words output (omega arith))

pub two_put : (at : ℕ) (a b named output : List ℕ) → a ++ b ≡ named → (o q : Put) → o ≡ put at a output → q ≡ put o.end b o.buffer → q ≡ put at named output
two_put at a b named output is o q one two =
    two ∙ ap (λ (x : Put). put x.end b x.buffer) one ∙ sym (put_then at a b output) ∙ ap (λ (l : List ℕ). put at l output) is

pub put_as : {text named : List ℕ} → text ≡ named → (at : ℕ) (output : List ℕ) {s : Put} → s ≡ put at text output → s ≡ put at named output
put_as e at output h = h ∙ ap (λ (l : List ℕ). put at l output) e

pub line_one : (n : ℕ) → n < 10 → (48 + n) ∷ 10 ∷ [] ≡ line n
unfolding line
line_one n h =
    let ones : n % 10 ≡ n = omega arith in
    rw (lt-ltb n 10 h, ones)

pub line_decimal : (n : ℕ) → n < 256 → decimal n ++ (10 ∷ []) ≡ line n
unfolding line
line_decimal n small = go (ltb n 10) refl (ltb n 100) refl
  where
    go : (one : Bool) → ltb n 10 ≡ one → (two : Bool) → ltb n 100 ≡ two → decimal n ++ (10 ∷ []) ≡ line n
    go true e two f =
        let h = ltb-true n 10 e in
        rw (decimal_digit n h) (line_one n h)
    go false e true f =
        let low = ltb-false n 10 e in
        let high = ltb-true n 100 f in
        let tens : n / 10 % 10 ≡ n / 10 = omega arith in
        rw (e, f, decimal_step n low (omega arith), decimal_digit (n / 10) (omega arith), tens)
    go false e false f =
        let low = ltb-false n 10 e in
        let high = ltb-false n 100 f in
        let hundreds : n / 100 ≡ n / 10 / 10 = omega arith in
        rw (e, f, decimal_step n low (omega arith), decimal_step (n / 10) (omega arith) (omega arith), decimal_digit (n / 10 / 10) (omega arith), hundreds)

pub line_of : (m n : ℕ) → m ≡ n → n < 256 → decimal m ++ (10 ∷ []) ≡ line n
line_of m n same small = rw same (line_decimal n small)
