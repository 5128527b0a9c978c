-- Laws of the text.
--     put_none, put_room, put_full     no text; a byte that has room; a buffer that has none
--     put_then               one text after another
--     put_most               no more of a text than has room
--     put_within             a text that has room
--     line_length            a number below 100 has a line of at most three bytes
--     word_length            a word has at most ten
-- Assumes nothing.
use Rattle.std.specs.Prelude.{ℕ, suc, zero, ◌+◌, ◌-◌, ◌≤◌, ◌<◌, min, Bool, true, false, List, [], ◌∷◌, ◌++◌, ◌≡◌, refl, ltb, length, take, drop, set}
use Rattle.std.proofs.Common.{sym, ◌∙◌, ap, arith, length-set, lt-ltb, le-ltb, ltb-true, ltb-false}
use Rattle.std.proofs.Math.Seq.{take-nil}
use Rattle.std.proofs.lemmas.List.Edits.{sets, sets-eq}
use Rattle.ending.specs.declared.Ending as EndingType
use Rattle.ending.specs.declared.Ending.TheVariants.{Committed, Aborted, Open}
use Rattle.rehearsal_text.specs.Text.{line, word_of, put_of, put}

pub put_room : (at b : ℕ) (text buffer : List ℕ) → at < length buffer → put at (b ∷ text) buffer ≡ put (suc at) text (set buffer at b)
unfolding put
put_room at b text buffer h = rw (lt-ltb at (length buffer) h)

pub put_none : (at : ℕ) (buffer : List ℕ) → put at [] buffer ≡ put_of at buffer
unfolding put
put_none at buffer = refl

pub put_full : (at : ℕ) (text buffer : List ℕ) → length buffer ≤ at → put at text buffer ≡ put_of at buffer
unfolding put
put_full at [] buffer h = refl
put_full at (b ∷ text) buffer h = rw (le-ltb at (length buffer) h)

pub put_then : (at : ℕ) (a b buffer : List ℕ) → put at (a ++ b) buffer ≡ put (put at a buffer).end b (put at a buffer).buffer
unfolding put
put_then at [] b buffer = refl
put_then at (x ∷ a) b buffer = go (ltb at (length buffer)) refl (put_then (suc at) a b (set buffer at x))
  where
    go : (t : Bool) → ltb at (length buffer) ≡ t
        → put (suc at) (a ++ b) (set buffer at x) ≡ put (put (suc at) a (set buffer at x)).end b (put (suc at) a (set buffer at x)).buffer
        → put at ((x ∷ a) ++ b) buffer ≡ put (put at (x ∷ a) buffer).end b (put at (x ∷ a) buffer).buffer
    go true e rest = rw e rest
    go false e rest = rw e (sym (put_full at b buffer (ltb-false at (length buffer) e)))

pub put_most : (at n : ℕ) (text buffer : List ℕ) → min (length text) (length buffer - at) ≤ n → put at (take n text) buffer ≡ put at text buffer
put_most at n [] buffer h = ap (λ (l : List ℕ). put at l buffer) (take-nil n)
put_most at zero (x ∷ text) buffer h = put_none at buffer ∙ sym (put_full at (x ∷ text) buffer (omega (arith, h)))
put_most at (suc n) (x ∷ text) buffer h =
    go (ltb at (length buffer)) refl (λ left. put_most (suc at) n text (set buffer at x) left)
  where
    go : (t : Bool) → ltb at (length buffer) ≡ t
        → (min (length text) (length (set buffer at x) - suc at) ≤ n → put (suc at) (take n text) (set buffer at x) ≡ put (suc at) text (set buffer at x))
        → put at (x ∷ take n text) buffer ≡ put at (x ∷ text) buffer
    go true e rest =
        let room = ltb-true at (length buffer) e in
        put_room at x (take n text) buffer room
        ∙ rest (rw (length-set buffer at x) (omega (arith, h)))
        ∙ sym (put_room at x text buffer room)
    go false e rest =
        let full = ltb-false at (length buffer) e in
        put_full at (x ∷ take n text) buffer full ∙ sym (put_full at (x ∷ text) buffer full)

put_sets : (at : ℕ) (text buffer : List ℕ) → at + length text ≤ length buffer
    → put at text buffer ≡ put_of (at + length text) (sets buffer at text)
unfolding put
put_sets at [] buffer h = let e : at ≡ at + 0 = omega arith in ap (λ (n : ℕ). put_of n buffer) e
put_sets at (x ∷ text) buffer h =
    let e : suc at + length text ≡ at + suc (length text) = omega arith in
    rw (lt-ltb at (length buffer) (omega arith), ← e)
    (put_sets (suc at) text (set buffer at x) (rw (length-set buffer at x) (omega arith)))

pub put_within : (at : ℕ) (text buffer : List ℕ) → at + length text ≤ length buffer
    → put at text buffer ≡ put_of (at + length text) (take at buffer ++ text ++ drop (at + length text) buffer)
put_within at text buffer h = put_sets at text buffer h ∙ ap (put_of (at + length text)) (sets-eq text buffer at h)

pub line_length : (n : ℕ) → n < 100 → length (line n) ≤ 3
unfolding line
line_length n h = go (ltb n 10) refl
  where
    go : (t : Bool) → ltb n 10 ≡ t → length (line n) ≤ 3
    go true e = rw e (omega arith)
    go false e = rw (e, lt-ltb n 100 h) (omega arith)

pub word_length : (e : EndingType.Ending) → length (word_of e) ≤ 10
word_length Committed = omega arith
word_length Aborted = omega arith
word_length Open = omega arith
