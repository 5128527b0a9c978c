-- What stands at the front of a buffer that is written, or filled, part by part.
--     filled_more     the front, and then what was read into the part after it
--     passed_more     the front, and then what was taken of the part after it
-- Assumes nothing.
use Rattle.std.proofs.Common.{◌≡◌, ℕ, ◌+◌, ◌-◌, ◌≤◌, List, ◌++◌, length, take, drop, sym, ap, ◌∙◌, drop_at, take_at, take-add, length-take-le}
use Rattle.std.proofs.lemmas.List.{take_rest}
use borrow.Rule.Slice.PartMut.{put_mid, post_of}
use lib.Seq.{take-append-le}

pub filled_more : (a k n : ℕ) (xs ys : List ℕ) → a ≤ length xs → n ≤ length ys → take (a + n) (put_mid a k xs ys) ≡ take a xs ++ take n ys
filled_more a k n xs ys within fits =
    let rest = ys ++ post_of a k xs in
    let len = length-take-le a xs within in
    take-add a n (put_mid a k xs ys)
    ∙ ap (λ l. l ++ take n (drop a (put_mid a k xs ys))) (take_at (take a xs) rest a len)
    ∙ ap (λ l. take a xs ++ take n l) (drop_at (take a xs) rest a len)
    ∙ ap (λ l. take a xs ++ l) (take-append-le n ys (post_of a k xs) fits)

pub passed_more : (a n : ℕ) (xs : List ℕ) → take (a + n) xs ≡ take a xs ++ take n (take (length xs - a) (drop a xs))
passed_more a n xs = take-add a n xs ∙ ap (λ l. take a xs ++ take n l) (sym (take_rest xs a))
