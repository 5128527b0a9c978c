-- The equal parts of I.
--     length_inbox_of                           leader l's inbox has the size of a part
--     length_with_inbox, inbox_size_with_inbox  with other bytes in one inbox, as many as there were, I keeps its length
--     inbox_of_with, inbox_of_with_other        that inbox is then what was put, and the others are as they were
--     with_own, with_inbox_of                   put back as it was it gives I, whatever l is
--     zeros_inbox_of                            an inbox of zeros is zeros
-- That leader l's inbox lies within I is `inbox_within` of the crate `opening`. Assumes nothing.
use Rattle.std.specs.Prelude.{ℕ, ◌+◌, ◌-◌, ◌*◌, ◌/◌, ◌<◌, ◌≤◌, Bool, List, ◌++◌, ◌≡◌, refl, length, drop, replicate}
use Rattle.std.proofs.Math.Bool.{true, false}
use Rattle.std.proofs.Common.{sym, ◌∙◌, arith, length-append, length-take, length-drop, take-append-drop, length-take-le, take_at, drop_at, drop-drop}
use Rattle.std.proofs.Math.Path.{ap}
use Rattle.std.proofs.Math.Dec.{ltb}
use Rattle.std.proofs.Math.ListN.{take}
use Rattle.std.proofs.lemmas.List.{length-replicate, replicate-append-replicate, take-append-le, drop-append-le}
use borrow.Author.Tests.{ltb-true, ltb-false}
use Rattle.message.specs.declared.Plan.{Plan}
use Rattle.opening.specs.Opening.Parts.{parts_apart, inbox_within}
use Rattle.record.specs.Record.{inbox_size, inbox_of, with_inbox}

-- a list with the `s` elements from `a` on replaced by as many others
module _ (xs box : List ℕ) (a s : ℕ) (fits : a + s ≤ length xs) where
  length_part : length (take s (drop a xs)) ≡ s
  length_part = simp (length-take, length-drop) (omega arith)

  module _ (whole : length box ≡ s) where
    length_put : length (take a xs ++ (box ++ drop (a + s) xs)) ≡ length xs
    length_put = simp (length-append, length-take, length-drop) (omega arith)

    drop_put : drop a (take a xs ++ (box ++ drop (a + s) xs)) ≡ box ++ drop (a + s) xs
    drop_put = drop_at (take a xs) _ a (length-take-le a xs (omega arith))

    part_put : take s (drop a (take a xs ++ (box ++ drop (a + s) xs))) ≡ box
    part_put = rw drop_put (take_at box _ s whole)

    part_before : (j n : ℕ) → j + n ≤ a → take n (drop j (take a xs ++ (box ++ drop (a + s) xs))) ≡ take n (drop j xs)
    part_before j n h =
        front (box ++ drop (a + s) xs)
        ∙ sym (front (drop a xs))
        ∙ ap (λ (l : List ℕ). take n (drop j l)) (take-append-drop a xs)
      where
        size : length (take a xs) ≡ a
        size = length-take-le a xs (omega arith)

        front : (r : List ℕ) → take n (drop j (take a xs ++ r)) ≡ take n (drop j (take a xs))
        front r =
            ap (take n) (drop-append-le j (take a xs) r (rw size (omega arith)))
            ∙ take-append-le n (drop j (take a xs)) r (rw (length-drop j (take a xs), size) (omega arith))

    after_put : drop (a + s) (take a xs ++ (box ++ drop (a + s) xs)) ≡ drop (a + s) xs
    after_put = sym (drop-drop s a _) ∙ ap (drop s) drop_put ∙ drop_at box _ s whole

    part_after : (j : ℕ) → a + s ≤ j → drop j (take a xs ++ (box ++ drop (a + s) xs)) ≡ drop j xs
    part_after j h = far _ ∙ ap (drop (j - (a + s))) after_put ∙ sym (far xs)
      where
        far : (l : List ℕ) → drop j l ≡ drop (j - (a + s)) (drop (a + s) l)
        far l = let e : j ≡ a + s + (j - (a + s)) = omega arith in ap (λ (m : ℕ). drop m l) e ∙ sym (drop-drop (j - (a + s)) (a + s) l)

put_part_lem : (xs : List ℕ) (a s : ℕ) → take a xs ++ (take s (drop a xs) ++ drop (a + s) xs) ≡ xs
put_part_lem xs a s = rw (← drop-drop s a xs, take-append-drop s (drop a xs)) (take-append-drop a xs)

pub with_own : (p : Plan) (inboxes : List ℕ) (l : ℕ) → with_inbox p inboxes l (inbox_of p inboxes l) ≡ inboxes
unfolding inbox_of with_inbox
with_own p inboxes l = put_part_lem inboxes (l * inbox_size p inboxes) (inbox_size p inboxes)

abbrev zeros : ℕ → List ℕ
zeros n = replicate n 0

part_zeros : (n a s : ℕ) → a + s ≤ n → take s (drop a (zeros n)) ≡ zeros s
part_zeros n a s h =
    ap (λ (l : List ℕ). take s (drop a l)) split
    ∙ ap (take s) (drop_at (zeros a) _ a (length-replicate a 0))
    ∙ take_at (zeros s) _ s (length-replicate s 0)
  where
    split : zeros n ≡ zeros a ++ (zeros s ++ zeros (n - (a + s)))
    split =
        let e : n ≡ a + (s + (n - (a + s))) = omega arith in
        ap zeros e
        ∙ sym (replicate-append-replicate a (s + (n - (a + s))) 0)
        ∙ ap (λ (r : List ℕ). zeros a ++ r) (sym (replicate-append-replicate s (n - (a + s)) 0))

module _ (p : Plan) (inboxes : List ℕ) (l : ℕ) (some : 0 < p.leaders) (h : l < p.leaders) where
  abbrev within : l * inbox_size p inboxes + inbox_size p inboxes ≤ length inboxes
  within = inbox_within p inboxes l some h

  pub length_inbox_of : length (inbox_of p inboxes l) ≡ inbox_size p inboxes
  unfolding inbox_of
  length_inbox_of = length_part inboxes inboxes (l * inbox_size p inboxes) (inbox_size p inboxes) within

  pub with_inbox_of : with_inbox p inboxes l (inbox_of p inboxes l) ≡ inboxes
  with_inbox_of = with_own p inboxes l

  module _ (box : List ℕ) (whole : length box ≡ inbox_size p inboxes) where
    pub length_with_inbox : length (with_inbox p inboxes l box) ≡ length inboxes
    unfolding with_inbox
    length_with_inbox = length_put inboxes box _ _ within whole

    pub inbox_size_with_inbox : inbox_size p (with_inbox p inboxes l box) ≡ inbox_size p inboxes
    unfolding inbox_size
    inbox_size_with_inbox = ap (λ (n : ℕ). n / p.leaders) length_with_inbox

    pub inbox_of_with : inbox_of p (with_inbox p inboxes l box) l ≡ box
    unfolding inbox_of with_inbox
    inbox_of_with = rw inbox_size_with_inbox (part_put inboxes box _ _ within whole)

    pub inbox_of_with_other : (k : ℕ) → k < p.leaders → (k ≡ l → ⊥) → inbox_of p (with_inbox p inboxes l box) k ≡ inbox_of p inboxes k
    unfolding inbox_of with_inbox
    inbox_of_with_other k below apart = rw inbox_size_with_inbox (go (ltb k l) refl)
      where
        go : (b : Bool) → ltb k l ≡ b → take (inbox_size p inboxes) (drop (k * inbox_size p inboxes) (with_inbox p inboxes l box)) ≡ inbox_of p inboxes k
        go true e = part_before inboxes box _ _ within whole _ _ (parts_apart (inbox_size p inboxes) k l (ltb-true k l e))
        go false e =
            ap (take (inbox_size p inboxes))
            (part_after inboxes box _ _ within whole _ (parts_apart (inbox_size p inboxes) l k (let g = ltb-false k l e in omega arith)))

pub zeros_inbox_of : (p : Plan) (count l : ℕ) → 0 < p.leaders → l < p.leaders → inbox_of p (replicate count 0) l ≡ replicate (inbox_size p (replicate count 0)) 0
unfolding inbox_of
zeros_inbox_of p count l some h =
    part_zeros count _ _ (rw length-replicate at (inbox_within p (replicate count 0) l some h))
