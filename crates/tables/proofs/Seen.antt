-- What the slots passed so far have shown, place by place.
--     Added, added_none, added_step     one slot's first n places beside what was seen before
--     added_all                         all of its places
--     none_seen                         before the first slot
-- Assumes nothing.
use Rattle.std.proofs.Common.{ℕ, ◌+◌, ◌<◌, ◌≤◌, Bool, true, ◌&&◌, List, ◌≡◌, refl, sym, ap, ◌∙◌, eqb, length, get_or, set, replicate, arith, length-set, get_or-set_same, get_or-set_other}
use Rattle.std.proofs.Math.Decide.{ℕ_discrete}
use Rattle.slots.specs.All.{all}
use Rattle.slots.specs.Table.{is_zero}
use Rattle.tables.specs.Tables.Bounds.{is_within_at, are_within}
use Rattle.tables.specs.Tables.Each.{each, each_same, each_both, zero_all}

pub record Added (n : ℕ) (low span slot seen after : List ℕ) : Type 0 where
  pub size : length after ≡ length seen
  pub lanes : (k : ℕ) → k < n → eqb (get_or after k 0) 0 ≡ (eqb (get_or seen k 0) 0 && is_within_at low span slot k)
  pub rest : (k : ℕ) → n ≤ k → get_or after k 0 ≡ get_or seen k 0

pub added_none : (low span slot seen : List ℕ) → Added 0 low span slot seen seen
added_none low span slot seen = record { size = refl; lanes = λ k h. absurd (omega (arith, h)); rest = λ k h. refl }

pub added_step : (n : ℕ) (low span slot seen after : List ℕ) → Added n low span slot seen after → n < length after → (r : ℕ)
    → eqb r 0 ≡ (eqb (get_or after n 0) 0 && is_within_at low span slot n) → Added (n + 1) low span slot seen (set after n r)
added_step n low span slot seen after a l r e = record {
  size = length-set after n r ∙ a.size;
  lanes = λ k h. elim (ℕ_discrete k n) [
    | yes q ↦ rw (q, get_or-set_same after n r 0 l, e, a.rest n (omega arith)) refl
    | no q ↦ rw (get_or-set_other after n k r 0 q) (a.lanes k (omega (arith, h, q)))
  ];
  rest = λ k h. get_or-set_other after n k r 0 (λ q. absurd (omega (arith, h, q))) ∙ a.rest k (omega (arith, h));
}

pub added_all : (n : ℕ) (low span slot seen after : List ℕ) → Added n low span slot seen after → 8 ≤ n → length seen ≡ 8
    → is_zero after ≡ (is_zero seen && are_within low span slot)
unfolding each are_within
added_all n low span slot seen after a l e =
    sym (zero_all after 8 _ refl (omega (arith, a.size)) (omega (arith, a.size)))
    ∙ each_same (λ k. eqb (get_or after k 0) 0) (λ k. eqb (get_or seen k 0) 0 && is_within_at low span slot k) 8 (λ k h. a.lanes k (omega (arith, h, l)))
    ∙ each_both (λ k. eqb (get_or seen k 0) 0) (is_within_at low span slot) 8
    ∙ ap (λ (b : Bool). b && are_within low span slot) (zero_all seen 8 _ refl (omega arith) (omega arith))

pub none_seen : is_zero (replicate 8 0) ≡ true
unfolding is_zero all
none_seen = refl
