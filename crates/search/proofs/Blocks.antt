-- Slots that are passed, one by one and many at a time.
--     begins_none, begins_next     none begins with the word so far: of no slot, and one further
--     begins_form                  a slot that does not begin as the form does is not the form
--     passed_start, _more, _one, none_next     none is the form so far: of no slot, further on, one slot further
--     found_end, found_here        the end without a slot that is the form, and such a slot
--     found_row, passed_row     the same of a row
-- Assumes nothing.
use Prim.Native.Nat.{ℕ, ◌+◌, ◌*◌, ◌≤◌, ◌<◌}
use mathlib.Core.List.{List}
use mathlib.Core.Path.{◌≡◌, sym, ◌∙◌}
use native.Mathlib.Decide.{ℕ_discrete, dec_le}
use native.Mathlib.Nat.{le_refl, lt_irrefl, lt_of_lt_of_le}
use native.Mathlib.Omega.{arith}
use Rattle.slots.specs.Table.{slot_size}
use Rattle.slots.specs.Table.Words.{WordFrom}
use Rattle.search.specs.Words.{low_half}
use Rattle.search.specs.Blocks.{NoneBegins, IsForm, NoneIsForm, Passed, Found}

module _ (t : List ℕ) (head from : ℕ) where
  pub begins_none : NoneBegins t head from from
  begins_none = record { each = λ k l m. absurd (omega arith) }

  -- `w` is the first word of the slot at `to`
  pub begins_next : (to w : ℕ) → WordFrom t (to * slot_size) w → (w ≡ head → ⊥) → NoneBegins t head from to → NoneBegins t head from (to + 1)
  begins_next to w reads differs before =
      record {
        each = λ k l m. elim (ℕ_discrete k to) [
          | yes e ↦ λ x. differs (reads.sum ∙ sym (rw e at x).sum)
          | no n ↦ before.each k l (omega arith)
        ];
      }

module _ (t : List ℕ) (form from : ℕ) where
  pub begins_form : (to : ℕ) → NoneBegins t (low_half form) from to → NoneIsForm t form from to
  begins_form to none k l m is = none.each k l m is.first

  pub passed_start : (end : ℕ) → from ≤ end → Passed t form from end from
  passed_start end h = record { after = le_refl from; before = h; others = λ k l m. absurd (omega arith) }

  pub passed_more : (end place to : ℕ) → place ≤ to → to ≤ end → Passed t form from end place → NoneIsForm t form place to → Passed t form from end to
  passed_more end place to on in_end p more =
      record {
        after = omega (arith, p.after);
        before = in_end;
        others = λ k l m. elim (dec_le place k) [ yes h ↦ more k h m | no h ↦ p.others k l (omega arith) ];
      }

  pub none_next : (to : ℕ) → NoneIsForm t form from to → (IsForm t form to → ⊥) → NoneIsForm t form from (to + 1)
  none_next to before differs k l m =
      elim (ℕ_discrete k to) [
        | yes e ↦ λ is. differs (rw e at is)
        | no n ↦ before k l (omega arith)
      ]

  pub passed_one : (end place : ℕ) → place < end → Passed t form from end place → (IsForm t form place → ⊥) → Passed t form from end (place + 1)
  passed_one end place in_end p differs =
      record { after = omega (arith, p.after); before = omega arith; others = none_next place p.others differs }

  pub found_end : (end place : ℕ) → end ≤ place → Passed t form from end place → Found t form from end place
  found_end end place h p = record { passed = p; is = λ l. absurd (lt_irrefl place (lt_of_lt_of_le l h)) }

  pub found_here : (end place : ℕ) → Passed t form from end place → IsForm t form place → Found t form from end place
  found_here end place p is = record { passed = p; is = λ l. is }

-- what is found in a row that begins where all before was passed
module _ (t : List ℕ) (form end place from to r : ℕ) (before : Passed t form 0 end place) (rows : Passed t form place end from) (in_end : to ≤ end) (row : Found t form from to r) where
  upto : Passed t form 0 end from
  upto = passed_more t form 0 end place from rows.after rows.before before rows.others

  pub found_row : r < to → Found t form 0 end r
  found_row h =
      found_here t form 0 end r
      (passed_more t form 0 end from r row.passed.after (omega (arith, row.passed.before)) upto row.passed.others)
      (row.is h)

  pub passed_row : to ≤ r → Passed t form 0 end to
  passed_row h =
      passed_more t form 0 end from to (omega (arith, row.passed.before, row.passed.after)) in_end upto
      (λ k l m. row.passed.others k l (omega arith))
