-- A slot that holds another order's message.
--     foreign_bad       it is bad
--     foreign_table     a table with such a slot is refused
-- Assumes nothing.
use Rattle.std.specs.Prelude.{ℕ, Bool, ◌≡◌, drop}
use Rattle.std.proofs.Math.Bool.{true, false}
use Rattle.std.proofs.lemmas.Bool.{false≢true}
use mathlib.Core.List.Memᴰ
use mathlib.Core.List.{List, [], ◌∷◌, map, Memᴰ}
use Rattle.std.proofs.Math.Path.{refl}
use Rattle.std.proofs.Common.{sym, ◌∙◌, ap}
use Rattle.message.specs.declared.Plan.{Plan}
use Rattle.message.specs.declared.Message.{Message}
use Rattle.message.specs.Outcome.{Outcome, accepted, refused}
use Rattle.message.specs.Form.{bytes_of, message_length, slot_of}
use Rattle.message.proofs.Form.Laws.{take_slot_of, map_length_slot_of}
use Rattle.message.specs.Codec.{read_message}
use Rattle.message.proofs.Codec.Laws.{read_message_of_other}
use Rattle.slots.specs.Table.{Slot, Unused, Used, Bad, slots, is_zero, used_slot, read_slot, read_table, is_ordered, is_table}
use Rattle.slots.proofs.Table.Holds.{is_zero_slot_of, unused_none}

ordered_rest : (r : Slot) (rest : List Slot) → is_ordered (r ∷ rest) ≡ true → is_ordered rest ≡ true
unfolding is_ordered
ordered_rest Unused rest h = (unused_none rest h).0
ordered_rest (Used m) rest h = h
ordered_rest Bad rest h = absurd (false≢true h)

ordered_bad : (r : Slot) (rest : List Slot) → r ≡ Bad → is_ordered (r ∷ rest) ≡ true → ⊥
unfolding is_ordered
ordered_bad r rest is h = false≢true (rw is at h)

module _ (p q : Plan) (differs : p.order ≡ q.order → ⊥) (m : Message) where
  pub foreign_bad : read_slot p (slot_of q m) ≡ Bad
  unfolding read_slot
  foreign_bad = rw (is_zero_slot_of q m, map_length_slot_of q m, take_slot_of q m) (go (read_message p (bytes_of q m)) refl)
    where
      go : (o : Outcome Message) → read_message p (bytes_of q m) ≡ o → used_slot (read_message p (bytes_of q m)) (is_zero (drop (message_length q m) (slot_of q m))) ≡ Bad
      go (accepted n) e = absurd (read_message_of_other p q m n differs e)
      go (refused k) e = rw e

  ordered_none : (ss : List (List ℕ)) → is_ordered (map (read_slot p) ss) ≡ true → Memᴰ (slot_of q m) ss → ⊥
  ordered_none [] h there = Memᴰ.not-nil there
  ordered_none (s ∷ ss) h (Memᴰ.head e) = ordered_bad _ (map (read_slot p) ss) (sym (ap (read_slot p) e) ∙ foreign_bad) h
  ordered_none (s ∷ ss) h (Memᴰ.tail there) = ordered_none ss (ordered_rest (read_slot p s) (map (read_slot p) ss) h) there

  pub foreign_table : (t : List ℕ) → Memᴰ (slot_of q m) (slots t) → is_table p t ≡ false
  unfolding is_table read_table
  foreign_table t there = go (is_table p t) refl
    where
      go : (b : Bool) → is_table p t ≡ b → is_table p t ≡ false
      go true h = absurd (ordered_none (slots t) h there)
      go false h = h
