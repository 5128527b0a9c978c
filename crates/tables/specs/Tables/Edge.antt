-- Where the used slots of a table end, seen from the first bytes of its slots.
--     is_used, used_at, are_used   a slot that holds a message; the slot at a place; the first slots
--     unknown_unused               a slot that begins with no map is not used
--     edge_in, edge_bad, edge_good     the edge is within the table, and a table is well formed exactly when slots before it are used and bytes from it on are zeros
-- Assumes nothing.
use Rattle.std.specs.Prelude.{ℕ, zero, suc, ◌+◌, ◌-◌, ◌*◌, ◌/◌, ◌≤◌, ◌<◌, Bool, true, false, ◌&&◌, cond, ◌≡◌, refl, eqb, length, take, drop}
use Rattle.std.proofs.lemmas.Bool.{false≢true}
use mathlib.Core.List.{List, [], ◌∷◌}
use Rattle.std.proofs.Common.{sym, ◌∙◌, not-suc-le-zero, lit≤, get_or-take, eqb-true}
use Rattle.std.proofs.Math.Path.{ap}
use Rattle.std.proofs.Math.Decide.{dec_le}
use Rattle.std.proofs.Math.Nat.{add-sub_cancel_left, zero-add}
use native.Mathlib.Omega.{arith}
use Rattle.std.proofs.Math.ListN.{get_or}
use Rattle.std.proofs.Math.Seq.{get_or-drop}
use Rattle.message.specs.declared.Plan.{Plan}
use Rattle.message.specs.declared.Message.{Message}
use Rattle.message.specs.Outcome.{Outcome, refused}
use Rattle.message.specs.Plan.{is_plan}
use Rattle.message.specs.Form.{map_length}
use Rattle.message.proofs.Form.Laws.{map_length_zero}
use Rattle.message.specs.Codec.{read_message}
use Rattle.message.proofs.Codec.Laws.{read_message_plan, read_message_empty}
use Rattle.message.proofs.Outcome.Laws.{both}
use Rattle.slots.specs.All.{all}
use Rattle.slots.specs.Table.{Slot, Unused, Used, Bad, slot_size, is_zero, used_slot, read_slot, read_table, is_table}
use Rattle.slots.specs.Table.Scan.{edge}
use Rattle.slots.proofs.Table.Edge.{Reached, edge_reached, edge_unused}
use Rattle.slots.proofs.Table.Laws.{leading_used, read_slot_unused, slot_at, length_read_table, leading_used_bound, is_table_zero}
use Rattle.tables.specs.Tables.Each.{each, each_at, each_all}

abbrev pub is_used : Slot → Bool
is_used Unused = false
is_used (Used m) = true
is_used Bad = false

unfoldable pub used_at : Plan → List ℕ → ℕ → Bool
used_at p t k = is_used (get_or (read_table p t) k Unused)

unfoldable pub are_used : Plan → List ℕ → ℕ → Bool
are_used p t n = each (used_at p t) 0 n

-- a slot whose message is refused
refused_unused : (o : Outcome Message) (k : ℕ) → o ≡ refused k → (zeros rest : Bool) → is_used (cond zeros Unused (used_slot o rest)) ≡ false
refused_unused o k e zeros rest = rw e (go zeros)
  where
    go : (zeros : Bool) → is_used (cond zeros Unused Bad) ≡ false
    go true = refl
    go false = refl

-- a slot that begins with no map is not used
pub unknown_unused : (p : Plan) (s : List ℕ) → map_length (get_or s 0 0) ≡ 0 → is_used (read_slot p s) ≡ false
unfolding read_slot
unknown_unused p s u = rw u (go (is_plan p) refl)
  where
    go : (plan : Bool) → is_plan p ≡ plan → is_used (cond (is_zero s) Unused (used_slot (read_message p []) (is_zero s))) ≡ false
    go true e = refused_unused _ 15 (read_message_empty p [] e refl) (is_zero s) (is_zero s)
    go false e = refused_unused _ 1 (read_message_plan p [] e) (is_zero s) (is_zero s)

-- the leading slots are used, and the next is not
leading_at : (l : List Slot) (k : ℕ) → k < leading_used l → is_used (get_or l k Unused) ≡ true
unfolding leading_used
leading_at [] k h = absurd (not-suc-le-zero h)
leading_at (Unused ∷ l) k h = absurd (not-suc-le-zero h)
leading_at (Used m ∷ l) zero h = refl
leading_at (Used m ∷ l) (suc k) h = leading_at l k (omega arith)
leading_at (Bad ∷ l) k h = absurd (not-suc-le-zero h)

leading_next : (l : List Slot) → is_used (get_or l (leading_used l) Unused) ≡ false
unfolding leading_used
leading_next [] = refl
leading_next (Unused ∷ l) = refl
leading_next (Used m ∷ l) = leading_next l
leading_next (Bad ∷ l) = refl

zero_at_lem : (l : List ℕ) (i : ℕ) → is_zero l ≡ true → get_or l i 0 ≡ 0
unfolding is_zero all
zero_at_lem [] i e = refl
zero_at_lem (x ∷ l) zero e = eqb-true x 0 (both (eqb x 0) (all (λ y. eqb y 0) l) e).0
zero_at_lem (x ∷ l) (suc i) e = zero_at_lem l i (both (eqb x 0) (all (λ y. eqb y 0) l) e).1

module _ (t : List ℕ) (u : ℕ) (is : u ≡ edge t) where
  edge_before : Reached t u
  edge_before = rw is (edge_reached t)

  edge_after : u < length t / slot_size → get_or t (u * slot_size) 0 ≡ 0
  edge_after = rw is (edge_unused t)

  pub edge_in : u ≤ length t / slot_size
  edge_in = edge_before.within

module _ (p : Plan) (t : List ℕ) (u : ℕ) (is : u ≡ edge t) where
  abbrev rest : ℕ → List ℕ
  rest k = take (length t / slot_size * slot_size - k * slot_size) (drop (k * slot_size) t)

  -- the slot at the place
  next_unused : u < length t / slot_size → used_at p t u ≡ false
  unfolding used_at read_table is_zero all
  next_unused h =
      ap is_used (sym (slot_at (read_slot p) Unused (read_slot_unused p [] refl) t u h))
      ∙ unknown_unused p _ (ap map_length (rw (add-sub_cancel_left (u * slot_size) slot_size)
      (get_or-take slot_size (drop (u * slot_size) t) 0 0 (lit≤ tt) ∙ get_or-drop (u * slot_size) t 0 0
      ∙ ap (λ (k : ℕ). get_or t k 0) (omega arith) ∙ edge_after t u is h))
      ∙ map_length_zero)

  all_used : are_used p t u ≡ true → u ≡ leading_used (read_table p t)
  unfolding are_used used_at
  all_used e = go (dec_le (suc (leading_used (read_table p t))) u) (dec_le (suc u) (leading_used (read_table p t)))
    where
      go : Dec (leading_used (read_table p t) < u) → Dec (u < leading_used (read_table p t)) → u ≡ leading_used (read_table p t)
      go (yes h) d =
          absurd (false≢true (sym (leading_next (read_table p t))
          ∙ rw zero-add at (each_at (used_at p t) 0 u (leading_used (read_table p t)) e h)))
      go (no h) (yes k) =
          absurd (false≢true (sym (next_unused (omega (arith, leading_used_bound (read_table p t), length_read_table p t)))
          ∙ leading_at (read_table p t) u k))
      go (no h) (no k) = omega arith

  some_unused : are_used p t u ≡ false → leading_used (read_table p t) < u
  unfolding are_used used_at
  some_unused e = go (dec_le (suc (leading_used (read_table p t))) u)
    where
      go : Dec (leading_used (read_table p t) < u) → leading_used (read_table p t) < u
      go (yes h) = h
      go (no h) =
          absurd (false≢true (sym e ∙ each_all (used_at p t) 0 u (λ k l. leading_at (read_table p t) (0 + k) (omega arith))))

  edge_table : is_table p t ≡ (are_used p t u && is_zero (rest u))
  edge_table = go (are_used p t u) refl
    where
      go : (b : Bool) → are_used p t u ≡ b → is_table p t ≡ (b && is_zero (rest u))
      go true e = is_table_zero p t u (all_used e)
      go false e = is_table_zero p t (leading_used (read_table p t)) refl ∙ none (is_zero (rest (leading_used (read_table p t)))) refl
        where
          none : (z : Bool) → is_zero (rest (leading_used (read_table p t))) ≡ z → z ≡ false
          none false f = refl
          none true f =
              absurd ((edge_before t u is).before (omega (arith, some_unused e))
              (ap (λ (i : ℕ). get_or t i 0) (omega (arith, some_unused e))
              ∙ sym (get_or-drop (leading_used (read_table p t) * slot_size) t ((u - 1) * slot_size - leading_used (read_table p t) * slot_size) 0)
              ∙ sym (get_or-take (length t / slot_size * slot_size - leading_used (read_table p t) * slot_size) (drop (leading_used (read_table p t) * slot_size) t)
              ((u - 1) * slot_size - leading_used (read_table p t) * slot_size) 0 (omega (arith, some_unused e, edge_in t u is)))
              ∙ zero_at_lem (rest (leading_used (read_table p t))) ((u - 1) * slot_size - leading_used (read_table p t) * slot_size) f))

  pub edge_bad : are_used p t u ≡ false → false ≡ is_table p t
  edge_bad e = sym (edge_table ∙ rw e refl)

  pub edge_good : are_used p t u ≡ true → is_table p t ≡ is_zero (rest u)
  edge_good e = edge_table ∙ rw e refl
