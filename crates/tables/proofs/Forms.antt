-- The bounds of a slot's bytes say what the reader says: a slot is a form exactly when it is used.
--     plan_used, first_zero     no slot is used under a plan out of range, and none in a table that begins with 0
--     slot_is                   the slots as the library takes them
--     form_step                 the slot at a place
-- Assumes nothing.
use Prim.Native.Nat.{ℕ, zero, suc, ◌+◌, ◌-◌, ◌*◌, ◌/◌, ◌≤◌, ◌<◌}
use mathlib.Core.Bool.{Bool, true, false, not, ◌&&◌, cond, and_assoc, and-true}
use mathlib.Core.List.{List, [], ◌∷◌, map}
use mathlib.Core.Path.{◌≡◌, refl, sym, ◌∙◌, ap}
use native.Mathlib.Decide.{ℕ_discrete}
use native.Mathlib.Omega.{arith}
use lib.Dec.{ltb, lit≤}
use lib.ListN.{length, get_or, take, drop, get_or-map}
use lib.Seq.{get_or-take, length-take-le}
use Rattle.message.specs.declared.Plan.{Plan}
use Rattle.message.specs.declared.Message.{Message}
use Rattle.message.specs.Outcome.{accepted, refuse_if}
use Rattle.message.specs.Plan.{is_plan}
use Rattle.message.proofs.PlanLaws.{plan_bounds}
use Rattle.message.specs.Form.{map1a, map1b, map1b_vote, map2a, map2b, map_decision, map_length, decode, is_in_range, has_order}
use Rattle.message.proofs.Form.Laws.{known_map, map_length_zero, has_order_bytes}
use Rattle.message.proofs.Form.Maps.{length_1a, length_1b, length_1b_vote, length_2a, length_2b, length_decision}
use Rattle.message.proofs.Form.Maps.{decoded_1a, decoded_1b, decoded_1b_vote, decoded_2a, decoded_2b, decoded_decision}
use Rattle.message.proofs.Codec.Laws.{read_message_plan}
use Rattle.slots.specs.Table.{Unused, Bad, slot_size, slots_up_to, slots, is_zero, used_slot, read_slot, read_table, is_table}
use Rattle.slots.specs.All.{all}
use Rattle.std.specs.Simd.{first_chunks}
use Rattle.slots.proofs.Table.Laws.{leading_used, read_slot_unused, is_table_first}
use Rattle.slots.proofs.Eight.{slot_eight}
use Rattle.tables.specs.Tables.Bounds.{is_within, is_within_at, put_row, put_bounds, bounds_of, Bounded, are_within, is_form}
use Rattle.tables.specs.Tables.Each.{each, each_suc}
use Rattle.tables.specs.Tables.Edge.{is_used, used_at, unknown_unused}
use Rattle.message.proofs.Form.Maps.{slot_1a, slot_1b, slot_1b_vote, slot_2a, slot_2b, slot_decision}
use Rattle.message.proofs.Codec.Laws.{read_message_whole}
use Rattle.tables.proofs.Within.{within_only, within_any, within_from, within_value, within_below, within_most}
use Rattle.tables.proofs.Rows.{unknown_map}

-- a slot whose map is known
range_used : (in_range_lem order rest : Bool) (m : Message)
    → is_used (used_slot (refuse_if (not in_range_lem) 17 (refuse_if (not order) 18 (accepted m))) rest) ≡ (in_range_lem && (order && rest))
unfolding refuse_if
range_used true true true m = refl
range_used true true false m = refl
range_used true false rest m = refl
range_used false order rest m = refl

known_used : (p : Plan) (s : List ℕ) (len : ℕ) → is_plan p ≡ true → is_zero s ≡ false → map_length (get_or s 0 0) ≡ len → 1 ≤ len → len ≤ length s
    → is_used (read_slot p s) ≡ (is_in_range p (decode (take len s)) && (has_order p len (take len s) && is_zero (drop len s)))
unfolding read_slot
known_used p s len e some known l n =
    rw (
      some,
      known,
      read_message_whole p (take len s) len e (ap map_length (get_or-take len s 0 0 l) ∙ known) (λ z. omega arith) (length-take-le len s n),
    )
    (range_used (is_in_range p (decode (take len s))) (has_order p len (take len s)) (is_zero (drop len s)) (decode (take len s)))

module _ (p : Plan) where
  plan_none : is_plan p ≡ false → (ss : List (List ℕ)) → leading_used (map (read_slot p) ss) ≡ 0
  unfolding leading_used read_slot
  plan_none e [] = refl
  plan_none e (s ∷ ss) = rw (read_message_plan p (take (map_length (get_or s 0 0)) s) e) (go (is_zero s))
    where
      go : (z : Bool) → leading_used (cond z Unused Bad ∷ map (read_slot p) ss) ≡ 0
      go true = refl
      go false = refl

  pub plan_used : is_plan p ≡ false → (t : List ℕ) → 0 ≡ leading_used (read_table p t)
  unfolding read_table
  plan_used e t = sym (plan_none e (slots t))

  -- a table that begins with 0 is zeros
  pub first_zero : (t : List ℕ) → get_or t 0 0 ≡ 0 → is_table p t ≡ is_zero (take (length t / slot_size * slot_size) t)
  first_zero t e = is_table_first p t (ap map_length e ∙ map_length_zero)

  module _ (e : is_plan p ≡ true) (b1 b2 b3 b4 b5 b6 b7 : ℕ) where
    ins : is_within 0 b1 (p.rms - 1) ≡ ltb b1 p.rms
    ins = let b = plan_bounds p e in within_below b1 p.rms b.rms_least b.rms_most

    acc : is_within 0 b2 (p.acceptors - 1) ≡ ltb b2 p.acceptors
    acc = let b = plan_bounds p e in within_below b2 p.acceptors b.acceptors_least (omega (arith, b.acceptors_most))

    abbrev slot : ℕ → List ℕ
    slot k = k ∷ b1 ∷ b2 ∷ b3 ∷ b4 ∷ b5 ∷ b6 ∷ b7 ∷ []

    Judged : ℕ → Type 0
    Judged k = is_form (bounds_of p) (slot k) ≡ is_used (read_slot p (slot k))

    used : (k len : ℕ) → is_zero (slot k) ≡ false → map_length k ≡ len → 1 ≤ len → len ≤ 8
        → is_used (read_slot p (slot k)) ≡ (is_in_range p (decode (take len (slot k))) && (has_order p len (take len (slot k)) && is_zero (drop len (slot k))))
    used k len = known_used p (slot k) len e

    judged_1a : Judged map1a
    unfolding Judged is_form are_within is_within_at bounds_of put_bounds put_row is_zero all
    judged_1a =
        simp (
          slot_1a,
          within_most map1a (lit≤ tt),
          used map1a 5 refl length_1a (lit≤ tt) (lit≤ tt),
          decoded_1a p (take 5 (slot map1a)) refl,
          has_order_bytes,
          ins,
          within_from,
          within_only,
          and_assoc,
          and-true,
        )

    judged_1b : Judged map1b
    unfolding Judged is_form are_within is_within_at bounds_of put_bounds put_row is_zero all
    judged_1b =
        simp (
          slot_1b,
          within_most map1b (lit≤ tt),
          used map1b 6 refl length_1b (lit≤ tt) (lit≤ tt),
          decoded_1b p (take 6 (slot map1b)) refl,
          has_order_bytes,
          ins,
          acc,
          within_any,
          within_only,
          and_assoc,
          and-true,
        )

    judged_1b_vote : Judged map1b_vote
    unfolding Judged is_form are_within is_within_at bounds_of put_bounds put_row is_zero all
    judged_1b_vote =
        simp (
          slot_1b_vote,
          within_most map1b_vote (lit≤ tt),
          used map1b_vote 8 refl length_1b_vote (lit≤ tt) (lit≤ tt),
          decoded_1b_vote p (slot map1b_vote) refl,
          has_order_bytes,
          ins,
          acc,
          within_any,
          within_value,
          within_only,
          and_assoc,
          and-true,
        )

    judged_2a : Judged map2a
    unfolding Judged is_form are_within is_within_at bounds_of put_bounds put_row is_zero all
    judged_2a =
        simp (
          slot_2a,
          within_most map2a (lit≤ tt),
          used map2a 6 refl length_2a (lit≤ tt) (lit≤ tt),
          decoded_2a p (take 6 (slot map2a)) refl,
          has_order_bytes,
          ins,
          within_any,
          within_value,
          within_only,
          and_assoc,
          and-true,
        )

    judged_2b : Judged map2b
    unfolding Judged is_form are_within is_within_at bounds_of put_bounds put_row is_zero all
    judged_2b =
        simp (
          slot_2b,
          within_most map2b (lit≤ tt),
          used map2b 7 refl length_2b (lit≤ tt) (lit≤ tt),
          decoded_2b p (take 7 (slot map2b)) refl,
          has_order_bytes,
          ins,
          acc,
          within_any,
          within_value,
          within_only,
          and_assoc,
          and-true,
        )

    judged_decision : Judged map_decision
    unfolding Judged is_form are_within is_within_at bounds_of put_bounds put_row is_zero all
    judged_decision =
        simp (
          slot_decision,
          within_most map_decision (lit≤ tt),
          used map_decision 4 refl length_decision (lit≤ tt) (lit≤ tt),
          decoded_decision p (take 4 (slot map_decision)) refl,
          has_order_bytes,
          within_value,
          within_only,
          and_assoc,
          and-true,
        )

    judged_none : (k : ℕ) → map_length k ≡ 0 → Judged k
    unfolding Judged is_form are_within is_within_at
    judged_none k u = rw (unknown_map p k u) (sym (unknown_unused p (slot k) u))

    judged : (k : ℕ) → Judged k
    judged k =
        elim (ℕ_discrete (map_length k) 0) [
          | yes u ↦ judged_none k u
          | no some ↦ known_map Judged judged_1a judged_1b judged_1b_vote judged_2a judged_2b judged_decision k some
        ]

-- the slots as the library takes them
chunks_are : (n : ℕ) (t : List ℕ) → first_chunks slot_size n t ≡ slots_up_to n t
unfolding slots_up_to
chunks_are zero t = refl
chunks_are (suc n) t = rw (chunks_are n (drop slot_size t)) refl

pub slot_is : (t : List ℕ) (chunks : List (List ℕ)) (n k : ℕ) → chunks ≡ first_chunks slot_size (length t / slot_size) t → k < n
    → get_or (take n chunks) k [] ≡ get_or (slots t) k []
unfolding slots
slot_is t chunks n k e h = get_or-take n chunks k [] h ∙ ap (λ (ss : List (List ℕ)). get_or ss k []) (e ∙ chunks_are (length t / slot_size) t)

module _ {p : Plan} {bounds : List (List ℕ)} (b : Bounded p bounds) (t : List ℕ) where
  form_at : (k : ℕ) → k < length t / slot_size → is_form bounds (get_or (slots t) k []) ≡ used_at p t k
  unfolding used_at read_table Judged is_zero all
  form_at k h =
      rw b.rows
      (ap (is_form (bounds_of p)) (slot_eight t k h)
      ∙ judged p b.plan _ _ _ _ _ _ _ (get_or t (k * slot_size) 0)
      ∙ ap (λ (s : List ℕ). is_used (read_slot p s)) (sym (slot_eight t k h))
      ∙ ap is_used (sym (rw (read_slot_unused p [] refl) at (get_or-map (read_slot p) (slots t) k []))))

  -- one slot further
  pub form_step : (k : ℕ) (s : List ℕ) (c r : Bool) → k < length t / slot_size → s ≡ get_or (slots t) k [] → c ≡ each (used_at p t) 0 k
      → r ≡ (c && is_form bounds s) → r ≡ each (used_at p t) 0 (k + 1)
  form_step k s c r h q e x =
      each_suc (used_at p t) k c r e (x ∙ ap (λ (y : Bool). c && y) (ap (is_form bounds) q ∙ form_at k h))
