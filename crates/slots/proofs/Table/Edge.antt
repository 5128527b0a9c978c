-- The laws of the edge, on any bytes: from a place on by steps, each of which ends at a used slot.
--     Reached                         a place that such steps lead to
--     step_yes, _no, _out, steps_next, _stop     the steps one by one
--     near_within, near_below, near_close, edge_within, _reached, _unused     the edge, and the place near it
--     edge_at, _on                    from the place near it on slots are used up to the edge, and there none is
--     length_slots_held, length_peek_messages, held_at, peek_next, _end   the slots and messages before it, as a loop meets them
-- Assumes nothing.
use Prim.Native.Nat.{ℕ, zero, suc, ◌+◌, ◌-◌, ◌*◌, ◌/◌, ◌≤◌, ◌<◌, zero-le}
use Rattle.std.specs.Prelude.{Bool, not, ◌&&◌, ◌≡◌, leb, length, get_or, drop}
use Rattle.std.proofs.Math.Bool.{true, false, cond}
use Rattle.std.proofs.lemmas.Bool.{false≢true, lt-leb}
use mathlib.Core.List.{List, [], ◌∷◌, map}
use Rattle.std.proofs.Math.Path.{refl, sym, ap}
use Rattle.std.proofs.Common.{◌∙◌, le_refl, not-suc-le-zero, arith, lit≤, drop_of_length-le, drop-cons, le-leb, leb-true, eq-eqb, ne_eqb}
use Rattle.std.proofs.Math.Decide.{ℕ_discrete, dec_le}
use Rattle.std.proofs.Math.ListN.{length-map}
use Rattle.std.proofs.Math.Seq.{get_or-take, length-take-le}
use Rattle.message.specs.declared.Message.{Message}
use Rattle.message.specs.Form.{decode}
use Rattle.message.proofs.Outcome.Laws.{both}
use Rattle.slots.specs.Table.{slot_size, slots}
use Rattle.slots.proofs.Table.Laws.{length_slots, map_drop}
use Rattle.slots.specs.Table.Scan.{is_step, steps_from, near_edge, edge, slots_held, peek_messages}

one_less : (n : ℕ) → n + 1 - 1 ≡ n
one_less n = omega arith

-- the slot before it does not begin with 0
pub record Reached (t : List ℕ) (place : ℕ) : Type 0 where
  pub within : place ≤ length t / slot_size
  pub before : 0 < place → get_or t ((place - 1) * slot_size) 0 ≡ 0 → ⊥

module _ (t : List ℕ) (step place : ℕ) where
  -- a step that is taken, and one that is not
  pub step_yes : step ≤ length t / slot_size - place → (get_or t ((place + step - 1) * slot_size) 0 ≡ 0 → ⊥) → is_step t step place ≡ true
  step_yes fits used = rw (le-leb _ _ fits, ne_eqb _ _ used)

  pub step_no : get_or t ((place + step - 1) * slot_size) 0 ≡ 0 → is_step t step place ≡ false
  step_no unused = rw (eq-eqb _ _ unused) (none (leb step (length t / slot_size - place)))
    where
      none : (b : Bool) → (b && false) ≡ false
      none true = refl
      none false = refl

  pub step_out : length t / slot_size - place < step → is_step t step place ≡ false
  step_out out = rw (lt-leb _ _ out)

  taken : is_step t step place ≡ true → (step ≤ length t / slot_size - place) × (get_or t ((place + step - 1) * slot_size) 0 ≡ 0 → ⊥)
  taken is =
      let b = both (leb step (length t / slot_size - place)) _ is in
      (leb-true _ _ b.0, λ e. false≢true (sym (ap not (eq-eqb _ _ e)) ∙ b.1))

  pub steps_stop : (most : ℕ) → is_step t step place ≡ false → steps_from t step most place ≡ place
  unfolding steps_from
  steps_stop zero stops = refl
  steps_stop (suc most) stops = rw stops

module _ (t : List ℕ) (step : ℕ) (some : 0 < step) where
  -- more steps than slots change nothing
  steps_enough : (most least place : ℕ) → length t / slot_size ≤ place + most → length t / slot_size ≤ place + least
      → steps_from t step most place ≡ steps_from t step least place
  unfolding steps_from
  steps_enough zero zero place h k = refl
  steps_enough zero (suc least) place h k = sym (rw (step_out t step place (omega arith)))
  steps_enough (suc most) zero place h k = rw (step_out t step place (omega arith))
  steps_enough (suc most) (suc least) place h k =
      ap (λ (n : ℕ). cond (is_step t step place) n place) (steps_enough most least (place + step) (omega arith) (omega arith))

  pub steps_next : (most place : ℕ) → length t / slot_size ≤ place + most → is_step t step place ≡ true → steps_from t step most place ≡ steps_from t step most (place + step)
  unfolding steps_from
  steps_next zero place h is = absurd (let n = (taken t step place is).0 in omega arith)
  steps_next (suc most) place h is = rw is (steps_enough most (suc most) (place + step) (omega arith) (omega arith))

  -- what every step keeps
  steps_keep : (P : ℕ → Type 0) → ((place : ℕ) → is_step t step place ≡ true → P place → P (place + step)) → (most place : ℕ) → P place → P (steps_from t step most place)
  unfolding steps_from
  steps_keep P next zero place h = h
  steps_keep P next (suc most) place h = go (is_step t step place) refl (λ k. steps_keep P next most (place + step) k)
    where
      go : (b : Bool) → is_step t step place ≡ b → (P (place + step) → P (steps_from t step most (place + step))) → P (cond b (steps_from t step most (place + step)) place)
      go true is rest = rest (next place is h)
      go false is rest = h

  steps_reached : (most place : ℕ) → Reached t place → Reached t (steps_from t step most place)
  steps_reached =
      steps_keep (Reached t)
      (λ place is r.
      let n = taken t step place is in
      let in_table = n.0 in
      record { within = omega (arith, in_table, r.within); before = λ h. n.1 })

  steps_on : (most place : ℕ) → place ≤ steps_from t step most place
  steps_on most place = steps_keep (λ (k : ℕ). place ≤ k) (λ k is h. omega arith) most place (le_refl place)

  steps_edge : (most place : ℕ) → length t / slot_size ≤ place + most → is_step t step (steps_from t step most place) ≡ false
  unfolding steps_from
  steps_edge zero place h = step_out t step place (omega arith)
  steps_edge (suc most) place h = go (is_step t step place) refl (steps_edge most (place + step) (omega arith))
    where
      go : (b : Bool) → is_step t step place ≡ b → is_step t step (steps_from t step most (place + step)) ≡ false
          → is_step t step (cond b (steps_from t step most (place + step)) place) ≡ false
      go true is rest = rest
      go false is rest = is

-- slots that steps of one pass are in use
ones_used : (t : List ℕ) (from most place : ℕ) → from ≤ place → ((k : ℕ) → from ≤ k → k < place → get_or t (k * slot_size) 0 ≡ 0 → ⊥)
    → (k : ℕ) → from ≤ k → k < steps_from t 1 most place → get_or t (k * slot_size) 0 ≡ 0 → ⊥
ones_used t from most place h before =
    (steps_keep t 1 (lit≤ tt) (λ (n : ℕ). (from ≤ n) × ((k : ℕ) → from ≤ k → k < n → get_or t (k * slot_size) 0 ≡ 0 → ⊥))
    (λ n is (on, used). (
      omega (arith, on),
      λ k l m. elim (ℕ_discrete k n) [
        | yes e ↦ rw e (rw (one_less n) at (taken t 1 n is).1)
        | no d ↦ used k l (omega arith)
      ],
    ))
    most place (h, before)).1

-- the edge of a table
module _ (t : List ℕ) where
  none_before : Reached t 0
  none_before = record { within = zero-le; before = λ h. absurd (not-suc-le-zero h) }

  near_reached : Reached t (near_edge t)
  unfolding near_edge
  near_reached = steps_reached t 16 (lit≤ tt) _ _ (steps_reached t 128 (lit≤ tt) _ 0 none_before)

  pub near_within : near_edge t ≤ length t / slot_size
  near_within = near_reached.within

  pub edge_reached : Reached t (edge t)
  unfolding edge
  edge_reached = steps_reached t 1 (lit≤ tt) _ _ near_reached

  pub edge_within : edge t ≤ length t / slot_size
  edge_within = edge_reached.within

  pub near_below : near_edge t ≤ edge t
  unfolding edge
  near_below = steps_on t 1 (lit≤ tt) _ (near_edge t)

  -- from the place near it on, slots are used up to the edge, and there none is
  edge_used : (k : ℕ) → near_edge t ≤ k → k < edge t → get_or t (k * slot_size) 0 ≡ 0 → ⊥
  unfolding edge
  edge_used = ones_used t (near_edge t) _ (near_edge t) (le_refl _) (λ k l m. omega arith)

  edge_stops : is_step t 1 (edge t) ≡ false
  unfolding edge
  edge_stops = steps_edge t 1 (lit≤ tt) _ (near_edge t) (omega arith)

  pub edge_unused : edge t < length t / slot_size → get_or t (edge t * slot_size) 0 ≡ 0
  edge_unused h = elim (ℕ_discrete (get_or t (edge t * slot_size) 0) 0) [
    | yes e ↦ e
    | no used ↦ absurd (false≢true (sym edge_stops ∙ step_yes t 1 (edge t) (omega (arith, h)) (rw (one_less (edge t)) used)))
  ]

  -- and less than 16 slots are from the place near it to the edge
  near_stops : is_step t 16 (near_edge t) ≡ false
  unfolding near_edge
  near_stops = steps_edge t 16 (lit≤ tt) _ (steps_from t 128 (length t / slot_size) 0) (omega arith)

  pub near_close : edge t < near_edge t + 16
  near_close =
      elim (dec_le (suc (edge t)) (near_edge t + 16)) [
        | yes h ↦ h
        | no n ↦
            absurd (false≢true (sym near_stops
            ∙ step_yes t 16 (near_edge t) (omega (arith, edge_within)) (edge_used (near_edge t + 16 - 1) (omega arith) (omega arith))))
      ]

  -- as a loop from the place near it on meets them
  module _ (k : ℕ) (from : near_edge t ≤ k) (to : k ≤ edge t) where
    pub edge_at : get_or t (k * slot_size) 0 ≡ 0 → edge t ≡ k
    edge_at e = elim (dec_le (suc k) (edge t)) [ yes h ↦ absurd (edge_used k from h e) | no h ↦ omega arith ]

    pub edge_on : k < length t / slot_size → (get_or t (k * slot_size) 0 ≡ 0 → ⊥) → k < edge t
    edge_on h used = elim (dec_le (suc k) (edge t)) [
      | yes h ↦ h
      | no n ↦ absurd (let e : edge t ≡ k = omega arith in used (rw e at (edge_unused (rw e h))))
    ]

  -- the slots and messages before it
  pub length_slots_held : length (slots_held t) ≡ edge t
  unfolding slots_held
  length_slots_held = length-take-le (edge t) (slots t) (rw (length_slots t) edge_within)

  pub length_peek_messages : length (peek_messages t) ≡ edge t
  unfolding peek_messages
  length_peek_messages = length-map (slots_held t) decode ∙ length_slots_held

  module _ (k : ℕ) where
    pub held_at : k < edge t → get_or (slots_held t) k [] ≡ get_or (slots t) k []
    unfolding slots_held
    held_at h = get_or-take (edge t) (slots t) k [] h

    held_next : k < edge t → drop k (slots_held t) ≡ get_or (slots t) k [] ∷ drop (suc k) (slots_held t)
    held_next h = drop-cons (slots_held t) k [] (rw length_slots_held h) ∙ ap (λ (s : List ℕ). s ∷ drop (suc k) (slots_held t)) (held_at h)

    pub peek_next : k < edge t → drop k (peek_messages t) ≡ decode (get_or (slots t) k []) ∷ drop (suc k) (peek_messages t)
    unfolding peek_messages
    peek_next h =
        map_drop decode k (slots_held t)
        ∙ ap (map decode) (held_next h)
        ∙ ap (λ (ms : List Message). decode (get_or (slots t) k []) ∷ ms) (sym (map_drop decode (suc k) (slots_held t)))

    pub peek_end : edge t ≤ k → drop k (peek_messages t) ≡ []
    peek_end h = drop_of_length-le (peek_messages t) {i = k} (rw length_peek_messages h)
