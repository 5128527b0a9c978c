-- A slot judged by bounds of its bytes.
--     is_within, is_within_at                whether a byte lies within a span above the lowest one; the byte at a place of a slot
--     set_rows, no_order, put_row, put_bounds  the rows of a map, and all
--     bounds_of, Bounded                      the bounds of a plan
--     are_within, is_form                    a slot's bytes lie within two rows; within those of its map
-- proofs/Forms.antt says that such a slot is a used one. Assumes nothing.
use Rattle.std.specs.Prelude.{ℕ, ◌+◌, ◌-◌, ◌%◌, Bool, true, ◌&&◌, ◌||◌, cond, List, [], ◌∷◌, ◌≡◌, leb, eqb, get_or, set, drop, replicate, None}
use Rattle.message.specs.declared.Plan.{Plan}
use Rattle.message.specs.declared.Message.TheVariants.{Phase1a, Phase1b, Phase2a, Phase2b, Decision}
use Rattle.message.specs.Plan.{is_plan}
use Rattle.message.specs.Form.{map1a, map1b, map1b_vote, map2a, map2b, map_decision, slot_size, slot_of, cast_vote}

-- how far above the lowest byte another lies, round past 255, is within a span: 0 is the lowest byte alone, 255 is no bound
unfoldable pub is_within : ℕ → ℕ → ℕ → Bool
is_within low byte span =
    cond (eqb span 0) (eqb byte low)
    (leb 255 span || cond (leb low byte) (leb 255 (low + span) || leb (byte - low) span) (leb (byte + 256 - low) span))

-- the byte at a place of a slot
unfoldable pub is_within_at : List ℕ → List ℕ → List ℕ → ℕ → Bool
is_within_at low span s place = is_within (get_or low place 0) (get_or s place 0) (get_or span place 0)

-- spans are written as a message's fields, beside them the number 0
abbrev pub no_order : Plan
no_order = record { rms = 0; acceptors = 0; leaders = 0; order = 0 }

-- the rows of a map: its lowest bytes, and in the next how far above them
unfoldable pub set_rows : List (List ℕ) → ℕ → List ℕ → List ℕ → List (List ℕ)
set_rows bounds map low span = set (set bounds map low) (map + 1) span

-- the map itself has the row, and needs no bound
unfoldable pub put_row : List (List ℕ) → ℕ → List ℕ → List ℕ → List (List ℕ)
unfolding set_rows
put_row bounds map low span = set_rows bounds map (0 ∷ drop 1 low) (254 ∷ drop 1 span)

-- the lowest fields: 1 for a value and for the ballot of a 1a, else 0; no slot begins with 0.
-- how far above them: up to the last instance and acceptor of the plan, 1 for a value, 255 for a ballot (254 in a 1a), and not at all for the
-- order number and the zeros after it. In the two rows of an unknown map the first byte is bounded to another one
unfoldable pub put_bounds : Plan → List (List ℕ) → List (List ℕ)
put_bounds p bounds =
    put_row (put_row (put_row (put_row (put_row (put_row (set bounds 0 (1 ∷ 0 ∷ 0 ∷ 0 ∷ 0 ∷ 0 ∷ 0 ∷ 0 ∷ []))
    map1a (slot_of p (Phase1a 0 1)) (slot_of no_order (Phase1a (p.rms - 1) 254)))
    map1b (slot_of p (Phase1b 0 0 0 None)) (slot_of no_order (Phase1b (p.rms - 1) (p.acceptors - 1) 255 None)))
    map1b_vote (slot_of p (Phase1b 0 0 0 (cast_vote 0 1))) (slot_of no_order (Phase1b (p.rms - 1) (p.acceptors - 1) 255 (cast_vote 255 1))))
    map2a (slot_of p (Phase2a 0 0 1)) (slot_of no_order (Phase2a (p.rms - 1) 255 1)))
    map2b (slot_of p (Phase2b 0 0 0 1)) (slot_of no_order (Phase2b (p.rms - 1) (p.acceptors - 1) 255 1)))
    map_decision (slot_of p (Decision 1)) (slot_of no_order (Decision 1))

unfoldable pub bounds_of : Plan → List (List ℕ)
bounds_of p = put_bounds p (replicate 257 (replicate slot_size 0))

-- the bounds of a plan, which is in range
pub record Bounded (p : Plan) (bounds : List (List ℕ)) : Type 0 where
  pub plan : is_plan p ≡ true
  pub rows : bounds ≡ bounds_of p

-- the slot's bytes lie within two rows
unfoldable pub are_within : List ℕ → List ℕ → List ℕ → Bool
are_within low span s =
    is_within_at low span s 0 && is_within_at low span s 1 && is_within_at low span s 2 && is_within_at low span s 3
    && is_within_at low span s 4 && is_within_at low span s 5 && is_within_at low span s 6 && is_within_at low span s 7

-- those of its map
unfoldable pub is_form : List (List ℕ) → List ℕ → Bool
is_form b s = are_within (get_or b (get_or s 0 0 % 256) []) (get_or b (get_or s 0 0 % 256 + 1) []) s
