-- The messages of the inbox as a loop meets them, slot by slot, in the inbox's own bytes.
--     message_at                the message that the bytes from an index on make
--     slot_cases                a rule that is shown for the six maps holds of it
--     message_1b, -1b-vote, -2a     what it is where the map is known
--     ahead                     the messages from a slot on
--     used_within               the used slots are slots of the inbox
--     ahead_next, _end          one message further, and none left
-- Assumes nothing.
use Rattle.std.specs.Prelude.{ℕ, ◌+◌, ◌*◌, ◌/◌, ◌≤◌, ◌<◌, List, [], ◌∷◌, ◌≡◌, length, get_or, take, drop, None}
use Rattle.std.proofs.Common.{◌∙◌, add-zero, le_trans, add-one, lit<, get_or-take, get_or-drop}
use Rattle.message.specs.declared.Message.{Message}
use Rattle.message.specs.declared.Message.TheVariants.{Phase1a, Phase1b, Phase2a, Phase2b, Decision}
use Rattle.message.specs.Form.{map1a, map1b, map1b_vote, map2a, map2b, fields_message, decode, cast_vote}
use Rattle.message.proofs.Form.Maps.{fields_1b, fields_1b_vote, fields_2a, Other, fields_cases, decode_fields}
use Rattle.slots.specs.Table.{slot_size}
use Rattle.slots.proofs.Table.Laws.{get_d_slots}
use Rattle.slots.specs.Table.Scan.{edge, peek_messages}
use Rattle.slots.proofs.Table.Edge.{edge_within, peek_next, peek_end}

pub message_at : List ℕ → ℕ → Message
message_at t at = fields_message (get_or t at 0) (get_or t (at + 1) 0) (get_or t (at + 2) 0) (get_or t (at + 3) 0) (get_or t (at + 4) 0) (get_or t (at + 5) 0)

module _ (t : List ℕ) (at : ℕ) where
  abbrev map : ℕ
  map = get_or t at 0

  abbrev byte : ℕ → ℕ
  byte k = get_or t (at + k) 0

  pub slot_cases : (P : ℕ → Message → Type 0)
      → P map1a (Phase1a (byte 1) (byte 2))
      → P map1b (Phase1b (byte 1) (byte 2) (byte 3) None)
      → P map1b_vote (Phase1b (byte 1) (byte 2) (byte 3) (cast_vote (byte 4) (byte 5)))
      → P map2a (Phase2a (byte 1) (byte 2) (byte 3))
      → P map2b (Phase2b (byte 1) (byte 2) (byte 3) (byte 4))
      → ((k : ℕ) → Other k → P k (Decision (byte 1)))
      → P map (message_at t at)
  unfolding message_at
  slot_cases P of1a of1b of1bVote of2a of2b other =
      fields_cases (byte 1) (byte 2) (byte 3) (byte 4) (byte 5) P of1a of1b of1bVote of2a of2b other map

  pub message_1b : map ≡ map1b → message_at t at ≡ Phase1b (byte 1) (byte 2) (byte 3) None
  unfolding message_at
  message_1b is = rw is (fields_1b _ _ _ _ _)

  pub message_1b_vote : map ≡ map1b_vote → message_at t at ≡ Phase1b (byte 1) (byte 2) (byte 3) (cast_vote (byte 4) (byte 5))
  unfolding message_at
  message_1b_vote is = rw is (fields_1b_vote _ _ _ _ _)

  pub message_2a : map ≡ map2a → message_at t at ≡ Phase2a (byte 1) (byte 2) (byte 3)
  unfolding message_at
  message_2a is = rw is (fields_2a _ _ _ _ _)

abbrev pub ahead : List ℕ → ℕ → List Message
ahead t k = drop k (peek_messages t)

-- the slot's bytes, at their places in the table
decode_part : (t : List ℕ) (from : ℕ) → decode (take slot_size (drop from t)) ≡ message_at t from
unfolding message_at
decode_part t from =
    decode_fields _
    ∙ rw (byte 0 (lit< tt), byte 1 (lit< tt), byte 2 (lit< tt), byte 3 (lit< tt), byte 4 (lit< tt), byte 5 (lit< tt), add-zero)
  where
    byte : (j : ℕ) → j < slot_size → get_or (take slot_size (drop from t)) j 0 ≡ get_or t (from + j) 0
    byte j h = get_or-take slot_size (drop from t) j 0 h ∙ get_or-drop from t j 0

-- `used` is where the used slots end
module _ (t : List ℕ) (used : ℕ) (of-used : used ≡ edge t) where
  pub used_within : used ≤ length t / slot_size
  used_within = rw of-used (edge_within t)

  module _ (k : ℕ) where
    pub ahead_next : k < used → ahead t k ≡ message_at t (k * slot_size) ∷ ahead t (k + 1)
    ahead_next h =
        peek_next t k (rw of-used at h)
        ∙ rw (get_d_slots t k (le_trans h used_within), decode_part t (k * slot_size), add-one k)

    pub ahead_end : used ≤ k → ahead t k ≡ []
    ahead_end h = peek_end t k (rw of-used at h)
