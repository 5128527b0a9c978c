-- The byte form map by map, for crates that look at single bytes.
--     length_1a ..            the length that the map stands for
--     fields_1a ..            the message that the map and the bytes after it make
--     Other, fields_other     any other map makes a decision
--     fields_cases            a rule that is shown for the six maps holds of what any map makes
--     decode_fields           what bytes decode to, by their map and the five bytes after it
--     range_1a ..             the range of the fields
--     decoded_1a ..           the same of bytes that begin with the map
--     slot_1a ..              a message's slot, byte by byte
--     is_value_bounds         what a value is
-- Assumes nothing.
use Rattle.std.specs.Prelude.{None, ℕ, ◌/◌, ◌%◌, true, ◌&&◌, List, [], ◌∷◌, ◌≡◌, ltb, leb, get_or}
use Rattle.std.proofs.Math.Path.{refl}
use Rattle.std.proofs.Common.{◌∙◌, ap}
use Rattle.std.proofs.Math.Decide.{ℕ_discrete}
use Rattle.std.specs.Int.Count.{ones}
use borrow.Author.Tests.{ne_eqb}
use Rattle.message.specs.declared.Plan.{Plan}
use Rattle.message.specs.declared.Message.{Message}
use Rattle.message.specs.declared.Message.TheVariants.{Phase1a, Phase1b, Phase2a, Phase2b, Decision}
use Rattle.message.specs.Form.{cast_vote, map1a, map1b, map1b_vote, map2a, map2b, map_decision}
use Rattle.message.specs.Form.{is_value, is_vote, is_in_range, bytes_of1b, bytes_of, message_length, slot_of, is_known, map_length, fields_message, decode}

pub length_1a : map_length map1a ≡ 5
unfolding map_length is_known ones
length_1a = refl

pub length_1b : map_length map1b ≡ 6
unfolding map_length is_known ones
length_1b = refl

pub length_1b_vote : map_length map1b_vote ≡ 8
unfolding map_length is_known ones
length_1b_vote = refl

pub length_2a : map_length map2a ≡ 6
unfolding map_length is_known ones
length_2a = refl

pub length_2b : map_length map2b ≡ 7
unfolding map_length is_known ones
length_2b = refl

pub length_decision : map_length map_decision ≡ 4
unfolding map_length is_known ones
length_decision = refl

-- none of the five maps of a message with an instance
pub record Other (map : ℕ) : Type 0 where
  pub not_1a : map ≡ map1a → ⊥
  pub not_1b : map ≡ map1b → ⊥
  pub not_1b_vote : map ≡ map1b_vote → ⊥
  pub not_2a : map ≡ map2a → ⊥
  pub not_2b : map ≡ map2b → ⊥

module _ (b1 b2 b3 b4 b5 : ℕ) where
  pub fields_1a : fields_message map1a b1 b2 b3 b4 b5 ≡ Phase1a b1 b2
  unfolding fields_message
  fields_1a = refl

  pub fields_1b : fields_message map1b b1 b2 b3 b4 b5 ≡ Phase1b b1 b2 b3 None
  unfolding fields_message
  fields_1b = refl

  pub fields_1b_vote : fields_message map1b_vote b1 b2 b3 b4 b5 ≡ Phase1b b1 b2 b3 (cast_vote b4 b5)
  unfolding fields_message
  fields_1b_vote = refl

  pub fields_2a : fields_message map2a b1 b2 b3 b4 b5 ≡ Phase2a b1 b2 b3
  unfolding fields_message
  fields_2a = refl

  pub fields_2b : fields_message map2b b1 b2 b3 b4 b5 ≡ Phase2b b1 b2 b3 b4
  unfolding fields_message
  fields_2b = refl

  pub fields_decision : fields_message map_decision b1 b2 b3 b4 b5 ≡ Decision b1
  unfolding fields_message
  fields_decision = refl

  pub fields_other : (map : ℕ) → Other map → fields_message map b1 b2 b3 b4 b5 ≡ Decision b1
  unfolding fields_message
  fields_other map o =
      rw (
        ne_eqb map map1a o.not_1a,
        ne_eqb map map1b o.not_1b,
        ne_eqb map map1b_vote o.not_1b_vote,
        ne_eqb map map2a o.not_2a,
        ne_eqb map map2b o.not_2b,
      )

  pub fields_cases : (P : ℕ → Message → Type 0)
      → P map1a (Phase1a b1 b2)
      → P map1b (Phase1b b1 b2 b3 None)
      → P map1b_vote (Phase1b b1 b2 b3 (cast_vote b4 b5))
      → P map2a (Phase2a b1 b2 b3)
      → P map2b (Phase2b b1 b2 b3 b4)
      → ((map : ℕ) → Other map → P map (Decision b1))
      → (map : ℕ) → P map (fields_message map b1 b2 b3 b4 b5)
  fields_cases P of1a of1b of1bVote of2a of2b other map =
      go (ℕ_discrete map map1a) (ℕ_discrete map map1b) (ℕ_discrete map map1b_vote) (ℕ_discrete map map2a) (ℕ_discrete map map2b)
    where
      at : (k : ℕ) (m : Message) → map ≡ k → fields_message k b1 b2 b3 b4 b5 ≡ m → P k m → P map (fields_message map b1 b2 b3 b4 b5)
      at k m e is h = rw (e, is) h

      go : Dec (map ≡ map1a) → Dec (map ≡ map1b) → Dec (map ≡ map1b_vote) → Dec (map ≡ map2a) → Dec (map ≡ map2b)
          → P map (fields_message map b1 b2 b3 b4 b5)
      go (yes e) b c d f = at map1a _ e fields_1a of1a
      go (no a) (yes e) c d f = at map1b _ e fields_1b of1b
      go (no a) (no b) (yes e) d f = at map1b_vote _ e fields_1b_vote of1bVote
      go (no a) (no b) (no c) (yes e) f = at map2a _ e fields_2a of2a
      go (no a) (no b) (no c) (no d) (yes e) = at map2b _ e fields_2b of2b
      go (no a) (no b) (no c) (no d) (no f) =
          let o : Other map = record { not_1a = a; not_1b = b; not_1b_vote = c; not_2a = d; not_2b = f } in
          rw (fields_other map o) (other map o)

pub decode_fields : (bytes : List ℕ)
    → decode bytes ≡ fields_message (get_or bytes 0 0) (get_or bytes 1 0) (get_or bytes 2 0) (get_or bytes 3 0) (get_or bytes 4 0) (get_or bytes 5 0)
unfolding decode
decode_fields bytes = refl

module _ (p : Plan) (ins acc mbal bal val : ℕ) where
  pub range_1a : is_in_range p (Phase1a ins bal) ≡ (ltb ins p.rms && leb 1 bal)
  unfolding is_in_range
  range_1a = refl

  pub range_1b : is_in_range p (Phase1b ins acc mbal None) ≡ (ltb ins p.rms && ltb acc p.acceptors && true)
  unfolding is_in_range is_vote
  range_1b = refl

  pub range_1b_vote : is_in_range p (Phase1b ins acc mbal (cast_vote bal val)) ≡ (ltb ins p.rms && ltb acc p.acceptors && is_value val)
  unfolding is_in_range is_vote
  range_1b_vote = refl

  pub range_2a : is_in_range p (Phase2a ins bal val) ≡ (ltb ins p.rms && is_value val)
  unfolding is_in_range
  range_2a = refl

  pub range_2b : is_in_range p (Phase2b ins acc bal val) ≡ (ltb ins p.rms && ltb acc p.acceptors && is_value val)
  unfolding is_in_range
  range_2b = refl

  pub range_decision : is_in_range p (Decision val) ≡ is_value val
  unfolding is_in_range
  range_decision = refl

-- what bytes of each map decode to is in range
module _ (p : Plan) (bytes : List ℕ) where
  abbrev byte : ℕ → ℕ
  byte k = get_or bytes k 0

  of_map : (map : ℕ) (m : Message) → byte 0 ≡ map → fields_message map (byte 1) (byte 2) (byte 3) (byte 4) (byte 5) ≡ m → is_in_range p (decode bytes) ≡ is_in_range p m
  of_map map m first is = ap (is_in_range p) (decode_fields bytes ∙ ap (λ (k : ℕ). fields_message k (byte 1) (byte 2) (byte 3) (byte 4) (byte 5)) first ∙ is)

  pub decoded_1a : byte 0 ≡ map1a → is_in_range p (decode bytes) ≡ (ltb (byte 1) p.rms && leb 1 (byte 2))
  decoded_1a first = of_map map1a _ first (fields_1a _ _ _ _ _) ∙ range_1a p _ 0 0 _ 0

  pub decoded_1b : byte 0 ≡ map1b → is_in_range p (decode bytes) ≡ (ltb (byte 1) p.rms && ltb (byte 2) p.acceptors && true)
  decoded_1b first = of_map map1b _ first (fields_1b _ _ _ _ _) ∙ range_1b p _ _ _ 0 0

  pub decoded_1b_vote : byte 0 ≡ map1b_vote → is_in_range p (decode bytes) ≡ (ltb (byte 1) p.rms && ltb (byte 2) p.acceptors && is_value (byte 5))
  decoded_1b_vote first = of_map map1b_vote _ first (fields_1b_vote _ _ _ _ _) ∙ range_1b_vote p _ _ _ _ _

  pub decoded_2a : byte 0 ≡ map2a → is_in_range p (decode bytes) ≡ (ltb (byte 1) p.rms && is_value (byte 3))
  decoded_2a first = of_map map2a _ first (fields_2a _ _ _ _ _) ∙ range_2a p _ 0 0 _ _

  pub decoded_2b : byte 0 ≡ map2b → is_in_range p (decode bytes) ≡ (ltb (byte 1) p.rms && ltb (byte 2) p.acceptors && is_value (byte 4))
  decoded_2b first = of_map map2b _ first (fields_2b _ _ _ _ _) ∙ range_2b p _ _ 0 _ _

  pub decoded_decision : byte 0 ≡ map_decision → is_in_range p (decode bytes) ≡ is_value (byte 1)
  decoded_decision first = of_map map_decision _ first (fields_decision _ _ _ _ _) ∙ range_decision p 0 0 0 0 _

-- a message's slot, byte by byte
module _ (p : Plan) (ins acc mbal bal val : ℕ) where
  pub slot_1a : slot_of p (Phase1a ins bal) ≡ map1a ∷ ins ∷ bal ∷ (p.order / 256) ∷ (p.order % 256) ∷ 0 ∷ 0 ∷ 0 ∷ []
  unfolding slot_of message_length bytes_of
  slot_1a = refl

  pub slot_1b : slot_of p (Phase1b ins acc mbal None) ≡ map1b ∷ ins ∷ acc ∷ mbal ∷ (p.order / 256) ∷ (p.order % 256) ∷ 0 ∷ 0 ∷ []
  unfolding slot_of message_length bytes_of bytes_of1b
  slot_1b = refl

  pub slot_1b_vote : slot_of p (Phase1b ins acc mbal (cast_vote bal val)) ≡ map1b_vote ∷ ins ∷ acc ∷ mbal ∷ bal ∷ val ∷ (p.order / 256) ∷ (p.order % 256) ∷ []
  unfolding slot_of message_length bytes_of bytes_of1b
  slot_1b_vote = refl

  pub slot_2a : slot_of p (Phase2a ins bal val) ≡ map2a ∷ ins ∷ bal ∷ val ∷ (p.order / 256) ∷ (p.order % 256) ∷ 0 ∷ 0 ∷ []
  unfolding slot_of message_length bytes_of
  slot_2a = refl

  pub slot_2b : slot_of p (Phase2b ins acc bal val) ≡ map2b ∷ ins ∷ acc ∷ bal ∷ val ∷ (p.order / 256) ∷ (p.order % 256) ∷ 0 ∷ []
  unfolding slot_of message_length bytes_of
  slot_2b = refl

  pub slot_decision : slot_of p (Decision val) ≡ map_decision ∷ val ∷ (p.order / 256) ∷ (p.order % 256) ∷ 0 ∷ 0 ∷ 0 ∷ 0 ∷ []
  unfolding slot_of message_length bytes_of
  slot_decision = refl

pub is_value_bounds : (v : ℕ) → is_value v ≡ (leb 1 v && leb v 2)
unfolding is_value
is_value_bounds v = refl
