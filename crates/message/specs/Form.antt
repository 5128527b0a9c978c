-- Messages and their one byte form (document 01, "Message bytes"; document 02, Paper 1: the order number, slots of 8 bytes; Paper 3: lengths).
--     is_value, is_vote, is_in_range  the ranges of a message's fields; out of range is refusal 17
--     cast_vote                       the report of a vote
--     map1a .. map_decision          the six bit maps
--     order_bytes                   the order number as two bytes
--     bytes_of, message_length       the bytes of a message: its map, its fields, the order number
--     slot_size, slot_of             a slot's size, and a message followed by zeros
--     is_known, map_length          the known bit maps, and the length that one stands for, 0 for an unknown one
--     fields_message, decode        the message that a known map and the bytes after it make
--     has_order                     the plan's order number stands where a message of this length has it
-- Their laws are in proofs/Form/Laws.antt and, map by map, in proofs/Form/Maps.antt. Assumes nothing.
use Rattle.std.specs.Prelude.{Option, None, Some, ℕ, ◌+◌, ◌-◌, ◌/◌, ◌%◌, Bool, true, ◌&&◌, ◌||◌, cond, List, [], ◌∷◌, ◌++◌, ltb, leb, eqb, length, get_or, replicate}
use Rattle.std.specs.Int.Count.{ones}
use Rattle.message.specs.declared.Plan.{Plan}
use Rattle.message.specs.declared.Vote.{Vote}
use Rattle.message.specs.declared.Message.{Message}
use Rattle.message.specs.declared.Message.TheVariants.{Phase1a, Phase1b, Phase2a, Phase2b, Decision}

-- a value: 1 prepared (in a decision Commit) or 2 aborted (Abort)
unfoldable pub is_value : ℕ → Bool
is_value v = leb 1 v && leb v 2

-- a vote report: none, or any ballot with a value
unfoldable pub is_vote : Option Vote → Bool
is_vote None = true
is_vote (Some vote) = is_value vote.val

-- the report of a vote
abbrev pub cast_vote : ℕ → ℕ → Option Vote
cast_vote bal val = Some (record { bal = bal; val = val })

-- every field in its range: an instance of the plan, an acceptor of the plan, a value, and in a 1a a ballot from 1
unfoldable pub is_in_range : Plan → Message → Bool
is_in_range p (Phase1a ins bal) = ltb ins p.rms && leb 1 bal
is_in_range p (Phase1b ins acc mbal vote) = ltb ins p.rms && ltb acc p.acceptors && is_vote vote
is_in_range p (Phase2a ins bal val) = ltb ins p.rms && is_value val
is_in_range p (Phase2b ins acc bal val) = ltb ins p.rms && ltb acc p.acceptors && is_value val
is_in_range p (Decision val) = is_value val

-- the bit maps: bits 0 to 4 stand for ins, acc, mbal, bal and val; bit 5 always stands, for the order number
abbrev pub map1a : ℕ
map1a = 0x29

-- a 1b without a vote, and with one
abbrev pub map1b : ℕ
map1b = 0x27

abbrev pub map1b_vote : ℕ
map1b_vote = 0x3F

abbrev pub map2a : ℕ
map2a = 0x39

abbrev pub map2b : ℕ
map2b = 0x3B

abbrev pub map_decision : ℕ
map_decision = 0x30

-- the order number, high byte first
abbrev pub order_bytes : Plan → List ℕ
order_bytes p = (p.order / 256) ∷ (p.order % 256) ∷ []

-- a 1b's bytes
unfoldable pub bytes_of1b : Plan → ℕ → ℕ → ℕ → Option Vote → List ℕ
bytes_of1b p ins acc mbal None = map1b ∷ ins ∷ acc ∷ mbal ∷ order_bytes p
bytes_of1b p ins acc mbal (Some vote) = map1b_vote ∷ ins ∷ acc ∷ mbal ∷ vote.bal ∷ vote.val ∷ order_bytes p

-- the bytes of a message under a plan: the map, a byte for each of its fields, the order number
unfoldable pub bytes_of : Plan → Message → List ℕ
bytes_of p (Phase1a ins bal) = map1a ∷ ins ∷ bal ∷ order_bytes p
bytes_of p (Phase1b ins acc mbal vote) = bytes_of1b p ins acc mbal vote
bytes_of p (Phase2a ins bal val) = map2a ∷ ins ∷ bal ∷ val ∷ order_bytes p
bytes_of p (Phase2b ins acc bal val) = map2b ∷ ins ∷ acc ∷ bal ∷ val ∷ order_bytes p
bytes_of p (Decision val) = map_decision ∷ val ∷ order_bytes p

-- how many bytes a message has
unfoldable pub message_length : Plan → Message → ℕ
message_length p m = length (bytes_of p m)

-- the bytes of a slot
abbrev pub slot_size : ℕ
slot_size = 8

-- a message followed by zeros, as it stands in a slot
unfoldable pub slot_of : Plan → Message → List ℕ
slot_of p m = bytes_of p m ++ replicate (slot_size - message_length p m) 0

-- the six maps
unfoldable pub is_known : ℕ → Bool
is_known map = eqb map map1a || eqb map map1b || eqb map map1b_vote || eqb map map2a || eqb map map2b || eqb map map_decision

-- the length of the message that a map begins: 2 and the count of its ones; 0 for an unknown map
unfoldable pub map_length : ℕ → ℕ
map_length map = cond (is_known map) (2 + ones map) 0

-- the message that a known map and the five bytes after it make
unfoldable pub fields_message : ℕ → ℕ → ℕ → ℕ → ℕ → ℕ → Message
fields_message map b1 b2 b3 b4 b5 =
    cond (eqb map map1a) (Phase1a b1 b2)
    (cond (eqb map map1b) (Phase1b b1 b2 b3 None)
    (cond (eqb map map1b_vote) (Phase1b b1 b2 b3 (cast_vote b4 b5))
    (cond (eqb map map2a) (Phase2a b1 b2 b3)
    (cond (eqb map map2b) (Phase2b b1 b2 b3 b4)
    (Decision b1)))))

-- the message that the bytes make, if their map is known
unfoldable pub decode : List ℕ → Message
decode bytes = fields_message (get_or bytes 0 0) (get_or bytes 1 0) (get_or bytes 2 0) (get_or bytes 3 0) (get_or bytes 4 0) (get_or bytes 5 0)

-- the two bytes before place `len` are the plan's order number
unfoldable pub has_order : Plan → ℕ → List ℕ → Bool
has_order p len bytes = eqb (get_or bytes (len - 2) 0) (p.order / 256) && eqb (get_or bytes (len - 1) 0) (p.order % 256)
