-- The byte form: every message has one, of the length that its map stands for, and decoding gives the message back.
--     message_cases         the six forms of a message, for a rule that is computed at each
--     message_length_length, _bounds, map_length_bytes_of  the length of a form, and that its map stands for it
--     length_slot_of, first_slot_of, take_slot_of, drop_slot_of, slot_of_parts, map_length_slot_of, slot_of_used  a form followed by zeros
--     map_length_zero, first_bytes_of   no map is 0
--     map_length_known, _none, known_some, unknown_length    a known map's length, and that any other has none
--     is_known_other, map_length_unknown   any other than the six is unknown
--     known_map, known_decision, known_vote    a rule that holds of the six known maps holds of every map whose length is not 0
--     map_length_bound, _least    no message is longer than a slot, and none shorter than four bytes
--     decode_bytes_of, decode_slot_of      decoding the form of a message, or its slot, gives the message
--     bytes_of_decode       bytes with a known map, its length and the order number are the form of what they decode to
--     high_byte             the higher byte of an order number
--     has_order_bytes, order_compared    what is compared of the order number, byte by byte and as one number
--     has_order_bytes_of, _other, bytes_of_order  a form has its plan's order number and no other; no form is of two orders
-- Assumes nothing.
use Rattle.std.specs.Prelude.{None, Some, ℕ, zero, suc, ◌+◌, ◌*◌, ◌-◌, ◌/◌, ◌%◌, ◌≤◌, ◌<◌, Bool, true, false, ◌&&◌, List, [], ◌∷◌, ◌++◌, ◌≡◌, refl, eqb, length, get_or, take, drop, replicate}
use Rattle.std.proofs.Common.{zero-le, sym, ◌∙◌, ap, ap₂, subst, arith, mod-eq_of_lt, lit≤, length-append, drop_of_length-le, take-append-drop, drop-cons, eq-eqb, ne_eqb, eqb-true}
use Rattle.std.proofs.lemmas.Bool.{false≢true, eqb-false}
use Rattle.std.proofs.Math.Decide.{ℕ_discrete}
use Rattle.std.specs.Int.Count.{ones}
use Rattle.std.proofs.lemmas.List.{length-replicate}
use Rattle.std.proofs.Math.ListN.{get_or-append}
use Rattle.std.proofs.Math.Seq.{take-append_seam, drop-append_seam}
use Rattle.message.proofs.Outcome.Laws.{both}
use Rattle.message.specs.declared.Plan.{Plan}
use Rattle.message.specs.declared.Message.{Message}
use Rattle.message.specs.declared.Message.TheVariants.{Phase1a, Phase1b, Phase2a, Phase2b, Decision}
use Rattle.message.specs.Form.{cast_vote, map1a, map1b, map1b_vote, map2a, map2b, map_decision}
use Rattle.message.specs.Form.{bytes_of, bytes_of1b, message_length, slot_size, slot_of, is_known, map_length, fields_message, decode, has_order}

-- what is computed for each kind of message, at both kinds of vote
pub message_cases : (P : Message → Type 0)
    → ((ins bal : ℕ) → P (Phase1a ins bal))
    → ((ins acc mbal : ℕ) → P (Phase1b ins acc mbal None))
    → ((ins acc mbal bal val : ℕ) → P (Phase1b ins acc mbal (cast_vote bal val)))
    → ((ins bal val : ℕ) → P (Phase2a ins bal val))
    → ((ins acc bal val : ℕ) → P (Phase2b ins acc bal val))
    → ((val : ℕ) → P (Decision val))
    → (m : Message) → P m
message_cases P a n c b d e (Phase1a ins bal) = a ins bal
message_cases P a n c b d e (Phase1b ins acc mbal vote) =
    elim vote as (λ v. P (Phase1b ins acc mbal v)) [ None ↦ n ins acc mbal | Some w ↦ c ins acc mbal w.bal w.val ]
message_cases P a n c b d e (Phase2a ins bal val) = b ins bal val
message_cases P a n c b d e (Phase2b ins acc bal val) = d ins acc bal val
message_cases P a n c b d e (Decision val) = e val

pub message_length_length : (p : Plan) (m : Message) → length (bytes_of p m) ≡ message_length p m
unfolding message_length
message_length_length p m = refl

pub message_length_bounds : (p : Plan) (m : Message) → (1 ≤ message_length p m) × (message_length p m ≤ slot_size)
unfolding message_length bytes_of bytes_of1b
message_length_bounds p =
    message_cases _
    (λ i b. (lit≤ tt, lit≤ tt))
    (λ i a m. (lit≤ tt, lit≤ tt))
    (λ i a m b v. (lit≤ tt, lit≤ tt))
    (λ i b v. (lit≤ tt, lit≤ tt))
    (λ i a b v. (lit≤ tt, lit≤ tt))
    (λ v. (lit≤ tt, lit≤ tt))

pub map_length_bytes_of : (p : Plan) (m : Message) → map_length (get_or (bytes_of p m) 0 0) ≡ message_length p m
unfolding map_length is_known ones message_length bytes_of bytes_of1b
map_length_bytes_of p =
    message_cases _ (λ i b. refl) (λ i a m. refl) (λ i a m b v. refl) (λ i b v. refl) (λ i a b v. refl) (λ v. refl)

pub length_slot_of : (p : Plan) (m : Message) → length (slot_of p m) ≡ slot_size
unfolding slot_of message_length
length_slot_of p m = simp (length-append, length-replicate) (omega (arith, (message_length_bounds p m).1))

-- the first byte of a slot is the message's map
pub first_slot_of : (p : Plan) (m : Message) → get_or (slot_of p m) 0 0 ≡ get_or (bytes_of p m) 0 0
unfolding slot_of message_length
first_slot_of p m = get_or-append (bytes_of p m) _ 0 0 (message_length_bounds p m).0

pub take_slot_of : (p : Plan) (m : Message) → take (message_length p m) (slot_of p m) ≡ bytes_of p m
unfolding slot_of message_length
take_slot_of p m = take-append_seam (bytes_of p m) _

pub drop_slot_of : (p : Plan) (m : Message) → drop (message_length p m) (slot_of p m) ≡ replicate (slot_size - message_length p m) 0
unfolding slot_of message_length
drop_slot_of p m = drop-append_seam (bytes_of p m) _

-- bytes that are a message's followed by zeros are its slot
pub slot_of_parts : (p : Plan) (m : Message) (s : List ℕ)
    → take (message_length p m) s ≡ bytes_of p m → drop (message_length p m) s ≡ replicate (slot_size - message_length p m) 0 → s ≡ slot_of p m
slot_of_parts p m s front rest =
    sym (take-append-drop (message_length p m) s)
    ∙ ap₂ (λ (a b : List ℕ). a ++ b) (front ∙ sym (take_slot_of p m)) (rest ∙ sym (drop_slot_of p m))
    ∙ take-append-drop (message_length p m) (slot_of p m)

pub map_length_slot_of : (p : Plan) (m : Message) → map_length (get_or (slot_of p m) 0 0) ≡ message_length p m
map_length_slot_of p m = ap map_length (first_slot_of p m) ∙ map_length_bytes_of p m

-- no map is 0
pub map_length_zero : map_length 0 ≡ 0
unfolding map_length is_known ones
map_length_zero = refl

pub first_bytes_of : (p : Plan) (m : Message) → get_or (bytes_of p m) 0 0 ≡ 0 → ⊥
unfolding bytes_of bytes_of1b
first_bytes_of p =
    message_cases _
    (λ i b. eqb-false map1a 0 refl)
    (λ i a m. eqb-false map1b 0 refl)
    (λ i a m b v. eqb-false map1b_vote 0 refl)
    (λ i b v. eqb-false map2a 0 refl)
    (λ i a b v. eqb-false map2b 0 refl)
    (λ v. eqb-false map_decision 0 refl)

pub slot_of_used : (p : Plan) (m : Message) → get_or (slot_of p m) 0 0 ≡ 0 → ⊥
slot_of_used p m e = first_bytes_of p m (sym (first_slot_of p m) ∙ e)

-- by whether the map is known
module _ (map : ℕ) where
  pub map_length_known : is_known map ≡ true → map_length map ≡ 2 + ones map
  unfolding map_length
  map_length_known known = rw known

  pub map_length_none : is_known map ≡ false → map_length map ≡ 0
  unfolding map_length
  map_length_none unknown = rw unknown

  pub known_some : is_known map ≡ true → map_length map ≡ 0 → ⊥
  known_some known none = let some : 2 + ones map ≡ 0 = sym (map_length_known known) ∙ none in omega arith

  pub unknown_length : map_length map ≡ 0 → is_known map ≡ false
  unknown_length none = go (is_known map) refl
    where
      go : (b : Bool) → is_known map ≡ b → b ≡ false
      go true known = absurd (known_some known none)
      go false unknown = refl

-- any other map than the six is unknown, and has no length
pub is_known_other : (map : ℕ)
    → (map ≡ map1a → ⊥) → (map ≡ map1b → ⊥) → (map ≡ map1b_vote → ⊥) → (map ≡ map2a → ⊥) → (map ≡ map2b → ⊥) → (map ≡ map_decision → ⊥)
    → is_known map ≡ false
unfolding is_known
is_known_other map not1a not1b not1bVote not2a not2b notDecision =
    rw (
      ne_eqb map map1a not1a,
      ne_eqb map map1b not1b,
      ne_eqb map map1b_vote not1bVote,
      ne_eqb map map2a not2a,
      ne_eqb map map2b not2b,
      ne_eqb map map_decision notDecision,
    )

pub map_length_unknown : (map : ℕ)
    → (map ≡ map1a → ⊥) → (map ≡ map1b → ⊥) → (map ≡ map1b_vote → ⊥) → (map ≡ map2a → ⊥) → (map ≡ map2b → ⊥) → (map ≡ map_decision → ⊥)
    → map_length map ≡ 0
map_length_unknown map not1a not1b not1bVote not2a not2b notDecision =
    map_length_none map (is_known_other map not1a not1b not1bVote not2a not2b notDecision)

-- a rule that holds of the six known maps holds of every map with a length
pub known_map : (P : ℕ → Type 0) → P map1a → P map1b → P map1b_vote → P map2a → P map2b → P map_decision → (map : ℕ) → (map_length map ≡ 0 → ⊥) → P map
known_map P of1a of1b of1bVote of2a of2b ofDecision map known =
    at map1a of1a
    (λ not1a. at map1b of1b
    (λ not1b. at map1b_vote of1bVote
    (λ not1bVote. at map2a of2a
    (λ not2a. at map2b of2b
    (λ not2b. at map_decision ofDecision
    (λ notDecision. absurd (known (map_length_unknown map not1a not1b not1bVote not2a not2b notDecision))))))))
  where
    at : (k : ℕ) → P k → ((map ≡ k → ⊥) → P map) → P map
    at k pk rest = elim (ℕ_discrete map k) [ yes e ↦ subst P (sym e) pk | no n ↦ rest n ]

-- the last map of each group, where a branch has tested the others
pub known_decision : (map : ℕ) → is_known map ≡ true → map < map2a → (map ≡ map1a → ⊥) → (map ≡ map1b → ⊥) → map ≡ map_decision
known_decision map known low not1a not1b =
    known_map (λ (k : ℕ). k < map2a → (k ≡ map1a → ⊥) → (k ≡ map1b → ⊥) → k ≡ map_decision)
    (λ l a b. absurd (a refl))
    (λ l a b. absurd (b refl))
    (λ l a b. omega arith)
    (λ l a b. omega arith)
    (λ l a b. omega arith)
    (λ l a b. refl)
    map (known_some map known) low not1a not1b

pub known_vote : (map : ℕ) → is_known map ≡ true → map2a ≤ map → (map ≡ map2a → ⊥) → (map ≡ map2b → ⊥) → map ≡ map1b_vote
known_vote map known high not2a not2b =
    known_map (λ (k : ℕ). map2a ≤ k → (k ≡ map2a → ⊥) → (k ≡ map2b → ⊥) → k ≡ map1b_vote)
    (λ h a b. omega arith)
    (λ h a b. omega arith)
    (λ h a b. refl)
    (λ h a b. absurd (a refl))
    (λ h a b. absurd (b refl))
    (λ h a b. omega arith)
    map (known_some map known) high not2a not2b

-- no message is longer than a slot
pub map_length_bound : (map : ℕ) → map_length map ≤ slot_size
unfolding map_length is_known ones
map_length_bound map =
    elim (ℕ_discrete (map_length map) 0) [
      | yes e ↦ rw e zero-le
      | no known ↦ known_map (λ (k : ℕ). map_length k ≤ slot_size) (lit≤ tt) (lit≤ tt) (lit≤ tt) (lit≤ tt) (lit≤ tt) (lit≤ tt) map known
    ]

-- and a known one is four at least
pub map_length_least : (map : ℕ) → (map_length map ≡ 0 → ⊥) → 4 ≤ map_length map
unfolding map_length is_known ones
map_length_least = known_map (λ (map : ℕ). 4 ≤ map_length map) (lit≤ tt) (lit≤ tt) (lit≤ tt) (lit≤ tt) (lit≤ tt) (lit≤ tt)

pub decode_bytes_of : (p : Plan) (m : Message) → decode (bytes_of p m) ≡ m
unfolding decode fields_message bytes_of bytes_of1b
decode_bytes_of p =
    message_cases _ (λ i b. refl) (λ i a m. refl) (λ i a m b v. refl) (λ i b v. refl) (λ i a b v. refl) (λ v. refl)

pub decode_slot_of : (p : Plan) (m : Message) → decode (slot_of p m) ≡ m
unfolding decode fields_message slot_of message_length bytes_of bytes_of1b
decode_slot_of p =
    message_cases _ (λ i b. refl) (λ i a m. refl) (λ i a m b v. refl) (λ i b v. refl) (λ i a b v. refl) (λ v. refl)

-- the n elements from place k on, one by one
firsts : ℕ → ℕ → List ℕ → List ℕ
firsts zero k l = []
firsts (suc n) k l = get_or l k 0 ∷ firsts n (suc k) l

drop_firsts : (n k : ℕ) (l : List ℕ) → length l ≡ k + n → drop k l ≡ firsts n k l
unfolding firsts
drop_firsts zero k l e = drop_of_length-le l {i = k} (omega arith)
drop_firsts (suc n) k l e = rw (drop-cons l k 0 (omega arith)) (ap (λ (r : List ℕ). get_or l k 0 ∷ r) (drop_firsts n (suc k) l (omega arith)))

-- the fields of `bytes` with `map` in the first place make a message whose form is `bytes`
Formed : Plan → List ℕ → ℕ → Type 0
Formed p bytes map = get_or bytes 0 0 ≡ map → length bytes ≡ map_length map → has_order p (map_length map) bytes ≡ true
    → bytes_of p (fields_message map (get_or bytes 1 0) (get_or bytes 2 0) (get_or bytes 3 0) (get_or bytes 4 0) (get_or bytes 5 0)) ≡ bytes

pub bytes_of_decode : (p : Plan) (bytes : List ℕ) → (map_length (get_or bytes 0 0) ≡ 0 → ⊥) → length bytes ≡ map_length (get_or bytes 0 0)
    → has_order p (map_length (get_or bytes 0 0)) bytes ≡ true → bytes_of p (decode bytes) ≡ bytes
unfolding decode Formed bytes_of bytes_of1b fields_message map_length is_known ones firsts has_order
bytes_of_decode p bytes known n order =
    known_map (Formed p bytes)
    (λ h n o. let b = ends 3 o in rw (h, b.0, b.1) at (sym (drop_firsts 5 0 bytes n)))
    (λ h n o. let b = ends 4 o in rw (h, b.0, b.1) at (sym (drop_firsts 6 0 bytes n)))
    (λ h n o. let b = ends 6 o in rw (h, b.0, b.1) at (sym (drop_firsts 8 0 bytes n)))
    (λ h n o. let b = ends 4 o in rw (h, b.0, b.1) at (sym (drop_firsts 6 0 bytes n)))
    (λ h n o. let b = ends 5 o in rw (h, b.0, b.1) at (sym (drop_firsts 7 0 bytes n)))
    (λ h n o. let b = ends 2 o in rw (h, b.0, b.1) at (sym (drop_firsts 4 0 bytes n)))
    (get_or bytes 0 0) known refl n order
  where
    ends : (k : ℕ) → (eqb (get_or bytes k 0) (p.order / 256) && eqb (get_or bytes (suc k) 0) (p.order % 256)) ≡ true
        → (get_or bytes k 0 ≡ p.order / 256) × (get_or bytes (suc k) 0 ≡ p.order % 256)
    ends k o = let b = both (eqb (get_or bytes k 0) (p.order / 256)) _ o in (eqb-true _ _ b.0, eqb-true _ _ b.1)

-- the higher byte, as the library's `to_be_bytes` has it
pub high_byte : (order : ℕ) → order < 65536 → order / 256 % 256 ≡ order / 256
high_byte order h = mod-eq_of_lt (omega arith)

-- what is compared: each byte with its half of the number; or both as one number
pub has_order_bytes : (p : Plan) (len : ℕ) (bytes : List ℕ)
    → has_order p len bytes ≡ (eqb (get_or bytes (len - 2) 0) (p.order / 256) && eqb (get_or bytes (len - 1) 0) (p.order % 256))
unfolding has_order
has_order_bytes p len bytes = refl

pub order_compared : (high low order : ℕ) → low < 256 → eqb (256 * high + low) order ≡ (eqb high (order / 256) && eqb low (order % 256))
order_compared high low order small = go (ℕ_discrete high (order / 256)) (ℕ_discrete low (order % 256))
  where
    go : Dec (high ≡ order / 256) → Dec (low ≡ order % 256) → eqb (256 * high + low) order ≡ (eqb high (order / 256) && eqb low (order % 256))
    go (yes e) (yes f) = rw (eq-eqb high (order / 256) e, eq-eqb low (order % 256) f) (eq-eqb (256 * high + low) order (omega arith))
    go (yes e) (no f) = rw (eq-eqb high (order / 256) e, ne_eqb low (order % 256) f) (ne_eqb (256 * high + low) order (λ is. f (omega arith)))
    go (no e) d = rw (ne_eqb high (order / 256) e) (ne_eqb (256 * high + low) order (λ is. e (omega arith)))

-- a form has the plan's order number, and no other
pub has_order_bytes_of : (p : Plan) (m : Message) → has_order p (message_length p m) (bytes_of p m) ≡ true
unfolding has_order message_length bytes_of bytes_of1b
has_order_bytes_of p = message_cases _ (λ i b. same) (λ i a m. same) (λ i a m b v. same) (λ i b v. same) (λ i a b v. same) (λ v. same)
  where
    same : (eqb (p.order / 256) (p.order / 256) && eqb (p.order % 256) (p.order % 256)) ≡ true
    same = rw (eq-eqb (p.order / 256) _ refl, eq-eqb (p.order % 256) _ refl)

pub has_order_other : (p q : Plan) → (p.order ≡ q.order → ⊥) → (m : Message) → has_order p (message_length q m) (bytes_of q m) ≡ false
unfolding has_order message_length bytes_of bytes_of1b
has_order_other p q differs = message_cases _ (λ i b. other) (λ i a m. other) (λ i a m b v. other) (λ i b v. other) (λ i a b v. other) (λ v. other)
  where
    go : Dec (q.order / 256 ≡ p.order / 256) → Dec (q.order % 256 ≡ p.order % 256)
        → (eqb (q.order / 256) (p.order / 256) && eqb (q.order % 256) (p.order % 256)) ≡ false
    go (yes h) (yes l) = absurd (differs (omega arith))
    go (yes h) (no l) = rw (eq-eqb _ _ h, ne_eqb _ _ l)
    go (no h) d = rw (ne_eqb _ _ h)

    other : (eqb (q.order / 256) (p.order / 256) && eqb (q.order % 256) (p.order % 256)) ≡ false
    other = go (ℕ_discrete _ _) (ℕ_discrete _ _)

-- two orders have no form in common
pub bytes_of_order : (p q : Plan) (m n : Message) → (p.order ≡ q.order → ⊥) → bytes_of p m ≡ bytes_of q n → ⊥
bytes_of_order p q m n differs e =
    false≢true (sym (has_order_other p q differs n)
    ∙ ap (λ (len : ℕ). has_order p len (bytes_of q n)) (sym (map_length_bytes_of q n))
    ∙ ap (λ (l : List ℕ). has_order p (map_length (get_or l 0 0)) l) (sym e)
    ∙ ap (λ (len : ℕ). has_order p len (bytes_of p m)) (map_length_bytes_of p m)
    ∙ has_order_bytes_of p m)
