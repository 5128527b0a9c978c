-- The steps on the bytes of a table that holds messages are the steps on the messages.
--     peek_holds, edge_holds, messages_holds     the slot at a place, the edge, the messages before it
--     locate_holds     where a message stands or may be appended
--     store_holds      the table after a message was appended
--     slot_in_range    a message of a judged table is in range
-- Assumes nothing.
use Prim.Native.Nat.{ℕ, zero, suc, ◌+◌, ◌-◌, ◌*◌, ◌/◌, ◌≤◌, ◌<◌, zero-le}
use Rattle.std.specs.Prelude.{true, cond, ◌≡◌, get_or}
use mathlib.Core.List.{List, [], ◌∷◌, ◌++◌, map, append_assoc, map-append}
use Rattle.std.proofs.Math.Path.{refl, sym, ap, ap₂}
use Rattle.std.proofs.Common.{◌∙◌, le_of_suc-le-suc, not-suc-le-zero, drop_at, drop-drop}
use Rattle.std.proofs.Math.Decide.{dec_le}
use Rattle.std.proofs.Math.Numerals.{add-one}
use native.Mathlib.Omega.{arith}
use Rattle.std.proofs.Math.ListN.{length, take, drop, replicate, length-append}
use Rattle.std.proofs.lemmas.List.{length-map}
use Rattle.std.proofs.Math.Seq.{take_at}
use Rattle.message.specs.declared.Plan.{Plan}
use Rattle.message.specs.declared.Message.{Message}
use Rattle.message.specs.Form.{slot_of, decode, is_in_range}
use Rattle.message.proofs.Form.Laws.{length_slot_of, decode_slot_of, slot_of_used}
use Rattle.slots.specs.Table.{Slot, Unused, Used, is_table_length, is_table, messages, slot_size, slots, join_slots, table_of, same_bytes, store_at}
use Rattle.message.specs.Outcome.{accepted}
use Rattle.message.proofs.Outcome.Laws.{both, accepted_inj, accepted_not_refused}
use Rattle.slots.specs.declared.Place.TheVariants.{At}
use Rattle.slots.specs.Table.Scan.{peek_slot, peek_table, slot_message, peek_at, edge, slots_held, peek_messages, locate_from, locate}
use Rattle.slots.proofs.Table.Edge.{edge_within, edge_reached, edge_unused}
use Rattle.slots.proofs.Table.Laws.{first_slot}
use Rattle.slots.proofs.Table.Scan.Laws.{peek_slot_used, store_at_in}
use Rattle.slots.specs.Send.{same_message, place_from, place_in, message_at}
use Rattle.slots.proofs.Table.Holds.{Holds, holds_judged, zero_slot, AllSized, length_join_slots, slots_table_of, read_holding, length_holds, all_in_range}

peek_slot_of : (p : Plan) (m : Message) → peek_slot (slot_of p m) ≡ Used m
peek_slot_of p m = peek_slot_used (slot_of p m) (slot_of_used p m) ∙ ap Used (decode_slot_of p m)

holding_at : (ms : List Message) (j k : ℕ) → slot_message (get_or (map Used ms ++ replicate k Unused) j Unused) ≡ message_at ms j
unfolding message_at
holding_at [] j zero = refl
holding_at [] zero (suc k) = refl
holding_at [] (suc j) (suc k) = holding_at [] j k
holding_at (m ∷ ms) zero k = refl
holding_at (m ∷ ms) (suc j) k = holding_at ms j k

-- the first bytes of slots that hold messages, and of unused ones
used_first : (p : Plan) (ms : List Message) (k n : ℕ) → k < length ms → get_or (get_or (map (slot_of p) ms ++ replicate n zero_slot) k []) 0 0 ≡ 0 → ⊥
used_first p [] k n h e = not-suc-le-zero h
used_first p (m ∷ ms) zero n h e = slot_of_used p m e
used_first p (m ∷ ms) (suc k) n h e = used_first p ms k n (le_of_suc-le-suc h) e

unused_first : (p : Plan) (ms : List Message) (k n : ℕ) → length ms ≤ k → get_or (get_or (map (slot_of p) ms ++ replicate n zero_slot) k []) 0 0 ≡ 0
unused_first p [] k zero h = refl
unused_first p [] zero (suc n) h = refl
unused_first p [] (suc k) (suc n) h = unused_first p [] k n zero-le
unused_first p (m ∷ ms) zero n h = absurd (not-suc-le-zero h)
unused_first p (m ∷ ms) (suc k) n h = unused_first p ms k n (le_of_suc-le-suc h)

decode_slots : (p : Plan) (ms : List Message) → map decode (map (slot_of p) ms) ≡ ms
decode_slots p [] = refl
decode_slots p (m ∷ ms) = ap₂ (λ (a : Message) (b : List Message). a ∷ b) (decode_slot_of p m) (decode_slots p ms)

module _ (p : Plan) (room : ℕ) (ms : List Message) (t : List ℕ) (h : Holds p room ms t) where
  peek_table_lem : peek_table t ≡ map Used ms ++ replicate (room - length ms) Unused
  unfolding peek_table peek_slot
  peek_table_lem =
      ap (λ (u : List ℕ). map peek_slot (slots u)) h.form
      ∙ ap (map peek_slot) (slots_table_of p room ms)
      ∙ read_holding peek_slot Used Unused refl p ms (λ m i. peek_slot_of p m) h.in_range (room - length ms)

  pub peek_holds : (k : ℕ) → peek_at t k ≡ message_at ms k
  unfolding peek_at
  peek_holds k = ap (λ (l : List Slot). slot_message (get_or l k Unused)) peek_table_lem ∙ holding_at ms k (room - length ms)

  -- the edge is the number of messages: a slot begins with 0 exactly where it is after them
  pub edge_holds : edge t ≡ length ms
  edge_holds = go (dec_le (suc (length ms)) (edge t)) (dec_le (suc (edge t)) (length ms))
    where
      first : (k : ℕ) → k < length t / slot_size → get_or (get_or (map (slot_of p) ms ++ replicate (room - length ms) zero_slot) k []) 0 0 ≡ get_or t (k * slot_size) 0
      first k l = ap (λ (ss : List (List ℕ)). get_or (get_or ss k []) 0 0) (sym (ap slots h.form ∙ slots_table_of p room ms)) ∙ first_slot t k l

      go : Dec (length ms < edge t) → Dec (edge t < length ms) → edge t ≡ length ms
      go (yes more) d =
          absurd ((edge_reached t).before (omega arith)
          (sym (first (edge t - 1) (omega (arith, edge_within t))) ∙ unused_first p ms (edge t - 1) (room - length ms) (omega arith)))
      go (no n) (yes fewer) =
          let in_table : edge t < length t / slot_size = omega (arith, length_holds p room ms t h, h.fits) in
          absurd (used_first p ms (edge t) (room - length ms) fewer (first (edge t) in_table ∙ edge_unused t in_table))
      go (no n) (no m) = omega arith

  held_holds : slots_held t ≡ map (slot_of p) ms
  unfolding slots_held
  held_holds =
      ap₂ (λ (n : ℕ) (ss : List (List ℕ)). take n ss) edge_holds (ap slots h.form ∙ slots_table_of p room ms)
      ∙ take_at (map (slot_of p) ms) _ (length ms) (length-map ms (slot_of p))

  pub messages_holds : peek_messages t ≡ ms
  unfolding peek_messages
  messages_holds = ap (map decode) held_holds ∙ decode_slots p ms

-- looking for a message among the slots that hold messages
locate_holding : (p : Plan) (ms : List Message) (j room : ℕ) (m : Message) → locate_from j room (map (slot_of p) ms) (slot_of p m) ≡ place_from p j room ms m
unfolding locate_from place_from same_message
locate_holding p [] j room m = refl
locate_holding p (x ∷ ms) j room m = ap (cond (same_bytes (slot_of p x) (slot_of p m)) (At j)) (locate_holding p ms (suc j) room m)

join_slots_append : (a b : List (List ℕ)) → join_slots (a ++ b) ≡ join_slots a ++ join_slots b
unfolding join_slots
join_slots_append [] b = refl
join_slots_append (s ∷ a) b = ap (λ (r : List ℕ). s ++ r) (join_slots_append a b) ∙ sym (append_assoc s (join_slots a) (join_slots b))

sized_map : (p : Plan) (ms : List Message) → AllSized (map (slot_of p) ms)
sized_map p [] = tt
sized_map p (m ∷ ms) = (length_slot_of p m, sized_map p ms)

all_in_range_append : (p : Plan) (ms : List Message) (m : Message) → all_in_range p ms ≡ true → is_in_range p m ≡ true → all_in_range p (ms ++ (m ∷ [])) ≡ true
unfolding all_in_range
all_in_range_append p [] m h i = rw i
all_in_range_append p (x ∷ ms) m h i = let b = both (is_in_range p x) (all_in_range p ms) h in rw b.0 (all_in_range_append p ms m b.1 i)

-- a table with one unused slot more than `k`, and the same with a message put there
module _ (p : Plan) (ms : List Message) (m : Message) (k : ℕ) where
  filled : List ℕ
  filled = join_slots (map (slot_of p) ms)

  rest : List ℕ
  rest = join_slots (replicate k zero_slot)

  length_filled : length filled ≡ length ms * slot_size
  unfolding filled
  length_filled = length_join_slots (map (slot_of p) ms) (sized_map p ms) ∙ ap (λ (n : ℕ). n * slot_size) (length-map ms (slot_of p))

  -- the table before
  before : List ℕ
  before = filled ++ (zero_slot ++ rest)

  store_parts : take (length ms * slot_size) before ++ (slot_of p m ++ drop (length ms * slot_size + slot_size) before) ≡ filled ++ (slot_of p m ++ rest)
  unfolding before
  store_parts =
      ap₂ (λ (a b : List ℕ). a ++ (slot_of p m ++ b))
      (take_at filled (zero_slot ++ rest) (length ms * slot_size) length_filled)
      (sym (drop-drop slot_size (length ms * slot_size) before) ∙ ap (drop slot_size) (drop_at filled (zero_slot ++ rest) (length ms * slot_size) length_filled))

  parts_after : join_slots (map (slot_of p) (ms ++ (m ∷ [])) ++ replicate k zero_slot) ≡ filled ++ (slot_of p m ++ rest)
  unfolding filled rest join_slots
  parts_after =
      ap (λ (l : List (List ℕ)). join_slots (l ++ replicate k zero_slot)) (map-append (slot_of p) ms (m ∷ []))
      ∙ ap join_slots (append_assoc (map (slot_of p) ms) (slot_of p m ∷ []) (replicate k zero_slot))
      ∙ join_slots_append (map (slot_of p) ms) (slot_of p m ∷ replicate k zero_slot)

module _ (p : Plan) (room : ℕ) (ms : List Message) (t : List ℕ) (h : Holds p room ms t) (m : Message) where
  pub locate_holds : locate t (slot_of p m) ≡ place_in p room ms m
  unfolding locate place_in
  locate_holds =
      ap₂ (λ (r : ℕ) (ss : List (List ℕ)). locate_from 0 r ss (slot_of p m)) (omega (arith, length_holds p room ms t h)) (held_holds p room ms t h)
      ∙ locate_holding p ms 0 room m

  pub store_holds : length ms < room → is_in_range p m ≡ true → Holds p room (ms ++ (m ∷ [])) (store_at t (length ms) (slot_of p m))
  unfolding table_of before filled rest join_slots
  store_holds short i =
      let n : length (ms ++ (m ∷ [])) ≡ suc (length ms) = length-append ms (m ∷ []) ∙ add-one (length ms) in
      let k : ℕ = room - suc (length ms) in
      let e : room - length ms ≡ suc k = omega arith in
      let form : t ≡ before p ms m k = h.form ∙ ap (λ (j : ℕ). join_slots (map (slot_of p) ms ++ replicate j zero_slot)) e ∙ join_slots_append (map (slot_of p) ms) (replicate (suc k) zero_slot) in
      let in_table : length ms < length t / slot_size = omega (arith, length_holds p room ms t h) in
      record {
        form = store_at_in t (length ms) (slot_of p m) in_table ∙ ap (λ (u : List ℕ). take (length ms * slot_size) u ++ (slot_of p m ++ drop
            (length ms * slot_size + slot_size) u)) form ∙ store_parts p ms m k ∙ sym (parts_after p ms m k) ∙ ap (λ (j : ℕ). join_slots (map (slot_of p) (ms ++
            (m ∷ [])) ++ replicate (room - j) zero_slot)) (sym n);
        fits = rw n short;
        in_range = all_in_range_append p ms m h.in_range i;
      }

pub slot_in_range : (p : Plan) (t : List ℕ) → is_table_length (length t) ≡ true → is_table p t ≡ true
    → (k : ℕ) (m : Message) → message_at (messages p t) k ≡ accepted m → is_in_range p m ≡ true
unfolding message_at all_in_range
slot_in_range p t whole ordered k m e = go (messages p t) k (holds_judged p t whole ordered).in_range e
  where
    go : (ms : List Message) (k : ℕ) → all_in_range p ms ≡ true → message_at ms k ≡ accepted m → is_in_range p m ≡ true
    go [] k h e = absurd (accepted_not_refused e)
    go (x ∷ ms) zero h e = ap (is_in_range p) (sym (accepted_inj e)) ∙ (both (is_in_range p x) (all_in_range p ms) h).0
    go (x ∷ ms) (suc k) h e = go ms k (both (is_in_range p x) (all_in_range p ms) h).1 e
