-- What a judged table holds.
--     all_in_range           all of these messages are in range
--     Holds                  a table of `room` slots holds these messages
--     holds_table            a table of whole slots that was judged well formed holds its messages
--     holds_judged           so does one whose length and order were judged
--     table_holds            a table that holds messages is well formed, and they are its messages
--     length_table_of, length_holds, slots_table_of, read_holding   its length and its slots
-- Assumes nothing.
use Prim.Native.Nat.{ℕ, zero, suc, ◌+◌, ◌-◌, ◌*◌, ◌/◌, ◌%◌, ◌≤◌, zero-le, suc-le-suc}
use Rattle.std.specs.Prelude.{Bool, true, false, ◌&&◌, cond, ◌≡◌, refl, get_or, take, drop, replicate, eqb}
use Rattle.std.proofs.lemmas.Bool.{false≢true}
use mathlib.Core.List.{List, [], ◌∷◌, ◌++◌, map}
use Rattle.std.proofs.Common.{sym, ◌∙◌, le_of_eq, arith, length-append, length-drop, take_all, take_at, drop_at, length-take-le, lit≤, ne_eqb, eqb-true}
use Rattle.std.proofs.Math.Path.{ap, ap₂}
use Rattle.std.proofs.Math.Nat.{sub-zero, suc-sub-suc}
use Rattle.std.proofs.Math.ListN.{length}
use Rattle.std.proofs.lemmas.List.{length-replicate, length-map}
use Rattle.message.specs.declared.Plan.{Plan}
use Rattle.message.specs.declared.Message.{Message}
use Rattle.message.specs.Outcome.{Outcome, accepted, refused}
use Rattle.message.specs.Plan.{is_plan}
use Rattle.message.specs.Form.{message_length, slot_of, map_length, is_in_range}
use Rattle.message.proofs.Form.Laws.{message_length_length, map_length_bound, length_slot_of, take_slot_of, drop_slot_of}
use Rattle.message.specs.Codec.{read_message}
use Rattle.message.proofs.Codec.Laws.{read_message_form, read_message_bytes_of}
use Rattle.slots.specs.Table.{Slot, Unused, Used, Bad, slot_size, is_table_length, slots_up_to, slots, is_zero}
use Rattle.slots.specs.Table.{used_slot, read_slot, read_table, is_table, is_ordered, all_unused, used_messages, messages, join_slots, table_of}
use Rattle.slots.specs.All.{all}
use Rattle.message.proofs.Outcome.Laws.{both}
use Rattle.slots.proofs.All.Laws.{all_stop}
use Rattle.message.proofs.Form.Laws.{slot_of_used, map_length_slot_of, slot_of_parts}
use Rattle.slots.proofs.Table.Laws.{is_zero_replicate, is_zero_form, length_slots_up_to, join_slots_slots_up_to, read_slot_unused, read_slot_used}

-- all of these messages are in range
unfoldable pub all_in_range : Plan → List Message → Bool
all_in_range p [] = true
all_in_range p (m ∷ ms) = is_in_range p m && all_in_range p ms

-- an unused slot
abbrev pub zero_slot : List ℕ
zero_slot = replicate slot_size 0

-- a used slot is its message's slot
used_form : (p : Plan) (s : List ℕ) (m : Message) → length s ≡ slot_size → read_message p (take (map_length (get_or s 0 0)) s) ≡ accepted m → is_zero (drop (map_length (get_or s 0 0)) s) ≡ true
    → (is_in_range p m ≡ true) × (s ≡ slot_of p m)
used_form p s m n e z =
    let len : ℕ = map_length (get_or s 0 0) in
    let f = read_message_form p (take len s) m e in
    let short : len ≤ length s = rw n (map_length_bound _) in
    let len_is : len ≡ message_length p m = sym (length-take-le len s short) ∙ ap length f.bytes_form ∙ message_length_length p m in
    let left : length (drop len s) ≡ slot_size - message_length p m = length-drop len s ∙ ap₂ ◌-◌ n len_is in
    let rest : drop len s ≡ replicate (slot_size - message_length p m) 0 = is_zero_form (drop len s) z ∙ ap (λ (k : ℕ). replicate k 0) left in
    (f.in_range, slot_of_parts p m s (rw len_is at f.bytes_form) (rw len_is at rest))

-- a slot is unused and zeros, or used and the slot of a message in range, or bad
data SlotCase (p : Plan) (s : List ℕ) : Slot → Type 0 where
  unused : s ≡ zero_slot → SlotCase p s Unused
  used : (m : Message) → is_in_range p m ≡ true → s ≡ slot_of p m → SlotCase p s (Used m)
  bad : SlotCase p s Bad

slot_case : (p : Plan) (s : List ℕ) → length s ≡ slot_size → SlotCase p s (read_slot p s)
unfolding read_slot
slot_case p s n = go (is_zero s) _ _ refl refl refl
  where
    go : (z : Bool) (o : Outcome Message) (r : Bool) → is_zero s ≡ z → read_message p (take (map_length (get_or s 0 0)) s) ≡ o → is_zero (drop (map_length (get_or s 0 0)) s) ≡ r
        → SlotCase p s (cond z Unused (used_slot o r))
    go true o r z e k = unused (is_zero_form s z ∙ ap (λ (j : ℕ). replicate j 0) n)
    go false (refused number) r z e k = bad
    go false (accepted m) true z e k = let u = used_form p s m n e k in used m u.0 u.1
    go false (accepted m) false z e k = bad

-- slots of a slot's size
abbrev pub AllSized : List (List ℕ) → Type 0
AllSized [] = Unit {0}
AllSized (s ∷ ss) = (length s ≡ slot_size) × AllSized ss

sized_slots_up_to : (n : ℕ) (t : List ℕ) → n * slot_size ≤ length t → AllSized (slots_up_to n t)
unfolding slots_up_to
sized_slots_up_to zero t h = tt
sized_slots_up_to (suc n) t h = (length-take-le slot_size t (omega arith), sized_slots_up_to n (drop slot_size t) (rw (length-drop slot_size t) (omega arith)))

-- slots that hold these messages, and are unused after them
record SlotsHold (p : Plan) (ss : List (List ℕ)) (ms : List Message) : Type 0 where
  pub form : ss ≡ map (slot_of p) ms ++ replicate (length ss - length ms) zero_slot
  pub room : length ms ≤ length ss
  pub in_range : all_in_range p ms ≡ true

pub unused_none : (l : List Slot) → all_unused l ≡ true → (is_ordered l ≡ true) × (used_messages l ≡ [])
unfolding all_unused is_ordered used_messages
unused_none [] e = (refl, refl)
unused_none (Unused ∷ l) e = (e, (unused_none l e).1)
unused_none (Used m ∷ l) e = absurd (false≢true e)
unused_none (Bad ∷ l) e = absurd (false≢true e)

module _ (p : Plan) (s : List ℕ) (ss : List (List ℕ)) (l : List Slot) (rest : is_ordered l ≡ true → SlotsHold p ss (used_messages l)) where
  hold_cons : (k : Slot) → SlotCase p s k → is_ordered (k ∷ l) ≡ true → SlotsHold p (s ∷ ss) (used_messages (k ∷ l))
  unfolding is_ordered used_messages all_in_range
  hold_cons k bad o = absurd (false≢true o)
  hold_cons k (used m i e) o =
      let r = rest o in
      record {
        form = ap₂ (λ (a : List ℕ) (b : List (List ℕ)). a ∷ b) e (r.form ∙ rw suc-sub-suc);
        room = suc-le-suc r.room;
        in_range = rw i r.in_range;
      }
  hold_cons k (unused e) o =
      let u = unused_none l o in
      let r = rest u.0 in
      let none : SlotsHold p ss [] = rw u.1 at r in
      rw u.1
      (record {
        form = rw sub-zero (ap₂ (λ (a : List ℕ) (b : List (List ℕ)). a ∷ b) e (rw sub-zero at none.form));
        room = zero-le;
        in_range = refl;
      })

slots_hold : (p : Plan) (ss : List (List ℕ)) → AllSized ss → is_ordered (map (read_slot p) ss) ≡ true → SlotsHold p ss (used_messages (map (read_slot p) ss))
unfolding used_messages all_in_range
slots_hold p [] sized o = record { form = refl; room = zero-le; in_range = refl }
slots_hold p (s ∷ ss) sized o =
    hold_cons p s ss (map (read_slot p) ss) (slots_hold p ss sized.1) (read_slot p s) (slot_case p s sized.0) o

-- a table of `room` slots holds these messages
pub record Holds (p : Plan) (room : ℕ) (ms : List Message) (t : List ℕ) : Type 0 where
  pub form : t ≡ table_of p room ms
  pub fits : length ms ≤ room
  pub in_range : all_in_range p ms ≡ true

pub holds_table : (p : Plan) (t : List ℕ) → length t % slot_size ≡ 0 → is_table p t ≡ true → Holds p (length t / slot_size) (messages p t) t
unfolding is_table messages read_table slots table_of
holds_table p t w o =
    let n : ℕ = length t / slot_size in
    let whole : n * slot_size ≡ length t = omega arith in
    let h = slots_hold p (slots_up_to n t) (sized_slots_up_to n t (le_of_eq whole)) o in
    record {
      form = sym (join_slots_slots_up_to n t ∙ take_all _ t (le_of_eq (sym whole))) ∙ ap join_slots (h.form ∙ rw (length_slots_up_to n t));
      fits = rw (length_slots_up_to n t) at h.room;
      in_range = h.in_range;
    }

pub holds_judged : (p : Plan) (t : List ℕ) → is_table_length (length t) ≡ true → is_table p t ≡ true → Holds p (length t / slot_size) (messages p t) t
unfolding is_table_length
holds_judged p t l o = holds_table p t (eqb-true _ _ (both _ _ l).0) o

-- slots put together and taken apart again
pub length_join_slots : (ss : List (List ℕ)) → AllSized ss → length (join_slots ss) ≡ length ss * slot_size
unfolding join_slots
length_join_slots [] sized = refl
length_join_slots (s ∷ ss) sized = length-append s (join_slots ss) ∙ ap₂ ◌+◌ sized.0 (length_join_slots ss sized.1) ∙ omega arith

slots_up_to_join_slots : (ss : List (List ℕ)) → AllSized ss → slots_up_to (length ss) (join_slots ss) ≡ ss
unfolding join_slots slots_up_to
slots_up_to_join_slots [] sized = refl
slots_up_to_join_slots (s ∷ ss) sized =
    ap₂ (λ (a : List ℕ) (b : List (List ℕ)). a ∷ b)
    (take_at s (join_slots ss) slot_size sized.0)
    (ap (slots_up_to (length ss)) (drop_at s (join_slots ss) slot_size sized.0) ∙ slots_up_to_join_slots ss sized.1)

slots_join_slots : (ss : List (List ℕ)) → AllSized ss → slots (join_slots ss) ≡ ss
unfolding slots
slots_join_slots ss sized =
    let n : length (join_slots ss) / slot_size ≡ length ss = omega (arith, length_join_slots ss sized) in
    ap (λ (k : ℕ). slots_up_to k (join_slots ss)) n ∙ slots_up_to_join_slots ss sized

pub sized_holding : (p : Plan) (ms : List Message) (k : ℕ) → AllSized (map (slot_of p) ms ++ replicate k zero_slot)
sized_holding p [] zero = tt
sized_holding p [] (suc k) = (refl, sized_holding p [] k)
sized_holding p (m ∷ ms) k = (length_slot_of p m, sized_holding p ms k)

length_holding : (p : Plan) (ms : List Message) (k : ℕ) → length (map (slot_of p) ms ++ replicate k zero_slot) ≡ length ms + k
length_holding p ms k = length-append (map (slot_of p) ms) _ ∙ ap₂ ◌+◌ (length-map ms (slot_of p)) (length-replicate k zero_slot)

pub length_table_of : (p : Plan) (room : ℕ) (ms : List Message) → length ms ≤ room → length (table_of p room ms) ≡ room * slot_size
unfolding table_of
length_table_of p room ms h =
    let n : length ms + (room - length ms) ≡ room = omega arith in
    length_join_slots _ (sized_holding p ms (room - length ms)) ∙ ap (λ (k : ℕ). k * slot_size) (length_holding p ms (room - length ms) ∙ n)

pub slots_table_of : (p : Plan) (room : ℕ) (ms : List Message) → slots (table_of p room ms) ≡ map (slot_of p) ms ++ replicate (room - length ms) zero_slot
unfolding table_of
slots_table_of p room ms = slots_join_slots _ (sized_holding p ms (room - length ms))

-- what a rule of slots makes of a table, if it gives `made m` for a message's slot and `none` for zeros
module _ {A : Type 0} (read : List ℕ → A) (made : Message → A) (none : A) (of-zeros : read zero_slot ≡ none) where
  read_unused : (k : ℕ) → map read (replicate k zero_slot) ≡ replicate k none
  read_unused zero = refl
  read_unused (suc k) = ap₂ (λ (a : A) (b : List A). a ∷ b) of-zeros (read_unused k)

  pub read_holding : (p : Plan) (ms : List Message) → ((m : Message) → is_in_range p m ≡ true → read (slot_of p m) ≡ made m)
      → all_in_range p ms ≡ true → (k : ℕ) → map read (map (slot_of p) ms ++ replicate k zero_slot) ≡ map made ms ++ replicate k none
  unfolding all_in_range
  read_holding p [] one i k = read_unused k
  read_holding p (m ∷ ms) one i k =
      let b = both (is_in_range p m) (all_in_range p ms) i in
      ap₂ (λ (a : A) (b : List A). a ∷ b) (one m b.0) (read_holding p ms one b.1 k)

pub is_zero_slot_of : (p : Plan) (m : Message) → is_zero (slot_of p m) ≡ false
unfolding is_zero
is_zero_slot_of p m = all_stop (λ x. eqb x 0) (slot_of p m) 0 (rw (length_slot_of p m) (lit≤ tt)) (ne_eqb _ _ (slot_of_used p m))

read_slot_of : (p : Plan) → is_plan p ≡ true → (m : Message) → is_in_range p m ≡ true → read_slot p (slot_of p m) ≡ Used m
read_slot_of p h m i =
    read_slot_used p (slot_of p m) (is_zero_slot_of p m) m
    (rw (map_length_slot_of p m, take_slot_of p m) (read_message_bytes_of p m h i))
    (rw (map_length_slot_of p m, drop_slot_of p m) (is_zero_replicate (slot_size - message_length p m)))

-- the slots of a table that holds messages, as they are read
holding_ordered : (ms : List Message) (k : ℕ) → is_ordered (map Used ms ++ replicate k Unused) ≡ true
unfolding is_ordered all_unused
holding_ordered [] zero = refl
holding_ordered [] (suc k) = all k
  where
    all : (k : ℕ) → all_unused (replicate k Unused) ≡ true
    all zero = refl
    all (suc k) = all k
holding_ordered (m ∷ ms) k = holding_ordered ms k

holding_messages : (ms : List Message) (k : ℕ) → used_messages (map Used ms ++ replicate k Unused) ≡ ms
unfolding used_messages
holding_messages [] zero = refl
holding_messages [] (suc k) = holding_messages [] k
holding_messages (m ∷ ms) k = ap (λ (r : List Message). m ∷ r) (holding_messages ms k)

module _ (p : Plan) (room : ℕ) (ms : List Message) (t : List ℕ) (h : Holds p room ms t) where
  read_table_lem : is_plan p ≡ true → read_table p t ≡ map Used ms ++ replicate (room - length ms) Unused
  unfolding read_table is_zero all
  read_table_lem plan =
      ap (λ (u : List ℕ). map (read_slot p) (slots u)) h.form
      ∙ ap (map (read_slot p)) (slots_table_of p room ms)
      ∙ read_holding (read_slot p) Used Unused (read_slot_unused p zero_slot refl) p ms (read_slot_of p plan) h.in_range (room - length ms)

  pub table_holds : is_plan p ≡ true → (is_table p t ≡ true) × (messages p t ≡ ms)
  unfolding is_table messages
  table_holds plan = (ap is_ordered (read_table_lem plan) ∙ holding_ordered ms (room - length ms), ap used_messages (read_table_lem plan) ∙ holding_messages ms (room - length ms))

  pub length_holds : length t ≡ room * slot_size
  length_holds = ap length h.form ∙ length_table_of p room ms h.fits
