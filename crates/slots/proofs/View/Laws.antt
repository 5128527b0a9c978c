-- On a judged table the view of the bytes is the view of the messages, and so are stores.
--     PlaceCase, place_case    the three places: the first where an equal message stands, or the first unused slot, or no room
--     view_holds, view_judged  the two views agree, where the table holds messages, and where it was judged
--     Sent, send_sent          an accepted send: the first slot where the message stands, and what the table then holds
--     send_full                a send without room: the message is absent and every slot is used
--     send_absent, send_absent_full     on any bytes: a message that is absent goes after the messages there, or has no room
-- Assumes nothing.
use Rattle.std.specs.Prelude.{ℕ, zero, suc, ◌+◌, ◌/◌, ◌≤◌, ◌<◌, Bool, true, false, List, [], ◌∷◌, ◌++◌, map, ◌⊎◌, ◌≡◌, refl, ltb, length, None, Option}
use Rattle.std.proofs.Math.Bool.{cond}
use Rattle.std.proofs.lemmas.Bool.{false≢true}
use Rattle.std.proofs.Common.{inl, inr, ◌∙◌, subst₂, add-zero, zero-add, le_of_suc-le-suc, not-suc-le-zero, arith, lt-ltb, le-ltb, ltb-true, ltb-false}
use Rattle.std.proofs.Math.Path.{sym, ap, fun_ext}
use Rattle.std.proofs.Math.ListN.{length-map}
use Rattle.message.specs.declared.Plan.{Plan}
use Rattle.message.specs.declared.Message.{Message}
use Rattle.message.specs.Outcome.{accepted}
use Rattle.message.specs.Form.{slot_of, decode, is_in_range}
use Rattle.message.proofs.Form.Laws.{decode_slot_of}
use Rattle.slots.specs.Table.{slot_size, is_table_length, is_table, same_bytes}
use Rattle.slots.specs.declared.Place.{Place}
use Rattle.slots.specs.declared.Place.TheVariants.{At, Free, Full}
use Rattle.slots.proofs.Table.Holds.{Holds, holds_judged}
use Rattle.slots.specs.Table.Scan.{slots_held, peek_messages, locate_from, locate}
use Rattle.slots.proofs.Table.Scan.Laws.{same_bytes_true, same_bytes_refl}
use Rattle.slots.specs.Send.{same_message, place_from, place_in, message_at}
use Rattle.slots.proofs.SendLaws.{peek_holds, messages_holds, locate_holds, store_holds}
use Rattle.std.proofs.lemmas.Option.{same_Some}
use Rattle.slots.specs.declared.Put.{Put}
use Rattle.slots.specs.declared.Sending.{Sending}
use Rattle.slots.specs.View.{view_messages, view_table, send_of, store_bytes, store_messages, put_at, sends}
use Rattle.slots.specs.View.Bytes.{view_bytes}

pub same_message_true : (p : Plan) (m m' : Message) → same_message p m m' ≡ true → m ≡ m'
unfolding same_message
same_message_true p m m' e = sym (decode_slot_of p m) ∙ ap decode (same_bytes_true _ _ e) ∙ decode_slot_of p m'

pub same_message_refl : (p : Plan) (m : Message) → same_message p m m ≡ true
unfolding same_message
same_message_refl p m = same_bytes_refl (slot_of p m)

-- no slot of the table holds the message
abbrev pub Absent : List Message → Message → Type 0
Absent ms m = (k : ℕ) → message_at ms k ≡ accepted m → ⊥

-- no slot before the place holds the message
abbrev pub Before : List Message → Message → ℕ → Type 0
Before ms m k = (i : ℕ) → i < k → message_at ms i ≡ accepted m → ⊥

-- the places that `place_from j` may answer
pub data PlaceCase (j room : ℕ) (ms : List Message) (m : Message) : Place → Type 0 where
  at : (i k : ℕ) → i ≡ j + k → message_at ms k ≡ accepted m → Before ms m k → PlaceCase j room ms m (At i)
  free : (i : ℕ) → i ≡ j + length ms → i < room → Absent ms m → PlaceCase j room ms m (Free i)
  full : room ≤ j + length ms → Absent ms m → PlaceCase j room ms m Full

-- a message that differs from the first one, and is absent from the rest
absent_cons : (p : Plan) (x : Message) (ms : List Message) (m : Message) → same_message p x m ≡ false → Absent ms m → Absent (x ∷ ms) m
unfolding message_at
absent_cons p x ms m n a zero e = false≢true (sym n ∙ ap (λ (y : Message). same_message p y m) x_is ∙ same_message_refl p m)
  where
    x_is : x ≡ m
    x_is = cc
absent_cons p x ms m n a (suc k) e = a k e

before_cons : (p : Plan) (x : Message) (ms : List Message) (m : Message) (k : ℕ) → same_message p x m ≡ false → Before ms m k → Before (x ∷ ms) m (suc k)
unfolding message_at
before_cons p x ms m k n b zero h e = absent_cons p x [] m n (λ i f. let z : ◌≡◌ {A = ℕ} 0 1 = cc in omega arith) zero e
before_cons p x ms m k n b (suc i) h e = b i (le_of_suc-le-suc h) e

place_cons : (p : Plan) (j room : ℕ) (x : Message) (ms : List Message) (m : Message) → same_message p x m ≡ false → (q : Place)
    → PlaceCase (suc j) room ms m q → PlaceCase j room (x ∷ ms) m q
unfolding message_at
place_cons p j room x ms m n q (at i k e h b) = at i (suc k) (omega arith) h (before_cons p x ms m k n b)
place_cons p j room x ms m n q (free i e h a) = free i (omega arith) h (absent_cons p x ms m n a)
place_cons p j room x ms m n q (full h a) = full (omega arith) (absent_cons p x ms m n a)

pub place_case : (p : Plan) (j room : ℕ) (ms : List Message) (m : Message) → PlaceCase j room ms m (place_from p j room ms m)
unfolding place_from message_at
place_case p j room [] m = go (ltb j room) refl
  where
    go : (b : Bool) → ltb j room ≡ b → PlaceCase j room [] m (cond b (Free j) Full)
    go true e = free j (sym (add-zero j)) (ltb-true j room e) (λ k e. let z : ◌≡◌ {A = ℕ} 0 1 = cc in omega arith)
    go false e = full (rw add-zero (ltb-false j room e)) (λ k e. let z : ◌≡◌ {A = ℕ} 0 1 = cc in omega arith)
place_case p j room (x ∷ ms) m = go (same_message p x m) refl (place_case p (suc j) room ms m)
  where
    go : (b : Bool) → same_message p x m ≡ b → PlaceCase (suc j) room ms m (place_from p (suc j) room ms m) → PlaceCase j room (x ∷ ms) m (cond b (At j) (place_from p (suc j) room ms m))
    go true e r = at j 0 (sym (add-zero j)) (ap accepted (same_message_true p x m e)) (λ i h f. absurd (not-suc-le-zero h))
    go false e r = place_cons p j room x ms m e _ r

module _ (p : Plan) (room : ℕ) (ms : List Message) (t : List ℕ) (h : Holds p room ms t) where
  pub view_holds : view_bytes p t ≡ view_messages p room ms
  view_holds i =
      record {
        slot = fun_ext (peek_holds p room ms t h) i;
        messages = messages_holds p room ms t h i;
        send = fun_ext (λ (m : Message). ap (λ (q : Place). send_of q m) (locate_holds p room ms t h m)) i;
      }

pub view_judged : (p : Plan) (t : List ℕ) → is_table_length (length t) ≡ true → is_table p t ≡ true → view_bytes p t ≡ view_table p t
view_judged p t l o = view_holds p _ _ t (holds_judged p t l o)

-- what an accepted send leaves
pub record Sent (p : Plan) (room : ℕ) (ms : List Message) (m : Message) (slot : ℕ) (store : Option Put) : Type 0 where
  pub stands : message_at (store_messages store ms) slot ≡ accepted m
  pub first : Before (store_messages store ms) m slot
  pub cases : ((store ≡ None) × (message_at ms slot ≡ accepted m)) ⊎ ((store ≡ put_at (length ms) m) × Absent ms m)
  pub holds : (t : List ℕ) → Holds p room ms t → Holds p room (store_messages store ms) (store_bytes p store t)

message_at_append : (ms : List Message) (m : Message) → message_at (ms ++ (m ∷ [])) (length ms) ≡ accepted m
unfolding message_at
message_at_append [] m = refl
message_at_append (x ∷ ms) m = message_at_append ms m

-- before the end an append changes nothing
message_at_before : (ms : List Message) (m : Message) (i : ℕ) → i < length ms → message_at (ms ++ (m ∷ [])) i ≡ message_at ms i
unfolding message_at
message_at_before [] m i h = absurd (not-suc-le-zero h)
message_at_before (x ∷ ms) m zero h = refl
message_at_before (x ∷ ms) m (suc i) h = message_at_before ms m i (le_of_suc-le-suc h)

pub send_sent : (p : Plan) (room : ℕ) (ms : List Message) (m : Message) → is_in_range p m ≡ true → (slot : ℕ) (store : Option Put)
    → (view_messages p room ms).send m ≡ sends slot store → Sent p room ms m slot store
unfolding place_in
send_sent p room ms m r slot store e = go (place_from p 0 room ms m) (place_case p 0 room ms m) e
  where
    go : (q : Place) → PlaceCase 0 room ms m q → send_of q m ≡ sends slot store → Sent p room ms m slot store
    go q (at i k n s b) e =
        let same = same_Some _ _ e in
        let store_is = ap (λ (s : Sending). s.put) same in
        let slot_is : k ≡ slot = sym (zero-add k) ∙ sym n ∙ ap (λ (s : Sending). s.slot) same in
        subst₂ (λ (j : ℕ) (w : Option Put). Sent p room ms m j w) slot_is store_is (record { stands = s; first = b; cases = inl (refl, s); holds = λ t h. h })
    go q (free i n s a) e =
        let i-is : i ≡ length ms = n ∙ zero-add (length ms) in
        let same = same_Some _ _ e in
        let store_is = ap (λ (s : Sending). s.put) same in
        let slot_is = ap (λ (s : Sending). s.slot) same in
        subst₂ (λ (j : ℕ) (w : Option Put). Sent p room ms m j w) slot_is store_is
        (record {
          stands = rw i-is (message_at_append ms m);
          first = λ k l f. a k (sym (message_at_before ms m k (rw i-is at l)) ∙ f);
          cases = inr (ap (λ (j : ℕ). put_at j m) i-is, a);
          holds = λ t h. rw i-is (store_holds p room ms t h m (rw i-is at s) r);
        })
    go q (full s a) e = absurd (let z : ◌≡◌ {A = ℕ} 0 1 = cc in omega arith)

-- there is no room only where the message is absent and every slot is used
pub send_full : (p : Plan) (room : ℕ) (ms : List Message) (m : Message) → (view_messages p room ms).send m ≡ None → (room ≤ length ms) × Absent ms m
unfolding place_in
send_full p room ms m e = go (place_from p 0 room ms m) (place_case p 0 room ms m) e
  where
    go : (q : Place) → PlaceCase 0 room ms m q → send_of q m ≡ None → (room ≤ length ms) × Absent ms m
    go q (at i k n s b) e = absurd (let z : ◌≡◌ {A = ℕ} 0 1 = cc in omega arith)
    go q (free i n s a) e = absurd (let z : ◌≡◌ {A = ℕ} 0 1 = cc in omega arith)
    go q (full s a) e = (omega arith, a)

-- looking for a message that is absent: the place after the slots
locate_absent : (p : Plan) (m : Message) (room : ℕ) (ss : List (List ℕ)) (j : ℕ) → Absent (map decode ss) m
    → locate_from j room ss (slot_of p m) ≡ cond (ltb (j + length ss) room) (Free (j + length ss)) Full
unfolding locate_from message_at
locate_absent p m room [] j a = rw add-zero
locate_absent p m room (s ∷ ss) j a = go (same_bytes s (slot_of p m)) refl (locate_absent p m room ss (suc j) (λ k. a (suc k)))
  where
    go : (b : Bool) → same_bytes s (slot_of p m) ≡ b → locate_from (suc j) room ss (slot_of p m) ≡ cond (ltb (suc j + length ss) room) (Free (suc j + length ss)) Full
        → cond b (At j) (locate_from (suc j) room ss (slot_of p m)) ≡ cond (ltb (j + suc (length ss)) room) (Free (j + suc (length ss))) Full
    go true e rest = absurd (a 0 (ap accepted (ap decode (same_bytes_true s (slot_of p m) e) ∙ decode_slot_of p m)))
    go false e rest = rest ∙ ap (λ (n : ℕ). cond (ltb n room) (Free n) Full) (omega arith)

-- on any bytes: a message that is absent is appended to the messages there, where there is room
module _ (p : Plan) (t : List ℕ) (m : Message) (a : Absent (view_bytes p t).messages m) (used : ℕ) (count : used ≡ length (view_bytes p t).messages) where
  after_messages : locate t (slot_of p m) ≡ cond (ltb used (length t / slot_size)) (Free used) Full
  unfolding locate peek_messages
  after_messages =
      locate_absent p m (length t / slot_size) (slots_held t) 0 a
      ∙ ap (λ (n : ℕ). cond (ltb n (length t / slot_size)) (Free n) Full) (zero-add _ ∙ sym (count ∙ length-map (slots_held t) decode))

  pub send_absent : used < length t / slot_size → (view_bytes p t).send m ≡ sends used (put_at used m)
  send_absent h = ap (λ (q : Place). send_of q m) after_messages ∙ rw (lt-ltb _ _ h)

  pub send_absent_full : length t / slot_size ≤ used → (view_bytes p t).send m ≡ None
  send_absent_full h = ap (λ (q : Place). send_of q m) after_messages ∙ rw (le-ltb _ _ h)
