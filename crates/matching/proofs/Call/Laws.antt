-- The laws of calls.
--     message_at_cases, unused_past, member_at, at_member    the slot at a place, and the members of a list
--     slot_in_range                             the message in a slot of a judged table is in range
--     table_form                                a well-formed table is one that holds messages in range
--     Stored, stored                            a table after an accepted store, all that is said of it
--     has_room, no_room                         a store is accepted exactly where there is room
--     clash, ruled_judged, ruled_judged₂, ruled_sound, ruled_slot, ruled_sending, ruled_applied
--                                               the rows of a call, along its definition
--     tables_kept                               both tables of a refused call
--     applied_accepted, and_then_accepted, sending_accepted    what an accepted call says of its parts
-- Assumes nothing.
use Rattle.std.specs.Prelude.{ℕ, zero, suc, ◌<◌, ◌≤◌, Bool, not, ◌⊎◌, ◌↔◌, length, None, Option, Some}
use Rattle.std.proofs.Common.{zero-le, suc-le-suc, sym, ◌∙◌, ap, not-suc-le-zero, le_of_suc-le-suc}
use Rattle.std.proofs.Math.Bool.{true, false}
use Rattle.std.proofs.lemmas.Bool.{false≢true, not-false}
use mathlib.Core.List.Memᴰ
use mathlib.Core.List.{List, [], ◌∷◌, ◌++◌, Memᴰ}
use Rattle.std.proofs.Math.Logic.{inl, inr}
use Rattle.std.proofs.Math.Path.{◌≡◌, refl}
use native.Mathlib.Omega.{arith}
use Rattle.message.specs.declared.Plan.{Plan}
use Rattle.message.specs.declared.Message.{Message}
use Rattle.message.specs.Outcome.{Outcome, accepted, refused, and_then, refuse_if}
use Rattle.message.proofs.Outcome.Laws.{accepted_inj, accepted_not_refused, both}
use Rattle.message.specs.Plan.{is_plan}
use Rattle.message.specs.Form.{is_in_range}
use Rattle.message.specs.Rows.{Rows, row, here}
use Rattle.message.proofs.Rows.Laws.{Ruled, ruled_skip}
use Rattle.slots.specs.declared.Place.{Place}
use Rattle.slots.specs.declared.Put.{Put}
use Rattle.slots.specs.declared.Sending.{Sending}
use Rattle.slots.specs.Table.{is_table_length, is_table, messages}
use Rattle.slots.proofs.Table.Holds.{all_in_range, Holds, holds_judged, table_holds, length_holds}
use Rattle.slots.specs.Send.{place_in, message_at}
use Rattle.slots.specs.View.{view_table, send_of, store_bytes, store_messages, sending, put_at, sends}
use Rattle.slots.proofs.View.Laws.{PlaceCase, at, free, full, place_case, Sent, send_sent}
use Rattle.change.specs.declared.Change.{Change}
use Rattle.change.specs.declared.Sent as SentType
use Rattle.change.specs.Change.{Step, refusal, applied}
use Rattle.paxos_commit.specs.PaxosCommit as Source
use Rattle.matching.specs.Reading.{message_of, set_of}
use Rattle.matching.specs.Call.{room_of, HasRoom, HeldBy, Stores}

pub message_at_cases : (ms : List Message) (k : ℕ) → (message_at ms k ≡ refused 8) ⊎ ((m : Message) × (message_at ms k ≡ accepted m))
unfolding message_at
message_at_cases [] k = inl refl
message_at_cases (m ∷ ms) zero = inr (m, refl)
message_at_cases (m ∷ ms) (suc k) = message_at_cases ms k

-- row 8: the slot is past the last message
pub unused_past : (ms : List Message) (k : ℕ) → message_at ms k ≡ refused 8 → length ms ≤ k
unfolding message_at
unused_past [] k e = zero-le
unused_past (m ∷ ms) zero e = absurd (accepted_not_refused (sym e))
unused_past (m ∷ ms) (suc k) e = suc-le-suc (unused_past ms k e)

past_unused : (ms : List Message) (k : ℕ) → length ms ≤ k → message_at ms k ≡ refused 8
unfolding message_at
past_unused [] k h = refl
past_unused (m ∷ ms) zero h = absurd (not-suc-le-zero h)
past_unused (m ∷ ms) (suc k) h = past_unused ms k (le_of_suc-le-suc h)

pub member_at : (ms : List Message) (k : ℕ) (m : Message) → message_at ms k ≡ accepted m → Memᴰ m ms
unfolding message_at
member_at [] k m e = absurd (accepted_not_refused e)
member_at (x ∷ ms) zero m e = Memᴰ.head (sym (accepted_inj e))
member_at (x ∷ ms) (suc k) m e = Memᴰ.tail (member_at ms k m e)

pub at_member : (ms : List Message) (m : Message) → Memᴰ m ms → (k : ℕ) × (message_at ms k ≡ accepted m)
unfolding message_at
at_member [] m h = absurd (Memᴰ.not-nil h)
at_member (x ∷ ms) m (Memᴰ.head e) = (0, ap accepted (sym e))
at_member (x ∷ ms) m (Memᴰ.tail h) = let r = at_member ms m h in (suc r.0, r.1)

pub slot_in_range : (p : Plan) (t : List ℕ) → is_table_length (length t) ≡ true → is_table p t ≡ true
    → (k : ℕ) (m : Message) → message_at (messages p t) k ≡ accepted m → is_in_range p m ≡ true
unfolding message_at all_in_range
slot_in_range p t whole ordered k m e = go (messages p t) k (holds_judged p t whole ordered).in_range e
  where
    go : (ms : List Message) (k : ℕ) → all_in_range p ms ≡ true → message_at ms k ≡ accepted m → is_in_range p m ≡ true
    go [] k h e = absurd (accepted_not_refused e)
    go (x ∷ ms) zero h e = ap (is_in_range p) (sym (accepted_inj e)) ∙ (both (is_in_range p x) (all_in_range p ms) h).0
    go (x ∷ ms) (suc k) h e = go ms k (both (is_in_range p x) (all_in_range p ms) h).1 e

-- the set of ms ∪ {m}
abbrev pub Joined : List Message → Message → Source.Message → Type 0
Joined ms m x = set_of ms x ⊎ (x ≡ message_of m)

module _ (ms : List Message) (m : Message) (x : Source.Message) where
  -- m was there
  set_same : Memᴰ m ms → set_of ms x ↔ Joined ms m x
  set_same h = (inl, back)
    where
      back : Joined ms m x → set_of ms x
      back (inl s) = s
      back (inr e) = (m, h, sym e)

  -- m was appended
  set_append : set_of (ms ++ (m ∷ [])) x ↔ Joined ms m x
  set_append = (λ s. split s.0 s.2 (Memᴰ.append_cases ms s.1), back)
    where
      split : (y : Message) → message_of y ≡ x → Memᴰ y ms ⊎ Memᴰ y (m ∷ []) → Joined ms m x
      split y e (inl h) = inl (y, h, e)
      split y e (inr h) = inr (sym e ∙ ap message_of (Memᴰ.eq_of_singleton h))

      back : Joined ms m x → set_of (ms ++ (m ∷ [])) x
      back (inl s) = (s.0, Memᴰ.append_left (m ∷ []) s.1, s.2)
      back (inr e) = (m, Memᴰ.append_right ms (Memᴰ.head refl), sym e)

-- a table t, judged before, and t' after the message m was stored at `slot`
pub record Stored (p : Plan) (t : List ℕ) (m : Message) (slot : ℕ) (t' : List ℕ) : Type 0 where
  pub same_length : length t' ≡ length t
  pub ordered : is_table p t' ≡ true
  pub stands : message_at (messages p t') slot ≡ accepted m
  pub first : (k : ℕ) → k < slot → message_at (messages p t') k ≡ accepted m → ⊥
  pub stores : Stores p t m t'
  pub joins : (x : Source.Message) → set_of (messages p t') x ↔ Joined (messages p t) m x

module _ (p : Plan) (t : List ℕ) (plan : is_plan p ≡ true) (whole : is_table_length (length t) ≡ true) (ordered : is_table p t ≡ true) (m : Message) where
  pub stored : is_in_range p m ≡ true → (slot : ℕ) (store : Option Put) → (view_table p t).send m ≡ sends slot store → Stored p t m slot (store_bytes p store t)
  stored range slot store e = go sent.cases
    where
      sent : Sent p (room_of t) (messages p t) m slot store
      sent = send_sent p (room_of t) (messages p t) m range slot store e

      holds : Holds p (room_of t) (store_messages store (messages p t)) (store_bytes p store t)
      holds = sent.holds t (holds_judged p t whole ordered)

      held : messages p (store_bytes p store t) ≡ store_messages store (messages p t)
      held = (table_holds p _ _ _ holds plan).1

      common : Stores p t m (store_bytes p store t) → ((x : Source.Message) → set_of (store_messages store (messages p t)) x ↔ Joined (messages p t) m x)
          → Stored p t m slot (store_bytes p store t)
      common stores joins =
          record {
            same_length = length_holds p _ _ _ holds ∙ sym (length_holds p _ _ _ (holds_judged p t whole ordered));
            ordered = (table_holds p _ _ _ holds plan).0;
            stands = rw held sent.stands;
            first = rw held sent.first;
            stores = stores;
            joins = rw held joins;
          }

      go : ((store ≡ None) × (message_at (messages p t) slot ≡ accepted m)) ⊎ ((store ≡ put_at (length (messages p t)) m) × ((k : ℕ) → message_at (messages p t) k ≡ accepted m → ⊥))
          → Stored p t m slot (store_bytes p store t)
      go (inl (is, there)) =
          let h = member_at (messages p t) slot m there in
          common (inl (h, ap (λ (s : Option Put). store_bytes p s t) is)) (rw is (λ x. set_same (messages p t) m x h))
      go (inr (is, absent)) =
          common
          (inr (
            λ h. let r = at_member (messages p t) m h in absent r.0 r.1,
            held ∙ ap (λ (s : Option Put). store_messages s (messages p t)) is,
            rw held holds.form,
          ))
          (rw is (λ x. set_append (messages p t) m x))

-- a store is accepted exactly where there is room
module _ (p : Plan) (t : List ℕ) (m : Message) where
  pub has_room : (slot : ℕ) (store : Option Put) → (view_table p t).send m ≡ sends slot store → HasRoom p t m
  unfolding place_in
  has_room slot store e = go _ (place_case p 0 (room_of t) (messages p t) m) e
    where
      go : (q : Place) → PlaceCase 0 (room_of t) (messages p t) m q → send_of q m ≡ sends slot store → HasRoom p t m
      go q (at i k n s b) e = inl (member_at (messages p t) k m s)
      go q (free i n s a) e = inr (omega arith)
      go q (full s a) e = absurd (let z : ◌≡◌ {A = ℕ} 0 1 = cc in omega arith)

  pub no_room : (view_table p t).send m ≡ None → HasRoom p t m → ⊥
  unfolding place_in
  no_room e = go _ (place_case p 0 (room_of t) (messages p t) m) e
    where
      go : (q : Place) → PlaceCase 0 (room_of t) (messages p t) m q → send_of q m ≡ None → HasRoom p t m → ⊥
      go q (at i k n s b) e h = let z : ◌≡◌ {A = ℕ} 0 1 = cc in omega arith
      go q (free i n s a) e h = let z : ◌≡◌ {A = ℕ} 0 1 = cc in omega arith
      go q (full s a) e (inl h) = let r = at_member (messages p t) m h in a r.0 r.1
      go q (full s a) e (inr h) = omega arith

pub clash : (b : Bool) → not b ≡ false → b ≡ false → ⊥
clash b h k = false≢true (sym k ∙ not-false b h)

-- the rows of a call, along its definition
module _ {A B : Type 0} (next : B → Outcome A) where
  pub ruled_judged : (b : Bool) (k : ℕ) (t : Type 0) (rows : Rows) (rest : Outcome B)
      → (b ≡ true → t) → (b ≡ false → t → ⊥) → (b ≡ false → Ruled (and_then rest next) rows) → Ruled (and_then (refuse_if b k rest) next) (row k t rows)
  unfolding Ruled refuse_if and_then
  ruled_judged true k t rows rest holds fails go = here (refl, (holds refl, tt))
  ruled_judged false k t rows rest holds fails go = ruled_skip k _ rows (λ h. fails refl h.0) (and_then rest next) (go refl)

  pub ruled_sound : (b : B) (rows : Rows) → Ruled (next b) rows → Ruled (and_then (accepted b) next) rows
  unfolding and_then
  ruled_sound b rows r = r

  -- two tests with one number are one row
  pub ruled_judged₂ : (b c : Bool) (k : ℕ) (t : Type 0) (rows : Rows) (rest : Outcome B) → (b ≡ true → t) → (c ≡ true → t)
      → (b ≡ false → c ≡ false → t → ⊥) → (b ≡ false → c ≡ false → Ruled (and_then rest next) rows)
      → Ruled (and_then (refuse_if b k (refuse_if c k rest)) next) (row k t rows)
  unfolding Ruled refuse_if and_then
  ruled_judged₂ true c k t rows rest first second neither go = here (refl, (first refl, tt))
  ruled_judged₂ false true k t rows rest first second neither go = here (refl, (second refl, tt))
  ruled_judged₂ false false k t rows rest first second neither go =
      ruled_skip k _ rows (λ h. neither refl refl h.0) (and_then rest next) (go refl refl)

module _ {A : Type 0} where
  -- row 8, and what the message goes on to
  pub ruled_slot : (ms : List Message) (k : ℕ) (t : Type 0) (rows : Rows) (next : Message → Outcome A)
      → (length ms ≤ k → t) → (t → length ms ≤ k)
      → ((m : Message) → message_at ms k ≡ accepted m → Ruled (next m) rows) → Ruled (and_then (message_at ms k) next) (row 8 t rows)
  unfolding Ruled and_then
  ruled_slot ms k t rows next holds back go = by (message_at_cases ms k)
    where
      by : (message_at ms k ≡ refused 8) ⊎ ((m : Message) × (message_at ms k ≡ accepted m)) → Ruled (and_then (message_at ms k) next) (row 8 t rows)
      by (inl e) = rw e (here (refl, (holds (unused_past ms k e), tt)))
      by (inr (m, e)) = rw e (ruled_skip 8 _ rows (λ h. accepted_not_refused (sym (past_unused ms k (back h.0)) ∙ e)) (next m) (go m e))

  -- rows 13 and 14
  pub ruled_sending : (number : ℕ) (p : Plan) (table : List ℕ) (m : Message) (t : Type 0) (rows : Rows) (go : ℕ → Option Put → Outcome A)
      → ((HasRoom p table m → ⊥) → t) → (t → HasRoom p table m → ⊥)
      → ((slot : ℕ) (store : Option Put) → (view_table p table).send m ≡ sends slot store → Ruled (go slot store) rows)
      → Ruled (sending number ((view_table p table).send m) go) (row number t rows)
  unfolding Ruled sending
  ruled_sending number p table m t rows go holds back next = by ((view_table p table).send m) refl
    where
      by : (send : Option Sending) → (view_table p table).send m ≡ send → Ruled (sending number send go) (row number t rows)
      by None e = here (refl, (holds (no_room p table m e), tt))
      by (Some s) e = ruled_skip number _ rows (λ h. back h.0 (has_room p table m s.slot s.put e)) (go s.slot s.put) (next s.slot s.put e)

pub ruled_applied : (p : Plan) (table network : List ℕ) (rows : Rows) (o : Outcome Change) → Ruled o rows → Ruled (applied p table network o).answer rows
unfolding Ruled
ruled_applied p table network rows (accepted change) r = r
ruled_applied p table network rows (refused k) r = r

-- what an accepted call says of its parts
pub applied_accepted : (p : Plan) (table network : List ℕ) (o : Outcome Change) (a : SentType.Sent) → (applied p table network o).answer ≡ accepted a
    → (change : Change) × (o ≡ accepted change)
applied_accepted p table network (accepted change) a e = (change, refl)
applied_accepted p table network (refused k) a e = absurd (accepted_not_refused e)

pub and_then_accepted : {A B : Type 0} (o : Outcome A) (next : A → Outcome B) (b : B) → and_then o next ≡ accepted b
    → (a : A) × (o ≡ accepted a) × (next a ≡ accepted b)
unfolding and_then
and_then_accepted (accepted a) next b e = (a, refl, e)
and_then_accepted (refused k) next b e = absurd (accepted_not_refused e)

pub sending_accepted : {A : Type 0} (number : ℕ) (send : Option Sending) (go : ℕ → Option Put → Outcome A) (a : A) → sending number send go ≡ accepted a
    → (slot : ℕ) × (store : Option Put) × (send ≡ sends slot store) × (go slot store ≡ accepted a)
unfolding sending
sending_accepted number (Some s) go a e = (s.slot, s.put, refl, e)
sending_accepted number None go a e = absurd (accepted_not_refused e)

each_in_range : (p : Plan) (ms : List Message) → all_in_range p ms ≡ true → (m : Message) → Memᴰ m ms → is_in_range p m ≡ true
unfolding all_in_range
each_in_range p [] h m member = absurd (Memᴰ.not-nil member)
each_in_range p (x ∷ ms) h m (Memᴰ.head e) = ap (is_in_range p) e ∙ (both (is_in_range p x) (all_in_range p ms) h).0
each_in_range p (x ∷ ms) h m (Memᴰ.tail member) = each_in_range p ms (both (is_in_range p x) (all_in_range p ms) h).1 m member

all_in_range_lem : (p : Plan) (ms : List Message) → ((m : Message) → Memᴰ m ms → is_in_range p m ≡ true) → all_in_range p ms ≡ true
unfolding all_in_range
all_in_range_lem p [] h = refl
all_in_range_lem p (x ∷ ms) h = rw (h x (Memᴰ.head refl)) (all_in_range_lem p ms (λ m member. h m (Memᴰ.tail member)))

-- a well-formed table is one that holds messages in range
pub table_form : (p : Plan) (t : List ℕ) → is_plan p ≡ true → is_table_length (length t) ≡ true
    → (is_table p t ≡ true) ↔ ((ms : List Message) × HeldBy p t ms)
table_form p t plan whole = (there, back)
  where
    there : is_table p t ≡ true → (ms : List Message) × HeldBy p t ms
    there is = let h = holds_judged p t whole is in (messages p t, (h.form, h.fits, each_in_range p (messages p t) h.in_range))

    back : (ms : List Message) × HeldBy p t ms → is_table p t ≡ true
    back (ms, (form, fits, range)) =
        (table_holds p (room_of t) ms t (record { form = form; fits = fits; in_range = all_in_range_lem p ms range }) plan).0

-- both tables of a refused call
pub tables_kept : {table network : List ℕ} {k : ℕ} {r : Step} → r ≡ refusal table network k → (r.table ≡ table) × (r.network ≡ network)
tables_kept e = (ap (λ (r : Step). r.table) e, ap (λ (r : Step). r.network) e)
