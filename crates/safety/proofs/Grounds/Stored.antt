-- What a table holds after a message was stored there (`Stores`: the message stood there, or was appended).
--     stores_slot                                what stood in a slot stands there
--     member_split                               its messages: the old ones, and the stored one
--     stores_kept, stores_new, stores_split      likewise as sets
--     stores_length                              where the message found room, the table keeps its length
-- Assumes nothing.
use Rattle.std.specs.Prelude.{ℕ, zero, suc, ◌*◌, ◌%◌, ◌≤◌, ◌<◌, true, ◌⊎◌, ◌≡◌, refl}
use mathlib.Core.List.Memᴰ
use mathlib.Core.List.{List, [], ◌∷◌, ◌++◌, Memᴰ}
use Rattle.std.proofs.Common.{inl, inr, ⊎_elim, sym, ◌∙◌, length-append}
use Rattle.std.proofs.Math.Path.{ap}
use Rattle.std.proofs.Math.Decide.{dec_lt}
use native.Mathlib.Omega.{arith}
use Rattle.std.proofs.Math.ListN.{length}
use borrow.Author.Tests.{eqb-true}
use Rattle.message.specs.declared.Plan.{Plan}
use Rattle.message.specs.declared.Message.{Message}
use Rattle.message.specs.Outcome.{accepted}
use Rattle.message.proofs.Outcome.Laws.{accepted_not_refused, both}
use Rattle.slots.specs.Table.{slot_size, is_table_length, messages}
use Rattle.slots.proofs.Table.Holds.{length_table_of}
use Rattle.slots.specs.Send.{message_at}
use Rattle.paxos_commit.specs.PaxosCommit as Source
use Rattle.matching.specs.Reading.{message_of, set_of}
use Rattle.matching.specs.Call.{room_of, HasRoom, Stores}
use Rattle.matching.proofs.Call.Laws.{member_at, at_member}

message_at_append : (ms xs : List Message) (k : ℕ) (x : Message) → message_at ms k ≡ accepted x → message_at (ms ++ xs) k ≡ accepted x
unfolding message_at
message_at_append [] xs k x e = absurd (accepted_not_refused e)
message_at_append (m ∷ ms) xs zero x e = e
message_at_append (m ∷ ms) xs (suc k) x e = message_at_append ms xs k x e

module _ (p : Plan) (table table' : List ℕ) (m : Message) where
  pub stores_slot : Stores p table m table' → (k : ℕ) (x : Message) → message_at (messages p table) k ≡ accepted x
      → message_at (messages p table') k ≡ accepted x
  stores_slot (inl (there, same)) k x e = rw same e
  stores_slot (inr (absent, gained, form)) k x e = rw gained (message_at_append (messages p table) (m ∷ []) k x e)

  member_new : Stores p table m table' → Memᴰ m (messages p table')
  member_new (inl (there, same)) = rw same there
  member_new (inr (absent, gained, form)) = rw gained (Memᴰ.append_right (messages p table) (Memᴰ.head refl))

  pub member_split : Stores p table m table' → (x : Message) → Memᴰ x (messages p table') → Memᴰ x (messages p table) ⊎ (x ≡ m)
  member_split (inl (there, same)) x h = inl (rw same at h)
  member_split (inr (absent, gained, form)) x h =
      ⊎_elim inl (λ k. inr (Memᴰ.eq_of_singleton k)) (Memᴰ.append_cases (messages p table) (rw gained at h))

  module _ (s : Stores p table m table') where
    pub stores_kept : (x : Source.Message) → set_of (messages p table) x → set_of (messages p table') x
    stores_kept x (y, h, e) = let (k, there) = at_member (messages p table) y h in (y, member_at _ k y (stores_slot s k y there), e)

    pub stores_new : set_of (messages p table') (message_of m)
    stores_new = (m, member_new s, refl)

    pub stores_split : (x : Source.Message) → set_of (messages p table') x → set_of (messages p table) x ⊎ (x ≡ message_of m)
    stores_split x (y, h, e) = ⊎_elim (λ k. inl (y, k, e)) (λ d. inr (sym e ∙ ap message_of d)) (member_split s y h)

  -- one message more, where there was room for it
  one_more : length (messages p table) < room_of table → messages p table' ≡ messages p table ++ (m ∷ []) → length (messages p table') ≤ room_of table
  one_more room gained = rw (gained, length-append (messages p table) (m ∷ [])) (omega arith)

  pub stores_length : is_table_length (length table) ≡ true → ((HasRoom p table m → ⊥) → ⊥) → Stores p table m table' → length table' ≡ length table
  unfolding is_table_length
  stores_length whole room (inl (there, same)) = ap length same
  stores_length whole room (inr (absent, gained, form)) = go (dec_lt (length (messages p table)) (room_of table))
    where
      whole_slots : room_of table * slot_size ≡ length table
      whole_slots = let e : length table % slot_size ≡ 0 = eqb-true _ _ (both _ _ whole).0 in omega arith

      go : Dec (length (messages p table) < room_of table) → length table' ≡ length table
      go (yes h) = ap length form ∙ length_table_of p (room_of table) (messages p table') (one_more h gained) ∙ whole_slots
      go (no h) = absurd (room (⊎_elim absent h))
