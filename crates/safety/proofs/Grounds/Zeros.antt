-- Tables of zeros: what a fresh record holds.
--     member_zeros       nothing but 0
--     get_d_zeros        0 at every place
--     zeros_zeroed       zeroed again, they are the same
--     unused_zeros, messages_zeros     no message
--     a_state_of_zeros   every acceptor as at first
-- Assumes nothing.
use Rattle.std.specs.Prelude.{ℕ, zero, suc, Bool, true, false, ◌&&◌, cond, ◌≡◌, refl, ltb, eqb, length, get_or, take, drop, replicate}
use mathlib.Core.List.Memᴰ
use mathlib.Core.List.{List, [], map, Memᴰ}
use Rattle.std.proofs.Common.{sym, ◌∙◌, ap, take-append-drop}
use Rattle.std.proofs.lemmas.List.{length-replicate}
use Rattle.message.specs.declared.Plan.{Plan}
use Rattle.message.proofs.Outcome.Laws.{both}
use Rattle.slots.specs.All.{all}
use Rattle.slots.proofs.All.Laws.{all_append}
use Rattle.slots.specs.Table.{slot_size, slots_up_to, slots, is_zero, read_slot, read_table, used_messages, messages}
use Rattle.slots.proofs.Table.Laws.{is_zero_replicate, read_slot_unused}
use Rattle.paxos_commit.specs.PaxosCommit.{initial}
use Rattle.record.specs.Record.{zeroed}
use Rattle.matching.specs.Reading.{a_state_of}

pub member_zeros : (n v : ℕ) → Memᴰ v (replicate n 0) → v ≡ 0
member_zeros zero v h = absurd (Memᴰ.not-nil h)
member_zeros (suc n) v (Memᴰ.head e) = e
member_zeros (suc n) v (Memᴰ.tail h) = member_zeros n v h

pub get_d_zeros : (n i : ℕ) → ◌≡◌ {A = ℕ} (get_or (replicate n 0) i 0) 0
get_d_zeros zero i = refl
get_d_zeros (suc n) zero = refl
get_d_zeros (suc n) (suc i) = get_d_zeros n i

pub zeros_zeroed : (l : List ℕ) → replicate (length l) 0 ≡ zeroed (replicate (length l) 0)
unfolding zeroed
zeros_zeroed l = ap (λ (n : ℕ). replicate n 0) (sym (length-replicate (length l) 0))

-- the first bytes of zeros, and the rest of them
zero_parts : (k : ℕ) (t : List ℕ) → is_zero t ≡ true → (is_zero (take k t) ≡ true) × (is_zero (drop k t) ≡ true)
unfolding is_zero
zero_parts k t z = both _ _ (sym (all_append _ (take k t) (drop k t)) ∙ ap (all (λ x. eqb x 0)) (take-append-drop k t) ∙ z)

pub unused_zeros : (p : Plan) (n : ℕ) (t : List ℕ) → is_zero t ≡ true → used_messages (map (read_slot p) (slots_up_to n t)) ≡ []
unfolding slots_up_to used_messages
unused_zeros p zero t z = refl
unused_zeros p (suc n) t z =
    let parts = zero_parts slot_size t z in
    rw (read_slot_unused p (take slot_size t) parts.0) (unused_zeros p n (drop slot_size t) parts.1)

pub messages_zeros : (p : Plan) (n : ℕ) → messages p (replicate n 0) ≡ []
unfolding messages read_table slots
messages_zeros p n = unused_zeros p _ (replicate n 0) (is_zero_replicate n)

pub a_state_of_zeros : (p : Plan) (n i a : ℕ) → a_state_of p (replicate n 0) i a ≡ initial
a_state_of_zeros p n i a = simp get_d_zeros (go (ltb i p.rms && ltb a p.acceptors))
  where
    go : (b : Bool) → cond b initial initial ≡ initial
    go true = refl
    go false = refl
