-- A role's table that was kept, or made longer by zeros after whole slots, reads as before; in a summary of zeros nothing stands.
--     get_d_longer        byte by byte
--     messages_longer     its messages
--     kept_reading        all of it
--     zeros_stand         zeros of any length
-- Assumes nothing.
use Prim.Native.Nat.{ℕ, zero, suc, ◌+◌, ◌-◌, ◌*◌, ◌/◌, ◌%◌, ◌≤◌}
use Rattle.std.specs.Prelude.{true, ◌≡◌, refl, get_or, take, drop}
use Rattle.std.proofs.lemmas.Bool.{false≢true}
use mathlib.Core.List.{List, [], ◌∷◌, ◌++◌, map}
use Rattle.std.proofs.Common.{inl, inr, sym, ◌∙◌}
use Rattle.std.proofs.Math.Path.{ap, fun_ext}
use native.Mathlib.Omega.{arith}
use Rattle.std.proofs.Math.ListN.{length, replicate, length-append, length-drop}
use Rattle.std.proofs.lemmas.List.{length-replicate, take-append-le}
use Rattle.std.proofs.Math.Seq.{drop-append-le}
use Rattle.message.specs.declared.Plan.{Plan}
use Rattle.message.specs.declared.Message as Wire
use Rattle.slots.specs.Table.{Slot, Unused, Used, Bad, slot_size, slots_up_to, slots, read_slot, read_table, used_messages, messages}
use Rattle.slots.proofs.Table.Laws.{is_zero_replicate}
use Rattle.quorum.proofs.Mask.Laws.{has_bit_zero}
use Rattle.leader.specs.Leader.{stands}
use Rattle.matching.specs.Reading.{rm_state_of, a_state_of}
use Rattle.safety.proofs.Grounds.Zeros.{get_d_zeros, unused_zeros}
use Rattle.apart.specs.Hosts.{Host, TableKept}
use Rattle.apart.proofs.Hosts.Tied.{read_of}

pub get_d_longer : (t : List ℕ) (n i : ℕ) → ◌≡◌ {A = ℕ} (get_or (t ++ replicate n 0) i 0) (get_or t i 0)
get_d_longer [] n i = get_d_zeros n i
get_d_longer (x ∷ t) n zero = refl
get_d_longer (x ∷ t) n (suc i) = get_d_longer t n i

module _ (p : Plan) (n : ℕ) where
  -- one slot more
  more : (s : Slot) (xs ys : List Slot) → used_messages xs ≡ used_messages ys → used_messages (s ∷ xs) ≡ used_messages (s ∷ ys)
  unfolding used_messages
  more Unused xs ys e = e
  more (Used m) xs ys e = ap (λ (l : List Wire.Message). m ∷ l) e
  more Bad xs ys e = e

  up_to : (c d : ℕ) (t : List ℕ) → c ≤ d → length t ≡ c * slot_size
      → used_messages (map (read_slot p) (slots_up_to d (t ++ replicate n 0))) ≡ used_messages (map (read_slot p) (slots_up_to c t))
  unfolding slots_up_to used_messages
  up_to zero d [] below whole = unused_zeros p d (replicate n 0) (is_zero_replicate n)
  up_to zero d (x ∷ t) below whole = absurd (omega arith)
  up_to (suc c) zero t below whole = absurd (omega arith)
  up_to (suc c) (suc d) t below whole =
      let enough : slot_size ≤ length t = omega arith in
      let rest = length-drop slot_size t in
      rw (take-append-le slot_size t (replicate n 0) enough, drop-append-le slot_size t (replicate n 0) enough)
      (more (read_slot p (take slot_size t)) (map (read_slot p) (slots_up_to d (drop slot_size t ++ replicate n 0))) (map (read_slot p) (slots_up_to c (drop slot_size t)))
      (up_to c d (drop slot_size t) (omega arith) (omega arith)))

  pub messages_longer : (t : List ℕ) → length t % slot_size ≡ 0 → messages p (t ++ replicate n 0) ≡ messages p t
  unfolding messages read_table slots
  messages_longer t whole =
      let size : length (t ++ replicate n 0) ≡ length t + n = length-append t (replicate n 0) ∙ ap (λ (k : ℕ). length t + k) (length-replicate n 0) in
      up_to (length t / slot_size) (length (t ++ replicate n 0) / slot_size) t (omega arith) (omega arith)

-- for every instance and value
pub zeros_stand : (n i v : ℕ) → stands (replicate n 0) i v ≡ true → ⊥
unfolding stands
zeros_stand n i v h = false≢true (sym (has_bit_zero (v - 1)) ∙ rw (get_d_zeros n i) at h)

pub kept_reading : (p : Plan) (h : Host) (table : List ℕ) → TableKept h table → read_of p table ≡ read_of p h.table
kept_reading p h table (inl same) = ap (read_of p) same
kept_reading p h table (inr (whole, (n, same))) = ap (read_of p) same ∙ longer
  where
    bytes : rm_state_of (h.table ++ replicate n 0) ≡ rm_state_of h.table
    bytes = fun_ext (λ (i : ℕ). get_d_longer h.table n i)

    votes : a_state_of p (h.table ++ replicate n 0) ≡ a_state_of p h.table
    votes = fun_ext (λ (i : ℕ). fun_ext (λ (a : ℕ). simp (get_d_longer h.table n) refl))

    longer : read_of p (h.table ++ replicate n 0) ≡ read_of p h.table
    longer = rw (messages_longer p n h.table whole, votes, bytes) refl
