-- The numbers taken apart.
--     slot_code         a slot of N is its number
--     packed_first      the lowest byte is the first
--     packed_inj        bytes, as many as others, with the same number are those
--     coded             a role's step whose answer became a number
-- Assumes nothing.
use Rattle.std.specs.Prelude.{ℕ, ◌%◌, ◌<◌, true, List, [], ◌∷◌, ◌≡◌, refl, ltb, length}
use Rattle.std.proofs.Common.{◌∙◌, ap, arith, lt-ltb, ltb-true}
use Rattle.message.proofs.Outcome.Laws.{both}
use Rattle.slots.specs.All.{all}
use Rattle.slots.specs.Table.{max_slots}
use Rattle.change.specs.declared.Sent.TheVariants.{Slot}
use Rattle.change.specs.Change.{Step}
use Rattle.host_code.specs.Code.{sent_code, answer_code, host_step, host_step_of, packed, are_bytes}

pub slot_code : (slot : ℕ) → slot < max_slots → sent_code (Slot slot) ≡ slot
slot_code slot h = rw (lt-ltb slot max_slots h)

pub packed_first : (byte : ℕ) (bytes : List ℕ) → byte < 256 → packed (byte ∷ bytes) % 256 ≡ byte
packed_first byte bytes h = omega arith

pub packed_inj : (a b : List ℕ) → length a ≡ length b → are_bytes a ≡ true → are_bytes b ≡ true → packed a ≡ packed b → a ≡ b
unfolding are_bytes all
packed_inj [] [] n ha hb e = refl
packed_inj [] (y ∷ b) n ha hb e = absurd (omega arith)
packed_inj (x ∷ a) [] n ha hb e = absurd (omega arith)
packed_inj (x ∷ a) (y ∷ b) n ha hb e =
    let ka = both (ltb x 256) (are_bytes a) ha in
    let kb = both (ltb y 256) (are_bytes b) hb in
    let below-x = ltb-true x 256 ka.0 in
    let below-y = ltb-true y 256 kb.0 in
    let first : x ≡ y = omega arith in
    let rest : a ≡ b = packed_inj a b (omega arith) ka.1 kb.1 (omega arith) in
    cc

pub coded : {r s : Step} → r ≡ s → {code : ℕ} → code ≡ answer_code r.answer → host_step code r.table r.network ≡ host_step_of s
coded {r} e h = ap (λ (number : ℕ). host_step number r.table r.network) h ∙ ap host_step_of e
