-- What the numbers stand for, and that no number stands for two answers of a step.
--     plan_means     the three counts are n, A and L, and after them the order number
--     code_means     a slot is its number, quiet 65535, refusal k 65536 + k
--     step_means     a role's step for other languages is that number and the two tables
--     packed_means   byte k of a number of eight bytes stands at 256^k
--     Answerable     what a step can answer: a slot below 1,024, quiet, or a refusal
--     one_answer     two of them with the same number are one
--     answerable, bytes_mean     that is a slot below 1,024, quiet, or any refusal; a byte is below 256
-- Assumes nothing.
use Rattle.std.specs.Prelude.{ℕ, ◌+◌, ◌*◌, ◌<◌, List, [], ◌∷◌, true, ◌&&◌, ltb, ◌≡◌, refl}
use Rattle.slots.specs.All.{all}
use Rattle.std.proofs.Common.{ap, arith}
use Rattle.message.specs.Outcome.{Outcome, accepted, refused}
use Rattle.slots.specs.Table.{max_slots}
use Rattle.change.specs.declared.Sent.{Sent}
use Rattle.change.specs.declared.Sent.TheVariants.{Slot, Quiet}
use Rattle.change.specs.Change.{Step}
use Rattle.host_code.specs.Code.{plan_of, answer_code, host_step, host_step_of, packed, are_bytes}
use Rattle.host_code.proofs.CodeLaws.{slot_code}

pub plan_means : (n A L order : ℕ)
    → ((plan_of n A L order).rms ≡ n)
    × ((plan_of n A L order).acceptors ≡ A)
    × ((plan_of n A L order).leaders ≡ L)
    × ((plan_of n A L order).order ≡ order)
plan_means n A L order = (refl, refl, refl, refl)

pub code_means : ((s : ℕ) → s < 1024 → answer_code (accepted (Slot s)) ≡ s) × (answer_code (accepted Quiet) ≡ 65535) × ((k : ℕ) → answer_code (refused k) ≡ 65536 + k)
code_means = (slot_code, refl, λ k. refl)

pub step_means : (code : ℕ) (table network : List ℕ) (s : Step)
    → ((host_step code table network).code ≡ code)
    × ((host_step code table network).table ≡ table)
    × ((host_step code table network).network ≡ network)
    × (host_step_of s ≡ host_step (answer_code s.answer) s.table s.network)
step_means code table network s = (refl, refl, refl, refl)

pub packed_means : (a b c d e f g h : ℕ)
    → packed (a ∷ b ∷ c ∷ d ∷ e ∷ f ∷ g ∷ h ∷ [])
    ≡ a + 0x100 * b + 0x10000 * c + 0x1000000 * d + 0x100000000 * e + 0x10000000000 * f + 0x1000000000000 * g + 0x100000000000000 * h
packed_means a b c d e f g h = omega arith

abbrev pub Answerable : Outcome Sent → Type 0
Answerable (accepted (Slot slot)) = slot < max_slots
Answerable (accepted Quiet) = Unit {0}
Answerable (refused number) = Unit {0}

pub one_answer : (o o' : Outcome Sent) → Answerable o → Answerable o' → answer_code o ≡ answer_code o' → o ≡ o'
one_answer (accepted (Slot s)) (accepted (Slot t)) h k e =
    let same : s ≡ t = omega (arith, slot_code s h, slot_code t k) in
    ap (λ (slot : ℕ). accepted (Slot slot)) same
one_answer (accepted (Slot s)) (accepted Quiet) h k e = absurd (omega (arith, slot_code s h))
one_answer (accepted (Slot s)) (refused j) h k e = absurd (omega (arith, slot_code s h))
one_answer (accepted Quiet) (accepted (Slot t)) h k e = absurd (omega (arith, slot_code t k))
one_answer (accepted Quiet) (accepted Quiet) h k e = refl
one_answer (accepted Quiet) (refused j) h k e = absurd (omega arith)
one_answer (refused i) (accepted (Slot t)) h k e = absurd (omega (arith, slot_code t k))
one_answer (refused i) (accepted Quiet) h k e = absurd (omega arith)
one_answer (refused i) (refused j) h k e = let same : i ≡ j = omega arith in ap refused same

pub answerable : (s k : ℕ) → (s < 1024 → Answerable (accepted (Slot s))) × Answerable (accepted Quiet) × Answerable (refused k)
answerable s k = (λ h. h, tt, tt)

pub bytes_mean : (x : ℕ) (xs : List ℕ) → (are_bytes [] ≡ true) × (are_bytes (x ∷ xs) ≡ (ltb x 256 && are_bytes xs))
unfolding are_bytes all
bytes_mean x xs = (refl, refl)
