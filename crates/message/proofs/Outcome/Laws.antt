-- A chain of refusals, taken apart.
--     accepted_inj          an acceptance has one value
--     accepted_not_refused  an acceptance is no refusal
--     refuse_if_accepted    an accepted chain passed this row, and is accepted below it
--     refuse_if_zero        a chain whose number is 0 passed this row, and its number is 0 below it
--     refused_number        what is no acceptance is the refusal with its number
--     number_some           a refusal's number is not 0
--     refusal_of, number_injective, outcome_injective     the number says which refusal it is, so an outcome says which answer
--     left_by               the refusal that leaves at a `?` is the one that came
--     both                  both tests of a conjunction
-- Assumes nothing.
use Rattle.std.specs.Prelude.{ℕ, Bool, true, false, ◌&&◌, ◌≡◌, refl, cond, eqb, Result, Ok, Err, IsErrAnd}
use Rattle.std.proofs.lemmas.Bool.{false≢true}
use Rattle.std.proofs.Common.{ap, sym, ◌∙◌, arith}
use Rattle.std.proofs.lemmas.Result.{err_from_is_err_and}
use Rattle.message.specs.declared.Refusal.{Refusal}
use Rattle.message.specs.declared.Refusal.TheVariants as Refusals
use Rattle.message.specs.Outcome.{Outcome, accepted, refused, refuse_if, number_of, refusal_number, outcome}

pub accepted_inj : {A : Type 0} {a b : A} → accepted a ≡ accepted b → a ≡ b
accepted_inj e = cc

pub accepted_not_refused : {A : Type 0} {a : A} {k : ℕ} → refused k ≡ accepted a → ⊥
accepted_not_refused e = let z : ◌≡◌ {A = ℕ} 0 1 = cc in omega arith

pub refuse_if_accepted : {A : Type 0} (b : Bool) (k : ℕ) (rest : Outcome A) (a : A) → refuse_if b k rest ≡ accepted a → (b ≡ false) × (rest ≡ accepted a)
unfolding refuse_if
refuse_if_accepted true k rest a e = absurd (accepted_not_refused e)
refuse_if_accepted false k rest a e = (refl, e)

pub refuse_if_zero : {A : Type 0} (b : Bool) (k : ℕ) (rest : Outcome A) → (k ≡ 0 → ⊥) → number_of (refuse_if b k rest) ≡ 0
    → (refuse_if b k rest ≡ rest) × (number_of rest ≡ 0)
unfolding refuse_if
refuse_if_zero true k rest n z = absurd (n z)
refuse_if_zero false k rest n z = (refl, z)

pub refused_number : {A : Type 0} (o : Outcome A) (k : ℕ) → k ≡ number_of o → (k ≡ 0 → ⊥) → refused k ≡ o
refused_number (accepted value) k e n = absurd (n e)
refused_number (refused number) k e n = ap refused e

pub both : (a b : Bool) → (a && b) ≡ true → (a ≡ true) × (b ≡ true)
both true b e = (refl, e)
both false b e = absurd (false≢true e)

pub number_some : (r : Refusal) → refusal_number r ≡ 0 → ⊥
number_some Refusals.Plan e = omega arith
number_some Refusals.Length e = omega arith
number_some Refusals.State e = omega arith
number_some Refusals.Vote e = omega arith
number_some Refusals.Network e = omega arith
number_some Refusals.Inbox e = omega arith
number_some Refusals.Event e = omega arith
number_some Refusals.Slot e = omega arith
number_some Refusals.Role e = omega arith
number_some Refusals.Ballot e = omega arith
number_some Refusals.Contradiction e = omega arith
number_some Refusals.NotEnabled e = omega arith
number_some Refusals.NetworkFull e = omega arith
number_some Refusals.InboxFull e = omega arith
number_some Refusals.Map e = omega arith
number_some Refusals.MessageLength e = omega arith
number_some Refusals.Field e = omega arith
number_some Refusals.Order e = omega arith
number_some Refusals.Events e = omega arith
number_some Refusals.Summary e = omega arith

abbrev refusal_of : ℕ → Refusal
refusal_of k =
    cond (eqb k 1) Refusals.Plan
    (cond (eqb k 2) Refusals.Length
    (cond (eqb k 3) Refusals.State
    (cond (eqb k 4) Refusals.Vote
    (cond (eqb k 5) Refusals.Network
    (cond (eqb k 6) Refusals.Inbox
    (cond (eqb k 7) Refusals.Event
    (cond (eqb k 8) Refusals.Slot
    (cond (eqb k 9) Refusals.Role
    (cond (eqb k 10) Refusals.Ballot
    (cond (eqb k 11) Refusals.Contradiction
    (cond (eqb k 12) Refusals.NotEnabled
    (cond (eqb k 13) Refusals.NetworkFull
    (cond (eqb k 14) Refusals.InboxFull
    (cond (eqb k 15) Refusals.Map
    (cond (eqb k 16) Refusals.MessageLength
    (cond (eqb k 17) Refusals.Field
    (cond (eqb k 18) Refusals.Order
    (cond (eqb k 19) Refusals.Events
    Refusals.Summary))))))))))))))))))

of_number : (r : Refusal) → refusal_of (refusal_number r) ≡ r
of_number Refusals.Plan = refl
of_number Refusals.Length = refl
of_number Refusals.State = refl
of_number Refusals.Vote = refl
of_number Refusals.Network = refl
of_number Refusals.Inbox = refl
of_number Refusals.Event = refl
of_number Refusals.Slot = refl
of_number Refusals.Role = refl
of_number Refusals.Ballot = refl
of_number Refusals.Contradiction = refl
of_number Refusals.NotEnabled = refl
of_number Refusals.NetworkFull = refl
of_number Refusals.InboxFull = refl
of_number Refusals.Map = refl
of_number Refusals.MessageLength = refl
of_number Refusals.Field = refl
of_number Refusals.Order = refl
of_number Refusals.Events = refl
of_number Refusals.Summary = refl

pub number_injective : (r s : Refusal) → refusal_number r ≡ refusal_number s → r ≡ s
number_injective r s e = sym (of_number r) ∙ ap refusal_of e ∙ of_number s

pub outcome_injective : {A : Type 0} (a b : Result A Refusal) → outcome a ≡ outcome b → a ≡ b
outcome_injective (Ok x) (Ok y) e = ap Ok (accepted_inj e)
outcome_injective (Ok x) (Err s) e = absurd (accepted_not_refused (sym e))
outcome_injective (Err r) (Ok y) e = absurd (accepted_not_refused e)
outcome_injective (Err r) (Err s) e = let n : refusal_number r ≡ refusal_number s = cc in ap Err (number_injective r s n)

pub left_by : {B : Type 0} {answer : Result B Refusal} {r : Refusal} → IsErrAnd answer (λ s. s ≡ r) → answer ≡ Err r
left_by {answer = answer} h = let p = err_from_is_err_and answer h in p.1 ∙ ap Err p.2
