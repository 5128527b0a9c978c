-- What a call answers, as document 01 writes it: an acceptance with its values, or one refusal number.
--     Outcome     accepted with a value, or refused with a number
--     number_of    document 01's number of an outcome: 0, or the refusal
--     refusal_number     document 01's number of a refusal
--     outcome      the outcome that a call's answer is
--     and_then     an accepted value goes on to the rows below, a refusal stays
--     refuse_if   a row of "Refusals by place": the number if the row applies, else what the rows below it say
-- Its laws are in proofs/Outcome/Laws.antt. Assumes nothing.
use Rattle.std.specs.Prelude.{ℕ, Bool, true, false, Result, Ok, Err}
use Rattle.message.specs.declared.Refusal.{Refusal}
use Rattle.message.specs.declared.Refusal.TheVariants as Refusals

pub data Outcome (A : Type 0) : Type 0 where
  accepted : A → Outcome A
  refused : ℕ → Outcome A

unfoldable pub refuse_if : {A : Type 0} → Bool → ℕ → Outcome A → Outcome A
refuse_if true number rest = refused number
refuse_if false number rest = rest

unfoldable pub and_then : {A B : Type 0} → Outcome A → (A → Outcome B) → Outcome B
and_then (accepted value) next = next value
and_then (refused number) next = refused number

abbrev pub number_of : {A : Type 0} → Outcome A → ℕ
number_of (accepted value) = 0
number_of (refused number) = number

-- the refusals of "Refusals by place"; 18 to 20 are document 02's
abbrev pub refusal_number : Refusal → ℕ
refusal_number Refusals.Plan = 1
refusal_number Refusals.Length = 2
refusal_number Refusals.State = 3
refusal_number Refusals.Vote = 4
refusal_number Refusals.Network = 5
refusal_number Refusals.Inbox = 6
refusal_number Refusals.Event = 7
refusal_number Refusals.Slot = 8
refusal_number Refusals.Role = 9
refusal_number Refusals.Ballot = 10
refusal_number Refusals.Contradiction = 11
refusal_number Refusals.NotEnabled = 12
refusal_number Refusals.NetworkFull = 13
refusal_number Refusals.InboxFull = 14
refusal_number Refusals.Map = 15
refusal_number Refusals.MessageLength = 16
refusal_number Refusals.Field = 17
refusal_number Refusals.Order = 18
refusal_number Refusals.Events = 19
refusal_number Refusals.Summary = 20

-- what a call answers: its value, or a refusal
abbrev pub outcome : {A : Type 0} → Result A Refusal → Outcome A
outcome (Ok value) = accepted value
outcome (Err refusal) = refused (refusal_number refusal)
