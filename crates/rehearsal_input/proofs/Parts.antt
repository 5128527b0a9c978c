-- The parts of the input that the code takes are the definitions' (Input.antt).
--     with_order, plan_bad, plan_good    the plan whose order number the code has put together
--     events_part     the events' bytes
--     event_part      one event
-- Assumes nothing.
use Prim.Native.Nat.{ℕ, ◌+◌, ◌-◌, ◌*◌, ◌^◌, ◌≤◌, ◌<◌, min}
use Rattle.std.proofs.lemmas.List.{take_rest}
use mathlib.Core.Bool.{true, false}
use mathlib.Core.List.{List}
use mathlib.Core.Path.{◌≡◌, sym}
use native.Mathlib.Omega.{arith}
use lib.ListN.{length, get_or, take, drop, length-drop}
use Rattle.message.specs.declared.Plan.{Plan}
use Rattle.message.specs.Outcome.{accepted, refused}
use Rattle.message.specs.Plan.{is_plan}
use Rattle.rehearsal_input.specs.Input.{plan_size, plan_in, events_in, event_at}
use Rattle.rehearsal_input.proofs.Input.Laws.{plan_in_bad, plan_in_good, take_least, drop_least}

abbrev pub with_order : List ℕ → ℕ → Plan
with_order input order = record { rms = get_or input 0 0; acceptors = get_or input 1 0; leaders = get_or input 2 0; order = order }

module _ (input : List ℕ) (order : ℕ) (enough : plan_size ≤ length input) (is : order ≡ 256 * get_or input 3 0 + get_or input 4 0) where
  pub plan_bad : is_plan (with_order input order) ≡ false → refused 1 ≡ plan_in input
  plan_bad bad = sym (plan_in_bad input enough (rw is at bad))

  pub plan_good : is_plan (with_order input order) ≡ true → accepted (with_order input order) ≡ plan_in input
  plan_good good = rw is (sym (plan_in_good input enough (rw is at good)))

pub events_part : (input : List ℕ) (end from : ℕ) → end ≡ min (length input) 32773 → from ≡ min 5 end
    → take (end - from) (drop from input) ≡ events_in input
unfolding events_in
events_part input end from e f =
    let start : from ≡ min 5 (length input) = omega arith in
    let size : end - from ≡ min 32768 (length (drop 5 input)) = rw (length-drop 5 input) (omega arith) in
    rw (size, start, drop_least 5 input) (take_least 32768 (drop 5 input))

pub event_part : (events : List ℕ) (k : ℕ) → length events < 2 ^ 64 → (from : ℕ) → from ≡ min (min (k * 4) (2 ^ 64 - 1)) (length events)
    → (size : ℕ) → size ≡ min (length (take (length events - from) (drop from events))) 4
    → take size (take (length events - from) (drop from events)) ≡ event_at events k
unfolding event_at
event_part events k fits from f size s =
    let start : from ≡ min (4 * k) (length events) = omega arith in
    let rest = take_rest events from in
    let cut : size ≡ min 4 (length (drop from events)) = rw (← rest) (omega arith) in
    rw (rest, cut, start, drop_least (4 * k) events) (take_least 4 (drop (4 * k) events))
