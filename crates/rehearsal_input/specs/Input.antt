-- The input of a rehearsal (document 01, "The rehearsal": "n, A, L, then events (at most 8,192; the rest is ignored)"; document 02, Paper 1:
-- the order number "as two bytes after L").
--     plan_size, plan_of, plan_in     the plan that an input begins with, or refusal 1
--     events_in                       the bytes of the events after it
--     event_count, event_at           how many events they are, and the k-th, from 0 on
-- Their laws are in proofs/Input/Laws.antt. Assumes nothing.
use Rattle.std.specs.Prelude.{ℕ, ◌+◌, ◌*◌, ◌/◌, not, List, ltb, length, get_or, take, drop}
use Rattle.message.specs.declared.Plan.{Plan}
use Rattle.message.specs.Outcome.{Outcome, accepted, refused, refuse_if}
use Rattle.message.specs.Plan.{is_plan}

-- "n, A, L" and the order number
abbrev pub plan_size : ℕ
plan_size = 5

abbrev pub plan_of : List ℕ → Plan
plan_of input =
    record { rms = get_or input 0 0; acceptors = get_or input 1 0; leaders = get_or input 2 0; order = 256 * get_or input 3 0 + get_or input 4 0 }

-- "A bad or short plan": 1
unfoldable pub plan_in : List ℕ → Outcome Plan
plan_in input =
    refuse_if (ltb (length input) plan_size) 1
    (refuse_if (not (is_plan (plan_of input))) 1
    (accepted (plan_of input)))

-- "then events (at most 8,192; the rest is ignored)", four bytes each
unfoldable pub events_in : List ℕ → List ℕ
events_in input = take (4 * 8192) (drop plan_size input)

-- one for every four bytes, and one for what is left: "a cut last event"
abbrev pub event_count : List ℕ → ℕ
event_count events = (length events + 3) / 4

-- four bytes, fewer where the last event is cut
unfoldable pub event_at : List ℕ → ℕ → List ℕ
event_at events k = take 4 (drop (4 * k) events)
