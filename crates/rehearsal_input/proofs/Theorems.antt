-- The input in literal numbers and in document 01's words ("The rehearsal"), so that a wrong definition is refused here.
--     plan_examples, plan_bytes                    inputs that are cut, whose plan is bad, and whose plan is good; the five bytes of a plan
--     events_count, events_first, rest_ignored     at most 8,192 events; few are all given; the rest plays no part
--     event_examples                               whole and cut events, and how many there are
-- Assumes nothing.
use Rattle.std.specs.Prelude.{ℕ, ◌+◌, ◌*◌, ◌-◌, ◌≤◌, min, List, [], ◌∷◌, ◌++◌, map, ◌≡◌, refl, length, take, drop}
use Rattle.std.proofs.Common.{◌∙◌, ap, arith, length-take, length-drop, take_all}
use Rattle.std.proofs.lemmas.List.{take-append-le, drop-append-le}
use Rattle.message.specs.Outcome.{accepted, refused, refuse_if}
use Rattle.message.specs.Plan.{is_plan, is_count}
use Rattle.rehearsal_input.specs.Input.{plan_of, plan_in, events_in, event_count, event_at}

-- "A bad or short plan": 1
pub plan_examples : map plan_in
    ([]
    ∷ (1 ∷ 1 ∷ 1 ∷ 0 ∷ [])
    ∷ (0 ∷ 1 ∷ 1 ∷ 0 ∷ 0 ∷ [])
    ∷ (17 ∷ 1 ∷ 1 ∷ 0 ∷ 0 ∷ [])
    ∷ (1 ∷ 0 ∷ 1 ∷ 0 ∷ 0 ∷ [])
    ∷ (1 ∷ 8 ∷ 1 ∷ 0 ∷ 0 ∷ [])
    ∷ (1 ∷ 1 ∷ 0 ∷ 0 ∷ 0 ∷ [])
    ∷ (1 ∷ 1 ∷ 5 ∷ 0 ∷ 0 ∷ [])
    ∷ (1 ∷ 1 ∷ 1 ∷ 0 ∷ 0 ∷ [])
    ∷ (16 ∷ 7 ∷ 4 ∷ 1 ∷ 2 ∷ 255 ∷ [])
    ∷ (1 ∷ 1 ∷ 1 ∷ 255 ∷ 255 ∷ [])
    ∷ [])
    ≡ refused 1
    ∷ refused 1
    ∷ refused 1
    ∷ refused 1
    ∷ refused 1
    ∷ refused 1
    ∷ refused 1
    ∷ refused 1
    ∷ accepted (record { rms = 1; acceptors = 1; leaders = 1; order = 0 })
    ∷ accepted (record { rms = 16; acceptors = 7; leaders = 4; order = 0x0102 })
    ∷ accepted (record { rms = 1; acceptors = 1; leaders = 1; order = 65535 })
    ∷ []
unfolding plan_in refuse_if is_plan is_count
plan_examples = refl

-- the order number "as two bytes after L", the higher first
pub plan_bytes : (n a l high low : ℕ) (rest : List ℕ)
    → plan_of (n ∷ a ∷ l ∷ high ∷ low ∷ rest) ≡ record { rms = n; acceptors = a; leaders = l; order = 256 * high + low }
plan_bytes n a l high low rest = refl

-- "at most 8,192", each of four bytes
pub events_count : (input : List ℕ) → length (events_in input) ≡ min 32768 (length input - 5)
unfolding events_in
events_count input = rw (length-take, length-drop) refl

pub events_first : (n a l high low : ℕ) (events : List ℕ) → length events ≤ 32768 → events_in (n ∷ a ∷ l ∷ high ∷ low ∷ events) ≡ events
unfolding events_in
events_first n a l high low events h = take_all 32768 events h

-- "the rest is ignored"
pub rest_ignored : (input more : List ℕ) → length input ≡ 32773 → events_in (input ++ more) ≡ events_in input
unfolding events_in
rest_ignored input more size =
    ap (take 32768) (drop-append-le 5 input more (omega arith))
    ∙ take-append-le 32768 (drop 5 input) more (rw (length-drop 5 input) (omega arith))

-- "A cut last event" is one more event, and has fewer than four bytes
pub event_examples : (map event_count ([] ∷ (1 ∷ []) ∷ (1 ∷ 2 ∷ 3 ∷ 4 ∷ []) ∷ (1 ∷ 2 ∷ 3 ∷ 4 ∷ 5 ∷ []) ∷ []) ≡ 0 ∷ 1 ∷ 1 ∷ 2 ∷ [])
    × (map (event_at (1 ∷ 2 ∷ 3 ∷ 4 ∷ 5 ∷ 6 ∷ 7 ∷ 8 ∷ 9 ∷ [])) (0 ∷ 1 ∷ 2 ∷ 3 ∷ [])
    ≡ (1 ∷ 2 ∷ 3 ∷ 4 ∷ []) ∷ (5 ∷ 6 ∷ 7 ∷ 8 ∷ []) ∷ (9 ∷ []) ∷ [] ∷ [])
unfolding event_at
event_examples = (refl, refl)
