-- An event is four bytes: kind, who, high, low (document 01, "The nine events"; row 7 of "Refusals by place").
--     kind_of, who_of, high_of, low_of, slot_number   its fields
--     who_limit                                    how many processes the kind's role has
--     are_arguments                                whether high and low are in range for the kind
--     is_event                                     row 7
--     kind_number, kind_with                       the number of a kind, and the kind with a number
--     kind_read                                    the kind that a number is, or none
--     event_of, read_event                         the event that the bytes are, or none
-- Its laws are in Event/Laws.antt and proofs/Reading.antt. Assumes nothing.
pub mod Laws
use Rattle.std.specs.Prelude.{ℕ, ◌+◌, ◌*◌, Bool, true, ◌&&◌, cond, List, ltb, leb, eqb, length, get_or, Option, Some, None}
use Rattle.message.specs.declared.Plan.{Plan}
use Rattle.event.specs.declared.Kind.{Kind}
use Rattle.event.specs.declared.Kind.TheVariants.{Prepare, ChooseToAbort, TakeDecision, Vote, Receipt, Phase1a, Phase2a, Commit, Abort}
use Rattle.event.specs.declared.Event as EventType

abbrev pub kind_of : List ℕ → ℕ
kind_of e = get_or e 0 0

abbrev pub who_of : List ℕ → ℕ
who_of e = get_or e 1 0

abbrev pub high_of : List ℕ → ℕ
high_of e = get_or e 2 0

abbrev pub low_of : List ℕ → ℕ
low_of e = get_or e 3 0

-- the slot of N that kinds 2, 3 and 4 name
unfoldable pub slot_number : List ℕ → ℕ
slot_number e = 256 * high_of e + low_of e

-- resource managers (document 01: weights) for kinds 0 to 2, acceptors for 3, leaders from 4 on
unfoldable pub who_limit : Plan → ℕ → ℕ
who_limit p kind = cond (leb kind 2) p.rms (cond (eqb kind 3) p.acceptors p.leaders)

unfoldable pub are_zero : ℕ → ℕ → Bool
are_zero high low = eqb high 0 && eqb low 0

-- both 0 for kinds 0 and 1; any slot for 2, 3 and 4; an instance and a ballot for 5 and 6; both 0 for 7 and 8
unfoldable pub are_arguments : Plan → ℕ → ℕ → ℕ → Bool
are_arguments p kind high low =
    cond (leb kind 1) (are_zero high low)
    (cond (leb kind 4) true
    (cond (leb kind 6) (ltb high p.rms)
    (are_zero high low)))

unfoldable pub is_event : Plan → List ℕ → Bool
is_event p e =
    eqb (length e) 4
    && leb (kind_of e) 8
    && ltb (who_of e) (who_limit p (kind_of e))
    && are_arguments p (kind_of e) (high_of e) (low_of e)

abbrev pub kind_number : Kind → ℕ
kind_number Prepare = 0
kind_number ChooseToAbort = 1
kind_number TakeDecision = 2
kind_number Vote = 3
kind_number Receipt = 4
kind_number Phase1a = 5
kind_number Phase2a = 6
kind_number Commit = 7
kind_number Abort = 8

-- the kind with a number; above 7 it is Abort, and an event's number is at most 8
abbrev pub kind_with : ℕ → Kind
kind_with n =
    cond (eqb n 0) Prepare
    (cond (eqb n 1) ChooseToAbort
    (cond (eqb n 2) TakeDecision
    (cond (eqb n 3) Vote
    (cond (eqb n 4) Receipt
    (cond (eqb n 5) Phase1a
    (cond (eqb n 6) Phase2a
    (cond (eqb n 7) Commit
    Abort)))))))

-- that kind, or none
abbrev pub kind_read : ℕ → Option Kind
kind_read n = cond (leb n 8) (Some (kind_with n)) None

abbrev pub event_of : List ℕ → EventType.Event
event_of e = record { kind = kind_with (kind_of e); who = who_of e; high = high_of e; low = low_of e }

unfoldable pub read_event : Plan → List ℕ → Option EventType.Event
read_event p e = cond (is_event p e) (Some (event_of e)) None
