-- The lists of calls that demand 3 speaks of (document 01, "Transaction Commit", and document 02), and what it claims.
--     Fresh                    every byte of the four tables and of the summary is zero; their lengths are any
--     Call                     one call of a list: an event call or a list call, with any bytes
--     counted_for, counted     the events that a list of calls comes to
--     made                     the single event calls that it comes to, and what each answers and leaves
--     Each, AfterEach          a claim about each of these
--     Safe                     the three claims of demand 3
--     answers, tables_after    what they answer, and the tables that they leave
-- Their laws are in proofs/Lists/Laws.antt, the theorems in proofs/Theorems.antt. Assumes nothing.
use Rattle.std.specs.Prelude.{ℕ, ◌⊎◌, ◌≡◌, length}
use mathlib.Core.List.{List, [], ◌∷◌, ◌++◌, map, Memᴰ}
use Rattle.message.specs.declared.Plan.{Plan}
use Rattle.message.specs.Outcome.{Outcome, accepted, refused}
use Rattle.change.specs.declared.Sent.{Sent}
use Rattle.tcommit.specs.RmState.{committed, aborted}
use Rattle.tcommit.specs.TCommit.{TCNext}
use Rattle.record.specs.Record.{Tables, zeroed, RecordStep, record_step}
use Rattle.matching.specs.Reading.{is_rm, rm_state_of}
use Rattle.batch.specs.Run.{events_of, single_calls, tables_left, record_run}

-- a fresh record: zeros, of any lengths
abbrev pub Fresh : Tables → Type 0
Fresh t =
    (t.states ≡ zeroed t.states)
    × (t.votes ≡ zeroed t.votes)
    × (t.network ≡ zeroed t.network)
    × (t.inboxes ≡ zeroed t.inboxes)
    × (t.summary ≡ zeroed t.summary)

-- one call of a list
pub data Call : Type 0 where
  -- an event call; the event is any bytes
  event : List ℕ → Call
  -- a list call (document 02, Paper 2); the list and the lent answers are any bytes
  run : List ℕ → List ℕ → Call

-- "this call counts as its single calls in order, and as none if the whole call is refused"
abbrev pub counted_for : Outcome (Unit {0}) → List ℕ → List (List ℕ)
counted_for (accepted a) events = events_of events
counted_for (refused number) events = []

-- the events of a list's calls, in order. Every call is given the same plan, the first one the tables t, each later one the tables as the call
-- before left them: `record_step` and `record_run` are what the contracts of `record::step` and `batch::run` name
abbrev pub counted : Plan → Tables → List Call → List (List ℕ)
counted p t [] = []
counted p t (event e ∷ cs) = e ∷ counted p (record_step p t e).tables cs
counted p t (run events given ∷ cs) = counted_for (record_run p t events given).answer events ++ counted p (record_run p t events given).tables cs

-- the single calls that they come to, with what each answers and leaves
abbrev pub made : Plan → Tables → List Call → List RecordStep
made p t calls = single_calls p t (counted p t calls)

-- P of each single call: of the tables that it was given, and of what it answered and left
abbrev pub Each : (Tables → RecordStep → Type 0) → Tables → List RecordStep → Type 0
Each P t [] = Unit {0}
Each P t (s ∷ ss) = P t s × Each P s.tables ss

-- P after each call of a list; refused event calls stay in the list, so do refused events of a list call
abbrev pub AfterEach : Plan → (Tables → RecordStep → Type 0) → Tables → List Call → Type 0
AfterEach p P t calls = Each P t (made p t calls)

pub record Safe (p : Plan) (t : Tables) (r : RecordStep) : Type 0 where
  -- the row of weight states has as many states as before
  pub same_length : length r.tables.states ≡ length t.states
  -- it is as before the call, or what one step of Transaction Commit makes of it
  pub path : (r.tables.states ≡ t.states) ⊎ TCNext (is_rm p) (rm_state_of t.states) (rm_state_of r.tables.states)
  -- no weight is committed while another is aborted
  pub agreed : Memᴰ committed r.tables.states → Memᴰ aborted r.tables.states → ⊥
  -- the call has not refused a decision as contradictory
  pub not_contradicted : r.answer ≡ refused 11 → ⊥

-- each single call's answer, in order
abbrev pub answers : Plan → Tables → List Call → List (Outcome Sent)
answers p t calls = map (λ (s : RecordStep). s.answer) (made p t calls)

-- the tables as the last call left them
abbrev pub tables_after : Plan → Tables → List Call → Tables
tables_after p t calls = tables_left t (made p t calls)
