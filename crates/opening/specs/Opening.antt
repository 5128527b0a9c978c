-- The tables of an order record, their lengths and opening them (document 01, "The plan and four tables", and rows 1 and 2 of "Refusals by
-- place"; document 02, Paper 5, for the summary and row 20).
--     Tables, tables_of                   W, Q, N, I and the summary
--     four_of, four                      the four of document 01 alone
--     lent                               what is lent to be read, as these tables
--     with_states, with_votes, with_network, with_inboxes, with_summary  one of them replaced, as a whole
--     inbox_size, are_lengths            the bytes of each of the L equal parts of I; row 2
--     lengths_judged, open_judged        rows 1 and 2; and 20, which here asks for the summary's length alone
--     zeroed, Opening, opening_of, opened, record_open   opening a record: every byte zero
-- Where the parts of I lie is in Opening/Parts.antt, that rows 1 and 2 read no summary in Opening/Four.antt. Assumes nothing.
pub mod Parts
pub mod Four
use Rattle.std.specs.Prelude.{ℕ, ◌*◌, ◌/◌, ◌%◌, Bool, not, ◌&&◌, List, [], eqb, length, replicate, Result}
use Rattle.opening.specs.declared.Lent.{Lent}
use Rattle.message.specs.declared.Plan.{Plan}
use Rattle.message.specs.Outcome.{Outcome, accepted, refused, and_then, refuse_if, outcome}
use Rattle.message.specs.Plan.{is_plan}
use Rattle.slots.specs.Table.{is_table_length}
use Rattle.message.specs.declared.Refusal.{Refusal}

-- W, Q, N, I and the summary
pub record Tables : Type 0 where
  pub states : List ℕ
  pub votes : List ℕ
  pub network : List ℕ
  pub inboxes : List ℕ
  pub summary : List ℕ

abbrev pub tables_of : List ℕ → List ℕ → List ℕ → List ℕ → List ℕ → Tables
tables_of states votes network inboxes summary =
    record { states = states; votes = votes; network = network; inboxes = inboxes; summary = summary }

-- the four tables of document 01, for what reads no summary
abbrev pub four_of : List ℕ → List ℕ → List ℕ → List ℕ → Tables
four_of states votes network inboxes = tables_of states votes network inboxes []

abbrev pub four : Tables → Tables
four t = four_of t.states t.votes t.network t.inboxes

-- the tables as they are lent
abbrev pub lent : Lent → Tables
lent l = tables_of l.states.now l.votes.now l.network.now l.inboxes.now l.summary.now

-- the tables with one of them replaced
abbrev pub with_states : Tables → List ℕ → Tables
with_states t states = tables_of states t.votes t.network t.inboxes t.summary

abbrev pub with_votes : Tables → List ℕ → Tables
with_votes t votes = tables_of t.states votes t.network t.inboxes t.summary

abbrev pub with_network : Tables → List ℕ → Tables
with_network t network = tables_of t.states t.votes network t.inboxes t.summary

abbrev pub with_inboxes : Tables → List ℕ → Tables
with_inboxes t inboxes = tables_of t.states t.votes t.network inboxes t.summary

abbrev pub with_summary : Tables → List ℕ → Tables
with_summary t summary = tables_of t.states t.votes t.network t.inboxes summary

-- the bytes of each of the L equal parts of I
unfoldable pub inbox_size : Plan → List ℕ → ℕ
inbox_size p inboxes = length inboxes / p.leaders

-- row 2: W has n bytes, Q 3 × n × A; N is whole slots, at most 1,024, and I is L equal parts of that sort
unfoldable pub are_lengths : Plan → Tables → Bool
are_lengths p t =
    eqb (length t.states) p.rms
    && eqb (length t.votes) (3 * (p.rms * p.acceptors))
    && is_table_length (length t.network)
    && eqb (length t.inboxes % p.leaders) 0
    && is_table_length (inbox_size p t.inboxes)

-- rows 1 and 2
unfoldable pub lengths_judged : Plan → Tables → Outcome (Unit {0})
lengths_judged p t =
    refuse_if (not (is_plan p)) 1
    (refuse_if (not (are_lengths p t)) 2
    (accepted tt))

-- and then row 20: the summary has n × L bytes, whatever they are
unfoldable pub open_judged : Plan → Tables → Outcome (Unit {0})
open_judged p t =
    and_then (lengths_judged p t) (λ _.
    refuse_if (not (eqb (length t.summary) (p.rms * p.leaders))) 20
    (accepted tt))

-- zeros, as many as there were bytes
unfoldable pub zeroed : List ℕ → List ℕ
zeroed bytes = replicate (length bytes) 0

pub record Opening : Type 0 where
  pub answer : Outcome (Unit {0})
  pub tables : Tables

-- the answer's enum and the tables at exit
abbrev pub opening_of : Result (Unit {0}) Refusal → Tables → Opening
opening_of judged t = record { answer = outcome judged; tables = t }

-- every byte zero; a refusal leaves the tables as they were
abbrev pub opened : Tables → Outcome (Unit {0}) → Opening
opened t (accepted a) =
    record {
      answer = accepted a;
      tables = tables_of (zeroed t.states) (zeroed t.votes) (zeroed t.network) (zeroed t.inboxes) (zeroed t.summary);
    }
opened t (refused number) = record { answer = refused number; tables = t }

unfoldable pub record_open : Plan → Tables → Opening
record_open p t = opened t (open_judged p t)
