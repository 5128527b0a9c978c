-- What `tables::judge` answers of N and the inboxes beside it. Document 01's rows are in `record_judged` and `leader_judged`, which say the same
-- of their tables.
--     tables_up_to, are_tables  so many equal parts, each of them a table by itself
--     tables_judged             the plan, N and the inboxes
-- Its laws are in Tables/Laws.antt, and how the code judges slots by bounds in the other files of Tables/. Assumes nothing.
pub mod Laws
pub mod Bounds
pub mod Each
pub mod Edge
use Rattle.std.specs.Prelude.{ℕ, zero, suc, ◌*◌, ◌/◌, Bool, true, not, ◌&&◌, List, length, take, drop}
use Rattle.message.specs.declared.Plan.{Plan}
use Rattle.message.specs.Outcome.{Outcome, accepted, refuse_if}
use Rattle.message.specs.Plan.{is_plan}
use Rattle.slots.specs.Table.{is_table}

-- the first `count` parts of this size are tables
unfoldable pub tables_up_to : Plan → ℕ → ℕ → List ℕ → Bool
tables_up_to p size zero t = true
tables_up_to p size (suc count) t = is_table p (take size (drop (count * size) t)) && tables_up_to p size count t

-- each of so many equal parts is a table by itself; bytes after the last of them are the lengths' affair (row 2)
unfoldable pub are_tables : Plan → ℕ → List ℕ → Bool
are_tables p parts t = tables_up_to p (length t / parts) parts t

-- rows 1, 5 and 6
unfoldable pub tables_judged : Plan → List ℕ → ℕ → List ℕ → Outcome (Unit {0})
tables_judged p network parts inboxes =
    refuse_if (not (is_plan p)) 1
    (refuse_if (not (is_table p network)) 5
    (refuse_if (not (are_tables p parts inboxes)) 6
    (accepted tt)))
