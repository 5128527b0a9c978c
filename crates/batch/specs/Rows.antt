-- The rows of "Refusals by place" for the list call (document 02, Papers 2 and 5).
--     list_rows, run_rows   19 and 20; and all, with rows 1 to 6 of the event call before them
-- Assumes nothing.
use Rattle.std.specs.Prelude.{ℕ, ◌/◌, ◌%◌, List, ◌⊎◌, ◌≡◌, length}
use Rattle.message.specs.declared.Plan.{Plan}
use Rattle.message.specs.Rows.{Rows, end, row}
use Rattle.record.specs.Record.{Tables}
use Rattle.conformance.specs.Record.{table_rows, summary_row}

-- "19 when the list isn't whole events or the answers' length differs"; the summary's row "after 19 in a list"
abbrev pub list_rows : Plan → Tables → List ℕ → List ℕ → Rows
list_rows p t events answers =
    row 19 ((length events % 4 ≡ 0 → ⊥) ⊎ (length answers ≡ length events / 4 → ⊥))
    (summary_row p t end)

-- "checked after 6"
abbrev pub run_rows : Plan → Tables → List ℕ → List ℕ → Rows
run_rows p t events answers = table_rows p t (list_rows p t events answers)
