-- Judging an order record (document 01, "Refusals by place", rows 1 to 6), whatever the event. The four tables and their lengths are the crate
-- `opening`.
--     inbox_of         leader l's inbox is the l-th equal part of I
--     are_inboxes      row 6
--     record_judged    rows 1 to 6: the plan and the four tables; a summary is not read (Judging/Four.antt)
-- Assumes nothing.
pub mod Four
use Rattle.std.specs.Prelude.{ℕ, ◌*◌, Bool, not, List, take, drop}
use Rattle.message.specs.declared.Plan.{Plan}
use Rattle.message.specs.Outcome.{Outcome, accepted, refuse_if}
use Rattle.message.specs.Plan.{is_plan}
use Rattle.slots.specs.Table.{is_table}
use Rattle.inbox.specs.Inbox.{for_all}
use Rattle.rm.specs.Rm.{are_states}
use Rattle.votes.specs.Votes.{are_votes}
use Rattle.opening.specs.Opening.{Tables, inbox_size, are_lengths}

-- leader l's inbox: the l-th equal part of I
unfoldable pub inbox_of : Plan → List ℕ → ℕ → List ℕ
inbox_of p inboxes l = take (inbox_size p inboxes) (drop (l * inbox_size p inboxes) inboxes)

-- row 6: each inbox by itself
unfoldable pub are_inboxes : Plan → List ℕ → Bool
are_inboxes p inboxes = for_all p.leaders (λ l. is_table p (inbox_of p inboxes l))

unfoldable pub record_judged : Plan → Tables → Outcome (Unit {0})
record_judged p t =
    refuse_if (not (is_plan p)) 1
    (refuse_if (not (are_lengths p t)) 2
    (refuse_if (not (are_states t.states)) 3
    (refuse_if (not (are_votes t.votes)) 4
    (refuse_if (not (is_table p t.network)) 5
    (refuse_if (not (are_inboxes p t.inboxes)) 6
    (accepted tt))))))
