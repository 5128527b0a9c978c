-- All parts of I.
--     inboxes_are     all inboxes are the equal parts of I
-- Assumes nothing.
use Prim.Native.Nat.{ℕ, zero, suc, ◌*◌, ◌/◌}
use mathlib.Core.Bool.{Bool, ◌&&◌}
use mathlib.Core.List.{List}
use mathlib.Core.Path.{◌≡◌, refl, ap}
use lib.ListN.{length, take, drop}
use Rattle.message.specs.declared.Plan.{Plan}
use Rattle.slots.specs.Table.{is_table}
use Rattle.tables.specs.Tables.{tables_up_to, are_tables}
use Rattle.inbox.specs.Inbox.{for_all}
use Rattle.opening.specs.Opening.{inbox_size}
use Rattle.judging.specs.Judging.{inbox_of, are_inboxes}

module _ (p : Plan) (inboxes : List ℕ) where
  abbrev size : ℕ
  size = length inboxes / p.leaders

  -- as so many equal parts
  pub inboxes_are : are_tables p p.leaders inboxes ≡ are_inboxes p inboxes
  unfolding are_tables tables_up_to are_inboxes inbox_of inbox_size for_all
  inboxes_are = go p.leaders
    where
      go : (count : ℕ) → tables_up_to p size count inboxes ≡ for_all count (λ l. is_table p (take size (drop (l * size) inboxes)))
      go zero = refl
      go (suc count) = ap (λ (b : Bool). is_table p (take size (drop (count * size) inboxes)) && b) (go count)
