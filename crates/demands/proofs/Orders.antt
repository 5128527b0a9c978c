-- Document 02, Paper 1: "a Commit of the other order must not reach this one"; "in a table it counts as 5 or 6". Here p is this order's plan and
-- q another order's, with another number; `(write_message q m).bytes` is what q's writer gives for a message m: its form followed by zeros, as it
-- would stand in a slot.
--     other_order_slice       row 18 applies to it, so no message is read; and it is the answer where nothing else is wrong
--     other_order_record      where it stands in N row 5 of the event call applies, where it stands in an inbox row 6
--     other_order_list        likewise of the list call
--     other_order_roles       likewise of the roles' own calls
-- What applies is what is refused (`demand_1_first`). Opening and ending look at no message; the delivery is in apart/proofs/Theorems.antt. The
-- demands are for every plan, so for each order number. The proofs are in Orders/Laws.antt. Assumes nothing.
pub mod Laws
use Rattle.std.specs.Prelude.{ℕ, ◌<◌, true, ◌≡◌}
use mathlib.Core.List.{List, Memᴰ}
use Rattle.message.specs.declared.Plan.{Plan}
use Rattle.message.specs.declared.Message.{Message}
use Rattle.message.specs.Outcome.{refused}
use Rattle.message.specs.Plan.{is_plan}
use Rattle.message.specs.Form.{is_in_range}
use Rattle.message.specs.Codec.{read_message, write_message}
use Rattle.message.specs.Rows.{Applies}
use Rattle.message.specs.Theorems.{form, reader_rows}
use Rattle.slots.specs.Table.{slots}
use Rattle.record.specs.Record.{Tables, inbox_of}
use Rattle.paxos_commit.specs.PaxosCommit.{State}
use Rattle.matching.specs.Rm.{rm_rows}
use Rattle.matching.specs.Acceptor.{acceptor_rows}
use Rattle.matching.specs.Leader.{leader_rows}
use Rattle.conformance.specs.Record.{summary_row, event_rows, record_rows}
use Rattle.batch.specs.Rows.{list_rows, run_rows}
use Rattle.demands.proofs.Orders.Laws.{slice_row, slice_number, network_row, inbox_row, rm_row, acceptor_row, leader_row, leader_inbox_row}

module _ (p q : Plan) (differs : p.order ≡ q.order → ⊥) (m : Message) (given : (write_message q m).number ≡ 0) where
  pub other_order_slice :
      Applies (reader_rows p (form (write_message q m))) 18
      × (is_plan p ≡ true → is_in_range p m ≡ true → read_message p (form (write_message q m)) ≡ refused 18)
  other_order_slice = (slice_row p q differs m given, slice_number p q differs m given)

  pub other_order_record : (t : Tables) (e : List ℕ)
      → (Memᴰ (write_message q m).bytes (slots t.network) → Applies (record_rows p t e) 5)
      × ((l : ℕ) → l < p.leaders → Memᴰ (write_message q m).bytes (slots (inbox_of p t.inboxes l)) → Applies (record_rows p t e) 6)
  other_order_record t e = (
    network_row p q differs m given t (summary_row p t (event_rows p t e)),
    inbox_row p q differs m given t (summary_row p t (event_rows p t e)),
  )

  pub other_order_list : (t : Tables) (events answers : List ℕ)
      → (Memᴰ (write_message q m).bytes (slots t.network) → Applies (run_rows p t events answers) 5)
      × ((l : ℕ) → l < p.leaders → Memᴰ (write_message q m).bytes (slots (inbox_of p t.inboxes l)) → Applies (run_rows p t events answers) 6)
  other_order_list t events answers = (
    network_row p q differs m given t (list_rows p t events answers),
    inbox_row p q differs m given t (list_rows p t events answers),
  )

  pub other_order_roles : (table summary network e : List ℕ) (s : State)
      → (Memᴰ (write_message q m).bytes (slots network) → Applies (rm_rows p table network e s) 5)
      × (Memᴰ (write_message q m).bytes (slots network) → Applies (acceptor_rows p table network e s) 5)
      × (Memᴰ (write_message q m).bytes (slots network) → Applies (leader_rows p table summary network e s) 5)
      × (Memᴰ (write_message q m).bytes (slots table) → Applies (leader_rows p table summary network e s) 6)
  other_order_roles table summary network e s = (
    rm_row p q differs m given table network e s,
    acceptor_row p q differs m given table network e s,
    leader_row p q differs m given table summary network e s,
    leader_inbox_row p q differs m given table summary network e s,
  )
