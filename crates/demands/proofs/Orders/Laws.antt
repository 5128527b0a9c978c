-- Another order's message as a slice and in a table, by the rows that apply.
--     slice_row, slice_number               18
--     bad_table                             a table with such a message is damaged
--     network_row, inbox_row                5 and 6 of the event call and of the list call
--     rm_row, acceptor_row, leader_row, leader_inbox_row     and of the roles' own calls
-- Assumes nothing.
use Rattle.std.specs.Prelude.{ℕ, ◌<◌, true, false, ◌≡◌, refl}
use mathlib.Core.List.{List, Memᴰ}
use Rattle.std.proofs.Common.{sym, ◌∙◌, ap, subst}
use Rattle.message.specs.declared.Plan.{Plan}
use Rattle.message.specs.declared.Message.{Message}
use Rattle.message.specs.declared.Written.{Written}
use Rattle.message.specs.Outcome.{refused}
use Rattle.message.specs.Plan.{is_plan}
use Rattle.message.specs.Form.{is_in_range, slot_of}
use Rattle.message.specs.Codec.{read_message, write_message}
use Rattle.message.proofs.Codec.Laws.{write_message_accepted}
use Rattle.message.proofs.Codec.Answers.{writes, form_accepted}
use Rattle.message.specs.Rows.{Rows, Applies, here, below}
use Rattle.message.specs.Theorems.{form, reader_rows}
use Rattle.message.proofs.Theorems.{other_order, other_order_row}
use Rattle.slots.specs.Table.{slots, is_table}
use Rattle.slots.proofs.Table.Foreign.{foreign_table}
use Rattle.record.specs.Record.{Tables, inbox_of}
use Rattle.paxos_commit.specs.PaxosCommit.{State}
use Rattle.matching.specs.Rm.{rm_rows}
use Rattle.matching.specs.Acceptor.{acceptor_rows}
use Rattle.matching.specs.Leader.{leader_rows}
use Rattle.conformance.specs.Record.{table_rows}

module _ (p q : Plan) (differs : p.order ≡ q.order → ⊥) (m : Message) (given : (write_message q m).number ≡ 0) where
  pub slice_row : Applies (reader_rows p (form (write_message q m))) 18
  slice_row =
      let w = writes q m given in
      subst (λ (bytes : List ℕ). Applies (reader_rows p bytes) 18) (sym (form_accepted q m w.0 w.1)) (other_order_row p q m differs)

  pub slice_number : is_plan p ≡ true → is_in_range p m ≡ true → read_message p (form (write_message q m)) ≡ refused 18
  slice_number plan range = let w = writes q m given in ap (read_message p) (form_accepted q m w.0 w.1) ∙ other_order p q m plan range differs

  bytes_are : (write_message q m).bytes ≡ slot_of q m
  bytes_are = let w = writes q m given in ap (λ (w : Written). w.bytes) (write_message_accepted q m w.0 w.1)

  bad_table : (table : List ℕ) → Memᴰ (write_message q m).bytes (slots table) → is_table p table ≡ false
  bad_table table there = foreign_table p q differs m table (subst (λ (slot : List ℕ). Memᴰ slot (slots table)) bytes_are there)

  -- whatever rows come after the tables'
  module _ (t : Tables) (rest : Rows) where
    pub network_row : Memᴰ (write_message q m).bytes (slots t.network) → Applies (table_rows p t rest) 5
    network_row there = below (below (below (below (here (refl, (bad_table t.network there, tt))))))

    pub inbox_row : (l : ℕ) → l < p.leaders → Memᴰ (write_message q m).bytes (slots (inbox_of p t.inboxes l)) → Applies (table_rows p t rest) 6
    inbox_row l own there = below (below (below (below (below (here (refl, ((l, own, bad_table _ there), tt)))))))

  module _ (table network e : List ℕ) (s : State) where
    pub rm_row : Memᴰ (write_message q m).bytes (slots network) → Applies (rm_rows p table network e s) 5
    rm_row there = below (below (below (here (refl, (bad_table network there, tt)))))

    pub acceptor_row : Memᴰ (write_message q m).bytes (slots network) → Applies (acceptor_rows p table network e s) 5
    acceptor_row there = below (below (below (here (refl, (bad_table network there, tt)))))

  module _ (table summary network e : List ℕ) (s : State) where
    pub leader_row : Memᴰ (write_message q m).bytes (slots network) → Applies (leader_rows p table summary network e s) 5
    leader_row there = below (below (here (refl, (bad_table network there, tt))))

    pub leader_inbox_row : Memᴰ (write_message q m).bytes (slots table) → Applies (leader_rows p table summary network e s) 6
    leader_inbox_row there = below (below (below (here (refl, (bad_table table there, tt)))))
