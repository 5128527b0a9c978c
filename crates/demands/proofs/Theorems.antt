-- The demands on one page. `record_step`, `record_run`, `record_open`, `rm_step`, `acceptor_step`, `leader_step`, `read_message` and `write_message` are what
-- the contracts of the calls equate their answers and tables with, for all tables, bytes and events: no contract has a `requires`, and every call ends.
--     demand_1, _first (_list, _opening, _roles, _messages)      an acceptance or one refusal number from the documents; the first row that applies, in
--                           the documents' order; no byte changes
--     demand_2, _acts, _sets, _copies, _published      accepted exactly where the published action is enabled and no other row applies; what is then set
--     demand_3, _words, _list     over every list of event calls and list calls from a fresh record
--     summary_true, _decided      after such a list the summary says what the inboxes say: what is Decided, and which weights have declined
--     same_answers, same_runs     and all answers are those of the calls without a summary
--     list_counts, list_claims     a list call counts as its single calls in order, and as none where it is refused; its answers and tables are theirs
--     byte_form, _written   a slice is read as a message exactly where it is the one form of that message
--     orders_apart, _list, _roles  no call accepts what another order's writer gives, not as a slice and not from a table; by which rows: Orders.antt
-- For every plan, so for each order number. Assumes nothing.
use Rattle.std.specs.Prelude.{ℕ, ◌*◌, ◌+◌, ◌<◌, true, ◌⊎◌, ◌↔◌, ◌≡◌, length, get_or, take}
use mathlib.Core.List.{List, [], ◌∷◌, ◌++◌, map, Memᴰ}
use Rattle.std.proofs.Math.Path.{refl}
use Rattle.std.proofs.Common.{sym}
use Rattle.message.specs.declared.Plan.{Plan}
use Rattle.message.specs.declared.Message.{Message}
use Rattle.message.specs.Outcome.{accepted, refused}
use Rattle.message.specs.Rows.{Applies, First}
use Rattle.message.proofs.Rows.Laws.{applies_of_first}
use Rattle.message.specs.Plan.{is_plan}
use Rattle.message.specs.Form.{bytes_of, is_in_range}
use Rattle.message.specs.Codec.{read_message, write_message}
use Rattle.message.specs.Theorems.{answer, form, reader_rows, writer_rows}
use Rattle.message.proofs.Theorems.{reader_answers, writer_answers, read_exactly, written_exactly, other_written}
use Rattle.slots.specs.Table.{slots, messages}
use Rattle.summary.specs.Summary.{standing}
use Rattle.event.specs.Event.{kind_of}
use Rattle.paxos_commit.specs.PaxosCommit.{State, prepared, aborted, phase2a, initial, PCStep}
use Rattle.paxos_commit.specs.Widened.{WidenedStep}
use Rattle.rm.specs.Rm.{rm_step}
use Rattle.acceptor.specs.Acceptor.{acceptor_step}
use Rattle.leader.specs.Leader.{stands, leader_step}
use Rattle.record.specs.Record.{Tables, with_summary, inbox_of, RecordStep, record_step, record_open}
use Rattle.matching.specs.Reading.{is_rm, is_acceptor, is_majority_set, set_of}
use Rattle.matching.specs.Call.{Accepted, Enabled}
use Rattle.matching.specs.Rm.{rm_rows}
use Rattle.matching.specs.Acceptor.{acceptor_rows}
use Rattle.matching.specs.Leader.{DecidedIn, state_of, leader_rows}
use Rattle.matching.proofs.Theorems.{rm_answers, rm_keeps, acceptor_answers, acceptor_keeps, leader_answers, leader_keeps}
use Rattle.conformance.specs.Record.{record_state, summary_row, open_rows, event_rows, record_rows, Acted}
use Rattle.conformance.specs.Action.{Action, Copies}
use Rattle.conformance.proofs.Action.Laws.{action_acted, copies_acted, enabled_no_row}
use Rattle.conformance.proofs.Theorems.{record_answers, record_keeps, record_acts, open_answers, open_keeps}
use Rattle.batch.specs.Run.{events_of, numbers_of, record_run}
use Rattle.batch.specs.Rows.{list_rows, run_rows}
use Rattle.batch.proofs.Theorems.{run_answers, run_keeps}
use Rattle.safety.specs.Lists.{Fresh, Call, event, run, made, answers, AfterEach, Safe, tables_after}
use Rattle.safety.specs.Plain.{plain_run, plain_answers, plain_after}
use Rattle.safety.proofs.Standing as Standing
use Rattle.safety.proofs.Theorems as Safety
use Rattle.safety.proofs.Words as Words
use Rattle.safety.proofs.Words.{SafeInWords}
use Rattle.safety.proofs.Behaviour.{action_published}
use Rattle.demands.specs.Answer.{AcceptedOr, one_to14, to14_and20, KeepsOwn, KeepsLeader}
use Rattle.demands.proofs.Answer.Laws.{is_among, accepted_or}
use Rattle.demands.proofs.Orders.Laws.{network_row, inbox_row, rm_row, acceptor_row, leader_row, leader_inbox_row}

module _ (p : Plan) (t : Tables) where
  pub demand_1 : (e : List ℕ)
      → AcceptedOr to14_and20 (record_step p t e).answer
      × ((k : ℕ) → (record_step p t e).answer ≡ refused k → (record_step p t e).tables ≡ t)
  unfolding is_among
  demand_1 e = (
    accepted_or to14_and20 (record_rows p t e) refl _ (λ k is. applies_of_first (record_rows p t e) k (((record_answers p t e).refuses k).0 is)),
    record_keeps p t e,
  )

  -- the rows stand in the order 1 to 6, 20, 7 to 14
  pub demand_1_first : (e : List ℕ) (k : ℕ) → ((record_step p t e).answer ≡ refused k) ↔ First (record_rows p t e) k
  demand_1_first e = (record_answers p t e).refuses

  -- the list call, which is lent the answers too
  pub demand_1_list : (events given : List ℕ)
      → AcceptedOr (1 ∷ 2 ∷ 3 ∷ 4 ∷ 5 ∷ 6 ∷ 19 ∷ 20 ∷ []) (record_run p t events given).answer
      × ((k : ℕ) → (record_run p t events given).answer ≡ refused k
      → ((record_run p t events given).tables ≡ t) × ((record_run p t events given).answers ≡ given))
      × ((k : ℕ)
      → ((record_run p t events given).answer ≡ refused k)
      ↔ (Applies (run_rows p t events given) k × ((j : ℕ) → j < k → Applies (run_rows p t events given) j → ⊥)))
  unfolding is_among
  demand_1_list events given = (
    accepted_or _ (run_rows p t events given) refl _ (λ k is. (((run_answers p t events given).refuses k).0 is).0),
    run_keeps p t events given,
    (run_answers p t events given).refuses,
  )

  pub demand_1_opening :
      AcceptedOr (1 ∷ 2 ∷ 20 ∷ []) (record_open p t).answer
      × ((k : ℕ) → (record_open p t).answer ≡ refused k → (record_open p t).tables ≡ t)
  unfolding is_among
  demand_1_opening = (accepted_or _ (open_rows p t) refl _ (λ k is. (((open_answers p t).refuses k).0 is).0), open_keeps p t)

pub demand_1_roles : (p : Plan) (table summary network e : List ℕ)
    → KeepsOwn table network (rm_step p table network e)
    × KeepsOwn table network (acceptor_step p table network e)
    × KeepsLeader table summary network (leader_step p table summary network e)
unfolding is_among
demand_1_roles p table summary network e = (
  (
    accepted_or one_to14 (rm_rows p table network e _) refl _ (λ k is. (((rm_answers p table network e (λ i a. initial)).refuses k).0 is).0),
    rm_keeps p table network e,
  ),
  (
    accepted_or one_to14 (acceptor_rows p table network e _) refl _ (λ k is. (((acceptor_answers p table network e (λ i. 0)).refuses k).0 is).0),
    acceptor_keeps p table network e,
  ),
  (
    accepted_or to14_and20 (leader_rows p table summary network e (state_of p network (λ i. 0) (λ i a. initial))) refl _
        (λ k is.
        applies_of_first (leader_rows p table summary network e (state_of p network (λ i. 0) (λ i a. initial))) k
        (((leader_answers p table summary network e (λ i. 0) (λ i a. initial)).refuses k).0 is)),
    leader_keeps p table summary network e,
  ),
)

-- the reader and the writer are lent nothing; their rows (`reader_rows`, `writer_rows`) are 1 and 15 to 18
pub demand_1_messages : (p : Plan)
    → ((bytes : List ℕ) → AcceptedOr (1 ∷ 15 ∷ 16 ∷ 17 ∷ 18 ∷ []) (read_message p bytes))
    × ((m : Message) → AcceptedOr (1 ∷ 15 ∷ 16 ∷ 17 ∷ []) (answer (write_message p m)))
unfolding is_among
demand_1_messages p = (
  λ b. accepted_or _ (reader_rows p b) refl _ (λ k is. (((reader_answers p b).refuses k).0 is).0),
  λ m. accepted_or _ (writer_rows p m) refl _ (λ k is. (((writer_answers p m).refuses k).0 is).0),
)

module _ (p : Plan) (t : Tables) (e : List ℕ) where
  -- an accepted call: the action, the sent message, the answered slot and every byte of the five tables; kinds 7 and 8 take Decided from the summary
  pub demand_2_acts : Accepted (record_step p t e).answer → Acted p t e (record_step p t e).answer (record_step p t e).tables
  demand_2_acts (sent, is) = record_acts p t e sent is

  -- so it sets what the action sets; and a receipt copies a message to its leader's inbox
  pub demand_2_sets : Accepted (record_step p t e).answer → Action p t e (record_state p t) (record_state p (record_step p t e).tables)
  demand_2_sets taken = action_acted p t e _ _ (demand_2_acts taken)

  pub demand_2_copies : Accepted (record_step p t e).answer → kind_of e ≡ 4 → Copies p t e (record_step p t e).tables
  demand_2_copies taken = copies_acted p t e _ _ (demand_2_acts taken)

  -- exactly when; row 12 is that the action is not enabled, the others are the documents' extra refusals
  pub demand_2 : Accepted (record_step p t e).answer
      ↔ (Enabled p (Action p t e) (record_state p t) × ((k : ℕ) → (k ≡ 12 → ⊥) → Applies (record_rows p t e) k → ⊥))
  demand_2 = (
    (λ taken. ((record_state p (record_step p t e).tables, demand_2_sets taken), λ k other. (record_answers p t e).accepts.0 taken k)),
    λ (able, others). (record_answers p t e).accepts.1 (enabled_no_row p t e able others),
  )

module _ (p : Plan) (t : Tables) (fresh : Fresh t) (calls : List Call) where
  pub demand_3 : AfterEach p (Safe p) t calls
  demand_3 = Safety.demand_3 p t fresh calls

  -- the same in the numbers of document 01
  pub demand_3_words : AfterEach p (SafeInWords p) t calls
  demand_3_words = Words.demand_3_words p t fresh calls

  -- document 02, Paper 5: byte l × n + i of the summary is what leader l's inbox says of instance i: 1 where prepared is Decided, 2 where aborted is;
  -- and by Paper 6 the 2 stands too where the inbox has the 2a by which weight i declines
  pub summary_true : (l i : ℕ) → l < p.leaders → i < p.rms
      → get_or (tables_after p t calls).summary (l * p.rms + i) 0 ≡ standing p (messages p (inbox_of p (tables_after p t calls).inboxes l)) i
  summary_true l i = Standing.summary_true p t fresh calls l i

  -- and a bit stands exactly where the source's Decided holds by the messages of that inbox, for aborted also where that 2a is there
  pub summary_decided : (l i : ℕ) → l < p.leaders → i < p.rms
      → ((stands (tables_after p t calls).summary (l * p.rms + i) 1 ≡ true)
      ↔ DecidedIn p (set_of (messages p (inbox_of p (tables_after p t calls).inboxes l))) i prepared)
      × ((stands (tables_after p t calls).summary (l * p.rms + i) 2 ≡ true)
      ↔ (DecidedIn p (set_of (messages p (inbox_of p (tables_after p t calls).inboxes l))) i aborted
      ⊎ set_of (messages p (inbox_of p (tables_after p t calls).inboxes l)) (phase2a i 0 aborted)))
  summary_decided = Standing.summary_decided p t fresh calls

  -- the calls without a summary are those of document 01, with Decided, and for kind 8 that 2a too, read from the inbox; they neither read nor change one
  pub same_answers : length t.summary ≡ p.rms * p.leaders
      → (answers p t calls ≡ plain_answers p t calls) × (with_summary (tables_after p t calls) t.summary ≡ plain_after p t calls)
  same_answers whole = let same = Standing.same_answers p t fresh calls whole in (same.0, sym same.1)

  -- and so does a list call after such a list
  pub same_runs : length t.summary ≡ p.rms * p.leaders → (events given : List ℕ)
      → ((record_run p (tables_after p t calls) events given).answer ≡ (plain_run p (plain_after p t calls) events given).answer)
      × ((record_run p (tables_after p t calls) events given).answers ≡ (plain_run p (plain_after p t calls) events given).answers)
  same_runs whole = Standing.same_runs p t fresh calls whole

  -- nor does a list call after such a list write 11
  pub demand_3_list : (events given : List ℕ) → (record_run p (tables_after p t calls) events given).answer ≡ accepted tt
      → Memᴰ 11 (record_run p (tables_after p t calls) events given).answers → ⊥
  demand_3_list = Safety.list_never_11 p t fresh calls

  -- and after such a list what an accepted event's action sets is a step of the published module, with every condition read from N; for kind 8 Decide is
  -- widened by a weight's own 2a for aborted (document 001, section 4.2)
  pub demand_2_published : (e : List ℕ) → Accepted (record_step p (tables_after p t calls) e).answer
      → (s' : State) → Action p (tables_after p t calls) e (record_state p (tables_after p t calls)) s'
      → WidenedStep (is_rm p) (is_acceptor p) (is_majority_set p) (record_state p (tables_after p t calls)) s'
      × ((kind_of e ≡ 8 → ⊥) → PCStep (is_rm p) (is_acceptor p) (is_majority_set p) (record_state p (tables_after p t calls)) s')
  demand_2_published = action_published p t fresh calls

-- document 02, Paper 2: what such a list has of a list call, on any tables. The answers are the single calls' numbers, 0 or the refusal
pub list_counts : (p : Plan) (t : Tables) (events given : List ℕ) (calls : List Call)
    → (((record_run p t events given).answer ≡ accepted tt)
    → (made p t (run events given ∷ calls) ≡ made p t (map event (events_of events) ++ calls))
    × ((record_run p t events given).answers ≡ numbers_of (made p t (run events given ∷ [])))
    × ((record_run p t events given).tables ≡ tables_after p t (run events given ∷ [])))
    × ((k : ℕ) → (record_run p t events given).answer ≡ refused k → made p t (run events given ∷ calls) ≡ made p t calls)
list_counts = Safety.run_counts

-- so what is claimed after each call of a list is claimed of each of its events
pub list_claims : (p : Plan) (P : Tables → RecordStep → Type 0) (t : Tables) (events given : List ℕ) (calls : List Call)
    → ((record_run p t events given).answer ≡ accepted tt → AfterEach p P t (run events given ∷ calls) ↔ AfterEach p P t (map event (events_of events) ++ calls))
    × ((k : ℕ) → (record_run p t events given).answer ≡ refused k → AfterEach p P t (run events given ∷ calls) ↔ AfterEach p P t calls)
list_claims p P t events given calls = let counts = Safety.after_each_counts p P t calls in (counts.1 events given, counts.2 events given)

-- the form of a message is `bytes_of`; the writer gives it, with zeros after it, and 0 as its number
module _ (p : Plan) (m : Message) where
  pub byte_form : (bytes : List ℕ)
      → (read_message p bytes ≡ accepted m) ↔ ((is_plan p ≡ true) × (is_in_range p m ≡ true) × (bytes ≡ bytes_of p m))
  byte_form = read_exactly p m

  pub byte_form_written : ((write_message p m).number ≡ 0)
      ↔ ((is_plan p ≡ true) × (is_in_range p m ≡ true) × (take (write_message p m).len (write_message p m).bytes ≡ bytes_of p m))
  byte_form_written = written_exactly p m

-- document 02, Paper 1: "a Commit of the other order must not reach this one". p is this order's plan, and q another order's, whose writer gives m:
-- its form followed by zeros, as it stands in a slot
module _ (p q : Plan) (differs : p.order ≡ q.order → ⊥) (m : Message) (given : (write_message q m).number ≡ 0) where
  pub orders_apart :
      ((n : Message) → read_message p (form (write_message q m)) ≡ accepted n → ⊥)
      × ((t : Tables) (e : List ℕ) → Memᴰ (write_message q m).bytes (slots t.network) → Accepted (record_step p t e).answer → ⊥)
      × ((t : Tables) (e : List ℕ) (l : ℕ) → l < p.leaders → Memᴰ (write_message q m).bytes (slots (inbox_of p t.inboxes l))
      → Accepted (record_step p t e).answer → ⊥)
  orders_apart = (
    (λ n. other_written p q m n differs given),
    (λ t e there taken. (record_answers p t e).accepts.0 taken 5 (network_row p q differs m given t (summary_row p t (event_rows p t e)) there)),
    λ t e l own there taken. (record_answers p t e).accepts.0 taken 6 (inbox_row p q differs m given t (summary_row p t (event_rows p t e)) l own there),
  )

  pub orders_apart_list : (t : Tables) (events given' : List ℕ)
      → (Memᴰ (write_message q m).bytes (slots t.network) → (record_run p t events given').answer ≡ accepted tt → ⊥)
      × ((l : ℕ) → l < p.leaders → Memᴰ (write_message q m).bytes (slots (inbox_of p t.inboxes l))
      → (record_run p t events given').answer ≡ accepted tt → ⊥)
  orders_apart_list t events given' = (
    (λ there taken. (run_answers p t events given').accepts.0 (tt, taken) 5 (network_row p q differs m given t (list_rows p t events given') there)),
    λ l own there taken. (run_answers p t events given').accepts.0 (tt, taken) 6 (inbox_row p q differs m given t (list_rows p t events given') l own there),
  )

  pub orders_apart_roles : (table summary network e : List ℕ)
      → (Memᴰ (write_message q m).bytes (slots network) → Accepted (rm_step p table network e).answer → ⊥)
      × (Memᴰ (write_message q m).bytes (slots network) → Accepted (acceptor_step p table network e).answer → ⊥)
      × (Memᴰ (write_message q m).bytes (slots network) → Accepted (leader_step p table summary network e).step.answer → ⊥)
      × (Memᴰ (write_message q m).bytes (slots table) → Accepted (leader_step p table summary network e).step.answer → ⊥)
  orders_apart_roles table summary network e = (
    (λ there taken. (rm_answers p table network e (λ i a. initial)).accepts.0 taken 5 (rm_row p q differs m given table network e _ there)),
    (λ there taken. (acceptor_answers p table network e (λ i. 0)).accepts.0 taken 5 (acceptor_row p q differs m given table network e _ there)),
    (λ there taken. (leader_answers p table summary network e (λ i. 0) (λ i a. initial)).accepts.0 taken 5
        (leader_row p q differs m given table summary network e (state_of p network (λ i. 0) (λ i a. initial)) there)),
    λ there taken. (leader_answers p table summary network e (λ i. 0) (λ i a. initial)).accepts.0 taken 6
        (leader_inbox_row p q differs m given table summary network e (state_of p network (λ i. 0) (λ i a. initial)) there),
  )
