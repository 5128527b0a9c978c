-- The tests that rows 1 to 7 and 10 name, majorities and the parts of I, in document 01's own words: each test passes exactly where the sentence
-- holds. The proofs are in Record/Words.antt.
--     plan_range                    n from 1 to 16, A from 1 to 7, L from 1 to 4
--     table_length, inboxes_length  whole slots of 8 bytes, at most 1,024; L equal parts of that sort
--     states_range                  every byte of W is at most 3
--     votes_range                   in Q, val is at most 2, and where val is 0 so is bal
--     table_form                    a table is the slots of its messages, all in range, then unused ones
--     event_form                    four bytes: the kind, a process of its role, and high and low as the kind asks
--     event_bytes, vote_place       the order of an event's bytes and the slot that they name; the place of an acceptor's three bytes in Q
--     owner_rule                    leader l owns ballot b when b > 0 and (b - 1) mod L = l (document 02, Paper 4)
--     owner_turns                   leader l's ballots are l + 1, and from there every L-th
--     range_words                   row 17: what is in range, of each of the six messages
--     majority_rule                 a majority is a set of acceptors with 2 × size > A
--     inboxes_joined, inboxes_up_to_lem, inbox_replaced  I is its L inboxes one after the other, each of one size; one is replaced without the others
--     sound_words                   the tables that a role's own call is not lent are as rows 2, 3, 4, 6 and 20 ask
--     lowest_words, order_words, first_words     what `Lowest` and `InOrder` say of an answer; what the first row that applies is
--     summary_words, stands_words, summary_place       row 20; the bits of a byte of the summary; where a leader's bytes lie
--     received_words                the messages that a leader takes; decision_words, taken_words: a weight, an acceptor
--     decline_words                 the 2a by which a weight declines
--     marked_words, standing_words     what receiving a message does to the bits; the byte that an inbox says, in numbers
--     tables_mean, replaced_mean, open_means, step_means, role_means, read_means     what the records and enums in the contracts stand for: nothing but their parts
--     numbers_mean, outcome_means     the refusals by their numbers, which differ, so an outcome says which answer it is
-- Assumes nothing.
use Rattle.std.specs.Prelude.{ℕ, suc, ◌+◌, ◌-◌, ◌*◌, ◌/◌, ◌%◌, ◌≤◌, ◌<◌, Bool, true, false, ◌&&◌, ◌||◌, List, [], ◌∷◌, ◌++◌, ◌⊎◌, ◌↔◌, ◌≡◌, refl, eqb, length, get_or, None, Option, Result, Ok, Err}
use Rattle.std.proofs.Math.Bool.{and-true}
use Rattle.std.proofs.Common.{◌∙◌, ap}
use Rattle.message.specs.declared.Plan.{Plan}
use Rattle.message.specs.declared.Message.{Message}
use Rattle.message.specs.declared.Message.TheVariants.{Phase1a, Phase1b, Phase2a, Phase2b, Decision}
use Rattle.message.specs.declared.Vote.{Vote}
use Rattle.message.specs.declared.Refusal.{Refusal}
use Rattle.message.specs.declared.Refusal.TheVariants as Refusals
use Rattle.message.proofs.Outcome.Laws.{outcome_injective}
use Rattle.message.specs.Outcome.{Outcome, accepted, refused, refusal_number, outcome}
use Rattle.message.specs.Rows.{Rows, end, guard, Either, Applies, First, InOrder, Lowest}
use Rattle.message.specs.Plan.{is_plan}
use Rattle.message.specs.Form.{is_in_range, cast_vote}
use Rattle.slots.specs.Table.{is_table_length, is_table, messages}
use Rattle.event.specs.Event.{kind_of, who_of, high_of, low_of, slot_number, is_event}
use Rattle.change.specs.declared.Sent.{Sent}
use Rattle.change.specs.Change.{step_of}
use Rattle.quorum.specs.Quorum.{is_quorum, Distinct, AmongFirst}
use Rattle.rm.specs.Rm.{are_states}
use Rattle.votes.specs.Votes.{are_votes}
use Rattle.acceptor.specs.Acceptor.{vote_at}
use Rattle.inbox.specs.Inbox.{any, decided}
use Rattle.summary.specs.Summary.{is_decline, marked, standing}
use Rattle.summary.specs.Summary.Laws.{summary_length, summary_bytes, is_summary_lem, stands_prepared, stands_aborted, decline_is, is_decline_lem}
use Rattle.summary.specs.Summary.Laws.{marked_bit, marked_decline, marked_no_decline, marked_none, announced_prepared, announced_aborted}
use Rattle.summary.specs.Summary.Laws.{standing_0, standing_1, standing_2, standing_3}
use Rattle.leader.specs.Leader.{owns, is_summary, stands}
use Rattle.phase2a.specs.Phase2a.Laws.{owns_rule, owns_turns}
use Rattle.record.specs.Record.{Tables, tables_of, with_states, with_votes, with_network, with_inboxes, with_summary, inbox_size, inbox_of, with_inbox, summary_of}
use Rattle.record.specs.Record.{opening_of, record_step_of}
use Rattle.record.specs.Record.Parts as Parts
use Rattle.record.specs.Record.Summary.{summary_byte}
use Rattle.matching.specs.Call.{HeldBy}
use Rattle.matching.specs.Rm.{is_decision}
use Rattle.matching.specs.Acceptor.{is_taken}
use Rattle.matching.specs.Leader.{is_received}
use Rattle.conformance.specs.Record.{EventForm, inboxes_up_to, SoundStates, SoundVotes, SoundInboxes, SoundSummary, SoundOthers}
use Rattle.conformance.proofs.Record.Words as Laws

pub plan_range : (p : Plan)
    → (is_plan p ≡ true) ↔ ((1 ≤ p.rms) × (p.rms ≤ 16) × (1 ≤ p.acceptors) × (p.acceptors ≤ 7) × (1 ≤ p.leaders) × (p.leaders ≤ 4))
plan_range = Laws.plan_range

pub table_length : (len : ℕ) → (is_table_length len ≡ true) ↔ ((count : ℕ) × (count ≤ 1024) × (len ≡ 8 * count))
table_length = Laws.table_length

pub inboxes_length : (p : Plan) (inboxes : List ℕ) → 0 < p.leaders
    → ((length inboxes % p.leaders ≡ 0) × (is_table_length (inbox_size p inboxes) ≡ true))
    ↔ ((count : ℕ) × (count ≤ 1024) × (length inboxes ≡ p.leaders * (8 * count)))
inboxes_length = Laws.inboxes_length

pub states_range : (W : List ℕ) → (are_states W ≡ true) ↔ ((rm : ℕ) → rm < length W → get_or W rm 0 ≤ 3)
states_range = Laws.states_range

-- entry j of Q: mbal, bal and val are its bytes 3 × j, 3 × j + 1 and 3 × j + 2
pub votes_range : (Q : List ℕ)
    → (are_votes Q ≡ true) ↔ ((j : ℕ) → 3 * j + 2 < length Q → (get_or Q (3 * j + 2) 0 ≤ 2) × (get_or Q (3 * j + 2) 0 ≡ 0 → get_or Q (3 * j + 1) 0 ≡ 0))
votes_range = Laws.votes_range

pub table_form : (p : Plan) (t : List ℕ) → is_plan p ≡ true → is_table_length (length t) ≡ true → (is_table p t ≡ true) ↔ HeldBy p t (messages p t)
table_form = Laws.table_form

pub event_form : (p : Plan) (e : List ℕ) → (is_event p e ≡ true) ↔ ((length e ≡ 4) × EventForm p (kind_of e) (who_of e) (high_of e) (low_of e))
event_form = Laws.event_form

pub owner_rule : (p : Plan) (l b : ℕ) → (owns p l b ≡ true) ↔ ((0 < b) × ((b - 1) % p.leaders ≡ l))
owner_rule p l b = owns_rule p b l

pub owner_turns : (p : Plan) (l b : ℕ) → l < p.leaders → (owns p l b ≡ true) ↔ ((turn : ℕ) × (b ≡ l + 1 + turn * p.leaders))
owner_turns p l b = owns_turns p b l

pub range_words : (p : Plan) (ins acc mbal bal val : ℕ)
    → ((is_in_range p (Phase1a ins bal) ≡ true) ↔ ((ins < p.rms) × (1 ≤ bal)))
    × ((is_in_range p (Phase1b ins acc mbal None) ≡ true) ↔ ((ins < p.rms) × (acc < p.acceptors)))
    × ((is_in_range p (Phase1b ins acc mbal (cast_vote bal val)) ≡ true) ↔ ((ins < p.rms) × (acc < p.acceptors) × ((val ≡ 1) ⊎ (val ≡ 2))))
    × ((is_in_range p (Phase2a ins bal val) ≡ true) ↔ ((ins < p.rms) × ((val ≡ 1) ⊎ (val ≡ 2))))
    × ((is_in_range p (Phase2b ins acc bal val) ≡ true) ↔ ((ins < p.rms) × (acc < p.acceptors) × ((val ≡ 1) ⊎ (val ≡ 2))))
    × ((is_in_range p (Decision val) ≡ true) ↔ ((val ≡ 1) ⊎ (val ≡ 2)))
range_words = Laws.range_words

pub majority_rule : (A : ℕ) (test : ℕ → Bool)
    → (is_quorum A test ≡ true) ↔ ((members : List ℕ) × Distinct members × AmongFirst A test members × (A < 2 * length members))
majority_rule = Laws.majority_rule

pub inboxes_joined : (p : Plan) (inboxes : List ℕ) → length inboxes % p.leaders ≡ 0 → inboxes_up_to p inboxes p.leaders ≡ inboxes
inboxes_joined = Laws.inboxes_joined

pub inboxes_equal : (p : Plan) (inboxes : List ℕ) (l : ℕ) → 0 < p.leaders → l < p.leaders → length (inbox_of p inboxes l) ≡ inbox_size p inboxes
inboxes_equal = Parts.length_inbox_of

-- a leader's inbox replaced by as many bytes: it is those, and the other inboxes are as they were
pub inbox_replaced : (p : Plan) (inboxes : List ℕ) (l : ℕ) → l < p.leaders → (box : List ℕ) → length box ≡ inbox_size p inboxes
    → (inbox_of p (with_inbox p inboxes l box) l ≡ box)
    × ((k : ℕ) → k < p.leaders → (k ≡ l → ⊥) → inbox_of p (with_inbox p inboxes l box) k ≡ inbox_of p inboxes k)
inbox_replaced = Laws.inbox_replaced

pub event_bytes : (kind who high low : ℕ)
    → (kind_of (kind ∷ who ∷ high ∷ low ∷ []) ≡ kind)
    × (who_of (kind ∷ who ∷ high ∷ low ∷ []) ≡ who)
    × (high_of (kind ∷ who ∷ high ∷ low ∷ []) ≡ high)
    × (low_of (kind ∷ who ∷ high ∷ low ∷ []) ≡ low)
    × (slot_number (kind ∷ who ∷ high ∷ low ∷ []) ≡ 256 * high + low)
unfolding slot_number
event_bytes kind who high low = (refl, refl, refl, refl, refl)

pub vote_place : (p : Plan) (i a : ℕ) → vote_at p i a ≡ 3 * (i * p.acceptors + a)
unfolding vote_at
vote_place p i a = refl

-- the five tables in a contract are the five lists
pub tables_mean : (w q n i s : List ℕ)
    → ((tables_of w q n i s).states ≡ w)
    × ((tables_of w q n i s).votes ≡ q)
    × ((tables_of w q n i s).network ≡ n)
    × ((tables_of w q n i s).inboxes ≡ i)
    × ((tables_of w q n i s).summary ≡ s)
tables_mean w q n i s = (refl, refl, refl, refl, refl)

-- one table replaced, and the others as they were
pub replaced_mean : (w q n i s x : List ℕ)
    → (with_states (tables_of w q n i s) x ≡ tables_of x q n i s)
    × (with_votes (tables_of w q n i s) x ≡ tables_of w x n i s)
    × (with_network (tables_of w q n i s) x ≡ tables_of w q x i s)
    × (with_inboxes (tables_of w q n i s) x ≡ tables_of w q n x s)
    × (with_summary (tables_of w q n i s) x ≡ tables_of w q n i x)
replaced_mean w q n i s x = (refl, refl, refl, refl, refl)

-- an answer in a contract is the acceptance with its values, or the number, and the tables are as they are lent
pub open_means : (r : Refusal) (t : Tables)
    → (opening_of (Ok tt) t ≡ record { answer = accepted tt; tables = t })
    × (opening_of (Err r) t ≡ record { answer = refused (refusal_number r); tables = t })
open_means r t = (refl, refl)

pub step_means : (sent : Sent) (r : Refusal) (t : Tables)
    → (record_step_of (Ok sent) t ≡ record { answer = accepted sent; tables = t })
    × (record_step_of (Err r) t ≡ record { answer = refused (refusal_number r); tables = t })
step_means sent r t = (refl, refl)

pub role_means : (sent : Sent) (r : Refusal) (table network : List ℕ)
    → (step_of (Ok sent) table network ≡ record { answer = accepted sent; table = table; network = network })
    × (step_of (Err r) table network ≡ record { answer = refused (refusal_number r); table = table; network = network })
role_means sent r table network = (refl, refl)

pub read_means : (m : Message) (r : Refusal) → (outcome (Ok m) ≡ accepted m) × (outcome {A = Message} (Err r) ≡ refused (refusal_number r))
read_means m r = (refl, refl)

-- the refusals by document 01's numbers, and 18 to 20 by document 02's
pub numbers_mean :
    (refusal_number Refusals.Plan ≡ 1) × (refusal_number Refusals.Length ≡ 2) × (refusal_number Refusals.State ≡ 3) × (refusal_number Refusals.Vote ≡ 4)
    × (refusal_number Refusals.Network ≡ 5) × (refusal_number Refusals.Inbox ≡ 6) × (refusal_number Refusals.Event ≡ 7) × (refusal_number Refusals.Slot ≡ 8)
    × (refusal_number Refusals.Role ≡ 9) × (refusal_number Refusals.Ballot ≡ 10) × (refusal_number Refusals.Contradiction ≡ 11) × (refusal_number Refusals.NotEnabled ≡ 12)
    × (refusal_number Refusals.NetworkFull ≡ 13) × (refusal_number Refusals.InboxFull ≡ 14) × (refusal_number Refusals.Map ≡ 15) × (refusal_number Refusals.MessageLength ≡ 16)
    × (refusal_number Refusals.Field ≡ 17) × (refusal_number Refusals.Order ≡ 18) × (refusal_number Refusals.Events ≡ 19) × (refusal_number Refusals.Summary ≡ 20)
numbers_mean =
    (refl, refl, refl, refl, refl, refl, refl, refl, refl, refl, refl, refl, refl, refl, refl, refl, refl, refl, refl, refl)

-- so an outcome says which answer it is
pub outcome_means : {A : Type 0} (a b : Result A Refusal) → outcome a ≡ outcome b → a ≡ b
outcome_means = outcome_injective

-- the first inboxes: none, then one more each time
pub inboxes_up_to_lem : (p : Plan) (inboxes : List ℕ) (l : ℕ)
    → (inboxes_up_to p inboxes 0 ≡ []) × (inboxes_up_to p inboxes (suc l) ≡ inboxes_up_to p inboxes l ++ inbox_of p inboxes l)
unfolding inboxes_up_to
inboxes_up_to_lem p inboxes l = (refl, refl)

pub sound_words : (p : Plan) (t : Tables) (l : ℕ)
    → (SoundStates p t ↔ ((length t.states ≡ p.rms) × (are_states t.states ≡ true)))
    × (SoundVotes p t ↔ ((length t.votes ≡ 3 * (p.rms * p.acceptors)) × (are_votes t.votes ≡ true)))
    × (SoundInboxes p t ↔ ((length t.inboxes % p.leaders ≡ 0) × (is_table_length (inbox_size p t.inboxes) ≡ true)
    × ((k : ℕ) → k < p.leaders → is_table p (inbox_of p t.inboxes k) ≡ true)))
    × (SoundSummary p t ↔ (is_summary (p.rms * p.leaders) t.summary ≡ true))
    × (SoundOthers p t l ↔ ((length t.inboxes % p.leaders ≡ 0)
    × ((k : ℕ) → k < p.leaders → (k ≡ l → ⊥) → is_table p (inbox_of p t.inboxes k) ≡ true)
    × (length t.summary ≡ p.rms * p.leaders)
    × ((k : ℕ) → k < p.leaders → (k ≡ l → ⊥) → is_summary p.rms (summary_of p t k) ≡ true)))
sound_words p t l = ((λ h. h, λ h. h), (λ h. h, λ h. h), (λ h. h, λ h. h), (λ h. h, λ h. h), (λ h. h, λ h. h))

pub lowest_words : {A : Type 0} (rows : Rows) (answer : Outcome A) → Lowest rows answer
    → ((k : ℕ) → (answer ≡ refused k) ↔ (Applies rows k × ((j : ℕ) → j < k → Applies rows j → ⊥)))
    × (((a : A) × (answer ≡ accepted a)) ↔ ((k : ℕ) → Applies rows k → ⊥))
lowest_words rows answer h = (h.refuses, h.accepts)

pub order_words : {A : Type 0} (rows : Rows) (answer : Outcome A) → InOrder rows answer
    → ((k : ℕ) → (answer ≡ refused k) ↔ First rows k) × (((a : A) × (answer ≡ accepted a)) ↔ ((k : ℕ) → Applies rows k → ⊥))
order_words rows answer h = (h.refuses, h.accepts)

-- no row is the first of none; the first is the head where it applies, else the first of those after it
pub first_words : (k number : ℕ) (applies : Type 1) (rest : Rows)
    → (First end k ↔ (Unit {1} → ⊥)) × (First (guard number applies rest) k ↔ Either ((k ≡ number) × applies) ((applies → ⊥) × First rest k))
first_words k number applies rest = ((λ h. h, λ h. h), (λ h. h, λ h. h))

-- row 20
pub summary_words : (count : ℕ) (s : List ℕ) → (is_summary count s ≡ true) ↔ ((length s ≡ count) × ((i : ℕ) → i < count → get_or s i 0 ≤ 3))
summary_words count s = (
  λ right. (summary_length count s right, λ i below. summary_bytes count s right i),
  λ (size, small). is_summary_lem count s size small,
)

-- bit 0 is prepared's, bit 1 aborted's
pub stands_words : (s : List ℕ) (i : ℕ) → (stands s i 1 ≡ eqb (get_or s i 0 % 2) 1) × (stands s i 2 ≡ eqb (get_or s i 0 / 2 % 2) 1)
stands_words s i = (stands_prepared s i, stands_aborted s i)

-- row 9 of kind 4: a 1b, a 2b, or a 2a at ballot 0 (document 02, Paper 6)
pub received_words : (m : Message)
    → (is_received m ≡ true)
    ↔ (((i a b : ℕ) × (vote : Option Vote) × (m ≡ Phase1b i a b vote))
    ⊎ (((i a b v : ℕ) × (m ≡ Phase2b i a b v)) ⊎ ((i v : ℕ) × (m ≡ Phase2a i 0 v))))
received_words = Laws.received_words

-- row 9 of kinds 2 and 3: a decision; a 1a or a 2a
pub decision_words : (m : Message) → (is_decision m ≡ true) ↔ ((v : ℕ) × (m ≡ Decision v))
decision_words = Laws.decision_words

pub taken_words : (m : Message) → (is_taken m ≡ true) ↔ (((i b : ℕ) × (m ≡ Phase1a i b)) ⊎ ((i b v : ℕ) × (m ≡ Phase2a i b v)))
taken_words = Laws.taken_words

-- document 02, Paper 6: aborted at ballot 0, and nothing else
pub decline_words : (i : ℕ) (m : Message) → (is_decline i m ≡ true) ↔ (m ≡ Phase2a i 0 2)
decline_words i m = (decline_is i m, λ is. ap (is_decline i) is ∙ is_decline_lem i)

-- a 2b of (i, v) sets the bit of v in byte i where `isDecided i v`, a 2a of (i, 0, aborted) that of aborted in byte i, and no other; another message sets
-- none
pub marked_words : (isDecided : ℕ → ℕ → Bool) (s : List ℕ)
    → ((i a b v j w : ℕ) → i < length s → (v ≡ 1) ⊎ (v ≡ 2) → (w ≡ 1) ⊎ (w ≡ 2)
    → stands (marked isDecided s (Phase2b i a b v)) j w ≡ (stands s j w || (eqb i j && (eqb v w && isDecided i v))))
    × ((i j w : ℕ) → i < length s → (w ≡ 1) ⊎ (w ≡ 2) → stands (marked isDecided s (Phase2a i 0 2)) j w ≡ (stands s j w || (eqb i j && eqb 2 w)))
    × ((i b v : ℕ) → ((b ≡ 0) × (v ≡ 2) → ⊥) → marked isDecided s (Phase2a i b v) ≡ s)
    × ((m : Message) → ((i b v : ℕ) → m ≡ Phase2a i b v → ⊥) → ((i a b v : ℕ) → m ≡ Phase2b i a b v → ⊥) → marked isDecided s m ≡ s)
marked_words isDecided s = (
  λ i a b v j w. marked_bit isDecided s j w i a b v,
  (λ i j w below word.
      marked_decline isDecided s j w i 0 2 below word ∙ ap (λ (t : Bool). stands s j w || (eqb i j && t)) (and-true (eqb 2 w))),
  marked_no_decline isDecided s,
  marked_none isDecided s,
)

-- 1 for prepared and 2 for aborted, which is decided, or declined by the weight's 2a
pub standing_words : (p : Plan) (seen : List Message) (i : ℕ)
    → (decided p seen i 1 ≡ false → (decided p seen i 2 || any (is_decline i) seen) ≡ false → standing p seen i ≡ 0)
    × (decided p seen i 1 ≡ true → (decided p seen i 2 || any (is_decline i) seen) ≡ false → standing p seen i ≡ 1)
    × (decided p seen i 1 ≡ false → (decided p seen i 2 || any (is_decline i) seen) ≡ true → standing p seen i ≡ 2)
    × (decided p seen i 1 ≡ true → (decided p seen i 2 || any (is_decline i) seen) ≡ true → standing p seen i ≡ 3)
standing_words p seen i =
    let one = announced_prepared p seen i in
    let two = announced_aborted p seen i in (
      λ a b. standing_0 p seen i (one ∙ a) (two ∙ b),
      λ a b. standing_1 p seen i (one ∙ a) (two ∙ b),
      λ a b. standing_2 p seen i (one ∙ a) (two ∙ b),
      λ a b. standing_3 p seen i (one ∙ a) (two ∙ b),
    )

-- leader l's byte of instance i is byte l × n + i
pub summary_place : (p : Plan) (t : Tables) → is_plan p ≡ true → length t.summary ≡ p.rms * p.leaders
    → (l i : ℕ) → l < p.leaders → i < p.rms → get_or (summary_of p t l) i 0 ≡ get_or t.summary (l * p.rms + i) 0
summary_place p t plan whole l i member below = summary_byte p t.summary plan whole l member i below
