-- Demand 2 on the record, for every plan, all tables and every event, and which refusal is returned by the event call and by opening (document 01,
-- "Refusals by place"; document 02, Paper 5). `record_step` and `record_open` are what the contracts of `record::step` and `opening::open` name.
--     record_answers     the answer is refused with k exactly where row k is the first that applies (1 to 6, 20, then 7 on), and accepted exactly
--                        where no row applies; row 12 is that the published action is not enabled, a leader's conditions read from its own
--                        inbox, Decided from its bytes of the summary
--     record_keeps       a refused call leaves all tables as they were
--     record_acts        an accepted call sets what the published action sets in rmState, aState and msgs together; the sent message, the
--                        answered slot, the one inbox, its leader's bytes of the summary and all other bytes are given
--     acted_one          and nothing is left open: what record_acts says holds of one answer and of one record alone
--     record_slot, role_slots     an answered slot is one of N's, below 1,024
--     record_inboxes     an event call changes no inbox but that of its own leader
--     record_unmarked, record_summary, record_bits     only kind 4 changes the summary, and only its own leader's bytes; no bit is cleared
--     record_sound       a sound record stays sound
--     tables_answer, judge_answers, role_judges     what makes a record sound: rows 1 to 6 and 20; and a role's own tables: rows 1 to 6
--     rm_agrees, acceptor_agrees, leader_agrees     a role's own call answers and leaves what the event call does; no_event, sound_tables
--     open_answers, open_keeps, open_zeros          opening
-- Assumes nothing.
use Rattle.std.specs.Prelude.{ℕ, ◌≤◌, ◌<◌, true, false, List, ◌⊎◌, ◌≡◌, length, replicate}
use Rattle.std.proofs.Math.Path.{refl}
use Rattle.std.proofs.Common.{ap}
use Rattle.message.specs.declared.Plan.{Plan}
use Rattle.message.specs.Outcome.{Outcome, accepted, refused}
use Rattle.message.specs.Rows.{end, Lowest, InOrder}
use Rattle.message.proofs.Rows.Laws.{is_ascending, lowest_of_ruled, in_order_of_ruled}
use Rattle.change.specs.declared.Sent.{Sent}
use Rattle.change.specs.declared.Sent.TheVariants.{Slot}
use Rattle.event.specs.Event.{kind_of, who_of, is_event}
use Rattle.rm.specs.Rm.{rm_judged, rm_step}
use Rattle.acceptor.specs.Acceptor.{acceptor_judged, acceptor_step}
use Rattle.leader.specs.Leader.{is_summary, stands, leader_judged, leader_step}
use Rattle.record.specs.Record.{Tables, tables_of, inbox_of, summary_of, record_judged, lent_judged, record_open, RecordStep, on_states, on_votes, record_step}
use Rattle.matching.specs.Rm.{rm_table_rows}
use Rattle.matching.specs.Acceptor.{acceptor_table_rows}
use Rattle.matching.specs.Leader.{leader_table_rows}
use Rattle.conformance.specs.Record.{open_rows, record_rows, table_rows, lent_rows, on_own, SoundStates}
use Rattle.conformance.specs.Record.{SoundVotes, SoundInboxes, SoundSummary, SoundOthers, Acted}
use Rattle.conformance.proofs.Record.Ruled.{record_ruled}
use Rattle.conformance.proofs.Record.Opened as Opened
use Rattle.conformance.proofs.Record.Steps.{keeps, stays_sound}
use Rattle.matching.specs.Call.{room_of}
use Rattle.conformance.proofs.Record.Acts.{acts}
use Rattle.conformance.proofs.Record.Determined as Determined
use Rattle.conformance.proofs.Record.Judges.{record_judges, lent_judges, rm_judges, acceptor_judges, leader_judges}
use Rattle.conformance.proofs.Record.Slots.{slot_below, rm_slot, acceptor_slot, leader_slot}
use Rattle.conformance.proofs.Record.Inboxes.{inbox_kept, unmarked, summary_kept, summary_grows, no_event_record, no_event_rm, no_event_acceptor, no_event_leader}
use Rattle.conformance.proofs.Record.Roles as Roles

module _ (p : Plan) (t : Tables) (e : List ℕ) where
  pub record_answers : InOrder (record_rows p t e) (record_step p t e).answer
  record_answers = in_order_of_ruled _ _ (record_ruled p t e)

  pub record_keeps : (k : ℕ) → (record_step p t e).answer ≡ refused k → (record_step p t e).tables ≡ t
  record_keeps k is = ap (λ (r : RecordStep). r.tables) (keeps p t e k is)

  pub record_acts : (sent : Sent) → (record_step p t e).answer ≡ accepted sent → Acted p t e (record_step p t e).answer (record_step p t e).tables
  record_acts = acts p t e

  pub acted_one : {a b : Outcome Sent} {u v : Tables} → Acted p t e a u → Acted p t e b v → (a ≡ b) × (u ≡ v)
  acted_one = Determined.acted_one p t e

  pub record_slot : (s : ℕ) → (record_step p t e).answer ≡ accepted (Slot s)
      → (s < room_of (record_step p t e).tables.network) × (s < 1024)
  record_slot = slot_below p t e

  -- so in a role's own call
  pub role_slots : (s : ℕ)
      → ((states network : List ℕ) → (rm_step p states network e).answer ≡ accepted (Slot s) → s < 1024)
      × ((votes network : List ℕ) → (acceptor_step p votes network e).answer ≡ accepted (Slot s) → s < 1024)
      × ((inbox summary network : List ℕ) → (leader_step p inbox summary network e).step.answer ≡ accepted (Slot s) → s < 1024)
  role_slots s = (rm_slot p e s, acceptor_slot p e s, leader_slot p e s)

  pub record_inboxes : (l : ℕ) → l < p.leaders → (kind_of e ≤ 3) ⊎ (l ≡ who_of e → ⊥)
      → inbox_of p (record_step p t e).tables.inboxes l ≡ inbox_of p t.inboxes l
  record_inboxes = inbox_kept p t e

  pub record_unmarked : (kind_of e ≡ 4 → ⊥) → (record_step p t e).tables.summary ≡ t.summary
  record_unmarked = unmarked p t e

  pub record_summary : (l : ℕ) → l < p.leaders → (l ≡ who_of e → ⊥) → summary_of p (record_step p t e).tables l ≡ summary_of p t l
  record_summary = summary_kept p t e

  pub record_bits : (l i v : ℕ) → l < p.leaders → stands (summary_of p t l) i v ≡ true → stands (summary_of p (record_step p t e).tables l) i v ≡ true
  record_bits = summary_grows p t e

  pub record_sound : lent_judged p t ≡ accepted tt → lent_judged p (record_step p t e).tables ≡ accepted tt
  record_sound = stays_sound p t e

  -- a role's own call, where the tables that it is not lent are sound
  pub rm_agrees : SoundVotes p t → SoundInboxes p t → SoundSummary p t → kind_of e ≤ 2
      → record_step p t e ≡ on_states t (rm_step p t.states t.network e)
  rm_agrees = Roles.rm_agrees p t e

  pub acceptor_agrees : SoundStates p t → SoundInboxes p t → SoundSummary p t → kind_of e ≡ 3
      → record_step p t e ≡ on_votes t (acceptor_step p t.votes t.network e)
  acceptor_agrees = Roles.acceptor_agrees p t e

  pub leader_agrees : SoundStates p t → SoundVotes p t → who_of e < p.leaders → SoundOthers p t (who_of e) → 3 < kind_of e
      → record_step p t e ≡ on_own p (who_of e) t (leader_step p (inbox_of p t.inboxes (who_of e)) (summary_of p t (who_of e)) t.network e)
  leader_agrees = Roles.leader_agrees p t e

-- the judgement of the plan and the tables by itself
-- the plan and the four tables
pub tables_answer : (p : Plan) (t : Tables) → Lowest (table_rows p t end) (record_judged p t)
unfolding is_ascending
tables_answer p t = lowest_of_ruled _ refl _ (record_judges p t)

-- and the summary
pub judge_answers : (p : Plan) (t : Tables) → Lowest (lent_rows p t end) (lent_judged p t)
unfolding is_ascending
judge_answers p t = lowest_of_ruled _ refl _ (lent_judges p t)

-- a role's: the plan, its two tables
pub role_judges : (p : Plan)
    → ((states network : List ℕ) → Lowest (rm_table_rows p states network end) (rm_judged p states network))
    × ((votes network : List ℕ) → Lowest (acceptor_table_rows p votes network end) (acceptor_judged p votes network))
    × ((inbox network : List ℕ) → Lowest (leader_table_rows p inbox network end) (leader_judged p inbox network))
unfolding is_ascending
role_judges p = (
  λ states network. lowest_of_ruled _ refl _ (rm_judges p states network),
  λ votes network. lowest_of_ruled _ refl _ (acceptor_judges p votes network),
  λ inbox network. lowest_of_ruled _ refl _ (leader_judges p inbox network),
)

-- what is no event is refused with 7 by every call on sound tables
pub no_event : (p : Plan) (e : List ℕ) → is_event p e ≡ false
    → ((t : Tables) → lent_judged p t ≡ accepted tt → (record_step p t e).answer ≡ refused 7)
    × ((states network : List ℕ) → rm_judged p states network ≡ accepted tt → (rm_step p states network e).answer ≡ refused 7)
    × ((votes network : List ℕ) → acceptor_judged p votes network ≡ accepted tt → (acceptor_step p votes network e).answer ≡ refused 7)
    × ((inbox summary network : List ℕ) → leader_judged p inbox network ≡ accepted tt → is_summary p.rms summary ≡ true
    → (leader_step p inbox summary network e).step.answer ≡ refused 7)
no_event p e none = (no_event_record p e none, no_event_rm p e none, no_event_acceptor p e none, no_event_leader p e none)

-- on a sound record the tables that a role is not lent are sound
pub sound_tables : (p : Plan) (t : Tables) → lent_judged p t ≡ accepted tt
    → SoundStates p t × SoundVotes p t × SoundInboxes p t × SoundSummary p t × ((l : ℕ) → SoundOthers p t l)
sound_tables = Roles.sound_tables

module _ (p : Plan) (t : Tables) where
  pub open_answers : Lowest (open_rows p t) (record_open p t).answer
  unfolding is_ascending
  open_answers = lowest_of_ruled _ refl _ (Opened.ruled p t)

  pub open_keeps : (k : ℕ) → (record_open p t).answer ≡ refused k → (record_open p t).tables ≡ t
  open_keeps = Opened.keeps p t

  -- every byte zero, and no length changed
  pub open_zeros : (record_open p t).answer ≡ accepted tt
      → (record_open p t).tables
      ≡ tables_of (replicate (length t.states) 0) (replicate (length t.votes) 0) (replicate (length t.network) 0)
      (replicate (length t.inboxes) 0) (replicate (length t.summary) 0)
  open_zeros = Opened.zeros p t
