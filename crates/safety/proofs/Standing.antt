-- What the summary says (document 02, Papers 5 and 6), after every list of calls from a fresh record: event calls and list calls, the summary zeroed at
-- opening and handed on like the four tables.
--     summary_true               each byte equals what its inbox says; whatever the lengths
--     summary_decided            so each bit is what the source calls Decided by the messages of the inbox, for aborted also the 2a of a weight that
--                                declined
--     same_answers, same_runs    with a summary of n × L bytes, which opening asks for, all answers are those without a summary, and so are the four
--                                tables; a list call's too
--     same_opened                so it is from opening on
--     plain_means                what the calls without a summary are (Plain.antt)
--     plain_after_lem, plain_counts  their answers, and the tables that they leave, one by one and as a whole; a list call by its single calls
--     plain_without              whatever the summary holds, and of any length
-- Assumes nothing.
use Rattle.std.specs.Prelude.{ℕ, ◌+◌, ◌-◌, ◌*◌, ◌<◌, true, ◌⊎◌, ◌↔◌, ◌≡◌, refl, length, drop}
use mathlib.Core.List.{List, [], ◌∷◌, ◌++◌, map}
use Rattle.std.proofs.Common.{inl, inr, ◌∙◌}
use Rattle.std.proofs.Math.Path.{sym, ap}
use Rattle.std.proofs.Math.ListN.{get_or}
use Rattle.std.proofs.Math.Seq.{get_or-drop}
use Rattle.message.specs.declared.Plan.{Plan}
use Rattle.message.specs.declared.Message.{Message}
use Rattle.message.specs.Outcome.{accepted, refused}
use Rattle.slots.specs.Table.{messages}
use Rattle.slots.proofs.Table.Holds.{all_in_range, holds_judged}
use Rattle.quorum.specs.Mask.{has_bit}
use Rattle.summary.specs.Summary.{decided_or_declined, standing}
use Rattle.summary.specs.Summary.Laws.{summary_length, is_value_lem}
use Rattle.summary.specs.Summary.Standing.{says_zeros, stands_says}
use Rattle.leader.specs.Leader.{stands}
use Rattle.record.specs.Record.{Tables, with_summary, inbox_of, zeroed, are_lengths, record_judged, RecordStep, record_open, plain_step}
use Rattle.record.specs.Record.Plain.{plain_with}
use Rattle.record.specs.Record.Laws.{inbox_whole}
use Rattle.record.specs.Record.Summary.{summary_byte}
use Rattle.paxos_commit.specs.PaxosCommit.{prepared, aborted, phase2a}
use Rattle.paxos_commit.proofs.Words.{announced_words}
use Rattle.matching.specs.Reading.{is_rm, is_acceptor, is_majority_set, val_of}
use Rattle.matching.specs.Leader.{DecidedIn, DecidedOrDeclinedIn}
use Rattle.matching.proofs.Leader.Declined.{reflects_inbox}
use Rattle.batch.specs.Run.{events_of, tables_left, numbers_of, record_run}
use Rattle.batch.proofs.RunLaws.{calls_keep}
use Rattle.safety.specs.Lists.{Fresh, Call, event, run, counted_for, counted, answers, tables_after}
use Rattle.safety.specs.Grounds.{seen_by}
use Rattle.safety.proofs.Grounds.Zeros.{get_d_zeros}
use Rattle.safety.proofs.Grounds.Marks.{unheard_zeros}
use Rattle.safety.proofs.Grounds.Steps.{Used, used_event}
use Rattle.safety.proofs.Theorems.{used_fresh, opening_fresh, opening_lengths}
use Rattle.safety.specs.Plain.{plain_calls, plain_judged, plain_run, plain_counted, plain_made, plain_answers, plain_after}
use Rattle.safety.proofs.Plain.Same as Same

-- one leader's bytes on a record that was opened and used
module _ (p : Plan) (t : Tables) (l : ℕ) (member : l < p.leaders) where
  byte_used : Used p t → (i : ℕ) → i < p.rms → get_or t.summary (l * p.rms + i) 0 ≡ standing p (messages p (inbox_of p t.inboxes l)) i
  unfolding zeroed
  byte_used (inl g) i rm =
      sym (summary_byte p t.summary g.sound.plan (summary_length _ t.summary g.standing.right) l member i rm) ∙ g.standing.says l member i rm
  byte_used (inr idle) i rm =
      ap (λ (s : List ℕ). get_or s (l * p.rms + i) 0) idle.unmarked
      ∙ get_d_zeros (length t.summary) (l * p.rms + i)
      ∙ says_zeros p 0 i rm
      ∙ sym (ap (λ (ms : List Message). standing p ms i) (unheard_zeros p t idle.unheard l member))

  range_used : Used p t → all_in_range p (messages p (inbox_of p t.inboxes l)) ≡ true
  unfolding all_in_range
  range_used (inl g) = (holds_judged p _ (inbox_whole p t g.sound l member) (g.sound.inboxes_ordered l member)).in_range
  range_used (inr idle) = rw (unheard_zeros p t idle.unheard l member)

  bit_used : Used p t → (i v : ℕ) → i < p.rms → (v ≡ 1) ⊎ (v ≡ 2)
      → stands t.summary (l * p.rms + i) v ≡ decided_or_declined p (messages p (inbox_of p t.inboxes l)) i v
  unfolding stands
  bit_used u i v rm value =
      ap (λ (b : ℕ). has_bit b (v - 1)) (sym (get_or-drop (l * p.rms) t.summary i 0))
      ∙ stands_says p _ (drop (l * p.rms) t.summary) (λ j below. get_or-drop (l * p.rms) t.summary j 0 ∙ byte_used u j below) i v rm value

module _ (p : Plan) (t : Tables) (fresh : Fresh t) (calls : List Call) where
  used_after : Used p (tables_after p t calls)
  used_after = calls_keep p (Used p) (λ u e. used_event p u e) t (used_fresh p t fresh) (counted p t calls)

  -- byte l × n + i
  pub summary_true : (l i : ℕ) → l < p.leaders → i < p.rms
      → get_or (tables_after p t calls).summary (l * p.rms + i) 0 ≡ standing p (messages p (inbox_of p (tables_after p t calls).inboxes l)) i
  summary_true l i member rm = byte_used p (tables_after p t calls) l member used_after i rm

  announced : (l i v : ℕ) → l < p.leaders → i < p.rms → (v ≡ 1) ⊎ (v ≡ 2)
      → (stands (tables_after p t calls).summary (l * p.rms + i) v ≡ true) ↔ DecidedOrDeclinedIn p (seen_by p (tables_after p t calls) l) i (val_of v)
  announced l i v member rm value =
      let same = bit_used p (tables_after p t calls) l member used_after i v rm value in
      let (forth, back) = reflects_inbox p _ (range_used p (tables_after p t calls) l member used_after) i v (is_value_lem v value) in
      (λ is. forth (sym same ∙ is), λ d. same ∙ back d)

  -- its bit for prepared, which is 1, and for aborted, which is 2
  pub summary_decided : (l i : ℕ) → l < p.leaders → i < p.rms
      → ((stands (tables_after p t calls).summary (l * p.rms + i) 1 ≡ true) ↔ DecidedIn p (seen_by p (tables_after p t calls) l) i prepared)
      × ((stands (tables_after p t calls).summary (l * p.rms + i) 2 ≡ true)
      ↔ (DecidedIn p (seen_by p (tables_after p t calls) l) i aborted ⊎ seen_by p (tables_after p t calls) l (phase2a i 0 aborted)))
  summary_decided l i member rm =
      let (one, two) = announced_words (is_rm p) (is_acceptor p) (is_majority_set p) (seen_by p (tables_after p t calls) l) i in
      let (forth, back) = announced l i 1 member rm (inl refl) in
      let (there, again) = announced l i 2 member rm (inr refl) in
      ((λ is. one.0 (forth is), λ d. back (one.1 d)), (λ is. two.0 (there is), λ d. again (two.1 d)))

  module _ (whole : length t.summary ≡ p.rms * p.leaders) where
    pub same_answers : (answers p t calls ≡ plain_answers p t calls) × (plain_after p t calls ≡ with_summary (tables_after p t calls) t.summary)
    same_answers = Same.same_answers p t fresh calls whole

    -- a list call after them: its own answer, and the bytes that it writes or keeps
    pub same_runs : (events given : List ℕ)
        → ((record_run p (tables_after p t calls) events given).answer ≡ (plain_run p (plain_after p t calls) events given).answer)
        × ((record_run p (tables_after p t calls) events given).answers ≡ (plain_run p (plain_after p t calls) events given).answers)
    same_runs = Same.same_runs p t fresh calls whole

-- whatever the tables held before
pub same_opened : (p : Plan) (t : Tables) → (record_open p t).answer ≡ accepted tt → (calls : List Call)
    → (answers p (record_open p t).tables calls ≡ plain_answers p (record_open p t).tables calls)
    × (plain_after p (record_open p t).tables calls ≡ with_summary (tables_after p (record_open p t).tables calls) (record_open p t).tables.summary)
same_opened p t is calls =
    let sizes = opening_lengths p t is in
    Same.same_answers p (record_open p t).tables (opening_fresh p t is) calls (sizes.4 ∙ sizes.5)

module _ (p : Plan) (t : Tables) where
  pub plain_means :
      (plain_made p t [] ≡ [])
      × ((e : List ℕ) (calls : List Call) → plain_made p t (event e ∷ calls) ≡ plain_step p t e ∷ plain_made p (plain_step p t e).tables calls)
      × ((events given : List ℕ) → plain_judged p t events given ≡ accepted tt
      → plain_run p t events given
      ≡ record {
        answer = accepted tt;
        tables = tables_left t (plain_calls p t (events_of events));
        answers = numbers_of (plain_calls p t (events_of events));
      })
      × ((events given : List ℕ) (k : ℕ) → plain_judged p t events given ≡ refused k
      → plain_run p t events given ≡ record { answer = refused k; tables = t; answers = given })
  plain_means = (refl, (λ e calls. refl), (λ events given is. rw is), λ events given k is. rw is)

  -- the answers, and the tables in the end
  pub plain_after_lem :
      (plain_answers p t [] ≡ [])
      × (plain_after p t [] ≡ t)
      × ((e : List ℕ) (calls : List Call)
      → (plain_answers p t (event e ∷ calls) ≡ (plain_step p t e).answer ∷ plain_answers p (plain_step p t e).tables calls)
      × (plain_after p t (event e ∷ calls) ≡ plain_after p (plain_step p t e).tables calls))
      × ((calls : List Call)
      → (plain_answers p t calls ≡ map (λ (r : RecordStep). r.answer) (plain_made p t calls))
      × (plain_after p t calls ≡ tables_left t (plain_made p t calls)))
  plain_after_lem = (refl, refl, (λ e calls. (refl, refl)), λ calls. (refl, refl))

  -- a list call counts as its single calls, where it is accepted
  pub plain_counts : (e : List ℕ) (es : List (List ℕ)) (events given : List ℕ) (calls : List Call)
      → (plain_made p t calls ≡ plain_calls p t (plain_counted p t calls))
      × (plain_counted p t (run events given ∷ calls)
      ≡ counted_for (plain_run p t events given).answer events ++ plain_counted p (plain_run p t events given).tables calls)
      × (plain_calls p t [] ≡ [])
      × (plain_calls p t (e ∷ es) ≡ plain_step p t e ∷ plain_calls p (plain_step p t e).tables es)
  plain_counts e es events given calls = (refl, refl, refl, refl)

  -- they read no summary, and have no row 20
  pub plain_without : (s e events given : List ℕ)
      → (plain_step p (with_summary t s) e ≡ record { answer = (plain_step p t e).answer; tables = with_summary (plain_step p t e).tables s })
      × (plain_judged p (with_summary t s) events given ≡ plain_judged p t events given)
  unfolding plain_judged record_judged are_lengths
  plain_without s e events given = (plain_with p t e s, refl)
