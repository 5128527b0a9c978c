-- The summary of a record: when it is marked, its parts, and row 20.
--     marking_refused, marking_other     a refusal marks nothing, nor does a kind other than 4
--     summary_size, part_length          each leader has n bytes
--     summary_byte                       leader l's byte of instance i is byte l × n + i of the whole
--     part_sound, with_sound             a leader's bytes of a sound summary are sound, and it stays so with other sound bytes in their place
--     lent_judged_lem, lent_sound        all that is lent is sound exactly where the four tables are and the summary is
-- Assumes nothing.
use Rattle.std.specs.Prelude.{ℕ, ◌+◌, ◌*◌, ◌<◌, Bool, true, not, List, ◌++◌, ◌≡◌, refl, eqb, length, take}
use Rattle.std.proofs.Math.Path.{sym, ap}
use Rattle.std.proofs.Common.{◌∙◌, take-append-drop}
use Rattle.std.proofs.Math.Nat.{mul-div_left}
use Rattle.std.proofs.Math.Dec.{leb}
use Rattle.std.proofs.Math.ListN.{get_or, drop}
use Rattle.std.proofs.Math.Seq.{get_or-take, get_or-drop}
use borrow.Author.Tests.{eq-eqb, ne_eqb, eqb-true, not-false}
use Rattle.message.specs.declared.Plan.{Plan}
use Rattle.message.specs.Outcome.{Outcome, accepted, refused, and_then, refuse_if}
use Rattle.message.proofs.Outcome.Laws.{refuse_if_accepted, accepted_not_refused, both}
use Rattle.message.specs.Plan.{is_plan}
use Rattle.message.proofs.PlanLaws.{plan_bounds}
use Rattle.slots.specs.All.{all}
use Rattle.slots.proofs.All.Laws.{all_append}
use Rattle.slots.specs.View.{View}
use Rattle.change.specs.declared.Sent.{Sent}
use Rattle.event.specs.Event.{kind_of, who_of}
use Rattle.leader.specs.Leader.{is_summary, summary_after}
use Rattle.record.specs.Record.{Tables, inbox_size, inbox_of, with_inbox, summary_of, record_judged, lent_judged, RecordStep, marking}
use Rattle.record.specs.Record.Parts.{length_inbox_of, length_with_inbox, with_own}

module _ (p : Plan) (isDecided : List ℕ → ℕ → ℕ → Bool) (view : List ℕ → View) (e : List ℕ) (r : RecordStep) where
  -- the leader's bytes put back as they were
  marking_none : summary_after (isDecided (inbox_of p r.tables.inboxes (who_of e))) (view r.tables.network) e r.answer (summary_of p r.tables (who_of e))
      ≡ summary_of p r.tables (who_of e) → marking p isDecided view e r ≡ r
  marking_none same = rw (same, with_own p r.tables.summary (who_of e))

  pub marking_refused : (k : ℕ) → r.answer ≡ refused k → marking p isDecided view e r ≡ r
  marking_refused k is =
      marking_none
      (ap (λ (o : Outcome Sent).
      summary_after (isDecided (inbox_of p r.tables.inboxes (who_of e))) (view r.tables.network) e o (summary_of p r.tables (who_of e)))
      is)

  pub marking_other : (kind_of e ≡ 4 → ⊥) → marking p isDecided view e r ≡ r
  marking_other other = marking_none (go r.answer)
    where
      go : (o : Outcome Sent)
          → summary_after (isDecided (inbox_of p r.tables.inboxes (who_of e))) (view r.tables.network) e o (summary_of p r.tables (who_of e))
          ≡ summary_of p r.tables (who_of e)
      go (accepted sent) = rw (ne_eqb (kind_of e) 4 other)
      go (refused number) = refl

-- bytes that pass a test, in parts
module _ (test : ℕ → Bool) where
  all_parts : (k : ℕ) (xs : List ℕ) → all test xs ≡ true → (all test (take k xs) ≡ true) × (all test (drop k xs) ≡ true)
  all_parts k xs h = both _ _ (sym (all_append test (take k xs) (drop k xs)) ∙ ap (all test) (take-append-drop k xs) ∙ h)

  module _ (p : Plan) (s : List ℕ) (l : ℕ) (h : all test s ≡ true) where
    all_part : all test (inbox_of p s l) ≡ true
    unfolding inbox_of
    all_part = (all_parts (inbox_size p s) _ (all_parts (l * inbox_size p s) s h).1).0

    all_with : (own : List ℕ) → all test own ≡ true → all test (with_inbox p s l own) ≡ true
    unfolding with_inbox
    all_with own k =
        let front = (all_parts (l * inbox_size p s) s h).0 in
        let rest = (all_parts (l * inbox_size p s + inbox_size p s) s h).1 in
        rw (
          all_append test (take (l * inbox_size p s) s) (own ++ drop (l * inbox_size p s + inbox_size p s) s),
          all_append test own (drop (l * inbox_size p s + inbox_size p s) s),
          front,
          k,
          rest,
        )

module _ (p : Plan) (s : List ℕ) (plan : is_plan p ≡ true) where
  module _ (whole : length s ≡ p.rms * p.leaders) where
    pub summary_size : inbox_size p s ≡ p.rms
    unfolding inbox_size
    summary_size = rw whole (mul-div_left p.rms (plan_bounds p plan).leaders_least)

    module _ (l : ℕ) (member : l < p.leaders) where
      pub part_length : length (inbox_of p s l) ≡ p.rms
      part_length = length_inbox_of p s l (plan_bounds p plan).leaders_least member ∙ summary_size

      pub summary_byte : (i : ℕ) → i < p.rms → get_or (inbox_of p s l) i 0 ≡ get_or s (l * p.rms + i) 0
      unfolding inbox_of
      summary_byte i below =
          get_or-take (inbox_size p s) (drop (l * inbox_size p s) s) i 0 (rw summary_size below)
          ∙ get_or-drop (l * inbox_size p s) s i 0
          ∙ ap (λ (n : ℕ). get_or s (l * n + i) 0) summary_size

  module _ (sound : is_summary (p.rms * p.leaders) s ≡ true) (l : ℕ) (member : l < p.leaders) where
    whole : length s ≡ p.rms * p.leaders
    unfolding is_summary
    whole = eqb-true _ _ (both (eqb (length s) (p.rms * p.leaders)) _ sound).0

    small : all (λ b. leb b 3) s ≡ true
    unfolding is_summary
    small = (both (eqb (length s) (p.rms * p.leaders)) _ sound).1

    pub part_sound : is_summary p.rms (inbox_of p s l) ≡ true
    unfolding is_summary
    part_sound = rw (eq-eqb _ _ (part_length whole l member), all_part (λ b. leb b 3) p s l small)

    pub with_sound : (own : List ℕ) → is_summary p.rms own ≡ true → is_summary (p.rms * p.leaders) (with_inbox p s l own) ≡ true
    unfolding is_summary
    with_sound own right =
        let o = both (eqb (length own) p.rms) _ right in
        let fits = eqb-true _ _ o.0 ∙ sym (summary_size whole) in
        let same = length_with_inbox p s l (plan_bounds p plan).leaders_least member own fits ∙ whole in
        rw (eq-eqb _ _ same, all_with (λ b. leb b 3) p s l small own o.1)

module _ (p : Plan) (t : Tables) where
  pub lent_judged_lem : record_judged p t ≡ accepted tt → is_summary (p.rms * p.leaders) t.summary ≡ true → lent_judged p t ≡ accepted tt
  unfolding lent_judged and_then refuse_if
  lent_judged_lem judged sound = rw (judged, sound)

  pub lent_sound : lent_judged p t ≡ accepted tt → (record_judged p t ≡ accepted tt) × (is_summary (p.rms * p.leaders) t.summary ≡ true)
  unfolding lent_judged and_then
  lent_sound = go (record_judged p t)
    where
      go : (o : Outcome (Unit {0})) → and_then {B = Unit {0}} o (λ _. refuse_if (not (is_summary (p.rms * p.leaders) t.summary)) 20 (accepted tt)) ≡ accepted tt
          → (o ≡ accepted (tt {0})) × (is_summary (p.rms * p.leaders) t.summary ≡ true)
      go (accepted a) is = (refl, not-false _ (refuse_if_accepted _ _ _ _ is).0)
      go (refused number) is = absurd (accepted_not_refused is)
