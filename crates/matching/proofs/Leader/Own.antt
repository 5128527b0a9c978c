-- A leader's own call, which is lent its bytes of the summary. Where row 20 does not apply it is the call without a summary that reads Decided from
-- these bytes, so what is proved of that (Ruled.antt, Laws.antt) holds of it.
--     summary_wrong, summary_right     row 20: the judgement fails exactly where a length or a byte is wrong
--     own_right                        an accepted call had a right summary
--     own_marked, own_plain, own_step  with one the call is the step without a summary, and then marks
--     own_ruled                        the rows, along the definition of the call
--     own_keeps, own_took              a refused call changes nothing; an accepted one is an accepted step without a summary
--     own_marks, own_keeps_summary     the summary after a receipt; after the other kinds it is as it was
--     own_sound                        well-formed tables stay so, and so does the summary
-- Assumes nothing.
use Rattle.std.specs.Prelude.{ℕ, zero, suc, ◌<◌, Bool, not, ◌&&◌, List, [], ◌∷◌, ◌≡◌, length, get_or}
use Rattle.std.proofs.Math.Bool.{true, false}
use Rattle.std.proofs.lemmas.Bool.{false≢true}
use Rattle.std.proofs.Math.Logic.{inl, inr}
use Rattle.std.proofs.Math.Path.{refl}
use Rattle.std.proofs.Common.{sym, ◌∙◌, ap, subst, arith}
use Rattle.std.proofs.Math.Dec.{leb, eqb}
use borrow.Author.Tests.{eq-eqb, eqb-true, eqb-false, leb-true, leb-false, ne_eqb, not-true, not-false}
use Rattle.message.specs.declared.Plan.{Plan}
use Rattle.message.specs.declared.Message as Wire
use Rattle.message.specs.Outcome.{Outcome, accepted, refused, and_then, refuse_if}
use Rattle.message.proofs.Outcome.Laws.{refuse_if_accepted, both}
use Rattle.message.specs.Form.{is_in_range}
use Rattle.message.proofs.Rows.Laws.{Ruled, ruled_row}
use Rattle.slots.specs.All.{all}
use Rattle.slots.specs.Table.{messages}
use Rattle.slots.proofs.Table.Holds.{holds_judged}
use Rattle.slots.specs.Send.{message_at}
use Rattle.slots.specs.View.{view_table}
use Rattle.change.specs.declared.Sent.{Sent}
use Rattle.change.specs.declared.Change.{Change}
use Rattle.change.specs.Change.{Step, refusal}
use Rattle.change.specs.Change.Laws.{refused_keeps}
use Rattle.event.specs.Event.{kind_of, slot_number}
use Rattle.inbox.specs.Inbox.{decided}
use Rattle.paxos_commit.specs.PaxosCommit as Source
use Rattle.paxos_commit.specs.PaxosCommit.{AState}
use Rattle.summary.specs.Summary.{marked}
use Rattle.summary.specs.Summary.Laws.{marked_length, marked_sound}
use Rattle.leader.specs.Leader.{is_summary, stands, leader_judged, leader_verdict_by, leader_step_by, summary_after, LeaderStep, leader_marked, leader_step}
use Rattle.matching.specs.Call.{Accepted}
use Rattle.matching.proofs.Call.Laws.{ruled_applied, applied_accepted, and_then_accepted, slot_in_range}
use Rattle.matching.specs.Leader.{state_of, WrongSummary, leader_rows}
use Rattle.matching.specs.Leader.Decided.{DecidedBy}
use Rattle.matching.proofs.Leader.Decided.{reflects_by}
use Rattle.matching.proofs.Leader.Ruled.{leader_judges_then, verdict_ruled}
use Rattle.matching.proofs.Leader.Took.{Took, took}
use Rattle.matching.proofs.Leader.Laws as Laws

-- row 20: a byte that fails is above 3, and no byte of those that pass is
above_three : (s : List ℕ) → all (λ b. leb b 3) s ≡ false → (i : ℕ) × (3 < get_or s i 0)
unfolding all
above_three [] h = absurd (false≢true (sym h))
above_three (b ∷ s) h = go (above_three s) (leb b 3) refl h
  where
    go : (all (λ b. leb b 3) s ≡ false → (i : ℕ) × (3 < get_or s i 0)) → (t : Bool) → leb b 3 ≡ t → (t && all (λ b. leb b 3) s) ≡ false
        → (i : ℕ) × (3 < get_or (b ∷ s) i 0)
    go rest false e h = (0, leb-false b 3 e)
    go rest true e h = let (i, above) = rest h in (suc i, above)

none_above : (s : List ℕ) → all (λ b. leb b 3) s ≡ true → (i : ℕ) → 3 < get_or s i 0 → ⊥
unfolding all
none_above [] h i above = omega arith
none_above (b ∷ s) h zero above = let l = leb-true b 3 (both (leb b 3) (all (λ b. leb b 3) s) h).0 in omega arith
none_above (b ∷ s) h (suc i) above = none_above s (both (leb b 3) (all (λ b. leb b 3) s) h).1 i above

module _ (count : ℕ) (s : List ℕ) where
  pub summary_wrong : is_summary count s ≡ false → WrongSummary count s
  unfolding is_summary
  summary_wrong h = go (eqb (length s) count) refl h
    where
      go : (t : Bool) → eqb (length s) count ≡ t → (t && all (λ b. leb b 3) s) ≡ false → WrongSummary count s
      go false e h = inl (eqb-false _ _ e)
      go true e h = inr (above_three s h)

  pub summary_right : is_summary count s ≡ true → WrongSummary count s → ⊥
  unfolding is_summary
  summary_right h (inl other) = other (eqb-true _ _ (both (eqb (length s) count) _ h).0)
  summary_right h (inr (i, above)) = none_above s (both (eqb (length s) count) _ h).1 i above

module _ (p : Plan) (inbox summary network e : List ℕ) where
  abbrev own : LeaderStep
  own = leader_step p inbox summary network e

  -- the call without a summary, with Decided read from the leader's bytes
  abbrev plain : Step
  plain = leader_step_by p (stands summary) inbox network e

  -- row 20, then the event's rows
  abbrev verdict : Unit {0} → Outcome Change
  verdict _ = refuse_if (not (is_summary p.rms summary)) 20 (leader_verdict_by p (stands summary) (view_table p inbox) (view_table p network) e)

  pub own_right : Accepted own.step.answer → is_summary p.rms summary ≡ true
  unfolding leader_step
  own_right (a, is) =
      let (change, taken) = applied_accepted p inbox network _ a is in
      let (u, judged, rest) = and_then_accepted (leader_judged p inbox network) verdict change taken in
      not-false _ (refuse_if_accepted _ _ _ _ rest).0

  pub own_marked : is_summary p.rms summary ≡ true → own ≡ leader_marked (λ box. decided p (messages p box)) (view_table p) summary e plain
  unfolding leader_step leader_step_by refuse_if
  own_marked right = rw right

  pub own_plain : is_summary p.rms summary ≡ true → own.step ≡ plain
  own_plain right = ap (λ (r : LeaderStep). r.step) (own_marked right)

  pub own_keeps : (k : ℕ) → own.step.answer ≡ refused k → (own.step ≡ refusal inbox network k) × (own.summary ≡ summary)
  unfolding leader_step
  own_keeps k is = (refused_keeps p inbox network (and_then (leader_judged p inbox network) verdict) k is, rw is)

  -- an accepted call is an accepted step
  module _ (taken : Accepted own.step.answer) where
    pub own_step : own.step ≡ plain
    own_step = own_plain (own_right taken)

    pub own_took : Took p (stands summary) inbox network e
    own_took = took p (stands summary) inbox network e (taken.0, ap (λ (r : Step). r.answer) (sym own_step) ∙ taken.1)

    own_summary_lem : own.summary
        ≡ summary_after (decided p (messages p own.step.table)) (view_table p own.step.network) e (accepted taken.0) summary
    unfolding leader_step
    own_summary_lem = rw taken.1

    pub own_marks : kind_of e ≡ 4 → (m : Wire.Message) → message_at (messages p network) (slot_number e) ≡ accepted m
        → own.summary ≡ marked (decided p (messages p own.step.table)) summary m
    own_marks kind m at =
        let (quiet, kept, stores) = Laws.receipt_acts (λ rm. 0) (λ i ac. Source.initial) own_took kind m at in
        let net : own.step.network ≡ network = ap (λ (r : Step). r.network) own_step ∙ kept in
        own_summary_lem ∙ rw (eq-eqb (kind_of e) 4 kind, net, at)

    pub own_keeps_summary : (kind_of e ≡ 4 → ⊥) → own.summary ≡ summary
    own_keeps_summary other = own_summary_lem ∙ rw (ne_eqb (kind_of e) 4 other)

  module _ (rm_state : ℕ → ℕ) (a_state : ℕ → ℕ → AState) where
    pub own_ruled : Ruled own.step.answer (leader_rows p inbox summary network e (state_of p network rm_state a_state))
    unfolding leader_step
    own_ruled =
        ruled_applied p inbox network _ (and_then (leader_judged p inbox network) verdict)
        (leader_judges_then p inbox network verdict _ (λ plan whole ordered.
        ruled_row _ 20 _ _ _ (λ h. summary_wrong p.rms summary (not-true _ h)) (λ h. summary_right p.rms summary (not-false _ h))
        (λ right. verdict_ruled p (stands summary) (DecidedBy (stands summary)) inbox network e (λ _. reflects_by (stands summary)) rm_state a_state
        (holds_judged p inbox whole ordered).in_range plan)))

  -- the summary after a call: of as many bytes, and none above 3 if none was
  abbrev Kept : List ℕ → Type 0
  Kept s = (length s ≡ length summary) × (is_summary p.rms summary ≡ true → is_summary p.rms s ≡ true)

  summary_stays : Accepted own.step.answer → Kept own.summary
  summary_stays taken = go (eqb (kind_of e) 4) refl
    where
      range : (m : Wire.Message) → message_at (messages p network) (slot_number e) ≡ accepted m → is_in_range p m ≡ true
      range m at =
          let t = (own_took taken).tables in slot_in_range p network t.network_whole t.network_ordered (slot_number e) m at

      go : (b : Bool) → eqb (kind_of e) 4 ≡ b → Kept own.summary
      go false other = subst Kept (sym (own_keeps_summary taken (eqb-false _ _ other))) (refl, λ right. right)
      go true kind =
          let (m, at) = Laws.receipt_slot (λ rm. 0) (λ i ac. Source.initial) (own_took taken) (eqb-true _ _ kind) in
          let d = decided p (messages p own.step.table) in
          subst Kept (sym (own_marks taken (eqb-true _ _ kind) m at)) (marked_length d summary m, marked_sound d summary p p.rms m (range m at))

  -- both tables too
  abbrev Sound : LeaderStep → Type 0
  Sound r =
      (leader_judged p r.step.table r.step.network ≡ accepted tt)
      × (length r.step.table ≡ length inbox)
      × (length r.step.network ≡ length network)
      × Kept r.summary

  pub own_sound : leader_judged p inbox network ≡ accepted tt → Sound own
  own_sound sound = go own.step.answer refl
    where
      go : (answer : Outcome Sent) → own.step.answer ≡ answer → Sound own
      go (accepted a) is =
          let (judged, l, n) = rw (← own_step (a, is)) at (Laws.stays_sound p (stands summary) inbox network e sound) in
          (judged, l, n, summary_stays (a, is))
      go (refused k) is =
          let (step, same) = own_keeps k is in
          rw (step, same) (sound, refl, refl, (refl, λ right. right))
