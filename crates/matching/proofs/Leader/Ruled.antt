-- The step of a leader answers by its rows.
--     leader_judges_then    the rows of the plan and the tables, and those below
--     leader_ruled          the rows, along the definition of the step
-- Assumes nothing.
use Rattle.std.specs.Prelude.{ℕ, ◌≤◌, ◌<◌, Bool, cond, List, ◌⊎◌, ◌≡◌, eqb, length}
use Rattle.std.proofs.Math.Bool.{true, false, not, false≢true}
use Rattle.std.proofs.Math.Logic.{inl, inr}
use Rattle.std.proofs.Math.Path.{refl, ap}
use Rattle.std.proofs.Common.{sym, ◌∙◌}
use native.Mathlib.Omega.{arith}
use Rattle.std.proofs.Math.Dec.{ltb}
use borrow.Author.Tests.{ltb-true, ltb-false, eqb-true, eqb-false, not-true, not-false}
use Rattle.message.specs.declared.Plan.{Plan}
use Rattle.message.specs.declared.Message as Wire
use Rattle.message.specs.declared.Message.TheVariants.{Phase1a, Phase1b, Phase2a, Phase2b, Decision}
use Rattle.message.specs.Outcome.{Outcome, accepted, and_then, refuse_if}
use Rattle.message.proofs.Outcome.Laws.{accepted_inj}
use Rattle.message.specs.Plan.{is_plan}
use Rattle.message.specs.Rows.{Rows, end, guard, row, Either, here, below}
use Rattle.message.proofs.Rows.Laws.{Ruled, ruled_row, ruled_guard, ruled_skip, ruled_pass, ruled_both}
use Rattle.slots.specs.Table.{is_table_length, is_table, messages}
use Rattle.slots.proofs.Table.Holds.{all_in_range, holds_judged}
use Rattle.slots.specs.Send.{message_at}
use Rattle.slots.specs.View.{view_table}
use Rattle.change.specs.declared.Change.{Change}
use Rattle.event.specs.Event.{kind_of, who_of, high_of, low_of, slot_number, is_event}
use Rattle.event.specs.Event.Laws.{event_parts}
use Rattle.quorum.specs.Quorum.{is_quorum}
use Rattle.inbox.specs.Inbox.{any, is1b, is2a, for_all, for_some}
use Rattle.paxos_commit.specs.PaxosCommit.{Val, AState, State}
use Rattle.leader.specs.Leader.{leader_judged, receipt_store, receipt, send_only, phase1a, phase2a_message, keep_own, send_both, phase2a, decide_send}
use Rattle.leader.specs.Leader.{leader_kind, leader_verdict_by, leader_step_by}
use Rattle.matching.specs.Reading.{message_of, set_of}
use Rattle.matching.specs.Call.{Enabled, HasRoom, SlotUnused, SlotHolds}
use Rattle.matching.proofs.Call.Laws.{clash, ruled_judged, ruled_judged₂, ruled_sound}
use Rattle.matching.proofs.Call.Laws.{ruled_slot, ruled_sending, ruled_applied}
use Rattle.matching.specs.Leader.{Phase2aAction, state_of, is_received, proposed, NotOwned, DisabledBy, Full, InboxFull, leader_table_rows, leader_rows_by}
use Rattle.matching.specs.Leader.Decided.{Reflects}
use Rattle.matching.proofs.Leader.Guards.{joining, joins_joining, phase2a_new, phase2a_quorum, phase2a_acts}
use Rattle.matching.proofs.Leader.Guards.{commit_acts, commit_test, abort_acts, abort_test}

-- two tests with the number 12, and what the message goes on to
two_guards : {A : Type 0} (b c : Bool) (t : Type 1) (rows : Rows) (m : Wire.Message) (next : Wire.Message → Outcome A)
    → (b ≡ true → t) → (c ≡ true → t) → (b ≡ false → c ≡ false → t → ⊥) → (b ≡ false → c ≡ false → Ruled (next m) rows)
    → Ruled (and_then (refuse_if b 12 (refuse_if c 12 (accepted m))) next) (guard 12 t rows)
unfolding Ruled refuse_if and_then
two_guards true c t rows m next first second neither go = here (refl, first refl)
two_guards false true t rows m next first second neither go = here (refl, second refl)
two_guards false false t rows m next first second neither go = ruled_skip 12 t rows (neither refl refl) (next m) (go refl refl)

-- what a row of several kinds says of one of them
record ByKind13 (k : ℕ) (a b c d : Type 0) : Type 0 where
  at5 : k ≡ 5 → a
  at6 : k ≡ 6 → b
  at7 : k ≡ 7 → c
  at8 : k ≡ 8 → d
  not4 : k ≡ 4 → ⊥

by_kind13 : (k : ℕ) (a b c d : Type 0) → ((k ≡ 5) × a) ⊎ (((k ≡ 6) × b) ⊎ (((k ≡ 7) × c) ⊎ ((k ≡ 8) × d))) → ByKind13 k a b c d
by_kind13 k a b c d (inl (h, x)) =
    record {
      at5 = λ q. x;
      at6 = λ q. absurd (omega arith);
      at7 = λ q. absurd (omega arith);
      at8 = λ q. absurd (omega arith);
      not4 = λ q. omega arith;
    }
by_kind13 k a b c d (inr (inl (h, x))) =
    record {
      at5 = λ q. absurd (omega arith);
      at6 = λ q. x;
      at7 = λ q. absurd (omega arith);
      at8 = λ q. absurd (omega arith);
      not4 = λ q. omega arith;
    }
by_kind13 k a b c d (inr (inr (inl (h, x)))) =
    record {
      at5 = λ q. absurd (omega arith);
      at6 = λ q. absurd (omega arith);
      at7 = λ q. x;
      at8 = λ q. absurd (omega arith);
      not4 = λ q. omega arith;
    }
by_kind13 k a b c d (inr (inr (inr (h, x)))) =
    record {
      at5 = λ q. absurd (omega arith);
      at6 = λ q. absurd (omega arith);
      at7 = λ q. absurd (omega arith);
      at8 = λ q. x;
      not4 = λ q. omega arith;
    }

record ByKind12 (k : ℕ) (a b c : Type 1) : Type 1 where
  at6 : k ≡ 6 → a
  at7 : k ≡ 7 → b
  at8 : k ≡ 8 → c
  above5 : k ≤ 5 → ⊥

by_kind12 : (k : ℕ) (a b c : Type 1) → Either ((k ≡ 6) × a) (Either ((k ≡ 7) × b) ((k ≡ 8) × c)) → ByKind12 k a b c
by_kind12 k a b c (here (h, x)) =
    record { at6 = λ q. x; at7 = λ q. absurd (omega arith); at8 = λ q. absurd (omega arith); above5 = λ q. omega arith }
by_kind12 k a b c (below (here (h, x))) =
    record { at6 = λ q. absurd (omega arith); at7 = λ q. x; at8 = λ q. absurd (omega arith); above5 = λ q. omega arith }
by_kind12 k a b c (below (below (h, x))) =
    record { at6 = λ q. absurd (omega arith); at7 = λ q. absurd (omega arith); at8 = λ q. x; above5 = λ q. omega arith }

record ByKind14 (k : ℕ) (a b : Type 0) : Type 0 where
  at4 : k ≡ 4 → a
  at6 : k ≡ 6 → b
  no_other : (k ≡ 4 → ⊥) → (k ≡ 6 → ⊥) → ⊥

by_kind14 : (k : ℕ) (a b : Type 0) → ((k ≡ 4) × a) ⊎ ((k ≡ 6) × b) → ByKind14 k a b
by_kind14 k a b (inl (h, x)) = record { at4 = λ q. x; at6 = λ q. absurd (omega arith); no_other = λ n m. n h }
by_kind14 k a b (inr (h, x)) = record { at4 = λ q. absurd (omega arith); at6 = λ q. x; no_other = λ n m. m h }

not_owned_kind : (p : Plan) (e : List ℕ) → NotOwned p e → (kind_of e ≡ 5 → ⊥) → (kind_of e ≡ 6 → ⊥) → ⊥
not_owned_kind p e (inl h, o) n m = n h
not_owned_kind p e (inr h, o) n m = m h

-- the plan and the two tables, and what is judged after them
pub leader_judges_then : {A : Type 0} (p : Plan) (inbox network : List ℕ) (after : Unit {0} → Outcome A) (rows : Rows)
    → (is_plan p ≡ true → is_table_length (length inbox) ≡ true → is_table p inbox ≡ true → Ruled (after tt) rows)
    → Ruled (and_then (leader_judged p inbox network) after) (leader_table_rows p inbox network rows)
unfolding leader_judged
leader_judges_then p inbox network after rows next =
    ruled_judged after _ 1 _ _ _ (not-true (is_plan p)) (clash (is_plan p))
    (λ plan. ruled_judged₂ after _ _ 2 _ _ _ (λ h. inl (not-true _ h)) (λ h. inr (not-true _ h)) lengths
    (λ whole net-whole. ruled_judged after _ 5 _ _ _ (not-true (is_table p network)) (clash (is_table p network))
    (λ net-ordered. ruled_judged after _ 6 _ _ _ (not-true (is_table p inbox)) (clash (is_table p inbox))
    (λ ordered. ruled_sound after tt _
    (next (not-false (is_plan p) plan) (not-false (is_table_length (length inbox)) whole) (not-false (is_table p inbox) ordered))))))
  where
    lengths : not (is_table_length (length inbox)) ≡ false → not (is_table_length (length network)) ≡ false
        → (is_table_length (length inbox) ≡ false) ⊎ (is_table_length (length network) ≡ false) → ⊥
    lengths h k (inl n) = clash _ h n
    lengths h k (inr n) = clash _ k n

module _ (p : Plan) (isDecided : ℕ → ℕ → Bool) (Decided : ℕ → Val → Type 0) (inbox network e : List ℕ)
    (reflects : all_in_range p (messages p inbox) ≡ true → Reflects isDecided Decided) (rm_state : ℕ → ℕ) (a_state : ℕ → ℕ → AState) where
  abbrev before : State
  before = state_of p network rm_state a_state

  abbrev box : List Wire.Message
  box = messages p inbox

  abbrev Rows14 : Rows
  Rows14 = row 14 (InboxFull p inbox network e) end

  abbrev Rows13 : Rows
  Rows13 = row 13 (Full p inbox network e) Rows14

  abbrev Rows12 : Rows
  Rows12 = guard 12 (DisabledBy p Decided inbox e before) Rows13

  abbrev Rows10 : Rows
  Rows10 = row 10 (NotOwned p e) Rows12

  abbrev Rows9 : Rows
  Rows9 = row 9 ((kind_of e ≡ 4) × SlotHolds p network e (λ m. is_received m ≡ false)) Rows10

  abbrev Rows8 : Rows
  Rows8 = row 8 ((kind_of e ≡ 4) × SlotUnused p network e) Rows9

  -- kinds 5 to 8 have no slot
  past_slot : (kind_of e ≡ 4 → ⊥) → (o : Outcome Change) → Ruled o Rows10 → Ruled o Rows8
  past_slot n o r = ruled_skip 8 _ _ (λ h. n h.0.0) o (ruled_skip 9 _ _ (λ h. n h.0.0) o r)

  -- row 13 for a kind that keeps its inbox
  only_ruled : (m : Wire.Message) → ((HasRoom p network m → ⊥) → Full p inbox network e) → (Full p inbox network e → HasRoom p network m → ⊥)
      → (kind_of e ≡ 4 → ⊥) → (kind_of e ≡ 6 → ⊥) → Ruled (send_only (view_table p network) m) Rows13
  unfolding Ruled send_only
  only_ruled m full room n4 n6 =
      ruled_sending 13 p network m _ Rows14 _ full room (λ slot store q. (λ h. (by_kind14 _ _ _ h.0).no_other n4 n6, tt))

  -- kind 4
  module _ (kind : kind_of e ≡ 4) where
    -- rows 10, 12 and 13 are other kinds'
    past_send : (o : Outcome Change) → Ruled o Rows14 → Ruled o Rows10
    past_send o r =
        ruled_skip 10 _ _ (λ h. not_owned_kind p e h.0 (λ q. omega arith) (λ q. omega arith)) o
        (ruled_skip 12 _ _ (λ h. (by_kind12 _ _ _ _ h).above5 (omega arith)) o
        (ruled_skip 13 _ _ (λ h. (by_kind13 _ _ _ _ _ h.0).not4 kind) o r))

    module _ (m : Wire.Message) (at : message_at (messages p network) (slot_number e) ≡ accepted m) where
      same : (x : Wire.Message) → message_at (messages p network) (slot_number e) ≡ accepted x → x ≡ m
      same x is = accepted_inj (sym is ∙ at)

      room : InboxFull p inbox network e → HasRoom p inbox m → ⊥
      room h = let (x, is, n) = (by_kind14 _ _ _ h).at4 kind in rw (same x is) at n

      store_ruled : Ruled (receipt_store (view_table p inbox) m) Rows14
      unfolding Ruled receipt_store
      store_ruled = ruled_sending 14 p inbox m _ end _ (λ n. inl (kind, (m, at, n))) room (λ slot store q. tt)

      stored_ruled : Ruled (receipt_store (view_table p inbox) m) Rows10
      stored_ruled = past_send _ store_ruled

      taken_ruled : is_received m ≡ true → Ruled (receipt_store (view_table p inbox) m) Rows9
      taken_ruled received = ruled_skip 9 _ _ takes _ stored_ruled
        where
          takes : ((kind_of e ≡ 4) × SlotHolds p network e (λ m. is_received m ≡ false)) × Unit {1} → ⊥
          takes ((four, (x, is, other)), u) = false≢true (sym other ∙ ap is_received (same x is) ∙ received)

    receipt_ruled : (m : Wire.Message) → message_at (messages p network) (slot_number e) ≡ accepted m → Ruled (receipt (view_table p inbox) m) Rows9
    unfolding Ruled receipt
    receipt_ruled (Phase1a ins bal) at = here (refl, ((kind, (_, at, refl)), tt))
    receipt_ruled (Phase1b ins acc mbal vote) at = taken_ruled _ at refl
    receipt_ruled (Phase2a ins bal val) at =
        ruled_row _ 9 _ _ _ (λ later. (kind, (_, at, not-true _ later)))
        (λ first (four, (x, is, other)). false≢true (sym other ∙ ap is_received (same _ at x is) ∙ not-false _ first))
        (λ first. stored_ruled (Phase2a ins bal val) at)
    receipt_ruled (Phase2b ins acc bal val) at = taken_ruled _ at refl
    receipt_ruled (Decision val) at = here (refl, ((kind, (_, at, refl)), tt))

  -- kind 5
  phase1a_ruled : kind_of e ≡ 5 → Ruled (phase1a p (view_table p network) (who_of e) (high_of e) (low_of e)) Rows10
  unfolding phase1a
  phase1a_ruled kind =
      ruled_row _ 10 _ _ _ (λ h. (inl kind, not-true _ h)) (λ h k. clash _ h k.1)
      (λ own. ruled_skip 12 _ _ (λ h. (by_kind12 _ _ _ _ h).above5 (omega arith)) _
      (only_ruled _ (λ n. inl (kind, n)) (λ h. (by_kind13 _ _ _ _ _ h).at5 kind) (λ q. omega arith) (λ q. omega arith)))

  -- kind 6
  both_ruled : kind_of e ≡ 6 → Ruled (send_both (view_table p inbox) (view_table p network) (proposed p inbox e)) Rows13
  unfolding Ruled send_both keep_own
  both_ruled kind =
      ruled_sending 13 p network (proposed p inbox e) _ Rows14 _ (λ n. inr (inl (kind, n))) (λ h. (by_kind13 _ _ _ _ _ h).at6 kind)
      (λ slot store q.
      ruled_sending 14 p inbox (proposed p inbox e) _ end _ (λ n. inr (kind, n)) (λ h. (by_kind14 _ _ _ h).at6 kind) (λ place kept g. tt))

  module _ (r : all_in_range p box ≡ true) where
    phase2a_ruled : kind_of e ≡ 6 → Ruled (phase2a p (view_table p inbox) (view_table p network) (who_of e) (high_of e) (low_of e)) Rows10
    unfolding phase2a phase2a_message
    phase2a_ruled kind =
        ruled_judged _ _ 10 _ _ _ (λ h. (inr kind, not-true _ h)) (λ h k. clash _ h k.1)
        (λ own. two_guards _ _ _ _ _ _
        (λ h. here (kind, λ a. false≢true (sym (phase2a_new p box (high_of e) (low_of e) before a) ∙ h)))
        (λ h. here (kind, λ a. false≢true (sym (not-true _ h) ∙ phase2a_quorum p box (high_of e) (low_of e) before a)))
        (λ new q h. (by_kind12 _ _ _ _ h).at6 kind (enabled new (not-false _ q)))
        (λ new q. both_ruled kind))
      where
        enabled : any (is2a (high_of e) (low_of e)) box ≡ false → is_quorum p.acceptors (λ a. any (is1b (high_of e) (low_of e) a) box) ≡ true
            → Enabled p (Phase2aAction p (set_of box) (low_of e) (high_of e)) before
        enabled new q = (
          joining p (message_of (proposed p inbox e)) before,
          (phase2a_acts p box (high_of e) (low_of e) before r new q _ (joins_joining p _ before)).0,
        )

    -- kinds 7 and 8
    commit_ruled : kind_of e ≡ 7 → Ruled (decide_send (view_table p network) (for_all p.rms (λ i. isDecided i 1)) 1) Rows12
    unfolding decide_send
    commit_ruled kind =
        ruled_guard _ 12 _ _ _
        (λ h. below (here (kind, λ a. false≢true (sym (not-true _ h) ∙ commit_test p isDecided Decided (reflects r) before a))))
        (λ h k. (by_kind12 _ _ _ _ k).at7 kind (joining p _ before, commit_acts p isDecided Decided (reflects r) before (not-false _ h) _ (joins_joining p _ before)))
        (λ h. only_ruled _ (λ n. inr (inr (inl (kind, n)))) (λ k. (by_kind13 _ _ _ _ _ k).at7 kind) (λ q. omega arith) (λ q. omega arith))

    abort_ruled : kind_of e ≡ 8 → Ruled (decide_send (view_table p network) (for_some p.rms (λ i. isDecided i 2)) 2) Rows12
    unfolding decide_send
    abort_ruled kind =
        ruled_guard _ 12 _ _ _
        (λ h. below (below (kind, λ a. false≢true (sym (not-true _ h) ∙ abort_test p isDecided Decided (reflects r) before a))))
        (λ h k. (by_kind12 _ _ _ _ k).at8 kind (joining p _ before, abort_acts p isDecided Decided (reflects r) before (not-false _ h) _ (joins_joining p _ before)))
        (λ h. only_ruled _ (λ n. inr (inr (inr (kind, n)))) (λ k. (by_kind13 _ _ _ _ _ k).at8 kind) (λ q. omega arith) (λ q. omega arith))

    kind_ruled : 4 ≤ kind_of e → kind_of e ≤ 8
        → Ruled (leader_kind p isDecided (view_table p inbox) (view_table p network) e (kind_of e)) Rows8
    unfolding leader_kind
    kind_ruled least most = go (eqb (kind_of e) 4) (eqb (kind_of e) 5) (eqb (kind_of e) 6) (eqb (kind_of e) 7) refl refl refl refl
      where
        past_owned : 6 < kind_of e → (o : Outcome Change) → Ruled o Rows12 → Ruled o Rows8
        past_owned above o q =
            past_slot (λ h. omega arith) o (ruled_skip 10 _ _ (λ h. not_owned_kind p e h.0 (λ q. omega arith) (λ q. omega arith)) o q)

        go : (b c d f : Bool) → eqb (kind_of e) 4 ≡ b → eqb (kind_of e) 5 ≡ c → eqb (kind_of e) 6 ≡ d → eqb (kind_of e) 7 ≡ f
            → Ruled
            (cond b (and_then (message_at (messages p network) (slot_number e)) (receipt (view_table p inbox)))
            (cond c (phase1a p (view_table p network) (who_of e) (high_of e) (low_of e))
            (cond d (phase2a p (view_table p inbox) (view_table p network) (who_of e) (high_of e) (low_of e))
            (cond f (decide_send (view_table p network) (for_all p.rms (λ i. isDecided i 1)) 1)
            (decide_send (view_table p network) (for_some p.rms (λ i. isDecided i 2)) 2)))))
            Rows8
        go true c d f h4 h5 h6 h7 =
            let kind : kind_of e ≡ 4 = eqb-true _ _ h4 in
            ruled_slot (messages p network) (slot_number e) _ _ _ (λ u. (kind, u)) (λ t. t.1) (receipt_ruled kind)
        go false true d f h4 h5 h6 h7 = let kind : kind_of e ≡ 5 = eqb-true _ _ h5 in past_slot (eqb-false _ _ h4) _ (phase1a_ruled kind)
        go false false true f h4 h5 h6 h7 = let kind : kind_of e ≡ 6 = eqb-true _ _ h6 in past_slot (eqb-false _ _ h4) _ (phase2a_ruled kind)
        go false false false true h4 h5 h6 h7 =
            let kind : kind_of e ≡ 7 = eqb-true _ _ h7 in past_owned (omega arith) _ (commit_ruled kind)
        go false false false false h4 h5 h6 h7 =
            let n4 : kind_of e ≡ 4 → ⊥ = eqb-false _ _ h4 in
            let n5 : kind_of e ≡ 5 → ⊥ = eqb-false _ _ h5 in
            let n6 : kind_of e ≡ 6 → ⊥ = eqb-false _ _ h6 in
            let n7 : kind_of e ≡ 7 → ⊥ = eqb-false _ _ h7 in
            let kind : kind_of e ≡ 8 = omega arith in
            past_owned (omega arith) _ (abort_ruled kind)

    abbrev Rows7 : Rows
    Rows7 = row 7 ((is_event p e ≡ false) ⊎ (kind_of e < 4)) Rows8

    pub verdict_ruled : is_plan p ≡ true → Ruled (leader_verdict_by p isDecided (view_table p inbox) (view_table p network) e) Rows7
    unfolding leader_verdict_by
    verdict_ruled plan =
        ruled_pass _ 1 _ _ (ap not plan)
        (ruled_both _ _ 7 _ _ _ (λ h. inl (not-true _ h)) (λ h. inr (ltb-true _ _ h)) event
        (λ ok least. kind_ruled (ltb-false _ _ least) (event_parts p e (not-false _ ok)).kind))
      where
        event : not (is_event p e) ≡ false → ltb (kind_of e) 4 ≡ false → (is_event p e ≡ false) ⊎ (kind_of e < 4) → ⊥
        event h k (inl n) = clash _ h n
        event h k (inr n) = let least : 4 ≤ kind_of e = ltb-false _ _ k in omega arith

  abbrev verdict : Unit {0} → Outcome Change
  verdict _ = leader_verdict_by p isDecided (view_table p inbox) (view_table p network) e

  pub leader_ruled : Ruled (leader_step_by p isDecided inbox network e).answer (leader_rows_by p Decided inbox network e before)
  unfolding leader_step_by
  leader_ruled = ruled_applied p inbox network (leader_rows_by p Decided inbox network e before) (and_then (leader_judged p inbox network) verdict)
      (leader_judges_then p inbox network verdict _ (λ plan whole ordered. verdict_ruled (holds_judged p inbox whole ordered).in_range plan))
