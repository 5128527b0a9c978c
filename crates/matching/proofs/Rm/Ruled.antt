-- The step of a resource manager answers by its rows.
--     Choose                RMPrepare and RMChooseToAbort alike
--     rm_judges_then        the rows of the plan and the tables, and those below
--     rm_ruled              the rows, along the definition of the step
-- Assumes nothing.
use Rattle.std.specs.Prelude.{ℕ, ◌≤◌, ◌<◌, Bool, cond, List, ◌⊎◌, ◌≡◌, length, get_or}
use Rattle.std.proofs.Math.Bool.{true, false, not, false≢true}
use Rattle.std.proofs.Math.Logic.{inl, inr}
use Rattle.std.proofs.Math.Path.{refl, ap}
use Rattle.std.proofs.Common.{sym, ◌∙◌}
use native.Mathlib.Omega.{arith}
use Rattle.std.proofs.Math.Dec.{ltb, eqb}
use borrow.Author.Tests.{ltb-true, ltb-false, eqb-true, eqb-false, not-true, not-false}
use Rattle.message.specs.declared.Plan.{Plan}
use Rattle.message.specs.declared.Message as Wire
use Rattle.message.specs.declared.Message.TheVariants.{Phase1a, Phase1b, Phase2a, Phase2b, Decision}
use Rattle.message.specs.Outcome.{Outcome, accepted, and_then, refuse_if}
use Rattle.message.proofs.Outcome.Laws.{accepted_inj}
use Rattle.message.specs.Plan.{is_plan}
use Rattle.message.specs.Rows.{Rows, end, guard, row, here, below}
use Rattle.message.proofs.Rows.Laws.{Ruled, ruled_row, ruled_guard, ruled_skip, ruled_pass, ruled_both}
use Rattle.slots.specs.Table.{is_table_length, is_table, messages}
use Rattle.slots.specs.Send.{message_at}
use Rattle.slots.specs.View.{view_table}
use Rattle.change.specs.declared.Change.{Change}
use Rattle.event.specs.Event.{kind_of, who_of, slot_number, is_event}
use Rattle.tcommit.specs.RmState.{working, prepared, committed, aborted}
use Rattle.tcommit.specs.TCommit.{except}
use Rattle.paxos_commit.specs.PaxosCommit as Source
use Rattle.paxos_commit.specs.PaxosCommit.{Val, phase2a, AState, State}
use Rattle.rm.specs.Rm.{are_states, rm_judged, rm_choose, rm_decided, rm_receive_decision, rm_receive, rm_kind, rm_verdict, rm_step}
use Rattle.matching.specs.Reading.{is_rm, is_acceptor, is_majority_set, val_of, rm_state_of}
use Rattle.matching.specs.Call.{Enabled, HasRoom, SlotUnused, SlotHolds}
use Rattle.matching.proofs.Call.Laws.{Joined, clash, ruled_judged, ruled_judged₂, ruled_sound, ruled_slot, ruled_sending, ruled_applied}
use Rattle.matching.specs.Rm.{RMPrepare, RMChooseToAbort, state_of, is_decision, Contradicts, Disabled, Full, rm_table_rows, rm_rows}

-- RMPrepare and RMChooseToAbort alike: a working resource manager takes the state `next` and sends 2a with val
abbrev pub Choose : Plan → ℕ → ℕ → Val → State → State → Type 0
Choose p rm next val s s' =
    (s.rm_state rm ≡ working)
    × (s'.rm_state ≡ except s.rm_state rm next)
    × Source.Send (is_rm p) (is_acceptor p) (is_majority_set p) (phase2a rm 0 val) s s'
    × (s'.a_state ≡ s.a_state)

-- the plan and the two tables, and what is judged after them
pub rm_judges_then : {A : Type 0} (p : Plan) (states network : List ℕ) (after : Unit {0} → Outcome A) (rows : Rows)
    → (is_plan p ≡ true → Ruled (after tt) rows) → Ruled (and_then (rm_judged p states network) after) (rm_table_rows p states network rows)
unfolding rm_judged
rm_judges_then p states network after rows next =
    ruled_judged after _ 1 _ _ _ (not-true (is_plan p)) (clash (is_plan p))
    (λ plan. ruled_judged₂ after _ _ 2 _ _ _ (λ h. inl (eqb-false _ _ (not-true _ h))) (λ h. inr (not-true _ h)) lengths
    (λ one whole. ruled_judged after _ 3 _ _ _ (not-true (are_states states)) (clash (are_states states))
    (λ known. ruled_judged after _ 5 _ _ _ (not-true (is_table p network)) (clash (is_table p network))
    (λ ordered. ruled_sound after tt _ (next (not-false (is_plan p) plan))))))
  where
    lengths : not (eqb (length states) p.rms) ≡ false → not (is_table_length (length network)) ≡ false
        → (length states ≡ p.rms → ⊥) ⊎ (is_table_length (length network) ≡ false) → ⊥
    lengths h k (inl n) = n (eqb-true _ _ (not-false _ h))
    lengths h k (inr n) = clash _ k n

module _ (p : Plan) (states network e : List ℕ) (a_state : ℕ → ℕ → AState) where
  abbrev before : State
  before = state_of p states network a_state

  abbrev own : ℕ
  own = get_or states (who_of e) 0

  -- enabled exactly when working
  choose_enabled : (next val : ℕ) → own ≡ working → Enabled p (Choose p (who_of e) next (val_of val)) before
  choose_enabled next val works = (
    record { rm_state = except (rm_state_of states) (who_of e) next; a_state = a_state; msgs = Joined (messages p network) (Phase2a (who_of e) 0 val) },
    (works, refl, λ x. (λ h. h, λ h. h), refl),
  )

  module _ (next val : ℕ) (t : Type 1) (u : Type 0)
      (disabled : (Enabled p (Choose p (who_of e) next (val_of val)) before → ⊥) → t) (enabled : t → Enabled p (Choose p (who_of e) next (val_of val)) before → ⊥)
      (full : (HasRoom p network (Phase2a (who_of e) 0 val) → ⊥) → u) (room : u → HasRoom p network (Phase2a (who_of e) 0 val) → ⊥) where
    choose_ruled : Ruled (rm_choose (view_table p network) (who_of e) own next val) (guard 12 t (row 13 u end))
    unfolding Ruled rm_choose
    choose_ruled =
        ruled_guard _ 12 t _ _
        (λ h. disabled (λ a. eqb-false _ _ (not-true _ h) a.1.0))
        (λ h k. enabled k (choose_enabled next val (eqb-true _ _ (not-false _ h))))
        (λ h. ruled_sending 13 p network _ u end _ full room (λ slot store q. tt))

  abbrev Rows12 : Rows
  Rows12 = guard 12 (Disabled p e before) (row 13 (Full p network e) end)

  abbrev Rows11 : Rows
  Rows11 = row 11 ((kind_of e ≡ 2) × SlotHolds p network e (λ m. Contradicts own m)) Rows12

  abbrev Rows9 : Rows
  Rows9 = row 9 ((kind_of e ≡ 2) × SlotHolds p network e (λ m. is_decision m ≡ false)) Rows11

  abbrev Rows8 : Rows
  Rows8 = row 8 ((kind_of e ≡ 2) × SlotUnused p network e) Rows9

  -- kinds 0 and 1 have no slot
  past_slot : (kind_of e ≡ 2 → ⊥) → (o : Outcome Change) → Ruled o Rows12 → Ruled o Rows8
  past_slot n o r =
      ruled_skip 8 _ _ (λ h. n h.0.0) o
      (ruled_skip 9 _ _ (λ h. n h.0.0) o
      (ruled_skip 11 _ _ (λ h. n h.0.0) o r))

  prepare_ruled : kind_of e ≡ 0 → Ruled (rm_choose (view_table p network) (who_of e) own prepared 1) Rows12
  prepare_ruled kind = choose_ruled prepared 1 _ _ (λ n. here (kind, n)) enabled (λ n. inl (kind, n)) room
    where
      enabled : Disabled p e before → Enabled p (RMPrepare p (who_of e)) before → ⊥
      enabled (here h) = h.1
      enabled (below h) = absurd (omega (arith, h.0))

      room : Full p network e → HasRoom p network (Phase2a (who_of e) 0 1) → ⊥
      room (inl h) = h.1
      room (inr h) = absurd (omega (arith, h.0))

  abort_ruled : kind_of e ≡ 1 → Ruled (rm_choose (view_table p network) (who_of e) own aborted 2) Rows12
  abort_ruled kind = choose_ruled aborted 2 _ _ (λ n. below (kind, n)) enabled (λ n. inr (kind, n)) room
    where
      enabled : Disabled p e before → Enabled p (RMChooseToAbort p (who_of e)) before → ⊥
      enabled (here h) = absurd (omega (arith, h.0))
      enabled (below h) = h.1

      room : Full p network e → HasRoom p network (Phase2a (who_of e) 0 2) → ⊥
      room (inl h) = absurd (omega (arith, h.0))
      room (inr h) = h.1

  -- kind 2 is always enabled, and sends nothing
  none_12 : kind_of e ≡ 2 → (Disabled p e before → ⊥) × (Full p network e × Unit {1} → ⊥)
  none_12 kind = (disabled, λ h. full h.0)
    where
      disabled : Disabled p e before → ⊥
      disabled (here h) = omega (arith, h.0)
      disabled (below h) = omega (arith, h.0)

      full : Full p network e → ⊥
      full (inl h) = omega (arith, h.0)
      full (inr h) = omega (arith, h.0)

  module _ (kind : kind_of e ≡ 2) where
    -- row 11 for a decision
    decision_ruled : (val : ℕ) → message_at (messages p network) (slot_number e) ≡ accepted (Decision val)
        → Ruled (rm_receive_decision (who_of e) own val) Rows11
    unfolding Ruled rm_receive_decision
    decision_ruled val at = go (eqb val 1) refl
      where
        -- what the slot holds is this decision
        same : (m : Wire.Message) → message_at (messages p network) (slot_number e) ≡ accepted m → Decision val ≡ m
        same m is = accepted_inj (sym at ∙ is)

        go : (b : Bool) → eqb val 1 ≡ b
            → Ruled
            (cond b
            (refuse_if (eqb own working) 11 (refuse_if (eqb own aborted) 11 (rm_decided (who_of e) committed)))
            (refuse_if (eqb own committed) 11 (rm_decided (who_of e) aborted)))
            Rows11
        go true v =
            ruled_both _ _ 11 _ _ _
            (λ h. (kind, (Decision val, at, inl (rw v, inl (eqb-true _ _ h)))))
            (λ h. (kind, (Decision val, at, inl (rw v, inr (eqb-true _ _ h)))))
            (λ h k c. neither h k (rw (← same c.1.0 c.1.1) at c.1.2))
            (λ h k. ((none_12 kind).0, ((none_12 kind).1, tt)))
          where
            neither : eqb own working ≡ false → eqb own aborted ≡ false → Contradicts own (Decision val) → ⊥
            neither h k (inl (is, inl w)) = eqb-false _ _ h w
            neither h k (inl (is, inr w)) = eqb-false _ _ k w
            neither h k (inr (is, w)) = let z : ◌≡◌ {A = ℕ} 0 1 = cc (rw v at is) in omega arith
        go false v =
            ruled_row _ 11 _ _ _
            (λ h. (kind, (Decision val, at, inr (rw v, eqb-true _ _ h))))
            (λ h c. neither h (rw (← same c.1.0 c.1.1) at c.1.2))
            (λ h. ((none_12 kind).0, ((none_12 kind).1, tt)))
          where
            neither : eqb own committed ≡ false → Contradicts own (Decision val) → ⊥
            neither h (inl (is, w)) = let z : ◌≡◌ {A = ℕ} 0 1 = cc (rw v at is) in omega arith
            neither h (inr (is, w)) = eqb-false _ _ h w

    -- rows 9 and 11 for the message in the slot
    receive_ruled : (m : Wire.Message) → message_at (messages p network) (slot_number e) ≡ accepted m
        → Ruled (rm_receive (who_of e) own m) Rows9
    unfolding Ruled rm_receive
    receive_ruled (Phase1a ins bal) at = here (refl, ((kind, (_, at, refl)), tt))
    receive_ruled (Phase1b ins acc mbal vote) at = here (refl, ((kind, (_, at, refl)), tt))
    receive_ruled (Phase2a ins bal val) at = here (refl, ((kind, (_, at, refl)), tt))
    receive_ruled (Phase2b ins acc bal val) at = here (refl, ((kind, (_, at, refl)), tt))
    receive_ruled (Decision val) at =
        ruled_skip 9 _ Rows11 is_one (rm_receive_decision (who_of e) own val) (decision_ruled val at)
      where
        is_one : ((kind_of e ≡ 2) × SlotHolds p network e (λ m. is_decision m ≡ false)) × Unit {1} → ⊥
        is_one ((two, (m, is, other)), u) = false≢true (sym other ∙ ap is_decision (accepted_inj (sym is ∙ at)))

  kind_ruled : kind_of e ≤ 2 → Ruled (rm_kind (view_table p network) (kind_of e) (who_of e) own (slot_number e)) Rows8
  unfolding rm_kind
  kind_ruled small = go (eqb (kind_of e) 0) (eqb (kind_of e) 1) refl refl
    where
      go : (b c : Bool) → eqb (kind_of e) 0 ≡ b → eqb (kind_of e) 1 ≡ c
          → Ruled
          (cond b (rm_choose (view_table p network) (who_of e) own prepared 1)
          (cond c (rm_choose (view_table p network) (who_of e) own aborted 2)
          (and_then (message_at (messages p network) (slot_number e)) (rm_receive (who_of e) own))))
          Rows8
      go true c h k = let kind : kind_of e ≡ 0 = eqb-true _ _ h in past_slot (λ q. omega arith) (rm_choose (view_table p network) (who_of e) own prepared 1) (prepare_ruled kind)
      go false true h k = let kind : kind_of e ≡ 1 = eqb-true _ _ k in past_slot (λ q. omega arith) (rm_choose (view_table p network) (who_of e) own aborted 2) (abort_ruled kind)
      go false false h k =
          let n0 : kind_of e ≡ 0 → ⊥ = eqb-false _ _ h in
          let n1 : kind_of e ≡ 1 → ⊥ = eqb-false _ _ k in
          let kind : kind_of e ≡ 2 = omega arith in
          ruled_slot (messages p network) (slot_number e) _ _ _ (λ u. (kind, u)) (λ t. t.1) (receive_ruled kind)

  abbrev Rows7 : Rows
  Rows7 = row 7 ((is_event p e ≡ false) ⊎ (2 < kind_of e)) Rows8

  verdict_ruled : is_plan p ≡ true → Ruled (rm_verdict p states (view_table p network) e) Rows7
  unfolding rm_verdict
  verdict_ruled plan =
      ruled_pass _ 1 _ _ (ap not plan)
      (ruled_both _ _ 7 _ _ _ (λ h. inl (not-true _ h)) (λ h. inr (ltb-true _ _ h)) event (λ ok small. kind_ruled (ltb-false _ _ small)))
    where
      event : not (is_event p e) ≡ false → ltb 2 (kind_of e) ≡ false → (is_event p e ≡ false) ⊎ (2 < kind_of e) → ⊥
      event h k (inl n) = clash _ h n
      event h k (inr n) = let small : kind_of e ≤ 2 = ltb-false _ _ k in omega arith

  abbrev verdict : Unit {0} → Outcome Change
  verdict _ = rm_verdict p states (view_table p network) e

  pub rm_ruled : Ruled (rm_step p states network e).answer (rm_rows p states network e before)
  unfolding rm_step
  rm_ruled = ruled_applied p states network (rm_rows p states network e before) (and_then (rm_judged p states network) verdict)
      (rm_judges_then p states network verdict _ verdict_ruled)
