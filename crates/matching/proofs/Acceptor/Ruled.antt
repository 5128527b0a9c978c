-- The step of an acceptor answers by its rows.
--     phase1b_ruled, phase2b_ruled     rows 12 and 13: a 1a is answered above mbal, a 2a from mbal on, where N has room
--     acceptor_judges_then             the rows of the plan and the tables, and those below
--     acceptor_ruled                   the rows, along the definition of the step
-- Assumes nothing.
use Rattle.std.specs.Prelude.{ℕ, ◌*◌, ◌≤◌, ◌<◌, true, List, ◌⊎◌, ◌≡◌, refl, ltb, leb, eqb, length, get_or}
use Rattle.std.proofs.Math.Bool.{false, not}
use Rattle.std.proofs.lemmas.Bool.{false≢true}
use Rattle.std.proofs.Math.Logic.{inl, inr}
use Rattle.std.proofs.Common.{sym, ◌∙◌, ap, subst, subst₂, arith}
use borrow.Author.Tests.{ltb-true, ltb-false, leb-true, leb-false, eqb-true, eqb-false, not-true, not-false}
use Rattle.message.specs.declared.Plan.{Plan}
use Rattle.message.specs.declared.Message as Wire
use Rattle.message.specs.declared.Message.TheVariants.{Phase1a, Phase1b, Phase2a, Phase2b, Decision}
use Rattle.message.specs.Outcome.{Outcome, and_then}
use Rattle.message.proofs.Outcome.Laws.{accepted_inj, both}
use Rattle.message.specs.Plan.{is_plan}
use Rattle.message.specs.Form.{is_value, is_in_range}
use Rattle.message.specs.Rows.{Rows, end, guard, row, here, below}
use Rattle.message.proofs.Rows.Laws.{Ruled, ruled_guard, ruled_skip, ruled_pass, ruled_both}
use Rattle.slots.specs.Table.{is_table_length, is_table, messages}
use Rattle.slots.specs.View.{view_table}
use Rattle.change.specs.declared.Change.{Change}
use Rattle.event.specs.Event.{kind_of, who_of, slot_number, is_event}
use Rattle.event.specs.Event.Laws.{acceptor_who}
use Rattle.paxos_commit.specs.PaxosCommit as Source
use Rattle.paxos_commit.specs.PaxosCommit.{AState, State, except₂}
use Rattle.votes.specs.Votes.{are_votes}
use Rattle.acceptor.specs.Acceptor.{vote_at, acceptor_judged, phase1b, phase2b, acceptor_receive, acceptor_verdict, acceptor_step}
use Rattle.matching.specs.Reading.{val_of, a_state_of}
use Rattle.matching.specs.Call.{Enabled, HasRoom, SlotUnused, SlotHolds}
use Rattle.matching.proofs.Call.Laws.{member_at, slot_in_range, clash}
use Rattle.matching.proofs.Call.Laws.{ruled_judged, ruled_judged₂, ruled_sound, ruled_slot, ruled_sending, ruled_applied}
use Rattle.matching.specs.Acceptor.{Phase1bAction, Phase2bAction, state_of, report_of, is_taken, InSlot, Disabled, Full, acceptor_table_rows, acceptor_rows}
use Rattle.matching.proofs.Acceptor.Votes.{entry_mbal}

-- the plan and the two tables, and what is judged after them
pub acceptor_judges_then : {A : Type 0} (p : Plan) (votes network : List ℕ) (after : Unit {0} → Outcome A) (rows : Rows)
    → (is_plan p ≡ true → is_table_length (length network) ≡ true → is_table p network ≡ true → Ruled (after tt) rows)
    → Ruled (and_then (acceptor_judged p votes network) after) (acceptor_table_rows p votes network rows)
unfolding acceptor_judged
acceptor_judges_then p votes network after rows next =
    ruled_judged after _ 1 _ _ _ (not-true (is_plan p)) (clash (is_plan p))
    (λ plan. ruled_judged₂ after _ _ 2 _ _ _ (λ h. inl (eqb-false _ _ (not-true _ h))) (λ h. inr (not-true _ h)) lengths
    (λ three whole. ruled_judged after _ 4 _ _ _ (not-true (are_votes votes)) (clash (are_votes votes))
    (λ known. ruled_judged after _ 5 _ _ _ (not-true (is_table p network)) (clash (is_table p network))
    (λ ordered. ruled_sound after tt _
    (next (not-false (is_plan p) plan) (not-false (is_table_length (length network)) whole) (not-false (is_table p network) ordered))))))
  where
    lengths : not (eqb (length votes) (3 * (p.rms * p.acceptors))) ≡ false → not (is_table_length (length network)) ≡ false
        → (length votes ≡ 3 * (p.rms * p.acceptors) → ⊥) ⊎ (is_table_length (length network) ≡ false) → ⊥
    lengths h k (inl n) = n (eqb-true _ _ (not-false _ h))
    lengths h k (inr n) = clash _ k n

module _ (p : Plan) (votes network e : List ℕ) (rm_state : ℕ → ℕ) where
  abbrev before : State
  before = state_of p votes network rm_state

  abbrev Rows12 : Rows
  Rows12 = guard 12 (Disabled p network e before) (row 13 (Full p votes network e) end)

  module _ (ins : ℕ) (hi : ins < p.rms) (ha : who_of e < p.acceptors) where
    abbrev mbal : ℕ
    mbal = get_or votes (vote_at p ins (who_of e)) 0

    mbal_is : (a_state_of p votes ins (who_of e)).mbal ≡ mbal
    mbal_is = entry_mbal p votes ins (who_of e) hi ha

    -- the entry of (ins, who) set, and a message sent
    abbrev acted : AState → Source.Message → State
    acted entry m =
        record { rm_state = rm_state; a_state = except₂ (a_state_of p votes) ins (who_of e) entry; msgs = λ x. before.msgs x ⊎ (x ≡ m) }

    module _ (bal : ℕ) (is : InSlot p network e (Phase1a ins bal)) where
      phase1b_enabled : mbal < bal → Enabled p (Phase1bAction p (who_of e) ins bal) before
      phase1b_enabled low = (acted _ _, ((_, member_at _ _ _ is, refl), rw mbal_is low, refl, λ x. (λ h. h, λ h. h), refl))

      -- the slot holds no other message
      one_1a : (i b : ℕ) → InSlot p network e (Phase1a i b) → (ins ≡ i) × (bal ≡ b)
      one_1a i b holds = let same : Phase1a ins bal ≡ Phase1a i b = accepted_inj (sym is ∙ holds) in (cc, cc)

      no_2a : (i b v : ℕ) → InSlot p network e (Phase2a i b v) → ⊥
      no_2a i b v holds =
          let other : Phase1a ins bal ≡ Phase2a i b v = accepted_inj (sym is ∙ holds) in let z : ◌≡◌ {A = ℕ} 0 1 = cc in omega arith

      phase1b_disabled : Disabled p network e before → Enabled p (Phase1bAction p (who_of e) ins bal) before → ⊥
      phase1b_disabled (here (i, b, holds, n)) a =
          let s = one_1a i b holds in n (subst₂ (λ (j c : ℕ). Enabled p (Phase1bAction p (who_of e) j c) before) s.0 s.1 a)
      phase1b_disabled (below (i, b, v, holds, n)) a = no_2a i b v holds

      phase1b_full : Full p votes network e → HasRoom p network (report_of p votes (who_of e) ins bal) → ⊥
      phase1b_full (inl (i, b, holds, n)) a =
          let s = one_1a i b holds in n (subst₂ (λ (j c : ℕ). HasRoom p network (report_of p votes (who_of e) j c)) s.0 s.1 a)
      phase1b_full (inr (i, b, v, holds, n)) a = no_2a i b v holds

      phase1b_ruled : Ruled (phase1b p votes (view_table p network) (who_of e) ins bal) Rows12
      unfolding Ruled phase1b
      phase1b_ruled =
          ruled_guard _ 12 _ _ _
          (λ h. here (ins, bal, is, λ a. let l = leb-true bal mbal h in let k : mbal < bal = rw mbal_is at a.1.1 in omega arith))
          (λ h d. phase1b_disabled d (phase1b_enabled (leb-false bal mbal h)))
          (λ h. ruled_sending 13 p network _ _ end _ (λ n. inl (ins, bal, is, n)) phase1b_full (λ slot store q. tt))

    module _ (bal val : ℕ) (is : InSlot p network e (Phase2a ins bal val)) where
      phase2b_enabled : mbal ≤ bal → Enabled p (Phase2bAction p (who_of e) ins bal (val_of val)) before
      phase2b_enabled low = (acted _ _, ((_, member_at _ _ _ is, refl), rw mbal_is low, refl, λ x. (λ h. h, λ h. h), refl))

      no_1a : (i b : ℕ) → InSlot p network e (Phase1a i b) → ⊥
      no_1a i b holds =
          let other : Phase2a ins bal val ≡ Phase1a i b = accepted_inj (sym is ∙ holds) in let z : ◌≡◌ {A = ℕ} 0 1 = cc in omega arith

      one_2a : (i b v : ℕ) → InSlot p network e (Phase2a i b v) → (ins ≡ i) × (bal ≡ b) × (val ≡ v)
      one_2a i b v holds = let same : Phase2a ins bal val ≡ Phase2a i b v = accepted_inj (sym is ∙ holds) in (cc, cc, cc)

      phase2b_disabled : Disabled p network e before → Enabled p (Phase2bAction p (who_of e) ins bal (val_of val)) before → ⊥
      phase2b_disabled (here (i, b, holds, n)) a = no_1a i b holds
      phase2b_disabled (below (i, b, v, holds, n)) a =
          let (instance, ballot, value) = one_2a i b v holds in
          let voting = subst (λ (w : ℕ). Enabled p (Phase2bAction p (who_of e) ins bal (val_of w)) before) value a in
          n (subst₂ (λ (j c : ℕ). Enabled p (Phase2bAction p (who_of e) j c (val_of v)) before) instance ballot voting)

      phase2b_full : Full p votes network e → HasRoom p network (Phase2b ins (who_of e) bal val) → ⊥
      phase2b_full (inl (i, b, holds, n)) a = no_1a i b holds
      phase2b_full (inr (i, b, v, holds, n)) a =
          let s = one_2a i b v holds in
          let vote : Phase2b ins (who_of e) bal val ≡ Phase2b i (who_of e) b v = cc in
          n (subst (HasRoom p network) vote a)

      phase2b_ruled : Ruled (phase2b p votes (view_table p network) (who_of e) ins bal val) Rows12
      unfolding Ruled phase2b
      phase2b_ruled =
          ruled_guard _ 12 _ _ _
          (λ h. below (ins, bal, val, is, λ a. let l = ltb-true bal mbal h in let k : mbal ≤ bal = rw mbal_is at a.1.1 in omega arith))
          (λ h d. phase2b_disabled d (phase2b_enabled (ltb-false bal mbal h)))
          (λ h. ruled_sending 13 p network _ _ end _ (λ n. inr (ins, bal, val, is, n)) phase2b_full (λ slot store q. tt))

  abbrev Rows9 : Rows
  Rows9 = row 9 (SlotHolds p network e (λ m. is_taken m ≡ false)) Rows12

  -- row 9 does not apply to a message that is taken
  taken : (m : Wire.Message) → InSlot p network e m → is_taken m ≡ true → SlotHolds p network e (λ m. is_taken m ≡ false) × Unit {1} → ⊥
  taken m is t ((x, holds, other), u) = false≢true (sym other ∙ ap is_taken (accepted_inj (sym holds ∙ is)) ∙ t)

  module _ (whole : is_table_length (length network) ≡ true) (ordered : is_table p network ≡ true) (ha : who_of e < p.acceptors) where
    in_range_lem : (m : Wire.Message) → InSlot p network e m → is_in_range p m ≡ true
    in_range_lem = slot_in_range p network whole ordered (slot_number e)

    receive_ruled : (m : Wire.Message) → InSlot p network e m → Ruled (acceptor_receive p votes (view_table p network) (who_of e) m) Rows9
    unfolding Ruled acceptor_receive is_in_range
    receive_ruled (Phase1a ins bal) is =
        ruled_skip 9 _ Rows12 (taken _ is refl) (phase1b p votes (view_table p network) (who_of e) ins bal)
        (phase1b_ruled ins (ltb-true _ _ (both (ltb ins p.rms) (leb 1 bal) (in_range_lem _ is)).0) ha bal is)
    receive_ruled (Phase1b ins acc _ vote) is = here (refl, ((_, is, refl), tt))
    receive_ruled (Phase2a ins bal val) is =
        ruled_skip 9 _ Rows12 (taken _ is refl) (phase2b p votes (view_table p network) (who_of e) ins bal val)
        (phase2b_ruled ins (ltb-true _ _ (both (ltb ins p.rms) (is_value val) (in_range_lem _ is)).0) ha bal val is)
    receive_ruled (Phase2b ins acc bal val) is = here (refl, ((_, is, refl), tt))
    receive_ruled (Decision val) is = here (refl, ((_, is, refl), tt))

  abbrev Rows7 : Rows
  Rows7 = row 7 ((is_event p e ≡ false) ⊎ (kind_of e ≡ 3 → ⊥)) (row 8 (SlotUnused p network e) Rows9)

  verdict_ruled : is_plan p ≡ true → is_table_length (length network) ≡ true → is_table p network ≡ true
      → Ruled (acceptor_verdict p votes (view_table p network) e) Rows7
  unfolding acceptor_verdict
  verdict_ruled plan whole ordered =
      ruled_pass _ 1 _ _ (ap not plan)
      (ruled_both _ _ 7 _ _ _ (λ h. inl (not-true _ h)) (λ h. inr (eqb-false _ _ (not-true _ h))) event
      (λ ok three. ruled_slot (messages p network) (slot_number e) _ _ _ (λ u. u) (λ t. t)
      (receive_ruled whole ordered (acceptor_who p e (not-false _ ok) (eqb-true _ _ (not-false _ three))))))
    where
      event : not (is_event p e) ≡ false → not (eqb (kind_of e) 3) ≡ false → (is_event p e ≡ false) ⊎ (kind_of e ≡ 3 → ⊥) → ⊥
      event h k (inl n) = clash _ h n
      event h k (inr n) = n (eqb-true _ _ (not-false _ k))

  abbrev verdict : Unit {0} → Outcome Change
  verdict _ = acceptor_verdict p votes (view_table p network) e

  pub acceptor_ruled : Ruled (acceptor_step p votes network e).answer (acceptor_rows p votes network e before)
  unfolding acceptor_step
  acceptor_ruled =
      ruled_applied p votes network (acceptor_rows p votes network e before) (and_then (acceptor_judged p votes network) verdict)
      (acceptor_judges_then p votes network verdict _ verdict_ruled)
