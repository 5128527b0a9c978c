-- The action of an event, and what an accepted event call does.
--     At, action_acted, copies_acted     what an accepted event call sets is its kind's action; what a receipt does
--     enabled_not_12, enabled_no_row     where the action is enabled, row 12 does not apply
-- Assumes nothing.
use Rattle.std.specs.Prelude.{ℕ, zero, suc, List, ◌⊎◌, ◌≡◌, refl}
use Rattle.std.proofs.Common.{inl, inr, sym, ◌∙◌, arith}
use Rattle.message.specs.declared.Plan.{Plan}
use Rattle.message.specs.declared.Message as Wire
use Rattle.message.specs.declared.Message.TheVariants.{Phase1a, Phase2a}
use Rattle.message.specs.Outcome.{Outcome}
use Rattle.message.proofs.Outcome.Laws.{accepted_inj}
use Rattle.message.specs.Rows.{Either, here, below, Applies}
use Rattle.message.proofs.Rows.Named.{row_applies}
use Rattle.change.specs.declared.Sent.{Sent}
use Rattle.event.specs.Event.{kind_of, who_of, high_of, low_of}
use Rattle.paxos_commit.specs.PaxosCommit.{Commit, Abort, UnchangedMsgs}
use Rattle.record.specs.Record.{Tables}
use Rattle.matching.specs.Reading.{is_rm, is_acceptor, is_majority_set, val_of, message_of}
use Rattle.matching.specs.Call.{Enabled, SlotHolds}
use Rattle.matching.specs.Rm.{RMPrepare, RMChooseToAbort, RMRcvCommitMsg, RMRcvAbortMsg}
use Rattle.matching.specs.Acceptor.{Phase1bAction, Phase2bAction, InSlot}
use Rattle.matching.specs.Leader.{Phase1aAction, Phase2aAction, CommitBy, AbortBy}
use Rattle.conformance.specs.Record.{record_state, OwnStands, record_rows, Disabled, Acted}
use Rattle.conformance.specs.Record.{prepares, chooses_to_abort, receives_commit, receives_abort, promises, casts_vote, receives, opens_ballot}
use Rattle.conformance.specs.Record.{proposes, commits, aborts}
use Rattle.conformance.specs.Action.{received, ActsOnSlot, Action, Copies}

module _ (p : Plan) (t : Tables) (e : List ℕ) where
  module _ (answer : Outcome Sent) (t' : Tables) where
    -- what an accepted call of kind k does
    abbrev At : ℕ → Type 0
    At zero = RMPrepare p (who_of e) (record_state p t) (record_state p t')
    At (suc zero) = RMChooseToAbort p (who_of e) (record_state p t) (record_state p t')
    At (suc (suc zero)) =
        (SlotHolds p t.network e (λ m. message_of m ≡ Commit) × RMRcvCommitMsg p (who_of e) (record_state p t) (record_state p t'))
        ⊎ (SlotHolds p t.network e (λ m. message_of m ≡ Abort) × RMRcvAbortMsg p (who_of e) (record_state p t) (record_state p t'))
    At (suc (suc (suc zero))) = ActsOnSlot p t e (record_state p t) (record_state p t')
    At (suc (suc (suc (suc zero)))) = Copies p t e t'
    At (suc (suc (suc (suc (suc zero))))) = Phase1aAction p (low_of e) (high_of e) (record_state p t) (record_state p t')
    At (suc (suc (suc (suc (suc (suc zero)))))) = Phase2aAction p (received p t e) (low_of e) (high_of e) (record_state p t) (record_state p t')
    At (suc (suc (suc (suc (suc (suc (suc zero))))))) = CommitBy p (OwnStands p t e) (record_state p t) (record_state p t')
    At (suc (suc (suc (suc (suc (suc (suc (suc k)))))))) = AbortBy p (OwnStands p t e) (record_state p t) (record_state p t')

    at_acted : Acted p t e answer t' → At (kind_of e)
    at_acted (prepares kind rm acts sent same) = rw kind acts
    at_acted (chooses_to_abort kind rm acts sent same) = rw kind acts
    at_acted (receives_commit kind rm slot acts is same) = rw kind (inl (slot, acts))
    at_acted (receives_abort kind rm slot acts is same) = rw kind (inr (slot, acts))
    at_acted (promises kind acc ins bal slot acts sent same) = rw kind (inl (ins, bal, slot, acts))
    at_acted (casts_vote kind acc ins bal val slot acts sent same) = rw kind (inr (ins, bal, val, slot, acts))
    at_acted (receives kind member m slot taken is box stores same) = rw kind (m, slot, taken, (box, stores, same))
    at_acted (opens_ballot kind member rm owned acts sent same) = rw kind acts
    at_acted (proposes kind member rm owned acts is sent box stores same) = rw kind acts
    at_acted (commits kind member acts sent same) = rw kind acts
    at_acted (aborts kind member acts sent same) = rw kind acts

    pub copies_acted : Acted p t e answer t' → kind_of e ≡ 4 → Copies p t e t'
    copies_acted acted kind = rw kind at (at_acted acted)

    -- a receipt leaves W, Q and N, and so the three variables
    stays : Copies p t e t'
        → ((record_state p t').rm_state ≡ (record_state p t).rm_state)
        × ((record_state p t').a_state ≡ (record_state p t).a_state)
        × UnchangedMsgs (is_rm p) (is_acceptor p) (is_majority_set p) (record_state p t) (record_state p t')
    stays (m, slot, taken, (box, stores, same)) = rw same (refl, refl, λ x. ((λ h. h), λ h. h))

    pub action_acted : Acted p t e answer t' → Action p t e (record_state p t) (record_state p t')
    action_acted acted =
        let h = at_acted acted in
        record {
          kind_0 = λ kind. rw kind at h;
          kind_1 = λ kind. rw kind at h;
          kind_2 = λ kind. rw kind at h;
          kind_3 = λ kind. rw kind at h;
          kind_4 = λ kind. stays (copies_acted acted kind);
          kind_5 = λ kind. rw kind at h;
          kind_6 = λ kind. rw kind at h;
          kind_7 = λ kind. rw kind at h;
          kind_8 = λ kind. rw kind at h;
        }

  -- the slot holds one message
  one_slot : {m n : Wire.Message} → InSlot p t.network e m → InSlot p t.network e n → m ≡ n
  one_slot h k = accepted_inj (sym h ∙ k)

  phase1b_enabled : Enabled p (Action p t e) (record_state p t) → kind_of e ≡ 3 → (ins bal : ℕ) → InSlot p t.network e (Phase1a ins bal)
      → Enabled p (Phase1bAction p (who_of e) ins bal) (record_state p t)
  phase1b_enabled (s', acts) kind ins bal slot = go (acts.kind_3 kind)
    where
      go : ActsOnSlot p t e (record_state p t) s' → Enabled p (Phase1bAction p (who_of e) ins bal) (record_state p t)
      go (inl (i, b, held, h)) = let q = one_slot held slot in let d : i ≡ ins = cc in let f : b ≡ bal = cc in (s', rw (← d, ← f) h)
      go (inr (i, b, v, held, h)) = let q = one_slot held slot in let z : ◌≡◌ {A = ℕ} 0 1 = cc in absurd (omega arith)

  phase2b_enabled : Enabled p (Action p t e) (record_state p t) → kind_of e ≡ 3 → (ins bal val : ℕ) → InSlot p t.network e (Phase2a ins bal val)
      → Enabled p (Phase2bAction p (who_of e) ins bal (val_of val)) (record_state p t)
  phase2b_enabled (s', acts) kind ins bal val slot = go (acts.kind_3 kind)
    where
      go : ActsOnSlot p t e (record_state p t) s' → Enabled p (Phase2bAction p (who_of e) ins bal (val_of val)) (record_state p t)
      go (inl (i, b, held, h)) = let q = one_slot held slot in let z : ◌≡◌ {A = ℕ} 0 1 = cc in absurd (omega arith)
      go (inr (i, b, v, held, h)) =
          let q = one_slot held slot in
          let d : i ≡ ins = cc in let f : b ≡ bal = cc in let g : v ≡ val = cc in
          (s', rw (← d, ← f, ← g) h)

  enabled_not_12 : Enabled p (Action p t e) (record_state p t) → Disabled p t e → ⊥
  enabled_not_12 (s', acts) (here (here (kind, none))) = none (s', acts.kind_0 kind)
  enabled_not_12 (s', acts) (here (below (kind, none))) = none (s', acts.kind_1 kind)
  enabled_not_12 able (below (here (kind, here (ins, bal, slot, none)))) = none (phase1b_enabled able kind ins bal slot)
  enabled_not_12 able (below (here (kind, below (ins, bal, val, slot, none)))) = none (phase2b_enabled able kind ins bal val slot)
  enabled_not_12 (s', acts) (below (below (here (kind, none)))) = none (s', acts.kind_6 kind)
  enabled_not_12 (s', acts) (below (below (below (here (kind, none))))) = none (s', acts.kind_7 kind)
  enabled_not_12 (s', acts) (below (below (below (below (kind, none))))) = none (s', acts.kind_8 kind)

  -- so no row applies, where the action is enabled and no other row does
  pub enabled_no_row : Enabled p (Action p t e) (record_state p t) → ((k : ℕ) → (k ≡ 12 → ⊥) → Applies (record_rows p t e) k → ⊥)
      → (k : ℕ) → Applies (record_rows p t e) k → ⊥
  enabled_no_row able others k h = others k (λ twelve. not_12 (row_applies (record_rows p t e) 12 (rw twelve at h))) h
    where
      not_12 : Either (Disabled p t e) (Unit {1} → ⊥) → ⊥
      not_12 (here d) = enabled_not_12 able d
      not_12 (below n) = n tt
