-- The tests of a leader's step and the published actions' conditions, over the messages in the inbox and what is decided: where the tests hold
-- the action leads to every state that sends its message, and an enabled action passes them.
--     Joins, joining, joins_joining                 a message was sent, and nothing else changed; there is such a state
--     phase2a_acts, phase2a_new, phase2a_quorum     kind 6
--     commit_acts, commit_test                      kind 7
--     abort_acts, abort_test                        kind 8
-- Assumes nothing.
use Rattle.std.specs.Prelude.{ℕ, Bool, true, false, List, ◌⊎◌, ◌≡◌, refl, ltb}
use Rattle.std.proofs.lemmas.Bool.{false≢true}
use Rattle.std.proofs.Common.{inl, inr, sym, ◌∙◌}
use Rattle.message.specs.declared.Plan.{Plan}
use Rattle.message.specs.declared.Message as Wire
use Rattle.message.proofs.Outcome.Laws.{both}
use Rattle.slots.proofs.Table.Holds.{all_in_range}
use Rattle.quorum.specs.Quorum.{is_quorum}
use Rattle.summary.specs.Summary.Laws.{is_value_lem}
use Rattle.inbox.specs.Inbox.{any, is1b, is2a, highest_report, proposal, for_all, for_some}
use Rattle.paxos_commit.specs.PaxosCommit as Source
use Rattle.paxos_commit.specs.PaxosCommit.{State}
use Rattle.matching.specs.Reading.{is_rm, is_acceptor, is_majority_set, val_of, set_of}
use Rattle.matching.specs.Call.{Enabled}
use Rattle.matching.specs.Leader.{Phase2aAction, CommitBy, AbortBy}
use Rattle.matching.specs.Leader.Decided.{Reflects}
use Rattle.matching.proofs.Leader.Conditions.{phase2a_seen, seen_phase2a, reported_seen, seen_reported, among}
use Rattle.matching.proofs.Leader.Conditions.{quorum_majority, majority_quorum}
use Rattle.inbox.specs.Inbox.Quantifiers.{for_all_all, all_for_all, for_some_some, some_for_some}
use Rattle.matching.proofs.Leader.Highest.{proposed_value}

-- s' is s with x sent, and nothing else
pub record Joins (p : Plan) (x : Source.Message) (s s' : State) : Type 0 where
  pub sends : Source.Send (is_rm p) (is_acceptor p) (is_majority_set p) x s s'
  pub rm_same : s'.rm_state ≡ s.rm_state
  pub acceptor_same : s'.a_state ≡ s.a_state

-- there is such a state
module _ (p : Plan) (x : Source.Message) (s : State) where
  abbrev pub joining : State
  joining = record { rm_state = s.rm_state; a_state = s.a_state; msgs = λ y. s.msgs y ⊎ (y ≡ x) }

  pub joins_joining : Joins p x s joining
  joins_joining = record { sends = λ y. (λ h. h, λ h. h); rm_same = refl; acceptor_same = refl }

module _ (p : Plan) (ms : List Wire.Message) (i b : ℕ) where
  abbrev reported : ℕ → Bool
  reported a = any (is1b i b a) ms

  module _ (s : State) where
    pub phase2a_new : Enabled p (Phase2aAction p (set_of ms) b i) s → any (is2a i b) ms ≡ false
    phase2a_new a = go (any (is2a i b) ms) refl
      where
        go : (t : Bool) → any (is2a i b) ms ≡ t → any (is2a i b) ms ≡ false
        go true f = let v = phase2a_seen ms i b f in absurd (a.1.0 v.0 v.1)
        go false f = f

    pub phase2a_quorum : Enabled p (Phase2aAction p (set_of ms) b i) s → is_quorum p.acceptors reported ≡ true
    phase2a_quorum a =
        let q = a.1.1 in
        majority_quorum p q.0 q.1 _ (λ ac t. let w = q.3 ac t in seen_reported ms i b ac w.0 w.1 w.2.0)

    abbrev value : Source.Val
    value = val_of (proposal (highest_report i b ms))

    -- the action, and the 2a that it names
    pub phase2a_acts : all_in_range p ms ≡ true → any (is2a i b) ms ≡ false → is_quorum p.acceptors reported ≡ true
        → (s' : State) → Joins p (Source.phase2a i b value) s s'
        → (acts : Phase2aAction p (set_of ms) b i s s') × (Source.phase2a i b acts.1.2 ≡ Source.phase2a i b value)
    phase2a_acts r new q s' j = (
      (
        (λ v h. false≢true (sym new ∙ seen_phase2a ms i b v h)),
        (
          among p reported,
          quorum_majority p _ q,
          value,
          (λ ac t. let w = reported_seen ms i b ac (both (ltb ac p.acceptors) _ t).1 in (_, _, (w.1, t))),
          proposed_value p ms r i b q,
          j.sends,
        ),
        j.rm_same,
        j.acceptor_same,
      ),
      refl,
    )

module _ (p : Plan) (isDecided : ℕ → ℕ → Bool) (Decided : ℕ → Source.Val → Type 0) (reflects : Reflects isDecided Decided) (s : State) where
  pub commit_acts : for_all p.rms (λ i. isDecided i 1) ≡ true → (s' : State) → Joins p Source.Commit s s' → CommitBy p Decided s s'
  commit_acts g s' j = ((λ rm k. (reflects rm 1 (is_value_lem 1 (inl refl))).0 (for_all_all _ p.rms g rm k)), j.sends, j.rm_same, j.acceptor_same)

  pub abort_acts : for_some p.rms (λ i. isDecided i 2) ≡ true → (s' : State) → Joins p Source.Abort s s' → AbortBy p Decided s s'
  abort_acts g s' j =
      let d = for_some_some _ p.rms g in
      ((d.0, d.1, (reflects d.0 2 (is_value_lem 2 (inr refl))).0 d.2), j.sends, j.rm_same, j.acceptor_same)

  pub commit_test : Enabled p (CommitBy p Decided) s → for_all p.rms (λ i. isDecided i 1) ≡ true
  commit_test a = all_for_all _ p.rms (λ rm k. (reflects rm 1 (is_value_lem 1 (inl refl))).1 (a.1.0 rm k))

  pub abort_test : Enabled p (AbortBy p Decided) s → for_some p.rms (λ i. isDecided i 2) ≡ true
  abort_test a = let d = a.1.0 in some_for_some _ p.rms d.0 d.1 ((reflects d.0 2 (is_value_lem 2 (inr refl))).1 d.2)
