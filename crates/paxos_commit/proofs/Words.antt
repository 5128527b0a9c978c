-- What the two ported modules say, in document 01's numbers: 0 working, 1 prepared, 2 committed, 3 aborted.
--     row_types, row_consistent                      TCTypeOK and TCConsistent of a row of states
--     first_row, next_row, step_row, spec_row        TCInit, TCNext, TCStep and TCSpec
--     state_types, message_words, assume_words       PCTypeOK: the row, and each message in msgs; the set Message; the ASSUME
--     first_state, step_words, spec_words            PCInit, PCStep and PCSpec
--     next_all                  each action in all its ranges is a PCNext (that there is no other: next_cases of Theorems.antt)
--     actions_mean              Phase2a, Phase1b, Phase2b and Decide by what they read, and by their messages
--     proposes_one, next_one    an action has one next state, Phase2a for each value that it may propose
--     proposes_enabled, enabled_words     when an action is enabled, at every size
--     announced_words           Decide widened: what counts as decided
--     EarlyAbort, widened_next  it is PCNext, and Abort sent in one case more, which early_words writes out
--     widened_step, widened_spec     WidenedStep and WidenedSpec
-- Assumes nothing.
use Rattle.std.specs.Prelude.{ℕ, suc, ◌≤◌, ◌<◌, Bool, true, cond, ◌⊎◌, ◌↔◌, ◌≡◌, refl, eqb}
use Rattle.std.proofs.Common.{inl, inr, ⊎_elim, sym, ◌∙◌}
use Rattle.tcommit.specs.TCommit.{except, TCTypeOK, TCConsistent, TCInit, TCNext, TCStep, TCSpec}
use Rattle.paxos_commit.specs.PaxosCommit.{Val, prepared, aborted, none, Bal, minus_one, State}
use Rattle.paxos_commit.specs.PaxosCommit.{Message, phase1a, phase1b, phase2a, phase2b, Commit, Abort, IsMessage}
use Rattle.paxos_commit.specs.PaxosCommit.{Assume, PCTypeOK, PCInit, PCNext, PCStep, PCSpec}
use Rattle.paxos_commit.specs.PaxosCommit as Module
use Rattle.paxos_commit.specs.Widened.{DecidedOrDeclined, WidenedNext, WidenedStep, WidenedSpec}
use Rattle.paxos_commit.proofs.Widened.Laws.{of_prepared}

module _ (RM : ℕ → Type 0) (row : ℕ → ℕ) where
  pub row_types : TCTypeOK RM row ↔ ((rm : ℕ) → RM rm → row rm ≤ 3)
  row_types = (λ h. h, λ h. h)

  pub row_consistent : TCConsistent RM row ↔ ((i j : ℕ) → RM i → RM j → row i ≡ 3 → row j ≡ 2 → ⊥)
  row_consistent = (λ h. h, λ h. h)

module _ (RM : ℕ → Type 0) (row row' : ℕ → ℕ) where
  pub first_row : TCInit RM row ↔ ((rm : ℕ) → RM rm → row rm ≡ 0)
  first_row = (λ h. h, λ h. h)

  pub next_row : TCNext RM row row'
      ↔ ((rm : ℕ) × RM rm
      × (((row rm ≡ 0) × (row' ≡ λ y. cond (eqb y rm) 1 (row y)))
      ⊎ (((row rm ≡ 1) × ((i : ℕ) → RM i → (row i ≡ 1) ⊎ (row i ≡ 2)) × (row' ≡ λ y. cond (eqb y rm) 2 (row y)))
      ⊎ (((row rm ≡ 0) ⊎ (row rm ≡ 1)) × ((i : ℕ) → RM i → row i ≡ 2 → ⊥) × (row' ≡ λ y. cond (eqb y rm) 3 (row y))))))
  next_row = (λ h. h, λ h. h)

  pub step_row : TCStep RM row row' ↔ (TCNext RM row row' ⊎ (row' ≡ row))
  step_row = (λ h. h, λ h. h)

pub spec_row : (RM : ℕ → Type 0) (rows : ℕ → ℕ → ℕ) → TCSpec RM rows ↔ (TCInit RM (rows 0) × ((t : ℕ) → TCStep RM (rows t) (rows (suc t))))
spec_row RM rows = (λ h. h, λ h. h)

module _ (RM Acceptor : ℕ → Type 0) (Majority : (ℕ → Bool) → Type 0) (s : State) where
  -- a 1a has an instance and a ballot above 0, a 1b an instance and an acceptor, a 2a an instance and a value, a 2b all three
  pub state_types : PCTypeOK RM Acceptor Majority s
      → ((rm : ℕ) → RM rm → s.rm_state rm ≤ 3)
      × ((i b : ℕ) → s.msgs (phase1a i b) → RM i × (0 < b))
      × ((i m a : ℕ) (b : Bal) (v : Val) → s.msgs (phase1b i m b v a) → RM i × Acceptor a)
      × ((i b : ℕ) (v : Val) → s.msgs (phase2a i b v) → RM i × ((v ≡ prepared) ⊎ (v ≡ aborted)))
      × ((a i b : ℕ) (v : Val) → s.msgs (phase2b a i b v) → Acceptor a × RM i × ((v ≡ prepared) ⊎ (v ≡ aborted)))
  state_types (row, messages) = (
    row,
    λ i b. messages (phase1a i b),
    λ i m a b v. messages (phase1b i m b v a),
    λ i b v. messages (phase2a i b v),
    λ a i b v. messages (phase2b a i b v),
  )

  pub first_state : PCInit RM Acceptor Majority s
      ↔ (((rm : ℕ) → RM rm → s.rm_state rm ≡ 0)
      × ((i a : ℕ) → RM i → Acceptor a → s.a_state i a ≡ record { mbal = 0; bal = minus_one; val = none })
      × ((m : Message) → s.msgs m → ⊥))
  first_state = (λ h. h, λ h. h)

module _ (RM Acceptor : ℕ → Type 0) (Majority : (ℕ → Bool) → Type 0) where
  pub assume_words : Assume RM Acceptor Majority
      ↔ (((MS : ℕ → Bool) → Majority MS → (ac : ℕ) → MS ac ≡ true → Acceptor ac)
      × ((MS1 MS2 : ℕ → Bool) → Majority MS1 → Majority MS2 → (ac : ℕ) × (MS1 ac ≡ true) × (MS2 ac ≡ true)))
  assume_words = (λ h. h, λ h. h)

  pub message_words : (i m a b : ℕ) (r : Bal) (v w : Val)
      → (IsMessage RM Acceptor Majority (phase1a i b) ↔ (RM i × (0 < b)))
      × (IsMessage RM Acceptor Majority (phase1b i m r w a) ↔ (RM i × Acceptor a))
      × (IsMessage RM Acceptor Majority (phase2a i b v) ↔ (RM i × ((v ≡ prepared) ⊎ (v ≡ aborted))))
      × (IsMessage RM Acceptor Majority (phase2b a i b v) ↔ (Acceptor a × RM i × ((v ≡ prepared) ⊎ (v ≡ aborted))))
  message_words i m a b r v w = ((λ h. h, λ h. h), (λ h. h, λ h. h), (λ h. h, λ h. h), (λ h. h, λ h. h))

  pub spec_words : (state : ℕ → State) → PCSpec RM Acceptor Majority state
      ↔ (PCInit RM Acceptor Majority (state 0) × ((t : ℕ) → PCStep RM Acceptor Majority (state t) (state (suc t))))
  spec_words state = (λ h. h, λ h. h)

  module _ (s s' : State) where
    pub step_words : PCStep RM Acceptor Majority s s'
        ↔ (PCNext RM Acceptor Majority s s'
        ⊎ ((s'.rm_state ≡ s.rm_state) × (s'.a_state ≡ s.a_state) × ((x : Message) → s'.msgs x ↔ s.msgs x)))
    step_words = (λ h. h, λ h. h)

    pub actions_mean : (bal rm acc : ℕ)
        → (Module.Phase2a RM Acceptor Majority bal rm s s' ↔ Module.Phase2aFrom RM Acceptor Majority s.msgs bal rm s s')
        × (Module.Phase1b RM Acceptor Majority acc s s' ↔ ((ins b : ℕ) × Module.Phase1bOn RM Acceptor Majority acc ins b s s'))
        × (Module.Phase2b RM Acceptor Majority acc s s' ↔ ((ins b : ℕ) × (v : Val) × Module.Phase2bOn RM Acceptor Majority acc ins b v s s'))
        × (Module.Decide RM Acceptor Majority s s'
        ↔ (Module.DecideCommitWhere RM Acceptor Majority (Module.Decided RM Acceptor Majority s.msgs) s s'
        ⊎ Module.DecideAbortWhere RM Acceptor Majority (Module.Decided RM Acceptor Majority s.msgs) s s'))
    actions_mean bal rm acc = ((λ h. h, λ h. h), (λ h. h, λ h. h), (λ h. h, λ h. h), (λ h. h, λ h. h))

    -- each action, in all its ranges, is a PCNext
    pub next_all :
        ((rm : ℕ) → RM rm → Module.RMPrepare RM Acceptor Majority rm s s' ⊎ (Module.RMChooseToAbort RM Acceptor Majority rm s s'
        ⊎ (Module.RMRcvCommitMsg RM Acceptor Majority rm s s' ⊎ Module.RMRcvAbortMsg RM Acceptor Majority rm s s')) → PCNext RM Acceptor Majority s s')
        × ((bal rm : ℕ) → RM rm → 0 < bal → Module.Phase1a RM Acceptor Majority bal rm s s' ⊎ Module.Phase2a RM Acceptor Majority bal rm s s'
        → PCNext RM Acceptor Majority s s')
        × (Module.Decide RM Acceptor Majority s s' → PCNext RM Acceptor Majority s s')
        × ((acc : ℕ) → Acceptor acc → Module.Phase1b RM Acceptor Majority acc s s' ⊎ Module.Phase2b RM Acceptor Majority acc s s'
        → PCNext RM Acceptor Majority s s')
    next_all = (
      λ rm q h. inl (rm, q, h),
      λ bal rm q l h. inr (inl (bal, rm, q, l, h)),
      λ h. inr (inr (inl h)),
      λ acc k h. inr (inr (inr (acc, k, h))),
    )

    -- a 2a is sent, and nothing else happens
    pub proposes_one : (seen : Message → Type 0) (bal rm : ℕ) → Module.Phase2aFrom RM Acceptor Majority seen bal rm s s'
        → (v : Val) × ((x : Message) → s'.msgs x ↔ (s.msgs x ⊎ (x ≡ phase2a rm bal v))) × (s'.rm_state ≡ s.rm_state) × (s'.a_state ≡ s.a_state)
    proposes_one seen bal rm (unsent, (MS, many, v, heard, p, sent), row, same) = (v, sent, row, same)

  -- every other action has one next state
  module _ (s s' u : State) where
    both : (m : Message) → ((x : Message) → s'.msgs x ↔ (s.msgs x ⊎ (x ≡ m))) → ((x : Message) → u.msgs x ↔ (s.msgs x ⊎ (x ≡ m)))
        → (x : Message) → s'.msgs x → u.msgs x
    both m h k x i = (k x).1 ((h x).0 i)

    pub next_one : (rm acc bal ins : ℕ) (v : Val) (decided : ℕ → Val → Type 0)
        → (Module.RMPrepare RM Acceptor Majority rm s s' × Module.RMPrepare RM Acceptor Majority rm s u)
        ⊎ ((Module.RMChooseToAbort RM Acceptor Majority rm s s' × Module.RMChooseToAbort RM Acceptor Majority rm s u)
        ⊎ ((Module.RMRcvCommitMsg RM Acceptor Majority rm s s' × Module.RMRcvCommitMsg RM Acceptor Majority rm s u)
        ⊎ ((Module.RMRcvAbortMsg RM Acceptor Majority rm s s' × Module.RMRcvAbortMsg RM Acceptor Majority rm s u)
        ⊎ ((Module.Phase1a RM Acceptor Majority bal rm s s' × Module.Phase1a RM Acceptor Majority bal rm s u)
        ⊎ ((Module.Phase1bOn RM Acceptor Majority acc ins bal s s' × Module.Phase1bOn RM Acceptor Majority acc ins bal s u)
        ⊎ ((Module.Phase2bOn RM Acceptor Majority acc ins bal v s s' × Module.Phase2bOn RM Acceptor Majority acc ins bal v s u)
        ⊎ ((Module.DecideCommitWhere RM Acceptor Majority decided s s' × Module.DecideCommitWhere RM Acceptor Majority decided s u)
        ⊎ (Module.DecideAbortWhere RM Acceptor Majority decided s s' × Module.DecideAbortWhere RM Acceptor Majority decided s u))))))))
        → (s'.rm_state ≡ u.rm_state) × (s'.a_state ≡ u.a_state) × ((x : Message) → s'.msgs x → u.msgs x)
    next_one rm acc bal ins v d (inl ((a, r, m, q), (a', r', m', q'))) = (r ∙ sym r', q ∙ sym q', both _ m m')
    next_one rm acc bal ins v d (inr (inl ((a, r, m, q), (a', r', m', q')))) = (r ∙ sym r', q ∙ sym q', both _ m m')
    next_one rm acc bal ins v d (inr (inr (inl ((a, r, q, m), (a', r', q', m'))))) = (r ∙ sym r', q ∙ sym q', λ x i. (m' x).1 ((m x).0 i))
    next_one rm acc bal ins v d (inr (inr (inr (inl ((a, r, q, m), (a', r', q', m')))))) = (r ∙ sym r', q ∙ sym q', λ x i. (m' x).1 ((m x).0 i))
    next_one rm acc bal ins v d (inr (inr (inr (inr (inl ((m, r, q), (m', r', q'))))))) = (r ∙ sym r', q ∙ sym q', both _ m m')
    next_one rm acc bal ins v d (inr (inr (inr (inr (inr (inl ((a, g, q, m, r), (a', g', q', m', r')))))))) = (r ∙ sym r', q ∙ sym q', both _ m m')
    next_one rm acc bal ins v d (inr (inr (inr (inr (inr (inr (inl ((a, g, q, m, r), (a', g', q', m', r'))))))))) = (r ∙ sym r', q ∙ sym q', both _ m m')
    next_one rm acc bal ins v d (inr (inr (inr (inr (inr (inr (inr (inl ((a, m, r, q), (a', m', r', q')))))))))) = (r ∙ sym r', q ∙ sym q', both _ m m')
    next_one rm acc bal ins v d (inr (inr (inr (inr (inr (inr (inr (inr ((a, m, r, q), (a', m', r', q')))))))))) = (r ∙ sym r', q ∙ sym q', both _ m m')

-- when an action is enabled, at every size
module _ (RM Acceptor : ℕ → Type 0) (Majority : (ℕ → Bool) → Type 0) (s : State) where
  abbrev next : (ℕ → ℕ) → (ℕ → ℕ → Module.AState) → Message → State
  next row states m = record { rm_state = row; a_state = states; msgs = λ x. s.msgs x ⊎ (x ≡ m) }

  pub proposes_enabled : (seen : Message → Type 0) (bal rm : ℕ) → ((v : Val) → seen (phase2a rm bal v) → ⊥)
      → (MS : ℕ → Bool) → Majority MS → ((ac : ℕ) → MS ac ≡ true → (b : Bal) × (v : Val) × seen (phase1b rm bal b v ac))
      → (v : Val) → Module.ProposedVal RM Acceptor Majority seen bal rm MS v
      → Module.Enabled RM Acceptor Majority (Module.Phase2aFrom RM Acceptor Majority seen bal rm) s
  proposes_enabled seen bal rm unsent MS many heard v value = (
    next s.rm_state s.a_state (phase2a rm bal v),
    (unsent, (MS, many, v, λ ac h. let (b, w, at) = heard ac h in (b, w, (at, h)), value, λ x. (λ h. h, λ h. h)), refl, refl),
  )

  pub enabled_words : (rm acc bal ins : ℕ) (v : Val) (decided : ℕ → Val → Type 0)
      → (Module.Enabled RM Acceptor Majority (Module.RMPrepare RM Acceptor Majority rm) s → s.rm_state rm ≡ 0)
      × (s.rm_state rm ≡ 0 → Module.Enabled RM Acceptor Majority (Module.RMPrepare RM Acceptor Majority rm) s)
      × (s.rm_state rm ≡ 0 → Module.Enabled RM Acceptor Majority (Module.RMChooseToAbort RM Acceptor Majority rm) s)
      × (s.msgs Commit → Module.Enabled RM Acceptor Majority (Module.RMRcvCommitMsg RM Acceptor Majority rm) s)
      × (s.msgs Abort → Module.Enabled RM Acceptor Majority (Module.RMRcvAbortMsg RM Acceptor Majority rm) s)
      × (Module.Enabled RM Acceptor Majority (Module.Phase1a RM Acceptor Majority bal rm) s)
      × (s.msgs (phase1a ins bal) → (s.a_state ins acc).mbal < bal → Module.Enabled RM Acceptor Majority (Module.Phase1bOn RM Acceptor Majority acc ins bal) s)
      × (s.msgs (phase2a ins bal v) → (s.a_state ins acc).mbal ≤ bal → Module.Enabled RM Acceptor Majority (Module.Phase2bOn RM Acceptor Majority acc ins bal v) s)
      × (((i : ℕ) → RM i → decided i prepared) → Module.Enabled RM Acceptor Majority (Module.DecideCommitWhere RM Acceptor Majority decided) s)
      × ((i : ℕ) → RM i → decided i aborted → Module.Enabled RM Acceptor Majority (Module.DecideAbortWhere RM Acceptor Majority decided) s)
  enabled_words rm acc bal ins v decided = (
    λ (s', h). h.0,
    λ w. (next (except s.rm_state rm 1) s.a_state (phase2a rm 0 prepared), (w, refl, λ x. (λ h. h, λ h. h), refl)),
    λ w. (next (except s.rm_state rm 3) s.a_state (phase2a rm 0 aborted), (w, refl, λ x. (λ h. h, λ h. h), refl)),
    λ w. (record { rm_state = except s.rm_state rm 2; a_state = s.a_state; msgs = s.msgs }, (w, refl, refl, λ x. (λ h. h, λ h. h))),
    λ w. (record { rm_state = except s.rm_state rm 3; a_state = s.a_state; msgs = s.msgs }, (w, refl, refl, λ x. (λ h. h, λ h. h))),
    (next s.rm_state s.a_state (phase1a rm bal), (λ x. (λ h. h, λ h. h), refl, refl)),
    λ w l. (next s.rm_state _ _, (w, l, refl, λ x. (λ h. h, λ h. h), refl)),
    λ w l. (next s.rm_state _ _, (w, l, refl, λ x. (λ h. h, λ h. h), refl)),
    λ all. (next s.rm_state s.a_state Commit, (all, λ x. (λ h. h, λ h. h), refl, refl)),
    λ i q d. (next s.rm_state s.a_state Abort, ((i, q, d), λ x. (λ h. h, λ h. h), refl, refl)),
  )

-- Decide widened: for prepared nothing more, for aborted the 2a of ballot 0 by which the resource manager declines
module _ (RM Acceptor : ℕ → Type 0) (Majority : (ℕ → Bool) → Type 0) where
  pub announced_words : (seen : Message → Type 0) (rm : ℕ)
      → (DecidedOrDeclined RM Acceptor Majority seen rm prepared ↔ Module.Decided RM Acceptor Majority seen rm prepared)
      × (DecidedOrDeclined RM Acceptor Majority seen rm aborted ↔ (Module.Decided RM Acceptor Majority seen rm aborted ⊎ seen (phase2a rm 0 aborted)))
  announced_words seen rm = (
    (of_prepared RM Acceptor Majority seen rm, inl),
    (⊎_elim inl (λ (e, h). inr h), ⊎_elim inl (λ h. inr (refl, h))),
  )

  pub widened_spec : (state : ℕ → State) → WidenedSpec RM Acceptor Majority state
      ↔ (PCInit RM Acceptor Majority (state 0)
      × ((t : ℕ) → WidenedNext RM Acceptor Majority (state t) (state (suc t))
      ⊎ (((state (suc t)).rm_state ≡ (state t).rm_state) × ((state (suc t)).a_state ≡ (state t).a_state)
      × ((x : Message) → (state (suc t)).msgs x ↔ (state t).msgs x))))
  widened_spec state = (λ h. h, λ h. h)

  -- an action of PCNext, or Abort sent where a resource manager has declined
  module _ (s s' : State) where
    abbrev pub EarlyAbort : Type 0
    EarlyAbort =
        ((rm : ℕ) × RM rm × s.msgs (phase2a rm 0 aborted))
        × ((x : Message) → s'.msgs x ↔ (s.msgs x ⊎ (x ≡ Abort)))
        × (s'.rm_state ≡ s.rm_state)
        × (s'.a_state ≡ s.a_state)

    pub early_words : EarlyAbort
        ↔ (((rm : ℕ) × RM rm × s.msgs (phase2a rm 0 aborted))
        × ((x : Message) → s'.msgs x ↔ (s.msgs x ⊎ (x ≡ Abort)))
        × (s'.rm_state ≡ s.rm_state)
        × (s'.a_state ≡ s.a_state))
    early_words = (λ h. h, λ h. h)

    pub widened_step : WidenedStep RM Acceptor Majority s s'
        ↔ (WidenedNext RM Acceptor Majority s s'
        ⊎ ((s'.rm_state ≡ s.rm_state) × (s'.a_state ≡ s.a_state) × ((x : Message) → s'.msgs x ↔ s.msgs x)))
    widened_step = (λ h. h, λ h. h)

    pub widened_next : WidenedNext RM Acceptor Majority s s' ↔ (PCNext RM Acceptor Majority s s' ⊎ EarlyAbort)
    widened_next = (to, ⊎_elim inl (λ ((rm, q, h), sent, row, same). inr (inr ((rm, q, inr (refl, h)), sent, row, same))))
      where
        to : WidenedNext RM Acceptor Majority s s' → PCNext RM Acceptor Majority s s' ⊎ EarlyAbort
        to (inl next) = inl next
        to (inr (inl (all, sent, row, same))) =
            inl (inr (inr (inl (inl (λ rm q. of_prepared RM Acceptor Majority s.msgs rm (all rm q), sent, row, same)))))
        to (inr (inr ((rm, q, inl d), sent, row, same))) = inl (inr (inr (inl (inr ((rm, q, d), sent, row, same)))))
        to (inr (inr ((rm, q, inr (e, h)), sent, row, same))) = inr ((rm, q, h), sent, row, same)
