-- The actions of a leader keep the invariant. Their conditions are read from a set `seen` of messages, of which only this is asked:
--     inv_phase1a          nothing
--     inv_phase2a          all of `seen` is sent; and no 2a of the instance and ballot is sent
--     inv_decide_commit    what is decided prepared has been chosen in msgs (`of_prepared` and `announced_kept`, where it is read from sent messages)
--     inv_decide_abort     what is decided aborted is refused in msgs
-- So read from sent messages they are the source's actions:
--     phase2a_of_part      Phase2a, where no 2a of the instance and ballot is sent: an acceptor has sent one 1b, and it is the one in `seen`
--     decide_commit_of_part, decide_abort_of_part     Decide, and for Abort Decide widened
-- Assumes nothing.
use Rattle.std.specs.Prelude.{ℕ, ◌≤◌, ◌<◌, Bool, true, ◌⊎◌, ◌≡◌, refl}
use Rattle.std.proofs.Common.{inl, inr, ⊎_elim, arith}
use Rattle.std.proofs.Math.Decide.{dec_lt}
use Rattle.paxos_commit.specs.PaxosCommit.{Val, prepared, aborted, Bal, minus_one, ballot, at_most, Message, phase1b, phase2a, phase2b}
use Rattle.paxos_commit.specs.PaxosCommit.{State, Maximum, MajoritiesMeet, Phase1a, Reported, ProposedVal, Phase2aFrom, Phase2a}
use Rattle.paxos_commit.specs.PaxosCommit.{Decided, DecideCommitWhere, DecideAbortWhere, Decide}
use Rattle.paxos_commit.proofs.PaxosCommit.Laws.{at_most_trans, maximum_bounds}
use Rattle.paxos_commit.specs.Widened.{DecidedOrDeclined, WidenedDecide}
use Rattle.paxos_commit.proofs.Widened.Laws.{of_prepared, announced_kept}
use Rattle.paxos_commit.specs.PaxosCommit.Safety.{Blocked, Refused, Inv}
use Rattle.paxos_commit.proofs.PaxosCommit.Safety.Growth.{inv_says}

module _ {RM Acceptor : ℕ → Type 0} {Majority : (ℕ → Bool) → Type 0} {s : State} (inv : Inv RM Acceptor Majority s) (s' : State) where
  pub inv_phase1a : (b i : ℕ) → RM i → 0 < b → Phase1a RM Acceptor Majority b i s s' → Inv RM Acceptor Majority s'
  inv_phase1a b i q l (sent, row, same) = inv_says inv _ sent same (q, l) tt (λ j k. inl (rw row))

  pub inv_decide_commit : (decided : ℕ → Val → Type 0) → ((i : ℕ) → decided i prepared → Decided RM Acceptor Majority s.msgs i prepared)
      → DecideCommitWhere RM Acceptor Majority decided s s' → Inv RM Acceptor Majority s'
  inv_decide_commit decided chosen (all, sent, row, same) = inv_says inv _ sent same tt (λ i q. chosen i (all i q)) (λ j k. inl (rw row))

  pub inv_decide_abort : (decided : ℕ → Val → Type 0) → ((i : ℕ) → decided i aborted → Refused RM Acceptor Majority s.msgs i)
      → DecideAbortWhere RM Acceptor Majority decided s s' → Inv RM Acceptor Majority s'
  inv_decide_abort decided refused ((i, q, d), sent, row, same) = inv_says inv _ sent same tt (i, q, refused i d) (λ j k. inl (rw row))

-- value v at ballot b of instance i, proposed on the reports of the majority MS
module _ {RM Acceptor : ℕ → Type 0} {Majority : (ℕ → Bool) → Type 0} {s : State} (inv : Inv RM Acceptor Majority s)
    (seen : Message → Type 0) (sub : (x : Message) → seen x → s.msgs x) (b i : ℕ) (MS : ℕ → Bool) (v : Val)
    (heard : (a : ℕ) → MS a ≡ true → (r : Bal) × (w : Val) × Reported RM Acceptor Majority seen b i MS r w a)
    (p : ProposedVal RM Acceptor Majority seen b i MS v) where
  -- no vote is reported and v is aborted, or v is what the ballot of the highest report proposed
  abbrev Origin : Type 0
  Origin = ((p.0 ≡ minus_one) × (v ≡ aborted)) ⊎ ((c : ℕ) × (p.0 ≡ ballot c) × s.msgs (phase2a i c v))

  origin : Origin
  origin = ⊎_elim inl (λ (some, (a, (h, member))). go some a (sub _ h) p.0 refl) p.2
    where
      go : (p.0 ≡ minus_one → ⊥) → (a : ℕ) → s.msgs (phase1b i b p.0 v a) → (r : Bal) → p.0 ≡ r → Origin
      go some a h minus_one e = absurd (some e)
      go some a h (ballot c) e = inr (c, e, (inv.voted a i c v ((inv.report i b p.0 v a h).0 c e)).0)

  proposal_range : Origin → (v ≡ prepared) ⊎ (v ≡ aborted)
  proposal_range (inl (e, d)) = inr d
  proposal_range (inr (c, e, h)) = (inv.ranges _ h).1

  proposal_prepared : Origin → v ≡ prepared → (b ≡ 0) ⊎ s.msgs (phase2a i 0 prepared)
  proposal_prepared (inl (e, d)) k = let z : ◌≡◌ {A = ℕ} 0 1 = cc in absurd (omega arith)
  proposal_prepared (inr (c, e, h)) k = inr (inv.prepared_first i c (rw k at h))

  -- a member of MS has promised b, and has no vote below b that is above the highest report
  promise : (a : ℕ) → MS a ≡ true → (b ≤ (s.a_state i a).mbal) × ((c : ℕ) (w : Val) → s.msgs (phase2b a i c w) → c < b → at_most (ballot c) p.0)
  promise a member =
      let (r, w, (h, again)) = heard a member in
      let most = maximum_bounds _ p.0 r p.1 (w, a, (h, again)) in
      (inv.promised i b r w a (sub _ h), λ c u vote l. at_most_trans (ballot c) r p.0 ((inv.report i b r w a (sub _ h)).1 c u vote l) most)

  -- below the highest report its ballot was safe; there one value is proposed; above it the common member has not voted
  proposal_safe : Origin → (c : ℕ) (w : Val) (M : ℕ → Bool) → c < b → (w ≡ v → ⊥) → Majority M
      → (a : ℕ) × (MS a ≡ true) × (M a ≡ true) → Blocked s.a_state s.msgs i c w M
  proposal_safe (inl (e, f)) c w M l d many (a, m, m') = let (up, below) = promise a m in (a, m', omega arith, λ vote. rw e at (below c w vote l))
  proposal_safe (inr (k, e, h)) c w M l d many (a, m, m') = go (dec_lt c k) (promise a m)
    where
      same : c ≤ k → k ≤ c → s.msgs (phase2b a i c w) → w ≡ v
      same low high vote = let f : k ≡ c = omega arith in inv.one_value i c w v (inv.voted a i c w vote).0 (rw f at h)

      go : Dec (c < k) → (b ≤ (s.a_state i a).mbal) × ((x : ℕ) (y : Val) → s.msgs (phase2b a i x y) → x < b → at_most (ballot x) p.0)
          → Blocked s.a_state s.msgs i c w M
      go (yes j) (up, below) = inv.safe i k c v w M h j d many
      go (no j) (up, below) = (a, m', omega arith, λ vote. d (same (rw e at (below c w vote l)) (omega arith) vote))

module _ {RM Acceptor : ℕ → Type 0} {Majority : (ℕ → Bool) → Type 0} {s : State} (inv : Inv RM Acceptor Majority s) (s' : State)
    (meet : MajoritiesMeet RM Acceptor Majority) where
  pub inv_phase2a : (seen : Message → Type 0) → ((x : Message) → seen x → s.msgs x) → (b i : ℕ) → RM i → 0 < b
      → ((v : Val) → s.msgs (phase2a i b v) → ⊥) → Phase2aFrom RM Acceptor Majority seen b i s s' → Inv RM Acceptor Majority s'
  inv_phase2a seen sub b i q l fresh (unsent, (MS, many, v, heard, p, sent), row, same) =
      let o = origin inv seen sub b i MS v heard p in
      let safe = proposal_safe inv seen sub b i MS v heard p o in
      inv_says inv _ sent same (q, proposal_range inv seen sub b i MS v heard p o) (
        fresh,
        proposal_prepared inv seen sub b i MS v heard p o,
        λ c w M k d many'. safe c w M k d many' (meet MS M many many'),
        λ z. absurd (omega arith),
      )
      (λ j k. inl (rw row))

-- what is read from a part `seen` of msgs is so in msgs
module _ {RM Acceptor : ℕ → Type 0} {Majority : (ℕ → Bool) → Type 0} {s : State} (inv : Inv RM Acceptor Majority s)
    (seen : Message → Type 0) (sub : (x : Message) → seen x → s.msgs x) where
  -- the reports of ballot b of instance i from the majority MS
  module _ (b i : ℕ) (MS : ℕ → Bool) (heard : (a : ℕ) → MS a ≡ true → (r : Bal) × (w : Val) × Reported RM Acceptor Majority seen b i MS r w a) where
    abbrev In : (Message → Type 0) → Bal → Val → ℕ → Type 0
    In msgs = Reported RM Acceptor Majority msgs b i MS

    forth : (r : Bal) (w : Val) (a : ℕ) → In seen r w a → In s.msgs r w a
    forth r w a (h, m) = (sub _ h, m)

    -- the one 1b that a member of MS has sent is the one in `seen`
    back : (r : Bal) (w : Val) (a : ℕ) → In s.msgs r w a → In seen r w a
    back r w a (h, m) =
        let (q, u, (k, again)) = heard a m in
        let (d, e) = inv.one_report i b r q w u a h (sub _ k) in
        (rw (d, e) k, m)

    maximum_of_part : (n : Bal) → Maximum (λ r. (w : Val) × (a : ℕ) × In seen r w a) n → Maximum (λ r. (w : Val) × (a : ℕ) × In s.msgs r w a) n
    maximum_of_part n (inl (none, e)) = inl (λ r (w, a, h). none r (w, a, back r w a h), e)
    maximum_of_part n (inr ((w, a, h), bound)) = inr ((w, a, forth n w a h), λ r (u, c, k). bound r (u, c, back r u c k))

    proposed_of_part : (v : Val) → ProposedVal RM Acceptor Majority seen b i MS v → ProposedVal RM Acceptor Majority s.msgs b i MS v
    proposed_of_part v (n, most, value) =
        (n, maximum_of_part n most, ⊎_elim inl (λ (some, (a, h)). inr (some, (a, forth n v a h))) value)

  module _ (s' : State) where
    pub phase2a_of_part : (b i : ℕ) → ((v : Val) → s.msgs (phase2a i b v) → ⊥) → Phase2aFrom RM Acceptor Majority seen b i s s'
        → Phase2a RM Acceptor Majority b i s s'
    phase2a_of_part b i fresh (unsent, (MS, many, v, heard, p, sent), row, same) =
        (fresh, (MS, many, v, λ a m. let (r, w, h) = heard a m in (r, w, forth b i MS heard r w a h), proposed_of_part b i MS heard v p, sent), row, same)

    announced : (i : ℕ) (v : Val) → DecidedOrDeclined RM Acceptor Majority seen i v → DecidedOrDeclined RM Acceptor Majority s.msgs i v
    announced = announced_kept RM Acceptor Majority seen s.msgs sub

    pub decide_commit_of_part : DecideCommitWhere RM Acceptor Majority (DecidedOrDeclined RM Acceptor Majority seen) s s' → Decide RM Acceptor Majority s s'
    decide_commit_of_part (all, sent, row, same) =
        inl (λ i q. of_prepared RM Acceptor Majority s.msgs i (announced i prepared (all i q)), sent, row, same)

    pub decide_abort_of_part : DecideAbortWhere RM Acceptor Majority (DecidedOrDeclined RM Acceptor Majority seen) s s' → WidenedDecide RM Acceptor Majority s s'
    decide_abort_of_part ((i, q, d), sent, row, same) = inr ((i, q, announced i aborted d), sent, row, same)
