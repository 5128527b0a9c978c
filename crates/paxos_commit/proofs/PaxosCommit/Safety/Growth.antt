-- What every action does, and why that keeps the invariant: at most one message is new, and fits; acceptors go up; a new state has its grounds.
--     Fits                   what is to be shown of a new message, by its type
--     Moved, Grounded        what becomes of an acceptor, and of the resource managers
--     Growth, inv_growth     such a step, with `new` the set of new messages: it keeps the invariant
--     stays                  an acceptor that does not move
--     inv_sends              a step that sends m
--     inv_says, inv_quiet    a step that sends m, or nothing, and moves no acceptor
-- Assumes nothing.
use Rattle.std.specs.Prelude.{ℕ, zero, suc, ◌≤◌, ◌<◌, Bool, ◌⊎◌, ◌≡◌, refl}
use Rattle.std.proofs.Common.{inl, inr, ⊎_elim, arith}
use Rattle.tcommit.specs.RmState as RmState
use Rattle.paxos_commit.specs.PaxosCommit.{Val, prepared, aborted, Bal, ballot, at_most, Message, phase1a, phase1b, phase2a, phase2b}
use Rattle.paxos_commit.specs.PaxosCommit.{Commit, Abort, AState, State, IsMessage, Send, UnchangedMsgs, Decided}
use Rattle.paxos_commit.proofs.PaxosCommit.Laws.{at_most_refl, at_most_trans, decided_kept}
use Rattle.paxos_commit.proofs.Widened.Laws.{announced_kept}
use Rattle.paxos_commit.specs.PaxosCommit.Safety.{Blocked, Grounds, Refused, Inv}

-- acceptor a goes up in instance i, and the vote that it remembers is in msgs
abbrev pub Moved : (ℕ → Type 0) → (ℕ → Type 0) → (Message → Type 0) → ℕ → ℕ → AState → AState → Type 0
Moved RM Acceptor msgs i a u u' =
    (u.mbal ≤ u'.mbal)
    × at_most u.bal u'.bal
    × ((b : ℕ) → RM i → Acceptor a → u'.bal ≡ ballot b → msgs (phase2b a i b u'.val))

-- every resource manager keeps its state, or has grounds for the new one
abbrev pub Grounded : (ℕ → Type 0) → State → State → Type 0
Grounded RM s s' = (i : ℕ) → RM i → (s'.rm_state i ≡ s.rm_state i) ⊎ Grounds s'.msgs i (s'.rm_state i)

module _ (RM Acceptor : ℕ → Type 0) (Majority : (ℕ → Bool) → Type 0) (s s' : State) where
  abbrev pub Fits : Message → Type 0
  Fits (phase1a i b) = Unit {0}
  -- its sender has promised m, and reports its last vote below m; it has sent no 1b for m
  Fits (phase1b i m r v a) =
      (m ≤ (s'.a_state i a).mbal)
      × ((c : ℕ) → r ≡ ballot c → s.msgs (phase2b a i c v))
      × ((c : ℕ) (w : Val) → s.msgs (phase2b a i c w) → c < m → at_most (ballot c) r)
      × ((q : Bal) (w : Val) → s.msgs (phase1b i m q w a) → ⊥)
  -- it is the first of its ballot, prepared only if the resource manager is, safe, and at ballot 0 from a resource manager that works no more
  Fits (phase2a i b v) =
      ((w : Val) → s.msgs (phase2a i b w) → ⊥)
      × (v ≡ prepared → (b ≡ 0) ⊎ s.msgs (phase2a i 0 prepared))
      × ((c : ℕ) (w : Val) (MS : ℕ → Bool) → c < b → (w ≡ v → ⊥) → Majority MS → Blocked s.a_state s.msgs i c w MS)
      × (b ≡ 0 → s'.rm_state i ≡ RmState.working → ⊥)
  -- it is for a proposal, at a ballot not below its sender's, who goes there and remembers it
  Fits (phase2b a i b v) =
      s.msgs (phase2a i b v) × ((s.a_state i a).mbal ≤ b) × (b ≤ (s'.a_state i a).mbal) × at_most (ballot b) (s'.a_state i a).bal
  Fits Commit = (i : ℕ) → RM i → Decided RM Acceptor Majority s.msgs i prepared
  Fits Abort = (i : ℕ) × RM i × Refused RM Acceptor Majority s.msgs i

  pub record Growth (new : Message → Type 0) : Type 0 where
    pub kept : (x : Message) → s.msgs x → s'.msgs x
    pub split : (x : Message) → s'.msgs x → s.msgs x ⊎ new x
    pub single : (x y : Message) → new x → new y → x ≡ y
    pub fits : (x : Message) → new x → IsMessage RM Acceptor Majority x × Fits x
    pub moved : (i a : ℕ) → Moved RM Acceptor s'.msgs i a (s.a_state i a) (s'.a_state i a)
    pub states : Grounded RM s s'

module _ {RM Acceptor : ℕ → Type 0} {Majority : (ℕ → Bool) → Type 0} {s s' : State} {new : Message → Type 0}
    (inv : Inv RM Acceptor Majority s) (g : Growth RM Acceptor Majority s s' new) where
  -- sent before, or new
  abbrev Sent : Message → Type 0
  Sent x = s.msgs x ⊎ new x

  growth_one_value : (i b : ℕ) (v w : Val) → Sent (phase2a i b v) → Sent (phase2a i b w) → v ≡ w
  growth_one_value i b v w (inl h) (inl k) = inv.one_value i b v w h k
  growth_one_value i b v w (inl h) (inr k) = absurd ((g.fits _ k).1.0 v h)
  growth_one_value i b v w (inr h) (inl k) = absurd ((g.fits _ h).1.0 w k)
  growth_one_value i b v w (inr h) (inr k) = let e = g.single _ _ h k in cc

  growth_prepared_first : (i b : ℕ) → Sent (phase2a i b prepared) → s'.msgs (phase2a i b prepared) → s'.msgs (phase2a i 0 prepared)
  growth_prepared_first i b (inl h) k = g.kept _ (inv.prepared_first i b h)
  growth_prepared_first i b (inr h) k = ⊎_elim (λ e. rw e at k) (g.kept _) ((g.fits _ h).1.1 refl)

  growth_voted : (a i b : ℕ) (v : Val) → Sent (phase2b a i b v)
      → s'.msgs (phase2a i b v) × (b ≤ (s'.a_state i a).mbal) × at_most (ballot b) (s'.a_state i a).bal
  growth_voted a i b v (inl h) =
      let (proposed, low, last) = inv.voted a i b v h in
      let (up, later, sent) = g.moved i a in
      (g.kept _ proposed, omega arith, at_most_trans (ballot b) (s.a_state i a).bal (s'.a_state i a).bal last later)
  growth_voted a i b v (inr h) = let (proposed, low, up, last) = (g.fits _ h).1 in (g.kept _ proposed, up, last)

  growth_promised : (i m : ℕ) (r : Bal) (v : Val) (a : ℕ) → Sent (phase1b i m r v a) → m ≤ (s'.a_state i a).mbal
  growth_promised i m r v a (inl h) = let low = inv.promised i m r v a h in let (up, later, sent) = g.moved i a in omega arith
  growth_promised i m r v a (inr h) = (g.fits _ h).1.0

  growth_one_report : (i m : ℕ) (r q : Bal) (v w : Val) (a : ℕ) → Sent (phase1b i m r v a) → Sent (phase1b i m q w a) → (r ≡ q) × (v ≡ w)
  growth_one_report i m r q v w a (inl h) (inl k) = inv.one_report i m r q v w a h k
  growth_one_report i m r q v w a (inl h) (inr k) = absurd ((g.fits _ k).1.3 r v h)
  growth_one_report i m r q v w a (inr h) (inl k) = absurd ((g.fits _ h).1.3 q w k)
  growth_one_report i m r q v w a (inr h) (inr k) = let e = g.single _ _ h k in (cc, cc)

  growth_reported : (i m : ℕ) (r : Bal) (v : Val) (a : ℕ) → Sent (phase1b i m r v a) → (c : ℕ) → r ≡ ballot c → s'.msgs (phase2b a i c v)
  growth_reported i m r v a (inl h) c e = g.kept _ ((inv.report i m r v a h).0 c e)
  growth_reported i m r v a (inr h) c e = g.kept _ ((g.fits _ h).1.1 c e)

  -- a new vote is not below a promise of its sender
  growth_report : (i m : ℕ) (r : Bal) (v : Val) (a c : ℕ) (w : Val) → Sent (phase1b i m r v a) → Sent (phase2b a i c w) → c < m → at_most (ballot c) r
  growth_report i m r v a c w (inl h) (inl k) l = (inv.report i m r v a h).1 c w k l
  growth_report i m r v a c w (inl h) (inr k) l =
      let low = inv.promised i m r v a h in
      let up = (g.fits _ k).1.1 in
      absurd (omega arith)
  growth_report i m r v a c w (inr h) (inl k) l = (g.fits _ h).1.2 c w k l
  growth_report i m r v a c w (inr h) (inr k) l = let e = g.single _ _ h k in let z : ◌≡◌ {A = ℕ} 0 1 = cc in absurd (omega arith)

  growth_safe : (i b c : ℕ) (v w : Val) (MS : ℕ → Bool) → Sent (phase2a i b v) → c < b → (w ≡ v → ⊥) → Majority MS
      → Blocked s.a_state s.msgs i c w MS
  growth_safe i b c v w MS (inl h) = inv.safe i b c v w MS h
  growth_safe i b c v w MS (inr h) = (g.fits _ h).1.2 c w MS

  -- an acceptor past a ballot casts no vote there
  growth_blocked : (i c : ℕ) (w : Val) (MS : ℕ → Bool) → Blocked s.a_state s.msgs i c w MS → Blocked s'.a_state s'.msgs i c w MS
  growth_blocked i c w MS (a, member, past, none) =
      let (up, later, sent) = g.moved i a in
      (a, member, omega arith, λ h. ⊎_elim none (λ k. let low = (g.fits (phase2b a i c w) k).1.1 in omega arith) (g.split _ h))

  growth_states : (i n : ℕ) → s'.rm_state i ≡ n → Grounds s.msgs i n → Grounds s'.msgs i n
  growth_states i zero e h = λ v k. ⊎_elim (h v) (λ l. (g.fits (phase2a i 0 v) l).1.3 refl e) (g.split _ k)
  growth_states i (suc zero) e h = g.kept _ h
  growth_states i (suc (suc zero)) e h = g.kept _ h
  growth_states i (suc (suc (suc zero))) e (inl h) = inl (g.kept _ h)
  growth_states i (suc (suc (suc zero))) e (inr h) = inr (g.kept _ h)
  growth_states i (suc (suc (suc (suc n)))) e h = h

  growth_commit : Sent Commit → (i : ℕ) → RM i → Decided RM Acceptor Majority s'.msgs i prepared
  growth_commit h i q = decided_kept RM Acceptor Majority _ _ g.kept i prepared (⊎_elim inv.decisions.0 (λ k. (g.fits Commit k).1) h i q)

  refused_kept : (i : ℕ) → Refused RM Acceptor Majority s.msgs i → Refused RM Acceptor Majority s'.msgs i
  refused_kept i = announced_kept RM Acceptor Majority _ _ g.kept i aborted

  growth_abort : Sent Abort → (i : ℕ) × RM i × Refused RM Acceptor Majority s'.msgs i
  growth_abort h = let (i, q, r) = ⊎_elim inv.decisions.1 (λ k. (g.fits Abort k).1) h in (i, q, refused_kept i r)

  pub inv_growth : Inv RM Acceptor Majority s'
  inv_growth =
      record {
        ranges = λ x h. ⊎_elim (inv.ranges x) (λ k. (g.fits x k).0) (g.split x h);
        one_value = λ i b v w h k. growth_one_value i b v w (g.split _ h) (g.split _ k);
        prepared_first = λ i b h. growth_prepared_first i b (g.split _ h) h;
        voted = λ a i b v h. growth_voted a i b v (g.split _ h);
        last_vote = λ i a b q k e. (g.moved i a).2 b q k e;
        promised = λ i m r v a h. growth_promised i m r v a (g.split _ h);
        one_report = λ i m r q v w a h k. growth_one_report i m r q v w a (g.split _ h) (g.split _ k);
        report = λ i m r v a h. (growth_reported i m r v a (g.split _ h), λ c w k. growth_report i m r v a c w (g.split _ h) (g.split _ k));
        safe = λ i b c v w MS h l d many. growth_blocked i c w MS (growth_safe i b c v w MS (g.split _ h) l d many);
        states = λ i q. ⊎_elim (λ e. growth_states i (s'.rm_state i) refl (rw e (inv.states i q))) (λ h. h) (g.states i q);
        decisions = (λ h. growth_commit (g.split _ h), λ h. growth_abort (g.split _ h));
      }

module _ {RM Acceptor : ℕ → Type 0} {Majority : (ℕ → Bool) → Type 0} {s : State} (inv : Inv RM Acceptor Majority s) where
  pub stays : (msgs : Message → Type 0) → ((x : Message) → s.msgs x → msgs x)
      → (i a : ℕ) → Moved RM Acceptor msgs i a (s.a_state i a) (s.a_state i a)
  stays msgs kept i a = (omega arith, at_most_refl (s.a_state i a).bal, λ b q k e. kept _ (inv.last_vote i a b q k e))

  module _ {s' : State} where
    pub inv_sends : (m : Message) → Send RM Acceptor Majority m s s' → IsMessage RM Acceptor Majority m → Fits RM Acceptor Majority s s' m
        → ((i a : ℕ) → Moved RM Acceptor s'.msgs i a (s.a_state i a) (s'.a_state i a)) → Grounded RM s s' → Inv RM Acceptor Majority s'
    inv_sends m sent ok fits moved states =
        inv_growth {new = λ x. x ≡ m} inv
        (record {
          kept = λ x h. (sent x).1 (inl h);
          split = λ x h. (sent x).0 h;
          single = λ x y d e. cc;
          fits = λ x e. rw e (ok, fits);
          moved = moved;
          states = states;
        })

    pub inv_says : (m : Message) → Send RM Acceptor Majority m s s' → s'.a_state ≡ s.a_state → IsMessage RM Acceptor Majority m
        → Fits RM Acceptor Majority s s' m → Grounded RM s s' → Inv RM Acceptor Majority s'
    inv_says m sent same ok fits states = inv_sends m sent ok fits (rw same (stays s'.msgs (λ x h. (sent x).1 (inl h)))) states

    pub inv_quiet : UnchangedMsgs RM Acceptor Majority s s' → s'.a_state ≡ s.a_state → Grounded RM s s' → Inv RM Acceptor Majority s'
    inv_quiet sent same states =
        inv_growth {new = λ x. ⊥} inv
        (record {
          kept = λ x. (sent x).1;
          split = λ x h. inl ((sent x).0 h);
          single = λ x y none. absurd none;
          fits = λ x none. absurd none;
          moved = rw same (stays s'.msgs (λ x. (sent x).1));
          states = states;
        })
