-- The leader's conditions are the source's, read from the set of messages in the inbox.
--     in_range_lem                     a message of a judged inbox is in range
--     apart, decision_apart, value_known     messages of different types differ; a value is known by what it is read as
--     phase2a_seen, seen_phase2a       a 2a of (i, b)
--     reported_seen, seen_reported     a 1b of (i, b) from an acceptor
--     voted_seen, seen_voted           a 2b of (i, b, v) from an acceptor
--     among, quorum_majority, majority_quorum, majority_some     a test that a majority passes
--     decided_Decided, Decided-decided Decided(i, v)
-- Assumes nothing.
use Prim.Native.Nat.{ℕ, zero, suc, ◌+◌, ◌≤◌, ◌<◌, zero-le, suc-le-suc}
use Rattle.std.specs.Prelude.{Bool, false, ◌&&◌, cond, ◌≡◌, refl, ltb, leb, eqb, Option}
use Rattle.std.proofs.Math.Bool.{true}
use Rattle.std.proofs.lemmas.Bool.{false≢true}
use mathlib.Core.List.{List, [], ◌∷◌, Memᴰ}
use Rattle.std.proofs.Common.{sym, ◌∙◌, ap, ap₂, subst, arith}
use borrow.Author.Tests.{lt-ltb, eq-eqb, ltb-true, eqb-true, eqb-false, leb-true}
use Rattle.message.specs.declared.Plan.{Plan}
use Rattle.message.specs.declared.Vote.{Vote}
use Rattle.message.specs.declared.Message.{Message}
use Rattle.message.specs.declared.Message.TheVariants.{Phase1a, Phase1b, Phase2a, Phase2b, Decision}
use Rattle.message.proofs.Outcome.Laws.{both}
use Rattle.message.specs.Form.{is_value, is_in_range}
use Rattle.slots.proofs.Table.Holds.{all_in_range}
use Rattle.quorum.specs.Quorum.{count_acceptors, is_majority, is_quorum}
use Rattle.quorum.proofs.Quorum.Laws.{quorum_some}
use Rattle.inbox.specs.Inbox.Members.{any_member, member_any}
use Rattle.inbox.specs.Inbox.{any, is1b, is2a, is2b, chosen, is_chosen2b, decided}
use Rattle.paxos_commit.specs.PaxosCommit as Source
use Rattle.matching.specs.Reading.{is_majority_set, val_of, bal_of, vote_val_of, message_of, set_of}
use Rattle.matching.specs.Leader.{DecidedIn}

pub in_range_lem : (p : Plan) (ms : List Message) (m : Message) → all_in_range p ms ≡ true → Memᴰ m ms → is_in_range p m ≡ true
unfolding all_in_range
in_range_lem p [] m h absent = elim absent [ ]
in_range_lem p (x ∷ ms) m h (Memᴰ.head e) = ap (is_in_range p) e ∙ (both (is_in_range p x) (all_in_range p ms) h).0
in_range_lem p (x ∷ ms) m h (Memᴰ.tail d) = in_range_lem p ms m (both (is_in_range p x) (all_in_range p ms) h).1 d

-- two tests at once
pub and_true : (s t : Bool) → s ≡ true → t ≡ true → (s && t) ≡ true
and_true s t h k = rw (h, k)

-- messages of different types differ
abbrev tag : Source.Message → ℕ
tag (Source.phase1a ins bal) = 0
tag (Source.phase1b ins mbal bal val acc) = 1
tag (Source.phase2a ins bal val) = 2
tag (Source.phase2b acc ins bal val) = 3
tag Source.Commit = 4
tag Source.Abort = 4

decision_tag : (val : ℕ) → tag (message_of (Decision val)) ≡ 4
decision_tag val = go (eqb val 1)
  where
    go : (t : Bool) → tag (cond t Source.Commit Source.Abort) ≡ 4
    go true = refl
    go false = refl

pub apart : (x y : Source.Message) → x ≡ y → (tag x ≡ tag y → ⊥) → {A : Type 0} → A
apart x y e n = absurd (n (ap tag e))

pub decision_apart : (val : ℕ) (y : Source.Message) → message_of (Decision val) ≡ y → (4 ≡ tag y → ⊥) → {A : Type 0} → A
decision_apart val y e n = absurd (n (sym (decision_tag val) ∙ ap tag e))

-- the members that are read as a 2a, a 1b or a 2b
is2a_of : (m : Message) (i b : ℕ) (v : Source.Val) → message_of m ≡ Source.phase2a i b v → is2a i b m ≡ true
unfolding is2a
is2a_of (Phase1a ins bal) i b v e = apart _ _ e (λ z. omega arith)
is2a_of (Phase1b ins acc mbal vote) i b v e = apart _ _ e (λ z. omega arith)
is2a_of (Phase2a ins bal val) i b v e =
    let j : ins ≡ i = cc in let k : bal ≡ b = cc in and_true (eqb ins i) (eqb bal b) (eq-eqb ins i j) (eq-eqb bal b k)
is2a_of (Phase2b ins acc bal val) i b v e = apart _ _ e (λ z. omega arith)
is2a_of (Decision val) i b v e = decision_apart val _ e (λ z. omega arith)

of_is2a : (m : Message) (i b : ℕ) → is2a i b m ≡ true → (v : Source.Val) × (message_of m ≡ Source.phase2a i b v)
unfolding is2a
of_is2a (Phase1a ins bal) i b h = absurd (false≢true h)
of_is2a (Phase1b ins acc mbal vote) i b h = absurd (false≢true h)
of_is2a (Phase2a ins bal val) i b h =
    let t = both (eqb ins i) (eqb bal b) h in
    (val_of val, ap₂ (λ (x y : ℕ). Source.phase2a x y (val_of val)) (eqb-true ins i t.0) (eqb-true bal b t.1))
of_is2a (Phase2b ins acc bal val) i b h = absurd (false≢true h)
of_is2a (Decision val) i b h = absurd (false≢true h)

pub is1b_of : (m : Message) (i b a : ℕ) (bal : Source.Bal) (v : Source.Val) → message_of m ≡ Source.phase1b i b bal v a → is1b i b a m ≡ true
unfolding is1b
is1b_of (Phase1a ins bal) i b a c v e = apart _ _ e (λ z. omega arith)
is1b_of (Phase1b ins acc mbal vote) i b a c v e =
    let j : ins ≡ i = cc in let k : mbal ≡ b = cc in let l : acc ≡ a = cc in
    and_true (eqb ins i) _ (eq-eqb ins i j) (and_true (eqb mbal b) (eqb acc a) (eq-eqb mbal b k) (eq-eqb acc a l))
is1b_of (Phase2a ins bal val) i b a c v e = apart _ _ e (λ z. omega arith)
is1b_of (Phase2b ins acc bal val) i b a c v e = apart _ _ e (λ z. omega arith)
is1b_of (Decision val) i b a c v e = decision_apart val _ e (λ z. omega arith)

pub of_is1b : (m : Message) (i b a : ℕ) → is1b i b a m ≡ true → (vote : Option Vote) × (m ≡ Phase1b i a b vote)
unfolding is1b
of_is1b (Phase1a ins bal) i b a h = absurd (false≢true h)
of_is1b (Phase1b ins acc mbal vote) i b a h =
    let t = both (eqb ins i) (eqb mbal b && eqb acc a) h in
    let u = both (eqb mbal b) (eqb acc a) t.1 in
    let j = eqb-true ins i t.0 in let k = eqb-true mbal b u.0 in let l = eqb-true acc a u.1 in
    (vote, λ z. Phase1b (j z) (l z) (k z) vote)
of_is1b (Phase2a ins bal val) i b a h = absurd (false≢true h)
of_is1b (Phase2b ins acc bal val) i b a h = absurd (false≢true h)
of_is1b (Decision val) i b a h = absurd (false≢true h)

-- a value in range is 1 or 2, so it is known by what it is read as
pub value_known : (v w : ℕ) → is_value v ≡ true → is_value w ≡ true → val_of v ≡ val_of w → v ≡ w
unfolding is_value
value_known v w h k e = go (eqb v 1) refl (eqb w 1) refl e
  where
    bounds : (u : ℕ) → (leb 1 u && leb u 2) ≡ true → (1 ≤ u) × (u ≤ 2)
    bounds u h = let t = both (leb 1 u) (leb u 2) h in (leb-true 1 u t.0, leb-true u 2 t.1)

    go : (s : Bool) → eqb v 1 ≡ s → (t : Bool) → eqb w 1 ≡ t
        → cond s Source.prepared Source.aborted ≡ cond t Source.prepared Source.aborted → v ≡ w
    go true s true t e = eqb-true v 1 s ∙ sym (eqb-true w 1 t)
    go true s false t e = absurd (let z : ◌≡◌ {A = ℕ} 0 1 = cc in omega arith)
    go false s true t e = absurd (let z : ◌≡◌ {A = ℕ} 0 1 = cc in omega arith)
    go false s false t e = let a = bounds v h in let b = bounds w k in omega (arith, eqb-false v 1 s, eqb-false w 1 t)

is2b_of : (p : Plan) (m : Message) (i b v a : ℕ) → is_in_range p m ≡ true → is_value v ≡ true
    → message_of m ≡ Source.phase2b a i b (val_of v) → m ≡ Phase2b i a b v
unfolding is_in_range
is2b_of p (Phase1a ins bal) i b v a r h e = apart _ _ e (λ z. omega arith)
is2b_of p (Phase1b ins acc mbal vote) i b v a r h e = apart _ _ e (λ z. omega arith)
is2b_of p (Phase2a ins bal val) i b v a r h e = apart _ _ e (λ z. omega arith)
is2b_of p (Phase2b ins acc bal val) i b v a r h e =
    let j : ins ≡ i = cc in let k : bal ≡ b = cc in let l : acc ≡ a = cc in
    let o : val_of val ≡ val_of v = cc in
    let n : val ≡ v = value_known val v (both (ltb ins p.rms && ltb acc p.acceptors) (is_value val) r).1 h o in
    λ z. Phase2b (j z) (l z) (k z) (n z)
is2b_of p (Decision val) i b v a r h e = decision_apart val _ e (λ z. omega arith)

of_is2b : (m : Message) (i b v a : ℕ) → is2b i b v a m ≡ true → m ≡ Phase2b i a b v
unfolding is2b
of_is2b (Phase1a ins bal) i b v a h = absurd (false≢true h)
of_is2b (Phase1b ins acc mbal vote) i b v a h = absurd (false≢true h)
of_is2b (Phase2a ins bal val) i b v a h = absurd (false≢true h)
of_is2b (Phase2b ins acc bal val) i b v a h =
    let t = both (eqb ins i) (eqb bal b && (eqb val v && eqb acc a)) h in
    let u = both (eqb bal b) (eqb val v && eqb acc a) t.1 in
    let w = both (eqb val v) (eqb acc a) u.1 in
    let j = eqb-true ins i t.0 in let k = eqb-true bal b u.0 in let n = eqb-true val v w.0 in let l = eqb-true acc a w.1 in
    λ z. Phase2b (j z) (l z) (k z) (n z)
of_is2b (Decision val) i b v a h = absurd (false≢true h)

is2b_self : (i b v a : ℕ) → is2b i b v a (Phase2b i a b v) ≡ true
unfolding is2b
is2b_self i b v a = rw (eq-eqb i i refl, eq-eqb b b refl, eq-eqb v v refl, eq-eqb a a refl)

-- some 2a of (i, b), some 1b of (i, b) from a, the 2b of (i, b, v) from a: in the inbox and in its set
module _ (ms : List Message) (i b : ℕ) where
  pub phase2a_seen : any (is2a i b) ms ≡ true → (v : Source.Val) × set_of ms (Source.phase2a i b v)
  phase2a_seen h = let m = any_member (is2a i b) ms h in let v = of_is2a m.0 i b m.2 in (v.0, (m.0, m.1, v.1))

  pub seen_phase2a : (v : Source.Val) → set_of ms (Source.phase2a i b v) → any (is2a i b) ms ≡ true
  seen_phase2a v s = member_any (is2a i b) ms s.0 s.1 (is2a_of s.0 i b v s.2)

  pub reported_seen : (a : ℕ) → any (is1b i b a) ms ≡ true → (vote : Option Vote) × set_of ms (Source.phase1b i b (bal_of vote) (vote_val_of vote) a)
  reported_seen a h =
      let m = any_member (is1b i b a) ms h in let v = of_is1b m.0 i b a m.2 in (v.0, (m.0, m.1, ap message_of v.1))

  pub seen_reported : (a : ℕ) (c : Source.Bal) (v : Source.Val) → set_of ms (Source.phase1b i b c v a) → any (is1b i b a) ms ≡ true
  seen_reported a c v s = member_any (is1b i b a) ms s.0 s.1 (is1b_of s.0 i b a c v s.2)

  voted_seen : (v a : ℕ) → any (is2b i b v a) ms ≡ true → set_of ms (Source.phase2b a i b (val_of v))
  voted_seen v a h = let m = any_member (is2b i b v a) ms h in (m.0, m.1, ap message_of (of_is2b m.0 i b v a m.2))

  module _ (p : Plan) (r : all_in_range p ms ≡ true) (v : ℕ) (h : is_value v ≡ true) where
    member_2b : (a : ℕ) → set_of ms (Source.phase2b a i b (val_of v)) → Memᴰ (Phase2b i a b v) ms
    member_2b a s =
        subst (λ (m : Message). Memᴰ m ms) (is2b_of p s.0 i b v a (in_range_lem p ms s.0 r s.1) h s.2) s.1

    seen_voted : (a : ℕ) → set_of ms (Source.phase2b a i b (val_of v)) → any (is2b i b v a) ms ≡ true
    seen_voted a s = member_any (is2b i b v a) ms _ (member_2b a s) (is2b_self i b v a)

-- more pass a weaker test
count_mono : (n : ℕ) (f g : ℕ → Bool) → ((a : ℕ) → a < n → f a ≡ true → g a ≡ true) → count_acceptors n f ≤ count_acceptors n g
unfolding count_acceptors
count_mono zero f g h = zero-le
count_mono (suc n) f g h =
    go (f 0) refl (g 0) refl (count_mono n (λ a. f (suc a)) (λ a. g (suc a)) (λ a k. h (suc a) (suc-le-suc k)))
  where
    go : (s : Bool) → f 0 ≡ s → (t : Bool) → g 0 ≡ t → {x y : ℕ} → x ≤ y → cond s 1 0 + x ≤ cond t 1 0 + y
    go true s true t k = omega arith
    go true s false t k = absurd (false≢true (sym t ∙ h 0 (suc-le-suc zero-le) s))
    go false s true t k = omega arith
    go false s false t k = omega arith

-- the acceptors of the plan that pass a test, as a set
abbrev pub among : Plan → (ℕ → Bool) → ℕ → Bool
among p test a = ltb a p.acceptors && test a

pub quorum_majority : (p : Plan) (test : ℕ → Bool) → is_quorum p.acceptors test ≡ true → is_majority_set p (among p test)
unfolding is_quorum is_majority
quorum_majority p test h =
    let c = count_mono p.acceptors test (among p test) (λ a k t. and_true (ltb a p.acceptors) (test a) (lt-ltb a p.acceptors k) t) in
    let k = ltb-true p.acceptors _ h in
    ((λ ac m. ltb-true ac p.acceptors (both (ltb ac p.acceptors) (test ac) m).0), lt-ltb p.acceptors _ (omega arith))

module _ (p : Plan) (MS : ℕ → Bool) (m : is_majority_set p MS) where
  pub majority_quorum : (test : ℕ → Bool) → ((a : ℕ) → MS a ≡ true → test a ≡ true) → is_quorum p.acceptors test ≡ true
  unfolding is_quorum is_majority
  majority_quorum test h =
      let c = count_mono p.acceptors MS test (λ a k t. h a t) in
      let k = ltb-true p.acceptors _ m.1 in
      lt-ltb p.acceptors _ (omega arith)

  pub majority_some : (a : ℕ) × (MS a ≡ true)
  majority_some = let r = quorum_some p.acceptors MS m.1 in (r.0, r.2)

module _ (p : Plan) (ms : List Message) where
  abbrev Decided : ℕ → Source.Val → Type 0
  Decided = DecidedIn p (set_of ms)

  of_chosen : (i v : ℕ) (m : Message) → is_chosen2b p ms i v m ≡ true → (b : ℕ) × (chosen p ms i b v ≡ true)
  unfolding is_chosen2b
  of_chosen i v (Phase1a ins bal) h = absurd (false≢true h)
  of_chosen i v (Phase1b ins acc mbal vote) h = absurd (false≢true h)
  of_chosen i v (Phase2a ins bal val) h = absurd (false≢true h)
  of_chosen i v (Phase2b ins acc bal val) h = (bal, (both (eqb val v) (chosen p ms i bal v) (both (eqb ins i) _ h).1).1)
  of_chosen i v (Decision val) h = absurd (false≢true h)

  pub decided_Decided : (i v : ℕ) → decided p ms i v ≡ true → Decided i (val_of v)
  unfolding decided chosen
  decided_Decided i v h =
      let m = any_member (is_chosen2b p ms i v) ms h in
      let b = of_chosen i v m.0 m.2 in (
        b.0,
        among p (λ a. any (is2b i b.0 v a) ms),
        quorum_majority p _ b.1,
        λ ac t. voted_seen ms i b.0 v ac (both (ltb ac p.acceptors) _ t).1,
      )

  pub Decided-decided : all_in_range p ms ≡ true → (i v : ℕ) → is_value v ≡ true → Decided i (val_of v) → decided p ms i v ≡ true
  unfolding decided chosen is_chosen2b
  Decided-decided r i v h d =
      let b : ℕ = d.0 in
      let a = majority_some p d.1 d.2 in
      let q : chosen p ms i b v ≡ true = majority_quorum p d.1 d.2 _ (λ ac t. seen_voted ms i b p r v h ac (d.3 ac t)) in
      member_any (is_chosen2b p ms i v) ms (Phase2b i a.0 b v) (member_2b ms i b p r v h a.0 (d.3 a.0 a.1))
      (and_true (eqb i i) _ (eq-eqb i i refl) (and_true (eqb v v) _ (eq-eqb v v refl) q))
