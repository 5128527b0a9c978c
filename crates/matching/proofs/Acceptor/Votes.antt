-- Q read and written: an acceptor's three bytes of an instance are one entry of a_state, and no other's.
--     index_bound, index_apart, within     the place of an instance's acceptor: within Q, and no other's
--     with_vote, with_mbal_lem             three bytes written; where bal and val stay, that is mbal alone
--     entry, entry_mbal                    an entry of aState, in the bytes of Q
--     report_range, report_is              the 1b that is sent is in range, and reports that entry's vote
--     written_state                        aState after three bytes were written: one entry changed
--     raised, cast                        as Phase1b and Phase2b write it
-- Assumes nothing.
use Rattle.std.specs.Prelude.{ℕ, suc, ◌+◌, ◌*◌, ◌≤◌, ◌<◌, Bool, ◌&&◌, ◌||◌, cond, List, ◌≡◌, ltb, leb, eqb, length, get_or, set, None}
use Rattle.std.proofs.Math.Bool.{true, false}
use Rattle.std.proofs.lemmas.Bool.{false≢true}
use Rattle.std.proofs.Math.Path.{refl, fun_ext}
use Rattle.std.proofs.Common.{sym, ◌∙◌, ap, mul-le-mul_right, suc-mul, length-set, get_or-set_same, get_or-set_other}
use Rattle.std.proofs.Math.Decide.{dec_lt}
use native.Mathlib.Omega.{arith}
use Rattle.std.proofs.lemmas.List.{set-get_or}
use borrow.Author.Tests.{lt-ltb, ltb-true, ltb-false, eq-eqb, ne_eqb, eqb-true, eqb-false, le-leb, leb-true}
use Rattle.message.specs.declared.Plan.{Plan}
use Rattle.message.proofs.Outcome.Laws.{both}
use Rattle.message.specs.Form.{is_value, is_vote, is_in_range, cast_vote}
use Rattle.paxos_commit.specs.PaxosCommit as Source
use Rattle.paxos_commit.specs.PaxosCommit.{Val, AState, initial, except₂}
use Rattle.votes.specs.Votes.{is_vote_state, are_votes}
use Rattle.acceptor.specs.Acceptor.{vote_at, vote_of}
use Rattle.votes.specs.Votes.Laws.{are_votes_at}
use Rattle.matching.specs.Reading.{val_of, bal_of, vote_val_of, message_of, vote_state_of, a_state_of}
use Rattle.matching.specs.Acceptor.{report_of}

index_bound : (i a n A : ℕ) → i < n → a < A → i * A + a < n * A
index_bound i a n A h k =
    let m : suc i * A ≤ n * A = mul-le-mul_right A h in
    omega (arith, suc-mul i A)

index_before : (i j a c A : ℕ) → a < A → i < j → i * A + a < j * A + c
index_before i j a c A k h =
    let m : suc i * A ≤ j * A = mul-le-mul_right A h in
    omega (arith, suc-mul i A)

index_apart : (i j a c A : ℕ) → a < A → c < A → (eqb i j && eqb a c) ≡ false → i * A + a ≡ j * A + c → ⊥
index_apart i j a c A k l n e = elim (dec_lt i j) [
  | yes h ↦ omega (arith, index_before i j a c A k h)
  | no h ↦ elim (dec_lt j i) [
    | yes g ↦ omega (arith, index_before j i c a A l g)
    | no g ↦ same (omega arith)
  ]
]
  where
    same : i ≡ j → ⊥
    same q =
        let r : i * A ≡ j * A = ap (λ (x : ℕ). x * A) q in
        let s : a ≡ c = omega arith in
        false≢true (sym n ∙ rw (eq-eqb i j q, eq-eqb a c s))

-- three bytes written, and read
abbrev pub with_vote : List ℕ → ℕ → ℕ → ℕ → ℕ → List ℕ
with_vote l at mbal bal val = set (set (set l at mbal) (at + 1) bal) (at + 2) val

pub length_with_vote : (l : List ℕ) (at x y z : ℕ) → length (with_vote l at x y z) ≡ length l
length_with_vote l at x y z = simp length-set

module _ (l : List ℕ) (at x y z : ℕ) where
  vote_other : (k : ℕ) → (k ≡ at → ⊥) → (k ≡ at + 1 → ⊥) → (k ≡ at + 2 → ⊥) → get_or (with_vote l at x y z) k 0 ≡ get_or l k 0
  vote_other k n0 n1 n2 =
      get_or-set_other (set (set l at x) (at + 1) y) (at + 2) k z 0 n2
      ∙ get_or-set_other (set l at x) (at + 1) k y 0 n1
      ∙ get_or-set_other l at k x 0 n0

  module _ (h : at + 2 < length l) where
    vote_first : get_or (with_vote l at x y z) at 0 ≡ x
    vote_first =
        get_or-set_other (set (set l at x) (at + 1) y) (at + 2) at z 0 (λ e. omega arith)
        ∙ get_or-set_other (set l at x) (at + 1) at y 0 (λ e. omega arith)
        ∙ get_or-set_same l at x 0 (omega arith)

    vote_second : get_or (with_vote l at x y z) (at + 1) 0 ≡ y
    vote_second =
        get_or-set_other (set (set l at x) (at + 1) y) (at + 2) (at + 1) z 0 (λ e. omega arith)
        ∙ get_or-set_same (set l at x) (at + 1) y 0 (rw (length-set l at x) (omega arith))

    vote_third : get_or (with_vote l at x y z) (at + 2) 0 ≡ z
    vote_third = get_or-set_same (set (set l at x) (at + 1) y) (at + 2) z 0 (rw (length-set (set l at x) (at + 1) y, length-set l at x) h)

-- bal and val as they were
pub with_mbal_lem : (l : List ℕ) (at x : ℕ) → with_vote l at x (get_or l (at + 1) 0) (get_or l (at + 2) 0) ≡ set l at x
with_mbal_lem l at x =
    let bal : get_or l (at + 1) 0 ≡ get_or (set l at x) (at + 1) 0 = sym (get_or-set_other l at (at + 1) x 0 (λ e. omega arith)) in
    let val : get_or l (at + 2) 0 ≡ get_or (set l at x) (at + 2) 0 = sym (get_or-set_other l at (at + 2) x 0 (λ e. omega arith)) in
    rw (bal, set-get_or (set l at x) (at + 1) 0, val, set-get_or (set l at x) (at + 2) 0)

-- a vote report of Q is in range, and is read as Q's two fields
vote_range : (bal val : ℕ) → is_vote_state bal val ≡ true → is_vote (vote_of bal val) ≡ true
unfolding is_vote_state vote_of is_vote is_value
vote_range bal val h = go (eqb val 0) refl
  where
    go : (t : Bool) → eqb val 0 ≡ t → is_vote (cond t None (cast_vote bal val)) ≡ true
    go true e = refl
    go false e =
        let b = both (leb val 2) (leb 1 val || eqb bal 0) h in
        rw (le-leb 1 val (omega (arith, eqb-false val 0 e)), b.0)

-- a value is a vote's
pub value_state : (bal val : ℕ) → is_value val ≡ true → is_vote_state bal val ≡ true
unfolding is_vote_state is_value
value_state bal val h = let b = both (leb 1 val) (leb val 2) h in rw (b.0, b.1)

-- an entry of a_state, given whether the vote's value is 0
abbrev entry_of : Bool → ℕ → ℕ → ℕ → AState
entry_of t mbal bal val =
    cond t (record { mbal = mbal; bal = Source.minus_one; val = Source.none }) (record { mbal = mbal; bal = Source.ballot bal; val = val_of val })

-- the entry with another mbal
abbrev with_mbal : ℕ → AState → AState
with_mbal mbal a = record { mbal = mbal; bal = a.bal; val = a.val }

-- a vote at a ballot
abbrev voted : ℕ → Val → AState
voted ballot val = record { mbal = ballot; bal = Source.ballot ballot; val = val }

module _ (mbal bal val : ℕ) where
  vote_bal : bal_of (vote_of bal val) ≡ (vote_state_of mbal bal val).bal
  unfolding vote_of
  vote_bal = go (eqb val 0)
    where
      go : (t : Bool) → bal_of (cond t None (cast_vote bal val)) ≡ (entry_of t mbal bal val).bal
      go true = refl
      go false = refl

  vote_val : vote_val_of (vote_of bal val) ≡ (vote_state_of mbal bal val).val
  unfolding vote_of
  vote_val = go (eqb val 0)
    where
      go : (t : Bool) → vote_val_of (cond t None (cast_vote bal val)) ≡ (entry_of t mbal bal val).val
      go true = refl
      go false = refl

  state_mbal : (vote_state_of mbal bal val).mbal ≡ mbal
  state_mbal = go (eqb val 0)
    where
      go : (t : Bool) → (entry_of t mbal bal val).mbal ≡ mbal
      go true = refl
      go false = refl

  state_raised : (ballot : ℕ) → vote_state_of ballot bal val ≡ with_mbal ballot (vote_state_of mbal bal val)
  state_raised ballot = go (eqb val 0)
    where
      go : (t : Bool) → entry_of t ballot bal val ≡ with_mbal ballot (entry_of t mbal bal val)
      go true = refl
      go false = refl

state_voted : (ballot val : ℕ) → is_value val ≡ true → vote_state_of ballot ballot val ≡ voted ballot (val_of val)
unfolding is_value
state_voted ballot val h = rw (ne_eqb val 0 (λ z. let l = leb-true 1 val (both (leb 1 val) (leb val 2) h).0 in omega arith))

module _ (p : Plan) (votes : List ℕ) (ins acc : ℕ) (hi : ins < p.rms) (ha : acc < p.acceptors) where
  abbrev at : ℕ
  at = vote_at p ins acc

  abbrev own : AState
  own = a_state_of p votes ins acc

  entry : own ≡ vote_state_of (get_or votes at 0) (get_or votes (at + 1) 0) (get_or votes (at + 2) 0)
  entry = rw (lt-ltb ins p.rms hi, lt-ltb acc p.acceptors ha)

  pub entry_mbal : own.mbal ≡ get_or votes at 0
  entry_mbal = ap (λ (a : AState). a.mbal) entry ∙ state_mbal (get_or votes at 0) (get_or votes (at + 1) 0) (get_or votes (at + 2) 0)

  pub report_is : (bal : ℕ) → message_of (report_of p votes acc ins bal) ≡ Source.phase1b ins bal own.bal own.val acc
  report_is bal i = Source.phase1b ins bal (bal_is i) (val_is i) acc
    where
      bal_is : bal_of (vote_of (get_or votes (at + 1) 0) (get_or votes (at + 2) 0)) ≡ own.bal
      bal_is = vote_bal (get_or votes at 0) (get_or votes (at + 1) 0) (get_or votes (at + 2) 0) ∙ sym (ap (λ (a : AState). a.bal) entry)

      val_is : vote_val_of (vote_of (get_or votes (at + 1) 0) (get_or votes (at + 2) 0)) ≡ own.val
      val_is = vote_val (get_or votes at 0) (get_or votes (at + 1) 0) (get_or votes (at + 2) 0) ∙ sym (ap (λ (a : AState). a.val) entry)

  module _ (long : length votes ≡ 3 * (p.rms * p.acceptors)) where
    within : at + 2 < length votes
    unfolding vote_at
    within = let b = index_bound ins acc p.rms p.acceptors hi ha in omega arith

    pub kept_state : are_votes votes ≡ true → is_vote_state (get_or votes (at + 1) 0) (get_or votes (at + 2) 0) ≡ true
    unfolding vote_at
    kept_state known = are_votes_at votes known (ins * p.acceptors + acc) within

    pub report_range : are_votes votes ≡ true → (bal : ℕ) → is_in_range p (report_of p votes acc ins bal) ≡ true
    unfolding is_in_range
    report_range known bal = rw (lt-ltb ins p.rms hi, lt-ltb acc p.acceptors ha) (vote_range _ _ (kept_state known))

    -- Q with the three bytes written is a_state with the entry changed
    module _ (mbal bal val : ℕ) where
      abbrev read : List ℕ → ℕ → AState
      read q k = vote_state_of (get_or q k 0) (get_or q (k + 1) 0) (get_or q (k + 2) 0)

      abbrev written : List ℕ
      written = with_vote votes at mbal bal val

      written_there : read written at ≡ vote_state_of mbal bal val
      written_there = rw (vote_first votes at mbal bal val within, vote_second votes at mbal bal val within, vote_third votes at mbal bal val within)

      written_elsewhere : (i a : ℕ) → a < p.acceptors → (eqb i ins && eqb a acc) ≡ false → read written (vote_at p i a) ≡ read votes (vote_at p i a)
      unfolding vote_at
      written_elsewhere i a l u =
          let n : i * p.acceptors + a ≡ ins * p.acceptors + acc → ⊥ = index_apart i ins a acc p.acceptors l ha u in
          rw (
            vote_other votes at mbal bal val (vote_at p i a) (λ e. n (omega arith)) (λ e. omega arith) (λ e. omega arith),
            vote_other votes at mbal bal val (vote_at p i a + 1) (λ e. omega arith) (λ e. n (omega arith)) (λ e. omega arith),
            vote_other votes at mbal bal val (vote_at p i a + 2) (λ e. omega arith) (λ e. omega arith) (λ e. n (omega arith)),
          )

      written_state : a_state_of p written ≡ except₂ (a_state_of p votes) ins acc (vote_state_of mbal bal val)
      written_state =
          fun_ext (λ (i : ℕ). fun_ext (λ (a : ℕ). go i a (ltb i p.rms) refl (ltb a p.acceptors) refl (eqb i ins && eqb a acc) refl))
        where
          go : (i a : ℕ) (s : Bool) → ltb i p.rms ≡ s → (t : Bool) → ltb a p.acceptors ≡ t → (u : Bool) → (eqb i ins && eqb a acc) ≡ u
              → cond (s && t) (read written (vote_at p i a)) initial
              ≡ cond u (vote_state_of mbal bal val) (cond (s && t) (read votes (vote_at p i a)) initial)
          go i a true s true t true u = let b = both (eqb i ins) (eqb a acc) u in rw (eqb-true i ins b.0, eqb-true a acc b.1) written_there
          go i a true s true t false u = written_elsewhere i a (ltb-true a p.acceptors t) u
          go i a false s t f true u =
              absurd (let b = both (eqb i ins) (eqb a acc) u in let l = ltb-false i p.rms s in let q = eqb-true i ins b.0 in omega arith)
          go i a false s t f false u = refl
          go i a true s false t true u =
              absurd (let b = both (eqb i ins) (eqb a acc) u in let l = ltb-false a p.acceptors t in let q = eqb-true a acc b.1 in omega arith)
          go i a true s false t false u = refl

    -- Phase1b's entry: mbal becomes the ballot, the vote stays
    pub raised : (bal : ℕ) → a_state_of p (set votes at bal) ≡ except₂ (a_state_of p votes) ins acc (with_mbal bal own)
    raised bal =
        ap (a_state_of p) (sym (with_mbal_lem votes at bal))
        ∙ written_state bal (get_or votes (at + 1) 0) (get_or votes (at + 2) 0)
        ∙ ap (except₂ (a_state_of p votes) ins acc)
        (state_raised (get_or votes at 0) (get_or votes (at + 1) 0) (get_or votes (at + 2) 0) bal ∙ ap (with_mbal bal) (sym entry))

    -- Phase2b's entry: mbal, bal and val become the message's
    pub cast : (bal val : ℕ) → is_value val ≡ true
        → a_state_of p (with_vote votes at bal bal val) ≡ except₂ (a_state_of p votes) ins acc (voted bal (val_of val))
    cast bal val value = written_state bal bal val ∙ ap (except₂ (a_state_of p votes) ins acc) (state_voted bal val value)
