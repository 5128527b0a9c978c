-- The highest report in the inbox, and the value that Phase2a proposes.
--     highest_first, highest_none         of several highest reports the first; none where no vote is reported
--     proposed_value, proposal_value      the proposal is the source's, and a value
-- Assumes nothing.
use Rattle.std.specs.Prelude.{ℕ, ◌<◌, ◌≤◌, Bool, ◌&&◌, ◌⊎◌, None, Option, Some}
use Rattle.std.proofs.Math.Bool.{true, false, cond}
use mathlib.Core.List.{List, [], ◌∷◌, ◌++◌, Memᴰ}
use Rattle.std.proofs.Math.Logic.{inl, inr}
use Rattle.std.proofs.Math.Path.{◌≡◌, refl, ap, subst}
use Rattle.std.proofs.Common.{sym, ◌∙◌, arith, le_refl, le_trans}
use Rattle.std.proofs.Math.Dec.{ltb, eqb}
use borrow.Author.Tests.{eq-eqb, ltb-true, ltb-false, lt-ltb, le-ltb, eqb-true}
use Rattle.message.specs.declared.Plan.{Plan}
use Rattle.message.specs.declared.Vote.{Vote}
use Rattle.message.specs.declared.Message.{Message}
use Rattle.message.specs.declared.Message.TheVariants.{Phase1a, Phase1b, Phase2a, Phase2b, Decision}
use Rattle.message.proofs.Outcome.Laws.{both}
use Rattle.message.specs.Form.{is_value, is_vote, is_in_range, cast_vote}
use Rattle.slots.proofs.Table.Holds.{all_in_range}
use Rattle.quorum.specs.Quorum.{is_quorum}
use Rattle.inbox.specs.Inbox.{any, is1b, higher, report_of, highest_report, proposal}
use Rattle.paxos_commit.specs.PaxosCommit as Source
use Rattle.matching.specs.Reading.{is_rm, is_acceptor, is_majority_set, val_of, bal_of, vote_val_of, message_of, set_of}
use Rattle.matching.specs.Leader.{Reports}
use Rattle.matching.proofs.Leader.Conditions.{in_range_lem, and_true, is1b_of, of_is1b, reported_seen, seen_reported}
use Rattle.matching.proofs.Leader.Conditions.{among, quorum_majority, majority_some}

-- a member that is read as a 1b is that 1b
read_1b : (m : Message) (i b a : ℕ) (c : Source.Bal) (v : Source.Val) → message_of m ≡ Source.phase1b i b c v a
    → (vote : Option Vote) × (m ≡ Phase1b i a b vote) × (bal_of vote ≡ c)
read_1b m i b a c v e =
    let w = of_is1b m i b a (is1b_of m i b a c v e) in
    let f : message_of (Phase1b i a b w.0) ≡ Source.phase1b i b c v a = ap message_of (sym w.1) ∙ e in
    (w.0, w.1, cc)

-- the order of reports
at_most_refl : (c : Source.Bal) → Source.at_most c c
at_most_refl Source.minus_one = tt
at_most_refl (Source.ballot b) = le_refl b

at_most_trans : (a b c : Source.Bal) → Source.at_most a b → Source.at_most b c → Source.at_most a c
at_most_trans Source.minus_one b c h k = tt
at_most_trans (Source.ballot a) Source.minus_one c h k = absurd h
at_most_trans (Source.ballot a) (Source.ballot b) Source.minus_one h k = absurd k
at_most_trans (Source.ballot a) (Source.ballot b) (Source.ballot c) h k = le_trans h k

-- the higher of two reports is one of them, and neither is above it
record Higher (u w r : Option Vote) : Type 0 where
  one : (r ≡ u) ⊎ (r ≡ w)
  first : Source.at_most (bal_of u) (bal_of r)
  second : Source.at_most (bal_of w) (bal_of r)

higher_is : (u w : Option Vote) → Higher u w (higher u w)
unfolding higher
higher_is None w = record { one = inr refl; first = tt; second = at_most_refl (bal_of w) }
higher_is (Some u) None = record { one = inl refl; first = le_refl u.bal; second = tt }
higher_is (Some u) (Some w) = go (ltb u.bal w.bal) refl
  where
    go : (t : Bool) → ltb u.bal w.bal ≡ t → Higher (Some u) (Some w) (cond t (Some w) (Some u))
    go true e = record { one = inr refl; first = let l = ltb-true u.bal w.bal e in omega arith; second = le_refl w.bal }
    go false e = record { one = inl refl; first = le_refl u.bal; second = ltb-false u.bal w.bal e }

-- which of the two it is
module _ (w : Option Vote) (c v : ℕ) where
  higher_keeps : ((d u : ℕ) → w ≡ cast_vote d u → d ≤ c) → higher (cast_vote c v) w ≡ cast_vote c v
  unfolding higher
  higher_keeps h = go w h
    where
      go : (w : Option Vote) → ((d u : ℕ) → w ≡ cast_vote d u → d ≤ c) → higher (cast_vote c v) w ≡ cast_vote c v
      go None h = refl
      go (Some u) h = rw (le-ltb c u.bal (h u.bal u.val refl))

  higher_takes : ((d u : ℕ) → w ≡ cast_vote d u → d < c) → higher w (cast_vote c v) ≡ cast_vote c v
  unfolding higher
  higher_takes h = go w h
    where
      go : (w : Option Vote) → ((d u : ℕ) → w ≡ cast_vote d u → d < c) → higher w (cast_vote c v) ≡ cast_vote c v
      go None h = refl
      go (Some u) h = rw (lt-ltb u.bal c (h u.bal u.val refl))

module _ (i b : ℕ) where
  report_self : (a : ℕ) (vote : Option Vote) → report_of i b (Phase1b i a b vote) ≡ vote
  unfolding report_of
  report_self a vote = rw (eq-eqb i i refl, eq-eqb b b refl)

  report_of_lem : (m : Message) (c v : ℕ) → report_of i b m ≡ cast_vote c v → (a : ℕ) × (m ≡ Phase1b i a b (cast_vote c v))
  unfolding report_of
  report_of_lem (Phase1a ins bal) c v e = absurd (let z : ◌≡◌ {A = ℕ} 0 1 = cc in omega arith)
  report_of_lem (Phase1b ins acc mbal vote) c v e = go (eqb ins i && eqb mbal b) refl e
    where
      go : (t : Bool) → (eqb ins i && eqb mbal b) ≡ t → cond t vote None ≡ cast_vote c v → (a : ℕ) × (Phase1b ins acc mbal vote ≡ Phase1b i a b (cast_vote c v))
      go true h e =
          let t = both (eqb ins i) (eqb mbal b) h in
          let j = eqb-true ins i t.0 in let k = eqb-true mbal b t.1 in
          (acc, λ z. Phase1b (j z) acc (k z) (e z))
      go false h e = absurd (let z : ◌≡◌ {A = ℕ} 0 1 = cc in omega arith)
  report_of_lem (Phase2a ins bal val) c v e = absurd (let z : ◌≡◌ {A = ℕ} 0 1 = cc in omega arith)
  report_of_lem (Phase2b ins acc bal val) c v e = absurd (let z : ◌≡◌ {A = ℕ} 0 1 = cc in omega arith)
  report_of_lem (Decision val) c v e = absurd (let z : ◌≡◌ {A = ℕ} 0 1 = cc in omega arith)

  highest_bound : (ms : List Message) (a : ℕ) (vote : Option Vote) → Memᴰ (Phase1b i a b vote) ms
      → Source.at_most (bal_of vote) (bal_of (highest_report i b ms))
  unfolding highest_report
  highest_bound [] a vote absent = elim absent [ ]
  highest_bound (x ∷ ms) a vote (Memᴰ.head e) =
      subst (λ (u : Option Vote). Source.at_most (bal_of u) (bal_of (higher (report_of i b x) (highest_report i b ms))))
      (ap (report_of i b) (sym e) ∙ report_self a vote)
      (higher_is (report_of i b x) (highest_report i b ms)).first
  highest_bound (x ∷ ms) a vote (Memᴰ.tail d) =
      at_most_trans (bal_of vote) (bal_of (highest_report i b ms)) _ (highest_bound ms a vote d)
      (higher_is (report_of i b x) (highest_report i b ms)).second

  highest_from : (ms : List Message) (c v : ℕ) → highest_report i b ms ≡ cast_vote c v → (a : ℕ) × Memᴰ (Phase1b i a b (cast_vote c v)) ms
  unfolding highest_report
  highest_from [] c v e = absurd (let z : ◌≡◌ {A = ℕ} 0 1 = cc in omega arith)
  highest_from (x ∷ ms) c v e = go (higher_is (report_of i b x) (highest_report i b ms)).one (highest_from ms c v)
    where
      Found : List Message → Type 0
      Found ms = (a : ℕ) × Memᴰ (Phase1b i a b (cast_vote c v)) ms

      go : (higher (report_of i b x) (highest_report i b ms) ≡ report_of i b x) ⊎ (higher (report_of i b x) (highest_report i b ms) ≡ highest_report i b ms)
          → (highest_report i b ms ≡ cast_vote c v → Found ms) → Found (x ∷ ms)
      go (inl q) rest = let r = report_of_lem x c v (sym q ∙ e) in (r.0, Memᴰ.head (sym r.1))
      go (inr q) rest = let r = rest (sym q ∙ e) in (r.0, Memᴰ.tail r.1)

  -- of several highest reports the first
  pub highest_first : (xs ys : List Message) (a c v : ℕ) → ((d : ℕ) → Reports xs i b d → d < c) → ((d : ℕ) → Reports ys i b d → d ≤ c)
      → highest_report i b (xs ++ (Phase1b i a b (cast_vote c v) ∷ ys)) ≡ cast_vote c v
  unfolding highest_report
  highest_first [] ys a c v h k =
      ap (λ (u : Option Vote). higher u (highest_report i b ys)) (report_self a (cast_vote c v))
      ∙ higher_keeps (highest_report i b ys) c v (λ d u e. let r = highest_from ys d u e in k d (r.0, u, r.1))
  highest_first (x ∷ xs) ys a c v h k =
      ap (higher (report_of i b x)) (highest_first xs ys a c v (λ d r. h d (r.0, r.1, Memᴰ.tail r.2)) k)
      ∙ higher_takes (report_of i b x) c v (λ d u e. let r = report_of_lem x d u e in h d (r.0, u, Memᴰ.head (sym r.1)))

  pub highest_none : (ms : List Message) → ((d : ℕ) → Reports ms i b d → ⊥) → highest_report i b ms ≡ None
  highest_none ms h = go (highest_report i b ms) refl
    where
      go : (w : Option Vote) → highest_report i b ms ≡ w → highest_report i b ms ≡ None
      go None e = e
      go (Some w) e = let r = highest_from ms w.bal w.val e in absurd (h w.bal (r.0, w.val, r.1))

-- the value that is proposed, if the acceptors with a 1b are a majority
module _ (p : Plan) (ms : List Message) (r : all_in_range p ms ≡ true) (i b : ℕ) (q : is_quorum p.acceptors (λ a. any (is1b i b a) ms) ≡ true) where
  abbrev MS : ℕ → Bool
  MS = among p (λ a. any (is1b i b a) ms)

  abbrev Reported : Source.Bal → Source.Val → ℕ → Type 0
  Reported = Source.Reported (is_rm p) (is_acceptor p) (is_majority_set p) (set_of ms) b i MS

  bound : (c : Source.Bal) → (v : Source.Val) × (ac : ℕ) × Reported c v ac → Source.at_most c (bal_of (highest_report i b ms))
  bound c s =
      let m = s.2.0 in
      let w = read_1b m.0 i b s.1 c s.0 m.2 in
      subst (λ (d : Source.Bal). Source.at_most d (bal_of (highest_report i b ms))) w.2
      (highest_bound i b ms s.1 w.0 (subst (λ (x : Message). Memᴰ x ms) w.1 m.1))

  member_of : (a : ℕ) (vote : Option Vote) → Memᴰ (Phase1b i a b vote) ms → Reported (bal_of vote) (vote_val_of vote) a
  unfolding is_in_range
  member_of a vote d =
      let s : set_of ms (Source.phase1b i b (bal_of vote) (vote_val_of vote) a) = (Phase1b i a b vote, d, refl) in
      let t = both (ltb i p.rms && ltb a p.acceptors) (is_vote vote) (in_range_lem p ms _ r d) in
      (s, and_true (ltb a p.acceptors) _ (both (ltb i p.rms) (ltb a p.acceptors) t.0).1 (seen_reported ms i b a _ _ s))

  some_report : (ac : ℕ) × (vote : Option Vote) × Memᴰ (Phase1b i ac b vote) ms
  some_report =
      let a = majority_some p MS (quorum_majority p _ q) in
      let w = reported_seen ms i b a.0 (both (ltb a.0 p.acceptors) _ a.1).1 in
      let k = read_1b w.1.0 i b a.0 _ _ w.1.2 in
      (a.0, k.0, subst (λ (x : Message). Memᴰ x ms) k.1 w.1.1)

  lowest : (vote : Option Vote) → Source.at_most (bal_of vote) Source.minus_one → bal_of vote ≡ Source.minus_one
  lowest None h = refl
  lowest (Some w) h = absurd h

  abbrev ProposedVal : Source.Val → Type 0
  ProposedVal = Source.ProposedVal (is_rm p) (is_acceptor p) (is_majority_set p) (set_of ms) b i MS

  pub proposed_value : ProposedVal (val_of (proposal (highest_report i b ms)))
  unfolding proposal
  proposed_value = go (highest_report i b ms) refl
    where
      go : (h : Option Vote) → highest_report i b ms ≡ h → ProposedVal (val_of (proposal h))
      go None e =
          let k = some_report in
          let low : bal_of k.1 ≡ Source.minus_one
          = lowest k.1 (subst (λ (h : Option Vote). Source.at_most (bal_of k.1) (bal_of h)) e (highest_bound i b ms k.0 k.1 k.2)) in
          let w = subst (λ (c : Source.Bal). Reported c (vote_val_of k.1) k.0) low (member_of k.0 k.1 k.2) in (
            Source.minus_one,
            inr ((vote_val_of k.1, k.0, w), λ c s. subst (λ (h : Option Vote). Source.at_most c (bal_of h)) e (bound c s)),
            inl (refl, refl),
          )
      go (Some vote) e =
          let k = highest_from i b ms vote.bal vote.val e in
          let w = member_of k.0 (Some vote) k.1 in (
            Source.ballot vote.bal,
            inr ((val_of vote.val, k.0, w), λ d s. subst (λ (h : Option Vote). Source.at_most d (bal_of h)) e (bound d s)),
            inr ((λ z. let n : ◌≡◌ {A = ℕ} 0 1 = cc in omega arith), (k.0, w)),
          )

cast_value : (p : Plan) (i a b c v : ℕ) → is_in_range p (Phase1b i a b (cast_vote c v)) ≡ true → is_value v ≡ true
unfolding is_in_range is_vote
cast_value p i a b c v h = (both (ltb i p.rms && ltb a p.acceptors) (is_value v) h).1

-- a proposed value is a value
pub proposal_value : (p : Plan) (ms : List Message) → all_in_range p ms ≡ true → (i b : ℕ) → is_value (proposal (highest_report i b ms)) ≡ true
unfolding proposal is_value
proposal_value p ms r i b = go (highest_report i b ms) refl
  where
    go : (h : Option Vote) → highest_report i b ms ≡ h → is_value (proposal h) ≡ true
    go None e = refl
    go (Some w) e = let k = highest_from i b ms w.bal w.val e in cast_value p i k.0 b w.bal w.val (in_range_lem p ms _ r k.1)
