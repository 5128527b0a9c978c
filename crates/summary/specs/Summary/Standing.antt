-- What a summary that follows its inbox says.
--     Joins                     a message joins an inbox, or leaves it as it was, being there already
--     is_vote_for               a 2b of an instance and value
--     decided_kept              what is decided stays decided
--     decided_other             a message that is no 2b of (i, v) leaves what is decided of (i, v)
--     Says, stands_says         each byte is what the inbox says, and then each bit is what may be announced
--     says_zeros, standing_most     so it is of zeros with no message; no byte is above 3
--     Gains, gains_2a, gains_2b     what a receipt changes of what may be announced is the bit that it marks
--     marked_says, says_other   so a receipt keeps the summary true, and a message that is no 2b and no decline needs no mark
-- Assumes nothing.
use Rattle.std.specs.Prelude.{ℕ, zero, suc, ◌+◌, ◌-◌, ◌<◌, ◌≤◌, Bool, ◌&&◌, ◌||◌, cond, ◌⊎◌, ◌≡◌, length, replicate}
use Rattle.std.proofs.Math.Bool.{true, false, and-false, or-false, or-true}
use Rattle.std.proofs.lemmas.Bool.{false≢true}
use mathlib.Core.List.{List, [], ◌∷◌, ◌++◌, Memᴰ}
use Rattle.std.proofs.Common.{inl, inr, ◌∙◌, ap₂, arith, get_or-set_same, eq-eqb, ne_eqb, eqb-true}
use Rattle.std.proofs.Math.Path.{refl, sym, ap}
use Rattle.std.proofs.Math.Decide.{ℕ_discrete}
use Rattle.std.proofs.Math.Dec.{eqb}
use Rattle.std.proofs.Math.ListN.{get_or}
use Rattle.std.proofs.Math.Seq.{get_or-set_other}
use Rattle.message.specs.declared.Plan.{Plan}
use Rattle.message.specs.declared.Message.{Message}
use Rattle.message.specs.declared.Message.TheVariants.{Phase1a, Phase1b, Phase2a, Phase2b, Decision}
use Rattle.message.proofs.Outcome.Laws.{both}
use Rattle.message.specs.Form.{is_in_range}
use Rattle.quorum.specs.Quorum.{is_quorum}
use Rattle.quorum.proofs.Quorum.Laws.{quorum_ext, quorum_apart}
use Rattle.quorum.specs.Mask.{has_bit, insert_bit, join}
use Rattle.inbox.specs.Inbox.{any, is2b, chosen, is_chosen2b, decided}
use Rattle.inbox.specs.Inbox.Members.{member_any, any_joined}
use Rattle.summary.specs.Summary.{stands, is_decline, with_bit, marked, decided_or_declined, standing}
use Rattle.summary.specs.Summary.Laws.{vote_parts, proposal_instance}

-- the messages after m was put into an inbox: m at their end, or the same where it is there already
abbrev pub Joins : List Message → List Message → Message → Type 0
Joins seen seen' m = (seen' ≡ seen ++ (m ∷ [])) ⊎ ((seen' ≡ seen) × Memᴰ m seen)

-- a 2b of instance i with value v
unfoldable pub is_vote_for : ℕ → ℕ → Message → Bool
is_vote_for i v (Phase1a _ _) = false
is_vote_for i v (Phase1b _ _ _ _) = false
is_vote_for i v (Phase2a _ _ _) = false
is_vote_for i v (Phase2b ins acc bal val) = eqb ins i && eqb val v
is_vote_for i v (Decision _) = false

any_ext : (f g : Message → Bool) → ((x : Message) → f x ≡ g x) → (seen : List Message) → any f seen ≡ any g seen
unfolding any
any_ext f g same [] = refl
any_ext f g same (x ∷ seen) = rw (same x, any_ext f g same seen)

-- m at the end
module _ (p : Plan) (seen : List Message) (m : Message) (i v : ℕ) where
  abbrev more : List Message
  more = seen ++ (m ∷ [])

  module _ (other : is_vote_for i v m ≡ false) where
    no_2b : (b a : ℕ) → is2b i b v a m ≡ false
    unfolding is2b is_vote_for
    no_2b b a = go m other
      where
        go : (x : Message) → is_vote_for i v x ≡ false → is2b i b v a x ≡ false
        go (Phase1a _ _) o = refl
        go (Phase1b _ _ _ _) o = refl
        go (Phase2a _ _ _) o = refl
        go (Decision _) o = refl
        go (Phase2b ins acc bal val) o = cut (eqb ins i) (eqb bal b) (eqb val v) (eqb acc a) o
          where
            cut : (t u w x : Bool) → (t && w) ≡ false → (t && (u && (w && x))) ≡ false
            cut false u w x o = refl
            cut true false w x o = refl
            cut true true false x o = refl
            cut true true true x o = absurd (false≢true (sym o))

    same_chosen : (b : ℕ) → chosen p more i b v ≡ chosen p seen i b v
    unfolding chosen
    same_chosen b =
        quorum_ext p.acceptors _ _
        (λ a h. any_joined (is2b i b v a) seen m ∙ ap (λ (t : Bool). any (is2b i b v a) seen || t) (no_2b b a) ∙ or-false _)

    same_test : (x : Message) → is_chosen2b p more i v x ≡ is_chosen2b p seen i v x
    unfolding is_chosen2b
    same_test (Phase1a _ _) = refl
    same_test (Phase1b _ _ _ _) = refl
    same_test (Phase2a _ _ _) = refl
    same_test (Phase2b ins acc bal val) = rw (same_chosen bal)
    same_test (Decision _) = refl

    last : is_chosen2b p more i v m ≡ false
    unfolding is_chosen2b is_vote_for
    last = go m other
      where
        go : (x : Message) → is_vote_for i v x ≡ false → is_chosen2b p more i v x ≡ false
        go (Phase1a _ _) o = refl
        go (Phase1b _ _ _ _) o = refl
        go (Phase2a _ _ _) o = refl
        go (Decision _) o = refl
        go (Phase2b ins acc bal val) o = cut (eqb ins i) (eqb val v) (chosen p more i bal v) o
          where
            cut : (t w x : Bool) → (t && w) ≡ false → (t && (w && x)) ≡ false
            cut false w x o = refl
            cut true false x o = refl
            cut true true x o = absurd (false≢true (sym o))

    other_more : decided p more i v ≡ decided p seen i v
    unfolding decided
    other_more =
        any_joined (is_chosen2b p more i v) seen m ∙ ap (λ (t : Bool). any (is_chosen2b p more i v) seen || t) last ∙ or-false _
        ∙ any_ext _ _ same_test seen

  chosen_kept : (b : ℕ) → chosen p seen i b v ≡ true → chosen p more i b v ≡ true
  unfolding chosen
  chosen_kept b c = go (is_quorum p.acceptors (λ a. any (is2b i b v a) more)) refl
    where
      go : (t : Bool) → is_quorum p.acceptors (λ a. any (is2b i b v a) more) ≡ t → t ≡ true
      go true e = refl
      go false e =
          let d = quorum_apart p.acceptors _ _ c e in
          absurd (false≢true (sym d.3 ∙ any_joined (is2b i b v d.0) seen m ∙ ap (λ (t : Bool). t || is2b i b v d.0 m) d.2))

  test_kept : (x : Message) → is_chosen2b p seen i v x ≡ true → is_chosen2b p more i v x ≡ true
  unfolding is_chosen2b
  test_kept (Phase1a _ _) h = h
  test_kept (Phase1b _ _ _ _) h = h
  test_kept (Phase2a _ _ _) h = h
  test_kept (Phase2b ins acc bal val) h =
      let a = both (eqb ins i) _ h in
      let b = both (eqb val v) _ a.1 in
      rw (a.0, b.0, chosen_kept bal b.1)
  test_kept (Decision _) h = h

  any_kept : (l : List Message) → any (is_chosen2b p seen i v) l ≡ true → any (is_chosen2b p more i v) l ≡ true
  unfolding any
  any_kept [] h = h
  any_kept (x ∷ l) h = go (is_chosen2b p seen i v x) refl h (any_kept l)
    where
      go : (t : Bool) → is_chosen2b p seen i v x ≡ t → (t || any (is_chosen2b p seen i v) l) ≡ true
          → (any (is_chosen2b p seen i v) l ≡ true → any (is_chosen2b p more i v) l ≡ true)
          → (is_chosen2b p more i v x || any (is_chosen2b p more i v) l) ≡ true
      go true e h rest = rw (test_kept x e)
      go false e h rest = rw (rest h) (or-true (is_chosen2b p more i v x))

  kept_more : decided p seen i v ≡ true → decided p more i v ≡ true
  unfolding decided
  kept_more h = any_joined (is_chosen2b p more i v) seen m ∙ ap (λ (t : Bool). t || is_chosen2b p more i v m) (any_kept seen h)

module _ (p : Plan) (seen seen' : List Message) (m : Message) where
  pub decided_kept : Joins seen seen' m → (i v : ℕ) → decided p seen i v ≡ true → decided p seen' i v ≡ true
  decided_kept (inl e) i v h = rw e (kept_more p seen m i v h)
  decided_kept (inr (e, there)) i v h = rw e h

  pub decided_other : Joins seen seen' m → (i v : ℕ) → is_vote_for i v m ≡ false → decided p seen' i v ≡ decided p seen i v
  decided_other (inl e) i v o = rw e (other_more p seen m i v o)
  decided_other (inr (e, there)) i v o = rw e

two_sym : (w : ℕ) → eqb w 2 ≡ eqb 2 w
two_sym w = elim (ℕ_discrete w 2) [ yes e ↦ rw e | no n ↦ ne_eqb w 2 n ∙ sym (ne_eqb 2 w (λ e. n (sym e))) ]

abbrev pub Says : Plan → List Message → List ℕ → Type 0
Says p seen s = (i : ℕ) → i < p.rms → get_or s i 0 ≡ standing p seen i

-- a byte of two bits, what they are and setting one of them
abbrev bits_of : Bool → Bool → ℕ
bits_of a b = cond a 1 0 + cond b 2 0

bit_0 : (a b : Bool) → has_bit (bits_of a b) 0 ≡ a
unfolding has_bit
bit_0 true true = refl
bit_0 true false = refl
bit_0 false true = refl
bit_0 false false = refl

bit_1 : (a b : Bool) → has_bit (bits_of a b) 1 ≡ b
unfolding has_bit
bit_1 true true = refl
bit_1 true false = refl
bit_1 false true = refl
bit_1 false false = refl

-- with the bit of value v where t
insert_bit_lem : (a b t : Bool) (v : ℕ) → (v ≡ 1) ⊎ (v ≡ 2) → cond t (join (bits_of a b) (v - 1)) (bits_of a b) ≡ bits_of (a || (eqb v 1 && t)) (b || (eqb v 2 && t))
unfolding insert_bit
insert_bit_lem a b false v value = rw (and-false (eqb v 1), and-false (eqb v 2), or-false a, or-false b)
insert_bit_lem a b true v (inl one) = rw one (go a b)
  where
    go : (a b : Bool) → insert_bit (bits_of a b) 0 ≡ bits_of (a || true) (b || false)
    go true true = refl
    go true false = refl
    go false true = refl
    go false false = refl
insert_bit_lem a b true v (inr two) = rw two (go a b)
  where
    go : (a b : Bool) → insert_bit (bits_of a b) 1 ≡ bits_of (a || false) (b || true)
    go true true = refl
    go true false = refl
    go false true = refl
    go false false = refl

pub standing_most : (p : Plan) (seen : List Message) (i : ℕ) → standing p seen i ≤ 3
unfolding standing
standing_most p seen i = go (decided_or_declined p seen i 1) (decided_or_declined p seen i 2)
  where
    go : (a b : Bool) → bits_of a b ≤ 3
    go true true = omega arith
    go true false = omega arith
    go false true = omega arith
    go false false = omega arith

pub says_zeros : (p : Plan) (n : ℕ) → Says p [] (replicate n 0)
unfolding standing decided_or_declined decided any
says_zeros p n i h = zeros n i
  where
    zeros : (n i : ℕ) → get_or {A = ℕ} (replicate n 0) i 0 ≡ 0
    zeros zero i = refl
    zeros (suc n) zero = refl
    zeros (suc n) (suc i) = zeros n i

pub stands_says : (p : Plan) (seen : List Message) (s : List ℕ) → Says p seen s → (i v : ℕ) → i < p.rms → (v ≡ 1) ⊎ (v ≡ 2)
    → stands s i v ≡ decided_or_declined p seen i v
unfolding stands standing
stands_says p seen s says i v h (inl one) =
    rw one (ap (λ (b : ℕ). has_bit b 0) (says i h) ∙ bit_0 (decided_or_declined p seen i 1) (decided_or_declined p seen i 2))
stands_says p seen s says i v h (inr two) =
    rw two (ap (λ (b : ℕ). has_bit b 1) (says i h) ∙ bit_1 (decided_or_declined p seen i 1) (decided_or_declined p seen i 2))

module _ (p : Plan) (seen seen' : List Message) where
  -- of (ins, val) alone more may be announced, and that where t
  abbrev Gains : Bool → ℕ → ℕ → Type 0
  Gains t ins val = (j w : ℕ) → decided_or_declined p seen' j w ≡ (decided_or_declined p seen j w || (eqb ins j && (eqb val w && t)))

  -- nothing more
  abbrev Same : Type 0
  Same = (j w : ℕ) → decided_or_declined p seen' j w ≡ decided_or_declined p seen j w

  -- a decline is there if it was, or the message is one
  same_declined : (m : Message) → Joins seen seen' m → (j : ℕ) → any (is_decline j) seen' ≡ (any (is_decline j) seen || is_decline j m)
  same_declined m (inl e) j = rw e (any_joined (is_decline j) seen m)
  same_declined m (inr (e, there)) j = rw e (go (is_decline j m) refl)
    where
      go : (t : Bool) → is_decline j m ≡ t → any (is_decline j) seen ≡ (any (is_decline j) seen || t)
      go false is = sym (or-false (any (is_decline j) seen))
      go true is = member_any (is_decline j) seen m there is ∙ sym (or-true (any (is_decline j) seen))

  gains_2a : (ins bal val : ℕ) → Joins seen seen' (Phase2a ins bal val) → Gains (eqb bal 0 && eqb val 2) ins 2
  unfolding decided_or_declined is_vote_for is_decline
  gains_2a ins bal val joins j w =
      rw (decided_other p seen seen' (Phase2a ins bal val) joins j w refl, same_declined (Phase2a ins bal val) joins j)
      (go (decided p seen j w) (any (is_decline j) seen) (eqb ins j) (eqb bal 0 && eqb val 2) (eqb w 2) ∙ rw (two_sym w))
    where
      go : (d x e t f : Bool) → (d || (f && (x || (e && t)))) ≡ ((d || (f && x)) || (e && (f && t)))
      go true x e t f = refl
      go false x e t true = refl
      go false x e t false = sym (and-false e)

  gains_2b : (ins acc bal val : ℕ) → Joins seen seen' (Phase2b ins acc bal val) → Gains (decided p seen' ins val) ins val
  unfolding decided_or_declined is_vote_for is_decline
  gains_2b ins acc bal val joins j w =
      rw (same_declined m joins j, or-false (any (is_decline j) seen))
      (go (eqb ins j) (eqb val w) refl refl)
    where
      m : Message
      m = Phase2b ins acc bal val

      rest : Bool
      rest = eqb w 2 && any (is_decline j) seen

      other : (e f : Bool) → eqb ins j ≡ e → eqb val w ≡ f → (e && f) ≡ false → decided p seen' j w ≡ decided p seen j w
      other e f d g none = decided_other p seen seen' m joins j w (rw (d, g) none)

      more : (d d' x : Bool) → (d ≡ true → d' ≡ true) → (d' || x) ≡ ((d || x) || d')
      more true d' x kept = rw (kept refl)
      more false true x kept = sym (or-true x)
      more false false x kept = sym (or-false x)

      go : (e f : Bool) → eqb ins j ≡ e → eqb val w ≡ f
          → (decided p seen' j w || rest) ≡ ((decided p seen j w || rest) || (e && (f && decided p seen' ins val)))
      go false f d g = rw (other false f d g refl) (sym (or-false _))
      go true false d g = rw (other true false d g refl) (sym (or-false _))
      go true true d g =
          let here = eqb-true ins j d in
          let value = eqb-true val w g in
          rw (here, value) (more (decided p seen j w) (decided p seen' j w) rest (decided_kept p seen seen' m joins j w))

  same_other : (m : Message) → Joins seen seen' m → ((i v : ℕ) → is_vote_for i v m ≡ false) → ((i : ℕ) → is_decline i m ≡ false) → Same
  unfolding decided_or_declined
  same_other m joins no_vote no-decline j w =
      rw (decided_other p seen seen' m joins j w (no_vote j w), same_declined m joins j, no-decline j, or-false (any (is_decline j) seen))

  module _ (s : List ℕ) (says : Says p seen s) where
    says_same : Same → Says p seen' s
    unfolding standing
    says_same same i h = says i h ∙ sym (ap₂ bits_of (same i 1) (same i 2))

    pub says_other : (m : Message) → Joins seen seen' m → ((i v : ℕ) → is_vote_for i v m ≡ false) → ((i : ℕ) → is_decline i m ≡ false) → Says p seen' s
    says_other m joins no_vote no-decline = says_same (same_other m joins no_vote no-decline)

    says_gains : length s ≡ p.rms → (t : Bool) (ins val : ℕ) → ins < p.rms → (val ≡ 1) ⊎ (val ≡ 2) → Gains t ins val
        → Says p seen' (cond t (with_bit s ins val) s)
    unfolding standing
    says_gains size t ins val below value gains j h = go (ℕ_discrete j ins)
      where
        kept : (u : Bool) → (j ≡ ins → ⊥) → get_or (cond u (with_bit s ins val) s) j 0 ≡ get_or s j 0
        kept true apart = get_or-set_other s ins j (join (get_or s ins 0) (val - 1)) 0 apart
        kept false apart = refl

        new : (u : Bool) → get_or (cond u (with_bit s ins val) s) ins 0 ≡ cond u (join (get_or s ins 0) (val - 1)) (get_or s ins 0)
        new true = get_or-set_same s ins (join (get_or s ins 0) (val - 1)) 0 (rw size below)
        new false = refl

        go : Dec (j ≡ ins) → get_or (cond t (with_bit s ins val) s) j 0 ≡ bits_of (decided_or_declined p seen' j 1) (decided_or_declined p seen' j 2)
        go (no apart) =
            let unlike = ne_eqb ins j (λ e. apart (sym e)) in
            let same : (w : ℕ) → decided_or_declined p seen' j w ≡ decided_or_declined p seen j w
            = λ w. gains j w ∙ rw unlike (or-false (decided_or_declined p seen j w)) in
            kept t apart ∙ says j h ∙ sym (ap₂ bits_of (same 1) (same 2))
        go (yes e) =
            let more : (w : ℕ) → decided_or_declined p seen' ins w ≡ (decided_or_declined p seen ins w || (eqb val w && t))
            = λ w. gains ins w ∙ rw (eq-eqb ins ins refl) in
            rw e
            (new t
            ∙ ap (λ (b : ℕ). cond t (join b (val - 1)) b) (says ins below)
            ∙ insert_bit_lem (decided_or_declined p seen ins 1) (decided_or_declined p seen ins 2) t val value
            ∙ sym (ap₂ bits_of (more 1) (more 2)))

    pub marked_says : length s ≡ p.rms → (m : Message) → is_in_range p m ≡ true → Joins seen seen' m → Says p seen' (marked (decided p seen') s m)
    unfolding marked is_vote_for is_decline
    marked_says size (Phase1a ins bal) range joins = says_other (Phase1a ins bal) joins (λ i v. refl) (λ i. refl)
    marked_says size (Phase1b ins acc mbal vote) range joins = says_other (Phase1b ins acc mbal vote) joins (λ i v. refl) (λ i. refl)
    marked_says size (Phase2a ins bal val) range joins =
        says_gains size (eqb bal 0 && eqb val 2) ins 2 (proposal_instance p ins bal val range) (inr refl) (gains_2a ins bal val joins)
    marked_says size (Phase2b ins acc bal val) range joins =
        let r = vote_parts p ins acc bal val range in
        says_gains size (decided p seen' ins val) ins val r.0 r.1 (gains_2b ins acc bal val joins)
    marked_says size (Decision val) range joins = says_other (Decision val) joins (λ i v. refl) (λ i. refl)
