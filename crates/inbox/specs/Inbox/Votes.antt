-- Decided for one instance and value, gathered message by message, and that this is what Inbox.antt says. For each ballot there is a set of
-- the acceptors with a 2b of the instance and value; where one becomes a majority, the value is decided.
--     Tally, vote_step    one message further: the sets, and whether the one that was joined is a majority
--     small_ballot        a 2b's ballot is a byte
--     Counts              what was gathered and what is ahead make up what all messages say
--     counts_start, _next, _major, _end    before the first message, one message further, at a majority, and with none left
-- Assumes nothing.
use Rattle.std.specs.Prelude.{ℕ, ◌<◌, Bool, ◌&&◌, ◌||◌, cond, ◌≡◌, ltb, length, get_or, set, replicate}
use Rattle.std.proofs.Math.Bool.{true, false, or-true, or-false, and-false}
use Rattle.std.proofs.lemmas.Bool.{false≢true}
use mathlib.Core.List.{List, [], ◌∷◌}
use Rattle.std.proofs.Math.Path.{refl, sym, ap, ap₂}
use Rattle.std.proofs.Common.{◌∙◌, arith}
use Rattle.std.proofs.Math.Dec.{eqb}
use Rattle.std.proofs.Math.ListN.{length-set, length-replicate}
use Rattle.std.proofs.lemmas.List.{get_or-replicate}
use Rattle.std.proofs.Math.Seq.{get_or-set_same, get_or-set_other}
use borrow.Author.Tests.{ltb-true, eqb-true, eqb-false}
use Rattle.message.specs.declared.Plan.{Plan}
use Rattle.message.specs.declared.Message.{Message}
use Rattle.message.specs.declared.Message.TheVariants.{Phase1a, Phase1b, Phase2a, Phase2b, Decision}
use Rattle.message.specs.Plan.{is_plan}
use Rattle.message.proofs.PlanLaws.{plan_bounds}
use Rattle.message.proofs.Outcome.Laws.{both}
use Rattle.quorum.specs.Quorum.{is_majority, is_quorum}
use Rattle.quorum.proofs.Quorum.Laws.{quorum_apart}
use Rattle.quorum.specs.Mask.{has_bit, join, ones}
use Rattle.quorum.proofs.Mask.Laws.{has_bit_zero, join_bit, mask_quorum}
use Rattle.inbox.specs.Inbox.{any, is2b, chosen, is_chosen2b, decided}
use Rattle.inbox.specs.Inbox.Reports.{or_next}

-- the set of ballot b stands at b
pub record Tally : Type 0 where
  pub masks : List ℕ
  pub major : Bool

abbrev pub tally : List ℕ → Bool → Tally
tally masks major = record { masks = masks; major = major }

-- an acceptor joins the set of a ballot
unfoldable pub joined : List ℕ → ℕ → ℕ → ℕ
joined masks acc bal = join (get_or masks bal 0) acc

unfoldable pub tallied : Plan → List ℕ → ℕ → ℕ → Tally
unfolding joined
tallied p masks acc bal =
    record {
      masks = set masks bal (joined masks acc bal);
      major = is_majority p.acceptors (ones p.acceptors (joined masks acc bal));
    }

-- a 2b of the instance and value
unfoldable pub vote_step : Plan → ℕ → ℕ → List ℕ → Message → Tally
vote_step p i v masks (Phase1a _ _) = tally masks false
vote_step p i v masks (Phase1b _ _ _ _) = tally masks false
vote_step p i v masks (Phase2a _ _ _) = tally masks false
vote_step p i v masks (Phase2b ins acc bal val) = cond (eqb ins i && eqb val v) (tallied p masks acc bal) (tally masks false)
vote_step p i v masks (Decision _) = tally masks false

unfoldable pub small_ballot : Message → Bool
small_ballot (Phase1a _ _) = true
small_ballot (Phase1b _ _ _ _) = true
small_ballot (Phase2a _ _ _) = true
small_ballot (Phase2b ins acc bal val) = ltb bal 256
small_ballot (Decision _) = true

-- what was gathered and what is ahead make up what all messages say; what was gathered decides nothing by itself
pub record Counts (p : Plan) (i v : ℕ) (ms : List Message) (masks : List ℕ) (rest : List Message) : Type 0 where
  pub size : length masks ≡ 256
  pub voted : (b a : ℕ) → b < 256 → a < 8 → any (is2b i b v a) ms ≡ (has_bit (get_or masks b 0) a || any (is2b i b v a) rest)
  pub decides : decided p ms i v ≡ any (is_chosen2b p ms i v) rest

-- a 2b of a ballot at which (i, v) is chosen is a chosen one
module _ (p : Plan) (ms : List Message) (i b v a : ℕ) (c : chosen p ms i b v ≡ true) where
  2b_chosen : (m : Message) → is2b i b v a m ≡ true → is_chosen2b p ms i v m ≡ true
  unfolding is2b is_chosen2b
  2b_chosen (Phase1a _ _) e = absurd (false≢true e)
  2b_chosen (Phase1b _ _ _ _) e = absurd (false≢true e)
  2b_chosen (Phase2a _ _ _) e = absurd (false≢true e)
  2b_chosen (Phase2b ins acc bal val) e =
      let x = both (eqb ins i) _ e in
      let y = both (eqb bal b) _ x.1 in
      let z = both (eqb val v) _ y.1 in
      rw (x.0, z.0, eqb-true bal b y.0) c
  2b_chosen (Decision _) e = absurd (false≢true e)

  any_chosen : (l : List Message) → any (is2b i b v a) l ≡ true → any (is_chosen2b p ms i v) l ≡ true
  unfolding any
  any_chosen [] e = absurd (false≢true e)
  any_chosen (m ∷ l) e = go (is2b i b v a m) refl e (any_chosen l)
    where
      go : (t : Bool) → is2b i b v a m ≡ t → (t || any (is2b i b v a) l) ≡ true → (any (is2b i b v a) l ≡ true → any (is_chosen2b p ms i v) l ≡ true)
          → (is_chosen2b p ms i v m || any (is_chosen2b p ms i v) l) ≡ true
      go true k e more = rw (2b_chosen m k)
      go false k e more = rw (more e) (or-true (is_chosen2b p ms i v m))

-- one 2b of the instance and value further
module _ (p : Plan) (plan : is_plan p ≡ true) (i v : ℕ) (ms : List Message) (masks : List ℕ) (ins acc bal val : ℕ) (rest : List Message)
    (inv : Counts p i v ms masks (Phase2b ins acc bal val ∷ rest)) (instance : eqb ins i ≡ true) (value : eqb val v ≡ true) (h : bal < 256) where
  same_set : get_or (tallied p masks acc bal).masks bal 0 ≡ joined masks acc bal
  unfolding tallied
  same_set = get_or-set_same masks bal (joined masks acc bal) 0 (rw inv.size h)

  other_set : (b : ℕ) → (b ≡ bal → ⊥) → get_or (tallied p masks acc bal).masks b 0 ≡ get_or masks b 0
  unfolding tallied
  other_set b n = get_or-set_other masks bal b (joined masks acc bal) 0 n

  joined_bit : (a : ℕ) → a < 8 → has_bit (joined masks acc bal) a ≡ (has_bit (get_or masks bal 0) a || eqb acc a)
  unfolding joined
  joined_bit a low = join_bit (get_or masks bal 0) acc a low

  bit_next : (b a : ℕ) → a < 8
      → has_bit (get_or (tallied p masks acc bal).masks b 0) a ≡ (has_bit (get_or masks b 0) a || is2b i b v a (Phase2b ins acc bal val))
  unfolding is2b
  bit_next b a low = rw (instance, value) (go (eqb bal b) refl)
    where
      go : (t : Bool) → eqb bal b ≡ t → has_bit (get_or (tallied p masks acc bal).masks b 0) a ≡ (has_bit (get_or masks b 0) a || (t && eqb acc a))
      go true e = rw (← eqb-true bal b e, same_set) (joined_bit a low)
      go false e = rw (other_set b (λ q. eqb-false bal b e (sym q)), or-false)

  voted_next : (b a : ℕ) → b < 256 → a < 8
      → any (is2b i b v a) ms ≡ (has_bit (get_or (tallied p masks acc bal).masks b 0) a || any (is2b i b v a) rest)
  unfolding any
  voted_next b a small low =
      or_next _ (has_bit (get_or masks b 0) a) (is2b i b v a (Phase2b ins acc bal val)) (any (is2b i b v a) rest)
      (inv.voted b a small low) _ (bit_next b a low)

  -- at the message's own ballot
  joined_next : (a : ℕ) → a < p.acceptors → any (is2b i bal v a) ms ≡ (has_bit (joined masks acc bal) a || any (is2b i bal v a) rest)
  joined_next a l =
      voted_next bal a h (omega (arith, (plan_bounds p plan).acceptors_most))
      ∙ ap (λ (mask : ℕ). has_bit mask a || any (is2b i bal v a) rest) same_set

  major_chosen : (tallied p masks acc bal).major ≡ true → chosen p ms i bal v ≡ true
  unfolding tallied chosen
  major_chosen e = go (is_quorum p.acceptors (λ a. any (is2b i bal v a) ms)) refl
    where
      go : (t : Bool) → is_quorum p.acceptors (λ a. any (is2b i bal v a) ms) ≡ t → t ≡ true
      go true q = refl
      go false q =
          let w = quorum_apart p.acceptors (has_bit (joined masks acc bal)) _ (sym (mask_quorum _ _) ∙ e) q in
          sym w.3 ∙ joined_next w.0 w.1 ∙ ap (λ (t : Bool). t || any (is2b i bal v w.0) rest) w.2

  minor_ahead : chosen p ms i bal v ≡ true → (tallied p masks acc bal).major ≡ false → any (is_chosen2b p ms i v) rest ≡ true
  unfolding tallied chosen
  minor_ahead c e =
      let w = quorum_apart p.acceptors (λ a. any (is2b i bal v a) ms) (has_bit (joined masks acc bal)) c (sym (mask_quorum _ _) ∙ e) in
      any_chosen p ms i bal v w.0 c rest
      (sym (sym w.2 ∙ joined_next w.0 w.1 ∙ ap (λ (t : Bool). t || any (is2b i bal v w.0) rest) w.3))

  -- the message is a chosen one where its ballot's 2b are a majority
  decides_here : decided p ms i v ≡ (chosen p ms i bal v || any (is_chosen2b p ms i v) rest)
  unfolding any is_chosen2b
  decides_here =
      inv.decides
      ∙ ap₂ (λ (s t : Bool). (s && (t && chosen p ms i bal v)) || any (is_chosen2b p ms i v) rest) instance value

  major_decides : (tallied p masks acc bal).major ≡ true → decided p ms i v ≡ true
  major_decides e = decides_here ∙ ap (λ (t : Bool). t || any (is_chosen2b p ms i v) rest) (major_chosen e)

  minor_next : (tallied p masks acc bal).major ≡ false → Counts p i v ms (tallied p masks acc bal).masks rest
  unfolding tallied
  minor_next e =
      record {
        size = simp length-set inv.size;
        voted = voted_next;
        decides = decides_here ∙ go (chosen p ms i bal v) refl;
      }
    where
      go : (t : Bool) → chosen p ms i bal v ≡ t → (t || any (is_chosen2b p ms i v) rest) ≡ any (is_chosen2b p ms i v) rest
      go true c = sym (minor_ahead c e)
      go false c = refl

module _ (p : Plan) (i v : ℕ) (ms : List Message) where
  pub counts_start : Counts p i v ms (replicate 256 0) ms
  unfolding decided
  counts_start =
      record {
        size = length-replicate {A = ℕ} 256 0;
        voted = λ b a small low.
            sym (ap (λ (t : Bool). t || any (is2b i b v a) ms)
            (ap (λ (mask : ℕ). has_bit mask a) (get_or-replicate {A = ℕ} 256 b 0 0 small) ∙ has_bit_zero a));
        decides = refl;
      }

  pub counts_end : (masks : List ℕ) (here : List Message) → Counts p i v ms masks here → here ≡ [] → decided p ms i v ≡ false
  unfolding any
  counts_end masks here inv e = inv.decides ∙ ap (any (is_chosen2b p ms i v)) e

  module _ (masks : List ℕ) (rest : List Message) where
    -- a message that is none
    skip_next : (m : Message) → Counts p i v ms masks (m ∷ rest) → ((b a : ℕ) → is2b i b v a m ≡ false) → is_chosen2b p ms i v m ≡ false
        → Counts p i v ms masks rest
    unfolding any
    skip_next m inv f g =
        record {
          size = inv.size;
          voted = λ b a small low. inv.voted b a small low
              ∙ ap (λ (t : Bool). has_bit (get_or masks b 0) a || (t || any (is2b i b v a) rest)) (f b a);
          decides = inv.decides ∙ ap (λ (t : Bool). t || any (is_chosen2b p ms i v) rest) g;
        }

    module _ (plan : is_plan p ≡ true) where
      minor_step : (m : Message) → Counts p i v ms masks (m ∷ rest) → small_ballot m ≡ true → (vote_step p i v masks m).major ≡ false
          → Counts p i v ms (vote_step p i v masks m).masks rest
      unfolding vote_step small_ballot is2b is_chosen2b
      minor_step (Phase1a ins bal) inv k n = skip_next (Phase1a ins bal) inv (λ b a. refl) refl
      minor_step (Phase1b ins acc mbal vote) inv k n = skip_next (Phase1b ins acc mbal vote) inv (λ b a. refl) refl
      minor_step (Phase2a ins bal val) inv k n = skip_next (Phase2a ins bal val) inv (λ b a. refl) refl
      minor_step (Phase2b ins acc bal val) inv k n = go (eqb ins i) refl (eqb val v) refl n
        where
          go : (t : Bool) → eqb ins i ≡ t → (u : Bool) → eqb val v ≡ u → (cond (t && u) (tallied p masks acc bal) (tally masks false)).major ≡ false
              → Counts p i v ms (cond (t && u) (tallied p masks acc bal) (tally masks false)).masks rest
          go true e true f n = minor_next p plan i v ms masks ins acc bal val rest inv e f (ltb-true _ _ k) n
          go true e false f n = skip_next (Phase2b ins acc bal val) inv (λ b a. simp (f, and-false)) (simp (f, and-false))
          go false e u f n = skip_next (Phase2b ins acc bal val) inv (λ b a. rw e) (rw e)
      minor_step (Decision val) inv k n = skip_next (Decision val) inv (λ b a. refl) refl

      major_step : (m : Message) → Counts p i v ms masks (m ∷ rest) → small_ballot m ≡ true → (vote_step p i v masks m).major ≡ true
          → decided p ms i v ≡ true
      unfolding vote_step small_ballot
      major_step (Phase1a ins bal) inv k y = absurd (false≢true y)
      major_step (Phase1b ins acc mbal vote) inv k y = absurd (false≢true y)
      major_step (Phase2a ins bal val) inv k y = absurd (false≢true y)
      major_step (Phase2b ins acc bal val) inv k y = go (eqb ins i) refl (eqb val v) refl y
        where
          go : (t : Bool) → eqb ins i ≡ t → (u : Bool) → eqb val v ≡ u → (cond (t && u) (tallied p masks acc bal) (tally masks false)).major ≡ true
              → decided p ms i v ≡ true
          go true e true f y = major_decides p plan i v ms masks ins acc bal val rest inv e f (ltb-true _ _ k) y
          go true e false f y = absurd (false≢true y)
          go false e u f y = absurd (false≢true y)
      major_step (Decision val) inv k y = absurd (false≢true y)

      -- `s` is what the next message makes of the sets
      module _ (here : List Message) (inv : Counts p i v ms masks here) (m : Message) (of-here : here ≡ m ∷ rest) (small : small_ballot m ≡ true)
          (s : Tally) (of-s : s ≡ vote_step p i v masks m) where
        pub counts_next : s.major ≡ false → Counts p i v ms s.masks rest
        counts_next n = rw of-s (minor_step m (rw of-here at inv) small (rw of-s at n))

        pub counts_major : s.major ≡ true → decided p ms i v ≡ true
        counts_major y = major_step m (rw of-here at inv) small (rw of-s at y)
