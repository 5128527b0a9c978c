-- From the bytes of a slot, map and fields, to the cases of `vote_step`, as the code tests them.
--     small_ballot_lem  a slot's ballot is a byte
--     vote_other       a slot with no 2b of the instance and value
--     vote_taken       one that counts: its acceptor joins
--     vote_none        a slot that does not begin as a 2b of the instance does
--     begins_word      whether it does, by its first word
-- Assumes nothing.
use Prim.Native.Nat.{ℕ, ◌+◌, ◌/◌, ◌%◌, ◌<◌}
use mathlib.Core.Bool.{Bool, true, false, ◌&&◌, cond}
use mathlib.Core.List.{List}
use mathlib.Core.Path.{◌≡◌, refl, sym, ◌∙◌, ap, ap₂}
use native.Mathlib.Omega.{arith}
use lib.Dec.{eqb}
use lib.ListN.{get_or, set}
use borrow.Author.Tests.{lt-ltb, eq-eqb, ne_eqb, eqb-true, eqb-false}
use Rattle.message.specs.declared.Plan.{Plan}
use Rattle.message.specs.Form.{map2b}
use Rattle.slots.specs.Table.Words.{Word, WordFrom}
use Rattle.quorum.specs.Quorum.{is_majority}
use Rattle.quorum.specs.Mask.{join, ones}
use Rattle.inbox.specs.Inbox.Slots.{message_at, slot_cases}
use Rattle.inbox.specs.Inbox.Votes.{tally, joined, tallied, vote_step, small_ballot}
use Rattle.decided.specs.Pass.{begins2b}

module _ (t : List ℕ) (at : ℕ) where
  abbrev map : ℕ
  map = get_or t at 0

  abbrev byte : ℕ → ℕ
  byte k = get_or t (at + k) 0

  pub small_ballot_lem : byte 3 < 256 → small_ballot (message_at t at) ≡ true
  unfolding small_ballot
  small_ballot_lem h =
      slot_cases t at (λ map m. small_ballot m ≡ true)
      refl
      refl
      refl
      refl
      (lt-ltb (byte 3) 256 h)
      (λ map o. refl)

  module _ (p : Plan) (i v : ℕ) (masks : List ℕ) where
    counts : ℕ → Bool
    counts map = eqb map map2b && (eqb (byte 1) i && eqb (byte 4) v)

    vote_step_lem : cond (counts map) (tallied p masks (byte 2) (byte 3)) (tally masks false) ≡ vote_step p i v masks (message_at t at)
    unfolding vote_step counts
    vote_step_lem =
        slot_cases t at
        (λ map m. cond (counts map) (tallied p masks (byte 2) (byte 3)) (tally masks false) ≡ vote_step p i v masks m)
        refl
        refl
        refl
        refl
        refl
        (λ map o. rw (ne_eqb map map2b o.not_2b))

    -- `x` is map, instance and value of the slot as one number, `y` that of a 2b of the instance and value
    module _ (x y : ℕ) (of-x : Word map (byte 1) (byte 4) 0 x) (of-y : Word map2b i v 0 y) where
      pub vote_other : (x ≡ y → ⊥) → tally masks false ≡ vote_step p i v masks (message_at t at)
      unfolding counts
      vote_other n =
          sym (ap (λ (b : Bool). cond b (tallied p masks (byte 2) (byte 3)) (tally masks false))
          (go (eqb map map2b) refl (eqb (byte 1) i) refl (eqb (byte 4) v) refl))
          ∙ vote_step_lem
        where
          go : (a : Bool) → eqb map map2b ≡ a → (b : Bool) → eqb (byte 1) i ≡ b → (c : Bool) → eqb (byte 4) v ≡ c → (a && (b && c)) ≡ false
          go true e true f true g =
              absurd (n (omega (arith, of-x.sum, of-y.sum, eqb-true map map2b e, eqb-true (byte 1) i f, eqb-true (byte 4) v g)))
          go true e true f false g = refl
          go true e false f c g = refl
          go false e b f c g = refl

      -- `major` is the callee's answer
      pub vote_taken : x ≡ y → (bal : ℕ) → bal ≡ byte 3 → (mask : ℕ) → mask ≡ join (get_or masks bal 0) (byte 2)
          → (major : Bool) → major ≡ is_majority p.acceptors (ones p.acceptors mask)
          → tally (set masks bal mask) major ≡ vote_step p i v masks (message_at t at)
      unfolding counts tallied joined
      vote_taken same bal of-bal mask of_mask major of-major =
          rw (of-major, of_mask, of-bal)
          (sym (ap (λ (b : Bool). cond b (tallied p masks (byte 2) (byte 3)) (tally masks false)) passes) ∙ vote_step_lem)
        where
          passes : counts map ≡ true
          passes =
              ap₂ ◌&&◌ (eq-eqb map map2b (sym of-x.digit0 ∙ ap (λ (w : ℕ). w % 0x100) same ∙ of-y.digit0))
              (ap₂ ◌&&◌ (eq-eqb (byte 1) i (sym of-x.digit1 ∙ ap (λ (w : ℕ). w / 0x100 % 0x100) same ∙ of-y.digit1))
              (eq-eqb (byte 4) v (sym of-x.digit2 ∙ ap (λ (w : ℕ). w / 0x10000 % 0x100) same ∙ of-y.digit2)))

    pub vote_none : begins2b i t at ≡ false → tally masks false ≡ vote_step p i v masks (message_at t at)
    unfolding counts begins2b
    vote_none none =
        sym (ap (λ (b : Bool). cond b (tallied p masks (byte 2) (byte 3)) (tally masks false)) (go (eqb map map2b) (eqb (byte 1) i) none))
        ∙ vote_step_lem
      where
        go : (a b : Bool) → (a && b) ≡ false → (a && (b && eqb (byte 4) v)) ≡ false
        go true b e = ap (λ (s : Bool). s && eqb (byte 4) v) e
        go false b e = refl

  -- `w` is the slot's first word, `y` that of a 2b of the instance without its other bytes
  module _ (i w y : ℕ) (of-w : WordFrom t at w) (of-y : Word map2b i 0 0 y) where
    digits : w % 0x10000 ≡ y → (map ≡ map2b) × (byte 1 ≡ i)
    digits same = (
      omega (arith, same, of-w.sum, of-w.digit0, of-w.digit1, of-y.sum, of-y.digit0, of-y.digit1),
      omega (arith, same, of-w.sum, of-w.digit0, of-w.digit1, of-y.sum, of-y.digit0, of-y.digit1),
    )

    pub begins_word : eqb (w % 0x10000) y ≡ begins2b i t at
    unfolding begins2b
    begins_word = go (eqb map map2b) refl (eqb (byte 1) i) refl
      where
        go : (a : Bool) → eqb map map2b ≡ a → (b : Bool) → eqb (byte 1) i ≡ b → eqb (w % 0x10000) y ≡ (a && b)
        go true e true f =
            eq-eqb (w % 0x10000) y (omega (arith, of-w.sum, of-w.digit0, of-w.digit1, of-y.sum, eqb-true map map2b e, eqb-true (byte 1) i f))
        go true e false f = ne_eqb (w % 0x10000) y (λ same. eqb-false (byte 1) i f (digits same).1)
        go false e b f = ne_eqb (w % 0x10000) y (λ same. eqb-false map map2b e (digits same).0)
