-- From the bytes of a slot, map and fields, to the cases of `report_step`, as the code branches.
--     skip_other                                    the slot is no 2a and no 1b of the instance and ballot
--     skip_instance, skip_1b, skip_map, skip_2a     how the code finds that
--     step_2a, step_1b, step_1b_vote                a 2a, a 1b without a vote, and one with a vote
-- Assumes nothing.
use Prim.Native.Nat.{ℕ, ◌+◌}
use mathlib.Core.Bool.{true, false, ◌&&◌, and-false}
use mathlib.Core.List.{List}
use mathlib.Core.Path.{◌≡◌, refl, sym}
use lib.Dec.{eqb}
use lib.ListN.{get_or}
use borrow.Author.Tests.{eq-eqb, ne_eqb}
use Rattle.message.specs.declared.Vote.{Vote}
use Rattle.message.specs.declared.Message.{Message}
use Rattle.message.specs.Form.{map1b, map1b_vote, map2a, cast_vote}
use Rattle.quorum.specs.Mask.{join}
use Rattle.inbox.specs.declared.Gathered.{Gathered}
use Rattle.inbox.specs.Inbox.{higher}
use Rattle.inbox.specs.Inbox.Slots.{message_at, slot_cases, message_1b, message_1b_vote, message_2a}
use Rattle.inbox.specs.Inbox.Reports.{report_step, higher_none}
use Rattle.std.specs.Prelude.{Option}

module _ (i b : ℕ) (g : Gathered) (t : List ℕ) (at : ℕ) where
  abbrev map : ℕ
  map = get_or t at 0

  abbrev byte : ℕ → ℕ
  byte k = get_or t (at + k) 0

  abbrev Skips : ℕ → Message → Type 0
  Skips map m =
      (map ≡ map2a → (eqb (byte 1) i && eqb (byte 2) b) ≡ false)
      → (map ≡ map1b → (eqb (byte 1) i && eqb (byte 3) b) ≡ false)
      → (map ≡ map1b_vote → (eqb (byte 1) i && eqb (byte 3) b) ≡ false)
      → g ≡ report_step i b g m

  pub skip_other : Skips map (message_at t at)
  unfolding report_step
  skip_other =
      slot_cases t at Skips
      (λ of2a of1b of1bVote. refl)
      (λ of2a of1b of1bVote. rw (of1b refl))
      (λ of2a of1b of1bVote. rw (of1bVote refl))
      (λ of2a of1b of1bVote. rw (of2a refl))
      (λ of2a of1b of1bVote. refl)
      (λ map o of2a of1b of1bVote. refl)

  pub skip_instance : (byte 1 ≡ i → ⊥) → g ≡ report_step i b g (message_at t at)
  skip_instance n = let other = ne_eqb (byte 1) i n in skip_other (λ is. rw other) (λ is. rw other) (λ is. rw other)

  pub skip_1b : (map ≡ map2a → ⊥) → (byte 3 ≡ b → ⊥) → g ≡ report_step i b g (message_at t at)
  skip_1b k n =
      let other = ne_eqb (byte 3) b n in
      skip_other (λ is. absurd (k is)) (λ is. rw (other, and-false)) (λ is. rw (other, and-false))

  pub skip_map : (map ≡ map2a → ⊥) → (map ≡ map1b → ⊥) → (map ≡ map1b_vote → ⊥) → g ≡ report_step i b g (message_at t at)
  skip_map k l n = skip_other (λ is. absurd (k is)) (λ is. absurd (l is)) (λ is. absurd (n is))

  module _ (k : map ≡ map2a) where
    pub skip_2a : (byte 2 ≡ b → ⊥) → g ≡ report_step i b g (message_at t at)
    unfolding report_step
    skip_2a n = rw (message_2a t at k, ne_eqb (byte 2) b n, and-false)

    pub step_2a : byte 1 ≡ i → byte 2 ≡ b
        → ◌≡◌ {A = Gathered} (record { proposed = true; mask = g.mask; vote = g.vote }) (report_step i b g (message_at t at))
    unfolding report_step
    step_2a e l = rw (message_2a t at k, eq-eqb (byte 1) i e, eq-eqb (byte 2) b l)

  module _ (e : byte 1 ≡ i) (l : byte 3 ≡ b) (mask : ℕ) (joined : mask ≡ join g.mask (byte 2)) where
    pub step_1b : map ≡ map1b
        → ◌≡◌ {A = Gathered} (record { proposed = g.proposed; mask = mask; vote = g.vote }) (report_step i b g (message_at t at))
    unfolding report_step
    step_1b k =
        rw (message_1b t at k, eq-eqb (byte 1) i e, eq-eqb (byte 3) b l)
        (λ j. record { proposed = g.proposed; mask = joined j; vote = sym (higher_none g.vote) j })

    pub step_1b_vote : map ≡ map1b_vote → (vote : Option Vote) → vote ≡ higher g.vote (cast_vote (byte 4) (byte 5))
        → ◌≡◌ {A = Gathered} (record { proposed = g.proposed; mask = mask; vote = vote }) (report_step i b g (message_at t at))
    unfolding report_step
    step_1b_vote k vote best =
        rw (message_1b_vote t at k, eq-eqb (byte 1) i e, eq-eqb (byte 3) b l)
        (λ j. record { proposed = g.proposed; mask = joined j; vote = best j })
