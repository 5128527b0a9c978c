-- What a 2b of (ins, val), and a 2a of it, does to the byte of its instance.
--     mark_stands     the bit stands already
--     mark_none       nothing is decided
--     mark_set        the bit is set
--     decline_later, decline_other, decline_set     a 2a of a later ballot, of prepared, and the decline
-- Assumes nothing.
use Prim.Native.Nat.{ℕ, ◌-◌}
use mathlib.Core.Bool.{Bool, true, false, cond}
use mathlib.Core.List.{List}
use mathlib.Core.Path.{◌≡◌, refl, sym, ◌∙◌, ap}
use lib.ListN.{get_or, set}
use lib.Seq.{set-get_or}
use Rattle.message.specs.declared.Message.TheVariants.{Phase2a, Phase2b}
use Rattle.quorum.specs.Mask.{join}
use Rattle.summary.specs.Summary.{marked}
use Rattle.summary.specs.Summary.Laws.{marked_no_decline}

module _ (d : ℕ → ℕ → Bool) (s : List ℕ) (ins val : ℕ) (byte : ℕ) (is : byte ≡ get_or s ins 0) (bit : ℕ) (of-bit : bit ≡ val - 1)
    (new : ℕ) (of-new : new ≡ join byte bit) where
  new_byte : new ≡ join (get_or s ins 0) (val - 1)
  new_byte = of-new ∙ rw (is, of-bit)

  pub mark_stands : new ≡ byte → (acc bal : ℕ) → s ≡ marked d s (Phase2b ins acc bal val)
  unfolding marked
  mark_stands e acc bal = go (d ins val)
    where
      kept : s ≡ set s ins (join (get_or s ins 0) (val - 1))
      kept = sym (set-get_or s ins 0) ∙ ap (set s ins) (sym is ∙ sym e ∙ new_byte)

      go : (b : Bool) → s ≡ cond b (set s ins (join (get_or s ins 0) (val - 1))) s
      go true = kept
      go false = refl

  pub mark_none : d ins val ≡ false → (acc bal : ℕ) → s ≡ marked d s (Phase2b ins acc bal val)
  unfolding marked
  mark_none e acc bal = rw e

  pub mark_set : d ins val ≡ true → (s' : List ℕ) → s' ≡ set s ins new → (acc bal : ℕ) → s' ≡ marked d s (Phase2b ins acc bal val)
  unfolding marked
  mark_set e s' done acc bal = rw (e, ← new_byte) done

module _ (s : List ℕ) (ins bal val : ℕ) where
  pub decline_later : (bal ≡ 0 → ⊥) → (d : ℕ → ℕ → Bool) → s ≡ marked d s (Phase2a ins bal val)
  decline_later later d = sym (marked_no_decline d s ins bal val (λ (first, two). later first))

  pub decline_other : (val ≡ 2 → ⊥) → (d : ℕ → ℕ → Bool) → s ≡ marked d s (Phase2a ins bal val)
  decline_other other d = sym (marked_no_decline d s ins bal val (λ (first, two). other two))

  pub decline_set : bal ≡ 0 → val ≡ 2 → (byte : ℕ) → byte ≡ get_or s ins 0 → (new : ℕ) → new ≡ join byte 1 → (s' : List ℕ) → s' ≡ set s ins new
      → (d : ℕ → ℕ → Bool) → s' ≡ marked d s (Phase2a ins bal val)
  unfolding marked
  decline_set first aborted byte is new of-new s' done d = rw (first, aborted) (done ∙ ap (set s ins) (of-new ∙ ap (λ (b : ℕ). join b 1) is))
