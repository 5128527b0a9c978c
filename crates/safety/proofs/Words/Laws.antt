-- Rows of states by their bytes.
--     stands, changed     rows of one length of which one entry differs
--     member_at           a number at a place of W that is not 0 is one of W
--     each_of_each        what holds of each call implies what follows from it of each call
-- Assumes nothing.
use Rattle.std.specs.Prelude.{ℕ, zero, suc, ◌<◌, ◌≡◌, length, get_or, set}
use mathlib.Core.List.{List, [], ◌∷◌, Memᴰ}
use Rattle.std.proofs.Common.{sym, ◌∙◌, ap, arith, length-set, ext_get_or, get_or-set_same, get_or-set_other}
use Rattle.std.proofs.Math.Decide.{dec_lt}
use Rattle.std.proofs.Math.ListN.{get_or-eq_default}
use Rattle.tcommit.specs.TCommit.{except}
use Rattle.tcommit.proofs.TCommit.Laws.{except_cases, except_here}
use Rattle.record.specs.Record.{Tables, RecordStep}
use Rattle.matching.specs.Reading.{rm_state_of}
use Rattle.safety.specs.Lists.{Each}

-- rows of one length, where weight i alone changes, and to no 0
module _ (W W' : List ℕ) (size : length W' ≡ length W) (i v : ℕ) (some : 0 < v) (e : rm_state_of W' ≡ except (rm_state_of W) i v) where
  stands : i < length W
  stands = go (dec_lt i (length W))
    where
      go : Dec (i < length W) → i < length W
      go (yes h) = h
      go (no h) =
          let new : get_or W' i 0 ≡ v = ap (λ (f : ℕ → ℕ). f i) e ∙ except_here (rm_state_of W) i v in
          let out : get_or W' i 0 ≡ 0 = get_or-eq_default W' 0 (omega arith) in
          absurd (omega arith)

  pub changed : W' ≡ set W i v
  changed = ext_get_or 0 W' (set W i v) (size ∙ sym (length-set W i v)) (λ j h. ap (λ (f : ℕ → ℕ). f j) e ∙ there j)
    where
      there : (j : ℕ) → except (rm_state_of W) i v j ≡ get_or (set W i v) j 0
      there = except_cases (λ y u. u ≡ get_or (set W i v) y 0) (rm_state_of W) i v (sym (get_or-set_same W i v 0 stands))
          (λ y other. sym (get_or-set_other W i y v 0 other))

-- a number at a place of W that is not 0 is one of W
pub member_at : (W : List ℕ) (i v : ℕ) → 0 < v → get_or W i 0 ≡ v → Memᴰ v W
member_at [] i v some e = absurd (omega arith)
member_at (x ∷ W) zero v some e = Memᴰ.head (sym e)
member_at (x ∷ W) (suc i) v some e = Memᴰ.tail (member_at W i v some e)

-- what holds of each call implies what follows from it of each call
pub each_of_each : (P Q : Tables → RecordStep → Type 0) → ((t : Tables) (r : RecordStep) → P t r → Q t r)
    → (t : Tables) (steps : List RecordStep) → Each P t steps → Each Q t steps
each_of_each P Q next t [] h = tt
each_of_each P Q next t (s ∷ ss) h = (next t s h.0, each_of_each P Q next s.tables ss h.1)
