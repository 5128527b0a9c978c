-- Slots that Phase2a passes.
--     passed_word                        a slot whose first word is not sought can be passed
--     all_none, _next, _fewer, _join     no slot, one slot further, fewer slots, two runs of slots in a row
--     all_met                            one slot of a block further, by the answers for its slots put together
--     gathers_passed                     slots that are passed add nothing to what was gathered
-- Assumes nothing.
use Prim.Native.Nat.{ℕ, zero, suc, ◌+◌, ◌-◌, ◌*◌, ◌%◌, ◌≤◌, ◌<◌}
use mathlib.Core.Bool.{Bool, ◌&&◌, ◌||◌, false}
use mathlib.Core.List.{List}
use mathlib.Core.Path.{◌≡◌, ◌∙◌, subst}
use native.Mathlib.Decide.{ℕ_discrete, dec_le}
use native.Mathlib.Nat.{add-zero, le_trans}
use native.Mathlib.Omega.{arith}
use lib.Bits.{bit_and, and_block, and_mask, and_zero_r}
use lib.Dec.{eqb, lit<}
use lib.ListN.{get_or}
use borrow.Author.Tests.{eq-eqb, ne_eqb}
use Rattle.message.specs.declared.Message.{Message}
use Rattle.message.specs.Form.{map2a}
use Rattle.slots.specs.Table.{slot_size}
use Rattle.slots.specs.Table.Words.{Word, WordFrom}
use Rattle.slots.proofs.Table.Words.Laws.{below_next}
use Rattle.slots.specs.Table.Scan.{edge}
use Rattle.std.proofs.lemmas.Bool.{or_parts}
use Rattle.inbox.specs.declared.Gathered.{Gathered}
use Rattle.inbox.specs.Inbox.Slots.{message_at, ahead, ahead_next}
use Rattle.inbox.specs.Inbox.Reports.{report_step, Gathers, gathers_next}
use Rattle.inbox.specs.Inbox.Blocks.{bit1b, Passed, AllPassed}
use Rattle.inbox.proofs.Reporting.{skip_other}

-- two bytes of which the higher is kept, and of the lower what `mask` has
two_bytes : (high low mask : ℕ) → high < 256 → low < 256 → mask < 256 → bit_and (high * 256 + low) (0xFF * 256 + mask) ≡ high * 256 + bit_and low mask
two_bytes high low mask h l m = and_block 8 high 0xFF low mask l m ∙ rw (and_mask high 8) (omega arith)

module _ {b0 b1 b2 b3 w : ℕ} (x : Word b0 b1 b2 b3 w) where
  parts_1b : bit_and w 0xFF00FF04 ≡ bit_and b0 bit1b + b1 * 0x100 + b3 * 0x1000000
  parts_1b =
      let low : b1 * 256 + b0 < 65536 = omega (arith, x) in
      let same : (b3 * 256 + b2) * 65536 + (b1 * 256 + b0) ≡ w = omega (arith, x.sum) in
      let of-high = two_bytes b3 b2 0 (omega (arith, x)) (omega (arith, x)) (lit< tt) in
      let of_low = two_bytes b1 b0 bit1b (omega (arith, x)) (omega (arith, x)) (lit< tt) in
      rw same at (and_block 16 (b3 * 256 + b2) 0xFF00 (b1 * 256 + b0) 0xFF04 low (lit< tt))
      ∙ rw (of-high, of_low, and_zero_r b2) (omega arith)

  word_1b : {i b v : ℕ} → Word bit1b i 0 b v → bit_and b0 bit1b ≡ bit1b → b1 ≡ i → b3 ≡ b → bit_and w 0xFF00FF04 ≡ v
  word_1b y m e l = parts_1b ∙ omega (arith, y.sum, m, e, l)

  word_2a : {i b v : ℕ} → Word map2a i b 0 v → b0 ≡ map2a → b1 ≡ i → b2 ≡ b → w % 0x1000000 ≡ v
  word_2a y m e l = omega (arith, x.sum, x.digit3, y.sum, m, e, l)

-- `w` is the slot's first word; `v` and `u` are what is sought
pub passed_word : (i b : ℕ) (t : List ℕ) (k w v u : ℕ) → WordFrom t (k * slot_size) w → Word bit1b i 0 b v → Word map2a i b 0 u
    → (bit_and w 0xFF00FF04 ≡ v → ⊥) → (w % 0x1000000 ≡ u → ⊥) → Passed i b t k
passed_word i b t k w v u reads of-1b of-2a no_1b no_2a =
    record {
      no_1b = λ m e l. no_1b (word_1b reads of-1b m e l);
      no_2a = λ m e l. no_2a (word_2a reads of-2a m e l);
    }

module _ (i b : ℕ) (t : List ℕ) (from : ℕ) where
  pub all_none : (to : ℕ) → to ≤ from → AllPassed i b t from to
  all_none to h = record { each = λ k l above. absurd (omega arith) }

  pub all_next : (to : ℕ) → AllPassed i b t from to → Passed i b t to → AllPassed i b t from (to + 1)
  all_next to x last = record { each = below_next (λ (k : ℕ). from ≤ k → Passed i b t k) to x.each (λ above. last) }

  pub all_fewer : (to n : ℕ) → n ≤ to → AllPassed i b t from to → AllPassed i b t from n
  all_fewer to n h x = record { each = λ k l above. x.each k (le_trans l h) above }

  pub all_join : (mid to : ℕ) → AllPassed i b t from mid → AllPassed i b t mid to → AllPassed i b t from to
  all_join mid to x y =
      record {
        each = λ k l above.
            elim (dec_le mid k) [
              | yes high ↦ y.each k l high
              | no low ↦ x.each k (omega arith) above
            ];
      }

  -- one slot of a block further: `any` of the slots so far, and `x` of the next
  pub all_met : (j : ℕ) (any x : Bool) → (any ≡ false → AllPassed i b t from (from + j)) → (x ≡ false → Passed i b t (from + j))
      → (any || x) ≡ false → AllPassed i b t from (from + (j + 1))
  all_met j any x before last none =
      let next : from + j + 1 ≡ from + (j + 1) = omega arith in
      let both = or_parts any x none in
      rw next at (all_next (from + j) (before both.0) (last both.1))

not_both : (x i y b : ℕ) → (x ≡ i → y ≡ b → ⊥) → (eqb x i && eqb y b) ≡ false
not_both x i y b n =
    elim (ℕ_discrete x i) [
      | yes e ↦ rw (eq-eqb x i e, ne_eqb y b (n e))
      | no k ↦ rw (ne_eqb x i k)
    ]

skip_slot : (i b : ℕ) (t : List ℕ) (k : ℕ) → Passed i b t k → (g : Gathered) → g ≡ report_step i b g (message_at t (k * slot_size))
skip_slot i b t k x g =
    let at = k * slot_size in
    let no_1b : bit_and (get_or t at 0) bit1b ≡ bit1b → (eqb (get_or t (at + 1) 0) i && eqb (get_or t (at + 3) 0) b) ≡ false =
    λ m. not_both (get_or t (at + 1) 0) i (get_or t (at + 3) 0) b (x.no_1b m) in
    skip_other i b g t at (λ is. not_both (get_or t (at + 1) 0) i (get_or t (at + 2) 0) b (x.no_2a is)) (λ is. no_1b (rw is)) (λ is. no_1b (rw is))

module _ (i b : ℕ) (ms : List Message) (t : List ℕ) (used : ℕ) (of-used : used ≡ edge t) (g : Gathered) (from to : ℕ) (within : to ≤ used)
    (all : AllPassed i b t from to) (inv : Gathers i b ms g (ahead t from)) where
  gathers_slots : (j : ℕ) → from + j ≤ to → Gathers i b ms g (ahead t (from + j))
  gathers_slots zero l = rw (add-zero from) inv
  gathers_slots (suc j) l =
      let next : from + j + 1 ≡ from + suc j = omega arith in
      let slot = all.each (from + j) (omega arith) (omega arith) in
      subst (λ (k : ℕ). Gathers i b ms g (ahead t k)) next
      (gathers_next i b ms g (ahead t (from + j)) (gathers_slots j (omega arith))
      (message_at t ((from + j) * slot_size)) (ahead t (from + j + 1)) (ahead_next t used of-used (from + j) (omega arith))
      g (skip_slot i b t (from + j) slot g))

  pub gathers_passed : from ≤ to → Gathers i b ms g (ahead t to)
  gathers_passed h =
      let end : from + (to - from) ≡ to = omega arith in
      subst (λ (k : ℕ). Gathers i b ms g (ahead t k)) end (gathers_slots (to - from) (omega arith))
