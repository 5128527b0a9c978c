-- The part of I, or of the summary, that the code takes: `size` is a part's size.
--     part_of                          the part of leader l, as the code cuts it out
--     part_within, part_within_of     it ends within the bytes
--     part_is                         it is leader l's inbox, or leader l's bytes of the summary
-- Assumes nothing.
use Prim.Native.Nat.{ℕ, ◌+◌, ◌-◌, ◌*◌, ◌/◌, ◌≤◌, ◌<◌}
use mathlib.Core.List.{List}
use mathlib.Core.Path.{◌≡◌}
use native.Mathlib.Nat.{add-sub_cancel_left}
use native.Mathlib.Omega.{arith}
use lib.ListN.{length, take, drop}
use Rattle.message.specs.declared.Plan.{Plan}
use Rattle.opening.specs.Opening.{inbox_size}
use Rattle.judging.specs.Judging.{inbox_of}
use Rattle.opening.specs.Opening.Parts.{inbox_within}

abbrev pub part_of : ℕ → List ℕ → ℕ → List ℕ
part_of size bytes l = take (l * size + size - l * size) (drop (l * size) bytes)

module _ (p : Plan) (bytes : List ℕ) (size : ℕ) (of_size : size ≡ length bytes / p.leaders) (l : ℕ) where
  pub part_within : l < p.leaders → l * size + size ≤ length bytes
  unfolding inbox_size
  part_within h = rw of_size (inbox_within p bytes l (omega arith) h)

  pub part_within_of : (who : ℕ) → who ≡ l → l < p.leaders → who * size + size ≤ length bytes
  part_within_of who same h = rw same (part_within h)

  pub part_is : part_of size bytes l ≡ inbox_of p bytes l
  unfolding inbox_of inbox_size
  part_is = rw (add-sub_cancel_left (l * size) size, of_size)
