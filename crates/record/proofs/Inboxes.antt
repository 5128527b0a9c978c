-- Storing in the part of I, or of the summary, that the code takes: it is leader l's (`part_is` of the crate `verdict`).
--     put_part, part_put    I, or the summary, with other bytes in that part
-- Assumes nothing.
use Prim.Native.Nat.{ℕ, ◌+◌, ◌-◌, ◌*◌, ◌/◌}
use mathlib.Core.List.{List}
use mathlib.Core.Path.{◌≡◌}
use native.Mathlib.Nat.{add-sub_cancel_left}
use lib.ListN.{length}
use lib.Seq.{drop-drop}
use borrow.Rule.Slice.PartMut.{put_mid}
use Rattle.message.specs.declared.Plan.{Plan}
use Rattle.record.specs.Record.{inbox_size, with_inbox}

-- the bytes with others put in that part
abbrev pub put_part : ℕ → List ℕ → ℕ → List ℕ → List ℕ
put_part size bytes l part = put_mid (l * size) (l * size + size - l * size) bytes part

module _ (p : Plan) (bytes : List ℕ) (size : ℕ) (of_size : size ≡ length bytes / p.leaders) (l : ℕ) where
  pub part_put : (part : List ℕ) → put_part size bytes l part ≡ with_inbox p bytes l part
  unfolding with_inbox inbox_size
  part_put part = rw (add-sub_cancel_left (l * size) size, drop-drop size (l * size) bytes, of_size)
