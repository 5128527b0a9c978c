-- The text in literal numbers and in document 01's words ("The rehearsal"), so that a wrong definition is refused here.
--     line_examples, word_bytes         lines and words as ASCII
--     put_room, put_nothing, put_cut    a text that has room, one that has none, and one that has some
-- Assumes nothing.
use Rattle.std.specs.Prelude.{ℕ, ◌+◌, ◌≤◌, List, [], ◌∷◌, ◌++◌, map, ◌≡◌, refl, length, take, drop}
use Rattle.ending.specs.declared.Ending.TheVariants.{Committed, Aborted, Open}
use Rattle.rehearsal_text.specs.Text.{ascii, line, word_of, put_of, put}
use Rattle.rehearsal_text.proofs.Text.Laws.{put_within, put_full}

pub line_examples : map line (0 ∷ 7 ∷ 10 ∷ 14 ∷ 27 ∷ 255 ∷ [])
    ≡ ascii "0\n" ∷ ascii "7\n" ∷ ascii "10\n" ∷ ascii "14\n" ∷ ascii "27\n" ∷ ascii "255\n" ∷ []
unfolding line
line_examples = refl

pub word_bytes : (word_of Committed ≡ 0x43 ∷ 0x4F ∷ 0x4D ∷ 0x4D ∷ 0x49 ∷ 0x54 ∷ 0x54 ∷ 0x45 ∷ 0x44 ∷ 0x0A ∷ [])
    × (word_of Aborted ≡ 0x41 ∷ 0x42 ∷ 0x4F ∷ 0x52 ∷ 0x54 ∷ 0x45 ∷ 0x44 ∷ 0x0A ∷ [])
    × (word_of Open ≡ 0x4F ∷ 0x50 ∷ 0x45 ∷ 0x4E ∷ 0x0A ∷ [])
word_bytes = (refl, refl, refl)

module _ (at : ℕ) (text buffer : List ℕ) where
  pub put_room : at + length text ≤ length buffer
      → put at text buffer ≡ put_of (at + length text) (take at buffer ++ text ++ drop (at + length text) buffer)
  put_room = put_within at text buffer

  pub put_nothing : length buffer ≤ at → put at text buffer ≡ put_of at buffer
  put_nothing = put_full at text buffer

-- a text that is longer than the room is cut where the buffer ends
pub put_cut : put 1 (7 ∷ 8 ∷ 9 ∷ []) (0 ∷ 0 ∷ 0 ∷ []) ≡ put_of 3 (0 ∷ 7 ∷ 8 ∷ [])
unfolding put
put_cut = refl
