-- Judging Q (document 01, "The plan and four tables", and row 4 of "Refusals by place"): three bytes for each place, mbal, bal and val.
--     is_vote_state   whether bal and val are in order
--     are_votes       whether they are at every place
-- Which place is whose is `vote_at` of the crate `acceptor`. Laws are in Votes/Laws.antt. Assumes nothing.
pub mod Laws
use Rattle.std.specs.Prelude.{ℕ, Bool, true, ◌&&◌, ◌||◌, List, [], ◌∷◌, leb, eqb}

-- val 1, 2, or 0 for no vote; with val 0, bal is 0
unfoldable pub is_vote_state : ℕ → ℕ → Bool
is_vote_state bal val = leb val 2 && (leb 1 val || eqb bal 0)

unfoldable pub are_votes : List ℕ → Bool
are_votes [] = true
are_votes (mbal ∷ []) = true
are_votes (mbal ∷ bal ∷ []) = true
are_votes (mbal ∷ bal ∷ val ∷ votes) = is_vote_state bal val && are_votes votes
