-- Rows 1 and 2 read no summary.
--     lengths_four
-- Assumes nothing.
use Rattle.std.specs.Prelude.{◌≡◌, refl}
use Rattle.message.specs.declared.Plan.{Plan}
use Rattle.opening.specs.Opening.{Tables, four, are_lengths, lengths_judged}

pub lengths_four : (p : Plan) (t : Tables) → lengths_judged p (four t) ≡ lengths_judged p t
unfolding lengths_judged are_lengths
lengths_four p t = refl
