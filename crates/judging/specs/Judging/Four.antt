-- Rows 1 to 6 read no summary.
--     judged_four
-- Assumes nothing.
use Rattle.std.specs.Prelude.{◌≡◌, refl}
use Rattle.message.specs.declared.Plan.{Plan}
use Rattle.opening.specs.Opening.{Tables, four, are_lengths}
use Rattle.judging.specs.Judging.{record_judged}

pub judged_four : (p : Plan) (t : Tables) → record_judged p (four t) ≡ record_judged p t
unfolding record_judged are_lengths
judged_four p t = refl
