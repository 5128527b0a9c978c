-- How an order stands, from its W (document 01, "The rehearsal": "COMMITTED (all are), ABORTED (all are) and OPEN").
--     are_all      every byte of W is the state
--     ending_of    committed, aborted, or open
-- Its laws are in proofs/EndingLaws.antt. Assumes nothing.
use Rattle.std.specs.Prelude.{ℕ, Bool, cond, List, eqb}
use Rattle.slots.specs.All.{all}
use Rattle.tcommit.specs.RmState.{committed, aborted}
use Rattle.ending.specs.declared.Ending as EndingType
use Rattle.ending.specs.declared.Ending.TheVariants.{Committed, Aborted, Open}

unfoldable pub are_all : ℕ → List ℕ → Bool
are_all state = all (λ s. eqb s state)

unfoldable pub ending_of : List ℕ → EndingType.Ending
ending_of states = cond (are_all committed states) Committed (cond (are_all aborted states) Aborted Open)
