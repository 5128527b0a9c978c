-- The states of a resource manager as numbers (document 01: a weight's state, a byte of W).
--     working, prepared, committed, aborted
-- Assumes nothing.
use Rattle.std.specs.Prelude.{ℕ}

abbrev pub working : ℕ
working = 0

abbrev pub prepared : ℕ
prepared = 1

abbrev pub committed : ℕ
committed = 2

abbrev pub aborted : ℕ
aborted = 3
