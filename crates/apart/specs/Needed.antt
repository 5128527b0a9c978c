-- A list of happenings that breaks the order by one happening that is not genuine. An order of two weights, one acceptor and one leader.
--     Broken      what came before the one happening was genuine, so is what comes after it, and the row is broken
-- Such lists are in proofs/Needed.antt. Assumes nothing.
use Rattle.std.specs.Prelude.{ℕ, List, [], ◌∷◌, ◌++◌, ◌≡◌}
use Rattle.message.specs.declared.Plan.{Plan}
use Rattle.apart.specs.Hosts.{Role, rm, acceptor, leader, System, Happening, row, zero_hosts, system_after, AllGenuine}

abbrev pub order : Plan
order = record { rms = 2; acceptors = 1; leaders = 1; order = 0x0102 }

abbrev pub tables : Role → ℕ → ℕ
tables rm k = 2
tables acceptor k = 6
tables leader k = 40

abbrev pub summaries : Role → ℕ → ℕ
summaries rm k = 0
summaries acceptor k = 0
summaries leader k = 2

abbrev pub networks : Role → ℕ → ℕ
networks rm k = 24
networks acceptor k = 48
networks leader k = 64

abbrev pub fresh : System
fresh = zero_hosts tables summaries networks

-- the system that a list leaves
abbrev pub end : List Happening → System
end = system_after order fresh

-- genuine but for the one happening in the middle, and the row is broken
pub record Broken (before : List Happening) (one : Happening) (rest : List Happening) : Type 0 where
  pub genuine_before : AllGenuine order fresh before
  pub genuine_rest : AllGenuine order (end (before ++ (one ∷ []))) rest
  pub aborted : row (end (before ++ (one ∷ rest))) 0 ≡ 3
  pub committed : row (end (before ++ (one ∷ rest))) 1 ≡ 2
