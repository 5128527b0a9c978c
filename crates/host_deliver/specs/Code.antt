-- A delivery for other languages: the number of its answer, and N.
--     HostDelivery, host_delivery, host_delivery_of
-- Its law is in proofs/CodeLaws.antt. Assumes nothing.
use Rattle.std.specs.Prelude.{ℕ, List}
use Rattle.deliver.specs.Deliver.{Delivery}
use Rattle.host_code.specs.Code.{answer_code}

pub record HostDelivery : Type 0 where
  pub code : ℕ
  pub network : List ℕ

-- the number, and N at exit
abbrev pub host_delivery : ℕ → List ℕ → HostDelivery
host_delivery code network = record { code = code; network = network }

abbrev pub host_delivery_of : Delivery → HostDelivery
host_delivery_of d = host_delivery (answer_code d.answer) d.network
