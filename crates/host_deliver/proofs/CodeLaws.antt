-- A delivery whose answer became a number. Assumes nothing.
use Rattle.std.specs.Prelude.{ℕ, ◌≡◌}
use Rattle.std.proofs.Common.{◌∙◌, ap}
use Rattle.deliver.specs.Deliver.{Delivery}
use Rattle.host_code.specs.Code.{answer_code}
use Rattle.host_deliver.specs.Code.{host_delivery, host_delivery_of}

pub delivery_coded : {d e : Delivery} → d ≡ e → {code : ℕ} → code ≡ answer_code d.answer → host_delivery code d.network ≡ host_delivery_of e
delivery_coded {d} is h = ap (λ (number : ℕ). host_delivery number d.network) h ∙ ap host_delivery_of is
