-- What a delivery's number says.
--     delivery_means        a slot is its number, refusal k 65536 + k, and N stands beside it
--     deliver_examples      a message put into N, one that stands there, and each refusal, computed
-- Assumes nothing.
use Rattle.std.specs.Prelude.{ℕ, ◌+◌, ◌<◌, List, [], ◌∷◌, ◌≡◌, refl, replicate}
use Rattle.std.proofs.Common.{ap}
use Rattle.std.specs.Int.Count.{ones}
use Rattle.message.specs.Outcome.{accepted, refused, and_then, refuse_if}
use Rattle.message.specs.Plan.{is_count, is_plan}
use Rattle.message.specs.Form.{is_value, is_vote, is_in_range, bytes_of1b, bytes_of, message_length, slot_of, is_known, map_length, fields_message, decode, has_order}
use Rattle.message.specs.Codec.{read_message}
use Rattle.slots.specs.All.{all}
use Rattle.slots.specs.Table.{is_table_length, slots_up_to, slots, is_zero, read_slot, read_table, all_unused, is_ordered, is_table, used_messages, messages}
use Rattle.slots.specs.Table.{same_bytes, store_at}
use Rattle.slots.specs.Send.{same_message, place_from, place_in}
use Rattle.change.specs.declared.Sent.TheVariants.{Slot}
use Rattle.deliver.specs.Deliver.{deliver_judged, deliver_step}
use Rattle.host_code.specs.Code.{plan_of}
use Rattle.host_code.proofs.Theorems.{code_means}
use Rattle.host_deliver.specs.Code.{host_delivery, host_delivery_of}

pub delivery_means : (k : ℕ) (network : List ℕ)
    → ((host_delivery k network).code ≡ k)
    × ((host_delivery k network).network ≡ network)
    × (k < 1024 → host_delivery_of (record { answer = accepted (Slot k); network = network }) ≡ host_delivery k network)
    × (host_delivery_of (record { answer = refused k; network = network }) ≡ host_delivery (65536 + k) network)
delivery_means k network = (refl, refl, λ below. ap (λ (n : ℕ). host_delivery n network) (code_means.0 k below), refl)

-- a Commit of order 0102 into an N of two slots with a 2a in it, and again; then 13 and 15 to 18; and 1, 2 and 5, each before a slice that is
-- no message
pub deliver_examples :
    (host_delivery_of (deliver_step (plan_of 1 1 1 0x0102) (0x39 ∷ 0 ∷ 0 ∷ 1 ∷ 1 ∷ 2 ∷ replicate 10 0) (0x30 ∷ 1 ∷ 1 ∷ 2 ∷ []))
    ≡ host_delivery 1 (0x39 ∷ 0 ∷ 0 ∷ 1 ∷ 1 ∷ 2 ∷ 0 ∷ 0 ∷ 0x30 ∷ 1 ∷ 1 ∷ 2 ∷ replicate 4 0))
    × (host_delivery_of (deliver_step (plan_of 1 1 1 0x0102) (0x30 ∷ 1 ∷ 1 ∷ 2 ∷ replicate 12 0) (0x30 ∷ 1 ∷ 1 ∷ 2 ∷ []))
    ≡ host_delivery 0 (0x30 ∷ 1 ∷ 1 ∷ 2 ∷ replicate 12 0))
    × (host_delivery_of (deliver_step (plan_of 1 1 1 0x0102) (0x30 ∷ 1 ∷ 1 ∷ 2 ∷ replicate 4 0) (0x29 ∷ 0 ∷ 1 ∷ 1 ∷ 2 ∷ []))
    ≡ host_delivery 65549 (0x30 ∷ 1 ∷ 1 ∷ 2 ∷ replicate 4 0))
    × (host_delivery_of (deliver_step (plan_of 1 1 1 0x0102) (replicate 8 0) (0x10 ∷ 1 ∷ [])) ≡ host_delivery 65551 (replicate 8 0))
    × (host_delivery_of (deliver_step (plan_of 1 1 1 0x0102) (replicate 8 0) (0x30 ∷ 1 ∷ 1 ∷ [])) ≡ host_delivery 65552 (replicate 8 0))
    × (host_delivery_of (deliver_step (plan_of 1 1 1 0x0102) (replicate 8 0) (0x30 ∷ 3 ∷ 1 ∷ 3 ∷ [])) ≡ host_delivery 65553 (replicate 8 0))
    × (host_delivery_of (deliver_step (plan_of 1 1 1 0x0102) (replicate 8 0) (0x30 ∷ 1 ∷ 1 ∷ 3 ∷ [])) ≡ host_delivery 65554 (replicate 8 0))
    × (host_delivery_of (deliver_step (plan_of 0 1 1 0x0102) (replicate 7 0) (0x31 ∷ [])) ≡ host_delivery 65537 (replicate 7 0))
    × (host_delivery_of (deliver_step (plan_of 1 1 1 0x0102) (replicate 7 0) (0x31 ∷ [])) ≡ host_delivery 65538 (replicate 7 0))
    × (host_delivery_of (deliver_step (plan_of 1 1 1 0x0102) (0x31 ∷ replicate 7 0) (0x31 ∷ [])) ≡ host_delivery 65541 (0x31 ∷ replicate 7 0))
unfolding deliver_step deliver_judged read_message and_then refuse_if is_plan is_count map_length is_known ones decode fields_message has_order is_in_range is_vote is_value
    bytes_of bytes_of1b message_length slot_of all is_table_length slots_up_to slots is_zero read_slot read_table all_unused is_ordered is_table used_messages
    messages same_bytes store_at same_message place_from place_in
deliver_examples = (refl, refl, refl, refl, refl, refl, refl, refl, refl, refl)
