-- A receipt on judged tables: what the code then reads from the bytes of the inbox is what its messages say; it keeps its length, and N its bytes.
--     received_same
-- Assumes nothing.
use Rattle.std.specs.Prelude.{ℕ, Bool, not, List, ◌≡◌, eqb, length, None, Option, Some}
use Rattle.std.proofs.Math.Bool.{true, false}
use Rattle.std.proofs.Math.Path.{refl, sym}
use Rattle.std.proofs.Common.{◌∙◌}
use Rattle.message.specs.declared.Plan.{Plan}
use Rattle.message.specs.declared.Message.{Message}
use Rattle.message.specs.declared.Message.TheVariants.{Phase1a, Phase1b, Phase2a, Phase2b, Decision}
use Rattle.message.specs.Outcome.{Outcome, accepted, refused, and_then, refuse_if}
use Rattle.message.proofs.Outcome.Laws.{accepted_not_refused}
use Rattle.message.specs.Form.{is_in_range}
use Rattle.slots.specs.declared.Put.{Put}
use Rattle.slots.specs.declared.Sending.{Sending}
use Rattle.slots.specs.Table.{messages}
use Rattle.slots.proofs.Table.Holds.{holds_judged, table_holds, length_holds}
use Rattle.slots.specs.Send.{message_at}
use Rattle.slots.proofs.SendLaws.{messages_holds, slot_in_range}
use Rattle.slots.specs.View.{View, view_table, sending}
use Rattle.slots.specs.View.Bytes.{view_bytes}
use Rattle.slots.proofs.View.Laws.{send_sent}
use Rattle.change.specs.declared.Change.{Change}
use Rattle.change.specs.declared.Update.TheVariants.{Inbox}
use Rattle.change.specs.declared.Sent.{Sent}
use Rattle.change.specs.declared.Sent.TheVariants.{Quiet}
use Rattle.change.specs.Change.{Step, applied}
use Rattle.event.specs.Event.{kind_of, slot_number, is_event}
use Rattle.leader.specs.Leader.{receipt_store, receipt, leader_kind, leader_verdict_by, leader_step_by}
use Rattle.leader.specs.Leader.Sound.{Sound, judged}

module _ (p : Plan) (isDecided : ℕ → ℕ → Bool) (inbox network e : List ℕ) (s : Sound p inbox network) (sent : Sent) where
  abbrev box : View
  box = view_table p inbox

  abbrev Same : Step → Type 0
  Same r = ((view_bytes p r.table).messages ≡ messages p r.table) × (length r.table ≡ length inbox) × (r.network ≡ network)

  -- what `receipt_store` changes
  abbrev kept : ℕ → Option Put → Outcome Change
  kept slot store = accepted (record { table = Inbox store; network = None; sent = Quiet })

  stored : (m : Message) → is_in_range p m ≡ true → (applied p inbox network (receipt_store box m)).answer ≡ accepted sent
      → Same (applied p inbox network (receipt_store box m))
  unfolding receipt_store sending
  stored m range = go (box.send m) refl
    where
      go : (q : Option Sending) → box.send m ≡ q → (applied p inbox network (sending 14 q kept)).answer ≡ accepted sent → Same (applied p inbox network (sending 14 q kept))
      go (Some q) e is =
          let before = holds_judged p inbox s.inbox_whole s.inbox_ordered in
          let held = (send_sent p _ (messages p inbox) m range q.slot q.put e).holds inbox before in (
            messages_holds p _ _ _ held ∙ sym (table_holds p _ _ _ held s.plan).1,
            length_holds p _ _ _ held ∙ sym (length_holds p _ _ _ before),
            refl,
          )
      go None e is = absurd (accepted_not_refused is)

  taken : (m : Message) → is_in_range p m ≡ true → (applied p inbox network (receipt box m)).answer ≡ accepted sent → Same (applied p inbox network (receipt box m))
  unfolding receipt refuse_if
  taken (Phase1a ins bal) range = λ is. absurd (accepted_not_refused is)
  taken (Phase1b ins acc mbal vote) range = stored (Phase1b ins acc mbal vote) range
  taken (Phase2a ins bal val) range = go (not (eqb bal 0))
    where
      go : (b : Bool) → (applied p inbox network (refuse_if b 9 (receipt_store box (Phase2a ins bal val)))).answer ≡ accepted sent
          → Same (applied p inbox network (refuse_if b 9 (receipt_store box (Phase2a ins bal val))))
      go true is = absurd (accepted_not_refused is)
      go false is = stored (Phase2a ins bal val) range is
  taken (Phase2b ins acc bal val) range = stored (Phase2b ins acc bal val) range
  taken (Decision val) range = λ is. absurd (accepted_not_refused is)

  pub received_same : kind_of e ≡ 4 → (leader_step_by p isDecided inbox network e).answer ≡ accepted sent → Same (leader_step_by p isDecided inbox network e)
  unfolding leader_step_by leader_verdict_by leader_kind and_then refuse_if
  received_same kind = rw (judged p inbox network s, s.plan, kind) (go (is_event p e) (message_at (messages p network) (slot_number e)) refl)
    where
      go : (b : Bool) (o : Outcome Message) → message_at (messages p network) (slot_number e) ≡ o
          → (applied p inbox network (refuse_if (not b) 7 (and_then o (receipt box)))).answer ≡ accepted sent
          → Same (applied p inbox network (refuse_if (not b) 7 (and_then o (receipt box))))
      go false o at is = absurd (accepted_not_refused is)
      go true (refused k) at is = absurd (accepted_not_refused is)
      go true (accepted m) at is = taken m (slot_in_range p network s.network_whole s.network_ordered (slot_number e) m at) is
