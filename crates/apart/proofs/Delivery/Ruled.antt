-- A delivery along its rows, and what it puts into N.
--     deliver_ruled         the rows, along the definition: 13 is tested last, and speaks of a message that was read, so none of 15 to 18 applies beside it
--     sends_of_delivery     an accepted delivery has put the message into N
-- Assumes nothing.
use Rattle.std.specs.Prelude.{ℕ, true, not, false, List, ◌≡◌, length, None, Option, Some}
use Rattle.std.proofs.Math.Bool.{false≢true}
use Rattle.std.proofs.Math.Path.{refl, subst}
use Rattle.std.proofs.Common.{sym, ◌∙◌}
use Rattle.std.proofs.lemmas.Bool.{not-true, not-false}
use Rattle.message.specs.declared.Plan.{Plan}
use Rattle.message.specs.declared.Message.{Message}
use Rattle.message.specs.Outcome.{Outcome, accepted, refused, and_then}
use Rattle.message.proofs.Outcome.Laws.{accepted_inj, accepted_not_refused}
use Rattle.message.specs.Plan.{is_plan}
use Rattle.message.specs.Codec.{read_message}
use Rattle.message.proofs.Codec.Laws.{read_message_form}
use Rattle.message.proofs.Codec.Answers.{reader_ruled}
use Rattle.message.specs.Rows.{Rows, guard, row, here, below}
use Rattle.message.proofs.Rows.Laws.{Ruled}
use Rattle.message.specs.Theorems.{bytes_rows}
use Rattle.slots.specs.declared.Sending.{Sending}
use Rattle.slots.specs.Table.{is_table_length, is_table}
use Rattle.slots.specs.View.{view_table}
use Rattle.change.specs.declared.Sent.{Sent}
use Rattle.deliver.specs.Deliver.{Delivery, deliver_judged, deliver_put, deliver_read, deliver_step}
use Rattle.deliver.specs.Deliver.Laws.{delivered}
use Rattle.matching.specs.Call.{HasRoom, Sends}
use Rattle.matching.proofs.Call.Laws.{stored, has_room, no_room, clash, ruled_judged, ruled_sound}
use Rattle.apart.specs.Delivery.{NoPlace, deliver_rows}

-- a row that does not apply
ruled_drop : {A : Type 0} (k : ℕ) (t : Type 1) (rows : Rows) (o : Outcome A) → (t → ⊥) → Ruled o (guard k t rows) → Ruled o rows
unfolding Ruled
ruled_drop k t rows (accepted a) never r = r.1
ruled_drop k t rows (refused j) never (here h) = absurd (never h.1)
ruled_drop k t rows (refused j) never (below h) = h.1

module _ (p : Plan) (network bytes : List ℕ) where
  abbrev answered : Outcome Message → Outcome Sent
  answered o = (deliver_read p (view_table p network) network o).answer

  in_order : (j : Outcome (Unit {0})) (o : Outcome Message) → answered (and_then j (λ _. o)) ≡ and_then j (λ _. answered o)
  unfolding and_then
  in_order (accepted a) o = refl
  in_order (refused k) o = refl

  read_ruled : is_plan p ≡ true → Ruled (answered (read_message p bytes)) (row 13 (NoPlace p network bytes) (bytes_rows p bytes))
  unfolding Ruled
  read_ruled plan =
      go (read_message p bytes) refl
      (ruled_drop 1 ((is_plan p ≡ false) × Unit {1}) (bytes_rows p bytes) (read_message p bytes) (λ h. false≢true (sym h.0 ∙ plan)) (reader_ruled p bytes))
    where
      go : (o : Outcome Message) → read_message p bytes ≡ o → Ruled o (bytes_rows p bytes) → Ruled (answered o) (row 13 (NoPlace p network bytes) (bytes_rows p bytes))
      go (refused k) is r = below (λ ((m, e, full), _). accepted_not_refused (sym is ∙ e), r)
      go (accepted m) is r = put ((view_table p network).send m) refl
        where
          put : (send : Option Sending) → (view_table p network).send m ≡ send → Ruled (deliver_put p network send).answer (row 13 (NoPlace p network bytes) (bytes_rows p bytes))
          put None at = here (refl, ((m, is, no_room p network m at), tt))
          put (Some s) at =
              (λ ((n, e, full), _). full (subst (HasRoom p network) (accepted_inj (sym is ∙ e)) (has_room p network m s.slot s.put at)), r)

  pub deliver_ruled : Ruled (deliver_step p network bytes).answer (deliver_rows p network bytes)
  unfolding deliver_step deliver_judged
  deliver_ruled = subst (λ (o : Outcome Sent). Ruled o (deliver_rows p network bytes)) (sym (in_order (deliver_judged p network) (read_message p bytes))) judged
    where
      next : Unit {0} → Outcome Sent
      next _ = answered (read_message p bytes)

      judged : Ruled (and_then (deliver_judged p network) next) (deliver_rows p network bytes)
      judged =
          ruled_judged next (not (is_plan p)) 1 _ _ _ (not-true (is_plan p)) (clash (is_plan p)) (λ plan.
          ruled_judged next (not (is_table_length (length network))) 2 _ _ _ (not-true _) (clash _) (λ whole.
          ruled_judged next (not (is_table p network)) 5 _ _ _ (not-true _) (clash _) (λ ordered.
          ruled_sound next tt _ (read_ruled (not-false _ plan)))))

  pub sends_of_delivery : (sent : Sent) → (deliver_step p network bytes).answer ≡ accepted sent
      → (m : Message) × (read_message p bytes ≡ accepted m) × Sends p network m (deliver_step p network bytes).answer (deliver_step p network bytes).network
  sends_of_delivery sent is =
      let d = delivered p network bytes sent is in
      let s = stored p network d.plan d.whole d.ordered d.message (read_message_form p bytes d.message d.read).in_range d.slot d.store d.send in (
        d.message,
        d.read,
        subst (λ (r : Delivery). Sends p network d.message r.answer r.network) (sym d.step)
            (record { slot = d.slot; answered = refl; stands = s.stands; first = s.first; stores = s.stores }),
      )
