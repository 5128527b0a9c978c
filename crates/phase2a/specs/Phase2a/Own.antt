-- The leader's own 2a: its place in the inbox is known from the one pass that found no 2a of its instance and ballot there.
--     Next               a message that is not in the inbox, and its place after the messages there
--     Proposes           the 2a with its place, or its refusal
--     refuses, proposes  the two answers
--     keep_next, keep_full     what is stored: the message in the next slot, or 14 where there is none
-- Assumes nothing.
use Rattle.std.specs.Prelude.{ℕ, zero, suc, ◌/◌, ◌≤◌, ◌<◌, Bool, true, false, ◌||◌, List, [], ◌∷◌, ◌≡◌, refl, length, Option}
use Rattle.std.proofs.lemmas.Bool.{false≢true}
use Rattle.std.proofs.Common.{sym, ◌∙◌, ap, subst, eq-eqb}
use Rattle.message.specs.declared.Plan.{Plan}
use Rattle.message.specs.declared.Message.{Message}
use Rattle.message.specs.declared.Message.TheVariants.{Phase2a}
use Rattle.message.specs.Outcome.{Outcome, accepted, refused, and_then}
use Rattle.message.proofs.Outcome.Laws.{accepted_inj, accepted_not_refused}
use Rattle.slots.specs.Table.{slot_size}
use Rattle.slots.specs.Send.{message_at}
use Rattle.slots.specs.declared.Put.{Put}
use Rattle.slots.specs.View.{sending, put_at}
use Rattle.slots.specs.View.Bytes.{view_bytes}
use Rattle.slots.proofs.View.Laws.{Absent, send_absent, send_absent_full}
use Rattle.change.specs.declared.Sent.TheVariants.{Slot}
use Rattle.change.specs.declared.Update.TheVariants.{Inbox}
use Rattle.inbox.specs.Inbox.{any, is2a}
use Rattle.phase2a.specs.Phase2a.{phase2a_message, keep_own}

-- the message is not in the inbox, and its place is after the messages there
pub record Next (inbox : List Message) (m : Message) (place : ℕ) : Type 0 where
  pub absent : Absent inbox m
  pub after : place ≡ length inbox

-- the 2a with its place in the inbox, or its refusal
pub record Proposes (p : Plan) (inbox : List Message) (who i b : ℕ) (answer : Outcome Put) : Type 0 where
  pub message : and_then answer (λ own. accepted own.m) ≡ phase2a_message p inbox who i b
  pub next : (own : Put) → answer ≡ accepted own → Next inbox own.m own.place

-- a message that passes a test is not among messages that fail it
absent_any : (test : Message → Bool) (m : Message) → test m ≡ true → (ms : List Message) → any test ms ≡ false → Absent ms m
unfolding any message_at
absent_any test m h [] none k e = accepted_not_refused e
absent_any test m h (x ∷ ms) none zero e =
    let passes : test x ≡ true = ap test (accepted_inj e) ∙ h in
    false≢true (sym none ∙ ap (λ (t : Bool). t || any test ms) passes)
absent_any test m h (x ∷ ms) none (suc k) e = absent_any test m h ms (rest (test x) none) k e
  where
    rest : (t : Bool) → (t || any test ms) ≡ false → any test ms ≡ false
    rest true n = absurd (false≢true (sym n))
    rest false n = n

absent_2a : (i b val : ℕ) (ms : List Message) → any (is2a i b) ms ≡ false → Absent ms (Phase2a i b val)
unfolding is2a
absent_2a i b val = absent_any (is2a i b) (Phase2a i b val) (rw (eq-eqb i i refl, eq-eqb b b refl))

module _ (p : Plan) (inbox : List Message) (who i b : ℕ) where
  pub refuses : (number : ℕ) → refused number ≡ phase2a_message p inbox who i b → Proposes p inbox who i b (refused number)
  unfolding and_then
  refuses number e = record { message = e; next = λ own f. absurd (accepted_not_refused f) }

  pub proposes : (place val : ℕ) → accepted (Phase2a i b val) ≡ phase2a_message p inbox who i b → any (is2a i b) inbox ≡ false → place ≡ length inbox
      → Proposes p inbox who i b (accepted (record { place = place; m = Phase2a i b val }))
  unfolding and_then
  proposes place val e none after = record { message = e; next = next }
    where
      next : (own : Put) → accepted (record { place = place; m = Phase2a i b val }) ≡ accepted own → Next inbox own.m own.place
      next own f =
          subst (λ (x : Put). Next inbox x.m x.place) (accepted_inj f) (record { absent = absent_2a i b val inbox none; after = after })

module _ (p : Plan) (t : List ℕ) (m : Message) (place : ℕ) (next : Next (view_bytes p t).messages m place) (slot : ℕ) (store : Option Put) where
  pub keep_next : place < length t / slot_size
      → accepted (record { table = Inbox (put_at place m); network = store; sent = Slot slot }) ≡ keep_own (view_bytes p t) m slot store
  unfolding keep_own sending
  keep_next h = rw (send_absent p t m next.absent place next.after h)

  pub keep_full : length t / slot_size ≤ place → refused 14 ≡ keep_own (view_bytes p t) m slot store
  unfolding keep_own sending
  keep_full h = rw (send_absent_full p t m next.absent place next.after h)
