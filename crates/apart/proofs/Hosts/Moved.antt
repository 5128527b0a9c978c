-- One host has new tables, and what was sent is put on the wire: the definitions taken apart.
--     except_other                           a function changed at one number, at another
--     new_host, old_host                     the host that has new tables, and every other
--     wire_slot, wire_quiet, wire_refused    the wire after a call, by its answer
--     only_is                                the message of an outcome
--     step_words                             a step of Transaction Commit in numbers
-- Assumes nothing.
use Rattle.std.specs.Prelude.{ℕ, ◌<◌, ◌⊎◌, ◌≡◌, refl}
use mathlib.Core.List.Memᴰ
use mathlib.Core.List.{◌∷◌, Memᴰ}
use Rattle.std.proofs.Common.{inl, inr, sym, ◌∙◌, ap}
use Rattle.message.specs.declared.Plan.{Plan}
use Rattle.message.specs.declared.Message as Wire
use Rattle.message.specs.Outcome.{Outcome, accepted, refused}
use Rattle.slots.specs.Table.{messages}
use Rattle.slots.specs.Send.{message_at}
use Rattle.change.specs.declared.Sent.TheVariants.{Slot, Quiet}
use Rattle.tcommit.specs.TCommit.{except, TCNext}
use Rattle.tcommit.proofs.TCommit.Laws.{except_cases, except_here}
use Rattle.apart.specs.Hosts.{Role, rm, acceptor, leader, Host, System, Left, put_host, only, sent_by, after}

pub except_other : {A : Type 0} (f : ℕ → A) (k : ℕ) (v : A) (j : ℕ) → (j ≡ k → ⊥) → except f k v j ≡ f j
except_other f k v j other = except_cases (λ i u. (i ≡ k → ⊥) → u ≡ f i) f k v (λ n. absurd (n refl)) (λ i d n. refl) j other

module _ (f : Role → ℕ → Host) where
  pub new_host : (role : Role) (k : ℕ) (h : Host) → put_host f role k h role k ≡ h
  new_host rm k h = except_here (f rm) k h
  new_host acceptor k h = except_here (f acceptor) k h
  new_host leader k h = except_here (f leader) k h

  pub old_host : (role : Role) (k : ℕ) (h : Host) (q : Role) (j : ℕ) → (q ≡ role → j ≡ k → ⊥) → put_host f role k h q j ≡ f q j
  old_host rm k h rm j other = except_other (f rm) k h j (other refl)
  old_host rm k h acceptor j other = refl
  old_host rm k h leader j other = refl
  old_host acceptor k h rm j other = refl
  old_host acceptor k h acceptor j other = except_other (f acceptor) k h j (other refl)
  old_host acceptor k h leader j other = refl
  old_host leader k h rm j other = refl
  old_host leader k h acceptor j other = refl
  old_host leader k h leader j other = except_other (f leader) k h j (other refl)

module _ (p : Plan) (s : System) (role : Role) (k : ℕ) (r : Left) where
  pub wire_slot : (slot : ℕ) (m : Wire.Message) → r.answer ≡ accepted (Slot slot) → message_at (messages p r.host.network) slot ≡ accepted m
      → (after s role k r (sent_by p r)).wire ≡ m ∷ s.wire
  wire_slot slot m is stands = rw (is, stands) refl

  pub wire_quiet : r.answer ≡ accepted Quiet → (after s role k r (sent_by p r)).wire ≡ s.wire
  wire_quiet is = rw is refl

  pub wire_refused : (number : ℕ) → r.answer ≡ refused number → (after s role k r (sent_by p r)).wire ≡ s.wire
  wire_refused number is = rw is refl

pub only_is : (o : Outcome Wire.Message) (m : Wire.Message) → Memᴰ m (only o) → o ≡ accepted m
only_is (accepted x) m there = ap accepted (sym (Memᴰ.eq_of_singleton there))
only_is (refused number) m there = absurd (Memᴰ.not-nil there)

module _ (n : ℕ) (W W' : ℕ → ℕ) where
  -- weight i alone changes
  module _ (i v : ℕ) (e : W' ≡ except W i v) where
    new : W' i ≡ v
    new = ap (λ (f : ℕ → ℕ). f i) e ∙ except_here W i v

    old : (j : ℕ) → (j ≡ i → ⊥) → W' j ≡ W j
    old j other = ap (λ (f : ℕ → ℕ). f j) e ∙ except_other W i v j other

  pub step_words : TCNext (λ i. i < n) W W'
      → (i : ℕ) × (i < n)
      × ((j : ℕ) → (j ≡ i → ⊥) → W' j ≡ W j)
      × (((W i ≡ 0) × (W' i ≡ 1))
      ⊎ (((W i ≡ 1) × (W' i ≡ 2) × ((j : ℕ) → j < n → (W j ≡ 1) ⊎ (W j ≡ 2)))
      ⊎ (((W i ≡ 0) ⊎ (W i ≡ 1)) × (W' i ≡ 3) × ((j : ℕ) → j < n → W j ≡ 2 → ⊥))))
  step_words (i, member, inl (works, e)) = (i, member, old i 1 e, inl (works, new i 1 e))
  step_words (i, member, inr (inl (ready, all, e))) = (i, member, old i 2 e, inr (inl (ready, new i 2 e, all)))
  step_words (i, member, inr (inr (undecided, none, e))) = (i, member, old i 3 e, inr (inr (undecided, new i 3 e, none)))
