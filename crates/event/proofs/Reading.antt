-- What a read event says of its bytes.
--     kind_with_number        the kind with a kind's number is that kind
--     kind_number_with        the number of the kind with a number is that number
--     same_kind               kinds with one number are one kind
--     ReadBytes, read_bytes   the bytes are an event, and its fields are theirs
--     unread                  bytes that are read as none are no event
-- Assumes nothing.
use Rattle.std.proofs.Common.{ℕ, ◌+◌, ◌*◌, ◌≤◌, Bool, true, false, cond, List, ◌≡◌, Some, None, refl, sym, ◌∙◌, ap, arith}
use Rattle.std.proofs.lemmas.Bool.Decides.{nat_tests}
use Rattle.message.specs.declared.Plan.{Plan}
use Rattle.event.specs.declared.Kind.{Kind}
use Rattle.event.specs.declared.Kind.TheVariants.{Prepare, ChooseToAbort, TakeDecision, Vote, Receipt, Phase1a, Phase2a, Commit, Abort}
use Rattle.event.specs.declared.Event as EventType
use Rattle.event.specs.Event.{kind_of, who_of, high_of, low_of, slot_number, is_event, kind_number, kind_with, event_of, read_event}
use Rattle.event.specs.Event.Laws.{event_parts}

pub kind_with_number : (k : Kind) → kind_with (kind_number k) ≡ k
kind_with_number Prepare = refl
kind_with_number ChooseToAbort = refl
kind_with_number TakeDecision = refl
kind_with_number Vote = refl
kind_with_number Receipt = refl
kind_with_number Phase1a = refl
kind_with_number Phase2a = refl
kind_with_number Commit = refl
kind_with_number Abort = refl

pub same_kind : (k l : Kind) → kind_number k ≡ kind_number l → k ≡ l
same_kind k l e = sym (kind_with_number k) ∙ ap kind_with e ∙ kind_with_number l

pub record ReadBytes (p : Plan) (e : List ℕ) (r : EventType.Event) : Type 0 where
  pub form : is_event p e ≡ true
  pub kind : kind_of e ≡ kind_number r.kind
  pub who : who_of e ≡ r.who
  pub high : high_of e ≡ r.high
  pub low : low_of e ≡ r.low
  pub slot : slot_number e ≡ 256 * r.high + r.low

pub kind_number_with : (n : ℕ) → n ≤ 8 → kind_number (kind_with n) ≡ n
kind_number_with n h = grind (arith, nat_tests)

module _ (p : Plan) (e : List ℕ) where
  pub read_bytes : (r : EventType.Event) → read_event p e ≡ Some r → ReadBytes p e r
  unfolding read_event slot_number
  read_bytes r h = by_form _ refl h
    where
      by_form : (b : Bool) → is_event p e ≡ b → cond b (Some (event_of e)) None ≡ Some r → ReadBytes p e r
      by_form true form s =
          let is : event_of e ≡ r = cc in
          record {
            form = form;
            kind = sym (kind_number_with _ (event_parts p e form).kind) ∙ ap (λ (x : EventType.Event). kind_number x.kind) is;
            who = ap (λ (x : EventType.Event). x.who) is;
            high = ap (λ (x : EventType.Event). x.high) is;
            low = ap (λ (x : EventType.Event). x.low) is;
            slot = ap (λ (x : EventType.Event). 256 * x.high + x.low) is;
          }
      by_form false form s = absurd (cc)

  pub unread : read_event p e ≡ None → is_event p e ≡ false
  unfolding read_event
  unread h = grind (arith, nat_tests)
