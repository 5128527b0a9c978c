-- Whether some message of a list passes a test.
--     any_member, member_any     where some does, a member does, and the reverse
--     any_joined                 of a list with one message more
-- Assumes nothing.
use Rattle.std.specs.Prelude.{Bool, ◌||◌, ◌≡◌}
use Rattle.std.proofs.Math.Bool.{true, false, or_assoc, or-false, or-true}
use Rattle.std.proofs.lemmas.Bool.{false≢true}
use mathlib.Core.List.Memᴰ
use mathlib.Core.List.{List, [], ◌∷◌, ◌++◌, Memᴰ}
use Rattle.std.proofs.Math.Path.{refl, sym, ap}
use Rattle.std.proofs.Common.{◌∙◌}
use Rattle.message.specs.declared.Message.{Message}
use Rattle.inbox.specs.Inbox.{any}

module _ (test : Message → Bool) where
  pub any_member : (ms : List Message) → any test ms ≡ true → (m : Message) × Memᴰ m ms × (test m ≡ true)
  unfolding any
  any_member [] e = absurd (false≢true e)
  any_member (x ∷ ms) e = go (test x) refl e (any_member ms)
    where
      go : (t : Bool) → test x ≡ t → (t || any test ms) ≡ true → (any test ms ≡ true → (m : Message) × Memᴰ m ms × (test m ≡ true))
          → (m : Message) × Memᴰ m (x ∷ ms) × (test m ≡ true)
      go true h e rest = (x, Memᴰ.head refl, h)
      go false h e rest = let r = rest e in (r.0, Memᴰ.tail r.1, r.2)

  pub member_any : (ms : List Message) (m : Message) → Memᴰ m ms → test m ≡ true → any test ms ≡ true
  unfolding any
  member_any [] m there passes = absurd (Memᴰ.not-nil there)
  member_any (x ∷ ms) m (Memᴰ.head e) passes = rw (← e, passes)
  member_any (x ∷ ms) m (Memᴰ.tail there) passes = rw (member_any ms m there passes) (or-true (test x))

  pub any_joined : (ms : List Message) (m : Message) → any test (ms ++ (m ∷ [])) ≡ (any test ms || test m)
  unfolding any
  any_joined [] m = or-false (test m)
  any_joined (x ∷ ms) m = ap (λ (t : Bool). test x || t) (any_joined ms m) ∙ sym (or_assoc (test x) (any test ms) (test m))
