-- Whether a list of happenings is genuine, as a test, for the examples.
--     are_sent, are_old, are_kept, is_genuine, are_genuine  the tests
--     sents_of_test, kept_of_test, genuine_of_test     what they say
-- Assumes nothing.
use Rattle.std.specs.Prelude.{ℕ, zero, suc, ◌-◌, Bool, true, false, not, ◌&&◌, ◌||◌, ◌⊎◌, ◌≡◌, refl, eqb, get_or}
use Rattle.std.proofs.lemmas.Bool.{false≢true}
use mathlib.Core.List.Memᴰ
use mathlib.Core.List.{List, [], ◌∷◌, Memᴰ}
use Rattle.std.proofs.Common.{inl, inr, sym, ◌∙◌, eqb-true}
use Rattle.message.specs.declared.Plan.{Plan}
use Rattle.message.specs.declared.Message as Wire
use Rattle.message.proofs.Outcome.Laws.{both}
use Rattle.message.specs.Codec.{read_message}
use Rattle.slots.specs.Table.{same_bytes, messages}
use Rattle.slots.proofs.Table.Scan.Laws.{same_bytes_true}
use Rattle.slots.specs.Send.{same_message}
use Rattle.slots.proofs.View.Laws.{same_message_true}
use Rattle.event.specs.Event.{who_of, is_event}
use Rattle.quorum.specs.Mask.{has_bit}
use Rattle.quorum.proofs.Mask.Laws.{has_bit_zero}
use Rattle.leader.specs.Leader.{stands}
use Rattle.apart.specs.Hosts.{Role, rm, acceptor, leader, Host, System, Happening, call, delivery, restart, made, only, NotForged, SummaryKept, Genuine}
use Rattle.apart.specs.Hosts.{AllGenuine}

-- one of these is m
abbrev pub is_sent : Plan → List Wire.Message → Wire.Message → Bool
is_sent p [] m = false
is_sent p (x ∷ xs) m = same_message p m x || is_sent p xs m

abbrev pub are_sent : Plan → List Wire.Message → List Wire.Message → Bool
are_sent p wire [] = true
are_sent p wire (m ∷ ms) = is_sent p wire m && are_sent p wire ms

-- each byte of a summary is the old one, or 0
abbrev pub are_old : List ℕ → List ℕ → Bool
are_old [] old = true
are_old (b ∷ bytes) [] = eqb b 0 && are_old bytes []
are_old (b ∷ bytes) (o ∷ old) = (eqb b 0 || eqb b o) && are_old bytes old

abbrev pub are_kept : Role → Host → List ℕ → Bool
are_kept rm h summary = true
are_kept acceptor h summary = true
are_kept leader h summary = are_old summary h.summary

abbrev pub is_genuine : Plan → System → Happening → Bool
is_genuine p s (call role k e) = not (is_event p e) || eqb (who_of e) k
is_genuine p s (delivery role k bytes) = are_sent p s.wire (only (read_message p bytes))
is_genuine p s (restart role k table summary network) =
    same_bytes table (s.hosts role k).table && (are_kept role (s.hosts role k) summary && are_sent p s.wire (messages p network))

abbrev pub are_genuine : Plan → System → List Happening → Bool
are_genuine p s [] = true
are_genuine p s (h ∷ hs) = is_genuine p s h && are_genuine p (made p s h).system hs

old_byte : (bytes old : List ℕ) → are_old bytes old ≡ true → (i : ℕ) → (get_or bytes i 0 ≡ 0) ⊎ (get_or bytes i 0 ≡ get_or old i 0)
old_byte [] old e i = inl refl
old_byte (b ∷ bytes) [] e zero = inl (eqb-true b 0 (both (eqb b 0) (are_old bytes []) e).0)
old_byte (b ∷ bytes) [] e (suc i) = old_byte bytes [] (both (eqb b 0) (are_old bytes []) e).1 i
old_byte (b ∷ bytes) (o ∷ old) e zero = go (eqb b 0) refl (both (eqb b 0 || eqb b o) (are_old bytes old) e).0
  where
    go : (t : Bool) → eqb b 0 ≡ t → (t || eqb b o) ≡ true → (b ≡ 0) ⊎ (b ≡ o)
    go true is h = inl (eqb-true b 0 is)
    go false is h = inr (eqb-true b o h)
old_byte (b ∷ bytes) (o ∷ old) e (suc i) = old_byte bytes old (both (eqb b 0 || eqb b o) (are_old bytes old) e).1 i

pub kept_of_test : (role : Role) (h : Host) (summary : List ℕ) → are_kept role h summary ≡ true → SummaryKept role h summary
unfolding stands
kept_of_test rm h summary e = tt
kept_of_test acceptor h summary e = tt
kept_of_test leader h summary e = λ i v stood. go i v (old_byte summary h.summary e i) stood
  where
    go : (i v : ℕ) → (get_or summary i 0 ≡ 0) ⊎ (get_or summary i 0 ≡ get_or h.summary i 0) → has_bit (get_or summary i 0) (v - 1) ≡ true
        → has_bit (get_or h.summary i 0) (v - 1) ≡ true
    go i v (inl none) stood = absurd (false≢true (sym (has_bit_zero (v - 1)) ∙ (rw none at stood)))
    go i v (inr same) stood = rw same at stood

module _ (p : Plan) where
  sent_of_test : (wire : List Wire.Message) (m : Wire.Message) → is_sent p wire m ≡ true → Memᴰ m wire
  sent_of_test [] m e = absurd (false≢true e)
  sent_of_test (x ∷ xs) m e = go (sent_of_test xs m) (same_message p m x) refl e
    where
      go : (is_sent p xs m ≡ true → Memᴰ m xs) → (b : Bool) → same_message p m x ≡ b → (b || is_sent p xs m) ≡ true → Memᴰ m (x ∷ xs)
      go later true same h = Memᴰ.head (same_message_true p m x same)
      go later false same h = Memᴰ.tail (later h)

  pub sents_of_test : (s : System) (ms : List Wire.Message) → are_sent p s.wire ms ≡ true → NotForged s ms
  sents_of_test s [] e m h = absurd (Memᴰ.not-nil h)
  sents_of_test s (x ∷ xs) e m (Memᴰ.head d) = rw d (sent_of_test s.wire x (both (is_sent p s.wire x) (are_sent p s.wire xs) e).0)
  sents_of_test s (x ∷ xs) e m (Memᴰ.tail h) = sents_of_test s xs (both (is_sent p s.wire x) (are_sent p s.wire xs) e).1 m h

  one_of_test : (s : System) (h : Happening) → is_genuine p s h ≡ true → Genuine p s h
  one_of_test s (call role k e) test = λ event. go (is_event p e) event test
    where
      go : (b : Bool) → b ≡ true → (not b || eqb (who_of e) k) ≡ true → who_of e ≡ k
      go true is h = eqb-true (who_of e) k h
      go false is h = absurd (false≢true is)
  one_of_test s (delivery role k bytes) test = sents_of_test s (only (read_message p bytes)) test
  one_of_test s (restart role k table summary network) test =
      let h = s.hosts role k in
      let (same, rest) = both (same_bytes table h.table) (are_kept role h summary && are_sent p s.wire (messages p network)) test in
      let (stood, sent) = both (are_kept role h summary) (are_sent p s.wire (messages p network)) rest in
      (inl (same_bytes_true table h.table same), kept_of_test role h summary stood, sents_of_test s (messages p network) sent)

  pub genuine_of_test : (s : System) (hs : List Happening) → are_genuine p s hs ≡ true → AllGenuine p s hs
  genuine_of_test s [] test = tt
  genuine_of_test s (h ∷ hs) test =
      let (one, rest) = both (is_genuine p s h) (are_genuine p (made p s h).system hs) test in
      (one_of_test s h one, genuine_of_test (made p s h).system hs rest)
