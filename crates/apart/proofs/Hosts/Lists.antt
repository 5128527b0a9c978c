-- Lists of happenings.
--     zeros_fresh                 zeros of any lengths are fresh
--     initial, grounded_fresh     fresh hosts are PCInit of module PaxosCommit, and grounded
--     safe_one, each_safe         one genuine happening, and each of a list
--     grounded_after              what a list of genuine happenings leaves
--     wire_kept                   what was sent stays sent: on any system
--     genuine_start, genuine_around, after_split, system_split, answers_split, genuine_split     a list in two parts
--     each_of_each                what follows of each happening
--     no_11                       no answer of a list is 11
-- Assumes nothing.
use Rattle.std.specs.Prelude.{ℕ, true, ◌↔◌, ◌≡◌, refl, length, replicate}
use mathlib.Core.List.Memᴰ
use mathlib.Core.List.{List, [], ◌∷◌, ◌++◌, Memᴰ}
use Rattle.std.proofs.Common.{sym, ◌∙◌, ap}
use Rattle.std.proofs.lemmas.List.{length-replicate}
use Rattle.message.specs.declared.Plan.{Plan}
use Rattle.message.specs.declared.Message as Wire
use Rattle.message.specs.Outcome.{Outcome, refused}
use Rattle.slots.specs.Table.{messages}
use Rattle.change.specs.declared.Sent.{Sent}
use Rattle.paxos_commit.specs.PaxosCommit.{Message, PCInit}
use Rattle.paxos_commit.proofs.PaxosCommit.Safety.Histories.{inv_init}
use Rattle.leader.specs.Leader.{stands}
use Rattle.record.specs.Record.{zeroed}
use Rattle.matching.specs.Reading.{is_rm, is_acceptor, is_majority_set, set_of}
use Rattle.safety.proofs.Grounds.Zeros.{get_d_zeros, messages_zeros, a_state_of_zeros}
use Rattle.apart.specs.Hosts.{Role, rm, acceptor, leader, System, Happening, call, delivery, restart, Made, made, called, sent_by, Genuine}
use Rattle.apart.specs.Hosts.{published, Fresh, zero_hosts, system_after, answers, AllGenuine, Safe, AfterEach}
use Rattle.apart.proofs.Hosts.Tied.{Grounded}
use Rattle.apart.proofs.Hosts.Restart.{zeros_stand}
use Rattle.apart.proofs.Hosts.Steps.{grounded_one, path_one, agreed_one, not_11_one}

pub zeros_fresh : (tables summaries networks : Role → ℕ → ℕ) → Fresh (zero_hosts tables summaries networks)
unfolding zeroed
zeros_fresh tables summaries networks = (λ role k. (zeros (tables role k), zeros (summaries role k), zeros (networks role k)), refl)
  where
    zeros : (n : ℕ) → replicate n 0 ≡ zeroed (replicate n 0)
    zeros n = ap (λ (k : ℕ). replicate k 0) (sym (length-replicate n 0))

module _ (p : Plan) (s : System) where
  pub initial : Fresh s → PCInit (is_rm p) (is_acceptor p) (is_majority_set p) (published p s)
  unfolding zeroed
  initial (zeros, none) = (
    λ i q. rw (zeros rm i).0 (get_d_zeros (length (s.hosts rm i).table) i),
    λ i a q k. rw (zeros acceptor a).0 (a_state_of_zeros p (length (s.hosts acceptor a).table) i a),
    λ x (m, h, e). Memᴰ.not-nil (rw none at h),
  )

  empty : (t : List ℕ) → t ≡ zeroed t → (x : Message) → set_of (messages p t) x → ⊥
  unfolding zeroed
  empty t zeros x (m, h, e) = Memᴰ.not-nil (rw (ap (messages p) zeros ∙ messages_zeros p (length t)) at h)

  -- in a summary of zeros
  nothing_stands : (t : List ℕ) → t ≡ zeroed t → (i v : ℕ) → stands t i v ≡ true → ⊥
  unfolding zeroed
  nothing_stands t zeros i v h = zeros_stand (length t) i v (rw zeros at h)

  pub grounded_fresh : Fresh s → Grounded p s
  grounded_fresh fresh =
      record {
        inv = inv_init (initial fresh);
        tied =
            record {
              networks = λ role k m h. absurd (empty _ (fresh.0 role k).2 _ (m, h, refl));
              inboxes = λ l x h. absurd (empty _ (fresh.0 leader l).0 x h);
              own_2a = λ l b o i v h. absurd ((initial fresh).2 _ h);
              standing = λ l i v value h. absurd (nothing_stands _ (fresh.0 leader l).1 i v h);
            };
      }

module _ (p : Plan) where
  pub safe_one : (s : System) → Grounded p s → (h : Happening) → Genuine p s h → Safe p s (made p s h)
  safe_one s g h ok = record { path = path_one p s g h ok; agreed = agreed_one p s g h ok; not_contradicted = not_11_one p s g h ok }

  pub each_safe : (s : System) → Grounded p s → (hs : List Happening) → AfterEach p (Safe p) s hs
  each_safe s g [] = tt
  each_safe s g (h ∷ hs) = λ ok. (safe_one s g h ok, each_safe (made p s h).system (grounded_one p s g h ok) hs)

  pub grounded_after : (s : System) → Grounded p s → (hs : List Happening) → AllGenuine p s hs → Grounded p (system_after p s hs)
  grounded_after s g [] ok = g
  grounded_after s g (h ∷ hs) (ok, rest) = grounded_after (made p s h).system (grounded_one p s g h ok) hs rest

  wire_one : (s : System) (h : Happening) (m : Wire.Message) → Memᴰ m s.wire → Memᴰ m (made p s h).system.wire
  wire_one s (call role k e) m there = Memᴰ.append_right (sent_by p (called p role (s.hosts role k) e)) there
  wire_one s (delivery role k bytes) m there = there
  wire_one s (restart role k table summary network) m there = there

  pub wire_kept : (s : System) (hs more : List Happening) (m : Wire.Message) → Memᴰ m (system_after p s hs).wire
      → Memᴰ m (system_after p s (hs ++ more)).wire
  wire_kept s (h ∷ hs) more m there = wire_kept (made p s h).system hs more m there
  wire_kept s [] [] m there = there
  wire_kept s [] (h ∷ hs) m there = wire_kept (made p s h).system [] hs m (wire_one s h m there)

  pub genuine_start : (s : System) (hs more : List Happening) → AllGenuine p s (hs ++ more) → AllGenuine p s hs
  genuine_start s [] more ok = tt
  genuine_start s (h ∷ hs) more (ok, rest) = (ok, genuine_start (made p s h).system hs more rest)

  pub genuine_around : (s : System) (hs : List Happening) (h : Happening) (more : List Happening) → AllGenuine p s hs → Genuine p (system_after p s hs) h
      → AllGenuine p (system_after p s (hs ++ (h ∷ []))) more → AllGenuine p s (hs ++ (h ∷ more))
  genuine_around s [] h more ok one rest = (one, rest)
  genuine_around s (x ∷ hs) h more (first, ok) one rest = (first, genuine_around (made p s x).system hs h more ok one rest)

  pub after_split : (P : System → Made → Type 0) (s : System) (hs : List Happening) (h : Happening) (more : List Happening)
      → AfterEach p P s (hs ++ (h ∷ more)) → AllGenuine p s hs → Genuine p (system_after p s hs) h
      → P (system_after p s hs) (made p (system_after p s hs) h)
  after_split P s [] h more each ok genuine = (each genuine).0
  after_split P s (x ∷ hs) h more each (ok, rest) genuine = after_split P (made p s x).system hs h more (each ok).1 rest genuine

  pub system_split : (s : System) (hs : List Happening) (h : Happening) → system_after p s (hs ++ (h ∷ [])) ≡ (made p (system_after p s hs) h).system
  system_split s [] h = refl
  system_split s (x ∷ hs) h = system_split (made p s x).system hs h

  pub answers_split : (s : System) (hs : List Happening) (h : Happening)
      → answers p s (hs ++ (h ∷ [])) ≡ answers p s hs ++ ((made p (system_after p s hs) h).answer ∷ [])
  answers_split s [] h = refl
  answers_split s (x ∷ hs) h = ap (λ (l : List (Outcome Sent)). (made p s x).answer ∷ l) (answers_split (made p s x).system hs h)

  pub genuine_split : (s : System) (hs : List Happening) (h : Happening)
      → AllGenuine p s (hs ++ (h ∷ [])) ↔ (AllGenuine p s hs × Genuine p (system_after p s hs) h)
  genuine_split s [] h = (λ (one, none). (tt, one), λ (none, one). (one, tt))
  genuine_split s (x ∷ hs) h =
      let (apart, joined) = genuine_split (made p s x).system hs h in
      (λ (one, rest). let (before, last) = apart rest in ((one, before), last), λ ((one, before), last). (one, joined (before, last)))

  -- what follows of each happening from what holds of it
  pub each_of_each : (P Q : System → Made → Type 0) → ((s : System) (r : Made) → P s r → Q s r)
      → (s : System) (hs : List Happening) → AfterEach p P s hs → AfterEach p Q s hs
  each_of_each P Q next s [] each = tt
  each_of_each P Q next s (h ∷ hs) each =
      λ ok. let (one, rest) = each ok in (next s (made p s h) one, each_of_each P Q next (made p s h).system hs rest)

  pub no_11 : (s : System) (hs : List Happening) → AfterEach p (Safe p) s hs → AllGenuine p s hs → Memᴰ (refused 11) (answers p s hs) → ⊥
  no_11 s [] each ok h = Memᴰ.not-nil h
  no_11 s (x ∷ hs) each (ok, rest) (Memᴰ.head e) = (each ok).0.not_contradicted (sym e)
  no_11 s (x ∷ hs) each (ok, rest) (Memᴰ.tail h) = no_11 (made p s x).system hs (each ok).1 rest h
