-- What the definitions of Hosts.antt say, in the words and numbers of document 01: 0 working, 1 prepared, 2 committed, 3 aborted.
--     called_means, left_by_means, row_means, fresh_means     a role's own call; byte i of weight i's W; zeros
--     stands_means, summary_kept_means     a bit of the summary; which bits a leader may go on with
--     call_means, delivery_means, restart_means        what each happening answers, and leaves its host
--     call_others, delivery_others, restart_others     every other host keeps its tables
--     call_sends, call_quiet, call_refused, delivery_sends, restart_sends     what is put on the wire
--     genuine_call, genuine_delivery, genuine_restart     what is asked
--     system_after_lem, answers_after, genuine_after, after_each_split  each happening of a list finds what the one before left
--     words_mean, safe_words  specs/Words.antt written out; what is claimed there follows from `Safe`
--     hosts_safe_words        so it is after each happening of every list
--     hosts_safe_each         so it is of every genuine happening after every list of genuine ones
-- Assumes nothing.
use Rattle.std.specs.Prelude.{ℕ, ◌/◌, ◌%◌, ◌<◌, true, ◌⊎◌, ◌↔◌, ◌≡◌, refl, eqb, length, get_or, replicate}
use mathlib.Core.List.{List, [], ◌∷◌, ◌++◌, Memᴰ}
use Rattle.std.proofs.Common.{inl, inr, ⊎_elim, sym, ◌∙◌, ap}
use Rattle.message.specs.declared.Plan.{Plan}
use Rattle.message.specs.declared.Message as Wire
use Rattle.message.specs.Outcome.{accepted, refused}
use Rattle.message.specs.Codec.{read_message}
use Rattle.slots.specs.Table.{messages}
use Rattle.slots.specs.Send.{message_at}
use Rattle.change.specs.declared.Sent.TheVariants.{Slot, Quiet}
use Rattle.change.specs.Change.{Step}
use Rattle.event.specs.Event.{who_of, is_event}
use Rattle.rm.specs.Rm.{rm_step}
use Rattle.acceptor.specs.Acceptor.{acceptor_step}
use Rattle.summary.specs.Summary.Laws.{stands_prepared, stands_aborted}
use Rattle.leader.specs.Leader.{stands, leader_step}
use Rattle.record.specs.Record.{zeroed}
use Rattle.deliver.specs.Deliver.{deliver_step}
use Rattle.apart.specs.Hosts.{Role, rm, acceptor, leader, Host, System, Happening, call, delivery, restart, left_by, called, Made, made, SummaryKept}
use Rattle.apart.specs.Hosts.{Genuine, row, Fresh, system_after, answers, AllGenuine, Safe, AfterEach}
use Rattle.apart.specs.Words.{byte, SafeInWords}
use Rattle.apart.proofs.Hosts.Lists as Lists
use Rattle.apart.proofs.Hosts.Moved as Moved
use Rattle.apart.proofs.Theorems.{hosts_safe}

pub called_means : (p : Plan) (h : Host) (e : List ℕ)
    → (called p rm h e ≡ left_by (rm_step p h.table h.network e) h.summary)
    × (called p acceptor h e ≡ left_by (acceptor_step p h.table h.network e) h.summary)
    × (called p leader h e
    ≡ left_by (leader_step p h.table h.summary h.network e).step (leader_step p h.table h.summary h.network e).summary)
called_means p h e = (refl, refl, refl)

pub left_by_means : (r : Step) (summary : List ℕ)
    → ((left_by r summary).answer ≡ r.answer)
    × ((left_by r summary).host.table ≡ r.table)
    × ((left_by r summary).host.summary ≡ summary)
    × ((left_by r summary).host.network ≡ r.network)
left_by_means r summary = (refl, refl, refl, refl)

-- of byte i, bit 0 for prepared, which is 1, and bit 1 for aborted, which is 2
pub stands_means : (summary : List ℕ) (i : ℕ)
    → (stands summary i 1 ≡ eqb (get_or summary i 0 % 2) 1) × (stands summary i 2 ≡ eqb (get_or summary i 0 / 2 % 2) 1)
stands_means summary i = (stands_prepared summary i, stands_aborted summary i)

-- nothing is asked of a host that is no leader's
pub summary_kept_means : (h : Host) (summary : List ℕ)
    → SummaryKept rm h summary
    × SummaryKept acceptor h summary
    × (SummaryKept leader h summary ↔ ((i v : ℕ) → stands summary i v ≡ true → stands h.summary i v ≡ true))
summary_kept_means h summary = (tt, tt, (λ k. k, λ k. k))

pub row_means : (s : System) (i : ℕ) → row s i ≡ get_or (s.hosts rm i).table i 0
row_means s i = refl

pub fresh_means : (s : System)
    → Fresh s
    ↔ (((role : Role) (k : ℕ)
    → ((s.hosts role k).table ≡ replicate (length (s.hosts role k).table) 0)
    × ((s.hosts role k).summary ≡ replicate (length (s.hosts role k).summary) 0)
    × ((s.hosts role k).network ≡ replicate (length (s.hosts role k).network) 0))
    × (s.wire ≡ []))
unfolding zeroed
fresh_means s = (λ h. h, λ h. h)

-- a happening at host k of a role
module _ (p : Plan) (s : System) (role : Role) (k : ℕ) where
  abbrev host : Host
  host = s.hosts role k

  -- host k afterwards
  abbrev left : Happening → Host
  left h = (made p s h).system.hosts role k

  pub call_means : (e : List ℕ)
      → ((made p s (call role k e)).answer ≡ (called p role host e).answer) × (left (call role k e) ≡ (called p role host e).host)
  call_means e = (refl, Moved.new_host s.hosts role k _)

  pub delivery_means : (bytes : List ℕ)
      → ((made p s (delivery role k bytes)).answer ≡ (deliver_step p host.network bytes).answer)
      × ((left (delivery role k bytes)).table ≡ host.table)
      × ((left (delivery role k bytes)).summary ≡ host.summary)
      × ((left (delivery role k bytes)).network ≡ (deliver_step p host.network bytes).network)
  delivery_means bytes =
      let new = Moved.new_host s.hosts role k _ in
      (refl, ap (λ (h : Host). h.table) new, ap (λ (h : Host). h.summary) new, ap (λ (h : Host). h.network) new)

  pub restart_means : (table summary network : List ℕ)
      → ((made p s (restart role k table summary network)).answer ≡ accepted Quiet)
      × ((left (restart role k table summary network)).table ≡ table)
      × ((left (restart role k table summary network)).summary ≡ summary)
      × ((left (restart role k table summary network)).network ≡ network)
  restart_means table summary network =
      let new = Moved.new_host s.hosts role k _ in
      (refl, ap (λ (h : Host). h.table) new, ap (λ (h : Host). h.summary) new, ap (λ (h : Host). h.network) new)

  -- the other hosts, of another role or another number
  module _ (q : Role) (j : ℕ) (other : q ≡ role → j ≡ k → ⊥) where
    pub call_others : (e : List ℕ) → (made p s (call role k e)).system.hosts q j ≡ s.hosts q j
    call_others e = Moved.old_host s.hosts role k _ q j other

    pub delivery_others : (bytes : List ℕ) → (made p s (delivery role k bytes)).system.hosts q j ≡ s.hosts q j
    delivery_others bytes = Moved.old_host s.hosts role k _ q j other

    pub restart_others : (table summary network : List ℕ) → (made p s (restart role k table summary network)).system.hosts q j ≡ s.hosts q j
    restart_others table summary network = Moved.old_host s.hosts role k _ q j other

  -- what was sent
  module _ (e : List ℕ) where
    abbrev r : Made
    r = made p s (call role k e)

    -- a message stands in the slot that is answered, and is put on the wire
    pub call_sends : (slot : ℕ) (m : Wire.Message) → r.answer ≡ accepted (Slot slot)
        → message_at (messages p (r.system.hosts role k).network) slot ≡ accepted m → r.system.wire ≡ m ∷ s.wire
    call_sends slot m is stands =
        Moved.wire_slot p s role k (called p role host e) slot m is
        (sym (ap (λ (h : Host). message_at (messages p h.network) slot) (call_means e).1) ∙ stands)

    pub call_quiet : r.answer ≡ accepted Quiet → r.system.wire ≡ s.wire
    call_quiet is = Moved.wire_quiet p s role k (called p role host e) is

    pub call_refused : (number : ℕ) → r.answer ≡ refused number → r.system.wire ≡ s.wire
    call_refused number is = Moved.wire_refused p s role k (called p role host e) number is

  pub delivery_sends : (bytes : List ℕ) → (made p s (delivery role k bytes)).system.wire ≡ s.wire
  delivery_sends bytes = refl

  pub restart_sends : (table summary network : List ℕ) → (made p s (restart role k table summary network)).system.wire ≡ s.wire
  restart_sends table summary network = refl

  -- what is asked
  pub genuine_call : (e : List ℕ) → Genuine p s (call role k e) ↔ (is_event p e ≡ true → who_of e ≡ k)
  genuine_call e = (λ h. h, λ h. h)

  pub genuine_delivery : (bytes : List ℕ)
      → Genuine p s (delivery role k bytes) ↔ ((m : Wire.Message) → read_message p bytes ≡ accepted m → Memᴰ m s.wire)
  genuine_delivery bytes = (
    λ h m is. h m (rw is (Memᴰ.head refl)),
    λ h m there. h m (Moved.only_is (read_message p bytes) m there),
  )

  pub genuine_restart : (table summary network : List ℕ)
      → Genuine p s (restart role k table summary network)
      ↔ (((table ≡ host.table) ⊎ ((length host.table % 8 ≡ 0) × ((n : ℕ) × (table ≡ host.table ++ replicate n 0))))
      × SummaryKept role host summary
      × ((m : Wire.Message) → Memᴰ m (messages p network) → Memᴰ m s.wire))
  genuine_restart table summary network = (λ h. h, λ h. h)

-- lists
module _ (p : Plan) (s : System) where
  pub system_after_lem : (hs : List Happening) (h : Happening)
      → (system_after p s [] ≡ s) × (system_after p s (hs ++ (h ∷ [])) ≡ (made p (system_after p s hs) h).system)
  system_after_lem hs h = (refl, Lists.system_split p s hs h)

  pub answers_after : (hs : List Happening) (h : Happening)
      → (answers p s [] ≡ []) × (answers p s (hs ++ (h ∷ [])) ≡ answers p s hs ++ ((made p (system_after p s hs) h).answer ∷ []))
  answers_after hs h = (refl, Lists.answers_split p s hs h)

  pub genuine_after : (hs : List Happening) (h : Happening)
      → AllGenuine p s (hs ++ (h ∷ [])) ↔ (AllGenuine p s hs × Genuine p (system_after p s hs) h)
  genuine_after hs h = Lists.genuine_split p s hs h

  pub after_each_split : (P : System → Made → Type 0) (hs : List Happening) (h : Happening) (more : List Happening)
      → AfterEach p P s (hs ++ (h ∷ more)) → AllGenuine p s hs → Genuine p (system_after p s hs) h
      → P (system_after p s hs) (made p (system_after p s hs) h)
  after_each_split P hs h more = Lists.after_split p P s hs h more

-- written out
pub words_mean : (p : Plan) (s : System) (r : Made) → SafeInWords p s r
    → (((i : ℕ) → get_or (r.system.hosts rm i).table i 0 ≡ get_or (s.hosts rm i).table i 0)
    ⊎ ((i : ℕ) × (i < p.rms)
    × ((j : ℕ) → (j ≡ i → ⊥) → get_or (r.system.hosts rm j).table j 0 ≡ get_or (s.hosts rm j).table j 0)
    × (((get_or (s.hosts rm i).table i 0 ≡ 0) × (get_or (r.system.hosts rm i).table i 0 ≡ 1))
    ⊎ (((get_or (s.hosts rm i).table i 0 ≡ 1) × (get_or (r.system.hosts rm i).table i 0 ≡ 2)
    × ((j : ℕ) → j < p.rms → (get_or (s.hosts rm j).table j 0 ≡ 1) ⊎ (get_or (s.hosts rm j).table j 0 ≡ 2)))
    ⊎ (((get_or (s.hosts rm i).table i 0 ≡ 0) ⊎ (get_or (s.hosts rm i).table i 0 ≡ 1)) × (get_or (r.system.hosts rm i).table i 0 ≡ 3)
    × ((j : ℕ) → j < p.rms → get_or (s.hosts rm j).table j 0 ≡ 2 → ⊥))))))
    × ((i j : ℕ) → i < p.rms → j < p.rms → get_or (r.system.hosts rm i).table i 0 ≡ 2 → get_or (r.system.hosts rm j).table j 0 ≡ 3 → ⊥)
    × (r.answer ≡ refused 11 → ⊥)
words_mean p s r h = h

pub safe_words : (p : Plan) (s : System) (r : Made) → Safe p s r → SafeInWords p s r
safe_words p s r safe = (
  ⊎_elim (λ e. inl (λ i. ap (λ (f : ℕ → ℕ). f i) e)) (λ next. inr (Moved.step_words p.rms (byte s) (byte r.system) next)) safe.path,
  safe.agreed,
  safe.not_contradicted,
)

module _ (p : Plan) (s : System) (fresh : Fresh s) where
  pub hosts_safe_words : (hs : List Happening) → AfterEach p (SafeInWords p) s hs
  hosts_safe_words hs = Lists.each_of_each p (Safe p) (SafeInWords p) (safe_words p) s hs (hosts_safe p s fresh hs)

  pub hosts_safe_each : (hs : List Happening) (h : Happening) → AllGenuine p s hs → Genuine p (system_after p s hs) h
      → SafeInWords p (system_after p s hs) (made p (system_after p s hs) h)
  hosts_safe_each hs h = after_each_split p s (SafeInWords p) hs h [] (hosts_safe_words (hs ++ (h ∷ [])))
