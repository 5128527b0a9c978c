-- What every system of hosts satisfies, and what a happening has to show for it.
--     Carried, Tied               every message of a table was sent; what the hosts' tables have to do with what was sent
--     Grounded                    that, and the invariant of module PaxosCommit
--     Allowed                     a step of module PaxosCommit, Decide widened
--     wire_old, wire_adds         the messages sent as a set: the old ones, and the new one
--     hosts_cases                 a claim about every host, when one has new tables
--     Heard, heard_of             a table as a set of published messages
--     summary_same                a summary that stays
--     tied_same, tied_inbox       a step that changes no inbox, and one by which one inbox gains a sent message
--     Reading, read_of             all that is read from a role's table
--     Claim                       what is shown of one happening
--     claim_sent, nets_sent, claim_sends     a call that sent a message
--     nets_quiet, claim_network, claim_refused     nothing was sent; the role's table reads as before and no bit was gained; a refused call
-- Assumes nothing.
use Rattle.std.specs.Prelude.{ℕ, true, ◌⊎◌, ◌↔◌, ◌≡◌, refl}
use mathlib.Core.List.Memᴰ
use mathlib.Core.List.{List, [], ◌∷◌, ◌++◌, Memᴰ}
use Rattle.std.proofs.Common.{inl, inr, ⊎_elim, sym, ◌∙◌, ap, subst}
use Rattle.std.proofs.Math.Path.{fun_ext}
use Rattle.std.proofs.Math.Decide.{ℕ_discrete}
use Rattle.message.specs.declared.Plan.{Plan}
use Rattle.message.specs.declared.Message as Wire
use Rattle.slots.specs.Table.{messages}
use Rattle.change.specs.Change.{refusal}
use Rattle.tcommit.proofs.TCommit.Laws.{except_cases}
use Rattle.paxos_commit.specs.PaxosCommit.{State, AState, Val, Message, phase2a}
use Rattle.paxos_commit.specs.PaxosCommit.Safety.{Inv}
use Rattle.paxos_commit.specs.Widened.{WidenedNext, WidenedStep}
use Rattle.paxos_commit.proofs.Widened.Laws.{announced_kept}
use Rattle.leader.specs.Leader.{owns, stands}
use Rattle.matching.specs.Reading.{is_rm, is_acceptor, is_majority_set, val_of, message_of, set_of, rm_state_of, a_state_of}
use Rattle.matching.specs.Call.{Sends, Stores}
use Rattle.matching.specs.Leader.{DecidedOrDeclinedIn}
use Rattle.safety.proofs.Grounds.Stored.{member_split, stores_kept, stores_new, stores_split}
use Rattle.safety.proofs.Grounds.Kept.{Unowned}
use Rattle.apart.specs.Hosts.{Role, rm, acceptor, leader, Host, System, Left, left_by, put_host, after, sent_by, SummaryKept, published}

abbrev pub Carried : Plan → List Wire.Message → List ℕ → Type 0
Carried p wire table = (m : Wire.Message) → Memᴰ m (messages p table) → Memᴰ m wire

pub record Tied (p : Plan) (s : System) : Type 0 where
  -- every message in an N was sent
  pub networks : (role : Role) (k : ℕ) → Carried p s.wire (s.hosts role k).network
  -- every message in an inbox was sent
  pub inboxes : (l : ℕ) (x : Message) → set_of (messages p (s.hosts leader l).table) x → set_of s.wire x
  -- every 2a that was sent at a ballot which a leader owns is in its inbox
  pub own_2a : (l b : ℕ) → owns p l b ≡ true → (i : ℕ) (v : Val) → set_of s.wire (phase2a i b v)
      → set_of (messages p (s.hosts leader l).table) (phase2a i b v)
  -- whatever stands in a leader's summary is decided by its inbox, or declined
  pub standing : (l i v : ℕ) → (v ≡ 1) ⊎ (v ≡ 2) → stands (s.hosts leader l).summary i v ≡ true
      → DecidedOrDeclinedIn p (set_of (messages p (s.hosts leader l).table)) i (val_of v)

pub record Grounded (p : Plan) (s : System) : Type 0 where
  pub inv : Inv (is_rm p) (is_acceptor p) (is_majority_set p) (published p s)
  pub tied : Tied p s

-- an action of module PaxosCommit with Decide widened, or its variables stay
abbrev pub Allowed : Plan → System → System → Type 0
Allowed p s s' = WidenedStep (is_rm p) (is_acceptor p) (is_majority_set p) (published p s) (published p s')

pub wire_old : (ms xs : List Wire.Message) (x : Message) → set_of ms x → set_of (xs ++ ms) x
wire_old ms xs x (m, h, e) = (m, Memᴰ.append_right xs h, e)

pub wire_adds : (ms : List Wire.Message) (m : Wire.Message) (x : Message) → set_of (m ∷ ms) x ↔ (set_of ms x ⊎ (x ≡ message_of m))
wire_adds ms m x = (λ (y, h, e). split y h e, back)
  where
    split : (y : Wire.Message) → Memᴰ y (m ∷ ms) → message_of y ≡ x → set_of ms x ⊎ (x ≡ message_of m)
    split y (Memᴰ.head d) e = inr (sym e ∙ ap message_of d)
    split y (Memᴰ.tail h) e = inl (y, h, e)

    back : set_of ms x ⊎ (x ≡ message_of m) → set_of (m ∷ ms) x
    back (inl (y, h, e)) = (y, Memᴰ.tail h, e)
    back (inr e) = (m, Memᴰ.head refl, sym e)

pub hosts_cases : (P : Role → ℕ → Host → Type 0) (f : Role → ℕ → Host) (role : Role) (k : ℕ) (h : Host)
    → P role k h → ((q : Role) (j : ℕ) → P q j (f q j)) → (q : Role) (j : ℕ) → P q j (put_host f role k h q j)
hosts_cases P f rm k h new old rm j = except_cases (P rm) (f rm) k h new (λ i other. old rm i) j
hosts_cases P f rm k h new old acceptor j = old acceptor j
hosts_cases P f rm k h new old leader j = old leader j
hosts_cases P f acceptor k h new old rm j = old rm j
hosts_cases P f acceptor k h new old acceptor j = except_cases (P acceptor) (f acceptor) k h new (λ i other. old acceptor i) j
hosts_cases P f acceptor k h new old leader j = old leader j
hosts_cases P f leader k h new old rm j = old rm j
hosts_cases P f leader k h new old acceptor j = old acceptor j
hosts_cases P f leader k h new old leader j = except_cases (P leader) (f leader) k h new (λ i other. old leader i) j

-- as sets of published messages
abbrev pub Heard : Plan → List Wire.Message → List ℕ → Type 0
Heard p wire table = (x : Message) → set_of (messages p table) x → set_of wire x

pub heard_of : (p : Plan) (wire : List Wire.Message) (table : List ℕ) → Carried p wire table → Heard p wire table
heard_of p wire table carried x (m, h, e) = (m, carried m h, e)

pub summary_same : (role : Role) (h : Host) (summary : List ℕ) → summary ≡ h.summary → SummaryKept role h summary
summary_same rm h summary same = tt
summary_same acceptor h summary same = tt
summary_same leader h summary same = λ i v stood. rw same at stood

module _ (p : Plan) (s : System) (g : Tied p s) (s' : System) (kept : (x : Message) → set_of s.wire x → set_of s'.wire x)
    (nets : (r : Role) (j : ℕ) → Carried p s'.wire (s'.hosts r j).network) where
  pub tied_same : ((l : ℕ) → messages p (s'.hosts leader l).table ≡ messages p (s.hosts leader l).table)
      → ((l : ℕ) → SummaryKept leader (s.hosts leader l) (s'.hosts leader l).summary)
      → ((l b i : ℕ) (v : Val) → owns p l b ≡ true → set_of s'.wire (phase2a i b v) → set_of s.wire (phase2a i b v)) → Tied p s'
  tied_same same stood old =
      record {
        networks = nets;
        inboxes = λ l x h. kept x (g.inboxes l x (rw (same l) at h));
        own_2a = λ l b o i v h. rw (same l) (g.own_2a l b o i v (old l b i v o h));
        standing = λ l i v value h. rw (same l) (g.standing l i v value (stood l i v h));
      }

  module _ (l : ℕ) (m : Wire.Message) (stores : Stores p (s.hosts leader l).table m (s'.hosts leader l).table)
      (same : (k : ℕ) → (k ≡ l → ⊥) → s'.hosts leader k ≡ s.hosts leader k) (sent : set_of s'.wire (message_of m))
      (marks : (i v : ℕ) → (v ≡ 1) ⊎ (v ≡ 2) → stands (s'.hosts leader l).summary i v ≡ true
      → (stands (s.hosts leader l).summary i v ≡ true) ⊎ DecidedOrDeclinedIn p (set_of (messages p (s'.hosts leader l).table)) i (val_of v))
      (old : (k b i : ℕ) (v : Val) → owns p k b ≡ true → set_of s'.wire (phase2a i b v)
      → set_of s.wire (phase2a i b v) ⊎ ((phase2a i b v ≡ message_of m) × (k ≡ l))) where
    heard : (k : ℕ) → Dec (k ≡ l) → Heard p s'.wire (s'.hosts leader k).table
    heard k (yes e) x h =
        ⊎_elim (λ j. kept x (g.inboxes l x j)) (λ d. rw d sent) (stores_split p _ _ m stores x (subst (λ (j : ℕ). set_of (messages p (s'.hosts leader j).table) x) e h))
    heard k (no n) x h = kept x (g.inboxes k x (rw (same k n) at h))

    owned : (k : ℕ) → Dec (k ≡ l) → (b : ℕ) → owns p k b ≡ true → (i : ℕ) (v : Val) → set_of s'.wire (phase2a i b v)
        → set_of (messages p (s'.hosts leader k).table) (phase2a i b v)
    owned k (yes e) b o i v h =
        subst (λ (j : ℕ). set_of (messages p (s'.hosts leader j).table) (phase2a i b v)) (sym e)
        (⊎_elim (λ j. stores_kept p _ _ m stores _ (g.own_2a l b (rw e at o) i v j)) (λ d. rw d.0 (stores_new p _ _ m stores)) (old k b i v o h))
    owned k (no n) b o i v h = rw (same k n) (⊎_elim (g.own_2a k b o i v) (λ d. absurd (n d.1)) (old k b i v o h))

    marked : (k : ℕ) → Dec (k ≡ l) → (i v : ℕ) → (v ≡ 1) ⊎ (v ≡ 2) → stands (s'.hosts leader k).summary i v ≡ true
        → DecidedOrDeclinedIn p (set_of (messages p (s'.hosts leader k).table)) i (val_of v)
    marked k (yes e) i v value h =
        subst (λ (j : ℕ). DecidedOrDeclinedIn p (set_of (messages p (s'.hosts leader j).table)) i (val_of v)) (sym e)
        (⊎_elim (λ old. announced_kept (is_rm p) (is_acceptor p) (is_majority_set p) _ _ (stores_kept p _ _ m stores) i (val_of v) (g.standing l i v value old)) (λ new. new)
        (marks i v value (subst (λ (j : ℕ). stands (s'.hosts leader j).summary i v ≡ true) e h)))
    marked k (no n) i v value h = rw (same k n) (g.standing k i v value (rw (same k n) at h))

    pub tied_inbox : Tied p s'
    tied_inbox =
        record {
          networks = nets;
          inboxes = λ k. heard k (ℕ_discrete k l);
          own_2a = λ k. owned k (ℕ_discrete k l);
          standing = λ k. marked k (ℕ_discrete k l);
        }

-- all that is read from a role's table: states as from W, votes as from Q, messages as from an inbox
pub record Reading : Type 0 where
  pub states : ℕ → ℕ
  pub votes : ℕ → ℕ → AState
  pub held : List Wire.Message

abbrev pub read_of : Plan → List ℕ → Reading
read_of p table = record { states = rm_state_of table; votes = a_state_of p table; held = messages p table }

abbrev pub Claim : Plan → System → Role → ℕ → Left → List Wire.Message → Type 0
Claim p s role k r sent = Allowed p s (after s role k r sent) × Tied p (after s role k r sent)

module _ (p : Plan) (s : System) (g : Tied p s) (role : Role) (k : ℕ) (r : Left) where
  -- a call that sent m
  module _ (m : Wire.Message) (sent : Sends p (s.hosts role k).network m r.answer r.host.network) where
    pub claim_sent : Claim p s role k r (m ∷ []) → Claim p s role k r (sent_by p r)
    claim_sent = subst (Claim p s role k r) (sym one)
      where
        one : sent_by p r ≡ m ∷ []
        one = rw (sent.answered, sent.stands) refl

    pub nets_sent : (q : Role) (j : ℕ) → Carried p (m ∷ s.wire) ((after s role k r (m ∷ [])).hosts q j).network
    nets_sent =
        hosts_cases (λ q j h. Carried p (m ∷ s.wire) h.network) s.hosts role k _
        (λ x h. ⊎_elim (λ old. Memᴰ.tail (g.networks role k x old)) Memᴰ.head (member_split p _ _ m sent.stores x h))
        (λ q j x h. Memᴰ.tail (g.networks q j x h))

    -- which no inbox has to have
    pub claim_sends : ((l : ℕ) → messages p ((after s role k r (m ∷ [])).hosts leader l).table ≡ messages p (s.hosts leader l).table)
        → ((l : ℕ) → SummaryKept leader (s.hosts leader l) ((after s role k r (m ∷ [])).hosts leader l).summary)
        → Unowned p (message_of m)
        → WidenedNext (is_rm p) (is_acceptor p) (is_majority_set p) (published p s) (published p (after s role k r (m ∷ [])))
        → Claim p s role k r (sent_by p r)
    claim_sends same stood unowned next =
        claim_sent (
          inl next,
          tied_same p s g _ (wire_old s.wire (m ∷ [])) nets_sent same stood
              (λ l b i v o h. ⊎_elim (λ x. x) (λ is. absurd (unowned l b i v o is)) ((wire_adds s.wire m _).0 h)),
        )

  -- nothing was sent, and the new N has sent messages alone
  module _ (carried : Carried p s.wire r.host.network) where
    pub nets_quiet : (q : Role) (j : ℕ) → Carried p s.wire ((after s role k r []).hosts q j).network
    nets_quiet = hosts_cases (λ q j h. Carried p s.wire h.network) s.hosts role k _ carried g.networks

    -- the host's table reads as before, and no bit of its summary was gained
    pub claim_network : read_of p r.host.table ≡ read_of p (s.hosts role k).table → SummaryKept role (s.hosts role k) r.host.summary
        → Claim p s role k r []
    claim_network is stood = (
      subst (λ (f : Role → ℕ → Reading). WidenedStep (is_rm p) (is_acceptor p) (is_majority_set p) (published p s) (state_of f)) readings
          (inr (refl, refl, λ x. (λ h. h, λ h. h))),
      tied_same p s g _ (λ x h. h) nets_quiet (λ l. ap (λ (f : Role → ℕ → Reading). (f leader l).held) (sym readings)) summaries
          (λ l b i v o h. h),
    )
      where
        -- the published state by the hosts' readings
        state_of : (Role → ℕ → Reading) → State
        state_of f = record { rm_state = λ i. (f rm i).states i; a_state = λ i a. (f acceptor a).votes i a; msgs = set_of s.wire }

        readings : ◌≡◌ {A = Role → ℕ → Reading} (λ q j. read_of p (s.hosts q j).table) (λ q j. read_of p ((after s role k r []).hosts q j).table)
        readings =
            fun_ext (λ (q : Role). fun_ext (λ (j : ℕ).
            hosts_cases (λ o i h. read_of p (s.hosts o i).table ≡ read_of p h.table) s.hosts role k r.host (sym is)
            (λ o i. refl) q j))

        summaries : (l : ℕ) → SummaryKept leader (s.hosts leader l) ((after s role k r []).hosts leader l).summary
        summaries =
            hosts_cases (λ o i h. SummaryKept o (s.hosts o i) h.summary) s.hosts role k r.host stood
            (λ o i. summary_same o (s.hosts o i) _ refl) leader

  -- a refused call
  pub claim_refused : (number : ℕ) → r ≡ left_by (refusal (s.hosts role k).table (s.hosts role k).network number) (s.hosts role k).summary
      → Claim p s role k r (sent_by p r)
  claim_refused number is =
      subst (Claim p s role k r) (sym (ap (sent_by p) is))
      (claim_network (λ m h. g.networks role k m (subst (λ (u : Left). Memᴰ m (messages p u.host.network)) is h))
      (ap (λ (u : Left). read_of p u.host.table) is) (summary_same role (s.hosts role k) _ (ap (λ (u : Left). u.host.summary) is)))
