-- Demand 3 for hosts that are apart, each with an N of its own, and what else holds of them. Happenings are any, in any order, from fresh hosts; what
-- is asked of each is `Genuine` alone: its own number, messages not forged, its own table not lost, no bit of a leader's summary gained. Needed.antt
-- shows that each of these is needed.
--     hosts_safe              after each happening the three claims of demand 3 hold
--     hosts_consistent        so none is committed beside one aborted where a list ends
--     hosts_never_11          and no answer of a list is 11
--     wire_kept               what was sent stays sent
--     sent_genuine, junk_genuine, not_event_genuine     the byte form of a sent message may come to any host at any time, and so may bytes that are no message;
--                             what is no event may be called with
--     other_order_genuine     and so may the messages of other orders that travel on the same link
--     lost_network, older_network, longer_network, longer_inbox     a host may go on with an N of zeros, with any host's N as it is or was, and with zeros after
--                             its N; a leader with zeros after its inbox
--     lost_summary, older_summary     a leader may go on with a summary of zeros, and with the one that a call found
--     hosts_agree, leaders_agree      no instance chooses two values, by what was sent or by what two leaders have received
--     summaries_decided       whatever stands in a leader's summary is decided by what it has received, or the weight has declined there
--     hosts_declined          where a weight declines, its instance chooses nothing but aborted, and Commit is not sent
--     hosts_one_decision      Commit and Abort are never both sent
--     hosts_chosen_2a, -2b    what a majority has voted for at a ballot is what every 2a and 2b there and at later ballots carries, ever after
--     deliver_answers, deliver_keeps, deliver_sends     a delivery answers the lowest number that applies; a refused one changes no byte of N; an accepted one
--                             has put the message that the bytes are into N, and answers the first slot where it stands
--     other_order_bytes, other_order_stands     row 18 applies to another order's message, and row 5 where it stands in N
--     orders_apart_delivery   so neither is accepted
-- In document 01's numbers: Words.antt. As behaviours of module PaxosCommit, Decide widened: Behaviour.antt. Assumes nothing.
use Rattle.std.specs.Prelude.{ℕ, ◌%◌, ◌≤◌, Bool, true, false, ◌⊎◌, ◌≡◌, length, replicate}
use Rattle.std.proofs.lemmas.Bool.{false≢true}
use mathlib.Core.List.Memᴰ
use mathlib.Core.List.{List, [], ◌∷◌, ◌++◌, Memᴰ}
use Rattle.std.proofs.Common.{inl, inr, sym, ◌∙◌, arith}
use Rattle.std.proofs.Math.Path.{refl}
use Rattle.message.specs.declared.Plan.{Plan}
use Rattle.message.specs.declared.Message as Wire
use Rattle.message.specs.Outcome.{Outcome, accepted, refused}
use Rattle.message.specs.Plan.{is_plan}
use Rattle.message.specs.Form.{is_in_range, bytes_of, slot_of}
use Rattle.message.specs.Codec.{read_message}
use Rattle.message.proofs.Codec.Laws.{read_message_bytes_of, read_message_of_other}
use Rattle.message.specs.Rows.{here, below, Applies, Lowest}
use Rattle.message.specs.Theorems.{bytes_rows, reader_rows}
use Rattle.message.proofs.Theorems.{other_order_row}
use Rattle.message.proofs.Rows.Laws.{is_ascending, lowest_of_ruled}
use Rattle.slots.specs.Table.{slots, messages}
use Rattle.slots.proofs.Table.Foreign.{foreign_table}
use Rattle.change.specs.declared.Sent.{Sent}
use Rattle.event.specs.Event.{is_event}
use Rattle.tcommit.specs.RmState.{committed, aborted}
use Rattle.paxos_commit.specs.PaxosCommit.{Val, Message, phase2a, phase2b, Commit, Abort, Decided}
use Rattle.paxos_commit.specs.PaxosCommit as Source
use Rattle.paxos_commit.proofs.PaxosCommit.Laws.{decided_kept}
use Rattle.paxos_commit.proofs.Words.{announced_words}
use Rattle.paxos_commit.proofs.PaxosCommit.Safety.Agreement.{consistent, chosen_2a, chosen_2b, one_chosen, declined_chooses, declined_ends, never_both}
use Rattle.leader.specs.Leader.{stands}
use Rattle.matching.specs.Reading.{is_rm, is_acceptor, is_majority_set, set_of}
use Rattle.matching.specs.Call.{Accepted, Sends}
use Rattle.matching.proofs.Theorems.{majorities_meet}
use Rattle.safety.proofs.Grounds.Zeros.{messages_zeros}
use Rattle.deliver.specs.Deliver.{deliver_step}
use Rattle.deliver.specs.Deliver.Laws as Deliver
use Rattle.apart.specs.Delivery.{deliver_rows}
use Rattle.apart.proofs.Delivery.Ruled.{deliver_ruled, sends_of_delivery}
use Rattle.apart.specs.Hosts.{Role, leader, System, Happening, call, delivery, restart, called, made, NotForged, SummaryKept, Genuine, row, Fresh}
use Rattle.apart.specs.Hosts.{system_after, answers, AllGenuine, Safe, AfterEach}
use Rattle.apart.proofs.Hosts.Moved.{new_host}
use Rattle.apart.proofs.Hosts.Tied.{Grounded, summary_same}
use Rattle.apart.proofs.Hosts.Restart.{messages_longer, zeros_stand}
use Rattle.apart.proofs.Hosts.Leader.{summary_grows}
use Rattle.apart.proofs.Hosts.Lists.{grounded_fresh, each_safe, grounded_after, genuine_start, no_11}
use Rattle.apart.proofs.Hosts.Lists as Lists

module _ (p : Plan) where
  pub hosts_safe : (s : System) → Fresh s → (hs : List Happening) → AfterEach p (Safe p) s hs
  hosts_safe s fresh = each_safe p s (grounded_fresh p s fresh)

  pub hosts_never_11 : (s : System) → Fresh s → (hs : List Happening) → AllGenuine p s hs → Memᴰ (refused 11) (answers p s hs) → ⊥
  hosts_never_11 s fresh hs = no_11 p s hs (hosts_safe s fresh hs)

  pub wire_kept : (s : System) (hs more : List Happening) → NotForged (system_after p s (hs ++ more)) (system_after p s hs).wire
  wire_kept = Lists.wire_kept p

  module _ (s : System) (role : Role) (k : ℕ) where
    pub sent_genuine : (m : Wire.Message) → is_plan p ≡ true → is_in_range p m ≡ true → Memᴰ m s.wire → Genuine p s (delivery role k (bytes_of p m))
    sent_genuine m plan range there = rw (read_message_bytes_of p m plan range) (λ x h. rw (one x h) there)
      where
        one : (x : Wire.Message) → Memᴰ x (m ∷ []) → x ≡ m
        one x (Memᴰ.head e) = e
        one x (Memᴰ.tail h) = absurd (Memᴰ.not-nil h)

    pub junk_genuine : (bytes : List ℕ) (number : ℕ) → read_message p bytes ≡ refused number → Genuine p s (delivery role k bytes)
    junk_genuine bytes number is = rw is (λ x h. absurd (Memᴰ.not-nil h))

    pub other_order_genuine : (q : Plan) (m : Wire.Message) → (p.order ≡ q.order → ⊥) → Genuine p s (delivery role k (bytes_of q m))
    other_order_genuine q m differs = go (read_message p (bytes_of q m)) refl
      where
        go : (o : Outcome Wire.Message) → read_message p (bytes_of q m) ≡ o → Genuine p s (delivery role k (bytes_of q m))
        go (accepted n) is = absurd (read_message_of_other p q m n differs is)
        go (refused number) is = junk_genuine (bytes_of q m) number is

    pub not_event_genuine : (e : List ℕ) → is_event p e ≡ false → Genuine p s (call role k e)
    not_event_genuine e is named = absurd (false≢true (sym is ∙ named))

    pub lost_network : (n : ℕ) → Genuine p s (restart role k (s.hosts role k).table (s.hosts role k).summary (replicate n 0))
    lost_network n = (inl refl, summary_same role (s.hosts role k) _ refl, rw (messages_zeros p n) (λ x h. absurd (Memᴰ.not-nil h)))

  -- its bits are lost, or it stopped after a call before its summary was written
  module _ (s : System) (l : ℕ) where
    pub lost_summary : (n : ℕ) → SummaryKept leader (s.hosts leader l) (replicate n 0)
    lost_summary n i v stood = absurd (zeros_stand n i v stood)

    pub older_summary : (e : List ℕ) → SummaryKept leader ((made p s (call leader l e)).system.hosts leader l) (s.hosts leader l).summary
    older_summary e i v stood = rw (new_host s.hosts leader l (called p leader (s.hosts leader l) e).host) (summary_grows p (s.hosts leader l) e i v stood)

  -- after genuine happenings from fresh hosts
  module _ (s : System) (fresh : Fresh s) where
    pub older_network : (hs more : List Happening) → AllGenuine p s (hs ++ more) → (role q : Role) (k j : ℕ)
        → Genuine p (system_after p s (hs ++ more))
        (restart role k ((system_after p s (hs ++ more)).hosts role k).table ((system_after p s (hs ++ more)).hosts role k).summary ((system_after p s hs).hosts q j).network)
    older_network hs more ok role q k j = (
      inl refl,
      summary_same role ((system_after p s (hs ++ more)).hosts role k) _ refl,
      λ m h. wire_kept s hs more m ((grounded_after p s (grounded_fresh p s fresh) hs (genuine_start p s hs more ok)).tied.networks q j m h),
    )

    module _ (hs : List Happening) (ok : AllGenuine p s hs) where
      abbrev end : System
      end = system_after p s hs

      g : Grounded p end
      g = grounded_after p s (grounded_fresh p s fresh) hs ok

      pub longer_network : (role : Role) (k n : ℕ) → length (end.hosts role k).network % 8 ≡ 0
          → Genuine p end (restart role k (end.hosts role k).table (end.hosts role k).summary ((end.hosts role k).network ++ replicate n 0))
      longer_network role k n whole = (
        inl refl,
        summary_same role (end.hosts role k) _ refl,
        rw (messages_longer p n (end.hosts role k).network whole) (g.tied.networks role k),
      )

      pub longer_inbox : (l n : ℕ) → length (end.hosts leader l).table % 8 ≡ 0
          → Genuine p end (restart leader l ((end.hosts leader l).table ++ replicate n 0) (end.hosts leader l).summary (end.hosts leader l).network)
      longer_inbox l n whole = (inr (whole, (n, refl)), (λ i v stood. stood), g.tied.networks leader l)

      pub hosts_consistent : (i j : ℕ) → is_rm p i → is_rm p j → row end i ≡ committed → row end j ≡ aborted → ⊥
      hosts_consistent i j q k is gone = consistent g.inv (majorities_meet p).1 j i k q gone is

      pub hosts_agree : (i : ℕ) (v w : Val)
          → Decided (is_rm p) (is_acceptor p) (is_majority_set p) (set_of end.wire) i v
          → Decided (is_rm p) (is_acceptor p) (is_majority_set p) (set_of end.wire) i w
          → v ≡ w
      hosts_agree = one_chosen g.inv (majorities_meet p).1

      pub leaders_agree : (l k i : ℕ) (v w : Val)
          → Decided (is_rm p) (is_acceptor p) (is_majority_set p) (set_of (messages p (end.hosts leader l).table)) i v
          → Decided (is_rm p) (is_acceptor p) (is_majority_set p) (set_of (messages p (end.hosts leader k).table)) i w
          → v ≡ w
      leaders_agree l k i v w d e = hosts_agree i v w (heard l i v d) (heard k i w e)
        where
          heard : (l i : ℕ) (v : Val)
              → Decided (is_rm p) (is_acceptor p) (is_majority_set p) (set_of (messages p (end.hosts leader l).table)) i v
              → Decided (is_rm p) (is_acceptor p) (is_majority_set p) (set_of end.wire) i v
          heard l = decided_kept (is_rm p) (is_acceptor p) (is_majority_set p) _ _ (g.tied.inboxes l)

      -- 1 is prepared, 2 aborted
      pub summaries_decided : (l i : ℕ)
          → (stands (end.hosts leader l).summary i 1 ≡ true
          → Decided (is_rm p) (is_acceptor p) (is_majority_set p) (set_of (messages p (end.hosts leader l).table)) i Source.prepared)
          × (stands (end.hosts leader l).summary i 2 ≡ true
          → Decided (is_rm p) (is_acceptor p) (is_majority_set p) (set_of (messages p (end.hosts leader l).table)) i Source.aborted
          ⊎ set_of (messages p (end.hosts leader l).table) (phase2a i 0 Source.aborted))
      summaries_decided l i =
          let (one, two) = announced_words (is_rm p) (is_acceptor p) (is_majority_set p) (set_of (messages p (end.hosts leader l).table)) i in
          (λ is. one.0 (g.tied.standing l i 1 (inl refl) is), λ is. two.0 (g.tied.standing l i 2 (inr refl) is))

      -- a weight that has proposed aborted at ballot 0 ends the order: its instance chooses nothing else, and Commit is not sent
      pub hosts_declined : (i : ℕ) → is_rm p i → set_of end.wire (phase2a i 0 Source.aborted)
          → (set_of end.wire Commit → ⊥)
          × ((v : Val) → Decided (is_rm p) (is_acceptor p) (is_majority_set p) (set_of end.wire) i v → v ≡ Source.aborted)
      hosts_declined i q h =
          (declined_ends g.inv (majorities_meet p).1 i q h, λ v. declined_chooses g.inv (majorities_meet p).1 i v h)

      pub hosts_one_decision : set_of end.wire Commit → set_of end.wire Abort → ⊥
      hosts_one_decision = never_both g.inv (majorities_meet p).1

  -- a majority's 2b for instance i, ballot c and value v were sent
  module _ (s : System) (fresh : Fresh s) (hs more : List Happening) (ok : AllGenuine p s (hs ++ more)) (i c b : ℕ) (v w : Val) (later : c ≤ b)
      (MS : ℕ → Bool) (many : is_majority_set p MS) (chosen : (a : ℕ) → MS a ≡ true → set_of (system_after p s hs).wire (phase2b a i c v)) where
    abbrev last : System
    last = system_after p s (hs ++ more)

    grounded_last : Grounded p last
    grounded_last = grounded_after p s (grounded_fresh p s fresh) (hs ++ more) ok

    votes : (a : ℕ) → MS a ≡ true → set_of last.wire (phase2b a i c v)
    votes a h = let (m, there, e) = chosen a h in (m, wire_kept s hs more m there, e)

    pub hosts_chosen_2a : set_of last.wire (phase2a i b w) → w ≡ v
    hosts_chosen_2a = chosen_2a grounded_last.inv (majorities_meet p).1 i c b v w MS many votes later

    pub hosts_chosen_2b : (a : ℕ) → set_of last.wire (phase2b a i b w) → w ≡ v
    hosts_chosen_2b = chosen_2b grounded_last.inv (majorities_meet p).1 i c b v w MS many votes later

-- bytes that came to a host with this N
module _ (p : Plan) (network bytes : List ℕ) where
  pub deliver_answers : Lowest (deliver_rows p network bytes) (deliver_step p network bytes).answer
  unfolding is_ascending
  deliver_answers = lowest_of_ruled _ refl _ (deliver_ruled p network bytes)

  pub deliver_keeps : (k : ℕ) → (deliver_step p network bytes).answer ≡ refused k → (deliver_step p network bytes).network ≡ network
  deliver_keeps = Deliver.deliver_keeps p network bytes

  pub deliver_sends : (sent : Sent) → (deliver_step p network bytes).answer ≡ accepted sent
      → (m : Wire.Message) × (read_message p bytes ≡ accepted m) × Sends p network m (deliver_step p network bytes).answer (deliver_step p network bytes).network
  deliver_sends = sends_of_delivery p network bytes

-- another order's message: 18 applies to its bytes, and 5 where it stands in N
module _ (p q : Plan) (differs : p.order ≡ q.order → ⊥) (m : Wire.Message) (network : List ℕ) where
  pub other_order_bytes : Applies (deliver_rows p network (bytes_of q m)) 18
  other_order_bytes = below (below (below (below (rows_below (other_order_row p q m differs)))))
    where
      rows_below : Applies (reader_rows p (bytes_of q m)) 18 → Applies (bytes_rows p (bytes_of q m)) 18
      rows_below (here h) = absurd (omega (arith, h.0))
      rows_below (below h) = h

  pub other_order_stands : Memᴰ (slot_of q m) (slots network) → (bytes : List ℕ) → Applies (deliver_rows p network bytes) 5
  other_order_stands there bytes = below (below (here (refl, (foreign_table p q differs m network there, tt))))

  pub orders_apart_delivery : (Accepted (deliver_step p network (bytes_of q m)).answer → ⊥)
      × (Memᴰ (slot_of q m) (slots network) → (bytes : List ℕ) → Accepted (deliver_step p network bytes).answer → ⊥)
  orders_apart_delivery = (
    (λ taken. (deliver_answers p network (bytes_of q m)).accepts.0 taken 18 other_order_bytes),
    λ there bytes taken. (deliver_answers p network bytes).accepts.0 taken 5 (other_order_stands there bytes),
  )
