-- What `Acted` says of an accepted event call leaves nothing open: it determines the answer and every byte of all tables.
--     stores_one, sends_one     a message stored, and sent: one table, and one answer
--     SentWith, QuietWith       the answer and the tables of a call that sends, and of one that does not
--     moved, promised, voted, kept     the tables with what a kind changes in W, Q or I (after a receipt: `heard` of Record.antt)
--     Given, given_one          what `Acted` gives for each kind; two calls of which it holds are one
--     acted_one                 so for `Acted`
-- Assumes nothing.
use Rattle.std.specs.Prelude.{ℕ, zero, suc, ◌+◌, ◌<◌, List, ◌⊎◌, ◌≡◌, set}
use Rattle.std.proofs.Common.{inl, inr, sym, ◌∙◌, ap, arith}
use Rattle.std.proofs.Math.Decide.{dec_lt}
use Rattle.message.specs.declared.Plan.{Plan}
use Rattle.message.specs.declared.Message as Wire
use Rattle.message.specs.declared.Message.TheVariants.{Phase1a, Phase2a, Phase2b, Decision}
use Rattle.message.specs.Outcome.{Outcome, accepted}
use Rattle.message.proofs.Outcome.Laws.{accepted_inj}
use Rattle.slots.specs.Table.{messages, table_of}
use Rattle.slots.specs.Send.{message_at}
use Rattle.change.specs.declared.Sent.{Sent}
use Rattle.change.specs.declared.Sent.TheVariants.{Slot, Quiet}
use Rattle.event.specs.Event.{kind_of, who_of, high_of, low_of}
use Rattle.tcommit.specs.RmState.{prepared, committed, aborted}
use Rattle.paxos_commit.specs.PaxosCommit.{Commit, Abort}
use Rattle.acceptor.specs.Acceptor.{vote_at}
use Rattle.record.specs.Record.{Tables, with_states, with_votes, with_network, with_inboxes, with_inbox}
use Rattle.matching.specs.Reading.{message_of}
use Rattle.matching.specs.Call.{room_of, SlotHolds, Sends, Stores}
use Rattle.matching.specs.Acceptor.{report_of, InSlot}
use Rattle.matching.specs.Leader.{proposed}
use Rattle.conformance.specs.Record.{own_inbox, heard, Acted}
use Rattle.conformance.specs.Record.{prepares, chooses_to_abort, receives_commit, receives_abort, promises, casts_vote, receives, opens_ballot}
use Rattle.conformance.specs.Record.{proposes, commits, aborts}

pub stores_one : (p : Plan) (table : List ℕ) (m : Wire.Message) {u v : List ℕ} → Stores p table m u → Stores p table m v → u ≡ v
stores_one p table m (inl (stood, same)) (inl (again, kept)) = same ∙ sym kept
stores_one p table m (inl (stood, same)) (inr (new, more, form)) = absurd (new stood)
stores_one p table m (inr (new, more, form)) (inl (stood, same)) = absurd (new stood)
stores_one p table m (inr (new, more, form)) (inr (also, longer, is)) = form ∙ ap (table_of p (room_of table)) (more ∙ sym longer) ∙ sym is

pub sends_one : (p : Plan) (network : List ℕ) (m : Wire.Message) {a b : Outcome Sent} {u v : List ℕ}
    → Sends p network m a u → Sends p network m b v → (a ≡ b) × (u ≡ v)
sends_one p network m {a} {b} {u} {v} h k =
    let same = stores_one p network m h.stores k.stores in
    let there : message_at (messages p u) k.slot ≡ accepted m = rw same k.stands in
    let here : message_at (messages p v) h.slot ≡ accepted m = rw (← same) h.stands in
    (h.answered ∙ ap (λ (s : ℕ). accepted (Slot s)) (go there here (dec_lt h.slot k.slot) (dec_lt k.slot h.slot)) ∙ sym k.answered, same)
  where
    go : message_at (messages p u) k.slot ≡ accepted m → message_at (messages p v) h.slot ≡ accepted m
        → Dec (h.slot < k.slot) → Dec (k.slot < h.slot) → h.slot ≡ k.slot
    go there here (yes lower) d = absurd (k.first h.slot lower here)
    go there here (no l) (yes lower) = absurd (h.first k.slot lower there)
    go there here (no l) (no g) = omega arith

module _ (p : Plan) (t : Tables) (e : List ℕ) where
  -- what is sent is all that N gains; every other table is as in `left`
  abbrev SentWith : Wire.Message → Tables → Outcome Sent → Tables → Type 0
  SentWith m left answer u = Sends p t.network m answer u.network × (u ≡ with_network left u.network)

  abbrev QuietWith : Tables → Outcome Sent → Tables → Type 0
  QuietWith left answer u = (answer ≡ accepted Quiet) × (u ≡ left)

  module _ {a b : Outcome Sent} {u v : Tables} where
    sent_one : (m : Wire.Message) (left : Tables) → SentWith m left a u → SentWith m left b v → (a ≡ b) × (u ≡ v)
    sent_one m left (h, is) (k, was) =
        let (answer, network) = sends_one p t.network m h k in
        (answer, is ∙ ap (with_network left) network ∙ sym was)

    quiet_one : (left : Tables) → QuietWith left a u → QuietWith left b v → (a ≡ b) × (u ≡ v)
    quiet_one left (h, is) (k, was) = (h ∙ sym k, is ∙ sym was)

  -- the first of the three bytes of Q of the instance and the acceptor
  abbrev at : ℕ → ℕ
  at ins = vote_at p ins (who_of e)

  -- the tables with the event's weight in another state, with its acceptor's promise, its vote, or another inbox of its leader
  abbrev moved : ℕ → Tables
  moved state = with_states t (set t.states (who_of e) state)

  abbrev promised : ℕ → ℕ → Tables
  promised ins bal = with_votes t (set t.votes (at ins) bal)

  abbrev voted : ℕ → ℕ → ℕ → Tables
  voted ins bal val = with_votes t (set (set (set t.votes (at ins) bal) (at ins + 1) bal) (at ins + 2) val)

  abbrev kept : List ℕ → Tables
  kept inbox = with_inboxes t (with_inbox p t.inboxes (who_of e) inbox)

  abbrev Decides : Outcome Sent → Tables → Type 0
  Decides answer u =
      (SlotHolds p t.network e (λ m. message_of m ≡ Commit) × QuietWith (moved committed) answer u)
      ⊎ (SlotHolds p t.network e (λ m. message_of m ≡ Abort) × QuietWith (moved aborted) answer u)

  abbrev Votes : Outcome Sent → Tables → Type 0
  Votes answer u =
      ((ins bal : ℕ) × InSlot p t.network e (Phase1a ins bal)
      × SentWith (report_of p t.votes (who_of e) ins bal) (promised ins bal) answer u)
      ⊎ ((ins bal val : ℕ) × InSlot p t.network e (Phase2a ins bal val)
      × SentWith (Phase2b ins (who_of e) bal val) (voted ins bal val) answer u)

  abbrev Receives : Outcome Sent → Tables → Type 0
  Receives answer u =
      (m : Wire.Message) × InSlot p t.network e m
      × ((inbox : List ℕ) × Stores p (own_inbox p t e) m inbox
      × QuietWith (heard p t e m inbox) answer u)

  abbrev Proposes : Outcome Sent → Tables → Type 0
  Proposes answer u =
      (inbox : List ℕ) × Stores p (own_inbox p t e) (proposed p (own_inbox p t e) e) inbox
      × SentWith (proposed p (own_inbox p t e) e) (kept inbox) answer u

  abbrev Given : ℕ → Outcome Sent → Tables → Type 0
  Given zero = SentWith (Phase2a (who_of e) 0 1) (moved prepared)
  Given (suc zero) = SentWith (Phase2a (who_of e) 0 2) (moved aborted)
  Given (suc (suc zero)) = Decides
  Given (suc (suc (suc zero))) = Votes
  Given (suc (suc (suc (suc zero)))) = Receives
  Given (suc (suc (suc (suc (suc zero))))) = SentWith (Phase1a (high_of e) (low_of e)) t
  Given (suc (suc (suc (suc (suc (suc zero)))))) = Proposes
  Given (suc (suc (suc (suc (suc (suc (suc zero))))))) = SentWith (Decision 1) t
  Given (suc (suc (suc (suc (suc (suc (suc (suc k)))))))) = SentWith (Decision 2) t

  -- the slot holds one message
  one_slot : {m n : Wire.Message} → InSlot p t.network e m → InSlot p t.network e n → m ≡ n
  one_slot h k = accepted_inj (sym h ∙ k)

  module _ {a b : Outcome Sent} {u v : Tables} where
    decides_one : Decides a u → Decides b v → (a ≡ b) × (u ≡ v)
    decides_one (inl (m, q)) (inl (n, r)) = quiet_one _ q r
    decides_one (inr (m, q)) (inr (n, r)) = quiet_one _ q r
    decides_one (inl ((m, held, is), q)) (inr ((n, holds, was), r)) = let same = one_slot held holds in let z : ◌≡◌ {A = ℕ} 0 1 = cc in absurd (omega arith)
    decides_one (inr ((m, held, is), q)) (inl ((n, holds, was), r)) = let same = one_slot held holds in let z : ◌≡◌ {A = ℕ} 0 1 = cc in absurd (omega arith)

    votes_one : Votes a u → Votes b v → (a ≡ b) × (u ≡ v)
    votes_one (inl (i, c, held, s)) (inl (j, d, holds, r)) =
        let same = one_slot held holds in let x : i ≡ j = cc in let y : c ≡ d = cc in
        sent_one _ (promised j d) (rw (x, y) at s) r
    votes_one (inr (i, c, w, held, s)) (inr (j, d, x, holds, r)) =
        let same = one_slot held holds in let f : i ≡ j = cc in let g : c ≡ d = cc in let h : w ≡ x = cc in
        sent_one _ (voted j d x) (rw (f, g, h) at s) r
    votes_one (inl (i, c, held, s)) (inr (j, d, x, holds, r)) = let same = one_slot held holds in let z : ◌≡◌ {A = ℕ} 0 1 = cc in absurd (omega arith)
    votes_one (inr (i, c, w, held, s)) (inl (j, d, holds, r)) = let same = one_slot held holds in let z : ◌≡◌ {A = ℕ} 0 1 = cc in absurd (omega arith)

    receives_one : Receives a u → Receives b v → (a ≡ b) × (u ≡ v)
    receives_one (m, held, (box, h, q)) (n, holds, (case, k, r)) =
        let same = one_slot held holds in
        let one = stores_one p (own_inbox p t e) n (rw same at h) k in
        quiet_one (heard p t e n case) (rw (same, one) at q) r

    proposes_one : Proposes a u → Proposes b v → (a ≡ b) × (u ≡ v)
    proposes_one (box, h, s) (case, k, r) =
        let one = stores_one p (own_inbox p t e) (proposed p (own_inbox p t e) e) h k in
        sent_one _ (kept case) (rw one at s) r

    given_one : (k : ℕ) → Given k a u → Given k b v → (a ≡ b) × (u ≡ v)
    given_one zero = sent_one _ (moved prepared)
    given_one (suc zero) = sent_one _ (moved aborted)
    given_one (suc (suc zero)) = decides_one
    given_one (suc (suc (suc zero))) = votes_one
    given_one (suc (suc (suc (suc zero)))) = receives_one
    given_one (suc (suc (suc (suc (suc zero))))) = sent_one _ t
    given_one (suc (suc (suc (suc (suc (suc zero)))))) = proposes_one
    given_one (suc (suc (suc (suc (suc (suc (suc zero))))))) = sent_one _ t
    given_one (suc (suc (suc (suc (suc (suc (suc (suc k)))))))) = sent_one _ t

  given : {a : Outcome Sent} {u : Tables} → Acted p t e a u → Given (kind_of e) a u
  given (prepares kind rm acts sent same) = rw kind (sent, same)
  given (chooses_to_abort kind rm acts sent same) = rw kind (sent, same)
  given (receives_commit kind rm slot acts is same) = rw kind (inl (slot, (is, same)))
  given (receives_abort kind rm slot acts is same) = rw kind (inr (slot, (is, same)))
  given (promises kind acc ins bal slot acts sent same) = rw kind (inl (ins, bal, slot, (sent, same)))
  given (casts_vote kind acc ins bal val slot acts sent same) = rw kind (inr (ins, bal, val, slot, (sent, same)))
  given (receives kind member m slot taken is box stores same) = rw kind (m, slot, (box, stores, (is, same)))
  given (opens_ballot kind member rm owned acts sent same) = rw kind (sent, same)
  given (proposes kind member rm owned acts is sent box stores same) = rw kind (box, stores, (sent, same))
  given (commits kind member acts sent same) = rw kind (sent, same)
  given (aborts kind member acts sent same) = rw kind (sent, same)

  pub acted_one : {a b : Outcome Sent} {u v : Tables} → Acted p t e a u → Acted p t e b v → (a ≡ b) × (u ≡ v)
  acted_one h k = given_one (kind_of e) (given h) (given k)
