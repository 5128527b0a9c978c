-- The summary of a record that was opened and used: each leader's bytes are what its inbox says (`Standing` of Grounds.antt).
--     unheard_zeros               inboxes of zeros hold no message
--     standing_zeros              so it is at first
--     commit_seen, abort_seen     what stands there is decided in the inbox, or declined
--     box_whole                   an inbox that gains a message for which it has room keeps its length
--     standing_acted              each case of `Acted` keeps it: a receipt marks what its message decides or declines, the own 2a does neither
-- Assumes nothing.
use Rattle.std.specs.Prelude.{ℕ, ◌*◌, ◌<◌, true, false, ◌⊎◌, ◌≡◌, refl, length, replicate}
use mathlib.Core.List.{List, []}
use Rattle.std.proofs.Common.{inl, inr, sym, ◌∙◌, arith}
use Rattle.std.proofs.Math.Path.{ap}
use Rattle.std.proofs.Math.Decide.{ℕ_discrete}
use Rattle.message.specs.declared.Plan.{Plan}
use Rattle.message.specs.declared.Message.{Message}
use Rattle.message.specs.declared.Message.TheVariants.{Phase2a}
use Rattle.message.specs.Outcome.{Outcome}
use Rattle.message.proofs.PlanLaws.{plan_bounds}
use Rattle.slots.specs.Table.{messages}
use Rattle.slots.proofs.Table.Holds.{holds_judged}
use Rattle.change.specs.declared.Sent.{Sent}
use Rattle.event.specs.Event.{who_of, low_of, slot_number}
use Rattle.inbox.specs.Inbox.{decided}
use Rattle.summary.specs.Summary.{marked}
use Rattle.summary.specs.Summary.Laws.{summary_length, is_value_lem, later_declines, marked_length}
use Rattle.summary.specs.Summary.Standing.{Joins, is_vote_for, Says, says_zeros, stands_says, says_other, marked_says}
use Rattle.paxos_commit.specs.PaxosCommit.{State}
use Rattle.leader.specs.Leader.{is_summary, stands}
use Rattle.phase2a.specs.Phase2a.Laws.{owns_above}
use Rattle.record.specs.Record.{Tables, inbox_size, inbox_of, with_inbox, zeroed, summary_of}
use Rattle.record.specs.Record.Laws.{Sound, inbox_whole}
use Rattle.record.specs.Record.Parts.{length_inbox_of, inbox_of_with, inbox_of_with_other, with_own, zeros_inbox_of}
use Rattle.record.specs.Record.Summary.{part_length}
use Rattle.matching.specs.Reading.{val_of}
use Rattle.matching.specs.Call.{HasRoom, Stores}
use Rattle.matching.proofs.Call.Laws.{slot_in_range}
use Rattle.matching.specs.Acceptor.{InSlot}
use Rattle.matching.specs.Leader.{CommitBy, AbortBy, DecidedOrDeclinedIn, CommitAction, AbortAction, InboxFull}
use Rattle.matching.specs.Leader.Decided.{DecidedBy}
use Rattle.matching.proofs.Leader.Declined.{reflects_inbox}
use Rattle.conformance.specs.Record.{own_inbox, own_summary, heard, Acted}
use Rattle.conformance.specs.Record.{prepares, chooses_to_abort, receives_commit, receives_abort, promises, casts_vote, receives, opens_ballot}
use Rattle.conformance.specs.Record.{proposes, commits, aborts}
use Rattle.safety.specs.Grounds.{seen_by, Standing}
use Rattle.safety.proofs.Grounds.Zeros.{messages_zeros}
use Rattle.safety.proofs.Grounds.Stored.{stores_length}

module _ (p : Plan) (t : Tables) where
  -- a part of zeros
  zeros_part : (xs : List ℕ) → xs ≡ zeroed xs → (l : ℕ) → l < p.leaders → inbox_of p xs l ≡ replicate (inbox_size p (zeroed xs)) 0
  unfolding zeroed
  zeros_part xs zeros l h = ap (λ (ys : List ℕ). inbox_of p ys l) zeros ∙ zeros_inbox_of p (length xs) l (omega arith) h

  pub unheard_zeros : t.inboxes ≡ zeroed t.inboxes → (l : ℕ) → l < p.leaders → messages p (inbox_of p t.inboxes l) ≡ []
  unheard_zeros inboxes l h = ap (messages p) (zeros_part t.inboxes inboxes l h) ∙ messages_zeros p (inbox_size p (zeroed t.inboxes))

  pub standing_zeros : is_summary (p.rms * p.leaders) t.summary ≡ true → t.inboxes ≡ zeroed t.inboxes → t.summary ≡ zeroed t.summary
      → Standing p t
  standing_zeros right inboxes summary =
      record { right = right; says = λ l h. rw (unheard_zeros inboxes l h, zeros_part t.summary summary l h) (says_zeros p (inbox_size p (zeroed t.summary))) }

-- what stands in leader l's bytes is decided or declined by what it has received
module _ (p : Plan) (t : Tables) (sound : Sound p t) (g : Standing p t) (l : ℕ) (member : l < p.leaders) where
  seen_announced : (i v : ℕ) → i < p.rms → (v ≡ 1) ⊎ (v ≡ 2) → stands (summary_of p t l) i v ≡ true → DecidedOrDeclinedIn p (seen_by p t l) i (val_of v)
  seen_announced i v rm value is =
      let range = (holds_judged p _ (inbox_whole p t sound l member) (sound.inboxes_ordered l member)).in_range in
      (reflects_inbox p (messages p (inbox_of p t.inboxes l)) range i v (is_value_lem v value)).0
      (sym (stands_says p _ _ (g.says l member) i v rm value) ∙ is)

  module _ (s s' : State) where
    pub commit_seen : CommitBy p (DecidedBy (stands (summary_of p t l))) s s' → CommitAction p (seen_by p t l) s s'
    commit_seen (all, sent, row, same) = (λ i rm. seen_announced i 1 rm (inl refl) (all i rm), sent, row, same)

    pub abort_seen : AbortBy p (DecidedBy (stands (summary_of p t l))) s s' → AbortAction p (seen_by p t l) s s'
    abort_seen ((i, rm, is), sent, row, same) = ((i, rm, seen_announced i 2 rm (inr refl) is), sent, row, same)

-- what a table holds after a message was stored there
stores_joins : (p : Plan) (table table' : List ℕ) (m : Message) → Stores p table m table' → Joins (messages p table) (messages p table') m
stores_joins p table table' m (inl (there, same)) = inr (ap (messages p) same, there)
stores_joins p table table' m (inr (absent, gained, form)) = inl gained

-- a 2a is no vote
no_vote : (ins bal val i v : ℕ) → is_vote_for i v (Phase2a ins bal val) ≡ false
unfolding is_vote_for
no_vote ins bal val i v = refl

pub box_whole : (p : Plan) (t : Tables) (e : List ℕ) → Sound p t → who_of e < p.leaders
    → (m : Message) → ((HasRoom p (own_inbox p t e) m → ⊥) → ⊥) → (box : List ℕ) → Stores p (own_inbox p t e) m box → length box ≡ inbox_size p t.inboxes
box_whole p t e s member m room box stores =
    stores_length p (own_inbox p t e) box m (inbox_whole p t s (who_of e) member) room stores
    ∙ length_inbox_of p t.inboxes (who_of e) (plan_bounds p s.plan).leaders_least member

module _ (p : Plan) (t : Tables) (e : List ℕ) (answer : Outcome Sent) (t' : Tables) (s : Sound p t) (g : Standing p t)
    (right : is_summary (p.rms * p.leaders) t'.summary ≡ true) where
  -- no inbox changes, and no byte of the summary
  quiet : {u : Tables} → t' ≡ u → u.inboxes ≡ t.inboxes → u.summary ≡ t.summary → Standing p t'
  quiet same inboxes summary =
      let i = ap (λ (u : Tables). u.inboxes) same ∙ inboxes in
      let b = ap (λ (u : Tables). u.summary) same ∙ summary in
      record { right = right; says = rw (i, b) g.says }

  module _ (member : who_of e < p.leaders) (box : List ℕ) (size : length box ≡ inbox_size p t.inboxes) where
    some : 0 < p.leaders
    some = (plan_bounds p s.plan).leaders_least

    -- one inbox changes, and its leader's bytes
    says_with : (own : List ℕ) → length own ≡ inbox_size p t.summary → Says p (messages p box) own
        → (k : ℕ) → k < p.leaders → Says p (messages p (inbox_of p (with_inbox p t.inboxes (who_of e) box) k)) (inbox_of p (with_inbox p t.summary (who_of e) own) k)
    says_with own whole new k below = go (ℕ_discrete k (who_of e))
      where
        go : Dec (k ≡ who_of e)
            → Says p (messages p (inbox_of p (with_inbox p t.inboxes (who_of e) box) k)) (inbox_of p (with_inbox p t.summary (who_of e) own) k)
        go (yes d) = rw (d, inbox_of_with p t.inboxes (who_of e) some member box size, inbox_of_with p t.summary (who_of e) some member own whole) new
        go (no d) =
            rw (
              inbox_of_with_other p t.inboxes (who_of e) some member box size k below d,
              inbox_of_with_other p t.summary (who_of e) some member own whole k below d,
            ) (g.says k below)

    own_whole : length (own_summary p t e) ≡ inbox_size p t.summary
    own_whole = length_inbox_of p t.summary (who_of e) some member

    own_length : length (own_summary p t e) ≡ p.rms
    own_length = part_length p t.summary s.plan (summary_length _ t.summary g.right) (who_of e) member

    -- a receipt
    marks : (m : Message) → InSlot p t.network e m → Stores p (own_inbox p t e) m box → t' ≡ heard p t e m box → Standing p t'
    marks m slot stores same =
        let range = slot_in_range p t.network s.network_whole s.network_ordered (slot_number e) m slot in
        let own = marked (decided p (messages p box)) (own_summary p t e) m in
        let new =
        marked_says p (messages p (own_inbox p t e)) (messages p box) (own_summary p t e) (g.says (who_of e) member) own_length m range
        (stores_joins p _ box m stores) in
        let i = ap (λ (u : Tables). u.inboxes) same in
        let b = ap (λ (u : Tables). u.summary) same in
        record { right = right; says = rw (i, b) (says_with own (marked_length _ (own_summary p t e) m ∙ own_whole) new) }

    -- the own 2a
    proposal_kept : (ins bal val : ℕ) → 0 < bal → Stores p (own_inbox p t e) (Phase2a ins bal val) box
        → {u : Tables} → t' ≡ u → u.inboxes ≡ with_inbox p t.inboxes (who_of e) box → u.summary ≡ t.summary → Standing p t'
    proposal_kept ins bal val above stores same inboxes summary =
        let new =
        says_other p (messages p (own_inbox p t e)) (messages p box) (own_summary p t e) (g.says (who_of e) member) (Phase2a ins bal val)
        (stores_joins p _ box (Phase2a ins bal val) stores) (no_vote ins bal val) (λ i. later_declines i ins bal val above) in
        let i = ap (λ (u : Tables). u.inboxes) same ∙ inboxes in
        let b = ap (λ (u : Tables). u.summary) same ∙ summary ∙ sym (with_own p t.summary (who_of e)) in
        record { right = right; says = rw (i, b) (says_with (own_summary p t e) own_whole new) }

  pub standing_acted : (InboxFull p (own_inbox p t e) t.network e → ⊥) → Acted p t e answer t' → Standing p t'
  standing_acted room (prepares kind rm acts sent same) = quiet same refl refl
  standing_acted room (chooses_to_abort kind rm acts sent same) = quiet same refl refl
  standing_acted room (receives_commit kind rm slot acts is same) = quiet same refl refl
  standing_acted room (receives_abort kind rm slot acts is same) = quiet same refl refl
  standing_acted room (promises kind acc ins bal slot acts sent same) = quiet same refl refl
  standing_acted room (casts_vote kind acc ins bal val slot acts sent same) = quiet same refl refl
  standing_acted room (receives kind member m slot taken is box stores same) =
      marks member box (box_whole p t e s member m (λ full. room (inl (kind, (m, slot, full)))) box stores) m slot stores same
  standing_acted room (opens_ballot kind member rm owned acts sent same) = quiet same refl refl
  standing_acted room (proposes kind member rm owned acts is sent box stores same) =
      proposal_kept member box (box_whole p t e s member _ (λ full. room (inr (kind, full))) box stores) _ _ _
      (owns_above p (low_of e) (who_of e) owned) stores same refl refl
  standing_acted room (commits kind member acts sent same) = quiet same refl refl
  standing_acted room (aborts kind member acts sent same) = quiet same refl refl
