-- One event call on a record that was opened and used, whatever the bytes of the event.
--     Idle                   a record of zeros that every call refuses: the plan or a length is wrong, the summary's too
--     Used, used_zeros       grounded or idle; a record of zeros is one of the two
--     used_event             so it stays; standing_event: and its summary true
--     path_event, agreed_used, not_contradicted_event     the three claims of demand 3
--     length_event           W keeps its length
--     published_event        an accepted call is an action of PCNext, for kind 8 of Decide widened, or a receipt; kept_event: a refused one leaves W,
--                            Q and N
--     action_event           so is every step that the accepted event's `Action` allows
--     slot_event             what stands in a slot of N stays there; on any tables
-- Assumes nothing.
use Rattle.std.specs.Prelude.{ℕ, ◌⊎◌, ◌≡◌, refl, length}
use mathlib.Core.List.{List, Memᴰ}
use Rattle.std.proofs.Common.{inl, inr, sym, ◌∙◌, ap}
use Rattle.message.specs.declared.Plan.{Plan}
use Rattle.message.specs.declared.Message as Wire
use Rattle.message.specs.Outcome.{Outcome, accepted, refused, and_then}
use Rattle.message.proofs.Outcome.Laws.{accepted_not_refused}
use Rattle.slots.specs.Table.{messages}
use Rattle.slots.specs.Send.{message_at}
use Rattle.change.specs.declared.Sent.{Sent}
use Rattle.tcommit.specs.RmState.{committed, aborted}
use Rattle.record.specs.Record.{Tables, zeroed, lent_judged, record_step}
use Rattle.record.specs.Record.Laws.{Sound, sound, judged}
use Rattle.record.specs.Record.Summary.{lent_judged_lem, lent_sound}
use Rattle.matching.specs.Call.{Sends}
use Rattle.paxos_commit.specs.PaxosCommit.{State}
use Rattle.conformance.specs.Record.{record_state, Acted}
use Rattle.conformance.specs.Action.{Action}
use Rattle.conformance.specs.Record.{prepares, chooses_to_abort, receives_commit, receives_abort, promises, casts_vote, receives, opens_ballot}
use Rattle.conformance.specs.Record.{proposes, commits, aborts}
use Rattle.conformance.proofs.Theorems.{record_answers, record_keeps, record_acts, record_sound}
use Rattle.safety.specs.Grounds.{Unchanged, Standing, Grounded}
use Rattle.safety.proofs.Grounds.Stored.{stores_slot}
use Rattle.safety.proofs.Grounds.Opened.{agreed_zeros, messages_none, grounded_zeros}
use Rattle.safety.proofs.Grounds.Marks.{standing_acted}
use Rattle.safety.proofs.Grounds.Kept.{grounded_acted}
use Rattle.safety.proofs.Grounds.Published.{unchanged_of, ActsOrReceives, NextOrStays, published_action, published_acted}
use Rattle.safety.proofs.Grounds.Moves.{Path, agreed, path_acted}
use Rattle.safety.proofs.Grounds.Contradicted.{row_14, not_contradicted, not_contradicted_empty}

pub record Idle (p : Plan) (t : Tables) : Type 0 where
  pub number : ℕ
  pub refuses : lent_judged p t ≡ refused number
  pub working : t.states ≡ zeroed t.states
  pub empty : t.network ≡ zeroed t.network
  pub unheard : t.inboxes ≡ zeroed t.inboxes
  pub unmarked : t.summary ≡ zeroed t.summary

abbrev pub Used : Plan → Tables → Type 0
Used p t = Grounded p t ⊎ Idle p t

module _ (p : Plan) (t : Tables) where
  pub used_zeros : t.states ≡ zeroed t.states → t.votes ≡ zeroed t.votes → t.network ≡ zeroed t.network → t.inboxes ≡ zeroed t.inboxes
      → t.summary ≡ zeroed t.summary → Used p t
  used_zeros w q n i s = go (lent_judged p t) refl
    where
      go : (o : Outcome (Unit {0})) → lent_judged p t ≡ o → Used p t
      go (accepted a) is = let (ok, right) = lent_sound p t is in inl (grounded_zeros p t w q n i s (sound p t ok) right)
      go (refused k) is = inr (record { number = k; refuses = is; working = w; empty = n; unheard = i; unmarked = s })

  pub agreed_used : Used p t → Memᴰ committed t.states → Memᴰ aborted t.states → ⊥
  agreed_used (inl g) h k = agreed p t g h k
  agreed_used (inr i) h k = agreed_zeros t.states i.working h

module _ (p : Plan) (t : Tables) (e : List ℕ) where
  idle_keeps : Idle p t → (record_step p t e).tables ≡ t
  unfolding record_step and_then
  idle_keeps i = rw i.refuses

  idle_refuses : Idle p t → (sent : Sent) → (record_step p t e).answer ≡ accepted sent → ⊥
  unfolding record_step and_then
  idle_refuses i sent is = accepted_not_refused (rw i.refuses at is)

  still_lent : Grounded p t → lent_judged p (record_step p t e).tables ≡ accepted tt
  still_lent g = record_sound p t e (lent_judged_lem p t (judged p t g.sound) g.standing.right)

  still_sound : Grounded p t → Sound p (record_step p t e).tables
  still_sound g = sound p _ (lent_sound p _ (still_lent g)).0

  kept_refused : (k : ℕ) → (record_step p t e).answer ≡ refused k → (record_step p t e).tables ≡ t
  kept_refused k is = record_keeps p t e k is

  grounded_event : Grounded p t → Path p t.states (record_step p t e).tables.states × Grounded p (record_step p t e).tables
  grounded_event g = go (record_step p t e).answer refl
    where
      go : (o : Outcome Sent) → (record_step p t e).answer ≡ o → Path p t.states (record_step p t e).tables.states × Grounded p (record_step p t e).tables
      go (accepted sent) is =
          let acted = record_acts p t e sent is in
          let room = row_14 p t e _ (record_answers p t e) sent is in
          let standing = standing_acted p t e _ _ g.sound g.standing (lent_sound p _ (still_lent g)).1 room acted in
          (path_acted p t g e _ _ (still_sound g) acted, grounded_acted p t e _ _ g (still_sound g) standing room acted)
      go (refused k) is = rw (kept_refused k is) (inl refl, g)

  pub used_event : Used p t → Used p (record_step p t e).tables
  used_event (inl g) = inl (grounded_event g).1
  used_event (inr i) = rw (idle_keeps i) (inr i)

  pub standing_event : Used p t → Standing p t → Standing p (record_step p t e).tables
  standing_event (inl g) st = (grounded_event g).1.standing
  standing_event (inr i) st = rw (idle_keeps i) st

  pub path_event : Used p t → Path p t.states (record_step p t e).tables.states
  path_event (inl g) = (grounded_event g).0
  path_event (inr i) = inl (ap (λ (u : Tables). u.states) (idle_keeps i))

  pub length_event : Used p t → length (record_step p t e).tables.states ≡ length t.states
  length_event (inl g) = (still_sound g).one_each ∙ sym g.sound.one_each
  length_event (inr i) = ap (λ (u : Tables). length u.states) (idle_keeps i)

  pub not_contradicted_event : Used p t → (record_step p t e).answer ≡ refused 11 → ⊥
  not_contradicted_event (inl g) = not_contradicted p t e _ (record_answers p t e) g
  not_contradicted_event (inr i) = not_contradicted_empty p t e _ (record_answers p t e) (messages_none p t i.empty)

  pub published_event : Used p t → (sent : Sent) → (record_step p t e).answer ≡ accepted sent
      → ActsOrReceives p t e (record_step p t e).tables
  published_event (inl g) sent is = published_acted p t e g (record_acts p t e sent is)
  published_event (inr i) sent is = absurd (idle_refuses i sent is)

  pub action_event : Used p t → (sent : Sent) → (record_step p t e).answer ≡ accepted sent
      → (s' : State) → Action p t e (record_state p t) s' → NextOrStays p t e s'
  action_event (inl g) sent is s' = published_action p t e g s' (record_acts p t e sent is)
  action_event (inr i) sent is s' = λ a. absurd (idle_refuses i sent is)

  pub kept_event : (k : ℕ) → (record_step p t e).answer ≡ refused k → Unchanged t (record_step p t e).tables
  kept_event k is = unchanged_of t (kept_refused k is)

  -- slot k of N holds m
  module _ (k : ℕ) (m : Wire.Message) where
    abbrev Stands : List ℕ → Type 0
    Stands network = message_at (messages p network) k ≡ accepted m

    slot_sent : {answer : Outcome Sent} {network : List ℕ} {x : Wire.Message} → Sends p t.network x answer network → Stands t.network → Stands network
    slot_sent {network} {x} sent = stores_slot p t.network network x sent.stores k m

    slot_quiet : {t' u : Tables} → t' ≡ u → Stands u.network → Stands t'.network
    slot_quiet same h = rw same h

    slot_acted : {answer : Outcome Sent} {t' : Tables} → Acted p t e answer t' → Stands t.network → Stands t'.network
    slot_acted (prepares kind rm acts sent same) = slot_sent sent
    slot_acted (chooses_to_abort kind rm acts sent same) = slot_sent sent
    slot_acted (receives_commit kind rm slot acts is same) = slot_quiet same
    slot_acted (receives_abort kind rm slot acts is same) = slot_quiet same
    slot_acted (promises kind acc ins bal slot acts sent same) = slot_sent sent
    slot_acted (casts_vote kind acc ins bal val slot acts sent same) = slot_sent sent
    slot_acted (receives kind member x slot taken is box stores same) = slot_quiet same
    slot_acted (opens_ballot kind member rm owned acts sent same) = slot_sent sent
    slot_acted (proposes kind member rm owned acts is sent box stores same) = slot_sent sent
    slot_acted (commits kind member acts sent same) = slot_sent sent
    slot_acted (aborts kind member acts sent same) = slot_sent sent

    pub slot_event : Stands t.network → Stands (record_step p t e).tables.network
    slot_event h = go (record_step p t e).answer refl
      where
        go : (o : Outcome Sent) → (record_step p t e).answer ≡ o → Stands (record_step p t e).tables.network
        go (accepted sent) is = slot_acted (record_acts p t e sent is) h
        go (refused j) is = rw (kept_refused j is) h
