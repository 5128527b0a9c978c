-- From the judgement of the plan and the tables to the whole call.
--     judged_views          where they are sound, the views of the bytes are the views of the messages
--     step_sound            so what was then performed is the step without a summary
--     call_refused          a judgement of the plan and the tables that refuses
--     call_unsound          a summary that is none
--     call_sound            both sound: what was then performed, with its marks, is the call
--     decided_same          Decided by the bytes of an inbox is what its messages say
--     marks_receipt, marks_other     what `mark_receipt` does
--     performed             what was evaluated is applied and marked
-- Assumes nothing.
use Prim.Native.Nat.{ℕ}
use mathlib.Core.Bool.{Bool, true, false, ◌&&◌, cond}
use mathlib.Core.List.{List}
use mathlib.Core.Path.{◌≡◌, refl, sym, ◌∙◌, ap, ap₂}
use lib.Dec.{eqb}
use borrow.Author.Tests.{eq-eqb, ne_eqb, eqb-true}
use Rattle.message.specs.declared.Plan.{Plan}
use Rattle.message.specs.declared.Message.{Message}
use Rattle.message.specs.Outcome.{Outcome, accepted, refused, and_then, refuse_if}
use Rattle.message.specs.Plan.{is_plan}
use Rattle.slots.specs.Table.{messages}
use Rattle.slots.specs.View.{View, view_table}
use Rattle.slots.specs.View.Bytes.{view_bytes}
use Rattle.slots.proofs.View.Laws.{view_judged}
use Rattle.change.specs.declared.Sent.{Sent}
use Rattle.change.specs.Change.{Step, refusal, applied}
use Rattle.change.proofs.Stepping.{step_performed}
use Rattle.event.specs.Event.{kind_of, slot_number}
use Rattle.inbox.specs.Inbox.{decided}
use Rattle.summary.specs.Summary.{marked_at, decided_bytes}
use Rattle.leader.specs.Leader.Received.{received_same}
use Rattle.leader.specs.Leader.Sound.{sound}
use Rattle.leader.specs.Leader.{is_summary, stands, leader_judged, leader_verdict_by, leader_step_by, summary_after, LeaderStep, leader_marked, leader_step}

pub judged_views : (p : Plan) (inbox network : List ℕ) → accepted tt ≡ leader_judged p inbox network
    → (view_bytes p inbox ≡ view_table p inbox) × (view_bytes p network ≡ view_table p network)
judged_views p inbox network e =
    let s = sound p inbox network (sym e) in
    (view_judged p inbox s.inbox_whole s.inbox_ordered, view_judged p network s.network_whole s.network_ordered)

pub step_sound : (p : Plan) (isDecided : ℕ → ℕ → Bool) (inbox network e : List ℕ) → accepted tt ≡ leader_judged p inbox network
    → (r : Step) → r ≡ applied p inbox network (leader_verdict_by p isDecided (view_bytes p inbox) (view_bytes p network) e)
    → r ≡ leader_step_by p isDecided inbox network e
unfolding leader_step_by
step_sound p isDecided inbox network e sound r h =
    let views = judged_views p inbox network sound in
    step_performed p inbox network _ _ sound r
    (h ∙ ap₂ (λ (v w : View). applied p inbox network (leader_verdict_by p isDecided v w e)) views.0 views.1)

-- Decided by the bytes of an inbox is what its messages say
pub decided_same : (p : Plan) (inbox : List ℕ) → is_plan p ≡ true → (view_bytes p inbox).messages ≡ messages p inbox
    → decided_bytes p inbox ≡ decided p (messages p inbox)
decided_same p inbox plan same =
    ap (λ (ms : List Message). (λ (i v : ℕ). is_plan p && decided p ms i v)) same
    ∙ ap (λ (b : Bool). (λ (i v : ℕ). b && decided p (messages p inbox) i v)) plan

-- what an accepted event does to the summary
module _ (d : ℕ → ℕ → Bool) (net : View) (e summary : List ℕ) (kind : ℕ) (of-kind : kind ≡ kind_of e) (sent : Sent) where
  pub marks_other : (kind ≡ 4 → ⊥) → summary ≡ summary_after d net e (accepted sent) summary
  marks_other h = rw (ne_eqb (kind_of e) 4 (λ k. h (of-kind ∙ k)))

  pub marks_receipt : kind ≡ 4 → (k : ℕ) → k ≡ slot_number e → (s : List ℕ) → s ≡ marked_at d summary (net.slot k)
      → s ≡ summary_after d net e (accepted sent) summary
  marks_receipt h k of-k s done = rw (eq-eqb (kind_of e) 4 (sym of-kind ∙ h), ← of-k) done

pub performed : (p : Plan) (summary e : List ℕ) (s s' : Step) → s ≡ s'
    → (summary' : List ℕ) → summary' ≡ summary_after (decided_bytes p s.table) (view_bytes p s.network) e s.answer summary
    → record { step = s; summary = summary' } ≡ leader_marked (decided_bytes p) (view_bytes p) summary e s'
performed p summary e s s' same summary' done =
    ap (λ (bytes : List ℕ). record { step = s; summary = bytes }) done ∙ ap (leader_marked (decided_bytes p) (view_bytes p) summary e) same

-- the whole call
module _ (p : Plan) (inbox summary network e : List ℕ) where
  pub call_refused : (k : ℕ) → refused k ≡ leader_judged p inbox network
      → record { step = refusal inbox network k; summary = summary } ≡ leader_step p inbox summary network e
  unfolding leader_step and_then
  call_refused k bad = rw (← bad)

  module _ (ok : accepted tt ≡ leader_judged p inbox network) where
    pub call_unsound : is_summary p.rms summary ≡ false
        → record { step = refusal inbox network 20; summary = summary } ≡ leader_step p inbox summary network e
    unfolding leader_step and_then refuse_if
    call_unsound bad = rw (← ok, bad)

    -- what the code says is Decided, and what stands in a slot, is what the judged tables say
    marks_same : (o : Outcome Sent) → (leader_step_by p (stands summary) inbox network e).answer ≡ o
        → summary_after (decided_bytes p (leader_step_by p (stands summary) inbox network e).table) (view_bytes p (leader_step_by p (stands summary) inbox network e).network) e o summary
        ≡ summary_after (decided p (messages p (leader_step_by p (stands summary) inbox network e).table)) (view_table p (leader_step_by p (stands summary) inbox network e).network) e o summary
    marks_same (refused k) is = refl
    marks_same (accepted sent) is = go (eqb (kind_of e) 4) refl
      where
        step : Step
        step = leader_step_by p (stands summary) inbox network e

        go : (b : Bool) → eqb (kind_of e) 4 ≡ b
            → cond b (marked_at (decided_bytes p step.table) summary ((view_bytes p step.network).slot (slot_number e))) summary
            ≡ cond b (marked_at (decided p (messages p step.table)) summary ((view_table p step.network).slot (slot_number e))) summary
        go false k = refl
        go true k =
            let tables = sound p inbox network (sym ok) in
            let (box, size, net) = received_same p (stands summary) inbox network e tables sent (eqb-true (kind_of e) 4 k) is in
            let slot = ap (λ (v : View). v.slot (slot_number e)) (judged_views p inbox network ok).1 in
            rw (net, slot) (ap (λ (d : ℕ → ℕ → Bool). marked_at d summary ((view_table p network).slot (slot_number e))) (decided_same p step.table tables.plan box))

    pub call_sound : is_summary p.rms summary ≡ true → (r : LeaderStep)
        → r ≡ leader_marked (decided_bytes p) (view_bytes p) summary e
        (applied p inbox network (leader_verdict_by p (stands summary) (view_bytes p inbox) (view_bytes p network) e))
        → r ≡ leader_step p inbox summary network e
    unfolding leader_step leader_step_by and_then refuse_if
    call_sound whole r done =
        let same = step_sound p (stands summary) inbox network e ok _ refl in
        done ∙ ap (leader_marked (decided_bytes p) (view_bytes p) summary e) same
        ∙ ap (λ (bytes : List ℕ). record { step = leader_step_by p (stands summary) inbox network e; summary = bytes }) (marks_same _ refl)
        ∙ rw (← ok, whole)
