-- What becomes of W.
--     path_acted     each case of `Acted` leaves W, or takes one step of Transaction Commit
--     agreed         no resource manager of a grounded record is committed while another is aborted
-- Assumes nothing.
use Rattle.std.specs.Prelude.{ℕ, suc, ◌<◌, ◌⊎◌, ◌≡◌, refl, length, get_or}
use Rattle.std.proofs.Common.{zero-le, suc-le-suc, inl, inr, sym, ◌∙◌, ap, ext_get_or}
use mathlib.Core.List.Memᴰ
use mathlib.Core.List.{List, [], ◌∷◌, Memᴰ}
use Rattle.message.specs.declared.Plan.{Plan}
use Rattle.message.specs.Outcome.{Outcome}
use Rattle.change.specs.declared.Sent.{Sent}
use Rattle.event.specs.Event.{who_of}
use Rattle.tcommit.specs.RmState.{committed, aborted}
use Rattle.tcommit.specs.TCommit.{TCNext, TCStep}
use Rattle.paxos_commit.proofs.PaxosCommit.Safety.Rm.{tc_rm_prepare, tc_rm_choose_to_abort, tc_rm_rcv_commit, tc_rm_rcv_abort}
use Rattle.paxos_commit.proofs.PaxosCommit.Safety.Agreement.{consistent}
use Rattle.record.specs.Record.{Tables}
use Rattle.record.specs.Record.Laws.{Sound}
use Rattle.matching.specs.Reading.{is_rm, rm_state_of}
use Rattle.matching.proofs.Theorems.{majorities_meet}
use Rattle.conformance.specs.Record.{record_state, Acted}
use Rattle.conformance.specs.Record.{prepares, chooses_to_abort, receives_commit, receives_abort, promises, casts_vote, receives, opens_ballot, proposes, commits, aborts}
use Rattle.safety.specs.Grounds.{Grounded}

-- a member stands at a place
member_get_d : (l : List ℕ) (v : ℕ) → Memᴰ v l → (i : ℕ) × (i < length l) × (get_or l i 0 ≡ v)
member_get_d [] v h = absurd (Memᴰ.not-nil h)
member_get_d (x ∷ l) v (Memᴰ.head e) = (0, suc-le-suc zero-le, sym e)
member_get_d (x ∷ l) v (Memᴰ.tail h) = let (i, below, e) = member_get_d l v h in (suc i, suc-le-suc below, e)

-- W' is W, or what one step of Transaction Commit makes of it
abbrev pub Path : Plan → List ℕ → List ℕ → Type 0
Path p states states' = (states' ≡ states) ⊎ TCNext (is_rm p) (rm_state_of states) (rm_state_of states')

-- rows of one length that read as one function are one list
path_step : (p : Plan) (states states' : List ℕ) → length states' ≡ length states → TCStep (is_rm p) (rm_state_of states) (rm_state_of states') → Path p states states'
path_step p states states' size (inl next) = inr next
path_step p states states' size (inr same) = inl (ext_get_or 0 states' states size (λ i h. ap (λ (f : ℕ → ℕ). f i) same))

module _ (p : Plan) (t : Tables) (g : Grounded p t) where
  pub agreed : Memᴰ committed t.states → Memᴰ aborted t.states → ⊥
  agreed h k =
      let (i, low, is) = member_get_d t.states committed h in
      let (j, below, no_more) = member_get_d t.states aborted k in
      consistent g.inv (majorities_meet p).1 j i (rw g.sound.one_each at below) (rw g.sound.one_each at low) no_more is

  module _ (e : List ℕ) (answer : Outcome Sent) (t' : Tables) (s : Sound p t') where
    size : length t'.states ≡ length t.states
    size = s.one_each ∙ sym g.sound.one_each

    -- W is not the event's
    stays : {u : Tables} → t' ≡ u → u.states ≡ t.states → Path p t.states t'.states
    stays same kept = inl (ap (λ (u : Tables). u.states) same ∙ kept)

    pub path_acted : Acted p t e answer t' → Path p t.states t'.states
    path_acted (prepares kind rm acts sent same) = path_step p _ _ size (tc_rm_prepare g.inv (record_state p t') (who_of e) rm acts)
    path_acted (chooses_to_abort kind rm acts sent same) =
        path_step p _ _ size (tc_rm_choose_to_abort g.inv (record_state p t') (who_of e) rm (majorities_meet p).1 acts)
    path_acted (receives_commit kind rm slot acts is same) =
        path_step p _ _ size (tc_rm_rcv_commit g.inv (record_state p t') (who_of e) rm (majorities_meet p).1 acts)
    path_acted (receives_abort kind rm slot acts is same) =
        path_step p _ _ size (tc_rm_rcv_abort g.inv (record_state p t') (who_of e) rm (majorities_meet p).1 acts)
    path_acted (promises kind acc ins bal slot acts sent same) = stays same refl
    path_acted (casts_vote kind acc ins bal val slot acts sent same) = stays same refl
    path_acted (receives kind member m slot taken is box stores same) = stays same refl
    path_acted (opens_ballot kind member rm owned acts sent same) = stays same refl
    path_acted (proposes kind member rm owned acts is sent box stores same) = stays same refl
    path_acted (commits kind member acts sent same) = stays same refl
    path_acted (aborts kind member acts sent same) = stays same refl
