-- A decline is the source's, read from the set of messages in the inbox; and so a leader's test of its inbox reflects what it may announce.
--     declined_seen, seen_declined     the 2a of (i, 0, aborted)
--     reflects_inbox                   Decided or declined
-- Assumes nothing.
use Rattle.std.specs.Prelude.{ℕ, Bool, ◌&&◌, ◌||◌, List, ◌≡◌, ltb, eqb}
use Rattle.std.proofs.Math.Bool.{true, false, or-true}
use Rattle.std.proofs.Math.Logic.{inl, inr}
use Rattle.std.proofs.Math.Path.{refl}
use Rattle.std.proofs.Common.{ap, arith, eq-eqb, eqb-true}
use Rattle.message.specs.declared.Plan.{Plan}
use Rattle.message.specs.declared.Message.{Message}
use Rattle.message.specs.declared.Message.TheVariants.{Phase1a, Phase1b, Phase2a, Phase2b, Decision}
use Rattle.message.proofs.Outcome.Laws.{both}
use Rattle.message.specs.Form.{is_value, is_in_range}
use Rattle.slots.proofs.Table.Holds.{all_in_range}
use Rattle.inbox.specs.Inbox.{any, decided}
use Rattle.inbox.specs.Inbox.Members.{any_member, member_any}
use Rattle.summary.specs.Summary.{is_decline, decided_or_declined}
use Rattle.summary.specs.Summary.Laws.{decline_is, is_decline_lem, is_value_lem}
use Rattle.paxos_commit.specs.PaxosCommit as Source
use Rattle.matching.specs.Reading.{val_of, message_of, set_of}
use Rattle.matching.specs.Leader.{DecidedOrDeclinedIn}
use Rattle.matching.specs.Leader.Decided.{Reflects}
use Rattle.matching.proofs.Leader.Conditions.{in_range_lem, apart, decision_apart, value_known, decided_Decided, Decided-decided}

of_decline : (m : Message) (i : ℕ) → is_decline i m ≡ true → message_of m ≡ Source.phase2a i 0 Source.aborted
of_decline m i h = ap message_of (decline_is i m h)

decline_of : (p : Plan) (m : Message) (i : ℕ) → is_in_range p m ≡ true → message_of m ≡ Source.phase2a i 0 Source.aborted → is_decline i m ≡ true
unfolding is_in_range
decline_of p (Phase1a ins bal) i r e = apart _ _ e (λ z. omega arith)
decline_of p (Phase1b ins acc mbal vote) i r e = apart _ _ e (λ z. omega arith)
decline_of p (Phase2a ins bal val) i r e =
    let j : ins ≡ i = cc in let k : bal ≡ 0 = cc in let o : val_of val ≡ val_of 2 = cc in
    let n : val ≡ 2 = value_known val 2 (both (ltb ins p.rms) (is_value val) r).1 (is_value_lem 2 (inr refl)) o in
    rw (j, k, n) (is_decline_lem i)
decline_of p (Phase2b ins acc bal val) i r e = apart _ _ e (λ z. omega arith)
decline_of p (Decision val) i r e = decision_apart val _ e (λ z. omega arith)

module _ (p : Plan) (ms : List Message) where
  declined_seen : (i : ℕ) → any (is_decline i) ms ≡ true → set_of ms (Source.phase2a i 0 Source.aborted)
  declined_seen i h = let (m, there, is) = any_member (is_decline i) ms h in (m, there, of_decline m i is)

  module _ (r : all_in_range p ms ≡ true) where
    seen_declined : (i : ℕ) → set_of ms (Source.phase2a i 0 Source.aborted) → any (is_decline i) ms ≡ true
    seen_declined i (m, there, e) = member_any (is_decline i) ms m there (decline_of p m i (in_range_lem p ms m r there) e)

    pub reflects_inbox : Reflects (decided_or_declined p ms) (DecidedOrDeclinedIn p (set_of ms))
    unfolding decided_or_declined
    reflects_inbox i v h = (go (decided p ms i v) refl, back)
      where
        go : (t : Bool) → decided p ms i v ≡ t → (t || (eqb v 2 && any (is_decline i) ms)) ≡ true → DecidedOrDeclinedIn p (set_of ms) i (val_of v)
        go true d k = inl (decided_Decided p ms i v d)
        go false d k =
            let t = both (eqb v 2) (any (is_decline i) ms) k in
            inr (ap val_of (eqb-true v 2 t.0), declined_seen i t.1)

        back : DecidedOrDeclinedIn p (set_of ms) i (val_of v) → (decided p ms i v || (eqb v 2 && any (is_decline i) ms)) ≡ true
        back (inl d) = rw (Decided-decided p ms r i v h d)
        back (inr (e, s)) = rw (eq-eqb v 2 (value_known v 2 h (is_value_lem 2 (inr refl)) e), seen_declined i s) (or-true (decided p ms i v))
