-- The constants of a plan, and messages in range, are as module PaxosCommit takes them.
--     plan_assumes         the ASSUME: majorities are sets of acceptors, and any two meet
--     range_is_message     a message in range is one of the set Message
-- Assumes nothing.
use Rattle.std.specs.Prelude.{ℕ, Bool, true, false, ◌&&◌, cond, ◌⊎◌, ◌≡◌, refl, ltb, leb, eqb}
use Rattle.std.proofs.Common.{inl, inr, ltb-true, leb-true}
use Rattle.message.specs.declared.Plan.{Plan}
use Rattle.message.specs.declared.Message as Wire
use Rattle.message.specs.declared.Message.TheVariants.{Phase1a, Phase1b, Phase2a, Phase2b, Decision}
use Rattle.message.proofs.Outcome.Laws.{both}
use Rattle.message.specs.Form.{is_value, is_vote, is_in_range}
use Rattle.quorum.proofs.Quorum.Laws.{quorums_meet}
use Rattle.paxos_commit.specs.PaxosCommit.{prepared, aborted, Commit, Abort, Assume, IsMessage}
use Rattle.matching.specs.Reading.{is_rm, is_acceptor, is_majority_set, val_of, message_of}

pub plan_assumes : (p : Plan) → Assume (is_rm p) (is_acceptor p) (is_majority_set p)
plan_assumes p = (λ MS many ac member. many.0 ac member, meet)
  where
    meet : (MS1 MS2 : ℕ → Bool) → is_majority_set p MS1 → is_majority_set p MS2 → (ac : ℕ) × (MS1 ac ≡ true) × (MS2 ac ≡ true)
    meet MS1 MS2 h k = let r = quorums_meet p.acceptors MS1 MS2 h.1 k.1 in (r.0, r.2, r.3)

value_is : (val : ℕ) → (val_of val ≡ prepared) ⊎ (val_of val ≡ aborted)
value_is val = go (eqb val 1)
  where
    go : (b : Bool) → (cond b prepared aborted ≡ prepared) ⊎ (cond b prepared aborted ≡ aborted)
    go true = inl refl
    go false = inr refl

pub range_is_message : (p : Plan) (m : Wire.Message) → is_in_range p m ≡ true → IsMessage (is_rm p) (is_acceptor p) (is_majority_set p) (message_of m)
unfolding is_in_range
range_is_message p (Phase1a ins bal) h =
    let b = both (ltb ins p.rms) (leb 1 bal) h in (ltb-true _ _ b.0, leb-true _ _ b.1)
range_is_message p (Phase1b ins acc mbal vote) h =
    let b = both (ltb ins p.rms && ltb acc p.acceptors) (is_vote vote) h in
    let c = both (ltb ins p.rms) (ltb acc p.acceptors) b.0 in (ltb-true _ _ c.0, ltb-true _ _ c.1)
range_is_message p (Phase2a ins bal val) h =
    let b = both (ltb ins p.rms) (is_value val) h in (ltb-true _ _ b.0, value_is val)
range_is_message p (Phase2b ins acc bal val) h =
    let b = both (ltb ins p.rms && ltb acc p.acceptors) (is_value val) h in
    let c = both (ltb ins p.rms) (ltb acc p.acceptors) b.0 in (ltb-true _ _ c.1, ltb-true _ _ c.0, value_is val)
range_is_message p (Decision val) h = go (eqb val 1)
  where
    go : (b : Bool) → IsMessage (is_rm p) (is_acceptor p) (is_majority_set p) (cond b Commit Abort)
    go true = tt
    go false = tt
