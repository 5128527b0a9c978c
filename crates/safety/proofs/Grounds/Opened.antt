-- A record of zeros, sound or not.
--     agreed_zeros       in W none is committed
--     messages_none      N holds no message
--     initial_zeros      it reads as PCInit of module PaxosCommit
--     grounded_zeros     if it is judged sound, it is grounded
-- Assumes nothing.
use Prim.Native.Nat.{ℕ, ◌*◌, ◌<◌}
use Rattle.std.specs.Prelude.{true, ◌≡◌, length, replicate}
use mathlib.Core.List.Memᴰ
use mathlib.Core.List.{List, [], Memᴰ}
use Rattle.std.proofs.Common.{◌∙◌, arith}
use Rattle.std.proofs.Math.Path.{ap}
use Rattle.message.specs.declared.Plan.{Plan}
use Rattle.message.proofs.PlanLaws.{plan_bounds}
use Rattle.slots.specs.Table.{messages}
use Rattle.tcommit.specs.RmState.{committed}
use Rattle.paxos_commit.specs.PaxosCommit.{Message, PCInit}
use Rattle.paxos_commit.proofs.PaxosCommit.Safety.Histories.{inv_init}
use Rattle.leader.specs.Leader.{is_summary}
use Rattle.record.specs.Record.{Tables, inbox_size, zeroed}
use Rattle.record.specs.Record.Laws.{Sound}
use Rattle.record.specs.Record.Parts.{zeros_inbox_of}
use Rattle.matching.specs.Reading.{is_rm, is_acceptor, is_majority_set, set_of}
use Rattle.conformance.specs.Record.{record_state}
use Rattle.safety.specs.Grounds.{seen_by, Grounded}
use Rattle.safety.proofs.Grounds.Marks.{standing_zeros}
use Rattle.safety.proofs.Grounds.Zeros.{member_zeros, get_d_zeros, messages_zeros, a_state_of_zeros}

-- a table of zeros holds no message
none_zeros : (p : Plan) (n : ℕ) (x : Message) → set_of (messages p (replicate n 0)) x → ⊥
none_zeros p n x (m, h, e) = Memᴰ.not-nil (rw (messages_zeros p n) at h)

pub agreed_zeros : (states : List ℕ) → states ≡ zeroed states → Memᴰ committed states → ⊥
unfolding zeroed
agreed_zeros states zeros h = let e = member_zeros (length states) committed (rw zeros at h) in omega (arith, e)

module _ (p : Plan) (t : Tables) where
  pub messages_none : t.network ≡ zeroed t.network → messages p t.network ≡ []
  unfolding zeroed
  messages_none network = ap (messages p) network ∙ messages_zeros p (length t.network)

  -- it reads as the published initial state
  pub initial_zeros : t.states ≡ zeroed t.states → t.votes ≡ zeroed t.votes → t.network ≡ zeroed t.network
      → PCInit (is_rm p) (is_acceptor p) (is_majority_set p) (record_state p t)
  unfolding zeroed
  initial_zeros states votes network = (
    (λ rm q. rw states (get_d_zeros (length t.states) rm)),
    (λ ins ac q k. rw votes (a_state_of_zeros p (length t.votes) ins ac)),
    λ x h. none_zeros p (length t.network) x (rw network at h),
  )

  pub grounded_zeros : t.states ≡ zeroed t.states → t.votes ≡ zeroed t.votes → t.network ≡ zeroed t.network → t.inboxes ≡ zeroed t.inboxes
      → t.summary ≡ zeroed t.summary → Sound p t → is_summary (p.rms * p.leaders) t.summary ≡ true → Grounded p t
  unfolding zeroed
  grounded_zeros states votes network inboxes summary s right =
      record {
        sound = s;
        inv = inv_init (initial_zeros states votes network);
        inboxes = λ l h x k. absurd (unseen l h x k);
        own_2a = λ l h b o i v k. absurd ((initial_zeros states votes network).2 _ k);
        standing = standing_zeros p t right inboxes summary;
      }
    where
      unseen : (l : ℕ) → l < p.leaders → (x : Message) → seen_by p t l x → ⊥
      unseen l h x k =
          let n : ℕ = inbox_size p (replicate (length t.inboxes) 0) in
          none_zeros p n x (rw (inboxes, zeros_inbox_of p (length t.inboxes) l (plan_bounds p s.plan).leaders_least h) at k)
