-- The inboxes of a grounded record, when N gains a message or none.
--     Heard, Owned       what is asked of one inbox: it has sent messages alone, and all 2a at the ballots that its leader owns
--     inbox_cases        a claim about every inbox, when one has new bytes
--     grounded_same      a step that changes no inbox keeps the record grounded
--     grounded_inbox     so does one by which one inbox gains a sent message, if every new 2a at an owned ballot is that message and its owner's
-- Assumes nothing.
use Rattle.std.specs.Prelude.{ℕ, ◌<◌, true, List, ◌⊎◌, ◌≡◌, length}
use Rattle.std.proofs.Common.{⊎_elim}
use Rattle.std.proofs.Math.Decide.{ℕ_discrete}
use Rattle.message.specs.declared.Plan.{Plan}
use Rattle.message.specs.declared.Message as Wire
use Rattle.message.proofs.PlanLaws.{plan_bounds}
use Rattle.slots.specs.Table.{messages}
use Rattle.paxos_commit.specs.PaxosCommit.{Val, Message, phase2a}
use Rattle.leader.specs.Leader.{owns}
use Rattle.record.specs.Record.{Tables, inbox_size, inbox_of, with_inbox}
use Rattle.record.specs.Record.Laws.{Sound}
use Rattle.record.specs.Record.Parts.{inbox_of_with, inbox_of_with_other}
use Rattle.matching.specs.Reading.{message_of, set_of}
use Rattle.matching.specs.Call.{Stores}
use Rattle.safety.specs.Grounds.{sent_in, InvOf, Standing, Grounded}
use Rattle.safety.proofs.Grounds.Stored.{stores_kept, stores_new, stores_split}

abbrev Heard : Plan → (Message → Type 0) → ℕ → List ℕ → Type 0
Heard p sent l box = (x : Message) → set_of (messages p box) x → sent x

abbrev Owned : Plan → (Message → Type 0) → ℕ → List ℕ → Type 0
Owned p sent l box = (b : ℕ) → owns p l b ≡ true → (i : ℕ) (v : Val) → sent (phase2a i b v) → set_of (messages p box) (phase2a i b v)

module _ (p : Plan) (inboxes : List ℕ) (l : ℕ) (box : List ℕ) (some : 0 < p.leaders) (member : l < p.leaders)
    (whole : length box ≡ inbox_size p inboxes) (P : ℕ → List ℕ → Type 0) where
  inbox_cases : P l box → ((k : ℕ) → k < p.leaders → (k ≡ l → ⊥) → P k (inbox_of p inboxes k))
      → (k : ℕ) → k < p.leaders → P k (inbox_of p (with_inbox p inboxes l box) k)
  inbox_cases new others k below = go (ℕ_discrete k l)
    where
      go : Dec (k ≡ l) → P k (inbox_of p (with_inbox p inboxes l box) k)
      go (yes e) = rw (e, inbox_of_with p inboxes l some member box whole) new
      go (no d) = rw (inbox_of_with_other p inboxes l some member box whole k below d) (others k below d)

module _ (p : Plan) (t t' : Tables) (g : Grounded p t) (s : Sound p t') (standing : Standing p t') (inv : InvOf p t') (kept : (x : Message) → sent_in p t x → sent_in p t' x) where
  pub grounded_same : t'.inboxes ≡ t.inboxes
      → ((l b i : ℕ) (v : Val) → owns p l b ≡ true → sent_in p t' (phase2a i b v) → sent_in p t (phase2a i b v)) → Grounded p t'
  grounded_same same old =
      record {
        sound = s;
        inv = inv;
        inboxes = rw same (λ l h x k. kept x (g.inboxes l h x k));
        own_2a = rw same (λ l h b o i v k. g.own_2a l h b o i v (old l b i v o k));
        standing = standing;
      }

  module _ (l : ℕ) (member : l < p.leaders) (m : Wire.Message) (box : List ℕ) (stores : Stores p (inbox_of p t.inboxes l) m box)
      (whole : length box ≡ inbox_size p t.inboxes) (same : t'.inboxes ≡ with_inbox p t.inboxes l box) (sent : sent_in p t' (message_of m))
      (old : (k b i : ℕ) (v : Val) → owns p k b ≡ true → sent_in p t' (phase2a i b v)
      → sent_in p t (phase2a i b v) ⊎ ((phase2a i b v ≡ message_of m) × (k ≡ l))) where
    heard_new : Heard p (sent_in p t') l box
    heard_new x h = ⊎_elim (λ k. kept x (g.inboxes l member x k)) (λ e. rw e sent) (stores_split p _ box m stores x h)

    owned_new : Owned p (sent_in p t') l box
    owned_new b o i v h =
        ⊎_elim (λ k. stores_kept p _ box m stores _ (g.own_2a l member b o i v k)) (λ e. rw e.0 (stores_new p _ box m stores)) (old l b i v o h)

    owned_other : (k : ℕ) → k < p.leaders → (k ≡ l → ⊥) → Owned p (sent_in p t') k (inbox_of p t.inboxes k)
    owned_other k below other b o i v h = ⊎_elim (g.own_2a k below b o i v) (λ e. absurd (other e.1)) (old k b i v o h)

    pub grounded_inbox : Grounded p t'
    grounded_inbox =
        let some = (plan_bounds p g.sound.plan).leaders_least in
        record {
          sound = s;
          inv = inv;
          inboxes = rw same
              (inbox_cases p t.inboxes l box some member whole (Heard p (sent_in p t')) heard_new (λ k below other x h. kept x (g.inboxes k below x h)));
          own_2a = rw same (inbox_cases p t.inboxes l box some member whole (Owned p (sent_in p t')) owned_new owned_other);
          standing = standing;
        }
