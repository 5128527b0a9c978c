-- Why demand 3 holds: what every record that was opened and used satisfies.
--     sent_in, seen_by   N and an inbox as sets of published messages
--     InvOf              the invariant of module PaxosCommit, of the state that W, Q and N hold
--     Unchanged          the tables that hold that state keep their bytes
--     Standing           each byte of the summary is what its leader's inbox says
--     Grounded           the invariant, what the inboxes have to do with N, and the summary with them
-- In proofs/Grounds: Opened.antt, a record of zeros; Marks.antt, Inboxes.antt and Kept.antt, each event keeps it; Published.antt, each event is a step of module
-- PaxosCommit, Decide widened; Moves.antt, what becomes of W; Contradicted.antt, no decision contradicts; Steps.antt, one event call. Laws that these
-- use: Zeros.antt, Stored.antt.
-- Assumes nothing.
use Rattle.std.specs.Prelude.{ℕ, ◌*◌, ◌<◌, true, ◌≡◌}
use Rattle.message.specs.declared.Plan.{Plan}
use Rattle.slots.specs.Table.{messages}
use Rattle.paxos_commit.specs.PaxosCommit.{Val, Message, phase2a}
use Rattle.paxos_commit.specs.PaxosCommit.Safety.{Inv}
use Rattle.summary.specs.Summary.Standing.{Says}
use Rattle.leader.specs.Leader.{owns, is_summary}
use Rattle.record.specs.Record.{Tables, inbox_of, summary_of}
use Rattle.record.specs.Record.Laws.{Sound}
use Rattle.matching.specs.Reading.{is_rm, is_acceptor, is_majority_set, set_of}
use Rattle.conformance.specs.Record.{record_state}

-- the messages in N, and in leader l's inbox, as sets
abbrev pub sent_in : Plan → Tables → Message → Type 0
sent_in p t = set_of (messages p t.network)

abbrev pub seen_by : Plan → Tables → ℕ → Message → Type 0
seen_by p t l = set_of (messages p (inbox_of p t.inboxes l))

abbrev pub InvOf : Plan → Tables → Type 0
InvOf p t = Inv (is_rm p) (is_acceptor p) (is_majority_set p) (record_state p t)

-- W, Q and N keep their bytes, and so the three variables of module PaxosCommit stay
abbrev pub Unchanged : Tables → Tables → Type 0
Unchanged t t' = (t'.states ≡ t.states) × (t'.votes ≡ t.votes) × (t'.network ≡ t.network)

pub record Standing (p : Plan) (t : Tables) : Type 0 where
  -- row 20 does not apply
  pub right : is_summary (p.rms * p.leaders) t.summary ≡ true
  -- byte i of leader l's is what is decided of instance i, or declined, by the messages in its inbox
  pub says : (l : ℕ) → l < p.leaders → Says p (messages p (inbox_of p t.inboxes l)) (summary_of p t l)

pub record Grounded (p : Plan) (t : Tables) : Type 0 where
  -- rows 1 to 6 do not apply
  pub sound : Sound p t
  -- the invariant of module PaxosCommit
  pub inv : InvOf p t
  -- every message in an inbox is in N
  pub inboxes : (l : ℕ) → l < p.leaders → (x : Message) → seen_by p t l x → sent_in p t x
  -- every 2a in N at a ballot that a leader owns is in its inbox
  pub own_2a : (l : ℕ) → l < p.leaders → (b : ℕ) → owns p l b ≡ true → (i : ℕ) (v : Val) → sent_in p t (phase2a i b v) → seen_by p t l (phase2a i b v)
  -- the summary says what the inboxes do
  pub standing : Standing p t
