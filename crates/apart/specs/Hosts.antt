-- Hosts that are apart: each resource manager (document 01: weight), each acceptor and each leader is a host of its own, with its role's table
-- and an N of its own, a leader with its bytes of the summary too, and makes its role's own call. Messages pass between the hosts: lost, doubled,
-- late, in any order. All have one plan.
--     Role, Host, System          the hosts by role and number, and every message that was sent
--     Happening                   what may happen to a host: a call, a delivery, a restart, each with any bytes
--     Left, called, delivered, restarted, sent_by    what each answers and does to its host, and what a call sends
--     OwnNumber, NotForged, TableKept, SummaryKept, Genuine     what is asked of a happening: four hypotheses by name, and which of them where
--     Made, made                  what it answers and leaves
--     row, published              the weights' states, and the variables of module PaxosCommit
--     Fresh, zero_hosts           the first system: zeros of any lengths
--     system_after, answers, AllGenuine    what a list of happenings leaves and answers, and what is asked of it
--     Safe, AfterEach             the three claims of demand 3; a claim about each happening of a list
-- The theorems are in proofs/Theorems.antt, proofs/Words.antt and proofs/Behaviour.antt; why they hold stands in Hosts/. Assumes nothing.
use Rattle.std.specs.Prelude.{ℕ, ◌%◌, true, ◌⊎◌, ◌≡◌, length, replicate}
use mathlib.Core.List.{List, [], ◌∷◌, ◌++◌, Memᴰ}
use Rattle.message.specs.declared.Plan.{Plan}
use Rattle.message.specs.declared.Message as Wire
use Rattle.message.specs.Outcome.{Outcome, accepted, refused}
use Rattle.message.specs.Codec.{read_message}
use Rattle.slots.specs.Table.{slot_size, messages}
use Rattle.slots.specs.Send.{message_at}
use Rattle.change.specs.declared.Sent.{Sent}
use Rattle.change.specs.declared.Sent.TheVariants.{Slot, Quiet}
use Rattle.change.specs.Change.{Step}
use Rattle.event.specs.Event.{who_of, is_event}
use Rattle.tcommit.specs.RmState.{committed, aborted}
use Rattle.tcommit.specs.TCommit.{except, TCNext}
use Rattle.paxos_commit.specs.PaxosCommit.{State}
use Rattle.rm.specs.Rm.{rm_step}
use Rattle.acceptor.specs.Acceptor.{acceptor_step}
use Rattle.leader.specs.Leader.{stands, leader_step}
use Rattle.record.specs.Record.{zeroed}
use Rattle.matching.specs.Reading.{is_rm, set_of, rm_state_of, a_state_of}
use Rattle.deliver.specs.Deliver.{deliver_step}

-- a resource manager is a weight
pub data Role : Type 0 where
  rm acceptor leader : Role

pub record Host : Type 0 where
  -- W, Q or an inbox
  pub table : List ℕ
  -- a leader's bytes of the summary; of another role's host no call reads or changes them
  pub summary : List ℕ
  -- its N: what it sent and what came to it
  pub network : List ℕ

-- hosts are numbered from 0 in each role; those past the plan's numbers refuse every event
pub record System : Type 0 where
  pub hosts : Role → ℕ → Host
  -- every message that was sent, the last one first; no host has this list
  pub wire : List Wire.Message

-- what happens to host k of a role. (The field says event, which here is the four bytes of a call.)
pub data Happening : Type 0 where
  -- the host makes its role's own call; the event is any bytes
  call : (role : Role) (k : ℕ) (e : List ℕ) → Happening
  -- bytes come to the host
  delivery : (role : Role) (k : ℕ) (bytes : List ℕ) → Happening
  -- the host goes on with these tables
  restart : (role : Role) (k : ℕ) (table summary network : List ℕ) → Happening

-- what a happening at a host answers, and the host as it leaves it
pub record Left : Type 0 where
  pub answer : Outcome Sent
  pub host : Host

abbrev pub left_by : Step → List ℕ → Left
left_by r summary = record { answer = r.answer; host = record { table = r.table; summary = summary; network = r.network } }

-- the role's own call: what the contracts of rm_call::step, acceptor_call::step and leader_call::step name
abbrev pub called : Plan → Role → Host → List ℕ → Left
called p rm h e = left_by (rm_step p h.table h.network e) h.summary
called p acceptor h e = left_by (acceptor_step p h.table h.network e) h.summary
called p leader h e =
    left_by (leader_step p h.table h.summary h.network e).step (leader_step p h.table h.summary h.network e).summary

-- a delivery is lent N alone
abbrev pub delivered : Plan → Host → List ℕ → Left
delivered p h bytes =
    record {
      answer = (deliver_step p h.network bytes).answer;
      host = record { table = h.table; summary = h.summary; network = (deliver_step p h.network bytes).network };
    }

abbrev pub restarted : List ℕ → List ℕ → List ℕ → Left
restarted table summary network = record { answer = accepted Quiet; host = record { table = table; summary = summary; network = network } }

-- the message of an outcome, as a list
abbrev pub only : Outcome Wire.Message → List Wire.Message
only (accepted m) = m ∷ []
only (refused number) = []

-- what a call sent: the message in the slot that it answered
abbrev pub sent_as : Outcome Sent → List Wire.Message → List Wire.Message
sent_as (accepted (Slot slot)) ms = only (message_at ms slot)
sent_as (accepted Quiet) ms = []
sent_as (refused number) ms = []

abbrev pub sent_by : Plan → Left → List Wire.Message
sent_by p r = sent_as r.answer (messages p r.host.network)

-- host k of a role has new tables
abbrev pub put_host : (Role → ℕ → Host) → Role → ℕ → Host → Role → ℕ → Host
put_host f rm k h rm j = except (f rm) k h j
put_host f rm k h acceptor j = f acceptor j
put_host f rm k h leader j = f leader j
put_host f acceptor k h rm j = f rm j
put_host f acceptor k h acceptor j = except (f acceptor) k h j
put_host f acceptor k h leader j = f leader j
put_host f leader k h rm j = f rm j
put_host f leader k h acceptor j = f acceptor j
put_host f leader k h leader j = except (f leader) k h j

-- the system after it: the host's tables, and what was sent put on the wire
abbrev pub after : System → Role → ℕ → Left → List Wire.Message → System
after s role k r sent = record { hosts = put_host s.hosts role k r.host; wire = sent ++ s.wire }

pub record Made : Type 0 where
  pub answer : Outcome Sent
  pub system : System

abbrev pub stepped : System → Role → ℕ → Left → List Wire.Message → Made
stepped s role k r sent = record { answer = r.answer; system = after s role k r sent }

abbrev pub made : Plan → System → Happening → Made
made p s (call role k e) = stepped s role k (called p role (s.hosts role k) e) (sent_by p (called p role (s.hosts role k) e))
made p s (delivery role k bytes) = stepped s role k (delivered p (s.hosts role k) bytes) []
made p s (restart role k table summary network) = stepped s role k (restarted table summary network) []

-- its own number: what host k of a role calls with is no event, or names k
abbrev pub OwnNumber : Plan → ℕ → List ℕ → Type 0
OwnNumber p k e = is_event p e ≡ true → who_of e ≡ k

-- messages not forged: all of these were sent
abbrev pub NotForged : System → List Wire.Message → Type 0
NotForged s ms = (m : Wire.Message) → Memᴰ m ms → Memᴰ m s.wire

-- a table of whole slots with zeros after it
abbrev pub Longer : List ℕ → List ℕ → Type 0
Longer old table = (length old % slot_size ≡ 0) × ((n : ℕ) × (table ≡ old ++ replicate n 0))

-- its own table not lost: the host goes on with its role's table as it was; a full inbox may be made longer
abbrev pub TableKept : Host → List ℕ → Type 0
TableKept h table = (table ≡ h.table) ⊎ Longer h.table table

-- no bit gained: what stands in the summary that a leader goes on with stood before; bits may be lost, also all of them
abbrev pub SummaryKept : Role → Host → List ℕ → Type 0
SummaryKept rm h summary = Unit {0}
SummaryKept acceptor h summary = Unit {0}
SummaryKept leader h summary = (i v : ℕ) → stands summary i v ≡ true → stands h.summary i v ≡ true

-- all that is asked; bytes that read as no message are genuine, and N may be lost, older, of another length, or another host's
abbrev pub Genuine : Plan → System → Happening → Type 0
Genuine p s (call role k e) = OwnNumber p k e
Genuine p s (delivery role k bytes) = NotForged s (only (read_message p bytes))
Genuine p s (restart role k table summary network) =
    TableKept (s.hosts role k) table × SummaryKept role (s.hosts role k) summary × NotForged s (messages p network)

-- the row of weight states: byte i of the W of weight i
abbrev pub row : System → ℕ → ℕ
row s i = rm_state_of (s.hosts rm i).table i

-- entry (i, a) of the Q of acceptor a; msgs is what was sent
abbrev pub published : Plan → System → State
published p s = record { rm_state = row s; a_state = λ i a. a_state_of p (s.hosts acceptor a).table i a; msgs = set_of s.wire }

-- every table of every host is zeros, of any length, and nothing was sent
abbrev pub Fresh : System → Type 0
Fresh s =
    ((role : Role) (k : ℕ)
    → ((s.hosts role k).table ≡ zeroed (s.hosts role k).table)
    × ((s.hosts role k).summary ≡ zeroed (s.hosts role k).summary)
    × ((s.hosts role k).network ≡ zeroed (s.hosts role k).network))
    × (s.wire ≡ [])

-- such a system, by the lengths of the roles' tables, of the summaries and of the N
abbrev pub zero_hosts : (Role → ℕ → ℕ) → (Role → ℕ → ℕ) → (Role → ℕ → ℕ) → System
zero_hosts tables summaries networks =
    record {
      hosts = λ role k. record { table = replicate (tables role k) 0; summary = replicate (summaries role k) 0; network = replicate (networks role k) 0 };
      wire = [];
    }

-- the system as the last happening left it
abbrev pub system_after : Plan → System → List Happening → System
system_after p s [] = s
system_after p s (h ∷ hs) = system_after p (made p s h).system hs

-- each happening's answer, in order
abbrev pub answers : Plan → System → List Happening → List (Outcome Sent)
answers p s [] = []
answers p s (h ∷ hs) = (made p s h).answer ∷ answers p (made p s h).system hs

abbrev pub AllGenuine : Plan → System → List Happening → Type 0
AllGenuine p s [] = Unit {0}
AllGenuine p s (h ∷ hs) = Genuine p s h × AllGenuine p (made p s h).system hs

pub record Safe (p : Plan) (s : System) (r : Made) : Type 0 where
  -- the row of weight states is as before, or what one step of Transaction Commit makes of it
  pub path : (row r.system ≡ row s) ⊎ TCNext (is_rm p) (row s) (row r.system)
  -- no weight is committed while another is aborted
  pub agreed : (i j : ℕ) → is_rm p i → is_rm p j → row r.system i ≡ committed → row r.system j ≡ aborted → ⊥
  -- no decision was refused as contradictory
  pub not_contradicted : r.answer ≡ refused 11 → ⊥

-- P of each happening of a list, as long as each so far was genuine: of the system that it found, and of what it answered and left
abbrev pub AfterEach : Plan → (System → Made → Type 0) → System → List Happening → Type 0
AfterEach p P s [] = Unit {0}
AfterEach p P s (h ∷ hs) = Genuine p s h → P s (made p s h) × AfterEach p P (made p s h).system hs
