-- Each hypothesis of `Genuine` is needed: for each a short list of happenings from fresh hosts, genuine but for one happening which fails that
-- hypothesis alone, after which weight 0 is aborted and weight 1 committed (`Broken` in specs/Needed.antt).
--     only_one_fails                in such a list that one happening is not genuine
--     own_number_needed             the host of weight 1 makes an event with the number 0
--     not_forged_needed             a Commit that nobody sent comes to weight 1
--     network_not_forged_needed     weight 1 goes on with an N that has it
--     states_kept_needed            weight 0 has sent its 2a and goes on with a W of zeros
--     votes_kept_needed             the acceptor has voted and goes on with a Q of zeros
--     summary_kept_needed           the leader has received nothing and goes on with a summary in which prepared stands for both weights
-- Assumes nothing.
use Rattle.std.specs.Prelude.{ℕ, true, List, [], ◌∷◌, ◌++◌, ◌≡◌, refl, replicate}
use Rattle.std.proofs.Common.{inl, sym, arith}
use Rattle.std.specs.Int.Count.{ones}
use Rattle.message.specs.Outcome.{and_then, refuse_if}
use Rattle.message.specs.Plan.{is_plan, is_count}
use Rattle.message.specs.Form.{is_value, is_vote, is_in_range, bytes_of, bytes_of1b, message_length, slot_of, is_known, map_length, fields_message, decode, has_order}
use Rattle.message.specs.Codec.{read_message}
use Rattle.slots.specs.All.{all}
use Rattle.slots.specs.Table.{is_table_length, slots_up_to, slots, is_zero, read_slot, read_table, all_unused, is_ordered, is_table, used_messages, messages}
use Rattle.slots.specs.Table.{same_bytes, store_at}
use Rattle.slots.specs.Send.{same_message, place_from, place_in, message_at}
use Rattle.slots.specs.View.{sending}
use Rattle.event.specs.Event.{slot_number, who_limit, are_zero, are_arguments, is_event}
use Rattle.rm.specs.Rm.{are_states, rm_judged, rm_choose, rm_receive_decision, rm_receive, rm_kind, rm_verdict, rm_step}
use Rattle.votes.specs.Votes.{is_vote_state, are_votes}
use Rattle.acceptor.specs.Acceptor.{vote_at, vote_of, phase1b, phase2b, acceptor_judged, acceptor_receive, acceptor_verdict, acceptor_step}
use Rattle.quorum.specs.Quorum.{count_acceptors, is_majority, is_quorum}
use Rattle.quorum.specs.Mask.{has_bit, insert_bit}
use Rattle.inbox.specs.Inbox.{any, is1b, is2a, is2b, higher, report_of, highest_report, proposal, chosen, is_chosen2b, decided, for_all, for_some}
use Rattle.summary.specs.Summary.{marked}
use Rattle.leader.specs.Leader.{owns, leader_judged, receipt_store, receipt, phase1a, phase2a_message, keep_own, send_both, phase2a, send_only, decide_send}
use Rattle.leader.specs.Leader.{leader_kind, leader_verdict_by, is_summary, stands, leader_step}
use Rattle.deliver.specs.Deliver.{deliver_judged, deliver_step}
use Rattle.apart.specs.Hosts.{Role, rm, acceptor, leader, Happening, call, delivery, restart, NotForged, TableKept, Genuine, row}
use Rattle.apart.specs.Needed.{order, tables, summaries, networks, fresh, end, Broken}
use Rattle.apart.proofs.Hosts.Lists.{zeros_fresh, genuine_around}
use Rattle.apart.proofs.Hosts.Tests.{are_sent, are_genuine, genuine_of_test, sents_of_test}
use Rattle.apart.proofs.Theorems.{hosts_consistent}

-- host k makes an event with its own number
abbrev pub act : Role → ℕ → ℕ → ℕ → ℕ → Happening
act role k kind high low = call role k (kind ∷ k ∷ high ∷ low ∷ [])

-- by the 2a of both weights, for prepared at ballot 0: the acceptor votes, the leader decides, and Commit comes to weight 1
abbrev pub deciding : List Happening
deciding =
    delivery acceptor 0 (0x39 ∷ 0 ∷ 0 ∷ 1 ∷ 1 ∷ 2 ∷ [])
    ∷ act acceptor 0 3 0 0
    ∷ delivery acceptor 0 (0x39 ∷ 1 ∷ 0 ∷ 1 ∷ 1 ∷ 2 ∷ [])
    ∷ act acceptor 0 3 0 2
    ∷ delivery leader 0 (0x3B ∷ 0 ∷ 0 ∷ 0 ∷ 1 ∷ 1 ∷ 2 ∷ [])
    ∷ act leader 0 4 0 0
    ∷ delivery leader 0 (0x3B ∷ 1 ∷ 0 ∷ 0 ∷ 1 ∷ 1 ∷ 2 ∷ [])
    ∷ act leader 0 4 0 1
    ∷ act leader 0 7 0 0
    ∷ delivery rm 1 (0x30 ∷ 1 ∷ 1 ∷ 2 ∷ [])
    ∷ []

-- weight 1's host makes an event of weight 0, which then aborts
abbrev pub foreign_number : Happening
foreign_number = call rm 1 (0 ∷ 0 ∷ 0 ∷ 0 ∷ [])

abbrev pub after_foreign_number : List Happening
after_foreign_number = act rm 1 0 0 0 ∷ act rm 0 1 0 0 ∷ (deciding ++ (act rm 1 2 0 2 ∷ []))

-- weight 0 is aborted, weight 1 prepared, and nobody has sent Commit
abbrev pub undecided : List Happening
undecided = act rm 0 1 0 0 ∷ act rm 1 0 0 0 ∷ []

abbrev pub forged_commit : Happening
forged_commit = delivery rm 1 (0x30 ∷ 1 ∷ 1 ∷ 2 ∷ [])

abbrev pub forged_network : List ℕ
forged_network = 0x30 ∷ 1 ∷ 1 ∷ 2 ∷ replicate 20 0

-- weight 0's W is lost, and its N is not
abbrev pub kept_network : List ℕ
kept_network = 0x39 ∷ 0 ∷ 0 ∷ 1 ∷ 1 ∷ 2 ∷ replicate 18 0

abbrev pub after_lost_states : List Happening
after_lost_states = act rm 1 0 0 0 ∷ act rm 0 1 0 0 ∷ (deciding ++ (act rm 1 2 0 1 ∷ []))

-- weight 1 commits; the acceptor loses Q; at ballot 1 the leader hears of no vote, and weight 0 aborts
abbrev pub before_lost_votes : List Happening
before_lost_votes = act rm 0 0 0 0 ∷ act rm 1 0 0 0 ∷ (deciding ++ (act rm 1 2 0 1 ∷ []))

abbrev pub after_lost_votes : List Happening
after_lost_votes =
    act leader 0 5 0 1
    ∷ delivery acceptor 0 (0x29 ∷ 0 ∷ 1 ∷ 1 ∷ 2 ∷ [])
    ∷ act acceptor 0 3 0 0
    ∷ delivery leader 0 (0x27 ∷ 0 ∷ 0 ∷ 1 ∷ 1 ∷ 2 ∷ [])
    ∷ act leader 0 4 0 4
    ∷ act leader 0 6 0 1
    ∷ delivery acceptor 0 (0x39 ∷ 0 ∷ 1 ∷ 2 ∷ 1 ∷ 2 ∷ [])
    ∷ act acceptor 0 3 0 2
    ∷ delivery leader 0 (0x3B ∷ 0 ∷ 0 ∷ 1 ∷ 2 ∷ 1 ∷ 2 ∷ [])
    ∷ act leader 0 4 0 6
    ∷ act leader 0 8 0 0
    ∷ delivery rm 0 (0x30 ∷ 2 ∷ 1 ∷ 2 ∷ [])
    ∷ act rm 0 2 0 1
    ∷ []

-- the leader's inbox and N are as they were
abbrev pub gained_bits : Happening
gained_bits = restart leader 0 (replicate 40 0) (1 ∷ 1 ∷ []) (replicate 64 0)

abbrev pub after_gained_bits : List Happening
after_gained_bits = act leader 0 7 0 0 ∷ delivery rm 1 (0x30 ∷ 1 ∷ 1 ∷ 2 ∷ []) ∷ act rm 1 2 0 1 ∷ []

pub only_one_fails : (before : List Happening) (one : Happening) (rest : List Happening) → Broken before one rest → Genuine order (end before) one → ⊥
only_one_fails before one rest b genuine =
    hosts_consistent order fresh (zeros_fresh tables summaries networks) (before ++ (one ∷ rest))
    (genuine_around order fresh before one rest b.genuine_before genuine b.genuine_rest) 1 0 (omega arith) (omega arith) b.committed b.aborted

-- `Broken` as tests that compute
abbrev Computed : List Happening → Happening → List Happening → Type 0
Computed before one rest =
    (are_genuine order fresh before ≡ true)
    × (are_genuine order (end (before ++ (one ∷ []))) rest ≡ true)
    × (row (end (before ++ (one ∷ rest))) 0 ≡ 3)
    × (row (end (before ++ (one ∷ rest))) 1 ≡ 2)

broken : (before : List Happening) (one : Happening) (rest : List Happening) → Computed before one rest → Broken before one rest
broken before one rest (start, later, three, two) =
    record {
      genuine_before = genuine_of_test order fresh before start;
      genuine_rest = genuine_of_test order (end (before ++ (one ∷ []))) rest later;
      aborted = three;
      committed = two;
    }

computed :
    Computed [] foreign_number after_foreign_number
    × Computed undecided forged_commit (act rm 1 2 0 1 ∷ [])
    × Computed undecided (restart rm 1 (0 ∷ 1 ∷ []) [] forged_network) (act rm 1 2 0 0 ∷ [])
    × Computed (act rm 0 0 0 0 ∷ []) (restart rm 0 (0 ∷ 0 ∷ []) [] kept_network) after_lost_states
    × Computed before_lost_votes (restart acceptor 0 (replicate 6 0) [] (replicate 48 0)) after_lost_votes
    × Computed undecided gained_bits after_gained_bits
    × (((end undecided).hosts rm 1).table ≡ 0 ∷ 1 ∷ [])
    × (are_sent order (end (act rm 0 0 0 0 ∷ [])).wire (messages order kept_network) ≡ true)
    × (are_sent order (end before_lost_votes).wire (messages order (replicate 48 0)) ≡ true)
    × (((end undecided).hosts leader 0).table ≡ replicate 40 0)
    × (are_sent order (end undecided).wire (messages order (replicate 64 0)) ≡ true)
unfolding read_message and_then refuse_if is_plan is_count is_value is_vote is_in_range bytes_of bytes_of1b message_length slot_of map_length is_known ones
    fields_message decode has_order all is_table_length slots_up_to slots is_zero read_slot read_table all_unused is_ordered is_table used_messages
    messages same_bytes store_at same_message place_from place_in message_at sending slot_number who_limit are_zero are_arguments is_event
    are_states rm_judged rm_choose rm_receive_decision rm_receive rm_kind rm_verdict rm_step vote_at
    is_vote_state are_votes acceptor_judged vote_of phase1b phase2b acceptor_receive acceptor_verdict acceptor_step count_acceptors is_majority
    is_quorum any is1b is2a is2b higher report_of highest_report proposal chosen is_chosen2b decided for_all for_some owns leader_judged
    receipt_store receipt phase1a phase2a_message keep_own send_both phase2a send_only decide_send leader_kind leader_verdict_by
    has_bit insert_bit marked is_summary stands leader_step deliver_judged deliver_step
computed = (
  (refl, refl, refl, refl),
  (refl, refl, refl, refl),
  (refl, refl, refl, refl),
  (refl, refl, refl, refl),
  (refl, refl, refl, refl),
  (refl, refl, refl, refl),
  refl,
  refl,
  refl,
  refl,
  refl,
)

pub own_number_needed : Broken [] foreign_number after_foreign_number
own_number_needed = broken [] foreign_number after_foreign_number computed.0

pub not_forged_needed : Broken undecided forged_commit (act rm 1 2 0 1 ∷ [])
not_forged_needed = broken undecided forged_commit (act rm 1 2 0 1 ∷ []) computed.1

-- its own table is kept
pub network_not_forged_needed : Broken undecided (restart rm 1 (0 ∷ 1 ∷ []) [] forged_network) (act rm 1 2 0 0 ∷ [])
    × TableKept ((end undecided).hosts rm 1) (0 ∷ 1 ∷ [])
network_not_forged_needed = (broken undecided (restart rm 1 (0 ∷ 1 ∷ []) [] forged_network) (act rm 1 2 0 0 ∷ []) computed.2, inl (sym computed.6))

-- its N is not forged
pub states_kept_needed : Broken (act rm 0 0 0 0 ∷ []) (restart rm 0 (0 ∷ 0 ∷ []) [] kept_network) after_lost_states
    × NotForged (end (act rm 0 0 0 0 ∷ [])) (messages order kept_network)
states_kept_needed = (
  broken (act rm 0 0 0 0 ∷ []) (restart rm 0 (0 ∷ 0 ∷ []) [] kept_network) after_lost_states computed.3,
  sents_of_test order (end (act rm 0 0 0 0 ∷ [])) (messages order kept_network) computed.7,
)

pub votes_kept_needed : Broken before_lost_votes (restart acceptor 0 (replicate 6 0) [] (replicate 48 0)) after_lost_votes
    × NotForged (end before_lost_votes) (messages order (replicate 48 0))
votes_kept_needed = (
  broken before_lost_votes (restart acceptor 0 (replicate 6 0) [] (replicate 48 0)) after_lost_votes computed.4,
  sents_of_test order (end before_lost_votes) (messages order (replicate 48 0)) computed.8,
)

-- its inbox is kept, and its N is not forged
pub summary_kept_needed : Broken undecided gained_bits after_gained_bits
    × TableKept ((end undecided).hosts leader 0) (replicate 40 0)
    × NotForged (end undecided) (messages order (replicate 64 0))
summary_kept_needed = (
  broken undecided gained_bits after_gained_bits computed.5,
  inl (sym computed.9),
  sents_of_test order (end undecided) (messages order (replicate 64 0)) computed.10,
)
