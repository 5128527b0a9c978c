-- A list of happenings from fresh hosts with tables of different sizes, all genuine, that ends committed: so the theorems are not proved of nothing.
--     committing                      one weight, one acceptor, one leader; a 2a comes twice, junk comes, the leader loses its N and its bits, a
--                                     Commit of another order comes
--     hosts_fresh, hosts_genuine, hosts_commit     the hosts are fresh; each happening is genuine; what they answer, what was sent, and that the weight ends committed
-- Assumes nothing.
use Rattle.std.specs.Prelude.{ℕ, true, List, [], ◌∷◌, ◌≡◌, refl, replicate}
use Rattle.std.specs.Int.Count.{ones}
use Rattle.message.specs.declared.Plan.{Plan}
use Rattle.message.specs.declared.Message.TheVariants.{Phase2a, Phase2b, Decision}
use Rattle.message.specs.Outcome.{accepted, refused, and_then, refuse_if}
use Rattle.message.specs.Plan.{is_plan, is_count}
use Rattle.message.specs.Form.{is_value, is_vote, is_in_range, bytes_of, bytes_of1b, message_length, slot_of, is_known, map_length, fields_message, decode, has_order}
use Rattle.message.specs.Codec.{read_message}
use Rattle.slots.specs.All.{all}
use Rattle.slots.specs.Table.{is_table_length, slots_up_to, slots, is_zero, read_slot, read_table, all_unused, is_ordered, is_table, used_messages, messages}
use Rattle.slots.specs.Table.{same_bytes, store_at}
use Rattle.slots.specs.Send.{same_message, place_from, place_in, message_at}
use Rattle.slots.specs.View.{sending}
use Rattle.event.specs.Event.{slot_number, who_limit, are_zero, are_arguments, is_event}
use Rattle.change.specs.declared.Sent.TheVariants.{Slot, Quiet}
use Rattle.rm.specs.Rm.{are_states, rm_judged, rm_choose, rm_receive_decision, rm_receive, rm_kind, rm_verdict, rm_step}
use Rattle.votes.specs.Votes.{is_vote_state, are_votes}
use Rattle.acceptor.specs.Acceptor.{vote_at, vote_of, phase1b, phase2b, acceptor_judged, acceptor_receive, acceptor_verdict, acceptor_step}
use Rattle.quorum.specs.Quorum.{count_acceptors, is_majority, is_quorum}
use Rattle.quorum.specs.Mask.{has_bit, insert_bit}
use Rattle.inbox.specs.Inbox.{any, is1b, is2a, is2b, higher, report_of, highest_report, proposal, chosen, is_chosen2b, decided, for_all, for_some}
use Rattle.summary.specs.Summary.{marked}
use Rattle.leader.specs.Leader.{owns, leader_judged, receipt_store, receipt, phase1a, phase2a_message, keep_own, send_both, phase2a, send_only, decide_send}
use Rattle.leader.specs.Leader.{leader_kind, leader_verdict_by, is_summary, stands, leader_step}
use Rattle.deliver.specs.Deliver.{deliver_judged, deliver_step}
use Rattle.apart.specs.Hosts.{Role, rm, acceptor, leader, System, Happening, call, delivery, restart, row, Fresh, zero_hosts, system_after, answers, AllGenuine}
use Rattle.apart.proofs.Hosts.Lists.{zeros_fresh}
use Rattle.apart.proofs.Hosts.Tests.{are_genuine, genuine_of_test}

abbrev order : Plan
order = record { rms = 1; acceptors = 1; leaders = 1; order = 0x0102 }

-- W, Q and inbox, the leader's summary, and each N
abbrev tables : Role → ℕ → ℕ
tables rm k = 1
tables acceptor k = 3
tables leader k = 16

abbrev summaries : Role → ℕ → ℕ
summaries rm k = 0
summaries acceptor k = 0
summaries leader k = 1

abbrev networks : Role → ℕ → ℕ
networks rm k = 16
networks acceptor k = 24
networks leader k = 16

abbrev pub fresh : System
fresh = zero_hosts tables summaries networks

abbrev act : Role → ℕ → ℕ → ℕ → Happening
act role kind high low = call role 0 (kind ∷ 0 ∷ high ∷ low ∷ [])

abbrev pub committing : List Happening
committing =
    act rm 0 0 0
    ∷ delivery acceptor 0 (0x39 ∷ 0 ∷ 0 ∷ 1 ∷ 1 ∷ 2 ∷ [])
    ∷ delivery acceptor 0 (0x39 ∷ 0 ∷ 0 ∷ 1 ∷ 1 ∷ 2 ∷ [])
    ∷ act acceptor 3 0 0
    ∷ delivery leader 0 (0x29 ∷ 0 ∷ [])
    ∷ delivery leader 0 (0x3B ∷ 0 ∷ 0 ∷ 0 ∷ 1 ∷ 1 ∷ 2 ∷ [])
    ∷ act leader 4 0 0
    ∷ act leader 7 0 0
    ∷ restart leader 0 (0x3B ∷ 0 ∷ 0 ∷ 0 ∷ 1 ∷ 1 ∷ 2 ∷ replicate 9 0) (0 ∷ []) (replicate 8 0)
    ∷ delivery rm 0 (0x30 ∷ 1 ∷ 2 ∷ 1 ∷ [])
    ∷ delivery rm 0 (0x30 ∷ 1 ∷ 1 ∷ 2 ∷ [])
    ∷ act rm 2 0 1
    ∷ []

pub hosts_fresh : Fresh fresh
hosts_fresh = zeros_fresh tables summaries networks

computed :
    (are_genuine order fresh committing ≡ true)
    × (answers order fresh committing
    ≡ accepted (Slot 0) ∷ accepted (Slot 0) ∷ accepted (Slot 0) ∷ accepted (Slot 1) ∷ refused 16 ∷ accepted (Slot 0) ∷ accepted Quiet
    ∷ accepted (Slot 1) ∷ accepted Quiet ∷ refused 18 ∷ accepted (Slot 1) ∷ accepted Quiet ∷ [])
    × ((system_after order fresh committing).wire ≡ Decision 1 ∷ Phase2b 0 0 0 1 ∷ Phase2a 0 0 1 ∷ [])
    × (row (system_after order fresh committing) 0 ≡ 2)
unfolding read_message and_then refuse_if is_plan is_count is_value is_vote is_in_range bytes_of bytes_of1b message_length slot_of map_length is_known ones
    fields_message decode has_order all is_table_length slots_up_to slots is_zero read_slot read_table all_unused is_ordered is_table used_messages
    messages same_bytes store_at same_message place_from place_in message_at sending slot_number who_limit are_zero are_arguments is_event
    are_states rm_judged rm_choose rm_receive_decision rm_receive rm_kind rm_verdict rm_step vote_at
    is_vote_state are_votes acceptor_judged vote_of phase1b phase2b acceptor_receive acceptor_verdict acceptor_step count_acceptors is_majority
    is_quorum any is1b is2a is2b higher report_of highest_report proposal chosen is_chosen2b decided for_all for_some owns leader_judged
    receipt_store receipt phase1a phase2a_message keep_own send_both phase2a send_only decide_send leader_kind leader_verdict_by
    has_bit insert_bit marked is_summary stands leader_step deliver_judged deliver_step
computed = (refl, refl, refl, refl)

pub hosts_genuine : AllGenuine order fresh committing
hosts_genuine = genuine_of_test order fresh committing computed.0

pub hosts_commit :
    (answers order fresh committing
    ≡ accepted (Slot 0) ∷ accepted (Slot 0) ∷ accepted (Slot 0) ∷ accepted (Slot 1) ∷ refused 16 ∷ accepted (Slot 0) ∷ accepted Quiet
    ∷ accepted (Slot 1) ∷ accepted Quiet ∷ refused 18 ∷ accepted (Slot 1) ∷ accepted Quiet ∷ [])
    × ((system_after order fresh committing).wire ≡ Decision 1 ∷ Phase2b 0 0 0 1 ∷ Phase2a 0 0 1 ∷ [])
    × (row (system_after order fresh committing) 0 ≡ 2)
hosts_commit = (computed.1, computed.2, computed.3)
