-- Document 01's example ("The rehearsal"), with document 02's 00 00 after L, and others, by computation.
--     Example, examples, examples_hold     document 01's; cut and bad plans, no events, a cut event, the words, and the largest plan
--     document_01                          its input and its seven lines
-- Assumes nothing.
use Rattle.std.specs.Prelude.{ℕ, List, [], ◌∷◌, map, ◌≡◌, refl, get_or}
use Rattle.std.proofs.Common.{ap}
use Rattle.std.specs.Int.Count.{ones}
use Rattle.message.specs.Outcome.{and_then, refuse_if}
use Rattle.message.specs.Plan.{is_plan, is_count}
use Rattle.message.specs.Form.{is_value, is_vote, is_in_range, bytes_of, bytes_of1b, message_length, slot_of, is_known, map_length, fields_message, decode, has_order}
use Rattle.message.specs.Codec.{read_message}
use Rattle.slots.specs.All.{all}
use Rattle.slots.specs.Table.{is_table_length, slots_up_to, slots, is_zero, read_slot, read_table, all_unused, is_ordered, is_table, used_messages, messages}
use Rattle.slots.specs.Table.{same_bytes, store_at}
use Rattle.slots.specs.Send.{same_message, place_from, place_in, message_at}
use Rattle.slots.specs.View.{sending}
use Rattle.event.specs.Event.{slot_number, who_limit, are_zero, are_arguments, is_event}
use Rattle.rm.specs.Rm.{are_states, rm_judged, rm_choose, rm_receive_decision, rm_receive, rm_kind, rm_verdict, rm_step}
use Rattle.votes.specs.Votes.{is_vote_state, are_votes}
use Rattle.acceptor.specs.Acceptor.{vote_at, vote_of, phase1b, phase2b, acceptor_judged, acceptor_receive, acceptor_verdict, acceptor_step}
use Rattle.quorum.specs.Quorum.{count_acceptors, is_majority, is_quorum}
use Rattle.quorum.specs.Mask.{has_bit, insert_bit}
use Rattle.inbox.specs.Inbox.{any, is1b, is2a, is2b, higher, report_of, highest_report, proposal, chosen, is_chosen2b, decided, for_all, for_some}
use Rattle.summary.specs.Summary.{is_summary, stands, marked}
use Rattle.leader.specs.Leader.{owns, leader_judged, receipt_store, receipt, phase1a, phase2a_message, keep_own, send_both, phase2a, send_only, decide_send}
use Rattle.leader.specs.Leader.{leader_kind, leader_verdict_by, leader_step_by}
use Rattle.ending.specs.Ending.{are_all, ending_of}
use Rattle.record.specs.Record.{inbox_size, are_lengths, inbox_of, with_inbox, are_inboxes, record_judged, lent_judged, role_step, record_step}
use Rattle.rehearsal_input.specs.Input.{plan_in, events_in}
use Rattle.rehearsal_text.specs.Text.{ascii, line}
use Rattle.rehearsing.specs.Rehearsal.{calls_in, fresh_tables, text_of, printed_for, rehearsed}

abbrev pub input_01 : List ℕ
input_01 =
    0x01 ∷ 0x01 ∷ 0x01 ∷ 0x00 ∷ 0x00
    ∷ 0x00 ∷ 0x00 ∷ 0x00 ∷ 0x00
    ∷ 0x03 ∷ 0x00 ∷ 0x00 ∷ 0x00
    ∷ 0x04 ∷ 0x00 ∷ 0x00 ∷ 0x01
    ∷ 0x07 ∷ 0x00 ∷ 0x00 ∷ 0x00
    ∷ 0x02 ∷ 0x00 ∷ 0x00 ∷ 0x02
    ∷ 0x01 ∷ 0x00 ∷ 0x00 ∷ 0x00
    ∷ []

-- the largest plan: weight 15 prepares, acceptor 6 votes, leader 3 takes the vote
abbrev input_largest : List ℕ
input_largest =
    0x10 ∷ 0x07 ∷ 0x04 ∷ 0xFF ∷ 0xFF
    ∷ 0x00 ∷ 0x0F ∷ 0x00 ∷ 0x00
    ∷ 0x03 ∷ 0x06 ∷ 0x00 ∷ 0x00
    ∷ 0x04 ∷ 0x03 ∷ 0x00 ∷ 0x01
    ∷ []

pub record Example : Type 0 where
  pub input : List ℕ
  pub prints : List ℕ

unfoldable pub examples : List Example
examples =
    record { input = input_01; prints = ascii "0\n0\n0\n0\n0\n12\nCOMMITTED\n" }
    ∷ record { input = []; prints = ascii "1\n" }
    ∷ record { input = 0x01 ∷ 0x01 ∷ 0x01 ∷ []; prints = ascii "1\n" }
    ∷ record { input = 0x01 ∷ 0x01 ∷ 0x01 ∷ 0x00 ∷ []; prints = ascii "1\n" }
    ∷ record { input = 0x00 ∷ 0x01 ∷ 0x01 ∷ 0x00 ∷ 0x00 ∷ 0x00 ∷ 0x00 ∷ 0x00 ∷ 0x00 ∷ []; prints = ascii "1\n" }
    ∷ record { input = 0x11 ∷ 0x01 ∷ 0x01 ∷ 0x00 ∷ 0x00 ∷ []; prints = ascii "1\n" }
    ∷ record { input = 0x01 ∷ 0x08 ∷ 0x01 ∷ 0x00 ∷ 0x00 ∷ []; prints = ascii "1\n" }
    ∷ record { input = 0x01 ∷ 0x01 ∷ 0x05 ∷ 0x00 ∷ 0x00 ∷ []; prints = ascii "1\n" }
    ∷ record { input = 0x01 ∷ 0x01 ∷ 0x01 ∷ 0x00 ∷ 0x00 ∷ []; prints = ascii "OPEN\n" }
    ∷ record { input = 0x01 ∷ 0x01 ∷ 0x01 ∷ 0x00 ∷ 0x00 ∷ 0x00 ∷ 0x00 ∷ 0x00 ∷ []; prints = ascii "7\nOPEN\n" }
    ∷ record { input = 0x01 ∷ 0x01 ∷ 0x01 ∷ 0x00 ∷ 0x00 ∷ 0x00 ∷ 0x00 ∷ 0x00 ∷ 0x00 ∷ 0x00 ∷ []; prints = ascii "0\n7\nOPEN\n" }
    ∷ record { input = 0x01 ∷ 0x01 ∷ 0x01 ∷ 0x00 ∷ 0x00 ∷ 0x01 ∷ 0x00 ∷ 0x00 ∷ 0x00 ∷ []; prints = ascii "0\nABORTED\n" }
    ∷ record { input = 0x02 ∷ 0x01 ∷ 0x01 ∷ 0x00 ∷ 0x00 ∷ 0x01 ∷ 0x00 ∷ 0x00 ∷ 0x00 ∷ []; prints = ascii "0\nOPEN\n" }
    ∷ record { input = input_largest; prints = ascii "0\n0\n0\nOPEN\n" }
    ∷ []

pub examples_hold : map (λ (e : Example). rehearsed e.input) examples ≡ map (λ (e : Example). e.prints) examples
unfolding examples and_then refuse_if is_plan is_count is_value is_vote is_in_range bytes_of bytes_of1b message_length slot_of map_length is_known ones fields_message decode has_order
    read_message all is_table_length slots_up_to slots is_zero read_slot read_table all_unused is_ordered is_table used_messages messages same_bytes store_at
    same_message place_from place_in message_at sending slot_number who_limit are_zero are_arguments is_event are_states rm_judged rm_choose rm_receive_decision
    rm_receive rm_kind rm_verdict rm_step vote_at is_vote_state are_votes acceptor_judged vote_of phase1b phase2b acceptor_receive acceptor_verdict
    acceptor_step count_acceptors is_majority is_quorum any is1b is2a is2b higher report_of highest_report proposal chosen is_chosen2b decided for_all for_some
    is_summary stands marked has_bit insert_bit owns leader_judged receipt_store receipt phase1a phase2a_message keep_own send_both phase2a send_only decide_send leader_kind leader_verdict_by leader_step_by
    inbox_size are_lengths inbox_of with_inbox are_inboxes record_judged lent_judged role_step record_step are_all ending_of
    plan_in events_in calls_in fresh_tables line text_of printed_for rehearsed
examples_hold = refl

-- document 01's is the first of them
pub document_01 : rehearsed input_01 ≡ ascii "0\n0\n0\n0\n0\n12\nCOMMITTED\n"
unfolding examples
document_01 = ap (λ (printed : List (List ℕ)). get_or printed 0 []) examples_hold
