-- Document 01's proved examples: one table, and one theorem for it, over the definitions that the calls' contracts name.
--     Result     what a call answers: the reader's outcome, an acceptor's step with its tables, or a leader's with its bytes of the summary too
--     Example    an example by document 01's number, with messages as document 02, Paper 1, rewrites them and the summary as Paper 5 does: what is
--                computed, and what is said
--     examples   the table
--     examples_hold   each entry computes to what it says
--     examples_all    the table has all of them
--     Marked, marks, summary_examples     Paper 5 in bytes: which receipts set a bit, what kinds 7 and 8 read, and row 20
-- Assumes nothing.
use Rattle.std.specs.Prelude.{ℕ, List, [], ◌∷◌, ◌++◌, map, ◌≡◌, refl, None}
use Rattle.std.specs.Int.Count.{ones}
use Rattle.message.specs.declared.Plan.{Plan}
use Rattle.message.specs.declared.Message.{Message}
use Rattle.message.specs.declared.Message.TheVariants.{Phase1b, Phase2a}
use Rattle.message.specs.Outcome.{Outcome, accepted, refused, and_then, refuse_if}
use Rattle.message.specs.Plan.{is_plan, is_count}
use Rattle.message.specs.Form.{is_value, is_vote, is_in_range, bytes_of, bytes_of1b, message_length, slot_of, is_known, map_length, fields_message, decode, has_order}
use Rattle.message.specs.Codec.{read_message}
use Rattle.slots.specs.All.{all}
use Rattle.slots.specs.Table.{is_table_length, slots_up_to, slots, is_zero, read_slot, read_table, all_unused, is_ordered, is_table, used_messages, messages}
use Rattle.slots.specs.Table.{same_bytes, store_at}
use Rattle.slots.specs.Send.{same_message, place_from, place_in, message_at}
use Rattle.slots.specs.View.{sending}
use Rattle.event.specs.Event.{slot_number, who_limit, are_zero, are_arguments, is_event}
use Rattle.change.specs.declared.Sent.{Sent}
use Rattle.change.specs.declared.Sent.TheVariants.{Slot, Quiet}
use Rattle.change.specs.Change.{Step}
use Rattle.votes.specs.Votes.{is_vote_state, are_votes}
use Rattle.acceptor.specs.Acceptor.{vote_at, vote_of, phase1b, phase2b, acceptor_judged, acceptor_receive, acceptor_verdict, acceptor_step}
use Rattle.quorum.specs.Quorum.{count_acceptors, is_majority, is_quorum}
use Rattle.quorum.specs.Mask.{has_bit, insert_bit}
use Rattle.inbox.specs.Inbox.{any, is1b, is2a, is2b, higher, report_of, highest_report, proposal, chosen, is_chosen2b, decided, for_all, for_some}
use Rattle.summary.specs.Summary.{is_summary, stands, marked}
use Rattle.leader.specs.Leader.{owns, leader_judged, receipt_store, receipt, phase2a_message, keep_own, send_both, phase2a, send_only, decide_send}
use Rattle.leader.specs.Leader.{leader_kind, leader_verdict_by, LeaderStep, leader_step}

pub data Result : Type 0 where
  reads : Outcome Message → Result
  steps : Step → Result
  leads : LeaderStep → Result

pub record Example : Type 0 where
  pub number : ℕ
  pub computed : Result
  pub expected : Result

-- n = 1, L = 1, order number 01 02, and so many acceptors
abbrev pub plan_of : ℕ → Plan
plan_of acceptors = record { rms = 1; acceptors = acceptors; leaders = 1; order = 0x0102 }

-- an unused slot
abbrev pub free : List ℕ
free = 0 ∷ 0 ∷ 0 ∷ 0 ∷ 0 ∷ 0 ∷ 0 ∷ 0 ∷ []

-- 1a and 2a of instance 0, and 1b messages of instance 0 with mbal 3 and no vote, as they stand in slots
abbrev pub slot1a : ℕ → List ℕ
slot1a bal = 0x29 ∷ 0x00 ∷ bal ∷ 0x01 ∷ 0x02 ∷ 0 ∷ 0 ∷ 0 ∷ []

abbrev pub slot2a : ℕ → ℕ → List ℕ
slot2a bal val = 0x39 ∷ 0x00 ∷ bal ∷ val ∷ 0x01 ∷ 0x02 ∷ 0 ∷ 0 ∷ []

abbrev pub slot1b : ℕ → List ℕ
slot1b acc = 0x27 ∷ 0x00 ∷ acc ∷ 0x03 ∷ 0x01 ∷ 0x02 ∷ 0 ∷ 0 ∷ []

-- a 1b at ballot 3 with a vote, and a 2b, for prepared and for aborted
abbrev pub slot1b_vote : ℕ → ℕ → ℕ → List ℕ
slot1b_vote acc bal val = 0x3F ∷ 0x00 ∷ acc ∷ 0x03 ∷ bal ∷ val ∷ 0x01 ∷ 0x02 ∷ []

abbrev pub slot2b : ℕ → ℕ → List ℕ
slot2b acc bal = 0x3B ∷ 0x00 ∷ acc ∷ bal ∷ 0x01 ∷ 0x01 ∷ 0x02 ∷ 0 ∷ []

abbrev pub slot2b_aborted : ℕ → ℕ → List ℕ
slot2b_aborted acc bal = 0x3B ∷ 0x00 ∷ acc ∷ bal ∷ 0x02 ∷ 0x01 ∷ 0x02 ∷ 0 ∷ []

abbrev pub step_of : Outcome Sent → List ℕ → List ℕ → Result
step_of answer table network = steps (record { answer = answer; table = table; network = network })

-- a leader's answer, its inbox, its one byte of the summary and N
abbrev pub led_of : Outcome Sent → List ℕ → ℕ → List ℕ → LeaderStep
led_of answer inbox byte network = record { step = record { answer = answer; table = inbox; network = network }; summary = byte ∷ [] }

-- 7 to 10: an acceptor at mbal 2 takes the message in slot 0; a slot is unused after it
abbrev pub acceptor_at2 : List ℕ → Result
acceptor_at2 message = steps (acceptor_step (plan_of 1) (0x02 ∷ 0x00 ∷ 0x00 ∷ []) (message ++ free) (3 ∷ 0 ∷ 0 ∷ 0 ∷ []))

-- 11 and 12: Phase2a at ballot 3 on an inbox with an unused slot after its messages
abbrev pub phase2a_at3 : ℕ → List ℕ → Result
phase2a_at3 acceptors inbox = leads (leader_step (plan_of acceptors) (inbox ++ free) (0 ∷ []) free (6 ∷ 0 ∷ 0 ∷ 3 ∷ []))

-- 13: both 2b stand in N, the inbox has no message, and the summary is zero; each call gets what the one before left
abbrev pub votes13 : List ℕ
votes13 = slot2b 0 0 ++ (slot2b 1 3 ++ free)

abbrev pub first13 : LeaderStep
first13 = leader_step (plan_of 3) (free ++ (free ++ free)) (0 ∷ []) votes13 (4 ∷ 0 ∷ 0 ∷ 0 ∷ [])

abbrev pub second13 : LeaderStep
second13 = leader_step (plan_of 3) first13.step.table first13.summary first13.step.network (4 ∷ 0 ∷ 0 ∷ 1 ∷ [])

abbrev pub third13 : LeaderStep
third13 = leader_step (plan_of 3) second13.step.table second13.summary second13.step.network (7 ∷ 0 ∷ 0 ∷ 0 ∷ [])

pub examples : List Example
examples =
    record { number = 1; computed = reads (read_message (plan_of 1) (0x39 ∷ 0x00 ∷ 0x00 ∷ 0x01 ∷ 0x01 ∷ 0x02 ∷ [])); expected = reads (accepted (Phase2a 0 0 1)) }
    ∷ record { number = 2; computed = reads (read_message (plan_of 1) (0x27 ∷ 0x00 ∷ 0x00 ∷ 0x01 ∷ 0x01 ∷ 0x02 ∷ [])); expected = reads (accepted (Phase1b 0 0 1 None)) }
    ∷ record { number = 3; computed = reads (read_message (plan_of 1) (0x00 ∷ [])); expected = reads (refused 15) }
    ∷ record { number = 4; computed = reads (read_message (plan_of 1) (0x39 ∷ 0x00 ∷ 0x00 ∷ 0x01 ∷ 0x02 ∷ [])); expected = reads (refused 16) }
    ∷ record { number = 5; computed = reads (read_message (plan_of 1) (0x39 ∷ 0x00 ∷ 0x00 ∷ 0x03 ∷ 0x01 ∷ 0x02 ∷ [])); expected = reads (refused 17) }
    ∷ record { number = 6; computed = reads (read_message (plan_of 1) (0x29 ∷ 0x00 ∷ 0x00 ∷ 0x01 ∷ 0x02 ∷ [])); expected = reads (refused 17) }
    ∷ record { number = 7; computed = acceptor_at2 (slot2a 2 1); expected = step_of (accepted (Slot 1)) (0x02 ∷ 0x02 ∷ 0x01 ∷ []) (slot2a 2 1 ++ slot2b 0 2) }
    ∷ record { number = 8; computed = acceptor_at2 (slot2a 1 1); expected = step_of (refused 12) (0x02 ∷ 0x00 ∷ 0x00 ∷ []) (slot2a 1 1 ++ free) }
    ∷ record { number = 9; computed = acceptor_at2 (slot1a 2); expected = step_of (refused 12) (0x02 ∷ 0x00 ∷ 0x00 ∷ []) (slot1a 2 ++ free) }
    ∷ record { number = 10; computed = acceptor_at2 (slot1a 3); expected = step_of (accepted (Slot 1)) (0x03 ∷ 0x00 ∷ 0x00 ∷ []) (slot1a 3 ++ slot1b 0) }
    ∷ record {
      number = 11;
      computed = phase2a_at3 3 (slot1b_vote 0 0 1 ++ slot1b_vote 1 2 2);
      expected = leads (led_of (accepted (Slot 0)) (slot1b_vote 0 0 1 ++ (slot1b_vote 1 2 2 ++ slot2a 3 2)) 0 (slot2a 3 2));
    }
    ∷ record { number = 12; computed = phase2a_at3 4 (slot1b 0 ++ slot1b 1); expected = leads (led_of (refused 12) (slot1b 0 ++ (slot1b 1 ++ free)) 0 free) }
    ∷ record {
      number = 12;
      computed = phase2a_at3 4 (slot1b 0 ++ (slot1b 1 ++ slot1b 2));
      expected = leads (led_of (accepted (Slot 0)) (slot1b 0 ++ (slot1b 1 ++ (slot1b 2 ++ slot2a 3 2))) 0 (slot2a 3 2));
    }
    ∷ record { number = 13; computed = leads first13; expected = leads (led_of (accepted Quiet) (slot2b 0 0 ++ (free ++ free)) 0 votes13) }
    ∷ record { number = 13; computed = leads second13; expected = leads (led_of (accepted Quiet) (slot2b 0 0 ++ (slot2b 1 3 ++ free)) 0 votes13) }
    ∷ record { number = 13; computed = leads third13; expected = leads (led_of (refused 12) (slot2b 0 0 ++ (slot2b 1 3 ++ free)) 0 votes13) }
    ∷ []

pub examples_hold : map (λ (e : Example). e.computed) examples ≡ map (λ (e : Example). e.expected) examples
unfolding examples read_message and_then refuse_if is_plan is_count is_value is_vote is_in_range bytes_of bytes_of1b message_length slot_of map_length is_known ones
    fields_message decode has_order all is_table_length slots_up_to slots is_zero read_slot read_table all_unused is_ordered is_table used_messages
    messages same_bytes store_at same_message place_from place_in message_at sending slot_number who_limit are_zero are_arguments is_event vote_at
    is_vote_state are_votes acceptor_judged vote_of phase1b phase2b acceptor_receive acceptor_verdict acceptor_step count_acceptors is_majority
    is_quorum any is1b is2a is2b higher report_of highest_report proposal chosen is_chosen2b decided for_all is_summary stands marked has_bit owns
    leader_judged receipt_store receipt phase2a_message keep_own send_both phase2a send_only decide_send leader_kind leader_verdict_by leader_step
examples_hold = refl

-- the table has all of document 01's examples, the twelfth in its two parts, the thirteenth in its three calls
pub examples_all : map (λ (e : Example). e.number) examples ≡ 1 ∷ 2 ∷ 3 ∷ 4 ∷ 5 ∷ 6 ∷ 7 ∷ 8 ∷ 9 ∷ 10 ∷ 11 ∷ 12 ∷ 12 ∷ 13 ∷ 13 ∷ 13 ∷ []
unfolding examples
examples_all = refl

-- A = 3: what an event on the inbox, the summary and N answers, and the summary after it
pub record Marked : Type 0 where
  pub answer : Outcome Sent
  pub summary : List ℕ

abbrev pub marks : List ℕ → List ℕ → List ℕ → List ℕ → Marked
marks inbox summary network e = let s = leader_step (plan_of 3) inbox summary network e in record { answer = s.step.answer; summary = s.summary }

-- a receipt of the 2b that makes a majority sets the bit of its value, another sets and clears none; kinds 7 and 8 read the summary, whatever the
-- inbox holds; 20 before an event that is none, and after 6
pub summary_examples :
    (marks (slot2b 0 0 ++ free) (0 ∷ []) (slot2b 1 0) (4 ∷ 0 ∷ 0 ∷ 0 ∷ []) ≡ record { answer = accepted Quiet; summary = 1 ∷ [] })
    × (marks free (0 ∷ []) (slot2b 1 0) (4 ∷ 0 ∷ 0 ∷ 0 ∷ []) ≡ record { answer = accepted Quiet; summary = 0 ∷ [] })
    × (marks (slot2b_aborted 0 0 ++ free) (0 ∷ []) (slot2b_aborted 1 0) (4 ∷ 0 ∷ 0 ∷ 0 ∷ []) ≡ record { answer = accepted Quiet; summary = 2 ∷ [] })
    × (marks (slot2b_aborted 0 0 ++ free) (1 ∷ []) (slot2b_aborted 1 0) (4 ∷ 0 ∷ 0 ∷ 0 ∷ []) ≡ record { answer = accepted Quiet; summary = 3 ∷ [] })
    × (marks free (1 ∷ []) (slot2b 1 0) (4 ∷ 0 ∷ 0 ∷ 0 ∷ []) ≡ record { answer = accepted Quiet; summary = 1 ∷ [] })
    × (marks free (1 ∷ []) free (7 ∷ 0 ∷ 0 ∷ 0 ∷ []) ≡ record { answer = accepted (Slot 0); summary = 1 ∷ [] })
    × (marks (slot2b 0 0 ++ slot2b 1 0) (2 ∷ []) free (7 ∷ 0 ∷ 0 ∷ 0 ∷ []) ≡ record { answer = refused 12; summary = 2 ∷ [] })
    × (marks free (2 ∷ []) free (8 ∷ 0 ∷ 0 ∷ 0 ∷ []) ≡ record { answer = accepted (Slot 0); summary = 2 ∷ [] })
    × (marks free (4 ∷ []) free (9 ∷ 0 ∷ 0 ∷ 0 ∷ []) ≡ record { answer = refused 20; summary = 4 ∷ [] })
    × (marks free (0 ∷ 0 ∷ []) free (9 ∷ 0 ∷ 0 ∷ 0 ∷ []) ≡ record { answer = refused 20; summary = 0 ∷ 0 ∷ [] })
    × (marks (0x30 ∷ 3 ∷ 1 ∷ 2 ∷ 0 ∷ 0 ∷ 0 ∷ 0 ∷ []) (4 ∷ []) free (9 ∷ 0 ∷ 0 ∷ 0 ∷ []) ≡ record { answer = refused 6; summary = 4 ∷ [] })
    × (marks (slot2b 0 0 ++ (slot2b 1 0 ++ free)) (0 ∷ []) (slot1b 0) (4 ∷ 0 ∷ 0 ∷ 0 ∷ []) ≡ record { answer = accepted Quiet; summary = 0 ∷ [] })
    × (marks (slot2b 0 0 ++ (slot2b 1 0 ++ free)) (0 ∷ []) (slot2b_aborted 2 0) (4 ∷ 0 ∷ 0 ∷ 0 ∷ []) ≡ record { answer = accepted Quiet; summary = 0 ∷ [] })
    × (marks (slot2b 0 0 ++ slot2b 1 0) (0 ∷ []) (slot2b 1 0) (4 ∷ 0 ∷ 0 ∷ 0 ∷ []) ≡ record { answer = accepted Quiet; summary = 1 ∷ [] })
    × (marks (slot2b 0 0 ++ free) (2 ∷ []) (slot2b 1 0) (4 ∷ 0 ∷ 0 ∷ 0 ∷ []) ≡ record { answer = accepted Quiet; summary = 3 ∷ [] })
    × (marks (slot2b 0 0) (0 ∷ []) (slot2b 1 0) (4 ∷ 0 ∷ 0 ∷ 0 ∷ []) ≡ record { answer = refused 14; summary = 0 ∷ [] })
    × ((leader_step (record { rms = 2; acceptors = 1; leaders = 1; order = 0x0102 }) (slot2b 0 0 ++ free) (0 ∷ 0 ∷ [])
    (0x3B ∷ 1 ∷ 0 ∷ 0 ∷ 2 ∷ 1 ∷ 2 ∷ 0 ∷ []) (4 ∷ 0 ∷ 0 ∷ 0 ∷ [])).summary
    ≡ 0 ∷ 2 ∷ [])
unfolding read_message and_then refuse_if is_plan is_count is_value is_vote is_in_range bytes_of bytes_of1b message_length slot_of map_length is_known ones
    fields_message decode has_order all is_table_length slots_up_to slots is_zero read_slot read_table all_unused is_ordered is_table used_messages
    messages same_bytes store_at same_message place_from place_in message_at sending slot_number who_limit are_zero are_arguments is_event count_acceptors
    is_majority is_quorum any is2b chosen is_chosen2b decided for_all for_some is_summary stands marked has_bit insert_bit
    leader_judged receipt_store receipt send_only decide_send leader_kind leader_verdict_by leader_step
summary_examples = (refl, refl, refl, refl, refl, refl, refl, refl, refl, refl, refl, refl, refl, refl, refl, refl, refl)
