-- Short lists of calls from fresh records. Between the first three, of one weight, one acceptor, one leader and six slots in N and in the inbox, every
-- kind is accepted, and an order ends committed or aborted, so what is proved of accepted calls and of lists of calls is not proved of nothing.
--     order, fresh          the plan and the fresh record
--     committing, aborting, declining; committing_list, mixing     the lists of calls; the first as one list; lists among event calls
--     spread, heard         three weights, three acceptors and two leaders; two weights, one acceptor and two leaders
--     pair, pair_fresh, declined    two weights, three acceptors and one leader: a weight declines, and the order is aborted though no acceptor has voted
--     overruled             one weight, three acceptors and two leaders: prepared is chosen though a leader has proposed aborted, at ballot 1
--     received              the summary after one receipt on tables given byte by byte
--     on, on_summary, unused, at_ballot   the answer of one event call on tables given byte by byte
--     Computed, computed    what all of these come to, in numbers and bytes: each field is a theorem
--         orders_end            what the lists of calls answer, and W and the summary afterwards
--         lists_end, mixed_ends     the same of lists, and of those that are refused whole
--         places                where each call puts its bytes in the five tables
--         summaries             which byte of the summary a receipt sets, and kinds 7 and 8, which read it alone
--         declines              an order that is aborted early, and which 2a messages a leader takes and marks (document 02, Paper 6)
--         later_ballot          why a 2a for aborted at a later ballot is not one of them
--         order_examples        an old map, a bad field of another order, other orders by either byte, and a Commit of this order and of another
--         owners                who owns which ballots, with two, three and four leaders
--         refusals, event_refusals     each number of the event call
-- Assumes nothing.
use Rattle.std.specs.Prelude.{ℕ, List, [], ◌∷◌, ◌++◌, map, ◌≡◌, refl, take, drop, replicate}
use Rattle.std.specs.Int.Count.{ones}
use Rattle.message.specs.declared.Plan.{Plan}
use Rattle.message.specs.declared.Message.TheVariants.{Decision}
use Rattle.message.specs.Outcome.{Outcome, accepted, refused, and_then, refuse_if, number_of}
use Rattle.message.specs.Plan.{is_plan, is_count}
use Rattle.message.specs.Form.{is_value, is_vote, is_in_range, bytes_of, bytes_of1b, message_length, slot_of, is_known, map_length, fields_message, decode, has_order}
use Rattle.message.specs.Codec.{read_message}
use Rattle.slots.specs.All.{all}
use Rattle.slots.specs.Table.{is_table_length, slots_up_to, slots, is_zero, read_slot, read_table, all_unused, is_ordered, is_table, used_messages, messages}
use Rattle.slots.specs.Table.{same_bytes, store_at}
use Rattle.slots.specs.Send.{same_message, place_from, place_in, message_at}
use Rattle.slots.specs.View.{sending}
use Rattle.event.specs.Event.{slot_number, who_limit, are_zero, are_arguments, is_event}
use Rattle.change.specs.declared.Sent.{Sent}
use Rattle.change.specs.declared.Sent.TheVariants.{Slot, Quiet}
use Rattle.rm.specs.Rm.{are_states, rm_judged, rm_choose, rm_receive_decision, rm_receive, rm_kind, rm_verdict, rm_step}
use Rattle.votes.specs.Votes.{is_vote_state, are_votes}
use Rattle.acceptor.specs.Acceptor.{vote_at, vote_of, phase1b, phase2b, acceptor_judged, acceptor_receive, acceptor_verdict, acceptor_step}
use Rattle.quorum.specs.Quorum.{count_acceptors, is_majority, is_quorum}
use Rattle.quorum.specs.Mask.{has_bit, insert_bit}
use Rattle.inbox.specs.Inbox.{any, is1b, is2a, is2b, higher, report_of, highest_report, proposal, chosen, is_chosen2b, decided, for_all, for_some}
use Rattle.summary.specs.Summary.{is_summary, stands, marked}
use Rattle.leader.specs.Leader.{owns, leader_judged, receipt_store, receipt, phase1a, phase2a_message, keep_own, send_both, phase2a, send_only, decide_send}
use Rattle.leader.specs.Leader.{leader_kind, leader_verdict_by, leader_step_by}
use Rattle.record.specs.Record.{Tables, tables_of, inbox_size, inbox_of, with_inbox, are_lengths, are_inboxes, record_judged, lent_judged, role_step, record_step}
use Rattle.batch.specs.Run.{run_judged, finished_run, record_run}
use Rattle.safety.specs.Lists.{Call, event, run, answers, tables_after}

abbrev pub order : Plan
order = record { rms = 1; acceptors = 1; leaders = 1; order = 0x0102 }

abbrev pub fresh : Tables
fresh = tables_of (replicate 1 0) (replicate 3 0) (replicate 48 0) (replicate 48 0) (replicate 1 0)

abbrev pub call : ℕ → ℕ → ℕ → Call
call kind high low = event (kind ∷ 0 ∷ high ∷ low ∷ [])

-- document 01's rehearsal: it prepares, the acceptor votes, the leader hears of it and decides, the decision is taken; then it can no longer choose to abort
abbrev pub committing : List Call
committing = call 0 0 0 ∷ call 3 0 0 ∷ call 4 0 1 ∷ call 7 0 0 ∷ call 2 0 2 ∷ call 1 0 0 ∷ []

-- the leader opens ballot 1, the acceptor promises, the leader proposes aborted, and it is chosen, announced and taken
abbrev pub aborting : List Call
aborting = call 5 0 1 ∷ call 3 0 0 ∷ call 4 0 1 ∷ call 6 0 1 ∷ call 3 0 2 ∷ call 4 0 3 ∷ call 8 0 0 ∷ call 2 0 4 ∷ []

abbrev pub declining : List Call
declining = call 1 0 0 ∷ []

-- the same calls handed in as one list (document 02, Paper 2), with an event that is none
abbrev pub committing_list : List ℕ
committing_list =
    0 ∷ 0 ∷ 0 ∷ 0
    ∷ 3 ∷ 0 ∷ 0 ∷ 0
    ∷ 9 ∷ 0 ∷ 0 ∷ 0
    ∷ 4 ∷ 0 ∷ 0 ∷ 1
    ∷ 7 ∷ 0 ∷ 0 ∷ 0
    ∷ 2 ∷ 0 ∷ 0 ∷ 2
    ∷ 1 ∷ 0 ∷ 0 ∷ 0
    ∷ []

-- lists among event calls: a list of three events, one of them refused, a cut list, which counts as none, and the rest
abbrev pub mixing : List Call
mixing =
    call 0 0 0
    ∷ run (3 ∷ 0 ∷ 0 ∷ 0 ∷ 9 ∷ 0 ∷ 0 ∷ 0 ∷ 4 ∷ 0 ∷ 0 ∷ 1 ∷ []) (99 ∷ 99 ∷ 99 ∷ [])
    ∷ run (7 ∷ 0 ∷ 0 ∷ []) (99 ∷ [])
    ∷ call 7 0 0
    ∷ run (2 ∷ 0 ∷ 0 ∷ 2 ∷ []) (99 ∷ [])
    ∷ []

-- leader 1 opens ballot 2 for weight 2, acceptor 1 promises, leader 1 hears of it, weight 2 prepares
abbrev pub spread : List Call
spread = event (5 ∷ 1 ∷ 2 ∷ 2 ∷ []) ∷ event (3 ∷ 1 ∷ 0 ∷ 0 ∷ []) ∷ event (4 ∷ 1 ∷ 0 ∷ 1 ∷ []) ∷ event (0 ∷ 2 ∷ 0 ∷ 0 ∷ []) ∷ []

-- weight 1 prepares, the acceptor votes, leader 1 hears of it, and can't commit yet
abbrev pub heard : List Call
heard = event (0 ∷ 1 ∷ 0 ∷ 0 ∷ []) ∷ event (3 ∷ 0 ∷ 0 ∷ 0 ∷ []) ∷ event (4 ∷ 1 ∷ 0 ∷ 1 ∷ []) ∷ event (7 ∷ 1 ∷ 0 ∷ 0 ∷ []) ∷ []

-- two weights, three acceptors, one leader
abbrev pub pair : Plan
pair = record { rms = 2; acceptors = 3; leaders = 1; order = 0x0102 }

abbrev pub pair_fresh : Tables
pair_fresh = tables_of (replicate 2 0) (replicate 18 0) (replicate 24 0) (replicate 24 0) (replicate 2 0)

-- weight 0 prepares, the leader hears of it, and can't abort; weight 1 declines, the leader hears its 2a, and aborts; both take the decision
abbrev pub declined : List Call
declined =
    call 0 0 0
    ∷ call 4 0 0
    ∷ call 8 0 0
    ∷ event (1 ∷ 1 ∷ 0 ∷ 0 ∷ [])
    ∷ call 4 0 1
    ∷ call 8 0 0
    ∷ call 2 0 2
    ∷ event (2 ∷ 1 ∷ 0 ∷ 2 ∷ [])
    ∷ []

-- the weight prepares and acceptor 0 votes; leader 0, which hears from acceptors 1 and 2 alone, proposes aborted at ballot 1, and leader 1 may not take that
-- 2a; at ballot 2 leader 1 hears of the vote, proposes prepared, and it is chosen, announced and taken
abbrev pub overruling : Plan
overruling = record { rms = 1; acceptors = 3; leaders = 2; order = 0x0102 }

abbrev pub overruled_fresh : Tables
overruled_fresh = tables_of (replicate 1 0) (replicate 9 0) (replicate 104 0) (replicate 80 0) (replicate 2 0)

abbrev pub overruled : List Call
overruled =
    event (0 ∷ 0 ∷ 0 ∷ 0 ∷ [])
    ∷ event (3 ∷ 0 ∷ 0 ∷ 0 ∷ [])
    ∷ event (5 ∷ 0 ∷ 0 ∷ 1 ∷ [])
    ∷ event (3 ∷ 1 ∷ 0 ∷ 2 ∷ [])
    ∷ event (3 ∷ 2 ∷ 0 ∷ 2 ∷ [])
    ∷ event (4 ∷ 0 ∷ 0 ∷ 3 ∷ [])
    ∷ event (4 ∷ 0 ∷ 0 ∷ 4 ∷ [])
    ∷ event (6 ∷ 0 ∷ 0 ∷ 1 ∷ [])
    ∷ event (4 ∷ 1 ∷ 0 ∷ 5 ∷ [])
    ∷ event (5 ∷ 1 ∷ 0 ∷ 2 ∷ [])
    ∷ event (3 ∷ 0 ∷ 0 ∷ 6 ∷ [])
    ∷ event (3 ∷ 1 ∷ 0 ∷ 6 ∷ [])
    ∷ event (4 ∷ 1 ∷ 0 ∷ 7 ∷ [])
    ∷ event (4 ∷ 1 ∷ 0 ∷ 8 ∷ [])
    ∷ event (6 ∷ 1 ∷ 0 ∷ 2 ∷ [])
    ∷ event (3 ∷ 0 ∷ 0 ∷ 9 ∷ [])
    ∷ event (3 ∷ 1 ∷ 0 ∷ 9 ∷ [])
    ∷ event (4 ∷ 1 ∷ 0 ∷ 10 ∷ [])
    ∷ event (4 ∷ 1 ∷ 0 ∷ 11 ∷ [])
    ∷ event (7 ∷ 1 ∷ 0 ∷ 0 ∷ [])
    ∷ event (2 ∷ 0 ∷ 0 ∷ 12 ∷ [])
    ∷ []

-- the leader of `pair` takes what N has in its one slot, beside an inbox of two slots and on a summary: the summary afterwards
abbrev pub received : List ℕ → List ℕ → List ℕ → List ℕ
received n i s = (record_step pair (tables_of (replicate 2 0) (replicate 18 0) n i s) (4 ∷ 0 ∷ 0 ∷ 0 ∷ [])).tables.summary

-- an event call on a record of one weight, one acceptor and one leader, with a zero summary: its answer
abbrev pub on : List ℕ → List ℕ → List ℕ → List ℕ → List ℕ → Outcome Sent
on w q n i e = (record_step order (tables_of w q n i (0 ∷ [])) e).answer

-- one unused slot
abbrev pub unused : List ℕ
unused = 0 ∷ 0 ∷ 0 ∷ 0 ∷ 0 ∷ 0 ∷ 0 ∷ 0 ∷ []

-- the same on a summary of any bytes, the weight working, nobody having voted, one unused slot in N, and any inbox
abbrev pub on_summary : List ℕ → List ℕ → List ℕ → Outcome Sent
on_summary i s e = (record_step order (tables_of (0 ∷ []) (0 ∷ 0 ∷ 0 ∷ []) unused i s) e).answer

-- what leader `who` of so many is answered for kind 5 or 6 at ballot b (document 02, Paper 4)
abbrev pub at_ballot : ℕ → ℕ → ℕ → ℕ → Outcome Sent
at_ballot leaders kind who b =
    (record_step (record { rms = 1; acceptors = 1; leaders = leaders; order = 0x0102 }) (tables_of (0 ∷ []) (0 ∷ 0 ∷ 0 ∷ []) unused [] (replicate leaders 0))
    (kind ∷ who ∷ 0 ∷ b ∷ [])).answer

pub record Computed : Type 0 where
  pub orders_end :
      (answers order fresh committing
      ≡ accepted (Slot 0) ∷ accepted (Slot 1) ∷ accepted Quiet ∷ accepted (Slot 2) ∷ accepted Quiet ∷ refused 12 ∷ [])
      × ((tables_after order fresh committing).states ≡ 2 ∷ [])
      × ((tables_after order fresh committing).summary ≡ 1 ∷ [])
      × (answers order fresh aborting
      ≡ accepted (Slot 0) ∷ accepted (Slot 1) ∷ accepted Quiet ∷ accepted (Slot 2) ∷ accepted (Slot 3) ∷ accepted Quiet ∷ accepted (Slot 4)
      ∷ accepted Quiet ∷ [])
      × ((tables_after order fresh aborting).states ≡ 3 ∷ [])
      × ((tables_after order fresh aborting).summary ≡ 2 ∷ [])
      × (answers order fresh declining ≡ accepted (Slot 0) ∷ [])
      × ((tables_after order fresh declining).states ≡ 3 ∷ [])
  -- numbers and tables of a list. An event that is none and one that is refused end nothing; a list that is cut, and one with an answer too many or
  -- too few, is refused whole with 19, a bad plan or table before that, a bad summary after it
  pub lists_end :
      ((record_run order fresh committing_list (replicate 7 99)).answer ≡ accepted tt)
      × ((record_run order fresh committing_list (replicate 7 99)).answers ≡ 0 ∷ 0 ∷ 7 ∷ 0 ∷ 0 ∷ 0 ∷ 12 ∷ [])
      × ((record_run order fresh committing_list (replicate 7 99)).tables.states ≡ 2 ∷ [])
      × (record_run order fresh [] [] ≡ record { answer = accepted tt; tables = fresh; answers = [] })
      × (record_run order fresh (0 ∷ 0 ∷ 0 ∷ []) (99 ∷ []) ≡ record { answer = refused 19; tables = fresh; answers = 99 ∷ [] })
      × (record_run order fresh (0 ∷ 0 ∷ 0 ∷ 0 ∷ 7 ∷ []) (99 ∷ []) ≡ record { answer = refused 19; tables = fresh; answers = 99 ∷ [] })
      × (record_run order fresh (0 ∷ 0 ∷ 0 ∷ 0 ∷ []) [] ≡ record { answer = refused 19; tables = fresh; answers = [] })
      × (record_run order fresh (0 ∷ 0 ∷ 0 ∷ 0 ∷ []) (98 ∷ 99 ∷ []) ≡ record { answer = refused 19; tables = fresh; answers = 98 ∷ 99 ∷ [] })
      × ((record_run (record { rms = 0; acceptors = 1; leaders = 1; order = 0x0102 }) fresh (0 ∷ []) []).answer ≡ refused 1)
      × ((record_run order (tables_of (4 ∷ []) (replicate 3 0) (replicate 48 0) (replicate 48 0) (4 ∷ [])) (0 ∷ []) []).answer ≡ refused 3)
      × ((record_run order (tables_of (0 ∷ []) (replicate 3 0) (replicate 48 0) (replicate 48 0) (4 ∷ [])) (0 ∷ []) []).answer ≡ refused 19)
      × ((record_run order (tables_of (0 ∷ []) (replicate 3 0) (replicate 48 0) (replicate 48 0) (4 ∷ [])) [] []).answer ≡ refused 20)
  pub mixed_ends :
      (answers order fresh mixing
      ≡ accepted (Slot 0) ∷ accepted (Slot 1) ∷ refused 7 ∷ accepted Quiet ∷ accepted (Slot 2) ∷ accepted Quiet ∷ [])
      × ((tables_after order fresh mixing).states ≡ 2 ∷ [])
  -- mbal of weight 2 and acceptor 1 is byte 3 × (2 × 3 + 1) of Q, and leader 1's inbox begins in the middle of I
  pub places :
      tables_after (record { rms = 3; acceptors = 3; leaders = 2; order = 0x0102 })
      (tables_of (replicate 3 0) (replicate 27 0) (replicate 32 0) (replicate 32 0) (replicate 6 0)) spread
      ≡ tables_of (0 ∷ 0 ∷ 1 ∷ []) (replicate 21 0 ++ (2 ∷ replicate 5 0))
      ((0x29 ∷ 2 ∷ 2 ∷ 1 ∷ 2 ∷ 0 ∷ 0 ∷ 0 ∷ [])
      ++ ((0x27 ∷ 2 ∷ 1 ∷ 2 ∷ 1 ∷ 2 ∷ 0 ∷ 0 ∷ []) ++ ((0x39 ∷ 2 ∷ 0 ∷ 1 ∷ 1 ∷ 2 ∷ 0 ∷ 0 ∷ []) ++ replicate 8 0)))
      (replicate 16 0 ++ ((0x27 ∷ 2 ∷ 1 ∷ 2 ∷ 1 ∷ 2 ∷ 0 ∷ 0 ∷ []) ++ replicate 8 0))
      (replicate 6 0)
  -- leader 1's byte for weight 1 of two is byte 1 × 2 + 1 (document 02, Paper 5)
  pub summaries :
      ((tables_after (record { rms = 2; acceptors = 1; leaders = 2; order = 0x0102 })
      (tables_of (replicate 2 0) (replicate 6 0) (replicate 16 0) (replicate 32 0) (replicate 4 0)) heard
      ).summary
      ≡ 0 ∷ 0 ∷ 0 ∷ 1 ∷ [])
      × (answers (record { rms = 2; acceptors = 1; leaders = 2; order = 0x0102 })
      (tables_of (replicate 2 0) (replicate 6 0) (replicate 16 0) (replicate 32 0) (replicate 4 0)) heard
      ≡ accepted (Slot 0) ∷ accepted (Slot 1) ∷ accepted Quiet ∷ refused 12 ∷ [])
      × (on_summary unused (1 ∷ []) (7 ∷ 0 ∷ 0 ∷ 0 ∷ []) ≡ accepted (Slot 0))
      × (on_summary unused (2 ∷ []) (8 ∷ 0 ∷ 0 ∷ 0 ∷ []) ≡ accepted (Slot 0))
      × (on_summary (0x3B ∷ 0 ∷ 0 ∷ 0 ∷ 1 ∷ 1 ∷ 2 ∷ 0 ∷ []) (2 ∷ []) (7 ∷ 0 ∷ 0 ∷ 0 ∷ []) ≡ refused 12)
  -- Q stays zeros. Of 2a messages aborted at ballot 0 sets bit 1 of its weight, prepared and a later ballot set none; a vote for aborted without a
  -- majority sets none beside that 2a; the 2a sets its bit where it is in the inbox already, and none where it has no room; 9 comes before 14
  pub declines :
      (answers pair pair_fresh declined
      ≡ accepted (Slot 0) ∷ accepted Quiet ∷ refused 12 ∷ accepted (Slot 1) ∷ accepted Quiet ∷ accepted (Slot 2) ∷ accepted Quiet ∷ accepted Quiet ∷ [])
      × ((tables_after pair pair_fresh declined).states ≡ 3 ∷ 3 ∷ [])
      × ((tables_after pair pair_fresh declined).votes ≡ replicate 18 0)
      × ((tables_after pair pair_fresh declined).summary ≡ 0 ∷ 2 ∷ [])
      × (received (0x39 ∷ 1 ∷ 0 ∷ 2 ∷ 1 ∷ 2 ∷ 0 ∷ 0 ∷ []) (replicate 16 0) (1 ∷ 1 ∷ []) ≡ 1 ∷ 3 ∷ [])
      × (received (0x39 ∷ 1 ∷ 0 ∷ 1 ∷ 1 ∷ 2 ∷ 0 ∷ 0 ∷ []) (replicate 16 0) (0 ∷ 0 ∷ []) ≡ 0 ∷ 0 ∷ [])
      × (received (0x39 ∷ 1 ∷ 1 ∷ 2 ∷ 1 ∷ 2 ∷ 0 ∷ 0 ∷ []) (replicate 16 0) (0 ∷ 0 ∷ []) ≡ 0 ∷ 0 ∷ [])
      × (received (0x3B ∷ 1 ∷ 0 ∷ 0 ∷ 2 ∷ 1 ∷ 2 ∷ 0 ∷ []) ((0x39 ∷ 1 ∷ 0 ∷ 2 ∷ 1 ∷ 2 ∷ 0 ∷ 0 ∷ []) ++ unused) (0 ∷ 0 ∷ []) ≡ 0 ∷ 0 ∷ [])
      × (received (0x39 ∷ 0 ∷ 0 ∷ 2 ∷ 1 ∷ 2 ∷ 0 ∷ 0 ∷ []) (0x39 ∷ 0 ∷ 0 ∷ 2 ∷ 1 ∷ 2 ∷ 0 ∷ 0 ∷ []) (0 ∷ 1 ∷ []) ≡ 2 ∷ 1 ∷ [])
      × (received (0x39 ∷ 0 ∷ 0 ∷ 2 ∷ 1 ∷ 2 ∷ 0 ∷ 0 ∷ []) (0x39 ∷ 1 ∷ 0 ∷ 2 ∷ 1 ∷ 2 ∷ 0 ∷ 0 ∷ []) (0 ∷ 0 ∷ []) ≡ 0 ∷ 0 ∷ [])
      × (on (0 ∷ []) (0 ∷ 0 ∷ 0 ∷ []) (0x39 ∷ 0 ∷ 0 ∷ 1 ∷ 1 ∷ 2 ∷ 0 ∷ 0 ∷ []) unused (4 ∷ 0 ∷ 0 ∷ 0 ∷ []) ≡ accepted Quiet)
      × (on (0 ∷ []) (0 ∷ 0 ∷ 0 ∷ []) (0x39 ∷ 0 ∷ 0 ∷ 2 ∷ 1 ∷ 2 ∷ 0 ∷ 0 ∷ []) unused (4 ∷ 0 ∷ 0 ∷ 0 ∷ []) ≡ accepted Quiet)
      × (on (0 ∷ []) (0 ∷ 0 ∷ 0 ∷ []) (0x39 ∷ 0 ∷ 1 ∷ 2 ∷ 1 ∷ 2 ∷ 0 ∷ 0 ∷ []) unused (4 ∷ 0 ∷ 0 ∷ 0 ∷ []) ≡ refused 9)
      × (on (0 ∷ []) (0 ∷ 0 ∷ 0 ∷ []) (0x39 ∷ 0 ∷ 2 ∷ 2 ∷ 1 ∷ 2 ∷ 0 ∷ 0 ∷ []) unused (4 ∷ 0 ∷ 0 ∷ 0 ∷ []) ≡ refused 9)
      × (on (0 ∷ []) (0 ∷ 0 ∷ 0 ∷ []) (0x39 ∷ 0 ∷ 1 ∷ 2 ∷ 1 ∷ 2 ∷ 0 ∷ 0 ∷ []) (0x27 ∷ 0 ∷ 0 ∷ 2 ∷ 1 ∷ 2 ∷ 0 ∷ 0 ∷ []) (4 ∷ 0 ∷ 0 ∷ 0 ∷ []) ≡ refused 9)
  -- a 2a for aborted at a later ballot is no reason to abort: "It is possible for an instance of the Paxos algorithm to choose the value Prepared even
  -- though a leader has sent a phase 2a message (for a ballot number greater than 0) with value Aborted" (document 001, section 4.2)
  pub later_ballot :
      (map number_of (answers overruling overruled_fresh overruled) ≡ replicate 8 0 ++ (9 ∷ replicate 12 0))
      × (take 8 (drop 40 (tables_after overruling overruled_fresh overruled).network) ≡ 0x39 ∷ 0 ∷ 1 ∷ 2 ∷ 1 ∷ 2 ∷ 0 ∷ 0 ∷ [])
      × ((tables_after overruling overruled_fresh overruled).states ≡ 2 ∷ [])
  -- the order number is 0102 (document 02, Paper 1)
  pub order_examples : map (read_message order)
      ((0x19 ∷ 0 ∷ 0 ∷ 1 ∷ [])
      ∷ (0x39 ∷ 0 ∷ 0 ∷ 3 ∷ 1 ∷ 3 ∷ [])
      ∷ (0x39 ∷ 0 ∷ 0 ∷ 1 ∷ 1 ∷ 3 ∷ [])
      ∷ (0x39 ∷ 0 ∷ 0 ∷ 1 ∷ 2 ∷ 2 ∷ [])
      ∷ (0x30 ∷ 1 ∷ 1 ∷ 2 ∷ [])
      ∷ (0x30 ∷ 1 ∷ 2 ∷ 1 ∷ [])
      ∷ [])
      ≡ refused 15 ∷ refused 17 ∷ refused 18 ∷ refused 18 ∷ accepted (Decision 1) ∷ refused 18 ∷ []
  -- who owns which ballots (document 02, Paper 4)
  pub owners :
      (map (at_ballot 2 5 0) (1 ∷ 2 ∷ 3 ∷ 255 ∷ []) ≡ accepted (Slot 0) ∷ refused 10 ∷ accepted (Slot 0) ∷ accepted (Slot 0) ∷ [])
      × (map (at_ballot 3 5 2) (2 ∷ 3 ∷ 6 ∷ 254 ∷ 255 ∷ []) ≡ refused 10 ∷ accepted (Slot 0) ∷ accepted (Slot 0) ∷ refused 10 ∷ accepted (Slot 0) ∷ [])
      × (map (at_ballot 4 5 0) (0 ∷ 1 ∷ 2 ∷ 5 ∷ 253 ∷ []) ≡ refused 10 ∷ accepted (Slot 0) ∷ refused 10 ∷ accepted (Slot 0) ∷ accepted (Slot 0) ∷ [])
      × (map (at_ballot 4 5 1) (0 ∷ 1 ∷ 2 ∷ 5 ∷ 254 ∷ []) ≡ refused 10 ∷ refused 10 ∷ accepted (Slot 0) ∷ refused 10 ∷ accepted (Slot 0) ∷ [])
      × (map (at_ballot 4 5 3) (0 ∷ 1 ∷ 3 ∷ 4 ∷ 255 ∷ []) ≡ refused 10 ∷ refused 10 ∷ refused 10 ∷ accepted (Slot 0) ∷ refused 10 ∷ [])
      × (map (at_ballot 4 6 2) (0 ∷ 2 ∷ 3 ∷ 255 ∷ []) ≡ refused 10 ∷ refused 10 ∷ refused 12 ∷ refused 12 ∷ [])
  -- each row of "Refusals by place" for the event call, in bytes: the plan, the tables and that the event is one; then the event's own rows
  pub refusals :
      ((record_step (record { rms = 0; acceptors = 1; leaders = 1; order = 0x0102 }) (tables_of [] [] [] [] []) (0 ∷ 0 ∷ 0 ∷ 0 ∷ [])).answer ≡ refused 1)
      × (on (0 ∷ 0 ∷ []) (0 ∷ 0 ∷ 0 ∷ []) unused unused (0 ∷ 0 ∷ 0 ∷ 0 ∷ []) ≡ refused 2)
      × (on (4 ∷ []) (0 ∷ 0 ∷ 3 ∷ []) unused unused (0 ∷ 0 ∷ 0 ∷ 0 ∷ []) ≡ refused 3)
      × (on (0 ∷ []) (0 ∷ 0 ∷ 3 ∷ []) unused unused (0 ∷ 0 ∷ 0 ∷ 0 ∷ []) ≡ refused 4)
      × (on (0 ∷ []) (0 ∷ 1 ∷ 0 ∷ []) unused unused (0 ∷ 0 ∷ 0 ∷ 0 ∷ []) ≡ refused 4)
      × (on (0 ∷ []) (0 ∷ 0 ∷ 0 ∷ []) (0x30 ∷ 3 ∷ 1 ∷ 2 ∷ 0 ∷ 0 ∷ 0 ∷ 0 ∷ []) unused (0 ∷ 0 ∷ 0 ∷ 0 ∷ []) ≡ refused 5)
      × (on (0 ∷ []) (0 ∷ 0 ∷ 0 ∷ []) (unused ++ (0x30 ∷ 1 ∷ 1 ∷ 2 ∷ 0 ∷ 0 ∷ 0 ∷ 0 ∷ [])) unused (0 ∷ 0 ∷ 0 ∷ 0 ∷ []) ≡ refused 5)
      × (on (0 ∷ []) (0 ∷ 0 ∷ 0 ∷ []) unused (0x30 ∷ 1 ∷ 1 ∷ 2 ∷ 1 ∷ 0 ∷ 0 ∷ 0 ∷ []) (0 ∷ 0 ∷ 0 ∷ 0 ∷ []) ≡ refused 6)
      × (on (0 ∷ []) (0 ∷ 0 ∷ 0 ∷ []) (0x30 ∷ 1 ∷ 1 ∷ 3 ∷ 0 ∷ 0 ∷ 0 ∷ 0 ∷ []) unused (2 ∷ 0 ∷ 0 ∷ 0 ∷ []) ≡ refused 5)
      × (on (0 ∷ []) (0 ∷ 0 ∷ 0 ∷ []) unused (0x30 ∷ 1 ∷ 3 ∷ 2 ∷ 0 ∷ 0 ∷ 0 ∷ 0 ∷ []) (0 ∷ 0 ∷ 0 ∷ 0 ∷ []) ≡ refused 6)
      × (on_summary (0x30 ∷ 1 ∷ 3 ∷ 2 ∷ 0 ∷ 0 ∷ 0 ∷ 0 ∷ []) (4 ∷ []) (0 ∷ 0 ∷ 0 ∷ 0 ∷ []) ≡ refused 6)
      × (on_summary unused (4 ∷ []) (9 ∷ 0 ∷ 0 ∷ 0 ∷ []) ≡ refused 20)
      × (on_summary unused (0 ∷ 0 ∷ []) (9 ∷ 0 ∷ 0 ∷ 0 ∷ []) ≡ refused 20)
      × (on_summary unused [] (0 ∷ 0 ∷ 0 ∷ 0 ∷ []) ≡ refused 20)
      × (on (0 ∷ []) (0 ∷ 0 ∷ 0 ∷ []) unused unused (0 ∷ 0 ∷ 0 ∷ 0 ∷ 0 ∷ []) ≡ refused 7)
      × (on (0 ∷ []) (0 ∷ 0 ∷ 0 ∷ []) unused unused (9 ∷ 0 ∷ 0 ∷ 0 ∷ []) ≡ refused 7)
  pub event_refusals :
      (on (0 ∷ []) (0 ∷ 0 ∷ 0 ∷ []) unused unused (2 ∷ 0 ∷ 0 ∷ 0 ∷ []) ≡ refused 8)
      × (on (0 ∷ []) (0 ∷ 0 ∷ 0 ∷ []) (0x29 ∷ 0 ∷ 1 ∷ 1 ∷ 2 ∷ 0 ∷ 0 ∷ 0 ∷ []) unused (2 ∷ 0 ∷ 0 ∷ 0 ∷ []) ≡ refused 9)
      × (on (0 ∷ []) (0 ∷ 0 ∷ 0 ∷ []) (0x30 ∷ 1 ∷ 1 ∷ 2 ∷ 0 ∷ 0 ∷ 0 ∷ 0 ∷ []) unused (3 ∷ 0 ∷ 0 ∷ 0 ∷ []) ≡ refused 9)
      × (on (0 ∷ []) (0 ∷ 0 ∷ 0 ∷ []) (0x39 ∷ 0 ∷ 1 ∷ 1 ∷ 1 ∷ 2 ∷ 0 ∷ 0 ∷ []) unused (4 ∷ 0 ∷ 0 ∷ 0 ∷ []) ≡ refused 9)
      × (on (0 ∷ []) (0 ∷ 0 ∷ 0 ∷ []) unused unused (5 ∷ 0 ∷ 0 ∷ 0 ∷ []) ≡ refused 10)
      × (on (0 ∷ []) (0 ∷ 0 ∷ 0 ∷ []) (0x30 ∷ 1 ∷ 1 ∷ 2 ∷ 0 ∷ 0 ∷ 0 ∷ 0 ∷ []) unused (2 ∷ 0 ∷ 0 ∷ 0 ∷ []) ≡ refused 11)
      × (on (3 ∷ []) (0 ∷ 0 ∷ 0 ∷ []) (0x30 ∷ 1 ∷ 1 ∷ 2 ∷ 0 ∷ 0 ∷ 0 ∷ 0 ∷ []) unused (2 ∷ 0 ∷ 0 ∷ 0 ∷ []) ≡ refused 11)
      × (on (2 ∷ []) (0 ∷ 0 ∷ 0 ∷ []) (0x30 ∷ 2 ∷ 1 ∷ 2 ∷ 0 ∷ 0 ∷ 0 ∷ 0 ∷ []) unused (2 ∷ 0 ∷ 0 ∷ 0 ∷ []) ≡ refused 11)
      × (on (1 ∷ []) (0 ∷ 0 ∷ 0 ∷ []) unused unused (0 ∷ 0 ∷ 0 ∷ 0 ∷ []) ≡ refused 12)
      × (on (0 ∷ []) (0 ∷ 0 ∷ 0 ∷ []) (0x30 ∷ 2 ∷ 1 ∷ 2 ∷ 0 ∷ 0 ∷ 0 ∷ 0 ∷ []) unused (0 ∷ 0 ∷ 0 ∷ 0 ∷ []) ≡ refused 13)
      × (on (0 ∷ []) (0 ∷ 0 ∷ 0 ∷ []) (0x27 ∷ 0 ∷ 0 ∷ 1 ∷ 1 ∷ 2 ∷ 0 ∷ 0 ∷ []) (0x27 ∷ 0 ∷ 0 ∷ 2 ∷ 1 ∷ 2 ∷ 0 ∷ 0 ∷ []) (4 ∷ 0 ∷ 0 ∷ 0 ∷ [])
      ≡ refused 14)

pub computed : Computed
unfolding read_message and_then refuse_if is_plan is_count is_value is_vote is_in_range bytes_of bytes_of1b message_length slot_of map_length is_known ones
    fields_message decode has_order all is_table_length slots_up_to slots is_zero read_slot read_table all_unused is_ordered is_table used_messages
    messages same_bytes store_at same_message place_from place_in message_at sending slot_number who_limit are_zero are_arguments is_event are_states
    rm_judged rm_choose rm_receive_decision rm_receive rm_kind rm_verdict rm_step vote_at is_vote_state are_votes acceptor_judged vote_of phase1b phase2b
    acceptor_receive acceptor_verdict acceptor_step count_acceptors is_majority is_quorum any is1b is2a is2b higher report_of highest_report
    proposal chosen is_chosen2b decided for_all for_some is_summary stands marked has_bit insert_bit owns leader_judged receipt_store receipt phase1a phase2a_message keep_own send_both phase2a
    send_only decide_send leader_kind leader_verdict_by leader_step_by inbox_size inbox_of with_inbox are_lengths are_inboxes record_judged lent_judged
    role_step record_step run_judged finished_run record_run
computed =
    record {
      orders_end = (refl, refl, refl, refl, refl, refl, refl, refl);
      lists_end = (refl, refl, refl, refl, refl, refl, refl, refl, refl, refl, refl, refl);
      mixed_ends = (refl, refl);
      places = refl;
      summaries = (refl, refl, refl, refl, refl);
      declines = (refl, refl, refl, refl, refl, refl, refl, refl, refl, refl, refl, refl, refl, refl, refl);
      later_ballot = (refl, refl, refl);
      order_examples = refl;
      owners = (refl, refl, refl, refl, refl, refl);
      refusals = (refl, refl, refl, refl, refl, refl, refl, refl, refl, refl, refl, refl, refl, refl, refl, refl);
      event_refusals = (refl, refl, refl, refl, refl, refl, refl, refl, refl, refl, refl);
    }
