-- `host_message::message_code` meets its contract: each branch knows the map, so the length and the fields' places. Assumes nothing.
use mathlib.Core.Path.{◌∙◌}
use Rattle.std.proofs.Common.{arith, lit<}
use Rattle.message.proofs.Form.Maps.{length_1a, length_1b, length_1b_vote, length_2a, length_2b}
use Rattle.message.proofs.Form.Maps.{fields_1a, fields_1b, fields_1b_vote, fields_2a, fields_2b}
use Rattle.message.proofs.Guards.{within}
use Rattle.host_message.proofs.Reading.{map_of, code_known, code_other}
use Rattle.host_message.proofs.message_code.Goals as goal

-- a 1a
pub bounds-bytes-1 : goal.bounds-bytes-1
bounds-bytes-1 c = within (map_of c.requires c.byte_at.ensures c.in-41.is length_1a) (lit< tt)

pub bounds-bytes-2 : goal.bounds-bytes-2
bounds-bytes-2 c = within (map_of c.requires c.byte_at.ensures c.in-41.is length_1a) (lit< tt)

pub returns-in-41 : goal.returns-in-41
returns-in-41 c =
    code_known _ c.byte_at.ensures _ c.in-41.is (fields_1a _ _ _ _ _) c.pack.ensures

-- a 1b without a vote
pub bounds-bytes-1-in-39 : goal.bounds-bytes-1-in-39
bounds-bytes-1-in-39 c = within (map_of c.requires c.byte_at.ensures c.in-39.is length_1b) (lit< tt)

pub bounds-bytes-2-in-39 : goal.bounds-bytes-2-in-39
bounds-bytes-2-in-39 c = within (map_of c.requires c.byte_at.ensures c.in-39.is length_1b) (lit< tt)

pub bounds-bytes-3 : goal.bounds-bytes-3
bounds-bytes-3 c = within (map_of c.requires c.byte_at.ensures c.in-39.is length_1b) (lit< tt)

pub returns-in-39 : goal.returns-in-39
returns-in-39 c =
    code_known _ c.byte_at.ensures _ c.in-39.is (fields_1b _ _ _ _ _) c.pack-in-39.ensures

-- a 1b with a vote
pub bounds-bytes-1-in-63 : goal.bounds-bytes-1-in-63
bounds-bytes-1-in-63 c = within (map_of c.requires c.byte_at.ensures c.in-63.is length_1b_vote) (lit< tt)

pub bounds-bytes-2-in-63 : goal.bounds-bytes-2-in-63
bounds-bytes-2-in-63 c = within (map_of c.requires c.byte_at.ensures c.in-63.is length_1b_vote) (lit< tt)

pub bounds-bytes-3-in-63 : goal.bounds-bytes-3-in-63
bounds-bytes-3-in-63 c = within (map_of c.requires c.byte_at.ensures c.in-63.is length_1b_vote) (lit< tt)

pub bounds-bytes-4 : goal.bounds-bytes-4
bounds-bytes-4 c = within (map_of c.requires c.byte_at.ensures c.in-63.is length_1b_vote) (lit< tt)

pub bounds-bytes-5 : goal.bounds-bytes-5
bounds-bytes-5 c = within (map_of c.requires c.byte_at.ensures c.in-63.is length_1b_vote) (lit< tt)

pub returns-in-63 : goal.returns-in-63
returns-in-63 c =
    code_known _ c.byte_at.ensures _ c.in-63.is (fields_1b_vote _ _ _ _ _) c.pack-in-63.ensures

-- a 2a
pub bounds-bytes-1-in-57 : goal.bounds-bytes-1-in-57
bounds-bytes-1-in-57 c = within (map_of c.requires c.byte_at.ensures c.in-57.is length_2a) (lit< tt)

pub bounds-bytes-2-in-57 : goal.bounds-bytes-2-in-57
bounds-bytes-2-in-57 c = within (map_of c.requires c.byte_at.ensures c.in-57.is length_2a) (lit< tt)

pub bounds-bytes-3-in-57 : goal.bounds-bytes-3-in-57
bounds-bytes-3-in-57 c = within (map_of c.requires c.byte_at.ensures c.in-57.is length_2a) (lit< tt)

pub returns-in-57 : goal.returns-in-57
returns-in-57 c =
    code_known _ c.byte_at.ensures _ c.in-57.is (fields_2a _ _ _ _ _) c.pack-in-57.ensures

-- a 2b
pub bounds-bytes-1-in-59 : goal.bounds-bytes-1-in-59
bounds-bytes-1-in-59 c = within (map_of c.requires c.byte_at.ensures c.in-59.is length_2b) (lit< tt)

pub bounds-bytes-2-in-59 : goal.bounds-bytes-2-in-59
bounds-bytes-2-in-59 c = within (map_of c.requires c.byte_at.ensures c.in-59.is length_2b) (lit< tt)

pub bounds-bytes-3-in-59 : goal.bounds-bytes-3-in-59
bounds-bytes-3-in-59 c = within (map_of c.requires c.byte_at.ensures c.in-59.is length_2b) (lit< tt)

pub bounds-bytes-4-in-59 : goal.bounds-bytes-4-in-59
bounds-bytes-4-in-59 c = within (map_of c.requires c.byte_at.ensures c.in-59.is length_2b) (lit< tt)

pub returns-in-59 : goal.returns-in-59
returns-in-59 c =
    code_known _ c.byte_at.ensures _ c.in-59.is (fields_2b _ _ _ _ _) c.pack-in-59.ensures

pub returns-in_default : goal.returns-in_default
returns-in_default c =
    code_other _ c.byte_at.ensures (record { not_1a = λ e. grind arith; not_1b = λ e. grind arith; not_1b_vote = λ e. grind arith; not_2a = λ e. grind arith; not_2b = λ e. grind arith })
    (c.pack-in_default.ensures ∙ rw c.byte_at-in_default.ensures)
