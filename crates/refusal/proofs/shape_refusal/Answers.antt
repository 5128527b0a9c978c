-- `refusal::shape_refusal` meets its contract: each `return` is the number of one map, or of an unknown one. Assumes nothing.
use Prim.Native.Nat.{ℕ}
use mathlib.Core.Bool.{true}
use mathlib.Core.List.{List}
use mathlib.Core.Path.{◌≡◌, sym, ◌∙◌, ap}
use native.Mathlib.Omega.{arith}
use lib.Dec.{lit<}
use lib.ListN.{get_or}
use Rattle.message.specs.declared.Plan.{Plan}
use Rattle.message.specs.Plan.{is_plan}
use Rattle.message.specs.Form.{map1a, map1b, map1b_vote, map2a, map2b, map_decision, map_length}
use Rattle.message.proofs.Form.Laws.{map_length_unknown}
use Rattle.message.proofs.Form.Maps.{length_1a, length_1b, length_1b_vote, length_2a, length_2b, length_decision}
use Rattle.message.specs.Codec.Laws.{shape_number}
use Rattle.message.proofs.Codec.Laws.{shape_unknown}
use Rattle.refusal.proofs.Slices.{begins}
use Rattle.refusal.proofs.shape_refusal.Goals as goal

module _ (p : Plan) (map : ℕ) (bytes : List ℕ) (pre : (is_plan p ≡ true) × (map ≡ get_or bytes 0 0)) where
  of_unknown : (map ≡ map1a → ⊥) → (map ≡ map1b → ⊥) → (map ≡ map1b_vote → ⊥) → (map ≡ map2a → ⊥) → (map ≡ map2b → ⊥) → (map ≡ map_decision → ⊥)
      → 15 ≡ shape_number p bytes
  of_unknown not1a not1b not1bVote not2a not2b notDecision =
      shape_unknown p bytes pre.0 (ap map_length (sym pre.1) ∙ map_length_unknown map not1a not1b not1bVote not2a not2b notDecision)

pub refusal_1a-requires : goal.refusal_1a-requires
refusal_1a-requires c = begins _ _ _ c.requires map1a length_1a (lit< tt) c.if-map-eq-MAP_1A.true

pub returns-then-map-eq-MAP_1A : goal.returns-then-map-eq-MAP_1A
returns-then-map-eq-MAP_1A c = c.refusal_1a.ensures

pub refusal_1b-requires : goal.refusal_1b-requires
refusal_1b-requires c = begins _ _ _ c.requires map1b length_1b (lit< tt) c.if-map-eq-MAP_1B.true

pub returns-then-map-eq-MAP_1B : goal.returns-then-map-eq-MAP_1B
returns-then-map-eq-MAP_1B c = c.refusal_1b.ensures

pub refusal_decision-requires : goal.refusal_decision-requires
refusal_decision-requires c = begins _ _ _ c.requires map_decision length_decision (lit< tt) c.if-map-eq-MAP_DECISION.true

pub returns-then-map-eq-MAP_DECISION : goal.returns-then-map-eq-MAP_DECISION
returns-then-map-eq-MAP_DECISION c = c.refusal_decision.ensures

pub returns-then-map-lt-MAP_2A : goal.returns-then-map-lt-MAP_2A
returns-then-map-lt-MAP_2A c =
    of_unknown _ _ _ c.requires c.if-map-eq-MAP_1A.false c.if-map-eq-MAP_1B.false (λ e. omega arith) (λ e. omega arith) (λ e. omega arith) c.if-map-eq-MAP_DECISION.false

pub refusal_2a-requires : goal.refusal_2a-requires
refusal_2a-requires c = begins _ _ _ c.requires map2a length_2a (lit< tt) c.if-map-eq-MAP_2A.true

pub returns-then-map-eq-MAP_2A : goal.returns-then-map-eq-MAP_2A
returns-then-map-eq-MAP_2A c = c.refusal_2a.ensures

pub refusal_2b-requires : goal.refusal_2b-requires
refusal_2b-requires c = begins _ _ _ c.requires map2b length_2b (lit< tt) c.if-map-eq-MAP_2B.true

pub returns-then-map-eq-MAP_2B : goal.returns-then-map-eq-MAP_2B
returns-then-map-eq-MAP_2B c = c.refusal_2b.ensures

pub refusal_1b_vote-requires : goal.refusal_1b_vote-requires
refusal_1b_vote-requires c = begins _ _ _ c.requires map1b_vote length_1b_vote (lit< tt) c.if-map-eq-MAP_1B_VOTE.true

pub returns-then-map-eq-MAP_1B_VOTE : goal.returns-then-map-eq-MAP_1B_VOTE
returns-then-map-eq-MAP_1B_VOTE c = c.refusal_1b_vote.ensures

pub returns : goal.returns
returns c =
    of_unknown _ _ _ c.requires (λ e. omega arith) (λ e. omega arith) c.if-map-eq-MAP_1B_VOTE.false c.if-map-eq-MAP_2A.false c.if-map-eq-MAP_2B.false (λ e. omega arith)
