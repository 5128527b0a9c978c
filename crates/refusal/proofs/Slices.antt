-- A slice's length beside that of its map.
--     whole, not_whole     what the code was told of the map's length, for the map that it is
--     begins               a slice that begins with a known map
-- Assumes nothing.
use Prim.Native.Nat.{ℕ, ◌<◌}
use mathlib.Core.Bool.{true}
use mathlib.Core.List.{List}
use mathlib.Core.Path.{◌≡◌, sym, ◌∙◌, ap}
use native.Mathlib.Omega.{arith}
use lib.ListN.{get_or}
use Rattle.message.specs.declared.Plan.{Plan}
use Rattle.message.specs.Plan.{is_plan}
use Rattle.message.specs.Form.{map_length}
use Rattle.message.specs.Codec.Laws.{Begins}

module _ {n told map known : ℕ} where
  pub whole : n ≡ told → told ≡ map_length map → map ≡ known → n ≡ map_length known
  whole e f g = e ∙ f ∙ ap map_length g

  pub not_whole : (n ≡ told → ⊥) → told ≡ map_length map → map ≡ known → n ≡ map_length known → ⊥
  not_whole n f g e = n (e ∙ sym (f ∙ ap map_length g))

pub begins : (p : Plan) (map : ℕ) (bytes : List ℕ) → (is_plan p ≡ true) × (map ≡ get_or bytes 0 0)
    → (known : ℕ) {k : ℕ} → map_length known ≡ k → 0 < k → map ≡ known → (map ≡ known) × Begins p known bytes
begins p map bytes (plan, first) known len some is = (is, record { plan = plan; first = sym first ∙ is; known = omega arith })
