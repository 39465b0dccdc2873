-- What a link asks, and the answers that it took (our own).
use Rattle.std.specs.Prelude.{◌≡◌, List, [], ◌∷◌, ◌++◌, Option, Some, None, option_map}
use Rattle.pcp_base.specs.declared.leases.Endpoint.{Endpoint}
use Rattle.pcp_io.specs.declared.lane_links.LaneAsk.{LaneAsk}
use Rattle.pcp_io.specs.declared.lane_links.LaneAsk.TheVariants.{Stop}

-- It is the next of what was left, where that is told. A stop comes where nothing was left.
abbrev pub IsNextAsk : Option (List LaneAsk) → Option (List LaneAsk) → LaneAsk → Type 0
IsNextAsk None now asked = now ≡ None
IsNextAsk (Some []) now asked = (asked ≡ Stop) × (now ≡ Some [])
IsNextAsk (Some (ask ∷ rest)) now asked = (asked ≡ ask) × (now ≡ Some rest)

-- this answer comes behind the others
abbrev pub answers_with : Option (List (Option Endpoint)) → Option Endpoint →
    Option (List (Option Endpoint))
answers_with before owner = option_map (λ owners. owners ++ owner ∷ []) before
