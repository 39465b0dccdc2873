-- The words of `serve` (our own). Numbers are decimal, without a sign or a leading zero.
use Rattle.std.specs.Prelude.{◌≡◌, ◌≢◌, ℕ, ◌≤◌, List, [], ◌∷◌, codes, decimal}
use Rattle.serve_commands.specs.declared.commands.ServePlan.{ServePlan}
use Rattle.serve_commands.specs.declared.commands.TheConstants.{LAST_LANE_PORT, LAST_PORT}

-- the text writes this port, from 1 to the last one
abbrev pub IsPortText : ℕ → List ℕ → ℕ → Type 0
IsPortText last text port = (text ≡ decimal port) × (1 ≤ port) × (port ≤ last)

-- PORT LANEPORT
pub record ArePortTexts (port lane_port : List ℕ) (plan : ServePlan) : Type 0 where
  pub port_is : IsPortText LAST_PORT port plan.port
  pub lane_port_is : IsPortText LAST_LANE_PORT lane_port plan.lane_port

-- serve CONFIG JOURNALS PORT LANEPORT, none of them empty
pub record IsServeWords (words : List (List ℕ)) (plan : ServePlan) : Type 0 where
  pub config : List ℕ
  pub journals : List ℕ
  pub port : List ℕ
  pub lane_port : List ℕ
  pub spelled : words ≡ codes "serve" ∷ config ∷ journals ∷ port ∷ lane_port ∷ []
  pub filled : (config ≢ []) × (journals ≢ [])
  pub ports : ArePortTexts port lane_port plan
