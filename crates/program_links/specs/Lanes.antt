-- What of an ask of a lane passes (our own).
use Rattle.std.specs.Prelude.{ℕ, Bool, ◌||◌, if◌then◌else◌}
use Rattle.pcp_io.specs.declared.lane_links.LaneAsk.{LaneAsk}
use Rattle.pcp_io.specs.declared.lane_links.LaneAsk.TheVariants.{Quiet, Stop}

-- what is known of a link
pub record LaneCounts : Type 0 where
  -- how many faults it has counted
  pub faults : ℕ
  pub takes_stops : Bool

-- all but a stop before the work is over, which only some links take
abbrev pub lane_asked : Bool → Bool → LaneAsk → LaneAsk
lane_asked takes_stops over Stop = if takes_stops || over then Stop else Quiet
lane_asked takes_stops over asked = asked
