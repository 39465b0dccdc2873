use Rattle.lane_index.specs.Histories.{only_opening}
use Rattle.lane_index.proofs.history.History.open.Given as goal

abbrev pub ghosts-begin : goal.ghosts-begin
ghosts-begin a = record { entries = only_opening a.maps.now a.peers.now a.last }
