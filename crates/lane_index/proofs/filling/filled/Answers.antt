use Rattle.std.proofs.Common.{rules, refl, ◌≡◌, ◌++◌, map, ap}
use Rattle.lane_index.specs.declared.cells.Cell.TheVariants.{Mapping, Peering}
use Rattle.lane_index.specs.Slots.{map_kept, peer_kept}
use Rattle.lane_index.proofs.PublishLemmas.{filled-copy}
use Rattle.lane_index.proofs.filling.filled.Goals as goal

pub returns-clause-copy : goal.returns-clause-copy
returns-clause-copy c =
    let cells : c.fill_peers.new.index ≡ map (λ l. Mapping (map_kept l)) c.args.maps.now ++ map (λ l. Peering (peer_kept l)) c.args.peers.now = search rules in
    filled-copy c.args.maps.now c.args.peers.now c.args.last record { index = c.args.seen.now.book; log = c.args.seen.now.log } record { index = c.fill_peers.new.index; last = c.args.last; seen = c.again.result; count = c.args.count } c.requires.sound c.requires.opened (ap (λ s. s.book) c.again.ensures) (ap (λ s. s.log) c.again.ensures) c.requires.counted refl cells
