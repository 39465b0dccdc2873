use Rattle.std.proofs.Common.{sym, subst}
use Rattle.lane_index.specs.Applying.{ended}
use Rattle.lane_index.specs.Links.{AreTaken, LinkLists}
use Rattle.lane_index.proofs.LinkLemmas.{ended-stays, taken-changed}
use Rattle.lane_index.proofs.links.Links.end.Goals as goal

pub returns-clause-links : goal.returns-clause-links
returns-clause-links c = record {
  taken = rw c.end_all.ensures.ended (taken-changed (ended c.args.key.now) (ended-stays c.args.key.now) c.args.cells.now c.self.inside.maps.items
      (subst (λ (l : LinkLists). AreTaken c.args.cells.now l.maps) (sym c.self.view_is) c.requires.taken));
  keyed = c.end_all.ensures.keyed;
  standing = c.end_all.ensures.standing;
}
