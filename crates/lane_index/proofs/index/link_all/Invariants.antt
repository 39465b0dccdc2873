use Rattle.std.proofs.Common.{take}
use Rattle.lane_index.specs.Links.{AreLinks}
use Rattle.lane_index.proofs.index.link_all.Given as goal

abbrev pub invariant-loop-cell : goal.invariant-loop-cell
invariant-loop-cell l = AreLinks (take l.cell-index l.cells) l.links
