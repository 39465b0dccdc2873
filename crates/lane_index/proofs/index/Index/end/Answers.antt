use Rattle.std.proofs.Common.{◌≡◌, ap, ◌∙◌, length, map, drop, arith}
use Rattle.std.proofs.lemmas.List.{length-map}
use Rattle.lane_index.specs.Applying.{ended}
use Rattle.lane_index.proofs.LinkLemmas.{ended-stays, all-placed, whole}
use Rattle.lane_index.proofs.index.Index.end.Goals as goal

pub invariant_of-self : goal.invariant_of-self
invariant_of-self c =
    let f = (ended c.args.key.now) in
    let now : c.end.new.cells ≡ map f c.self.inside.cells.items = c.end.ensures.ended ∙ ap (map f) c.as_mut_slice.ensures.value in
    let long : length c.end.new.cells ≡ c.self.inside.cells.len = ap length c.end.ensures.ended ∙ length-map c.as_mut_slice.result.now f ∙ c.as_mut_slice.ensures.len in
    let same = ap length now in
    let all = length-map c.self.inside.cells.items f in (
      rw (whole c.self.inside.cells.len c.end.new.cells (drop (length c.end.new.cells) c.self.inside.cells.items) long) (record {
        links = c.end.ensures.links;
        placed = rw now (all-placed f (ended-stays c.args.key.now) c.self.inside.cells.items c.self.invariant.0.placed);
        few = omega (arith, same, all, c.self.invariant.0.few);
      }),
      c.self.invariant.1,
    )
