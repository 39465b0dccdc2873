use Rattle.std.proofs.Common.{◌∙◌, length, drop, sym, subst, arith}
use Rattle.lane_index.specs.Links.{AreLinks, LinkLists}
use Rattle.lane_index.proofs.LinkLemmas.{whole}
use Rattle.lane_index.proofs.links.Links.add.Goals as goal

pub returns : goal.returns
returns c = λ cells h.
    let before = subst (λ (l : LinkLists). AreLinks cells l) (sym c.self.view_is) h in
    record {
      taken = rw (whole c.self.inside.maps.len c.tell_map.new.maps (drop (length c.tell_map.new.maps) c.self.inside.maps.items) (c.tell_map.ensures.wide ∙ sym c.self.invariant.0))
          (c.tell_map.ensures.taken cells (omega (arith, c.len-number.ensures, before.keyed.long)) (rw c.as_mut_slice.ensures.value before.taken));
      keyed = c.add_key.ensures.chained cells before.keyed;
      standing = c.add_peer.ensures.chained cells before.standing;
    }
