use Rattle.std.proofs.Common.{ℕ, ap, sym, subst, ◌+◌}
use Rattle.pcp_base.specs.declared.leases.MapLease.{MapLease}
use Rattle.ordered_index.specs.Orders.{Place}
use Rattle.mapping_table.specs.Kept.{IsLastBefore, IsLastPlace}
use Rattle.mapping_table.proofs.bare.BareLease.last_place.Goals as goal

pub returns : goal.returns
returns c = subst (λ (v : MapLease). IsLastPlace v c.place_of.result) c.self.view_is (record {
  address = ap (λ (k : Place). k.0) c.place_of.ensures;
  protocol = ap (λ (k : Place). k.1.0) c.place_of.ensures;
  port = subst (λ (n : ℕ). IsLastBefore (c.self.inside.internal + c.self.inside.count) n) (sym (ap (λ (k : Place). k.1.1) c.place_of.ensures)) c.last_of.ensures;
})
