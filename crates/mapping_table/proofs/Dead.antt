-- Whether a lease isn't live.
use Rattle.std.proofs.Common.{◌≡◌, ℕ, not, Bool, List, Option, Some, None, sym, ap}
use Rattle.std.specs.Prelude.{is_some}
use Rattle.std.specs.List.{list_any}
use Rattle.std.specs.BTreeMap.{values}
use Rattle.pcp_base.specs.declared.leases.MapLease.{MapLease}
use Rattle.pcp_base.proofs.Members.{IsIn-from_Contains, some-any, none-any, find-none}
use Rattle.ordered_index.specs.declared.numbered.Numbered.{Numbered}
use Rattle.ordered_index.specs.Ended.{IsOneEnded}
use Rattle.ordered_index.specs.Orders.{Place}
use Rattle.ordered_index.proofs.Endings.{one-none, one-stands, one-among}
use Rattle.mapping_table.specs.MapLists.{is_live_map}
use Rattle.mapping_table.specs.Kept.{AreKeptMaps}

module _ (m : ℕ) (it : Numbered MapLease Place (ℕ × ℕ)) (h : AreKeptMaps it) where
  abbrev dead : MapLease → Bool
  dead l = not (is_live_map m l)

  -- where the number of one that isn't live is told
  pub some-ended : (o : Option ℕ) → IsOneEnded (λ (l : MapLease). l.expiry) m it.leases o → is_some o ≡ list_any dead (values it.leases)
  some-ended None ended = sym (none-any dead (values it.leases) (find-none dead (values it.leases) (one-none (λ (l : MapLease). l.expiry) it.leases h.kept.ordered m ended)))
  some-ended (Some n) ended =
      let y = one-stands (λ (l : MapLease). l.expiry) it.leases h.kept.ordered m n ended in
      sym (some-any dead (values it.leases) y.0 (IsIn-from_Contains (values it.leases) y.0 (one-among it.leases n y.0 y.1)) (ap not y.2))
