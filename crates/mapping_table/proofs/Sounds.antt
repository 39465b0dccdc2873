-- Sound leases, of which some are taken out.
use Rattle.std.proofs.Common.{◌≤◌, Bool, List, length, filter, arith}
use Rattle.pcp_base.proofs.Members.{All-filter, EachTwo-filter}
use Rattle.pcp_base.proofs.TableLemmas.{length-fewer}
use Rattle.pcp_base.specs.declared.leases.MapLease.{MapLease}
use Rattle.pcp_base.specs.Tables.{IsMapLease}
use Rattle.mapping_table.specs.MapLists.{AreSeparate, AreSoundMaps}

pub AreSoundMaps-filter : (p : MapLease → Bool) (ls : List MapLease) → AreSoundMaps ls → AreSoundMaps (filter p ls)
AreSoundMaps-filter p ls h =
    let fewer : length (filter p ls) ≤ length ls = length-fewer p ls in
    record {
      leases = All-filter IsMapLease p ls h.leases;
      separate = EachTwo-filter AreSeparate p ls h.separate;
      few = omega (arith, fewer, h.few);
    }
