-- Sound leases, of which some are taken out.
use Rattle.std.proofs.Common.{◌≤◌, Bool, List, length, filter, count_by, arith}
use Rattle.pcp_base.proofs.Members.{All-filter, EachTwo-filter}
use Rattle.pcp_base.proofs.TableLemmas.{length-fewer, count-filter}
use Rattle.pcp_base.specs.declared.leases.TheConstants.{MOST_PEERS}
use Rattle.pcp_base.specs.declared.leases.PeerLease.{PeerLease}
use Rattle.pcp_base.specs.Tables.{IsPeerLease, names}
use Rattle.peer_table.specs.PeerLists.{AreFellows, AreSoundPeers}

pub AreSoundPeers-filter : (p : PeerLease → Bool) (ls : List PeerLease) → AreSoundPeers ls → AreSoundPeers (filter p ls)
AreSoundPeers-filter p ls h =
    let fewer : length (filter p ls) ≤ length ls = length-fewer p ls in
    record {
      leases = All-filter IsPeerLease p ls h.leases;
      fellows = EachTwo-filter AreFellows p ls h.fellows;
      few = omega (arith, fewer, h.few);
      few_peers = λ e.
          let some : count_by (λ l. names l e) (filter p ls) ≤ count_by (λ l. names l e) ls = count-filter (λ l. names l e) p ls in
          let all : count_by (λ l. names l e) ls ≤ MOST_PEERS = h.few_peers e in
          omega (arith, some, all);
    }
