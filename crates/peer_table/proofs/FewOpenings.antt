-- An external port has few openings, as its leases have one endpoint.
use Rattle.std.proofs.Common.{◌≡◌, ℕ, ◌≤◌, Bool, true, length, find, count_by, Option, Some, None, refl, sym, ap, ◌∙◌, arith}
use Rattle.std.specs.declared.ops.Bound.TheVariants.{Included, Excluded}
use Rattle.std.specs.BTreeMap.{values}
use Rattle.std.specs.BTreeMap.Range.{range_contains, entries_between}
use Rattle.std.proofs.lemmas.Bool.{and_parts, and_from, eqb-true, eq-eqb}
use Rattle.std.proofs.lemmas.List.Sums.{length-filter}
use Rattle.pcp_base.specs.declared.leases.TheConstants.{MOST_PEERS}
use Rattle.pcp_base.specs.declared.leases.Protocol.{Protocol}
use Rattle.pcp_base.specs.declared.leases.Endpoint.{Endpoint}
use Rattle.pcp_base.specs.declared.leases.PeerLease.{PeerLease}
use Rattle.pcp_base.specs.Owners.{is_port, peer_owner}
use Rattle.pcp_base.specs.Tables.{names}
use Rattle.pcp_base.proofs.Members.{IsIn, find-some}
use Rattle.pcp_base.proofs.Same.{same_endpoint-Decides, same_protocol-Decides}
use Rattle.ordered_index.specs.declared.numbered.Numbered.{Numbered}
use Rattle.ordered_index.proofs.Endings.{count-values}
use Rattle.ordered_index.proofs.Entries.{same_tests}
use Rattle.peer_table.specs.Kept.{PeerKey, Opening, opening_cmp, opening_of_lease, AreKeptPeers, IsOpeningBound}
use Rattle.peer_table.proofs.Fellows.{two_share}
use Rattle.peer_table.proofs.Finds.{none_counted}
use Rattle.peer_table.proofs.LastExpiries.{owning_within}
use Rattle.peer_table.proofs.PortUses.{count_same}

module _ (protocol : Protocol) (port : ℕ) (it : Numbered PeerLease PeerKey Opening) (h : AreKeptPeers it) where
  abbrev owns : PeerLease → Bool
  owns l = is_port protocol port (peer_owner l)

  -- the leases that own the port are those of the endpoint of one that does
  one_endpoint : (x y : PeerLease) → IsIn x (values it.leases) → IsIn y (values it.leases) → owns x ≡ true → owns y ≡ names y x.endpoint
  one_endpoint x y i j owned =
      let share = two_share (values it.leases) y x h.sound.fellows j i in
      let p = and_parts _ _ owned in
      let protocol_is : x.endpoint.protocol ≡ protocol = (same_protocol-Decides x.endpoint.protocol protocol).0 p.0 in
      let port_is : x.external ≡ port = eqb-true x.external port p.1 in
      same_tests (owns y) (names y x.endpoint)
      (λ t. let q = and_parts _ _ t in
      (same_endpoint-Decides y.endpoint x.endpoint).1 (share.endpoint ((same_protocol-Decides y.endpoint.protocol protocol).0 q.0 ∙ sym protocol_is) (eqb-true y.external port q.1 ∙ sym port_is)))
      (λ t. let one = (same_endpoint-Decides y.endpoint x.endpoint).0 t in
      and_from _ _ ((same_protocol-Decides y.endpoint.protocol protocol).1 (ap (λ (e : Endpoint). e.protocol) one ∙ protocol_is)) (eq-eqb y.external port (share.port one ∙ port_is)))

  few_where : (found : Option PeerLease) → find owns (values it.leases) ≡ found → count_by owns (values it.leases) ≤ MOST_PEERS
  few_where None is = let none = none_counted owns (values it.leases) is in omega (arith, none)
  few_where (Some x) is =
      let f = find-some owns (values it.leases) x is in
      let same = count_same owns (λ y. names y x.endpoint) (values it.leases) (λ y j. one_endpoint x y f.0 j f.1) in
      let few = h.sound.few_peers x.endpoint in
      omega (arith, same, few)

  -- no more numbers stand between the bounds of a port than an endpoint has leases
  pub few_openings : (lo hi : Opening) → IsOpeningBound protocol port 0 lo → IsOpeningBound protocol port 2 hi → length (entries_between opening_cmp (Included lo) (Excluded hi) it.ports.entries) ≤ MOST_PEERS
  few_openings lo hi low high =
      let within : Opening → Bool = λ k. range_contains opening_cmp (Included lo) (Excluded hi) k in
      let all = length-filter (λ (x : Opening × ℕ). within x.0) it.ports.entries in
      let ports = h.kept.ports (λ (x : Opening × ℕ). within x.0) in
      let owned = count_same (λ (x : ℕ × PeerLease). within (opening_of_lease x.1)) (λ (x : ℕ × PeerLease). owns x.1) it.leases.entries (λ x i. owning_within protocol port lo hi low high x.1) in
      let listed = count-values owns it.leases.entries in
      let few = few_where (find owns (values it.leases)) refl in
      omega (arith, all, ports, owned, listed, few)
