-- The PEER leases of a sound table.
use Rattle.std.proofs.Common.{◌&&◌, ◌==◌, List, [], ◌∷◌, map, flat_map, refl, inl, inr, ap, arith}
use Rattle.std.proofs.lemmas.Bool.{and_parts, and_from}
use Rattle.std.proofs.lemmas.Bool.Decides.{Decides-eqb}
use Rattle.pcp_base.specs.declared.leases.Endpoint.{Endpoint}
use Rattle.pcp_base.specs.declared.leases.PeerLease.{PeerLease}
use Rattle.pcp_base.specs.Owners.{map_owners, peer_owner, owners}
use Rattle.pcp_base.specs.Sound.{Sound}
use Rattle.pcp_base.specs.Tables.{Table, EachTwo, HaveOtherKeys, same_endpoint, same_protocol}
use Rattle.pcp_base.proofs.Members.{IsIn, All-IsIn, All-from_IsIn, Contains-from_IsIn, IsIn-right, map-IsIn}
use Rattle.pcp_base.proofs.Same.{same_endpoint-Decides, same_protocol-Decides}
use Rattle.peer_table.specs.PeerLists.{AreFellows, AreSoundPeers}
use Rattle.ordered_index.proofs.Entries.{same_tests}

module _ (t : Table) (h : Sound t) where
  owns : (l : PeerLease) → IsIn l t.peers → IsIn (peer_owner l) (owners t)
  owns l i = IsIn-right (flat_map map_owners t.maps) (map peer_owner t.peers) (peer_owner l) (map-IsIn peer_owner t.peers l i)

  fellows : (a b : PeerLease) → IsIn a t.peers → IsIn b t.peers → HaveOtherKeys a b → AreFellows a b
  fellows a b ia ib keys = record {
    keys = keys;
    shares = same_tests (same_protocol a.endpoint.protocol b.endpoint.protocol && a.external == b.external) (same_endpoint a.endpoint b.endpoint)
        (λ shared. (let parts = and_parts _ _ shared in
        (same_endpoint-Decides a.endpoint b.endpoint).1 (h.one_owner (peer_owner a) (peer_owner b) (Contains-from_IsIn (owners t) (peer_owner a) (owns a ia)) (Contains-from_IsIn (owners t) (peer_owner b) (owns b ib))
        ((same_protocol-Decides a.endpoint.protocol b.endpoint.protocol).0 parts.0) ((Decides-eqb a.external b.external).0 parts.1))))
        (λ one. (let same = (same_endpoint-Decides a.endpoint b.endpoint).0 one in
        and_from _ _ ((same_protocol-Decides a.endpoint.protocol b.endpoint.protocol).1 (ap (λ (e : Endpoint). e.protocol) same))
        ((Decides-eqb a.external b.external).1 (h.one_port (peer_owner a) (peer_owner b) (Contains-from_IsIn (owners t) (peer_owner a) (owns a ia)) (Contains-from_IsIn (owners t) (peer_owner b) (owns b ib)) same))));
  }

  each_fellow : (ls : List PeerLease) → ((l : PeerLease) → IsIn l ls → IsIn l t.peers) → EachTwo HaveOtherKeys ls → EachTwo AreFellows ls
  each_fellow [] among keys = tt
  each_fellow (l ∷ ls) among keys =
      (All-from_IsIn (AreFellows l) ls (λ x i. fellows l x (among l (inl refl)) (among x (inr i)) (All-IsIn (HaveOtherKeys l) ls x keys.0 i)), each_fellow ls (λ x i. among x (inr i)) keys.1)

pub sound_peers : (t : Table) → Sound t → AreSoundPeers t.peers
sound_peers t h = record {
  leases = h.peers;
  fellows = each_fellow t h t.peers (λ l i. i) h.different;
  few = (let all = h.few in omega (arith, all));
  few_peers = h.few_peers;
}
