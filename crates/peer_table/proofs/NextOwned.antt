-- The least owned port from one on, by the openings.
use Rattle.std.proofs.Common.{◌≡◌, ℕ, ◌≤◌, true, false, Option, Some, None, IsSome, IfSome, IfNone, refl, sym, ap, ◌∙◌, subst, arith}
use Rattle.std.specs.Prelude.{is_some}
use Rattle.std.specs.Ordering.{nat_cmp, ordering_then, is_gt}
use Rattle.std.specs.Cmp.{nat_cmp_total}
use Rattle.std.specs.Cmp.Lexicographic.{slice_cmp}
use Rattle.std.specs.declared.cmp.Ordering.{Ordering}
use Rattle.std.specs.declared.cmp.Ordering.TheVariants.{Less, Equal, Greater}
use Rattle.std.specs.BTreeMap.{get, values}
use Rattle.std.proofs.lemmas.Bool.{and_parts, and_from, eqb-true, eq-eqb}
use Rattle.std.proofs.lemmas.Cmp.{tied_itself}
use Rattle.std.proofs.lemmas.Map.Lookups.{exact_unsigned}
use Rattle.pcp_base.specs.declared.leases.Protocol.{Protocol}
use Rattle.pcp_base.specs.declared.leases.PeerLease.{PeerLease}
use Rattle.pcp_base.specs.Protocols.{protocol_number}
use Rattle.pcp_base.specs.Owners.{is_port, peer_owner}
use Rattle.pcp_base.proofs.Members.{IsIn, map-IsIn, any-some, some-any}
use Rattle.pcp_base.proofs.Same.{same_protocol-Decides}
use Rattle.ordered_index.specs.declared.numbered.Numbered.{Numbered}
use Rattle.ordered_index.specs.Orders.{port_at, port_cmp, IsFirst}
use Rattle.ordered_index.proofs.Entries.{entry_at, false_by, some_of, value-entry}
use Rattle.ordered_index.proofs.Keeping.{port-from, port-to}
use Rattle.ordered_index.proofs.Mirrorings.{at-entry}
use Rattle.ordered_index.proofs.OrderLaws.{not_gt_first, port_total, ports_between, ports_up_to}
use Rattle.peer_table.specs.PeerLists.{is_peer_owned, IsNextOwned}
use Rattle.peer_table.specs.Kept.{PeerKey, Opening, opening_cmp, opening_of_lease, peer_keying, AreKeptPeers, IsOpeningBound}
use Rattle.peer_table.proofs.PeerKeeping.{peer_laws, protocol_of_number}
use Rattle.peer_table.proofs.LastExpiries.{port_in}

before_leases : (o p q : Ordering) → is_gt o ≡ false → is_gt (ordering_then (ordering_then (ordering_then o (nat_cmp 0 1)) p) q) ≡ false
before_leases Less p q h = refl
before_leases Equal p q h = refl
before_leases Greater p q h = h

-- openings are in the order of their ports
ports_up : (a b : Opening) → is_gt (opening_cmp a b) ≡ false → is_gt (port_cmp (port_in a) (port_in b)) ≡ false
ports_up a b h = not_gt_first _ _ (not_gt_first _ _ (not_gt_first _ _ h))

module _ (protocol : Protocol) (port : ℕ) (start : Opening) (bound : IsOpeningBound protocol port 0 start) (it : Numbered PeerLease PeerKey Opening) (h : AreKeptPeers it) where
  -- a lease that owns a port
  record Owning (q : ℕ) : Type 0 where
    lease : PeerLease
    stands : IsIn lease (values it.leases)
    protocol_is : lease.endpoint.protocol ≡ protocol
    external_is : lease.external ≡ q

  owning : (q : ℕ) → is_peer_owned protocol q (values it.leases) ≡ true → Owning q
  owning q t =
      let r = any-some (λ l. is_port protocol q (peer_owner l)) (values it.leases) t in
      let p = and_parts _ _ r.2 in
      record { lease = r.0; stands = r.1; protocol_is = (same_protocol-Decides r.0.endpoint.protocol protocol).0 p.0; external_is = eqb-true r.0.external q p.1 }

  owned_by : (l : PeerLease) → IsIn l (values it.leases) → (q : ℕ) → l.endpoint.protocol ≡ protocol → l.external ≡ q → is_peer_owned protocol q (values it.leases) ≡ true
  owned_by l i q same is =
      some-any (λ x. is_port protocol q (peer_owner x)) (values it.leases) l i (and_from _ _ ((same_protocol-Decides l.endpoint.protocol protocol).1 same) (eq-eqb l.external q is))

  -- its port stands behind the bound
  ports_from : (q : ℕ) → port ≤ q → (r : Owning q) → is_gt (port_cmp (port_at protocol port) (port_in (opening_of_lease r.lease))) ≡ false
  ports_from q past r =
      let same = r.external_is in
      ports_up_to (port_at protocol port) (port_in (opening_of_lease r.lease)) (ap protocol_number (sym r.protocol_is)) (omega (arith, past, same))

  opening_from : (q : ℕ) → port ≤ q → (r : Owning q) → is_gt (opening_cmp start (opening_of_lease r.lease)) ≡ false
  opening_from q past r =
      let k = opening_of_lease r.lease in
      let behind = slice_cmp nat_cmp start.3 k.3 in let last = nat_cmp start.4 k.4 in
      ap (λ (n : ℕ). is_gt (ordering_then (ordering_then (ordering_then (port_cmp (port_in start) (port_in k)) (nat_cmp n 1)) behind) last)) bound.side_is
      ∙ before_leases (port_cmp (port_in start) (port_in k)) behind last (ap (λ (p : ℕ × ℕ). is_gt (port_cmp p (port_in k))) bound.port_is ∙ ports_from q past r)

  -- each lease has an opening
  has_opening : (q : ℕ) (r : Owning q) → IsSome (get opening_cmp it.ports (opening_of_lease r.lease))
  has_opening q r =
      let e = value-entry it.leases.entries r.lease r.stands in
      subst IsSome (sym (port-to peer_keying peer_laws it h.kept e.0 r.lease (entry_at it.leases h.kept.ordered e.0 r.lease e.1))) refl

  -- and each opening is that of a lease
  of_opening : (f : Opening) → IsSome (get opening_cmp it.ports f) → (l : PeerLease) × IsIn l (values it.leases) × (opening_of_lease l ≡ f)
  of_opening f some =
      let number = some_of (get opening_cmp it.ports f) some in
      let y = port-from peer_keying peer_laws it h.kept f number.0 number.1 in
      (y.0, map-IsIn (λ (z : ℕ × PeerLease). z.1) it.leases.entries (number.0, y.0) (at-entry nat_cmp_total exact_unsigned it.leases h.kept.ordered number.0 y.0 y.1), y.2)

  pub owned_nowhere : IsFirst opening_cmp it.ports start None → IsNextOwned protocol port (values it.leases) None
  owned_nowhere first = record {
    from = tt;
    owned = tt;
    least = tt;
    none = λ q past. false_by (is_peer_owned protocol q (values it.leases)) (λ t.
        let r = owning q t in
        let no : false ≡ true = sym (ap is_some (first (opening_of_lease r.lease) (opening_from q past r))) ∙ has_opening q r in
        cc);
  }

  module _ (f : Opening) (first : IsFirst opening_cmp it.ports start (Some f)) where
    from_start : is_gt (port_cmp (port_at protocol port) (port_in f)) ≡ false
    from_start = ap (λ (p : ℕ × ℕ). is_gt (port_cmp p (port_in f))) (sym bound.port_is) ∙ ports_up start f first.from

    -- the first opening's port lies between the port and one that is owned
    between : (q : ℕ) → port ≤ q → (r : Owning q) → (f.0 ≡ protocol_number protocol) × (f.1 ≤ q)
    between q past r =
        let k = opening_of_lease r.lease in
        let up = ports_up f k (first.least k (opening_from q past r) (has_opening q r)) in
        let number : protocol_number r.lease.endpoint.protocol ≡ protocol_number protocol = ap protocol_number r.protocol_is in
        let p = ports_between (port_at protocol port) (port_in f) (port_in k) (sym number) from_start up in
        let below = p.2 in let same = r.external_is in
        (p.0 ∙ number, omega (arith, below, same))

    pub owned_first : (r : Option ℕ) → IfSome r (λ next. (f.0 ≡ protocol_number protocol) × (next ≡ f.1)) → IfNone r (f.0 ≡ protocol_number protocol → ⊥) → IsNextOwned protocol port (values it.leases) r
    owned_first None some none = record {
      from = tt;
      owned = tt;
      least = tt;
      none = λ q past. false_by (is_peer_owned protocol q (values it.leases)) (λ t. none (between q past (owning q t)).0);
    }
    owned_first (Some next) some none =
        let y = of_opening f first.found in
        let stays : is_gt (port_cmp (port_in f) (port_in f)) ≡ false = ap is_gt (tied_itself port_total (port_in f)) in
        let p = ports_between (port_at protocol port) (port_in f) (port_in f) (sym some.0) from_start stays in
        let up = p.1 in let same = some.1 in
        record {
          from = omega (arith, up, same);
          owned = owned_by y.0 y.1 next (protocol_of_number y.0.endpoint.protocol protocol (ap (λ (o : Opening). o.0) y.2 ∙ some.0)) (ap (λ (o : Opening). o.1) y.2 ∙ sym some.1);
          least = λ q past t. (let below = (between q past (owning q t)).1 in omega (arith, below, same));
          none = tt;
        }
