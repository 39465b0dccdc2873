-- What is found by the indexes.
use Rattle.std.proofs.Common.{◌≡◌, ℕ, Bool, true, false, List, Option, Some, None, IsSome, refl, sym, ap, ◌∙◌, subst, arith}
use Rattle.std.specs.Ordering.{nat_cmp, is_gt}
use Rattle.std.specs.BTreeMap.{get, values}
use Rattle.pcp_base.specs.declared.leases.Protocol.{Protocol}
use Rattle.pcp_base.specs.declared.leases.Endpoint.{Endpoint}
use Rattle.pcp_base.specs.declared.leases.MapLease.{MapLease}
use Rattle.pcp_base.specs.Tables.{covers, first_endpoint}
use Rattle.pcp_base.proofs.TableLemmas.{IsCovered-from_covers, covers-from_IsCovered, covers-first}
use Rattle.pcp_base.specs.Owners.{owns}
use Rattle.mapping_table.specs.MapLists.{map_covering, map_owning}
use Rattle.ordered_index.specs.Orders.{Place, port_at, place_of, port_cmp, place_cmp, IsLast}
use Rattle.mapping_table.specs.Kept.{place_of_lease, port_of_lease, map_keying, AreKeptMaps, AreCountedMaps}
use Rattle.ordered_index.proofs.Entries.{find_is, find_none}
use Rattle.ordered_index.proofs.OrderLaws.{flip, port_total, place_total, place_of-one, endpoint_same, protocol_one, ports_between, ports_up_to, places_between, places_up_to}
use Rattle.ordered_index.specs.declared.numbered.Numbered.{Numbered}
use Rattle.ordered_index.proofs.EntryLaws.{none_some, some_one}
use Rattle.ordered_index.proofs.Keeping.{key-to, key-from, port-to, port-from}
use Rattle.mapping_table.proofs.MapKeeping.{map_laws}
use Rattle.mapping_table.proofs.Sets.{is_single}
use Rattle.mapping_table.proofs.Separates.{IsOwned-from_owns, owns-from_IsOwned, one_covers, one_owns, lease_is}

some_is : {X : Type 0} (o : Option X) (x : X) → o ≡ Some x → IsSome o
some_is o x h = subst IsSome (sym h) refl

clash : (b : Bool) → b ≡ true → b ≡ false → ⊥
clash b h k = let no : true ≡ false = sym h ∙ k in cc

module _ (it : Numbered MapLease Place (ℕ × ℕ)) (h : AreKeptMaps it) where
  pub covering_is : (e : Endpoint) (n : ℕ) (l : MapLease) → get nat_cmp it.leases n ≡ Some l → covers l e ≡ true → Some l ≡ map_covering e (values it.leases)
  covering_is e n l a c = sym (find_is (λ x. covers x e) it.leases h.kept.ordered n l a c (λ k x b d. one_covers it.leases h.sound e n k l x a b c d))

  -- the place of a lease that covers an endpoint isn't past the endpoint's
  covering_place : (e : Endpoint) (l : MapLease) → covers l e ≡ true → is_gt (place_cmp (place_of_lease l) (place_of e)) ≡ false
  covering_place e l c =
      let x = IsCovered-from_covers l e c in
      places_up_to (place_of_lease l) (place_of e) (ap (λ a. a.0) x.address) (ap (λ p. (port_at p 0).0) x.protocol) x.from

  pub none_below : (e : Endpoint) → IsLast place_cmp it.keys (place_of e) None → None ≡ map_covering e (values it.leases)
  none_below e last = sym (find_none (λ x. covers x e) it.leases h.kept.ordered (λ n x a c.
      none_some (get place_cmp it.keys (place_of_lease x)) n (last (place_of_lease x) (covering_place e x c)) (key-to map_keying map_laws it h.kept n x a)))

  pub last_fails : (e : Endpoint) (k : ℕ) (l : MapLease) → IsLast place_cmp it.keys (place_of e) (Some k) → get nat_cmp it.leases k ≡ Some l → covers l e ≡ false → None ≡ map_covering e (values it.leases)
  last_fails e k l last b fails = sym (find_none (λ x. covers x e) it.leases h.kept.ordered (λ n x a c.
      let cx = IsCovered-from_covers x e c in
      let from = key-from map_keying map_laws it h.kept last.0 k last.1.found in
      let one : from.0 ≡ l = some_one (get nat_cmp it.leases k) from.0 l from.1 b in
      let place : place_of_lease l ≡ last.0 = ap place_of_lease (sym one) ∙ from.2 in
      let below : is_gt (place_cmp (place_of_lease x) last.0) ≡ false = flip place_total last.0 (place_of_lease x)
      (last.1.greatest (place_of_lease x) (covering_place e x c) (some_is (get place_cmp it.keys (place_of_lease x)) n (key-to map_keying map_laws it h.kept n x a))) in
      let below_l : is_gt (place_cmp (place_of_lease x) (place_of_lease l)) ≡ false = subst (λ (p : Place). is_gt (place_cmp (place_of_lease x) p) ≡ false) (sym place) below in
      let l_below : is_gt (place_cmp (place_of_lease l) (place_of e)) ≡ false = subst (λ (p : Place). is_gt (place_cmp p (place_of e)) ≡ false) (sym place) last.1.up_to in
      let between = places_between (place_of_lease x) (place_of_lease l) (place_of e) (ap (λ a'. a'.0) cx.address) (ap (λ p. (port_at p 0).0) cx.protocol) below_l l_below in
      let at_l : place_of (record { address = e.address; protocol = e.protocol; port = l.internal }) ≡ place_of (first_endpoint l) =
      ap (λ (z : List ℕ). (z, port_at e.protocol l.internal)) (sym between.0) ∙ ap (λ (z : ℕ). (l.address.0, (z, l.internal))) (sym between.1) in
      let same = place_of-one (record { address = e.address; protocol = e.protocol; port = l.internal }) (first_endpoint l) at_l in
      let x_covers : covers x (record { address = e.address; protocol = e.protocol; port = l.internal }) ≡ true = covers-from_IsCovered x (record { address = e.address; protocol = e.protocol; port = l.internal })
      (record { address = cx.address; protocol = cx.protocol; from = between.2; below = (let u = between.3 in omega (arith, u, cx.below)) }) in
      let x_first : covers x (first_endpoint l) ≡ true = subst (λ (z : Endpoint). covers x z ≡ true) same x_covers in
      let l_first : covers l (first_endpoint l) ≡ true = covers-first l (lease_is it.leases h.sound k l b).ports.some in
      let number : n ≡ k = one_covers it.leases h.sound (first_endpoint l) n k x l a b x_first l_first in
      let is : x ≡ l = some_one (get nat_cmp it.leases k) x l (ap (get nat_cmp it.leases) (sym number) ∙ a) b in
      clash (covers l e) (ap (λ (z : MapLease). covers z e) (sym is) ∙ c) fails))

  pub owning_is : (protocol : Protocol) (port n : ℕ) (l : MapLease) → get nat_cmp it.leases n ≡ Some l → owns protocol port l ≡ true → Some l ≡ map_owning protocol port (values it.leases)
  owning_is protocol port n l a c = sym (find_is (owns protocol port) it.leases h.kept.ordered n l a c (λ k x b d. one_owns it.leases h.sound protocol port n k l x a b c d))

  owning_port : (protocol : Protocol) (port : ℕ) (l : MapLease) → owns protocol port l ≡ true → is_gt (port_cmp (port_of_lease l) (port_at protocol port)) ≡ false
  owning_port protocol port l c =
      let x = IsOwned-from_owns l protocol port c in
      ports_up_to (port_of_lease l) (port_at protocol port) (ap (λ p. (port_at p 0).0) x.protocol) x.from

  pub no_port_below : (protocol : Protocol) (port : ℕ) → IsLast port_cmp it.ports (port_at protocol port) None → None ≡ map_owning protocol port (values it.leases)
  no_port_below protocol port last = sym (find_none (owns protocol port) it.leases h.kept.ordered (λ n x a c.
      none_some (get port_cmp it.ports (port_of_lease x)) n (last (port_of_lease x) (owning_port protocol port x c)) (port-to map_keying map_laws it h.kept n x a)))

  pub last_port_fails : (protocol : Protocol) (port k : ℕ) (l : MapLease) → IsLast port_cmp it.ports (port_at protocol port) (Some k) → get nat_cmp it.leases k ≡ Some l → owns protocol port l ≡ false → None ≡ map_owning protocol port (values it.leases)
  last_port_fails protocol port k l last b fails = sym (find_none (owns protocol port) it.leases h.kept.ordered (λ n x a c.
      let cx = IsOwned-from_owns x protocol port c in
      let from = port-from map_keying map_laws it h.kept last.0 k last.1.found in
      let one : from.0 ≡ l = some_one (get nat_cmp it.leases k) from.0 l from.1 b in
      let place : port_of_lease l ≡ last.0 = ap port_of_lease (sym one) ∙ from.2 in
      let below : is_gt (port_cmp (port_of_lease x) last.0) ≡ false = flip port_total last.0 (port_of_lease x)
      (last.1.greatest (port_of_lease x) (owning_port protocol port x c) (some_is (get port_cmp it.ports (port_of_lease x)) n (port-to map_keying map_laws it h.kept n x a))) in
      let below_l : is_gt (port_cmp (port_of_lease x) (port_of_lease l)) ≡ false = subst (λ (p : ℕ × ℕ). is_gt (port_cmp (port_of_lease x) p) ≡ false) (sym place) below in
      let l_below : is_gt (port_cmp (port_of_lease l) (port_at protocol port)) ≡ false = subst (λ (p : ℕ × ℕ). is_gt (port_cmp p (port_at protocol port)) ≡ false) (sym place) last.1.up_to in
      let between = ports_between (port_of_lease x) (port_of_lease l) (port_at protocol port) (ap (λ p. (port_at p 0).0) cx.protocol) below_l l_below in
      let same : l.protocol ≡ protocol = protocol_one l.protocol protocol 0 0 (ap (λ (z : ℕ). (z, 0)) between.0) in
      let some = (lease_is it.leases h.sound k l b).ports.some in
      let x_owns : owns protocol l.external x ≡ true = owns-from_IsOwned x protocol l.external cx.protocol between.1 (let u = between.2 in omega (arith, u, cx.below)) in
      let l_owns : owns protocol l.external l ≡ true = owns-from_IsOwned l protocol l.external same (omega arith) (omega (arith, some)) in
      let number : n ≡ k = one_owns it.leases h.sound protocol l.external n k x l a b x_owns l_owns in
      let is : x ≡ l = some_one (get nat_cmp it.leases k) x l (ap (get nat_cmp it.leases) (sym number) ∙ a) b in
      clash (owns protocol port l) (ap (owns protocol port) (sym is) ∙ c) fails))

  -- the number of a last key has a lease
  pub last_has : (p : Place) (k : ℕ) → IsLast place_cmp it.keys p (Some k) → None ≡ get nat_cmp it.leases k → ⊥
  last_has p k last none = let from = key-from map_keying map_laws it h.kept last.0 k last.1.found in none_some (get nat_cmp it.leases k) from.0 (sym none) from.1

  pub last_port_has : (p : ℕ × ℕ) (k : ℕ) → IsLast port_cmp it.ports p (Some k) → None ≡ get nat_cmp it.leases k → ⊥
  last_port_has p k last none = let from = port-from map_keying map_laws it h.kept last.0 k last.1.found in none_some (get nat_cmp it.leases k) from.0 (sym none) from.1

  pub number_stands : (p : Place) (k : ℕ) → get place_cmp it.keys p ≡ Some k → None ≡ get nat_cmp it.leases k → ⊥
  number_stands p k found none = let from = key-from map_keying map_laws it h.kept p k found in none_some (get nat_cmp it.leases k) from.0 (sym none) from.1

  -- the number at an endpoint's place is that of the lease that covers it
  pub first_found : (e : Endpoint) (k : Place) (n : ℕ) → k ≡ place_of e → get place_cmp it.keys k ≡ Some n → get nat_cmp it.leases n ≡ map_covering e (values it.leases)
  first_found e k n k_is number =
      let from = key-from map_keying map_laws it h.kept k n number in
      let same : first_endpoint from.0 ≡ e = place_of-one (first_endpoint from.0) e (from.2 ∙ k_is) in
      let some = (lease_is it.leases h.sound n from.0 from.1).ports.some in
      from.1 ∙ covering_is e n from.0 from.1 (ap (covers from.0) (sym same) ∙ covers-first from.0 some)

  -- the number at a port is that of the lease that owns it
  pub first_owned : (protocol : Protocol) (port : ℕ) (p : ℕ × ℕ) (n : ℕ) → p ≡ port_at protocol port → get port_cmp it.ports p ≡ Some n → get nat_cmp it.leases n ≡ map_owning protocol port (values it.leases)
  first_owned protocol port p n p_is number =
      let from = port-from map_keying map_laws it h.kept p n number in
      let same : port_of_lease from.0 ≡ port_at protocol port = from.2 ∙ p_is in
      let is : from.0.protocol ≡ protocol = protocol_one from.0.protocol protocol from.0.external port same in
      let at : from.0.external ≡ port = ap (λ (z : ℕ × ℕ). z.1) same in
      let some = (lease_is it.leases h.sound n from.0 from.1).ports.some in
      from.1 ∙ owning_is protocol port n from.0 from.1 (owns-from_IsOwned from.0 protocol port is (omega (arith, at)) (omega (arith, at, some)))

-- where no lease is a set, a port that isn't a first one has none
module _ (it : Numbered MapLease Place (ℕ × ℕ)) (sets : ℕ) (h : AreCountedMaps it sets) (none : sets ≡ 0) where
  pub no_first : (e : Endpoint) (k : Place) → k ≡ place_of e → get place_cmp it.keys k ≡ None → None ≡ map_covering e (values it.leases)
  no_first e k k_is free = sym (find_none (λ x. covers x e) it.leases h.kept.kept.ordered (λ n x a c.
      let is = IsCovered-from_covers x e c in
      let single = is_single it sets h n x none a in
      let port : x.internal ≡ e.port = (let from = is.from in let below = is.below in omega (arith, single, from, below)) in
      let same : first_endpoint x ≡ e = endpoint_same (first_endpoint x) e is.address is.protocol port in
      none_some (get place_cmp it.keys k) n free (ap (get place_cmp it.keys) (k_is ∙ ap place_of (sym same)) ∙ key-to map_keying map_laws it h.kept.kept n x a)))

  pub no_first_port : (protocol : Protocol) (port : ℕ) (p : ℕ × ℕ) → p ≡ port_at protocol port → get port_cmp it.ports p ≡ None → None ≡ map_owning protocol port (values it.leases)
  no_first_port protocol port p p_is free = sym (find_none (owns protocol port) it.leases h.kept.kept.ordered (λ n x a c.
      let is = IsOwned-from_owns x protocol port c in
      let single = is_single it sets h n x none a in
      let at : x.external ≡ port = (let from = is.from in let below = is.below in omega (arith, single, from, below)) in
      let same : port_of_lease x ≡ port_at protocol port = ap (λ (z : Protocol). port_at z x.external) is.protocol ∙ ap (port_at protocol) at in
      none_some (get port_cmp it.ports p) n free (ap (get port_cmp it.ports) (p_is ∙ sym same) ∙ port-to map_keying map_laws it h.kept.kept n x a)))
