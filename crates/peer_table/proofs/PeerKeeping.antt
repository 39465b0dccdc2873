-- PEER leases and their maps after a call.
use Rattle.std.proofs.Common.{◌≡◌, ℕ, ◌&&◌, ◌==◌, Bool, true, false, List, not, Option, Some, None, IsSome, Result, Ok, Err, OnOk, OnErr, sym, ap, ◌∙◌, subst}
use Rattle.std.specs.Prelude.{is_some}
use Rattle.std.specs.List.{list_any}
use Rattle.std.specs.Ordering.{nat_cmp}
use Rattle.std.specs.BTreeMap.{get, values}
use Rattle.std.specs.Result.{IsErr}
use Rattle.std.proofs.lemmas.Bool.{and_parts, and_from, eqb-true}
use Rattle.std.proofs.lemmas.Bool.Decides.{Decides-eqb}
use Rattle.std.proofs.lemmas.Map.Lookups.{CmpEqualImpliesEq, exact_unsigned, exact_bytes}
use Rattle.pcp_base.specs.declared.addresses.Address.{Address}
use Rattle.pcp_base.specs.declared.leases.Protocol.{Protocol}
use Rattle.pcp_base.specs.declared.leases.Endpoint.{Endpoint}
use Rattle.pcp_base.specs.declared.leases.PeerLease.{PeerLease}
use Rattle.pcp_base.specs.Tables.{EachTwo, is_peer_of, same_endpoint, same_protocol}
use Rattle.pcp_base.proofs.Members.{find-none, none-any}
use Rattle.pcp_base.proofs.Same.{same_address-Decides, same_endpoint-Decides, same_protocol-Decides}
use Rattle.ordered_index.specs.declared.numbered.Numbered.{Numbered}
use Rattle.ordered_index.specs.Ended.{IsOneEnded}
use Rattle.ordered_index.specs.Orders.{place_of}
use Rattle.ordered_index.specs.Steps.{Appends, Replaces, Forgets, Stays}
use Rattle.ordered_index.proofs.Endings.{one-none, one-stands}
use Rattle.ordered_index.proofs.Entries.{any_at}
use Rattle.ordered_index.proofs.Keeping.{each_weaker, AreLaws, Tells, TellsPort, port-free, number-has, put-appended, put-replaced, taken-out, none-found, none-gone, put-either, same-values, same-kept}
use Rattle.ordered_index.proofs.OrderLaws.{both_equal, place_of-one, protocol_one, address_same}
use Rattle.peer_table.specs.PeerLists.{is_ended_peer, AreFellows, AreSoundPeers, opens, with_peer, PutsPeer, RemovesPeer}
use Rattle.pcp_base.specs.Protocols.{protocol_number}
use Rattle.peer_table.specs.Kept.{PeerKey, Opening, key_at, opening_at, place_in, key_cmp, key_total, opening_cmp, opening_total, key_of_lease, opening_of_lease, peer_keying, AreKeptPeers}
use Rattle.peer_table.proofs.Sounds.{AreSoundPeers-filter}

key_same : (x y : PeerKey) → x.0 ≡ y.0 → x.1 ≡ y.1 → x.2 ≡ y.2 → x.3 ≡ y.3 → x.4 ≡ y.4 → x.5 ≡ y.5 → x ≡ y
key_same x y a b c d e f =
    ap (λ (z : List ℕ). (z, x.1, x.2, x.3, x.4, x.5)) a ∙ ap (λ (z : ℕ). (y.0, z, x.2, x.3, x.4, x.5)) b ∙ ap (λ (z : ℕ). (y.0, y.1, z, x.3, x.4, x.5)) c
    ∙ ap (λ (z : ℕ). (y.0, y.1, y.2, z, x.4, x.5)) d ∙ ap (λ (z : List ℕ). (y.0, y.1, y.2, y.3, z, x.5)) e ∙ ap (λ (z : ℕ). (y.0, y.1, y.2, y.3, y.4, z)) f

pub key_exact : CmpEqualImpliesEq key_cmp
key_exact x y h =
    let p5 = both_equal _ _ h in let p4 = both_equal _ _ p5.0 in let p3 = both_equal _ _ p4.0 in let p2 = both_equal _ _ p3.0 in let p1 = both_equal _ _ p2.0 in
    key_same x y (exact_bytes x.0 y.0 p1.0) (exact_unsigned x.1 y.1 p1.1) (exact_unsigned x.2 y.2 p2.1) (exact_unsigned x.3 y.3 p3.1) (exact_bytes x.4 y.4 p4.1) (exact_unsigned x.5 y.5 p5.1)

opening_same : (x y : Opening) → x.0 ≡ y.0 → x.1 ≡ y.1 → x.2 ≡ y.2 → x.3 ≡ y.3 → x.4 ≡ y.4 → x ≡ y
opening_same x y a b c d e =
    ap (λ (z : ℕ). (z, x.1, x.2, x.3, x.4)) a ∙ ap (λ (z : ℕ). (y.0, z, x.2, x.3, x.4)) b ∙ ap (λ (z : ℕ). (y.0, y.1, z, x.3, x.4)) c ∙ ap (λ (z : List ℕ). (y.0, y.1, y.2, z, x.4)) d
    ∙ ap (λ (z : ℕ). (y.0, y.1, y.2, y.3, z)) e

pub opening_exact : CmpEqualImpliesEq opening_cmp
opening_exact x y h =
    let p4 = both_equal _ _ h in let p3 = both_equal _ _ p4.0 in let p2 = both_equal _ _ p3.0 in let p1 = both_equal _ _ p2.0 in
    opening_same x y (exact_unsigned x.0 y.0 p1.0) (exact_unsigned x.1 y.1 p1.1) (exact_unsigned x.2 y.2 p2.1) (exact_bytes x.3 y.3 p3.1) (exact_unsigned x.4 y.4 p4.1)

pub peer_laws : AreLaws peer_keying
peer_laws = record { key_total = key_total; key_exact = key_exact; port_total = opening_total; port_exact = opening_exact }

-- a lease has a key where it is that of its endpoint and remote
pub peer_tells : (e : Endpoint) (remote : Address) (port : ℕ) → Tells peer_keying (is_peer_of e remote port) (key_at e remote port)
peer_tells e remote port = record {
  to = λ l t. (let a = and_parts _ _ t in let b = and_parts _ _ a.0 in
      ap (λ (z : Endpoint). key_at z l.remote l.remote_port) ((same_endpoint-Decides l.endpoint e).0 b.0)
      ∙ ap (λ (z : Address). key_at e z l.remote_port) ((same_address-Decides l.remote remote).0 b.1) ∙ ap (key_at e remote) (eqb-true l.remote_port port a.1));
  from = λ l same. (let place : place_of l.endpoint ≡ place_of e = ap place_in same in
      and_from _ _ (and_from _ _ ((same_endpoint-Decides l.endpoint e).1 (place_of-one l.endpoint e place)) ((same_address-Decides l.remote remote).1 (address_same l.remote remote (ap (λ (k : PeerKey). k.4) same))))
      ((Decides-eqb l.remote_port port).1 (ap (λ (k : PeerKey). k.5) same)));
}

pub protocol_of_number : (p q : Protocol) → protocol_number p ≡ protocol_number q → p ≡ q
protocol_of_number p q h = protocol_one p q 0 0 (ap (λ (z : ℕ). (z, 0)) h)

-- a lease opens what it is found by
pub peer_opens : (protocol : Protocol) (port : ℕ) (remote : Address) (remote_port : ℕ) → TellsPort peer_keying (opens protocol port remote remote_port) (opening_at protocol port remote remote_port)
peer_opens protocol port remote remote_port = record {
  to = λ l t. (let a = and_parts _ _ t in let b = and_parts _ _ a.0 in let d = and_parts _ _ b.0 in
      ap (λ (z : Protocol). opening_at z l.external l.remote l.remote_port) ((same_protocol-Decides l.endpoint.protocol protocol).0 d.0)
      ∙ ap (λ (z : ℕ). opening_at protocol z l.remote l.remote_port) (eqb-true l.external port d.1)
      ∙ ap (λ (z : Address). opening_at protocol port z l.remote_port) ((same_address-Decides l.remote remote).0 b.1) ∙ ap (opening_at protocol port remote) (eqb-true l.remote_port remote_port a.1));
  from = λ l same.
      and_from _ _ (and_from _ _ (and_from _ _ ((same_protocol-Decides l.endpoint.protocol protocol).1 (protocol_of_number l.endpoint.protocol protocol (ap (λ (o : Opening). o.0) same)))
      ((Decides-eqb l.external port).1 (ap (λ (o : Opening). o.1) same)))
      ((same_address-Decides l.remote remote).1 (address_same l.remote remote (ap (λ (o : Opening). o.3) same)))) ((Decides-eqb l.remote_port remote_port).1 (ap (λ (o : Opening). o.4) same));
}

open_apart : (a b : PeerLease) → AreFellows a b → opening_of_lease a ≡ opening_of_lease b → ⊥
open_apart a b h same =
    let shared : (same_protocol a.endpoint.protocol b.endpoint.protocol && a.external == b.external) ≡ true =
    and_from _ _ ((same_protocol-Decides a.endpoint.protocol b.endpoint.protocol).1 (protocol_of_number a.endpoint.protocol b.endpoint.protocol (ap (λ (o : Opening). o.0) same)))
    ((Decides-eqb a.external b.external).1 (ap (λ (o : Opening). o.1) same)) in
    let one : same_endpoint a.endpoint b.endpoint ≡ true = sym h.shares ∙ shared in
    let key : is_peer_of b.endpoint b.remote b.remote_port a ≡ true =
    and_from _ _ (and_from _ _ one ((same_address-Decides a.remote b.remote).1 (address_same a.remote b.remote (ap (λ (o : Opening). o.3) same)))) ((Decides-eqb a.remote_port b.remote_port).1 (ap (λ (o : Opening). o.4) same)) in
    let both : true ≡ false = sym key ∙ h.keys in cc

-- what leases open differs
pub openings_apart : (ls : List PeerLease) → AreSoundPeers ls → EachTwo (λ a b. opening_of_lease a ≡ opening_of_lease b → ⊥) ls
openings_apart ls h = each_weaker AreFellows (λ a b. opening_of_lease a ≡ opening_of_lease b → ⊥) open_apart ls h.fellows

module _ (it : Numbered PeerLease PeerKey Opening) (h : AreKeptPeers it) where
  module _ (l : PeerLease) (sound : AreSoundPeers (with_peer l (values it.leases))) where
    abbrev is_l : PeerLease → Bool
    is_l = is_peer_of l.endpoint l.remote l.remote_port

    tells_l : Tells peer_keying is_l (key_of_lease l)
    tells_l = peer_tells l.endpoint l.remote l.remote_port

    pub opening_is_free : get key_cmp it.keys (key_of_lease l) ≡ None → get opening_cmp it.ports (opening_of_lease l) ≡ None
    opening_is_free free = port-free peer_keying peer_laws it h.kept is_l (key_of_lease l) tells_l free l (openings_apart (with_peer l (values it.leases)) sound)

    module _ {X E : Type 0} (new : Numbered PeerLease PeerKey Opening) (r : Result X E) where
      pub peer_appended : (k : PeerKey) (p : Opening) → k ≡ key_of_lease l → p ≡ opening_of_lease l → get key_cmp it.keys (key_of_lease l) ≡ None →
          OnOk r ((n : ℕ) × Appends key_cmp opening_cmp it new l k p n) → OnErr r (Stays it new) → AreKeptPeers new × PutsPeer (values it.leases) l r (values new.leases)
      peer_appended k p k_is p_is free ok err =
          let put = put-appended peer_keying peer_laws it h.kept new is_l l tells_l (openings_apart (with_peer l (values it.leases)) sound) r k p k_is p_is free ok err in
          (record { sound = put-either AreSoundPeers (values it.leases) (with_peer l (values it.leases)) (values new.leases) r put.ok put.err h.sound sound; kept = put.kept }, record { ok = put.ok; err = put.err })

      pub peer_replaced : (n : ℕ) (x : PeerLease) (from to : Opening) → get key_cmp it.keys (key_of_lease l) ≡ Some n → get nat_cmp it.leases n ≡ Some x → from ≡ opening_of_lease x → to ≡ opening_of_lease l →
          OnOk r (Replaces opening_cmp it new n l from to) → OnErr r (Stays it new) → AreKeptPeers new × PutsPeer (values it.leases) l r (values new.leases)
      peer_replaced n x from to number at_n from_is to_is ok err =
          let put = put-replaced peer_keying peer_laws it h.kept new is_l l tells_l (openings_apart (with_peer l (values it.leases)) sound) r n x from to number at_n from_is to_is ok err in
          (record { sound = put-either AreSoundPeers (values it.leases) (with_peer l (values it.leases)) (values new.leases) r put.ok put.err h.sound sound; kept = put.kept }, record { ok = put.ok; err = put.err })

  -- where nothing changes
  module _ (new : Numbered PeerLease PeerKey Opening) (stays : Stays it new) where
    pub peers_stay : AreKeptPeers new
    peers_stay = record { sound = subst AreSoundPeers (sym (same-values peer_keying peer_laws it h.kept new stays)) h.sound; kept = same-kept peer_keying peer_laws it h.kept new stays }

    pub peer_not_put : {X E : Type 0} (l : PeerLease) (r : Result X E) → IsErr r → PutsPeer (values it.leases) l r (values new.leases)
    peer_not_put l (Ok v) failed = absurd (let no : false ≡ true = failed in cc)
    peer_not_put l (Err e) failed = record { ok = tt; err = same-values peer_keying peer_laws it h.kept new stays }

  -- a number that stands under a key has a lease
  pub key_has : (k : PeerKey) (n : ℕ) → get key_cmp it.keys k ≡ Some n → IsSome (get nat_cmp it.leases n)
  key_has = number-has peer_keying peer_laws it h.kept

  pub key_stands : (k : PeerKey) (n : ℕ) → get key_cmp it.keys k ≡ Some n → None ≡ get nat_cmp it.leases n → ⊥
  key_stands k n number none = let no : false ≡ true = subst IsSome (sym none) (key_has k n number) in cc

  module _ (e : Endpoint) (remote : Address) (port : ℕ) (k : PeerKey) (k_is : k ≡ key_at e remote port) where
    pub none_removed : get key_cmp it.keys k ≡ None → RemovesPeer (values it.leases) e remote port None (values it.leases)
    none_removed free =
        let here : get key_cmp it.keys (key_at e remote port) ≡ None = ap (get key_cmp it.keys) (sym k_is) ∙ free in
        record {
          answer = none-found peer_keying peer_laws it h.kept (is_peer_of e remote port) (key_at e remote port) (peer_tells e remote port) here;
          removed = none-gone peer_keying peer_laws it h.kept (is_peer_of e remote port) (key_at e remote port) (peer_tells e remote port) here;
        }

    pub peer_removed : (new : Numbered PeerLease PeerKey Opening) (p : Opening) (n : ℕ) (x : PeerLease) → p ≡ opening_of_lease x → get key_cmp it.keys k ≡ Some n → get nat_cmp it.leases n ≡ Some x →
        Forgets key_cmp opening_cmp it new n k p → AreKeptPeers new × RemovesPeer (values it.leases) e remote port (Some x) (values new.leases)
    peer_removed new p n x p_is number at_n forgets =
        let out = taken-out peer_keying peer_laws it h.kept new (is_peer_of e remote port) (key_at e remote port) k p n x (peer_tells e remote port) k_is p_is number at_n forgets in
        (record { sound = subst AreSoundPeers (sym out.gone) (AreSoundPeers-filter (λ y. not (is_peer_of e remote port y)) (values it.leases) h.sound); kept = out.kept }, record { answer = out.found; removed = out.gone })

  -- whether a lease has ended, by the first of the expiries
  pub one_told : (m : ℕ) (r : Option ℕ) → IsOneEnded (λ (l : PeerLease). l.expiry) m it.leases r → is_some r ≡ list_any (is_ended_peer m) (values it.leases)
  one_told m None is = sym (none-any (is_ended_peer m) (values it.leases) (find-none (is_ended_peer m) (values it.leases) (one-none (λ (l : PeerLease). l.expiry) it.leases h.kept.ordered m is)))
  one_told m (Some n) is =
      let y = one-stands (λ (l : PeerLease). l.expiry) it.leases h.kept.ordered m n is in
      sym (any_at (is_ended_peer m) it.leases.entries n y.0 y.1 (ap not y.2))
