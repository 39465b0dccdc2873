-- What a new lease needs: ports and endpoints that no live lease has, or those of one owner.
use Rattle.std.proofs.Common.{◌≡◌, ◌∙◌, ℕ, zero, suc, ◌+◌, ◌-◌, ◌<◌, Bool, true, false, List, Option, Some, None, find, map, refl, ap, sym, subst, arith, inl, inr}
use Rattle.std.specs.Prelude.{◌⊎◌, flat_map}
use Rattle.std.specs.List.{range_with_len}
use Rattle.std.specs.Option.{option_map, option_or}
use Rattle.std.proofs.lemmas.Bool.{and_from, eq-eqb}
use Rattle.pcp_base.specs.declared.leases.Protocol.{Protocol}
use Rattle.pcp_base.specs.declared.leases.Endpoint.{Endpoint}
use Rattle.pcp_base.specs.declared.leases.MapLease.{MapLease}
use Rattle.pcp_base.specs.declared.leases.PeerLease.{PeerLease}
use Rattle.pcp_base.specs.declared.leases.Owner.{Owner}
use Rattle.pcp_base.specs.Tables.{Table, live, covers, names, first_endpoint}
use Rattle.pcp_base.specs.Owners.{owners, map_owner, map_owners, peer_owner, is_owned, OneOwner, OnePort}
use Rattle.pcp_base.specs.Ends.{rests_for}
use Rattle.pcp_base.specs.States.{State}
use Rattle.pcp_base.specs.Fits.{RestForNoOther}
use Rattle.pcp_base.specs.Rooms.{Agree}
use Rattle.pcp_base.proofs.Members.{All-IsIn, All-from_IsIn, Contains-from_IsIn, IsIn, IsIn-from_Contains, IsIn-append, IsIn-flat_map, IsIn-map, IsIn-left, IsIn-right, flat_map-IsIn, map-IsIn, find-none, find-some}
use Rattle.pcp_base.proofs.Same.{same_address-Decides, same_protocol-Decides, same_endpoint-Decides}
use Rattle.pcp_base.proofs.TableLemmas.{IsCovered-from_covers, owner-covered}
use Rattle.pcp_base.proofs.EndLemmas.{some-owned}
use Rattle.pcp_base.proofs.RestLaws.{rests_for-unowned}
use Rattle.lease_store.specs.Lookups.{covering, named_port, with_port}
use Rattle.lease_core.specs.Answers.{port_within}
use Rattle.lease_core.specs.DecidePeer.{given_port}
use Rattle.lease_core.proofs.Inside.{IsUnusedInside}

pub endpoint-same : (a b : Endpoint) → a.address ≡ b.address → a.protocol ≡ b.protocol → a.port ≡ b.port → a ≡ b
endpoint-same a b address protocol port = (same_endpoint-Decides a b).0
    (and_from _ _ (and_from _ _ ((same_address-Decides a.address b.address).1 address)
    ((same_protocol-Decides a.protocol b.protocol).1 protocol)) (eq-eqb a.port b.port port))

-- a covered endpoint, by its place
pub endpoint-at : (l : MapLease) (e f : Endpoint) → first_endpoint l ≡ e → covers l f ≡ true →
    (i : ℕ) × (i < l.count) × (f ≡ with_port e (e.port + i))
endpoint-at l e f first h =
    let c = IsCovered-from_covers l f h in
    let address : l.address ≡ e.address = ap (λ (x : Endpoint). x.address) first in
    let protocol : l.protocol ≡ e.protocol = ap (λ (x : Endpoint). x.protocol) first in
    let port : l.internal ≡ e.port = ap (λ (x : Endpoint). x.port) first in
    let from = c.from in let below = c.below in (
      f.port - e.port,
      omega arith,
      endpoint-same f (with_port e (e.port + (f.port - e.port))) (sym c.address ∙ address) (sym c.protocol ∙ protocol) (omega arith),
    )

-- an endpoint that no live lease covers or names has no owned port
pub no_owner : (t : Table) (m : ℕ) (e : Endpoint) (o : Owner) → IsUnusedInside t m e → IsIn o (owners (live t m)) →
    o.endpoint ≡ e → ⊥
no_owner t m e o unused h same =
    elim (IsIn-append (flat_map map_owners (live t m).maps) (map peer_owner (live t m).peers) o h) [
      | inl a ↦ (let k = IsIn-flat_map map_owners (live t m).maps o a in
          let covered : covers k.0 e ≡ true = subst (λ (x : Endpoint). covers k.0 x ≡ true) same (owner-covered k.0 o k.2) in
          let uncovered = unused.uncovered k.0 k.1 in absurd cc)
      | inr b ↦ (let k = IsIn-map peer_owner (live t m).peers o b in
          let named : names k.0 e ≡ true = (same_endpoint-Decides k.0.endpoint e).1 (ap (λ (x : Owner). x.endpoint) k.2 ∙ same) in
          let unnamed = unused.unnamed k.0 k.1 in absurd cc)
    ]

not_some : {X : Type 0} (p : X → Bool) (xs : List X) (x : X) → find p xs ≡ None → IsIn x xs → p x ≡ false
not_some p xs x none h = All-IsIn (λ y. p y ≡ false) xs x (find-none p xs none) h

pub none_mapped : {X Y : Type 0} (f : X → Y) (o : Option X) → option_map f o ≡ None → o ≡ None
none_mapped f None h = refl
none_mapped f (Some x) h = absurd cc

pub unused-from_none : (t : Table) (m : ℕ) (e : Endpoint) → covering t m e ≡ None → named_port t m e ≡ None → IsUnusedInside t m e
unused-from_none t m e uncovered unnamed = record {
  uncovered = λ l h. not_some (λ x. covers x e) (live t m).maps l uncovered h;
  unnamed = λ l h. not_some (λ x. names x e) (live t m).peers l
      (none_mapped (λ (x : PeerLease). x.external) (find (λ x. names x e) (live t m).peers) unnamed) h;
}

-- the owner of one port
abbrev pub owner_at : Endpoint → ℕ → Owner
owner_at e port = record { protocol = e.protocol; external = port; endpoint = e }

pub some_mapped : {X Y : Type 0} (f : X → Y) (o : Option X) (y : Y) → option_map f o ≡ Some y → (x : X) × (o ≡ Some x) × (f x ≡ y)
some_mapped f None y h = absurd cc
some_mapped f (Some x) y h = (x, refl, cc)

-- a live PEER lease that names the endpoint
pub naming : (t : Table) (m : ℕ) (e : Endpoint) (port : ℕ) → named_port t m e ≡ Some port →
    (l : PeerLease) × IsIn l (live t m).peers × (l.endpoint ≡ e) × (l.external ≡ port)
naming t m e port h =
    let r = some_mapped (λ (x : PeerLease). x.external) (find (λ x. names x e) (live t m).peers) port h in
    let found = find-some (λ x. names x e) (live t m).peers r.0 r.1 in
    (r.0, found.0, (same_endpoint-Decides r.0.endpoint e).0 found.1, r.2)

pub named-owner : (t : Table) (m : ℕ) (e : Endpoint) (port : ℕ) → named_port t m e ≡ Some port →
    IsIn (owner_at e port) (owners (live t m))
named-owner t m e port h =
    let r = naming t m e port h in
    let same : peer_owner r.0 ≡ owner_at e port = ap (λ (x : Endpoint). owner_at x r.0.external) r.2 ∙ ap (owner_at e) r.3 in
    IsIn-right (flat_map map_owners (live t m).maps) (map peer_owner (live t m).peers) (owner_at e port)
    (subst (λ (o : Owner). IsIn o (map peer_owner (live t m).peers)) same (map-IsIn peer_owner (live t m).peers r.0 r.1))

range-has : (a n i : ℕ) → i < n → IsIn (a + i) (range_with_len a n)
range-has a zero i h = absurd (omega arith)
range-has a (suc n) zero h = let e : a ≡ a + 0 = omega arith in inl e
range-has a (suc n) (suc i) h =
    let e : (a + 1) + i ≡ a + suc i = omega arith in
    inr (subst (λ k. IsIn k (range_with_len (a + 1) n)) e (range-has (a + 1) n i (omega arith)))

pub covered-owner : (t : Table) (m : ℕ) (e : Endpoint) (l : MapLease) → covering t m e ≡ Some l →
    IsIn (owner_at e (port_within e l)) (owners (live t m))
covered-owner t m e l h =
    let found = find-some (λ x. covers x e) (live t m).maps l h in
    let c = IsCovered-from_covers l e found.1 in
    let from = c.from in let below = c.below in
    let i = e.port - l.internal in
    let at : IsIn (map_owner l (0 + i)) (map_owners l) =
    map-IsIn (map_owner l) (range_with_len 0 l.count) (0 + i) (range-has 0 l.count i (omega arith)) in
    let zero_less : 0 + i ≡ i = omega arith in
    let endpoint : (map_owner l i).endpoint ≡ e =
    endpoint-same (map_owner l i).endpoint e c.address c.protocol (omega arith) in
    let same : map_owner l i ≡ owner_at e (port_within e l) =
    ap (λ (p : Protocol). record { protocol = p; external = port_within e l; endpoint = (map_owner l i).endpoint }) c.protocol
    ∙ ap (λ (x : Endpoint). record { protocol = e.protocol; external = port_within e l; endpoint = x }) endpoint in
    IsIn-left (flat_map map_owners (live t m).maps) (map peer_owner (live t m).peers) (owner_at e (port_within e l))
    (subst (λ (o : Owner). IsIn o (flat_map map_owners (live t m).maps)) (ap (map_owner l) zero_less ∙ same)
    (flat_map-IsIn map_owners (live t m).maps l (map_owner l (0 + i)) found.0 at))

or_parts_of : {X : Type 0} (a b : Option X) (x : X) → option_or a b ≡ Some x → (a ≡ Some x) ⊎ (b ≡ Some x)
or_parts_of None b x h = inr h
or_parts_of (Some y) b x h = inl h

-- the port that a live lease gives the endpoint is owned by it
pub given-owner : (t : Table) (m : ℕ) (e : Endpoint) (port : ℕ) → given_port t m e ≡ Some port →
    IsIn (owner_at e port) (owners (live t m))
given-owner t m e port h =
    elim (or_parts_of (option_map (port_within e) (covering t m e)) (named_port t m e) port h) [
      | inl a ↦ (let r = some_mapped (port_within e) (covering t m e) port a in
          subst (λ k. IsIn (owner_at e k) (owners (live t m))) r.2 (covered-owner t m e r.0 r.1))
      | inr b ↦ named-owner t m e port b
    ]

-- ---- a new lease with the one port of an owner

pub agree-owned : (os qs : List Owner) (o : Owner) → OneOwner os → OnePort os → IsIn o os →
    ((q : Owner) → IsIn q qs → q ≡ o) → Agree os qs
agree-owned os qs o one_owner one_port h only = record {
  owner = λ p q a b protocol external. let same = only q (IsIn-from_Contains qs q b) in
      one_owner p o a (Contains-from_IsIn os o h) (protocol ∙ ap (λ (x : Owner). x.protocol) same)
      (external ∙ ap (λ (x : Owner). x.external) same) ∙ ap (λ (x : Owner). x.endpoint) (sym same);
  port = λ p q a b endpoint. let same = only q (IsIn-from_Contains qs q b) in
      one_port p o a (Contains-from_IsIn os o h) (endpoint ∙ ap (λ (x : Owner). x.endpoint) same)
      ∙ ap (λ (x : Owner). x.external) (sym same);
}

rested_owner : (s : State) (m : ℕ) (e f : Endpoint) (port : ℕ) → IsIn (owner_at e port) (owners (live s.table m)) →
    f.protocol ≡ e.protocol → rests_for s m port f ≡ true → f ≡ e
rested_owner s m e f port h protocol rests =
    let unowned : is_owned f.protocol port (owners (live s.table m)) ≡ false = rests_for-unowned s m port f rests in
    let owned : is_owned e.protocol port (owners (live s.table m)) ≡ true = some-owned (owners (live s.table m)) (owner_at e port) h in
    let same : is_owned f.protocol port (owners (live s.table m)) ≡ is_owned e.protocol port (owners (live s.table m)) =
    ap (λ p. is_owned p port (owners (live s.table m))) protocol in
    absurd cc

pub rested-owned : (s : State) (m : ℕ) (e : Endpoint) (port : ℕ) (qs : List Owner) →
    IsIn (owner_at e port) (owners (live s.table m)) → ((q : Owner) → IsIn q qs → q ≡ owner_at e port) →
    RestForNoOther s m qs
rested-owned s m e port qs h only =
    All-from_IsIn (λ o. (f : Endpoint) → f.protocol ≡ o.protocol → rests_for s m o.external f ≡ true → f ≡ o.endpoint) qs
    (λ q there. subst (λ (o : Owner). (f : Endpoint) → f.protocol ≡ o.protocol → rests_for s m o.external f ≡ true → f ≡ o.endpoint)
    (sym (only q there)) (λ f protocol rests. rested_owner s m e f port h protocol rests))
