-- What is found in cells that stand for a table is what the table tells.
use Rattle.std.proofs.Common.{◌≡◌, ℕ, ◌+◌, ◌-◌, ◌<◌, ◌≤◌, nat_le, nat_lt, max, min, Bool, true, false, List, [], ◌∷◌, map, flat_map, filter, find, Option, Some, None, IfSome, IfNone, refl, sym, ap, ◌∙◌, subst, inl, inr, arith}
use Rattle.std.specs.List.{AllByRecursion}
use Rattle.std.specs.Option.{option_map}
use Rattle.std.proofs.lemmas.Bool.{and_parts, and_from, eqb-true, eq-eqb, le-leb, lt-ltb, false_from_ne_true, cond-false}
use Rattle.pcp_base.specs.declared.leases.Protocol.{Protocol}
use Rattle.pcp_base.specs.declared.leases.Protocol.TheVariants.{Tcp, Udp}
use Rattle.pcp_base.specs.declared.leases.Endpoint.{Endpoint}
use Rattle.pcp_base.specs.declared.leases.MapLease.{MapLease}
use Rattle.pcp_base.specs.declared.leases.PeerLease.{PeerLease}
use Rattle.pcp_base.specs.declared.leases.Owner.{Owner}
use Rattle.pcp_base.specs.Tables.{Table, IsMapLease, live}
use Rattle.pcp_base.specs.Owners.{map_owner, map_owners, peer_owner, owners, is_port}
use Rattle.pcp_base.specs.Sound.{Sound}
use Rattle.pcp_base.specs.States.{State}
use Rattle.filter_rules.specs.Filters.{allows}
use Rattle.filter_rules.specs.Lookups.{is_with, owners_for, look}
use Rattle.pcp_base.proofs.Members.{IsIn, Contains-from_IsIn, All-IsIn, All-from_IsIn, IsIn-append, IsIn-left, IsIn-right, IsIn-filter, filter-IsIn, IsIn-map, map-IsIn, IsIn-flat_map, flat_map-IsIn, find-some, find-none}
use Rattle.pcp_base.proofs.Same.{same_protocol-Decides}
use Rattle.pcp_base.proofs.TableLemmas.{map_owners-IsIn}
use Rattle.lane_index.specs.declared.senders.Sender.{Sender}
use Rattle.lane_index.specs.declared.cells.Cell.{Cell}
use Rattle.lane_index.specs.declared.cells.Cell.TheVariants.{Mapping, Peering}
use Rattle.lane_index.specs.Ports.{slot_at}
use Rattle.lane_index.specs.Slots.{map_kept, peer_kept, takes}
use Rattle.lane_index.specs.Openings.{lets_in, behind, EachLaterWins, IsOpen, NoneOpens}
use Rattle.lane_index.specs.LeaseCells.{IsOf, AreCellsOf}
use Rattle.lane_index.proofs.PortLemmas.{owner-in, peer-owned, takes-owns}
use Rattle.lane_index.proofs.LeaseCellLemmas.{leases-later}

unlike : {b : Bool} → b ≡ true → b ≡ false → ⊥
unlike h k = let never : true ≡ false = sym h ∙ k in cc

all-none : {X : Type 0} (p : X → Bool) (xs : List X) → AllByRecursion (λ x. p x ≡ false) xs → find p xs ≡ None
all-none p [] h = refl
all-none p (x ∷ xs) h = cond-false (p x) (Some x) (find p xs) h.0 ∙ all-none p xs h.1

module _ (t : Table) (s : Sender) where
  abbrev letting : List Owner
  letting = owners_for t s.remote s.remote_port

  -- those that let the remote peer in are owners
  letting-owned : (o : Owner) → IsIn o letting → IsIn o (owners t)
  letting-owned o h = elim (IsIn-append (flat_map map_owners (filter (λ l. allows l.filters s.remote s.remote_port) t.maps)) (map peer_owner (filter (is_with s.remote s.remote_port) t.peers)) o h) [
    | inl a ↦ (let r = IsIn-flat_map map_owners (filter (λ l. allows l.filters s.remote s.remote_port) t.maps) o a in
        IsIn-left (flat_map map_owners t.maps) (map peer_owner t.peers) o (flat_map-IsIn map_owners t.maps r.0 o (IsIn-filter (λ (l : MapLease). allows l.filters s.remote s.remote_port) t.maps r.0 r.1).0 r.2))
    | inr b ↦ (let r = IsIn-map peer_owner (filter (is_with s.remote s.remote_port) t.peers) o b in
        subst (λ (q : Owner). IsIn q (owners t)) r.2 (peer-owned t r.0 (IsIn-filter (is_with s.remote s.remote_port) t.peers r.0 r.1).0))
  ]

  -- the owner that a cell stands for
  pub record IsOwner (e : Endpoint) : Type 0 where
    pub owner : Owner
    pub there : IsIn owner letting
    pub port : is_port s.protocol s.port owner ≡ true
    pub endpoint : owner.endpoint ≡ e

  open-owner : Sound t → s.port ≤ 65535 → (c : Cell) → IsOf t c → lets_in s c ≡ true → IsOwner (behind s.port c)
  open-owner sound small (Mapping k) of lets =
      let l : MapLease = of.0 in
      let p = and_parts (takes (slot_at s.protocol s.port) (Mapping k)) (allows k.filters s.remote s.remote_port) lets in
      let ports = (All-IsIn IsMapLease t.maps l sound.maps of.1).ports in
      let takes-it : takes (slot_at s.protocol s.port) (Mapping (map_kept l)) ≡ true = ap (λ (z : MapLease). takes (slot_at s.protocol s.port) (Mapping z)) of.2 ∙ p.0 in
      let owns = takes-owns s.protocol s.port l ports.external_end small takes-it in
      let low : l.external ≤ s.port = owns.1 in
      let high : s.port < l.external + l.count = owns.2 in
      let i : ℕ = s.port - l.external in
      let below : i < l.count = omega (arith, low, high) in
      let lets-l : allows l.filters s.remote s.remote_port ≡ true = ap (λ (z : MapLease). allows z.filters s.remote s.remote_port) of.2 ∙ p.1 in
      let at : l.external + i ≡ s.port = omega (arith, low) in
      let inside : l.internal + i ≡ min (l.internal + (s.port - l.external)) 65535 = omega (arith, ports.internal_end, below) in
      let end : (map_owner l i).endpoint ≡ behind s.port (Mapping (map_kept l)) = ap (λ (n : ℕ). record { address = l.address; protocol = l.protocol; port = n }) inside in
      record {
        owner = map_owner l i;
        there = IsIn-left (flat_map map_owners (filter (λ x. allows x.filters s.remote s.remote_port) t.maps)) (map peer_owner (filter (is_with s.remote s.remote_port) t.peers)) (map_owner l i)
            (flat_map-IsIn map_owners (filter (λ (x : MapLease). allows x.filters s.remote s.remote_port) t.maps) l (map_owner l i) (filter-IsIn (λ (x : MapLease). allows x.filters s.remote s.remote_port) t.maps l of.1 lets-l) (owner-in l i below));
        port = and_from _ _ ((same_protocol-Decides l.protocol s.protocol).1 owns.0) (eq-eqb (l.external + i) s.port at);
        endpoint = end ∙ ap (λ (z : MapLease). behind s.port (Mapping z)) of.2;
      }
  open-owner sound small (Peering k) of lets =
      let l : PeerLease = of.0 in
      let p = and_parts (is_port s.protocol s.port (peer_owner k)) (is_with s.remote s.remote_port k) lets in
      let port : is_port s.protocol s.port (peer_owner l) ≡ true = ap (λ (z : PeerLease). is_port s.protocol s.port (peer_owner z)) of.2 ∙ p.0 in
      let with-l : is_with s.remote s.remote_port l ≡ true = ap (is_with s.remote s.remote_port) of.2 ∙ p.1 in
      record {
        owner = peer_owner l;
        there = IsIn-right (flat_map map_owners (filter (λ x. allows x.filters s.remote s.remote_port) t.maps)) (map peer_owner (filter (is_with s.remote s.remote_port) t.peers)) (peer_owner l)
            (map-IsIn peer_owner (filter (is_with s.remote s.remote_port) t.peers) l (filter-IsIn (is_with s.remote s.remote_port) t.peers l of.1 with-l));
        port = port;
        endpoint = ap (λ (z : PeerLease). z.endpoint) of.2;
      }

  abbrev answer : Option Endpoint
  answer = option_map (λ (o : Owner). o.endpoint) (find (is_port s.protocol s.port) letting)

  -- where some owner of the port lets the remote peer in, the answer is its endpoint
  owner-answers : Sound t → (e : Endpoint) → IsOwner e → Some e ≡ answer
  owner-answers sound e w = step (find (is_port s.protocol s.port) letting) refl
    where
      step : (o : Option Owner) → find (is_port s.protocol s.port) letting ≡ o → Some e ≡ option_map (λ (x : Owner). x.endpoint) o
      step None is = absurd (unlike w.port (All-IsIn (λ x. is_port s.protocol s.port x ≡ false) letting w.owner (find-none (is_port s.protocol s.port) letting is) w.there))
      step (Some x) is =
          let f = find-some (is_port s.protocol s.port) letting x is in
          let p = and_parts _ _ f.1 in let q = and_parts _ _ w.port in
          let protocols : w.owner.protocol ≡ x.protocol = (same_protocol-Decides w.owner.protocol s.protocol).0 q.0 ∙ sym ((same_protocol-Decides x.protocol s.protocol).0 p.0) in
          let externals : w.owner.external ≡ x.external = eqb-true w.owner.external s.port q.1 ∙ sym (eqb-true x.external s.port p.1) in
          let ends : w.owner.endpoint ≡ x.endpoint = sound.one_owner w.owner x (Contains-from_IsIn (owners t) w.owner (letting-owned w.owner w.there)) (Contains-from_IsIn (owners t) x (letting-owned x f.0)) protocols externals in
          ap Some (sym w.endpoint ∙ ends)

  module _ (m : ℕ) (cells : List Cell) (h : AreCellsOf t m cells) (all-live : (l : MapLease) → IsIn l t.maps → nat_lt m l.expiry ≡ true) (peers-live : (l : PeerLease) → IsIn l t.peers → nat_lt m l.expiry ≡ true) (small : s.port ≤ 65535) where
    found : (e : Endpoint) → IsOpen m s cells e → Some e ≡ answer
    found e w = ap Some w.behind ∙ owner-answers h.sound (behind s.port w.cell) (open-owner h.sound small w.cell (h.shown w.cell w.there w.live) w.lets)

    takes-from : (l : MapLease) (i : ℕ) → i < l.count → l.external + i ≡ s.port → l.protocol ≡ s.protocol → takes (slot_at s.protocol s.port) (Mapping (map_kept l)) ≡ true
    takes-from l i below at protocols = subst (λ (p : Protocol). takes (slot_at p s.port) (Mapping (map_kept l)) ≡ true) protocols (subst (λ (n : ℕ). takes (slot_at l.protocol n) (Mapping (map_kept l)) ≡ true) at (own l.protocol refl))
      where
        own : (p : Protocol) → l.protocol ≡ p → takes (slot_at l.protocol (l.external + i)) (Mapping (map_kept l)) ≡ true
        own Tcp is = rw is (and_from (nat_le l.external (l.external + i)) (nat_lt (l.external + i) (l.external + l.count)) (le-leb l.external (l.external + i) (omega arith)) (lt-ltb (l.external + i) (l.external + l.count) (omega (arith, below))))
        own Udp is = rw is (and_from (nat_le (65536 + l.external) (65536 + (l.external + i))) (nat_lt (65536 + (l.external + i)) (65536 + l.external + l.count)) (le-leb (65536 + l.external) (65536 + (l.external + i)) (omega arith)) (lt-ltb (65536 + (l.external + i)) (65536 + l.external + l.count) (omega (arith, below))))

    -- where no cell is open, no owner of the port lets the remote peer in
    none-found : NoneOpens m s (λ c. true) cells → None ≡ answer
    none-found none = ap (option_map (λ (o : Owner). o.endpoint)) (sym (all-none (is_port s.protocol s.port) letting (All-from_IsIn (λ o. is_port s.protocol s.port o ≡ false) letting (λ o i.
        false_from_ne_true (is_port s.protocol s.port o) (λ yes. absurd (never-found o i yes))))))
      where
        no-map : (o : Owner) → is_port s.protocol s.port o ≡ true → (l : MapLease) → IsIn l (filter (λ x. allows x.filters s.remote s.remote_port) t.maps) → IsIn o (map_owners l) → ⊥
        no-map o passes l there owned =
            let f = IsIn-filter (λ (x : MapLease). allows x.filters s.remote s.remote_port) t.maps l there in
            let r = map_owners-IsIn l o owned in
            let p = and_parts _ _ (subst (λ (q : Owner). is_port s.protocol s.port q ≡ true) (sym r.2) passes) in
            let protocols : l.protocol ≡ s.protocol = (same_protocol-Decides l.protocol s.protocol).0 p.0 in
            let takes-it = takes-from l r.0 r.1 (eqb-true (l.external + r.0) s.port p.1) protocols in
            unlike (and_from (takes (slot_at s.protocol s.port) (Mapping (map_kept l))) (allows l.filters s.remote s.remote_port) takes-it f.1)
            (none (Mapping (map_kept l)) (h.maps l f.0 (all-live l f.0)) refl (all-live l f.0))

        never-found : (o : Owner) → IsIn o letting → is_port s.protocol s.port o ≡ true → ⊥
        never-found o i passes = elim (IsIn-append (flat_map map_owners (filter (λ l. allows l.filters s.remote s.remote_port) t.maps)) (map peer_owner (filter (is_with s.remote s.remote_port) t.peers)) o i) [
          | inl a ↦ (let r = IsIn-flat_map map_owners (filter (λ l. allows l.filters s.remote s.remote_port) t.maps) o a in no-map o passes r.0 r.1 r.2)
          | inr b ↦ (let r = IsIn-map peer_owner (filter (is_with s.remote s.remote_port) t.peers) o b in
              let f = IsIn-filter (is_with s.remote s.remote_port) t.peers r.0 r.1 in
              unlike (and_from (is_port s.protocol s.port (peer_owner r.0)) (is_with s.remote s.remote_port r.0) (subst (λ (q : Owner). is_port s.protocol s.port q ≡ true) (sym r.2) passes) f.1)
              (none (Peering (peer_kept r.0)) (h.peers r.0 f.0 (peers-live r.0 f.0)) refl (peers-live r.0 f.0)))
        ]

-- at the moment raised to that of the last record, what is found is what the state tells
pub look-found : (st : State) (s : Sender) (m : ℕ) (cells : List Cell) (result : Option Endpoint) → AreCellsOf st.table st.last cells → s.port ≤ 65535
    → IfSome result (λ e. IsOpen (max m st.last) s cells e) → IfNone result (EachLaterWins (max m st.last) cells → NoneOpens (max m st.last) s (λ c. true) cells)
    → result ≡ look st s.protocol s.port s.remote s.remote_port m
look-found st s m cells result h small some none =
    let n : ℕ = max m st.last in
    let k = leases-later st.table st.last n cells (omega arith) h in
    step result n k some none
  where
    step : (o : Option Endpoint) (n : ℕ) → AreCellsOf (live st.table n) n cells → IfSome o (λ e. IsOpen n s cells e) → IfNone o (EachLaterWins n cells → NoneOpens n s (λ c. true) cells)
        → o ≡ option_map (λ (x : Owner). x.endpoint) (find (is_port s.protocol s.port) (owners_for (live st.table n) s.remote s.remote_port))
    step (Some e) n k some' none' = found (live st.table n) s n cells k (λ l i. (IsIn-filter (λ (x : MapLease). nat_lt n x.expiry) st.table.maps l i).1) (λ l i. (IsIn-filter (λ (x : PeerLease). nat_lt n x.expiry) st.table.peers l i).1) small e some'
    step None n k some' none' = none-found (live st.table n) s n cells k (λ l i. (IsIn-filter (λ (x : MapLease). nat_lt n x.expiry) st.table.maps l i).1) (λ l i. (IsIn-filter (λ (x : PeerLease). nat_lt n x.expiry) st.table.peers l i).1) small (none' k.later)
