-- Ends that leases of a table leave when they expire, of live leases and of others.
use Rattle.std.specs.Prelude.{◌≡◌, refl, ℕ, ◌<◌, ◌≤◌, nat_lt, not, map, flat_map}
use Rattle.std.proofs.Common.{inl, inr, ap, arith}
use Rattle.std.proofs.lemmas.Bool.{not_from_false, ltb-true, lt-ltb, le-ltb}
use Rattle.pcp_base.specs.declared.leases.MapLease.{MapLease}
use Rattle.pcp_base.specs.declared.leases.PeerLease.{PeerLease}
use Rattle.pcp_base.specs.declared.leases.Owner.{Owner}
use Rattle.pcp_base.specs.declared.leases.End.{End}
use Rattle.pcp_base.specs.Tables.{Table, live, dead}
use Rattle.pcp_base.specs.Owners.{map_owners, peer_owner, owners}
use Rattle.pcp_base.specs.Ends.{end_at, ends_at_expiry}
use Rattle.pcp_base.proofs.Members.{IsIn, IsIn-filter, filter-IsIn, IsIn-append, IsIn-map, map-IsIn, IsIn-flat_map}
use Rattle.pcp_base.proofs.StageLaws.{map_ends, expiry-parts, from_map, from_peer}

pub map_ends-end : (l : MapLease) (e : End) → IsIn e (map_ends l) → l.expiry ≡ e.end
map_ends-end l e h = let k = IsIn-map (end_at l.expiry) (map_owners l) e h in ap (λ (x : End). x.end) k.2

-- leases of fewer leave fewer
pub fewer : (t u : Table) (e : End) → ((l : MapLease) → IsIn l t.maps → l.expiry ≡ e.end → IsIn l u.maps) → ((l : PeerLease) → IsIn l t.peers → l.expiry ≡ e.end → IsIn l u.peers)
    → IsIn e (ends_at_expiry t) → IsIn e (ends_at_expiry u)
fewer t u e maps peers h =
    elim (expiry-parts t e h) [
      | inl a ↦ from_map u e (a.0, maps a.0 a.1 (map_ends-end a.0 e a.2), a.2)
      | inr b ↦ from_peer u e (b.0, peers b.0 b.1 (ap (λ (x : End). x.end) b.2), b.2)
    ]

pub later-live : (t : Table) (m : ℕ) (e : End) → m < e.end → IsIn e (ends_at_expiry t) → IsIn e (ends_at_expiry (live t m))
later-live t m e late =
    fewer t (live t m) e
    (λ l there same. filter-IsIn (λ (l : MapLease). nat_lt m l.expiry) t.maps l there (lt-ltb m l.expiry (omega (arith, late, same))))
    (λ l there same. filter-IsIn (λ (l : PeerLease). nat_lt m l.expiry) t.peers l there (lt-ltb m l.expiry (omega (arith, late, same))))

pub sooner-dead : (t : Table) (m : ℕ) (e : End) → e.end ≤ m → IsIn e (ends_at_expiry t) → IsIn e (ends_at_expiry (dead t m))
sooner-dead t m e soon =
    fewer t (dead t m) e
    (λ l there same. filter-IsIn (λ (l : MapLease). not (nat_lt m l.expiry)) t.maps l there (not_from_false _ (le-ltb m l.expiry (omega (arith, soon, same)))))
    (λ l there same. filter-IsIn (λ (l : PeerLease). not (nat_lt m l.expiry)) t.peers l there (not_from_false _ (le-ltb m l.expiry (omega (arith, soon, same)))))

pub live-any : (t : Table) (m : ℕ) (e : End) → IsIn e (ends_at_expiry (live t m)) → IsIn e (ends_at_expiry t)
live-any t m e =
    fewer (live t m) t e (λ l there same. (IsIn-filter (λ (l : MapLease). nat_lt m l.expiry) t.maps l there).0)
    (λ l there same. (IsIn-filter (λ (l : PeerLease). nat_lt m l.expiry) t.peers l there).0)

pub dead-any : (t : Table) (m : ℕ) (e : End) → IsIn e (ends_at_expiry (dead t m)) → IsIn e (ends_at_expiry t)
dead-any t m e =
    fewer (dead t m) t e (λ l there same. (IsIn-filter (λ (l : MapLease). not (nat_lt m l.expiry)) t.maps l there).0)
    (λ l there same. (IsIn-filter (λ (l : PeerLease). not (nat_lt m l.expiry)) t.peers l there).0)

-- what a live lease leaves comes later
pub live-later : (t : Table) (m : ℕ) (e : End) → IsIn e (ends_at_expiry (live t m)) → m < e.end
live-later t m e h =
    elim (expiry-parts (live t m) e h) [
      | inl a ↦ (let k = IsIn-filter (λ (l : MapLease). nat_lt m l.expiry) t.maps a.0 a.1 in
          let late : m < a.0.expiry = ltb-true m a.0.expiry k.1 in omega (arith, late, map_ends-end a.0 e a.2))
      | inr b ↦ (let k = IsIn-filter (λ (l : PeerLease). nat_lt m l.expiry) t.peers b.0 b.1 in
          let late : m < b.0.expiry = ltb-true m b.0.expiry k.1 in
          let same : b.0.expiry ≡ e.end = ap (λ (x : End). x.end) b.2 in omega (arith, late, same))
    ]

-- each owner leaves an end
pub owner-leaves : (t : Table) (o : Owner) → IsIn o (owners t) → (f : End) × IsIn f (ends_at_expiry t) × (end_at f.end o ≡ f)
owner-leaves t o h =
    elim (IsIn-append (flat_map map_owners t.maps) (map peer_owner t.peers) o h) [
      | inl a ↦ (let r = IsIn-flat_map map_owners t.maps o a in
          (end_at r.0.expiry o, from_map t (end_at r.0.expiry o) (r.0, r.1, map-IsIn (end_at r.0.expiry) (map_owners r.0) o r.2), refl))
      | inr b ↦ (let r = IsIn-map peer_owner t.peers o b in (end_at r.0.expiry o, from_peer t (end_at r.0.expiry o) (r.0, r.1, ap (end_at r.0.expiry) r.2), refl))
    ]
