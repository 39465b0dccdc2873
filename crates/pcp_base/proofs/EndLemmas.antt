-- Which ports owners have, which leases left which ends, and what of both a change leaves.
use Rattle.std.specs.Prelude.{◌≡◌, refl, ℕ, ◌<◌, ◌≤◌, ◌⊎◌, nat_lt, not, Bool, true, false, List, [], ◌∷◌, map, flat_map, filter}
use Rattle.std.proofs.Common.{inl, inr, sym, ap, ◌∙◌, subst, arith}
use Rattle.std.proofs.lemmas.Bool.{cond_both, and_parts, and_from, not-true, ltb-false, eqb-true, eq-eqb}
use Rattle.pcp_base.specs.declared.leases.Protocol.{Protocol}
use Rattle.pcp_base.specs.declared.leases.MapLease.{MapLease}
use Rattle.pcp_base.specs.declared.leases.PeerLease.{PeerLease}
use Rattle.pcp_base.specs.declared.leases.Owner.{Owner}
use Rattle.pcp_base.specs.declared.leases.End.{End}
use Rattle.pcp_base.specs.declared.records.Change.{Change}
use Rattle.pcp_base.specs.declared.records.Change.TheVariants.{Start, Map, Peer, DropMap, DropPeer, Lose, Mark, Rest, Renumber}
use Rattle.pcp_base.specs.Tables.{Table, live, dead, put, is_map_of, is_peer_of, IsMapLease, IsPeerLease}
use Rattle.pcp_base.specs.Owners.{map_owner, map_owners, peer_owner, owners, is_port, is_owned}
use Rattle.pcp_base.specs.Ends.{end_at, ends_at_expiry, is_owned_by}
use Rattle.pcp_base.specs.Apply.{deleted}
use Rattle.pcp_base.specs.Sound.{Sound}
use Rattle.pcp_base.proofs.Same.{same_protocol-Decides}
use Rattle.pcp_base.proofs.Members.{IsIn, All-IsIn, All-from_IsIn, IsIn-filter, IsIn-append, IsIn-left, IsIn-right, IsIn-map, map-IsIn, IsIn-flat_map, flat_map-IsIn, any-none, none-any, any-some, some-any}
use Rattle.pcp_base.proofs.TableLemmas.{owners-fewer, map_owners-IsIn}

-- ---- owned ports

is_port-parts : (p : Protocol) (n : ℕ) (o : Owner) → is_port p n o ≡ true → (o.protocol ≡ p) × (o.external ≡ n)
is_port-parts p n o h = let a = and_parts _ _ h in ((same_protocol-Decides o.protocol p).0 a.0, eqb-true o.external n a.1)

pub is_port-own : (o : Owner) → is_port o.protocol o.external o ≡ true
is_port-own o = and_from _ _ ((same_protocol-Decides o.protocol o.protocol).1 refl) (eq-eqb o.external o.external refl)

pub owned-some : (p : Protocol) (n : ℕ) (os : List Owner) → is_owned p n os ≡ true → (o : Owner) × IsIn o os × (o.protocol ≡ p) × (o.external ≡ n)
owned-some p n os h = let r = any-some (is_port p n) os h in let parts = is_port-parts p n r.0 r.2 in (r.0, r.1, parts.0, parts.1)

pub some-owned : (os : List Owner) (o : Owner) → IsIn o os → is_owned o.protocol o.external os ≡ true
some-owned os o h = some-any (is_port o.protocol o.external) os o h (is_port-own o)

pub unowned-fewer : (p : Protocol) (n : ℕ) (os fewer : List Owner) → ((o : Owner) → IsIn o fewer → IsIn o os) → is_owned p n os ≡ false → is_owned p n fewer ≡ false
unowned-fewer p n os fewer f h =
    none-any (is_port p n) fewer (All-from_IsIn (λ o. is_port p n o ≡ false) fewer
    (λ o k. All-IsIn (λ o. is_port p n o ≡ false) os o (any-none (is_port p n) os h) (f o k)))

pub unowned-both : (p : Protocol) (n : ℕ) (os xs ys : List Owner) → ((o : Owner) → IsIn o os → IsIn o xs ⊎ IsIn o ys) →
    is_owned p n xs ≡ false → is_owned p n ys ≡ false → is_owned p n os ≡ false
unowned-both p n os xs ys f h k =
    none-any (is_port p n) os (All-from_IsIn (λ o. is_port p n o ≡ false) os (λ o there.
    elim (f o there) [
      | inl a ↦ All-IsIn (λ o. is_port p n o ≡ false) xs o (any-none (is_port p n) xs h) a
      | inr b ↦ All-IsIn (λ o. is_port p n o ≡ false) ys o (any-none (is_port p n) ys k) b
    ]))

-- ---- owners of fewer and of more leases

pub owners-live : (t : Table) (m : ℕ) (o : Owner) → IsIn o (owners (live t m)) → IsIn o (owners t)
owners-live t m o h =
    owners-fewer t.maps (filter (λ l. nat_lt m l.expiry) t.maps) t.peers (filter (λ l. nat_lt m l.expiry) t.peers)
    (λ l a. (IsIn-filter (λ l. nat_lt m l.expiry) t.maps l a).0) (λ l a. (IsIn-filter (λ l. nat_lt m l.expiry) t.peers l a).0) o h

pub owners-dead : (t : Table) (m : ℕ) (o : Owner) → IsIn o (owners (dead t m)) → IsIn o (owners t)
owners-dead t m o h =
    owners-fewer t.maps (filter (λ l. not (nat_lt m l.expiry)) t.maps) t.peers (filter (λ l. not (nat_lt m l.expiry)) t.peers)
    (λ l a. (IsIn-filter (λ l. not (nat_lt m l.expiry)) t.maps l a).0) (λ l a. (IsIn-filter (λ l. not (nat_lt m l.expiry)) t.peers l a).0) o h

-- what is put is the new one, the others were there
pub put-IsIn : {X : Type 0} (has_key : X → Bool) (new : X) (xs : List X) (x : X) → IsIn x (put has_key new xs) → (x ≡ new) ⊎ IsIn x xs
put-IsIn has_key new [] x (inl e) = inl (sym e)
put-IsIn has_key new [] x (inr h) = absurd h
put-IsIn {X = X} has_key new (y ∷ ys) x h =
    cond_both (has_key y) (new ∷ ys) (y ∷ put has_key new ys) (λ zs. IsIn x zs → (x ≡ new) ⊎ IsIn x (y ∷ ys))
    (λ _ k. elim k [
      | inl e ↦ inl (sym e)
      | inr rest ↦ inr (inr rest)
    ])
    (λ _ k. elim k [
      | inl e ↦ inr (inl e)
      | inr rest ↦ elim (put-IsIn has_key new ys x rest) [
        | inl e ↦ inl e
        | inr r ↦ inr (inr r)
      ]
    ]) h

-- the owners of the leases that were there, and those of the new one
pub owners-put_map : (t : Table) (has_key : MapLease → Bool) (l : MapLease) (o : Owner) →
    IsIn o (owners (record t { maps = put has_key l t.maps })) → IsIn o (owners t) ⊎ IsIn o (map_owners l)
owners-put_map t has_key l o h =
    elim (IsIn-append (flat_map map_owners (put has_key l t.maps)) (map peer_owner t.peers) o h) [
      | inl a ↦ (let r = IsIn-flat_map map_owners (put has_key l t.maps) o a in
          elim (put-IsIn has_key l t.maps r.0 r.1) [
            | inl same ↦ inr (subst (λ (x : MapLease). IsIn o (map_owners x)) same r.2)
            | inr old ↦ inl (IsIn-left (flat_map map_owners t.maps) (map peer_owner t.peers) o (flat_map-IsIn map_owners t.maps r.0 o old r.2))
          ])
      | inr b ↦ inl (IsIn-right (flat_map map_owners t.maps) (map peer_owner t.peers) o b)
    ]

pub owners-put_peer : (t : Table) (has_key : PeerLease → Bool) (l : PeerLease) (o : Owner) →
    IsIn o (owners (record t { peers = put has_key l t.peers })) → IsIn o (owners t) ⊎ IsIn o (peer_owner l ∷ [])
owners-put_peer t has_key l o h =
    elim (IsIn-append (flat_map map_owners t.maps) (map peer_owner (put has_key l t.peers)) o h) [
      | inl a ↦ inl (IsIn-left (flat_map map_owners t.maps) (map peer_owner t.peers) o a)
      | inr b ↦ (let r = IsIn-map peer_owner (put has_key l t.peers) o b in
          elim (put-IsIn has_key l t.peers r.0 r.1) [
            | inl same ↦ inr (inl (ap peer_owner (sym same) ∙ r.2))
            | inr old ↦ inl (IsIn-right (flat_map map_owners t.maps) (map peer_owner t.peers) o (subst (λ (x : Owner). IsIn x (map peer_owner t.peers)) r.2 (map-IsIn peer_owner t.peers r.0 old)))
          ])
    ]

-- a deletion takes leases out that were there
pub owners-deleted : (t : Table) (change : Change) (o : Owner) → IsIn o (owners (deleted change t)) → IsIn o (owners t)
owners-deleted t (DropMap e) o h =
    owners-fewer t.maps (filter (is_map_of e) t.maps) t.peers [] (λ l a. (IsIn-filter (is_map_of e) t.maps l a).0) (λ l a. absurd a) o h
owners-deleted t (DropPeer e remote port) o h =
    owners-fewer t.maps [] t.peers (filter (is_peer_of e remote port) t.peers) (λ l a. absurd a) (λ l a. (IsIn-filter (is_peer_of e remote port) t.peers l a).0) o h
owners-deleted t Start o h = absurd h
owners-deleted t Lose o h = absurd h
owners-deleted t (Map l) o h = absurd h
owners-deleted t (Peer l) o h = absurd h
owners-deleted t Mark o h = absurd h
owners-deleted t (Rest e port end) o h = absurd h
owners-deleted t (Renumber a) o h = absurd h

-- the ports of a sound table's leases
pub owner-ports : (t : Table) (o : Owner) → Sound t → IsIn o (owners t) → (0 < o.endpoint.port) × (0 < o.external)
owner-ports t o sound h =
    elim (IsIn-append (flat_map map_owners t.maps) (map peer_owner t.peers) o h) [
      | inl a ↦ (let r = IsIn-flat_map map_owners t.maps o a in
          let is = All-IsIn IsMapLease t.maps r.0 sound.maps r.1 in
          let k = map_owners-IsIn r.0 o r.2 in
          let here : (0 < (map_owner r.0 k.0).endpoint.port) × (0 < (map_owner r.0 k.0).external) = (omega (arith, is.ports.internal), omega (arith, is.ports.external)) in
          subst (λ (x : Owner). (0 < x.endpoint.port) × (0 < x.external)) k.2 here)
      | inr b ↦ (let r = IsIn-map peer_owner t.peers o b in
          let is = All-IsIn IsPeerLease t.peers r.0 sound.peers r.1 in
          subst (λ (x : Owner). (0 < x.endpoint.port) × (0 < x.external)) r.2 (is.internal, is.external))
    ]

-- an owner and its endpoint have one protocol
pub owner-protocol : (t : Table) (o : Owner) → IsIn o (owners t) → o.protocol ≡ o.endpoint.protocol
owner-protocol t o h =
    elim (IsIn-append (flat_map map_owners t.maps) (map peer_owner t.peers) o h) [
      | inl a ↦ (let r = IsIn-flat_map map_owners t.maps o a in
          let k = map_owners-IsIn r.0 o r.2 in
          subst (λ (x : Owner). x.protocol ≡ x.endpoint.protocol) k.2 refl)
      | inr b ↦ (let r = IsIn-map peer_owner t.peers o b in subst (λ (x : Owner). x.protocol ≡ x.endpoint.protocol) r.2 refl)
    ]

-- ---- ends that leases left

-- an end of a port that a lease of the table owns
pub record IsLeftBy (t : Table) (e : End) : Type 0 where
  pub owner : Owner
  pub there : IsIn owner (owners t)
  pub same : end_at e.end owner ≡ e

same_end : (m : ℕ) (o : Owner) (e : End) → end_at m o ≡ e → end_at e.end o ≡ e
same_end m o e h = ap (λ (x : End). end_at x.end o) (sym h) ∙ h

pub left-by_expiry : (t : Table) (e : End) → IsIn e (ends_at_expiry t) → IsLeftBy t e
left-by_expiry t e h =
    elim (IsIn-append (flat_map (λ l. map (end_at l.expiry) (map_owners l)) t.maps) (map (λ l. end_at l.expiry (peer_owner l)) t.peers) e h) [
      | inl a ↦ (let r = IsIn-flat_map (λ (l : MapLease). map (end_at l.expiry) (map_owners l)) t.maps e a in
          let k = IsIn-map (end_at r.0.expiry) (map_owners r.0) e r.2 in record {
            owner = k.0;
            there = IsIn-left (flat_map map_owners t.maps) (map peer_owner t.peers) k.0 (flat_map-IsIn map_owners t.maps r.0 k.0 r.1 k.1);
            same = same_end r.0.expiry k.0 e k.2;
          })
      | inr b ↦ (let r = IsIn-map (λ (l : PeerLease). end_at l.expiry (peer_owner l)) t.peers e b in record {
        owner = peer_owner r.0;
        there = IsIn-right (flat_map map_owners t.maps) (map peer_owner t.peers) (peer_owner r.0) (map-IsIn peer_owner t.peers r.0 r.1);
        same = same_end r.0.expiry (peer_owner r.0) e r.2;
      })
    ]

pub left-by_deletion : (t : Table) (m : ℕ) (e : End) → IsIn e (map (end_at m) (owners t)) → IsLeftBy t e × (e.end ≡ m)
left-by_deletion t m e h =
    let k = IsIn-map (end_at m) (owners t) e h in (record { owner = k.0; there = k.1; same = same_end m k.0 e k.2 }, ap (λ (x : End). x.end) (sym k.2))

-- the dead leases ended by then
pub expired-by : (t : Table) (m : ℕ) (e : End) → IsIn e (ends_at_expiry (dead t m)) → e.end ≤ m
expired-by t m e h =
    elim (IsIn-append (flat_map (λ l. map (end_at l.expiry) (map_owners l)) (dead t m).maps) (map (λ l. end_at l.expiry (peer_owner l)) (dead t m).peers) e h) [
      | inl a ↦ (let r = IsIn-flat_map (λ (l : MapLease). map (end_at l.expiry) (map_owners l)) (dead t m).maps e a in
          let k = IsIn-map (end_at r.0.expiry) (map_owners r.0) e r.2 in
          let f = IsIn-filter (λ l. not (nat_lt m l.expiry)) t.maps r.0 r.1 in
          let low = ltb-false m r.0.expiry (not-true (nat_lt m r.0.expiry) f.1) in
          subst (λ (x : End). x.end ≤ m) k.2 low)
      | inr b ↦ (let r = IsIn-map (λ (l : PeerLease). end_at l.expiry (peer_owner l)) (dead t m).peers e b in
          let f = IsIn-filter (λ l. not (nat_lt m l.expiry)) t.peers r.0 r.1 in
          let low = ltb-false m r.0.expiry (not-true (nat_lt m r.0.expiry) f.1) in
          subst (λ (x : End). x.end ≤ m) r.2 low)
    ]

-- an end that a lease left is of a port that the lease owned
pub left-owned : (t : Table) (e : End) → IsLeftBy t e → is_owned_by (owners t) e ≡ true
left-owned t e h =
    let owned = some-owned (owners t) h.owner h.there in
    let protocol : h.owner.protocol ≡ e.endpoint.protocol = owner-protocol t h.owner h.there ∙ ap (λ (x : End). x.endpoint.protocol) h.same in
    let external : h.owner.external ≡ e.external = ap (λ (x : End). x.external) h.same in
    subst (λ (p : Protocol). is_owned p e.external (owners t) ≡ true) protocol
    (subst (λ (n : ℕ). is_owned h.owner.protocol n (owners t) ≡ true) external owned)
