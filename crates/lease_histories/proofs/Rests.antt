-- A port that a lease left stays its endpoint's for 120 seconds.
use Rattle.std.specs.Prelude.{flat_map, find, nat_le, IfSome, IfNone, IsSome}
use Rattle.std.proofs.Common.{◌≡◌, ◌∙◌, ℕ, ◌+◌, ◌<◌, ◌≤◌, ◌&&◌, nat_lt, Bool, true, false, cond, List, [], ◌∷◌, ◌⊎◌, map, filter, not, Option, Some, None, refl, ap, sym, subst, inl, inr, arith}
use Rattle.std.proofs.lemmas.Bool.{leb-true, cond_both}
use Rattle.pcp_base.specs.declared.leases.TheConstants.{REST_SECONDS}
use Rattle.pcp_base.specs.declared.leases.Endpoint.{Endpoint}
use Rattle.pcp_base.specs.declared.leases.End.{End}
use Rattle.pcp_base.specs.declared.leases.MapLease.{MapLease}
use Rattle.pcp_base.specs.declared.leases.Owner.{Owner}
use Rattle.pcp_base.specs.declared.leases.PeerLease.{PeerLease}
use Rattle.pcp_base.specs.declared.leases.Protocol.{Protocol}
use Rattle.pcp_base.specs.declared.records.Change.{Change}
use Rattle.pcp_base.specs.declared.records.Change.TheVariants.{Start, Map, Peer, DropMap, DropPeer, Lose, Mark, Rest, Renumber}
use Rattle.pcp_base.specs.Tables.{Table, live, dead, put, first_endpoint, is_map_of, is_peer_of}
use Rattle.pcp_base.specs.Owners.{map_owners, peer_owner, owners, is_owned, OneOwner}
use Rattle.pcp_base.specs.Ends.{end_at, ends_at_expiry, ends_by, is_owned_by, rests_for}
use Rattle.pcp_base.specs.Apply.{empties, table_changed, deleted, ends_changed}
use Rattle.pcp_base.specs.Fits.{IsAllowed, IsRested, RestForNoOther}
use Rattle.pcp_base.specs.Laws.{EndsAtAMoment}
use Rattle.pcp_base.specs.Sound.{Sound, SoundState}
use Rattle.pcp_base.specs.States.{State}
use Rattle.pcp_base.proofs.Members.{IsIn, All-IsIn, Contains-from_IsIn, IsIn-append, IsIn-filter, IsIn-flat_map, IsIn-from_Contains, IsIn-left, IsIn-map, IsIn-right, filter-IsIn, find-IsIn, find-some, flat_map-IsIn, map-IsIn}
use Rattle.pcp_base.proofs.Same.{same_endpoint-Decides}
use Rattle.pcp_base.proofs.ApplyLaws.{owners-kept}
use Rattle.pcp_base.proofs.TableLemmas.{key-same, owners-fewer, same_key}
use Rattle.lease_histories.specs.Laws.{lasting_to}
use Rattle.pcp_base.proofs.EndOrder.{with_ends-has}
use Rattle.pcp_base.proofs.EndLemmas.{left-by_expiry, owned-some, owner-protocol, owners-dead, owners-live, owners-put_map, owners-put_peer, some-owned, unowned-fewer}
use Rattle.pcp_base.proofs.RestLaws.{protocol_number-same}

-- ---- owners of a table

abbrev owner_of : Protocol → ℕ → Endpoint → Owner
owner_of protocol external endpoint = record { protocol = protocol; external = external; endpoint = endpoint }

pub owner-same : (p o : Owner) → p.protocol ≡ o.protocol → p.external ≡ o.external → p.endpoint ≡ o.endpoint → p ≡ o
owner-same p o protocol external endpoint =
    ap (λ x. owner_of x p.external p.endpoint) protocol ∙ ap (λ x. owner_of o.protocol x p.endpoint) external ∙ ap (owner_of o.protocol o.external) endpoint

-- an owner is of a MAP or of a PEER lease
abbrev OfMap : Table → Owner → Type 0
OfMap t o = (l : MapLease) × IsIn l t.maps × IsIn o (map_owners l)

abbrev OfPeer : Table → Owner → Type 0
OfPeer t o = (l : PeerLease) × IsIn l t.peers × (peer_owner l ≡ o)

of-lease : (t : Table) (o : Owner) → IsIn o (owners t) → OfMap t o ⊎ OfPeer t o
of-lease t o h = elim (IsIn-append (flat_map map_owners t.maps) (map peer_owner t.peers) o h) [
  | inl a ↦ inl (IsIn-flat_map map_owners t.maps o a)
  | inr b ↦ inr (IsIn-map peer_owner t.peers o b)
]

pub by-map : (t : Table) (o : Owner) (l : MapLease) → IsIn l t.maps → IsIn o (map_owners l) → IsIn o (owners t)
by-map t o l there own = IsIn-left (flat_map map_owners t.maps) (map peer_owner t.peers) o (flat_map-IsIn map_owners t.maps l o there own)

pub by-peer : (t : Table) (o : Owner) (l : PeerLease) → IsIn l t.peers → peer_owner l ≡ o → IsIn o (owners t)
by-peer t o l there own = IsIn-right (flat_map map_owners t.maps) (map peer_owner t.peers) o
    (subst (λ (x : Owner). IsIn x (map peer_owner t.peers)) own (map-IsIn peer_owner t.peers l there))

-- ---- a lease stays, or it is deleted

pub put-stays : {X : Type 0} (has_key : X → Bool) (new : X) (xs : List X) (x : X) → IsIn x xs → IsIn x (put has_key new xs) ⊎ (has_key x ≡ true)
put-stays has_key new [] x h = absurd h
put-stays has_key new (y ∷ ys) x h = go (has_key y) refl h (λ k. put-stays has_key new ys x k)
  where
    go : (b : Bool) → has_key y ≡ b → IsIn x (y ∷ ys) → (IsIn x ys → IsIn x (put has_key new ys) ⊎ (has_key x ≡ true)) →
        IsIn x (cond b (new ∷ ys) (y ∷ put has_key new ys)) ⊎ (has_key x ≡ true)
    go true is (inl e) later = inr (ap has_key (sym e) ∙ is)
    go true is (inr k) later = inl (inr k)
    go false is (inl e) later = inl (inl e)
    go false is (inr k) later = elim (later k) [ inl there ↦ inl (inr there) | inr key ↦ inr key ]

pub put-new : {X : Type 0} (has_key : X → Bool) (new : X) (xs : List X) → IsIn new (put has_key new xs)
put-new has_key new [] = inl refl
put-new has_key new (x ∷ xs) = cond_both (has_key x) (new ∷ xs) (x ∷ put has_key new xs) (λ ys. IsIn new ys) (λ _. inl refl) (λ _. inr (put-new has_key new xs))

pub filter-stays : {X : Type 0} (p : X → Bool) (xs : List X) (x : X) → IsIn x xs → IsIn x (filter (λ y. not (p y)) xs) ⊎ (p x ≡ true)
filter-stays p xs x h = go (p x) refl
  where
    go : (b : Bool) → p x ≡ b → IsIn x (filter (λ y. not (p y)) xs) ⊎ (p x ≡ true)
    go true is = inr is
    go false is = inl (filter-IsIn (λ y. not (p y)) xs x h (ap not is))

-- a lease in place of one with its key owns the same ports
map-renewed : (t : Table) (new l : MapLease) (o : Owner) (found : Option MapLease) → Sound t → find (is_map_of (first_endpoint new)) t.maps ≡ found →
    IfSome found (λ old. new ≡ record old { expiry = new.expiry; filters = new.filters }) → IsIn l t.maps → is_map_of (first_endpoint new) l ≡ true →
    IsIn o (map_owners l) → IsIn o (map_owners new)
map-renewed t new l o None sound is allowed there key own = let h = subst (λ f. IsSome f) is (find-IsIn (is_map_of (first_endpoint new)) t.maps l there key) in absurd cc
map-renewed t new l o (Some old) sound is allowed there key own =
    let f = find-some (is_map_of (first_endpoint new)) t.maps old is in
    let same : l ≡ old = same_key t.maps l old sound.apart sound.maps there f.0 (key-same l new key ∙ sym (key-same old new f.1)) in
    let ports : map_owners old ≡ map_owners new = sym (ap map_owners allowed) in
    subst (λ os. IsIn o os) (ap map_owners same ∙ ports) own

peer-renewed : (t : Table) (new l : PeerLease) (o : Owner) (found : Option PeerLease) → Sound t →
    find (is_peer_of new.endpoint new.remote new.remote_port) t.peers ≡ found →
    IfSome found (λ old. new ≡ record old { expiry = new.expiry }) → IsIn l t.peers → is_peer_of new.endpoint new.remote new.remote_port l ≡ true →
    peer_owner l ≡ o → peer_owner new ≡ o
peer-renewed t new l o None sound is allowed there key own =
    let h = subst (λ f. IsSome f) is (find-IsIn (is_peer_of new.endpoint new.remote new.remote_port) t.peers l there key) in absurd cc
peer-renewed t new l o (Some old) sound is allowed there key own =
    let f = find-some (is_peer_of new.endpoint new.remote new.remote_port) t.peers old is in
    let at_l = peer-endpoint new l key in
    let at_old = peer-endpoint new old f.1 in
    let same_endpoints : (peer_owner l).endpoint ≡ (peer_owner old).endpoint = at_l ∙ sym at_old in
    let external = sound.one_port (peer_owner l) (peer_owner old)
    (Contains-from_IsIn (owners t) (peer_owner l) (by-peer t (peer_owner l) l there refl))
    (Contains-from_IsIn (owners t) (peer_owner old) (by-peer t (peer_owner old) old f.0 refl)) same_endpoints in
    let one : peer_owner l ≡ peer_owner old =
    owner-same (peer_owner l) (peer_owner old) (ap (λ (e : Endpoint). e.protocol) same_endpoints) external same_endpoints in
    let kept : peer_owner new ≡ peer_owner old = ap peer_owner allowed in
    kept ∙ sym one ∙ own
  where
    peer-endpoint : (new l : PeerLease) → is_peer_of new.endpoint new.remote new.remote_port l ≡ true → l.endpoint ≡ new.endpoint
    peer-endpoint new l key = (same_endpoint-Decides l.endpoint new.endpoint).0 (and-first _ _ (and-first _ _ key))
      where
        and-first : (a b : Bool) → (a && b) ≡ true → a ≡ true
        and-first true b h = refl
        and-first false b h = absurd cc

-- an owner keeps its port under a change that is allowed, or its lease is deleted
pub stays-or-deleted : (t : Table) (change : Change) (o : Owner) → Sound t → IsAllowed t change → empties change ≡ false → IsIn o (owners t) →
    IsIn o (owners (table_changed change t)) ⊎ IsIn o (owners (deleted change t))
stays-or-deleted t (Map new) o sound allowed same h = elim (of-lease t o h) [
  | inl (l, there, own) ↦ elim (put-stays (is_map_of (first_endpoint new)) new t.maps l there) [
    | inl k ↦ inl (by-map (table_changed (Map new) t) o l k own)
    | inr key ↦ inl (by-map (table_changed (Map new) t) o new (put-new (is_map_of (first_endpoint new)) new t.maps)
        (map-renewed t new l o (find (is_map_of (first_endpoint new)) t.maps) sound refl allowed there key own))
  ]
  | inr (l, there, own) ↦ inl (by-peer (table_changed (Map new) t) o l there own)
]
stays-or-deleted t (Peer new) o sound allowed same h = elim (of-lease t o h) [
  | inl (l, there, own) ↦ inl (by-map (table_changed (Peer new) t) o l there own)
  | inr (l, there, own) ↦ elim (put-stays (is_peer_of new.endpoint new.remote new.remote_port) new t.peers l there) [
    | inl k ↦ inl (by-peer (table_changed (Peer new) t) o l k own)
    | inr key ↦ inl (by-peer (table_changed (Peer new) t) o new (put-new (is_peer_of new.endpoint new.remote new.remote_port) new t.peers)
        (peer-renewed t new l o (find (is_peer_of new.endpoint new.remote new.remote_port) t.peers) sound refl allowed there key own))
  ]
]
stays-or-deleted t (DropMap e) o sound allowed same h = elim (of-lease t o h) [
  | inl (l, there, own) ↦ elim (filter-stays (is_map_of e) t.maps l there) [
    | inl k ↦ inl (by-map (table_changed (DropMap e) t) o l k own)
    | inr key ↦ inr (by-map (deleted (DropMap e) t) o l (filter-IsIn (is_map_of e) t.maps l there key) own)
  ]
  | inr (l, there, own) ↦ inl (by-peer (table_changed (DropMap e) t) o l there own)
]
stays-or-deleted t (DropPeer e a p) o sound allowed same h = elim (of-lease t o h) [
  | inl (l, there, own) ↦ inl (by-map (table_changed (DropPeer e a p) t) o l there own)
  | inr (l, there, own) ↦ elim (filter-stays (is_peer_of e a p) t.peers l there) [
    | inl k ↦ inl (by-peer (table_changed (DropPeer e a p) t) o l k own)
    | inr key ↦ inr (by-peer (deleted (DropPeer e a p) t) o l (filter-IsIn (is_peer_of e a p) t.peers l there key) own)
  ]
]
stays-or-deleted t Start o sound allowed same h = absurd cc
stays-or-deleted t Lose o sound allowed same h = absurd cc
stays-or-deleted t Mark o sound allowed same h = inl h
stays-or-deleted t (Rest e p x) o sound allowed same h = inl h
stays-or-deleted t (Renumber a) o sound allowed same h = inl h

-- an owner after a change was one before, or no port that rests for another was given to it
abbrev pub RestsForNone : State → ℕ → Owner → Type 0
RestsForNone s m p = (e : Endpoint) → e.protocol ≡ p.protocol → rests_for s m p.external e ≡ true → e ≡ p.endpoint

new-map : (s : State) (m : ℕ) (new : MapLease) (p : Owner) (found : Option MapLease) →
    find (is_map_of (first_endpoint new)) (live s.table m).maps ≡ found →
    IfSome found (λ old. new ≡ record old { expiry = new.expiry; filters = new.filters }) →
    IfNone found (RestForNoOther s m (map_owners new)) → IsIn p (map_owners new) → IsIn p (owners (live s.table m)) ⊎ RestsForNone s m p
new-map s m new p None is allowed rested own =
    inr (All-IsIn (λ (o : Owner). (e : Endpoint) → e.protocol ≡ o.protocol → rests_for s m o.external e ≡ true → e ≡ o.endpoint) (map_owners new) p rested own)
new-map s m new p (Some old) is allowed rested own =
    let f = find-some (is_map_of (first_endpoint new)) (live s.table m).maps old is in
    inl (by-map (live s.table m) p old f.0 (subst (λ os. IsIn p os) (ap map_owners allowed) own))

new-peer : (s : State) (m : ℕ) (new : PeerLease) (p : Owner) (found : Option PeerLease) →
    find (is_peer_of new.endpoint new.remote new.remote_port) (live s.table m).peers ≡ found →
    IfSome found (λ old. new ≡ record old { expiry = new.expiry }) →
    IfNone found (RestForNoOther s m (peer_owner new ∷ [])) → IsIn p (peer_owner new ∷ []) → IsIn p (owners (live s.table m)) ⊎ RestsForNone s m p
new-peer s m new p None is allowed rested own =
    inr (All-IsIn (λ (o : Owner). (e : Endpoint) → e.protocol ≡ o.protocol → rests_for s m o.external e ≡ true → e ≡ o.endpoint) (peer_owner new ∷ []) p rested own)
new-peer s m new p (Some old) is allowed rested own =
    let f = find-some (is_peer_of new.endpoint new.remote new.remote_port) (live s.table m).peers old is in
    let one : peer_owner new ≡ p = elim own [ inl e ↦ e | inr h ↦ absurd h ] in
    inl (by-peer (live s.table m) p old f.0 (sym (ap peer_owner allowed) ∙ one))

pub owner-after : (s : State) (m : ℕ) (change : Change) (p : Owner) → IsAllowed (live s.table m) change → IsRested s m change →
    IsIn p (owners (table_changed change (live s.table m))) → IsIn p (owners (live s.table m)) ⊎ RestsForNone s m p
owner-after s m (Map new) p allowed rested h = elim (owners-put_map (live s.table m) (is_map_of (first_endpoint new)) new p h) [
  | inl k ↦ inl k
  | inr own ↦ new-map s m new p (find (is_map_of (first_endpoint new)) (live s.table m).maps) refl allowed rested own
]
owner-after s m (Peer new) p allowed rested h = elim (owners-put_peer (live s.table m) (is_peer_of new.endpoint new.remote new.remote_port) new p h) [
  | inl k ↦ inl k
  | inr own ↦ new-peer s m new p (find (is_peer_of new.endpoint new.remote new.remote_port) (live s.table m).peers) refl allowed rested own
]
owner-after s m (DropMap e) p allowed rested h = inl (owners-kept (live s.table m) (DropMap e) tt p h)
owner-after s m (DropPeer e a q) p allowed rested h = inl (owners-kept (live s.table m) (DropPeer e a q) tt p h)
owner-after s m Start p allowed rested h = absurd h
owner-after s m Lose p allowed rested h = absurd h
owner-after s m Mark p allowed rested h = inl h
owner-after s m (Rest e q x) p allowed rested h = inl h
owner-after s m (Renumber a) p allowed rested h = inl h

-- after a deletion there are fewer owners, and the ends are as they were
pub record IsDeleting (change : Change) (t : Table) : Type 0 where
  pub fewer : (p : Owner) → IsIn p (owners (table_changed change t)) → IsIn p (owners t)
  pub ends : (ends : List End) → ends_changed change ends ≡ ends

pub deleting : (change : Change) (t : Table) (o : Owner) → IsIn o (owners (deleted change t)) → IsDeleting change t
deleting (DropMap e) t o h = record { fewer = owners-kept t (DropMap e) tt; ends = λ ends. refl }
deleting (DropPeer e a q) t o h = record { fewer = owners-kept t (DropPeer e a q) tt; ends = λ ends. refl }
deleting (Map l) t o h = absurd h
deleting (Peer l) t o h = absurd h
deleting Start t o h = absurd h
deleting Lose t o h = absurd h
deleting Mark t o h = absurd h
deleting (Rest e q x) t o h = absurd h
deleting (Renumber a) t o h = absurd h

-- ---- a port at a moment

-- after a state, at m: the endpoint owns its port, or has an end of it that isn't earlier than t
pub data HeldAt (s : State) (m t : ℕ) (o : Owner) : Type 0 where
  owned_now : IsIn o (owners (live s.table m)) → HeldAt s m t o
  ended_then : is_owned o.protocol o.external (owners (live s.table m)) ≡ false → (x : End) → IsIn x (ends_by s m) →
      x.endpoint ≡ o.endpoint → x.external ≡ o.external → t ≤ x.end → HeldAt s m t o

pub data Held (s : State) (t : ℕ) (o : Owner) : Type 0 where
  owned_to : IsIn o (owners (lasting_to s.table t)) → Held s t o
  ended : is_owned o.protocol o.external (owners s.table) ≡ false → (x : End) → IsIn x s.ends →
      x.endpoint ≡ o.endpoint → x.external ≡ o.external → t ≤ x.end → Held s t o
  over : t + REST_SECONDS ≤ s.last → Held s t o

pub lasting-fewer : (t : Table) (m : ℕ) (o : Owner) → IsIn o (owners (lasting_to t m)) → IsIn o (owners t)
lasting-fewer t m o h =
    owners-fewer t.maps (filter (λ l. nat_le m l.expiry) t.maps) t.peers (filter (λ l. nat_le m l.expiry) t.peers)
    (λ l a. (IsIn-filter (λ l. nat_le m l.expiry) t.maps l a).0) (λ l a. (IsIn-filter (λ l. nat_le m l.expiry) t.peers l a).0) o h

-- the owner of a port of a table with one owner a port
pub owned-is : (os : List Owner) (o : Owner) → OneOwner os → IsIn o os → (fewer : List Owner) → ((p : Owner) → IsIn p fewer → IsIn p os) →
    is_owned o.protocol o.external fewer ≡ true → IsIn o fewer
owned-is os o one there fewer sub h =
    let q = owned-some o.protocol o.external fewer h in
    let endpoint = one q.0 o (Contains-from_IsIn os q.0 (sub q.0 q.1)) (Contains-from_IsIn os o there) q.2 q.3 in
    subst (λ (x : Owner). IsIn x fewer) (owner-same q.0 o q.2 q.3 endpoint) q.1

-- an end of a port that a lease of the state owns, live or not, is its owner's
pub end-owner : EndsAtAMoment → (s : State) (m : ℕ) (o : Owner) → SoundState s → IsIn o (owners s.table) → (x : End) → IsIn x (ends_by s m) →
    x.endpoint.protocol ≡ o.protocol → x.external ≡ o.external → x.endpoint ≡ o.endpoint
end-owner law s m o sound there x h protocol external =
    elim ((law s m x sound).0 (Contains-from_IsIn (ends_by s m) x h)) [
      | inl old ↦ (let unowned = All-IsIn (λ e. is_owned_by (owners s.table) e ≡ false) s.ends x sound.unowned (IsIn-from_Contains s.ends x old) in
          let own = some-owned (owners s.table) o there in
          let same : is_owned_by (owners s.table) x ≡ is_owned o.protocol o.external (owners s.table) =
          ap (λ p. is_owned p x.external (owners s.table)) protocol ∙ ap (λ n. is_owned o.protocol n (owners s.table)) external in
          absurd cc)
      | inr new ↦ (let left = left-by_expiry (dead s.table m) x (IsIn-from_Contains (ends_at_expiry (dead s.table m)) x new.left) in
          let q = left.owner in
          let in_table = owners-dead s.table m q left.there in
          let at : q.endpoint ≡ x.endpoint = ap (λ (e : End). e.endpoint) left.same in
          let port : q.external ≡ x.external = ap (λ (e : End). e.external) left.same in
          let own_protocol : q.protocol ≡ o.protocol = owner-protocol s.table q in_table ∙ ap (λ (e : Endpoint). e.protocol) at ∙ protocol in
          sym at ∙ sound.table.one_owner q o (Contains-from_IsIn (owners s.table) q in_table) (Contains-from_IsIn (owners s.table) o there) own_protocol (port ∙ external))
    ]

-- the end that a lease left which expired by m
expired-end : (s : State) (m t : ℕ) (o : Owner) → IsIn o (owners (lasting_to s.table t)) → is_owned o.protocol o.external (owners (live s.table m)) ≡ false →
    (expiry : ℕ) × (t ≤ expiry) × IsIn (end_at expiry o) (ends_at_expiry (dead s.table m))
expired-end s m t o h un = elim (of-lease (lasting_to s.table t) o h) [
  | inl (l, there, own) ↦ (let kept = IsIn-filter (λ l. nat_le t l.expiry) s.table.maps l there in (
    l.expiry,
    le-true t l.expiry kept.1,
    IsIn-left (flat_map (λ l. map (end_at l.expiry) (map_owners l)) (dead s.table m).maps) (map (λ l. end_at l.expiry (peer_owner l)) (dead s.table m).peers) (end_at l.expiry o)
        (flat_map-IsIn (λ (l : MapLease). map (end_at l.expiry) (map_owners l)) (dead s.table m).maps l (end_at l.expiry o)
        (filter-IsIn (λ l. not (nat_lt m l.expiry)) s.table.maps l kept.0
        (not-live (nat_lt m l.expiry) (λ yes. by-map (live s.table m) o l (filter-IsIn (λ l. nat_lt m l.expiry) s.table.maps l kept.0 yes) own)))
        (map-IsIn (end_at l.expiry) (map_owners l) o own)),
  ))
  | inr (l, there, own) ↦ (let kept = IsIn-filter (λ l. nat_le t l.expiry) s.table.peers l there in (
    l.expiry,
    le-true t l.expiry kept.1,
    IsIn-right (flat_map (λ l. map (end_at l.expiry) (map_owners l)) (dead s.table m).maps) (map (λ l. end_at l.expiry (peer_owner l)) (dead s.table m).peers) (end_at l.expiry o)
        (subst (λ (x : Owner). IsIn (end_at l.expiry x) (map (λ l. end_at l.expiry (peer_owner l)) (dead s.table m).peers)) own
        (map-IsIn (λ (l : PeerLease). end_at l.expiry (peer_owner l)) (dead s.table m).peers l
        (filter-IsIn (λ l. not (nat_lt m l.expiry)) s.table.peers l kept.0
        (not-live (nat_lt m l.expiry) (λ yes. by-peer (live s.table m) o l (filter-IsIn (λ l. nat_lt m l.expiry) s.table.peers l kept.0 yes) own))))),
  ))
]
  where
    le-true : (a b : ℕ) → nat_le a b ≡ true → a ≤ b
    le-true a b is = leb-true a b is

    not-live : (b : Bool) → (b ≡ true → IsIn o (owners (live s.table m))) → not b ≡ true
    not-live false h = refl
    not-live true h = let own = some-owned (owners (live s.table m)) o (h refl) in absurd cc

pub held-at : EndsAtAMoment → (s : State) (m t : ℕ) (o : Owner) → SoundState s → o.endpoint.protocol ≡ o.protocol → Held s t o → m < t + REST_SECONDS → s.last ≤ m → HeldAt s m t o
held-at law s m t o sound own (over done) soon later = absurd (omega (arith, done, soon, later))
held-at law s m t o sound own (ended un x there endpoint external late) soon later =
    ended_then (unowned-fewer o.protocol o.external (owners s.table) (owners (live s.table m)) (owners-live s.table m) un) x
    (IsIn-from_Contains (ends_by s m) x ((law s m x sound).1 (inl (Contains-from_IsIn s.ends x there)))) endpoint external late
held-at law s m t o sound own (owned_to h) soon later = go (is_owned o.protocol o.external (owners (live s.table m))) refl
  where
    go : (b : Bool) → is_owned o.protocol o.external (owners (live s.table m)) ≡ b → HeldAt s m t o
    go true is = owned_now (owned-is (owners s.table) o sound.table.one_owner (lasting-fewer s.table t o h) (owners (live s.table m)) (owners-live s.table m) is)
    go false is =
        let e = expired-end s m t o h is in
        let y = end_at e.0 o in
        let free : is_owned_by (owners (live s.table m)) y ≡ false = ap (λ p. is_owned p o.external (owners (live s.table m))) own ∙ is in
        let r = with_ends-has (filter (λ x. not (is_owned_by (owners (live s.table m)) x)) (ends_at_expiry (dead s.table m))) s.ends y
        (filter-IsIn (λ x. not (is_owned_by (owners (live s.table m)) x)) (ends_at_expiry (dead s.table m)) y e.2 (ap not free)) in
        let protocol : r.end.endpoint.protocol ≡ o.protocol = sym (protocol_number-same o.endpoint.protocol r.end.endpoint.protocol r.port.protocol) ∙ own in
        let external : r.end.external ≡ o.external = sym r.port.external in
        let late = e.1 in
        let as_late = r.as_late in
        ended_then is r.end r.there (end-owner law s m o sound (lasting-fewer s.table t o h) r.end r.there protocol external) external (omega (arith, late, as_late))
