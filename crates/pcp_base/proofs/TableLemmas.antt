-- What stays of a sound lease table when leases go, are renewed or come.
use Rattle.std.specs.Prelude.{◌≡◌, refl, ℕ, ◌+◌, ◌<◌, ◌≤◌, ◌⊎◌, nat_lt, not, Bool, true, false, List, [], ◌∷◌, ◌++◌, length, map, flat_map, filter, count_by}
use Rattle.std.specs.List.{AllByRecursion, AllZip, range_with_len}
use Rattle.std.proofs.Common.{inl, inr, sym, ap, ◌∙◌, subst, arith, cond, length-append}
use Rattle.std.proofs.lemmas.Bool.{cond_both, and_parts, and_from, false_from_ne_true, ltb-true, leb-true, lt-ltb, le-leb, eq-eqb}
use Rattle.std.proofs.lemmas.List.Elements.{length_all_zip}
use Rattle.std.proofs.lemmas.List.Sums.{length-filter, count_by-le-length}
use Rattle.std.proofs.lemmas.List.Filters.{sum_by-filter_both}
use Rattle.pcp_base.specs.declared.leases.Endpoint.{Endpoint}
use Rattle.pcp_base.specs.declared.leases.MapLease.{MapLease}
use Rattle.pcp_base.specs.declared.leases.PeerLease.{PeerLease}
use Rattle.pcp_base.specs.declared.leases.Owner.{Owner}
use Rattle.pcp_base.specs.Tables.{Table, empty_table, live, covers, first_endpoint, is_map_of, names, put, EachTwo, IsMapLease, IsPeerLease, AreApart, HaveOtherKeys}
use Rattle.pcp_base.specs.Owners.{map_owner, map_owners, peer_owner, owners, OneOwner, OnePort, is_port}
use Rattle.pcp_base.specs.Sound.{Sound}
use Rattle.pcp_base.proofs.Same.{same_address-Decides, same_protocol-Decides, same_endpoint-Decides}
use Rattle.pcp_base.proofs.Members.{IsIn, IsIn-from_Contains, Contains-from_IsIn, All-IsIn, All-from_IsIn, All-filter, All-push, EachTwo-filter, EachTwo-push, IsIn-filter, IsIn-append, IsIn-left, IsIn-right, IsIn-map, map-IsIn, IsIn-flat_map, flat_map-IsIn, range-IsIn, AllZip-refl, AllZip-all, AllZip-each_two, AllZip-flat_map}

-- what `covers` says
pub record IsCovered (l : MapLease) (e : Endpoint) : Type 0 where
  pub address : l.address ≡ e.address
  pub protocol : l.protocol ≡ e.protocol
  pub from : l.internal ≤ e.port
  pub below : e.port < l.internal + l.count

pub IsCovered-from_covers : (l : MapLease) (e : Endpoint) → covers l e ≡ true → IsCovered l e
IsCovered-from_covers l e h =
    let a = and_parts _ _ h in let b = and_parts _ _ a.0 in let c = and_parts _ _ b.0 in record {
      address = (same_address-Decides l.address e.address).0 c.0;
      protocol = (same_protocol-Decides l.protocol e.protocol).0 c.1;
      from = leb-true l.internal e.port b.1;
      below = ltb-true e.port (l.internal + l.count) a.1;
    }

pub covers-from_IsCovered : (l : MapLease) (e : Endpoint) → IsCovered l e → covers l e ≡ true
covers-from_IsCovered l e h =
    and_from _ _ (and_from _ _ (and_from _ _ ((same_address-Decides l.address e.address).1 h.address) ((same_protocol-Decides l.protocol e.protocol).1 h.protocol))
    (le-leb l.internal e.port h.from)) (lt-ltb e.port (l.internal + l.count) h.below)

-- a lease covers its first endpoint
pub covers-first : (l : MapLease) → 0 < l.count → covers l (first_endpoint l) ≡ true
covers-first l some = covers-from_IsCovered l (first_endpoint l) (record { address = refl; protocol = refl; from = omega arith; below = omega arith })

-- the owner at a place of a lease
pub map_owners-IsIn : (l : MapLease) (o : Owner) → IsIn o (map_owners l) → (i : ℕ) × (i < l.count) × (map_owner l i ≡ o)
map_owners-IsIn l o h =
    let r = IsIn-map (map_owner l) (range_with_len 0 l.count) o h in
    let b = range-IsIn 0 l.count r.0 r.1 in (r.0, omega arith, r.2)

-- a lease covers what owns its ports
pub owner-covered : (l : MapLease) (o : Owner) → IsIn o (map_owners l) → covers l o.endpoint ≡ true
owner-covered l o h =
    let r = map_owners-IsIn l o h in
    let at : covers l (map_owner l r.0).endpoint ≡ true = covers-from_IsCovered l (map_owner l r.0).endpoint
    (record { address = refl; protocol = refl; from = omega arith; below = omega (arith, r.1) }) in
    subst (λ (x : Owner). covers l x.endpoint ≡ true) r.2 at

-- the owners of fewer leases are among those of more
pub owners-fewer : (maps maps' : List MapLease) (peers peers' : List PeerLease) →
    ((l : MapLease) → IsIn l maps' → IsIn l maps) → ((l : PeerLease) → IsIn l peers' → IsIn l peers) →
    (o : Owner) → IsIn o (owners (record { maps = maps'; peers = peers' })) → IsIn o (owners (record { maps = maps; peers = peers }))
owners-fewer maps maps' peers peers' f g o h =
    elim (IsIn-append (flat_map map_owners maps') (map peer_owner peers') o h) [
      | inl a ↦ (let r = IsIn-flat_map map_owners maps' o a in
          IsIn-left (flat_map map_owners maps) (map peer_owner peers) o (flat_map-IsIn map_owners maps r.0 o (f r.0 r.1) r.2))
      | inr b ↦ (let r = IsIn-map peer_owner peers' o b in
          IsIn-right (flat_map map_owners maps) (map peer_owner peers) o (rw r.2 at (map-IsIn peer_owner peers r.0 (g r.0 r.1))))
    ]

pub OneOwner-fewer : (xs ys : List Owner) → ((o : Owner) → IsIn o ys → IsIn o xs) → OneOwner xs → OneOwner ys
OneOwner-fewer xs ys f h p q a b =
    h p q (Contains-from_IsIn xs p (f p (IsIn-from_Contains ys p a))) (Contains-from_IsIn xs q (f q (IsIn-from_Contains ys q b)))

pub OnePort-fewer : (xs ys : List Owner) → ((o : Owner) → IsIn o ys → IsIn o xs) → OnePort xs → OnePort ys
OnePort-fewer xs ys f h p q a b =
    h p q (Contains-from_IsIn xs p (f p (IsIn-from_Contains ys p a))) (Contains-from_IsIn xs q (f q (IsIn-from_Contains ys q b)))

pub count-filter : {X : Type 0} (p q : X → Bool) (xs : List X) → count_by p (filter q xs) ≤ count_by p xs
count-filter p q xs = omega (arith, sum_by-filter_both q (λ x. not (q x)) (λ _. refl) (λ x. cond (p x) 1 0) xs)

pub length-fewer : {X : Type 0} (q : X → Bool) (xs : List X) → length (filter q xs) ≤ length xs
length-fewer q xs = omega (arith, length-filter q xs, count_by-le-length q xs)

-- fewer leases
pub Sound-filter : (t : Table) (p : MapLease → Bool) (q : PeerLease → Bool) → Sound t → Sound (record { maps = filter p t.maps; peers = filter q t.peers })
Sound-filter t p q h =
    let within = owners-fewer t.maps (filter p t.maps) t.peers (filter q t.peers)
    (λ l a. (IsIn-filter p t.maps l a).0) (λ l a. (IsIn-filter q t.peers l a).0) in
    record {
      maps = All-filter IsMapLease p t.maps h.maps;
      peers = All-filter IsPeerLease q t.peers h.peers;
      apart = EachTwo-filter AreApart p t.maps h.apart;
      different = EachTwo-filter HaveOtherKeys q t.peers h.different;
      one_owner = OneOwner-fewer (owners t) _ within h.one_owner;
      one_port = OnePort-fewer (owners t) _ within h.one_port;
      few = omega (arith, h.few, length-fewer p t.maps, length-fewer q t.peers);
      few_peers = λ e. omega (arith, h.few_peers e, count-filter (λ l. names l e) q t.peers);
    }

-- fewer MAP leases
pub Sound-filter_maps : (t : Table) (p : MapLease → Bool) → Sound t → Sound (record t { maps = filter p t.maps })
Sound-filter_maps t p h =
    let within = owners-fewer t.maps (filter p t.maps) t.peers t.peers (λ l a. (IsIn-filter p t.maps l a).0) (λ l a. a) in
    record {
      maps = All-filter IsMapLease p t.maps h.maps;
      peers = h.peers;
      apart = EachTwo-filter AreApart p t.maps h.apart;
      different = h.different;
      one_owner = OneOwner-fewer (owners t) _ within h.one_owner;
      one_port = OnePort-fewer (owners t) _ within h.one_port;
      few = omega (arith, h.few, length-fewer p t.maps);
      few_peers = h.few_peers;
    }

-- at each moment
pub Sound-live : (t : Table) (m : ℕ) → Sound t → Sound (live t m)
Sound-live t m h = Sound-filter t (λ l. nat_lt m l.expiry) (λ l. nat_lt m l.expiry) h

pub Sound-empty : Sound empty_table
Sound-empty = record {
  maps = tt;
  peers = tt;
  apart = tt;
  different = tt;
  one_owner = λ p q a b. absurd (IsIn-from_Contains [] p a);
  one_port = λ p q a b. absurd (IsIn-from_Contains [] p a);
  few = omega arith;
  few_peers = λ e. omega arith;
}

-- two leases that differ in nothing but the expiry
abbrev pub SameButExpiry : MapLease → MapLease → Type 0
SameButExpiry l k = record l { expiry = k.expiry } ≡ k

IsMapLease-later : (l k : MapLease) → SameButExpiry l k → IsMapLease l → IsMapLease k
IsMapLease-later l k same h = rw same at (at_expiry k.expiry)
  where
    at_expiry : (e : ℕ) → IsMapLease (record l { expiry = e })
    at_expiry e = record {
      ports = record {
        internal = h.ports.internal;
        external = h.ports.external;
        some = h.ports.some;
        few = h.ports.few;
        internal_end = h.ports.internal_end;
        external_end = h.ports.external_end;
      };
      filters = h.filters;
    }

covers-later : (l k : MapLease) → SameButExpiry l k → (e : Endpoint) → covers l e ≡ covers k e
covers-later l k same e = ap (λ (x : MapLease). covers x e) same

AreApart-later : (x y u v : MapLease) → SameButExpiry x y → SameButExpiry u v → AreApart x u → AreApart y v
AreApart-later x y u v r s h e a b = h e (covers-later x y r e ∙ a) (covers-later u v s e ∙ b)

map_owners-later : (l k : MapLease) → SameButExpiry l k → map_owners l ≡ map_owners k
map_owners-later l k same = ap map_owners same

-- other expiries
pub Sound-later : (t : Table) (maps : List MapLease) → AllZip SameButExpiry t.maps maps → Sound t → Sound (record t { maps = maps })
Sound-later t maps z h =
    let same : owners t ≡ owners (record t { maps = maps }) = ap (λ os. os ++ map peer_owner t.peers) (AllZip-flat_map SameButExpiry map_owners map_owners-later t.maps maps z) in
    record {
      maps = AllZip-all SameButExpiry IsMapLease IsMapLease IsMapLease-later t.maps maps z h.maps;
      peers = h.peers;
      apart = AllZip-each_two SameButExpiry AreApart AreApart-later t.maps maps z h.apart;
      different = h.different;
      one_owner = rw same at h.one_owner;
      one_port = rw same at h.one_port;
      few = omega (arith, h.few, length_all_zip SameButExpiry t.maps maps z);
      few_peers = h.few_peers;
    }

-- The lease with this key is put in its own place.
pub put-renewed : (maps : List MapLease) (l : MapLease) (expiry : ℕ) → EachTwo AreApart maps → AllByRecursion IsMapLease maps → IsIn l maps →
    AllZip SameButExpiry maps (put (is_map_of (first_endpoint l)) (record l { expiry = expiry }) maps)
put-renewed [] l expiry apart formed h = absurd h
put-renewed (x ∷ xs) l expiry apart formed (inl e) =
    cond_both (is_map_of (first_endpoint l) x) _ _ (λ ys. AllZip SameButExpiry (x ∷ xs) ys)
    (λ _. (ap (λ (y : MapLease). record y { expiry = expiry }) e, AllZip-refl SameButExpiry (λ _. refl) xs))
    (λ no. absurd (let yes : is_map_of (first_endpoint l) x ≡ true = (same_endpoint-Decides (first_endpoint x) (first_endpoint l)).1 (ap first_endpoint e) in cc))
put-renewed (x ∷ xs) l expiry apart formed (inr h) =
    cond_both (is_map_of (first_endpoint l) x) _ _ (λ ys. AllZip SameButExpiry (x ∷ xs) ys)
    (λ yes. absurd (
    let same : first_endpoint x ≡ first_endpoint l = (same_endpoint-Decides (first_endpoint x) (first_endpoint l)).0 yes in
    let ours = covers-first l (All-IsIn IsMapLease xs l formed.1 h).ports.some in
    let theirs = subst (λ (e : Endpoint). covers x e ≡ true) same (covers-first x formed.0.ports.some) in
    All-IsIn (AreApart x) xs l apart.0 h (first_endpoint l) theirs ours))
    (λ _. (refl, put-renewed xs l expiry apart.1 formed.1 h))

pub Sound-renewed : (t : Table) (l : MapLease) (expiry : ℕ) → Sound t → IsIn l t.maps →
    Sound (record t { maps = put (is_map_of (first_endpoint l)) (record l { expiry = expiry }) t.maps })
Sound-renewed t l expiry h there =
    Sound-later t (put (is_map_of (first_endpoint l)) (record l { expiry = expiry }) t.maps) (put-renewed t.maps l expiry h.apart h.maps there) h

-- where none has the key the lease is put at the end
pub put-end : (maps : List MapLease) (l : MapLease) → AllByRecursion (λ x. is_map_of (first_endpoint l) x ≡ false) maps →
    put (is_map_of (first_endpoint l)) l maps ≡ maps ++ l ∷ []
put-end [] l h = refl
put-end (x ∷ xs) l h = rw h.0 (ap (λ ys. x ∷ ys) (put-end xs l h.1))

-- a lease of one port covers its first endpoint alone
covers-one : (l : MapLease) (e : Endpoint) → l.count ≡ 1 → covers l e ≡ true → first_endpoint l ≡ e
covers-one l e one h =
    let c = IsCovered-from_covers l e h in
    (same_endpoint-Decides (first_endpoint l) e).0
    (and_from _ _ (and_from _ _ ((same_address-Decides l.address e.address).1 c.address) ((same_protocol-Decides l.protocol e.protocol).1 c.protocol))
    (eq-eqb l.internal e.port (omega (arith, c.from, c.below))))

-- the owner at the one port of a lease
abbrev IsOwnerOf : MapLease → Owner → Type 0
IsOwnerOf l o = (o.protocol ≡ l.protocol) × (o.external ≡ l.external) × (o.endpoint ≡ first_endpoint l)

one_owner-IsIn : (l : MapLease) (o : Owner) → l.count ≡ 1 → IsIn o (map_owners l) → IsOwnerOf l o
one_owner-IsIn l o one h =
    let r = map_owners-IsIn l o h in
    let zeroth : r.0 ≡ 0 = omega (arith, r.1) in
    let same : map_owner l 0 ≡ o = ap (map_owner l) (sym zeroth) ∙ r.2 in
    let at : IsOwnerOf l (map_owner l 0) = (refl, omega arith, endpoint_at l) in
    subst (IsOwnerOf l) same at
  where
    endpoint_at : (k : MapLease) → (map_owner k 0).endpoint ≡ first_endpoint k
    endpoint_at k = ap (λ n. record { address = k.address; protocol = k.protocol; port = n }) (let e : k.internal + 0 ≡ k.internal = omega arith in e)

-- what owns a port beside the new lease
pushed_owner : (t : Table) (l : MapLease) (o : Owner) → l.count ≡ 1 → IsIn o (owners (record t { maps = t.maps ++ l ∷ [] })) → IsIn o (owners t) ⊎ IsOwnerOf l o
pushed_owner t l o one h =
    elim (IsIn-append (flat_map map_owners (t.maps ++ l ∷ [])) (map peer_owner t.peers) o h) [
      | inl a ↦ (let r = IsIn-flat_map map_owners (t.maps ++ l ∷ []) o a in
          elim (IsIn-append t.maps (l ∷ []) r.0 r.1) [
            | inl old ↦ inl (IsIn-left (flat_map map_owners t.maps) (map peer_owner t.peers) o (flat_map-IsIn map_owners t.maps r.0 o old r.2))
            | inr new ↦ elim new [
              | inl same ↦ inr (one_owner-IsIn l o one (subst (λ (x : MapLease). IsIn o (map_owners x)) (sym same) r.2))
              | inr none ↦ absurd none
            ]
          ])
      | inr b ↦ inl (IsIn-right (flat_map map_owners t.maps) (map peer_owner t.peers) o b)
    ]

-- A table has room for a lease of one port: its endpoint and its port are no lease's.
pub record IsRoomFor (t : Table) (l : MapLease) : Type 0 where
  pub one : l.count ≡ 1
  pub uncovered : AllByRecursion (λ x. covers x (first_endpoint l) ≡ false) t.maps
  pub unnamed : AllByRecursion (λ x. names x (first_endpoint l) ≡ false) t.peers
  pub free : AllByRecursion (λ o. is_port l.protocol l.external o ≡ false) (owners t)
  pub room : length t.maps + length t.peers < 32768

-- no owner has the endpoint of the new lease
no_owner : (t : Table) (l : MapLease) (o : Owner) → IsRoomFor t l → IsIn o (owners t) → o.endpoint ≡ first_endpoint l → ⊥
no_owner t l o r h same =
    elim (IsIn-append (flat_map map_owners t.maps) (map peer_owner t.peers) o h) [
      | inl a ↦ (let k = IsIn-flat_map map_owners t.maps o a in
          let covered : covers k.0 (first_endpoint l) ≡ true = subst (λ (e : Endpoint). covers k.0 e ≡ true) same (owner-covered k.0 o k.2) in
          let uncovered : covers k.0 (first_endpoint l) ≡ false = All-IsIn (λ x. covers x (first_endpoint l) ≡ false) t.maps k.0 r.uncovered k.1 in
          absurd cc)
      | inr b ↦ (let k = IsIn-map peer_owner t.peers o b in
          let named : names k.0 (first_endpoint l) ≡ true = (same_endpoint-Decides k.0.endpoint (first_endpoint l)).1 (ap (λ (x : Owner). x.endpoint) k.2 ∙ same) in
          let unnamed : names k.0 (first_endpoint l) ≡ false = All-IsIn (λ x. names x (first_endpoint l) ≡ false) t.peers k.0 r.unnamed k.1 in
          absurd cc)
    ]

-- no owner has its port
no_port : (t : Table) (l : MapLease) (o : Owner) → IsRoomFor t l → IsIn o (owners t) → o.protocol ≡ l.protocol → o.external ≡ l.external → ⊥
no_port t l o r h protocol external =
    let taken : is_port l.protocol l.external o ≡ true = and_from _ _ ((same_protocol-Decides o.protocol l.protocol).1 protocol) (eq-eqb o.external l.external external) in
    let free : is_port l.protocol l.external o ≡ false = All-IsIn (λ x. is_port l.protocol l.external x ≡ false) (owners t) o r.free h in
    absurd cc

apart_from_new : (t : Table) (l : MapLease) → IsRoomFor t l → AllByRecursion (λ x. AreApart x l) t.maps
apart_from_new t l r = All-from_IsIn (λ x. AreApart x l) t.maps (λ x h e a b.
    let uncovered : covers x (first_endpoint l) ≡ false = All-IsIn (λ y. covers y (first_endpoint l) ≡ false) t.maps x r.uncovered h in
    let covered : covers x (first_endpoint l) ≡ true = subst (λ (z : Endpoint). covers x z ≡ true) (sym (covers-one l e r.one b)) a in
    absurd cc)

OneOwner-pushed : (t : Table) (l : MapLease) → OneOwner (owners t) → IsRoomFor t l → OneOwner (owners (record t { maps = t.maps ++ l ∷ [] }))
OneOwner-pushed t l h r p q a b protocol external =
    elim (pushed_owner t l p r.one (IsIn-from_Contains _ p a)) [
      | inl old ↦ elim (pushed_owner t l q r.one (IsIn-from_Contains _ q b)) [
        | inl old' ↦ h p q (Contains-from_IsIn (owners t) p old) (Contains-from_IsIn (owners t) q old') protocol external
        | inr new' ↦ absurd (no_port t l p r old (protocol ∙ new'.0) (external ∙ new'.1))
      ]
      | inr new ↦ elim (pushed_owner t l q r.one (IsIn-from_Contains _ q b)) [
        | inl old' ↦ absurd (no_port t l q r old' (sym protocol ∙ new.0) (sym external ∙ new.1))
        | inr new' ↦ new.2 ∙ sym new'.2
      ]
    ]

OnePort-pushed : (t : Table) (l : MapLease) → OnePort (owners t) → IsRoomFor t l → OnePort (owners (record t { maps = t.maps ++ l ∷ [] }))
OnePort-pushed t l h r p q a b same =
    elim (pushed_owner t l p r.one (IsIn-from_Contains _ p a)) [
      | inl old ↦ elim (pushed_owner t l q r.one (IsIn-from_Contains _ q b)) [
        | inl old' ↦ h p q (Contains-from_IsIn (owners t) p old) (Contains-from_IsIn (owners t) q old') same
        | inr new' ↦ absurd (no_owner t l p r old (same ∙ new'.2))
      ]
      | inr new ↦ elim (pushed_owner t l q r.one (IsIn-from_Contains _ q b)) [
        | inl old' ↦ absurd (no_owner t l q r old' (sym same ∙ new.2))
        | inr new' ↦ new.1 ∙ sym new'.1
      ]
    ]

-- one more lease
Sound-pushed : (t : Table) (l : MapLease) → Sound t → IsMapLease l → IsRoomFor t l → Sound (record t { maps = t.maps ++ l ∷ [] })
Sound-pushed t l h formed r = record {
  maps = All-push IsMapLease t.maps l h.maps formed;
  peers = h.peers;
  apart = EachTwo-push AreApart t.maps l h.apart (apart_from_new t l r);
  different = h.different;
  one_owner = OneOwner-pushed t l h.one_owner r;
  one_port = OnePort-pushed t l h.one_port r;
  few = omega (arith, r.room, length-append t.maps (l ∷ []));
  few_peers = h.few_peers;
}

-- a lease that doesn't cover an endpoint hasn't it as its key
pub other_key : (x : MapLease) (e : Endpoint) → 0 < x.count → covers x e ≡ false → is_map_of e x ≡ false
other_key x e some h = false_from_ne_true (is_map_of e x) (λ yes.
    let covered : covers x e ≡ true = subst (λ (z : Endpoint). covers x z ≡ true) ((same_endpoint-Decides (first_endpoint x) e).0 yes) (covers-first x some) in
    absurd cc)

pub Sound-put_new : (t : Table) (l : MapLease) → Sound t → IsMapLease l → IsRoomFor t l →
    Sound (record t { maps = put (is_map_of (first_endpoint l)) l t.maps })
Sound-put_new t l h formed r =
    let keys : AllByRecursion (λ x. is_map_of (first_endpoint l) x ≡ false) t.maps = All-from_IsIn (λ x. is_map_of (first_endpoint l) x ≡ false) t.maps
    (λ x a. other_key x (first_endpoint l) (All-IsIn IsMapLease t.maps x h.maps a).ports.some (All-IsIn (λ y. covers y (first_endpoint l) ≡ false) t.maps x r.uncovered a)) in
    subst (λ (maps : List MapLease). Sound (record t { maps = maps })) (sym (put-end t.maps l keys)) (Sound-pushed t l h formed r)

-- two leases with one key are one lease
pub same_key : (maps : List MapLease) (a b : MapLease) → EachTwo AreApart maps → AllByRecursion IsMapLease maps → IsIn a maps → IsIn b maps →
    first_endpoint a ≡ first_endpoint b → a ≡ b
same_key [] a b apart formed h k same = absurd h
same_key (x ∷ xs) a b apart formed (inl e) (inl f) same = sym e ∙ f
same_key (x ∷ xs) a b apart formed (inr h) (inr k) same = same_key xs a b apart.1 formed.1 h k same
same_key (x ∷ xs) a b apart formed (inl e) (inr k) same =
    let formed_b = All-IsIn IsMapLease xs b formed.1 k in
    let at : first_endpoint x ≡ first_endpoint b = ap first_endpoint e ∙ same in
    absurd (All-IsIn (AreApart x) xs b apart.0 k (first_endpoint b)
    (subst (λ (z : Endpoint). covers x z ≡ true) at (covers-first x formed.0.ports.some)) (covers-first b formed_b.ports.some))
same_key (x ∷ xs) a b apart formed (inr h) (inl f) same =
    let formed_a = All-IsIn IsMapLease xs a formed.1 h in
    let at : first_endpoint x ≡ first_endpoint a = ap first_endpoint f ∙ sym same in
    absurd (All-IsIn (AreApart x) xs a apart.0 h (first_endpoint a)
    (subst (λ (z : Endpoint). covers x z ≡ true) at (covers-first x formed.0.ports.some)) (covers-first a formed_a.ports.some))

-- a lease stays where another is put, but where it has the key
pub put-keeps : (has_key : MapLease → Bool) (l new : MapLease) (maps : List MapLease) → IsIn l maps → IsIn l (put has_key new maps) ⊎ (has_key l ≡ true)
put-keeps has_key l new [] h = absurd h
put-keeps has_key l new (x ∷ xs) (inl e) =
    cond_both (has_key x) (new ∷ xs) (x ∷ put has_key new xs) (λ ys. IsIn l ys ⊎ (has_key l ≡ true)) (λ yes. inr (rw e at yes)) (λ _. inl (inl e))
put-keeps has_key l new (x ∷ xs) (inr h) =
    cond_both (has_key x) (new ∷ xs) (x ∷ put has_key new xs) (λ ys. IsIn l ys ⊎ (has_key l ≡ true)) (λ _. inl (inr h))
    (λ _. elim (put-keeps has_key l new xs h) [ inl a ↦ inl (inr a) | inr k ↦ inr k ])

-- the key of a lease
pub key-same : (a b : MapLease) → is_map_of (first_endpoint b) a ≡ true → first_endpoint a ≡ first_endpoint b
key-same a b h = (same_endpoint-Decides (first_endpoint a) (first_endpoint b)).0 h

pub key-own : (l : MapLease) → is_map_of (first_endpoint l) l ≡ true
key-own l = (same_endpoint-Decides (first_endpoint l) (first_endpoint l)).1 refl
