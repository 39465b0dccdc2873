-- A sound table stays sound where leases are renewed or deleted, and where a new one comes exactly if there is room for it.
use Rattle.std.specs.Prelude.{◌≡◌, refl, ℕ, ◌+◌, ◌<◌, ◌≤◌, ◌⊎◌, not, Bool, true, false, List, [], ◌∷◌, ◌++◌, length, map, flat_map, filter, count_by, find, Option, Some, None, IfSome, IfNone, if◌then◌else◌}
use Rattle.std.specs.List.{AllByRecursion, AllZip}
use Rattle.std.proofs.Common.{inl, inr, sym, ap, ◌∙◌, subst, arith, length-append}
use Rattle.std.proofs.lemmas.List.Elements.{length_all_zip}
use Rattle.std.proofs.lemmas.List.Sums.{sum_by-append}
use Rattle.pcp_base.specs.declared.leases.Endpoint.{Endpoint}
use Rattle.pcp_base.specs.declared.leases.MapLease.{MapLease}
use Rattle.pcp_base.specs.declared.leases.PeerLease.{PeerLease}
use Rattle.pcp_base.specs.declared.leases.Owner.{Owner}
use Rattle.pcp_base.specs.declared.records.Change.{Change}
use Rattle.pcp_base.specs.declared.records.Change.TheVariants.{Start, Map, Peer, DropMap, DropPeer, Lose, Mark, Rest, Renumber}
use Rattle.pcp_base.specs.declared.records.Record.{Record}
use Rattle.pcp_base.specs.Tables.{Table, live, put, covers, first_endpoint, is_map_of, is_peer_of, names, EachTwo, IsMapLease, IsPeerLease, AreApart, HaveOtherKeys}
use Rattle.pcp_base.specs.Owners.{map_owner, map_owners, peer_owner, owners, OneOwner, OnePort}
use Rattle.pcp_base.specs.Records.{IsWellFormedChange}
use Rattle.pcp_base.specs.Apply.{table_changed}
use Rattle.pcp_base.specs.Sound.{Sound, SoundState}
use Rattle.pcp_base.specs.States.{State}
use Rattle.pcp_base.specs.Fits.{IsAllowed, Fits}
use Rattle.pcp_base.specs.Rooms.{Agree, HasRoomForMap, HasRoomForPeer, HasRoom, Suits}
use Rattle.pcp_base.proofs.Same.{same_endpoint-Decides}
use Rattle.pcp_base.proofs.Members.{IsIn, IsIn-from_Contains, Contains-from_IsIn, All-IsIn, All-from_IsIn, All-push, All-filter, EachTwo-push, EachTwo-filter, find-none, AllZip-refl, AllZip-each_two, AllZip-flat_map, IsIn-left, IsIn-right, IsIn-filter, map-IsIn, flat_map-IsIn}
use Rattle.pcp_base.proofs.TableLemmas.{map_owners-IsIn, owners-fewer, OneOwner-fewer, OnePort-fewer, Sound-empty, Sound-live, Sound-filter_maps, count-filter, length-fewer}
use Rattle.pcp_base.proofs.EndLemmas.{put-IsIn, owners-put_map, owners-put_peer}
use Rattle.pcp_base.proofs.StageLaws.{two_ways}
use Rattle.pcp_base.proofs.ApplyLaws.{SoundState-apply}

-- ---- what a look-up gives

some_or_none : {X : Type 0} (o : Option X) → ((x : X) × (o ≡ Some x)) ⊎ (o ≡ None)
some_or_none (Some x) = inl (x, refl)
some_or_none None = inr refl

given : {X : Type 0} (o : Option X) (x : X) (P : X → Type 0) → o ≡ Some x → IfSome o P → P x
given o x P e h = subst (λ o. IfSome o P) e h

given_none : {X : Type 0} (o : Option X) (P : Type 0) → o ≡ None → IfNone o P → P
given_none o P e h = subst (λ o. IfNone o P) e h

pub none_given : {X : Type 0} (o : Option X) (P : Type 0) → (o ≡ None → P) → IfNone o P
none_given (Some x) P f = tt
none_given None P f = f refl

abbrev some : {X : Type 0} → X → Option X
some x = Some x

some_same : {X : Type 0} (x y : X) → some x ≡ some y → x ≡ y
some_same x y h = cc

-- ---- two lists of owners that agree

OneOwner-both : (os xs ys : List Owner) → ((o : Owner) → IsIn o os → IsIn o xs ⊎ IsIn o ys) → OneOwner xs → OneOwner ys → Agree xs ys → OneOwner os
OneOwner-both os xs ys f h k agree p q a b protocol external =
    elim (f p (IsIn-from_Contains os p a)) [
      | inl px ↦ elim (f q (IsIn-from_Contains os q b)) [
        | inl qx ↦ h p q (Contains-from_IsIn xs p px) (Contains-from_IsIn xs q qx) protocol external
        | inr qy ↦ agree.owner p q (Contains-from_IsIn xs p px) (Contains-from_IsIn ys q qy) protocol external
      ]
      | inr py ↦ elim (f q (IsIn-from_Contains os q b)) [
        | inl qx ↦ sym (agree.owner q p (Contains-from_IsIn xs q qx) (Contains-from_IsIn ys p py) (sym protocol) (sym external))
        | inr qy ↦ k p q (Contains-from_IsIn ys p py) (Contains-from_IsIn ys q qy) protocol external
      ]
    ]

OnePort-both : (os xs ys : List Owner) → ((o : Owner) → IsIn o os → IsIn o xs ⊎ IsIn o ys) → OnePort xs → OnePort ys → Agree xs ys → OnePort os
OnePort-both os xs ys f h k agree p q a b same =
    elim (f p (IsIn-from_Contains os p a)) [
      | inl px ↦ elim (f q (IsIn-from_Contains os q b)) [
        | inl qx ↦ h p q (Contains-from_IsIn xs p px) (Contains-from_IsIn xs q qx) same
        | inr qy ↦ agree.port p q (Contains-from_IsIn xs p px) (Contains-from_IsIn ys q qy) same
      ]
      | inr py ↦ elim (f q (IsIn-from_Contains os q b)) [
        | inl qx ↦ sym (agree.port q p (Contains-from_IsIn xs q qx) (Contains-from_IsIn ys p py) (sym same))
        | inr qy ↦ k p q (Contains-from_IsIn ys p py) (Contains-from_IsIn ys q qy) same
      ]
    ]

Agree-within : (os xs ys : List Owner) → ((o : Owner) → IsIn o xs → IsIn o os) → ((o : Owner) → IsIn o ys → IsIn o os) → OneOwner os → OnePort os → Agree xs ys
Agree-within os xs ys f g h k = record {
  owner = λ p q a b. h p q (Contains-from_IsIn os p (f p (IsIn-from_Contains xs p a))) (Contains-from_IsIn os q (g q (IsIn-from_Contains ys q b)));
  port = λ p q a b. k p q (Contains-from_IsIn os p (f p (IsIn-from_Contains xs p a))) (Contains-from_IsIn os q (g q (IsIn-from_Contains ys q b)));
}

-- ---- the ports of one lease

map_owners-one_owner : (l : MapLease) → OneOwner (map_owners l)
map_owners-one_owner l p q a b protocol external =
    let i = map_owners-IsIn l p (IsIn-from_Contains (map_owners l) p a) in
    let j = map_owners-IsIn l q (IsIn-from_Contains (map_owners l) q b) in
    let ports : l.external + i.0 ≡ l.external + j.0 = ap (λ (o : Owner). o.external) i.2 ∙ external ∙ sym (ap (λ (o : Owner). o.external) j.2) in
    let same : i.0 ≡ j.0 = omega arith in
    sym (ap (λ (o : Owner). o.endpoint) i.2) ∙ ap (λ n. (map_owner l n).endpoint) same ∙ ap (λ (o : Owner). o.endpoint) j.2

map_owners-one_port : (l : MapLease) → OnePort (map_owners l)
map_owners-one_port l p q a b endpoints =
    let i = map_owners-IsIn l p (IsIn-from_Contains (map_owners l) p a) in
    let j = map_owners-IsIn l q (IsIn-from_Contains (map_owners l) q b) in
    let ports : l.internal + i.0 ≡ l.internal + j.0 = ap (λ (o : Owner). o.endpoint.port) i.2 ∙ ap (λ (e : Endpoint). e.port) endpoints ∙ sym (ap (λ (o : Owner). o.endpoint.port) j.2) in
    let same : i.0 ≡ j.0 = omega arith in
    sym (ap (λ (o : Owner). o.external) i.2) ∙ ap (λ n. (map_owner l n).external) same ∙ ap (λ (o : Owner). o.external) j.2

one-one_owner : (o : Owner) → OneOwner (o ∷ [])
one-one_owner o p q a b protocol external = is_one p (IsIn-from_Contains (o ∷ []) p a) ∙ sym (is_one q (IsIn-from_Contains (o ∷ []) q b))
  where
    is_one : (p : Owner) → IsIn p (o ∷ []) → p.endpoint ≡ o.endpoint
    is_one p (inl e) = ap (λ (x : Owner). x.endpoint) (sym e)
    is_one p (inr h) = absurd h

one-one_port : (o : Owner) → OnePort (o ∷ [])
one-one_port o p q a b endpoints = is_one p (IsIn-from_Contains (o ∷ []) p a) ∙ sym (is_one q (IsIn-from_Contains (o ∷ []) q b))
  where
    is_one : (p : Owner) → IsIn p (o ∷ []) → p.external ≡ o.external
    is_one p (inl e) = ap (λ (x : Owner). x.external) (sym e)
    is_one p (inr h) = absurd h

-- ---- a new lease

pub put-last : {X : Type 0} (has_key : X → Bool) (new : X) (xs : List X) → AllByRecursion (λ x. has_key x ≡ false) xs → put has_key new xs ≡ xs ++ new ∷ []
put-last has_key new [] h = refl
put-last has_key new (x ∷ xs) h = rw h.0 (ap (λ ys. x ∷ ys) (put-last has_key new xs h.1))

-- 1 where a test passes
abbrev tally : Bool → ℕ
tally b = if b then 1 else 0

count-push : {X : Type 0} (p : X → Bool) (xs : List X) (x : X) → count_by p (xs ++ x ∷ []) ≡ count_by p xs + tally (p x)
count-push p xs x = let e = sum_by-append (λ y. tally (p y)) xs (x ∷ []) in omega (arith, e)

Sound-new_map : (t : Table) (l : MapLease) → Sound t → IsMapLease l → find (is_map_of (first_endpoint l)) t.maps ≡ None → HasRoomForMap t l → Sound (table_changed (Map l) t)
Sound-new_map t l h formed missing r =
    let key = is_map_of (first_endpoint l) in
    let last = put-last key l t.maps (find-none key t.maps missing) in record {
      maps = subst (λ (ms : List MapLease). AllByRecursion IsMapLease ms) (sym last) (All-push IsMapLease t.maps l h.maps formed);
      peers = h.peers;
      apart = subst (λ (ms : List MapLease). EachTwo AreApart ms) (sym last) (EachTwo-push AreApart t.maps l h.apart r.apart);
      different = h.different;
      one_owner = OneOwner-both (owners (table_changed (Map l) t)) (owners t) (map_owners l) (owners-put_map t key l) h.one_owner (map_owners-one_owner l) r.agree;
      one_port = OnePort-both (owners (table_changed (Map l) t)) (owners t) (map_owners l) (owners-put_map t key l) h.one_port (map_owners-one_port l) r.agree;
      few = omega (arith, r.room, ap length last, length-append t.maps (l ∷ []));
      few_peers = h.few_peers;
    }

few_named : (peers : List PeerLease) (l : PeerLease) (e : Endpoint) → count_by (λ x. names x e) peers ≤ 16 → count_by (λ x. names x l.endpoint) peers < 16 → count_by (λ x. names x e) (peers ++ l ∷ []) ≤ 16
few_named peers l e old new =
    let pushed = count-push (λ x. names x e) peers l in
    elim (two_ways (names l e)) [
      | inr other ↦ (let zero : tally (names l e) ≡ 0 = ap tally other in omega (arith, pushed, zero, old))
      | inl same ↦ (let is : l.endpoint ≡ e = (same_endpoint-Decides l.endpoint e).0 same in
          let less : count_by (λ x. names x e) peers < 16 = subst (λ (x : Endpoint). count_by (λ y. names y x) peers < 16) is new in
          let one : tally (names l e) ≡ 1 = ap tally same in omega (arith, pushed, one, less))
    ]

Sound-new_peer : (t : Table) (l : PeerLease) → Sound t → IsPeerLease l → find (is_peer_of l.endpoint l.remote l.remote_port) t.peers ≡ None → HasRoomForPeer t l → Sound (table_changed (Peer l) t)
Sound-new_peer t l h formed missing r =
    let key = is_peer_of l.endpoint l.remote l.remote_port in
    let others = find-none key t.peers missing in
    let last = put-last key l t.peers others in record {
      maps = h.maps;
      peers = subst (λ (ps : List PeerLease). AllByRecursion IsPeerLease ps) (sym last) (All-push IsPeerLease t.peers l h.peers formed);
      apart = h.apart;
      different = subst (λ (ps : List PeerLease). EachTwo HaveOtherKeys ps) (sym last) (EachTwo-push HaveOtherKeys t.peers l h.different others);
      one_owner = OneOwner-both (owners (table_changed (Peer l) t)) (owners t) (peer_owner l ∷ []) (owners-put_peer t key l) h.one_owner (one-one_owner (peer_owner l)) r.agree;
      one_port = OnePort-both (owners (table_changed (Peer l) t)) (owners t) (peer_owner l ∷ []) (owners-put_peer t key l) h.one_port (one-one_port (peer_owner l)) r.agree;
      few = omega (arith, r.room, ap length last, length-append t.peers (l ∷ []));
      few_peers = λ e. subst (λ (ps : List PeerLease). count_by (λ x. names x e) ps ≤ 16) (sym last) (few_named t.peers l e (h.few_peers e) r.few);
    }

-- ---- a renewal

put-found : {X : Type 0} (R : X → X → Type 0) → ((x : X) → R x x) → (has_key : X → Bool) (new : X) (xs : List X) (old : X) → find has_key xs ≡ Some old → R old new → AllZip R xs (put has_key new xs)
put-found R r has_key new [] old h k = absurd cc
put-found R r has_key new (x ∷ xs) old h k =
    elim (two_ways (has_key x)) [
      | inl is ↦ (let same : x ≡ old = found_first has_key x xs old is h in rw is (subst (λ y. R y new) (sym same) k, AllZip-refl R r xs))
      | inr other ↦ rw other (r x, put-found R r has_key new xs old (found_later has_key x xs old other h) k)
    ]
  where
    found_first : {X : Type 0} (p : X → Bool) (x : X) (xs : List X) (y : X) → p x ≡ true → find p (x ∷ xs) ≡ Some y → x ≡ y
    found_first p x xs y is h = let first : find p (x ∷ xs) ≡ Some x = rw is refl in some_same x y (sym first ∙ h)

    found_later : {X : Type 0} (p : X → Bool) (x : X) (xs : List X) (y : X) → p x ≡ false → find p (x ∷ xs) ≡ Some y → find p xs ≡ Some y
    found_later p x xs y other h = let rest : find p (x ∷ xs) ≡ find p xs = rw other refl in sym rest ∙ h

put-all : {X : Type 0} (P : X → Type 0) (has_key : X → Bool) (new : X) (xs : List X) → P new → AllByRecursion P xs → AllByRecursion P (put has_key new xs)
put-all P has_key new xs h a = All-from_IsIn P (put has_key new xs) (λ x there. elim (put-IsIn has_key new xs x there) [ inl same ↦ subst P (sym same) h | inr old ↦ All-IsIn P xs x a old ])

-- two leases that differ in nothing but the expiry and the filters
abbrev Renewed : MapLease → MapLease → Type 0
Renewed l k = record l { expiry = k.expiry; filters = k.filters } ≡ k

Renewed-apart : (x y u v : MapLease) → Renewed x y → Renewed u v → AreApart x u → AreApart y v
Renewed-apart x y u v r s h e a b = h e (ap (λ (z : MapLease). covers z e) r ∙ a) (ap (λ (z : MapLease). covers z e) s ∙ b)

Renewed-owners : (x y : MapLease) → Renewed x y → map_owners x ≡ map_owners y
Renewed-owners x y r = ap map_owners r

Sound-renewed_map : (t : Table) (l old : MapLease) → Sound t → IsMapLease l → find (is_map_of (first_endpoint l)) t.maps ≡ Some old → Renewed old l → Sound (table_changed (Map l) t)
Sound-renewed_map t l old h formed there same =
    let key = is_map_of (first_endpoint l) in
    let z = put-found Renewed (λ _. refl) key l t.maps old there same in
    let os : owners t ≡ owners (table_changed (Map l) t) = ap (λ os. os ++ map peer_owner t.peers) (AllZip-flat_map Renewed map_owners Renewed-owners t.maps (put key l t.maps) z) in record {
      maps = put-all IsMapLease key l t.maps formed h.maps;
      peers = h.peers;
      apart = AllZip-each_two Renewed AreApart Renewed-apart t.maps (put key l t.maps) z h.apart;
      different = h.different;
      one_owner = subst OneOwner os h.one_owner;
      one_port = subst OnePort os h.one_port;
      few = omega (arith, h.few, length_all_zip Renewed t.maps (put key l t.maps) z);
      few_peers = h.few_peers;
    }

abbrev Prolonged : PeerLease → PeerLease → Type 0
Prolonged l k = record l { expiry = k.expiry } ≡ k

Prolonged-keys : (x y u v : PeerLease) → Prolonged x y → Prolonged u v → HaveOtherKeys x u → HaveOtherKeys y v
Prolonged-keys x y u v r s h =
    ap (λ (z : PeerLease). is_peer_of v.endpoint v.remote v.remote_port z) (sym r)
    ∙ ap (λ (z : PeerLease). is_peer_of z.endpoint z.remote z.remote_port x) (sym s) ∙ h

AllZip-map : {X Y : Type 0} (R : X → X → Type 0) (f : X → Y) → ((x y : X) → R x y → f x ≡ f y) → (xs ys : List X) → AllZip R xs ys → map f xs ≡ map f ys
AllZip-map R f same [] [] z = refl
AllZip-map R f same [] (y ∷ ys) z = absurd z
AllZip-map R f same (x ∷ xs) [] z = absurd z
AllZip-map R f same (x ∷ xs) (y ∷ ys) z =
    let here : f x ≡ f y = same x y z.0 in let rest : map f xs ≡ map f ys = AllZip-map R f same xs ys z.1 in cc

count-cons : {X : Type 0} (p : X → Bool) (x : X) (xs : List X) → count_by p (x ∷ xs) ≡ tally (p x) + count_by p xs
count-cons p x xs = let e = sum_by-append (λ y. tally (p y)) (x ∷ []) xs in omega (arith, e)

AllZip-count : {X : Type 0} (R : X → X → Type 0) (p : X → Bool) → ((x y : X) → R x y → p x ≡ p y) → (xs ys : List X) → AllZip R xs ys → count_by p xs ≡ count_by p ys
AllZip-count R p same [] [] z = refl
AllZip-count R p same [] (y ∷ ys) z = absurd z
AllZip-count R p same (x ∷ xs) [] z = absurd z
AllZip-count R p same (x ∷ xs) (y ∷ ys) z =
    let here : tally (p x) ≡ tally (p y) = ap tally (same x y z.0) in
    let rest : count_by p xs ≡ count_by p ys = AllZip-count R p same xs ys z.1 in
    count-cons p x xs ∙ ap (λ n. n + count_by p xs) here ∙ ap (λ n. tally (p y) + n) rest ∙ sym (count-cons p y ys)

Sound-renewed_peer : (t : Table) (l old : PeerLease) → Sound t → IsPeerLease l → find (is_peer_of l.endpoint l.remote l.remote_port) t.peers ≡ Some old → Prolonged old l → Sound (table_changed (Peer l) t)
Sound-renewed_peer t l old h formed there same =
    let key = is_peer_of l.endpoint l.remote l.remote_port in
    let z = put-found Prolonged (λ _. refl) key l t.peers old there same in
    let os : owners t ≡ owners (table_changed (Peer l) t) = ap (λ os. flat_map map_owners t.maps ++ os) (AllZip-map Prolonged peer_owner (λ x y r. ap peer_owner r) t.peers (put key l t.peers) z) in record {
      maps = h.maps;
      peers = put-all IsPeerLease key l t.peers formed h.peers;
      apart = h.apart;
      different = AllZip-each_two Prolonged HaveOtherKeys Prolonged-keys t.peers (put key l t.peers) z h.different;
      one_owner = subst OneOwner os h.one_owner;
      one_port = subst OnePort os h.one_port;
      few = omega (arith, h.few, length_all_zip Prolonged t.peers (put key l t.peers) z);
      few_peers = λ e. omega (arith, h.few_peers e, AllZip-count Prolonged (λ x. names x e) (λ x y r. ap (λ (k : PeerLease). names k e) r) t.peers (put key l t.peers) z);
    }

-- fewer PEER leases
Sound-filter_peers : (t : Table) (q : PeerLease → Bool) → Sound t → Sound (record t { peers = filter q t.peers })
Sound-filter_peers t q h =
    let within = owners-fewer t.maps t.maps t.peers (filter q t.peers) (λ l a. a) (λ l a. (IsIn-filter q t.peers l a).0) in
    record {
      maps = h.maps;
      peers = All-filter IsPeerLease q t.peers h.peers;
      apart = h.apart;
      different = EachTwo-filter HaveOtherKeys q t.peers h.different;
      one_owner = OneOwner-fewer (owners t) _ within h.one_owner;
      one_port = OnePort-fewer (owners t) _ within h.one_port;
      few = omega (arith, h.few, length-fewer q t.peers);
      few_peers = λ e. omega (arith, h.few_peers e, count-filter (λ l. names l e) q t.peers);
    }

-- ---- every change

-- A sound table stays sound under an allowed change for which it has room.
pub Sound-changed : (t : Table) (m : ℕ) (change : Change) → Sound t → IsWellFormedChange m change → IsAllowed t change → HasRoom t change → Sound (table_changed change t)
Sound-changed t m Start h formed allowed room = Sound-empty
Sound-changed t m Lose h formed allowed room = Sound-empty
Sound-changed t m (Map l) h formed allowed room =
    elim (some_or_none (find (is_map_of (first_endpoint l)) t.maps)) [
      | inl old ↦ Sound-renewed_map t l old.0 h formed.0 old.1
          (sym (given (find (is_map_of (first_endpoint l)) t.maps) old.0 (λ old. l ≡ record old { expiry = l.expiry; filters = l.filters }) old.1 allowed))
      | inr missing ↦ Sound-new_map t l h formed.0 missing (given_none (find (is_map_of (first_endpoint l)) t.maps) (HasRoomForMap t l) missing room)
    ]
Sound-changed t m (Peer l) h formed allowed room =
    elim (some_or_none (find (is_peer_of l.endpoint l.remote l.remote_port) t.peers)) [
      | inl old ↦ Sound-renewed_peer t l old.0 h formed.0 old.1
          (sym (given (find (is_peer_of l.endpoint l.remote l.remote_port) t.peers) old.0 (λ old. l ≡ record old { expiry = l.expiry }) old.1 allowed))
      | inr missing ↦ Sound-new_peer t l h formed.0 missing (given_none (find (is_peer_of l.endpoint l.remote l.remote_port) t.peers) (HasRoomForPeer t l) missing room)
    ]
Sound-changed t m (DropMap e) h formed allowed room = Sound-filter_maps t (λ l. not (is_map_of e l)) h
Sound-changed t m (DropPeer e remote port) h formed allowed room = Sound-filter_peers t (λ l. not (is_peer_of e remote port l)) h
Sound-changed t m Mark h formed allowed room = h
Sound-changed t m (Rest e port end) h formed allowed room = h
Sound-changed t m (Renumber a) h formed allowed room = h

-- ---- the room is needed

EachTwo-last : {X : Type 0} (R : X → X → Type 0) (xs : List X) (x : X) → EachTwo R (xs ++ x ∷ []) → AllByRecursion (λ y. R y x) xs
EachTwo-last R [] x h = tt
EachTwo-last R (y ∷ ys) x h = (All-last (R y) ys x h.0, EachTwo-last R ys x h.1)
  where
    All-last : {X : Type 0} (P : X → Type 0) (xs : List X) (x : X) → AllByRecursion P (xs ++ x ∷ []) → P x
    All-last P [] x h = h.0
    All-last P (y ∷ ys) x h = All-last P ys x h.1

IsIn-put_last : {X : Type 0} (xs : List X) (x y : X) → IsIn y xs → IsIn y (xs ++ x ∷ [])
IsIn-put_last xs x y h = IsIn-left xs (x ∷ []) y h

room-of_map : (t : Table) (l : MapLease) → find (is_map_of (first_endpoint l)) t.maps ≡ None → Sound (table_changed (Map l) t) → HasRoomForMap t l
room-of_map t l missing h =
    let key = is_map_of (first_endpoint l) in
    let maps = t.maps ++ l ∷ [] in
    let last = put-last key l t.maps (find-none key t.maps missing) in
    let here : Sound (record t { maps = maps }) = subst (λ (ms : List MapLease). Sound (record t { maps = ms })) last h in
    let os = owners (record t { maps = maps }) in record {
      apart = EachTwo-last AreApart t.maps l here.apart;
      agree = Agree-within os (owners t) (map_owners l)
          (λ o k. owners-fewer maps t.maps t.peers t.peers (λ x a. IsIn-left t.maps (l ∷ []) x a) (λ x a. a) o k)
          (λ o k. IsIn-left (flat_map map_owners maps) (map peer_owner t.peers) o (flat_map-IsIn map_owners maps l o (IsIn-right t.maps (l ∷ []) l (inl refl)) k))
          here.one_owner here.one_port;
      room = omega (arith, here.few, length-append t.maps (l ∷ []));
    }

room-of_peer : (t : Table) (l : PeerLease) → find (is_peer_of l.endpoint l.remote l.remote_port) t.peers ≡ None → Sound (table_changed (Peer l) t) → HasRoomForPeer t l
room-of_peer t l missing h =
    let key = is_peer_of l.endpoint l.remote l.remote_port in
    let peers = t.peers ++ l ∷ [] in
    let last = put-last key l t.peers (find-none key t.peers missing) in
    let here : Sound (record t { peers = peers }) = subst (λ (ps : List PeerLease). Sound (record t { peers = ps })) last h in
    let os = owners (record t { peers = peers }) in
    let own : names l l.endpoint ≡ true = (same_endpoint-Decides l.endpoint l.endpoint).1 refl in
    let one : tally (names l l.endpoint) ≡ 1 = ap tally own in record {
      few = omega (arith, here.few_peers l.endpoint, count-push (λ x. names x l.endpoint) t.peers l, one);
      agree = Agree-within os (owners t) (peer_owner l ∷ [])
          (λ o k. owners-fewer t.maps t.maps peers t.peers (λ x a. a) (λ x a. IsIn-left t.peers (l ∷ []) x a) o k)
          (λ o k. elim k [
            | inl same ↦ IsIn-right (flat_map map_owners t.maps) (map peer_owner peers) o (subst (λ (x : Owner). IsIn x (map peer_owner peers)) same (map-IsIn peer_owner peers l (IsIn-right t.peers (l ∷ []) l (inl refl))))
            | inr none ↦ absurd none
          ])
          here.one_owner here.one_port;
      room = omega (arith, here.few, length-append t.peers (l ∷ []));
    }

-- the table has room for what leaves it sound
pub HasRoom-needed : (t : Table) (change : Change) → Sound (table_changed change t) → HasRoom t change
HasRoom-needed t (Map l) h = none_given (find (is_map_of (first_endpoint l)) t.maps) (HasRoomForMap t l) (λ missing. room-of_map t l missing h)
HasRoom-needed t (Peer l) h = none_given (find (is_peer_of l.endpoint l.remote l.remote_port) t.peers) (HasRoomForPeer t l) (λ missing. room-of_peer t l missing h)
HasRoom-needed t Start h = tt
HasRoom-needed t Lose h = tt
HasRoom-needed t (DropMap e) h = tt
HasRoom-needed t (DropPeer e remote port) h = tt
HasRoom-needed t Mark h = tt
HasRoom-needed t (Rest e port end) h = tt
HasRoom-needed t (Renumber a) h = tt

-- ---- which records fit

pub Fits-from_Suits : (s : State) (r : Record) → SoundState s → Suits s r → Fits s r
Fits-from_Suits s r h suits = record {
  formed = suits.formed;
  first = suits.first;
  later = suits.later;
  allowed = suits.allowed;
  rested = suits.rested;
  sound = SoundState-apply s r h suits.rested
      (Sound-changed (live s.table r.moment) r.moment r.change (Sound-live s.table r.moment h.table) suits.formed.change suits.allowed suits.room);
}

pub Suits-from_Fits : (s : State) (r : Record) → Fits s r → Suits s r
Suits-from_Fits s r fits = record {
  formed = fits.formed;
  first = fits.first;
  later = fits.later;
  allowed = fits.allowed;
  rested = fits.rested;
  room = HasRoom-needed (live s.table r.moment) r.change fits.sound.table;
}
