-- The ends after a record are those at its moment, changed by the record alone: what expired by then may leave first.
use Rattle.std.specs.Prelude.{◌≡◌, refl, ℕ, ◌⊎◌, not, Bool, true, false, List, [], ◌∷◌, ◌++◌, map, flat_map, filter, find, IfSome, Option, Some}
use Rattle.std.proofs.Common.{inl, inr, sym, ap, ◌∙◌, subst, arith}
use Rattle.std.proofs.lemmas.Bool.{cond_both, cond-false, not-true, not_from_false, and_from, eq-eqb}
use Rattle.std.proofs.lemmas.List.{append-nil}
use Rattle.pcp_base.specs.declared.leases.Protocol.{Protocol}
use Rattle.pcp_base.specs.declared.leases.MapLease.{MapLease}
use Rattle.pcp_base.specs.declared.leases.PeerLease.{PeerLease}
use Rattle.pcp_base.specs.declared.leases.Endpoint.{Endpoint}
use Rattle.pcp_base.specs.declared.leases.Owner.{Owner}
use Rattle.pcp_base.specs.declared.leases.End.{End}
use Rattle.pcp_base.specs.declared.records.Change.{Change}
use Rattle.pcp_base.specs.declared.records.Change.TheVariants.{Start, Map, Peer, DropMap, DropPeer, Lose, Mark, Rest, Renumber}
use Rattle.pcp_base.specs.declared.records.Record.{Record}
use Rattle.pcp_base.specs.Protocols.{protocol_number}
use Rattle.pcp_base.specs.Tables.{Table, live, dead, put, first_endpoint, is_map_of, is_peer_of}
use Rattle.pcp_base.specs.Owners.{map_owners, peer_owner, owners, is_owned}
use Rattle.pcp_base.specs.States.{State}
use Rattle.pcp_base.specs.Ends.{end_at, ends_at_expiry, is_before, with_end, is_owned_by, with_left, ends_by, is_end_of}
use Rattle.pcp_base.specs.Apply.{empties, table_changed, deleted, ends_changed, table_2, ends_2, ends_3}
use Rattle.pcp_base.specs.Sound.{SoundState}
use Rattle.pcp_base.specs.Fits.{IsAllowed, IsRested, IsUnused}
use Rattle.pcp_base.proofs.Members.{IsIn, All-IsIn, All-from_IsIn, All-filter, any-none, IsIn-filter, filter-IsIn, EachTwo-filter, IsIn-append, IsIn-left, IsIn-right, IsIn-map, map-IsIn, IsIn-flat_map, flat_map-IsIn}
use Rattle.pcp_base.proofs.EndOrder.{SamePort, SamePort-sym, InOrder, InOrder-one, with_end-all, with_end-ordered, with_ends-ordered, with_end-has, with_end-keeps}
use Rattle.pcp_base.proofs.EndLemmas.{left-by_deletion, left-owned, expired-by, owned-some, some-owned, unowned-fewer, unowned-both, owners-live, owners-deleted, owners-put_map, owners-put_peer, owner-protocol}
use Rattle.pcp_base.proofs.RestLaws.{owned-same, InOrder-same, AreLeft, with_left-parts, with_left-old, with_left-new}
use Rattle.pcp_base.proofs.ApplyLaws.{owners-kept, IsDeletion}
use Rattle.pcp_base.proofs.StageLaws.{two_ways, unlike, AreStages, two_stages, expired_left}

abbrev expired : State → ℕ → List End
expired s m = ends_at_expiry (dead s.table m)

expired_beside : (s : State) (m : ℕ) → SoundState s → AreLeft s.table (expired s m) s.ends
expired_beside s m h = record { one = h.table.one_owner; by_lease = expired_left s.table m; ordered = h.ordered; unowned = h.unowned }

ends_by-ordered : (s : State) (m : ℕ) → SoundState s → InOrder (ends_by s m)
ends_by-ordered s m h = with_ends-ordered (filter (λ e. not (is_owned_by (owners (live s.table m)) e)) (expired s m)) s.ends h.ordered

-- ---- a lease is put

-- what another lease is put for is the one that a look-up gives
pub put-or : {X : Type 0} (has_key : X → Bool) (new : X) (xs : List X) (x : X) → IsIn x xs → IsIn x (put has_key new xs) ⊎ (find has_key xs ≡ Some x)
put-or has_key new [] x h = absurd h
put-or {X = X} has_key new (y ∷ ys) x (inl e) =
    elim (two_ways (has_key y)) [
      | inl is ↦ inr (rw is (ap (λ z. Some z) e))
      | inr other ↦ inl (rw other (inl e))
    ]
put-or {X = X} has_key new (y ∷ ys) x (inr h) =
    elim (two_ways (has_key y)) [
      | inl is ↦ inl (rw is (inr h))
      | inr other ↦ elim (put-or has_key new ys x h) [
        | inl a ↦ inl (rw other (inr a))
        | inr b ↦ inr (rw other b)
      ]
    ]

pub put-new : {X : Type 0} (has_key : X → Bool) (new : X) (xs : List X) → IsIn new (put has_key new xs)
put-new has_key new [] = inl refl
put-new has_key new (y ∷ ys) = cond_both (has_key y) (new ∷ ys) (y ∷ put has_key new ys) (λ zs. IsIn new zs) (λ _. inl refl) (λ _. inr (put-new has_key new ys))

pub found : {X : Type 0} (P : X → Type 0) (o : Option X) (x : X) → o ≡ Some x → IfSome o P → P x
found P o x e h = subst (λ o. IfSome o P) e h

put_map-keeps : (t : Table) (l : MapLease) → IsAllowed t (Map l) → (o : Owner) → IsIn o (owners t) → IsIn o (owners (table_changed (Map l) t))
put_map-keeps t l allowed o h =
    let maps = put (is_map_of (first_endpoint l)) l t.maps in
    elim (IsIn-append (flat_map map_owners t.maps) (map peer_owner t.peers) o h) [
      | inl a ↦ (let r = IsIn-flat_map map_owners t.maps o a in
          elim (put-or (is_map_of (first_endpoint l)) l t.maps r.0 r.1) [
            | inl still ↦ IsIn-left (flat_map map_owners maps) (map peer_owner t.peers) o (flat_map-IsIn map_owners maps r.0 o still r.2)
            | inr old ↦ (let same = ap map_owners (found (λ old. l ≡ record old { expiry = l.expiry; filters = l.filters }) (find (is_map_of (first_endpoint l)) t.maps) r.0 old allowed) in
                IsIn-left (flat_map map_owners maps) (map peer_owner t.peers) o
                (flat_map-IsIn map_owners maps l o (put-new (is_map_of (first_endpoint l)) l t.maps) (subst (λ (os : List Owner). IsIn o os) (sym same) r.2)))
          ])
      | inr b ↦ IsIn-right (flat_map map_owners maps) (map peer_owner t.peers) o b
    ]

put_map-new : (t : Table) (l : MapLease) (o : Owner) → IsIn o (map_owners l) → IsIn o (owners (table_changed (Map l) t))
put_map-new t l o h =
    let maps = put (is_map_of (first_endpoint l)) l t.maps in
    IsIn-left (flat_map map_owners maps) (map peer_owner t.peers) o (flat_map-IsIn map_owners maps l o (put-new (is_map_of (first_endpoint l)) l t.maps) h)

put_peer-keeps : (t : Table) (l : PeerLease) → IsAllowed t (Peer l) → (o : Owner) → IsIn o (owners t) → IsIn o (owners (table_changed (Peer l) t))
put_peer-keeps t l allowed o h =
    let key = is_peer_of l.endpoint l.remote l.remote_port in
    let peers = put key l t.peers in
    elim (IsIn-append (flat_map map_owners t.maps) (map peer_owner t.peers) o h) [
      | inl a ↦ IsIn-left (flat_map map_owners t.maps) (map peer_owner peers) o a
      | inr b ↦ (let r = IsIn-map peer_owner t.peers o b in
          elim (put-or key l t.peers r.0 r.1) [
            | inl still ↦ IsIn-right (flat_map map_owners t.maps) (map peer_owner peers) o (subst (λ (x : Owner). IsIn x (map peer_owner peers)) r.2 (map-IsIn peer_owner peers r.0 still))
            | inr old ↦ (let same = ap peer_owner (found (λ old. l ≡ record old { expiry = l.expiry }) (find key t.peers) r.0 old allowed) in
                IsIn-right (flat_map map_owners t.maps) (map peer_owner peers) o
                (subst (λ (x : Owner). IsIn x (map peer_owner peers)) (same ∙ r.2) (map-IsIn peer_owner peers l (put-new key l t.peers))))
          ])
    ]

put_peer-new : (t : Table) (l : PeerLease) (o : Owner) → IsIn o (peer_owner l ∷ []) → IsIn o (owners (table_changed (Peer l) t))
put_peer-new t l o (inl e) =
    let key = is_peer_of l.endpoint l.remote l.remote_port in
    IsIn-right (flat_map map_owners t.maps) (map peer_owner (put key l t.peers)) o
    (subst (λ (x : Owner). IsIn x (map peer_owner (put key l t.peers))) e (map-IsIn peer_owner (put key l t.peers) l (put-new key l t.peers)))
put_peer-new t l o (inr h) = absurd h

-- The table now owns what is live and what the new lease owns.
record IsPut (s : State) (m : ℕ) (now : Table) (os : List Owner) : Type 0 where
  more : (o : Owner) → IsIn o (owners now) → IsIn o (owners (live s.table m)) ⊎ IsIn o os
  keeps : (o : Owner) → IsIn o (owners (live s.table m)) → IsIn o (owners now)
  new : (o : Owner) → IsIn o os → IsIn o (owners now)

abbrev without : List Owner → List End → List End
without os ends = filter (λ e. not (is_owned_by os e)) ends

without_beside : (s : State) (m : ℕ) (os : List Owner) → SoundState s → AreLeft s.table (expired s m) (without os s.ends)
without_beside s m os h = record {
  one = h.table.one_owner;
  by_lease = expired_left s.table m;
  ordered = EachTwo-filter (λ a b. is_before a b ≡ true) (λ e. not (is_owned_by os e)) s.ends h.ordered;
  unowned = All-filter (λ e. is_owned_by (owners s.table) e ≡ false) (λ e. not (is_owned_by os e)) s.ends h.unowned;
}

put_ends : (s : State) (m : ℕ) (now : Table) (os : List Owner) → SoundState s → IsPut s m now os →
    with_left now (expired s m) (without os s.ends) ≡ without os (ends_by s m)
put_ends s m now os h is =
    InOrder-same (with_left now (expired s m) (without os s.ends)) (without os (ends_by s m))
    (with_ends-ordered (filter (λ e. not (is_owned_by (owners now) e)) (expired s m)) (without os s.ends) (without_beside s m os h).ordered)
    (EachTwo-filter (λ a b. is_before a b ≡ true) (λ e. not (is_owned_by os e)) (ends_by s m) (ends_by-ordered s m h))
    (λ e there. elim (with_left-parts s.table now (expired s m) (without os s.ends) e (without_beside s m os h) there) [
      | inl old ↦ (let k = IsIn-filter (λ e. not (is_owned_by os e)) s.ends e old in
          filter-IsIn (λ e. not (is_owned_by os e)) (ends_by s m) e (with_left-old s.table (live s.table m) (expired s m) s.ends e (expired_beside s m h) k.0) k.1)
      | inr left ↦ filter-IsIn (λ e. not (is_owned_by os e)) (ends_by s m) e
          (with_left-new s.table (live s.table m) (expired s m) s.ends e (expired_beside s m h) (record {
            there = left.there;
            unowned = unowned-fewer e.endpoint.protocol e.external (owners now) (owners (live s.table m)) is.keeps left.unowned;
            latest = left.latest;
          }))
          (not_from_false (is_owned_by os e) (unowned-fewer e.endpoint.protocol e.external (owners now) os is.new left.unowned))
    ])
    (λ e there.
    let k = IsIn-filter (λ e. not (is_owned_by os e)) (ends_by s m) e there in
    elim (with_left-parts s.table (live s.table m) (expired s m) s.ends e (expired_beside s m h) k.0) [
      | inl old ↦ with_left-old s.table now (expired s m) (without os s.ends) e (without_beside s m os h) (filter-IsIn (λ e. not (is_owned_by os e)) s.ends e old k.1)
      | inr left ↦ with_left-new s.table now (expired s m) (without os s.ends) e (without_beside s m os h) (record {
        there = left.there;
        unowned = unowned-both e.endpoint.protocol e.external (owners now) (owners (live s.table m)) os is.more left.unowned (not-true (is_owned_by os e) k.1);
        latest = left.latest;
      })
    ])

-- ---- an end is added

no_clash : (x : End) (ends : List End) (e : End) → InOrder ends → ((y : End) → IsIn y ends → ¬ (SamePort x y)) → IsIn e (with_end x ends) → (e ≡ x) ⊎ IsIn e ends
no_clash x ends e h apart there =
    All-IsIn (λ e. (e ≡ x) ⊎ IsIn e ends) (with_end x ends) e
    (with_end-all (λ e. (e ≡ x) ⊎ IsIn e ends) x ends (inl refl) (All-from_IsIn (λ e. (e ≡ x) ⊎ IsIn e ends) ends (λ e k. inr k))) there

with_end-new : (x : End) (ends : List End) → InOrder ends → ((y : End) → IsIn y ends → ¬ (SamePort x y)) → IsIn x (with_end x ends)
with_end-new x ends h apart =
    let r = with_end-has x ends in
    elim (no_clash x ends r.end h apart r.there) [
      | inl same ↦ subst (λ (y : End). IsIn y (with_end x ends)) same r.there
      | inr old ↦ absurd (apart r.end old r.port)
    ]

with_end-old : (x : End) (ends : List End) (e : End) → InOrder ends → ((y : End) → IsIn y ends → ¬ (SamePort x y)) → IsIn e ends → IsIn e (with_end x ends)
with_end-old x ends e h apart there =
    let r = with_end-keeps x ends e there in
    elim (no_clash x ends r.end h apart r.there) [
      | inl same ↦ absurd (apart e there (SamePort-sym e x (subst (λ (y : End). SamePort e y) same r.port)))
      | inr old ↦ subst (λ (y : End). IsIn y (with_end x ends)) (InOrder-one ends r.end e h old there (SamePort-sym e r.end r.port)) r.there
    ]

unused_apart : (s : State) (e : Endpoint) (port end : ℕ) (y : End) → IsUnused s e port → IsIn y s.ends → ¬ (SamePort (record { endpoint = e; external = port; end = end }) y)
unused_apart s e port end y unused there same =
    unlike (is_end_of e.protocol port y) (and_from _ _ (eq-eqb _ _ (sym same.protocol)) (eq-eqb _ _ (sym same.external)))
    (All-IsIn (λ y. is_end_of e.protocol port y ≡ false) s.ends y (any-none (is_end_of e.protocol port) s.ends unused.endless) there)

rest_beside : (s : State) (m : ℕ) (e : Endpoint) (port end : ℕ) → SoundState s → IsUnused s e port → AreLeft s.table (expired s m) (with_end (record { endpoint = e; external = port; end = end }) s.ends)
rest_beside s m e port end h unused = record {
  one = h.table.one_owner;
  by_lease = expired_left s.table m;
  ordered = with_end-ordered (record { endpoint = e; external = port; end = end }) s.ends h.ordered;
  unowned = with_end-all (λ y. is_owned_by (owners s.table) y ≡ false) (record { endpoint = e; external = port; end = end }) s.ends unused.unowned h.unowned;
}

-- no end at m is of an unused port
unused_later : (s : State) (m : ℕ) (e : Endpoint) (port end : ℕ) (y : End) → SoundState s → IsUnused s e port → IsIn y (ends_by s m) → ¬ (SamePort (record { endpoint = e; external = port; end = end }) y)
unused_later s m e port end y h unused there same =
    elim (with_left-parts s.table (live s.table m) (expired s m) s.ends y (expired_beside s m h) there) [
      | inl old ↦ unused_apart s e port end y unused old same
      | inr left ↦ unlike (is_owned_by (owners s.table) y) (left-owned s.table y (expired_left s.table m y left.there))
          (sym (owned-same (owners s.table) (record { endpoint = e; external = port; end = end }) y same) ∙ unused.unowned)
    ]

rest_ends : (s : State) (m : ℕ) (e : Endpoint) (port end : ℕ) → SoundState s → IsUnused s e port →
    with_left (live s.table m) (expired s m) (with_end (record { endpoint = e; external = port; end = end }) s.ends) ≡ with_end (record { endpoint = e; external = port; end = end }) (ends_by s m)
rest_ends s m e port end h unused =
    let x : End = record { endpoint = e; external = port; end = end } in
    let beside = rest_beside s m e port end h unused in
    let apart = λ (y : End) (there : IsIn y s.ends). unused_apart s e port end y unused there in
    let apart_later = λ (y : End) (there : IsIn y (ends_by s m)). unused_later s m e port end y h unused there in
    InOrder-same (with_left (live s.table m) (expired s m) (with_end x s.ends)) (with_end x (ends_by s m))
    (with_ends-ordered (filter (λ e. not (is_owned_by (owners (live s.table m)) e)) (expired s m)) (with_end x s.ends) beside.ordered)
    (with_end-ordered x (ends_by s m) (ends_by-ordered s m h))
    (λ y there. elim (with_left-parts s.table (live s.table m) (expired s m) (with_end x s.ends) y beside there) [
      | inl before ↦ elim (no_clash x s.ends y h.ordered apart before) [
        | inl same ↦ subst (λ (z : End). IsIn z (with_end x (ends_by s m))) (sym same) (with_end-new x (ends_by s m) (ends_by-ordered s m h) apart_later)
        | inr old ↦ with_end-old x (ends_by s m) y (ends_by-ordered s m h) apart_later (with_left-old s.table (live s.table m) (expired s m) s.ends y (expired_beside s m h) old)
      ]
      | inr left ↦ with_end-old x (ends_by s m) y (ends_by-ordered s m h) apart_later (with_left-new s.table (live s.table m) (expired s m) s.ends y (expired_beside s m h) left)
    ])
    (λ y there. elim (no_clash x (ends_by s m) y (ends_by-ordered s m h) apart_later there) [
      | inl same ↦ subst (λ (z : End). IsIn z (with_left (live s.table m) (expired s m) (with_end x s.ends))) (sym same)
          (with_left-old s.table (live s.table m) (expired s m) (with_end x s.ends) x beside (with_end-new x s.ends h.ordered apart))
      | inr old ↦ elim (with_left-parts s.table (live s.table m) (expired s m) s.ends y (expired_beside s m h) old) [
        | inl older ↦ with_left-old s.table (live s.table m) (expired s m) (with_end x s.ends) y beside (with_end-old x s.ends y h.ordered apart older)
        | inr left ↦ with_left-new s.table (live s.table m) (expired s m) (with_end x s.ends) y beside left
      ]
    ])

-- ---- a lease is deleted

-- what was there is kept or deleted
kept_or_deleted : (t : Table) (change : Change) → IsDeletion change → (o : Owner) → IsIn o (owners t) → IsIn o (owners (table_changed change t)) ⊎ IsIn o (owners (deleted change t))
kept_or_deleted t (DropMap e) is o h =
    elim (IsIn-append (flat_map map_owners t.maps) (map peer_owner t.peers) o h) [
      | inl a ↦ (let r = IsIn-flat_map map_owners t.maps o a in
          elim (two_ways (is_map_of e r.0)) [
            | inl key ↦ inr (IsIn-left (flat_map map_owners (filter (is_map_of e) t.maps)) [] o (flat_map-IsIn map_owners (filter (is_map_of e) t.maps) r.0 o (filter-IsIn (is_map_of e) t.maps r.0 r.1 key) r.2))
            | inr other ↦ inl (IsIn-left (flat_map map_owners (filter (λ l. not (is_map_of e l)) t.maps)) (map peer_owner t.peers) o
                (flat_map-IsIn map_owners (filter (λ l. not (is_map_of e l)) t.maps) r.0 o (filter-IsIn (λ l. not (is_map_of e l)) t.maps r.0 r.1 (not_from_false _ other)) r.2))
          ])
      | inr b ↦ inl (IsIn-right (flat_map map_owners (filter (λ l. not (is_map_of e l)) t.maps)) (map peer_owner t.peers) o b)
    ]
kept_or_deleted t (DropPeer e remote port) is o h =
    elim (IsIn-append (flat_map map_owners t.maps) (map peer_owner t.peers) o h) [
      | inl a ↦ inl (IsIn-left (flat_map map_owners t.maps) (map peer_owner (filter (λ l. not (is_peer_of e remote port l)) t.peers)) o a)
      | inr b ↦ (let r = IsIn-map peer_owner t.peers o b in
          elim (two_ways (is_peer_of e remote port r.0)) [
            | inl key ↦ inr (subst (λ (x : Owner). IsIn x (map peer_owner (filter (is_peer_of e remote port) t.peers))) r.2
                (map-IsIn peer_owner (filter (is_peer_of e remote port) t.peers) r.0 (filter-IsIn (is_peer_of e remote port) t.peers r.0 r.1 key)))
            | inr other ↦ inl (IsIn-right (flat_map map_owners t.maps) (map peer_owner (filter (λ l. not (is_peer_of e remote port l)) t.peers)) o
                (subst (λ (x : Owner). IsIn x (map peer_owner (filter (λ l. not (is_peer_of e remote port l)) t.peers))) r.2
                (map-IsIn peer_owner (filter (λ l. not (is_peer_of e remote port l)) t.peers) r.0 (filter-IsIn (λ l. not (is_peer_of e remote port l)) t.peers r.0 r.1 (not_from_false _ other)))))
          ])
    ]
kept_or_deleted t Start is o h = absurd is
kept_or_deleted t Lose is o h = absurd is
kept_or_deleted t (Map l) is o h = absurd is
kept_or_deleted t (Peer l) is o h = absurd is
kept_or_deleted t Mark is o h = absurd is
kept_or_deleted t (Rest e port end) is o h = absurd is
kept_or_deleted t (Renumber a) is o h = absurd is

deletion_stages : (s : State) (m : ℕ) (change : Change) → SoundState s → IsDeletion change →
    AreStages s.table (live s.table m) (table_changed change (live s.table m)) (expired s m) (map (end_at m) (owners (deleted change (live s.table m)))) s.ends
deletion_stages s m change h is = record {
  first = expired_beside s m h;
  u_fewer = owners-live s.table m;
  v_fewer = owners-kept (live s.table m) change is;
  by_lease = λ e k.
      let left = (left-by_deletion (deleted change (live s.table m)) m e k).0 in
      record { owner = left.owner; there = owners-deleted (live s.table m) change left.owner left.there; same = left.same };
  all = λ e owned free.
      let o = owned-some e.endpoint.protocol e.external (owners (live s.table m)) owned in
      elim (kept_or_deleted (live s.table m) change is o.0 o.1) [
        | inr gone ↦ (
          end_at m o.0,
          map-IsIn (end_at m) (owners (deleted change (live s.table m))) o.0 gone,
          record {
            protocol = ap protocol_number (sym o.2 ∙ owner-protocol (live s.table m) o.0 o.1);
            external = sym o.3;
          },
        )
        | inl still ↦ absurd (unlike (is_owned_by (owners (table_changed change (live s.table m))) e)
            (subst (λ (p : Protocol). is_owned p e.external (owners (table_changed change (live s.table m))) ≡ true) o.2
            (subst (λ (k : ℕ). is_owned o.0.protocol k (owners (table_changed change (live s.table m))) ≡ true) o.3 (some-owned (owners (table_changed change (live s.table m))) o.0 still))) free)
      ];
  in_order = λ e f a b. omega (arith, expired-by s.table m e a, (left-by_deletion (deleted change (live s.table m)) m f b).1);
}

-- ---- every record

abbrev Steps : State → ℕ → Change → Type 0
Steps s m change = with_left (table_changed change (live s.table m)) (expired s m ++ map (end_at m) (owners (deleted change (live s.table m)))) (ends_changed change s.ends)
    ≡ with_left (table_changed change (live s.table m)) (map (end_at m) (owners (deleted change (live s.table m)))) (ends_changed change (ends_by s m))

nothing_deleted : (s : State) (m : ℕ) (now : Table) (ends : List End) → with_left now (expired s m ++ []) ends ≡ with_left now (expired s m) ends
nothing_deleted s m now ends = ap (λ left. with_left now left ends) (append-nil (expired s m))

steps : (s : State) (m : ℕ) (change : Change) → SoundState s → IsAllowed (live s.table m) change → IsRested s m change → empties change ≡ false → Steps s m change
steps s m Start h allowed rested keeps = absurd (unlike true refl keeps)
steps s m Lose h allowed rested keeps = absurd (unlike true refl keeps)
steps s m (Map l) h allowed rested keeps =
    nothing_deleted s m (table_changed (Map l) (live s.table m)) (without (map_owners l) s.ends)
    ∙ put_ends s m (table_changed (Map l) (live s.table m)) (map_owners l) h (record {
      more = owners-put_map (live s.table m) (is_map_of (first_endpoint l)) l;
      keeps = put_map-keeps (live s.table m) l allowed;
      new = put_map-new (live s.table m) l;
    })
steps s m (Peer l) h allowed rested keeps =
    nothing_deleted s m (table_changed (Peer l) (live s.table m)) (without (peer_owner l ∷ []) s.ends)
    ∙ put_ends s m (table_changed (Peer l) (live s.table m)) (peer_owner l ∷ []) h (record {
      more = owners-put_peer (live s.table m) (is_peer_of l.endpoint l.remote l.remote_port) l;
      keeps = put_peer-keeps (live s.table m) l allowed;
      new = put_peer-new (live s.table m) l;
    })
steps s m (DropMap e) h allowed rested keeps = two_stages s.table (live s.table m) (table_changed (DropMap e) (live s.table m)) (expired s m) _ s.ends (deletion_stages s m (DropMap e) h tt)
steps s m (DropPeer e remote port) h allowed rested keeps =
    two_stages s.table (live s.table m) (table_changed (DropPeer e remote port) (live s.table m)) (expired s m) _ s.ends (deletion_stages s m (DropPeer e remote port) h tt)
steps s m Mark h allowed rested keeps = nothing_deleted s m (live s.table m) s.ends
steps s m (Rest e port end) h allowed rested keeps =
    nothing_deleted s m (live s.table m) (with_end (record { endpoint = e; external = port; end = end }) s.ends) ∙ rest_ends s m e port end h rested
steps s m (Renumber a) h allowed rested keeps = nothing_deleted s m (live s.table m) s.ends

-- What expired by the record's moment may leave first: then the record's own change remains.
pub ends_3-by : (s : State) (r : Record) → SoundState s → IsAllowed (live s.table r.moment) r.change → IsRested s r.moment r.change → empties r.change ≡ false →
    ends_3 s r ≡ with_left (table_2 s r) (map (end_at r.moment) (owners (deleted r.change (live s.table r.moment)))) (ends_changed r.change (ends_by s r.moment))
ends_3-by s r h allowed rested keeps = cond-false (empties r.change) (ends_2 s r) _ keeps ∙ steps s r.moment r.change h allowed rested keeps
