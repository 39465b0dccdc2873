-- Which ports rest, by the leases that ended and the ends that were there.
use Rattle.std.proofs.Common.{◌≡◌, ℕ, ◌+◌, ◌⊎◌, inl, inr, Bool, true, false, not, ◌&&◌, ◌||◌, nat_lt, ◌==◌, List, map, flat_map, filter, refl, ap, sym, ◌∙◌, subst, arith, add-zero}
use Rattle.std.specs.List.{list_any, range_with_len}
use Rattle.std.proofs.lemmas.Bool.{and_parts, and_from, or_cases, or_left, or_right, not-true, not_from_false, ltb-true, lt-ltb, eqb-true, eq-eqb}
use Rattle.std.proofs.lemmas.List.Folds.{list_any-append}
use Rattle.pcp_base.specs.declared.leases.Protocol.{Protocol}
use Rattle.pcp_base.specs.declared.leases.Protocol.TheVariants.{Tcp, Udp}
use Rattle.pcp_base.specs.declared.leases.Endpoint.{Endpoint}
use Rattle.pcp_base.specs.declared.leases.MapLease.{MapLease}
use Rattle.pcp_base.specs.declared.leases.PeerLease.{PeerLease}
use Rattle.pcp_base.specs.declared.leases.Owner.{Owner}
use Rattle.pcp_base.specs.declared.leases.End.{End}
use Rattle.pcp_base.specs.declared.leases.TheConstants.{REST_SECONDS}
use Rattle.pcp_base.specs.Protocols.{protocol_number}
use Rattle.pcp_base.specs.Tables.{Table, live, dead, same_protocol, same_endpoint}
use Rattle.pcp_base.specs.Owners.{map_owner, map_owners, peer_owner, owners, is_port, is_owned, owns, endpoint_behind}
use Rattle.pcp_base.specs.States.{State}
use Rattle.pcp_base.specs.Ends.{end_at, ends_at_expiry, is_owned_by, ends_by, is_recent, is_end_of, resting, rests}
use Rattle.pcp_base.specs.Sound.{SoundState}
use Rattle.pcp_base.proofs.Members.{IsIn, All-IsIn, All-from_IsIn, IsIn-filter, filter-IsIn, any-some, some-any}
use Rattle.pcp_base.proofs.EndOrder.{SamePort, InOrder-one, HasAsLate, with_ends-all, with_ends-keeps, with_ends-has}
use Rattle.pcp_base.proofs.EndLemmas.{IsLeftBy, left-by_expiry, left-owned, owners-dead}
use Rattle.pcp_base.proofs.RestLaws.{protocol_number-same, owned-same, left-one, resting-parts}
use Rattle.lease_store.specs.Picks.{rests_for_another}
use Rattle.plain_store.specs.RecentEnds.{map_leaves, peer_leaves, end_leaves, map_leaves_another, peer_leaves_another, end_leaves_another}
use Rattle.pcp_base.proofs.Anys.{any-same, any-map, any-flat_map, any-filter}
use Rattle.pcp_base.proofs.PortLemmas.{port_among}

same_number : (p q : Protocol) → (protocol_number p == protocol_number q) ≡ same_protocol p q
same_number Tcp Tcp = refl
same_number Tcp Udp = refl
same_number Udp Tcp = refl
same_number Udp Udp = refl

alike : (b c : Bool) → (b ≡ true → c ≡ true) → (c ≡ true → b ≡ true) → b ≡ c
alike true c f g = sym (f refl)
alike false true f g = g refl
alike false false f g = refl

and_true : (b : Bool) → (b && true) ≡ b
and_true true = refl
and_true false = refl

-- an end of the state, or one that a lease left
abbrev IsEither : State → ℕ → End → Type 0
IsEither s m x = IsIn x (ends_at_expiry (dead s.table m)) ⊎ IsIn x s.ends

module _ (s : State) (m : ℕ) where
  members : (x : End) → IsIn x (ends_by s m) → IsEither s m x
  members x there =
      let left = ends_at_expiry (dead s.table m) in
      let free : End → Bool = λ e. not (is_owned_by (owners (live s.table m)) e) in
      All-IsIn (IsEither s m) (ends_by s m) x
      (with_ends-all (IsEither s m) (filter free left) s.ends
      (All-from_IsIn (IsEither s m) (filter free left) (λ e h. inl (IsIn-filter free left e h).0))
      (All-from_IsIn (IsEither s m) s.ends (λ e h. inr h))) there

  left_by : (x : End) → IsIn x (ends_at_expiry (dead s.table m)) → IsLeftBy s.table x
  left_by x h =
      let left = left-by_expiry (dead s.table m) x h in
      record { owner = left.owner; there = owners-dead s.table m left.owner left.there; same = left.same }

  not_both : (b : Bool) → b ≡ true → b ≡ false → ⊥
  not_both b h k = cc

  apart : (x y : End) → SoundState s → IsIn x (ends_at_expiry (dead s.table m)) → IsIn y s.ends → SamePort x y → ⊥
  apart x y sound h k same =
      not_both (is_owned_by (owners s.table) y) (sym (owned-same (owners s.table) x y same) ∙ left-owned s.table x (left_by x h))
      (All-IsIn (λ e. is_owned_by (owners s.table) e ≡ false) s.ends y sound.unowned k)

  -- in a sound state both have one endpoint a port
  one_end : (x y : End) → SoundState s → IsEither s m x → IsEither s m y → SamePort x y → x.endpoint ≡ y.endpoint
  one_end x y sound (inl h) (inl k) same =
      left-one s.table x y sound.table.one_owner (left_by x h) (left_by y k) same
  one_end x y sound (inr h) (inr k) same = ap (λ (e : End). e.endpoint) (InOrder-one s.ends x y sound.ordered h k same)
  one_end x y sound (inl h) (inr k) same = absurd (apart x y sound h k same)
  one_end x y sound (inr h) (inl k) same =
      absurd (apart y x sound k h (record { protocol = sym same.protocol; external = sym same.external }))

module _ (s : State) (m : ℕ) (protocol : Protocol) (port : ℕ) where
  abbrev owned_now : Bool
  owned_now = is_owned protocol port (owners (live s.table m))

  ported : (x : End) → is_end_of protocol port x ≡ true → (protocol_number x.endpoint.protocol ≡ protocol_number protocol) × (x.external ≡ port)
  ported x h =
      let parts = and_parts _ _ h in
      (eqb-true (protocol_number x.endpoint.protocol) (protocol_number protocol) parts.0, eqb-true x.external port parts.1)

  end_owned : (x : End) → is_end_of protocol port x ≡ true → is_owned_by (owners (live s.table m)) x ≡ owned_now
  end_owned x h =
      let is = ported x h in
      ap (λ (p : Protocol). is_owned p x.external (owners (live s.table m))) (protocol_number-same x.endpoint.protocol protocol is.0)
      ∙ ap (λ (n : ℕ). is_owned protocol n (owners (live s.table m))) is.1

  module _ (g : Endpoint → Bool) (kept : (x y : End) → IsEither s m x → IsEither s m y → SamePort x y → g x.endpoint ≡ true → g y.endpoint ≡ true) where
    abbrev leaves : End → Bool
    leaves x = end_leaves m protocol port x && g x.endpoint

    abbrev at_rest : End → Bool
    at_rest x = is_end_of protocol port x && g x.endpoint

    abbrev left : List End
    left = ends_at_expiry (dead s.table m)

    forth : list_any at_rest (resting s m) ≡ true → ((list_any leaves left || list_any leaves s.ends) && not owned_now) ≡ true
    forth h =
        let found = any-some at_rest (resting s m) h in
        let x = found.0 in
        let both = and_parts (is_end_of protocol port x) (g x.endpoint) found.2 in
        let rest = resting-parts s m x found.1 in
        let passes : leaves x ≡ true = and_from _ _ (and_from _ _ both.0 rest.1) both.1 in
        let free : owned_now ≡ false = sym (end_owned x both.0) ∙ rest.2 in
        let any : (list_any leaves left || list_any leaves s.ends) ≡ true = elim (members s m x rest.0) [
          | inl l ↦ or_left _ _ (some-any leaves left x l passes)
          | inr r ↦ or_right _ _ (some-any leaves s.ends x r passes)
        ] in
        and_from _ _ any (not_from_false owned_now free)

    -- the latest of its port stands for an end that is recent
    stands : (x : End) → IsEither s m x → leaves x ≡ true → HasAsLate (ends_by s m) x → owned_now ≡ false → list_any at_rest (resting s m) ≡ true
    stands x either h late free =
        let y = late.end in
        let parts = and_parts (end_leaves m protocol port x) (g x.endpoint) h in
        let more = and_parts (is_end_of protocol port x) (is_recent m x) parts.0 in
        let is = ported x more.0 in
        let mine : is_end_of protocol port y ≡ true =
        and_from _ _ (eq-eqb _ _ (sym late.port.protocol ∙ is.0)) (eq-eqb _ _ (sym late.port.external ∙ is.1)) in
        let before = ltb-true m (x.end + REST_SECONDS) more.1 in
        let recent : is_recent m y ≡ true = lt-ltb m (y.end + REST_SECONDS) (omega (arith, before, late.as_late)) in
        let there : IsIn y (resting s m) =
        filter-IsIn (λ e. is_recent m e && not (is_owned_by (owners (live s.table m)) e)) (ends_by s m) y late.there
        (and_from _ _ recent (not_from_false _ (end_owned y mine ∙ free))) in
        some-any at_rest (resting s m) y there (and_from _ _ mine (kept x y either (members s m y late.there) late.port parts.1))

    back : ((list_any leaves left || list_any leaves s.ends) && not owned_now) ≡ true → list_any at_rest (resting s m) ≡ true
    back h =
        let both = and_parts (list_any leaves left || list_any leaves s.ends) (not owned_now) h in
        let free = not-true owned_now both.1 in
        let free_end : End → Bool = λ e. not (is_owned_by (owners (live s.table m)) e) in
        elim (or_cases _ _ both.0) [
          | inl l ↦ (let found = any-some leaves left l in
              let mine = (and_parts _ _ (and_parts _ _ found.2).0).0 in
              stands found.0 (inl found.1) found.2
              (with_ends-has (filter free_end left) s.ends found.0 (filter-IsIn free_end left found.0 found.1 (not_from_false _ (end_owned found.0 mine ∙ free)))) free)
          | inr r ↦ (let found = any-some leaves s.ends r in
              stands found.0 (inr found.1) found.2 (with_ends-keeps (filter free_end left) s.ends found.0 found.1) free)
        ]

    pub resting_with : list_any at_rest (resting s m) ≡ ((list_any leaves left || list_any leaves s.ends) && not owned_now)
    resting_with = alike _ _ forth back

-- ---- what leases left

arrange : (n o r g : Bool) → (n && (o && (r && g))) ≡ (((n && r) && o) && g)
arrange true true r g = and_and r g
  where
    and_and : (r g : Bool) → (r && g) ≡ ((r && true) && g)
    and_and true g = refl
    and_and false g = refl
arrange true false true g = refl
arrange true false false g = refl
arrange false o r g = refl

group : (a b c : Bool) → ((a && b) && c) ≡ (a && (b && c))
group true b c = refl
group false b c = refl

module _ (m : ℕ) (protocol : Protocol) (port : ℕ) (g : Endpoint → Bool) where
  abbrev leaving : End → Bool
  leaving x = end_leaves m protocol port x && g x.endpoint

  abbrev map_left : MapLease → Bool
  map_left l = map_leaves m protocol port l && g (endpoint_behind port l)

  abbrev peer_left : PeerLease → Bool
  peer_left l = peer_leaves m protocol port l && g l.endpoint

  of_place : (l : MapLease) (i : ℕ) → leaving (end_at l.expiry (map_owner l i))
      ≡ ((same_protocol l.protocol protocol && l.external + i == port) && (nat_lt m (l.expiry + REST_SECONDS) && g (record { address = l.address; protocol = l.protocol; port = l.internal + i })))
  of_place l i =
      ap (λ (b : Bool). ((b && l.external + i == port) && nat_lt m (l.expiry + REST_SECONDS)) && g (record { address = l.address; protocol = l.protocol; port = l.internal + i })) (same_number l.protocol protocol)
      ∙ group (same_protocol l.protocol protocol && l.external + i == port) (nat_lt m (l.expiry + REST_SECONDS)) (g (record { address = l.address; protocol = l.protocol; port = l.internal + i }))

  of_map : (l : MapLease) → (not (nat_lt m l.expiry) && list_any leaving (map (end_at l.expiry) (map_owners l))) ≡ map_left l
  of_map l =
      let f : ℕ → Bool = λ i. nat_lt m (l.expiry + REST_SECONDS) && g (record { address = l.address; protocol = l.protocol; port = l.internal + i }) in
      let places : list_any leaving (map (end_at l.expiry) (map_owners l)) ≡ (owns protocol port l && (nat_lt m (l.expiry + REST_SECONDS) && g (endpoint_behind port l))) =
      any-map leaving (end_at l.expiry) (map_owners l)
      ∙ any-map (λ (o : Owner). leaving (end_at l.expiry o)) (map_owner l) (range_with_len 0 l.count)
      ∙ any-same (λ (i : ℕ). leaving (end_at l.expiry (map_owner l i))) (λ (i : ℕ). (same_protocol l.protocol protocol && l.external + i == port) && f i) (range_with_len 0 l.count) (of_place l)
      ∙ rw add-zero at (port_among f (same_protocol l.protocol protocol) l.external port 0 l.count) in
      ap (λ (b : Bool). not (nat_lt m l.expiry) && b) places
      ∙ arrange (not (nat_lt m l.expiry)) (owns protocol port l) (nat_lt m (l.expiry + REST_SECONDS)) (g (endpoint_behind port l))

  of_peer : (l : PeerLease) → (not (nat_lt m l.expiry) && leaving (end_at l.expiry (peer_owner l))) ≡ peer_left l
  of_peer l =
      ap (λ (b : Bool). not (nat_lt m l.expiry) && (((b && l.external == port) && nat_lt m (l.expiry + REST_SECONDS)) && g l.endpoint)) (same_number l.endpoint.protocol protocol)
      ∙ ap (λ (b : Bool). not (nat_lt m l.expiry) && b) (group (is_port protocol port (peer_owner l)) (nat_lt m (l.expiry + REST_SECONDS)) (g l.endpoint))
      ∙ arrange (not (nat_lt m l.expiry)) (is_port protocol port (peer_owner l)) (nat_lt m (l.expiry + REST_SECONDS)) (g l.endpoint)

  pub left_with : (t : Table) → list_any leaving (ends_at_expiry (dead t m)) ≡ (list_any map_left t.maps || list_any peer_left t.peers)
  left_with t =
      let dead_map : MapLease → Bool = λ l. not (nat_lt m l.expiry) in
      let dead_peer : PeerLease → Bool = λ l. not (nat_lt m l.expiry) in
      let map_ends : MapLease → List End = λ l. map (end_at l.expiry) (map_owners l) in
      let peer_end : PeerLease → End = λ l. end_at l.expiry (peer_owner l) in
      let maps : list_any leaving (flat_map map_ends (filter dead_map t.maps)) ≡ list_any map_left t.maps =
      any-flat_map leaving map_ends (filter dead_map t.maps)
      ∙ any-filter (λ (l : MapLease). list_any leaving (map_ends l)) dead_map t.maps
      ∙ any-same (λ (l : MapLease). dead_map l && list_any leaving (map_ends l)) map_left t.maps of_map in
      let peers : list_any leaving (map peer_end (filter dead_peer t.peers)) ≡ list_any peer_left t.peers =
      any-map leaving peer_end (filter dead_peer t.peers)
      ∙ any-filter (λ (l : PeerLease). leaving (peer_end l)) dead_peer t.peers
      ∙ any-same (λ (l : PeerLease). dead_peer l && leaving (peer_end l)) peer_left t.peers of_peer in
      list_any-append leaving (flat_map map_ends (filter dead_map t.maps)) (map peer_end (filter dead_peer t.peers))
      ∙ ap (λ (b : Bool). b || list_any leaving (map peer_end (filter dead_peer t.peers))) maps
      ∙ ap (λ (b : Bool). list_any map_left t.maps || b) peers

-- ---- both

pub rests_is : (s : State) (m : ℕ) (protocol : Protocol) (port : ℕ) → rests s m protocol port
    ≡ (((list_any (map_leaves m protocol port) s.table.maps || list_any (peer_leaves m protocol port) s.table.peers) || list_any (end_leaves m protocol port) s.ends)
    && not (is_owned protocol port (owners (live s.table m))))
rests_is s m protocol port =
    let g : Endpoint → Bool = λ e. true in
    let owned : Bool = is_owned protocol port (owners (live s.table m)) in
    let with_ : End → Bool = λ x. end_leaves m protocol port x && true in
    let maps : list_any (λ l. map_leaves m protocol port l && true) s.table.maps ≡ list_any (map_leaves m protocol port) s.table.maps =
    any-same (λ (l : MapLease). map_leaves m protocol port l && true) (map_leaves m protocol port) s.table.maps (λ l. and_true _) in
    let peers : list_any (λ l. peer_leaves m protocol port l && true) s.table.peers ≡ list_any (peer_leaves m protocol port) s.table.peers =
    any-same (λ (l : PeerLease). peer_leaves m protocol port l && true) (peer_leaves m protocol port) s.table.peers (λ l. and_true _) in
    let ends : list_any with_ s.ends ≡ list_any (end_leaves m protocol port) s.ends =
    any-same with_ (end_leaves m protocol port) s.ends (λ x. and_true _) in
    any-same (is_end_of protocol port) (λ (x : End). is_end_of protocol port x && true) (resting s m) (λ x. sym (and_true _))
    ∙ resting_with s m protocol port g (λ x y h k same p. refl)
    ∙ ap (λ (b : Bool). (b || list_any with_ s.ends) && not owned) (left_with m protocol port g s.table ∙ ap (λ (b : Bool). b || list_any (λ l. peer_leaves m protocol port l && true) s.table.peers) maps ∙ ap (λ (b : Bool). list_any (map_leaves m protocol port) s.table.maps || b) peers)
    ∙ ap (λ (b : Bool). ((list_any (map_leaves m protocol port) s.table.maps || list_any (peer_leaves m protocol port) s.table.peers) || b) && not owned) ends

pub rests_for_another_is : (s : State) (m port : ℕ) (e : Endpoint) → SoundState s → rests_for_another s m port e
    ≡ (((list_any (map_leaves_another m port e) s.table.maps || list_any (peer_leaves_another m port e) s.table.peers) || list_any (end_leaves_another m port e) s.ends)
    && not (is_owned e.protocol port (owners (live s.table m))))
rests_for_another_is s m port e sound =
    let g : Endpoint → Bool = λ x. not (same_endpoint x e) in
    resting_with s m e.protocol port g (λ x y h k same p. subst (λ (z : Endpoint). not (same_endpoint z e) ≡ true) (one_end s m x y sound h k same) p)
    ∙ ap (λ (b : Bool). (b || list_any (end_leaves_another m port e) s.ends) && not (is_owned e.protocol port (owners (live s.table m)))) (left_with m e.protocol port g s.table)

-- what is left, and not owned
pub where_left : (a o r : Bool) → r ≡ (a && not o) → a ≡ true → not o ≡ r
where_left true o r h e = sym h
where_left false o r h e = absurd cc

pub where_not_left : (a o r : Bool) → r ≡ (a && not o) → a ≡ false → a ≡ r
where_not_left true o r h e = absurd cc
where_not_left false o r h e = sym h
