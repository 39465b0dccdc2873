-- Whether records fit, by what look-ups tell.
use Rattle.std.proofs.Common.{◌≡◌, ℕ, zero, suc, ◌+◌, ◌-◌, ◌<◌, ◌≤◌, ◌⊎◌, ◌&&◌, ◌||◌, ◌==◌, nat_lt, not, Bool, true, false, List, [], ◌∷◌, map, flat_map, filter, find, length, drop, get_or, Contains, Option, Some, None, IfSome, IfNone, is_some, ◌↔◌, refl, sym, ap, ◌∙◌, subst, inl, inr, arith}
use Rattle.std.specs.List.{AllByRecursion, list_any, list_all, range_with_len}
use Rattle.std.specs.Option.{option_map}
use Rattle.std.proofs.lemmas.Bool.{and_parts, and_from, or_left, or_right, eqb-true, eq-eqb, lt-ltb, ltb-true, ltb-false, le-ltb, cond-true, cond-false, false_from_ne_true}
use Rattle.pcp_base.specs.declared.leases.TheConstants.{MOST_LEASES, MOST_PEERS}
use Rattle.pcp_base.specs.declared.leases.Protocol.{Protocol}
use Rattle.pcp_base.specs.declared.leases.Endpoint.{Endpoint}
use Rattle.pcp_base.specs.declared.leases.MapLease.{MapLease}
use Rattle.pcp_base.specs.declared.leases.PeerLease.{PeerLease}
use Rattle.pcp_base.specs.declared.leases.Owner.{Owner}
use Rattle.pcp_base.specs.declared.leases.End.{End}
use Rattle.pcp_base.specs.Tables.{Table, live, covers, names, same_endpoint, AreApart}
use Rattle.pcp_base.specs.Owners.{owners, map_owner, map_owners, peer_owner, is_owned}
use Rattle.pcp_base.specs.States.{State}
use Rattle.pcp_base.specs.Ends.{is_recent, resting, rests_for, is_end_of}
use Rattle.pcp_base.specs.Sound.{Sound}
use Rattle.pcp_base.specs.Records.{IsTermAt, IsEndAt}
use Rattle.pcp_base.specs.Fits.{RestForNoOther, IsUnused}
use Rattle.pcp_base.specs.Rooms.{HasRoomForMap, HasRoomForPeer}
use Rattle.pcp_base.proofs.Members.{IsIn, IsIn-filter, All-IsIn, All-from_IsIn, All-weaker, filter-all, any-some, IsIn-append, IsIn-left, IsIn-right, IsIn-flat_map, flat_map-IsIn, IsIn-map, map-IsIn, IsIn-from_Contains, Contains-from_IsIn, find-some, find-none, any-none, none-any, some-any, IsIn-range}
use Rattle.pcp_base.proofs.Same.{same_endpoint-Decides}
use Rattle.pcp_base.proofs.TableLemmas.{IsCovered-from_covers, map_owners-IsIn, owner-covered, Sound-live}
use Rattle.pcp_base.proofs.RestLaws.{rests_for-some}
use Rattle.pcp_base.proofs.StageLaws.{two_ways, unlike}
use Rattle.lease_store.specs.Lookups.{covering, named_port, peer_count, lease_count}
use Rattle.leased_ports.specs.LastEnds.{last_end}
use Rattle.leased_ports.specs.Leased.{Leased, end_of, while_recent}
use Rattle.leased_ports.proofs.LastEndLemmas.{last-some, last-from, old-last, owned-last, last-owned, last-rests, rests-last}
use Rattle.leased_ports.proofs.MomentLemmas.{last_end-later}
use Rattle.indexed_store.specs.Judging.{IsCurrent, last_told, is_unheld, is_unrested, unheld_by, unrested_by, is_at_most, covered_port, has_room_at, peer_has_room}
use Rattle.indexed_store.specs.Tabled.{TabledState}
use Rattle.indexed_store.proofs.Uniques.{one-covers}
use Rattle.indexed_store.proofs.LookLemmas.{one_port, some_any}
use Rattle.indexed_store.proofs.LeavingLemmas.{not_back}
use Rattle.indexed_store.proofs.StateLooks.{reached-later, state-live}
use Rattle.indexed_store.proofs.EndPorts.{port_is, is_port_of, while-is}
use Rattle.pcp_base.proofs.EndLemmas.{owned-some, left-by_expiry, left-owned}

all-true : {X : Type 0} (p : X → Bool) (P : X → Type 0) (xs : List X) → ((x : X) → IsIn x xs → p x ≡ true → P x) → list_all p xs ≡ true → AllByRecursion P xs
all-true p P [] f h = tt
all-true p P (x ∷ xs) f h = let both = and_parts (p x) (list_all p xs) h in (f x (inl refl) both.0, all-true p P xs (λ y i. f y (inr i)) both.1)

true-all : {X : Type 0} (p : X → Bool) (P : X → Type 0) (xs : List X) → ((x : X) → IsIn x xs → P x → p x ≡ true) → AllByRecursion P xs → list_all p xs ≡ true
true-all p P [] f h = refl
true-all p P (x ∷ xs) f h = and_from (p x) (list_all p xs) (f x (inl refl) h.0) (true-all p P xs (λ y i. f y (inr i)) h.1)

-- what is left of a list, one item on
pub all-left : {X : Type 0} (p : X → Bool) (xs : List X) (i : ℕ) (d : X) → i < length xs → list_all p (drop i xs) ≡ (p (get_or xs i d) && list_all p (drop (i + 1) xs))
all-left p [] i d lt = absurd (omega (arith, lt))
all-left p (y ∷ ys) zero d lt = refl
all-left p (y ∷ ys) (suc i) d lt = let next : suc i + 1 ≡ suc (i + 1) = omega arith in
    all-left p ys i d (omega (arith, lt)) ∙ ap (λ n. p (get_or ys i d) && list_all p (drop n (y ∷ ys))) (sym next)

pub all-over : {X : Type 0} (p : X → Bool) (xs : List X) (i : ℕ) → length xs ≤ i → list_all p (drop i xs) ≡ true
all-over p [] zero h = refl
all-over p [] (suc i) h = refl
all-over p (y ∷ ys) zero h = absurd (omega (arith, h))
all-over p (y ∷ ys) (suc i) h = all-over p ys i (omega (arith, h))

-- ---- decisions by what is found

module _ {X : Type 0} (K : X → Type 0) (R : Type 0) (b c : Bool) (same : b ≡ c) where
  pub told-none : (o : Option X) → None ≡ o → (c ≡ true) ↔ R → (b ≡ true) ↔ IfNone o R
  told-none o none h = subst (λ (o : Option X). (b ≡ true) ↔ IfNone o R) none (λ t. h.0 (sym same ∙ t), λ r. same ∙ h.1 r)

  pub told-neither : (o : Option X) → None ≡ o → (c ≡ true) ↔ R → (b ≡ true) ↔ (IfSome o K × IfNone o R)
  told-neither o none h = subst (λ (o : Option X). (b ≡ true) ↔ (IfSome o K × IfNone o R)) none (λ t. (tt, h.0 (sym same ∙ t)), λ r. same ∙ h.1 r.1)

  pub told-some : (o : Option X) (x : X) → Some x ≡ o → (c ≡ true) ↔ K x → (b ≡ true) ↔ (IfSome o K × IfNone o R)
  told-some o x some h = subst (λ (o : Option X). (b ≡ true) ↔ (IfSome o K × IfNone o R)) some (λ t. (h.0 (sym same ∙ t), tt), λ r. same ∙ h.1 r.0)

-- nothing is asked where something is found
pub told-held : {X : Type 0} (R : Type 0) (o : Option X) (x : X) → Some x ≡ o → (true ≡ true) ↔ IfNone o R
told-held {X} R o x some = subst (λ (o : Option X). (true ≡ true) ↔ IfNone o R) some (λ t. tt, λ r. refl)

or-second : (a b : Bool) → a ≡ false → (a || b) ≡ true → b ≡ true
or-second true b e h = absurd (let never : true ≡ false = e in cc)
or-second false b e h = h

-- an endpoint that a lease covers has one of its ports
pub covered-owner : (l : MapLease) (e : Endpoint) → covers l e ≡ true → (o : Owner) × IsIn o (map_owners l) × (o.endpoint ≡ e) × (o.external ≡ l.external + (e.port - l.internal))
covered-owner l e h =
    let k = IsCovered-from_covers l e h in
    let i = e.port - l.internal in
    let at : l.internal + i ≡ e.port = omega (arith, k.from) in (
      map_owner l i,
      map-IsIn (map_owner l) (range_with_len 0 l.count) i (IsIn-range 0 l.count i (omega arith) (omega (arith, k.below, k.from))),
      ap (λ a. record { address = a; protocol = l.protocol; port = l.internal + i }) k.address ∙ ap (λ p. record { address = e.address; protocol = p; port = l.internal + i }) k.protocol
          ∙ ap (λ n. record { address = e.address; protocol = e.protocol; port = n }) at,
      refl,
    )

module _ (all : TabledState) (m : ℕ) (is : IsCurrent all m) where
  abbrev s : State
  s = all.state

  abbrev v : Leased
  v = all.ports

  abbrev t : Table
  t = live s.table m

  -- the last ends that are told are those of the state
  at_last : (protocol : Protocol) (port : ℕ) → last_told v protocol port ≡ last_end s s.last protocol port
  at_last protocol port = ap (λ (k : ℕ). while_recent k (end_of v protocol port)) is.at_last ∙ is.kept.ports.same protocol port

  told : (protocol : Protocol) (port : ℕ) → last_end s m protocol port ≡ while_recent m (last_told v protocol port)
  told protocol port =
      last_end-later s is.reached.sound s.last m is.later protocol port
      ∙ ap (while_recent m) (sym (at_last protocol port))

  -- what is live in the state stands in its tables
  map-in : (x : MapLease) → IsIn x t.maps → IsIn x all.leases.maps
  map-in x i = (IsIn-filter (λ (l : MapLease). nat_lt m l.expiry) all.leases.maps x (subst (λ (u : Table). IsIn x u.maps) (sym (state-live all m is.kept (reached-later all m is))) i)).0

  peer-in : (x : PeerLease) → IsIn x t.peers → IsIn x all.leases.peers
  peer-in x i = (IsIn-filter (λ (l : PeerLease). nat_lt m l.expiry) all.leases.peers x (subst (λ (u : Table). IsIn x u.peers) (sym (state-live all m is.kept (reached-later all m is))) i)).0

  -- ---- ports that other endpoints hold

  pub unheld-from : (o : Owner) → unheld_by m v o ≡ true → (q : Owner) → IsIn q (owners t) → q.protocol ≡ o.protocol → q.external ≡ o.external → q.endpoint ≡ o.endpoint
  unheld-from o h q i p n =
      let k = owned-last s is.reached.sound m q i in
      let w = while-is m (last_told v q.protocol q.external) k.0 (sym (told q.protocol q.external) ∙ k.1) in
      let here : last_told v o.protocol o.external ≡ Some k.0 = ap (λ (x : Protocol). last_told v x o.external) (sym p) ∙ ap (λ (x : ℕ). last_told v q.protocol x) (sym n) ∙ w.0 in
      let test = sym (ap (λ (x : Option End). is_unheld m x o.endpoint) here) ∙ h in
      let same = or-second (not (nat_lt m k.0.end)) (same_endpoint k.0.endpoint o.endpoint) (ap not (lt-ltb m k.0.end k.2)) test in
      sym k.3 ∙ (same_endpoint-Decides k.0.endpoint o.endpoint).0 same

  pub unheld-to : (o : Owner) → ((q : Owner) → IsIn q (owners t) → q.protocol ≡ o.protocol → q.external ≡ o.external → q.endpoint ≡ o.endpoint) → unheld_by m v o ≡ true
  unheld-to o f = step (last_told v o.protocol o.external) refl
    where
      held : (x : End) → last_told v o.protocol o.external ≡ Some x → m < x.end → same_endpoint x.endpoint o.endpoint ≡ true
      held x here late =
          let last : last_end s m o.protocol o.external ≡ Some x = told o.protocol o.external ∙ ap (while_recent m) here ∙ cond-true (is_recent m x) (Some x) None (lt-ltb m (x.end + 120) (omega (arith, late))) in
          let k = last-owned s m is.reached is.later o.protocol o.external x last late in
          (same_endpoint-Decides x.endpoint o.endpoint).1 (sym k.4 ∙ f k.0 k.1 k.2 k.3)

      step : (r : Option End) → last_told v o.protocol o.external ≡ r → is_unheld m r o.endpoint ≡ true
      step None here = refl
      step (Some x) here = elim (two_ways (nat_lt m x.end)) [
        | inl late ↦ or_right (not (nat_lt m x.end)) (same_endpoint x.endpoint o.endpoint) (held x here (ltb-true m x.end late))
        | inr soon ↦ or_left (not (nat_lt m x.end)) (same_endpoint x.endpoint o.endpoint) (ap not soon)
      ]

  -- ---- ports that rest for other endpoints

  abbrev RestsForNone : Owner → Type 0
  RestsForNone o = (e : Endpoint) → e.protocol ≡ o.protocol → rests_for s m o.external e ≡ true → e ≡ o.endpoint

  unrested-from : (o : Owner) → unrested_by m v o ≡ true → RestsForNone o
  unrested-from o h e p rests =
      let x = rests_for-some s m o.external e rests in
      let k = rests-last s m is.reached is.later x.0 x.1 in
      let w = while-is m (last_told v x.0.endpoint.protocol x.0.external) x.0 (sym (told x.0.endpoint.protocol x.0.external) ∙ k.0) in
      let protocol : x.0.endpoint.protocol ≡ o.protocol = ap (λ (y : Endpoint). y.protocol) x.2 ∙ p in
      let here : last_told v o.protocol o.external ≡ Some x.0 = ap (λ (y : Protocol). last_told v y o.external) (sym protocol) ∙ ap (λ (y : ℕ). last_told v x.0.endpoint.protocol y) (sym x.3) ∙ w.0 in
      let test = sym (ap (λ (y : Option End). is_unrested m y o.endpoint) here) ∙ h in
      let came : (nat_lt m x.0.end || not (is_recent m x.0)) ≡ false = ap (λ (b : Bool). b || not (is_recent m x.0)) (le-ltb m x.0.end k.1) ∙ ap not w.1 in
      let same = or-second (nat_lt m x.0.end || not (is_recent m x.0)) (same_endpoint x.0.endpoint o.endpoint) came test in
      sym x.2 ∙ (same_endpoint-Decides x.0.endpoint o.endpoint).0 same

  unrested-to : (o : Owner) → RestsForNone o → unrested_by m v o ≡ true
  unrested-to o f = step (last_told v o.protocol o.external) refl
    where
      rested : (x : End) → last_told v o.protocol o.external ≡ Some x → nat_lt m x.end ≡ false → is_recent m x ≡ true → same_endpoint x.endpoint o.endpoint ≡ true
      rested x here came recent =
          let last : last_end s m o.protocol o.external ≡ Some x = told o.protocol o.external ∙ ap (while_recent m) here ∙ cond-true (is_recent m x) (Some x) None recent in
          let there = last-rests s m is.reached is.later o.protocol o.external x last (ltb-false m x.end came) in
          let k = last-some s is.reached.sound m o.protocol o.external x last in
          let rests : rests_for s m o.external x.endpoint ≡ true = some-any (λ (y : End). same_endpoint y.endpoint x.endpoint && y.external == o.external) (resting s m) x there
          (and_from _ _ ((same_endpoint-Decides x.endpoint x.endpoint).1 refl) (eq-eqb x.external o.external k.3)) in
          (same_endpoint-Decides x.endpoint o.endpoint).1 (f x.endpoint k.2 rests)

      step : (r : Option End) → last_told v o.protocol o.external ≡ r → is_unrested m r o.endpoint ≡ true
      step None here = refl
      step (Some x) here = elim (two_ways (nat_lt m x.end || not (is_recent m x))) [
        | inl free ↦ or_left (nat_lt m x.end || not (is_recent m x)) (same_endpoint x.endpoint o.endpoint) free
        | inr held ↦ (let both = Rattle.std.proofs.lemmas.Bool.or_parts (nat_lt m x.end) (not (is_recent m x)) held in
            or_right (nat_lt m x.end || not (is_recent m x)) (same_endpoint x.endpoint o.endpoint) (rested x here both.0 (Rattle.indexed_store.proofs.LeavingLemmas.not_forth (is_recent m x) both.1)))
      ]

  pub unrested-all : (os : List Owner) → (list_all (unrested_by m v) os ≡ true) ↔ RestForNoOther s m os
  unrested-all os = (all-true (unrested_by m v) RestsForNone os (λ o i. unrested-from o), true-all (unrested_by m v) RestsForNone os (λ o i. unrested-to o))

  pub unrested-one : (o : Owner) → (unrested_by m v o ≡ true) ↔ RestForNoOther s m (o ∷ [])
  unrested-one o = (λ h. (unrested-from o h, tt), λ h. unrested-to o h.0)

  -- ---- unused ports

  lives : live s.table s.last ≡ s.table
  lives =
      ap (λ (ls : List MapLease). record { maps = ls; peers = filter (λ (l : PeerLease). nat_lt s.last l.expiry) s.table.peers })
      (filter-all (λ (l : MapLease). nat_lt s.last l.expiry) s.table.maps (All-weaker (λ (l : MapLease). IsTermAt s.last l.granted l.expiry) (λ (l : MapLease). nat_lt s.last l.expiry ≡ true) (λ l term. lt-ltb s.last l.expiry term.live) s.table.maps is.reached.maps))
      ∙ ap (λ (ls : List PeerLease). record { maps = s.table.maps; peers = ls })
      (filter-all (λ (l : PeerLease). nat_lt s.last l.expiry) s.table.peers (All-weaker (λ (l : PeerLease). IsTermAt s.last l.granted l.expiry) (λ (l : PeerLease). nat_lt s.last l.expiry ≡ true) (λ l term. lt-ltb s.last l.expiry term.live) s.table.peers is.reached.peers))

  no-end : {A : Type 0} (protocol : Protocol) (port : ℕ) (x : End) → last_end s s.last protocol port ≡ None → last_end s s.last protocol port ≡ Some x → A
  no-end protocol port x none some = absurd (let never : None ≡ Some x = sym none ∙ some in cc)

  unused-from : (e : Endpoint) (port : ℕ) → last_told v e.protocol port ≡ None → IsUnused s e port
  unused-from e port h =
      let none = sym (at_last e.protocol port) ∙ h in
      record {
        unowned = false_from_ne_true (is_owned e.protocol port (owners s.table)) (λ owned.
            let o = owned-some e.protocol port (owners s.table) owned in
            let k = owned-last s is.reached.sound s.last o.0 (subst (λ (x : Table). IsIn o.0 (owners x)) (sym lives) o.1) in
            no-end e.protocol port k.0 none (ap (λ (p : Protocol). last_end s s.last p port) (sym o.2) ∙ ap (λ (n : ℕ). last_end s s.last o.0.protocol n) (sym o.3) ∙ k.1));
        endless = false_from_ne_true (list_any (is_end_of e.protocol port) s.ends) (λ some.
            let x = any-some (is_end_of e.protocol port) s.ends some in
            let p = port_is e.protocol port x.0 x.2 in
            let recent = All-IsIn (IsEndAt s.last) s.ends x.0 is.reached.ends x.1 in
            no-end e.protocol port x.0 none (old-last s is.reached.sound s.last e.protocol port x.0 p.0 p.1 x.1 (lt-ltb s.last (x.0.end + 120) recent.recent)));
      }

  unused-to : (e : Endpoint) (port : ℕ) → IsUnused s e port → (r : Option End) → last_end s s.last e.protocol port ≡ r → r ≡ None
  unused-to e port h None k = refl
  unused-to e port h (Some x) k =
      let p = last-some s is.reached.sound s.last e.protocol port x k in
      elim (last-from s is.reached.sound s.last e.protocol port x k) [
        | inl old ↦ absurd (unlike (list_any (is_end_of e.protocol port) s.ends) (some-any (is_end_of e.protocol port) s.ends x old (is_port_of e.protocol port x p.2 p.3)) h.endless)
        | inr left ↦ absurd (let owned = left-owned s.table x (left-by_expiry s.table x left.0) in
            unlike (is_owned e.protocol port (owners s.table))
            (ap (λ (q : Protocol). is_owned q port (owners s.table)) (sym p.2) ∙ ap (λ (n : ℕ). is_owned x.endpoint.protocol n (owners s.table)) (sym p.3) ∙ owned) h.unowned)
      ]

  pub unused : (e : Endpoint) (port : ℕ) → (last_told v e.protocol port ≡ None) ↔ IsUnused s e port
  unused e port = (unused-from e port, λ h. at_last e.protocol port ∙ unused-to e port h (last_end s s.last e.protocol port) refl)

  -- ---- endpoints that have ports

  uncovered : (e : Endpoint) → not (is_some (covering s.table m e)) ≡ true → (x : MapLease) → IsIn x t.maps → covers x e ≡ false
  uncovered e h x i = All-IsIn (λ y. covers y e ≡ false) t.maps x (any-none (λ y. covers y e) t.maps (sym (some_any (λ y. covers y e) t.maps) ∙ not_back _ h)) i

  keeps-from : (e : Endpoint) (n : ℕ) → is_at_most (named_port s.table m e) n ≡ true → (y : PeerLease) → IsIn y t.peers → names y e ≡ true → y.external ≡ n
  keeps-from e n h y i named = step (find (λ l. names l e) t.peers) refl h
    where
      step : (o : Option PeerLease) → find (λ l. names l e) t.peers ≡ o → is_at_most (option_map (λ (l : PeerLease). l.external) o) n ≡ true → y.external ≡ n
      step None none k = absurd (unlike (names y e) named (All-IsIn (λ l. names l e ≡ false) t.peers y (find-none (λ l. names l e) t.peers none) i))
      step (Some z) some k =
          let f = find-some (λ l. names l e) t.peers z some in
          one_port all.leases e m is.kept.tabled y z (peer-in y i) (peer-in z f.0) named f.1 ∙ eqb-true z.external n k

  keeps-to : (e : Endpoint) (n : ℕ) → ((y : PeerLease) → IsIn y t.peers → names y e ≡ true → y.external ≡ n) → is_at_most (named_port s.table m e) n ≡ true
  keeps-to e n f = step (find (λ l. names l e) t.peers) refl
    where
      step : (o : Option PeerLease) → find (λ l. names l e) t.peers ≡ o → is_at_most (option_map (λ (l : PeerLease). l.external) o) n ≡ true
      step None none = refl
      step (Some z) some = let k = find-some (λ l. names l e) t.peers z some in eq-eqb z.external n (f z k.0 k.1)

  -- an owned port is that of a MAP lease or of a PEER lease
  owner-cases : (p : Owner) → IsIn p (owners t) → ((x : MapLease) × IsIn x t.maps × IsIn p (map_owners x)) ⊎ ((y : PeerLease) × IsIn y t.peers × (peer_owner y ≡ p))
  owner-cases p i = elim (IsIn-append (flat_map map_owners t.maps) (map peer_owner t.peers) p i) [
    | inl a ↦ inl (IsIn-flat_map map_owners t.maps p a)
    | inr b ↦ inr (IsIn-map peer_owner t.peers p b)
  ]

  peer-there : (y : PeerLease) → IsIn y t.peers → IsIn (peer_owner y) (owners t)
  peer-there y i = IsIn-right (flat_map map_owners t.maps) (map peer_owner t.peers) (peer_owner y) (map-IsIn peer_owner t.peers y i)

  map-there : (x : MapLease) (p : Owner) → IsIn x t.maps → IsIn p (map_owners x) → IsIn p (owners t)
  map-there x p i k = IsIn-left (flat_map map_owners t.maps) (map peer_owner t.peers) p (flat_map-IsIn map_owners t.maps x p i k)

  -- ---- room for a MAP lease

  module _ (l : MapLease) where
    abbrev room : Owner → Bool
    room = has_room_at s.table m v

    parts-of : (o : Owner) → room o ≡ true → (not (is_some (covering s.table m o.endpoint)) ≡ true) × (is_at_most (named_port s.table m o.endpoint) o.external ≡ true) × (unheld_by m v o ≡ true)
    parts-of o h = let a = and_parts _ _ h in let b = and_parts _ _ a.0 in (b.0, b.1, a.1)

    each : list_all room (map_owners l) ≡ true → (q : Owner) → IsIn q (map_owners l) → room q ≡ true
    each h q i = All-IsIn (λ o. room o ≡ true) (map_owners l) q (all-true room (λ o. room o ≡ true) (map_owners l) (λ o j k. k) h) i

    pub map-room-from : nat_lt (lease_count s.table m) MOST_LEASES ≡ true → list_all room (map_owners l) ≡ true → HasRoomForMap t l
    map-room-from space all = record {
      apart = All-from_IsIn (λ x. AreApart x l) t.maps (λ x i e cx cl.
          let o = covered-owner l e cl in
          unlike (covers x e) cx (uncovered e (subst (λ (z : Endpoint). not (is_some (covering s.table m z)) ≡ true) o.2 (parts-of o.0 (each all o.0 o.1)).0) x i));
      agree = record {
        owner = λ p q i j protocols externals.
            let k = IsIn-from_Contains (map_owners l) q j in
            unheld-from q (parts-of q (each all q k)).2 p (IsIn-from_Contains (owners t) p i) protocols externals;
        port = λ p q i j endpoints.
            let k = parts-of q (each all q (IsIn-from_Contains (map_owners l) q j)) in
            elim (owner-cases p (IsIn-from_Contains (owners t) p i)) [
              | inl a ↦ absurd (unlike (covers a.0 q.endpoint) (subst (λ (z : Endpoint). covers a.0 z ≡ true) endpoints (owner-covered a.0 p a.2)) (uncovered q.endpoint k.0 a.0 a.1))
              | inr b ↦ sym (ap (λ (z : Owner). z.external) b.2) ∙ keeps-from q.endpoint q.external k.1 b.0 b.1 ((same_endpoint-Decides b.0.endpoint q.endpoint).1 (ap (λ (z : Owner). z.endpoint) b.2 ∙ endpoints))
            ];
      };
      room = ltb-true (lease_count s.table m) MOST_LEASES space;
    }

    pub map-room-to : HasRoomForMap t l → (nat_lt (lease_count s.table m) MOST_LEASES ≡ true) × (list_all room (map_owners l) ≡ true)
    map-room-to h = (
      lt-ltb (lease_count s.table m) MOST_LEASES h.room,
      true-all room (λ o. IsIn o (map_owners l)) (map_owners l) (λ o i j.
          and_from _ _ (and_from _ _
          (ap not (sym_some o i)) (keeps-to o.endpoint o.external (λ y k named.
          h.agree.port (peer_owner y) o (Contains-from_IsIn (owners t) (peer_owner y) (peer-there y k)) (Contains-from_IsIn (map_owners l) o i) ((same_endpoint-Decides y.endpoint o.endpoint).0 named))))
          (unheld-to o (λ q k protocols externals. h.agree.owner q o (Contains-from_IsIn (owners t) q k) (Contains-from_IsIn (map_owners l) o i) protocols externals)))
          (All-from_IsIn (λ o. IsIn o (map_owners l)) (map_owners l) (λ o i. i)),
    )
      where
        sym_some : (o : Owner) → IsIn o (map_owners l) → is_some (covering s.table m o.endpoint) ≡ false
        sym_some o i = some_any (λ x. covers x o.endpoint) t.maps ∙ none-any (λ x. covers x o.endpoint) t.maps
            (All-from_IsIn (λ x. covers x o.endpoint ≡ false) t.maps (λ x k. false_from_ne_true (covers x o.endpoint) (λ c.
            All-IsIn (λ y. AreApart y l) t.maps x h.apart k o.endpoint c (owner-covered l o i))))

  -- ---- room for a PEER lease

  module _ (l : PeerLease) where
    abbrev own : Owner
    own = peer_owner l

    covered-at : (x : MapLease) → IsIn x t.maps → covers x l.endpoint ≡ true → (o : Option MapLease) → find (λ y. covers y l.endpoint) t.maps ≡ o → o ≡ Some x
    covered-at x i c None is_none = absurd (unlike (covers x l.endpoint) c (All-IsIn (λ y. covers y l.endpoint ≡ false) t.maps x (find-none (λ y. covers y l.endpoint) t.maps is_none) i))
    covered-at x i c (Some y) is_some' = let f = find-some (λ y. covers y l.endpoint) t.maps y is_some' in ap Some (one-covers all.leases l.endpoint is.kept.tabled y x (map-in y f.0) (map-in x i) f.1 c)

    -- by a lease that covers the endpoint
    map-port : is_at_most (covered_port s.table m l.endpoint) l.external ≡ true → (p : Owner) (x : MapLease) → IsIn x t.maps → IsIn p (map_owners x) → p.endpoint ≡ l.endpoint → p.external ≡ l.external
    map-port h p x i k same =
        let c : covers x l.endpoint ≡ true = subst (λ (z : Endpoint). covers x z ≡ true) same (owner-covered x p k) in
        let found = covered-at x i c (covering s.table m l.endpoint) refl in
        let at : (x.external + (l.endpoint.port - x.internal) == l.external) ≡ true = sym (ap (λ (o : Option MapLease). is_at_most (option_map (λ (y : MapLease). y.external + (l.endpoint.port - y.internal)) o) l.external) found) ∙ h in
        let r = map_owners-IsIn x p k in
        let external : x.external + r.0 ≡ p.external = ap (λ (z : Owner). z.external) r.2 in
        let port : x.internal + r.0 ≡ l.endpoint.port = ap (λ (z : Owner). z.endpoint.port) r.2 ∙ ap (λ (z : Endpoint). z.port) same in
        let value : x.external + (l.endpoint.port - x.internal) ≡ l.external = eqb-true _ _ at in
        omega (arith, external, port, value)

    pub peer-room-from : nat_lt (lease_count s.table m) MOST_LEASES ≡ true → peer_has_room s.table m v own ≡ true → HasRoomForPeer t l
    peer-room-from space h =
        let a = and_parts _ _ h in let b = and_parts _ _ a.0 in let d = and_parts _ _ b.0 in
        record {
          few = ltb-true (peer_count s.table m l.endpoint) MOST_PEERS d.0;
          agree = record {
            owner = λ p q i j protocols externals. at_own q (IsIn-from_Contains (own ∷ []) q j) (λ (z : Owner). p.protocol ≡ z.protocol → p.external ≡ z.external → p.endpoint ≡ z.endpoint)
                (unheld-from own a.1 p (IsIn-from_Contains (owners t) p i)) protocols externals;
            port = λ p q i j endpoints. at_own q (IsIn-from_Contains (own ∷ []) q j) (λ (z : Owner). p.endpoint ≡ z.endpoint → p.external ≡ z.external)
                (λ same. elim (owner-cases p (IsIn-from_Contains (owners t) p i)) [
                  | inl x ↦ map-port d.1 p x.0 x.1 x.2 same
                  | inr y ↦ sym (ap (λ (z : Owner). z.external) y.2) ∙ keeps-from l.endpoint l.external b.1 y.0 y.1 ((same_endpoint-Decides y.0.endpoint l.endpoint).1 (ap (λ (z : Owner). z.endpoint) y.2 ∙ same))
                ]) endpoints;
          };
          room = ltb-true (lease_count s.table m) MOST_LEASES space;
        }
      where
        at_own : (q : Owner) → IsIn q (own ∷ []) → (P : Owner → Type 0) → P own → P q
        at_own q (inl e) P h = subst P e h
        at_own q (inr none) P h = absurd none

    pub peer-room-to : HasRoomForPeer t l → (nat_lt (lease_count s.table m) MOST_LEASES ≡ true) × (peer_has_room s.table m v own ≡ true)
    peer-room-to h = (
      lt-ltb (lease_count s.table m) MOST_LEASES h.room,
      and_from _ _ (and_from _ _ (and_from _ _ (lt-ltb (peer_count s.table m l.endpoint) MOST_PEERS h.few) (map_at (covering s.table m l.endpoint) refl))
          (keeps-to l.endpoint l.external (λ y k named. h.agree.port (peer_owner y) own (Contains-from_IsIn (owners t) (peer_owner y) (peer-there y k)) mine ((same_endpoint-Decides y.endpoint l.endpoint).0 named))))
          (unheld-to own (λ q k protocols externals. h.agree.owner q own (Contains-from_IsIn (owners t) q k) mine protocols externals)),
    )
      where
        mine : Contains (own ∷ []) own
        mine = Contains-from_IsIn (own ∷ []) own (inl refl)

        map_at : (o : Option MapLease) → find (λ y. covers y l.endpoint) t.maps ≡ o → is_at_most (option_map (λ (y : MapLease). y.external + (l.endpoint.port - y.internal)) o) l.external ≡ true
        map_at None none = refl
        map_at (Some x) some =
            let f = find-some (λ y. covers y l.endpoint) t.maps x some in
            let o = covered-owner x l.endpoint f.1 in
            let same : o.0.external ≡ l.external = h.agree.port o.0 own (Contains-from_IsIn (owners t) o.0 (map-there x o.0 f.0 o.1)) mine o.2 in
            eq-eqb _ _ (sym o.3 ∙ same)

  pub peer-room : (l : PeerLease) → ((nat_lt (lease_count s.table m) MOST_LEASES && peer_has_room s.table m v (peer_owner l)) ≡ true) ↔ HasRoomForPeer t l
  peer-room l = (λ h. let p = and_parts _ _ h in peer-room-from l p.0 p.1, λ h. let p = peer-room-to l h in and_from _ _ p.0 p.1)

  pub map-room : (l : MapLease) → ((nat_lt (lease_count s.table m) MOST_LEASES && list_all (has_room_at s.table m v) (map_owners l)) ≡ true) ↔ HasRoomForMap t l
  map-room l = (λ h. let p = and_parts _ _ h in map-room-from l p.0 p.1, λ h. let p = map-room-to l h in and_from _ _ p.0 p.1)
