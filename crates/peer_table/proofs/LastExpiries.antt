-- The latest expiry of the leases of an external port.
use Rattle.std.proofs.Common.{◌≡◌, ℕ, ◌≤◌, ◌⊎◌, ◌&&◌, ◌==◌, nat_lt, Bool, true, false, not, cond, List, [], ◌∷◌, Option, Some, None, refl, sym, ap, ◌∙◌, inl, inr, arith}
use Rattle.std.specs.Ordering.{nat_cmp, ordering_then, is_eq, is_gt, is_le}
use Rattle.std.specs.Cmp.Lexicographic.{slice_cmp}
use Rattle.std.specs.declared.ops.Bound.TheVariants.{Included, Excluded}
use Rattle.std.specs.BTreeMap.{get, is_at, values}
use Rattle.std.specs.BTreeMap.Range.{range_contains, entries_between}
use Rattle.std.proofs.lemmas.Bool.{and_parts, and_from, eqb-true, eq-eqb, ltb-true, ltb-false}
use Rattle.std.proofs.lemmas.Cmp.{tied_itself}
use Rattle.pcp_base.specs.declared.leases.Protocol.{Protocol}
use Rattle.pcp_base.specs.declared.leases.PeerLease.{PeerLease}
use Rattle.pcp_base.specs.Owners.{is_port, peer_owner}
use Rattle.pcp_base.proofs.Members.{IsIn, IsIn-map, IsIn-filter, filter-IsIn, map-IsIn, All-from_IsIn, none-any, some-any}
use Rattle.pcp_base.proofs.Same.{same_protocol-Decides}
use Rattle.ordered_index.specs.declared.numbered.Numbered.{Numbered}
use Rattle.ordered_index.specs.Orders.{port_at, port_cmp}
use Rattle.ordered_index.proofs.Entries.{entry_at, false_by, same_tests}
use Rattle.ordered_index.proofs.Keeping.{port-from, port-to}
use Rattle.ordered_index.proofs.Mirrorings.{entry-at, at-entry}
use Rattle.ordered_index.proofs.OrderLaws.{port_total, port_exact, at_self, at_exact}
use Rattle.std.specs.Cmp.{nat_cmp_total}
use Rattle.std.proofs.lemmas.Map.Lookups.{exact_unsigned}
use Rattle.peer_table.specs.PeerLists.{IsLastExpiry}
use Rattle.peer_table.specs.Kept.{PeerKey, Opening, opening_cmp, opening_of_lease, peer_keying, AreKeptPeers, IsOpeningBound, expiry_in, later, last_of, opening_total}
use Rattle.peer_table.proofs.PeerKeeping.{peer_laws, opening_exact, protocol_of_number}
use Rattle.peer_table.proofs.PeerKeys.{within_cases, bound_cases}

-- ---- the later of two

later-one : (a b : Option ℕ) (n : ℕ) → later a b ≡ Some n → (a ≡ Some n) ⊎ (b ≡ Some n)
later-one None b n h = inr h
later-one (Some a) None n h = inl h
later-one (Some a) (Some b) n h = step (nat_lt a b) h
  where
    step : (t : Bool) → cond t (Some b) (Some a) ≡ Some n → (Some a ≡ Some n) ⊎ (Some b ≡ Some n)
    step true h = inr h
    step false h = inl h

later-first : (a : ℕ) (b : Option ℕ) → (y : ℕ) × (later (Some a) b ≡ Some y) × (a ≤ y)
later-first a None = (a, refl, omega arith)
later-first a (Some b) = step (nat_lt a b) refl
  where
    step : (t : Bool) → nat_lt a b ≡ t → (y : ℕ) × (cond t (Some b) (Some a) ≡ Some y) × (a ≤ y)
    step true h = (b, refl, (let lt = ltb-true a b h in omega (arith, lt)))
    step false h = (a, refl, omega arith)

later-second : (a : Option ℕ) (b : ℕ) → (y : ℕ) × (later a (Some b) ≡ Some y) × (b ≤ y)
later-second None b = (b, refl, omega arith)
later-second (Some a) b = step (nat_lt a b) refl
  where
    step : (t : Bool) → nat_lt a b ≡ t → (y : ℕ) × (cond t (Some b) (Some a) ≡ Some y) × (b ≤ y)
    step true h = (b, refl, omega arith)
    step false h = (a, refl, (let le = ltb-false a b h in omega (arith, le)))

later-none : (a b : Option ℕ) → later a b ≡ None → (a ≡ None) × (b ≡ None)
later-none None b h = (refl, h)
later-none (Some a) None h = absurd (let no : Some a ≡ None = h in cc)
later-none (Some a) (Some b) h = absurd (step (nat_lt a b) h)
  where
    step : (t : Bool) → cond t (Some b) (Some a) ≡ None → ⊥
    step true h = let no : Some b ≡ None = h in cc
    step false h = let no : Some a ≡ None = h in cc

-- ---- the latest of a list

module _ {X : Type 0} (f : X → Option ℕ) where
  last_some : (xs : List X) (a : Option ℕ) (n : ℕ) → last_of f a xs ≡ Some n → (a ≡ Some n) ⊎ ((x : X) × IsIn x xs × (f x ≡ Some n))
  last_some [] a n h = inl h
  last_some (x ∷ xs) a n h = elim (last_some xs (later a (f x)) n h) [
    | inr deep ↦ inr (deep.0, inr deep.1, deep.2)
    | inl here ↦ elim (later-one a (f x) n here) [
      | inl first ↦ inl first
      | inr second ↦ inr (x, inl refl, second)
    ]
  ]

  last_least : (xs : List X) (a n : ℕ) → last_of f (Some a) xs ≡ Some n → a ≤ n
  last_least [] a n h = let same : a ≡ n = (let both : Some a ≡ Some n = h in cc) in omega (arith, same)
  last_least (x ∷ xs) a n h =
      let y = later-first a (f x) in
      let up = last_least xs y.0 n (ap (λ (o : Option ℕ). last_of f o xs) (sym y.1) ∙ h) in omega (arith, up, y.2)

  last_late : (xs : List X) (a : Option ℕ) (n : ℕ) → last_of f a xs ≡ Some n → (x : X) → IsIn x xs → (k : ℕ) → f x ≡ Some k → k ≤ n
  last_late [] a n h x i k is = absurd i
  last_late (z ∷ xs) a n h x (inl e) k is =
      let y = later-second a k in
      let told : f z ≡ Some k = ap f e ∙ is in
      let up = last_least xs y.0 n (ap (λ (o : Option ℕ). last_of f o xs) (sym (ap (later a) told ∙ y.1)) ∙ h) in omega (arith, up, y.2)
  last_late (z ∷ xs) a n h x (inr i) k is = last_late xs (later a (f z)) n h x i k is

  last_none : (xs : List X) (a : Option ℕ) → last_of f a xs ≡ None → (x : X) → IsIn x xs → f x ≡ None
  last_none [] a h x i = absurd i
  last_none (z ∷ xs) a h x (inl e) = ap f (sym e) ∙ (later-none a (f z) (start xs (later a (f z)) h)).1
    where
      start : (xs : List X) (b : Option ℕ) → last_of f b xs ≡ None → b ≡ None
      start xs None h = refl
      start xs (Some b) h = absurd (never xs b h)
        where
          never : (xs : List X) (b : ℕ) → last_of f (Some b) xs ≡ None → ⊥
          never [] b h = let no : Some b ≡ None = h in cc
          never (x ∷ xs) b h = let y = later-first b (f x) in never xs y.0 (ap (λ (o : Option ℕ). last_of f o xs) (sym y.1) ∙ h)
  last_none (z ∷ xs) a h x (inr i) = last_none xs (later a (f z)) h x i

-- ---- the openings of a port

-- the port of an opening
abbrev pub port_in : Opening → ℕ × ℕ
port_in o = (o.0, o.1)

side_is : (p : ℕ × ℕ) (n : ℕ) (a k : Opening) → port_in a ≡ p → a.2 ≡ n → k.2 ≡ 1 →
    is_le (opening_cmp a k) ≡ is_le (ordering_then (ordering_then (ordering_then (port_cmp p (port_in k)) (nat_cmp n 1)) (slice_cmp nat_cmp a.3 k.3)) (nat_cmp a.4 k.4))
side_is p n a k port side one =
    let r = slice_cmp nat_cmp a.3 k.3 in let s = nat_cmp a.4 k.4 in
    ap (λ (z : ℕ × ℕ). is_le (ordering_then (ordering_then (ordering_then (port_cmp z (port_in k)) (nat_cmp a.2 k.2)) r) s)) port
    ∙ ap (λ (z : ℕ). is_le (ordering_then (ordering_then (ordering_then (port_cmp p (port_in k)) (nat_cmp z k.2)) r) s)) side
    ∙ ap (λ (z : ℕ). is_le (ordering_then (ordering_then (ordering_then (port_cmp p (port_in k)) (nat_cmp n z)) r) s)) one

module _ (protocol : Protocol) (port : ℕ) (lo hi : Opening) (low : IsOpeningBound protocol port 0 lo) (high : IsOpeningBound protocol port 2 hi) where
  within_openings : (k : Opening) → k.2 ≡ 1 → range_contains opening_cmp (Included lo) (Excluded hi) k ≡ is_eq (port_cmp (port_at protocol port) (port_in k))
  within_openings k one =
      let p = port_at protocol port in
      let a = side_is p 0 lo k low.port_is low.side_is one in
      let b = side_is p 2 hi k high.port_is high.side_is one in
      ap (λ t. t && not (is_le (opening_cmp hi k))) a
      ∙ ap (λ t. is_le (ordering_then (ordering_then (ordering_then (port_cmp p (port_in k)) (nat_cmp 0 1)) (slice_cmp nat_cmp lo.3 k.3)) (nat_cmp lo.4 k.4)) && not t) b
      ∙ within_cases (port_cmp p (port_in k)) _ _ _ _

  pub openings_forward : is_gt (opening_cmp lo hi) ≡ false
  openings_forward = bound_cases (port_cmp (port_in lo) (port_in hi)) lo.2 hi.2 (slice_cmp nat_cmp lo.3 hi.3) (nat_cmp lo.4 hi.4)
      (ap (λ (p : ℕ × ℕ). port_cmp p (port_in hi)) (low.port_is ∙ sym high.port_is) ∙ tied_itself port_total (port_in hi)) low.side_is high.side_is

  -- the openings between the bounds are those of leases that own the port
  pub owning_within : (l : PeerLease) → range_contains opening_cmp (Included lo) (Excluded hi) (opening_of_lease l) ≡ is_port protocol port (peer_owner l)
  owning_within l = within_openings (opening_of_lease l) refl ∙ same_tests (is_at (port_cmp (port_at protocol port)) (port_at l.endpoint.protocol l.external)) (is_port protocol port (peer_owner l))
      (λ t. let same = at_exact port_exact (port_at protocol port) (port_at l.endpoint.protocol l.external) t in
      and_from _ _ ((same_protocol-Decides l.endpoint.protocol protocol).1 (protocol_of_number l.endpoint.protocol protocol (sym (ap (λ (z : ℕ × ℕ). z.0) same)))) (eq-eqb l.external port (sym (ap (λ (z : ℕ × ℕ). z.1) same))))
      (λ t. let p = and_parts _ _ t in
      ap (λ (z : Protocol). is_at (port_cmp (port_at protocol port)) (port_at z l.external)) ((same_protocol-Decides l.endpoint.protocol protocol).0 p.0)
      ∙ ap (λ (z : ℕ). is_at (port_cmp (port_at protocol port)) (port_at protocol z)) (eqb-true l.external port p.1) ∙ at_self port_total (port_at protocol port))

  module _ (it : Numbered PeerLease PeerKey Opening) (h : AreKeptPeers it) where
    abbrev part : List (Opening × ℕ)
    part = entries_between opening_cmp (Included lo) (Excluded hi) it.ports.entries

    abbrev expiry_of : Opening × ℕ → Option ℕ
    expiry_of e = expiry_in (get nat_cmp it.leases e.1)

    -- an entry there is that of a lease
    of_lease : (e : Opening × ℕ) → IsIn e part → (l : PeerLease) × IsIn l (values it.leases) × (is_port protocol port (peer_owner l) ≡ true) × (expiry_of e ≡ Some l.expiry)
    of_lease e i =
        let j = IsIn-filter (λ (y : Opening × ℕ). range_contains opening_cmp (Included lo) (Excluded hi) y.0) it.ports.entries e i in
        let y = port-from peer_keying peer_laws it h.kept e.0 e.1 (entry-at opening_total opening_exact it.ports h.kept.ports_ordered e.0 e.1 j.0) in (
          y.0,
          map-IsIn (λ (z : ℕ × PeerLease). z.1) it.leases.entries (e.1, y.0) (at-entry nat_cmp_total exact_unsigned it.leases h.kept.ordered e.1 y.0 y.1),
          sym (owning_within y.0) ∙ ap (λ (k : Opening). range_contains opening_cmp (Included lo) (Excluded hi) k) y.2 ∙ j.1,
          ap expiry_in y.1,
        )

    -- and each lease that owns the port has one
    has_entry : (l : PeerLease) → IsIn l (values it.leases) → is_port protocol port (peer_owner l) ≡ true → (e : Opening × ℕ) × IsIn e part × (expiry_of e ≡ Some l.expiry)
    has_entry l i owns =
        let r = IsIn-map (λ (z : ℕ × PeerLease). z.1) it.leases.entries l i in
        let at : get nat_cmp it.leases r.0.0 ≡ Some l = entry_at it.leases h.kept.ordered r.0.0 r.0.1 r.1 ∙ ap Some r.2 in
        let there = at-entry opening_total opening_exact it.ports h.kept.ports_ordered (opening_of_lease l) r.0.0 (port-to peer_keying peer_laws it h.kept r.0.0 l at) in
        ((opening_of_lease l, r.0.0), filter-IsIn (λ (y : Opening × ℕ). range_contains opening_cmp (Included lo) (Excluded hi) y.0) it.ports.entries (opening_of_lease l, r.0.0) there (owning_within l ∙ owns), ap expiry_in at)

    told : (r : Option ℕ) → last_of expiry_of None part ≡ r → IsLastExpiry protocol port (values it.leases) r
    told None is = record {
      there = tt;
      latest = tt;
      none = none-any (λ l. is_port protocol port (peer_owner l)) (values it.leases) (All-from_IsIn (λ l. is_port protocol port (peer_owner l) ≡ false) (values it.leases) (λ l i. false_by (is_port protocol port (peer_owner l)) (λ owns.
          let e = has_entry l i owns in let no : None ≡ Some l.expiry = sym (last_none expiry_of part None is e.0 e.1) ∙ e.2 in cc)));
    }
    told (Some n) is = record {
      there = elim (last_some expiry_of part None n is) [
        | inl nothing ↦ absurd (let never : None ≡ Some n = nothing in cc)
        | inr found ↦ (let l = of_lease found.0 found.1 in
            let same : l.0.expiry ≡ n = (let both : Some l.0.expiry ≡ Some n = sym l.3 ∙ found.2 in cc) in
            some-any (λ x. is_port protocol port (peer_owner x) && x.expiry == n) (values it.leases) l.0 l.1 (and_from _ _ l.2 (eq-eqb l.0.expiry n same)))
      ];
      latest = All-from_IsIn (λ l. is_port protocol port (peer_owner l) ≡ true → l.expiry ≤ n) (values it.leases) (λ l i owns.
          let e = has_entry l i owns in last_late expiry_of part None n is e.0 e.1 l.expiry e.2);
      none = tt;
    }

    pub last_told : (r : Option ℕ) → r ≡ last_of expiry_of None part → IsLastExpiry protocol port (values it.leases) r
    last_told r is = told r (sym is)
