-- Which leases another one overlaps.
use Rattle.std.proofs.Common.{◌≡◌, ℕ, ◌&&◌, ◌==◌, not, Bool, true, false, cond, List, [], ◌∷◌, find, Contains, Option, Some, None, IsSome, refl, inl, inr, sym, ap, ◌∙◌, subst}
use Rattle.std.specs.List.{list_any}
use Rattle.std.specs.Option.{option_map}
use Rattle.std.specs.Ordering.{nat_cmp}
use Rattle.std.specs.Cmp.{nat_cmp_total}
use Rattle.std.specs.declared.ops.Bound.TheVariants.{Included, Excluded}
use Rattle.std.specs.BTreeMap.{get, values}
use Rattle.std.specs.BTreeMap.Range.{range_contains, entries_between}
use Rattle.std.proofs.lemmas.Bool.{and_parts, and_from, or_left, or_right, or_cases, eqb-true, eq-eqb}
use Rattle.std.proofs.lemmas.Map.Lookups.{exact_unsigned}
use Rattle.pcp_base.specs.declared.leases.Endpoint.{Endpoint}
use Rattle.pcp_base.specs.declared.leases.PeerLease.{PeerLease}
use Rattle.pcp_base.specs.Owners.{is_port, peer_owner}
use Rattle.pcp_base.specs.Tables.{EachTwo, is_peer_of, names, same_address, same_endpoint, same_protocol}
use Rattle.pcp_base.proofs.Members.{IsIn, IsIn-from_Contains, Contains-from_IsIn, All-IsIn, IsIn-map, map-IsIn, IsIn-filter, filter-IsIn, find-some, find-none, any-some}
use Rattle.pcp_base.proofs.Same.{same_endpoint-Decides, same_protocol-Decides}
use Rattle.ordered_index.specs.declared.numbered.Numbered.{Numbered}
use Rattle.ordered_index.proofs.Entries.{entry_at, false_by}
use Rattle.ordered_index.proofs.Keeping.{key-from, key-to, port-from, port-to}
use Rattle.ordered_index.proofs.Mirrorings.{entry-at, at-entry}
use Rattle.peer_table.specs.PeerLists.{has_other_port, has_other_endpoint, overlaps, AreFellows, IsOverlapped}
use Rattle.peer_table.specs.Kept.{PeerKey, Opening, key_cmp, opening_cmp, key_of_lease, opening_of_lease, peer_keying, AreKeptPeers, IsBound, IsOpeningBound, has_remote, first_number, overlapped, TellsOther, key_total, opening_total}
use Rattle.peer_table.proofs.LastExpiries.{owning_within}
use Rattle.peer_table.proofs.PeerKeeping.{peer_laws, key_exact, opening_exact}
use Rattle.peer_table.proofs.PortUses.{within_names}

pub clash : (b : Bool) → b ≡ true → b ≡ false → ⊥
clash b h k = let no : true ≡ false = sym h ∙ k in cc

not-true : (b : Bool) → not b ≡ true → b ≡ false
not-true true h = sym h
not-true false h = refl

-- whether two leases have one external port
abbrev one_port : PeerLease → PeerLease → Bool
one_port a b = same_protocol a.endpoint.protocol b.endpoint.protocol && a.external == b.external

-- each of both has the endpoint of the other where it has its external port
pub record Share (a b : PeerLease) : Type 0 where
  pub port : a.endpoint ≡ b.endpoint → a.external ≡ b.external
  pub endpoint : a.endpoint.protocol ≡ b.endpoint.protocol → a.external ≡ b.external → a.endpoint ≡ b.endpoint

pub Share-from_fellows : (a b : PeerLease) → AreFellows a b → Share a b
Share-from_fellows a b h = record {
  port = λ same. eqb-true a.external b.external (and_parts _ _ (h.shares ∙ (same_endpoint-Decides a.endpoint b.endpoint).1 same)).1;
  endpoint = λ protocol port. (same_endpoint-Decides a.endpoint b.endpoint).0
      (sym h.shares ∙ and_from _ _ ((same_protocol-Decides a.endpoint.protocol b.endpoint.protocol).1 protocol) (eq-eqb a.external b.external port));
}

Share-flip : (a b : PeerLease) → Share a b → Share b a
Share-flip a b h = record { port = λ same. sym (h.port (sym same)); endpoint = λ protocol port. sym (h.endpoint (sym protocol) (sym port)) }

Share-itself : (a : PeerLease) → Share a a
Share-itself a = record { port = λ same. refl; endpoint = λ protocol port. refl }

-- any two of the leases
pub two_share : (ls : List PeerLease) (a b : PeerLease) → EachTwo AreFellows ls → IsIn a ls → IsIn b ls → Share a b
two_share [] a b h i j = absurd i
two_share (x ∷ xs) a b h (inl e) (inl f) = subst (Share a) (sym e ∙ f) (Share-itself a)
two_share (x ∷ xs) a b h (inl e) (inr j) = subst (λ (z : PeerLease). Share z b) e (Share-from_fellows x b (All-IsIn (AreFellows x) xs b h.0 j))
two_share (x ∷ xs) a b h (inr i) (inl f) = Share-flip b a (subst (λ (z : PeerLease). Share z a) f (Share-from_fellows x a (All-IsIn (AreFellows x) xs a h.0 i)))
two_share (x ∷ xs) a b h (inr i) (inr j) = two_share xs a b h.1 i j

module _ (l : PeerLease) where
  abbrev has_key : PeerLease → Bool
  has_key = is_peer_of l.endpoint l.remote l.remote_port

  told : (x : PeerLease) → overlaps l x ≡ true → IsSome (overlapped l (Some x))
  told x h = subst (λ (b : Bool). IsSome (cond b (Some x) None)) (sym h) refl

  port_told : (x : PeerLease) → has_key x ≡ false → has_other_port l x ≡ true → IsSome (overlapped l (Some x))
  port_told x other differs = told x (and_from _ _ (ap not other) (or_left _ _ differs))

  endpoint_told : (x : PeerLease) → has_key x ≡ false → has_other_endpoint l x ≡ true → IsSome (overlapped l (Some x))
  endpoint_told x other differs = told x (and_from _ _ (ap not other) (or_right _ _ differs))

  -- a lease of the endpoint that has the key has its remote
  abbrev remote_of : PeerLease → Bool
  remote_of x = has_remote l.remote l.remote_port (key_of_lease x)

  pub key_parts : (x : PeerLease) → names x l.endpoint ≡ true → remote_of x ≡ true → has_key x ≡ true
  key_parts x named remote = let p = and_parts _ _ remote in and_from _ _ (and_from _ _ named p.0) p.1

  pub remote_parts : (x : PeerLease) → has_key x ≡ true → remote_of x ≡ true
  remote_parts x t =
      let p = and_parts (same_endpoint x.endpoint l.endpoint && same_address x.remote l.remote) (x.remote_port == l.remote_port) t in
      let q = and_parts (same_endpoint x.endpoint l.endpoint) (same_address x.remote l.remote) p.0 in
      and_from (same_address x.remote l.remote) (x.remote_port == l.remote_port) q.1 p.1

  module _ (it : Numbered PeerLease PeerKey Opening) (h : AreKeptPeers it) where
    numbered : (x : PeerLease) → IsIn x (values it.leases) → (n : ℕ) × (get nat_cmp it.leases n ≡ Some x)
    numbered x i =
        let r = IsIn-map (λ (z : ℕ × PeerLease). z.1) it.leases.entries x i in
        (r.0.0, entry_at it.leases h.kept.ordered r.0.0 r.0.1 r.1 ∙ ap Some r.2)

    stands : (n : ℕ) (x : PeerLease) → get nat_cmp it.leases n ≡ Some x → IsIn x (values it.leases)
    stands n x a = map-IsIn (λ (z : ℕ × PeerLease). z.1) it.leases.entries (n, x) (at-entry nat_cmp_total exact_unsigned it.leases h.kept.ordered n x a)

    shared : (a b : PeerLease) → IsIn a (values it.leases) → IsIn b (values it.leases) → Share a b
    shared a b i j = two_share (values it.leases) a b h.sound.fellows i j

    -- ---- the leases of the endpoint

    module _ (lo hi : PeerKey) (low : IsBound l.endpoint 0 lo) (high : IsBound l.endpoint 2 hi) where
      abbrev within : PeerKey → Bool
      within k = range_contains key_cmp (Included lo) (Excluded hi) k

      abbrev part : List (PeerKey × ℕ)
      part = entries_between key_cmp (Included lo) (Excluded hi) it.keys.entries

      abbrev elsewhere : PeerKey × ℕ → Bool
      elsewhere e = not (has_remote l.remote l.remote_port e.0)

      named_within : (x : PeerLease) → within (key_of_lease x) ≡ names x l.endpoint
      named_within x = within_names it h l.endpoint lo hi low high x

      record IsOther (x : PeerLease) : Type 0 where
        member : IsIn x (values it.leases)
        named : names x l.endpoint ≡ true
        other : has_key x ≡ false

      -- an entry with another remote is that of a lease of the endpoint
      of_entry : (e : PeerKey × ℕ) → IsIn e part → elsewhere e ≡ true → (x : PeerLease) × (get nat_cmp it.leases e.1 ≡ Some x) × IsOther x
      of_entry e i away =
          let j = IsIn-filter (λ (y : PeerKey × ℕ). within y.0) it.keys.entries e i in
          let y = key-from peer_keying peer_laws it h.kept e.0 e.1 (entry-at key_total key_exact it.keys h.kept.keys_ordered e.0 e.1 j.0) in (
            y.0,
            y.1,
            record {
              member = stands e.1 y.0 y.1;
              named = sym (named_within y.0) ∙ ap within y.2 ∙ j.1;
              other = false_by (has_key y.0) (λ t. clash (has_remote l.remote l.remote_port e.0)
                  (ap (has_remote l.remote l.remote_port) (sym y.2) ∙ remote_parts y.0 t) (not-true _ away));
            },
          )

      -- and each such lease has one
      has_entry : (x : PeerLease) → IsOther x → (e : PeerKey × ℕ) × IsIn e part × (elsewhere e ≡ true)
      has_entry x is =
          let n = numbered x is.member in
          let there = at-entry key_total key_exact it.keys h.kept.keys_ordered (key_of_lease x) n.0 (key-to peer_keying peer_laws it h.kept n.0 x n.1) in (
            (key_of_lease x, n.0),
            filter-IsIn (λ (y : PeerKey × ℕ). within y.0) it.keys.entries (key_of_lease x, n.0) there (named_within x ∙ is.named),
            ap not (false_by (remote_of x) (λ t. clash (has_key x) (key_parts x is.named t) is.other)),
          )

      is_other : (x : PeerLease) → Contains (values it.leases) x → has_key x ≡ false → has_other_port l x ≡ true → IsOther x
      is_other x c other differs = record { member = IsIn-from_Contains (values it.leases) x c; named = (and_parts _ _ differs).0; other = other }

      endpoint_at : (found : Option (PeerKey × ℕ)) → find elsewhere part ≡ found → (o : Option PeerLease) → (n : ℕ) → Some n ≡ option_map (λ (e : PeerKey × ℕ). e.1) found → o ≡ get nat_cmp it.leases n →
          TellsOther has_other_port l (values it.leases) o
      endpoint_at None is o n has o_is = absurd (let no : Some n ≡ None = has in cc)
      endpoint_at (Some e) is o n has o_is =
          let same : n ≡ e.1 = (let both : Some n ≡ Some e.1 = has in cc) in
          let f = find-some elsewhere part e is in
          let y = of_entry e f.0 f.1 in
          subst (TellsOther has_other_port l (values it.leases)) (sym (o_is ∙ ap (get nat_cmp it.leases) same ∙ y.1)) (record {
            among = Contains-from_IsIn (values it.leases) y.0 y.2.member;
            tells = λ x c other differs.
                let d = and_parts _ _ differs in
                let at_x : x.endpoint ≡ l.endpoint = (same_endpoint-Decides x.endpoint l.endpoint).0 d.0 in
                let at_y : y.0.endpoint ≡ l.endpoint = (same_endpoint-Decides y.0.endpoint l.endpoint).0 y.2.named in
                let port : y.0.external ≡ x.external = (shared y.0 x y.2.member (IsIn-from_Contains (values it.leases) x c)).port (at_y ∙ sym at_x) in
                port_told y.0 y.2.other (and_from _ _ y.2.named (ap (λ (z : ℕ). not (z == l.external)) port ∙ d.1));
          })

      pub endpoint_tells : (o : Option PeerLease) (n : ℕ) → Some n ≡ option_map (λ (e : PeerKey × ℕ). e.1) (find elsewhere part) → o ≡ get nat_cmp it.leases n → TellsOther has_other_port l (values it.leases) o
      endpoint_tells o n has o_is = endpoint_at (find elsewhere part) refl o n has o_is

      none_at : (found : Option (PeerKey × ℕ)) → find elsewhere part ≡ found → None ≡ option_map (λ (e : PeerKey × ℕ). e.1) found → TellsOther has_other_port l (values it.leases) None
      none_at (Some e) is none = absurd (let no : None ≡ Some e.1 = none in cc)
      none_at None is none = record {
        among = tt;
        tells = λ x c other differs.
            let e = has_entry x (is_other x c other differs) in
            absurd (clash (elsewhere e.0) e.2 (All-IsIn (λ y. elsewhere y ≡ false) part e.0 (find-none elsewhere part is) e.1));
      }

      pub endpoint_none : None ≡ option_map (λ (e : PeerKey × ℕ). e.1) (find elsewhere part) → TellsOther has_other_port l (values it.leases) None
      endpoint_none none = none_at (find elsewhere part) refl none

    -- ---- the leases of the external port

    module _ (lo hi : Opening) (low : IsOpeningBound l.endpoint.protocol l.external 0 lo) (high : IsOpeningBound l.endpoint.protocol l.external 2 hi) where
      abbrev inside : Opening → Bool
      inside o = range_contains opening_cmp (Included lo) (Excluded hi) o

      abbrev opened : List (Opening × ℕ)
      opened = entries_between opening_cmp (Included lo) (Excluded hi) it.ports.entries

      abbrev owns : PeerLease → Bool
      owns x = is_port l.endpoint.protocol l.external (peer_owner x)

      owned_inside : (x : PeerLease) → inside (opening_of_lease x) ≡ owns x
      owned_inside x = owning_within l.endpoint.protocol l.external lo hi low high x

      of_opening : (e : Opening × ℕ) → IsIn e opened → (x : PeerLease) × (get nat_cmp it.leases e.1 ≡ Some x) × IsIn x (values it.leases) × (owns x ≡ true)
      of_opening e i =
          let j = IsIn-filter (λ (y : Opening × ℕ). inside y.0) it.ports.entries e i in
          let y = port-from peer_keying peer_laws it h.kept e.0 e.1 (entry-at opening_total opening_exact it.ports h.kept.ports_ordered e.0 e.1 j.0) in
          (y.0, y.1, stands e.1 y.0 y.1, sym (owned_inside y.0) ∙ ap inside y.2 ∙ j.1)

      has_opening : (x : PeerLease) → IsIn x (values it.leases) → owns x ≡ true → (e : Opening × ℕ) × IsIn e opened
      has_opening x i owned =
          let n = numbered x i in
          let there = at-entry opening_total opening_exact it.ports h.kept.ports_ordered (opening_of_lease x) n.0 (port-to peer_keying peer_laws it h.kept n.0 x n.1) in
          ((opening_of_lease x, n.0), filter-IsIn (λ (y : Opening × ℕ). inside y.0) it.ports.entries (opening_of_lease x, n.0) there (owned_inside x ∙ owned))

      first_opening : (es : List (Opening × ℕ)) → opened ≡ es → (o : Option PeerLease) (n : ℕ) → Some n ≡ first_number es → o ≡ get nat_cmp it.leases n → TellsOther has_other_endpoint l (values it.leases) o
      first_opening [] is o n has o_is = absurd (let no : Some n ≡ None = has in cc)
      first_opening (e ∷ es) is o n has o_is =
          let same : n ≡ e.1 = (let both : Some n ≡ Some e.1 = has in cc) in
          let y = of_opening e (subst (IsIn e) (sym is) (inl refl)) in
          subst (TellsOther has_other_endpoint l (values it.leases)) (sym (o_is ∙ ap (get nat_cmp it.leases) same ∙ y.1)) (record {
            among = Contains-from_IsIn (values it.leases) y.0 y.2;
            tells = λ x c other differs.
                let d = and_parts _ _ differs in
                let p = and_parts _ _ d.0 in let q = and_parts _ _ y.3 in
                let protocol : y.0.endpoint.protocol ≡ x.endpoint.protocol = (same_protocol-Decides y.0.endpoint.protocol l.endpoint.protocol).0 q.0 ∙ sym ((same_protocol-Decides x.endpoint.protocol l.endpoint.protocol).0 p.0) in
                let port : y.0.external ≡ x.external = eqb-true y.0.external l.external q.1 ∙ sym (eqb-true x.external l.external p.1) in
                let one : y.0.endpoint ≡ x.endpoint = (shared y.0 x y.2 (IsIn-from_Contains (values it.leases) x c)).endpoint protocol port in
                let away : not (names y.0 l.endpoint) ≡ true = ap (λ (z : Endpoint). not (same_endpoint z l.endpoint)) one ∙ d.1 in
                endpoint_told y.0 (false_by (has_key y.0) (λ t. clash (names y.0 l.endpoint) (and_parts _ _ (and_parts _ _ t).0).0 (not-true _ away))) (and_from _ _ y.3 away);
          })

      pub port_tells : (o : Option PeerLease) (n : ℕ) → Some n ≡ first_number opened → o ≡ get nat_cmp it.leases n → TellsOther has_other_endpoint l (values it.leases) o
      port_tells o n has o_is = first_opening opened refl o n has o_is

      no_port_at : (es : List (Opening × ℕ)) → opened ≡ es → None ≡ first_number es → TellsOther has_other_endpoint l (values it.leases) None
      no_port_at (e ∷ es) is none = absurd (let no : None ≡ Some e.1 = none in cc)
      no_port_at [] is none = record {
        among = tt;
        tells = λ x c other differs.
            let e = has_opening x (IsIn-from_Contains (values it.leases) x c) (and_parts _ _ differs).0 in
            absurd (subst (IsIn e.0) is e.1);
      }

      pub port_none : None ≡ first_number opened → TellsOther has_other_endpoint l (values it.leases) None
      port_none none = no_port_at opened refl none

  -- ---- what both sides tell

  module _ (ls : List PeerLease) where
    told_step : (x : PeerLease) → Contains ls x → (y : PeerLease) (b : Bool) → overlaps l x ≡ b → cond b (Some x) None ≡ Some y → IsOverlapped l ls (Some y)
    told_step x c y true t is = let same : x ≡ y = cc in subst (λ (z : PeerLease). IsOverlapped l ls (Some z)) same (record { among = c; overlapped = t; none = tt })
    told_step x c y false t is = absurd (cc)

    -- what is told is overlapped
    pub told_among : (differs : PeerLease → PeerLease → Bool) (o : Option PeerLease) → TellsOther differs l ls o → (y : PeerLease) → Some y ≡ overlapped l o → IsOverlapped l ls (Some y)
    told_among differs None h y is = absurd (let no : Some y ≡ None = is in cc)
    told_among differs (Some x) h y is = told_step x h.among y (overlaps l x) refl (sym is)

    some_not : (o : Option PeerLease) → IsSome o → o ≡ None → ⊥
    some_not o h none = let bad : false ≡ true = subst IsSome none h in cc

    -- where neither tells one, none is overlapped
    none_overlapped : (a b : Option PeerLease) → TellsOther has_other_port l ls a → TellsOther has_other_endpoint l ls b → overlapped l a ≡ None → overlapped l b ≡ None → IsOverlapped l ls None
    none_overlapped a b in_a in_b no_a no_b = record {
      among = tt;
      overlapped = tt;
      none = false_by (list_any (overlaps l) ls) (λ t.
          let x = any-some (overlaps l) ls t in
          let parts = and_parts _ _ x.2 in
          let other = not-true (has_key x.0) parts.0 in
          let c = Contains-from_IsIn ls x.0 x.1 in
          elim (or_cases _ _ parts.1) [
            | inl port ↦ some_not (overlapped l a) (in_a.tells x.0 c other port) no_a
            | inr endpoint ↦ some_not (overlapped l b) (in_b.tells x.0 c other endpoint) no_b
          ]);
    }

    pub second_tells : (r : Option PeerLease) (a b : Option PeerLease) → TellsOther has_other_port l ls a → TellsOther has_other_endpoint l ls b → None ≡ overlapped l a → r ≡ overlapped l b → IsOverlapped l ls r
    second_tells None a b in_a in_b nothing is = none_overlapped a b in_a in_b (sym nothing) (sym is)
    second_tells (Some y) a b in_a in_b nothing is = told_among has_other_endpoint b in_b y is

    -- what a search tells
    pub search_tells : (r : Option PeerLease) → r ≡ find (overlaps l) ls → IsOverlapped l ls r
    search_tells None is = record {
      among = tt;
      overlapped = tt;
      none = false_by (list_any (overlaps l) ls) (λ t.
          let x = any-some (overlaps l) ls t in clash (overlaps l x.0) x.2 (All-IsIn (λ y. overlaps l y ≡ false) ls x.0 (find-none (overlaps l) ls (sym is)) x.1));
    }
    search_tells (Some y) is = let f = find-some (overlaps l) ls y (sym is) in record { among = Contains-from_IsIn ls y f.0; overlapped = f.1; none = tt }
