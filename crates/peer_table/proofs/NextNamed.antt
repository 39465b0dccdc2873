-- The least named port above an endpoint's, by the keys.
use Rattle.std.proofs.Common.{◌≡◌, ℕ, ◌<◌, ◌≤◌, inl, inr, Bool, true, false, List, filter, Some, None, IsSome, refl, sym, ap, ◌∙◌, subst, arith}
use Rattle.std.specs.Prelude.{is_some}
use Rattle.std.specs.List.{list_any}
use Rattle.std.specs.Ordering.{is_gt}
use Rattle.std.specs.declared.cmp.Ordering.TheVariants.{Less}
use Rattle.std.specs.BTreeMap.{get, values}
use Rattle.std.proofs.lemmas.Bool.{and_parts, and_from, cases_lt}
use Rattle.std.proofs.lemmas.Cmp.{tied_itself}
use Rattle.pcp_base.specs.declared.leases.Endpoint.{Endpoint}
use Rattle.pcp_base.specs.declared.leases.PeerLease.{PeerLease}
use Rattle.pcp_base.specs.Protocols.{protocol_number}
use Rattle.pcp_base.specs.Tables.{names}
use Rattle.pcp_base.proofs.Members.{IsIn, IsIn-from_Contains, IsIn-filter, filter-IsIn, any-some, some-any}
use Rattle.pcp_base.proofs.Same.{same_endpoint-Decides}
use Rattle.ordered_index.specs.declared.numbered.Numbered.{Numbered}
use Rattle.ordered_index.specs.Orders.{Place, place_of, place_cmp, IsFirst}
use Rattle.ordered_index.proofs.Endings.{one-among}
use Rattle.ordered_index.proofs.Entries.{entry_at, false_by, some_of, same_tests, value-entry}
use Rattle.ordered_index.proofs.Keeping.{key-to, key-from}
use Rattle.ordered_index.proofs.OrderLaws.{place_of-one, place_total, places_between, places_less, less_places}
use Rattle.peer_table.specs.PeerLists.{is_live_peer, is_live_of, is_named, IsNextNamed}
use Rattle.peer_table.specs.Kept.{PeerKey, Opening, place_in, key_cmp, key_of_lease, peer_keying, AreKeptPeers, IsBound}
use Rattle.peer_table.proofs.PeerKeeping.{peer_laws}
use Rattle.peer_table.proofs.PeerKeys.{places_up, up_places, past_bound}

-- the endpoint with another port
abbrev pub with_port : Endpoint → ℕ → Endpoint
with_port e port = record { address = e.address; protocol = e.protocol; port = port }

clash : (b : Bool) → b ≡ true → b ≡ false → ⊥
clash b t h = let no : true ≡ false = sym t ∙ h in cc

-- ---- the first key behind the endpoint's

module _ (it : Numbered PeerLease PeerKey Opening) (h : AreKeptPeers it) (e : Endpoint) (start : PeerKey) (bound : IsBound e 2 start) (end : ℕ) where
  abbrev ls : List PeerLease
  ls = values it.leases

  -- each lease has a key
  has_key : (l : PeerLease) → IsIn l ls → IsSome (get key_cmp it.keys (key_of_lease l))
  has_key l i =
      let x = value-entry it.leases.entries l i in
      subst IsSome (sym (key-to peer_keying peer_laws it h.kept x.0 l (entry_at it.leases h.kept.ordered x.0 l x.1))) refl

  -- and each key is that of a lease
  of_key : (f : PeerKey) → IsSome (get key_cmp it.keys f) → (l : PeerLease) × IsIn l ls × (key_of_lease l ≡ f)
  of_key f some =
      let number = some_of (get key_cmp it.keys f) some in
      let y = key-from peer_keying peer_laws it h.kept f number.0 number.1 in
      (y.0, IsIn-from_Contains ls y.0 (one-among it.leases number.0 y.0 y.1), y.2)

  -- a lease that names a port
  record Naming (q : ℕ) : Type 0 where
    lease : PeerLease
    stands : IsIn lease ls
    is : lease.endpoint ≡ with_port e q

  naming : (q : ℕ) → is_named e ls q ≡ true → Naming q
  naming q t =
      let r = any-some (λ l. names l (with_port e q)) ls t in
      record { lease = r.0; stands = r.1; is = (same_endpoint-Decides r.0.endpoint (with_port e q)).0 r.2 }

  from_above : (q : ℕ) → e.port < q → (r : Naming q) → is_gt (key_cmp start (key_of_lease r.lease)) ≡ false
  from_above q above r =
      let less : place_cmp (place_of e) (place_of (with_port e q)) ≡ Less = places_less (place_of e) (place_of (with_port e q)) refl refl above in
      up_places start (key_of_lease r.lease) (ap (λ (p : Place). place_cmp p (place_of r.lease.endpoint)) bound.place ∙ ap (λ (x : Endpoint). place_cmp (place_of e) (place_of x)) r.is ∙ less)

  -- where no port above is named but from the end on
  nowhere : ((q : ℕ) → e.port < q → q < end → Naming q → ⊥) → IsNextNamed e end ls None
  nowhere none = record { above = tt; below = tt; named = tt; least = tt; none = λ q above before. false_by (is_named e ls q) (λ t. none q above before (naming q t)) }

  pub named_nowhere : IsFirst key_cmp it.keys start None → IsNextNamed e end ls None
  named_nowhere first = nowhere (λ q above before r.
      let no : false ≡ true = sym (ap is_some (first (key_of_lease r.lease) (from_above q above r))) ∙ has_key r.lease r.stands in
      cc)

  module _ (f : PeerKey) (first : IsFirst key_cmp it.keys start (Some f)) where
    -- the first key's place isn't behind that of a lease that names a later port
    before_named : (q : ℕ) → e.port < q → (r : Naming q) → is_gt (place_cmp (place_in f) (place_of (with_port e q))) ≡ false
    before_named q above r =
        let up : is_gt (place_cmp (place_in f) (place_of r.lease.endpoint)) ≡ false = places_up f (key_of_lease r.lease) (first.least (key_of_lease r.lease) (from_above q above r) (has_key r.lease r.stands)) in
        ap (λ (x : Endpoint). is_gt (place_cmp (place_in f) (place_of x))) (sym r.is) ∙ up

    from_start : is_gt (place_cmp (place_of e) (place_in f)) ≡ false
    from_start = ap (λ (p : Place). is_gt (place_cmp p (place_in f))) (sym bound.place) ∙ places_up start f first.from

    -- where the first key isn't of the endpoint's address and protocol
    pub named_elsewhere : ((f.0 ≡ e.address.0) × (f.1 ≡ protocol_number e.protocol) → ⊥) → IsNextNamed e end ls None
    named_elsewhere other = nowhere (λ q above before r.
        let between = places_between (place_of e) (place_in f) (place_of (with_port e q)) refl refl from_start (before_named q above r) in
        other (between.0, between.1))

    module _ (port : ℕ) (some : (f.0 ≡ e.address.0) × (f.1 ≡ protocol_number e.protocol) × (port ≡ f.2)) where
      up_to : (q : ℕ) → e.port < q → Naming q → port ≤ q
      up_to q above r =
          let p = place_of (with_port e q) in
          let stays : is_gt (place_cmp p p) ≡ false = ap is_gt (tied_itself place_total p) in
          let between = places_between (place_in f) p p some.0 some.1 (before_named q above r) stays in
          let low = between.2 in let same = some.2 in omega (arith, low, same)

      -- where it names the end or a later port
      pub named_behind : end ≤ port → IsNextNamed e end ls None
      named_behind late = nowhere (λ q above before r. let low = up_to q above r in omega (arith, low, before, late))

      first_lease : (l : PeerLease) × IsIn l ls × (key_of_lease l ≡ f)
      first_lease = of_key f first.found

      pub named_first : port < end → IsNextNamed e end ls (Some port)
      named_first early =
          let l = first_lease in
          let side : f.3 ≡ 1 = ap (λ (q : PeerKey). q.3) (sym l.2) in
          let later : place_cmp (place_of e) (place_in f) ≡ Less = ap (λ (p : Place). place_cmp p (place_in f)) (sym bound.place) ∙ past_bound start f bound.side_is side first.from in
          let up : e.port < f.2 = less_places (place_of e) (place_in f) (sym some.0) (sym some.1) later in
          let place : place_of l.0.endpoint ≡ place_of (with_port e port) =
          ap place_in l.2 ∙ ap (λ (x : List ℕ). (x, (f.1, f.2))) some.0 ∙ ap (λ (x : ℕ). (e.address.0, (x, f.2))) some.1 ∙ ap (λ (x : ℕ). (e.address.0, (protocol_number e.protocol, x))) (sym some.2) in
          record {
            above = (let same = some.2 in omega (arith, up, same));
            below = early;
            named = some-any (λ x. names x (with_port e port)) ls l.0 l.1 ((same_endpoint-Decides l.0.endpoint (with_port e port)).1 (place_of-one l.0.endpoint (with_port e port) place));
            least = λ q above t. up_to q above (naming q t);
            none = tt;
          }

-- ---- from one port to the next

module _ (e : Endpoint) (end m : ℕ) (ls : List PeerLease) where
  abbrev alive : List PeerLease
  alive = filter (is_live_peer m) ls

  -- up to the port no live lease names one above the endpoint's
  pub record HavePassed (at : Endpoint) : Type 0 where
    pub beside : at ≡ with_port e at.port
    pub from : e.port ≤ at.port
    pub unnamed : (q : ℕ) → e.port < q → q ≤ at.port → is_named e alive q ≡ false

  pub passed_none : HavePassed e
  passed_none = record { beside = refl; from = omega arith; unnamed = λ q above low. absurd (omega (arith, above, low)) }

  -- what a live lease names is named
  live_named : (q : ℕ) → is_named e alive q ≡ true → is_named e ls q ≡ true
  live_named q t =
      let r = any-some (λ l. names l (with_port e q)) alive t in
      some-any (λ l. names l (with_port e q)) ls r.0 (IsIn-filter (is_live_peer m) ls r.0 r.1).0 r.2

  live_of_port : (q : ℕ) → list_any (is_live_of (with_port e q) m) ls ≡ is_named e alive q
  live_of_port q = same_tests (list_any (is_live_of (with_port e q) m) ls) (is_named e alive q)
      (λ t. let r = any-some (is_live_of (with_port e q) m) ls t in let both = and_parts _ _ r.2 in
      some-any (λ l. names l (with_port e q)) alive r.0 (filter-IsIn (is_live_peer m) ls r.0 r.1 both.1) both.0)
      (λ t. let r = any-some (λ l. names l (with_port e q)) alive t in let i = IsIn-filter (is_live_peer m) ls r.0 r.1 in
      some-any (is_live_of (with_port e q) m) ls r.0 i.0 (and_from _ _ r.2 i.1))

  module _ (at : Endpoint) (h : HavePassed at) where
    at_port : (q : ℕ) → is_named at ls q ≡ is_named e ls q
    at_port q = ap (λ (x : Endpoint). is_named x ls q) h.beside

    live_at : (port : ℕ) → list_any (is_live_of (with_port at port) m) ls ≡ is_named e alive port
    live_at port = ap (λ (x : Endpoint). list_any (is_live_of (with_port x port) m) ls) h.beside ∙ live_of_port port

    pub passed_all : IsNextNamed at end ls None → IsNextNamed e end alive None
    passed_all next = record {
      above = tt;
      below = tt;
      named = tt;
      least = tt;
      none = λ q above before. elim (cases_lt at.port q) [
        | inl later ↦ false_by (is_named e alive q) (λ t. clash (is_named e ls q) (live_named q t) (sym (at_port q) ∙ next.none q later before))
        | inr early ↦ h.unnamed q above early
      ];
    }

    module _ (port : ℕ) (next : IsNextNamed at end ls (Some port)) where
      -- before the next named port none is named
      between : (q : ℕ) → e.port < q → q < port → is_named e alive q ≡ false
      between q above before = elim (cases_lt at.port q) [
        | inl later ↦ false_by (is_named e alive q) (λ t. let low = next.least q later (at_port q ∙ live_named q t) in omega (arith, low, before))
        | inr early ↦ h.unnamed q above early
      ]

      pub passed_one : list_any (is_live_of (with_port at port) m) ls ≡ false → HavePassed (with_port at port)
      passed_one dead = record {
        beside = ap (λ (x : Endpoint). with_port x port) h.beside;
        from = (let up = next.above in let low = h.from in omega (arith, up, low));
        unnamed = λ q above low. elim (cases_lt q port) [
          | inl before ↦ between q above before
          | inr last ↦ (let same : q ≡ port = omega (arith, low, last) in ap (is_named e alive) same ∙ sym (live_at port) ∙ dead)
        ];
      }

      pub passed_to : list_any (is_live_of (with_port at port) m) ls ≡ true → IsNextNamed e end alive (Some port)
      passed_to live = record {
        above = (let up = next.above in let low = h.from in omega (arith, up, low));
        below = next.below;
        named = sym (live_at port) ∙ live;
        least = λ q above t. elim (cases_lt q port) [
          | inl before ↦ absurd (clash (is_named e alive q) t (between q above before))
          | inr last ↦ last
        ];
        none = tt;
      }
