-- The least covered port between an endpoint's and an end, by the first endpoints of leases.
use Rattle.std.proofs.Common.{◌≡◌, ℕ, ◌+◌, ◌-◌, ◌*◌, ◌<◌, ◌≤◌, ◌⊎◌, ltb, Bool, true, false, List, Contains, filter, Option, Some, None, IsSome, refl, sym, ap, ◌∙◌, subst, inl, inr, arith}
use Rattle.std.specs.Ordering.{nat_cmp, is_gt}
use Rattle.std.specs.BTreeMap.{get, values}
use Rattle.std.specs.Option.{option_map}
use Rattle.std.proofs.Math.Nat.{add-mul, mul-le-mul_right}
use Rattle.std.proofs.lemmas.Grind.{common_steps}
use Rattle.pcp_base.specs.declared.leases.Endpoint.{Endpoint}
use Rattle.pcp_base.specs.declared.leases.MapLease.{MapLease}
use Rattle.pcp_base.specs.Protocols.{protocol_number}
use Rattle.pcp_base.specs.Tables.{IsMapLease, covers, first_endpoint}
use Rattle.pcp_base.proofs.Members.{IsIn-from_Contains, Contains-from_IsIn, All-IsIn, IsIn-filter, filter-IsIn, any-some, some-any, find-some}
use Rattle.pcp_base.proofs.TableLemmas.{IsCovered, IsCovered-from_covers, covers-from_IsCovered}
use Rattle.ordered_index.specs.declared.numbered.Numbered.{Numbered}
use Rattle.ordered_index.specs.Orders.{Place, place_of, place_cmp, IsFirst, IsFirstKey}
use Rattle.ordered_index.proofs.Entries.{false_by}
use Rattle.ordered_index.proofs.EntryLaws.{none_some}
use Rattle.ordered_index.proofs.Keeping.{key-to, key-from}
use Rattle.ordered_index.proofs.OrderLaws.{address_same, endpoint_same, protocol_one, places_between, places_up_to}
use Rattle.mapping_table.specs.MapLists.{is_live_map, some_live_map, is_covered, IsNextCovered, AreSoundMaps, map_covering}
use Rattle.mapping_table.specs.Kept.{place_of_lease, map_keying, AreKeptMaps, NoneBegins, BeginsFirst}
use Rattle.mapping_table.proofs.Lookups.{covering_is}
use Rattle.mapping_table.proofs.MapKeeping.{map_laws}
use Rattle.mapping_table.proofs.Nearest.{numbered, stands}

below_or_not : (a b : ℕ) → (a < b) ⊎ (b ≤ a)
below_or_not a b = let at : (v : Bool) → ltb a b ≡ v → (a < b) ⊎ (b ≤ a) = λ v. elim v as (λ v. ltb a b ≡ v → (a < b) ⊎ (b ≤ a)) [ true ↦ λ e. inl (grind (arith, common_steps)) | false ↦ λ e. inr (grind (arith, common_steps)) ] in at (ltb a b) refl

-- the endpoint with another port
abbrev pub with_port : Endpoint → ℕ → Endpoint
with_port e port = record { address = e.address; protocol = e.protocol; port = port }

not_false : (b : Bool) → b ≡ false → (b ≡ true → ⊥)
not_false b h t = let no : true ≡ false = sym t ∙ h in cc

-- one turn more, of two looks at most, or the last one
pub turn-spent : (lv from at next s0 s s' : ℕ) → from ≤ at → at < next → s ≤ s0 + 2 * (at - from) * lv → s' ≤ s + 2 * lv → s' ≤ s0 + 2 * (next - from) * lv
turn-spent lv from at next s0 s s' low more paid last =
    let split : (2 * (at - from) + 2) * lv ≡ 2 * (at - from) * lv + 2 * lv = add-mul (2 * (at - from)) 2 lv in
    let few : 2 * (at - from) + 2 ≤ 2 * (next - from) = omega (arith, low, more) in
    let up : (2 * (at - from) + 2) * lv ≤ 2 * (next - from) * lv = mul-le-mul_right lv few in
    omega (arith, split, up, paid, last)

module _ (it : Numbered MapLease Place (ℕ × ℕ)) (h : AreKeptMaps it) where
  abbrev ls : List MapLease
  ls = values it.leases

  -- the lease that covers an endpoint is found
  covering-found : (e : Endpoint) (l : MapLease) → Contains ls l → covers l e ≡ true → Some l ≡ map_covering e ls
  covering-found e l i c = let n = numbered it h l i in covering_is it h e n.0 l n.1 c

  -- none that is live covers it, where none that is found is live
  pub free-by : (m : ℕ) (e : Endpoint) (o : Option MapLease) → o ≡ map_covering e ls → some_live_map m o ≡ false →
      (l : MapLease) → Contains ls l → is_live_map m l ≡ true → covers l e ≡ false
  free-by m e o found dead l i alive = false_by (covers l e) (λ c.
      let is : o ≡ Some l = found ∙ sym (covering-found e l i c) in
      let no : true ≡ false = sym alive ∙ ap (some_live_map m) (sym is) ∙ dead in cc)

  -- two leases with one first endpoint are one
  one-lease : (x y : MapLease) → Contains ls x → Contains ls y → first_endpoint x ≡ first_endpoint y → x ≡ y
  one-lease x y i j same =
      let n = numbered it h x i in let k = numbered it h y j in
      let number : Some n.0 ≡ Some k.0 =
      sym (key-to map_keying map_laws it h.kept n.0 x n.1) ∙ ap (λ (z : Endpoint). get place_cmp it.keys (place_of z)) same ∙ key-to map_keying map_laws it h.kept k.0 y k.1 in
      let one : n.0 ≡ k.0 = cc in
      let both : Some x ≡ Some y = sym n.1 ∙ ap (get nat_cmp it.leases) one ∙ k.1 in cc

  module _ (e : Endpoint) (from end : ℕ) where
    abbrev any : MapLease → Bool
    any l = true

    abbrev start : Place
    start = place_of (with_port e from)

    after-start : (l : MapLease) → l.address ≡ e.address → l.protocol ≡ e.protocol → from ≤ l.internal → is_gt (place_cmp start (place_of_lease l)) ≡ false
    after-start l address protocol later = places_up_to start (place_of_lease l) (ap (λ a. a.0) (sym address)) (ap protocol_number (sym protocol)) later

    pub none-from : IsFirst place_cmp it.keys start None → BeginsFirst any e from end ls None
    none-from first = record {
      among = tt;
      passes = tt;
      address = tt;
      protocol = tt;
      inside = tt;
      first = tt;
      none = λ l i t address protocol later.
          let n = numbered it h l i in
          absurd (none_some (get place_cmp it.keys (place_of_lease l)) n.0 (first (place_of_lease l) (after-start l address protocol later)) (key-to map_keying map_laws it h.kept n.0 l n.1));
    }

    module _ (f : Place) (first : IsFirstKey place_cmp it.keys start f) where
      -- the first key is between
      between : (l : MapLease) → Contains ls l → l.address ≡ e.address → l.protocol ≡ e.protocol → from ≤ l.internal →
          (f.0 ≡ l.address.0) × (f.1.0 ≡ protocol_number l.protocol) × (from ≤ f.1.1) × (f.1.1 ≤ l.internal)
      between l i address protocol later =
          let n = numbered it h l i in
          let before : is_gt (place_cmp f (place_of_lease l)) ≡ false =
          first.least (place_of_lease l) (after-start l address protocol later) (subst IsSome (sym (key-to map_keying map_laws it h.kept n.0 l n.1)) refl) in
          let all = places_between start f (place_of_lease l) (ap (λ a. a.0) (sym address)) (ap protocol_number (sym protocol)) first.from before in
          (all.0, all.1, all.2, all.3)

      pub none-inside : ((f.0 ≡ e.address.0) × (f.1.0 ≡ protocol_number e.protocol) → f.1.1 < end → ⊥) → BeginsFirst any e from end ls None
      none-inside out = record {
        among = tt;
        passes = tt;
        address = tt;
        protocol = tt;
        inside = tt;
        first = tt;
        none = λ l i t address protocol later.
            let all = between l i address protocol later in
            elim (below_or_not l.internal end) [
              | inl before ↦ absurd (out (all.0 ∙ ap (λ a. a.0) address, all.1 ∙ ap protocol_number protocol) (let u = all.3 in omega (arith, u, before)))
              | inr past ↦ past
            ];
      }

      pub first-inside : (f.0 ≡ e.address.0) × (f.1.0 ≡ protocol_number e.protocol) → f.1.1 < end → (n : ℕ) → get place_cmp it.keys f ≡ Some n → (o : Option MapLease) → o ≡ get nat_cmp it.leases n → BeginsFirst any e from end ls o
      first-inside beside before n number o o_is =
          let x = key-from map_keying map_laws it h.kept f n number in
          let i : Contains ls x.0 = stands it h n x.0 x.1 in
          let key : place_of_lease x.0 ≡ f = x.2 in
          let address : x.0.address ≡ e.address = address_same x.0.address e.address (ap (λ (p : Place). p.0) key ∙ beside.0) in
          let protocol : x.0.protocol ≡ e.protocol = protocol_one x.0.protocol e.protocol 0 0 (ap (λ (z : ℕ). (z, 0)) (ap (λ (p : Place). p.1.0) key ∙ beside.1)) in
          let port : x.0.internal ≡ f.1.1 = ap (λ (p : Place). p.1.1) key in
          let up = places_between start f (place_of (with_port e f.1.1)) refl refl first.from
          (places_up_to f (place_of (with_port e f.1.1)) beside.0 beside.1 (omega arith)) in
          let low : from ≤ f.1.1 = up.2 in
          subst (BeginsFirst any e from end ls) (sym (o_is ∙ x.1)) (record {
            among = i;
            passes = refl;
            address = address;
            protocol = protocol;
            inside = (omega (arith, low, port), omega (arith, before, port));
            first = λ l j t a p later. (let all = between l j a p later in let u = all.3 in omega (arith, u, port));
            none = tt;
          })

  module _ (m : ℕ) (e : Endpoint) (from end : ℕ) where
    abbrev alive : MapLease → Bool
    alive l = is_live_map m l

    abbrev anyone : MapLease → Bool
    anyone l = true

    module _ (at : ℕ) (passed : NoneBegins alive e from at ls) where
      -- one that has ended is passed
      pub passes-one : (x : MapLease) → BeginsFirst anyone e at end ls (Some x) → is_live_map m x ≡ false → NoneBegins alive e from (x.internal + 1) ls
      passes-one x found dead l i t address protocol later =
          let low = found.first l i refl address protocol (passed l i t address protocol later) in
          elim (below_or_not x.internal l.internal) [
            | inl after ↦ omega (arith, after)
            | inr up ↦ (let port : x.internal ≡ l.internal = omega (arith, low, up) in
                let same : first_endpoint x ≡ first_endpoint l = endpoint_same (first_endpoint x) (first_endpoint l) (found.address ∙ sym address) (found.protocol ∙ sym protocol) port in
                let one : x ≡ l = one-lease x l found.among i same in
                absurd (not_false (is_live_map m l) (ap (is_live_map m) (sym one) ∙ dead) t))
          ]

      -- one that is live is the first
      pub begins-one : from ≤ at → (x : MapLease) → BeginsFirst anyone e at end ls (Some x) → is_live_map m x ≡ true → BeginsFirst alive e from end ls (Some x)
      begins-one low x found t = record {
        among = found.among;
        passes = t;
        address = found.address;
        protocol = found.protocol;
        inside = (let a = found.inside.0 in omega (arith, low, a), found.inside.1);
        first = λ l i alive address protocol later. found.first l i refl address protocol (passed l i alive address protocol later);
        none = tt;
      }

      -- none is left
      pub begins-none : BeginsFirst anyone e at end ls None → BeginsFirst alive e from end ls None
      begins-none found = record {
        among = tt;
        passes = tt;
        address = tt;
        protocol = tt;
        inside = tt;
        first = tt;
        none = λ l i t address protocol later. found.none l i refl address protocol (passed l i t address protocol later);
      }

      pub begins-past : end ≤ at → BeginsFirst alive e from end ls None
      begins-past past = record {
        among = tt;
        passes = tt;
        address = tt;
        protocol = tt;
        inside = tt;
        first = tt;
        none = λ l i t address protocol later. (let low = passed l i t address protocol later in omega (arith, past, low));
      }

module _ (m : ℕ) (ls : List MapLease) (e : Endpoint) (end : ℕ) where
  abbrev live : List MapLease
  live = filter (is_live_map m) ls

  -- a live lease that covers a port
  record Covering (q : ℕ) : Type 0 where
    lease : MapLease
    stands : Contains ls lease
    alive : is_live_map m lease ≡ true
    covered : IsCovered lease (with_port e q)

  covering : (q : ℕ) → is_covered e live q ≡ true → Covering q
  covering q c =
      let r = any-some (λ l. covers l (with_port e q)) live c in
      let f = IsIn-filter (is_live_map m) ls r.0 r.1 in
      record { lease = r.0; stands = Contains-from_IsIn ls r.0 f.0; alive = f.1; covered = IsCovered-from_covers r.0 (with_port e q) r.2 }

  -- a port that a live lease covers
  covered-by : (q : ℕ) (l : MapLease) → Contains ls l → is_live_map m l ≡ true → covers l (with_port e q) ≡ true → is_covered e live q ≡ true
  covered-by q l i alive c = some-any (λ x. covers x (with_port e q)) live l (filter-IsIn (is_live_map m) ls l (IsIn-from_Contains ls l i) alive) c

  covered-found : (q : ℕ) (o : Option MapLease) → map_covering (with_port e q) ls ≡ o → some_live_map m o ≡ true → is_covered e live q ≡ true
  covered-found q None is alive = absurd (let no : false ≡ true = alive in cc)
  covered-found q (Some l) is alive =
      let found = find-some (λ x. covers x (with_port e q)) ls l is in
      covered-by q l (Contains-from_IsIn ls l found.0) alive found.1

  -- no port is between
  pub next-none : e.port + 1 ≡ end → IsNextCovered e end live None
  next-none last = record { above = tt; below = tt; covered = tt; least = tt; none = λ q above below. absurd (omega (arith, last, above, below)) }

  -- the next port is covered
  pub next-found : e.port + 1 < end → (o : Option MapLease) → map_covering (with_port e (e.port + 1)) ls ≡ o → some_live_map m o ≡ true → IsNextCovered e end live (Some (e.port + 1))
  next-found room o is alive = record {
    above = omega arith;
    below = room;
    covered = covered-found (e.port + 1) o is alive;
    least = λ q above below c. omega (arith, above);
    none = tt;
  }

  module _ (sound : AreSoundMaps ls) (free : (l : MapLease) → Contains ls l → is_live_map m l ≡ true → covers l (with_port e (e.port + 1)) ≡ false) where
    -- what covers a later port begins later
    begins : (q : ℕ) → e.port < q → (r : Covering q) → e.port + 1 ≤ r.lease.internal
    begins q above r = elim (below_or_not r.lease.internal (e.port + 1)) [
      | inr later ↦ later
      | inl sooner ↦ (let no = free r.lease r.stands r.alive in
          let yes : covers r.lease (with_port e (e.port + 1)) ≡ true = covers-from_IsCovered r.lease (with_port e (e.port + 1))
          (record { address = r.covered.address; protocol = r.covered.protocol; from = omega (arith, sooner); below = omega (arith, above, r.covered.below) }) in
          absurd (not_false _ no yes))
    ]

    -- the first port of the lease that begins first is the next one
    pub next-begins : (o : Option MapLease) → BeginsFirst (λ l. is_live_map m l) e (e.port + 1) end ls o → IsNextCovered e end live (option_map (λ l. l.internal) o)
    next-begins None found = record {
      above = tt;
      below = tt;
      covered = tt;
      least = tt;
      none = λ q above below. false_by (is_covered e live q) (λ c.
          let r = covering q c in
          let late = found.none r.lease r.stands r.alive r.covered.address r.covered.protocol (begins q above r) in
          omega (arith, late, r.covered.from, below));
    }
    next-begins (Some x) found = record {
      above = (let a = found.inside.0 in omega (arith, a));
      below = found.inside.1;
      covered = (let some = (All-IsIn IsMapLease ls x sound.leases (IsIn-from_Contains ls x found.among)).ports.some in
          covered-by x.internal x found.among found.passes (covers-from_IsCovered x (with_port e x.internal)
          (record { address = found.address; protocol = found.protocol; from = omega arith; below = omega (arith, some) })));
      least = λ q above below c.
          (let r = covering q c in
          let late = found.first r.lease r.stands r.alive r.covered.address r.covered.protocol (begins q above r) in
          omega (arith, late, r.covered.from));
      none = tt;
    }
