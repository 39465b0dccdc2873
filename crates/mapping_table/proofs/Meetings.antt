-- Which leases another one overlaps.
use Rattle.std.proofs.Common.{◌≡◌, ℕ, ◌+◌, ◌-◌, ◌<◌, ◌≤◌, ◌⊎◌, ◌&&◌, ◌||◌, not, Bool, true, false, cond, List, [], ◌∷◌, map, find, Contains, Option, Some, None, IsSome, refl, inl, inr, sym, ap, ◌∙◌, subst, arith}
use Rattle.std.specs.List.{list_any}
use Rattle.std.specs.Ordering.{is_gt}
use Rattle.std.proofs.lemmas.Bool.{and_parts, and_from, or_left, or_right, or_cases, ltb-true, lt-ltb, cases_lt}
use Rattle.pcp_base.specs.declared.leases.Protocol.{Protocol}
use Rattle.pcp_base.specs.declared.leases.Endpoint.{Endpoint}
use Rattle.pcp_base.specs.declared.leases.Filter.{Filter}
use Rattle.pcp_base.specs.declared.leases.MapLease.{MapLease}
use Rattle.pcp_base.specs.Owners.{owns}
use Rattle.pcp_base.specs.Protocols.{protocol_number}
use Rattle.pcp_base.specs.Tables.{EachTwo, IsMapLease, covers, first_endpoint, is_map_of}
use Rattle.pcp_base.proofs.Anys.{any-map}
use Rattle.pcp_base.proofs.Members.{IsIn, IsIn-from_Contains, Contains-from_IsIn, All-IsIn, find-some, find-none, none-any, any-some, some-any}
use Rattle.pcp_base.proofs.Same.{same_address-Decides, same_protocol-Decides, same_endpoint-Decides}
use Rattle.pcp_base.proofs.TableLemmas.{covers-from_IsCovered, covers-first}
use Rattle.ordered_index.specs.Orders.{Place, port_at, port_cmp, place_cmp}
use Rattle.ordered_index.proofs.Entries.{false_by}
use Rattle.ordered_index.proofs.OrderLaws.{address_same, protocol_one, ports_between, ports_up_to, places_between, places_up_to}
use Rattle.mapping_table.specs.Kept.{place_of_lease, port_of_lease, bare, whole, overlapped_key, is_renewed, IsLastPlace, IsLastPort, IsNearest, TellsMet}
use Rattle.mapping_table.specs.MapLists.{map_covering, map_owning, meet_inside, meet_outside, overlaps, AreSeparate, AreSoundMaps, IsOverlapped}
use Rattle.mapping_table.proofs.Separates.{owns-from_IsOwned, cover_apart, own_apart}

clash : (b : Bool) → b ≡ true → b ≡ false → ⊥
clash b h k = let no : true ≡ false = sym h ∙ k in cc

-- what `meet_inside` says
pub record MeetInside (a b : MapLease) : Type 0 where
  pub address : a.address ≡ b.address
  pub protocol : a.protocol ≡ b.protocol
  pub up : a.internal < b.internal + b.count
  pub down : b.internal < a.internal + a.count

pub MeetInside-from_meet : (a b : MapLease) → meet_inside a b ≡ true → MeetInside a b
MeetInside-from_meet a b h =
    let x = and_parts _ _ h in let y = and_parts _ _ x.0 in let z = and_parts _ _ x.1 in record {
      address = (same_address-Decides a.address b.address).0 y.0;
      protocol = (same_protocol-Decides a.protocol b.protocol).0 y.1;
      up = ltb-true a.internal (b.internal + b.count) z.0;
      down = ltb-true b.internal (a.internal + a.count) z.1;
    }

pub meet-from_MeetInside : (a b : MapLease) → MeetInside a b → meet_inside a b ≡ true
meet-from_MeetInside a b h =
    and_from _ _ (and_from _ _ ((same_address-Decides a.address b.address).1 h.address) ((same_protocol-Decides a.protocol b.protocol).1 h.protocol))
    (and_from _ _ (lt-ltb a.internal (b.internal + b.count) h.up) (lt-ltb b.internal (a.internal + a.count) h.down))

-- what `meet_outside` says
pub record MeetOutside (a b : MapLease) : Type 0 where
  pub protocol : a.protocol ≡ b.protocol
  pub up : a.external < b.external + b.count
  pub down : b.external < a.external + a.count

pub MeetOutside-from_meet : (a b : MapLease) → meet_outside a b ≡ true → MeetOutside a b
MeetOutside-from_meet a b h =
    let x = and_parts _ _ h in let z = and_parts _ _ x.1 in record {
      protocol = (same_protocol-Decides a.protocol b.protocol).0 x.0;
      up = ltb-true a.external (b.external + b.count) z.0;
      down = ltb-true b.external (a.external + a.count) z.1;
    }

pub meet-from_MeetOutside : (a b : MapLease) → MeetOutside a b → meet_outside a b ≡ true
meet-from_MeetOutside a b h =
    and_from _ _ ((same_protocol-Decides a.protocol b.protocol).1 h.protocol)
    (and_from _ _ (lt-ltb a.external (b.external + b.count) h.up) (lt-ltb b.external (a.external + a.count) h.down))

-- leases are separate both ways
pub separate-flip : (a b : MapLease) → AreSeparate a b → AreSeparate b a
separate-flip a b h = record {
  inside = false_by (meet_inside b a) (λ t.
      let m = MeetInside-from_meet b a t in
      clash (meet_inside a b) (meet-from_MeetInside a b (record { address = sym m.address; protocol = sym m.protocol; up = m.down; down = m.up })) h.inside);
  outside = false_by (meet_outside b a) (λ t.
      let m = MeetOutside-from_meet b a t in
      clash (meet_outside a b) (meet-from_MeetOutside a b (record { protocol = sym m.protocol; up = m.down; down = m.up })) h.outside);
}

-- of two separate leases of an address and protocol, the one that begins first ends before the other
ends_inside : (x n : MapLease) → AreSeparate x n → x.address ≡ n.address → x.protocol ≡ n.protocol → x.internal ≤ n.internal → 0 < n.count → x.internal + x.count ≤ n.internal
ends_inside x n apart address protocol low some = elim (cases_lt n.internal (x.internal + x.count)) [
  | inl meets ↦ absurd (clash (meet_inside x n) (meet-from_MeetInside x n (record { address = address; protocol = protocol; up = omega (arith, low, some); down = meets })) apart.inside)
  | inr behind ↦ behind
]

ends_outside : (x n : MapLease) → AreSeparate x n → x.protocol ≡ n.protocol → x.external ≤ n.external → 0 < n.count → x.external + x.count ≤ n.external
ends_outside x n apart protocol low some = elim (cases_lt n.external (x.external + x.count)) [
  | inl meets ↦ absurd (clash (meet_outside x n) (meet-from_MeetOutside x n (record { protocol = protocol; up = omega (arith, low, some); down = meets })) apart.outside)
  | inr behind ↦ behind
]

-- two of the leases are one, or separate
two_of : (ls : List MapLease) (a b : MapLease) → EachTwo AreSeparate ls → IsIn a ls → IsIn b ls → (a ≡ b) ⊎ AreSeparate a b
two_of [] a b h i j = absurd i
two_of (x ∷ xs) a b h (inl e) (inl f) = inl (sym e ∙ f)
two_of (x ∷ xs) a b h (inl e) (inr j) = inr (subst (λ (z : MapLease). AreSeparate z b) e (All-IsIn (AreSeparate x) xs b h.0 j))
two_of (x ∷ xs) a b h (inr i) (inl f) = inr (separate-flip b a (subst (λ (z : MapLease). AreSeparate z a) f (All-IsIn (AreSeparate x) xs a h.0 i)))
two_of (x ∷ xs) a b h (inr i) (inr j) = two_of xs a b h.1 i j

not-true : (b : Bool) → not b ≡ true → b ≡ false
not-true true h = sym h
not-true false h = refl

not-false : (b : Bool) → b ≡ false → not b ≡ true
not-false b h = ap not h

-- where a lease is overlapped, its key is told
key_told : (l x : MapLease) → overlaps l x ≡ true → IsSome (overlapped_key l (Some x))
key_told l x h = subst (λ (b : Bool). IsSome (cond b (Some (first_endpoint x)) None)) (sym h) refl

overlap_inside : (l x : MapLease) → is_map_of (first_endpoint l) x ≡ false → meet_inside l x ≡ true → overlaps l x ≡ true
overlap_inside l x other meets = and_from _ _ (not-false _ other) (or_left _ _ meets)

overlap_outside : (l x : MapLease) → is_map_of (first_endpoint l) x ≡ false → meet_outside l x ≡ true → overlaps l x ≡ true
overlap_outside l x other meets = and_from _ _ (not-false _ other) (or_right _ _ meets)

module _ (ls : List MapLease) (sound : AreSoundMaps ls) where
  lease_in : (x : MapLease) → IsIn x ls → IsMapLease x
  lease_in x i = All-IsIn IsMapLease ls x sound.leases i

  two_in : (a b : MapLease) → IsIn a ls → IsIn b ls → (a ≡ b) ⊎ AreSeparate a b
  two_in a b i j = two_of ls a b sound.separate i j

  -- with one key there is one lease
  key_one : (e : Endpoint) (a b : MapLease) → IsIn a ls → IsIn b ls → is_map_of e a ≡ true → is_map_of e b ≡ true → a ≡ b
  key_one e a b i j ka kb = elim (two_in a b i j) [
    | inl same ↦ same
    | inr apart ↦ absurd (cover_apart e a b apart (has_first a i ka) (has_first b j kb))
  ]
    where
      has_first : (x : MapLease) → IsIn x ls → is_map_of e x ≡ true → covers x e ≡ true
      has_first x i' k = subst (λ (z : Endpoint). covers x z ≡ true) ((same_endpoint-Decides (first_endpoint x) e).0 k) (covers-first x (lease_in x i').ports.some)

  module _ (l : MapLease) where
    -- the lease of a single port meets those that cover it, or own it
    single_covered : (x : MapLease) → l.count ≡ 1 → meet_inside l x ≡ true → covers x (first_endpoint l) ≡ true
    single_covered x one meets =
        let m = MeetInside-from_meet l x meets in let up = m.up in let down = m.down in
        covers-from_IsCovered x (first_endpoint l) (record { address = sym m.address; protocol = sym m.protocol; from = omega (arith, one, down); below = up })

    single_owned : (x : MapLease) → l.count ≡ 1 → meet_outside l x ≡ true → owns l.protocol l.external x ≡ true
    single_owned x one meets =
        let m = MeetOutside-from_meet l x meets in let up = m.up in let down = m.down in
        owns-from_IsOwned x l.protocol l.external (sym m.protocol) (omega (arith, one, down)) up

    module _ (meet : MapLease → MapLease → Bool) (test : MapLease → Bool) (overlap : (x : MapLease) → is_map_of (first_endpoint l) x ≡ false → meet l x ≡ true → overlaps l x ≡ true)
        (passes : (x : MapLease) → meet l x ≡ true → test x ≡ true) (apart : (a b : MapLease) → AreSeparate a b → test a ≡ true → test b ≡ true → ⊥) where
      single_tells : (o : Option MapLease) → find test ls ≡ o → (x : MapLease) → IsIn x ls → is_map_of (first_endpoint l) x ≡ false → meet l x ≡ true → IsSome (overlapped_key l o)
      single_tells None none x i other meets = absurd (clash (test x) (passes x meets) (All-IsIn (λ y. test y ≡ false) ls x (find-none test ls none) i))
      single_tells (Some y) found x i other meets =
          let y_is = find-some test ls y found in
          elim (two_in x y i y_is.0) [
            | inl same ↦ subst (λ (z : MapLease). IsSome (overlapped_key l (Some z))) same (key_told l x (overlap x other meets))
            | inr separate ↦ absurd (apart x y separate (passes x meets) y_is.1)
          ]

      single_among : (o : Option MapLease) → find test ls ≡ o → TellsMet meet l ls o
      single_among None none = record { among = tt; tells = λ x c other meets. single_tells None none x (IsIn-from_Contains ls x c) other meets }
      single_among (Some y) found = record {
        among = Contains-from_IsIn ls y (find-some test ls y found).0;
        tells = λ x c other meets. single_tells (Some y) found x (IsIn-from_Contains ls x c) other meets;
      }

    pub single_inside : l.count ≡ 1 → (o : Option MapLease) → o ≡ map_covering (first_endpoint l) ls → TellsMet meet_inside l ls o
    single_inside one o is =
        single_among meet_inside (λ x. covers x (first_endpoint l)) (overlap_inside l) (λ x meets. single_covered x one meets) (cover_apart (first_endpoint l)) o (sym is)

    pub single_outside : l.count ≡ 1 → (o : Option MapLease) → o ≡ map_owning l.protocol l.external ls → TellsMet meet_outside l ls o
    single_outside one o is =
        single_among meet_outside (owns l.protocol l.external) (overlap_outside l) (λ x meets. single_owned x one meets) (own_apart l.protocol l.external) o (sym is)

    -- one that owns its port is the only one
    pub only_owner : (x : MapLease) → IsIn x ls → owns l.protocol l.external x ≡ true → (o : Option MapLease) → find (owns l.protocol l.external) ls ≡ o → Some x ≡ o
    only_owner x i owned None none = absurd (clash (owns l.protocol l.external x) owned (All-IsIn (λ y. owns l.protocol l.external y ≡ false) ls x (find-none (owns l.protocol l.external) ls none) i))
    only_owner x i owned (Some y) found =
        let y_is = find-some (owns l.protocol l.external) ls y found in
        elim (two_in x y i y_is.0) [
          | inl same ↦ ap Some same
          | inr separate ↦ absurd (own_apart l.protocol l.external x y separate owned y_is.1)
        ]

    -- inside, the last lease that begins up to the last port tells of all
    module _ (k : Place) (last : IsLastPlace l k) where
      begins : (x : MapLease) → IsIn x ls → MeetInside l x → is_gt (place_cmp (place_of_lease x) k) ≡ false
      begins x i m =
          let is = (lease_in x i).ports in let low = is.internal in let end = is.internal_end in let some = is.some in
          places_up_to (place_of_lease x) k (ap (λ a. a.0) (sym m.address) ∙ sym last.address) (ap protocol_number (sym m.protocol) ∙ sym last.protocol)
          ((last.port x.internal low (omega (arith, end, some))).0 m.down)

      tells_inside : (o : Option MapLease) → IsNearest place_cmp place_of_lease k ls o → (x : MapLease) → IsIn x ls → is_map_of (first_endpoint l) x ≡ false → meet_inside l x ≡ true → IsSome (overlapped_key l o)
      tells_inside None near x i other meets =
          absurd (clash _ (near.none x (Contains-from_IsIn ls x i)) (begins x i (MeetInside-from_meet l x meets)))
      tells_inside (Some n) near x i other meets =
          let m = MeetInside-from_meet l x meets in
          let j = IsIn-from_Contains ls n near.among in
          let up = begins x i m in
          let between = places_between (place_of_lease x) (place_of_lease n) k (ap (λ a. a.0) (sym m.address) ∙ sym last.address) (ap protocol_number (sym m.protocol) ∙ sym last.protocol)
          (near.greatest x (Contains-from_IsIn ls x i) up) near.up_to in
          let address : n.address ≡ l.address = address_same n.address l.address (between.0 ∙ last.address) in
          let protocol : n.protocol ≡ l.protocol = protocol_one n.protocol l.protocol 0 0 (ap (λ (z : ℕ). (z, 0)) (between.1 ∙ last.protocol)) in
          let low : x.internal ≤ n.internal = between.2 in
          let n_is = (lease_in n j).ports in
          elim (two_in x n i j) [
            | inl same ↦ subst (λ (z : MapLease). IsSome (overlapped_key l (Some z))) same (key_told l x (overlap_inside l x other meets))
            | inr separate ↦ (
                let ends = ends_inside x n separate (sym m.address ∙ sym address) (sym m.protocol ∙ sym protocol) low n_is.some in
                let up' = m.up in let some = n_is.some in let end = n_is.internal_end in
                let before : n.internal < l.internal + l.count = (last.port n.internal n_is.internal (omega (arith, some, end))).1 between.3 in
                let behind : l.internal < n.internal = omega (arith, ends, up') in
                key_told l n (overlap_inside l n
                (false_by (is_map_of (first_endpoint l) n) (λ t.
                let same : n.internal ≡ l.internal = ap (λ (e : Endpoint). e.port) ((same_endpoint-Decides (first_endpoint n) (first_endpoint l)).0 t) in
                omega (arith, same, behind)))
                (meet-from_MeetInside l n (record { address = sym address; protocol = sym protocol; up = omega (arith, behind); down = before }))))
          ]

      pub nearest_inside : (o : Option MapLease) → IsNearest place_cmp place_of_lease k ls o → TellsMet meet_inside l ls o
      nearest_inside o near = record { among = near.among; tells = λ x c other meets. tells_inside o near x (IsIn-from_Contains ls x c) other meets }

    -- outside, the last lease with another key that begins up to a port tells of those that do
    module _ (bound : ℕ) (within : (p : ℕ) → 0 < p → p ≤ 65535 → p ≤ bound → p < l.external + l.count) where
      tells_outside : (o : Option MapLease) → IsNearest port_cmp port_of_lease (port_at l.protocol bound) ls o → ((n : MapLease) → o ≡ Some n → is_map_of (first_endpoint l) n ≡ false) →
          (x : MapLease) → IsIn x ls → is_map_of (first_endpoint l) x ≡ false → meet_outside l x ≡ true → x.external ≤ bound → IsSome (overlapped_key l o)
      tells_outside None near others x i other meets up =
          let m = MeetOutside-from_meet l x meets in
          absurd (clash _ (near.none x (Contains-from_IsIn ls x i)) (ports_up_to (port_of_lease x) (port_at l.protocol bound) (ap protocol_number (sym m.protocol)) up))
      tells_outside (Some n) near others x i other meets up =
          let m = MeetOutside-from_meet l x meets in
          let j = IsIn-from_Contains ls n near.among in
          let begins' = ports_up_to (port_of_lease x) (port_at l.protocol bound) (ap protocol_number (sym m.protocol)) up in
          let between = ports_between (port_of_lease x) (port_of_lease n) (port_at l.protocol bound) (ap protocol_number (sym m.protocol)) (near.greatest x (Contains-from_IsIn ls x i) begins') near.up_to in
          let protocol : n.protocol ≡ l.protocol = protocol_one n.protocol l.protocol 0 0 (ap (λ (z : ℕ). (z, 0)) between.0) in
          let low : x.external ≤ n.external = between.1 in
          let n_is = (lease_in n j).ports in
          elim (two_in x n i j) [
            | inl same ↦ subst (λ (z : MapLease). IsSome (overlapped_key l (Some z))) same (key_told l x (overlap_outside l x other meets))
            | inr separate ↦ (
                let ends = ends_outside x n separate (sym m.protocol ∙ sym protocol) low n_is.some in
                let up' = m.up in let some = n_is.some in let end = n_is.external_end in
                let before : n.external < l.external + l.count = within n.external n_is.external (omega (arith, some, end)) between.2 in
                key_told l n (overlap_outside l n (others n refl) (meet-from_MeetOutside l n (record { protocol = sym protocol; up = omega (arith, ends, up'); down = before }))))
          ]

    module _ (p : ℕ × ℕ) (last : IsLastPort l p) where
      p_is : p ≡ port_at l.protocol p.1
      p_is = ap (λ (z : ℕ). (z, p.1)) last.protocol

      up_to_last : (x : MapLease) → IsIn x ls → MeetOutside l x → x.external ≤ p.1
      up_to_last x i m =
          let is = (lease_in x i).ports in let end = is.external_end in let some = is.some in
          (last.port x.external is.external (omega (arith, end, some))).0 m.down

      pub last_none : IsNearest port_cmp port_of_lease p ls None → TellsMet meet_outside l ls None
      last_none near = record {
        among = tt;
        tells = λ x c other meets.
            let i = IsIn-from_Contains ls x c in
            tells_outside p.1 (λ q a b. (last.port q a b).1) None (subst (λ (z : ℕ × ℕ). IsNearest port_cmp port_of_lease z ls None) p_is near) (λ n no. absurd (cc)) x i other meets (up_to_last x i (MeetOutside-from_meet l x meets));
      }

      pub last_other : (n : MapLease) → IsNearest port_cmp port_of_lease p ls (Some n) → is_map_of (first_endpoint l) n ≡ false → TellsMet meet_outside l ls (Some n)
      last_other n near is_other = record {
        among = near.among;
        tells = λ x c other meets.
            let i = IsIn-from_Contains ls x c in
            tells_outside p.1 (λ q a b. (last.port q a b).1) (Some n) (subst (λ (z : ℕ × ℕ). IsNearest port_cmp port_of_lease z ls (Some n)) p_is near)
            (λ y same. let one : n ≡ y = cc in subst (λ (z : MapLease). is_map_of (first_endpoint l) z ≡ false) one is_other) x i other meets (up_to_last x i (MeetOutside-from_meet l x meets));
      }

      module _ (n : MapLease) (near : IsNearest port_cmp port_of_lease p ls (Some n)) (is_same : is_map_of (first_endpoint l) n ≡ true) where
        n_in : IsIn n ls
        n_in = IsIn-from_Contains ls n near.among

        pub same_positive : 0 < n.external
        same_positive = (lease_in n n_in).ports.external

        n_protocol : n.protocol ≡ l.protocol
        n_protocol = ap (λ (e : Endpoint). e.protocol) ((same_endpoint-Decides (first_endpoint n) (first_endpoint l)).0 is_same)

        n_up : n.external ≤ p.1
        n_up = (ports_between (port_of_lease n) (port_of_lease n) p (ap protocol_number n_protocol ∙ sym last.protocol) (ports_up_to (port_of_lease n) (port_of_lease n) refl (omega arith)) near.up_to).2

        -- the one before it has another key
        before_other : (q : ℕ × ℕ) → q ≡ port_at n.protocol (n.external - 1) → (o : Option MapLease) → IsNearest port_cmp port_of_lease q ls o → (y : MapLease) → o ≡ Some y → is_map_of (first_endpoint l) y ≡ false
        before_other q q_is o second y is = false_by (is_map_of (first_endpoint l) y) (λ t.
            let there : IsNearest port_cmp port_of_lease q ls (Some y) = subst (IsNearest port_cmp port_of_lease q ls) is second in
            let same : y ≡ n = key_one (first_endpoint l) y n (IsIn-from_Contains ls y there.among) n_in t is_same in
            let up : is_gt (port_cmp (port_of_lease n) (port_at n.protocol (n.external - 1))) ≡ false =
            subst (λ (z : MapLease). is_gt (port_cmp (port_of_lease z) (port_at n.protocol (n.external - 1))) ≡ false) same
            (subst (λ (z : ℕ × ℕ). is_gt (port_cmp (port_of_lease y) z) ≡ false) q_is there.up_to) in
            let low = (ports_between (port_of_lease n) (port_of_lease n) (port_at n.protocol (n.external - 1)) refl (ports_up_to (port_of_lease n) (port_of_lease n) refl (omega arith)) up).2 in
            let some = same_positive in omega (arith, low, some))

        pub last_same : (q : ℕ × ℕ) → q ≡ port_at n.protocol (n.external - 1) → (o : Option MapLease) → IsNearest port_cmp port_of_lease q ls o → TellsMet meet_outside l ls o
        last_same q q_is o second = record {
          among = second.among;
          tells = λ x c other meets.
              let i = IsIn-from_Contains ls x c in let m = MeetOutside-from_meet l x meets in
              let up = up_to_last x i m in let n_last = n_up in
              let begins' = ports_up_to (port_of_lease x) p (ap protocol_number (sym m.protocol) ∙ sym last.protocol) up in
              let between = ports_between (port_of_lease x) (port_of_lease n) p (ap protocol_number (sym m.protocol) ∙ sym last.protocol) (near.greatest x c begins') near.up_to in
              let low : x.external ≤ n.external = between.1 in
              let some_x = (lease_in x i).ports.some in let some_n = same_positive in
              let before : x.external ≤ n.external - 1 = elim (two_in x n i n_in) [
                | inl same ↦ absurd (clash (is_map_of (first_endpoint l) x) (ap (is_map_of (first_endpoint l)) same ∙ is_same) other)
                | inr separate ↦ (let ends = ends_outside x n separate (sym m.protocol ∙ sym n_protocol) low (lease_in n n_in).ports.some in omega (arith, ends, some_x))
              ] in
              tells_outside (n.external - 1) (λ r a b up'. (last.port r a b).1 (omega (arith, up', n_last))) o
              (subst (λ (z : ℕ × ℕ). IsNearest port_cmp port_of_lease z ls o) (q_is ∙ ap (λ (z : Protocol). port_at z (n.external - 1)) n_protocol) second)
              (before_other q q_is o second) x i other meets before;
        }

-- what is told of both sides
module _ (ls : List MapLease) (l : MapLease) where
  told_step : (x : MapLease) → Contains ls x → (key : Endpoint) (b : Bool) → overlaps l x ≡ b → cond b (Some (first_endpoint x)) None ≡ Some key → list_any (λ y. is_map_of key y && overlaps l y) ls ≡ true
  told_step x c key true t is =
      let same : first_endpoint x ≡ key = cc in
      some-any (λ y. is_map_of key y && overlaps l y) ls x (IsIn-from_Contains ls x c) (and_from _ _ ((same_endpoint-Decides (first_endpoint x) key).1 same) t)
  told_step x c key false t is = absurd (cc)

  -- a key that is told is that of a lease which is overlapped
  told_among : (meet : MapLease → MapLease → Bool) (o : Option MapLease) → TellsMet meet l ls o → (key : Endpoint) → overlapped_key l o ≡ Some key → list_any (λ y. is_map_of key y && overlaps l y) ls ≡ true
  told_among meet None h key is = absurd (cc)
  told_among meet (Some x) h key is = told_step x h.among key (overlaps l x) refl is

  some_not : (o : Option Endpoint) → IsSome o → o ≡ None → ⊥
  some_not o h none = let bad : false ≡ true = subst IsSome none h in cc

  -- where neither side tells a key, none is overlapped
  none_overlapped : (a b : Option MapLease) → TellsMet meet_inside l ls a → TellsMet meet_outside l ls b → overlapped_key l a ≡ None → overlapped_key l b ≡ None → list_any (overlaps l) ls ≡ false
  none_overlapped a b in_a out_b no_a no_b = false_by (list_any (overlaps l) ls) (λ t.
      let x = any-some (overlaps l) ls t in
      let parts = and_parts _ _ x.2 in
      let other = not-true (is_map_of (first_endpoint l) x.0) parts.0 in
      let c = Contains-from_IsIn ls x.0 x.1 in
      elim (or_cases _ _ parts.1) [
        | inl inside ↦ some_not (overlapped_key l a) (in_a.tells x.0 c other inside) no_a
        | inr outside ↦ some_not (overlapped_key l b) (out_b.tells x.0 c other outside) no_b
      ])

  pub first_tells : (a : Option MapLease) → TellsMet meet_inside l ls a → (key : Endpoint) → Some key ≡ overlapped_key l a → IsOverlapped l ls (Some key)
  first_tells a in_a key is = record { among = told_among meet_inside a in_a key (sym is); none = tt }

  pub second_tells : (a b : Option MapLease) → TellsMet meet_inside l ls a → TellsMet meet_outside l ls b → None ≡ overlapped_key l a → (r : Option Endpoint) → r ≡ overlapped_key l b → IsOverlapped l ls r
  second_tells a b in_a out_b nothing None is = record { among = tt; none = none_overlapped a b in_a out_b (sym nothing) (sym is) }
  second_tells a b in_a out_b nothing (Some key) is = record { among = told_among meet_outside b out_b key (sym is); none = tt }

  -- what a search tells
  pub search_none : None ≡ find (overlaps l) ls → IsOverlapped l ls None
  search_none is = record { among = tt; none = none-any (overlaps l) ls (find-none (overlaps l) ls (sym is)) }

  pub search_some : (x : MapLease) → Some x ≡ find (overlaps l) ls → (key : Endpoint) → key ≡ first_endpoint x → IsOverlapped l ls (Some key)
  search_some x is key key_is =
      let found = find-some (overlaps l) ls x (sym is) in record {
        among = some-any (λ y. is_map_of key y && overlaps l y) ls x found.0 (and_from _ _ ((same_endpoint-Decides (first_endpoint x) key).1 (sym key_is)) found.1);
        none = tt;
      }

-- filters make no difference
pub overlapped_whole : (kept : Place → List Filter) (l : MapLease) (ls : List MapLease) (r : Option Endpoint) → IsOverlapped (bare l) ls r → IsOverlapped l (map (whole kept) ls) r
overlapped_whole kept l ls None h = record { among = tt; none = any-map (overlaps l) (whole kept) ls ∙ h.none }
overlapped_whole kept l ls (Some key) h = record { among = any-map (λ y. is_map_of key y && overlaps l y) (whole kept) ls ∙ h.among; none = tt }

-- where the one with its key owns its port, a lease of a single port overlaps none
module _ (ls : List MapLease) (sound : AreSoundMaps ls) (l : MapLease) (one : l.count ≡ 1) where
  own_key : (x : MapLease) → is_map_of (first_endpoint l) x ≡ true → None ≡ overlapped_key l (Some x)
  own_key x key = sym (ap (λ b. cond (not b && (meet_inside l x || meet_outside l x)) (Some (first_endpoint x)) None) key)

  renewed_by : (x : MapLease) → Some x ≡ map_covering (first_endpoint l) ls → is_map_of (first_endpoint l) x ≡ true → owns l.protocol l.external x ≡ true → IsOverlapped l ls None
  renewed_by x found key owned =
      let i = (find-some (λ y. covers y (first_endpoint l)) ls x (sym found)).0 in
      let owner = only_owner ls sound l x i owned (find (owns l.protocol l.external) ls) refl in
      second_tells ls l (Some x) (Some x) (single_inside ls sound l one (Some x) found) (single_outside ls sound l one (Some x) owner) (own_key x key) None (own_key x key)

  pub renewed_tells : (o : Option MapLease) → o ≡ map_covering (first_endpoint l) ls → is_renewed l o ≡ true → IsOverlapped l ls None
  renewed_tells None found renewed = absurd (let no : false ≡ true = renewed in cc)
  renewed_tells (Some x) found renewed = let both = and_parts _ _ renewed in renewed_by x found both.0 both.1
