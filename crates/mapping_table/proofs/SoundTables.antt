-- The MAP leases of a sound table.
use Rattle.std.proofs.Common.{◌≡◌, ℕ, zero, suc, ◌+◌, ◌-◌, ◌<◌, ◌≤◌, ◌==◌, leb, Bool, true, false, List, [], ◌∷◌, map, flat_map, refl, inl, inr, sym, ◌∙◌, subst, arith}
use Rattle.std.specs.List.{range_with_len}
use Rattle.std.proofs.lemmas.Bool.{and_parts, eqb-true, leb-true, leb-false, ltb-true}
use Rattle.std.proofs.lemmas.Bool.Decides.{Decides-eqb}
use Rattle.pcp_base.specs.declared.leases.Endpoint.{Endpoint}
use Rattle.pcp_base.specs.declared.leases.MapLease.{MapLease}
use Rattle.pcp_base.specs.declared.leases.Owner.{Owner}
use Rattle.pcp_base.specs.Owners.{map_owner, map_owners, peer_owner, owners}
use Rattle.pcp_base.specs.Sound.{Sound}
use Rattle.pcp_base.specs.Tables.{Table, EachTwo, AreApart, IsMapLease, covers}
use Rattle.pcp_base.proofs.Members.{IsIn, All-IsIn, All-from_IsIn, Contains-from_IsIn, IsIn-left, flat_map-IsIn, map-IsIn}
use Rattle.pcp_base.proofs.Same.{same_address-Decides, same_protocol-Decides}
use Rattle.pcp_base.proofs.TableLemmas.{covers-from_IsCovered, owner-covered}
use Rattle.ordered_index.proofs.Entries.{false_by}
use Rattle.mapping_table.specs.MapLists.{runs_meet, AreSeparate, AreSoundMaps}

-- a port that is in both runs
record AreMet (a n b k : ℕ) : Type 0 where
  port : ℕ
  from_a : a ≤ port
  below_a : port < a + n
  from_b : b ≤ port
  below_b : port < b + k

met_step : (a n b k : ℕ) → 0 < n → 0 < k → a < b + k → b < a + n → (v : Bool) → leb a b ≡ v → AreMet a n b k
met_step a n b k some_n some_k up down true t = let low = leb-true a b t in record { port = b; from_a = low; below_a = down; from_b = omega arith; below_b = omega (arith, some_k) }
met_step a n b k some_n some_k up down false t = let high = leb-false a b t in record { port = a; from_a = omega arith; below_a = omega (arith, some_n); from_b = omega (arith, high); below_b = up }

met : (a n b k : ℕ) → 0 < n → 0 < k → runs_meet a n b k ≡ true → AreMet a n b k
met a n b k some_n some_k t =
    let parts = and_parts _ _ t in
    met_step a n b k some_n some_k (ltb-true a (b + k) parts.0) (ltb-true b (a + n) parts.1) (leb a b) refl

le_cases : (a i : ℕ) → a ≤ i → (a ≡ i → ⊥) → (v : Bool) → leb (a + 1) i ≡ v → a + 1 ≤ i
le_cases a i low other true t = leb-true (a + 1) i t
le_cases a i low other false t = let high = leb-false (a + 1) i t in absurd (other (omega (arith, low, high)))

above : (a i : ℕ) → a ≤ i → (a ≡ i → ⊥) → a + 1 ≤ i
above a i low other = le_cases a i low other (leb (a + 1) i) refl

range_step : (a n i : ℕ) → a ≤ i → (a + 1 ≤ i → IsIn i (range_with_len (a + 1) n)) → (v : Bool) → (a == i) ≡ v → IsIn i (a ∷ range_with_len (a + 1) n)
range_step a n i low later true t = inl (eqb-true a i t)
range_step a n i low later false t =
    let other : a ≡ i → ⊥ = λ same. (let yes : (a == i) ≡ true = (Decides-eqb a i).1 same in let both : true ≡ false = sym yes ∙ t in cc) in
    inr (later (above a i low other))

in_range : (a n i : ℕ) → a ≤ i → i < a + n → IsIn i (range_with_len a n)
in_range a zero i low high = absurd (omega (arith, low, high))
in_range a (suc n) i low high = range_step a n i low (λ up. in_range (a + 1) n i up (omega (arith, high))) (a == i) refl

module _ (t : Table) (h : Sound t) where
  owns_at : (l : MapLease) (i : ℕ) → IsIn l t.maps → i < l.count → IsIn (map_owner l i) (map_owners l)
  owns_at l i among below = map-IsIn (map_owner l) (range_with_len 0 l.count) i (in_range 0 l.count i (omega arith) (omega (arith, below)))

  among_owners : (l : MapLease) (o : Owner) → IsIn l t.maps → IsIn o (map_owners l) → IsIn o (owners t)
  among_owners l o among i = IsIn-left (flat_map map_owners t.maps) (map peer_owner t.peers) o (flat_map-IsIn map_owners t.maps l o among i)

  separate : (a b : MapLease) → IsIn a t.maps → IsIn b t.maps → AreApart a b → AreSeparate a b
  separate a b ia ib apart =
      let some_a = (All-IsIn IsMapLease t.maps a h.maps ia).ports.some in
      let some_b = (All-IsIn IsMapLease t.maps b h.maps ib).ports.some in
      record {
        inside = false_by _ (λ yes.
            let parts = and_parts _ _ yes in let same = and_parts _ _ parts.0 in
            let m = met a.internal a.count b.internal b.count some_a some_b parts.1 in
            let e : Endpoint = record { address = a.address; protocol = a.protocol; port = m.port } in
            let address = (same_address-Decides a.address b.address).0 same.0 in
            let protocol = (same_protocol-Decides a.protocol b.protocol).0 same.1 in
            apart e (covers-from_IsCovered a e (record { address = refl; protocol = refl; from = m.from_a; below = m.below_a }))
            (covers-from_IsCovered b e (record { address = sym address; protocol = sym protocol; from = m.from_b; below = m.below_b })));
        outside = false_by _ (λ yes.
            let parts = and_parts _ _ yes in
            let m = met a.external a.count b.external b.count some_a some_b parts.1 in
            let i = m.port - a.external in let j = m.port - b.external in
            let below_i : i < a.count = omega (arith, m.from_a, m.below_a) in
            let below_j : j < b.count = omega (arith, m.from_b, m.below_b) in
            let in_a = owns_at a i ia below_i in let in_b = owns_at b j ib below_j in
            let port : a.external + i ≡ b.external + j = omega (arith, m.from_a, m.from_b) in
            let one = h.one_owner (map_owner a i) (map_owner b j) (Contains-from_IsIn (owners t) (map_owner a i) (among_owners a (map_owner a i) ia in_a))
            (Contains-from_IsIn (owners t) (map_owner b j) (among_owners b (map_owner b j) ib in_b)) ((same_protocol-Decides a.protocol b.protocol).0 parts.0) port in
            apart (map_owner a i).endpoint (owner-covered a (map_owner a i) in_a) (subst (λ (x : Endpoint). covers b x ≡ true) (sym one) (owner-covered b (map_owner b j) in_b)));
      }

  each_separate : (ls : List MapLease) → ((l : MapLease) → IsIn l ls → IsIn l t.maps) → EachTwo AreApart ls → EachTwo AreSeparate ls
  each_separate [] among apart = tt
  each_separate (l ∷ ls) among apart =
      (All-from_IsIn (AreSeparate l) ls (λ x i. separate l x (among l (inl refl)) (among x (inr i)) (All-IsIn (AreApart l) ls x apart.0 i)), each_separate ls (λ x i. among x (inr i)) apart.1)

pub sound_maps : (t : Table) → Sound t → AreSoundMaps t.maps
sound_maps t h = record {
  leases = h.maps;
  separate = each_separate t h t.maps (λ l i. i) h.apart;
  few = (let all = h.few in omega (arith, all));
}
