-- How many different ports the leases of an address own, lease by lease.
use Rattle.std.proofs.Common.{◌≡◌, ℕ, zero, suc, ◌+◌, ◌<◌, ◌≤◌, Bool, true, false, cond, not, ◌&&◌, ◌||◌, nat_lt, ◌==◌, List, [], ◌∷◌, ◌++◌, map, flat_map, filter, count_by, refl, ap, sym, ◌∙◌, arith, append_assoc}
use mir.Val.{bool_byte}
use Rattle.std.specs.List.{list_any, range_with_len}
use Rattle.std.proofs.lemmas.Bool.{and_right, or_from, ne_eqb}
use Rattle.std.proofs.lemmas.List.Elements.{filter-append}
use Rattle.std.proofs.lemmas.List.Folds.{list_any-append}
use Rattle.std.proofs.lemmas.List.Sums.{sum_by-cons}
use Rattle.pcp_base.specs.declared.addresses.Address.{Address}
use Rattle.pcp_base.specs.declared.leases.MapLease.{MapLease}
use Rattle.pcp_base.specs.declared.leases.PeerLease.{PeerLease}
use Rattle.pcp_base.specs.declared.leases.Owner.{Owner}
use Rattle.pcp_base.specs.Tables.{Table, live, same_address, same_protocol}
use Rattle.pcp_base.specs.Owners.{map_owner, map_owners, peer_owner, owners, is_port, is_owned, port_count, owned}
use Rattle.plain_store.specs.AddressPorts.{is_map_at, is_peer_at, peer_owners_at, owners_at}

-- ---- the leases of an address

filter-filter : {X : Type 0} (p q : X → Bool) (xs : List X) → filter q (filter p xs) ≡ filter (λ x. p x && q x) xs
filter-filter p q [] = refl
filter-filter {X = X} p q (x ∷ xs) = either (p x) (filter-filter p q xs)
  where
    either : (b : Bool) → filter q (filter p xs) ≡ filter (λ y. p y && q y) xs
        → filter q (cond b (x ∷ filter p xs) (filter p xs)) ≡ cond (b && q x) (x ∷ filter (λ y. p y && q y) xs) (filter (λ y. p y && q y) xs)
    either true h = ap (λ (ys : List X). cond (q x) (x ∷ ys) ys) h
    either false h = h

-- a filter that all pass, or none
filter_run : (p : Owner → Bool) (f : ℕ → Owner) (b : Bool) → ((i : ℕ) → p (f i) ≡ b) → (xs : List ℕ) → filter p (map f xs) ≡ cond b (map f xs) []
filter_run p f true h [] = refl
filter_run p f false h [] = refl
filter_run p f true h (x ∷ xs) = rw (h x) (ap (λ (ys : List Owner). f x ∷ ys) (filter_run p f true h xs))
filter_run p f false h (x ∷ xs) = rw (h x) (filter_run p f false h xs)

module _ (who : Address) where
  abbrev is_of : Owner → Bool
  is_of o = same_address o.endpoint.address who

  of_maps : (ls : List MapLease) → filter is_of (flat_map map_owners ls) ≡ flat_map map_owners (filter (λ l. same_address l.address who) ls)
  of_maps [] = refl
  of_maps (l ∷ ls) =
      filter-append is_of (map_owners l) (flat_map map_owners ls)
      ∙ ap (λ (os : List Owner). os ++ filter is_of (flat_map map_owners ls)) (filter_run is_of (map_owner l) (same_address l.address who) (λ i. refl) (range_with_len 0 l.count))
      ∙ ap (λ (os : List Owner). cond (same_address l.address who) (map_owners l) [] ++ os) (of_maps ls)
      ∙ through (same_address l.address who)
    where
      through : (b : Bool) → cond b (map_owners l) [] ++ flat_map map_owners (filter (λ x. same_address x.address who) ls)
          ≡ flat_map map_owners (cond b (l ∷ filter (λ x. same_address x.address who) ls) (filter (λ x. same_address x.address who) ls))
      through true = refl
      through false = refl

  of_peers : (ps : List PeerLease) → filter is_of (map peer_owner ps) ≡ map peer_owner (filter (λ l. same_address l.endpoint.address who) ps)
  of_peers [] = refl
  of_peers (l ∷ ps) = ap (λ (os : List Owner). cond (same_address l.endpoint.address who) (peer_owner l ∷ os) os) (of_peers ps) ∙ through (same_address l.endpoint.address who)
    where
      through : (b : Bool) → cond b (peer_owner l ∷ map peer_owner (filter (λ x. same_address x.endpoint.address who) ps)) (map peer_owner (filter (λ x. same_address x.endpoint.address who) ps))
          ≡ map peer_owner (cond b (l ∷ filter (λ x. same_address x.endpoint.address who) ps) (filter (λ x. same_address x.endpoint.address who) ps))
      through true = refl
      through false = refl

  -- what an address owns is what its leases own
  pub owned_is : (t : Table) (m : ℕ) → owned t m who ≡ port_count (owners_at m who t.maps t.peers)
  owned_is t m =
      let maps = (live t m).maps in
      let peers = (live t m).peers in
      let parts : filter is_of (owners (live t m)) ≡ owners_at m who t.maps t.peers =
      filter-append is_of (flat_map map_owners maps) (map peer_owner peers)
      ∙ ap (λ (os : List Owner). os ++ filter is_of (map peer_owner peers)) (of_maps maps ∙ ap (flat_map map_owners) (filter-filter (λ (l : MapLease). nat_lt m l.expiry) (λ (l : MapLease). same_address l.address who) t.maps))
      ∙ ap (λ (os : List Owner). flat_map map_owners (filter (is_map_at m who) t.maps) ++ os) (of_peers peers ∙ ap (map peer_owner) (filter-filter (λ (l : PeerLease). nat_lt m l.expiry) (λ (l : PeerLease). same_address l.endpoint.address who) t.peers)) in
      ap port_count parts

-- ---- one lease more

count_first : (f : ℕ → Bool) (a : ℕ) (xs : List ℕ) → count_by f (a ∷ xs) ≡ cond (f a) 1 0 + count_by f xs
count_first f a xs = sum_by-cons (λ (x : ℕ). cond {A = ℕ} (f x) 1 0) a xs

-- of a run of numbers the first is counted first
pub count_later : (f : ℕ → Bool) (a n k : ℕ) → n ≡ suc k → count_by f (range_with_len a n) ≡ cond (f a) 1 0 + count_by f (range_with_len (a + 1) k)
count_later f a n k e = rw e (count_first f a (range_with_len (a + 1) k))

-- no later port of a lease is an earlier one
not_later : (l : MapLease) (a b n : ℕ) → a < b → list_any (is_port l.protocol (l.external + a)) (map (map_owner l) (range_with_len b n)) ≡ false
not_later l a b zero h = refl
not_later l a b (suc n) h =
    let other : (l.external + b == l.external + a) ≡ false = ne_eqb (l.external + b) (l.external + a) (λ e. absurd (omega (arith, h, e))) in
    or_from _ _ (and_right (same_protocol l.protocol l.protocol) (l.external + b == l.external + a) other) (not_later l a (b + 1) n (omega (arith, h)))

one_or_none : (b : Bool) → cond {A = ℕ} b 0 1 ≡ cond {A = ℕ} (not b) 1 0
one_or_none true = refl
one_or_none false = refl

-- the ports of a lease, before those of others
pub count_run : (l : MapLease) (os : List Owner) (a n : ℕ) → port_count (map (map_owner l) (range_with_len a n) ++ os)
    ≡ count_by (λ i. not (is_owned l.protocol (l.external + i) os)) (range_with_len a n) + port_count os
count_run l os a zero = omega arith
count_run l os a (suc n) =
    let rest = map (map_owner l) (range_with_len (a + 1) n) in
    let test : ℕ → Bool = λ i. not (is_owned l.protocol (l.external + i) os) in
    let first : is_owned l.protocol (l.external + a) (rest ++ os) ≡ is_owned l.protocol (l.external + a) os =
    list_any-append (is_port l.protocol (l.external + a)) rest os
    ∙ ap (λ (b : Bool). b || is_owned l.protocol (l.external + a) os) (not_later l a (a + 1) n (omega arith)) in
    let here : cond {A = ℕ} (is_owned l.protocol (l.external + a) (rest ++ os)) 0 1 ≡ cond {A = ℕ} (test a) 1 0 =
    ap (λ (b : Bool). cond {A = ℕ} b 0 1) first ∙ one_or_none (is_owned l.protocol (l.external + a) os) in
    let later = count_run l os (a + 1) n in
    let counted = count_first test a (range_with_len (a + 1) n) in
    omega (arith, here, later, counted)

module _ (m : ℕ) (who : Address) (l : MapLease) (later : List MapLease) (peers : List PeerLease) where
  pub other_map : is_map_at m who l ≡ false → owners_at m who (l ∷ later) peers ≡ owners_at m who later peers
  other_map h = ap (λ (b : Bool). flat_map map_owners (cond b (l ∷ filter (is_map_at m who) later) (filter (is_map_at m who) later)) ++ peer_owners_at m who peers) h

  pub one_map_more : is_map_at m who l ≡ true →
      count_by (λ i. not (is_owned l.protocol (l.external + i) (owners_at m who later peers))) (range_with_len 0 l.count) + port_count (owners_at m who later peers)
      ≡ port_count (owners_at m who (l ∷ later) peers)
  one_map_more h =
      sym (count_run l (owners_at m who later peers) 0 l.count)
      ∙ ap port_count (sym (append_assoc (map_owners l) (flat_map map_owners (filter (is_map_at m who) later)) (peer_owners_at m who peers)))
      ∙ ap (λ (b : Bool). port_count (flat_map map_owners (cond b (l ∷ filter (is_map_at m who) later) (filter (is_map_at m who) later)) ++ peer_owners_at m who peers)) (sym h)

module _ (m : ℕ) (who : Address) (l : PeerLease) (later : List PeerLease) where
  pub other_peer : is_peer_at m who l ≡ false → peer_owners_at m who (l ∷ later) ≡ peer_owners_at m who later
  other_peer h = ap (λ (b : Bool). map peer_owner (cond b (l ∷ filter (is_peer_at m who) later) (filter (is_peer_at m who) later))) h

  pub one_peer_more : is_peer_at m who l ≡ true →
      cond {A = ℕ} (not (is_owned l.endpoint.protocol l.external (peer_owners_at m who later))) 1 0 + port_count (peer_owners_at m who later)
      ≡ port_count (peer_owners_at m who (l ∷ later))
  one_peer_more h =
      ap (λ (n : ℕ). n + port_count (peer_owners_at m who later)) (sym (one_or_none (is_owned l.endpoint.protocol l.external (peer_owners_at m who later))))
      ∙ ap (λ (b : Bool). port_count (map peer_owner (cond b (l ∷ filter (is_peer_at m who) later) (filter (is_peer_at m who) later)))) (sym h)

-- a test as a number
pub byte_is : (b : Bool) → bool_byte b ≡ cond {A = ℕ} b 1 0
byte_is true = refl
byte_is false = refl

pub at_most_one : (b : Bool) → cond {A = ℕ} b 1 0 ≤ 1
at_most_one true = omega arith
at_most_one false = omega arith
