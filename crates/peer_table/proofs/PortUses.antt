-- The leases of an endpoint that pass a test, and what the live ones use.
use Rattle.std.proofs.Common.{◌≡◌, ℕ, ◌+◌, ◌≤◌, ◌&&◌, ◌==◌, Bool, true, false, cond, List, [], ◌∷◌, length, filter, find, count_by, Option, Some, None, refl, sym, ap, ◌∙◌, subst, inl, inr, arith}
use Rattle.std.specs.Prelude.{is_some}
use Rattle.std.specs.List.{list_any}
use Rattle.std.specs.Option.{option_map}
use Rattle.std.specs.Ordering.{nat_cmp}
use Rattle.std.specs.declared.ops.Bound.TheVariants.{Included, Excluded}
use Rattle.std.specs.BTreeMap.{get, is_at, values}
use Rattle.std.specs.BTreeMap.Range.{range_contains, entries_between}
use Rattle.std.proofs.lemmas.Bool.{and_from}
use Rattle.std.proofs.lemmas.List.Sums.{length-filter}
use Rattle.std.proofs.lemmas.Bool.Decides.{Decides-eqb}
use Rattle.pcp_base.specs.declared.leases.TheConstants.{MOST_PEERS}
use Rattle.pcp_base.specs.declared.leases.Endpoint.{Endpoint}
use Rattle.pcp_base.specs.declared.leases.PeerLease.{PeerLease}
use Rattle.pcp_base.specs.Tables.{names}
use Rattle.pcp_base.proofs.Members.{IsIn, IsIn-filter, find-some, any-some}
use Rattle.pcp_base.proofs.Same.{same_endpoint-Decides}
use Rattle.ordered_index.specs.declared.numbered.Numbered.{Numbered}
use Rattle.ordered_index.specs.Orders.{place_of, place_cmp}
use Rattle.ordered_index.proofs.Endings.{count-values, one-among}
use Rattle.ordered_index.proofs.Entries.{any_at, entry_at, false_by, same_tests}
use Rattle.ordered_index.proofs.EntryLaws.{tally, count-cons, count-some}
use Rattle.ordered_index.proofs.Keeping.{key-from}
use Rattle.ordered_index.proofs.Mirrorings.{entry-at}
use Rattle.ordered_index.proofs.OrderLaws.{at_self, at_exact, place_total, place_exact, place_of-one}
use Rattle.peer_table.specs.PeerLists.{is_live_peer, is_live_of, is_ended_peer, IsEndedOf, IsPortUse}
use Rattle.peer_table.specs.Kept.{PeerKey, Opening, key_cmp, key_of_lease, peer_keying, AreKeptPeers, IsBound, some_that, key_total}
use Rattle.peer_table.proofs.PeerKeeping.{peer_laws, key_exact}
use Rattle.peer_table.proofs.Finds.{none_counted, is_false}
use Rattle.peer_table.proofs.PeerKeys.{within_bounds}

-- a search that ends at an entry, and one that ends at none
pub found_here : {K : Type 0} (test : K × ℕ → Bool) (k : K) (n : ℕ) (rest it whole : List (K × ℕ)) → test (k, n) ≡ true → it ≡ (k, n) ∷ rest → find test it ≡ find test whole →
    Some n ≡ option_map (λ (e : K × ℕ). e.1) (find test whole)
found_here {K} test k n rest it whole t is same =
    let here : find test whole ≡ Some (k, n) = sym same ∙ ap (find test) is ∙ ap (λ b. cond b (Some (k, n)) (find test rest)) t in
    ap (option_map (λ (e : K × ℕ). e.1)) (sym here)

pub found_nowhere : {K : Type 0} (test : K × ℕ → Bool) (it whole : List (K × ℕ)) → it ≡ [] → find test it ≡ find test whole → None ≡ option_map (λ (e : K × ℕ). e.1) (find test whole)
found_nowhere {K} test it whole is same =
    let none : find test whole ≡ None = sym same ∙ ap (find test) is in
    ap (option_map (λ (e : K × ℕ). e.1)) (sym none)

-- tests that agree at all items count as many
pub count_same : {X : Type 0} (p q : X → Bool) (xs : List X) → ((x : X) → IsIn x xs → p x ≡ q x) → count_by p xs ≡ count_by q xs
count_same p q [] h = refl
count_same p q (x ∷ xs) h =
    let a = count-cons p x xs in let b = count-cons q x xs in
    let here : tally (p x) ≡ tally (q x) = ap tally (h x (inl refl)) in
    let rest = count_same p q xs (λ y i. h y (inr i)) in
    omega (arith, a, b, here, rest)

filter_step : {X : Type 0} (p q : X → Bool) (x : X) (xs : List X) (b : Bool) → q x ≡ b → count_by p (filter q xs) ≡ count_by (λ y. q y && p y) xs →
    count_by p (cond b (x ∷ filter q xs) (filter q xs)) ≡ tally (b && p x) + count_by (λ y. q y && p y) xs
filter_step p q x xs true e rest = let a = count-cons p x (filter q xs) in omega (arith, a, rest)
filter_step p q x xs false e rest = let none : tally (false && p x) ≡ 0 = refl in omega (arith, none, rest)

pub count_filtered : {X : Type 0} (p q : X → Bool) (xs : List X) → count_by p (filter q xs) ≡ count_by (λ y. q y && p y) xs
count_filtered p q [] = refl
count_filtered p q (x ∷ xs) =
    let a = count-cons (λ y. q y && p y) x xs in
    let b = filter_step p q x xs (q x) refl (count_filtered p q xs) in
    omega (arith, a, b)

none_found : {K : Type 0} (o : Option (K × ℕ)) → None ≡ option_map (λ (x : K × ℕ). x.1) o → o ≡ None
none_found None h = refl
none_found (Some x) h = absurd (let no : None ≡ Some x.1 = h in cc)

module _ (it : Numbered PeerLease PeerKey Opening) (h : AreKeptPeers it) (e : Endpoint) (lo hi : PeerKey) (low : IsBound e 0 lo) (high : IsBound e 2 hi) where
  abbrev within : PeerKey → Bool
  within k = range_contains key_cmp (Included lo) (Excluded hi) k

  abbrev part : List (PeerKey × ℕ)
  part = entries_between key_cmp (Included lo) (Excluded hi) it.keys.entries

  -- the keys between the bounds are those of leases that name the endpoint
  pub within_names : (l : PeerLease) → within (key_of_lease l) ≡ names l e
  within_names l = within_bounds e lo hi (key_of_lease l) low high refl ∙ same_tests (is_at (place_cmp (place_of e)) (place_of l.endpoint)) (names l e)
      (λ t. (same_endpoint-Decides l.endpoint e).1 (place_of-one l.endpoint e (sym (at_exact place_exact (place_of e) (place_of l.endpoint) t))))
      (λ t. ap (λ (x : Endpoint). is_at (place_cmp (place_of e)) (place_of x)) ((same_endpoint-Decides l.endpoint e).0 t) ∙ at_self place_total (place_of e))

  -- no more numbers stand there than an endpoint has leases
  pub few_there : length part ≤ MOST_PEERS
  few_there =
      let all = length-filter (λ (x : PeerKey × ℕ). within x.0) it.keys.entries in
      let keys = h.kept.keys (λ (x : PeerKey × ℕ). within x.0) in
      let named = count_same (λ (x : ℕ × PeerLease). within (key_of_lease x.1)) (λ (x : ℕ × PeerLease). names x.1 e) it.leases.entries (λ x i. within_names x.1) in
      let listed = count-values (λ l. names l e) it.leases.entries in
      let few = h.sound.few_peers e in
      omega (arith, all, keys, named, listed, few)

  module _ (test : PeerLease → Bool) where
    abbrev passes_at : PeerKey × ℕ → Bool
    passes_at x = some_that test (get nat_cmp it.leases x.1)

    abbrev passes_of : PeerLease → Bool
    passes_of l = names l e && test l

    -- the numbers there count the endpoint's leases that pass
    pub counted : count_by passes_at part ≡ count_by passes_of (values it.leases)
    counted =
        count_filtered passes_at (λ (x : PeerKey × ℕ). within x.0) it.keys.entries
        ∙ h.kept.keys (λ (x : PeerKey × ℕ). within x.0 && passes_at x)
        ∙ count_same (λ (x : ℕ × PeerLease). within (key_of_lease x.1) && some_that test (get nat_cmp it.leases x.0)) (λ (x : ℕ × PeerLease). passes_of x.1) it.leases.entries
        (λ x i. ap (λ t. t && some_that test (get nat_cmp it.leases x.0)) (within_names x.1) ∙ ap (λ o. names x.1 e && some_that test o) (entry_at it.leases h.kept.ordered x.0 x.1 i))
        ∙ count-values passes_of it.leases.entries

    -- where no number there has a lease that passes, the endpoint has none
    pub none_pass : None ≡ option_map (λ (x : PeerKey × ℕ). x.1) (find passes_at part) → count_by passes_of (values it.leases) ≡ 0
    none_pass none = sym counted ∙ none_counted passes_at part (none_found (find passes_at part) none)

    -- the first number there has one
    pub record First (n : ℕ) : Type 0 where
      pub lease : PeerLease
      pub stands : get nat_cmp it.leases n ≡ Some lease
      pub named : names lease e ≡ true
      pub passes : test lease ≡ true

    first_is : (n : ℕ) (found : Option (PeerKey × ℕ)) → find passes_at part ≡ found → Some n ≡ option_map (λ (x : PeerKey × ℕ). x.1) found → First n
    first_is n None is has = absurd (let no : Some n ≡ None = has in cc)
    first_is n (Some x) is has =
        let same : n ≡ x.1 = (let both : Some n ≡ Some x.1 = has in cc) in
        let i = find-some passes_at part x is in
        let j = IsIn-filter (λ (y : PeerKey × ℕ). within y.0) it.keys.entries x i.0 in
        let y = key-from peer_keying peer_laws it h.kept x.0 x.1 (entry-at key_total key_exact it.keys h.kept.keys_ordered x.0 x.1 j.0) in
        record {
          lease = y.0;
          stands = ap (get nat_cmp it.leases) same ∙ y.1;
          named = sym (within_names y.0) ∙ ap within y.2 ∙ j.1;
          passes = ap (some_that test) (sym y.1) ∙ i.1;
        }

    pub first_stands : (n : ℕ) → Some n ≡ option_map (λ (x : PeerKey × ℕ). x.1) (find passes_at part) → First n
    first_stands n has = first_is n (find passes_at part) refl has

    -- whether one passes, by the first number
    pub any_passes : (found : Option ℕ) → found ≡ option_map (λ (x : PeerKey × ℕ). x.1) (find passes_at part) → is_some found ≡ list_any passes_of (values it.leases)
    any_passes None is = sym (false_by (list_any passes_of (values it.leases)) (λ t.
        let r = any-some passes_of (values it.leases) t in
        let some = count-some passes_of (values it.leases) r.0 r.1 r.2 in
        let none = none_pass is in
        absurd (omega (arith, some, none))))
    any_passes (Some n) is =
        let f = first_stands n is in
        sym (any_at passes_of it.leases.entries n f.lease f.stands (and_from _ _ f.named f.passes))

  module _ (m : ℕ) where
    pub used : (n : ℕ) (l : PeerLease) (external count : ℕ) → Some n ≡ option_map (λ (x : PeerKey × ℕ). x.1) (find (passes_at (is_live_peer m)) part) → get nat_cmp it.leases n ≡ Some l → external ≡ l.external →
        count ≡ count_by (passes_at (is_live_peer m)) part → IsPortUse e m (values it.leases) (Some (record { external = external; count = count }))
    used n l external count has at_n port is =
        let f = first_stands (is_live_peer m) n has in
        let same : f.lease ≡ l = (let both : Some f.lease ≡ Some l = sym f.stands ∙ at_n in cc) in
        record {
          external = any_at (λ x. is_live_of e m x && x.external == external) it.leases.entries n l at_n
              (and_from _ _ (ap (is_live_of e m) (sym same) ∙ and_from _ _ f.named f.passes) ((Decides-eqb l.external external).1 (sym port)));
          count = is ∙ counted (is_live_peer m);
          none = tt;
        }

    pub ended_first : (n : ℕ) → Some n ≡ option_map (λ (x : PeerKey × ℕ). x.1) (find (passes_at (is_ended_peer m)) part) → IsEndedOf e m (values it.leases) (get nat_cmp it.leases n)
    ended_first n has =
        let f = first_stands (is_ended_peer m) n has in
        subst (IsEndedOf e m (values it.leases)) (sym f.stands) (record {
          among = one-among it.leases n f.lease f.stands;
          names = f.named;
          dead = is_false (is_live_peer m f.lease) f.passes;
          none = tt;
        })

    pub ended_none : None ≡ option_map (λ (x : PeerKey × ℕ). x.1) (find (passes_at (is_ended_peer m)) part) → IsEndedOf e m (values it.leases) None
    ended_none none = record { among = tt; names = tt; dead = tt; none = none_pass (is_ended_peer m) none }
