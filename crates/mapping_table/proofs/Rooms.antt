-- The filters that are kept apart from their leases.
use Rattle.std.proofs.Common.{◌≡◌, ◌<◌, Bool, true, false, cond, not, List, [], ◌∷◌, length, find, filter, Contains, Option, Some, None, IsSome, refl, sym, ap, ◌∙◌, subst, inl, inr, arith}
use Rattle.std.specs.Map.{lookup}
use Rattle.std.specs.BTreeMap.{BTreeMap, get, is_at}
use Rattle.pcp_base.specs.declared.leases.Endpoint.{Endpoint}
use Rattle.pcp_base.specs.declared.leases.Filter.{Filter}
use Rattle.pcp_base.specs.declared.leases.MapLease.{MapLease}
use Rattle.pcp_base.specs.Tables.{first_endpoint, is_map_of, put}
use Rattle.pcp_base.proofs.Members.{IsIn, IsIn-from_Contains, Contains-from_IsIn, filter-IsIn, All-IsIn, find-none}
use Rattle.ordered_index.specs.Orders.{Place, place_of, place_cmp, place_total}
use Rattle.ordered_index.proofs.Entries.{false_by}
use Rattle.ordered_index.proofs.EntryLaws.{key-self}
use Rattle.ordered_index.proofs.OrderLaws.{at_exact, place_exact}
use Rattle.mapping_table.specs.Kept.{place_of_lease, bare, listed, filters_at, kept_filters, with_room, HasSameFilters, MakesRoom, HasRoomAt, WritesFilters, AreOwnFilters}
use Rattle.mapping_table.specs.MapLists.{with_map}
use Rattle.mapping_table.proofs.MapKeeping.{map_tells}

pub some_kept : (fs : List Filter) → 0 < length fs → kept_filters fs ≡ Some fs
some_kept [] some = absurd (omega (arith, some))
some_kept (f ∷ fs) some = refl

listed_kept : (fs : List Filter) → listed (kept_filters fs) ≡ fs
listed_kept [] = refl
listed_kept (f ∷ fs) = refl

listed_room : (w : List Filter) (o : Option (List Filter)) → listed (with_room w o) ≡ listed o
listed_room [] o = refl
listed_room (f ∷ fs) None = refl
listed_room (f ∷ fs) (Some kept) = refl

some_room : (w : List Filter) (o : Option (List Filter)) → 0 < length w → IsSome (with_room w o)
some_room [] o some = absurd (omega (arith, some))
some_room (f ∷ fs) None some = refl
some_room (f ∷ fs) (Some kept) some = refl

none_room : (w : List Filter) → 0 < length w → with_room w None ≡ Some []
none_room [] some = absurd (omega (arith, some))
none_room (f ∷ fs) some = refl

pub none_wanted : (w : List Filter) (o : Option (List Filter)) → length w ≡ 0 → with_room w o ≡ o
none_wanted [] o none = refl
none_wanted (f ∷ fs) o some = absurd (omega (arith, some))

pub there_room : (w kept : List Filter) → with_room w (Some kept) ≡ Some kept
there_room [] kept = refl
there_room (f ∷ fs) kept = refl

module _ (old : BTreeMap Place (List Filter)) (k : Place) where
  -- what stands at the place, or at another
  same_step : (o : Option (List Filter)) → get place_cmp old k ≡ o → (q : Place) (b : Bool) → is_at (place_cmp k) q ≡ b → get place_cmp old q ≡ cond b o (get place_cmp old q)
  same_step o is q true at = ap (get place_cmp old) (sym (at_exact place_exact k q at)) ∙ is
  same_step o is q false at = refl

  room_step : (w : List Filter) → with_room w (get place_cmp old k) ≡ get place_cmp old k → (q : Place) (b : Bool) → is_at (place_cmp k) q ≡ b → get place_cmp old q ≡ cond b (with_room w (get place_cmp old q)) (get place_cmp old q)
  room_step w is q true at = subst (λ (p : Place). get place_cmp old p ≡ with_room w (get place_cmp old p)) (at_exact place_exact k q at) (sym is)
  room_step w is q false at = refl

  -- where there is room, or none is wanted
  pub room_there : (w : List Filter) → with_room w (get place_cmp old k) ≡ get place_cmp old k → MakesRoom old k w old
  room_there w is q = room_step w is q (is_at (place_cmp k) q) refl

  -- an entry more
  made_step : (w : List Filter) → 0 < length w → get place_cmp old k ≡ None → (q : Place) (b : Bool) → is_at (place_cmp k) q ≡ b → cond b (Some []) (get place_cmp old q) ≡ cond b (with_room w (get place_cmp old q)) (get place_cmp old q)
  made_step w some none q true at = sym (ap (λ (p : Place). with_room w (get place_cmp old p)) (sym (at_exact place_exact k q at)) ∙ ap (with_room w) none ∙ none_room w some)
  made_step w some none q false at = refl

  pub room_made : (w : List Filter) → 0 < length w → get place_cmp old k ≡ None → (new : BTreeMap Place (List Filter)) → ((q : Place) → get place_cmp new q ≡ cond (is_at (place_cmp k) q) (Some []) (get place_cmp old q)) → MakesRoom old k w new
  room_made w some none new is q = is q ∙ made_step w some none q (is_at (place_cmp k) q) refl

  -- nothing is written where that stands there
  pub writes_same : (fs : List Filter) → get place_cmp old k ≡ kept_filters fs → WritesFilters old k fs old
  writes_same fs is q = same_step (kept_filters fs) is q (is_at (place_cmp k) q) refl

  module _ (w : List Filter) (mid : BTreeMap Place (List Filter)) (makes : MakesRoom old k w mid) where
    room_at : get place_cmp mid k ≡ with_room w (get place_cmp old k)
    room_at = makes k ∙ ap (λ b. cond b (with_room w (get place_cmp old k)) (get place_cmp old k)) (key-self place_total k)

    pub has_room : HasRoomAt mid k w
    has_room some = subst IsSome (sym room_at) (some_room w (get place_cmp old k) some)

    write_step : (b : Bool) (x y o m n : Option (List Filter)) → n ≡ cond b x m → m ≡ cond b y o → n ≡ cond b x o
    write_step true x y o m n a c = a
    write_step false x y o m n a c = a ∙ c

    -- room is made, and then written to
    pub room_written : (fs : List Filter) (new : BTreeMap Place (List Filter)) → WritesFilters mid k fs new → WritesFilters old k fs new
    room_written fs new writes q = write_step (is_at (place_cmp k) q) _ _ _ _ _ (writes q) (makes q)

    left_step : (new : BTreeMap Place (List Filter)) → WritesFilters old k (filters_at mid k) new → get place_cmp old k ≡ kept_filters (filters_at old k) → (q : Place) (b : Bool) → is_at (place_cmp k) q ≡ b →
        cond b (kept_filters (filters_at mid k)) (get place_cmp old q) ≡ get place_cmp old q
    left_step new writes some q true at =
        ap kept_filters (ap listed room_at ∙ listed_room w (get place_cmp old k)) ∙ sym some ∙ ap (get place_cmp old) (at_exact place_exact k q at)
    left_step new writes some q false at = refl

    -- room is made, and then left
    pub room_left : (new : BTreeMap Place (List Filter)) → WritesFilters mid k (filters_at mid k) new → get place_cmp old k ≡ kept_filters (filters_at old k) → HasSameFilters old new
    room_left new leaves some q =
        let writes = room_written (filters_at mid k) new leaves in
        writes q ∙ left_step new writes some q (is_at (place_cmp k) q) refl

-- what is put is there, and so are the others
put_has : (test : MapLease → Bool) (y : MapLease) (xs : List MapLease) → IsIn y (put test y xs)
put_has test y [] = inl refl
put_has test y (x ∷ xs) = elim (test x) as (λ b. IsIn y (cond b (y ∷ xs) (x ∷ put test y xs))) [ true ↦ inl refl | false ↦ inr (put_has test y xs) ]

stays_step : (test : MapLease → Bool) (y z x : MapLease) (xs : List MapLease) (b : Bool) → test z ≡ b → IsIn x (z ∷ xs) → test x ≡ false → (IsIn x xs → IsIn x (put test y xs)) → IsIn x (cond b (y ∷ xs) (z ∷ put test y xs))
stays_step test y z x xs true t (inl same) other rest = absurd (let no : true ≡ false = sym t ∙ ap test same ∙ other in cc)
stays_step test y z x xs true t (inr later) other rest = inr later
stays_step test y z x xs false t (inl same) other rest = inl same
stays_step test y z x xs false t (inr later) other rest = inr (rest later)

put_stays : (test : MapLease → Bool) (y : MapLease) (xs : List MapLease) (x : MapLease) → IsIn x xs → test x ≡ false → IsIn x (put test y xs)
put_stays test y [] x i other = absurd i
put_stays test y (z ∷ xs) x i other = stays_step test y z x xs (test z) refl i other (λ later. put_stays test y xs x later other)

-- the filters at each place
told_step : (b : Bool) (fs : List Filter) (o : Option (List Filter)) → listed (cond b (kept_filters fs) o) ≡ cond b fs (listed o)
told_step true fs o = listed_kept fs
told_step false fs o = refl

pub told_written : (k : Place) (fs : List Filter) (old new : BTreeMap Place (List Filter)) → WritesFilters old k fs new → (q : Place) → filters_at new q ≡ cond (is_at (place_cmp k) q) fs (filters_at old q)
told_written k fs old new writes q = ap listed (writes q) ∙ told_step (is_at (place_cmp k) q) fs (get place_cmp old q)

some_step : (b : Bool) (fs : List Filter) (o : Option (List Filter)) → o ≡ kept_filters (listed o) → (n : Option (List Filter)) → n ≡ cond b (kept_filters fs) o → n ≡ kept_filters (listed n)
some_step true fs o is n h = h ∙ sym (ap kept_filters (ap listed h ∙ listed_kept fs))
some_step false fs o is n h = h ∙ is ∙ ap (λ z. kept_filters (listed z)) (sym h)

module _ (old : BTreeMap Place (List Filter)) (ls : List MapLease) (own : AreOwnFilters old ls) where
  -- where the same filters are kept
  pub own_same : (new : BTreeMap Place (List Filter)) → HasSameFilters old new → AreOwnFilters new ls
  own_same new same = record {
    owned = λ k none. same k ∙ own.owned k none;
    some = λ k. same k ∙ own.some k ∙ ap (λ o. kept_filters (listed o)) (sym (same k));
  }

  module _ (k : Place) (fs : List Filter) (new : BTreeMap Place (List Filter)) (writes : WritesFilters old k fs new) (ls' : List MapLease)
      (at : ((l : MapLease) → Contains ls' l → place_of_lease l ≡ k → ⊥) → kept_filters fs ≡ None)
      (stays : (l : MapLease) → Contains ls l → (place_of_lease l ≡ k → ⊥) → Contains ls' l) where
    owned_step : (q : Place) → ((l : MapLease) → Contains ls' l → place_of_lease l ≡ q → ⊥) → (b : Bool) → is_at (place_cmp k) q ≡ b → cond b (kept_filters fs) (get place_cmp old q) ≡ None
    owned_step q none true here = at (subst (λ (p : Place). (l : MapLease) → Contains ls' l → place_of_lease l ≡ p → ⊥) (sym (at_exact place_exact k q here)) none)
    owned_step q none false here = own.owned q (λ l i p. none l (stays l i (λ is.
        let self : is_at (place_cmp k) q ≡ true = ap (is_at (place_cmp k)) (sym p ∙ is) ∙ key-self place_total k in
        let no : true ≡ false = sym self ∙ here in cc)) p)

    -- where the leases at other places stay
    own_written : AreOwnFilters new ls'
    own_written = record {
      owned = λ q none. writes q ∙ owned_step q none (is_at (place_cmp k) q) refl;
      some = λ q. some_step (is_at (place_cmp k) q) fs (get place_cmp old q) (own.some q) (get place_cmp new q) (writes q);
    }

  -- a lease is put
  pub own_put : (l : MapLease) (k : Place) → k ≡ place_of_lease l → (new : BTreeMap Place (List Filter)) → WritesFilters old k l.filters new → AreOwnFilters new (with_map (bare l) ls)
  own_put l k k_is new writes = own_written k l.filters new writes (with_map (bare l) ls)
      (λ none. absurd (none (bare l) (Contains-from_IsIn (with_map (bare l) ls) (bare l) (put_has (is_map_of (first_endpoint l)) (bare l) ls)) (sym k_is)))
      (λ x i other. Contains-from_IsIn (with_map (bare l) ls) x (put_stays (is_map_of (first_endpoint l)) (bare l) ls x (IsIn-from_Contains ls x i)
      (false_by (is_map_of (first_endpoint l) x) (λ t. other ((map_tells (first_endpoint l)).to x t ∙ sym k_is)))))

  -- a lease is taken out
  pub own_removed : (e : Endpoint) (k : Place) → k ≡ place_of e → (new : BTreeMap Place (List Filter)) → WritesFilters old k [] new → AreOwnFilters new (filter (λ l. not (is_map_of e l)) ls)
  own_removed e k k_is new writes = own_written k [] new writes (filter (λ l. not (is_map_of e l)) ls)
      (λ none. refl)
      (λ x i other. Contains-from_IsIn (filter (λ l. not (is_map_of e l)) ls) x (filter-IsIn (λ l. not (is_map_of e l)) ls x (IsIn-from_Contains ls x i)
      (ap not (false_by (is_map_of e x) (λ t. other ((map_tells e).to x t ∙ sym k_is))))))

  -- no lease has the key
  pub own_none : (e : Endpoint) → find (is_map_of e) ls ≡ None → AreOwnFilters old (filter (λ l. not (is_map_of e l)) ls)
  own_none e none = record {
    owned = λ q alone. own.owned q (λ x i at. alone x (Contains-from_IsIn (filter (λ l. not (is_map_of e l)) ls) x (filter-IsIn (λ l. not (is_map_of e l)) ls x (IsIn-from_Contains ls x i)
        (ap not (All-IsIn (λ y. is_map_of e y ≡ false) ls x (find-none (is_map_of e) ls none) (IsIn-from_Contains ls x i))))) at);
    some = own.some;
  }

-- no entry
pub own_blank : (kept : BTreeMap Place (List Filter)) (ls : List MapLease) → kept.entries ≡ [] → AreOwnFilters kept ls
own_blank kept ls blank = record {
  owned = λ k alone. none k;
  some = λ k. none k ∙ ap (λ o. kept_filters (listed o)) (sym (none k));
}
  where
    none : (k : Place) → get place_cmp kept k ≡ None
    none k = ap (λ (es : List (Place × List Filter)). lookup (is_at (place_cmp k)) es) blank
