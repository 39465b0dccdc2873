-- The options of a request that is written: what they say, and that each passes.
use Rattle.std.specs.Int.{to_be_bytes, from_be_bytes, w16}
use Rattle.std.specs.Prelude.{option_map}
use Rattle.std.specs.Option.{option_to_list}
use Rattle.std.specs.List.{AllByRecursion, list_any}
use Rattle.std.proofs.Common.{◌≡◌, ℕ, ◌^◌, ◌<◌, ◌==◌, ◌||◌, nat_lt, not, Bool, true, false, cond, List, [], ◌∷◌, ◌++◌, length, map, Option, Some, None, refl, ap, ◌∙◌}
use Rattle.std.proofs.lemmas.Bool.{or_from, or_parts}
use Rattle.std.proofs.lemmas.Nat.{from_be_bytes-to_be_bytes_2}
use Rattle.pcp_base.specs.declared.addresses.Address.{Address}
use Rattle.pcp_base.specs.declared.leases.Filter as Filters
use Rattle.pcp_base.specs.declared.asks.PortSet as Sets
use Rattle.pcp_base.specs.declared.asks.Refusal.{Refusal}
use Rattle.pcp_base.specs.declared.codes.Code.TheVariants.{MalformedOption}
use Rattle.pcp_base.specs.Cases.{first_case}
use Rattle.pcp_base.specs.Refusals.{unparsed}
use Rattle.pcp_codec.specs.declared.requests.Common.{Common}
use Rattle.pcp_codec.specs.declared.requests.Body.{Body}
use Rattle.pcp_codec.specs.declared.requests.Body.TheVariants.{Map, Peer}
use Rattle.pcp_codec.proofs.FramingLemmas.{first_case-None}
use Rattle.pcp_options.specs.declared.options.Item.{Item}
use Rattle.pcp_options.specs.declared.options.Item.TheVariants.{ThirdParty, PreferFailure, Filter, PortSet}
use Rattle.pcp_options.specs.declared.options.Seen.{Seen}
use Rattle.pcp_options.specs.Options.{FoundOption, found_whole, option_of}
use Rattle.pcp_options.specs.Asking.{filters_of, prefers, seen_of, set_of, third_of}
use Rattle.pcp_options.specs.Requests.{asked_preference, asked_third}
use Rattle.pcp_options.specs.Steps.{is_again, option_steps, options_steps, steps_after}

-- the filters and the set
abbrev pub tail_of : List Filters.Filter → Option Sets.PortSet → List Item
tail_of fs set = map Filter fs ++ option_to_list (option_map PortSet set)

-- the options of a MAP request
abbrev pub map_items : Option Address → Bool → List Filters.Filter → Option Sets.PortSet → List Item
map_items third prefer fs set =
    asked_third third ++ asked_preference prefer ++ map Filter fs ++ option_to_list (option_map PortSet set)

tail-third : (fs : List Filters.Filter) (set : Option Sets.PortSet) → third_of (tail_of fs set) ≡ None
tail-third [] None = refl
tail-third [] (Some s) = refl
tail-third (f ∷ fs) set = tail-third fs set

tail-prefers : (fs : List Filters.Filter) (set : Option Sets.PortSet) → prefers (tail_of fs set) ≡ false
tail-prefers [] None = refl
tail-prefers [] (Some s) = refl
tail-prefers (f ∷ fs) set = tail-prefers fs set

tail-set : (fs : List Filters.Filter) (set : Option Sets.PortSet) → set_of (tail_of fs set) ≡ set
tail-set [] None = refl
tail-set [] (Some s) = refl
tail-set (f ∷ fs) set = tail-set fs set

tail-filters : (fs : List Filters.Filter) (set : Option Sets.PortSet) → filters_of (tail_of fs set) ≡ fs
tail-filters [] None = refl
tail-filters [] (Some s) = refl
tail-filters (f ∷ fs) set = ap (λ gs. f ∷ gs) (tail-filters fs set)

abbrev seen_as : Option Address → Bool → Option Sets.PortSet → Seen
seen_as third prefer set = record { third = third; prefers = prefer; set = set }

seen-same : (t u : Option Address) (p q : Bool) (s r : Option Sets.PortSet) → t ≡ u → p ≡ q → s ≡ r → seen_as t p s ≡ seen_as u q r
seen-same t u p q s r x y z = rw (x, y, z) refl

-- what the options of a MAP request say
pub map-seen : (third : Option Address) (prefer : Bool) (fs : List Filters.Filter) (set : Option Sets.PortSet) → seen_of (map_items third prefer fs set) ≡ seen_as third prefer set
map-seen None false fs set = seen-same _ None _ false _ set (tail-third fs set) (tail-prefers fs set) (tail-set fs set)
map-seen None true fs set = seen-same _ None true true _ set (tail-third fs set) refl (tail-set fs set)
map-seen (Some a) false fs set = seen-same (Some a) (Some a) _ false _ set refl (tail-prefers fs set) (tail-set fs set)
map-seen (Some a) true fs set = seen-same (Some a) (Some a) true true _ set refl refl (tail-set fs set)

pub map-filters : (third : Option Address) (prefer : Bool) (fs : List Filters.Filter) (set : Option Sets.PortSet) → filters_of (map_items third prefer fs set) ≡ fs
map-filters None false fs set = tail-filters fs set
map-filters None true fs set = tail-filters fs set
map-filters (Some a) false fs set = tail-filters fs set
map-filters (Some a) true fs set = tail-filters fs set

-- one option that passes, and then the others
pub steps-more : (lifetime : ℕ) (body : Body) (before : List FoundOption) (o : FoundOption) (os : List FoundOption) → first_case (option_steps lifetime body (is_again before o.code) o) ≡ None → first_case (steps_after lifetime body (before ++ o ∷ []) os) ≡ None → first_case (steps_after lifetime body before (o ∷ os)) ≡ None
steps-more lifetime body before o os h k = first_case-None (option_steps lifetime body (is_again before o.code) o) (steps_after lifetime body (before ++ o ∷ []) os) h ∙ k

pub third-passes : (lifetime : ℕ) (c : Common) (a : Address) → length a.0 ≡ 16 → first_case (option_steps lifetime (Map c) false (found_whole (option_of (ThirdParty a)))) ≡ None
third-passes lifetime c a e = rw e refl

pub peer-third-passes : (lifetime : ℕ) (c : Common) (port : ℕ) (remote a : Address) → length a.0 ≡ 16 → first_case (option_steps lifetime (Peer c port remote) false (found_whole (option_of (ThirdParty a)))) ≡ None
peer-third-passes lifetime c port remote a e = rw e refl

prefer-passes : (lifetime : ℕ) (c : Common) → first_case (option_steps lifetime (Map c) false (found_whole (option_of PreferFailure))) ≡ None
prefer-passes lifetime c = refl

-- what a filter must be
pub record CanStand (lifetime : ℕ) (f : Filters.Filter) : Type 0 where
  pub lives : (lifetime == 0) ≡ false
  pub short : nat_lt 128 f.prefix ≡ false
  pub sixteen : length f.remote.0 ≡ 16

filter-passes : (lifetime : ℕ) (c : Common) (f : Filters.Filter) → CanStand lifetime f → first_case (option_steps lifetime (Map c) false (found_whole (option_of (Filter f)))) ≡ None
filter-passes lifetime c f h =
    let a = h.lives in
    let b = h.short in
    let e = h.sixteen in
    rw (e, a, b) refl

two-none : (a b : Bool) (r : Refusal) → a ≡ false → b ≡ false → cond a (Some r) (cond b (Some r) None) ≡ None
two-none a b r h k = rw (h, k) refl

-- what a port set must be
pub record CanBeSet (c : Common) (s : Sets.PortSet) : Type 0 where
  pub some : (s.size == 0) ≡ false
  pub same : (s.first == c.internal) ≡ true
  pub fits : (s.size < 2 ^ 16) × (s.first < 2 ^ 16)

wrong-by : (n m size first internal : ℕ) → n ≡ size → m ≡ first → (size == 0) ≡ false → (first == internal) ≡ true → (n == 0 || not (m == internal)) ≡ false
wrong-by n m size first internal a b x y = rw (a, b, x, y) refl

set-passes : (lifetime : ℕ) (c : Common) (s : Sets.PortSet) (again : Bool) → again ≡ false → CanBeSet c s → first_case (option_steps lifetime (Map c) again (found_whole (option_of (PortSet s)))) ≡ None
set-passes lifetime c s again h k =
    two-none again (from_be_bytes w16 (to_be_bytes w16 s.size) == 0 || not (from_be_bytes w16 (to_be_bytes w16 s.first) == c.internal)) (unparsed MalformedOption) h
    (wrong-by (from_be_bytes w16 (to_be_bytes w16 s.size)) (from_be_bytes w16 (to_be_bytes w16 s.first)) s.size s.first c.internal (from_be_bytes-to_be_bytes_2 s.size k.fits.0) (from_be_bytes-to_be_bytes_2 s.first k.fits.1) k.some k.same)

-- no set before
abbrev NoSet : List FoundOption → Type 0
NoSet before = list_any (λ o. o.code == 130) before ≡ false

any-push : (before : List FoundOption) (o : FoundOption) → NoSet before → (o.code == 130) ≡ false → NoSet (before ++ o ∷ [])
any-push [] o h k = or_from (o.code == 130) false k refl
any-push (x ∷ before) o h k =
    let parts = or_parts (x.code == 130) (list_any (λ o. o.code == 130) before) h in
    or_from (x.code == 130) (list_any (λ o. o.code == 130) (before ++ o ∷ [])) parts.0 (any-push before o parts.1 k)

abbrev pub SetFits : Common → Option Sets.PortSet → Type 0
SetFits c None = Unit {0}
SetFits c (Some s) = CanBeSet c s

tail-passes : (lifetime : ℕ) (c : Common) (before : List FoundOption) (fs : List Filters.Filter) (set : Option Sets.PortSet) → NoSet before → AllByRecursion (CanStand lifetime) fs → SetFits c set → first_case (steps_after lifetime (Map c) before (map found_whole (map option_of (tail_of fs set)))) ≡ None
tail-passes lifetime c before [] None none stand fits = refl
tail-passes lifetime c before [] (Some s) none stand fits =
    steps-more lifetime (Map c) before (found_whole (option_of (PortSet s))) [] (set-passes lifetime c s (list_any (λ o. o.code == 130) before) none fits) refl
tail-passes lifetime c before (f ∷ fs) set none (first, more) fits =
    steps-more lifetime (Map c) before (found_whole (option_of (Filter f))) (map found_whole (map option_of (tail_of fs set))) (filter-passes lifetime c f first)
    (tail-passes lifetime c (before ++ found_whole (option_of (Filter f)) ∷ []) fs set (any-push before (found_whole (option_of (Filter f))) none refl) more fits)

abbrev pub ThirdFits : Option Address → Type 0
ThirdFits None = Unit {0}
ThirdFits (Some a) = length a.0 ≡ 16

-- the options of a MAP request pass
pub map-passes : (lifetime : ℕ) (c : Common) (third : Option Address) (prefer : Bool) (fs : List Filters.Filter) (set : Option Sets.PortSet) → ThirdFits third → AllByRecursion (CanStand lifetime) fs → SetFits c set → first_case (options_steps lifetime (Map c) (map found_whole (map option_of (map_items third prefer fs set)))) ≡ None
map-passes lifetime c None false fs set e stand fits = tail-passes lifetime c [] fs set refl stand fits
map-passes lifetime c None true fs set e stand fits =
    let p = found_whole (option_of PreferFailure) in
    steps-more lifetime (Map c) [] p (map found_whole (map option_of (tail_of fs set))) refl (tail-passes lifetime c (p ∷ []) fs set refl stand fits)
map-passes lifetime c (Some a) false fs set e stand fits =
    let t = found_whole (option_of (ThirdParty a)) in
    steps-more lifetime (Map c) [] t (map found_whole (map option_of (tail_of fs set))) (third-passes lifetime c a e) (tail-passes lifetime c (t ∷ []) fs set refl stand fits)
map-passes lifetime c (Some a) true fs set e stand fits =
    let t = found_whole (option_of (ThirdParty a)) in
    let p = found_whole (option_of PreferFailure) in
    let rest = map found_whole (map option_of (tail_of fs set)) in
    steps-more lifetime (Map c) [] t (p ∷ rest) (third-passes lifetime c a e)
    (steps-more lifetime (Map c) (t ∷ []) p rest refl (tail-passes lifetime c (t ∷ p ∷ []) fs set refl stand fits))
