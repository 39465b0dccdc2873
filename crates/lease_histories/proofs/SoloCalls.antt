-- The calls of a house on one thread make a history of it.
use Rattle.std.specs.Prelude.{Contains, filter_map, fold, max, slice_set}
use Rattle.std.specs.List.{AllByRecursion, cons_option, slice_get}
use Rattle.std.specs.Option.{option_map}
use Rattle.std.proofs.Common.{◌≡◌, ◌∙◌, ℕ, zero, suc, ◌<◌, ◌≤◌, ◌^◌, ◌==◌, ◌&&◌, Bool, true, false, cond, List, [], ◌∷◌, ◌++◌, ◌⊎◌, length, map, filter, Option, Some, None, refl, ap, sym, subst, inl, inr, arith, append_assoc}
use Rattle.std.proofs.lemmas.List.{append-nil, map-append}
use Rattle.std.proofs.lemmas.List.Elements.{filter-append, filter_map-append}
use Rattle.std.proofs.lemmas.List.Sums.{fold-append}
use Rattle.std.proofs.lemmas.Bool.{eq-eqb, eqb-true}
use Rattle.pcp_base.specs.declared.configs.Config.{Config}
use Rattle.pcp_base.specs.declared.configs.External.{External}
use Rattle.pcp_base.specs.declared.datagrams.Datagram.{Datagram}
use Rattle.pcp_base.specs.declared.datagrams.Entry.{Entry}
use Rattle.pcp_base.specs.declared.records.Change.TheVariants.{Lose}
use Rattle.pcp_base.specs.Reached.{IsReached}
use Rattle.pcp_base.specs.States.{State}
use Rattle.pcp_base.proofs.Members.{IsIn, All-push, All-weaker, Contains-from_IsIn, IsIn-from_Contains, IsIn-left}
use Rattle.pcp_options.specs.Responses.{AreOctets}
use Rattle.lease_histories.specs.DatagramAsks.{DatagramAsksAreWellFormed}
use Rattle.lease_core.specs.Laws.{DecisionsChangeLeases, DecisionsFit}
use Rattle.lease_store.specs.LeaseTerms.{terms_of}
use Rattle.lease_histories.specs.Routes.{route_of}
use Rattle.lease_histories.specs.Entries.{Served, OfRequest, Request, begins_anew, entry_kind, kind_without_octets, request_entry, request_of}
use Rattle.lease_histories.specs.Legal.{IsLegal, IsNextEntry, IsOpening, base_after, moment_after, state_after}
use Rattle.lease_histories.specs.HouseHistories.{HouseEntry, IsSoloHistory, bases_of, begun_at, entries_at, greatest}
use Rattle.lease_histories.specs.PlainHouses.{HouseCall, Loss, Packet, PlainHouse, PlainShard, add_by, call_after, call_entry, call_place, entries_along, entry_by, greatest_base, house_begun, loss_of, placed, raised, shard_after, shards_begun, with_kept}
use Rattle.lease_histories.specs.Laws.{AreOpenings, CallsMakeHistories, IsCallValue}
use Rattle.lease_histories.proofs.Growing.{base-more, last-greatest, moment-more, next-legal, nothing-legal, state-more, where-stands}
use Rattle.lease_histories.proofs.EntryKinds.{well-after}
use Rattle.lease_histories.proofs.NextEntries.{decisions-next, heard, kept-base, moment-in-range, servers-next}

-- ---- the greatest of a list

greatest-from : (a : ℕ) (xs : List ℕ) → fold max a xs ≡ max a (fold max 0 xs)
greatest-from a [] = omega arith
greatest-from a (x ∷ xs) =
    let p = greatest-from (max a x) xs in
    let q = greatest-from (max 0 x) xs in
    let e : max 0 x ≡ x = omega arith in
    omega (arith, p, q, e)

greatest-more : (xs ys : List ℕ) → greatest (xs ++ ys) ≡ max (greatest xs) (greatest ys)
greatest-more xs ys = fold-append max 0 xs ys ∙ greatest-from (fold max 0 xs) ys

greatest-in : (x : ℕ) (xs : List ℕ) → IsIn (greatest (x ∷ xs)) (x ∷ xs)
greatest-in x [] = inl (omega arith)
greatest-in x (y ∷ ys) =
    let rest = greatest-in y ys in
    let whole : greatest (x ∷ y ∷ ys) ≡ max x (greatest (y ∷ ys)) = (let p = greatest-from (max (max 0 x) y) ys in let q = greatest-from (max 0 y) ys in omega (arith, p, q)) in
    go (max-either x (greatest (y ∷ ys))) whole rest
  where
    max-either : (a b : ℕ) → (max a b ≡ a) ⊎ (max a b ≡ b)
    max-either a b = grind arith

    go : (max x (greatest (y ∷ ys)) ≡ x) ⊎ (max x (greatest (y ∷ ys)) ≡ greatest (y ∷ ys)) → greatest (x ∷ y ∷ ys) ≡ max x (greatest (y ∷ ys)) →
        IsIn (greatest (y ∷ ys)) (y ∷ ys) → IsIn (greatest (x ∷ y ∷ ys)) (x ∷ y ∷ ys)
    go (inl e) whole rest = inl (sym (whole ∙ e))
    go (inr e) whole rest = inr (subst (λ n. IsIn n (y ∷ ys)) (sym (whole ∙ e)) rest)

-- one item is changed to a greater one
greatest-set : {X : Type 0} (f : X → ℕ) (xs : List X) (i : ℕ) (x y : X) → slice_get xs i ≡ Some x → f x ≤ f y →
    greatest (map f (slice_set xs i y)) ≡ max (greatest (map f xs)) (f y)
greatest-set f [] i x y h le = absurd cc
greatest-set f (z ∷ zs) zero x y h le =
    let same : z ≡ x = cc in
    let at : f z ≡ f x = ap f same in
    let p = greatest-from (max 0 (f y)) (map f zs) in
    let q = greatest-from (max 0 (f z)) (map f zs) in
    omega (arith, p, q, at, le)
greatest-set f (z ∷ zs) (suc i) x y h le =
    let r = greatest-set f zs i x y h le in
    let p = greatest-from (max 0 (f z)) (map f (slice_set zs i y)) in
    let q = greatest-from (max 0 (f z)) (map f zs) in
    omega (arith, p, q, r)

greatest-has : {X : Type 0} (f : X → ℕ) (xs : List X) (i : ℕ) (x : X) → slice_get xs i ≡ Some x → f x ≤ greatest (map f xs)
greatest-has f [] i x h = absurd cc
greatest-has f (z ∷ zs) zero x h =
    let same : z ≡ x = cc in
    let at : f z ≡ f x = ap f same in
    let q = greatest-from (max 0 (f z)) (map f zs) in
    omega (arith, q, at)
greatest-has f (z ∷ zs) (suc i) x h =
    let r = greatest-has f zs i x h in
    let q = greatest-from (max 0 (f z)) (map f zs) in
    omega (arith, q, r)

-- ---- lists by their places

get-set : {X : Type 0} (xs : List X) (i j : ℕ) (x y z : X) → slice_get xs i ≡ Some x → slice_get (slice_set xs i y) j ≡ Some z →
    ((j ≡ i) × (y ≡ z)) ⊎ ((¬ (j ≡ i)) × (slice_get xs j ≡ Some z))
get-set [] i j x y z h k = absurd cc
get-set (w ∷ ws) zero zero x y z h k = inl (refl, cc)
get-set (w ∷ ws) zero (suc j) x y z h k = inr (λ e. omega (arith, e), k)
get-set (w ∷ ws) (suc i) zero x y z h k = inr (λ e. omega (arith, e), k)
get-set (w ∷ ws) (suc i) (suc j) x y z h k = elim (get-set ws i j x y z h k) [
  | inl p ↦ inl (ap (λ n. suc n) p.0, p.1)
  | inr p ↦ inr (λ e. p.0 (omega (arith, e)), p.1)
]

length-set : {X : Type 0} (xs : List X) (i : ℕ) (y : X) → length (slice_set xs i y) ≡ length xs
length-set [] i y = refl
length-set (x ∷ xs) zero y = refl
length-set (x ∷ xs) (suc i) y = ap (λ n. suc n) (length-set xs i y)

get-within : {X : Type 0} (xs : List X) (i : ℕ) (x : X) → slice_get xs i ≡ Some x → i < length xs
get-within [] i x h = absurd cc
get-within (y ∷ xs) zero x h = omega arith
get-within (y ∷ xs) (suc i) x h = let k = get-within xs i x h in omega (arith, k)

within-get : {X : Type 0} (xs : List X) (i : ℕ) → i < length xs → (x : X) × (slice_get xs i ≡ Some x)
within-get [] i h = absurd (omega (arith, h))
within-get (y ∷ xs) zero h = (y, refl)
within-get (y ∷ xs) (suc i) h = within-get xs i (omega (arith, h))

All-at : {X : Type 0} (P : X → Type 0) (xs : List X) (i : ℕ) (x : X) → AllByRecursion P xs → slice_get xs i ≡ Some x → P x
All-at P [] i x all h = absurd cc
All-at P (y ∷ xs) zero x all h = let same : y ≡ x = cc in subst P same all.0
All-at P (y ∷ xs) (suc i) x all h = All-at P xs i x all.1 h

-- ---- entries of one external address

abbrev at : ℕ → Entry → HouseEntry
at place e = record { place = place; entry = e }

entries-one : (b : Bool) (place : ℕ) (history : List HouseEntry) (h : HouseEntry) → (h.place == place) ≡ b →
    entries_at place (history ++ h ∷ []) ≡ entries_at place history ++ map (λ h. h.entry) (cond b (h ∷ []) [])
entries-one b place history h is =
    ap (map (λ h. h.entry)) (filter-append (λ h. h.place == place) history (h ∷ []) ∙ ap (λ c. filter (λ h. h.place == place) history ++ cond c (h ∷ []) []) is)
    ∙ map-append (λ h. h.entry) (filter (λ h. h.place == place) history) (cond b (h ∷ []) [])

entries-same : (place : ℕ) (history : List HouseEntry) (e : Entry) → entries_at place (history ++ at place e ∷ []) ≡ entries_at place history ++ e ∷ []
entries-same place history e = entries-one true place history (at place e) (eq-eqb place place refl)

other-place : (i j : ℕ) → (¬ (j ≡ i)) → (i == j) ≡ false
other-place i j no_match = go (i == j) refl
  where
    go : (b : Bool) → (i == j) ≡ b → b ≡ false
    go false is = refl
    go true is = absurd (no_match (sym (eqb-true i j is)))

entries-other : (place other : ℕ) (history : List HouseEntry) (e : Entry) → (¬ (other ≡ place)) → entries_at other (history ++ at place e ∷ []) ≡ entries_at other history
entries-other place other history e differs =
    entries-one false other history (at place e) (other-place place other differs) ∙ append-nil (entries_at other history)

bases-more : (openings : List State) (history : List HouseEntry) (h : HouseEntry) →
    bases_of openings (history ++ h ∷ []) ≡ bases_of openings history ++ cons_option (begun_at h.entry) []
bases-more openings history h =
    ap (λ ns. map (λ s. s.base) openings ++ ns) (filter_map-append (λ h. begun_at h.entry) history (h ∷ []))
    ∙ sym (append_assoc (map (λ s. s.base) openings) (filter_map (λ h. begun_at h.entry) history) (cons_option (begun_at h.entry) []))

-- ---- a house and its history

abbrev served : Config → ℕ → External → Served
served config place external = record { config = config; place = place; external = external }

-- what an external address has come to
record TieOne (config : Config) (openings : List State) (history : List HouseEntry) (told place : ℕ) (s : PlainShard) : Type 0 where
  opening : State
  opening_is : slice_get openings place ≡ Some opening
  external : slice_get config.externals place ≡ Some s.external
  opens : IsOpening (served config place s.external) opening
  state : s.state ≡ state_after opening (entries_at place history)
  last : s.last ≡ moment_after opening (entries_at place history)
  legal : IsLegal (served config place s.external) opening (entries_at place history)
  base : base_after opening (entries_at place history) ≤ told

record Tie (config : Config) (openings : List State) (house : PlainHouse) (history : List HouseEntry) : Type 0 where
  same : house.config ≡ config
  some : 0 < length openings
  count : length house.shards ≡ length house.config.externals
  shards : (place : ℕ) (s : PlainShard) → slice_get house.shards place ≡ Some s → TieOne house.config openings history (greatest_base house) place s
  base : greatest_base house ≡ greatest (bases_of openings history)
  places : AllByRecursion (λ h. h.place < length house.config.externals) history
  bases : AllByRecursion (λ h. Contains (bases_of openings history) h.entry.base) history
  told : (before : List HouseEntry) (h : HouseEntry) (more : List HouseEntry) → history ≡ before ++ h ∷ more →
      h.entry.base ≡ greatest (bases_of openings (before ++ h ∷ []))

-- an entry of an external address that may come next
record Good (openings : List State) (house : PlainHouse) (history : List HouseEntry) (place : ℕ) (s : PlainShard) (e : Entry) : Type 0 where
  there : slice_get house.shards place ≡ Some s
  next : (t : TieOne house.config openings history (greatest_base house) place s) →
      IsNextEntry (served house.config place s.external) t.opening (entries_at place history) e
  rises : s.state.base ≤ (shard_after s e).state.base
  told : e.base ≡ greatest (bases_of openings (history ++ at place e ∷ []))
  base : max (greatest_base house) (shard_after s e).state.base ≡ e.base

greatest-of-some : (openings : List State) (more : List ℕ) → 0 < length openings → IsIn (greatest (map (λ s. s.base) openings ++ more)) (map (λ s. s.base) openings ++ more)
greatest-of-some [] more h = absurd (omega (arith, h))
greatest-of-some (o ∷ os) more h = greatest-in o.base (map (λ s. s.base) os ++ more)

tie-more : (config : Config) (openings : List State) (house : PlainHouse) (history : List HouseEntry) (place : ℕ) (s : PlainShard) (e : Entry) →
    Tie config openings house history → Good openings house history place s e →
    Tie config openings (record house { shards = slice_set house.shards place (shard_after s e) }) (history ++ at place e ∷ [])
tie-more config openings house history place s e tie good =
    let shards = slice_set house.shards place (shard_after s e) in
    let house_base : greatest (map (λ s. s.state.base) shards) ≡ e.base =
    greatest-set (λ (s : PlainShard). s.state.base) house.shards place s (shard_after s e) good.there good.rises ∙ good.base in
    let grown : greatest_base house ≤ e.base = (let b = good.base in omega (arith, b)) in
    record {
      same = tie.same;
      some = tie.some;
      count = length-set house.shards place (shard_after s e) ∙ tie.count;
      shards = λ q z is. subst (λ n. TieOne house.config openings (history ++ at place e ∷ []) n q z) (sym house_base)
          (shard-tie q z grown (get-set house.shards place q s (shard_after s e) z good.there is));
      base = house_base ∙ good.told;
      places = All-push (λ h. h.place < length house.config.externals) history (at place e) tie.places
          (let k = get-within house.shards place s good.there in let c = tie.count in omega (arith, k, c));
      bases = All-push (λ h. Contains (bases_of openings (history ++ at place e ∷ [])) h.entry.base) history (at place e)
          (All-weaker (λ h. Contains (bases_of openings history) h.entry.base) (λ h. Contains (bases_of openings (history ++ at place e ∷ [])) h.entry.base)
          (λ h k. still h.entry.base k) history tie.bases)
          (subst (λ n. Contains (bases_of openings (history ++ at place e ∷ [])) n) (sym good.told)
          (Contains-from_IsIn (bases_of openings (history ++ at place e ∷ [])) (greatest (bases_of openings (history ++ at place e ∷ [])))
          (greatest-of-some openings (filter_map (λ h. begun_at h.entry) (history ++ at place e ∷ [])) tie.some)));
      told = λ before h more is. elim (where-stands history (at place e) before h more is) [
        | inl l ↦ subst (λ b. h.entry.base ≡ greatest (bases_of openings (b ++ h ∷ []))) (sym l.front)
            (subst (λ (g : HouseEntry). g.entry.base ≡ greatest (bases_of openings (history ++ g ∷ []))) (sym l.same) good.told)
        | inr (rest, within) ↦ tie.told before h rest within
      ];
    }
  where
    still : (n : ℕ) → Contains (bases_of openings history) n → Contains (bases_of openings (history ++ at place e ∷ [])) n
    still n h = Contains-from_IsIn (bases_of openings (history ++ at place e ∷ [])) n
        (subst (λ ns. IsIn n ns) (sym (bases-more openings history (at place e)))
        (IsIn-left (bases_of openings history) (cons_option (begun_at e) []) n (IsIn-from_Contains (bases_of openings history) n h)))

    same-tie : (z : PlainShard) → shard_after s e ≡ z → TieOne house.config openings (history ++ at place e ∷ []) e.base place (shard_after s e) →
        TieOne house.config openings (history ++ at place e ∷ []) e.base place z
    same-tie z is t = subst (λ (y : PlainShard). TieOne house.config openings (history ++ at place e ∷ []) e.base place y) is t

    here : TieOne house.config openings (history ++ at place e ∷ []) e.base place (shard_after s e)
    here =
        let t = tie.shards place s good.there in
        let x = served house.config place s.external in
        let whole = entries-same place history e in
        record {
          opening = t.opening;
          opening_is = t.opening_is;
          external = t.external;
          opens = t.opens;
          state = subst (λ es. with_kept s.state e.kept ≡ state_after t.opening es) (sym whole)
              (ap (λ st. with_kept st e.kept) t.state ∙ sym (state-more t.opening (entries_at place history) e));
          last = subst (λ es. e.moment ≡ moment_after t.opening es) (sym whole) (sym (moment-more t.opening (entries_at place history) e));
          legal = subst (λ es. IsLegal x t.opening es) (sym whole) (next-legal x t.opening (entries_at place history) e t.legal (good.next t));
          base = subst (λ es. base_after t.opening es ≤ e.base) (sym whole) (let b = base-more t.opening (entries_at place history) e in omega (arith, b));
        }

    shard-tie : (q : ℕ) (z : PlainShard) → greatest_base house ≤ e.base → ((q ≡ place) × (shard_after s e ≡ z)) ⊎ ((¬ (q ≡ place)) × (slice_get house.shards q ≡ Some z)) →
        TieOne house.config openings (history ++ at place e ∷ []) e.base q z
    shard-tie q z grown (inl p) = subst (λ n. TieOne house.config openings (history ++ at place e ∷ []) e.base n z) (sym p.0) (same-tie z p.1 here)
    shard-tie q z grown (inr p) =
        let t = tie.shards q z p.1 in
        let whole = entries-other place q history e p.0 in
        let b = t.base in
        record {
          opening = t.opening;
          opening_is = t.opening_is;
          external = t.external;
          opens = t.opens;
          state = subst (λ es. z.state ≡ state_after t.opening es) (sym whole) t.state;
          last = subst (λ es. z.last ≡ moment_after t.opening es) (sym whole) t.last;
          legal = subst (λ es. IsLegal (served house.config q z.external) t.opening es) (sym whole) t.legal;
          base = subst (λ es. base_after t.opening es ≤ e.base) (sym whole) (omega (arith, b, grown));
        }

-- ---- one call

-- it makes no entry, or one that may come next
data CallCase (openings : List State) (house : PlainHouse) (history : List HouseEntry) (place : ℕ) (entry : Option Entry) : Type 0 where
  nothing : entry ≡ None → CallCase openings house history place entry
  something : (s : PlainShard) (e : Entry) → entry ≡ Some e → Good openings house history place s e → CallCase openings house history place entry

tie-call : (config : Config) (openings : List State) (house : PlainHouse) (history : List HouseEntry) (place : ℕ) (entry : Option Entry) →
    Tie config openings house history → CallCase openings house history place entry →
    Tie config openings (add_by house place (slice_get house.shards place) entry) (history ++ cons_option (placed place entry) [])
tie-call config openings house history place entry tie (nothing is) =
    subst (λ x. Tie config openings (add_by house place (slice_get house.shards place) x) (history ++ cons_option (placed place x) [])) (sym is)
    (none-added (slice_get house.shards place))
  where
    none-added : (found : Option PlainShard) → Tie config openings (add_by house place found None) (history ++ [])
    none-added None = subst (λ hs. Tie config openings house hs) (sym (append-nil history)) tie
    none-added (Some s) = subst (λ hs. Tie config openings house hs) (sym (append-nil history)) tie
tie-call config openings house history place entry tie (something s e is good) =
    subst (λ x. Tie config openings (add_by house place (slice_get house.shards place) x) (history ++ cons_option (placed place x) [])) (sym is)
    (subst (λ found. Tie config openings (add_by house place found (Some e)) (history ++ at place e ∷ [])) (sym good.there)
    (tie-more config openings house history place s e tie good))

-- the state of an external address is one that fitting records made
tie-well : DatagramAsksAreWellFormed → DecisionsFit → (config : Config) (openings : List State) (house : PlainHouse) (history : List HouseEntry) (place : ℕ) (s : PlainShard) →
    TieOne config openings history (greatest_base house) place s → IsReached s.state
tie-well formed fit config openings house history place s t =
    subst IsReached (sym t.state) (well-after formed fit (served config place s.external) t.opening (entries_at place history) t.opens t.legal).reached

-- a moment that is reached
raised-range : (now : ℕ) (openings : List State) (config : Config) (history : List HouseEntry) (told place : ℕ) (s : PlainShard) → now < 2 ^ 40 →
    TieOne config openings history told place s → raised now s < 2 ^ 40
raised-range now openings config history told place s range t =
    let m = moment-in-range (served config place s.external) t.opening (entries_at place history) t.opens t.legal in
    let last = t.last in
    omega (arith, m, last, range)

-- the base told by an entry that begins nothing anew
no-base : (openings : List State) (history : List HouseEntry) (place : ℕ) (e : Entry) → begun_at e ≡ None →
    greatest (bases_of openings (history ++ at place e ∷ [])) ≡ greatest (bases_of openings history)
no-base openings history place e is =
    ap greatest (bases-more openings history (at place e) ∙ ap (λ o. bases_of openings history ++ cons_option o []) is ∙ append-nil (bases_of openings history))

-- by a request
packet-case : DecisionsChangeLeases → (config : Config) (openings : List State) (house : PlainHouse) (history : List HouseEntry) (now : ℕ) (from : Datagram) →
    Tie config openings house history → now < 2 ^ 40 → AreOctets from.octets → (found : Option PlainShard) (asked : Option Request) →
    slice_get house.shards (route_of house.config from) ≡ found → request_of house.config from ≡ asked →
    CallCase openings house history (route_of house.config from) (entry_by house now from found asked)
packet-case change config openings house history now from tie range octets None asked is asks = nothing refl
packet-case change config openings house history now from tie range octets (Some s) None is asks = nothing refl
packet-case change config openings house history now from tie range octets (Some s) (Some q) is asks =
    let place = route_of house.config from in
    let x = served house.config place s.external in
    let m = raised now s in
    let e = request_entry x s.state m (greatest_base house) from q in
    let t0 = tie.shards place s is in
    let kind : entry_kind e ≡ OfRequest = ap (λ b. cond (b && length e.reply == 0) (kind_without_octets e.kept) OfRequest) (heard house.config from q asks) in
    let none : begun_at e ≡ None = ap (λ k. cond (begins_anew k) (Some e.moment) None) kind in
    let same_base : (shard_after s e).state.base ≡ s.state.base = kept-base s.state e.kept m (change (terms_of x.external x.config) s.state m q.ask) in
    let has = greatest-has (λ (s : PlainShard). s.state.base) house.shards place s is in
    something s e refl (record {
      there = is;
      next = λ t. subst (λ st. IsNextEntry x t.opening (entries_at place history) (request_entry x st m (greatest_base house) from q)) (sym t.state)
          (decisions-next change x t.opening (entries_at place history) m (greatest_base house) from q t.legal
          (record {
            in_range = raised-range now openings house.config history (greatest_base house) place s range t;
            later = (let last = t.last in omega (arith, last));
            told = t.base;
          })
          (record { octets = octets; routed = refl; asks = asks }));
      rises = omega (arith, same_base);
      told = tie.base ∙ sym (no-base openings history place e none);
      base = omega (arith, same_base, has);
    })

-- by a loss
loss-case : DatagramAsksAreWellFormed → DecisionsFit → (config : Config) (openings : List State) (house : PlainHouse) (history : List HouseEntry) (now place : ℕ) →
    Tie config openings house history → now < 2 ^ 40 → (found : Option PlainShard) → slice_get house.shards place ≡ found →
    CallCase openings house history place (option_map (λ s. loss_of house (raised now s)) found)
loss-case formed fit config openings house history now place tie range None is = nothing refl
loss-case formed fit config openings house history now place tie range (Some s) is =
    let x = served house.config place s.external in
    let m = raised now s in
    let e = loss_of house m in
    let t0 = tie.shards place s is in
    let reached = tie-well formed fit house.config openings house history place s t0 in
    let base_last = reached.base in
    let whole = last-greatest x t0.opening (entries_at place history) t0.legal in
    let last_moment : s.state.last ≤ s.last = subst (λ (st : State). st.last ≤ s.last) (sym t0.state) (let l = whole.last in let k = t0.last in omega (arith, l, k)) in
    something s e refl (record {
      there = is;
      next = λ t. servers-next x t.opening (entries_at place history) e (record { moment = m; change = Lose }) t.legal
          (record {
            in_range = raised-range now openings house.config history (greatest_base house) place s range t;
            later = (let last = t.last in omega (arith, last));
            told = (let b = t.base in omega (arith, b));
          })
          refl refl refl (omega arith);
      rises = omega (arith, base_last, last_moment);
      told = (let b = tie.base in
          let g = greatest-more (bases_of openings history) (m ∷ []) in
          let w = ap greatest (bases-more openings history (at place e)) in
          omega (arith, b, g, w));
      base = refl;
    })

call-case : DatagramAsksAreWellFormed → DecisionsFit → DecisionsChangeLeases → (config : Config) (openings : List State) (house : PlainHouse) (history : List HouseEntry) →
    Tie config openings house history → (call : HouseCall) → IsCallValue config call → CallCase openings house history (call_place house call) (call_entry house call)
call-case formed fit change config openings house history tie (Packet now from) h =
    packet-case change config openings house history now from tie h.0 h.1 (slice_get house.shards (route_of house.config from)) (request_of house.config from) refl refl
call-case formed fit change config openings house history tie (Loss now place) h =
    loss-case formed fit config openings house history now place tie h.0 (slice_get house.shards place) refl

-- ---- all calls

abbrev IsTied : Config → List State → List HouseEntry → Type 0
IsTied config openings history = (house : PlainHouse) × Tie config openings house history

calls-along : DatagramAsksAreWellFormed → DecisionsFit → DecisionsChangeLeases → (config : Config) (openings : List State) (house : PlainHouse) (history : List HouseEntry) (calls : List HouseCall) →
    Tie config openings house history → AllByRecursion (IsCallValue config) calls → IsTied config openings (history ++ entries_along house calls)
calls-along formed fit change config openings house history [] tie all = (house, subst (λ hs. Tie config openings house hs) (sym (append-nil history)) tie)
calls-along formed fit change config openings house history (call ∷ calls) tie all =
    let place = call_place house call in
    let entry = call_entry house call in
    let next = tie-call config openings house history place entry tie (call-case formed fit change config openings house history tie call all.0) in
    subst (λ hs. IsTied config openings hs)
    (append_assoc history (cons_option (placed place entry) []) (entries_along (call_after house call) calls)
    ∙ ap (λ hs. history ++ hs) (one-more (placed place entry) (entries_along (call_after house call) calls)))
    (calls-along formed fit change config openings (call_after house call) (history ++ cons_option (placed place entry) []) calls next all.1)
  where
    one-more : (o : Option HouseEntry) (hs : List HouseEntry) → cons_option o [] ++ hs ≡ cons_option o hs
    one-more None hs = refl
    one-more (Some h) hs = refl

-- ---- the beginning

begun-get : (xs : List External) (ss : List State) (place : ℕ) (s : PlainShard) → slice_get (shards_begun xs ss) place ≡ Some s →
    (slice_get xs place ≡ Some s.external) × (slice_get ss place ≡ Some s.state) × (s.last ≡ s.state.last)
begun-get [] ss place s h = absurd cc
begun-get (x ∷ xs) [] place s h = absurd cc
begun-get (x ∷ xs) (t ∷ ts) zero s h =
    let made : PlainShard = record { external = x; state = t; last = t.last } in
    let same : made ≡ s = cc in
    subst (λ (s : PlainShard). (Some x ≡ Some s.external) × (Some t ≡ Some s.state) × (s.last ≡ s.state.last)) same (refl, refl, refl)
begun-get (x ∷ xs) (t ∷ ts) (suc place) s h = begun-get xs ts place s h

begun-count : (xs : List External) (ss : List State) → length ss ≡ length xs → length (shards_begun xs ss) ≡ length xs
begun-count [] ss h = refl
begun-count (x ∷ xs) [] h = absurd (omega (arith, h))
begun-count (x ∷ xs) (t ∷ ts) h = ap (λ n. suc n) (begun-count xs ts (omega (arith, h)))

begun-bases : (xs : List External) (ss : List State) → length ss ≡ length xs → map (λ s. s.state.base) (shards_begun xs ss) ≡ map (λ s. s.base) ss
begun-bases [] [] h = refl
begun-bases [] (t ∷ ts) h = absurd (omega (arith, h))
begun-bases (x ∷ xs) [] h = absurd (omega (arith, h))
begun-bases (x ∷ xs) (t ∷ ts) h = ap (λ ns. t.base ∷ ns) (begun-bases xs ts (omega (arith, h)))

no-entry : (before : List HouseEntry) (h : HouseEntry) (more : List HouseEntry) → [] ≡ before ++ h ∷ more → ⊥
no-entry [] h more is = absurd cc
no-entry (x ∷ before) h more is = absurd cc

tie-begun : (config : Config) (openings : List State) → AreOpenings config openings → Tie config openings (house_begun config openings) []
tie-begun config openings h =
    let bases = ap greatest (begun-bases config.externals openings h.count) in
    record {
      same = refl;
      some = (let c = h.count in let k = h.config_is.external_count.0 in omega (arith, c, k));
      count = begun-count config.externals openings h.count;
      shards = λ place s is. one place s (begun-get config.externals openings place s is)
          (greatest-has (λ (s : PlainShard). s.state.base) (shards_begun config.externals openings) place s is);
      base = bases ∙ ap greatest (sym (append-nil (map (λ s. s.base) openings)));
      places = tt;
      bases = tt;
      told = λ before h more is. absurd (no-entry before h more is);
    }
  where
    one : (place : ℕ) (s : PlainShard) → (slice_get config.externals place ≡ Some s.external) × (slice_get openings place ≡ Some s.state) × (s.last ≡ s.state.last) →
        s.state.base ≤ greatest_base (house_begun config openings) → TieOne config openings [] (greatest_base (house_begun config openings)) place s
    one place s parts has = record {
      opening = s.state;
      opening_is = parts.1;
      external = parts.0;
      opens = record {
        config = h.config_is;
        there = parts.0;
        reached = All-at IsReached openings place s.state h.reached parts.1;
        started = All-at (λ s. s.started ≡ true) openings place s.state h.started parts.1;
      };
      state = refl;
      last = parts.2;
      legal = nothing-legal (served config place s.external) s.state;
      base = has;
    }

-- ---- the history

history-of : (config : Config) (openings : List State) (house : PlainHouse) (history : List HouseEntry) → length openings ≡ length config.externals →
    Tie config openings house history → IsSoloHistory house.config openings history
history-of config openings house history count tie = record {
  house = record {
    places = tie.places;
    legal = λ place x opening there opens. legal place x opening there opens (within-get house.shards place (let k = get-within house.config.externals place x there in let c = tie.count in omega (arith, k, c)));
    bases = tie.bases;
  };
  greatest_told = tie.told;
}
  where
    legal : (place : ℕ) (x : External) (opening : State) → slice_get house.config.externals place ≡ Some x → slice_get openings place ≡ Some opening →
        (s : PlainShard) × (slice_get house.shards place ≡ Some s) → IsLegal (served house.config place x) opening (entries_at place history)
    legal place x opening there opens (s, is) =
        let t = tie.shards place s is in
        let external = t.external in
        let opening_is = t.opening_is in
        let same_x : s.external ≡ x = cc in
        let same_o : t.opening ≡ opening = cc in
        subst (λ (y : External). IsLegal (served house.config place y) opening (entries_at place history)) same_x
        (subst (λ (o : State). IsLegal (served house.config place s.external) o (entries_at place history)) same_o t.legal)

pub calls-make : DatagramAsksAreWellFormed → DecisionsFit → DecisionsChangeLeases → CallsMakeHistories
calls-make formed fit change config openings calls h all =
    let tied = calls-along formed fit change config openings (house_begun config openings) [] calls (tie-begun config openings h) all in
    subst (λ (c : Config). IsSoloHistory c openings (entries_along (house_begun config openings) calls)) tied.1.same
    (history-of config openings tied.0 (entries_along (house_begun config openings) calls) h.count tied.1)
