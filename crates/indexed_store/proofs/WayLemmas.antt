-- Where leases that are in the way have gone, there is room for the one that is put.
use Rattle.std.proofs.Common.{◌≡◌, ℕ, ◌+◌, ◌<◌, ◌≤◌, ◌&&◌, nat_lt, not, Bool, true, false, cond, List, [], ◌∷◌, length, filter, find, count_by, Contains, Option, Some, None, IfSome, refl, sym, ap, ◌∙◌, subst, inl, inr, arith}
use Rattle.std.specs.Prelude.{is_some}
use Rattle.std.specs.Bool.{OnTrue, OnFalse}
use Rattle.std.specs.List.{list_any}
use Rattle.std.proofs.lemmas.Bool.{and_parts, and_from}
use Rattle.std.proofs.lemmas.List.Sums.{sum_by-cons}
use Rattle.pcp_base.specs.declared.leases.TheConstants.{MOST_LEASES, MOST_PEERS}
use Rattle.pcp_base.specs.declared.leases.MapLease.{MapLease}
use Rattle.pcp_base.specs.declared.leases.PeerLease.{PeerLease}
use Rattle.pcp_base.specs.declared.records.Change.TheVariants.{Map, Peer}
use Rattle.pcp_base.specs.Apply.{table_changed}
use Rattle.pcp_base.specs.Sound.{Sound}
use Rattle.pcp_base.specs.Tables.{Table, first_endpoint, is_map_of, is_peer_of, live, names, put}
use Rattle.pcp_base.proofs.Members.{IsIn, IsIn-from_Contains, Contains-from_IsIn, All-IsIn, All-from_IsIn, any-none, none-any, find-none, find-some}
use Rattle.pcp_base.proofs.Same.{same_endpoint-Decides}
use Rattle.pcp_base.proofs.StageLaws.{unlike}
use Rattle.mapping_table.specs.MapLists.{overlaps as overlaps_map}
use Rattle.peer_table.specs.PeerLists.{overlaps as overlaps_peer}
use Rattle.indexed_store.specs.MakingWay.{HasWayForMap, HasWayForPeer}
use Rattle.indexed_store.specs.Tabled.{AreTabled}
use Rattle.indexed_store.proofs.DeadGo.{found-none}
use Rattle.indexed_store.proofs.Uniques.{AtMostOne, none-within, one-key}

-- ---- how many there are where one is put

-- 1 for what passes
abbrev pub tally : Bool → ℕ
tally b = cond {A = ℕ} b 1 0

pub count-cons : {X : Type 0} (p : X → Bool) (x : X) (xs : List X) → count_by p (x ∷ xs) ≡ tally (p x) + count_by p xs
count-cons p x xs = sum_by-cons (λ y. cond {A = ℕ} (p y) 1 0) x xs

module _ {X : Type 0} (has q : X → Bool) (y : X) where
  longer-step : (x : X) (xs : List X) (b : Bool) → (find has xs ≡ None → length (put has y xs) ≡ length xs + 1) → cond b (Some x) (find has xs) ≡ None → length (cond b (y ∷ xs) (x ∷ put has y xs)) ≡ length (x ∷ xs) + 1
  longer-step x xs true rest none = absurd (let no : Some x ≡ None = none in cc)
  longer-step x xs false rest none = let more = rest none in omega (arith, more)

  -- one more where none has its key
  pub put-longer : (xs : List X) → find has xs ≡ None → length (put has y xs) ≡ length xs + 1
  put-longer [] none = omega arith
  put-longer (x ∷ xs) none = longer-step x xs (has x) (put-longer xs) none

  more-step : (x : X) (xs : List X) (b : Bool) → (find has xs ≡ None → count_by q (put has y xs) ≡ count_by q xs + 1) → cond b (Some x) (find has xs) ≡ None → count_by q (cond b (y ∷ xs) (x ∷ put has y xs)) ≡ count_by q (x ∷ xs) + 1
  more-step x xs true rest none = absurd (let no : Some x ≡ None = none in cc)
  more-step x xs false rest none =
      let more = rest none in let before = count-cons q x xs in let after = count-cons q x (put has y xs) in
      omega (arith, more, before, after)

  pub put-more : q y ≡ true → (xs : List X) → find has xs ≡ None → count_by q (put has y xs) ≡ count_by q xs + 1
  put-more passes [] none =
      let all = count-cons q y [] in let one : tally (q y) ≡ 1 = ap tally passes in
      let nothing : count_by q [] ≡ 0 = refl in omega (arith, all, one, nothing)
  put-more passes (x ∷ xs) none = more-step x xs (has x) (put-more passes xs) none

-- ---- those that pass a test in a part of a list

module _ {X : Type 0} (p q : X → Bool) where
  abbrev pub left_out : X → Bool
  left_out x = p x && not (q x)

  parts-step : (x : X) (xs : List X) (a b : Bool) → p x ≡ a → q x ≡ b → count_by p (filter q xs) + count_by left_out xs ≡ count_by p xs
      → count_by p (cond b (x ∷ filter q xs) (filter q xs)) + (tally (a && not b) + count_by left_out xs) ≡ tally a + count_by p xs
  parts-step x xs a true e f rest =
      let all = count-cons p x (filter q xs) in let first : tally (p x) ≡ tally a = ap tally e in
      let none : tally (a && false) ≡ 0 = no a in omega (arith, all, first, none, rest)
    where
      no : (c : Bool) → tally (c && false) ≡ 0
      no true = refl
      no false = refl
  parts-step x xs a false e f rest =
      let one : tally (a && true) ≡ tally a = same a in omega (arith, one, rest)
    where
      same : (c : Bool) → tally (c && true) ≡ tally c
      same true = refl
      same false = refl

  pub count-parts : (xs : List X) → count_by p (filter q xs) + count_by left_out xs ≡ count_by p xs
  count-parts [] = refl
  count-parts (x ∷ xs) =
      let all = count-cons p x xs in let out = count-cons left_out x xs in
      let step = parts-step x xs (p x) (q x) refl refl (count-parts xs) in
      omega (arith, all, out, step)

  -- none is left out
  pub count-kept : (xs : List X) → count_by left_out xs ≡ 0 → count_by p xs ≡ count_by p (filter q xs)
  count-kept xs none = let parts = count-parts xs in omega (arith, parts, none)

  none-out : (xs : List X) → ((x : X) → IsIn x xs → p x ≡ true → q x ≡ true) → count_by left_out xs ≡ 0
  none-out [] kept = refl
  none-out (x ∷ xs) kept =
      let all = count-cons left_out x xs in
      let first : tally (left_out x) ≡ 0 = step (p x) refl in
      let rest = none-out xs (λ y i. kept y (inr i)) in
      omega (arith, all, first, rest)
    where
      step : (b : Bool) → p x ≡ b → tally (b && not (q x)) ≡ 0
      step true e = ap (λ (c : Bool). tally (not c)) (kept x (inl refl) e)
      step false e = refl

  -- where all that pass one test pass the other too, as many pass it in the part
  pub count-all_kept : (xs : List X) → ((x : X) → IsIn x xs → p x ≡ true → q x ≡ true) → count_by p xs ≡ count_by p (filter q xs)
  count-all_kept xs kept = count-kept xs (none-out xs kept)

  lives : (b : Bool) → not b ≡ false → b ≡ true
  lives true h = refl
  lives false h = sym h

  -- so it is where all pass the other test
  pub count-all : (xs : List X) → list_any (λ x. not (q x)) xs ≡ false → count_by p xs ≡ count_by p (filter q xs)
  count-all xs none = count-all_kept xs (λ x i passes. lives (q x) (All-IsIn (λ y. not (q y) ≡ false) xs x (any-none (λ y. not (q y)) xs none) i))

  none-counted : (xs : List X) → count_by left_out xs ≡ 0 → (x : X) → IsIn x xs → left_out x ≡ true → ⊥
  none-counted [] none x i out = absurd i
  none-counted (y ∷ ys) none x (inl same) out =
      let all = count-cons left_out y ys in
      let first : tally (left_out y) ≡ 1 = ap tally (ap left_out same ∙ out) in
      omega (arith, all, first, none)
  none-counted (y ∷ ys) none x (inr i) out =
      let all = count-cons left_out y ys in
      none-counted ys (omega (arith, all, none)) x i out

  passes-both : (b : Bool) (x : X) → q x ≡ b → p x ≡ true → (left_out x ≡ true → ⊥) → q x ≡ true
  passes-both true x e passes never = e
  passes-both false x e passes never = absurd (never (and_from (p x) (not (q x)) passes (ap not e)))

  -- and the other way round
  pub kept-all : (xs : List X) → count_by p xs ≡ count_by p (filter q xs) → (x : X) → IsIn x xs → p x ≡ true → q x ≡ true
  kept-all xs same x i passes =
      let parts = count-parts xs in
      passes-both (q x) x refl passes (none-counted xs (omega (arith, parts, same)) x i)

-- ---- room

not-found : {X : Type 0} (o : Option X) → true ≡ is_some o → o ≡ None → ⊥
not-found None h none = let no : true ≡ false = h in cc
not-found (Some x) h none = let no : Some x ≡ None = none in cc

-- what holds of the only one that passes in a list holds of that in a part of it
own-within : {X : Type 0} (has : X → Bool) (Q : X → Type 0) (xs ys : List X) → AtMostOne has xs → ((x : X) → IsIn x ys → IsIn x xs)
    → IfSome (find has xs) Q → IfSome (find has ys) Q
own-within {X} has Q xs ys one part of = at_part (find has ys) refl
  where
    at_whole : (o : Option X) → find has xs ≡ o → IfSome o Q → (x : X) → IsIn x xs → has x ≡ true → Q x
    at_whole None is q x i h = absurd (unlike (has x) h (All-IsIn (λ z. has z ≡ false) xs x (find-none has xs is) i))
    at_whole (Some y) is q x i h = let f = find-some has xs y is in subst Q (one y x f.0 i f.1 h) q

    at_part : (o : Option X) → find has ys ≡ o → IfSome o Q
    at_part None is = tt
    at_part (Some x) is = let f = find-some has ys x is in at_whole (find has xs) refl of x (part x f.0) f.1

pub none-overlap : {X : Type 0} (p : X → Bool) (xs ys : List X) → ((x : X) → Contains ys x → Contains xs x) → list_any p xs ≡ false → list_any p ys ≡ false
none-overlap p xs ys part none = none-any p ys (All-from_IsIn (λ x. p x ≡ false) ys (λ x i.
    All-IsIn (λ y. p y ≡ false) xs x (any-none p xs none) (IsIn-from_Contains xs x (part x (Contains-from_IsIn ys x i)))))

members : {X : Type 0} (xs ys : List X) → ((x : X) → Contains ys x → Contains xs x) → (x : X) → IsIn x ys → IsIn x xs
members xs ys part x i = IsIn-from_Contains xs x (part x (Contains-from_IsIn ys x i))

module _ (m : ℕ) (l : MapLease) where
  abbrev has_map_key : MapLease → Bool
  has_map_key = is_map_of (first_endpoint l)

  -- where a MAP lease is new, fewer than may be are live
  pub map-some : (t : Table) (there : Bool) → Sound (table_changed (Map l) (live t m)) → there ≡ is_some (find has_map_key t.maps)
      → OnFalse there (length (live t m).maps + length (live t m).peers < MOST_LEASES)
  map-some t true after is = tt
  map-some t false after is =
      let none = none-within has_map_key (λ (x : MapLease). nat_lt m x.expiry) t.maps (found-none (find has_map_key t.maps) (sym is)) in
      let more = put-longer has_map_key has_map_key l (live t m).maps none in
      let few : length (put has_map_key l (live t m).maps) + length (live t m).peers ≤ MOST_LEASES = after.few in
      omega (arith, more, few)

  map-room : (t u : Table) (there : Bool) → there ≡ is_some (find has_map_key t.maps)
      → OnFalse there (length u.maps + length u.peers < MOST_LEASES) → OnTrue there (u ≡ t)
      → find has_map_key u.maps ≡ None → length u.maps + length u.peers < MOST_LEASES
  map-room t u true is room same none = absurd (not-found (find has_map_key t.maps) is (ap (λ (v : Table). find has_map_key v.maps) (sym same) ∙ none))
  map-room t u false is room same none = room

  -- of a table without what is overlapped (s) one without what ended under the key (t), and of that one with room (u)
  pub map-way : (s t u : Table) (there : Bool) → list_any (overlaps_map l) s.maps ≡ false
      → AreTabled t → ((x : MapLease) → Contains t.maps x → Contains s.maps x)
      → IfSome (find has_map_key t.maps) (λ x. nat_lt m x.expiry ≡ true) → there ≡ is_some (find has_map_key t.maps)
      → AreTabled u → ((x : MapLease) → Contains u.maps x → Contains t.maps x)
      → OnFalse there (length u.maps + length u.peers < MOST_LEASES) → OnTrue there (u ≡ t) → HasWayForMap m l u
  map-way s t u there apart tabled from own is new_tabled new_from room same = record {
    tabled = new_tabled;
    apart = none-overlap (overlaps_map l) s.maps u.maps (λ x i. from x (new_from x i)) apart;
    own = own-within has_map_key (λ (x : MapLease). nat_lt m x.expiry ≡ true) t.maps u.maps (one-key t (first_endpoint l) tabled) (members t.maps u.maps new_from) own;
    room = map-room t u there is room same;
  }

module _ (m : ℕ) (l : PeerLease) where
  abbrev has_peer_key : PeerLease → Bool
  has_peer_key = is_peer_of l.endpoint l.remote l.remote_port

  abbrev of_endpoint : PeerLease → Bool
  of_endpoint x = names x l.endpoint

  abbrev alive : PeerLease → Bool
  alive x = nat_lt m x.expiry

  pub peer-some : (t : Table) (there : Bool) → Sound (table_changed (Peer l) (live t m)) → there ≡ is_some (find has_peer_key (live t m).peers)
      → OnFalse there (length (live t m).maps + length (live t m).peers < MOST_LEASES)
  peer-some t true after is = tt
  peer-some t false after is =
      let more = put-longer has_peer_key of_endpoint l (live t m).peers (found-none (find has_peer_key (live t m).peers) (sym is)) in
      let few : length (live t m).maps + length (put has_peer_key l (live t m).peers) ≤ MOST_LEASES = after.few in
      omega (arith, more, few)

  peer-few : (u : Table) → Sound (table_changed (Peer l) (live u m)) → ((x : PeerLease) → IsIn x u.peers → of_endpoint x ≡ true → alive x ≡ true)
      → find has_peer_key u.peers ≡ None → count_by of_endpoint u.peers < MOST_PEERS
  peer-few u after live_of none =
      let all = count-all_kept of_endpoint alive u.peers live_of in
      let own : names l l.endpoint ≡ true = (same_endpoint-Decides l.endpoint l.endpoint).1 refl in
      let more = put-more has_peer_key of_endpoint l own (live u m).peers (none-within has_peer_key alive u.peers none) in
      let few : count_by of_endpoint (put has_peer_key l (live u m).peers) ≤ MOST_PEERS = after.few_peers l.endpoint in
      omega (arith, all, more, few)

  peer-room : (t u : Table) (there : Bool) → there ≡ is_some (find has_peer_key (live t m).peers)
      → OnFalse there (length u.maps + length u.peers < MOST_LEASES) → OnTrue there (u ≡ t)
      → find has_peer_key u.peers ≡ None → length u.maps + length u.peers < MOST_LEASES
  peer-room t u true is room same none = absurd (not-found (find has_peer_key (live t m).peers) is
      (none-within has_peer_key alive t.peers (ap (λ (v : Table). find has_peer_key v.peers) (sym same) ∙ none)))
  peer-room t u false is room same none = room

  -- of a table without what is in the way (t) that one with room (u)
  pub peer-way : (t u : Table) (there : Bool) → Sound (table_changed (Peer l) (live u m)) → list_any (overlaps_peer l) t.peers ≡ false
      → count_by of_endpoint t.peers ≡ count_by of_endpoint (live t m).peers → there ≡ is_some (find has_peer_key (live t m).peers)
      → AreTabled u → ((x : PeerLease) → Contains u.peers x → Contains t.peers x)
      → OnFalse there (length u.maps + length u.peers < MOST_LEASES) → OnTrue there (u ≡ t) → HasWayForPeer m l u
  peer-way t u there after apart counts is tabled new_from room same =
      let live_of : (x : PeerLease) → IsIn x u.peers → of_endpoint x ≡ true → alive x ≡ true =
      λ x i named. kept-all of_endpoint alive t.peers counts x (members t.peers u.peers new_from x i) named in
      record {
        tabled = tabled;
        apart = none-overlap (overlaps_peer l) t.peers u.peers new_from apart;
        own = own_live (find has_peer_key u.peers) refl live_of;
        room = peer-room t u there is room same;
        of_endpoint = peer-few u after live_of;
      }
    where
      own_live : (o : Option PeerLease) → find has_peer_key u.peers ≡ o → ((x : PeerLease) → IsIn x u.peers → of_endpoint x ≡ true → alive x ≡ true) → IfSome o (λ x. nat_lt m x.expiry ≡ true)
      own_live None found live_of = tt
      own_live (Some x) found live_of =
          let f = find-some has_peer_key u.peers x found in
          live_of x f.0 (and_parts _ _ (and_parts _ _ f.1).0).0
