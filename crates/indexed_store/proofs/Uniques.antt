-- What is found in a part of a list, where at most one of the whole passes.
use Rattle.std.proofs.Common.{◌≡◌, ℕ, ◌<◌, ◌≤◌, ◌+◌, ◌==◌, ◌⊎◌, zero, suc, Bool, true, false, cond, ◌&&◌, nat_lt, List, [], ◌∷◌, map, flat_map, filter, find, Contains, Option, Some, None, refl, sym, ap, ◌∙◌, subst, inl, inr, arith}
use Rattle.std.specs.Prelude.{is_some}
use Rattle.std.specs.List.{AllByRecursion, range_with_len}
use Rattle.std.proofs.lemmas.Bool.{le-ltb, ltb-false, cond-true, cond-false, and_parts, and_from, eqb-true, eqb-false, eq-eqb, false_from_ne_true}
use Rattle.pcp_base.specs.declared.addresses.Address.{Address}
use Rattle.pcp_base.specs.declared.leases.Protocol.{Protocol}
use Rattle.pcp_base.specs.declared.leases.Endpoint.{Endpoint}
use Rattle.pcp_base.specs.declared.leases.MapLease.{MapLease}
use Rattle.pcp_base.specs.declared.leases.PeerLease.{PeerLease}
use Rattle.pcp_base.specs.Tables.{Table, EachTwo, AreApart, HaveOtherKeys, covers, first_endpoint, is_map_of, is_peer_of, live, IsMapLease, same_address, same_protocol}
use Rattle.pcp_base.specs.Owners.{owners, map_owners, peer_owner, is_port, owns}
use Rattle.indexed_store.specs.Tabled.{AreTabled}
use Rattle.filter_rules.specs.Lookups.{is_with}
use Rattle.peer_table.specs.PeerLists.{AreFellows, opens}
use Rattle.pcp_base.proofs.Members.{IsIn, IsIn-filter, IsIn-right, map-IsIn, Contains-from_IsIn, find-some, find-none, All-IsIn, All-from_IsIn}
use Rattle.pcp_base.proofs.Same.{same_address-Decides, same_endpoint-Decides, same_protocol-Decides}
use Rattle.pcp_base.proofs.TableLemmas.{other_key, covers-first}
use Rattle.pcp_base.proofs.StageLaws.{unlike}
use Rattle.mapping_table.specs.MapLists.{AreSeparate, map_covering, some_live_map}
use Rattle.mapping_table.proofs.Separates.{cover_apart, own_apart}
use Rattle.peer_table.proofs.Fellows.{two_share}

-- at most one of the list passes
abbrev pub AtMostOne : {X : Type 0} → (X → Bool) → List X → Type 0
AtMostOne {X} p xs = (a b : X) → IsIn a xs → IsIn b xs → p a ≡ true → p b ≡ true → a ≡ b

pub all-none : {X : Type 0} (p : X → Bool) (xs : List X) → AllByRecursion (λ x. p x ≡ false) xs → find p xs ≡ None
all-none p [] h = refl
all-none p (x ∷ xs) h = cond-false (p x) (Some x) (find p xs) h.0 ∙ all-none p xs h.1

pub none-within : {X : Type 0} (p q : X → Bool) (xs : List X) → find p xs ≡ None → find p (filter q xs) ≡ None
none-within p q xs h = all-none p (filter q xs) (All-from_IsIn (λ x. p x ≡ false) (filter q xs) (λ x i. All-IsIn (λ x. p x ≡ false) xs x (find-none p xs h) (IsIn-filter q xs x i).0))

pub one-within : {X : Type 0} (p q : X → Bool) (xs : List X) (x : X) → find p xs ≡ Some x → q x ≡ true → find p (filter q xs) ≡ Some x
one-within p q [] x h k = absurd (let never : None ≡ Some x = h in cc)
one-within p q (y ∷ ys) x h k = step (p y) (q y) refl refl h (λ rest. one-within p q ys x rest k)
  where
    step : (b c : Bool) → p y ≡ b → q y ≡ c → cond b (Some y) (find p ys) ≡ Some x → (find p ys ≡ Some x → find p (filter q ys) ≡ Some x) → find p (cond c (y ∷ filter q ys) (filter q ys)) ≡ Some x
    step true true e f is rest = cond-true (p y) (Some y) (find p (filter q ys)) e ∙ is
    step true false e f is rest = absurd (let same : y ≡ x = (let both : Some y ≡ Some x = is in cc) in let yes : q y ≡ true = ap q same ∙ k in let both : true ≡ false = sym yes ∙ f in cc)
    step false true e f is rest = cond-false (p y) (Some y) (find p (filter q ys)) e ∙ rest is
    step false false e f is rest = rest is

pub gone-within : {X : Type 0} (p q : X → Bool) (xs : List X) (x : X) → AtMostOne p xs → find p xs ≡ Some x → q x ≡ false → find p (filter q xs) ≡ None
gone-within p q xs x one h k = all-none p (filter q xs) (All-from_IsIn (λ y. p y ≡ false) (filter q xs) (λ y i.
    let there = IsIn-filter q xs y i in let found = find-some p xs x h in
    false_from_ne_true (p y) (λ t. let same : y ≡ x = one y x there.0 found.0 t found.1 in let both : true ≡ false = sym there.1 ∙ ap q same ∙ k in absurd (cc))))

-- a test that only one of the whole passes is passed by one of a part
pub one-of_part : {X : Type 0} (p q : X → Bool) (xs : List X) → AtMostOne p xs → AtMostOne p (filter q xs)
one-of_part p q xs one = λ a b i j s t. one a b (IsIn-filter q xs a i).0 (IsIn-filter q xs b j).0 s t

-- where no two pass, at most one does
pub one-of : {X : Type 0} (p : X → Bool) (xs : List X) → EachTwo (λ a b. p a ≡ true → p b ≡ true → ⊥) xs → AtMostOne p xs
one-of p [] h = λ a b i j s t. absurd i
one-of {X} p (x ∷ xs) h = step (one-of p xs h.1)
  where
    step : AtMostOne p xs → (a b : X) → IsIn a (x ∷ xs) → IsIn b (x ∷ xs) → p a ≡ true → p b ≡ true → a ≡ b
    step rest a b (inl e) (inl f) s t = sym e ∙ f
    step rest a b (inl e) (inr j) s t = absurd (All-IsIn (λ z. p x ≡ true → p z ≡ true → ⊥) xs b h.0 j (ap p e ∙ s) t)
    step rest a b (inr i) (inl f) s t = absurd (All-IsIn (λ z. p x ≡ true → p z ≡ true → ⊥) xs a h.0 i (ap p f ∙ t) s)
    step rest a b (inr i) (inr j) s t = rest a b i j s t

pub two-weaker : {X : Type 0} (R S : X → X → Type 0) → ((x y : X) → R x y → S x y) → (xs : List X) → EachTwo R xs → EachTwo S xs
two-weaker R S f [] h = tt
two-weaker R S f (x ∷ xs) h = (All-from_IsIn (S x) xs (λ y i. f x y (All-IsIn (R x) xs y h.0 i)), two-weaker R S f xs h.1)

pub one-covers : (t : Table) (e : Endpoint) → AreTabled t → AtMostOne (λ l. covers l e) t.maps
one-covers t e tabled = one-of (λ l. covers l e) t.maps (two-weaker AreSeparate (λ a b. covers a e ≡ true → covers b e ≡ true → ⊥) (cover_apart e) t.maps tabled.maps.separate)

-- a lease with this key covers it
key-covers : (t : Table) (e : Endpoint) → AreTabled t → (l : MapLease) → IsIn l t.maps → is_map_of e l ≡ true → covers l e ≡ true
key-covers t e tabled l i h =
    subst (λ (z : Endpoint). covers l z ≡ true) ((same_endpoint-Decides (first_endpoint l) e).0 h) (covers-first l (All-IsIn IsMapLease t.maps l tabled.maps.leases i).ports.some)

pub one-key : (t : Table) (e : Endpoint) → AreTabled t → AtMostOne (is_map_of e) t.maps
one-key t e tabled = λ a b i j s u. one-covers t e tabled a b i j (key-covers t e tabled a i s) (key-covers t e tabled b j u)

pub one-owns : (t : Table) (protocol : Protocol) (port : ℕ) → AreTabled t → AtMostOne (owns protocol port) t.maps
one-owns t protocol port tabled = one-of (owns protocol port) t.maps (two-weaker AreSeparate (λ a b. owns protocol port a ≡ true → owns protocol port b ≡ true → ⊥) (own_apart protocol port) t.maps tabled.maps.separate)

module _ (e : Endpoint) (remote : Address) (port : ℕ) where
  key-parts : (l : PeerLease) → is_peer_of e remote port l ≡ true → (l.endpoint ≡ e) × (l.remote ≡ remote) × (l.remote_port ≡ port)
  key-parts l h = let a = and_parts _ _ h in let b = and_parts _ _ a.0 in ((same_endpoint-Decides l.endpoint e).0 b.0, (same_address-Decides l.remote remote).0 b.1, eqb-true l.remote_port port a.1)

  pub keys-apart : (a b : PeerLease) → HaveOtherKeys a b → is_peer_of e remote port a ≡ true → is_peer_of e remote port b ≡ true → ⊥
  keys-apart a b other s t =
      let k = key-parts a s in let l = key-parts b t in
      let same : is_peer_of b.endpoint b.remote b.remote_port a ≡ true =
      and_from _ _ (and_from _ _ ((same_endpoint-Decides a.endpoint b.endpoint).1 (k.0 ∙ sym l.0)) ((same_address-Decides a.remote b.remote).1 (k.1 ∙ sym l.1))) (eq-eqb a.remote_port b.remote_port (k.2 ∙ sym l.2)) in
      let both : true ≡ false = sym same ∙ other in cc

  pub one-peer : (t : Table) → AreTabled t → AtMostOne (is_peer_of e remote port) t.peers
  one-peer t tabled = one-of (is_peer_of e remote port) t.peers (two-weaker AreFellows (λ a b. is_peer_of e remote port a ≡ true → is_peer_of e remote port b ≡ true → ⊥) (λ a b fellows. keys-apart a b fellows.keys) t.peers tabled.peers.fellows)

-- whether one that is live covers an endpoint
pub covered-is : (t : Table) (m : ℕ) (e : Endpoint) → AreTabled t → (o : Option MapLease) → map_covering e t.maps ≡ o → some_live_map m o ≡ is_some (find (λ l. covers l e) (live t m).maps)
covered-is t m e tabled None h = ap is_some (sym (none-within (λ l. covers l e) (λ l. nat_lt m l.expiry) t.maps h))
covered-is t m e tabled (Some l) h = step (nat_lt m l.expiry) refl
  where
    step : (b : Bool) → nat_lt m l.expiry ≡ b → b ≡ is_some (find (λ x. covers x e) (live t m).maps)
    step true alive = ap is_some (sym (one-within (λ x. covers x e) (λ x. nat_lt m x.expiry) t.maps l h alive))
    step false over = ap is_some (sym (gone-within (λ x. covers x e) (λ x. nat_lt m x.expiry) t.maps l (one-covers t e tabled) h over))

-- ---- leases that are live at a moment, of those that are live at an earlier one

live-step : (last m e : ℕ) → last ≤ m → (b : Bool) → nat_lt last e ≡ b → (nat_lt m e && b) ≡ nat_lt m e
live-step last m e later true h = and_last (nat_lt m e)
  where
    and_last : (c : Bool) → (c && true) ≡ c
    and_last true = refl
    and_last false = refl
live-step last m e later false h =
    let over : nat_lt m e ≡ false = le-ltb m e (omega (arith, later, ltb-false last e h)) in
    ap (λ (c : Bool). c && false) over ∙ sym over

filter-twice : {X : Type 0} (p q : X → Bool) (xs : List X) → ((x : X) → (p x && q x) ≡ p x) → filter p (filter q xs) ≡ filter p xs
filter-twice p q [] h = refl
filter-twice {X} p q (x ∷ xs) h = step (p x) (q x) refl refl (h x) (filter-twice p q xs h)
  where
    step : (a b : Bool) → p x ≡ a → q x ≡ b → (a && b) ≡ a → filter p (filter q xs) ≡ filter p xs → filter p (cond b (x ∷ filter q xs) (filter q xs)) ≡ cond a (x ∷ filter p xs) (filter p xs)
    step true true e f k rest = cond-true (p x) (x ∷ filter p (filter q xs)) (filter p (filter q xs)) e ∙ ap (λ (ys : List X). x ∷ ys) rest
    step true false e f k rest = absurd (let no : false ≡ true = k in cc)
    step false true e f k rest = cond-false (p x) (x ∷ filter p (filter q xs)) (filter p (filter q xs)) e ∙ rest
    step false false e f k rest = rest

pub live-live : (t : Table) (last m : ℕ) → last ≤ m → live (live t last) m ≡ live t m
live-live t last m later =
    ap (λ (ls : List MapLease). record { maps = ls; peers = filter (λ (l : PeerLease). nat_lt m l.expiry) (filter (λ (l : PeerLease). nat_lt last l.expiry) t.peers) })
    (filter-twice (λ (l : MapLease). nat_lt m l.expiry) (λ (l : MapLease). nat_lt last l.expiry) t.maps (λ l. live-step last m l.expiry later (nat_lt last l.expiry) refl))
    ∙ ap (λ (ls : List PeerLease). record { maps = filter (λ (l : MapLease). nat_lt m l.expiry) t.maps; peers = ls })
    (filter-twice (λ (l : PeerLease). nat_lt m l.expiry) (λ (l : PeerLease). nat_lt last l.expiry) t.peers (λ l. live-step last m l.expiry later (nat_lt last l.expiry) refl))

-- ---- a MAP lease by its key

module _ (t : Table) (m : ℕ) (e : Endpoint) (tabled : AreTabled t) where
  abbrev living : List MapLease
  living = filter (λ l. nat_lt m l.expiry) t.maps

  pub key-none : None ≡ find (λ l. covers l e) living → None ≡ find (is_map_of e) living
  key-none h = sym (all-none (is_map_of e) living (All-from_IsIn (λ l. is_map_of e l ≡ false) living (λ l i.
      other_key l e (All-IsIn IsMapLease t.maps l tabled.maps.leases (IsIn-filter (λ (x : MapLease). nat_lt m x.expiry) t.maps l i).0).ports.some
      (All-IsIn (λ x. covers x e ≡ false) living l (find-none (λ x. covers x e) living (sym h)) i))))

  key-found : (l : MapLease) → IsIn l living → is_map_of e l ≡ true → (o : Option MapLease) → find (is_map_of e) living ≡ o → Some l ≡ o
  key-found l i k None is = absurd (unlike (is_map_of e l) k (All-IsIn (λ x. is_map_of e x ≡ false) living l (find-none (is_map_of e) living is) i))
  key-found l i k (Some x) is = let f = find-some (is_map_of e) living x is in ap Some (one-of_part (is_map_of e) (λ (y : MapLease). nat_lt m y.expiry) t.maps (one-key t e tabled) l x i f.0 k f.1)

  pub key-some : (l : MapLease) → Some l ≡ find (λ x. covers x e) living → is_map_of e l ≡ true → Some l ≡ find (is_map_of e) living
  key-some l h k = key-found l (find-some (λ x. covers x e) living l (sym h)).0 k (find (is_map_of e) living) refl

  pub key-other : (l : MapLease) → Some l ≡ find (λ x. covers x e) living → is_map_of e l ≡ false → None ≡ find (is_map_of e) living
  key-other l h k =
      let f = find-some (λ x. covers x e) living l (sym h) in
      sym (all-none (is_map_of e) living (All-from_IsIn (λ x. is_map_of e x ≡ false) living (λ x i. false_from_ne_true (is_map_of e x) (λ mine.
      let some = (All-IsIn IsMapLease t.maps x tabled.maps.leases (IsIn-filter (λ (y : MapLease). nat_lt m y.expiry) t.maps x i).0).ports.some in
      let c : covers x e ≡ true = subst (λ (z : Endpoint). covers x z ≡ true) ((same_endpoint-Decides (first_endpoint x) e).0 mine) (covers-first x some) in
      let same : x ≡ l = one-of_part (λ y. covers y e) (λ (y : MapLease). nat_lt m y.expiry) t.maps (one-covers t e tabled) x l i f.0 c f.1 in
      unlike (is_map_of e l) (ap (is_map_of e) (sym same) ∙ mine) k))))

-- ---- ports of remotes

opens-parts : (protocol : Protocol) (n : ℕ) (remote : Address) (remote_port : ℕ) (l : PeerLease) → opens protocol n remote remote_port l ≡ (is_port protocol n (peer_owner l) && is_with remote remote_port l)
opens-parts protocol n remote remote_port l = group (same_protocol l.endpoint.protocol protocol) (l.external == n) (same_address l.remote remote) (l.remote_port == remote_port)
  where
    group : (a b c d : Bool) → (a && b && c && d) ≡ ((a && b) && (c && d))
    group true true c d = refl
    group true false c d = refl
    group false b c d = refl

find-both : {X : Type 0} (p q r : X → Bool) (xs : List X) → ((x : X) → r x ≡ (p x && q x)) → find p (filter q xs) ≡ find r xs
find-both p q r [] h = refl
find-both p q r (x ∷ xs) h = step (p x) (q x) refl refl (find-both p q r xs h)
  where
    step : (b c : Bool) → p x ≡ b → q x ≡ c → find p (filter q xs) ≡ find r xs → find p (cond c (x ∷ filter q xs) (filter q xs)) ≡ cond (r x) (Some x) (find r xs)
    step true true e f rest = cond-true (p x) (Some x) (find p (filter q xs)) e ∙ sym (cond-true (r x) (Some x) (find r xs) (h x ∙ and_from (p x) (q x) e f))
    step false true e f rest = cond-false (p x) (Some x) (find p (filter q xs)) e ∙ rest ∙ sym (cond-false (r x) (Some x) (find r xs) (h x ∙ ap (λ b. b && q x) e))
    step true false e f rest = rest ∙ sym (cond-false (r x) (Some x) (find r xs) (h x ∙ ap (λ b. b && q x) e ∙ f))
    step false false e f rest = rest ∙ sym (cond-false (r x) (Some x) (find r xs) (h x ∙ ap (λ b. b && q x) e))

module _ (protocol : Protocol) (n : ℕ) (remote : Address) (remote_port : ℕ) where
  -- the leases of a port with one remote, among some
  pub opening-find : (ls : List PeerLease) → find (opens protocol n remote remote_port) ls ≡ find (λ l. is_port protocol n (peer_owner l)) (filter (is_with remote remote_port) ls)
  opening-find ls = sym (find-both (λ l. is_port protocol n (peer_owner l)) (is_with remote remote_port) (opens protocol n remote remote_port) ls (opens-parts protocol n remote remote_port))

  pub one-opens : (t : Table) → AreTabled t → AtMostOne (opens protocol n remote remote_port) t.peers
  one-opens t tabled = λ a b i j s u.
      let p = and_parts _ _ (sym (opens-parts protocol n remote remote_port a) ∙ s) in let q = and_parts _ _ (sym (opens-parts protocol n remote remote_port b) ∙ u) in
      let pp = and_parts _ _ p.0 in let pw = and_parts _ _ p.1 in let qp = and_parts _ _ q.0 in let qw = and_parts _ _ q.1 in
      let protocols : a.endpoint.protocol ≡ b.endpoint.protocol = (same_protocol-Decides a.endpoint.protocol protocol).0 pp.0 ∙ sym ((same_protocol-Decides b.endpoint.protocol protocol).0 qp.0) in
      let externals : a.external ≡ b.external = eqb-true a.external n pp.1 ∙ sym (eqb-true b.external n qp.1) in
      let same : a.endpoint ≡ b.endpoint = (two_share t.peers a b tabled.peers.fellows i j).endpoint protocols externals in
      one-peer b.endpoint remote remote_port t tabled a b i j
      (and_from _ _ (and_from _ _ ((same_endpoint-Decides a.endpoint b.endpoint).1 same) pw.0) pw.1)
      (and_from _ _ (and_from _ _ ((same_endpoint-Decides b.endpoint b.endpoint).1 refl) qw.0) qw.1)

-- within two filters, of which one fails
pub gone-within_both : {X : Type 0} (r p q : X → Bool) (xs : List X) (x : X) → AtMostOne r xs → find r xs ≡ Some x → (q x && p x) ≡ false → find r (filter p (filter q xs)) ≡ None
gone-within_both r p q xs x one h k = step (q x) refl k
  where
    step : (b : Bool) → q x ≡ b → (b && p x) ≡ false → find r (filter p (filter q xs)) ≡ None
    step true e fails = gone-within r p (filter q xs) x (one-of_part r q xs one) (one-within r q xs x h e) fails
    step false e fails = none-within r p (filter q xs) (gone-within r q xs x one h e)

-- ---- the first of a range

later_or_same : (a p : ℕ) → a ≤ p → (a ≡ p) ⊎ (a + 1 ≤ p)
later_or_same a p h = step (a == p) refl
  where
    step : (b : Bool) → (a == p) ≡ b → (a ≡ p) ⊎ (a + 1 ≤ p)
    step true e = inl (eqb-true a p e)
    step false e = inr (let other = eqb-false a p e in omega (arith, h, other))

pub first-in_range : (test : ℕ → Bool) (a n p : ℕ) → a ≤ p → p < a + n → test p ≡ true → ((o : ℕ) → a ≤ o → o < p → test o ≡ false) → Some p ≡ find test (range_with_len a n)
first-in_range test a zero p from below passes others = absurd (omega (arith, from, below))
first-in_range test a (suc n) p from below passes others =
    elim (later_or_same a p from) [
      | inl same ↦ (let here : test a ≡ true = ap test same ∙ passes in ap Some (sym same) ∙ sym (cond-true (test a) (Some a) (find test (range_with_len (a + 1) n)) here))
      | inr later ↦ first-in_range test (a + 1) n p later (omega (arith, below)) passes (λ o lo hi. others o (omega (arith, lo)) hi) ∙ sym (cond-false (test a) (Some a) (find test (range_with_len (a + 1) n)) (others a (omega arith) (omega (arith, later))))
    ]

pub none-in_range : (test : ℕ → Bool) (a n : ℕ) → ((o : ℕ) → a ≤ o → test o ≡ false) → None ≡ find test (range_with_len a n)
none-in_range test a zero h = refl
none-in_range test a (suc n) h = none-in_range test (a + 1) n (λ o lo. h o (omega (arith, lo))) ∙ sym (cond-false (test a) (Some a) (find test (range_with_len (a + 1) n)) (h a (omega arith)))
