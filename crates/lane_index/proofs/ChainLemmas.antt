-- The chains of cells: one more cell, one that is taken out, and the way along a chain.
use Rattle.std.proofs.Common.{◌≡◌, ℕ, zero, suc, ◌+◌, ◌-◌, ◌<◌, ◌≤◌, ◌⊎◌, ◌==◌, not, Bool, true, false, List, [], ◌∷◌, ◌++◌, map, length, take, slice_get, slice_index, slice_set, get_or, set, Some, None, refl, sym, ap, ◌∙◌, subst, inl, inr, arith, get_or-set_same, length-append}
use Rattle.std.proofs.lemmas.Bool.{and_parts, and_from, cond_both, cond-true, cond-false, eqb-true, eq-eqb, false_from_ne_true}
use Rattle.std.proofs.lemmas.List.{take-append-le, take-set-le, length-set, get_or_append_left, get_or-append_right, get_or-set_other}
use Rattle.std.proofs.lemmas.Option.{slice_get_within}
use Rattle.std.proofs.Math.Seq.{take-append_seam, take-set-lt}
use native.Mathlib.Decide.{ℕ_discrete}
use mathlib.Core.Logic.{dite}
use Rattle.pcp_base.specs.Tables.{first_endpoint, is_map_of, is_peer_of}
use Rattle.pcp_base.proofs.Same.{same_address-Decides, same_endpoint-Decides}
use Rattle.lane_index.specs.declared.keys.TheConstants.{BUCKETS}
use Rattle.lane_index.specs.declared.links.TheConstants.{PORT_SLOTS}
use Rattle.lane_index.specs.declared.keys.LeaseKey.{LeaseKey}
use Rattle.lane_index.specs.declared.keys.LeaseKey.TheVariants.{OfMap, OfPeer}
use Rattle.lane_index.specs.declared.cells.Cell.{Cell}
use Rattle.lane_index.specs.declared.cells.Cell.TheVariants.{Mapping, Peering}
use Rattle.lane_index.specs.Applying.{ended, finished}
use Rattle.lane_index.specs.Keys.{bucket_of, key_of, has_key, is_keyed}
use Rattle.lane_index.specs.Slots.{is_ended, peer_slot, stands_in}
use Rattle.lane_index.specs.Links.{TellsLast, ChainLists, joined, skipped, relinked, AreChained}
use Rattle.lane_index.specs.Chains.{HasPassing, IsTold, IsEnding}
use Rattle.lane_index.proofs.LinkLemmas.{snoc-get, last-none, last-more, last-here}

unlike : {b : Bool} → b ≡ true → b ≡ false → ⊥
unlike h k = let never : true ≡ false = sym h ∙ k in cc

-- ---- one cell

keyed-bucket : (bucket : ℕ) (c : Cell) → is_keyed bucket c ≡ true → bucket_of (key_of c) ≡ bucket
keyed-bucket bucket c h = eqb-true (bucket_of (key_of c)) bucket (and_parts (bucket_of (key_of c) == bucket) (not (is_ended c)) h).0

pub keyed-open : (bucket : ℕ) (c : Cell) → is_keyed bucket c ≡ true → is_ended c ≡ false
keyed-open bucket c h = false_from_ne_true (is_ended c) (λ over. absurd (unlike (and_parts (bucket_of (key_of c) == bucket) (not (is_ended c)) h).1 (ap not over)))

pub keyed-ended : (c : Cell) → is_ended c ≡ true → (bucket : ℕ) → is_keyed bucket c ≡ false
keyed-ended c h bucket = false_from_ne_true (is_keyed bucket c) (λ yes. absurd (unlike h (keyed-open bucket c yes)))

pub keyed-mine : (c : Cell) → is_ended c ≡ false → is_keyed (bucket_of (key_of c)) c ≡ true
keyed-mine c h = and_from (bucket_of (key_of c) == bucket_of (key_of c)) (not (is_ended c)) (eq-eqb (bucket_of (key_of c)) (bucket_of (key_of c)) refl) (ap not h)

-- a cell stands in one chain
pub keyed-once : (b d : ℕ) (c : Cell) → is_keyed b c ≡ true → is_keyed d c ≡ true → b ≡ d
keyed-once b d c h k = sym (keyed-bucket b c h) ∙ keyed-bucket d c k

pub stands-once : (b d : ℕ) (c : Cell) → stands_in b c ≡ true → stands_in d c ≡ true → b ≡ d
stands-once b d (Mapping l) h k = absurd (let never : false ≡ true = h in cc)
stands-once b d (Peering l) h k =
    sym (eqb-true (peer_slot l) b (and_parts (peer_slot l == b) (not (l.expiry == 0)) h).0) ∙ eqb-true (peer_slot l) d (and_parts (peer_slot l == d) (not (l.expiry == 0)) k).0

pub stands-finished : (c : Cell) (slot : ℕ) → stands_in slot (finished c) ≡ false
stands-finished (Mapping l) slot = refl
stands-finished (Peering l) slot = false_from_ne_true (stands_in slot (finished (Peering l))) (λ yes.
    absurd (let never : false ≡ true = (and_parts (peer_slot l == slot) false yes).1 in cc))

pub finished-ended : (c : Cell) → is_ended (finished c) ≡ true
finished-ended (Mapping l) = refl
finished-ended (Peering l) = refl

has-key-is : (key : LeaseKey) (c : Cell) → has_key key c ≡ true → key_of c ≡ key
has-key-is (OfMap e) (Mapping l) h = ap OfMap ((same_endpoint-Decides (first_endpoint l) e).0 h)
has-key-is (OfMap e) (Peering l) h = absurd (let never : false ≡ true = h in cc)
has-key-is (OfPeer e remote port) (Mapping l) h = absurd (let never : false ≡ true = h in cc)
has-key-is (OfPeer e remote port) (Peering l) h =
    let a = and_parts _ _ h in let b = and_parts _ _ a.0 in
    let ends : l.endpoint ≡ e = (same_endpoint-Decides l.endpoint e).0 b.0 in
    let remotes : l.remote ≡ remote = (same_address-Decides l.remote remote).0 b.1 in
    let ports : l.remote_port ≡ port = eqb-true l.remote_port port a.1 in
    cc (ends, remotes, ports)

-- what hasn't the key stays
ended-other : (key : LeaseKey) (c : Cell) → has_key key c ≡ false → ended key c ≡ c
ended-other (OfMap e) (Mapping l) h = cond-false (is_map_of e l) (Mapping (record l { expiry = 0 })) (Mapping l) h
ended-other (OfMap e) (Peering l) h = refl
ended-other (OfPeer e remote port) (Mapping l) h = refl
ended-other (OfPeer e remote port) (Peering l) h = cond-false (is_peer_of e remote port l) (Peering (record l { expiry = 0 })) (Peering l) h

-- what has it is ended
ended-is : (key : LeaseKey) (c : Cell) → has_key key c ≡ true → ended key c ≡ finished c
ended-is (OfMap e) (Mapping l) h = cond-true (is_map_of e l) (Mapping (record l { expiry = 0 })) (Mapping l) h
ended-is (OfMap e) (Peering l) h = absurd (let never : false ≡ true = h in cc)
ended-is (OfPeer e remote port) (Mapping l) h = absurd (let never : false ≡ true = h in cc)
ended-is (OfPeer e remote port) (Peering l) h = cond-true (is_peer_of e remote port l) (Peering (record l { expiry = 0 })) (Peering l) h

-- what was ended before stays
ended-again : (key : LeaseKey) (c : Cell) → is_ended c ≡ true → ended key c ≡ c
ended-again (OfMap e) (Mapping l) h =
    let none : l.expiry ≡ 0 = eqb-true l.expiry 0 h in
    cond_both (is_map_of e l) (Mapping (record l { expiry = 0 })) (Mapping l) (λ d. d ≡ Mapping l) (λ _. ap (λ n. Mapping (record l { expiry = n })) (sym none)) (λ _. refl)
ended-again (OfMap e) (Peering l) h = refl
ended-again (OfPeer e remote port) (Mapping l) h = refl
ended-again (OfPeer e remote port) (Peering l) h =
    let none : l.expiry ≡ 0 = eqb-true l.expiry 0 h in
    cond_both (is_peer_of e remote port l) (Peering (record l { expiry = 0 })) (Peering l) (λ d. d ≡ Peering l) (λ _. ap (λ n. Peering (record l { expiry = n })) (sym none)) (λ _. refl)

-- what isn't in the chain of the key stays
ended-outside : (key : LeaseKey) (c : Cell) → is_keyed (bucket_of key) c ≡ false → ended key c ≡ c
ended-outside key c h = step (has_key key c) (is_ended c) refl refl
  where
    step : (a b : Bool) → has_key key c ≡ a → is_ended c ≡ b → ended key c ≡ c
    step false b is was = ended-other key c is
    step true true is was = ended-again key c was
    step true false is was = absurd (unlike (subst (λ (k : LeaseKey). is_keyed (bucket_of k) c ≡ true) (has-key-is key c is) (keyed-mine c was)) h)

-- ---- places

set-here : {X : Type 0} (xs : List X) (i : ℕ) (y : X) → i < length xs → slice_get (set xs i y) i ≡ Some y
set-here [] i y h = absurd (omega (arith, h))
set-here (x ∷ xs) zero y h = refl
set-here (x ∷ xs) (suc i) y h = set-here xs i y (omega (arith, h))

set-there : {X : Type 0} (xs : List X) (i j : ℕ) (y : X) → (j ≡ i → ⊥) → slice_get (set xs i y) j ≡ slice_get xs j
set-there [] i j y h = refl
set-there (x ∷ xs) zero zero y h = absurd (h refl)
set-there (x ∷ xs) zero (suc j) y h = refl
set-there (x ∷ xs) (suc i) zero y h = refl
set-there (x ∷ xs) (suc i) (suc j) y h = set-there xs i j y (λ e. h (ap suc e))

take-here : {X : Type 0} (xs : List X) (n i : ℕ) (x : X) → slice_get (take n xs) i ≡ Some x → (i < n) × (slice_get xs i ≡ Some x)
take-here [] zero i x h = absurd (let never : None ≡ Some x = h in cc)
take-here [] (suc n) i x h = absurd (let never : None ≡ Some x = h in cc)
take-here (y ∷ ys) zero i x h = absurd (let never : None ≡ Some x = h in cc)
take-here (y ∷ ys) (suc n) zero x h = (omega arith, h)
take-here (y ∷ ys) (suc n) (suc i) x h = let r = take-here ys n i x h in (omega (arith, r.0), r.1)

here-take : {X : Type 0} (xs : List X) (n i : ℕ) (x : X) → i < n → slice_get xs i ≡ Some x → slice_get (take n xs) i ≡ Some x
here-take [] n i x lt h = absurd (let never : None ≡ Some x = h in cc)
here-take (y ∷ ys) zero i x lt h = absurd (omega (arith, lt))
here-take (y ∷ ys) (suc n) zero x lt h = h
here-take (y ∷ ys) (suc n) (suc i) x lt h = here-take ys n i x (omega (arith, lt)) h

take-take-le : {X : Type 0} (xs : List X) (n k : ℕ) → n ≤ k → take n (take k xs) ≡ take n xs
take-take-le xs zero k le = refl
take-take-le xs (suc n) zero le = absurd (omega (arith, le))
take-take-le [] (suc n) (suc k) le = refl
take-take-le (x ∷ xs) (suc n) (suc k) le = ap (λ ys. x ∷ ys) (take-take-le xs n k (omega (arith, le)))

same-at-all : {X : Type 0} (f : X → X) (xs ys : List X) → length ys ≡ length xs → ((i : ℕ) (x : X) → slice_get xs i ≡ Some x → slice_get ys i ≡ Some (f x)) → ys ≡ map f xs
same-at-all f [] [] long each = refl
same-at-all f [] (y ∷ ys) long each = absurd (omega (arith, long))
same-at-all f (x ∷ xs) [] long each = absurd (omega (arith, long))
same-at-all f (x ∷ xs) (y ∷ ys) long each =
    let heads : Some y ≡ Some (f x) = each 0 x refl in
    let head : y ≡ f x = (cc) in
    let rest : ys ≡ map f xs = same-at-all f xs ys (omega (arith, long)) (λ i z h. each (suc i) z h) in
    cc (head, rest)

order : (i j : ℕ) → (i < j) ⊎ ((i ≡ j) ⊎ (j < i))
order zero zero = inr (inl refl)
order zero (suc j) = inl (omega arith)
order (suc i) zero = inr (inr (omega arith))
order (suc i) (suc j) = elim (order i j) [ inl a ↦ inl (omega (arith, a)) | inr r ↦ elim r [ inl b ↦ inr (inl (ap suc b)) | inr c ↦ inr (inr (omega (arith, c))) ] ]

-- ---- one that is taken out

module _ {X : Type 0} (p : X → Bool) (xs : List X) (i : ℕ) (y : X) (outside : p y ≡ false) where
  -- another one is the last
  pub last-keeps : (n : ℕ) → (n ≡ suc i → ⊥) → TellsLast p xs n → TellsLast p (set xs i y) n
  last-keeps n other h = record { later = later; here = here }
    where
      later : (j : ℕ) (x : X) → n ≤ j → slice_get (set xs i y) j ≡ Some x → p x ≡ false
      later j x le g = dite (ℕ_discrete j i)
          (λ same. (let within = slice_get_within (set xs i y) j x g in
          let inside : i < length xs = omega (arith, within, same, length-set xs i y) in
          let both : Some y ≡ Some x = sym (set-here xs i y inside) ∙ subst (λ k. slice_get (set xs i y) k ≡ Some x) same g in
          let one : y ≡ x = (cc) in subst (λ z. p z ≡ false) one outside))
          (λ apart. h.later j x le (sym (set-there xs i j y apart) ∙ g))

      here : (j : ℕ) → n ≡ suc j → (x : X) × (slice_get (set xs i y) j ≡ Some x) × (p x ≡ true)
      here j e = let r = h.here j e in (r.0, set-there xs i j y (λ same. other (e ∙ ap suc same)) ∙ r.1, r.2)

  -- it is the last itself: then the one before it is
  pub last-leaves : (n : ℕ) → TellsLast p xs (suc i) → TellsLast p (take i xs) n → TellsLast p (set xs i y) n
  last-leaves n mine before = record { later = later; here = here }
    where
      later : (j : ℕ) (x : X) → n ≤ j → slice_get (set xs i y) j ≡ Some x → p x ≡ false
      later j x le g = elim (order j i) [
        | inl below ↦ before.later j x le (here-take xs i j x below (sym (set-there xs i j y (λ e. omega (arith, e, below))) ∙ g))
        | inr rest ↦ elim rest [
          | inl same ↦ (let within = slice_get_within (set xs i y) j x g in
              let inside : i < length xs = omega (arith, within, same, length-set xs i y) in
              let both : Some y ≡ Some x = sym (set-here xs i y inside) ∙ subst (λ k. slice_get (set xs i y) k ≡ Some x) same g in
              let one : y ≡ x = (cc) in subst (λ z. p z ≡ false) one outside)
          | inr above ↦ mine.later j x (omega (arith, above)) (sym (set-there xs i j y (λ e. omega (arith, e, above))) ∙ g)
        ]
      ]

      here : (j : ℕ) → n ≡ suc j → (x : X) × (slice_get (set xs i y) j ≡ Some x) × (p x ≡ true)
      here j e =
          let r = before.here j e in let t = take-here xs i j r.0 r.1 in
          (r.0, set-there xs i j y (λ same. let lt = t.0 in omega (arith, same, lt)) ∙ t.1, r.2)

-- ---- one more cell

module _ (count : ℕ) (p : ℕ → Cell → Bool) where
  pub chained-none : (c : ChainLists) → c.older ≡ [] → length c.heads ≡ count → ((k : ℕ) → slice_index c.heads k ≡ 0) → AreChained count p [] c
  chained-none c none wide h = record {
    ends = λ head _. subst (λ (n : ℕ). TellsLast (p head) [] n) (sym (h head)) (last-none (p head));
    links = λ i x head g _. absurd (let never : None ≡ Some x = g in cc);
    long = ap length none;
    wide = wide;
  }

  module _ (cells : List Cell) (c : ChainLists) (h : AreChained count p cells c) (y : Cell) where
    -- the cells before it tell what they told, and the new one n
    links-more : (n : ℕ) → ((head : ℕ) → p head y ≡ true → TellsLast (p head) cells n)
        → (i : ℕ) (x : Cell) (head : ℕ) → slice_get (cells ++ y ∷ []) i ≡ Some x → p head x ≡ true
        → TellsLast (p head) (take i (cells ++ y ∷ [])) (slice_index (c.older ++ n ∷ []) i)
    links-more n mine i x head g passes = elim (snoc-get cells y i x g) [
      | inl a ↦ (let within = slice_get_within cells i x a in
          let b : get_or (c.older ++ n ∷ []) i 0 ≡ get_or c.older i 0 = get_or_append_left c.older (n ∷ []) 0 i (omega (arith, within, h.long)) in
          let t : take i (cells ++ y ∷ []) ≡ take i cells = take-append-le i cells (y ∷ []) (omega (arith, within)) in
          rw (b, t) (h.links i x head a passes))
      | inr b ↦ (let at : i ≡ length cells = b.0 in
          let n-is : get_or (c.older ++ n ∷ []) i 0 ≡ n = get_or-append_right c.older (n ∷ []) i i 0 (h.long ∙ sym at) (omega arith) ∙ first (i - i) (omega arith) in
          let t : take i (cells ++ y ∷ []) ≡ cells = ap (λ k. take k (cells ++ y ∷ [])) at ∙ take-append_seam cells (y ∷ []) in
          rw (n-is, t) (mine head (subst (λ (z : Cell). p head z ≡ true) (sym b.1) passes)))
    ]
      where
        first : (k : ℕ) → k ≡ 0 → get_or (n ∷ []) k 0 ≡ n
        first zero e = refl
        first (suc k) e = absurd (omega (arith, e))

    longer : (n : ℕ) → length (c.older ++ n ∷ []) ≡ length (cells ++ y ∷ [])
    longer n = omega (arith, h.long, length-append c.older (n ∷ []), length-append cells (y ∷ []))

    pub chained-skip : ((head : ℕ) → p head y ≡ false) → AreChained count p (cells ++ y ∷ []) (skipped c)
    chained-skip outside = record {
      ends = λ head inside. last-more (p head) cells y (slice_index c.heads head) (h.ends head inside) (outside head);
      links = links-more 0 (λ head passes. absurd (unlike passes (outside head)));
      long = longer 0;
      wide = h.wide;
    }

    pub chained-join : ((b d : ℕ) (z : Cell) → p b z ≡ true → p d z ≡ true → b ≡ d) → (head : ℕ) → head < count → p head y ≡ true → AreChained count p (cells ++ y ∷ []) (joined head c)
    chained-join once head inside passes = record {
      ends = λ b within. dite (ℕ_discrete b head) (mine b) (other b within);
      links = links-more (slice_index c.heads head) (λ b also.
          subst (λ (k : ℕ). TellsLast (p k) cells (slice_index c.heads head)) (once head b y passes also) (h.ends head inside));
      long = longer (slice_index c.heads head);
      wide = length-set c.heads head (length c.older + 1) ∙ h.wide;
    }
      where
        mine : (b : ℕ) → b ≡ head → TellsLast (p b) (cells ++ y ∷ []) (slice_index (slice_set c.heads head (length c.older + 1)) b)
        mine b same =
            let now : get_or (set c.heads head (length c.older + 1)) b 0 ≡ length c.older + 1 = ap (λ k. get_or (set c.heads head (length c.older + 1)) k 0) same ∙ get_or-set_same c.heads head (length c.older + 1) 0 (omega (arith, inside, h.wide)) in
            subst (λ (n : ℕ). TellsLast (p b) (cells ++ y ∷ []) n) (sym now)
            (last-here (p b) cells y (length c.older + 1) (ap (λ (k : ℕ). k + 1) h.long) (subst (λ (k : ℕ). p k y ≡ true) (sym same) passes))

        other : (b : ℕ) → b < count → (b ≡ head → ⊥) → TellsLast (p b) (cells ++ y ∷ []) (slice_index (slice_set c.heads head (length c.older + 1)) b)
        other b within apart =
            let now : get_or (set c.heads head (length c.older + 1)) b 0 ≡ get_or c.heads b 0 = get_or-set_other c.heads head b (length c.older + 1) 0 apart in
            subst (λ (n : ℕ). TellsLast (p b) (cells ++ y ∷ []) n) (sym now)
            (last-more (p b) cells y (slice_index c.heads b) (h.ends b within) (false_from_ne_true (p b y) (λ yes. absurd (apart (once b head y yes passes)))))

  -- ---- a cell that changes

  -- it is in no chain, before and after
  pub chained-outside : (cells : List Cell) (c : ChainLists) → AreChained count p cells c → (i : ℕ) (x y : Cell) → slice_get cells i ≡ Some x → ((b : ℕ) → p b x ≡ false) → ((b : ℕ) → p b y ≡ false) → AreChained count p (set cells i y) c
  chained-outside cells c h i x y there before after = record {
    ends = λ b inside. last-keeps (p b) cells i y (after b) (slice_index c.heads b) (untold b (slice_index c.heads b) cells there (h.ends b inside)) (h.ends b inside);
    links = λ j d b g passes. link j d b g passes;
    long = h.long ∙ sym (length-set cells i y);
    wide = h.wide;
  }
    where
      untold : (b n : ℕ) (ks : List Cell) → slice_get ks i ≡ Some x → TellsLast (p b) ks n → n ≡ suc i → ⊥
      untold b n ks at tells e =
          let r = tells.here i e in
          let both : Some x ≡ Some r.0 = sym at ∙ r.1 in
          let one : r.0 ≡ x = (cc) in
          unlike (subst (λ (z : Cell). p b z ≡ true) one r.2) (before b)

      link : (j : ℕ) (d : Cell) (b : ℕ) → slice_get (set cells i y) j ≡ Some d → p b d ≡ true → TellsLast (p b) (take j (set cells i y)) (slice_index c.older j)
      link j d b g passes = elim (order j i) [
        | inl below ↦ (let was : slice_get cells j ≡ Some d = sym (set-there cells i j y (λ e. omega (arith, e, below))) ∙ g in
            rw (take-set-le j cells i y (omega (arith, below))) (h.links j d b was passes))
        | inr rest ↦ elim rest [
          | inl same ↦ (let w = slice_get_within cells i x there in
              let both : Some y ≡ Some d = sym (set-here cells i y w) ∙ subst (λ (k : ℕ). slice_get (set cells i y) k ≡ Some d) same g in
              let one : y ≡ d = (cc) in
              absurd (unlike (subst (λ (z : Cell). p b z ≡ true) (sym one) passes) (after b)))
          | inr above ↦ (let was : slice_get cells j ≡ Some d = sym (set-there cells i j y (λ e. omega (arith, e, above))) ∙ g in
              let tells = h.links j d b was passes in
              rw (take-set-lt j cells i y above) (last-keeps (p b) (take j cells) i y (after b) (slice_index c.older j) (untold b (slice_index c.older j) (take j cells) (here-take cells j i x above there) tells) tells))
        ]
      ]

  -- it leaves its chain
  module _ (once : (b d : ℕ) (z : Cell) → p b z ≡ true → p d z ≡ true → b ≡ d) (cells : List Cell) (c : ChainLists) (h : AreChained count p cells c) (head : ℕ) (inside : head < count)
      (i : ℕ) (x : Cell) (there : slice_get cells i ≡ Some x) (passes : p head x ≡ true) (y : Cell) (out : (b : ℕ) → p b y ≡ false) where
    abbrev next : ℕ
    next = slice_index c.older i

    abbrev after : List Cell
    after = set cells i y

    within : i < length cells
    within = slice_get_within cells i x there

    -- no other chain has it
    apart : (b : ℕ) (n : ℕ) (ks : List Cell) → slice_get ks i ≡ Some x → (b ≡ head → ⊥) → TellsLast (p b) ks n → n ≡ suc i → ⊥
    apart b n ks at other tells e =
        let r = tells.here i e in
        let both : Some x ≡ Some r.0 = sym at ∙ r.1 in
        let one : r.0 ≡ x = (cc) in
        other (once b head x (subst (λ (z : Cell). p b z ≡ true) one r.2) passes)

    still-there : (j : ℕ) → i < j → slice_get (take j cells) i ≡ Some x
    still-there j lt = here-take cells j i x lt there

    before-it : (j : ℕ) → i < j → TellsLast (p head) (take i (take j cells)) next
    before-it j lt = subst (λ (ks : List Cell). TellsLast (p head) ks next) (sym (take-take-le cells i j (omega (arith, lt)))) (h.links i x head there passes)

    -- the cell at j isn't the one that leaves
    not-it : (j : ℕ) (d : Cell) (b : ℕ) → slice_get after j ≡ Some d → p b d ≡ true → (j ≡ i → ⊥)
    not-it j d b g st same =
        let both : Some y ≡ Some d = sym (set-here cells i y within) ∙ subst (λ (k : ℕ). slice_get after k ≡ Some d) same g in
        let one : y ≡ d = (cc) in
        unlike (subst (λ (z : Cell). p b z ≡ true) (sym one) st) (out b)

    was : (j : ℕ) (d : Cell) (b : ℕ) → slice_get after j ≡ Some d → p b d ≡ true → slice_get cells j ≡ Some d
    was j d b g st = sym (set-there cells i j y (not-it j d b g st)) ∙ g

    out-end : (b : ℕ) → b < count → (slice_index c.heads b ≡ suc i → ⊥) → TellsLast (p b) after (slice_index c.heads b)
    out-end b in-b other = last-keeps (p b) cells i y (out b) (slice_index c.heads b) other (h.ends b in-b)

    -- a cell whose link stays
    out-link : (j : ℕ) (d : Cell) (b : ℕ) → slice_get after j ≡ Some d → p b d ≡ true → (i < j → slice_index c.older j ≡ suc i → ⊥)
        → TellsLast (p b) (take j after) (slice_index c.older j)
    out-link j d b g st other = elim (order j i) [
      | inl below ↦ rw (take-set-le j cells i y (omega (arith, below))) (h.links j d b (was j d b g st) st)
      | inr rest ↦ elim rest [
        | inl same ↦ absurd (not-it j d b g st same)
        | inr above ↦ rw (take-set-lt j cells i y above) (last-keeps (p b) (take j cells) i y (out b) (slice_index c.older j) (other above) (h.links j d b (was j d b g st) st))
      ]
    ]

    -- where the head tells it
    out-first : slice_index c.heads head ≡ suc i → AreChained count p after (record c { heads = slice_set c.heads head next })
    out-first told = record {
      ends = λ b in-b. dite (ℕ_discrete b head) (mine b) (λ other. subst (λ (n : ℕ). TellsLast (p b) after n) (sym (get_or-set_other c.heads head b next 0 other))
          (out-end b in-b (apart b (slice_index c.heads b) cells there other (h.ends b in-b))));
      links = λ j d b g st. out-link j d b g st (λ above e. dite (ℕ_discrete b head)
          (λ same. absurd (unlike (subst (λ (k : ℕ). p k d ≡ true) same st) (tells.later j d (omega (arith, above)) (was j d b g st))))
          (λ other. absurd (apart b (slice_index c.older j) (take j cells) (still-there j above) other (h.links j d b (was j d b g st) st) e)));
      long = h.long ∙ sym (length-set cells i y);
      wide = length-set c.heads head next ∙ h.wide;
    }
      where
        tells : TellsLast (p head) cells (suc i)
        tells = subst (λ (n : ℕ). TellsLast (p head) cells n) told (h.ends head inside)

        mine : (b : ℕ) → b ≡ head → TellsLast (p b) after (slice_index (slice_set c.heads head next) b)
        mine b same =
            let now : get_or (set c.heads head next) b 0 ≡ next = ap (λ k. get_or (set c.heads head next) k 0) same ∙ get_or-set_same c.heads head next 0 (omega (arith, inside, h.wide)) in
            subst (λ (n : ℕ). TellsLast (p b) after n) (sym now) (subst (λ (k : ℕ). TellsLast (p k) after next) (sym same)
            (last-leaves (p head) cells i y (out head) next tells (h.links i x head there passes)))

    -- where another cell of the chain tells it
    out-after : (k : ℕ) (e : Cell) → i < k → slice_index c.older k ≡ suc i → slice_get cells k ≡ Some e → p head e ≡ true
        → AreChained count p after (record c { older = slice_set c.older k next })
    out-after k e lt told at st-e = record {
      ends = λ b in-b. out-end b in-b (λ same. dite (ℕ_discrete b head)
          (λ one. (let tells : TellsLast (p head) cells (suc i) = subst (λ (n : ℕ). TellsLast (p head) cells n) same (subst (λ (q : ℕ). TellsLast (p q) cells (slice_index c.heads b)) one (h.ends b in-b)) in
          absurd (unlike st-e (tells.later k e (omega (arith, lt)) at))))
          (λ other. apart b (slice_index c.heads b) cells there other (h.ends b in-b) same));
      links = λ j d b g st. dite (ℕ_discrete j k) (mine j d b g st) (other j d b g st);
      long = length-set c.older k next ∙ (h.long ∙ sym (length-set cells i y));
      wide = h.wide;
    }
      where
        k-within : k < length c.older
        k-within = let w = slice_get_within cells k e at in omega (arith, w, h.long)

        mine : (j : ℕ) (d : Cell) (b : ℕ) → slice_get after j ≡ Some d → p b d ≡ true → j ≡ k → TellsLast (p b) (take j after) (slice_index (slice_set c.older k next) j)
        mine j d b g st same =
            let now : get_or (set c.older k next) j 0 ≡ next = ap (λ q. get_or (set c.older k next) q 0) same ∙ get_or-set_same c.older k next 0 k-within in
            let above : i < j = omega (arith, same, lt) in
            let both : Some e ≡ Some d = sym at ∙ subst (λ (q : ℕ). slice_get cells q ≡ Some d) same (was j d b g st) in
            let one : e ≡ d = (cc) in
            let its : head ≡ b = once head b d (subst (λ (z : Cell). p head z ≡ true) one st-e) st in
            let tells : TellsLast (p head) (take j cells) (suc i) = subst (λ (n : ℕ). TellsLast (p head) (take j cells) n) (ap (λ (q : ℕ). slice_index c.older q) same ∙ told)
            (h.links j d head (was j d b g st) (subst (λ (q : ℕ). p q d ≡ true) (sym its) st)) in
            rw (now, take-set-lt j cells i y above) (subst (λ (q : ℕ). TellsLast (p q) (set (take j cells) i y) next) its
            (last-leaves (p head) (take j cells) i y (out head) next tells (before-it j above)))

        other : (j : ℕ) (d : Cell) (b : ℕ) → slice_get after j ≡ Some d → p b d ≡ true → (j ≡ k → ⊥) → TellsLast (p b) (take j after) (slice_index (slice_set c.older k next) j)
        other j d b g st not-k = subst (λ (n : ℕ). TellsLast (p b) (take j after) n) (sym (get_or-set_other c.older k j next 0 not-k))
            (out-link j d b g st (λ above same. dite (ℕ_discrete b head) (its above same) (λ foreign. apart b (slice_index c.older j) (take j cells) (still-there j above) foreign (h.links j d b (was j d b g st) st) same)))
          where
            its : i < j → slice_index c.older j ≡ suc i → b ≡ head → ⊥
            its above same one = elim (order j k) [
              | inl below ↦ (let tells : TellsLast (p head) (take k cells) (suc i) = subst (λ (n : ℕ). TellsLast (p head) (take k cells) n) told (h.links k e head at st-e) in
                  unlike (subst (λ (q : ℕ). p q d ≡ true) one st) (tells.later j d (omega (arith, above)) (here-take cells k j d below (was j d b g st))))
              | inr rest ↦ elim rest [
                | inl at-k ↦ not-k at-k
                | inr past ↦ (let tells : TellsLast (p head) (take j cells) (suc i) = subst (λ (n : ℕ). TellsLast (p head) (take j cells) n) same
                    (h.links j d head (was j d b g st) (subst (λ (q : ℕ). p q d ≡ true) one st)) in
                    unlike st-e (tells.later k e (omega (arith, lt)) (here-take cells j k e past at)))
              ]
            ]

    -- where it is told, it leaves
    pub chained-leaves : (newer : ℕ) → IsTold (p head) head cells c newer (suc i) → AreChained count p after (relinked head newer next c)
    chained-leaves zero told = out-first (told.from_head refl)
    chained-leaves (suc k) told = let r = told.from_link k refl in out-after k (r.2).0 (let le = r.0 in omega (arith, le)) r.1 (r.2).1 (r.2).2

    -- and what told it tells the one before
    pub told-leaves : (newer : ℕ) → IsTold (p head) head cells c newer (suc i) → IsTold (p head) head after (relinked head newer next c) newer next
    told-leaves newer told = by newer told
      where
        tells : TellsLast (p head) (take i cells) next
        tells = h.links i x head there passes

        next-less : next ≤ i
        next-less = less next refl
          where
            less : (n : ℕ) → next ≡ n → n ≤ i
            less zero e = omega arith
            less (suc j) e = let r = tells.here j e in let t = take-here cells i j r.0 r.1 in let lt = t.0 in omega (arith, lt)

        next-here : (j : ℕ) → next ≡ suc j → HasPassing (p head) after j
        next-here j e =
            let r = tells.here j e in let t = take-here cells i j r.0 r.1 in
            (r.0, set-there cells i j y (λ s. let lt = t.0 in omega (arith, s, lt)) ∙ t.1, r.2)

        by : (n : ℕ) → IsTold (p head) head cells c n (suc i) → IsTold (p head) head after (relinked head n next c) n next
        by zero t = record {
          here = next-here;
          from_head = λ _. get_or-set_same c.heads head next 0 (omega (arith, inside, h.wide));
          from_link = λ k never. absurd (omega (arith, never));
        }
        by (suc k) t = record {
          here = next-here;
          from_head = λ never. absurd (omega (arith, never));
          from_link = λ q same. (let r = t.from_link k refl in
              let one : k ≡ q = omega (arith, same) in
              let lt : i < k = (let le = r.0 in omega (arith, le)) in
              let k-in = slice_get_within cells k (r.2).0 (r.2).1 in
              subst (λ (z : ℕ). (next ≤ z) × (slice_index (slice_set c.older k next) z ≡ next) × HasPassing (p head) after z) one (
                (let less = next-less in omega (arith, less, lt)),
                get_or-set_same c.older k next 0 (omega (arith, k-in, h.long)),
                ((r.2).0, set-there cells i k y (λ s. omega (arith, s, lt)) ∙ (r.2).1, (r.2).2),
              ));
        }

  -- ---- along a chain

  module _ (cells : List Cell) (c : ChainLists) (h : AreChained count p cells c) (head : ℕ) where
    pub told-first : head < count → IsTold (p head) head cells c 0 (slice_index c.heads head)
    told-first inside = record { here = (h.ends head inside).here; from_head = λ _. refl; from_link = λ k never. absurd (omega (arith, never)) }

    -- a cell that passes is at or before the end
    pub end-reaches : head < count → (j : ℕ) → HasPassing (p head) cells j → suc j ≤ slice_index c.heads head
    end-reaches inside j g = elim (order j (slice_index c.heads head)) [
      | inl below ↦ omega (arith, below)
      | inr rest ↦ (let le : slice_index c.heads head ≤ j = elim rest [ inl same ↦ omega (arith, same) | inr above ↦ omega (arith, above) ] in
          absurd (unlike g.2 ((h.ends head inside).later j g.0 le g.1)))
    ]

    pub told-inside : (newer at : ℕ) → IsTold (p head) head cells c newer at → at ≤ length cells
    told-inside newer zero t = omega arith
    told-inside newer (suc i) t = let r = t.here i refl in let w = slice_get_within cells i r.0 r.1 in omega (arith, w)

    pub told-newer : (newer at : ℕ) → IsTold (p head) head cells c newer at → newer ≤ length cells
    told-newer zero at t = omega arith
    told-newer (suc k) at t = let r = t.from_link k refl in let w = slice_get_within cells k (r.2).0 (r.2).1 in omega (arith, w)

    module _ (newer i : ℕ) (t : IsTold (p head) head cells c newer (suc i)) where
      pub its : HasPassing (p head) cells i
      its = t.here i refl

      pub tells-next : TellsLast (p head) (take i cells) (slice_index c.older i)
      tells-next = h.links i its.0 head its.1 its.2

      pub next-less : slice_index c.older i ≤ i
      next-less = less (slice_index c.older i) refl
        where
          less : (n : ℕ) → slice_index c.older i ≡ n → n ≤ i
          less zero e = omega arith
          less (suc j) e = let r = tells-next.here j e in let k = take-here cells i j r.0 r.1 in let lt = k.0 in omega (arith, lt)

      pub told-next : IsTold (p head) head cells c (suc i) (slice_index c.older i)
      told-next = record {
        here = λ j e. (let r = tells-next.here j e in let k = take-here cells i j r.0 r.1 in (r.0, k.1, r.2));
        from_head = λ never. absurd (omega (arith, never));
        from_link = λ k e. (let same : i ≡ k = omega (arith, e) in let less = next-less in
            (omega (arith, less, same), ap (λ (q : ℕ). slice_index c.older q) (sym same), subst (λ (q : ℕ). HasPassing (p head) cells q) same its));
      }

      -- a cell before it that passes is at or before the next one
      pub next-reaches : (j : ℕ) → j < i → HasPassing (p head) cells j → suc j ≤ slice_index c.older i
      next-reaches j lt g = elim (order j (slice_index c.older i)) [
        | inl below ↦ omega (arith, below)
        | inr rest ↦ (let le : slice_index c.older i ≤ j = elim rest [ inl same ↦ omega (arith, same) | inr above ↦ omega (arith, above) ] in
            absurd (unlike g.2 (tells-next.later j g.0 le (here-take cells i j g.0 lt g.1))))
      ]

-- ---- a cell is taken out of its slot

module _ (cells : List Cell) (c : ChainLists) (h : AreChained PORT_SLOTS stands_in cells c) (slot : ℕ) (inside : slot < PORT_SLOTS)
    (i : ℕ) (there : HasPassing (stands_in slot) cells i) where
  pub sought-first : (suc i ≤ slice_index c.heads slot) × IsTold (stands_in slot) slot cells c 0 (slice_index c.heads slot)
  sought-first = (end-reaches PORT_SLOTS stands_in cells c h slot inside i there, told-first PORT_SLOTS stands_in cells c h slot inside)

  pub sought-next : (newer at : ℕ) → suc i ≤ suc at → (suc at ≡ suc i → ⊥) → IsTold (stands_in slot) slot cells c newer (suc at)
      → (suc i ≤ slice_index c.older at) × IsTold (stands_in slot) slot cells c (suc at) (slice_index c.older at)
  sought-next newer at le other t =
      let lt : i < at = omega (arith, le, λ (e : at ≡ i). other (ap suc e)) in
      (next-reaches PORT_SLOTS stands_in cells c h slot newer at t i lt there, told-next PORT_SLOTS stands_in cells c h slot newer at t)

  pub taken-out : (newer : ℕ) → IsTold (stands_in slot) slot cells c newer (suc i) → (y : Cell) → ((s : ℕ) → stands_in s y ≡ false)
      → AreChained PORT_SLOTS stands_in (set cells i y) (relinked slot newer (slice_index c.older i) c)
  taken-out newer t y out = chained-leaves PORT_SLOTS stands_in stands-once cells c h slot inside i there.0 there.1 there.2 y out newer t

-- ---- the cells of a key are ended

module _ (key : LeaseKey) where
  abbrev mine : ℕ
  mine = bucket_of key

  pub ending-first : (cells : List Cell) (c : ChainLists) → AreChained BUCKETS is_keyed cells c → mine < BUCKETS → IsEnding key cells cells c 0 (slice_index c.heads mine)
  ending-first cells c h inside = record {
    chained = h;
    told = told-first BUCKETS is_keyed cells c h mine inside;
    done = λ i x le g. g ∙ ap Some (sym (ended-outside key x ((h.ends mine inside).later i x le g)));
    left = λ i lt. refl;
    long = refl;
  }

  pub ending-over : (first cells : List Cell) (c : ChainLists) (newer : ℕ) → IsEnding key first cells c newer 0 → cells ≡ map (ended key) first
  ending-over first cells c newer h = same-at-all (ended key) first cells h.long (λ i x g. h.done i x (omega arith) g)

  module _ (first cells : List Cell) (c : ChainLists) (newer i : ℕ) (h : IsEnding key first cells c newer (suc i)) where
    -- between the two no cell is in the chain
    between : (j : ℕ) (d : Cell) → slice_index c.older i ≤ j → j < i → slice_get first j ≡ Some d → slice_get cells j ≡ Some (ended key d)
    between j d le lt g =
        let now : slice_get cells j ≡ Some d = h.left j (omega (arith, lt)) ∙ g in
        now ∙ ap Some (sym (ended-outside key d ((tells-next BUCKETS is_keyed cells c h.chained mine newer i h.told).later j d le (here-take cells i j d lt now))))

    less : slice_index c.older i ≤ i
    less = next-less BUCKETS is_keyed cells c h.chained mine newer i h.told

    -- the cell hasn't the key
    pub ending-stays : (x : Cell) → slice_get cells i ≡ Some x → has_key key x ≡ false → IsEnding key first cells c (suc i) (slice_index c.older i)
    ending-stays x at other = record {
      chained = h.chained;
      told = told-next BUCKETS is_keyed cells c h.chained mine newer i h.told;
      done = λ j d le g. elim (order j i) [
        | inl below ↦ between j d le below g
        | inr rest ↦ elim rest [
          | inl same ↦ (let now : slice_get cells j ≡ Some d = h.left j (omega (arith, same)) ∙ g in
              let both : Some x ≡ Some d = sym at ∙ subst (λ (k : ℕ). slice_get cells k ≡ Some d) same now in
              let one : x ≡ d = (cc) in
              now ∙ ap Some (sym (ended-other key d (subst (λ (z : Cell). has_key key z ≡ false) one other))))
          | inr above ↦ h.done j d (omega (arith, above)) g
        ]
      ];
      left = λ j lt. h.left j (let le = less in omega (arith, lt, le));
      long = h.long;
    }

    -- the cell has the key, and leaves the chain
    pub ending-leaves : (x : Cell) → slice_get cells i ≡ Some x → has_key key x ≡ true → mine < BUCKETS
        → IsEnding key first (set cells i (finished x)) (relinked mine newer (slice_index c.older i) c) newer (slice_index c.older i)
    ending-leaves x at has inside = record {
      chained = chained-leaves BUCKETS is_keyed keyed-once cells c h.chained mine inside i x at passes (finished x) out newer h.told;
      told = told-leaves BUCKETS is_keyed keyed-once cells c h.chained mine inside i x at passes (finished x) out newer h.told;
      done = λ j d le g. elim (order j i) [
        | inl below ↦ set-there cells i j (finished x) (λ e. omega (arith, e, below)) ∙ between j d le below g
        | inr rest ↦ elim rest [
          | inl same ↦ (let was : slice_get cells j ≡ Some d = h.left j (omega (arith, same)) ∙ g in
              let both : Some x ≡ Some d = sym at ∙ subst (λ (k : ℕ). slice_get cells k ≡ Some d) same was in
              let one : x ≡ d = (cc) in
              subst (λ (k : ℕ). slice_get (set cells i (finished x)) k ≡ Some (ended key d)) (sym same)
              (set-here cells i (finished x) (slice_get_within cells i x at) ∙ (ap Some (sym (ended-is key x has)) ∙ ap (λ (z : Cell). Some (ended key z)) one)))
          | inr above ↦ set-there cells i j (finished x) (λ e. omega (arith, e, above)) ∙ h.done j d (omega (arith, above)) g
        ]
      ];
      left = λ j lt. (let le = less in set-there cells i j (finished x) (λ e. omega (arith, e, lt, le)) ∙ h.left j (omega (arith, lt, le)));
      long = length-set cells i (finished x) ∙ h.long;
    }
      where
        stood : HasPassing (is_keyed mine) cells i
        stood = h.told.here i refl

        passes : is_keyed mine x ≡ true
        passes = let both : Some stood.0 ≡ Some x = sym stood.1 ∙ at in let one : stood.0 ≡ x = (cc) in subst (λ (z : Cell). is_keyed mine z ≡ true) one stood.2

        out : (b : ℕ) → is_keyed b (finished x) ≡ false
        out b = keyed-ended (finished x) (finished-ended x) b
