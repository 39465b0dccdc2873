-- Lists of turns, passes and lanes with which a house begins.
use Rattle.std.specs.List.{AllByRecursion, AllZip, slice_get, sum_by}
use Rattle.std.proofs.Common.{◌≡◌, ◌∙◌, ℕ, zero, suc, ◌+◌, ◌-◌, ◌^◌, List, [], ◌∷◌, ◌++◌, length}
use Rattle.std.proofs.Common.{map, Some, refl, ap, sym, subst, arith}
use Rattle.std.proofs.lemmas.List.Sums.{sum_by-cons}
use Rattle.pcp_base.specs.declared.configs.Config.{Config}
use Rattle.pcp_base.specs.Configs.{IsConfig}
use Rattle.lane_index.specs.Lanes.{LaneKnowledge}
use Rattle.turn_lock.specs.Passes.{PassKnowledge, TurnName, new_pass}
use Rattle.shard_book.specs.Books.{BookView}
use Rattle.lease_house.proofs.ListLemmas.{get-within, within-get}
use Rattle.turned_shards.specs.declared.openings.Opening.{Opening}
use Rattle.turned_shards.specs.declared.passes.HousePass.{HousePass}
use Rattle.shared_house.specs.Beginnings.{BeginAll, BeginsOne}
use Rattle.shared_house.specs.Endings.{AreAtHome, AreLanesOf}
use Rattle.shared_house.specs.HouseCalls.{HouseView, IsHouse, IsPassOf}
use Rattle.shared_house.specs.Seats.{Knows}
use Rattle.shared_house.specs.Turned.{AreUnshared}

-- ---- lists

module _ {X Y : Type 0} (R : X → Y → Type 0) where
  pub zip-push : (xs : List X) (ys : List Y) (x : X) (y : Y) → AllZip R xs ys → R x y →
      AllZip R (xs ++ x ∷ []) (ys ++ y ∷ [])
  zip-push [] [] x y all here = (here, tt)
  zip-push [] (w ∷ ys) x y all here = absurd all
  zip-push (z ∷ xs) [] x y all here = absurd all
  zip-push (z ∷ xs) (w ∷ ys) x y all here = (all.0, zip-push xs ys x y all.1 here)

  pub zip-behind : (xs us : List X) (ys vs : List Y) → AllZip R xs ys → AllZip R us vs →
      AllZip R (xs ++ us) (ys ++ vs)
  zip-behind [] us [] vs all more = more
  zip-behind [] us (w ∷ ys) vs all more = absurd all
  zip-behind (z ∷ xs) us [] vs all more = absurd all
  zip-behind (z ∷ xs) us (w ∷ ys) vs all more = (all.0, zip-behind xs us ys vs all.1 more)

  pub zip-last : (xs : List X) (ys : List Y) (x : X) (y : Y) →
      AllZip R (xs ++ x ∷ []) (ys ++ y ∷ []) → AllZip R xs ys × R x y
  zip-last [] [] x y all = (tt, all.0)
  zip-last [] (w ∷ []) x y all = absurd all.1
  zip-last [] (w ∷ v ∷ ys) x y all = absurd all.1
  zip-last (z ∷ []) [] x y all = absurd all.1
  zip-last (z ∷ u ∷ xs) [] x y all = absurd all.1
  zip-last (z ∷ xs) (w ∷ ys) x y all =
      let rest = zip-last xs ys x y all.1 in ((all.0, rest.0), rest.1)

  pub zip-length : (xs : List X) (ys : List Y) → AllZip R xs ys → length xs ≡ length ys
  zip-length [] [] all = refl
  zip-length [] (w ∷ ys) all = absurd all
  zip-length (z ∷ xs) [] all = absurd all
  zip-length (z ∷ xs) (w ∷ ys) all = ap (λ (n : ℕ). suc n) (zip-length xs ys all.1)

pub zip-same : {X : Type 0} (R : X → X → Type 0) → ((x : X) → R x x) → (xs : List X) →
    AllZip R xs xs
zip-same R here [] = tt
zip-same R here (x ∷ xs) = (here x, zip-same R here xs)

pub all-by-place : {X : Type 0} (P : X → Type 0) (xs : List X) →
    ((i : ℕ) (x : X) → slice_get xs i ≡ Some x → P x) → AllByRecursion P xs
all-by-place P [] each = tt
all-by-place P (x ∷ xs) each =
    (each 0 x refl, all-by-place P xs (λ i y there. each (suc i) y there))

pub all-mapped : {X Y : Type 0} (P : Y → Type 0) (f : X → Y) (xs : List X) →
    AllByRecursion P (map f xs) → AllByRecursion (λ x. P (f x)) xs
all-mapped P f [] all = tt
all-mapped P f (x ∷ xs) all = (all.0, all-mapped P f xs all.1)

pub all-at : {X : Type 0} (P : X → Type 0) (xs : List X) (i : ℕ) (x : X) → AllByRecursion P xs →
    slice_get xs i ≡ Some x → P x
all-at P [] i x all there = absurd cc
all-at P (y ∷ ys) zero x all there = let same : y ≡ x = cc in subst P same all.0
all-at P (y ∷ ys) (suc i) x all there = all-at P ys i x all.1 there

pub sum-mapped : {X Y : Type 0} (g : Y → ℕ) (f : X → Y) (xs : List X) →
    sum_by (λ x. g (f x)) xs ≡ sum_by g (map f xs)
sum-mapped g f [] = refl
sum-mapped {X} g f (x ∷ xs) = sum_by-cons (λ (z : X). g (f z)) x xs
    ∙ ap (λ (n : ℕ). g (f x) + n) (sum-mapped g f xs) ∙ sym (sum_by-cons g (f x) (map f xs))

pub map-push : {X Y : Type 0} (f : X → Y) (xs : List X) (x : X) →
    map f (xs ++ x ∷ []) ≡ map f xs ++ f x ∷ []
map-push f [] x = refl
map-push f (y ∷ ys) x = ap (λ (l : List _). f y ∷ l) (map-push f ys x)

-- ---- turns, passes and lanes

-- the turn was told this book
abbrev pub IsKeyed : {D : Type 0} → TurnName (Opening D) → BookView D → Type 0
IsKeyed t b = t.key.book ≡ b

module _ {D : Type 0} (config : Config) where
  pub begin-push : (k : ℕ) (bs : List (BookView D)) (ts : List (TurnName (Opening D)))
      (ps : List (HousePass D)) (ls : List LaneKnowledge) (n : ℕ) (b : BookView D)
      (t : TurnName (Opening D)) (p : HousePass D) (l : LaneKnowledge) →
      BeginAll config k bs ts ps ls → n ≡ k + length bs → BeginsOne config n b t p l →
      BeginAll config k (bs ++ b ∷ []) (ts ++ t ∷ []) (ps ++ p ∷ []) (ls ++ l ∷ [])
  begin-push k [] [] [] [] n b t p l all at one =
      (subst (λ (j : ℕ). BeginsOne config j b t p l) (omega (arith, at)) one, tt)
  begin-push k [] [] [] (z ∷ ls) n b t p l all at one = absurd all
  begin-push k [] [] (y ∷ ps) ls n b t p l all at one = absurd all
  begin-push k [] (x ∷ ts) ps ls n b t p l all at one = absurd all
  begin-push k (w ∷ bs) [] ps ls n b t p l all at one = absurd all
  begin-push k (w ∷ bs) (x ∷ ts) [] ls n b t p l all at one = absurd all
  begin-push k (w ∷ bs) (x ∷ ts) (y ∷ ps) [] n b t p l all at one = absurd all
  begin-push k (w ∷ bs) (x ∷ ts) (y ∷ ps) (z ∷ ls) n b t p l all at one =
      (all.0, begin-push (k + 1) bs ts ps ls n b t p l all.1 (omega (arith, at)) one)

  -- nobody shares them
  pub begin-unshared : (k : ℕ) (bs : List (BookView D)) (ts : List (TurnName (Opening D)))
      (ps : List (HousePass D)) (ls : List LaneKnowledge) → BeginAll config k bs ts ps ls →
      AreUnshared ts ps
  begin-unshared k [] [] [] [] all = tt
  begin-unshared k [] [] [] (z ∷ ls) all = absurd all
  begin-unshared k [] [] (y ∷ ps) ls all = absurd all
  begin-unshared k [] (x ∷ ts) ps ls all = absurd all
  begin-unshared k (w ∷ bs) [] ps ls all = absurd all
  begin-unshared k (w ∷ bs) (x ∷ ts) [] ls all = absurd all
  begin-unshared k (w ∷ bs) (x ∷ ts) (y ∷ ps) [] all = absurd all
  begin-unshared k (w ∷ bs) (x ∷ ts) (y ∷ ps) (z ∷ ls) all =
      (all.0.history, begin-unshared (k + 1) bs ts ps ls all.1)

  pub begin-keyed : (k : ℕ) (bs : List (BookView D)) (ts : List (TurnName (Opening D)))
      (ps : List (HousePass D)) (ls : List LaneKnowledge) → BeginAll config k bs ts ps ls →
      AllZip IsKeyed ts bs
  begin-keyed k [] [] [] [] all = tt
  begin-keyed k [] [] [] (z ∷ ls) all = absurd all
  begin-keyed k [] [] (y ∷ ps) ls all = absurd all
  begin-keyed k [] (x ∷ ts) ps ls all = absurd all
  begin-keyed k (w ∷ bs) [] ps ls all = absurd all
  begin-keyed k (w ∷ bs) (x ∷ ts) [] ls all = absurd all
  begin-keyed k (w ∷ bs) (x ∷ ts) (y ∷ ps) [] all = absurd all
  begin-keyed k (w ∷ bs) (x ∷ ts) (y ∷ ps) (z ∷ ls) all =
      (ap (λ (o : Opening D). o.book) all.0.key, begin-keyed (k + 1) bs ts ps ls all.1)

  pub begin-lanes : (k : ℕ) (bs : List (BookView D)) (ts : List (TurnName (Opening D)))
      (ps : List (HousePass D)) (ls : List LaneKnowledge) → BeginAll config k bs ts ps ls →
      length ls ≡ length ts
  begin-lanes k [] [] [] [] all = refl
  begin-lanes k [] [] [] (z ∷ ls) all = absurd all
  begin-lanes k [] [] (y ∷ ps) ls all = absurd all
  begin-lanes k [] (x ∷ ts) ps ls all = absurd all
  begin-lanes k (w ∷ bs) [] ps ls all = absurd all
  begin-lanes k (w ∷ bs) (x ∷ ts) [] ls all = absurd all
  begin-lanes k (w ∷ bs) (x ∷ ts) (y ∷ ps) [] all = absurd all
  begin-lanes k (w ∷ bs) (x ∷ ts) (y ∷ ps) (z ∷ ls) all =
      ap (λ (n : ℕ). suc n) (begin-lanes (k + 1) bs ts ps ls all.1)

  -- the lane at a place
  pub lane-at : (k : ℕ) (bs : List (BookView D)) (ts : List (TurnName (Opening D)))
      (ps : List (HousePass D)) (ls : List LaneKnowledge) (i : ℕ) (t : TurnName (Opening D))
      (l : LaneKnowledge) → BeginAll config k bs ts ps ls → slice_get ts i ≡ Some t →
      slice_get ls i ≡ Some l → (t.key.lane ≡ l) × (l.known ≡ [])
  lane-at k [] [] [] [] i t l all there found = absurd cc
  lane-at k [] [] [] (z ∷ ls) i t l all there found = absurd all
  lane-at k [] [] (y ∷ ps) ls i t l all there found = absurd all
  lane-at k [] (x ∷ ts) ps ls i t l all there found = absurd all
  lane-at k (w ∷ bs) [] ps ls i t l all there found = absurd all
  lane-at k (w ∷ bs) (x ∷ ts) [] ls i t l all there found = absurd all
  lane-at k (w ∷ bs) (x ∷ ts) (y ∷ ps) [] i t l all there found = absurd all
  lane-at k (w ∷ bs) (x ∷ ts) (y ∷ ps) (z ∷ ls) zero t l all there found =
      let turn : x ≡ t = cc in
      let lane : z ≡ l = cc in (
        ap (λ (u : TurnName (Opening D)). u.key.lane) (sym turn)
            ∙ ap (λ (o : Opening D). o.lane) all.0.key ∙ lane,
        ap (λ (u : LaneKnowledge). u.known) (sym lane)
            ∙ ap (λ (u : LaneKnowledge). u.known) all.0.leases,
      )
  lane-at k (w ∷ bs) (x ∷ ts) (y ∷ ps) (z ∷ ls) (suc i) t l all there found =
      lane-at (k + 1) bs ts ps ls i t l all.1 there found

  -- the turn at a place, and its pass
  pub record IsBegunAt (n i : ℕ) (ps : List (HousePass D)) (t : TurnName (Opening D)) : Type 0 where
    pub book : BookView D
    pub pass : HousePass D
    pub lane : LaneKnowledge
    pub there : slice_get ps i ≡ Some pass
    pub one : BeginsOne config n book t pass lane

  pub begun-at : (k : ℕ) (bs : List (BookView D)) (ts : List (TurnName (Opening D)))
      (ps : List (HousePass D)) (ls : List LaneKnowledge) (i n : ℕ) (t : TurnName (Opening D)) →
      BeginAll config k bs ts ps ls → slice_get ts i ≡ Some t → n ≡ k + i → IsBegunAt n i ps t
  begun-at k [] [] [] [] i n t all there at = absurd cc
  begun-at k [] [] [] (z ∷ ls) i n t all there at = absurd all
  begun-at k [] [] (y ∷ ps) ls i n t all there at = absurd all
  begun-at k [] (x ∷ ts) ps ls i n t all there at = absurd all
  begun-at k (w ∷ bs) [] ps ls i n t all there at = absurd all
  begun-at k (w ∷ bs) (x ∷ ts) [] ls i n t all there at = absurd all
  begun-at k (w ∷ bs) (x ∷ ts) (y ∷ ps) [] i n t all there at = absurd all
  begun-at k (w ∷ bs) (x ∷ ts) (y ∷ ps) (z ∷ ls) zero n t all there at =
      let same : x ≡ t = cc in
      record {
        book = w;
        pass = y;
        lane = z;
        there = refl;
        one = subst (λ (u : TurnName (Opening D)). BeginsOne config n w u y z) same
            (subst (λ (j : ℕ). BeginsOne config j w x y z) (omega (arith, at)) all.0);
      }
  begun-at k (w ∷ bs) (x ∷ ts) (y ∷ ps) (z ∷ ls) (suc i) n t all there at =
      let rest : IsBegunAt n i ps t = begun-at (k + 1) bs ts ps ls i n t all.1 there
      (omega (arith, at)) in
      record {
        book = rest.book;
        pass = rest.pass;
        lane = rest.lane;
        there = rest.there;
        one = rest.one;
      }

-- ---- the house

module _ {D : Type 0} (house : HouseView D) (bs : List (BookView D)) (ps : List (HousePass D))
    (ls : List LaneKnowledge) (all : BeginAll house.config 0 bs house.turns ps ls) where
  counted : length house.turns ≡ length ps
  counted = zip-length
      (λ (t : TurnName (Opening D)) (p : HousePass D). p.history ≡ new_pass t.id (2 ^ 64 - 1) [] [])
      house.turns ps (begin-unshared house.config 0 bs house.turns ps ls all)

  same-pass : (i : ℕ) (p q : HousePass D) → slice_get ps i ≡ Some p → slice_get ps i ≡ Some q →
      p ≡ q
  same-pass i p q here there = let same : Some p ≡ Some q = sym here ∙ there in cc

  pub is-house : IsConfig house.config → length bs ≡ length house.config.externals → IsHouse house
  is-house config count = record {
    config = config;
    count = zip-length IsKeyed house.turns bs (begin-keyed house.config 0 bs house.turns ps ls all)
        ∙ count;
    keys = λ place turn there. let at =
        begun-at house.config 0 bs house.turns ps ls place place turn all there (omega arith) in
        (ap (λ (o : Opening D). o.config) at.one.key, ap (λ (o : Opening D). o.place) at.one.key);
  }

  pub are-at-home : AreAtHome house.turns ps
  are-at-home = record {
    count = sym counted;
    each = λ place turn pass there here.
        let at = begun-at house.config 0 bs house.turns ps ls place place turn all there
        (omega arith) in
        let same : at.pass ≡ pass = same-pass place at.pass pass at.there here in
        let history : pass.history ≡ new_pass turn.id (2 ^ 64 - 1) [] [] =
        ap (λ (p : HousePass D). p.history) (sym same) ∙ at.one.history in
        record {
          turn_is = ap (λ (k : PassKnowledge _ _). k.turn) history;
          home = ap (λ (k : PassKnowledge _ _). k.out) history;
        };
  }

  pub are-lanes : AreLanesOf house.turns ls
  are-lanes = record {
    enough = let many = begin-lanes house.config 0 bs house.turns ps ls all in omega (arith, many);
    each = λ place turn lane there found. ap (λ (k : LaneKnowledge). k.index)
        (sym (lane-at house.config 0 bs house.turns ps ls place turn lane all there found).0);
  }

  pub are-passes : (raised heard : ℕ) →
      AllByRecursion (λ p. Knows house.word raised heard p.epoch) ps →
      AllByRecursion (IsPassOf house) ps
  are-passes raised heard epochs = all-by-place (IsPassOf house) ps (λ i pass here.
      let found = within-get house.turns i (let n = get-within ps i pass here in let m = counted in
      omega (arith, n, m)) in
      let at = begun-at house.config 0 bs house.turns ps ls i i found.0 all found.1 (omega arith) in
      let same : at.pass ≡ pass = same-pass i at.pass pass at.there here in
      let history : pass.history ≡ new_pass found.0.id (2 ^ 64 - 1) [] [] =
      ap (λ (p : HousePass D). p.history) (sym same) ∙ at.one.history in
      let place : pass.shard ≡ i = ap (λ (p : HousePass D). p.shard) (sym same) ∙ at.one.shard in
      record {
        turn = found.0;
        there = ap (slice_get house.turns) place ∙ found.1;
        same = ap (λ (k : PassKnowledge _ _). k.turn) history;
        home = ap (λ (k : PassKnowledge _ _). k.out) history;
        word = (all-at (λ p. Knows house.word raised heard p.epoch) ps i pass epochs here).word_is;
      })
