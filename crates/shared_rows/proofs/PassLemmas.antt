-- Passes that go on, and the lane of the first one.
use Rattle.std.specs.List.{AllByRecursion, slice_get}
use Rattle.std.proofs.Common.{◌≡◌, ◌∙◌, ℕ, zero, suc, List, [], ◌∷◌, ◌++◌, take, drop, length, Some, Result, Ok, Err, IfOk, slice_set, refl, ap, sym, subst}
use Rattle.pcp_base.specs.declared.configs.Config.{Config}
use Rattle.lane_index.specs.Lanes.{LaneKnowledge}
use Rattle.turn_lock.specs.Passes.{TurnName}
use Rattle.shard_book.specs.Books.{BookView}
use Rattle.turned_shards.specs.declared.openings.Opening.{Opening}
use Rattle.turned_shards.specs.declared.passes.HousePass.{HousePass}
use Rattle.shared_house.specs.Beginnings.{BeginAll}
use Rattle.shared_house.specs.Endings.{AreAtHome, AreLanesOf, IsAtHome}
use Rattle.shared_house.specs.HouseCalls.{BeginsAt, HouseView, IsPassOf}
use Rattle.shared_house.specs.declared.served.Served.{Served}
use Rattle.lease_house.specs.declared.faults.HouseFault.{HouseFault}
use Rattle.shared_rows.specs.Passes.{ArePasses, Follows, IsFirstLane, IsLaneAt, IsToldAt}

take-front : {X : Type 0} (xs zs : List X) → take (length xs) (xs ++ zs) ≡ xs
take-front [] zs = refl
take-front (x ∷ xs) zs = ap (λ (l : List _). x ∷ l) (take-front xs zs)

module _ {D : Type 0} (house : HouseView D) where
  same-turn : (old new : HousePass D) → IsPassOf house old → Follows house old new → new.history.turn ≡ old.history.turn
  same-turn old new is f =
      let met : Some is.turn ≡ Some f.is.turn = sym is.there ∙ ap (slice_get house.turns) (sym f.shard) ∙ f.is.there in
      let same : is.turn ≡ f.is.turn = cc in
      f.is.same ∙ ap (λ (t : TurnName (Opening D)). t.id) (sym same) ∙ sym is.same

  still-home : (t : TurnName (Opening D)) (old new : HousePass D) → IsPassOf house old → Follows house old new → IsAtHome t old → IsAtHome t new
  still-home t old new is f home = record { turn_is = same-turn old new is f ∙ home.turn_is; home = f.is.home }

  one-home : (p q : HousePass D) (rest : List (HousePass D)) → ArePasses house (p ∷ rest) → Follows house p q → (i : ℕ) (t : TurnName (Opening D)) (r : HousePass D) →
      slice_get house.turns i ≡ Some t → slice_get (q ∷ rest) i ≡ Some r → IsAtHome t r
  one-home p q rest all f zero t r there here =
      let same : q ≡ r = cc in
      subst (λ (x : HousePass D). IsAtHome t x) same (still-home t p q all.each.0 f (all.home.each 0 t p there refl))
  one-home p q rest all f (suc i) t r there here = all.home.each (suc i) t r there here

  -- the first pass goes on
  pub one-follows : (p q : HousePass D) (rest : List (HousePass D)) → ArePasses house (p ∷ rest) → Follows house p q → ArePasses house (q ∷ rest)
  one-follows p q rest all f = record {
    home = record { count = all.home.count; each = one-home p q rest all f };
    each = (f.is, all.each.1);
  }

  two-home : (o p q : HousePass D) (rest : List (HousePass D)) → ArePasses house (o ∷ p ∷ rest) → Follows house p q → (i : ℕ) (t : TurnName (Opening D)) (r : HousePass D) →
      slice_get house.turns i ≡ Some t → slice_get (o ∷ q ∷ rest) i ≡ Some r → IsAtHome t r
  two-home o p q rest all f zero t r there here = all.home.each 0 t r there here
  two-home o p q rest all f (suc zero) t r there here =
      let same : q ≡ r = cc in
      subst (λ (x : HousePass D). IsAtHome t x) same (still-home t p q all.each.1.0 f (all.home.each 1 t p there refl))
  two-home o p q rest all f (suc (suc i)) t r there here = all.home.each (suc (suc i)) t r there here

  -- the first two passes go on
  pub two-follow : (o p q r : HousePass D) (rest : List (HousePass D)) → ArePasses house (o ∷ p ∷ rest) → Follows house o q → Follows house p r → ArePasses house (q ∷ r ∷ rest)
  two-follow o p q r rest all f g =
      one-follows o q (r ∷ rest) (record {
        home = record { count = all.home.count; each = two-home o p r rest all g };
        each = (all.each.0, (g.is, all.each.1.1));
      }) f

  -- so where it is set
  pub set-first : (ps : List (HousePass D)) (p q : HousePass D) → slice_get ps 0 ≡ Some p → ArePasses house ps → Follows house p q → ArePasses house (slice_set ps 0 q)
  set-first [] p q there all f = absurd cc
  set-first (o ∷ rest) p q there all f =
      let same : o ≡ p = cc in
      one-follows o q rest all (subst (λ (x : HousePass D). Follows house x q) (sym same) f)

  pub first-is : (ps : List (HousePass D)) (p : HousePass D) → slice_get ps 0 ≡ Some p → ArePasses house ps → IsPassOf house p
  first-is [] p there all = absurd cc
  first-is (o ∷ rest) p there all =
      let same : o ≡ p = cc in
      subst (IsPassOf house) same all.each.0

  -- so where they are set in two parts of a list
  pub set-all : (ps zs fs os : List (HousePass D)) (n : ℕ) (p q a b : HousePass D) → n ≡ length ps → fs ≡ take 1 ps → os ≡ drop 1 ps → slice_get fs 0 ≡ Some p → slice_get os 0 ≡ Some q →
      ArePasses house ps → Follows house p a → Follows house q b → ArePasses house (take n (slice_set fs 0 a ++ slice_set os 0 b ++ zs))
  set-all [] zs fs os n p q a b count front back here there all f g = absurd cc
  set-all (o ∷ []) zs fs os n p q a b count front back here there all f g = absurd cc
  set-all (o ∷ r ∷ rest) zs fs os n p q a b count front back here there all f g =
      let one : Some o ≡ Some p = ap (λ (l : List (HousePass D)). slice_get l 0) (sym front) ∙ here in
      let two : Some r ≡ Some q = ap (λ (l : List (HousePass D)). slice_get l 0) (sym back) ∙ there in
      let first : o ≡ p = cc in
      let second : r ≡ q = cc in
      let done : ArePasses house (a ∷ b ∷ rest) =
      two-follow o r a b rest all (subst (λ (x : HousePass D). Follows house x a) (sym first) f) (subst (λ (x : HousePass D). Follows house x b) (sym second) g) in
      let text : take n (slice_set fs 0 a ++ slice_set os 0 b ++ zs) ≡ a ∷ b ∷ rest =
      ap (λ (k : ℕ). take k (slice_set fs 0 a ++ slice_set os 0 b ++ zs)) count
      ∙ ap (λ (l : List (HousePass D)). take (length (o ∷ r ∷ rest)) (slice_set l 0 a ++ slice_set os 0 b ++ zs)) front
      ∙ ap (λ (l : List (HousePass D)). take (length (o ∷ r ∷ rest)) ((a ∷ []) ++ slice_set l 0 b ++ zs)) back
      ∙ ap (λ (l : List (HousePass D)). a ∷ b ∷ l) (take-front rest zs) in
      subst (ArePasses house) (sym text) done

  -- so of the first lane
  pub set-lane : (ls : List LaneKnowledge) (old new : LaneKnowledge) → slice_get ls 0 ≡ Some old → new.index ≡ old.index → AreLanesOf house.turns ls → AreLanesOf house.turns (slice_set ls 0 new)
  set-lane [] old new there same all = absurd cc
  set-lane (l ∷ ls) old new there same all = record { enough = all.enough; each = lane-of l new ls (let is : l ≡ old = cc in same ∙ ap (λ (k : LaneKnowledge). k.index) (sym is)) all }
    where
      lane-of : (l new : LaneKnowledge) (ls : List LaneKnowledge) → new.index ≡ l.index → AreLanesOf house.turns (l ∷ ls) → (i : ℕ) (t : TurnName (Opening D)) (lane : LaneKnowledge) →
          slice_get house.turns i ≡ Some t → slice_get (new ∷ ls) i ≡ Some lane → lane.index ≡ t.key.lane.index
      lane-of l new ls same all zero t lane there here =
          let is : new ≡ lane = cc in
          ap (λ (k : LaneKnowledge). k.index) (sym is) ∙ (same ∙ all.each 0 t l there refl)
      lane-of l new ls same all (suc i) t lane there here = all.each (suc i) t lane there here

  pub told-at : (place : ℕ) (r : Result Served HouseFault) (P : Opening D → Served → Type 0) → ((o : Opening D) → BeginsAt house place o → IfOk r (P o)) →
      ((o : Opening D) (s : Served) → P o s → s.told.index ≡ o.lane.index) → IfOk r (λ s. IsToldAt house place s.told)
  told-at place (Ok s) P each index = λ o begins. index o s (each o begins)
  told-at place (Err f) P each index = tt

  pub told-of : (place : ℕ) (r : Result Served HouseFault) (s : Served) → r ≡ Ok s → IfOk r (λ s. IsToldAt house place s.told) → IsToldAt house place s.told
  told-of place r s is told = subst (λ (x : Result Served HouseFault). IfOk x (λ s. IsToldAt house place s.told)) is told

  -- a call after a call
  pub both-follow : (old mid new : HousePass D) → Follows house old mid → Follows house mid new → Follows house old new
  both-follow old mid new f g = record { is = g.is; shard = g.shard ∙ f.shard }

  -- the lanes of a house that begins
  pub first-lane : (config : Config) (bs : List (BookView D)) (ts : List (TurnName (Opening D))) (ps : List (HousePass D)) (ls : List LaneKnowledge) → house.turns ≡ ts →
      BeginAll config 0 bs ts ps ls → IsFirstLane house ps ls
  first-lane config [] [] [] [] is all p l here found = absurd cc
  first-lane config [] [] [] (z ∷ ls) is all p l here found = absurd all
  first-lane config [] [] (y ∷ ps) ls is all p l here found = absurd all
  first-lane config [] (x ∷ ts) ps ls is all p l here found = absurd all
  first-lane config (w ∷ bs) [] ps ls is all p l here found = absurd all
  first-lane config (w ∷ bs) (x ∷ ts) [] ls is all p l here found = absurd all
  first-lane config (w ∷ bs) (x ∷ ts) (y ∷ ps) [] is all p l here found = absurd all
  first-lane config (w ∷ bs) (x ∷ ts) (y ∷ ps) (z ∷ ls) is all p l here found =
      let pass : y ≡ p = cc in
      let lane : z ≡ l = cc in
      record {
        opening = x.key;
        begins = (
          x,
          ap (λ (q : HousePass D). slice_get house.turns q.shard) (sym pass) ∙ ap (slice_get house.turns) all.0.shard ∙ ap (λ (us : List (TurnName (Opening D))). slice_get us 0) is,
          refl,
        );
        index_is = ap (λ (o : Opening D). o.lane.index) all.0.key ∙ ap (λ (k : LaneKnowledge). k.index) lane;
      }
