-- The turns of a house are taken for good one after the other, the last one first.
use Rattle.std.specs.Prelude.{slice_set}
use Rattle.std.specs.List.{slice_get}
use Rattle.std.proofs.Common.{◌≡◌, ◌⊎◌, ◌∙◌, ℕ, zero, suc, ◌+◌, ◌<◌, ◌≤◌, List, [], ◌∷◌, ◌++◌, length}
use Rattle.std.proofs.Common.{Option}
use Rattle.std.proofs.Common.{Some, None, inl, inr, refl, ap, sym, subst, append_assoc, arith}
use Rattle.std.proofs.lemmas.List.{append-nil, length-append}
use Rattle.lease_disk.specs.declared.disks.DiskPair.{DiskPair}
use Rattle.lease_house.specs.BookCalls.{ChangesAt}
use Rattle.lease_house.proofs.ListLemmas.{get-put, get-within, length-put, put-at, within-get}
use Rattle.lane_index.specs.Lanes.{LaneKnowledge}
use Rattle.turn_lock.specs.Passes.{TurnName}
use Rattle.turned_shards.specs.declared.openings.Opening.{Opening}
use Rattle.turned_shards.specs.declared.passes.HousePass.{HousePass}
use Rattle.shared_house.specs.Endings.{AllKnowFirst, AreAtHome, AreLanesOf, EndsAll, IsAtHome}
use Rattle.turned_shards.specs.Turnings.{EndsOne, KnowsFirst}

-- an item behind others, and before others
get-behind : {X : Type 0} (xs ys : List X) (x : X) →
    slice_get ((xs ++ x ∷ []) ++ ys) (length xs) ≡ Some x
get-behind [] ys x = refl
get-behind (z ∷ zs) ys x = get-behind zs ys x

same-or-not : (n k : ℕ) → (n ≡ k) ⊎ ¬ (n ≡ k)
same-or-not zero zero = inl refl
same-or-not zero (suc k) = inr (λ e. omega (arith, e))
same-or-not (suc n) zero = inr (λ e. omega (arith, e))
same-or-not (suc n) (suc k) =
    elim (same-or-not n k) [
      | inl e ↦ inl (ap (λ (m : ℕ). suc m) e)
      | inr other ↦ inr (λ e. other (omega (arith, e)))
    ]

module _ {D : Type 0} (tells : Type 0) (seen : D → List ℕ) (moment : D → ℕ)
    (left_since : D → ℕ → List ℕ → Type 0) (may_leave : D → List ℕ → Type 0)
    (counts : D → ℕ) where
  -- the turns behind these were taken for good
  pub record AreEndedFrom (all left : List (TurnName (Opening D))) (old now : List (HousePass D))
      (spare pairs : List (DiskPair D)) : Type 0 where
    pub rest : List (TurnName (Opening D))
    pub split : all ≡ left ++ rest
    pub ended : List (DiskPair D)
    pub count : length ended ≡ length rest
    pub count_passes : length now ≡ length old
    pub each : (i n : ℕ) (turn : TurnName (Opening D)) (p q : HousePass D) (pair : DiskPair D) →
        n ≡ length left + i → slice_get rest i ≡ Some turn → slice_get old n ≡ Some p →
        slice_get now n ≡ Some q → slice_get ended i ≡ Some pair →
        EndsOne tells seen moment left_since may_leave counts turn.key p q pair
    pub before : (place : ℕ) → place < length left → slice_get now place ≡ slice_get old place
    pub back : pairs ≡ ended ++ spare

  pub none-ended : (turns : List (TurnName (Opening D))) (old : List (HousePass D))
      (spare : List (DiskPair D)) → AreEndedFrom turns turns old old spare spare
  none-ended turns old spare =
      record {
        rest = [];
        split = sym (append-nil turns);
        ended = [];
        count = refl;
        count_passes = refl;
        each = λ i n turn p q pair at a b c d. absurd cc;
        before = λ place below. refl;
        back = refl;
      }

  other-left : (k : ℕ) (now : List (HousePass D)) (before after : HousePass D) (place : ℕ)
      (o : Option (HousePass D)) → slice_get now k ≡ Some before → ¬ (place ≡ k) →
      slice_get (slice_set now k after) place ≡ o → slice_get now place ≡ o
  other-left k now before after place (Some z) was other h =
      elim (get-put now k place before after z was h) [
        | inl p ↦ absurd (other p.0)
        | inr p ↦ p.1
      ]
  other-left k now before after place None was other h = by (slice_get now place) refl
    where
      by : (o : Option (HousePass D)) → slice_get now place ≡ o → slice_get now place ≡ None
      by None e = e
      by (Some z) e =
          let inside = get-within now place z e in
          let same = length-put now k after in
          let found = within-get (slice_set now k after) place (omega (arith, inside, same)) in
          absurd (cc (found.1, h))

  -- the turn that is taken next
  next-there : (all left fewer : List (TurnName (Opening D))) (old now : List (HousePass D))
      (spare pairs : List (DiskPair D)) (t : TurnName (Opening D)) → left ≡ fewer ++ t ∷ [] →
      AreEndedFrom all left old now spare pairs →
      slice_get all (length fewer) ≡ Some t
  next-there all left fewer old now spare pairs t is so =
      ap (λ (l : List (TurnName (Opening D))). slice_get l (length fewer))
      (so.split ∙ ap (λ (l : List (TurnName (Opening D))). l ++ so.rest) is)
      ∙ get-behind fewer so.rest t

  one-more : (left fewer : List (TurnName (Opening D))) (t : TurnName (Opening D)) →
      left ≡ fewer ++ t ∷ [] → length left ≡ length fewer + 1
  one-more left fewer t is = ap length is ∙ length-append fewer (t ∷ [])

  pub one-ended : (all left fewer : List (TurnName (Opening D))) (old now new : List (HousePass D))
      (spare pairs more : List (DiskPair D)) (t : TurnName (Opening D)) (pair : DiskPair D) →
      left ≡ fewer ++ t ∷ [] →
      AreEndedFrom all left old now spare pairs →
      ChangesAt (length fewer) now new
      (λ p q. EndsOne tells seen moment left_since may_leave counts t.key p q pair) → more ≡ pair ∷ pairs →
      AreEndedFrom all fewer old new spare more
  one-ended all left fewer old now new spare pairs more t pair is so changes put =
      record {
        rest = t ∷ so.rest;
        split = so.split ∙ ap (λ (l : List (TurnName (Opening D))). l ++ so.rest) is
            ∙ append_assoc fewer (t ∷ []) so.rest;
        ended = pair ∷ so.ended;
        count = ap (λ (n : ℕ). suc n) so.count;
        count_passes = ap length changes.is ∙ length-put now k changes.after ∙ so.count_passes;
        each = each;
        before = before;
        back = put ∙ ap (λ (l : List (DiskPair D)). pair ∷ l) so.back;
      }
    where
      k : ℕ
      k = length fewer

      longer : length left ≡ k + 1
      longer = one-more left fewer t is

      was : slice_get old k ≡ Some changes.before
      was = sym (so.before k (omega (arith, longer))) ∙ changes.was

      same-place : (place : ℕ) → slice_get new place
          ≡ slice_get (slice_set now k changes.after) place
      same-place place = ap (λ (l : List (HousePass D)). slice_get l place) changes.is

      before : (place : ℕ) → place < k → slice_get new place ≡ slice_get old place
      before place below =
          sym (other-left k now changes.before changes.after place (slice_get new place) changes.was
          (λ e. omega (arith, e, below)) (sym (same-place place)))
          ∙ so.before place (omega (arith, below, longer))

      here : (n : ℕ) (turn : TurnName (Opening D)) (p q : HousePass D) (d : DiskPair D) → n ≡ k →
          t ≡ turn → pair ≡ d → slice_get old n ≡ Some p → slice_get new n ≡ Some q →
          EndsOne tells seen moment left_since may_leave counts turn.key p q d
      here n turn p q d at turn_is pair_is b c =
          let old_is : changes.before ≡ p =
          (let h : Some changes.before ≡ Some p = sym was ∙ ap (slice_get old) (sym at) ∙ b in
          cc) in
          let now_there : slice_get (slice_set now k changes.after) k ≡ Some changes.after =
          put-at now k changes.before changes.after changes.was in
          let new_is : changes.after ≡ q =
          (let h : Some changes.after ≡ Some q = sym now_there ∙ sym (same-place k)
          ∙ ap (slice_get new) (sym at) ∙ c in cc) in
          subst (λ (u : TurnName (Opening D)). EndsOne tells seen moment left_since may_leave counts u.key p q d)
          turn_is
          (subst (λ (u : HousePass D). EndsOne tells seen moment left_since may_leave counts t.key u q d) old_is
          (subst (λ (u : HousePass D). EndsOne tells seen moment left_since may_leave counts t.key changes.before u d)
          new_is
          (subst (λ (u : DiskPair D). EndsOne tells seen moment left_since may_leave counts t.key changes.before
          changes.after u) pair_is changes.how)))

      each : (i n : ℕ) (turn : TurnName (Opening D)) (p q : HousePass D) (d : DiskPair D) →
          n ≡ k + i → slice_get (t ∷ so.rest) i ≡ Some turn → slice_get old n ≡ Some p →
          slice_get new n ≡ Some q → slice_get (pair ∷ so.ended) i ≡ Some d →
          EndsOne tells seen moment left_since may_leave counts turn.key p q d
      each zero n turn p q d at a b c e = here n turn p q d (omega (arith, at))
          (let h : Some t ≡ Some turn = a in cc) (let h : Some pair ≡ Some d = e in cc) b c
      each (suc i) n turn p q d at a b c e =
          let place : n ≡ length left + i = omega (arith, at, longer) in
          let there : slice_get now n ≡ Some q =
          other-left k now changes.before changes.after n (Some q) changes.was
          (λ same. omega (arith, same, at)) (sym (same-place n) ∙ c) in
          so.each i n turn p q d place a b there e

  pub all-ended : (turns : List (TurnName (Opening D))) (left : List (TurnName (Opening D)))
      (old now : List (HousePass D)) (spare pairs : List (DiskPair D)) → left ≡ [] →
      AreEndedFrom turns left old now spare pairs →
      EndsAll tells seen moment left_since may_leave counts turns old now spare pairs
  all-ended turns left old now spare pairs none so =
      let whole : turns ≡ so.rest = so.split
      ∙ ap (λ (l : List (TurnName (Opening D))). l ++ so.rest) none in
      let empty : length left ≡ 0 = ap length none in
      record {
        ended = so.ended;
        count = so.count ∙ ap length (sym whole);
        count_passes = so.count_passes;
        each = λ place turn p q pair a b c d. so.each place place turn p q pair
            (omega (arith, empty))
            (ap (λ (l : List (TurnName (Opening D))). slice_get l place) (sym whole) ∙ a) b c d;
        back = so.back;
      }

  -- the pass of a turn that wasn't taken yet is at home
  pub still-home : (all left fewer : List (TurnName (Opening D))) (old now : List (HousePass D))
      (spare pairs : List (DiskPair D)) (t : TurnName (Opening D)) (p : HousePass D) →
      left ≡ fewer ++ t ∷ [] → AreAtHome all old →
      AreEndedFrom all left old now spare pairs → slice_get now (length fewer) ≡ Some p →
      IsAtHome t p
  still-home all left fewer old now spare pairs t p is home so has =
      let longer = one-more left fewer t is in
      home.each (length fewer) t p (next-there all left fewer old now spare pairs t is so)
      (sym (so.before (length fewer) (omega (arith, longer))) ∙ has)

  -- the lanes of the turns behind these know first records
  abbrev pub HaveMetFrom : (all left : List (TurnName (Opening D))) (now : List (HousePass D))
      (lanes : List LaneKnowledge) → Type 0
  HaveMetFrom all left now lanes =
      (place : ℕ) (turn : TurnName (Opening D)) (pass : HousePass D) (lane : LaneKnowledge) →
      length left ≤ place → slice_get all place ≡ Some turn → slice_get now place ≡ Some pass →
      slice_get lanes place ≡ Some lane → KnowsFirst turn.key pass.history.seen lane

  pub none-met : (turns : List (TurnName (Opening D))) (now : List (HousePass D))
      (lanes : List LaneKnowledge) → HaveMetFrom turns turns now lanes
  none-met turns now lanes place turn pass lane behind there here found =
      let inside = get-within turns place turn there in absurd (omega (arith, inside, behind))

  pub one-met : (all left fewer : List (TurnName (Opening D))) (old now new : List (HousePass D))
      (lanes : List LaneKnowledge) (spare pairs : List (DiskPair D)) (t : TurnName (Opening D))
      (P : HousePass D → HousePass D → Type 0) → left ≡ fewer ++ t ∷ [] →
      AreEndedFrom all left old now spare pairs → HaveMetFrom all left now lanes →
      ChangesAt (length fewer) now new P →
      ((pass : HousePass D) (lane : LaneKnowledge) → slice_get new (length fewer) ≡ Some pass →
      slice_get lanes (length fewer) ≡ Some lane → KnowsFirst t.key pass.history.seen lane) →
      HaveMetFrom all fewer new lanes
  one-met all left fewer old now new lanes spare pairs t P is so met changes meets place turn pass
      lane behind there here found =
      elim (same-or-not place (length fewer)) [
        | inl at ↦
            (let same : Some t ≡ Some turn =
            sym (next-there all left fewer old now spare pairs t is so)
            ∙ ap (slice_get all) (sym at) ∙ there in
            let turn_is : t ≡ turn = cc in
            subst (λ (u : TurnName (Opening D)). KnowsFirst u.key pass.history.seen lane) turn_is
            (meets pass lane (ap (slice_get new) (sym at) ∙ here)
            (ap (slice_get lanes) (sym at) ∙ found)))
        | inr other ↦
            (let longer = one-more left fewer t is in
            met place turn pass lane (omega (arith, longer, behind, other)) there
            (other-left (length fewer) now changes.before changes.after place (Some pass)
            changes.was other
            (ap (λ (l : List (HousePass D)). slice_get l place) (sym changes.is) ∙ here)) found)
      ]

  pub all-met : (turns left : List (TurnName (Opening D))) (now : List (HousePass D))
      (lanes : List LaneKnowledge) → left ≡ [] → HaveMetFrom turns left now lanes →
      AllKnowFirst turns now lanes
  all-met turns left now lanes none met place turn pass lane =
      let empty : length left ≡ 0 = ap length none in
      met place turn pass lane (omega (arith, empty))

  -- the lane of a turn that wasn't taken yet
  pub next-lane : (all left fewer : List (TurnName (Opening D))) (old now : List (HousePass D))
      (lanes : List LaneKnowledge) (spare pairs : List (DiskPair D)) (t : TurnName (Opening D))
      (lane : LaneKnowledge) → left ≡ fewer ++ t ∷ [] → AreLanesOf all lanes →
      AreEndedFrom all left old now spare pairs → slice_get lanes (length fewer) ≡ Some lane →
      lane.index ≡ t.key.lane.index
  next-lane all left fewer old now lanes spare pairs t lane is are so found =
      are.each (length fewer) t lane (next-there all left fewer old now spare pairs t is so) found
