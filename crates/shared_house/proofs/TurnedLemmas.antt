-- Books are put behind turns one after the other, and come out again.
use Rattle.std.specs.List.{AllZip}
use Rattle.std.specs.Option.{option_to_list}
use Rattle.std.proofs.Common.{◌≡◌, ◌∙◌, ℕ, ◌+◌, ◌-◌, ◌^◌, List, [], ◌∷◌, ◌++◌, Option, Some, inl}
use Rattle.std.proofs.Common.{inr, length, map, refl, ap, sym, subst, append_assoc, arith}
use Rattle.std.proofs.lemmas.List.{append-nil, length-append}
use Rattle.pcp_base.specs.declared.configs.Config.{Config}
use Rattle.lease_disk.specs.declared.disks.DiskPair.{DiskPair}
use Rattle.lane_index.specs.Lanes.{LaneKnowledge}
use Rattle.turn_lock.specs.Passes.{TurnName, new_pass}
use Rattle.epoch_word.specs.Rule.{SeatKnowledge}
use Rattle.shard_book.specs.Books.{BookView}
use Rattle.turned_shards.specs.declared.openings.Opening.{Opening}
use Rattle.turned_shards.specs.declared.passes.HousePass.{HousePass}
use Rattle.shared_house.specs.declared.turned.Turned.{Turned}
use Rattle.shared_house.specs.Beginnings.{BeginAll, ComeBack, ComesBack}
use Rattle.shared_house.specs.Turned.{AddsOne, AreUnshared, TakesApart}
use Rattle.turned_shards.specs.Turnings.{StandsStill}
use Rattle.shared_house.proofs.BeginLemmas.{IsKeyed, begin-keyed, begin-push, map-push, zip-behind}
use Rattle.shared_house.proofs.BeginLemmas.{zip-last, zip-push, zip-same}

-- ---- behind turns

module _ {D : Type 0} (config : Config) where
  -- the books before the rest stand behind turns, each with the seat of its place
  pub record AreTurnedTo (all rest : List (BookView D)) (k : ℕ) (made : Turned D)
      (seats left : List SeatKnowledge) : Type 0 where
    pub done : List (BookView D)
    pub split : all ≡ done ++ rest
    pub count : length done ≡ k
    pub begun : BeginAll config 0 done made.turns.items made.passes.items made.lanes.items
    pub seated : map (λ p. p.epoch) made.passes.items ++ left ≡ seats

  begun-by : (ts us : List (TurnName (Opening D))) (ps qs : List (HousePass D))
      (ls ms : List LaneKnowledge) (bs : List (BookView D)) → us ≡ ts → qs ≡ ps → ms ≡ ls →
      BeginAll config 0 bs ts ps ls → BeginAll config 0 bs us qs ms
  begun-by ts us ps qs ls ms bs same_t same_p same_l all =
      subst (λ (l : List (TurnName (Opening D))). BeginAll config 0 bs l qs ms) (sym same_t)
      (subst (λ (l : List (HousePass D)). BeginAll config 0 bs ts l ms) (sym same_p)
      (subst (λ (l : List LaneKnowledge). BeginAll config 0 bs ts ps l) (sym same_l) all))

  pub none-turned-to : (all : List (BookView D)) (made : Turned D) (seats : List SeatKnowledge) →
      made.turns.items ≡ [] → made.passes.items ≡ [] → made.lanes.items ≡ [] →
      AreTurnedTo all all 0 made seats seats
  none-turned-to all made seats turns passes lanes = record {
    done = [];
    split = refl;
    count = refl;
    begun = begun-by [] made.turns.items [] made.passes.items [] made.lanes.items [] turns passes
        lanes tt;
    seated = ap (λ (ps : List (HousePass D)). map (λ p. p.epoch) ps ++ seats) passes;
  }

  pub one-turned : (all rest more : List (BookView D)) (k : ℕ) (made new : Turned D)
      (seats left after : List SeatKnowledge) (b : BookView D) (s : SeatKnowledge) →
      rest ≡ b ∷ more → left ≡ s ∷ after →
      AreTurnedTo all rest k made seats left → AddsOne config k b s made new →
      AreTurnedTo all more (k + 1) new seats after
  one-turned all rest more k made new seats left after b s rest_is left_is so adds = record {
    done = so.done ++ b ∷ [];
    split = so.split ∙ ap (λ (l : List (BookView D)). so.done ++ l) rest_is
        ∙ sym (append_assoc so.done (b ∷ []) more);
    count = length-append so.done (b ∷ []) ∙ ap (λ (n : ℕ). n + 1) so.count;
    begun = begun-by _ new.turns.items _ new.passes.items _ new.lanes.items
        (so.done ++ b ∷ []) adds.turns adds.passes adds.lanes
        (begin-push config 0 so.done made.turns.items made.passes.items made.lanes.items k b
        adds.turn pass adds.lane so.begun (let n = so.count in omega (arith, n))
        (record { key = adds.key; shard = refl; history = refl; leases = adds.leases }));
    seated = ap (λ (ps : List (HousePass D)). map (λ p. p.epoch) ps ++ after) adds.passes
        ∙ ap (λ (ss : List SeatKnowledge). ss ++ after)
        (map-push (λ p. p.epoch) made.passes.items pass)
        ∙ append_assoc (map (λ p. p.epoch) made.passes.items) (s ∷ []) after
        ∙ ap (λ (ss : List SeatKnowledge). map (λ p. p.epoch) made.passes.items ++ ss)
        (sym left_is) ∙ so.seated;
  }
    where
      pass : HousePass D
      pass = record { shard = k; history = new_pass adds.turn.id (2 ^ 64 - 1) [] []; epoch = s }

  -- all stand behind turns
  pub all-turned : (all rest : List (BookView D)) (k : ℕ) (made : Turned D)
      (seats left : List SeatKnowledge) → rest ≡ [] → AreTurnedTo all rest k made seats left →
      BeginAll config 0 all made.turns.items made.passes.items made.lanes.items
  all-turned all rest k made seats left none so =
      let whole : all ≡ so.done = so.split ∙ ap (λ (l : List (BookView D)). so.done ++ l) none
      ∙ append-nil so.done in
      subst (λ (bs : List (BookView D)). BeginAll config 0 bs made.turns.items made.passes.items
      made.lanes.items) (sym whole) so.begun

  pub all-seated : (all rest : List (BookView D)) (k : ℕ) (made : Turned D)
      (seats left : List SeatKnowledge) → left ≡ [] → AreTurnedTo all rest k made seats left →
      map (λ p. p.epoch) made.passes.items ≡ seats
  all-seated all rest k made seats left none so =
      sym (append-nil (map (λ p. p.epoch) made.passes.items))
      ∙ ap (λ (ss : List SeatKnowledge). map (λ p. p.epoch) made.passes.items ++ ss) (sym none)
      ∙ so.seated

-- ---- out of turns

module _ {D : Type 0} (tells : Type 0) (moment : D → ℕ) (left_since : D → ℕ → List ℕ → Type 0)
    (may_leave : D → List ℕ → Type 0) (faults : D → ℕ) where
  abbrev pub IsOut : TurnName (Opening D) → BookView D → Type 0
  IsOut t b = StandsStill tells moment left_since may_leave faults t.key.book b

  -- the turns behind these were taken apart
  pub record AreApartFrom (turns left : List (TurnName (Opening D))) (passes : List (HousePass D))
      (old now : List (BookView D)) : Type 0 where
    pub unshared : AreUnshared left passes
    pub takes : (out : List (BookView D)) → AllZip IsOut left out →
        TakesApart tells moment left_since may_leave faults turns old (out ++ now)

  pub none-apart : (turns : List (TurnName (Opening D))) (passes : List (HousePass D))
      (old : List (BookView D)) → AreUnshared turns passes → AreApartFrom turns turns passes old old
  none-apart turns passes old unshared = record {
    unshared = unshared;
    takes = λ out each. record { out = out; each = each; new_is = refl };
  }

  pub last-unshared : (left fewer : List (TurnName (Opening D))) (passes less : List (HousePass D))
      (t : TurnName (Opening D)) (p : HousePass D) → left ≡ fewer ++ t ∷ [] →
      passes ≡ less ++ p ∷ [] → AreUnshared left passes →
      AreUnshared fewer less × (p.history ≡ new_pass t.id (2 ^ 64 - 1) [] [])
  last-unshared left fewer passes less t p left_is passes_is unshared =
      zip-last (λ (u : TurnName (Opening D)) (q : HousePass D). q.history
      ≡ new_pass u.id (2 ^ 64 - 1) [] []) fewer less t p
      (subst (λ (l : List (TurnName (Opening D))). AreUnshared l (less ++ p ∷ [])) left_is
      (subst (λ (l : List (HousePass D)). AreUnshared left l) passes_is unshared))

  pub one-apart : (turns left fewer : List (TurnName (Opening D)))
      (passes less : List (HousePass D)) (old now new : List (BookView D))
      (t : TurnName (Opening D)) (p : HousePass D) (b : BookView D) → left ≡ fewer ++ t ∷ [] →
      passes ≡ less ++ p ∷ [] →
      AreApartFrom turns left passes old now → IsOut t b → new ≡ b ∷ now →
      AreApartFrom turns fewer less old new
  one-apart turns left fewer passes less old now new t p b left_is passes_is so out_is put =
      record {
        unshared = (last-unshared left fewer passes less t p left_is passes_is so.unshared).0;
        takes = λ out each.
            let longer : AllZip IsOut left (out ++ b ∷ []) =
            subst (λ (l : List (TurnName (Opening D))). AllZip IsOut l (out ++ b ∷ []))
            (sym left_is) (zip-push IsOut fewer out t b each out_is) in
            subst (λ (bs : List (BookView D)).
            TakesApart tells moment left_since may_leave faults turns old bs)
            (append_assoc out (b ∷ []) now ∙ ap (λ (bs : List (BookView D)). out ++ bs) (sym put))
            (so.takes (out ++ b ∷ []) longer);
      }

  pub all-apart : (turns left : List (TurnName (Opening D))) (passes : List (HousePass D))
      (old now : List (BookView D)) → left ≡ [] → AreApartFrom turns left passes old now →
      TakesApart tells moment left_since may_leave faults turns old now
  all-apart turns left passes old now none so =
      so.takes [] (subst (λ (l : List (TurnName (Opening D))). AllZip IsOut l []) (sym none) tt)

  -- ---- and back

  come-back : (ts : List (TurnName (Opening D))) (bs out : List (BookView D)) →
      AllZip IsKeyed ts bs → AllZip IsOut ts out →
      AllZip (ComesBack tells moment left_since may_leave faults) bs out
  come-back [] [] [] keyed each = tt
  come-back [] [] (c ∷ cs) keyed each = absurd each
  come-back [] (b ∷ bs) out keyed each = absurd keyed
  come-back (t ∷ ts) [] out keyed each = absurd keyed
  come-back (t ∷ ts) (b ∷ bs) [] keyed each = absurd each
  come-back (t ∷ ts) (b ∷ bs) (c ∷ cs) keyed each = (
    inr (subst (λ (o : BookView D). StandsStill tells moment left_since may_leave faults o c)
        keyed.0 each.0),
    come-back ts bs cs keyed.1 each.1,
  )

  same-back : (bs : List (BookView D)) →
      AllZip (ComesBack tells moment left_since may_leave faults) bs bs
  same-back bs = zip-same (ComesBack tells moment left_since may_leave faults)
      (λ (b : BookView D). inl refl) bs

  -- nothing was done with the books
  pub untouched-back : (books : List (BookView D)) (spare pairs : List (DiskPair D)) →
      pairs ≡ map (λ b. b.journal.pair) books ++ spare →
      ComeBack tells moment left_since may_leave faults books spare pairs
  untouched-back books spare pairs is = record { left = books; each = same-back books; back = is }

  -- a book wasn't put behind a turn; those before it came out of theirs
  pub stopped-back : (config : Config) (all rest more again apart : List (BookView D)) (k : ℕ)
      (made : Turned D) (seats left : List SeatKnowledge) (spare pairs : List (DiskPair D))
      (b c : BookView D) → rest ≡ b ∷ more → c ≡ b → again ≡ c ∷ more →
      AreTurnedTo config all rest k made seats left →
      TakesApart tells moment left_since may_leave faults made.turns.items again apart →
      pairs ≡ map (λ b. b.journal.pair) apart ++ spare →
      ComeBack tells moment left_since may_leave faults all spare pairs
  stopped-back config all rest more again apart k made seats left spare pairs b c rest_is same
      again_is so takes back =
      let again_same : again ≡ rest = again_is ∙ ap (λ (x : BookView D). x ∷ more) same
      ∙ sym rest_is in
      let keyed = begin-keyed config 0 so.done made.turns.items made.passes.items made.lanes.items
      so.begun in
      let first : AllZip (ComesBack tells moment left_since may_leave faults) so.done takes.out =
      come-back made.turns.items so.done takes.out keyed takes.each in
      record {
        left = takes.out ++ rest;
        each = subst
            (λ (bs : List (BookView D)).
            AllZip (ComesBack tells moment left_since may_leave faults) bs (takes.out ++ rest))
            (sym so.split)
            (zip-behind (ComesBack tells moment left_since may_leave faults) so.done rest
            takes.out rest first (same-back rest));
        back = back ∙ ap (λ (bs : List (BookView D)). map (λ b. b.journal.pair) bs ++ spare)
            (takes.new_is ∙ ap (λ (bs : List (BookView D)). takes.out ++ bs) again_same);
      }

-- ---- the vectors

pub none-left : {X : Type 0} (xs : List X) → length xs ≡ 0 → xs ≡ []
none-left [] h = refl
none-left (x ∷ xs) h = absurd (omega (arith, h))

pub popped : {X : Type 0} (left fewer : List X) (o : Option X) (x : X) →
    left ≡ fewer ++ option_to_list o → o ≡ Some x → left ≡ fewer ++ x ∷ []
popped left fewer o x is told = is ∙ ap (λ (p : Option _). fewer ++ option_to_list p) told
