-- From a house that has begun to its end.
use Rattle.std.proofs.Common.{◌≡◌, ℕ, zero, suc, ◌+◌, Bool, List, [], ◌∷◌, length, Some, Result, Ok, Err, IfOk, refl, sym, ap, ◌∙◌, subst, arith}
use Rattle.std.specs.List.{AllByRecursion, slice_get}
use Rattle.std.proofs.lemmas.List.{length-map}
use Rattle.pcp_base.specs.declared.configs.Config.{Config}
use Rattle.pcp_base.specs.declared.configs.External.{External}
use Rattle.pcp_announce.specs.declared.doors.Group.{Group}
use Rattle.lease_disk.specs.declared.disks.DiskPair.{DiskPair}
use Rattle.lane_index.specs.Lanes.{LaneKnowledge}
use Rattle.turn_lock.specs.Passes.{TurnName}
use Rattle.shard_book.specs.Books.{BookView}
use Rattle.lease_house.specs.SoloOpenings.{OpensAll}
use Rattle.job_workers.specs.declared.tallies.TallyRow.{TallyRow}
use Rattle.request_workers.specs.declared.faults.ServeFault.{ServeFault}
use Rattle.request_workers.specs.declared.faults.ServeFault.TheVariants as ServeFaults
use Rattle.request_workers.specs.BegunHouses.{AnswersBegun}
use Rattle.request_workers.specs.Parts.{BegunState}
use Rattle.request_workers.specs.Seats.{ArePasses}
use Rattle.request_workers.specs.Served.{ShardRun}
use Rattle.shared_house.specs.declared.beginning.Begun.{Begun}
use Rattle.turned_shards.specs.declared.openings.Opening.{Opening}
use Rattle.turned_shards.specs.declared.passes.HousePass.{HousePass}
use Rattle.shared_house.specs.Beginnings.{BeginAll}
use Rattle.shared_house.specs.Endings.{AllKnowFirst, AreAtHome, EndsAll}
use Rattle.shared_house.specs.HouseCalls.{HouseView, IsPassOf}
use Rattle.house_workers.specs.HouseCallsOf.{IsServingPass, OpensWith, calls_of}
use Rattle.house_workers.specs.ServingAll.{Edges, IsBegunFor, ServesToEnd}

some_same : {X : Type 0} (x y : X) → Some x ≡ Some y → x ≡ y
some_same x y e = cc

-- ---- what a house begins with

-- the passes are such, and of the external addresses from this one on
abbrev pub InPlace : {D : Type 0} → (HousePass D → Type 0) → ℕ → List (HousePass D) → Type 0
InPlace P k [] = Unit {0}
InPlace P k (p ∷ ps) = (P p × (p.shard ≡ k)) × InPlace P (k + 1) ps

module _ {D : Type 0} (config : Config) where
  pub passes-count : (k : ℕ) (bs : List (BookView D)) (ts : List (TurnName (Opening D))) (ps : List (HousePass D)) (ls : List LaneKnowledge) → BeginAll config k bs ts ps ls → length ps ≡ length bs
  passes-count k [] [] [] [] all = refl
  passes-count k [] [] [] (z ∷ ls) all = absurd all
  passes-count k [] [] (y ∷ ps) ls all = absurd all
  passes-count k [] (x ∷ ts) ps ls all = absurd all
  passes-count k (w ∷ bs) [] ps ls all = absurd all
  passes-count k (w ∷ bs) (x ∷ ts) [] ls all = absurd all
  passes-count k (w ∷ bs) (x ∷ ts) (y ∷ ps) [] all = absurd all
  passes-count k (w ∷ bs) (x ∷ ts) (y ∷ ps) (z ∷ ls) all = ap (λ n. suc n) (passes-count (k + 1) bs ts ps ls all.1)

  lanes-count : (k : ℕ) (bs : List (BookView D)) (ts : List (TurnName (Opening D))) (ps : List (HousePass D)) (ls : List LaneKnowledge) → BeginAll config k bs ts ps ls → length ls ≡ length bs
  lanes-count k [] [] [] [] all = refl
  lanes-count k [] [] [] (z ∷ ls) all = absurd all
  lanes-count k [] [] (y ∷ ps) ls all = absurd all
  lanes-count k [] (x ∷ ts) ps ls all = absurd all
  lanes-count k (w ∷ bs) [] ps ls all = absurd all
  lanes-count k (w ∷ bs) (x ∷ ts) [] ls all = absurd all
  lanes-count k (w ∷ bs) (x ∷ ts) (y ∷ ps) [] all = absurd all
  lanes-count k (w ∷ bs) (x ∷ ts) (y ∷ ps) (z ∷ ls) all = ap (λ n. suc n) (lanes-count (k + 1) bs ts ps ls all.1)

  -- each turn was told the configuration
  all_open : (k : ℕ) (bs : List (BookView D)) (ts : List (TurnName (Opening D))) (ps : List (HousePass D)) (ls : List LaneKnowledge) (i : ℕ) (t : TurnName (Opening D))
      → BeginAll config k bs ts ps ls → slice_get ts i ≡ Some t → t.key.config ≡ config
  all_open k [] [] [] [] i t all there = absurd cc
  all_open k [] [] [] (z ∷ ls) i t all there = absurd all
  all_open k [] [] (y ∷ ps) ls i t all there = absurd all
  all_open k [] (x ∷ ts) ps ls i t all there = absurd all
  all_open k (w ∷ bs) [] ps ls i t all there = absurd all
  all_open k (w ∷ bs) (x ∷ ts) [] ls i t all there = absurd all
  all_open k (w ∷ bs) (x ∷ ts) (y ∷ ps) [] i t all there = absurd all
  all_open k (w ∷ bs) (x ∷ ts) (y ∷ ps) (z ∷ ls) zero t all there =
      ap (λ (u : TurnName (Opening D)). u.key.config) (sym (some_same x t there)) ∙ ap (λ (o : Opening D). o.config) all.0.key
  all_open k (w ∷ bs) (x ∷ ts) (y ∷ ps) (z ∷ ls) (suc i) t all there = all_open (k + 1) bs ts ps ls i t all.1 there

  -- the passes are of the external addresses, in order
  in_place : (P : HousePass D → Type 0) (k : ℕ) (bs : List (BookView D)) (ts : List (TurnName (Opening D))) (ps : List (HousePass D)) (ls : List LaneKnowledge)
      → BeginAll config k bs ts ps ls → AllByRecursion P ps → InPlace P k ps
  in_place P k [] [] [] [] all is = tt
  in_place P k [] [] [] (z ∷ ls) all is = absurd all
  in_place P k [] [] (y ∷ ps) ls all is = absurd all
  in_place P k [] (x ∷ ts) ps ls all is = absurd all
  in_place P k (w ∷ bs) [] ps ls all is = absurd all
  in_place P k (w ∷ bs) (x ∷ ts) [] ls all is = absurd all
  in_place P k (w ∷ bs) (x ∷ ts) (y ∷ ps) [] all is = absurd all
  in_place P k (w ∷ bs) (x ∷ ts) (y ∷ ps) (z ∷ ls) all is = ((is.0, all.0.shard), in_place P (k + 1) bs ts ps ls all.1 is.1)

pub books-count : {D : Type 0} (tells : Type 0) (seen : D → List ℕ) (moment : D → ℕ) (left_since : D → ℕ → List ℕ → Type 0) (may_leave : D → List ℕ → Type 0) (faults : D → ℕ)
    (config : Config) (m : ℕ) (xs : List External) (pairs : List (DiskPair D)) (bs : List (BookView D)) (spare : List (DiskPair D))
    → OpensAll tells seen moment left_since may_leave faults config m xs pairs bs spare → length bs ≡ length xs
books-count tells seen moment left_since may_leave faults config m [] pairs [] spare all = refl
books-count tells seen moment left_since may_leave faults config m [] pairs (b ∷ bs) spare all = absurd all
books-count tells seen moment left_since may_leave faults config m (x ∷ xs) [] bs spare all = absurd all
books-count tells seen moment left_since may_leave faults config m (x ∷ xs) (p ∷ ps) [] spare all = absurd all
books-count tells seen moment left_since may_leave faults config m (x ∷ xs) (p ∷ ps) (b ∷ bs) spare all =
    ap (λ n. suc n) (books-count tells seen moment left_since may_leave faults config m xs ps bs spare all.1)

module _ {D : Type 0} (tells : Type 0) (seen : D → List ℕ) (moment : D → ℕ)
    (left_since : D → ℕ → List ℕ → Type 0) (may_leave : D → List ℕ → Type 0) (faults : D → ℕ)
  where
    serving : (house : HouseView D) → ((place : ℕ) → OpensWith house place) → (k : ℕ) (ps : List (HousePass D)) → InPlace (IsPassOf house) k ps
        → ArePasses (calls_of tells seen moment left_since may_leave faults house) k ps
    serving house opens k [] h = tt
    serving house opens k (p ∷ ps) h = ((record { is = h.0.0; opens = opens p.shard }, h.0.1), serving house opens (k + 1) ps h.1)

    module _ (config : Config) (begun : Begun D) (is : IsBegunFor tells seen moment left_since may_leave faults config begun) where
      opens_with : (place : ℕ) → OpensWith begun.house place
      opens_with place o begins =
          ap (λ (x : Opening D). x.config) (sym begins.2)
          ∙ (all_open config 0 is.begins.books begun.house.turns begun.passes.items begun.lanes.items place begins.0 is.begins.begins.each begins.1
          ∙ sym is.config_is)

      pub begun_passes : ArePasses (calls_of tells seen moment left_since may_leave faults begun.house) 0 begun.passes.items
      begun_passes = serving begun.house opens_with 0 begun.passes.items
          (in_place config (IsPassOf begun.house) 0 is.begins.books begun.house.turns begun.passes.items begun.lanes.items is.begins.begins.each is.passes)

      pub begun_count : length begun.passes.items ≡ length config.externals
      begun_count = passes-count config 0 is.begins.books begun.house.turns begun.passes.items begun.lanes.items is.begins.begins.each
          ∙ books-count tells seen moment left_since may_leave faults config is.moment_then config.externals is.pairs is.begins.books begun.house.spare is.begins.opened

      pub begun_lanes : length begun.lanes.items ≡ length config.externals
      begun_lanes = lanes-count config 0 is.begins.books begun.house.turns begun.passes.items begun.lanes.items is.begins.begins.each
          ∙ books-count tells seen moment left_since may_leave faults config is.moment_then config.externals is.pairs is.begins.books begun.house.spare is.begins.opened

    -- ---- the passes that come back

    pub passes_back : (house : HouseView D) (config : Config) (groups : List Group) (port : ℕ) (fresh : Bool) (old new : BegunState (HousePass D)) (result : Result (List TallyRow) ServeFault)
        → AnswersBegun (calls_of tells seen moment left_since may_leave faults house) config groups port fresh old new result
        → ArePasses (calls_of tells seen moment left_since may_leave faults house) 0 old.passes
        → ArePasses (calls_of tells seen moment left_since may_leave faults house) 0 new.passes
    passes_back house config groups port fresh old new (Ok rows) h were = h.stay
    passes_back house config groups port fresh old new (Err ServeFaults.Read) h were = h.served.stay
    passes_back house config groups port fresh old new (Err ServeFaults.Threads) h were = h.served.stay
    passes_back house config groups port fresh old new (Err ServeFaults.Memory) h were =
        subst (λ (s : BegunState (HousePass D)). ArePasses (calls_of tells seen moment left_since may_leave faults house) 0 s.passes) (sym h) were

    pub count_back : (house : HouseView D) (config : Config) (groups : List Group) (port : ℕ) (fresh : Bool) (old new : BegunState (HousePass D)) (result : Result (List TallyRow) ServeFault)
        → AnswersBegun (calls_of tells seen moment left_since may_leave faults house) config groups port fresh old new result
        → length new.passes ≡ length old.passes
    count_back house config groups port fresh old new (Ok rows) h = h.count
    count_back house config groups port fresh old new (Err ServeFaults.Read) h = h.served.count
    count_back house config groups port fresh old new (Err ServeFaults.Threads) h = h.served.count
    count_back house config groups port fresh old new (Err ServeFaults.Memory) h = ap (λ (s : BegunState (HousePass D)). length s.passes) h

    pub pass_at : (house : HouseView D) (k : ℕ) (ps : List (HousePass D)) (i : ℕ) (p : HousePass D)
        → ArePasses (calls_of tells seen moment left_since may_leave faults house) k ps → slice_get ps i ≡ Some p
        → IsServingPass house p × (p.shard ≡ k + i)
    pass_at house k [] i p h there = absurd cc
    pass_at house k (q ∷ ps) zero p h there =
        subst (λ (x : HousePass D). IsServingPass house x × (x.shard ≡ k + zero)) (some_same q p there) (h.0.0, h.0.1 ∙ (let e : k ≡ k + zero = omega arith in e))
    pass_at house k (q ∷ ps) (suc i) p h there =
        let rest = pass_at house (k + 1) ps i p h.1 there in
        (rest.0, rest.1 ∙ (let e : (k + 1) + i ≡ k + suc i = omega arith in e))

    pub at_home : (house : HouseView D) (ps : List (HousePass D)) → ArePasses (calls_of tells seen moment left_since may_leave faults house) 0 ps
        → length ps ≡ length house.turns → AreAtHome house.turns ps
    at_home house ps h count = record {
      count = count;
      each = λ place turn pass there here.
          let is = pass_at house 0 ps place pass h here in
          let at : pass.shard ≡ place = is.1 ∙ (let e : 0 + place ≡ place = omega arith in e) in
          let same : is.0.is.turn ≡ turn = some_same is.0.is.turn turn (sym is.0.is.there ∙ (ap (slice_get house.turns) at ∙ there)) in
          record {
            turn_is = is.0.is.same ∙ ap (λ (t : TurnName (Opening D)). t.id) same;
            home = is.0.is.home;
          };
    }

    -- ---- the whole

    pub serves_to_end : (config : Config) (groups : List Group) (port : ℕ) (begun : Begun D) (house back : HouseView D) (lanes : List LaneKnowledge) (old : Edges)
        (then : BegunState (HousePass D)) (result : Result (List TallyRow) ServeFault) (ended : List (HousePass D)) (pairs : List (DiskPair D))
        → house ≡ begun.house → back ≡ house → lanes ≡ begun.lanes.items
        → AnswersBegun (calls_of tells seen moment left_since may_leave faults house) config groups port begun.fresh
        (record {
          passes = begun.passes.items;
          lanes = lanes;
          left = old.left;
          faults = old.faults;
          outs = old.outs;
          links = old.links;
          clocks = old.clocks;
        })
        then result
        → EndsAll tells seen moment left_since may_leave faults back.turns then.passes ended back.spare pairs
        → AllKnowFirst back.turns ended then.lanes
        → ServesToEnd tells seen moment left_since may_leave faults config groups port begun old
        (record {
          left = then.left;
          faults = then.faults;
          outs = then.outs;
          links = then.links;
          clocks = then.clocks;
        })
        result pairs
    serves_to_end config groups port begun house back lanes old then result ended pairs same again readers answers ends known = record {
      then = then;
      edges = refl;
      answers = subst (λ (h : HouseView D). AnswersBegun (calls_of tells seen moment left_since may_leave faults h) config groups port begun.fresh
          (record {
            passes = begun.passes.items;
            lanes = begun.lanes.items;
            left = old.left;
            faults = old.faults;
            outs = old.outs;
            links = old.links;
            clocks = old.clocks;
          })
          then result) same
          (subst (λ (l : List LaneKnowledge). AnswersBegun (calls_of tells seen moment left_since may_leave faults house) config groups port begun.fresh
          (record {
            passes = begun.passes.items;
            lanes = l;
            left = old.left;
            faults = old.faults;
            outs = old.outs;
            links = old.links;
            clocks = old.clocks;
          })
          then result) readers answers);
      ended = ended;
      ends = subst (λ (h : HouseView D). EndsAll tells seen moment left_since may_leave faults h.turns then.passes ended h.spare pairs) (again ∙ same) ends;
      lanes = subst (λ (h : HouseView D). AllKnowFirst h.turns ended then.lanes) (again ∙ same) known;
    }

    -- the passes with which a house that was served is ended
    pub ends_home : (config : Config) (begun : Begun D) (is : IsBegunFor tells seen moment left_since may_leave faults config begun) (house back : HouseView D)
        (groups : List Group) (port : ℕ) (fresh : Bool) (old new : BegunState (HousePass D)) (result : Result (List TallyRow) ServeFault)
        → house ≡ begun.house → back ≡ house → old.passes ≡ begun.passes.items
        → AnswersBegun (calls_of tells seen moment left_since may_leave faults house) config groups port fresh old new result
        → AreAtHome back.turns new.passes
    ends_home config begun is house back groups port fresh old new result same again passes answers =
        let told : AnswersBegun (calls_of tells seen moment left_since may_leave faults begun.house) config groups port fresh old new result =
        subst (λ (h : HouseView D). AnswersBegun (calls_of tells seen moment left_since may_leave faults h) config groups port fresh old new result) same answers in
        let were : ArePasses (calls_of tells seen moment left_since may_leave faults begun.house) 0 old.passes =
        subst (λ (l : List (HousePass D)). ArePasses (calls_of tells seen moment left_since may_leave faults begun.house) 0 l) (sym passes) (begun_passes config begun is) in
        let home : AreAtHome begun.house.turns new.passes =
        at_home begun.house new.passes (passes_back begun.house config groups port fresh old new result told were)
        (count_back begun.house config groups port fresh old new result told ∙ (ap length passes ∙ is.home.count)) in
        subst (λ (h : HouseView D). AreAtHome h.turns new.passes) (sym (again ∙ same)) home

    -- the passes with which it begins, for the workers
    pub begins_for : (config : Config) (begun : Begun D) (is : IsBegunFor tells seen moment left_since may_leave faults config begun) (house : HouseView D)
        → house ≡ begun.house → ArePasses (calls_of tells seen moment left_since may_leave faults house) 0 begun.passes.items
    begins_for config begun is house same =
        subst (λ (h : HouseView D). ArePasses (calls_of tells seen moment left_since may_leave faults h) 0 begun.passes.items) (sym same) (begun_passes config begun is)

    -- there is a row for each external address
    pub rows_back : (config : Config) (begun : Begun D) (is : IsBegunFor tells seen moment left_since may_leave faults config begun) (house : HouseView D)
        (groups : List Group) (port : ℕ) (fresh : Bool) (old new : BegunState (HousePass D)) (result : Result (List TallyRow) ServeFault)
        → old.passes ≡ begun.passes.items
        → AnswersBegun (calls_of tells seen moment left_since may_leave faults house) config groups port fresh old new result
        → IfOk result (λ rows. length rows ≡ length config.externals)
    rows_back config begun is house groups port fresh old new (Err fault) passes answers = tt
    rows_back config begun is house groups port fresh old new (Ok rows) passes answers =
        let runs = answers.served.serves.runs in
        let a = ap length runs.rows_are in
        let b = length-map runs.shards (λ (r : ShardRun (HousePass D)). r.row) in
        let c = ap length runs.passes_are in
        let d = length-map runs.shards (λ (r : ShardRun (HousePass D)). r.new.pass) in
        let e = answers.count in
        let f = ap length passes in
        let g = begun_count config begun is in
        omega (arith, a, b, c, d, e, f, g)
