-- Where jobs count as faulted, a count of the pair rose.
use Rattle.std.proofs.Common.{◌≡◌, ◌∙◌, ◌⊎◌, inl, inr, ℕ, zero, suc, ◌+◌, ◌-◌, ◌*◌, ◌^◌, ◌<◌, ◌≤◌, ltb, Bool, true, false, List, [], ◌∷◌, ◌++◌, length, map, get_or, Some, Ok, refl, sym, ap, subst, arith}
use Rattle.std.specs.List.{slice_get}
use Rattle.std.proofs.lemmas.Grind.{common_steps}
use Rattle.std.proofs.lemmas.List.{length-map}
use Rattle.std.proofs.lemmas.Option.{slice_get-get_or, slice_get_within}
use Rattle.pcp_base.specs.declared.configs.Config.{Config}
use Rattle.pcp_base.specs.declared.configs.External.{External}
use Rattle.pcp_announce.specs.declared.doors.Group.{Group}
use Rattle.pcp_io.specs.Faults.{HasRisen}
use Rattle.lease_disk.specs.declared.disks.DiskPair.{DiskPair}
use Rattle.lease_disk.specs.Pairs.{PairHasCause}
use Rattle.lane_index.specs.Lanes.{LaneKnowledge}
use Rattle.shard_book.specs.Books.{BookView}
use Rattle.turn_lock.specs.Passes.{TurnName}
use Rattle.lease_house.specs.SoloOpenings.{OpensAll}
use Rattle.job_queue.specs.declared.batches.TheConstants.{MOST_BATCH}
use Rattle.job_workers.specs.declared.tallies.TallyRow.{TallyRow}
use Rattle.job_workers.specs.HouseCalls.{HouseCalls}
use Rattle.job_dispatch.specs.Dispatches.{Dispatched}
use Rattle.request_workers.specs.Served.{AreShardRuns, IsShardRun, ShardRun}
use Rattle.turned_shards.specs.declared.openings.Opening.{Opening}
use Rattle.turned_shards.specs.declared.passes.HousePass.{HousePass}
use Rattle.turned_shards.specs.FaultCounts.{HaveRisenBy}
use Rattle.shared_house.specs.declared.beginning.Begun.{Begun}
use Rattle.shared_house.specs.Beginnings.{BeginAll, Begins}
use Rattle.house_workers.specs.HouseCallsOf.{calls_of}
use Rattle.house_workers.specs.Laws.{AreFewFaults, FaultedRowsHaveCauses}
use Rattle.house_workers.specs.ServingAll.{Edges, ServesToEnd}
use Rattle.house_workers.proofs.CrashLemmas.{first_of}
use Rattle.house_workers.proofs.FaultLemmas.{few_faults}

-- ---- counts

below_or_not : (a b : ℕ) → (a < b) ⊎ (b ≤ a)
below_or_not a b = at (ltb a b) refl
  where
    at : (v : Bool) → ltb a b ≡ v → (a < b) ⊎ (b ≤ a)
    at true e = inl (grind (arith, common_steps))
    at false e = inr (grind (arith, common_steps))

-- of two counts that were raised together one was raised
one_of_two : (a0 a1 a2 b0 b1 b2 risen : ℕ) → a0 ≤ a1 → a1 ≤ a2 → b0 ≤ b1 → b1 ≤ b2 → 0 < risen
    → risen + (a1 + b1) ≤ a2 + b2 → (a0 < a2) ⊎ (a2 ≤ a0) → (a0 < a2) ⊎ (b0 < b2)
one_of_two a0 a1 a2 b0 b1 b2 risen p q r s some more (inl up) = inl up
one_of_two a0 a1 a2 b0 b1 b2 risen p q r s some more (inr still) = inr (omega (arith, p, q, r, s, some, more, still))

told : (a0 a2 b0 b2 : ℕ) → (a0 < a2) ⊎ (b0 < b2) → HasRisen a0 a2 ⊎ HasRisen b0 b2
told a0 a2 b0 b2 (inl up) = inl (inl up)
told a0 a2 b0 b2 (inr up) = inr (inl up)

-- or one stands at its end
rises : (a0 a1 a2 b0 b1 b2 risen : ℕ) → a0 ≤ a1 → a1 ≤ a2 → b0 ≤ b1 → b1 ≤ b2 → 0 < risen
    → (a2 < 2 ^ 64 - 1 → b2 < 2 ^ 64 - 1 → risen + (a1 + b1) ≤ a2 + b2)
    → (a2 < 2 ^ 64 - 1) ⊎ (2 ^ 64 - 1 ≤ a2) → (b2 < 2 ^ 64 - 1) ⊎ (2 ^ 64 - 1 ≤ b2)
    → HasRisen a0 a2 ⊎ HasRisen b0 b2
rises a0 a1 a2 b0 b1 b2 risen p q r s some more (inr full) b = inl (inr full)
rises a0 a1 a2 b0 b1 b2 risen p q r s some more (inl low) (inr full) = inr (inr full)
rises a0 a1 a2 b0 b1 b2 risen p q r s some more (inl low) (inl below) =
    told a0 a2 b0 b2 (one_of_two a0 a1 a2 b0 b1 b2 risen p q r s some (more low below) (below_or_not a0 a2))

-- ---- what stands at a place

-- the run of an external address whose row stands there
run_at : {P : Type 0} (house : HouseCalls P) (shard : ℕ) (ds : List Dispatched) (rs : List (ShardRun P)) (i : ℕ) (row : TallyRow)
    → AreShardRuns house shard ds rs → slice_get (map (λ (r : ShardRun P). r.row) rs) i ≡ Some row
    → (n : ℕ) × (r : ShardRun P) × IsShardRun house n ds r × (r.row ≡ row)
    × (slice_get (map (λ (r : ShardRun P). r.new.pass) rs) i ≡ Some r.new.pass)
run_at house shard ds [] i row runs there = absurd cc
run_at house shard ds (r ∷ rs) zero row runs there =
    let same : r.row ≡ row = cc in (shard, r, runs.0, same, refl)
run_at house shard ds (r ∷ rs) (suc i) row runs there = run_at house (shard + 1) ds rs i row runs.1 there

module _ {D : Type 0} where
  -- the book and the turn of a pass with which a house began
  seat_at : (config : Config) (k : ℕ) (bs : List (BookView D)) (ts : List (TurnName (Opening D))) (ps : List (HousePass D)) (ls : List LaneKnowledge) (i : ℕ)
      → BeginAll config k bs ts ps ls → i < length ps
      → (b : BookView D) × (t : TurnName (Opening D)) × (slice_get bs i ≡ Some b) × (slice_get ts i ≡ Some t) × (t.key.book ≡ b)
  seat_at config k [] [] [] [] i all small = absurd (omega (arith, small))
  seat_at config k [] [] [] (l ∷ ls) i all small = absurd all
  seat_at config k [] [] (p ∷ ps) ls i all small = absurd all
  seat_at config k [] (t ∷ ts) ps ls i all small = absurd all
  seat_at config k (b ∷ bs) [] ps ls i all small = absurd all
  seat_at config k (b ∷ bs) (t ∷ ts) [] ls i all small = absurd all
  seat_at config k (b ∷ bs) (t ∷ ts) (p ∷ ps) [] i all small = absurd all
  seat_at config k (b ∷ bs) (t ∷ ts) (p ∷ ps) (l ∷ ls) zero all small =
      (b, t, refl, refl, ap (λ (o : Opening D). o.book) all.0.key)
  seat_at config k (b ∷ bs) (t ∷ ts) (p ∷ ps) (l ∷ ls) (suc i) all small =
      seat_at config (k + 1) bs ts ps ls i all.1 (omega (arith, small))

module _ {D : Type 0} (tells : Type 0) (seen : D → List ℕ) (moment : D → ℕ)
    (left_since : D → ℕ → List ℕ → Type 0) (may_leave : D → List ℕ → Type 0) (faults : D → ℕ)
  where
    -- the pair over which a book was opened
    pair_at : (config : Config) (m : ℕ) (xs : List External) (ps : List (DiskPair D)) (bs : List (BookView D)) (spare : List (DiskPair D)) (i : ℕ) (b : BookView D)
        → OpensAll tells seen moment left_since may_leave faults config m xs ps bs spare → slice_get bs i ≡ Some b
        → (p : DiskPair D) × (slice_get ps i ≡ Some p) × PairHasCause faults p b.journal.pair ⊥
    pair_at config m [] ps [] spare i b all there = absurd cc
    pair_at config m [] ps (c ∷ bs) spare i b all there = absurd all
    pair_at config m (x ∷ xs) [] bs spare i b all there = absurd all
    pair_at config m (x ∷ xs) (p ∷ ps) [] spare i b all there = absurd all
    pair_at config m (x ∷ xs) (p ∷ ps) (c ∷ bs) spare zero b all there =
        let same : c ≡ b = cc in
        (p, refl, subst (λ (y : BookView D). PairHasCause faults p y.journal.pair ⊥) same all.0.later)
    pair_at config m (x ∷ xs) (p ∷ ps) (c ∷ bs) spare (suc i) b all there = pair_at config m xs ps bs spare i b all.1 there

    -- over an opening and what was served
    cause_over : (before opened now : DiskPair D) (faulted risen : ℕ) → PairHasCause faults before opened ⊥
        → HaveRisenBy faults opened now risen → faulted ≤ MOST_BATCH * risen → PairHasCause faults before now (0 < faulted)
    cause_over before opened now faulted risen first then few = record {
      later_a = omega (arith, first.later_a, then.later_a);
      later_b = omega (arith, first.later_b, then.later_b);
      risen = λ some. rises (faults before.a) (faults opened.a) (faults now.a) (faults before.b) (faults opened.b) (faults now.b) risen
          first.later_a then.later_a first.later_b then.later_b (omega (arith, few, some)) then.by
          (below_or_not (faults now.a) (2 ^ 64 - 1)) (below_or_not (faults now.b) (2 ^ 64 - 1));
    }

    pub cause_at : FaultedRowsHaveCauses D tells seen moment left_since may_leave faults
    cause_at config groups port m before pairs begun old new rows begins serves place row now there back =
        let runs = serves.answers.served.serves.runs in
        let calls = calls_of tells seen moment left_since may_leave faults begun.house in
        let one = run_at calls 0 runs.runs.dispatched runs.shards place row runs.each
        (subst (λ (l : List TallyRow). slice_get l place ≡ Some row) runs.rows_are there) in
        let passed : slice_get serves.then.passes place ≡ Some one.1.new.pass =
        subst (λ (l : List (HousePass D)). slice_get l place ≡ Some one.1.new.pass) (sym runs.passes_are) one.4 in
        let within = slice_get_within serves.then.passes place one.1.new.pass passed in
        let count = serves.answers.count in
        let small : place < length begun.passes.items = omega (arith, within, count) in
        let seat = seat_at config 0 begins.books begun.house.turns begun.passes.items begun.lanes.items place begins.begins.each small in
        let was = pair_at config m config.externals before begins.books begun.house.spare place seat.0 begins.opened seat.2 in
        let o : Opening D = seat.1.key in
        let passes = serves.ends.count_passes in
        let few : place < length serves.ended = omega (arith, within, passes) in
        let turns = slice_get_within begun.house.turns place seat.1 seat.3 in
        let ends = serves.ends.count in
        let inside : place < length serves.ends.ended = omega (arith, turns, ends) in
        let pair : slice_get serves.ends.ended place ≡ Some now =
        first_of serves.ends.ended begun.house.spare place now inside
        (subst (λ (l : List (DiskPair D)). slice_get l place ≡ Some now) serves.ends.back back) in
        let last : HousePass D = get_or serves.ended place one.1.new.pass in
        let ended = serves.ends.each place seat.1 one.1.new.pass last now seat.3 passed (slice_get-get_or serves.ended place one.1.new.pass few) pair in
        let counted = few_faults tells seen moment left_since may_leave faults begun.house one.0 runs.runs.dispatched one.1 one.2 o last now ended in
        let opened : PairHasCause faults was.0 o.book.journal.pair ⊥ =
        subst (λ (b : BookView D). PairHasCause faults was.0 b.journal.pair ⊥) (sym seat.4) was.2 in (
          was.0,
          was.1,
          cause_over was.0 o.book.journal.pair now row.faulted counted.risen opened counted.counted
              (subst (λ (x : TallyRow). x.faulted ≤ MOST_BATCH * counted.risen) one.3 counted.few),
        )
