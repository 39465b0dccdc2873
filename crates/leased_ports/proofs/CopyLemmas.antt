-- Last ends that are written down run by run.
use Rattle.std.proofs.Common.{◌≡◌, ℕ, ◌+◌, ◌-◌, ◌<◌, ◌≤◌, Bool, true, false, cond, List, [], ◌∷◌, ◌++◌, filter, map, Option, Some, None, IfSome, append_assoc, append-nil, refl, sym, ap, ◌∙◌, subst, arith}
use Rattle.std.specs.List.{AllByRecursion}
use Rattle.std.proofs.lemmas.List.{map-append}
use Rattle.std.proofs.lemmas.List.Elements.{filter-append}
use Rattle.pcp_base.specs.declared.leases.Protocol.{Protocol}
use Rattle.pcp_base.specs.declared.leases.Protocol.TheVariants.{Tcp, Udp}
use Rattle.pcp_base.specs.declared.leases.End.{End}
use Rattle.pcp_base.specs.declared.records.Record.{Record}
use Rattle.pcp_base.specs.Records.{IsWellFormedRecord}
use Rattle.pcp_base.specs.Snapshots.{end_record}
use Rattle.record_sink.proofs.FormedLemmas.{told_back, told_front}
use Rattle.ordered_index.proofs.EntryLaws.{none_by}
use Rattle.port_spans.specs.declared.runs.Run.{Run}
use Rattle.port_spans.specs.Runs.{has_place, run_at, AreRuns, IsNextRun, IsFirstFrom}
use Rattle.port_spans.specs.Along.{end_along, end_told, spot, BeginsAt}
use Rattle.port_spans.proofs.RunLemmas.{in_to, in_by}
use Rattle.port_spans.proofs.SpotLemmas.{if-some, some-if, run_has, run_from, run_first, begins_from, none_between}
use Rattle.leased_ports.specs.Leased.{Leased, leased, end_of}
use Rattle.leased_ports.specs.Kept.{IsSet, end_by}
use Rattle.leased_ports.specs.Listed.{listed, spot_end, has_come, ends_come}
use Rattle.leased_ports.proofs.SpotLemmas.{run_of_low, run_low}
use Rattle.leased_ports.proofs.ListedLemmas.{listed-nil, listed-same, listed-empty, listed-split, listed-more, listed-shift, listed-filter}

-- the last ends of a run's ports
abbrev pub run_ends : Run End → ℕ → Option End
run_ends r at = end_told at (Some r)

abbrev pub ends_in : Run End → List End
ends_in r = listed (run_ends r) r.first r.count

-- those that came by m and are recent then: all or none
come_step : (m : ℕ) (r : Run End) (b : Bool) → listed (λ i. cond b (run_ends r i) None) r.first r.count ≡ cond b (ends_in r) []
come_step m r true = refl
come_step m r false = listed-empty (λ i. None) r.first r.count (λ i a b. refl)

pub run_come : (m : ℕ) (r : Run End) → filter (has_come m) (ends_in r) ≡ cond (has_come m r.value) (ends_in r) []
run_come m r = listed-filter (has_come m) (run_ends r) r.first r.count ∙ come_step m r (has_come m r.value)

pub come_all : (m : ℕ) (r : Run End) → has_come m r.value ≡ true → ends_in r ≡ filter (has_come m) (ends_in r)
come_all m r h = sym (run_come m r ∙ ap (λ (b : Bool). cond b (ends_in r) []) h)

pub come_none : (m : ℕ) (r : Run End) → has_come m r.value ≡ false → [] ≡ filter (has_come m) (ends_in r)
come_none m r h = sym (run_come m r ∙ ap (λ (b : Bool). cond b (ends_in r) []) h)

-- one end more of a run
pub one_more : (r : Run End) (before : List End) (i : ℕ) (e : End) → e ≡ end_along i r.value → (before ++ listed (run_ends r) r.first i) ++ e ∷ [] ≡ before ++ listed (run_ends r) r.first (i + 1)
one_more r before i e same =
    let off : (r.first + i) - r.first ≡ i = omega arith in
    append_assoc before (listed (run_ends r) r.first i) (e ∷ [])
    ∙ ap (λ (x : End). before ++ (listed (run_ends r) r.first i ++ x ∷ [])) (same ∙ ap (λ (k : ℕ). end_along k r.value) (sym off))
    ∙ ap (λ (xs : List End). before ++ xs) (sym (listed-more (run_ends r) r.first i))

-- what is written and what is behind is all
pub record IsWritten (m : ℕ) (runs : List (Run End)) (from : ℕ) (written : List End) : Type 0 where
  pub low : from ≤ 131072
  pub begins : BeginsAt from runs
  pub all : written ++ filter (has_come m) (listed (spot_end runs) from (131072 - from)) ≡ filter (has_come m) (listed (spot_end runs) 0 131072)

module _ (m : ℕ) (runs : List (Run End)) (apart : AreRuns runs) (set : (at : ℕ) → IfSome (run_at runs at) IsSet) where
  -- nothing is written yet
  pub written_first : (written : List End) → written ≡ [] → IsWritten m runs 0 written
  written_first written none = record {
    low = omega arith;
    begins = some-if (λ (r : Run End). r.first ≡ 0) (run_at runs 0) (λ r e. omega (arith, run_from runs apart 0 r e));
    all = ap (λ (xs : List End). xs ++ filter (has_come m) (listed (spot_end runs) 0 131072)) none;
  }

  module _ (from : ℕ) (written : List End) (so_far : IsWritten m runs from written) where
    pub written_all : IsNextRun runs from 131072 None → written ≡ filter (has_come m) (listed (spot_end runs) 0 131072)
    written_all none =
        sym (append-nil written)
        ∙ ap (λ (xs : List End). written ++ filter (has_come m) xs)
        (sym (listed-empty (spot_end runs) from (131072 - from) (λ i a b. ap (end_told i) (none_between runs apart from so_far.begins 131072 none i a (omega (arith, b, so_far.low))))))
        ∙ so_far.all

    module _ (r : Run End) (first : IsFirstFrom runs from 131072 r) where
      there : run_at runs r.first ≡ Some r
      there = first.there.whole r.first first.there.has

      set_run : IsSet r
      set_run = if-some IsSet (run_at runs r.first) r there (set r.first)

      low : r.first + r.count ≤ 131072
      low = run_low r set_run

      none_before : (at : ℕ) → from ≤ at → at < r.first → run_at runs at ≡ None
      none_before at past before = none_by (run_at runs at) (λ s e.
          let least = if-some (λ (q : Run End). from ≤ q.first → r.first ≤ q.first) (run_at runs at) s e (first.least at) in
          absurd (omega (arith, least (begins_from runs apart from so_far.begins at s e past), run_from runs apart at s e, before)))

      -- no run goes on over its end
      end_begins : BeginsAt (r.first + r.count) runs
      end_begins = step (run_at runs (r.first + r.count)) refl
        where
          step : (o : Option (Run End)) → run_at runs (r.first + r.count) ≡ o → IfSome o (λ s. s.first ≡ r.first + r.count)
          step None e = tt
          step (Some s) e =
              let last = r.first + r.count in
              let upper : s.first ≤ last = run_from runs apart last s e in
              let no_less : s.first < last → ⊥ = λ less.
              let near : r.first ≤ s.first = if-some (λ (q : Run End). from ≤ q.first → r.first ≤ q.first) (run_at runs last) s e (first.least last) (begins_from runs apart from so_far.begins last s e (omega (arith, first.from))) in
              let whole : run_at runs s.first ≡ Some r = first.there.whole s.first (in_by r.first r.count s.first near less) in
              let both : Some s ≡ Some r = sym (run_first runs apart last s e) ∙ whole in
              let same : s ≡ r = cc in
              let has : has_place last r ≡ true = subst (λ (t : Run End). has_place last t ≡ true) same (run_has runs apart last s e) in
              absurd (omega (arith, in_to r.first r.count last has)) in
              grind (arith, upper, no_less)

      before : listed (spot_end runs) from (r.first - from) ≡ []
      before = listed-empty (spot_end runs) from (r.first - from) (λ i a b. ap (end_told i) (none_before i a (omega (arith, b, first.from))))

      own : listed (spot_end runs) r.first r.count ≡ ends_in r
      own = listed-same (spot_end runs) (run_ends r) r.first r.count (λ i a b. ap (end_told i) (first.there.whole i (in_by r.first r.count i a b)))

      -- what is from a spot on is the next run and what is behind it
      parted : listed (spot_end runs) from (131072 - from) ≡ ends_in r ++ listed (spot_end runs) (r.first + r.count) (131072 - (r.first + r.count))
      parted =
          let start : from + (r.first - from) ≡ r.first = omega (arith, first.from) in
          listed-split (spot_end runs) from (r.first - from) (131072 - r.first) (131072 - from) (omega (arith, first.from, low))
          ∙ ap (λ (xs : List End). xs ++ listed (spot_end runs) (from + (r.first - from)) (131072 - r.first)) before
          ∙ ap (λ (k : ℕ). listed (spot_end runs) k (131072 - r.first)) start
          ∙ listed-split (spot_end runs) r.first r.count (131072 - (r.first + r.count)) (131072 - r.first) (omega (arith, low))
          ∙ ap (λ (xs : List End). xs ++ listed (spot_end runs) (r.first + r.count) (131072 - (r.first + r.count))) own

      pub written_more : (after : List End) → after ≡ written ++ filter (has_come m) (ends_in r) → IsWritten m runs (r.first + r.count) after
      written_more after same =
          let behind = listed (spot_end runs) (r.first + r.count) (131072 - (r.first + r.count)) in
          record {
            low = low;
            begins = end_begins;
            all = ap (λ (xs : List End). xs ++ filter (has_come m) behind) same
                ∙ append_assoc written (filter (has_come m) (ends_in r)) (filter (has_come m) behind)
                ∙ ap (λ (xs : List End). written ++ xs) (sym (filter-append (has_come m) (ends_in r) behind))
                ∙ ap (λ (xs : List End). written ++ filter (has_come m) xs) (sym parted)
                ∙ so_far.all;
          }

      -- where the records of all are well formed, so are those of the next run
      pub next_formed : AllByRecursion IsWellFormedRecord (map (end_record m) (filter (has_come m) (listed (spot_end runs) 0 131072))) → AllByRecursion IsWellFormedRecord (map (end_record m) (filter (has_come m) (ends_in r)))
      next_formed all =
          let f : End → Record = end_record m in
          let own_ends : List End = filter (has_come m) (ends_in r) in
          let behind : List End = listed (spot_end runs) (r.first + r.count) (131072 - (r.first + r.count)) in
          let parts : filter (has_come m) (listed (spot_end runs) 0 131072) ≡ written ++ (own_ends ++ filter (has_come m) behind) =
          sym so_far.all
          ∙ ap (λ (xs : List End). written ++ filter (has_come m) xs) parted
          ∙ ap (λ (xs : List End). written ++ xs) (filter-append (has_come m) (ends_in r) behind) in
          told_front f own_ends (filter (has_come m) behind) (told_back f written (own_ends ++ filter (has_come m) behind) (subst (λ (xs : List End). AllByRecursion IsWellFormedRecord (map f xs)) parts all))

      pub nearer : 131072 - (r.first + r.count) < 131072 - from
      nearer = omega (arith, first.from, low, set_run.some)

-- ---- records

pub no_record : (r : Run End) (m : ℕ) (old : List Record) → old ≡ old ++ map (end_record m) (listed (run_ends r) r.first 0)
no_record r m old = sym (append-nil old) ∙ ap (λ (xs : List End). old ++ map (end_record m) xs) (sym (listed-nil (run_ends r) r.first))

-- the record of one end more of a run
pub one_record : (r : Run End) (m : ℕ) (old : List Record) (i : ℕ) (e : End) → e ≡ end_along i r.value
    → (now : List Record) → now ≡ old ++ map (end_record m) (listed (run_ends r) r.first i)
    → (after : List Record) → after ≡ now ++ end_record m e ∷ []
    → after ≡ old ++ map (end_record m) (listed (run_ends r) r.first (i + 1))
one_record r m old i e same now told after pushed =
    let f : End → Record = end_record m in
    let xs : List End = listed (run_ends r) r.first i in
    pushed
    ∙ ap (λ (k : List Record). k ++ f e ∷ []) told
    ∙ append_assoc old (map f xs) (f e ∷ [])
    ∙ ap (λ (k : List Record). old ++ k) (sym (map-append f xs (e ∷ [])))
    ∙ ap (λ (k : List End). old ++ map f k) (one_more r [] i e same)

-- where the records of a run's ends are well formed, each is
pub run_formed : (r : Run End) (m i : ℕ) (e : End) → e ≡ end_along i r.value → i < r.count → AllByRecursion IsWellFormedRecord (map (end_record m) (ends_in r)) → IsWellFormedRecord (end_record m e)
run_formed r m i e same less all =
    let f : End → Record = end_record m in
    let before : List End = listed (run_ends r) r.first i in
    let behind : List End = listed (run_ends r) (r.first + (i + 1)) (r.count - (i + 1)) in
    let parts : ends_in r ≡ (before ++ e ∷ []) ++ behind =
    listed-split (run_ends r) r.first (i + 1) (r.count - (i + 1)) r.count (omega (arith, less))
    ∙ ap (λ (xs : List End). xs ++ behind) (sym (one_more r [] i e same)) in
    (told_back f before (e ∷ []) (told_front f (before ++ e ∷ []) behind (subst (λ (xs : List End). AllByRecursion IsWellFormedRecord (map f xs)) parts all))).0

-- the records of what is written stand behind the old ones
pub record IsRecorded (m : ℕ) (runs : List (Run End)) (old : List Record) (from : ℕ) (now : List Record) : Type 0 where
  written : List End
  told : now ≡ old ++ map (end_record m) written
  so_far : IsWritten m runs from written

module _ (m : ℕ) (runs : List (Run End)) (apart : AreRuns runs) (set : (at : ℕ) → IfSome (run_at runs at) IsSet) (old : List Record) where
  pub recorded_first : IsRecorded m runs old 0 old
  recorded_first = record {
    written = [];
    told = sym (append-nil old);
    so_far = written_first m runs apart set [] refl;
  }

  module _ (from : ℕ) (now : List Record) (so : IsRecorded m runs old from now) where
    pub recorded_all : IsNextRun runs from 131072 None → now ≡ old ++ map (end_record m) (filter (has_come m) (listed (spot_end runs) 0 131072))
    recorded_all none = so.told ∙ ap (λ (xs : List End). old ++ map (end_record m) xs) (written_all m runs apart set from so.written so.so_far none)

    module _ (r : Run End) (first : IsFirstFrom runs from 131072 r) where
      pub recorded_more : (after : List Record) → after ≡ now ++ map (end_record m) (filter (has_come m) (ends_in r)) → IsRecorded m runs old (r.first + r.count) after
      recorded_more after same =
          let f : End → Record = end_record m in
          let xs : List End = filter (has_come m) (ends_in r) in
          record {
            written = so.written ++ xs;
            told = same
                ∙ ap (λ (k : List Record). k ++ map f xs) so.told
                ∙ append_assoc old (map f so.written) (map f xs)
                ∙ ap (λ (k : List Record). old ++ k) (sym (map-append f so.written xs));
            so_far = written_more m runs apart set from so.written so.so_far r first (so.written ++ xs) refl;
          }

      pub recorded_formed : AllByRecursion IsWellFormedRecord (map (end_record m) (filter (has_come m) (listed (spot_end runs) 0 131072))) → AllByRecursion IsWellFormedRecord (map (end_record m) (filter (has_come m) (ends_in r)))
      recorded_formed all = next_formed m runs apart set from so.written so.so_far r first all

      pub recorded_nearer : 131072 - (r.first + r.count) < 131072 - from
      recorded_nearer = nearer m runs apart set from so.written so.so_far r first

-- ---- what is seen

spot_told : (runs : List (Run End)) (p : Protocol) (i : ℕ) → i < 65536 → spot_end runs (spot p i) ≡ end_by runs p i
spot_told runs p i less = ap (end_told (spot p i)) (sym (run_of_low runs p i less))

module _ (low high quota settled reached : ℕ) (runs : List (Run End)) where
  abbrev view : Leased
  view = leased low high quota settled reached runs

  -- the ports of a protocol
  row_seen : (p : Protocol) → listed (λ i. spot_end runs (spot p i)) 0 65536 ≡ listed (end_of view p) 0 65536
  row_seen p = listed-same (λ i. spot_end runs (spot p i)) (end_of view p) 0 65536 (λ i a b. spot_told runs p i b)

  pub come_seen : (m : ℕ) → filter (has_come m) (listed (spot_end runs) 0 131072) ≡ ends_come m view
  come_seen m =
      ap (filter (has_come m)) (
      listed-split (spot_end runs) 0 65536 65536 131072 refl
      ∙ ap (λ (xs : List End). xs ++ listed (spot_end runs) 65536 65536) (row_seen Tcp)
      ∙ ap (λ (xs : List End). listed (end_of view Tcp) 0 65536 ++ xs) (sym (listed-shift (spot_end runs) 65536 0 65536) ∙ row_seen Udp))
