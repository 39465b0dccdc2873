use Rattle.std.proofs.Common.{◌≡◌, ◌≤◌, ◌++◌, ℕ, List, Option, length, drop, refl, map, sym, ap, ◌∙◌, subst, arith}
use Rattle.std.specs.List.{AllByRecursion, filter_map}
use Rattle.std.proofs.lemmas.List.{append-nil, at_drop_all}
use Rattle.pcp_base.specs.declared.leases.MapLease.{MapLease}
use Rattle.pcp_base.specs.Records.{IsWellFormedRecord}
use Rattle.pcp_base.specs.Snapshots.{map_record}
use Rattle.ordered_index.specs.Aged.{AreNumbersOf}
use Rattle.mapping_table.specs.Kept.{filters_at, live_with}
use Rattle.mapping_table.proofs.AgedMaps.{copied_live}
use Rattle.mapping_table.proofs.lists.append_records.Goals as goal

pub loop-number-init : goal.loop-number-init
loop-number-init g c =
    let numbers = c.deref-number-items.result.now in
    let are = subst (λ (ns : List ℕ). AreNumbersOf c.args.leases.now c.args.past.now ns) (sym c.deref-number-items.ensures.value) c.in_ok-numbers.ensures in
    record {
      told = refl;
      formed = subst (λ (live : List MapLease). AllByRecursion IsWellFormedRecord (map (map_record c.args.m) live))
          (sym (copied_live (filters_at c.args.filters.now) c.args.leases.now c.args.past.now c.requires.both numbers are c.args.m)) c.requires.formed;
    }

-- what is out at the end
end_is : {R : Type 0} (r : MapLease → R) (f : ℕ → Option MapLease) (xs : List ℕ) (i : ℕ) → length xs ≤ i → (out all : List R) → out ++ map r (filter_map f (drop i xs)) ≡ all → out ≡ all
end_is r f xs i passed out all told = sym (append-nil out) ∙ sym (at_drop_all (λ ns. out ++ map r (filter_map f ns)) xs i passed) ∙ told

pub returns : goal.returns
returns g c =
    let kept = filters_at c.args.filters.now in let leases = c.args.leases.now in let past = c.args.past.now in let m = c.args.m in
    let numbers = c.deref-number-items.result.now in
    let are = subst (λ (ns : List ℕ). AreNumbersOf leases past ns) (sym c.deref-number-items.ensures.value) c.in_ok-numbers.ensures in
    let passed : length numbers ≤ c.loop-number.number-index = omega (arith, c.loop-number-test.false) in
    end_is (map_record m) (live_with m kept leases past) numbers c.loop-number.number-index passed (g.K.RecordSink.taken c.loop-number.out) _ c.loop-number.invariant.told
    ∙ ap (λ (live : List MapLease). g.K.RecordSink.taken c.args.out.now ++ map (map_record m) live) (copied_live kept leases past c.requires.both numbers are m)
