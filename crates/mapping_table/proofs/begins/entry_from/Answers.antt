use Rattle.std.proofs.Common.{refl, List, IsSome, IfSome, slice_get, subst, sym}
use Rattle.std.specs.declared.ops.Bound.TheVariants.{Included, Unbounded}
use Rattle.std.specs.BTreeMap.Range.{IsEntryInRange, IsLeBy}
use Rattle.ordered_index.specs.Orders.{place_cmp}
use Rattle.mapping_table.proofs.begins.entry_from.Goals as goal

pub returns-clause-first : goal.returns-clause-first
returns-clause-first c =
    let part = c.range.ensures.in_range tt in
    let entry = subst (λ (l : List (_ × _)). IfSome (slice_get l 0) (IsEntryInRange place_cmp (Included c.args.place) Unbounded c.args.keys.now)) c.in-Some.ensures.steps part.1 in
    record {
      found = subst IsSome (sym entry.1) refl;
      from = entry.0.0;
      least = λ q above some. subst (λ (l : List (_ × _)). IfSome (slice_get l 0) (λ e. IsLeBy place_cmp e.0 q)) c.in-Some.ensures.steps (part.2 q (above, tt) some);
    }

pub returns-clause-number : goal.returns-clause-number
returns-clause-number c =
    let part = c.range.ensures.in_range tt in
    (subst (λ (l : List (_ × _)). IfSome (slice_get l 0) (IsEntryInRange place_cmp (Included c.args.place) Unbounded c.args.keys.now)) c.in-Some.ensures.steps part.1).1
