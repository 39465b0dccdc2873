use Rattle.std.proofs.Common.{refl, List, IsSome, IfSome, slice_get, subst, sym}
use Rattle.std.specs.declared.ops.Bound.TheVariants.{Included, Unbounded}
use Rattle.std.specs.BTreeMap.Range.{IsEntryInRange, IsLeBy}
use Rattle.ordered_index.proofs.keys.first_from.Goals as goal

pub returns : goal.returns
returns g c =
    let part = c.range.ensures.in_range tt in
    let entry = subst (λ (l : List (_ × _)). IfSome (slice_get l 0) (IsEntryInRange g.K.Ord.cmp (Included c.args.key) Unbounded c.args.map.now)) c.in-Some.ensures.steps part.1 in
    record {
      found = subst IsSome (sym entry.1) refl;
      from = entry.0.0;
      least = λ q above some. subst (λ (l : List (_ × _)). IfSome (slice_get l 0) (λ e. IsLeBy g.K.Ord.cmp e.0 q)) c.in-Some.ensures.steps (part.2 q (above, tt) some);
    }
