use Rattle.std.proofs.Common.{sym, ap, ◌∙◌}
use Rattle.std.specs.Ordering.{is_eq}
use Rattle.ordered_index.proofs.EntryLaws.{tied-enters}
use Rattle.ordered_index.proofs.maps.insert_other.Goals as goal

pub returns-then-is_eq-clause-enters : goal.returns-then-is_eq-clause-enters
returns-then-is_eq-clause-enters g c =
    let same = ap is_eq (sym c.cmp.ensures) ∙ sym c.is_eq.ensures ∙ c.if-is_eq.true in
    tied-enters g.met.K.Ord.total c.args.from c.args.to same c.args.map.now c.args.value c.requires
