use Rattle.std.proofs.Common.{refl, sym, subst}
use Rattle.std.specs.BTreeMap.{values}
use Rattle.cascade_ties.specs.Kept.{ties_of}
use Rattle.cascade_ties.specs.Ties.{MayMove, Ties, with_change, with_rest}
use Rattle.cascade_ties.proofs.CountLemmas.{counted_change}
use Rattle.cascade_ties.proofs.table.TieTable.move_on.Goals as goal

pub invariant_of-self : goal.invariant_of-self
invariant_of-self c =
    let old : Ties = ties_of c.self.inside.pool c.self.inside.rests (values c.self.inside.kept.leases) in
    let may : MayMove old c.args.from c.args.tied = subst (λ (v : Ties). MayMove v c.args.from c.args.tied) (sym c.self.view_is) c.requires.may in (
      c.move_tie.ensures.kept,
      counted_change c.self.inside.counts old (with_rest (with_change old c.args.tied) c.args.tied.tie.client.protocol c.args.from c.args.until_ms) (ties_of c.move_tie.new.pool c.move_tie.new.rests (values c.move_tie.new.kept.leases)) c.args.tied may.old c.move_tie.result may.client refl
          c.move_tie.ensures.ties c.self.invariant.1,
    )
