use Rattle.std.proofs.Common.{sym, subst}
use Rattle.cascade_ties.specs.Ties.{MayRest, Ties}
use Rattle.cascade_ties.proofs.RoomLemmas.{rested_now, rested_seen}
use Rattle.cascade_ties.proofs.table.TieTable.rest.Goals as goal

pub invariant_of-self : goal.invariant_of-self
invariant_of-self c = (
  rested_now c.self.inside.kept c.self.inside.pool c.self.inside.rests c.self.invariant.0 c.args.client.now c.args.local
      (subst (λ (v : Ties). MayRest v c.args.client.now c.args.local) (sym c.self.view_is) c.requires.may)
      c.rest_tie.result c.args.until_ms c.rest_tie.new.rests c.rest_tie.ensures.ok c.rest_tie.ensures.err,
  c.self.invariant.1,
)

pub returns : goal.returns
returns c =
    rested_seen c.self.inside.kept c.self.inside.pool c.self.inside.rests c.self.invariant.0 c.args.client.now c.args.local
    (subst (λ (v : Ties). MayRest v c.args.client.now c.args.local) (sym c.self.view_is) c.requires.may)
    c.args.self.now c.self.view_is c.rest_tie.result c.args.until_ms c.rest_tie.new.rests c.rest_tie.ensures.ok c.rest_tie.ensures.err
