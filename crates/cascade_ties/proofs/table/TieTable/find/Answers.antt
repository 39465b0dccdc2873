use Rattle.std.proofs.Common.{sym, ap, ◌∙◌}
use Rattle.std.specs.BTreeMap.{get}
use Rattle.ordered_index.specs.Orders.{place_of, place_cmp}
use Rattle.ordered_index.proofs.Keeping.{key-found, none-found}
use Rattle.cascade_ties.specs.Kept.{tie_keying}
use Rattle.cascade_ties.specs.Ties.{Ties, has_client, tie_of}
use Rattle.cascade_ties.proofs.TieKeeping.{tie_laws, tells_client}
use Rattle.cascade_ties.proofs.table.TieTable.find.Goals as goal

pub returns-in_default : goal.returns-in_default
returns-in_default c =
    none-found tie_keying tie_laws c.self.inside.kept c.self.invariant.0.ties.kept (has_client c.args.client.now) (place_of c.args.client.now) (tells_client c.args.client.now)
    (ap (get place_cmp c.self.inside.kept.keys) (sym c.place_of.ensures) ∙ sym (c.in_default.ensures ∙ c.get.ensures.value))
    ∙ ap (λ (v : Ties). tie_of c.args.client.now v.each) c.self.view_is

pub returns : goal.returns
returns c =
    c.get-2.ensures.value
    ∙ key-found tie_keying tie_laws c.self.inside.kept c.self.invariant.0.ties.kept (has_client c.args.client.now) (place_of c.args.client.now) c.in-Some.number (tells_client c.args.client.now)
    (ap (get place_cmp c.self.inside.kept.keys) (sym c.place_of.ensures) ∙ sym (c.in-Some.ensures ∙ c.get.ensures.value))
    ∙ ap (λ (v : Ties). tie_of c.args.client.now v.each) c.self.view_is
