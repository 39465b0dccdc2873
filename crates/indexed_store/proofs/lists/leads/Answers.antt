use Rattle.std.proofs.Common.{◌∙◌}
use Rattle.indexed_store.proofs.SortLemmas.{leads-none, leads-some}
use Rattle.indexed_store.proofs.lists.leads.Goals as goal

pub returns-in_default : goal.returns-in_default
returns-in_default c = leads-none c.args.owner.now c.args.others.now c.in_default.ensures.value

pub returns : goal.returns
returns c = c.stands_before.ensures ∙ leads-some c.args.owner.now c.in-Some.next.now c.args.others.now c.in-Some.ensures.value
