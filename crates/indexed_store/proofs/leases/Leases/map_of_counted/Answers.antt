use Rattle.std.proofs.Common.{◌∙◌}
use Rattle.indexed_store.proofs.KeyLooks.{key-looked}
use Rattle.indexed_store.proofs.leases.Leases.map_of_counted.Goals as goal

pub returns-clause-lease : goal.returns-clause-lease
returns-clause-lease g c =
    c.with_key.ensures ∙ key-looked c.args.self.now.found c.args.m c.args.key.now c.requires c.covering_counted.result c.covering_counted.ensures.lease
