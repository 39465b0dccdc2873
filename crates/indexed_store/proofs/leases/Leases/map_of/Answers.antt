use Rattle.std.proofs.Common.{◌∙◌}
use Rattle.indexed_store.proofs.KeyLooks.{key-looked}
use Rattle.indexed_store.proofs.leases.Leases.map_of.Goals as goal

pub returns : goal.returns
returns c = c.with_key.ensures ∙ key-looked c.args.self.now.found c.args.m c.args.key.now c.requires c.covering.result c.covering.ensures
