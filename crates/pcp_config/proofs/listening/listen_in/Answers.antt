use Rattle.std.proofs.Common.{[], codes}
use Rattle.toml.specs.View.{table_view}
use Rattle.pcp_config.specs.ConfigTables.{IsListenList}
use Rattle.pcp_config.proofs.ConfigLemmas.{untold_or}
use Rattle.pcp_config.proofs.listening.listen_in.Goals as goal

pub returns-in-Some-clause-refused : goal.returns-in-Some-clause-refused
returns-in-Some-clause-refused c = λ bad.
    untold_or (table_view c.args.table.now) (codes "listen") [] IsListenList _ c.in-Some.ensures (c.listen_of.ensures.refused bad)
