use Rattle.pcp_config.specs.ConfigTables.{IsListenText}
use Rattle.pcp_config.proofs.ListenLemmas.{text_told}
use Rattle.pcp_config.proofs.ValueLemmas.{untold_text}
use Rattle.pcp_config.proofs.listening.listen_address_of.Goals as goal

pub returns-clause-address : goal.returns-clause-address
returns-clause-address c = text_told _ _ c.listen_address_from.result c.in-Some.ensures (rw c.as_bytes.ensures.value at c.listen_address_from.ensures.address)

pub returns-clause-refused : goal.returns-clause-refused
returns-clause-refused c = λ bad.
    untold_text IsListenText _ _ c.in-Some.ensures (rw c.as_bytes.ensures.value at c.listen_address_from.ensures.refused bad)
