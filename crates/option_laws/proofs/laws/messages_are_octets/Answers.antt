use Rattle.option_laws.proofs.OctetLemmas.{octets-asked, octets-read, refusals-octets, requests-octets, successes-octets}
use Rattle.option_laws.proofs.laws.messages_are_octets.Goals as goal

pub returns-clause-requests : goal.returns-clause-requests
returns-clause-requests c = requests-octets

pub returns-clause-successes : goal.returns-clause-successes
returns-clause-successes c = successes-octets

pub returns-clause-refusals : goal.returns-clause-refusals
returns-clause-refusals c = refusals-octets

pub returns-clause-read : goal.returns-clause-read
returns-clause-read c = octets-read

pub returns-clause-asked : goal.returns-clause-asked
returns-clause-asked c = octets-asked
