use Rattle.option_laws.proofs.FitLemmas.{requests-fit, responses-fit, responses-mapped}
use Rattle.option_laws.proofs.laws.what_is_read_fits.Goals as goal

pub returns-clause-responses : goal.returns-clause-responses
returns-clause-responses c = responses-fit

pub returns-clause-requests : goal.returns-clause-requests
returns-clause-requests c = requests-fit

pub returns-clause-mapped : goal.returns-clause-mapped
returns-clause-mapped c = responses-mapped
