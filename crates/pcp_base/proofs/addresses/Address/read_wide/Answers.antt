use Rattle.pcp_base.proofs.AddressLemmas.{wide_none}
use Rattle.pcp_base.proofs.addresses.Address.read_wide.Goals as goal

pub returns-clause-none : goal.returns-clause-none
returns-clause-none c = wide_none c.args.text.now c.read_colon.result c.in_default.ensures.none c.read_colon.ensures.none
