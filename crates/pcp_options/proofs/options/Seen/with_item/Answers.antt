use Rattle.pcp_options.proofs.WalkLemmas.{with-third, with-prefer, with-set, with-filter}
use Rattle.pcp_options.proofs.options.Seen.with_item.Goals as goal

pub returns-in-ThirdParty : goal.returns-in-ThirdParty
returns-in-ThirdParty c = λ items h. with-third items c.args.self c.args.item c.in-ThirdParty.address c.or.result h c.in-ThirdParty.is c.or.ensures

pub returns-in-PreferFailure : goal.returns-in-PreferFailure
returns-in-PreferFailure c = λ items h. with-prefer items c.args.self c.args.item h c.in-PreferFailure.is

pub returns-in-PortSet : goal.returns-in-PortSet
returns-in-PortSet c = λ items h. with-set items c.args.self c.args.item c.in-PortSet.set c.or-in-PortSet.result h c.in-PortSet.is c.or-in-PortSet.ensures

pub returns-in-Filter : goal.returns-in-Filter
returns-in-Filter c = λ items h. with-filter items c.args.self c.args.item c.in-Filter._filter h c.in-Filter.is
