use Rattle.std.proofs.Common.{refl}
use Rattle.pcp_base.specs.declared.datagrams.Datagram.{Datagram}
use Rattle.lease_histories.specs.Routes.{judged}
use Rattle.lease_house.proofs.AskLemmas.{route-within}
use Rattle.job_dispatch.proofs.sifting.sift.Goals as goal

pub returns-clause-inside : goal.returns-clause-inside
returns-clause-inside c good =
    let from : Datagram = record { peer = c.args.source.now; port = 0; door = 0; octets = c.args.octets.now } in
    route-within c.args.config.now from (judged c.args.config.now from) refl good

pub returns-in_err-shard-clause-inside : goal.returns-in_err-shard-clause-inside
returns-in_err-shard-clause-inside c good =
    let from : Datagram = record { peer = c.args.source.now; port = 0; door = 0; octets = c.args.octets.now } in
    route-within c.args.config.now from (judged c.args.config.now from) refl good

pub returns-in-Asked-clause-inside : goal.returns-in-Asked-clause-inside
returns-in-Asked-clause-inside c good =
    let from : Datagram = record { peer = c.args.source.now; port = 0; door = 0; octets = c.args.octets.now } in
    route-within c.args.config.now from (judged c.args.config.now from) refl good

pub returns-in-Refuse-clause-inside : goal.returns-in-Refuse-clause-inside
returns-in-Refuse-clause-inside c good =
    let from : Datagram = record { peer = c.args.source.now; port = 0; door = 0; octets = c.args.octets.now } in
    route-within c.args.config.now from (judged c.args.config.now from) refl good
