use Rattle.std.proofs.Common.{refl}
use Rattle.lease_histories.specs.Routes.{judged}
use Rattle.lease_house.proofs.AskLemmas.{route-within}
use Rattle.lease_house.proofs.routes.route.Goals as goal

pub returns-clause-inside : goal.returns-clause-inside
returns-clause-inside c good = route-within c.args.config.now c.args.datagram.now (judged c.args.config.now c.args.datagram.now) refl good

pub returns-in_err-shard-clause-inside : goal.returns-in_err-shard-clause-inside
returns-in_err-shard-clause-inside c good = route-within c.args.config.now c.args.datagram.now (judged c.args.config.now c.args.datagram.now) refl good
