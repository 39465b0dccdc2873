use Rattle.std.proofs.Common.{◌∙◌, List, ℕ, ap, refl, sym, subst}
use Rattle.pcp_base.specs.declared.asks.Ask.TheVariants.{Known}
use Rattle.pcp_options.specs.declared.verdicts.Verdict.TheVariants.{Asked, Refuse}
use Rattle.pcp_options.specs.Responses.{AreOctets}
use Rattle.lease_histories.specs.Routes.{verdict_of_datagram}
use Rattle.lease_house.specs.Routings.{MayBeAsked}
use Rattle.lease_house.proofs.AskLemmas.{by-verdict}
use Rattle.lease_house.proofs.routes.read_datagram.Goals as goal

pub returns-in-Asked-clause-may_be_asked : goal.returns-in-Asked-clause-may_be_asked
returns-in-Asked-clause-may_be_asked c =
    let told = ap (λ (octets : List ℕ). verdict_of_datagram c.args.config.now c.args.datagram.now.peer octets) (sym c.items-octets.ensures) in
    by-verdict c.args.config.now c.args.datagram.now (Asked c.in-Asked.shard c.in-Asked.ask c.in-Asked.items)
    (told ∙ sym c.in_ok-shard.ensures.ok ∙ c.in-Asked.is) c.requires (subst AreOctets c.items-octets.ensures c.judge_octets.ensures.octets) c.datagram_asks_are_well_formed.ensures
    (record { place = c.in-Asked.shard; ask = c.in-Asked.ask; items = c.in-Asked.items }) refl

pub returns-in-Refuse-clause-may_be_asked : goal.returns-in-Refuse-clause-may_be_asked
returns-in-Refuse-clause-may_be_asked c =
    let told = ap (λ (octets : List ℕ). verdict_of_datagram c.args.config.now c.args.datagram.now.peer octets) (sym c.items-octets.ensures) in
    subst (λ (p : ℕ). MayBeAsked c.args.config.now c.args.datagram.now p (Known c.in-Refuse.refusal)) (sym c.place_of_source.ensures)
    (by-verdict c.args.config.now c.args.datagram.now (Refuse c.in-Refuse.refusal)
    (told ∙ sym c.in_ok-shard.ensures.ok ∙ c.in-Refuse.is) c.requires (subst AreOctets c.items-octets.ensures c.judge_octets.ensures.octets) c.datagram_asks_are_well_formed.ensures _ refl)
