use Rattle.std.proofs.Common.{◌≡◌, ℕ, Option, None, sym, ◌∙◌, arith, rules}
use Rattle.job_dispatch.proofs.DispatchLemmas.{place_within}
use Rattle.job_dispatch.proofs.LossLemmas.{fate_of_loss, loss_ignored}
use Rattle.job_dispatch.proofs.losses.dispatch_loss.Goals as goal

pub offer_loss_at-requires-clause-shard : goal.offer_loss_at-requires-clause-shard
offer_loss_at-requires-clause-shard g c =
    let within = place_within c.args.config.now c.args.address.now c.in-Some.shard (sym c.external_place.ensures ∙ c.in-Some.is) in
    omega (arith, within, c.requires.all)

pub returns-in_default-clause-fate : goal.returns-in_default-clause-fate
returns-in_default-clause-fate g c =
    let none : ◌≡◌ {A = Option ℕ} c.external_place.result None = search rules in
    loss_ignored c.args.config.now c.args.order c.args.address.now c.args.ports.now (sym c.external_place.ensures ∙ none)

pub returns-then-offer_loss_at-clause-fate : goal.returns-then-offer_loss_at-clause-fate
returns-then-offer_loss_at-clause-fate g c =
    fate_of_loss c.args.config.now c.args.order c.args.address.now c.in-Some.shard c.args.ports.now c.offer_loss_at.new.ports c.offer_loss_at.result
    (sym c.external_place.ensures ∙ c.in-Some.is) c.offer_loss_at.ensures

pub returns-then-not-add_loss-clause-fate : goal.returns-then-not-add_loss-clause-fate
returns-then-not-add_loss-clause-fate g c =
    fate_of_loss c.args.config.now c.args.order c.args.address.now c.in-Some.shard c.args.ports.now c.offer_loss_at.new.ports c.offer_loss_at.result
    (sym c.external_place.ensures ∙ c.in-Some.is) c.offer_loss_at.ensures

pub returns-else-not-add_loss-clause-fate : goal.returns-else-not-add_loss-clause-fate
returns-else-not-add_loss-clause-fate g c =
    fate_of_loss c.args.config.now c.args.order c.args.address.now c.in-Some.shard c.args.ports.now c.offer_loss_at.new.ports c.offer_loss_at.result
    (sym c.external_place.ensures ∙ c.in-Some.is) c.offer_loss_at.ensures
