use Rattle.std.proofs.Common.{◌≡◌, true, ◌∙◌, subst}
use Rattle.std.specs.Bool.{OnTrue}
use Rattle.std.specs.FinMap as fin
use Rattle.leased_ports.proofs.StepLemmas.{waits-inserted}
use Rattle.leased_ports.proofs.schedule.reschedule.Goals as goal

pub returns : goal.returns
returns c =
    let there : c.reschedule.result ≡ true = c.reschedule.ensures.found ∙ c.requires.there in
    let moved : c.reschedule.new.self ≡ fin.insert c.args.wheel.now c.args.id c.args.expiry =
    subst (λ b. OnTrue b (c.reschedule.new.self ≡ fin.insert c.args.wheel.now c.args.id c.args.expiry)) there c.reschedule.ensures.moved in
    waits-inserted c.args.wheel.now c.reschedule.new.self c.args.id c.args.expiry moved
