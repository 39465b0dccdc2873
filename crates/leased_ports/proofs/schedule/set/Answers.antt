use Rattle.std.proofs.Common.{ℕ, ◌==◌, Option, cond, sym, ap, ◌∙◌}
use Rattle.std.specs.FinMap.{get}
use Rattle.leased_ports.proofs.StepLemmas.{waits-inserted}
use Rattle.leased_ports.proofs.schedule.set.Goals as goal

pub returns : goal.returns
returns c other =
    waits-inserted c.args.wheel.now c.put.new.self c.args.id c.in-Some.expiry c.in_ok-put.ensures.ok other
    ∙ ap (λ (o : Option ℕ). cond (other == c.args.id) o (get c.args.wheel.now other)) (sym c.in-Some.is)
