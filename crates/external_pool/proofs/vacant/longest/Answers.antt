use Rattle.std.proofs.Common.{ℕ, Some, refl, sym, subst, arith}
use Rattle.external_pool.specs.PortUses.{uses_over}
use Rattle.external_pool.specs.Choosing.{IsLongest}
use Rattle.external_pool.proofs.KeptLemmas.{most_vacant, least_vacant, longest_none, longest_found}
use Rattle.external_pool.proofs.vacant.longest.Goals as goal

pub returns-then-room-eq1-clause-longest : goal.returns-then-room-eq1-clause-longest
returns-then-room-eq1-clause-longest g c low high each kept =
    subst (λ (room : ℕ). IsLongest (uses_over low high each) c.args.parity room c.first.result) (sym c.if-room-eq1.true) (c.first.ensures.longest low high each kept)

pub returns-then-count-eq0-clause-longest : goal.returns-then-count-eq0-clause-longest
returns-then-count-eq0-clause-longest g c low high each kept =
    let uses = uses_over low high each in
    let most = most_vacant low high c.args.runs.now each kept uses refl c.args.parity c.longest_run.result c.longest_run.ensures.longest in
    longest_none uses c.args.parity c.args.room c.longest_run.result c.min-count.result most (omega arith) (omega arith)

pub returns-clause-longest : goal.returns-clause-longest
returns-clause-longest g c low high each kept =
    let uses = uses_over low high each in
    let most = most_vacant low high c.args.runs.now each kept uses refl c.args.parity c.longest_run.result c.longest_run.ensures.longest in
    let first = least_vacant low high c.args.runs.now each kept uses refl c.args.parity c.min-count.result (Some c.in-Some.start) c.in-Some.ensures.found in
    longest_found uses c.args.parity c.args.room c.longest_run.result c.min-count.result most (omega arith) (omega arith) c.in-Some.start first.fits first.least
