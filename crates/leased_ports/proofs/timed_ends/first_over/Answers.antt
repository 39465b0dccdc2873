use Rattle.std.proofs.Common.{◌≡◌, ℕ, ◌<◌, ◌≤◌, IfSome, IfNone, false, sym, subst, ◌∙◌, arith}
use Rattle.expiry_wheel.specs.Moments.{IsFirstOf}
use Rattle.port_spans.specs.Runs.{run_at}
use Rattle.leased_ports.specs.Frees.{is_over, free_at}
use Rattle.leased_ports.proofs.TimedLemmas.{over_found, over_none}
use Rattle.leased_ports.proofs.timed_ends.first_over.Goals as goal

pub returns-then-from-clause-first : goal.returns-then-from-clause-first
returns-then-from-clause-first g c =
    let here : is_over c.args.m (run_at c.args.ends.now c.args.from) ≡ false = sym c.is_over_at.ensures ∙ c.if-is_over_at.false in
    over_none c.args.ends.now c.args.frees.now c.requires c.args.from c.args.m (omega arith) here (λ at after low. absurd (omega (arith, after, low, c.if-from.true)))

pub returns-clause-first : goal.returns-clause-first
returns-clause-first g c =
    let here : is_over c.args.m (run_at c.args.ends.now c.args.from) ≡ false = sym c.is_over_at.ensures ∙ c.if-is_over_at.false in
    let runs = c.args.ends.now in
    over_found runs c.args.frees.now c.requires c.args.from c.args.m (omega arith) here c.first_free.result
    (subst (λ n. IfSome c.first_free.result (IsFirstOf (free_at runs) c.args.from n)) c.latest.ensures.latest c.first_free.ensures.found)
    (subst (λ n. IfNone c.first_free.result ((at : ℕ) → c.args.from ≤ at → at < 131072 → n < free_at runs at)) c.latest.ensures.latest c.first_free.ensures.none)
