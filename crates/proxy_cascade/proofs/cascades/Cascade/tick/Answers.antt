use Rattle.std.proofs.Common.{ℕ, sym, ap, subst}
use Rattle.cascade_ties.specs.Ties.{Ties, still}
use Rattle.proxy_cascade.specs.Kept.{IsKept}
use Rattle.proxy_cascade.proofs.KeptLemmas.{kept-at}
use Rattle.proxy_cascade.proofs.cascades.Cascade.tick.Goals as goal

pub invariant_of-self : goal.invariant_of-self
invariant_of-self c =
    let at = ap (λ t. t.last_ms) c.at-terms.ensures in (
      subst (λ (ts : Ties). IsKept c.at-terms.result.last_ms ts.each) (sym c.drop_over-dropped.ensures.ties)
          (subst (λ (n : ℕ). IsKept n (still n c.self.inside.ties).each) (sym at) (kept-at c.self.inside.terms.last_ms c.args.now_ms c.self.inside.ties c.self.invariant.0 c.requires)),
      c.self.invariant.1,
    )
