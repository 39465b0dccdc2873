use Rattle.std.proofs.Common.{◌≡◌, None, sym, subst, IsTrue}
use Rattle.pcp_base.specs.declared.records.Change.{Change}
use Rattle.pcp_base.specs.Fits.{IsRested}
use Rattle.indexed_store.specs.Judging.{last_told}
use Rattle.indexed_store.specs.Tabled.{TabledState}
use Rattle.indexed_store.proofs.JudgeLemmas.{unused}
use Rattle.indexed_store.proofs.judging.is_rested.Goals as goal

pub returns-in-Rest : goal.returns-in-Rest
returns-in-Rest c =
    let s = c.args.state.now.state in let m = c.args.kept.now.moment in
    let e = c.in-Rest.endpoint in
    let both = unused c.args.state.now m c.requires.current e c.in-Rest.port in
    subst (λ (change : Change). (IsTrue c.is_unused.result → IsRested s m change) × (IsRested s m change → IsTrue c.is_unused.result)) (sym c.in-Rest.is) (
      λ t. both.0 (subst (λ (x : TabledState). last_told x.ports e.protocol c.in-Rest.port ≡ None) c.state.view_is (c.is_unused.ensures.0 t)),
      λ h. c.is_unused.ensures.1 (subst (λ (x : TabledState). last_told x.ports e.protocol c.in-Rest.port ≡ None) (sym c.state.view_is) (both.1 h)),
    )
