use Rattle.std.proofs.Common.{◌≡◌, IfOk, OnErr, ap, subst, ◌∙◌}
use Rattle.pcp_options.specs.declared.verdicts.Verdict.TheVariants.{Refuse}
use Rattle.pcp_options.specs.Verdicts.{IsAsked}
use Rattle.pcp_options.proofs.VerdictLemmas.{options-pass, options-refused}
use Rattle.pcp_options.proofs.verdicts.judge_text.Goals as goal

pub returns-in-Err-clause-ok : goal.returns-in-Err-clause-ok
returns-in-Err-clause-ok c =
    ap Refuse c.refusal.ensures
    ∙ options-refused c.args.config.now c.args.source.now c.args.frame.now c.args.text.now c.in-Err.code c.in-Err.ensures.refused

pub returns-in-Ok-clause-ok : goal.returns-in-Ok-clause-ok
returns-in-Ok-clause-ok c =
    let e = options-pass c.args.config.now c.args.source.now c.args.frame.now c.args.text.now c.items.result.now c.in-Ok.seen
    c.in-Ok.ensures.passed c.in-Ok.ensures.seen (c.items.ensures ∙ c.in-Ok.ensures.items) in
    subst (λ v. IfOk c.judge_options.result (λ x. x ≡ v)) e c.judge_options.ensures.ok

pub returns-in-Ok-clause-memory : goal.returns-in-Ok-clause-memory
returns-in-Ok-clause-memory c =
    let e = options-pass c.args.config.now c.args.source.now c.args.frame.now c.args.text.now c.items.result.now c.in-Ok.seen
    c.in-Ok.ensures.passed c.in-Ok.ensures.seen (c.items.ensures ∙ c.in-Ok.ensures.items) in
    subst (λ v. OnErr c.judge_options.result (IsAsked v)) e c.judge_options.ensures.memory
