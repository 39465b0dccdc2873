use Rattle.std.proofs.Common.{◌≡◌, IfOk, OnErr, sym, ◌∙◌, ap, subst}
use Rattle.pcp_options.specs.Verdicts.{IsAsked}
use Rattle.pcp_options.proofs.VerdictLemmas.{judged-silent, judged-refused, judged-whole, text_verdict}
use Rattle.pcp_options.proofs.verdicts.judge_any.Goals as goal

pub returns-in-Silent-clause-ok : goal.returns-in-Silent-clause-ok
returns-in-Silent-clause-ok c = judged-silent c.args.config.now c.args.source.now c.args.octets.now c.in-Silent.ensures.exact

pub returns-in-Refuse-clause-ok : goal.returns-in-Refuse-clause-ok
returns-in-Refuse-clause-ok c = judged-refused c.args.config.now c.args.source.now c.args.octets.now c.in-Refuse.refusal c.in-Refuse.ensures.exact

pub options_text-text-requires : goal.options_text-text-requires
options_text-text-requires c = (c.args.source.now, sym c.in-Whole.ensures.exact)

pub returns-in-Whole-clause-ok : goal.returns-in-Whole-clause-ok
returns-in-Whole-clause-ok c =
    let e = ap (text_verdict c.args.config.now c.args.source.now c.in-Whole.frame) c.options_text-text.ensures.value ∙ sym (judged-whole c.args.config.now c.args.source.now c.args.octets.now c.in-Whole.frame c.in-Whole.ensures.exact) in
    subst (λ v. IfOk c.judge_frame.result (λ x. x ≡ v)) e c.judge_frame.ensures.ok

pub returns-in-Whole-clause-memory : goal.returns-in-Whole-clause-memory
returns-in-Whole-clause-memory c =
    let e = ap (text_verdict c.args.config.now c.args.source.now c.in-Whole.frame) c.options_text-text.ensures.value ∙ sym (judged-whole c.args.config.now c.args.source.now c.args.octets.now c.in-Whole.frame c.in-Whole.ensures.exact) in
    subst (λ v. OnErr c.judge_frame.result (IsAsked v)) e c.judge_frame.ensures.memory
