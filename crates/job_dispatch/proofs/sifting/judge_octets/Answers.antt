use Rattle.std.proofs.Common.{◌≡◌, true, false, IfOk, OnErr, subst, rules}
use Rattle.pcp_options.specs.Verdicts.{IsAsked}
use Rattle.natpmp_front.specs.Requests.{is_front}
use Rattle.lease_house.proofs.AskLemmas.{front-judged, pcp-judged}
use Rattle.job_dispatch.proofs.sifting.judge_octets.Goals as goal

pub returns-then-is_front-clause-ok : goal.returns-then-is_front-clause-ok
returns-then-is_front-clause-ok c =
    let here : is_front c.args.octets.now ≡ true = search rules in
    rw c.judge_front.ensures (front-judged c.args.config.now c.args.source.now c.args.octets.now here)

pub returns-clause-ok : goal.returns-clause-ok
returns-clause-ok c =
    let other : is_front c.args.octets.now ≡ false = search rules in
    subst (λ v. IfOk c.judge.result (λ x. x ≡ v)) (pcp-judged c.args.config.now c.args.source.now c.args.octets.now other) c.judge.ensures.ok

pub returns-clause-memory : goal.returns-clause-memory
returns-clause-memory c =
    let other : is_front c.args.octets.now ≡ false = search rules in
    subst (λ v. OnErr c.judge.result (IsAsked v)) (pcp-judged c.args.config.now c.args.source.now c.args.octets.now other) c.judge.ensures.memory
