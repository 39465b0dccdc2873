use Rattle.std.proofs.Common.{ap, ◌∙◌}
use Rattle.cascade_ties.specs.declared.ties.Tie.{Tie}
use Rattle.cascade_ties.specs.declared.ties.Tied.{Tied}
use Rattle.proxy_cascade.proofs.KeptLemmas.{may-again}
use Rattle.proxy_cascade.proofs.serving.settle_success.Goals as goal

pub grant-requires-clause-may : goal.grant-requires-clause-may
grant-requires-clause-may c =
    may-again c.args.ties.now c.args.tie.client c.args.tie c.requires.tied c.ended.result (ap (λ (t : Tied). t.tie.client) c.ended.ensures ∙ ap (λ (t : Tie). t.client) c.granted.ensures)
    (ap (λ (t : Tied). t.tie.local) c.ended.ensures ∙ ap (λ (t : Tie). t.local) c.granted.ensures)
