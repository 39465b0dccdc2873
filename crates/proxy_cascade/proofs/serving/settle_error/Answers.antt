use Rattle.std.proofs.Common.{ap}
use Rattle.cascade_ties.specs.declared.ties.Tied.{Tied}
use Rattle.proxy_cascade.proofs.KeptLemmas.{may-again}
use Rattle.proxy_cascade.proofs.serving.settle_error.Goals as goal

pub change-requires : goal.change-requires
change-requires c =
    may-again c.args.ties.now c.args.tie.client c.args.tie c.requires.tied c.ended.result (ap (λ (t : Tied). t.tie.client) c.ended.ensures) (ap (λ (t : Tied). t.tie.local) c.ended.ensures)
