use Rattle.pcp_script.proofs.LineLemmas.{StandsFor-event}
use Rattle.pcp_script.proofs.lines.read_event.Goals as goal

pub returns-in_err-shard-clause-none : goal.returns-in_err-shard-clause-none
returns-in_err-shard-clause-none c =
    rw c.from_residual-in_err-shard.ensures (λ line h. let p = StandsFor-event _ _ _ _ line h in c.in_err-shard.ensures.none p.s p.shard)
