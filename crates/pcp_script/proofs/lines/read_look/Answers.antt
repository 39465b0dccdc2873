use Rattle.std.proofs.Common.{arith}
use Rattle.pcp_script.proofs.FieldLemmas.{port-unique}
use Rattle.pcp_script.proofs.LineLemmas.{StandsFor-look}
use Rattle.pcp_script.proofs.lines.read_look.Goals as goal

pub returns-in_err-shard-clause-none : goal.returns-in_err-shard-clause-none
returns-in_err-shard-clause-none c =
    rw c.from_residual-in_err-shard.ensures (λ line h. let p = StandsFor-look _ _ _ _ _ _ _ _ line h in c.in_err-shard.ensures.none p.s p.shard)

pub returns-in_default-clause-none : goal.returns-in_default-clause-none
returns-in_default-clause-none c = λ line h. let p = StandsFor-look _ _ _ _ _ _ _ _ line h in c.in_default.ensures.refused p.r p.remote

pub returns-then-port-eq0-clause-none : goal.returns-then-port-eq0-clause-none
returns-then-port-eq0-clause-none c = λ line h.
    let p = StandsFor-look _ _ _ _ _ _ _ _ line h in
    omega (arith, p.port_some, port-unique _ _ _ c.in_ok-port.ensures.value p.port, c.if-port-eq0.true)
