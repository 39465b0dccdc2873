use Rattle.std.proofs.Common.{sym, subst}
use Rattle.std.specs.Prelude.{◌↔◌, IsTrue, IfOk}
use Rattle.pcp_base.specs.declared.records.Change.{Change}
use Rattle.pcp_base.specs.Fits.{IsRested}
use Rattle.plain_replay.proofs.replay.PlainReplay.is_rested.Goals as goal

pub returns-in-Peer : goal.returns-in-Peer
returns-in-Peer c =
    subst (λ (x : Change). IfOk c.is_rested_peer.result (λ b. IsTrue b ↔ IsRested c.args.self.now c.args.kept.now.moment x)) (sym c.in-Peer.is) c.is_rested_peer.ensures
