use Rattle.std.proofs.Common.{rules, ◌≡◌, Err, refl, inl}
use Rattle.pcp_server.proofs.ConfigLemmas.{ends-unread}
use Rattle.pcp_server.proofs.PairLemmas.{none_fell}
use Rattle.pcp_server.proofs.playing.run_play.Goals as goal

pub returns-in-Err-clause-plays : goal.returns-in-Err-clause-plays
returns-in-Err-clause-plays g c =
    let is : c.config_of.result ≡ Err c.in-Err.fault = search rules in
    let u = ends-unread (g.C.Source.left c.args.config.now) (g.C.Source.left c.config_of.new.source) (record { out = c.args.out.now; held = g.W.Sink.held c.args.out.now; pairs = c.args.disks.items })
    c.unread_as.result c.config_of.result c.in-Err.fault is c.unread_as.ensures c.config_of.ensures.refused c.config_of.ensures.stopped c.config_of.ensures.few in
    inl (u, refl)

pub returns-in-Err-clause-disks : goal.returns-in-Err-clause-disks
returns-in-Err-clause-disks g c = none_fell g.D.LeaseDisk.faults c.args.disks.items
