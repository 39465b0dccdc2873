use Rattle.std.proofs.Common.{rules, ◌≡◌, Err, inl}
use Rattle.pcp_server.proofs.ConfigLemmas.{ends-unread}
use Rattle.pcp_server.proofs.PairLemmas.{none_fell}
use Rattle.pcp_server.proofs.loading.run_load.Goals as goal

pub returns-in-Err-clause-loads : goal.returns-in-Err-clause-loads
returns-in-Err-clause-loads g c =
    let is : c.config_of.result ≡ Err c.in-Err.fault = search rules in
    let u = ends-unread (g.C.Source.left c.args.config.now) (g.C.Source.left c.config_of.new.source) (record { out = c.args.out.now; held = g.W.Sink.held c.args.out.now; pairs = c.args.disks.items })
    c.unread_as.result c.config_of.result c.in-Err.fault is c.unread_as.ensures c.config_of.ensures.refused c.config_of.ensures.stopped c.config_of.ensures.few in
    inl u

pub returns-in-Err-clause-disks : goal.returns-in-Err-clause-disks
returns-in-Err-clause-disks g c = none_fell g.D.LeaseDisk.faults c.args.disks.items
