use Rattle.std.proofs.Common.{rules, ◌≡◌, Err, refl, inl, map}
use Rattle.request_workers.specs.Parts.{links_told, outs_told}
use Rattle.serve_runs.proofs.ServingLemmas.{ends-unread}
use Rattle.serve_runs.proofs.running.serve_by.Goals as goal

pub returns-in-Err-clause-serve : goal.returns-in-Err-clause-serve
returns-in-Err-clause-serve g c =
    let is : c.config_of.result ≡ Err c.in-Err.fault = search rules in
    inl (ends-unread _ _
    (record {
      out = c.args.out.now;
      held = g.W.Sink.held c.args.out.now;
      inbox = c.args.inbox.now;
      pairs = c.args.disks.items;
      edges = record {
        left = g.I.Inbox.left c.args.inbox.now;
        faults = g.I.Inbox.faults c.args.inbox.now;
        outs = outs_told g.O.Outbox.sent g.O.Outbox.faults c.args.outs.now;
        links = links_told g.L.LaneLink.asks g.L.LaneLink.answers g.L.LaneLink.faults c.args.lanes.now;
        clocks = map g.T.Clock.times c.args.clocks.now;
      };
    })
    c.unread_as.result c.config_of.result c.in-Err.fault is c.unread_as.ensures c.config_of.ensures.refused
    c.config_of.ensures.stopped c.config_of.ensures.few)

pub returns-in-Err-clause-no_items : goal.returns-in-Err-clause-no_items
returns-in-Err-clause-no_items g c shard is = inl refl
