use Rattle.std.proofs.Common.{◌++◌, map, List, sym, ap, subst, ◌∙◌}
use Rattle.std.specs.List.{AllByRecursion}
use Rattle.std.proofs.lemmas.Result.{on_ok_weaker}
use Rattle.pcp_base.specs.declared.leases.End.{End}
use Rattle.pcp_base.specs.Records.{IsWellFormedRecord}
use Rattle.pcp_base.specs.Snapshots.{end_record}
use Rattle.leased_ports.specs.Listed.{ends_come}
use Rattle.leased_ports.proofs.CopyLemmas.{come_seen}
use Rattle.leased_ports.proofs.ports.LeasedPorts.add_end_records.Goals as goal

pub append_records-requires-clause-apart : goal.append_records-requires-clause-apart
append_records-requires-clause-apart g c = c.self.invariant.in_step.scheduled.apart

pub append_records-requires-clause-set : goal.append_records-requires-clause-set
append_records-requires-clause-set g c = c.self.invariant.in_step.scheduled.set

pub append_records-requires-clause-formed : goal.append_records-requires-clause-formed
append_records-requires-clause-formed g c =
    let a = c.self.inside in
    subst (λ (xs : List End). AllByRecursion IsWellFormedRecord (map (end_record c.args.m) xs))
    (sym (come_seen a.low a.high a.quota a.settled a.reached a.ends c.args.m ∙ ap (ends_come c.args.m) c.self.view_is)) c.requires

pub returns : goal.returns
returns g c =
    let a = c.self.inside in
    on_ok_weaker c.append_records.result (λ told. told ∙ ap (λ (xs : List End). g.K.RecordSink.taken c.args.out.now ++ map (end_record c.args.m) xs)
    (come_seen a.low a.high a.quota a.settled a.reached a.ends c.args.m ∙ ap (ends_come c.args.m) c.self.view_is)) c.append_records.ensures
