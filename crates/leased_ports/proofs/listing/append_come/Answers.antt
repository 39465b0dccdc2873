use Rattle.std.proofs.Common.{◌++◌, map, List, sym, ap, subst, ◌∙◌, append-nil}
use Rattle.std.specs.List.{AllByRecursion}
use Rattle.std.proofs.lemmas.Result.{on_ok_weaker}
use Rattle.pcp_base.specs.declared.leases.End.{End}
use Rattle.pcp_base.specs.Records.{IsWellFormedRecord}
use Rattle.pcp_base.specs.Snapshots.{end_record}
use Rattle.leased_ports.proofs.CopyLemmas.{come_all, come_none}
use Rattle.leased_ports.proofs.listing.append_come.Goals as goal

pub has_come-come-requires : goal.has_come-come-requires
has_come-come-requires g c = c.requires.set.near

pub append_ends-requires-clause-formed : goal.append_ends-requires-clause-formed
append_ends-requires-clause-formed g c =
    subst (λ (xs : List End). AllByRecursion IsWellFormedRecord (map (end_record c.args.m) xs)) (sym (come_all c.args.m c.args.run.now (sym c.has_come-come.ensures ∙ c.if-come.true))) c.requires.formed

pub returns-then-come : goal.returns-then-come
returns-then-come g c =
    on_ok_weaker c.append_ends.result (λ told. told ∙ ap (λ (xs : List End). g.K.RecordSink.taken c.args.out.now ++ map (end_record c.args.m) xs) (come_all c.args.m c.args.run.now (sym c.has_come-come.ensures ∙ c.if-come.true))) c.append_ends.ensures

pub returns : goal.returns
returns g c =
    sym (append-nil (g.K.RecordSink.taken c.args.out.now)) ∙ ap (λ (xs : List End). g.K.RecordSink.taken c.args.out.now ++ map (end_record c.args.m) xs) (come_none c.args.m c.args.run.now (sym c.has_come-come.ensures ∙ c.if-come.false))
