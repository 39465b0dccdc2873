use Rattle.std.proofs.Common.{List, sym, subst}
use Rattle.pcp_base.specs.declared.datagrams.Entry.{Entry}
use Rattle.turned_shards.specs.Shards.{StandsFor}
use Rattle.turned_shards.proofs.Standing.{stands-noted}
use Rattle.turned_shards.proofs.shards.ShardKept.noted.Goals as goal

pub returns-clause-stands : goal.returns-clause-stands
returns-clause-stands g c o log marks stands =
    let d = g.D.LeaseDisk in
    let s = c.args.self.now in
    subst (λ (es : List Entry). StandsFor d.tells d.seen d.moment d.left_since d.may_leave d.faults o
    (record s { added = es }) log marks) (sym c.clear.ensures)
    (stands-noted d.tells d.seen d.moment d.left_since d.may_leave d.faults o s log marks stands)
