use Rattle.std.proofs.Common.{◌≡◌, List, [], ap, sym, subst}
use Rattle.pcp_base.specs.declared.datagrams.Entry.{Entry}
use Rattle.shard_book.specs.Books.{BookView}
use Rattle.turned_shards.specs.Shards.{StandsFor}
use Rattle.turned_shards.specs.Turnings.{StandsStill}
use Rattle.turned_shards.proofs.TurnEnds.{still-of}
use Rattle.turned_shards.proofs.turning.untake.Goals as goal

pub returns : goal.returns
returns g c =
    let d = g.D.LeaseDisk in
    let s = c.into_value.result in
    let o = c.args.turn.key in
    let empty : c.args.pass.seen ≡ [] = ap (λ k. k.seen) c.requires.pass in
    let stands : StandsFor d.tells d.seen d.moment d.left_since d.may_leave d.faults o s [] c.args.pass.marks =
    subst (λ (log : List Entry). StandsFor d.tells d.seen d.moment d.left_since d.may_leave d.faults o s log c.args.pass.marks)
    empty c.into_value.ensures.value in
    subst (λ (b : BookView g.row.D.Denot). StandsStill d.tells d.moment d.left_since d.may_leave
    d.faults o.book b) (sym c.book_of.ensures) (still-of d.tells d.seen d.moment d.left_since d.may_leave d.faults o s c.args.pass.marks stands)
