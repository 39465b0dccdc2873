use Rattle.std.specs.List.{slice_get}
use Rattle.std.proofs.Common.{[], sym, subst}
use Rattle.turned_shards.specs.declared.openings.Opening.{Opening}
use Rattle.turned_shards.specs.declared.shards.Shard.{Shard}
use Rattle.turned_shards.specs.Shards.{StandsFor}
use Rattle.turned_shards.specs.Turnings.{opening_of}
use Rattle.turned_shards.proofs.TurnEnds.{named-by, stands-new}
use Rattle.turned_shards.proofs.turning.turn_of.Goals as goal

pub new-requires-clause-stands : goal.new-requires-clause-stands
new-requires-clause-stands g c =
    let d = g.D.LeaseDisk in
    let config = c.args.config.now in
    let place = c.args.place in
    let book = c.args.book in
    let address = c.address_at-address.result in
    let writer = c.in-Ok.made.0 in
    let lane = c.in-Ok.made.1 in
    let named = named-by (slice_get config.externals place)
    book.terms.external address c.address_at-address.ensures c.requires.there in
    let stands = stands-new d.tells d.seen d.moment d.left_since d.may_leave d.faults c.histories_grow.ensures.nothing
    config place address book writer lane c.of-shard.result named c.requires
    c.in-Ok.ensures.writer c.in-Ok.ensures.lane c.of-shard.ensures.unpushed in
    subst (λ (o : Opening g.row.D.Denot). StandsFor d.tells d.seen d.moment d.left_since d.may_leave d.faults o
    c.of-shard.result [] []) (sym c.in-Ok-parts_of.ensures.opening)
    (subst (λ (s : Shard g.row.D.Denot). StandsFor d.tells d.seen d.moment d.left_since d.may_leave d.faults
    (opening_of config place book lane) s [] []) (sym c.of-shard.ensures.shard) stands)
