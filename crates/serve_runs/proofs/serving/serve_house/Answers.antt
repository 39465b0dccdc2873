use Rattle.std.proofs.Common.{◌∙◌, sym, ap, length, map, arith}
use Rattle.std.proofs.lemmas.List.{length-map}
use Rattle.lease_house.specs.SoloOpenings.{book_updates}
use Rattle.pcp_server.specs.Outsides.{disks_by}
use Rattle.shared_house.specs.Beginnings.{first_base}
use Rattle.serve_runs.proofs.ServingLemmas.{as-many-books, as-many-places, few-rows, places-are, updates-are}
use Rattle.serve_runs.proofs.serving.serve_house.Goals as goal

pub send_updates-requires-clause-same : goal.send_updates-requires-clause-same
send_updates-requires-clause-same g c =
    let b = c.requires.begun.begins in
    ap length (c.deref.ensures.value ∙ b.begins.updates) ∙ sym (as-many-places (first_base b.books) 0 b.books)
    ∙ sym (ap length (c.deref-2.ensures.value ∙ b.begins.update_shards))

pub returns-clause-rows : goal.returns-clause-rows
returns-clause-rows g c =
    few-rows c.serve_all.result.0 (length c.args.config.now.externals) c.serve_all.ensures.rows c.requires.config.external_count.1

pub returns-clause-serves : goal.returns-clause-serves
returns-clause-serves g c = λ m pairs b.
    let means = disks_by g.D.LeaseDisk.tells g.D.LeaseDisk.seen g.D.LeaseDisk.moment g.D.LeaseDisk.left_since g.D.LeaseDisk.may_leave g.D.LeaseDisk.faults in
    let base = first_base b.books in
    let count = as-many-books means c.args.config.now m c.args.config.now.externals pairs b.books c.args.begun.house.spare b.opened in
    record {
      outs = _;
      updates = c.send_updates.ensures (map (book_updates base) b.books)
          (c.deref.ensures.value ∙ b.begins.updates ∙ updates-are base b.books)
          (c.deref-2.ensures.value ∙ b.begins.update_shards ∙ places-are base 0 b.books)
          (omega (arith, length-map b.books (book_updates base), count, c.requires.outs, c.requires.config.external_count.1));
      served = c.serve_all.ensures.served;
    }
