use Rattle.std.proofs.Common.{◌∙◌, List, length, inl, ap, sym, subst}
use Rattle.pcp_base.specs.declared.configs.Config.{Config}
use Rattle.lease_disk.specs.declared.disks.DiskPair.{DiskPair}
use Rattle.lease_house.specs.SoloOpenings.{OpensAll}
use Rattle.lease_house.proofs.HandingBack.{memory_touches_none}
use Rattle.shared_house.specs.Beginnings.{BeginAll, BeginsWith}
use Rattle.shared_house.specs.Turned.{AllMayBegin}
use Rattle.shared_house.proofs.BeginLemmas.{are-at-home, are-lanes, are-passes}
use Rattle.shared_house.proofs.OpenedLemmas.{counted, may-begin}
use Rattle.shared_house.proofs.houses.House.begin.Goals as goal

pub returns-in-Err-clause-refused : goal.returns-in-Err-clause-refused
returns-in-Err-clause-refused g c =
    let d = g.D.LeaseDisk in
    inl (memory_touches_none d.tells d.seen d.moment d.left_since d.may_leave d.faults c.args.m
    c.args.config.now.externals c.args.disks.items c.requires.enough)

pub begin_with-requires-clause-books : goal.begin_with-requires-clause-books
begin_with-requires-clause-books g c =
    let d = g.D.LeaseDisk in
    let opened = c.in-Ok-open_books.opened in
    subst (λ (config : Config). AllMayBegin d.tells d.seen d.may_leave config 0 opened.books.items)
    (sym c.in-Ok.ensures)
    (may-begin d.tells d.seen d.moment d.left_since d.may_leave d.faults c.args.config.now c.args.m
    c.args.disks.items opened.books.items opened.spare.items c.requires.config
    c.in-Ok-open_books.ensures.opened c.in-Ok-open_books.ensures.books)

pub begin_with-requires-clause-count : goal.begin_with-requires-clause-count
begin_with-requires-clause-count g c =
    let d = g.D.LeaseDisk in
    let opened = c.in-Ok-open_books.opened in
    counted d.tells d.seen d.moment d.left_since d.may_leave d.faults c.args.config.now c.args.m
    c.args.disks.items opened.books.items opened.spare.items c.in-Ok-open_books.ensures.opened
    ∙ ap (λ (config : Config). length config.externals) (sym c.in-Ok.ensures)

pub returns-in-Ok-begin_with-clause-begun : goal.returns-in-Ok-begin_with-clause-begun
returns-in-Ok-begin_with-clause-begun g c =
    let d = g.D.LeaseDisk in
    let opened = c.in-Ok-open_books.opened in
    let begun = c.in-Ok-begin_with.begun in
    record {
      books = opened.books.items;
      founds = opened.founds.items;
      opened = subst
          (λ (spare : List (DiskPair g.row.D.Denot)). OpensAll d.tells d.seen d.moment d.left_since
          d.may_leave d.faults c.args.config.now c.args.m c.args.config.now.externals
          c.args.disks.items opened.books.items spare)
          (sym c.in-Ok-begin_with.ensures.spare) c.in-Ok-open_books.ensures.opened;
      found = c.in-Ok-open_books.ensures.founds;
      begins = subst
          (λ (config : Config). BeginsWith config opened.books.items opened.founds.items begun)
          c.in-Ok.ensures c.in-Ok-begin_with.ensures.begun;
    }

pub returns-in-Ok-begin_with-clause-passes : goal.returns-in-Ok-begin_with-clause-passes
returns-in-Ok-begin_with-clause-passes g c =
    let begun = c.in-Ok-begin_with.begun in
    let books = c.in-Ok-open_books.opened.books.items in
    let all : BeginAll begun.house.config 0 books begun.house.turns begun.passes.items
    begun.lanes.items =
    subst (λ (config : Config). BeginAll config 0 books begun.house.turns begun.passes.items
    begun.lanes.items) (sym c.in-Ok-begin_with.ensures.config)
    c.in-Ok-begin_with.ensures.begun.each in
    are-passes begun.house books begun.passes.items begun.lanes.items all _ _
    c.in-Ok-begin_with.ensures.begun.epochs

pub returns-in-Ok-begin_with-clause-home : goal.returns-in-Ok-begin_with-clause-home
returns-in-Ok-begin_with-clause-home g c =
    let begun = c.in-Ok-begin_with.begun in
    let books = c.in-Ok-open_books.opened.books.items in
    let all : BeginAll begun.house.config 0 books begun.house.turns begun.passes.items
    begun.lanes.items =
    subst (λ (config : Config). BeginAll config 0 books begun.house.turns begun.passes.items
    begun.lanes.items) (sym c.in-Ok-begin_with.ensures.config)
    c.in-Ok-begin_with.ensures.begun.each in
    are-at-home begun.house books begun.passes.items begun.lanes.items all

pub returns-in-Ok-begin_with-clause-lanes : goal.returns-in-Ok-begin_with-clause-lanes
returns-in-Ok-begin_with-clause-lanes g c =
    let begun = c.in-Ok-begin_with.begun in
    let books = c.in-Ok-open_books.opened.books.items in
    let all : BeginAll begun.house.config 0 books begun.house.turns begun.passes.items
    begun.lanes.items =
    subst (λ (config : Config). BeginAll config 0 books begun.house.turns begun.passes.items
    begun.lanes.items) (sym c.in-Ok-begin_with.ensures.config)
    c.in-Ok-begin_with.ensures.begun.each in
    are-lanes begun.house books begun.passes.items begun.lanes.items all
