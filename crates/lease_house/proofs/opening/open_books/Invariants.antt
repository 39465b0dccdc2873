use Rattle.std.proofs.Common.{◌≡◌, ◌≤◌, ◌+◌, drop, length, vec_capacity}
use Rattle.std.specs.List.{AllByRecursion}
use Rattle.pcp_base.specs.Configs.{IsExternal}
use Rattle.lease_house.proofs.OpenedBooks.{IsUnderway}
use Rattle.lease_house.proofs.opening.open_books.Given as goal

abbrev pub invariant-loop-external : goal.invariant-loop-external
invariant-loop-external g l =
    let d = g.D.LeaseDisk in
    let rest = drop l.external-index l.externals in
    record {
      underway : IsUnderway d.tells d.seen d.moment d.left_since d.may_leave d.faults l.config l.m l.config.externals l.fn.disks.items rest l.external-index l.books.items l.founds.items l.pairs.items;
      place : l.place ≡ l.external-index;
      enough : length rest ≤ length l.pairs.items;
      books_room : length l.books.items + length rest ≤ vec_capacity l.books;
      founds_room : length l.founds.items + length rest ≤ vec_capacity l.founds;
      pairs_room : length l.books.items + length l.pairs.items ≤ vec_capacity l.pairs;
      external : AllByRecursion IsExternal rest;
    }
