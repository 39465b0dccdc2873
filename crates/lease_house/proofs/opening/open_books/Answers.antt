use Rattle.std.proofs.Common.{◌≡◌, ◌+◌, ◌<◌, ◌∷◌, [], ℕ, drop, length, subst, sym, ap, refl, arith}
use Rattle.std.proofs.lemmas.List.{length-append, length-drop}
use Rattle.std.specs.List.{AllByRecursion}
use Rattle.pcp_base.specs.Configs.{IsExternal}
use Rattle.lease_house.proofs.HandingBack.{memory_touches_none, of_place}
use Rattle.lease_house.proofs.OpenedBooks.{all_on, underway_begins, underway_done, underway_on, underway_stops}
use Rattle.lease_house.proofs.opening.open_books.Goals as goal

pub returns-in_default-clause-refused : goal.returns-in_default-clause-refused
returns-in_default-clause-refused g c =
    let d = g.D.LeaseDisk in
    memory_touches_none d.tells d.seen d.moment d.left_since d.may_leave d.faults c.args.m c.args.config.now.externals c.args.disks.items c.requires.enough

pub loop-external-init : goal.loop-external-init
loop-external-init g c =
    let d = g.D.LeaseDisk in
    record {
      underway = underway_begins d.tells d.seen d.moment d.left_since d.may_leave d.faults c.args.config.now c.args.m c.args.config.now.externals c.args.disks.items _ _ _ c.items-externals.ensures c.in-Ok.ensures.books.0 c.in-Ok.ensures.founds.0;
      place = refl;
      enough = omega (arith, ap length c.items-externals.ensures, c.requires.enough);
      books_room = omega (arith, ap length c.in-Ok.ensures.books.0, c.in-Ok.ensures.books.1);
      founds_room = omega (arith, ap length c.in-Ok.ensures.founds.0, c.in-Ok.ensures.founds.1);
      pairs_room = omega (arith, ap length c.in-Ok.ensures.books.0);
      external = subst (AllByRecursion IsExternal) (sym c.items-externals.ensures) c.requires.config.externals;
    }

pub returns-in-Err-clause-refused : goal.returns-in-Err-clause-refused
returns-in-Err-clause-refused g c =
    let d = g.D.LeaseDisk in
    let inv = c.loop-external.invariant in
    underway_stops d.tells d.seen d.moment d.left_since d.may_leave d.faults c.args.config.now c.args.m c.args.config.now.externals c.args.disks.items c.items-externals.result.now
    c.loop-external.external-index c.loop-external.place _ _ _ _ _ _ _ c.in-Err.fault c.loop-external-test.true inv.place inv.enough inv.underway c.in-Err.ensures.refused c.hand_back.ensures

pub returns-in-Err-clause-place : goal.returns-in-Err-clause-place
returns-in-Err-clause-place g c =
    let r = c.in-Err.ensures.refused in
    of_place c.loop-external.place (length c.args.config.now.externals) r.cause c.in-Err.fault r.told (omega (arith, c.loop-external-test.true, c.loop-external.invariant.place, ap length c.items-externals.ensures))

pub loop-external-preserved : goal.loop-external-preserved
loop-external-preserved g c =
    let d = g.D.LeaseDisk in
    let inv = c.loop-external.invariant in
    let all = c.items-externals.result.now in
    let i = c.loop-external.external-index in
    let next = c.in_default-next.ensures.opened in
    let within : i < length all = c.loop-external-test.true in
    let rest : length (drop i all) ≡ length (drop (i + 1) all) + 1 = omega (arith, length-drop i all, length-drop (i + 1) all, within) in
    let taken : length c.loop-external.pairs.items ≡ length c.open_next-next.new.pairs.items + 1 = omega (arith, ap length next.taken) in
    let noted : length c.open_next-next.new.founds.items ≡ length c.loop-external.founds.items + 1 = omega (arith, ap length next.noted, length-append c.loop-external.founds.items (next.found ∷ [])) in
    let added : length c.open_next-next.new.books.items ≡ length c.loop-external.books.items + 1 = omega (arith, ap length next.added, length-append c.loop-external.books.items (next.book ∷ [])) in
    record {
      underway = underway_on d.tells d.seen d.moment d.left_since d.may_leave d.faults c.args.config.now c.args.m c.args.config.now.externals c.args.disks.items all i _ _ _ _ _ _ _ within inv.underway next;
      place = ap (λ (n : ℕ). n + 1) inv.place;
      enough = omega (arith, inv.enough, rest, taken);
      books_room = omega (arith, inv.books_room, rest, added, c.open_next-next.ensures.books_room);
      founds_room = omega (arith, inv.founds_room, rest, noted, c.open_next-next.ensures.founds_kept);
      pairs_room = omega (arith, inv.pairs_room, taken, added, c.open_next-next.ensures.pairs_room);
      external = all_on IsExternal all i within inv.external;
    }

pub returns-clause-opened : goal.returns-clause-opened
returns-clause-opened g c =
    let d = g.D.LeaseDisk in
    (underway_done d.tells d.seen d.moment d.left_since d.may_leave d.faults c.args.config.now c.args.m c.args.config.now.externals c.args.disks.items c.items-externals.result.now
    c.loop-external.external-index c.loop-external.external-index _ _ _ c.loop-external-test.false c.loop-external.invariant.underway).0

pub returns-clause-founds : goal.returns-clause-founds
returns-clause-founds g c =
    let d = g.D.LeaseDisk in
    (underway_done d.tells d.seen d.moment d.left_since d.may_leave d.faults c.args.config.now c.args.m c.args.config.now.externals c.args.disks.items c.items-externals.result.now
    c.loop-external.external-index c.loop-external.external-index _ _ _ c.loop-external-test.false c.loop-external.invariant.underway).1
