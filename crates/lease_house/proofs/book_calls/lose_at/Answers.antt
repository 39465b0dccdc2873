use Rattle.std.proofs.Common.{◌≡◌, Some, refl}
use Rattle.std.specs.List.{slice_get}
use Rattle.std.proofs.lemmas.Option.{slice_get_read}
use Rattle.lease_house.proofs.CallLemmas.{kept-terms, loses-well}
use Rattle.lease_house.proofs.book_calls.lose_at.Goals as goal

pub returns : goal.returns
returns g c =
    let d = g.D.LeaseDisk in
    let b = c.index_mut.result.now in
    let was : slice_get c.args.books.now.items c.args.place ≡ Some b = slice_get_read c.args.books.now.items _ c.args.place b refl c.requires.place c.index_mut.ensures.value in
    let well = loses-well d.tells d.moment d.left_since d.may_leave c.args.now c.lose.result b c.lose.new.self (c.requires.settled b was) c.lose.ensures.lost c.lose.ensures.refused in
    record {
      before = b;
      after = c.lose.new.self;
      was = was;
      is = refl;
      how = (
        record {
          book = c.lose.ensures.book;
          terms = kept-terms d.tells d.moment d.left_since d.may_leave c.lose.result _ _ _ _ b c.lose.new.self well.0 well.1;
          cause = c.lose.ensures.cause;
        },
        well,
      );
    }
