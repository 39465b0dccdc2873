use Rattle.std.proofs.Common.{refl}
use Rattle.std.proofs.lemmas.Option.{slice_get_read}
use Rattle.lease_house.proofs.CallLemmas.{settled-terms}
use Rattle.lease_house.proofs.book_calls.settle_at.Goals as goal

pub returns : goal.returns
returns g c =
    let d = g.D.LeaseDisk in
    record {
      before = c.index_mut.result.now;
      after = c.settle_if_refused.new.self;
      was = slice_get_read c.args.books.now.items _ c.args.place c.index_mut.result.now refl c.requires c.index_mut.ensures.value;
      is = refl;
      how = (
        record {
          book = c.settle_if_refused.ensures.book;
          terms = settled-terms d.tells d.moment d.left_since d.may_leave c.args.now c.settle_if_refused.result c.index_mut.result.now c.settle_if_refused.new.self c.settle_if_refused.ensures.settled c.settle_if_refused.ensures.refused;
          cause = c.settle_if_refused.ensures.cause;
        },
        (c.settle_if_refused.ensures.settled, c.settle_if_refused.ensures.refused),
      );
    }
