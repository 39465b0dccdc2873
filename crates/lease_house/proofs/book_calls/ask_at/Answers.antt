use Rattle.std.proofs.Common.{◌≡◌, ◌∙◌, List, map, Some, refl, ap}
use Rattle.std.specs.List.{slice_get}
use Rattle.std.proofs.lemmas.Option.{slice_get_read}
use Rattle.shard_book.specs.Books.{BookView}
use Rattle.lease_histories.specs.HouseHistories.{greatest}
use Rattle.lease_house.proofs.CallLemmas.{asks-well, kept-terms}
use Rattle.lease_house.proofs.book_calls.ask_at.Goals as goal

pub returns : goal.returns
returns g c =
    let d = g.D.LeaseDisk in
    let b = c.index_mut.result.now in
    let was : slice_get c.args.books.now.items c.args.place ≡ Some b = slice_get_read c.args.books.now.items _ c.args.place b refl c.requires.place c.index_mut.ensures.value in
    let least = c.greatest_base-base.ensures ∙ ap (λ (bs : List (BookView g.row.D.Denot)). greatest (map (λ (x : BookView g.row.D.Denot). x.state.base) bs)) c.deref.ensures.value in
    let well = asks-well d.tells d.moment d.left_since d.may_leave c.args.now c.greatest_base-base.result c.args.ask.now c.args.books.now.items c.args.place c.ask.result b c.ask.new.self
    (c.requires.settled b was) was least c.ask.ensures.served c.ask.ensures.refused in
    record {
      before = b;
      after = c.ask.new.self;
      was = was;
      is = refl;
      how = (
        record {
          book = c.ask.ensures.book;
          terms = kept-terms d.tells d.moment d.left_since d.may_leave c.ask.result _ _ _ _ b c.ask.new.self well.0 well.1;
          cause = c.ask.ensures.cause;
        },
        well,
      );
    }
