use Rattle.std.proofs.Common.{◌≡◌, ◌∙◌, ℕ, max, get_or, sym, refl, ap}
use Rattle.std.proofs.lemmas.Option.{slice_get_read}
use Rattle.shard_book.specs.Books.{BookView}
use Rattle.lease_house.proofs.ListLemmas.{greatest-end, greatest-first, greatest-turn}
use Rattle.lease_house.proofs.moments.greatest_base.Goals as goal

pub loop-book-init : goal.loop-book-init
loop-book-init g c =
    greatest-first (λ (b : BookView g.row.D.Denot). b.state.base) c.args.books.now c.index-books-0.result c.base-base.result
    (slice_get_read c.args.books.now _ 0 c.index-books-0.result refl c.requires c.index-books-0.is) c.base-base.ensures

pub loop-book-preserved : goal.loop-book-preserved
loop-book-preserved g c =
    let told : c.later-base.result ≡ max c.loop-book.base (get_or c.args.books.now c.loop-book.book-index c.book-item.result).state.base =
    c.later-base.ensures ∙ ap (λ (n : ℕ). max c.loop-book.base n) c.base.ensures
    ∙ ap (λ (b : BookView g.row.D.Denot). max c.loop-book.base b.state.base) c.book-item.is in
    greatest-turn (λ (b : BookView g.row.D.Denot). b.state.base) c.args.books.now c.loop-book.book-index c.book-item.result c.loop-book.base c.later-base.result
    c.loop-book-test.true told ∙ c.loop-book.invariant

pub returns : goal.returns
returns g c =
    sym (greatest-end (λ (b : BookView g.row.D.Denot). b.state.base) c.args.books.now c.loop-book.book-index c.loop-book.base c.loop-book-test.false)
    ∙ c.loop-book.invariant
