use Rattle.std.proofs.Common.{◌≡◌, None, subst, sym, ap, ◌∙◌, length, arith}
use Rattle.std.proofs.lemmas.Result.{IfOk-weaker}
use Rattle.std.specs.List.{AllByRecursion}
use Rattle.shard_book.specs.Books.{IsBook}
use Rattle.lease_house.specs.SoloHouses.{HouseView}
use Rattle.lease_house.proofs.UpdateLemmas.{some_books, told_by_house}
use Rattle.lease_house.proofs.solo.SoloHouse.updates.Goals as goal

pub greatest_base-base-requires : goal.greatest_base-base-requires
greatest_base-base-requires g c =
    let d = g.D.LeaseDisk in
    omega (arith, ap length c.deref.ensures.value, some_books d.tells d.seen d.may_leave _ c.self.invariant.0)

pub updates_of-requires-clause-settled : goal.updates_of-requires-clause-settled
updates_of-requires-clause-settled g c =
    subst (AllByRecursion (λ b. b.fault ≡ None)) (sym (c.deref-2.ensures.value ∙ ap (λ (h : HouseView g.row.D.Denot). h.books) c.self.view_is)) c.requires.settled

pub updates_of-requires-clause-books : goal.updates_of-requires-clause-books
updates_of-requires-clause-books g c =
    let d = g.D.LeaseDisk in
    subst (AllByRecursion (IsBook d.tells d.seen d.may_leave)) (sym c.deref-2.ensures.value) c.self.invariant.0.books

pub returns : goal.returns
returns g c =
    let books_are = ap (λ (h : HouseView g.row.D.Denot). h.books) c.self.view_is in
    IfOk-weaker c.updates_of.result _ _
    (λ updates items_are. items_are ∙ told_by_house c.args.self.now c.deref.result.now c.deref-2.result.now c.greatest_base-base.result (c.deref.ensures.value ∙ books_are) (c.deref-2.ensures.value ∙ books_are) c.greatest_base-base.ensures)
    c.updates_of.ensures
