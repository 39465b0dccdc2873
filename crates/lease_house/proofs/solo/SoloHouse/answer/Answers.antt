use Rattle.std.proofs.Common.{◌≡◌, ◌∙◌, length, List, ap, sym, subst, arith, rules}
use Rattle.pcp_base.specs.declared.configs.Config.{Config}
use Rattle.shard_book.specs.Books.{BookView}
use Rattle.lease_house.specs.BookCalls.{IsSettledIn}
use Rattle.lease_house.specs.SoloHouses.{HouseView}
use Rattle.lease_house.proofs.BookLemmas.{book-count, causes-on, house-of, settled-count, settled-in, weaker-causes}
use Rattle.lease_house.proofs.CallLemmas.{answers-house, ask-after}
use Rattle.lease_house.proofs.ListLemmas.{length-put}
use Rattle.lease_house.proofs.solo.SoloHouse.answer.Goals as goal

pub returns-in_err-settle-clause-cause : goal.returns-in_err-settle-clause-cause
returns-in_err-settle-clause-cause g c =
    weaker-causes g.D.LeaseDisk.faults _ _ c.args.self.now c.settle.new.self c.in_err-settle.ensures.cause (λ p failed. search rules)

pub ask_at-requires-clause-place : goal.ask_at-requires-clause-place
ask_at-requires-clause-place g c =
    let d = g.D.LeaseDisk in
    let inside = c.self.inside in
    let same : inside.config ≡ c.args.self.now.config = ap (λ (h : HouseView g.row.D.Denot). h.config) (c.self.view_is ∙ c.in_ok-settle.ensures.settled.changes.new_is) in
    let long = book-count d.tells d.seen d.may_leave (house-of inside.config inside.books.items inside.spare.items) c.self.invariant.0 in
    let configured = ap (λ (x : Config). length x.externals) same in
    omega (arith, long, configured, c.requires.place)

pub ask_at-requires-clause-settled : goal.ask_at-requires-clause-settled
ask_at-requires-clause-settled g c =
    let d = g.D.LeaseDisk in
    subst (λ (h : HouseView g.row.D.Denot). IsSettledIn c.args.place h.books) (sym c.self.view_is)
    (settled-in d.tells d.moment d.left_since d.may_leave c.args.now c.args.place c.args.self.now c.settle.new.self c.in_ok-settle.ensures.settled)

pub invariant_of-self : goal.invariant_of-self
invariant_of-self g c =
    let d = g.D.LeaseDisk in
    let inside = c.self.inside in
    let at = c.ask_at.ensures in
    let inv = c.self.invariant.1 in
    let long : length c.ask_at.new.books.items ≡ length inside.books.items = ap (λ (bs : List (BookView g.row.D.Denot)). length bs) at.is ∙ length-put inside.books.items c.args.place at.after in (
      (ask-after d.tells d.seen d.moment d.left_since d.may_leave d.faults c.args.now c.args.place c.args.ask.now c.ask_at.result c.settle.new.self inside.config inside.books.items c.ask_at.new.books.items inside.spare.items
          c.self.view_is c.self.invariant.0 at).house,
      omega (arith, long, inv),
    )

pub returns-clause-answered : goal.returns-clause-answered
returns-clause-answered g c =
    let d = g.D.LeaseDisk in
    let inside = c.self.inside in
    rw c.told_at.ensures (answers-house d.tells d.seen d.moment d.left_since d.may_leave d.faults c.args.now c.args.place c.args.ask.now c.ask_at.result c.args.self.now c.settle.new.self (house-of inside.config c.ask_at.new.books.items inside.spare.items) inside.books.items (ap (λ (h : HouseView g.row.D.Denot). h.books) c.self.view_is) c.in_ok-settle.ensures.settled c.in_ok-settle.ensures.house
    (ask-after d.tells d.seen d.moment d.left_since d.may_leave d.faults c.args.now c.args.place c.args.ask.now c.ask_at.result c.settle.new.self inside.config inside.books.items c.ask_at.new.books.items inside.spare.items
    c.self.view_is c.self.invariant.0 c.ask_at.ensures)).0

pub returns-clause-refused : goal.returns-clause-refused
returns-clause-refused g c =
    let d = g.D.LeaseDisk in
    let inside = c.self.inside in
    rw c.told_at.ensures (answers-house d.tells d.seen d.moment d.left_since d.may_leave d.faults c.args.now c.args.place c.args.ask.now c.ask_at.result c.args.self.now c.settle.new.self (house-of inside.config c.ask_at.new.books.items inside.spare.items) inside.books.items (ap (λ (h : HouseView g.row.D.Denot). h.books) c.self.view_is) c.in_ok-settle.ensures.settled c.in_ok-settle.ensures.house
    (ask-after d.tells d.seen d.moment d.left_since d.may_leave d.faults c.args.now c.args.place c.args.ask.now c.ask_at.result c.settle.new.self inside.config inside.books.items c.ask_at.new.books.items inside.spare.items
    c.self.view_is c.self.invariant.0 c.ask_at.ensures)).1

pub returns-clause-house : goal.returns-clause-house
returns-clause-house g c =
    let d = g.D.LeaseDisk in
    let inside = c.self.inside in
    (ask-after d.tells d.seen d.moment d.left_since d.may_leave d.faults c.args.now c.args.place c.args.ask.now c.ask_at.result c.settle.new.self inside.config inside.books.items c.ask_at.new.books.items inside.spare.items
    c.self.view_is c.self.invariant.0 c.ask_at.ensures).house

pub returns-clause-cause : goal.returns-clause-cause
returns-clause-cause g c =
    let d = g.D.LeaseDisk in
    let inside = c.self.inside in
    let long = settled-count d.tells d.moment d.left_since d.may_leave c.args.now c.args.place c.args.self.now c.settle.new.self c.in_ok-settle.ensures.settled in
    rw c.told_at.ensures (causes-on d.faults _ _ c.args.self.now c.settle.new.self (house-of inside.config c.ask_at.new.books.items inside.spare.items) long c.settle.ensures.cause
    (ask-after d.tells d.seen d.moment d.left_since d.may_leave d.faults c.args.now c.args.place c.args.ask.now c.ask_at.result c.settle.new.self inside.config inside.books.items c.ask_at.new.books.items inside.spare.items
    c.self.view_is c.self.invariant.0 c.ask_at.ensures).cause)
