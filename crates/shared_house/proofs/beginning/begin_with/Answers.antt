use Rattle.std.specs.Prelude.{flat_map}
use Rattle.std.specs.List.{AllByRecursion, sum_by}
use Rattle.std.proofs.Common.{◌≡◌, ◌∙◌, ◌-◌, ◌^◌, List, None, length, vec_capacity, arith, ap, sym}
use Rattle.std.proofs.Common.{subst}
use Rattle.lease_journal.specs.declared.errors.Found.{Found}
use Rattle.epoch_word.specs.Rule.{seat_knowledge}
use Rattle.shard_book.specs.Books.{BookView, IsBook}
use Rattle.lease_house.specs.SoloOpenings.{book_updates}
use Rattle.shared_house.specs.Beginnings.{first_base}
use Rattle.shared_house.specs.Findings.{is_fresh, update_places}
use Rattle.shared_house.specs.HouseCalls.{HouseView}
use Rattle.shared_house.specs.Seats.{AreSeats, Knows}
use Rattle.shared_house.proofs.BeginLemmas.{IsKeyed, all-mapped, begin-keyed, is-house, sum-mapped}
use Rattle.shared_house.proofs.BeginLemmas.{zip-length}
use Rattle.shared_house.proofs.OpenedLemmas.{all-books, all-settled}
use Rattle.shared_house.proofs.TurnedLemmas.{untouched-back}
use Rattle.shared_house.proofs.beginning.begin_with.Goals as goal

pub prepare-requires-clause-settled : goal.prepare-requires-clause-settled
prepare-requires-clause-settled g c =
    let d = g.D.LeaseDisk in
    subst (AllByRecursion (λ (b : BookView g.row.D.Denot). b.fault ≡ None))
    (sym c.deref.ensures.value)
    (all-settled d.tells d.seen d.may_leave c.args.config 0 c.args.opened.books.items
    c.requires.books)

pub prepare-requires-clause-books : goal.prepare-requires-clause-books
prepare-requires-clause-books g c =
    let d = g.D.LeaseDisk in
    subst (AllByRecursion (IsBook d.tells d.seen d.may_leave)) (sym c.deref.ensures.value)
    (all-books d.tells d.seen d.may_leave c.args.config 0 c.args.opened.books.items
    c.requires.books)

pub returns-in_default-clause-back : goal.returns-in_default-clause-back
returns-in_default-clause-back g c =
    let d = g.D.LeaseDisk in
    untouched-back d.tells d.moment d.left_since d.may_leave d.faults c.args.opened.books.items c.args.opened.spare.items
    c.hand_back.result.items c.hand_back.ensures

pub invariant_of-result : goal.invariant_of-result
invariant_of-result g c =
    let made = c.in-Ok-turn_all.made in
    let books = c.args.opened.books.items in
    let all = c.in-Ok-turn_all.ensures.begun in
    let house : HouseView g.row.D.Denot =
    record {
      config = c.args.config;
      turns = made.turns.items;
      word = c.in-Ok.prepared.word;
      spare = c.in-Ok-turn_all.spare.items;
    } in
    let many = zip-length IsKeyed made.turns.items books
    (begin-keyed c.args.config 0 books made.turns.items made.passes.items made.lanes.items
    all) in
    let same = c.in-Ok-turn_all.ensures.spare in
    let count = ap (λ v. length v.items) same in
    let capacity = ap (λ v. vec_capacity v) same in
    let room = c.requires.room in (
      is-house house books made.passes.items made.lanes.items all c.requires.config
          c.requires.count,
      omega (arith, many, count, capacity, room),
    )

pub returns-in-Ok-turn_all-clause-begun : goal.returns-in-Ok-turn_all-clause-begun
returns-in-Ok-turn_all-clause-begun g c =
    let made = c.in-Ok-turn_all.made in
    let ready = c.in-Ok.prepared in
    let books = c.args.opened.books.items in
    let founds = c.args.opened.founds.items in
    let same : c.deref.result.now ≡ books = c.deref.ensures.value in
    let same_founds : c.deref-2.result.now ≡ founds = c.deref-2.ensures.value in
    let first = first_base books in
    let seats : AreSeats (length books) (seat_knowledge ready.word first first 0 (2 ^ 64 - 1))
    ready.seats.items =
    subst (λ (bs : List (BookView g.row.D.Denot)). AreSeats (length bs)
    (seat_knowledge ready.word (first_base bs) (first_base bs) 0 (2 ^ 64 - 1)) ready.seats.items)
    same c.in-Ok.ensures.seats in
    let seated = c.in-Ok-turn_all.ensures.seats in
    record {
      each = c.in-Ok-turn_all.ensures.begun;
      epochs = all-mapped (Knows ready.word first first) (λ p. p.epoch) made.passes.items
          (subst (AllByRecursion (Knows ready.word first first)) (sym seated) seats.each);
      shares = sum-mapped (λ s. s.share) (λ p. p.epoch) made.passes.items
          ∙ ap (λ ss. sum_by (λ s. s.share) ss) seated ∙ seats.shares;
      fresh = c.in-Ok.ensures.fresh
          ∙ ap (λ (fs : List Found). is_fresh fs c.deref.result.now) same_founds
          ∙ ap (λ (bs : List (BookView g.row.D.Denot)). is_fresh founds bs) same;
      updates = c.in-Ok.ensures.updates
          ∙ ap (λ (bs : List (BookView g.row.D.Denot)). flat_map (book_updates (first_base bs)) bs)
          same;
      update_shards = c.in-Ok.ensures.update_shards
          ∙ ap (λ (bs : List (BookView g.row.D.Denot)). update_places (first_base bs) 0 bs) same;
    }
