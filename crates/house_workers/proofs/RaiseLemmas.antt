-- What a seat has raised by a worker's calls.
use Rattle.std.proofs.Common.{◌≡◌, ◌∙◌, ◌⊎◌, inl, inr, ℕ, zero, suc, ◌+◌, ◌/◌, ◌≤◌, ◌<◌, max, ltb, Bool, true, false, cond, List, [], ◌∷◌, ◌++◌, length, Some, refl, sym, ap, subst, append_assoc, arith}
use Rattle.std.specs.List.{AllByRecursion, slice_get}
use Rattle.std.proofs.lemmas.Grind.{common_steps}
use Rattle.std.proofs.lemmas.List.{append-nil}
use Rattle.std.proofs.lemmas.List.Elements.{filter_map-append}
use Rattle.std.proofs.lemmas.List.Sums.{fold-append}
use Rattle.std.proofs.lemmas.Option.{slice_get_within}
use mathlib.Core.List.{IsPrefix}
use Rattle.pcp_base.specs.declared.datagrams.Entry.{Entry}
use Rattle.pcp_base.specs.declared.records.Record.{Record}
use Rattle.pcp_base.specs.Apply.{apply, apply_all, rebases}
use Rattle.pcp_base.specs.States.{State}
use Rattle.pcp_base.proofs.Members.{All-weaker}
use Rattle.lease_disk.specs.declared.disks.DiskPair.{DiskPair}
use Rattle.journal_sides.specs.declared.errors.JournalFault.{JournalFault}
use Rattle.journal_sides.specs.declared.errors.JournalFault.TheVariants as JournalFaults
use Rattle.lease_histories.specs.Legal.{base_after, moment_after, records_of, state_after}
use Rattle.job_queue.specs.declared.jobs.Job.{Job}
use Rattle.job_workers.specs.Works.{DoesCalls, IsOfHouse, Lost, Refused, Replied, WorkCall, WorkResult, WorkState}
use Rattle.request_workers.specs.Parts.{BegunState}
use Rattle.request_workers.specs.Passes.{SplitsFirst}
use Rattle.turn_lock.specs.Passes.{TurnName}
use Rattle.turned_shards.specs.declared.openings.Opening.{Opening}
use Rattle.turned_shards.specs.declared.passes.HousePass.{HousePass}
use Rattle.turned_shards.specs.BatchEntries.{loss_at}
use Rattle.turned_shards.specs.Turnings.{EndsOne}
use Rattle.shared_house.specs.declared.beginning.Begun.{Begun}
use Rattle.shared_house.specs.Beginnings.{first_base}
use Rattle.shared_house.specs.Seats.{Knows}
use Rattle.shared_house.specs.HouseCalls.{AddsTo, BeginsAt, Hears, HouseView, before_own, loss_behind, raised_behind, raised_by_loss}
use Rattle.house_workers.specs.HouseCallsOf.{IsOpeningOf, NotesHere, NotesOwn, calls_of}
use Rattle.house_workers.specs.Laws.{BasesAreMoments, HousesRaiseBases}
use Rattle.house_workers.specs.Raised.{IsBaseAlong, IsMomentOf, RaisesBases}
use Rattle.house_workers.proofs.EndLemmas.{books-count, count_back, pass_at, passes-count}
use Rattle.house_workers.proofs.OwnLemmas.{noted_along}
use Rattle.house_workers.proofs.PromisedLemmas.{RanThere, ran}

one-turn : {X : Type 0} (x y : X) → Some x ≡ Some y → x ≡ y
one-turn x y e = cc

-- what stands there
one-there : {X : Type 0} (xs : List X) (i : ℕ) → i < length xs → (x : X) × (slice_get xs i ≡ Some x)
one-there [] i small = absurd (omega (arith, small))
one-there (x ∷ xs) zero small = (x, refl)
one-there (x ∷ xs) (suc i) small = one-there xs i (omega (arith, small))

all-there : {X : Type 0} (P : X → Type 0) (xs : List X) (i : ℕ) (x : X) → AllByRecursion P xs → slice_get xs i ≡ Some x → P x
all-there P [] i x all there = absurd cc
all-there P (y ∷ xs) zero x all there = subst P (one-turn y x there) all.0
all-there P (y ∷ xs) (suc i) x all there = all-there P xs i x all.1 there

-- ---- bases along a history

max-one : (a b : ℕ) → (max a b ≡ a) ⊎ (max a b ≡ b)
max-one a b = at (ltb a b) refl
  where
    at : (v : Bool) → ltb a b ≡ v → (max a b ≡ a) ⊎ (max a b ≡ b)
    at true e = inr (let h : a < b = grind (arith, common_steps) in omega (arith, h))
    at false e = inl (let h : b ≤ a = grind (arith, common_steps) in omega (arith, h))

along-more : (opening : State) (log now : List Entry) (m : ℕ) → IsPrefix log now → IsBaseAlong opening log m
    → IsBaseAlong opening now m
along-more opening log now m h is = record {
  first = is.first;
  more = is.more ++ h.0;
  history_is = sym h.1 ∙ (ap (λ l. l ++ h.0) is.history_is ∙ append_assoc is.first is.more h.0);
  base_is = is.base_is;
}

state-append : (s : State) (xs ys : List Entry) → state_after s (xs ++ ys) ≡ apply_all (state_after s xs) (records_of ys)
state-append s xs ys =
    ap (apply_all s) (filter_map-append (λ (e : Entry). e.kept) xs ys) ∙ fold-append apply s (records_of xs) (records_of ys)

-- the moment of a loss is the base behind it
loss-base : (opening : State) (log : List Entry) (m base : ℕ) → m ≡ (state_after opening (log ++ loss_at m base ∷ [])).base
loss-base opening log m base =
    sym (ap (λ (s : State). s.base) (state-append opening log (loss_at m base ∷ [])))

-- of what was raised, and the base behind a history
raised-more : (opening : State) (log more now : List Entry) (old raised : ℕ) → now ≡ log ++ more
    → raised ≡ max old (state_after opening log).base → RaisesBases opening now old raised
raised-more opening log more now old raised seen is =
    elim (max-one old (state_after opening log).base) [
      | inl same ↦ inl (is ∙ same)
      | inr base ↦ inr (record { first = log; more = more; history_is = seen; base_is = is ∙ base })
    ]

-- and the moment of a loss that is in the history
raised-most : (opening : State) (log now : List Entry) (old raised m base : ℕ) → now ≡ log ++ loss_at m base ∷ []
    → raised ≡ max (max old (state_after opening log).base) m → RaisesBases opening now old raised
raised-most opening log now old raised m base seen is =
    elim (max-one (max old (state_after opening log).base) m) [
      | inl same ↦ raised-more opening log (loss_at m base ∷ []) now old raised seen (is ∙ same)
      | inr most ↦ inr (record {
        first = now;
        more = [];
        history_is = sym (append-nil now);
        base_is = (is ∙ most) ∙ (loss-base opening log m base ∙ ap (λ l. (state_after opening l).base) (sym seen));
      })
    ]

-- first the one, then the other
raised-then : (opening : State) (log now : List Entry) (old mid new : ℕ) → IsPrefix log now
    → RaisesBases opening log old mid → RaisesBases opening now mid new → RaisesBases opening now old new
raised-then opening log now old mid new within first (inr base) = inr base
raised-then opening log now old mid new within (inl same) (inl still) = inl (still ∙ same)
raised-then opening log now old mid new within (inr base) (inl still) =
    inr (subst (IsBaseAlong opening now) (sym still) (along-more opening log now mid within base))

-- ---- such bases

moved-here : (s : State) (r : Record) (rs : List Record) (m : ℕ) (b : Bool) → rebases r.change s.address ≡ b
    → m ≡ cond b r.moment s.base → (m ≡ s.base) ⊎ IsMomentOf s (r ∷ rs) m
moved-here s r rs m true how is =
    inr (record { before = []; r = r; more = rs; records_are = refl; how = how; moment_is = is })
moved-here s r rs m false how is = inl is

moved-later : (s : State) (r : Record) (rs : List Record) (m : ℕ) → IsMomentOf (apply s r) rs m → IsMomentOf s (r ∷ rs) m
moved-later s r rs m is = record {
  before = r ∷ is.before;
  r = is.r;
  more = is.more;
  records_are = ap (λ l. r ∷ l) is.records_are;
  how = is.how;
  moment_is = is.moment_is;
}

pub bases-are-moments : BasesAreMoments
bases-are-moments s [] = inl refl
bases-are-moments s (r ∷ rs) =
    elim (bases-are-moments (apply s r) rs) [
      | inl same ↦ moved-here s r rs (apply_all (apply s r) rs).base (rebases r.change s.address) refl same
      | inr later ↦ inr (moved-later s r rs (apply_all (apply s r) rs).base later)
    ]

-- ---- a worker's calls

module _ {D : Type 0} where
  seat-raised : (old new : HousePass D) (raised : ℕ) → Hears raised old.epoch new.epoch → new.epoch.raised ≡ raised
  seat-raised old new raised h = ap (λ k. (record new { epoch = k }).epoch.raised) h.same

  -- a history began with one thing alone
  one-opening : (house : HouseView D) (old new : HousePass D) (o p : Opening D) → new.shard ≡ old.shard
      → IsOpeningOf house old o → IsOpeningOf house new p → p ≡ o
  one-opening house old new o p place is was =
      let at : slice_get house.turns old.shard ≡ Some was.begins.0 =
      subst (λ n. slice_get house.turns n ≡ Some was.begins.0) place was.begins.1 in
      let turn : was.begins.0 ≡ is.begins.0 = one-turn was.begins.0 is.begins.0 (sym at ∙ is.begins.1) in
      sym was.begins.2 ∙ (ap (λ (t : TurnName (Opening D)). t.key) turn ∙ is.begins.2)

  stays-opening : (house : HouseView D) (old new : HousePass D) (o : Opening D) → new.shard ≡ old.shard
      → IsOpeningOf house old o → IsOpeningOf house new o
  stays-opening house old new o place is = record {
    begins = (
      is.begins.0,
      subst (λ n. slice_get house.turns n ≡ Some is.begins.0) (sym place) is.begins.1,
      is.begins.2,
    );
    config = is.config;
  }

  -- by a call that was told what it raised
  raised-by : (o : Opening D) (S : List Entry → List Entry → Type 0) (old new : HousePass D)
      (wanted : List Entry → List Entry) (adds : AddsTo o S old new wanted)
      → new.epoch.raised ≡ raised_behind o (before_own o old adds.others adds.settling) old.epoch.raised
      → RaisesBases o.book.state new.history.seen old.epoch.raised new.epoch.raised
  raised-by o S old new wanted adds is =
      let log = before_own o old adds.others adds.settling in
      raised-more o.book.state log (wanted log) new.history.seen old.epoch.raised new.epoch.raised adds.notes.seen is

  lost-by : (o : Opening D) (S : List Entry → List Entry → Type 0) (now heard : ℕ) (old new : HousePass D)
      (adds : AddsTo o S old new (λ log. loss_behind o log now heard))
      → new.epoch.raised ≡ raised_by_loss o now (before_own o old adds.others adds.settling) old.epoch.raised
      → RaisesBases o.book.state new.history.seen old.epoch.raised new.epoch.raised
  lost-by o S now heard old new adds is =
      let log = before_own o old adds.others adds.settling in
      raised-most o.book.state log new.history.seen old.epoch.raised new.epoch.raised
      (max now (moment_after o.book.state log)) (max heard (base_after o.book.state log)) adds.notes.seen is

module _ {D : Type 0} (tells : Type 0) (seen : D → List ℕ) (moment : D → ℕ)
    (left_since : D → ℕ → List ℕ → Type 0) (may_leave : D → List ℕ → Type 0) (faults : D → ℕ)
  where
    abbrev Raises : Opening D → HousePass D → HousePass D → Type 0
    Raises o old new = RaisesBases o.book.state new.history.seen old.epoch.raised new.epoch.raised

    noted-raises : (now : ℕ) (o : Opening D) (wanted : List Entry → List Entry) (old new : HousePass D) (own : List Entry)
        → NotesHere tells seen moment left_since may_leave faults now o wanted (raised_behind o) old new own
        → Raises o old new
    noted-raises now o wanted old new own h =
        raised-by o _ old new wanted h.refuses.adds (seat-raised old new _ h.refuses.hears)

    batch-raises : (now : ℕ) (o : Opening D) (wanted : List Entry → List Entry) (old new : HousePass D) (own : List Entry) (cause : JournalFault)
        → NotesOwn tells seen moment left_since may_leave faults now o wanted (raised_behind o) old new own cause
        → Raises o old new
    batch-raises now o wanted old new own JournalFaults.Disk h = noted-raises now o _ old new own h.0
    batch-raises now o wanted old new own JournalFaults.Memory (inl h) = noted-raises now o _ old new own h
    batch-raises now o wanted old new own JournalFaults.Memory (inr h) = noted-raises now o _ old new own h

    loss-raises : (now : ℕ) (o : Opening D) (old new : HousePass D) (own : List Entry) (cause : JournalFault)
        → NotesOwn tells seen moment left_since may_leave faults now o (λ log. loss_behind o log now new.epoch.heard)
        (raised_by_loss o now) old new own cause
        → Raises o old new
    loss-raises now o old new own JournalFaults.Disk h = noted-raises now o _ old new own h.0
    loss-raises now o old new own JournalFaults.Memory (inl h) = noted-raises now o _ old new own h
    loss-raises now o old new own JournalFaults.Memory (inr h) =
        lost-by o _ now new.epoch.heard old new h.refuses.adds (seat-raised old new _ h.refuses.hears)

    -- of the opening that the call names
    for-opening : (house : HouseView D) (old new : HousePass D) (o p : Opening D) → IsOpeningOf house old o → IsOpeningOf house old p
        → Raises p old new → Raises o old new
    for-opening house old new o p is was raises =
        subst (λ (k : Opening D). Raises k old new) (one-opening house old old o p refl is was) raises

    call-raises : (house : HouseView D) (now : ℕ) (old new : HousePass D) (jobs : List Job) (own : List Entry) (result : WorkResult) (o : Opening D)
        → IsOpeningOf house old o
        → IsOfHouse (calls_of tells seen moment left_since may_leave faults house) now old new jobs own result
        → Raises o old new
    call-raises house now old new jobs own (Replied handed) o is h =
        let a = h.answers in
        for-opening house old new o a.opening is a.opens
        (raised-by a.opening _ old new _ a.serves.adds (seat-raised old new _ a.serves.hears))
    call-raises house now old new jobs own Lost o is h =
        let a = h.loses in
        for-opening house old new o a.opening is a.opens
        (lost-by a.opening _ now new.epoch.heard old new a.loses.adds (seat-raised old new _ a.loses.hears))
    call-raises house now old new jobs own (Refused fault) o is (inl h) =
        let a = h.refuses in
        for-opening house old new o a.opening is a.opens (batch-raises now a.opening _ old new own a.cause a.notes)
    call-raises house now old new jobs own (Refused fault) o is (inr h) =
        let a = h.refuses in
        for-opening house old new o a.opening is a.opens (loss-raises now a.opening old new own a.cause a.notes)

    pub raises-along : (house : HouseView D) (calls : List WorkCall) (a b : WorkState (HousePass D)) (o : Opening D)
        → IsOpeningOf house a.pass o
        → DoesCalls (calls_of tells seen moment left_since may_leave faults house) calls a b
        → Raises o a.pass b.pass
    raises-along house [] a b o is does =
        subst (λ (s : WorkState (HousePass D)). Raises o a.pass s.pass) (sym does) (inl refl)
    raises-along house (c ∷ cs) a b o is does =
        let mid : HousePass D = does.0.pass in
        let rest = noted_along tells seen moment left_since may_leave faults house cs does.0 b does.2 in
        raised-then o.book.state mid.history.seen b.pass.history.seen a.pass.epoch.raised mid.epoch.raised b.pass.epoch.raised rest.seen
        (call-raises house (c.time / 1000) a.pass mid c.jobs c.own c.result o is does.1.by_house)
        (raises-along house cs does.0 b o (stays-opening house a.pass mid o does.1.stays.place is) does.2)

    -- ---- a house

    -- what its first passes have raised
    abbrev HasRaised : ℕ → HousePass D → Type 0
    HasRaised first p = p.epoch.raised ≡ first

    -- a pass was split off the first of them
    kept-raised : (house : HouseView D) (first : ℕ) (old kept : List (HousePass D)) (asking : HousePass D)
        → SplitsFirst (calls_of tells seen moment left_since may_leave faults house) old kept asking
        → AllByRecursion (HasRaised first) old → AllByRecursion (HasRaised first) kept
    kept-raised house first old kept asking splits all =
        let were : AllByRecursion (HasRaised first) (splits.first ∷ splits.rest) =
        subst (AllByRecursion (HasRaised first)) splits.old_is all in
        let same : splits.kept.epoch.raised ≡ splits.first.epoch.raised =
        ap (λ k. (record splits.kept { epoch = k }).epoch.raised) splits.splits.splits.epoch.kept_is in
        subst (AllByRecursion (HasRaised first)) (sym splits.new_is) (same ∙ were.0, were.1)

    ran-raises : (begun : Begun D) (first : ℕ) (passes : List (HousePass D)) (place : ℕ) (o : Opening D)
        → AllByRecursion (HasRaised first) begun.passes.items → BeginsAt begun.house place o
        → (one : RanThere (calls_of tells seen moment left_since may_leave faults begun.house) begun.passes.items passes place)
        → RaisesBases o.book.state one.run.new.pass.history.seen first one.run.new.pass.epoch.raised
    ran-raises begun first passes place o all begins one =
        let old : HousePass D = one.run.old.pass in
        let is = pass_at tells seen moment left_since may_leave faults begun.house 0 one.kept place old one.splits.passes one.began in
        let at : old.shard ≡ place = is.1 ∙ (let e : 0 + place ≡ place = omega arith in e) in
        let opens : BeginsAt begun.house old.shard o =
        (begins.0, subst (λ n. slice_get begun.house.turns n ≡ Some begins.0) (sym at) begins.1, begins.2) in
        let raised : old.epoch.raised ≡ first = all-there (HasRaised first) one.kept place old
        (kept-raised begun.house first begun.passes.items one.kept one.asking one.splits all) one.began in
        subst (λ n. RaisesBases o.book.state one.run.new.pass.history.seen n one.run.new.pass.epoch.raised) raised
        (raises-along begun.house one.is.works.calls one.run.old one.run.new o
        (record { begins = opens; config = is.0.opens o opens }) one.is.works.does)

    -- so it is of the pass with which its turn ended
    ended-raises : (o : Opening D) (first : ℕ) (old last : HousePass D) (pair : DiskPair D)
        → EndsOne tells seen moment left_since may_leave faults o old last pair
        → RaisesBases o.book.state old.history.seen first old.epoch.raised
        → RaisesBases o.book.state last.history.seen first last.epoch.raised
    ended-raises o first old last pair ends raises =
        let same : last.epoch.raised ≡ old.epoch.raised = ap (λ k. (record last { epoch = k }).epoch.raised) ends.epoch in
        raised-then o.book.state old.history.seen last.history.seen first old.epoch.raised last.epoch.raised
        (ends.others, sym ends.knows) raises (inl same)

    pub house-raises : HousesRaiseBases D tells seen moment left_since may_leave faults
    house-raises config groups port m before pairs begun old new result begins serves place o last opens came =
        let first : ℕ = first_base begins.books in
        let then : List (HousePass D) = serves.then.passes in
        let seats = slice_get_within serves.ended place last came in
        let counts = serves.ends.count_passes in
        let back = count_back tells seen moment left_since may_leave faults begun.house config groups port begun.fresh _ serves.then result serves.answers in
        let many = passes-count config 0 begins.books begun.house.turns begun.passes.items begun.lanes.items begins.begins.each in
        let books = books-count tells seen moment left_since may_leave faults config m config.externals before begins.books begun.house.spare begins.opened in
        let within : place < length config.externals = omega (arith, seats, counts, back, many, books) in
        let turns = slice_get_within begun.house.turns place opens.0 opens.1 in
        let ends = serves.ends.count in
        let pair = one-there serves.ends.ended place (omega (arith, turns, ends)) in
        let all : AllByRecursion (HasRaised first) begun.passes.items =
        All-weaker (λ (p : HousePass D). Knows begun.house.word first first p.epoch) (HasRaised first)
        (λ p h. h.raised_is) begun.passes.items begins.begins.epochs in
        let whole : (q : HousePass D) → slice_get then place ≡ Some q → RaisesBases o.book.state q.history.seen first q.epoch.raised
        → RaisesBases o.book.state last.history.seen first last.epoch.raised =
        λ q passed raises. ended-raises o first q last pair.0
        (subst (λ (k : Opening D). EndsOne tells seen moment left_since may_leave faults k q last pair.0) opens.2
        (serves.ends.each place opens.0 q last pair.0 opens.1 passed came pair.1)) raises in
        elim (ran (calls_of tells seen moment left_since may_leave faults begun.house) config groups port begun.fresh _ serves.then result place serves.answers within) [
          | inl same ↦ (
              let q = one-there then place (omega (arith, seats, counts)) in
              let still : slice_get begun.passes.items place ≡ Some q.0 =
              subst (λ (s : BegunState (HousePass D)). slice_get s.passes place ≡ Some q.0) same q.1 in
              whole q.0 q.1 (inl (all-there (HasRaised first) begun.passes.items place q.0 all still))
              )
          | inr one ↦ whole one.run.new.pass one.pass (ran-raises begun first then place o all opens one)
        ]
