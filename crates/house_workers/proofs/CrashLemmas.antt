-- What a crash leaves of the journals of a house that was served.
use Rattle.std.proofs.Common.{◌≡◌, ◌∙◌, ℕ, zero, suc, ◌+◌, ◌<◌, ◌≤◌, List, [], ◌∷◌, ◌++◌, length, get_or}
use Rattle.std.proofs.Common.{Option, Some, None, refl, sym, ap, subst, arith}
use Rattle.std.specs.List.{AllZip, slice_get}
use Rattle.std.proofs.Common.{◌⊎◌, inl, inr}
use Rattle.std.proofs.lemmas.List.{append-nil, length-append}
use Rattle.std.proofs.lemmas.Option.{slice_get-get_or, slice_get_within}
use Rattle.pcp_base.specs.Apply.{apply_all}
use Rattle.pcp_base.specs.States.{State}
use Rattle.pcp_base.proofs.Members.{Contains-from_IsIn, IsIn-from_Contains}
use Rattle.journal_sides.specs.declared.errors.JournalFault.{JournalFault}
use Rattle.journal_sides.specs.declared.errors.JournalFault.TheVariants.{Disk, Memory}
use Rattle.journal_sides.specs.Journals.{StandsFor as StandsForState}
use Rattle.shard_book.specs.Addresses.{renumbering}
use Rattle.lease_histories.specs.Entries.{Served}
use Rattle.lease_histories.specs.Legal.{state_after}
use Rattle.lease_histories.specs.PlainHouses.{PlainHouse, PlainShard}
use Rattle.lease_house.specs.CrashLaws.{CrashesAreFound, IsFoundIn}
use Rattle.house_workers.specs.Laws.{CrashesAreRecovered}
use Rattle.pcp_base.specs.declared.configs.Config.{Config}
use Rattle.pcp_base.specs.declared.configs.External.{External}
use Rattle.pcp_base.specs.declared.datagrams.Entry.{Entry}
use Rattle.lease_disk.specs.declared.disks.DiskPair.{DiskPair}
use Rattle.lease_store.specs.declared.terms.Terms.{Terms}
use Rattle.lease_disk.specs.Pairs.{PairLeavesOnly}
use Rattle.lane_index.specs.Lanes.{LaneKnowledge}
use Rattle.shard_book.specs.Books.{BookView}
use Rattle.turn_lock.specs.Passes.{TurnName}
use Rattle.lease_house.specs.SoloOpenings.{OpensAll, OpensOne}
use Rattle.job_workers.specs.Works.{Lost, Refused, Replied, WorkCall, WorkResult}
use Rattle.turned_shards.specs.declared.marks.Mark.{Mark}
use Rattle.turned_shards.specs.declared.openings.Opening.{Opening}
use Rattle.turned_shards.specs.declared.passes.HousePass.{HousePass}
use Rattle.turned_shards.specs.declared.shards.Shard.{Shard}
use Rattle.turned_shards.specs.Crashes.{IsInDoubt, StandsAlong, StandsBehind, doubts_in}
use Rattle.turned_shards.specs.Shards.{StandsFor, served_by}
use Rattle.turned_shards.specs.Turnings.{EndsOne, opening_of}
use Rattle.shared_house.specs.declared.beginning.Begun.{Begun}
use Rattle.shared_house.specs.Beginnings.{BeginAll, Begins}
use Rattle.shared_house.specs.Endings.{EndsAll}
use Rattle.house_workers.specs.Crashes.{IsRecovered, KeepsAcknowledged, KeepsServed}
use Rattle.house_workers.specs.OwnEntries.{AreRising, NotesInOrder, answered_by, answered_in, own_in}
use Rattle.house_workers.proofs.NoteLemmas.{entries_later, rising_append, rising_from, rising_parts, rising_to, rising_within, zip_append}

abbrev pub served_as : Config → ℕ → External → Served
served_as config place x = record { config = config; place = place; external = x }

pub first_of : {X : Type 0} (xs ys : List X) (i : ℕ) (x : X) → i < length xs → slice_get (xs ++ ys) i ≡ Some x
    → slice_get xs i ≡ Some x
first_of [] ys i x small there = absurd (omega arith)
first_of (y ∷ xs) ys zero x small there = there
first_of (y ∷ xs) ys (suc i) x small there = first_of xs ys i x (omega arith) there

-- ---- entries of answered batches

record Parts {A B : Type 0} (R : A → B → Type 0) (ps : List A) (xs ys : List B) : Type 0 where
  one : List A
  two : List A
  both : ps ≡ one ++ two
  first : AllZip R one xs
  second : AllZip R two ys

parts : {A B : Type 0} (R : A → B → Type 0) (ps : List A) (xs ys : List B) → AllZip R ps (xs ++ ys) →
    Parts R ps xs ys
parts R ps [] ys all = record { one = []; two = ps; both = refl; first = tt; second = all }
parts R [] (x ∷ xs) ys all = absurd all
parts R (p ∷ ps) (x ∷ xs) ys all =
    let rest = parts R ps xs ys all.1 in
    record {
      one = p ∷ rest.one;
      two = rest.two;
      both = ap (λ l. p ∷ l) rest.both;
      first = (all.0, rest.first);
      second = rest.second;
    }

-- places of these entries that rise
record Placed (R : ℕ → Entry → Type 0) (from to : ℕ) (xs : List Entry) : Type 0 where
  at : List ℕ
  rising : AreRising from at to
  there : AllZip R at xs

placed_none : (R : ℕ → Entry → Type 0) (from to : ℕ) → from ≤ to → Placed R from to []
placed_none R from to h = record { at = []; rising = h; there = tt }

answered_of : (R : ℕ → Entry → Type 0) (result : WorkResult) (own more : List Entry) (ps : List ℕ) (from mid to : ℕ) →
    AllZip R ps own → AreRising from ps mid → Placed R mid to more → Placed R from to (answered_by result own ++ more)
answered_of R (Replied handed) own more ps from mid to h up rest = record {
  at = ps ++ rest.at;
  rising = rising_append from ps mid rest.at to up rest.rising;
  there = zip_append R ps rest.at own more h rest.there;
}
answered_of R Lost own more ps from mid to h up rest = record {
  at = rest.at;
  rising = rising_from from mid rest.at to (rising_within from ps mid up) rest.rising;
  there = rest.there;
}
answered_of R (Refused fault) own more ps from mid to h up rest = record {
  at = rest.at;
  rising = rising_from from mid rest.at to (rising_within from ps mid up) rest.rising;
  there = rest.there;
}

answered_places : (R : ℕ → Entry → Type 0) (calls : List WorkCall) (ps : List ℕ) (from to : ℕ) →
    AllZip R ps (own_in calls) → AreRising from ps to → Placed R from to (answered_in calls)
answered_places R [] ps from to all up = placed_none R from to (rising_within from ps to up)
answered_places R (c ∷ cs) ps from to all up =
    let both = parts R ps c.own (own_in cs) all in
    let rise = rising_parts from both.one both.two to
    (subst (λ (l : List ℕ). AreRising from l to) both.both up) in
    answered_of R c.result c.own (answered_in cs) both.one from rise.0 to both.first rise.1
    (answered_places R cs both.two rise.0 to both.second rise.2)

module _ {D : Type 0} (tells : Type 0) (seen : D → List ℕ) (moment : D → ℕ)
    (left_since : D → ℕ → List ℕ → Type 0) (may_leave : D → List ℕ → Type 0) (faults : D → ℕ)
  where
    -- what is in doubt at the end is the last of the lists
    in_doubt_by : (o : Opening D) (s : Shard D) (log : List Entry) (marks : List (Mark D))
        → (stands : StandsFor tells seen moment left_since may_leave faults o s log marks)
        → (f : Option JournalFault) → s.book.fault ≡ f
        → (s.doubt ≡ []) ⊎ IsInDoubt (served_by o) o.book.state (doubts_in marks) log s.doubt
    in_doubt_by o s log marks stands (Some Disk) h = inr (stands.kept.now h)
    in_doubt_by o s log marks stands (Some Memory) h = inl (stands.sure (λ failed. absurd (cc (h, failed))))
    in_doubt_by o s log marks stands None h = inl (stands.sure (λ failed. absurd (cc (h, failed))))

    pub acknowledged : (o : Opening D) (calls : List WorkCall) (old new ended : HousePass D) (pair : DiskPair D)
        → NotesInOrder old.history new.history (own_in calls)
        → (ends : EndsOne tells seen moment left_since may_leave faults o new ended pair)
        → KeepsAcknowledged tells may_leave o (doubts_in ended.history.marks) (answered_in calls) ended.history.seen pair
    acknowledged o calls old new ended pair noted ends =
        let later = entries_later new.history.seen ended.history.seen noted.places (own_in calls)
        (ends.others, sym ends.knows) noted.entries in
        let sum = ap length ends.knows ∙ length-append new.history.seen ends.others in
        let placed = answered_places (λ place e. slice_get ended.history.seen place ≡ Some e) calls
        noted.places 0 (length ended.history.seen) later
        (rising_to 0 noted.places (length new.history.seen) (length ended.history.seen) (omega (arith, sum))
        (rising_from 0 (length old.history.seen) noted.places (length new.history.seen) (omega arith) noted.rising)) in
        record {
          places = placed.at;
          rising = placed.rising;
          there = placed.there;
          doubt = ends.kept.doubt;
          in_doubt = in_doubt_by o ends.kept ended.history.seen ended.history.marks ends.stands ends.kept.book.fault refl;
          images = ends.images;
        }

    -- where nothing was answered
    pub nothing_acknowledged : (o : Opening D) (old ended : HousePass D) (pair : DiskPair D)
        → (ends : EndsOne tells seen moment left_since may_leave faults o old ended pair)
        → KeepsAcknowledged tells may_leave o (doubts_in ended.history.marks) [] ended.history.seen pair
    nothing_acknowledged o old ended pair ends = record {
      places = [];
      rising = omega arith;
      there = tt;
      doubt = ends.kept.doubt;
      in_doubt = in_doubt_by o ends.kept ended.history.seen ended.history.marks ends.stands ends.kept.book.fault refl;
      images = ends.images;
    }

    -- ---- from the opening to the end

    open_at : (config : Config) (m : ℕ) (xs : List External) (ps : List (DiskPair D)) (bs : List (BookView D))
        (spare : List (DiskPair D)) (i : ℕ) (x : External) (p : DiskPair D)
        → OpensAll tells seen moment left_since may_leave faults config m xs ps bs spare
        → slice_get xs i ≡ Some x → slice_get ps i ≡ Some p
        → (b : BookView D) × (slice_get bs i ≡ Some b)
        × OpensOne tells seen moment left_since may_leave faults config m x p b
    open_at config m [] ps bs spare i x p all at there = absurd cc
    open_at config m (y ∷ xs) [] bs spare i x p all at there = absurd all
    open_at config m (y ∷ xs) (q ∷ ps) [] spare i x p all at there = absurd all
    open_at config m (y ∷ xs) (q ∷ ps) (b ∷ bs) spare zero x p all at there =
        let same : y ≡ x = cc in
        let is : q ≡ p = cc in (
          b,
          refl,
          subst (λ (z : External). OpensOne tells seen moment left_since may_leave faults config m z p b) same
              (subst (λ (r : DiskPair D). OpensOne tells seen moment left_since may_leave faults config m y r b) is all.0),
        )
    open_at config m (y ∷ xs) (q ∷ ps) (b ∷ bs) spare (suc i) x p all at there =
        open_at config m xs ps bs spare i x p all.1 at there

    -- the turn of a book, its pass and its lane
    begun_at : (config : Config) (k : ℕ) (bs : List (BookView D)) (ts : List (TurnName (Opening D)))
        (ps : List (HousePass D)) (ls : List LaneKnowledge) (i : ℕ) (b : BookView D)
        → BeginAll config k bs ts ps ls → slice_get bs i ≡ Some b
        → (t : TurnName (Opening D)) × (p : HousePass D) × (l : LaneKnowledge)
        × (slice_get ts i ≡ Some t) × (slice_get ps i ≡ Some p) × (t.key ≡ opening_of config (k + i) b l)
    begun_at config k [] ts ps ls i b all there = absurd cc
    begun_at config k (w ∷ bs) [] ps ls i b all there = absurd all
    begun_at config k (w ∷ bs) (t ∷ ts) [] ls i b all there = absurd all
    begun_at config k (w ∷ bs) (t ∷ ts) (p ∷ ps) [] i b all there = absurd all
    begun_at config k (w ∷ bs) (t ∷ ts) (p ∷ ps) (l ∷ ls) zero b all there =
        let same : w ≡ b = cc in
        let at : k ≡ k + zero = omega arith in (
          t,
          p,
          l,
          refl,
          refl,
          all.0.key ∙ (ap (λ (x : BookView D). opening_of config k x l) same
              ∙ ap (λ n. opening_of config n b l) at),
        )
    begun_at config k (w ∷ bs) (t ∷ ts) (p ∷ ps) (l ∷ ls) (suc i) b all there =
        let rest = begun_at config (k + 1) bs ts ps ls i b all.1 there in
        let at : (k + 1) + i ≡ k + suc i = omega arith in
        (rest.0, rest.1, rest.2, rest.3, rest.4, rest.5 ∙ ap (λ n. opening_of config n b rest.2) at)

    -- the pass with which it begins
    pub begun_pass : (config : Config) (m : ℕ) (before : List (DiskPair D)) (begun : Begun D) (place : ℕ) (x : External) (p : DiskPair D)
        → Begins tells seen moment left_since may_leave faults config m before begun
        → slice_get config.externals place ≡ Some x → slice_get before place ≡ Some p
        → (q : HousePass D) × (slice_get begun.passes.items place ≡ Some q)
    begun_pass config m before begun place x p begins at there =
        let opened = open_at config m config.externals before begins.books begun.house.spare place x p
        begins.opened at there in
        let turn = begun_at config 0 begins.books begun.house.turns begun.passes.items begun.lanes.items place
        opened.0 begins.begins.each opened.1 in
        (turn.1, turn.4)

    -- an external address, from its opening to the pass and the pair with which its turn ended
    pub record IsOpenedAndEnded (turns : List (TurnName (Opening D))) (config : Config) (m place : ℕ)
        (x : External) (p now : DiskPair D) (old last : HousePass D) : Type 0 where
      pub turn : TurnName (Opening D)
      pub there : slice_get turns place ≡ Some turn
      pub o : Opening D
      pub key : turn.key ≡ o
      pub served : served_by o ≡ record { config = config; place = place; external = x }
      pub opened : OpensOne tells seen moment left_since may_leave faults config m x p o.book
      pub ends : EndsOne tells seen moment left_since may_leave faults o old last now

    pub ended_at : (config : Config) (m : ℕ) (before pairs : List (DiskPair D)) (begun : Begun D)
        (then ended : List (HousePass D)) (place : ℕ) (x : External) (p now : DiskPair D) (old last : HousePass D)
        → Begins tells seen moment left_since may_leave faults config m before begun
        → EndsAll tells seen moment left_since may_leave faults begun.house.turns then ended begun.house.spare pairs
        → slice_get config.externals place ≡ Some x → slice_get before place ≡ Some p
        → slice_get pairs place ≡ Some now → slice_get then place ≡ Some old → slice_get ended place ≡ Some last
        → IsOpenedAndEnded begun.house.turns config m place x p now old last
    ended_at config m before pairs begun then ended place x p now old last begins ends at there back passed came =
        let opened = open_at config m config.externals before begins.books begun.house.spare place x p
        begins.opened at there in
        let b : BookView D = opened.0 in
        let turn = begun_at config 0 begins.books begun.house.turns begun.passes.items begun.lanes.items place
        b begins.begins.each opened.1 in
        let inside = slice_get_within begun.house.turns place turn.0 turn.3 in
        let count = ends.count in
        let small : place < length ends.ended = omega (arith, inside, count) in
        let pair : slice_get ends.ended place ≡ Some now =
        first_of ends.ended begun.house.spare place now small
        (subst (λ (l : List (DiskPair D)). slice_get l place ≡ Some now) ends.back back) in
        let o : Opening D = turn.0.key in
        let placed : 0 + place ≡ place = omega arith in
        let key : o ≡ opening_of config place b turn.2 =
        turn.5 ∙ ap (λ n. opening_of config n b turn.2) placed in
        let book : o.book ≡ b = ap (λ (k : Opening D). k.book) key in
        record {
          turn = turn.0;
          there = turn.3;
          o = o;
          key = refl;
          served = ap served_by key ∙ ap (λ (t : Terms). served_as config place t.external) opened.2.opened.on_terms;
          opened = subst (λ (w : BookView D). OpensOne tells seen moment left_since may_leave faults config m x p w)
              (sym book) opened.2;
          ends = ends.each place turn.0 old last now turn.3 passed came pair;
        }

    pub kept_of : (m : ℕ) (x : External) (o : Opening D) (p now : DiskPair D) (config : Config) (old last : HousePass D)
        → OpensOne tells seen moment left_since may_leave faults config m x p o.book
        → (ends : EndsOne tells seen moment left_since may_leave faults o old last now)
        → KeepsServed tells seen moment left_since may_leave m x o (doubts_in last.history.marks) last.history.seen p now
    kept_of m x o p now config old last opened ends = record {
      opens = opened.moments;
      serves = λ told. subst (λ (q : DiskPair D). PairLeavesOnly moment left_since may_leave o.book.journal.pair q
          (StandsAlong (served_by o) o.book.state (doubts_in last.history.marks) last.history.seen))
          (sym ends.pair_is) (ends.stands.kept.moments told);
    }

    pub kept_at : (config : Config) (m : ℕ) (before pairs : List (DiskPair D)) (begun : Begun D)
        (then ended : List (HousePass D)) (place : ℕ) (x : External) (p now : DiskPair D) (last : HousePass D)
        → Begins tells seen moment left_since may_leave faults config m before begun
        → EndsAll tells seen moment left_since may_leave faults begun.house.turns then ended begun.house.spare pairs
        → slice_get config.externals place ≡ Some x → slice_get before place ≡ Some p
        → slice_get pairs place ≡ Some now → slice_get ended place ≡ Some last
        → (o : Opening D) × (doubts : List (List Entry))
        × KeepsServed tells seen moment left_since may_leave m x o doubts last.history.seen p now
    kept_at config m before pairs begun then ended place x p now last begins ends at there back came =
        let within = slice_get_within ended place last came in
        let passes = ends.count_passes in
        let few : place < length then = omega (arith, within, passes) in
        let old : HousePass D = get_or then place last in
        let whole = ended_at config m before pairs begun then ended place x p now old last begins ends at there back
        (slice_get-get_or then place last few) came in
        (whole.o, doubts_in last.history.marks, kept_of m x whole.o p now config old last whole.opened whole.ends)

    -- ---- the next opening

    -- a house with this state alone
    abbrev alone : Config → External → State → PlainHouse
    alone config x s =
        record { config = config; shards = record { external = x; state = s; last = 0 } ∷ [] }

    found_alone : (config : Config) (y x : External) (s now : State) (m : ℕ)
        → IsFoundIn 0 (alone config y s ∷ []) m x now
        → now ≡ apply_all s (renumbering m x.address s)
    found_alone config y x s now m found =
        elim (IsIn-from_Contains (alone config y s ∷ []) found.house found.among) [
          | inl same ↦ (
              let there : slice_get (alone config y s).shards 0 ≡ Some found.shard =
              subst (λ (h : PlainHouse). slice_get h.shards 0 ≡ Some found.shard) (sym same) found.there in
              let is : record { external = y; state = s; last = 0 } ≡ found.shard = cc in
              found.now_is
              ∙ ap (λ (p : PlainShard). apply_all p.state (renumbering m x.address p.state)) (sym is)
              )
          | inr none ↦ absurd none
        ]

    found_with : CrashesAreFound D tells seen moment left_since may_leave faults → (config : Config) (m : ℕ)
        (x : External) (s : State) (pair : DiskPair D) (book : BookView D) → tells
        → StandsForState s (seen pair.a) (seen pair.b)
        → OpensOne tells seen moment left_since may_leave faults config m x pair book
        → book.state ≡ apply_all s (renumbering m x.address s)
    found_with found config m x s pair book told stands opens =
        found_alone config x x s book.state m
        (found 0 (alone config x s ∷ []) config m x pair book told
        (record {
          house = alone config x s;
          shard = record { external = x; state = s; last = 0 };
          among = Contains-from_IsIn (alone config x s ∷ []) (alone config x s) (inl refl);
          there = refl;
          stands = stands;
        }) opens)

    recovered_by : CrashesAreFound D tells seen moment left_since may_leave faults → (served : Served)
        (opening : State) (doubts : List (List Entry)) (log first more : List Entry) (config : Config) (m : ℕ)
        (x : External) (pair : DiskPair D) (book : BookView D) → tells → log ≡ first ++ more
        → StandsBehind served opening doubts first (seen pair.a) (seen pair.b)
        → OpensOne tells seen moment left_since may_leave faults config m x pair book
        → IsRecovered served opening doubts log m x.address book.state
    recovered_by found served opening doubts log first more config m x pair book told log_is (inl stands) opens =
        record {
          first = first;
          more = more;
          log_is = log_is;
          behind = [];
          in_doubt = inl refl;
          now_is = subst (λ (l : List Entry). book.state
              ≡ apply_all (state_after opening l) (renumbering m x.address (state_after opening l)))
              (sym (append-nil first))
              (found_with found config m x (state_after opening first) pair book told stands opens);
        }
    recovered_by found served opening doubts log first more config m x pair book told log_is
        (inr (doubt, is, stands)) opens =
        record {
          first = first;
          more = more;
          log_is = log_is;
          behind = doubt;
          in_doubt = inr is;
          now_is = found_with found config m x (state_after opening (first ++ doubt)) pair book told stands opens;
        }

    pub recovered : CrashesAreFound D tells seen moment left_since may_leave faults
        → CrashesAreRecovered D tells seen moment left_since may_leave faults
    recovered found served opening doubts log config m x pair book told along opens =
        recovered_by found served opening doubts log along.first along.more config m x pair book told along.log_is
        along.stands opens
