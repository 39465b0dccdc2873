-- What a call does to a house at rest.
use Rattle.std.proofs.Common.{◌≡◌, ◌∙◌, ◌⊎◌, ℕ, zero, suc, true, false, List, [], ◌∷◌, length, Option, Some, None, refl, sym, ap, subst, inl, inr}
use Rattle.std.specs.Prelude.{slice_get, slice_set, IsSome}
use Rattle.std.specs.List.{AllByRecursion}
use Rattle.std.specs.Option.{option_map}
use Rattle.pcp_base.specs.declared.datagrams.Datagram.{Datagram}
use Rattle.pcp_base.specs.declared.datagrams.Entry.{Entry}
use Rattle.pcp_base.specs.declared.records.Record.{Record}
use Rattle.pcp_base.specs.Apply.{apply_all}
use Rattle.pcp_base.proofs.Members.{Contains-from_IsIn}
use Rattle.lease_disk.specs.Pairs.{PairLeavesOnly}
use Rattle.lease_disk.proofs.PairLemmas.{pair_weaker}
use Rattle.journal_sides.specs.declared.errors.JournalFault.{JournalFault}
use Rattle.journal_sides.specs.declared.errors.JournalFault.TheVariants as Journals
use Rattle.journal_sides.specs.Journals.{StandsFor, StandsForWithOrWithout}
use Rattle.shard_book.specs.Books.{BookView}
use Rattle.shard_book.specs.Keepings.{unsure_after}
use Rattle.lease_histories.specs.Routes.{route_of}
use Rattle.lease_histories.specs.Entries.{Request, request_of}
use Rattle.lease_histories.specs.PlainHouses.{PlainHouse, PlainShard, add_by, entry_by, lose_after, lost_count, packet_after, packet_entry, packet_reply}
use Rattle.lease_house.specs.declared.faults.HouseFault.{HouseFault}
use Rattle.lease_house.specs.HouseImages.{HouseLeavesOnly, StandsInOneOf}
use Rattle.lease_house.specs.Routings.{routed_by, routed_to}
use Rattle.lease_house.specs.SoloCalls.{AnswersPacket, DoubtsAt, IsLineRefused, IsSilence, KeepsAt, LosesAt, RefusesPacket, ServesPacket, SettlesAt, loss_records, packet_records}
use Rattle.lease_house.specs.SoloHouses.{ChangesBook, HouseView, IsHouse, IsSettledAt, plain_house, with_book}
use Rattle.house_lines.specs.HouseWays.{All-at, book-stays, stands-here, stays-with}
use Rattle.house_lines.specs.Rests.{IsAtRest}
use Rattle.house_lines.proofs.StateLemmas.{HasStateAt, lose-state, packet-state, set-same}

pub length-set : {X : Type 0} (xs : List X) (i : ℕ) (y : X) → length (slice_set xs i y) ≡ length xs
length-set [] i y = refl
length-set (x ∷ xs) zero y = refl
length-set (x ∷ xs) (suc i) y = ap (λ n. suc n) (length-set xs i y)

All-set : {X : Type 0} (P : X → Type 0) (xs : List X) (i : ℕ) (y : X) → AllByRecursion P xs → P y → AllByRecursion P (slice_set xs i y)
All-set P [] i y all h = tt
All-set P (x ∷ xs) zero y all h = (h, all.1)
All-set P (x ∷ xs) (suc i) y all h = (all.0, All-set P xs i y all.1 h)

-- what stands at a place of a list of which one item was changed
get-set : {X : Type 0} (xs : List X) (i j : ℕ) (x y z : X) → slice_get xs i ≡ Some x → slice_get (slice_set xs i y) j ≡ Some z →
    ((j ≡ i) × (y ≡ z)) ⊎ (slice_get xs j ≡ Some z)
get-set [] i j x y z h k = absurd cc
get-set (w ∷ ws) zero zero x y z h k = inl (refl, cc)
get-set (w ∷ ws) zero (suc j) x y z h k = inr k
get-set (w ∷ ws) (suc i) zero x y z h k = inr k
get-set (w ∷ ws) (suc i) (suc j) x y z h k = elim (get-set ws i j x y z h k) [
  | inl p ↦ inl (ap (λ n. suc n) p.0, p.1)
  | inr p ↦ inr p
]

one-item : {X : Type 0} (xs : List X) (i : ℕ) (x y : X) → slice_get xs i ≡ Some x → slice_get xs i ≡ Some y → x ≡ y
one-item xs i x y h k = let both : Some x ≡ Some y = sym h ∙ k in cc

pub settled-at : {D : Type 0} (house : HouseView D) (place : ℕ) → AllByRecursion (λ b. b.fault ≡ None) house.books → IsSettledAt place house
settled-at house place all b there = All-at (λ b. b.fault ≡ None) house.books place b all there

module _ {D : Type 0} (tells : Type 0) (seen : D → List ℕ) (moment : D → ℕ) (left_since : D → ℕ → List ℕ → Type 0) (may_leave : D → List ℕ → Type 0)
    (old : HouseView D) (rests : IsAtRest tells seen may_leave old) where
  -- there is nothing to settle
  settled-still : (now place : ℕ) (mid : HouseView D) → SettlesAt tells moment left_since may_leave now place old mid → mid ≡ old
  settled-still now place mid s =
      let clean = s.settles.clean (settled-at old place rests.settled s.book s.changes.there) in
      s.changes.new_is ∙ ap (λ (b : BookView D). with_book old place b) clean ∙ ap (λ (books : List (BookView D)). record old { books = books }) (set-same old.books place s.book s.changes.there)

  -- ---- over time

  stands-after : (place : ℕ) (b : BookView D) (records : List Record) (after : PlainHouse) → slice_get old.books place ≡ Some b →
      HasStateAt after place (apply_all b.state records) →
      (x y : List ℕ) → StandsForWithOrWithout b.state records x y → StandsInOneOf place (plain_house old ∷ after ∷ []) x y
  stands-after place b records after there has x y (inl s) = stands-here tells seen moment left_since may_leave old (after ∷ []) place b there x y s
  stands-after place b records after there has x y (inr s) = record {
    house = after;
    shard = has.shard;
    among = Contains-from_IsIn (plain_house old ∷ after ∷ []) after (inr (inl refl));
    there = has.there;
    stands = subst (λ state. StandsFor state x y) (sym has.same) s;
  }

  -- one book had calls, and each image has all of the records, or none
  pub one-book-way : (place : ℕ) (b c : BookView D) (records : List Record) (after : PlainHouse) (new : HouseView D) → ChangesBook place b c old new →
      (tells → PairLeavesOnly moment left_since may_leave b.journal.pair c.journal.pair (StandsForWithOrWithout b.state records)) →
      HasStateAt after place (apply_all b.state records) → HouseLeavesOnly tells moment left_since may_leave old new (plain_house old ∷ after ∷ [])
  one-book-way place b c records after new changes moments has = record {
    count = ap (λ (h : HouseView D). length h.books) changes.new_is ∙ length-set old.books place c;
    spare = ap (λ (h : HouseView D). h.spare) changes.new_is;
    each = λ t p x y hx hy. each t p x y hx (subst (λ (h : HouseView D). slice_get h.books p ≡ Some y) changes.new_is hy);
  } where
    each : tells → (p : ℕ) (x y : BookView D) → slice_get old.books p ≡ Some x → slice_get (slice_set old.books place c) p ≡ Some y →
        PairLeavesOnly moment left_since may_leave x.journal.pair y.journal.pair (StandsInOneOf p (plain_house old ∷ after ∷ []))
    each t p x y hx hy = elim (get-set old.books place p b c y changes.there hy) [
      | inl (at, same) ↦ (
          let from : x ≡ b = one-item old.books place x b (subst (λ q. slice_get old.books q ≡ Some x) at hx) changes.there in
          let run : PairLeavesOnly moment left_since may_leave b.journal.pair c.journal.pair (StandsInOneOf place (plain_house old ∷ after ∷ [])) =
          pair_weaker moment left_since may_leave b.journal.pair c.journal.pair (StandsForWithOrWithout b.state records) (StandsInOneOf place (plain_house old ∷ after ∷ [])) (moments t)
          (stands-after place b records after changes.there has) in
          rw (at, from) (subst (λ (z : BookView D). PairLeavesOnly moment left_since may_leave b.journal.pair z.journal.pair (StandsInOneOf place (plain_house old ∷ after ∷ []))) same run))
      | inr still ↦ book-stays tells seen moment left_since may_leave old (after ∷ []) rests t p x y hx (one-item old.books p x y hx still)
    ]

  -- the records are kept
  kept-way : (now place : ℕ) (records : BookView D → List Record) (after : PlainHouse) (new : HouseView D) →
      ((b : BookView D) → slice_get old.books place ≡ Some b → HasStateAt after place (apply_all b.state (records b))) →
      KeepsAt tells moment left_since may_leave now place records old new → HouseLeavesOnly tells moment left_since may_leave old new (plain_house old ∷ after ∷ [])
  kept-way now place records after new has k =
      one-book-way place k.book k.kept_book (records k.book) after new k.changes k.keeps.moments (has k.book k.changes.there)

  kept-rests : (now place : ℕ) (records : BookView D → List Record) (new : HouseView D) → IsHouse tells seen may_leave new →
      KeepsAt tells moment left_since may_leave now place records old new → IsAtRest tells seen may_leave new
  kept-rests now place records new is k = record {
    is = is;
    settled = subst (λ (h : HouseView D). AllByRecursion (λ b. b.fault ≡ None) h.books) (sym k.changes.new_is)
        (All-set (λ b. b.fault ≡ None) old.books place k.kept_book rests.settled k.keeps.fault);
  }

  -- they may be
  unsure-stands : (s : BookView D) (records : List Record) (fault : JournalFault) (x y : List ℕ) → StandsForWithOrWithout s.state (unsure_after fault records) x y →
      StandsForWithOrWithout s.state records x y
  unsure-stands s records Journals.Disk x y h = h
  unsure-stands s records Journals.Memory x y (inl h) = inl h
  unsure-stands s records Journals.Memory x y (inr h) = inl h

  doubt-way : (place : ℕ) (records : BookView D → List Record) (after : PlainHouse) (new : HouseView D) (fault : JournalFault) →
      ((b : BookView D) → slice_get old.books place ≡ Some b → HasStateAt after place (apply_all b.state (records b))) →
      DoubtsAt tells moment left_since may_leave place records old new fault → HouseLeavesOnly tells moment left_since may_leave old new (plain_house old ∷ after ∷ [])
  doubt-way place records after new fault has d =
      one-book-way place d.book d.unsure_book (records d.book) after new d.changes
      (λ t. pair_weaker moment left_since may_leave d.book.journal.pair d.unsure_book.journal.pair (StandsForWithOrWithout d.book.state (unsure_after fault (records d.book)))
      (StandsForWithOrWithout d.book.state (records d.book)) (d.doubts.moments t) (unsure-stands d.book (records d.book) fault))
      (has d.book d.changes.there)

  refused-way : (now place : ℕ) (records : BookView D → List Record) (after : PlainHouse) (new : HouseView D) (fault : HouseFault) →
      ((b : BookView D) → slice_get old.books place ≡ Some b → HasStateAt after place (apply_all b.state (records b))) →
      IsLineRefused tells moment left_since may_leave now place records old new fault → HouseLeavesOnly tells moment left_since may_leave old new (plain_house old ∷ after ∷ [])
  refused-way now place records after new fault has (cause, is, inl k) =
      absurd (nothing-in-doubt k.book (settled-at old place rests.settled k.book k.changes.there) k.keeps.doubt)
    where
      nothing-in-doubt : (b : BookView D) → b.fault ≡ None → IsSome b.fault → ⊥
      nothing-in-doubt b none some = (let bad : false ≡ true = subst IsSome none some in cc)
  refused-way now place records after new fault has (cause, is, inr (mid, settles, d)) =
      doubt-way place records after new cause has
      (subst (λ (h : HouseView D). DoubtsAt tells moment left_since may_leave place records h new cause) (settled-still now place mid settles) d)

  -- ---- a datagram

  packet-has : (now : ℕ) (from : Datagram) (b : BookView D) → slice_get old.books (route_of old.config from) ≡ Some b →
      HasStateAt (packet_after (plain_house old) now from) (route_of old.config from) (apply_all b.state (packet_records old now from b))
  packet-has now from b there = packet-state tells seen may_leave old rests.is now from b there

  answers-way : (now : ℕ) (from : Datagram) (new : HouseView D) (reply : List ℕ) → AnswersPacket tells moment left_since may_leave now from old new reply →
      HouseLeavesOnly tells moment left_since may_leave old new (plain_house old ∷ packet_after (plain_house old) now from ∷ [])
  answers-way now from new reply a =
      kept-way now (route_of old.config from) (packet_records old now from) (packet_after (plain_house old) now from) new (packet-has now from)
      (subst (λ (h : HouseView D). KeepsAt tells moment left_since may_leave now (route_of old.config from) (packet_records old now from) h new)
      (settled-still now (route_of old.config from) a.mid a.settles) a.keeps)

  same-way : (more : List PlainHouse) (new : HouseView D) → new ≡ old → HouseLeavesOnly tells moment left_since may_leave old new (plain_house old ∷ more)
  same-way more new same = subst (λ (h : HouseView D). HouseLeavesOnly tells moment left_since may_leave old h (plain_house old ∷ more)) (sym same)
      (stays-with tells seen moment left_since may_leave old more rests)

  pub served-way : (now : ℕ) (from : Datagram) (new : HouseView D) (reply : Option (List ℕ)) → ServesPacket tells moment left_since may_leave now from old new reply →
      HouseLeavesOnly tells moment left_since may_leave old new (plain_house old ∷ packet_after (plain_house old) now from ∷ [])
  served-way now from new None s = same-way (packet_after (plain_house old) now from ∷ []) new s.same
  served-way now from new (Some reply) s = answers-way now from new reply s

  pub packet-refused-way : (now : ℕ) (from : Datagram) (new : HouseView D) (fault : HouseFault) → RefusesPacket tells moment left_since may_leave now from old new fault →
      HouseLeavesOnly tells moment left_since may_leave old new (plain_house old ∷ packet_after (plain_house old) now from ∷ [])
  packet-refused-way now from new fault (inl unread) = same-way (packet_after (plain_house old) now from ∷ []) new unread.same
  packet-refused-way now from new fault (inr (asks, inl refused)) =
      refused-way now (route_of old.config from) (packet_records old now from) (packet_after (plain_house old) now from) new fault (packet-has now from) refused
  packet-refused-way now from new fault (inr (asks, inr untold)) = answers-way now from new untold.reply untold.answers

  -- nothing was read of a silent datagram
  pub silence : (from : Datagram) → routed_by old.config from ≡ None → IsSilence from old old
  silence from unread = record { silent = unrouted (request_of old.config from) unread; same = refl }
    where
      unrouted : (asked : Option Request) → option_map (routed_to (route_of old.config from)) asked ≡ None → asked ≡ None
      unrouted None is = refl
      unrouted (Some request) is = absurd cc

  silent-entry : (now : ℕ) (from : Datagram) → request_of old.config from ≡ None → packet_entry (plain_house old) now from ≡ None
  silent-entry now from silent =
      let house = plain_house old in
      ap (entry_by house now from (slice_get house.shards (route_of house.config from))) silent
      ∙ none (slice_get house.shards (route_of house.config from))
    where
      none : (shard : Option PlainShard) → entry_by (plain_house old) now from shard None ≡ None
      none None = refl
      none (Some shard) = refl

  add-none : (house : PlainHouse) (place : ℕ) (shard : Option PlainShard) → add_by house place shard None ≡ house
  add-none house place None = refl
  add-none house place (Some shard) = refl

  silent-after : (now : ℕ) (from : Datagram) → request_of old.config from ≡ None → packet_after (plain_house old) now from ≡ plain_house old
  silent-after now from silent =
      let house = plain_house old in
      let place = route_of house.config from in
      ap (λ e. add_by house place (slice_get house.shards place) e) (silent-entry now from silent) ∙ add-none house place (slice_get house.shards place)

  pub served-told : (now : ℕ) (from : Datagram) (new : HouseView D) (reply : Option (List ℕ)) → ServesPacket tells moment left_since may_leave now from old new reply →
      reply ≡ packet_reply (plain_house old) now from
  served-told now from new None s = sym (ap (option_map (λ (e : Entry). e.reply)) (silent-entry now from s.silent))
  served-told now from new (Some reply) s =
      sym (subst (λ (h : HouseView D). packet_reply (plain_house h) now from ≡ Some reply) (settled-still now (route_of old.config from) s.mid s.settles) s.told)

  pub served-house : (now : ℕ) (from : Datagram) (new : HouseView D) (reply : Option (List ℕ)) → ServesPacket tells moment left_since may_leave now from old new reply →
      plain_house new ≡ packet_after (plain_house old) now from
  served-house now from new None s = ap (λ (h : HouseView D). plain_house h) s.same ∙ sym (silent-after now from s.silent)
  served-house now from new (Some reply) s =
      s.after ∙ ap (λ (h : HouseView D). packet_after (plain_house h) now from) (settled-still now (route_of old.config from) s.mid s.settles)

  pub served-rests : (now : ℕ) (from : Datagram) (new : HouseView D) (reply : Option (List ℕ)) → IsHouse tells seen may_leave new →
      ServesPacket tells moment left_since may_leave now from old new reply → IsAtRest tells seen may_leave new
  served-rests now from new None is s = subst (λ (h : HouseView D). IsAtRest tells seen may_leave h) (sym s.same) rests
  served-rests now from new (Some reply) is s =
      kept-rests now (route_of old.config from) (packet_records old now from) new is
      (subst (λ (h : HouseView D). KeepsAt tells moment left_since may_leave now (route_of old.config from) (packet_records old now from) h new)
      (settled-still now (route_of old.config from) s.mid s.settles) s.keeps)

  -- the configuration stays
  pub served-config : (now : ℕ) (from : Datagram) (new : HouseView D) (reply : Option (List ℕ)) → ServesPacket tells moment left_since may_leave now from old new reply →
      new.config ≡ old.config
  served-config now from new reply s =
      let house = plain_house old in
      let place = route_of house.config from in
      ap (λ (h : PlainHouse). h.config) (served-house now from new reply s) ∙ same (slice_get house.shards place) (packet_entry house now from)
    where
      same : (shard : Option PlainShard) (e : Option Entry) → (add_by (plain_house old) (route_of old.config from) shard e).config ≡ old.config
      same None e = refl
      same (Some shard) None = refl
      same (Some shard) (Some e) = refl

  -- ---- a loss

  lose-has : (now place : ℕ) (b : BookView D) → slice_get old.books place ≡ Some b → HasStateAt (lose_after (plain_house old) place now) place (apply_all b.state (loss_records now b))
  lose-has now place b there = lose-state old place now b there

  lose-keeps : (now place : ℕ) (new : HouseView D) (count : ℕ) → (l : LosesAt tells moment left_since may_leave now place old new count) →
      KeepsAt tells moment left_since may_leave now place (loss_records now) old new
  lose-keeps now place new count l =
      subst (λ (h : HouseView D). KeepsAt tells moment left_since may_leave now place (loss_records now) h new) (settled-still now place l.mid l.settles) l.keeps

  pub lost-way : (now place : ℕ) (new : HouseView D) (count : ℕ) → LosesAt tells moment left_since may_leave now place old new count →
      HouseLeavesOnly tells moment left_since may_leave old new (plain_house old ∷ lose_after (plain_house old) place now ∷ [])
  lost-way now place new count l = kept-way now place (loss_records now) (lose_after (plain_house old) place now) new (lose-has now place) (lose-keeps now place new count l)

  pub lose-refused-way : (now place : ℕ) (new : HouseView D) (fault : HouseFault) → IsLineRefused tells moment left_since may_leave now place (loss_records now) old new fault →
      HouseLeavesOnly tells moment left_since may_leave old new (plain_house old ∷ lose_after (plain_house old) place now ∷ [])
  lose-refused-way now place new fault refused =
      refused-way now place (loss_records now) (lose_after (plain_house old) place now) new fault (lose-has now place) refused

  pub lost-told : (now place : ℕ) (new : HouseView D) (count : ℕ) → LosesAt tells moment left_since may_leave now place old new count →
      count ≡ lost_count (plain_house old) place now
  lost-told now place new count l = l.told ∙ ap (λ (h : HouseView D). lost_count (plain_house h) place now) (settled-still now place l.mid l.settles)

  pub lost-house : (now place : ℕ) (new : HouseView D) (count : ℕ) → LosesAt tells moment left_since may_leave now place old new count →
      plain_house new ≡ lose_after (plain_house old) place now
  lost-house now place new count l = l.after ∙ ap (λ (h : HouseView D). lose_after (plain_house h) place now) (settled-still now place l.mid l.settles)

  pub lost-rests : (now place : ℕ) (new : HouseView D) (count : ℕ) → IsHouse tells seen may_leave new → LosesAt tells moment left_since may_leave now place old new count →
      IsAtRest tells seen may_leave new
  lost-rests now place new count is l = kept-rests now place (loss_records now) new is (lose-keeps now place new count l)
