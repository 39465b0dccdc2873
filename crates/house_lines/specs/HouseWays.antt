-- Laws of what a crash may leave of a house over time.
use Rattle.std.proofs.Common.{◌≡◌, ◌≢◌, ◌∙◌, ℕ, zero, suc, ◌≤◌, List, [], ◌∷◌, ◌++◌, length, map, Option, Some, None, refl, sym, ap, subst, inl, inr, arith}
use Rattle.std.specs.Prelude.{Contains, slice_get}
use Rattle.std.specs.List.{AllByRecursion}
use Rattle.pcp_base.proofs.Members.{Contains-from_IsIn, IsIn-from_Contains, IsIn-left, IsIn-right}
use Rattle.pcp_base.specs.declared.datagrams.Entry.{Entry}
use Rattle.pcp_script.specs.declared.lines.Line.{Line}
use Rattle.pcp_script.specs.declared.lines.Line.TheVariants.{Skip, Packet, Look, Lose, Owners}
use Rattle.script_player.specs.Ways.{WayLaws}
use Rattle.lease_disk.specs.Pairs.{HoldsNow, PairLeavesOnly}
use Rattle.lease_disk.proofs.PairLemmas.{pair_goes_on, pair_started, pair_weaker}
use Rattle.shard_book.proofs.PairRuns.{holds_after}
use Rattle.journal_sides.specs.declared.errors.JournalFault.TheVariants.{Disk}
use Rattle.journal_sides.specs.Journals.{StandsFor, StandsForWithOrWithout}
use Rattle.shard_book.specs.Books.{BookView, IsBook}
use Rattle.lease_histories.specs.PlainHouses.{PlainHouse, PlainShard, add_entry, loss_entry, packet_entry}
use Rattle.lease_histories.specs.Routes.{route_of}
use Rattle.lease_house.specs.HouseImages.{HouseLeavesOnly, StandsInOneOf}
use Rattle.lease_house.specs.SoloHouses.{HouseView, plain_house, plain_shard}
use Rattle.house_lines.specs.HouseEffects.{house_effects}
use Rattle.house_lines.specs.Rests.{IsAtRest}

-- ---- lists by their places

pub All-at : {X : Type 0} (P : X → Type 0) (xs : List X) (i : ℕ) (x : X) → AllByRecursion P xs → slice_get xs i ≡ Some x → P x
All-at P [] i x all h = absurd cc
All-at P (y ∷ ys) zero x all h = let same : y ≡ x = cc in subst P same all.0
All-at P (y ∷ ys) (suc i) x all h = All-at P ys i x all.1 h

pub get-map : {X Y : Type 0} (f : X → Y) (xs : List X) (i : ℕ) (x : X) → slice_get xs i ≡ Some x → slice_get (map f xs) i ≡ Some (f x)
get-map f [] i x h = absurd cc
get-map f (y ∷ ys) zero x h = let same : y ≡ x = cc in ap (λ z. Some (f z)) same
get-map f (y ∷ ys) (suc i) x h = get-map f ys i x h

-- of lists of one length each place is in both or in none
pub also-there : {X : Type 0} (xs ys : List X) (i : ℕ) (y : X) → length ys ≡ length xs → slice_get ys i ≡ Some y → (x : X) × (slice_get xs i ≡ Some x)
also-there xs [] i y same h = absurd cc
also-there [] (z ∷ ys) i y same h = absurd cc
also-there (x ∷ xs) (z ∷ ys) zero y same h = (x, refl)
also-there (x ∷ xs) (z ∷ ys) (suc i) y same h = also-there xs ys i y (let s : suc (length ys) ≡ suc (length xs) = same in omega (arith, s)) h

same-there : {X : Type 0} (xs : List X) (i : ℕ) (x y : X) → slice_get xs i ≡ Some x → slice_get xs i ≡ Some y → x ≡ y
same-there xs i x y h k = let both : Some x ≡ Some y = sym h ∙ k in cc

-- ---- over time

module _ {D : Type 0} (tells : Type 0) (moment : D → ℕ) (left_since : D → ℕ → List ℕ → Type 0) (may_leave : D → List ℕ → Type 0) where
  -- more houses say less
  stands-more : (place : ℕ) (houses more : List PlainHouse) → ((house : PlainHouse) → Contains houses house → Contains more house) →
      (x y : List ℕ) → StandsInOneOf place houses x y → StandsInOneOf place more x y
  stands-more place houses more f x y s = record { house = s.house; shard = s.shard; among = f s.house s.among; there = s.there; stands = s.stands }

  pub way-weaker : (a b : HouseView D) (houses more : List PlainHouse) → ((house : PlainHouse) → Contains houses house → Contains more house) →
      HouseLeavesOnly tells moment left_since may_leave a b houses → HouseLeavesOnly tells moment left_since may_leave a b more
  way-weaker a b houses more f w = record {
    count = w.count;
    spare = w.spare;
    each = λ t place x y hx hy. pair_weaker moment left_since may_leave x.journal.pair y.journal.pair (StandsInOneOf place houses) (StandsInOneOf place more)
        (w.each t place x y hx hy) (stands-more place houses more f);
  }

  in-front : (houses more : List PlainHouse) (house : PlainHouse) → Contains houses house → Contains (houses ++ more) house
  in-front houses more house h = Contains-from_IsIn (houses ++ more) house (IsIn-left houses more house (IsIn-from_Contains houses house h))

  behind : (houses more : List PlainHouse) (house : PlainHouse) → Contains more house → Contains (houses ++ more) house
  behind houses more house h = Contains-from_IsIn (houses ++ more) house (IsIn-right houses more house (IsIn-from_Contains more house h))

  way-joins : (a b c : HouseView D) (houses more : List PlainHouse) → HouseLeavesOnly tells moment left_since may_leave a b houses →
      HouseLeavesOnly tells moment left_since may_leave b c more → HouseLeavesOnly tells moment left_since may_leave a c (houses ++ more)
  way-joins a b c houses more v w =
      let first = way-weaker a b houses (houses ++ more) (in-front houses more) v in
      let second = way-weaker b c more (houses ++ more) (behind houses more) w in
      record {
        count = w.count ∙ v.count;
        spare = w.spare ∙ v.spare;
        each = λ t place x z hx hz.
            let y = also-there b.books c.books place z w.count hz in
            pair_goes_on moment left_since may_leave x.journal.pair y.0.journal.pair z.journal.pair (StandsInOneOf place (houses ++ more))
            (first.each t place x y.0 hx y.1) (second.each t place y.0 z y.1 hz);
      }

  module _ (counts_now : (disk : D) (t : ℕ) (image : List ℕ) → t ≤ moment disk → may_leave disk image → left_since disk t image)
      (only_now : (disk : D) (image : List ℕ) → left_since disk (moment disk) image → may_leave disk image) where
    way-ends : (a b : HouseView D) (houses : List PlainHouse) → HouseLeavesOnly tells moment left_since may_leave a b houses →
        HouseLeavesOnly tells moment left_since may_leave b b houses
    way-ends a b houses w = record {
      count = refl;
      spare = refl;
      each = λ t place y z hy hz.
          let x = also-there a.books b.books place y w.count hy in
          let here = holds_after moment left_since may_leave counts_now only_now (StandsInOneOf place houses) x.0.journal.pair y.journal.pair (w.each t place x.0 y x.1 hy) in
          subst (λ (c : BookView D). PairLeavesOnly moment left_since may_leave y.journal.pair c.journal.pair (StandsInOneOf place houses)) (same-there b.books place y z hy hz)
          (pair_started moment left_since may_leave y.journal.pair (StandsInOneOf place houses) here);
    }

    pub house_ways : WayLaws (HouseLeavesOnly tells moment left_since may_leave)
    house_ways = record { joins = way-joins; weaker = way-weaker; ends = way-ends }

-- ---- a house at rest

module _ {D : Type 0} (tells : Type 0) (seen : D → List ℕ) (moment : D → ℕ) (left_since : D → ℕ → List ℕ → Type 0) (may_leave : D → List ℕ → Type 0) where
  with-none : (b : BookView D) → b.unsure ≡ [] → (x y : List ℕ) → StandsForWithOrWithout b.state b.unsure x y → StandsFor b.state x y
  with-none b none x y s = go (subst (λ rs. StandsForWithOrWithout b.state rs x y) none s)
    where
      go : StandsForWithOrWithout b.state [] x y → StandsFor b.state x y
      go (inl h) = h
      go (inr h) = h

  -- each two images of its pair stand for the state of the book
  book-stands : (b : BookView D) → IsBook tells seen may_leave b → b.fault ≡ None → tells → HoldsNow may_leave (StandsFor b.state) b.journal.pair
  book-stands b is settled t =
      let sure : b.fault ≢ Some Disk = λ bad. absurd (let e : None ≡ Some Disk = sym settled ∙ bad in cc) in
      λ x y left_a left_b. with-none b (is.sure sure) x y (is.images t x y left_a left_b)

  pub rest-stands : (house : HouseView D) → IsAtRest tells seen may_leave house → tells → (place : ℕ) (b : BookView D) →
      slice_get house.books place ≡ Some b → HoldsNow may_leave (StandsFor b.state) b.journal.pair
  rest-stands house r t place b there =
      book-stands b (All-at (IsBook tells seen may_leave) house.books place b r.is.books there) (All-at (λ b. b.fault ≡ None) house.books place b r.settled there) t

  pub stands-here : (house : HouseView D) (more : List PlainHouse) (place : ℕ) (b : BookView D) → slice_get house.books place ≡ Some b →
      (x y : List ℕ) → StandsFor b.state x y → StandsInOneOf place (plain_house house ∷ more) x y
  stands-here house more place b there x y s = record {
    house = plain_house house;
    shard = plain_shard b;
    among = Contains-from_IsIn (plain_house house ∷ more) (plain_house house) (inl refl);
    there = get-map plain_shard house.books place b there;
    stands = s;
  }

  -- a book that had no call
  pub book-stays : (house : HouseView D) (more : List PlainHouse) → IsAtRest tells seen may_leave house → tells → (place : ℕ) (b c : BookView D) →
      slice_get house.books place ≡ Some b → b ≡ c → PairLeavesOnly moment left_since may_leave b.journal.pair c.journal.pair (StandsInOneOf place (plain_house house ∷ more))
  book-stays house more r t place b c there same =
      subst (λ (d : BookView D). PairLeavesOnly moment left_since may_leave b.journal.pair d.journal.pair (StandsInOneOf place (plain_house house ∷ more))) same
      (pair_started moment left_since may_leave b.journal.pair (StandsInOneOf place (plain_house house ∷ more))
      (λ x y left_a left_b. stands-here house more place b there x y (rest-stands house r t place b there x y left_a left_b)))

  pub stays-with : (house : HouseView D) (more : List PlainHouse) → IsAtRest tells seen may_leave house → HouseLeavesOnly tells moment left_since may_leave house house (plain_house house ∷ more)
  stays-with house more r = record {
    count = refl;
    spare = refl;
    each = λ t place b c hb hc. book-stays house more r t place b c hb (same-there house.books place b c hb hc);
  }

  pub house_stays : (house : HouseView D) → IsAtRest tells seen may_leave house → HouseLeavesOnly tells moment left_since may_leave house house (plain_house house ∷ [])
  house_stays house r = stays-with house [] r

-- ---- lines change no external address

add-config : (house : PlainHouse) (place : ℕ) (e : Option Entry) → (add_entry house place e).config ≡ house.config
add-config house place e = go (slice_get house.shards place) refl e
  where
    go : (shard : Option PlainShard) → slice_get house.shards place ≡ shard → (e : Option Entry) → (add_entry house place e).config ≡ house.config
    go None is e = rw is refl
    go (Some shard) is None = rw is refl
    go (Some shard) is (Some e) = rw is refl

pub externals_stay : (house : PlainHouse) (line : Line) → house_effects.externals (house_effects.after house line) ≡ house_effects.externals house
externals_stay house Skip = refl
externals_stay house (Packet now from) = ap (λ config. config.externals) (add-config house (route_of house.config from) (packet_entry house now from))
externals_stay house (Look m shard protocol port remote remote_port) = refl
externals_stay house (Lose now shard) = ap (λ config. config.externals) (add-config house shard (loss_entry house shard now))
externals_stay house (Owners m shard) = refl
