-- What a crash leaves of an external address, as its history grows.
use Rattle.std.specs.List.{slice_get}
use Rattle.std.proofs.Common.{◌≡◌, ◌∙◌, ◌⊎◌, inl, inr, ℕ, zero, suc, List, [], ◌∷◌, ◌++◌, length}
use Rattle.std.proofs.Common.{Some, None, refl, ap, sym, subst, append_assoc, ◌+◌}
use Rattle.std.proofs.lemmas.List.{append-nil, length-append, length-map, map-append}
use Rattle.pcp_base.specs.declared.datagrams.Entry.{Entry}
use Rattle.pcp_base.specs.States.{State}
use Rattle.lease_disk.specs.Pairs.{PairLeavesOnly}
use Rattle.lease_disk.proofs.PairLemmas.{pair_goes_on, pair_weaker}
use Rattle.journal_sides.specs.declared.errors.JournalFault.TheVariants.{Disk}
use Rattle.journal_sides.specs.Journals.{StandsFor as StandsForState}
use Rattle.shard_book.specs.Books.{BookView}
use Rattle.lease_histories.specs.Entries.{Served}
use Rattle.lease_histories.specs.Legal.{state_after}
use Rattle.turned_shards.specs.declared.marks.Mark.{Mark}
use Rattle.turned_shards.specs.Crashes.{IsInDoubt, IsKeptSince, StandsAlong, StandsBehind}
use Rattle.turned_shards.specs.Crashes.{doubts_in}

-- ---- more lists of entries in doubt

get-front : {X : Type 0} (xs ys : List X) (i : ℕ) (x : X) → slice_get xs i ≡ Some x →
    slice_get (xs ++ ys) i ≡ Some x
get-front [] ys i x h = absurd (let never : None ≡ Some x = h in cc)
get-front (z ∷ xs) ys zero x h = h
get-front (z ∷ xs) ys (suc i) x h = get-front xs ys i x h

pub get-end : {X : Type 0} (xs : List X) (y : X) → slice_get (xs ++ y ∷ []) (length xs) ≡ Some y
get-end [] y = refl
get-end (x ∷ xs) y = get-end xs y

-- each of the lists has its place still
abbrev pub StayThere : List (List Entry) → List (List Entry) → Type 0
StayThere ds es = (n : ℕ) (d : List Entry) → slice_get ds n ≡ Some d → slice_get es n ≡ Some d

doubts-append : {D : Type 0} (marks more : List (Mark D)) →
    doubts_in (marks ++ more) ≡ doubts_in marks ++ doubts_in more
doubts-append {D} marks more = map-append (λ (m : Mark D). m.doubt) marks more

pub doubts-stay : {D : Type 0} (marks more : List (Mark D)) →
    StayThere (doubts_in marks) (doubts_in (marks ++ more))
doubts-stay marks more n d there =
    subst (λ (l : List (List Entry)). slice_get l n ≡ Some d) (sym (doubts-append marks more))
    (get-front (doubts_in marks) (doubts_in more) n d there)

-- what was in doubt at the last of these
pub doubt-at-end : {D : Type 0} (marks : List (Mark D)) (m : Mark D) →
    slice_get (doubts_in (marks ++ m ∷ [])) (length marks) ≡ Some m.doubt
doubt-at-end {D} marks m =
    subst (λ (l : List (List Entry)). slice_get l (length marks) ≡ Some m.doubt)
    (sym (doubts-append marks (m ∷ [])))
    (subst (λ (n : ℕ). slice_get (doubts_in marks ++ m.doubt ∷ []) n ≡ Some m.doubt)
    (length-map marks (λ (k : Mark D). k.doubt)) (get-end (doubts_in marks) m.doubt))

module _ (x : Served) (opening : State) (ds es : List (List Entry)) (stay : StayThere ds es) where
  in-doubt-still : (first doubt : List Entry) → IsInDoubt x opening ds first doubt →
      IsInDoubt x opening es first doubt
  in-doubt-still first doubt is =
      record {
        fault = is.fault;
        earlier = is.earlier;
        last = is.last;
        there = stay is.earlier doubt is.there;
        legal = is.legal;
      }

  behind-still : (first : List Entry) (a b : List ℕ) → StandsBehind x opening ds first a b →
      StandsBehind x opening es first a b
  behind-still first a b (inl stands) = inl stands
  behind-still first a b (inr (doubt, is, stands)) =
      inr (doubt, in-doubt-still first doubt is, stands)

  -- the history grew
  pub along-more : (log more : List Entry) (a b : List ℕ) → StandsAlong x opening ds log a b →
      StandsAlong x opening es (log ++ more) a b
  along-more log more a b is =
      record {
        first = is.first;
        more = is.more ++ more;
        log_is = ap (λ (l : List Entry). l ++ more) is.log_is ∙ append_assoc is.first is.more more;
        stands = behind-still is.first a b is.stands;
      }

module _ (x : Served) (opening : State) (ds : List (List Entry)) where
  pub along-front : (first more : List Entry) (a b : List ℕ) →
      StandsForState (state_after opening first) a b → StandsAlong x opening ds (first ++ more) a b
  along-front first more a b stands =
      record { first = first; more = more; log_is = refl; stands = inl stands }

  pub along-whole : (log : List Entry) (a b : List ℕ) →
      StandsForState (state_after opening log) a b → StandsAlong x opening ds log a b
  along-whole log a b stands =
      record { first = log; more = []; log_is = sym (append-nil log); stands = inl stands }

  -- with what is in doubt behind all of it
  pub along-doubt : (log doubt : List Entry) (a b : List ℕ) → IsInDoubt x opening ds log doubt →
      StandsForState (state_after opening (log ++ doubt)) a b → StandsAlong x opening ds log a b
  along-doubt log doubt a b is stands =
      record {
        first = log;
        more = [];
        log_is = sym (append-nil log);
        stands = inr (doubt, is, stands);
      }

  -- behind no entries
  none-behind : (first more : List Entry) (a b : List ℕ) → [] ≡ first ++ more →
      StandsBehind x opening ds first a b → StandsForState opening a b
  none-behind [] more a b same (inl stands) = stands
  none-behind [] more a b same (inr (doubt, is, stands)) = absurd (cc is.fault)
  none-behind (e ∷ es) more a b same stands =
      absurd (let never : [] ≡ e ∷ (es ++ more) = same in cc)

  -- no entry can be in doubt behind a history without entries
  pub along-none : (a b : List ℕ) → StandsAlong x opening ds [] a b → StandsForState opening a b
  along-none a b is = none-behind is.first is.more a b is.log_is is.stands

-- ---- a call more

module _ {D : Type 0} (tells : Type 0) (moment : D → ℕ) (left_since : D → ℕ → List ℕ → Type 0)
    (may_leave : D → List ℕ → Type 0) (x : Served) (opened : BookView D) where
  abbrev Kept : BookView D → List Entry → List Entry → List (Mark D) → Type 0
  Kept = IsKeptSince tells moment left_since may_leave x opened

  -- the run of a call whose images stand along the history that it leaves
  pub kept-on : (b c : BookView D) (d e log es : List Entry) (marks more : List (Mark D))
      (P : List ℕ → List ℕ → Type 0) → Kept b d log marks → length more ≡ length es →
      (c.fault ≡ Some Disk → IsInDoubt x opened.state (doubts_in (marks ++ more)) (log ++ es) e) →
      (tells → PairLeavesOnly moment left_since may_leave b.journal.pair c.journal.pair P) →
      ((y z : List ℕ) → P y z →
      StandsAlong x opened.state (doubts_in (marks ++ more)) (log ++ es) y z) →
      Kept c e (log ++ es) (marks ++ more)
  kept-on b c d e log es marks more P kept count now run gives =
      let after : List (List Entry) = doubts_in (marks ++ more) in
      record {
        one_each = length-append marks more ∙ ap (λ n. n + length more) kept.one_each
            ∙ ap (λ n. length log + n) count ∙ sym (length-append log es);
        now = now;
        moments = λ told. pair_goes_on moment left_since may_leave opened.journal.pair
            b.journal.pair c.journal.pair (StandsAlong x opened.state after (log ++ es))
            (pair_weaker moment left_since may_leave opened.journal.pair b.journal.pair
            (StandsAlong x opened.state (doubts_in marks) log)
            (StandsAlong x opened.state after (log ++ es)) (kept.moments told)
            (λ y z is. along-more x opened.state (doubts_in marks) after (doubts-stay marks more)
            log es y z is))
            (pair_weaker moment left_since may_leave b.journal.pair c.journal.pair P
            (StandsAlong x opened.state after (log ++ es)) (run told) gives);
      }

  -- the run of a call that adds nothing
  pub kept-here : (b c : BookView D) (d e log : List Entry) (marks : List (Mark D))
      (P : List ℕ → List ℕ → Type 0) → Kept b d log marks →
      (c.fault ≡ Some Disk → IsInDoubt x opened.state (doubts_in marks) log e) →
      (tells → PairLeavesOnly moment left_since may_leave b.journal.pair c.journal.pair P) →
      ((y z : List ℕ) → P y z → StandsAlong x opened.state (doubts_in marks) log y z) →
      Kept c e log marks
  kept-here b c d e log marks P kept now run gives = record {
    one_each = kept.one_each;
    now = now;
    moments = λ told. pair_goes_on moment left_since may_leave opened.journal.pair
        b.journal.pair c.journal.pair (StandsAlong x opened.state (doubts_in marks) log)
        (kept.moments told)
        (pair_weaker moment left_since may_leave b.journal.pair c.journal.pair P
        (StandsAlong x opened.state (doubts_in marks) log) (run told) gives);
  }
