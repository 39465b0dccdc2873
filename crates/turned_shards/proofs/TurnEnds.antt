-- A book goes behind a turn, and is taken out for good.
use Rattle.std.specs.Option.{option_map}
use Rattle.std.proofs.Common.{◌≡◌, ◌≢◌, ◌∙◌, ℕ, List, [], ◌++◌, Option, Some, None, inl, inr, refl}
use Rattle.std.proofs.Common.{ap, sym, subst, append_assoc, arith}
use mathlib.Core.List.{IsPrefix}
use Rattle.pcp_base.specs.declared.addresses.Address.{Address}
use Rattle.pcp_base.specs.declared.configs.Config.{Config}
use Rattle.pcp_base.specs.declared.configs.External.{External}
use Rattle.pcp_base.specs.declared.datagrams.Entry.{Entry}
use Rattle.pcp_base.specs.declared.records.Record.{Record}
use Rattle.pcp_base.specs.Apply.{apply_all}
use Rattle.pcp_base.specs.States.{State}
use Rattle.lease_disk.specs.Pairs.{HoldsNow}
use Rattle.lease_disk.proofs.PairLemmas.{pair_started, pair_weaker}
use Rattle.journal_sides.specs.declared.errors.JournalFault.{JournalFault}
use Rattle.journal_sides.specs.declared.errors.JournalFault.TheVariants.{Disk, Memory}
use Rattle.journal_sides.specs.Journals.{StandsFor as StandsForState, StandsForWithOrWithout}
use Rattle.lane_index.specs.Lanes.{LaneKnowledge, WriterKnowledge}
use Rattle.shard_book.specs.Books.{BookView}
use Rattle.lease_histories.specs.Legal.{records_of, state_after}
use Rattle.lease_histories.specs.Laws.{NothingIsLegal}
use Rattle.turned_shards.specs.declared.marks.Mark.{Mark}
use Rattle.turned_shards.specs.declared.openings.Opening.{Opening}
use Rattle.turned_shards.specs.declared.shards.Shard.{Shard}
use Rattle.turned_shards.specs.Crashes.{StandsAlong, doubts_in}
use Rattle.turned_shards.specs.Inside.{fresh_shard}
use Rattle.turned_shards.specs.Shards.{StandsFor, served_by}
use Rattle.turned_shards.specs.Turnings.{KnowsFirst, MayBegin, StandsStill, first_lane}
use Rattle.turned_shards.specs.Turnings.{first_writer, opening_of}
use Rattle.turned_shards.proofs.CrashLemmas.{along-none, along-whole}
use Rattle.turned_shards.proofs.Standing.{unsure-by}

-- the address at a place
pub named-by : (o : Option External) (x : External) (a : Address) →
    option_map {U = Address} (λ (y : External). y.address) o ≡ Some a → o ≡ Some x → a ≡ x.address
named-by None x a h at = absurd cc
named-by (Some y) x a h at =
    let same : y ≡ x = cc in
    let is : y.address ≡ a = cc in
    sym is ∙ ap (λ (z : External). z.address) same

module _ {D : Type 0} (tells : Type 0) (seen : D → List ℕ) (moment : D → ℕ)
    (left_since : D → ℕ → List ℕ → Type 0) (may_leave : D → List ℕ → Type 0)
    (counts : D → ℕ) where
  -- nothing was published yet, and there is no record
  no-records : (w : WriterKnowledge) (waiting : List Record) → w.published ≡ [] → w.pending ≡ [] →
      waiting ≡ [] → (w.published ++ w.pending) ++ waiting ≡ []
  no-records w waiting published pending none =
      ap (λ (rs : List Record). (rs ++ w.pending) ++ waiting) published
      ∙ ap (λ (rs : List Record). rs ++ waiting) pending ∙ none

  or-without : (u v : State) (rs : List Record) (x y : List ℕ) → u ≡ v → rs ≡ [] →
      StandsForWithOrWithout u rs x y → StandsForState v x y
  or-without u v rs x y same none (inl stands) =
      subst (λ (w : State). StandsForState w x y) same stands
  or-without u v rs x y same none (inr stands) =
      subst (λ (w : State). StandsForState w x y) same
      (subst (λ (ks : List Record). StandsForState (apply_all u ks) x y) none stands)

  -- a book that was just opened stands for a history without entries
  pub stands-new : NothingIsLegal →
      (config : Config) (place : ℕ) (address : Address) (book : BookView D)
      (writer : WriterKnowledge) (lane : LaneKnowledge) (s : Shard D) →
      address ≡ book.terms.external.address →
      MayBegin tells seen may_leave config place book → writer ≡ first_writer lane book →
      lane ≡ first_lane writer book → s.unpushed.items ≡ [] →
      StandsFor tells seen moment left_since may_leave counts (opening_of config place book lane)
      (fresh_shard address book writer s) [] []
  stands-new nothing config place address book writer lane s named may writer_is lane_is waiting =
      let o : Opening D = opening_of config place book lane in
      let none : book.fault ≡ None = may.settled in
      record {
        opening = record {
          config = may.config_is;
          there = may.there;
          reached = may.is.reached;
          started = may.is.started;
        };
        terms = may.terms;
        address = named;
        book = may.is;
        leads = record {
          legal = nothing (served_by o) book.state;
          state = refl;
          moment = sym may.last;
          base = refl;
        };
        in_range = may.is.last;
        later = omega arith;
        doubt = λ failed. absurd (cc (failed, none));
        sure = λ _. refl;
        failed = λ failed. absurd (cc (failed, none));
        risen = record { later_a = omega arith; later_b = omega arith; by = λ a b. omega arith };
        indexed = record {
          index = ap (λ (k : WriterKnowledge). k.index) writer_is;
          opening = ap (λ (k : WriterKnowledge). k.opening) writer_is
              ∙ sym (ap (λ (k : LaneKnowledge). k.opening) lane_is);
          leases = ap (λ (k : LaneKnowledge). k.opening) lane_is;
          records = no-records writer s.unpushed.items
              (ap (λ (k : WriterKnowledge). k.published) writer_is)
              (ap (λ (k : WriterKnowledge). k.pending) writer_is) waiting;
          noted = [];
          unnoted = waiting;
        };
        kept = record {
          one_each = refl;
          now = λ failed. absurd (cc (failed, none));
          moments = λ told. pair_started moment left_since may_leave book.journal.pair
              (StandsAlong (served_by o) book.state [] [])
              (λ x y left_a left_b. along-whole (served_by o) book.state [] [] x y
              (or-without book.state book.state book.unsure x y refl
              (may.is.sure (λ failed. absurd (cc (failed, none))))
              (may.is.images told x y left_a left_b)));
        };
      }

  -- what a crash leaves
  pub images-of : (o : Opening D) (s : Shard D) (log : List Entry) (marks : List (Mark D)) →
      StandsFor tells seen moment left_since may_leave counts o s log marks → tells →
      HoldsNow may_leave
      (StandsForWithOrWithout (state_after o.book.state log) (records_of s.doubt))
      s.book.journal.pair
  images-of o s log marks stands told =
      subst (λ (u : State). HoldsNow may_leave (StandsForWithOrWithout u (records_of s.doubt))
      s.book.journal.pair) (sym stands.leads.state)
      (subst (λ (rs : List Record). HoldsNow may_leave
      (StandsForWithOrWithout s.book.state rs) s.book.journal.pair)
      (sym (unsure-by tells seen moment left_since may_leave counts o s log marks stands s.book.fault
      refl)) (stands.book.images told))

  -- what begins the records that were pushed begins those of the history
  pub knows-first : (o : Opening D) (s : Shard D) (log : List Entry) (marks : List (Mark D)) (lane : LaneKnowledge) →
      StandsFor tells seen moment left_since may_leave counts o s log marks → lane.index ≡ o.lane.index →
      lane.opening ≡ s.writer.opening → IsPrefix lane.known (s.writer.published ++ s.writer.pending) →
      KnowsFirst o log lane
  knows-first o s log marks lane stands index opening known = record {
    index = index;
    opening = opening ∙ stands.indexed.opening ∙ stands.indexed.leases;
    known = (
      known.0 ++ s.unpushed.items,
      sym (append_assoc lane.known known.0 s.unpushed.items)
          ∙ ap (λ (rs : List Record). rs ++ s.unpushed.items) known.1 ∙ stands.indexed.records,
    );
  }

  -- nothing is in doubt behind a history without entries
  none-unsure : (o : Opening D) (s : Shard D) (marks : List (Mark D)) →
      StandsFor tells seen moment left_since may_leave counts o s [] marks →
      s.book.unsure ≡ []
  none-unsure o s marks stands = stands.book.sure (λ failed. absurd (cc (stands.failed failed)))

  -- what stands for a history without entries has the state that was opened
  pub still-of : (o : Opening D) (s : Shard D) (marks : List (Mark D)) →
      StandsFor tells seen moment left_since may_leave counts o s [] marks →
      StandsStill tells moment left_since may_leave counts o.book s.book
  still-of o s marks stands = record {
    state = sym stands.leads.state;
    images = λ told x y leaves_a leaves_b. or-without s.book.state o.book.state s.book.unsure x y
        (sym stands.leads.state) (none-unsure o s marks stands)
        (stands.book.images told x y leaves_a leaves_b);
    moments = λ told. pair_weaker moment left_since may_leave o.book.journal.pair
        s.book.journal.pair (StandsAlong (served_by o) o.book.state (doubts_in marks) [])
        (StandsForState o.book.state) (stands.kept.moments told)
        (along-none (served_by o) o.book.state (doubts_in marks));
    later_a = stands.risen.later_a;
    later_b = stands.risen.later_b;
  }
