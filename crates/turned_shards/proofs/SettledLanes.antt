-- A settled shard: which records wait, and what is said of the shard before there was room for
-- them.
use Rattle.std.proofs.Common.{◌≡◌, ◌∙◌, ℕ, max, List, [], inl, inr, Option, Some, None, refl, ap}
use Rattle.std.proofs.Common.{sym, subst}
use Rattle.pcp_base.specs.declared.datagrams.Entry.{Entry}
use Rattle.pcp_base.specs.declared.records.Record.{Record}
use Rattle.journal_sides.specs.declared.errors.JournalFault.{JournalFault}
use Rattle.journal_sides.specs.declared.errors.JournalFault.TheVariants.{Memory}
use Rattle.shard_book.specs.declared.standings.Settled.{Settled}
use Rattle.shard_book.specs.declared.standings.Standing.{Standing}
use Rattle.shard_book.specs.declared.standings.Standing.TheVariants.{Clean, In, Out, Fresh}
use Rattle.shard_book.specs.Books.{BookView}
use Rattle.shard_book.specs.Settlings.{IsIn, KeepsDoubt, Settles, StandingMeans, refused_of}
use Rattle.lease_histories.specs.Legal.{records_of}
use Rattle.turned_shards.specs.declared.marks.Mark.{Mark}
use Rattle.turned_shards.specs.declared.openings.Opening.{Opening}
use Rattle.turned_shards.specs.declared.shards.Shard.{Shard}
use Rattle.turned_shards.specs.BatchEntries.{entries_by, entries_settled, records_found}
use Rattle.turned_shards.specs.Inside.{IsMoved, settled_shard, shard_by}
use Rattle.turned_shards.specs.ShardCalls.{SettlesShard, StaysInDoubt, faults_of}
use Rattle.turned_shards.specs.Shards.{StandsFor}

module _ {D : Type 0} where
  writer-by : (address : Option Record) (standing : Standing) (x : Shard D) →
      (shard_by address standing x).writer ≡ x.writer
  writer-by address Clean x = refl
  writer-by address In x = refl
  writer-by address Out x = refl
  writer-by address (Fresh r) x = refl

  unpushed-by : (address : Option Record) (standing : Standing) (x : Shard D) →
      (shard_by address standing x).unpushed ≡ x.unpushed
  unpushed-by address Clean x = refl
  unpushed-by address In x = refl
  unpushed-by address Out x = refl
  unpushed-by address (Fresh r) x = refl

  book-by : (address : Option Record) (standing : Standing) (x : Shard D) →
      (shard_by address standing x).book ≡ x.book
  book-by address Clean x = refl
  book-by address In x = refl
  book-by address Out x = refl
  book-by address (Fresh r) x = refl

  added-by : (address : Option Record) (standing : Standing) (x : Shard D) → x.added ≡ [] →
      (shard_by address standing x).added ≡ entries_by x.base x.doubt address standing
  added-by address Clean x none = none
  added-by address In x none = refl
  added-by address Out x none = none
  added-by address (Fresh r) x none = refl

  pub settled-writer : (settled : Settled) (x : Shard D) →
      (settled_shard settled x).writer ≡ x.writer
  settled-writer settled x = writer-by settled.address settled.journal x

  pub settled-unpushed : (settled : Settled) (x : Shard D) →
      (settled_shard settled x).unpushed ≡ x.unpushed
  settled-unpushed settled x = unpushed-by settled.address settled.journal x

  found-by : (unsure : List Record) (address : Option Record) (standing : Standing) (x : Shard D) →
      x.added ≡ [] → (standing ≡ In → unsure ≡ records_of x.doubt) →
      records_found unsure address standing ≡ records_of (shard_by address standing x).added
  found-by unsure address Clean x none are = sym (ap (λ (l : List Entry). records_of l) none)
  found-by unsure address In x none are = are refl
  found-by unsure address Out x none are = sym (ap (λ (l : List Entry). records_of l) none)
  found-by unsure None (Fresh r) x none are = refl
  found-by unsure (Some q) (Fresh r) x none are = refl

  module _ (tells : Type 0) (seen : D → List ℕ) (moment : D → ℕ)
      (left_since : D → ℕ → List ℕ → Type 0) (may_leave : D → List ℕ → Type 0)
      (counts : D → ℕ) where
    -- the records of the entries that a settling adds are those that wait
    pub found-records : (o : Opening D) (s : Shard D) (b : BookView D) (log : List Entry) (marks : List (Mark D)) (m : ℕ)
        (unsure : List Record) (settled : Settled) → StandsFor tells seen moment left_since may_leave counts o s log marks →
        s.added ≡ [] →
        Settles tells moment left_since may_leave m s.book b settled → unsure ≡ s.book.unsure →
        records_found unsure settled.address settled.journal
        ≡ records_of (settled_shard settled (record s { book = b })).added
    found-records o s b log marks m unsure settled stands none settles same =
        found-by unsure settled.address settled.journal (record s { book = b }) none (λ «in».
        let is : IsIn (refused_of s.book) b.state settled.address =
        subst (StandingMeans (max m s.book.last) s.book.terms.external.address
        (refused_of s.book) b.state settled.address) «in» settles.means in
        same ∙ sym (stands.doubt is.fault).records)

    -- what a settling did to a shard with room it did to the one before
    pub settles-moved : (now m : ℕ) (s r u : Shard D) (b : BookView D) (settled : Settled) →
        IsMoved s r → s.added ≡ [] → m ≡ max now r.moment →
        Settles tells moment left_since may_leave m r.book b settled →
        u ≡ record (settled_shard settled (record r { book = b })) { unpushed = u.unpushed } →
        SettlesShard tells moment left_since may_leave now s u
    settles-moved now m s r u b settled moved none at settles is =
        let x : Shard D = record r { book = b } in
        let book : u.book ≡ b = ap (λ (y : Shard D). y.book) is
        ∙ book-by settled.address settled.journal x in
        let none' : r.added ≡ [] = ap (λ (y : Shard D). y.added) moved.same ∙ none in
        record {
          settled = settled;
          settles = subst
              (λ (c : BookView D). Settles tells moment left_since may_leave
              (max now s.moment) s.book c settled) (sym book)
              (subst (λ (y : Shard D). Settles tells moment left_since may_leave
              (max now y.moment) y.book b settled) moved.same
              (subst (λ (n : ℕ). Settles tells moment left_since may_leave n r.book b settled)
              at settles));
          added = ap (λ (y : Shard D). y.added) is
              ∙ added-by settled.address settled.journal x none'
              ∙ ap (λ (y : Shard D). entries_settled y.base y.doubt settled) moved.same;
          sure = ap (λ (y : Shard D). y.doubt) is;
        }

    -- the book was asked, and refused
    pub stays-refused : (s r t : Shard D) (b : BookView D) (fault : JournalFault) → IsMoved s r →
        KeepsDoubt tells moment left_since may_leave r.book b →
        t ≡ record r { book = b; added = faults_of r.moment r.base fault } →
        StaysInDoubt tells moment left_since may_leave s t fault
    stays-refused s r t b fault moved keeps is =
        let book : t.book ≡ b = ap (λ (y : Shard D). y.book) is in
        record {
          keeps = inl
              (subst (λ (c : BookView D). KeepsDoubt tells moment left_since may_leave s.book c)
              (sym book)
              (subst (λ (y : Shard D). KeepsDoubt tells moment left_since may_leave y.book b)
              moved.same keeps));
          state = ap (λ (c : BookView D). c.state) book
              ∙ ap (λ (c : BookView D). c.state) keeps.same
              ∙ ap (λ (y : Shard D). y.book.state) moved.same;
          same = is ∙ ap
              (λ (y : Shard D).
              record y { book = b; added = faults_of y.moment y.base fault; unpushed = r.unpushed })
              moved.same
              ∙ ap (λ (y : Shard D).
              record s {
                book = y.book;
                added = faults_of s.moment s.base fault;
                unpushed = y.unpushed;
              }) (sym is);
          waiting = ap (λ (y : Shard D). y.unpushed.items) is ∙ moved.waiting;
        }

    -- there was no memory for what is in doubt
    pub stays-moved : (s t : Shard D) (fault : JournalFault) → fault ≡ Memory → s.added ≡ [] →
        IsMoved s t → StaysInDoubt tells moment left_since may_leave s t fault
    stays-moved s t fault is none moved =
        let book : t.book ≡ s.book = ap (λ (y : Shard D). y.book) moved.same in
        let added : s.added ≡ faults_of s.moment s.base fault = none
        ∙ ap (λ (f : JournalFault). faults_of s.moment s.base f) (sym is) in
        record {
          keeps = inr (is, book);
          state = ap (λ (c : BookView D). c.state) book;
          same = moved.same ∙ ap (λ (l : List Entry). record s { added = l; unpushed = t.unpushed })
              added
              ∙ ap (λ (c : BookView D).
              record s {
                book = c;
                added = faults_of s.moment s.base fault;
                unpushed = t.unpushed;
              }) (sym book);
          waiting = moved.waiting;
        }
