-- A shard stands for its history still, with what a call adds.
use Rattle.std.specs.List.{AllByRecursion, slice_get}
use Rattle.std.specs.Option.{option_map_or}
use Rattle.std.proofs.Common.{◌≡◌, ◌≢◌, ◌∙◌, ℕ, ◌≤◌, ◌<◌, ◌^◌, List, [], ◌∷◌, ◌++◌, true, false}
use Rattle.std.proofs.Common.{Option, Some, None, refl, ap, sym, subst, inl, inr, ◌⊎◌, arith}
use Rattle.std.proofs.Common.{length, ◌+◌, length-append}
use Rattle.std.proofs.lemmas.List.{append-nil, length-map}
use Rattle.pcp_base.specs.declared.datagrams.Entry.{Entry}
use Rattle.pcp_base.specs.declared.records.Record.{Record}
use Rattle.pcp_base.specs.Apply.{apply_all}
use Rattle.pcp_base.specs.States.{State}
use Rattle.lease_disk.specs.Pairs.{PairHasCause, PairLeavesOnly}
use Rattle.lease_store.specs.declared.terms.Terms.{Terms}
use Rattle.lease_store.specs.LeaseTerms.{terms_of}
use Rattle.journal_sides.specs.declared.errors.JournalFault.{JournalFault}
use Rattle.journal_sides.specs.declared.errors.JournalFault.TheVariants.{Disk, Memory}
use Rattle.journal_sides.specs.Journals.{StandsFor as StandsForState, StandsForWithOrWithout}
use Rattle.shard_book.specs.Books.{BookView, IsBook}
use Rattle.lease_histories.specs.Entries.{entry_kind}
use Rattle.lease_histories.specs.Legal.{IsLegal, IsOpening, records_of}
use Rattle.lease_histories.specs.Laws.{FaultsComeNext, NextIsLegal}
use Rattle.turn_lock.specs.Marks.{marks_beside}
use Rattle.turned_shards.specs.declared.marks.Mark.{Mark}
use Rattle.turned_shards.specs.declared.openings.Opening.{Opening}
use Rattle.turned_shards.specs.declared.shards.Shard.{Shard}
use Rattle.turned_shards.specs.BatchEntries.{fault_at}
use Rattle.turned_shards.specs.Crashes.{IsInDoubt, IsKeptSince, StandsAlong, doubts_in}
use Rattle.turned_shards.specs.FaultCounts.{HaveRisenBy, ends_in_fault, fault_count, is_of_fault}
use Rattle.turned_shards.specs.Shards.{LeadsTo, MayCome, StandsFor, mark_of, served_by}
use Rattle.turned_shards.proofs.CrashLemmas.{along-doubt, along-front, along-whole}
use Rattle.turned_shards.proofs.CrashLemmas.{doubt-at-end, kept-here, kept-on}
use Rattle.turned_shards.proofs.Histories.{after-all, after-one, faults-append, last-append}
use Rattle.turned_shards.proofs.Histories.{risen-more, risen-on, state-append}

-- a history with a fault behind it ends in one
ends-fault : (log : List Entry) (m base : ℕ) → ends_in_fault (log ++ fault_at m base ∷ []) ≡ true
ends-fault log m base =
    ap (λ (o : Option Entry). option_map_or (λ (e : Entry). is_of_fault (entry_kind e)) o false)
    (last-append None log (fault_at m base) [])

module _ {D : Type 0} where
  -- the mark of a shard with this book and these in doubt
  abbrev pub mark_by : BookView D → List Entry → Mark D
  mark_by b doubt = record { pair = b.journal.pair; doubt = doubt }

  -- the same history leads to a shard of the same state, moment and base
  pub leads-same : (o : Opening D) (s t : Shard D) (log : List Entry) → LeadsTo o s log →
      t.book.state ≡ s.book.state → t.moment ≡ s.moment → t.base ≡ s.base → LeadsTo o t log
  leads-same o s t log leads a b c =
      record {
        legal = leads.legal;
        state = leads.state ∙ sym a;
        moment = leads.moment
            ∙ sym b;
        base = leads.base ∙ sym c;
      }

  -- what was in doubt is so still
  pub may-come-still : (o : Opening D) (s t : Shard D) → MayCome o s → t.book.state ≡ s.book.state →
      t.book.unsure ≡ s.book.unsure → t.moment ≡ s.moment → t.base ≡ s.base → t.doubt ≡ s.doubt →
      t.doubt_moment ≡ s.doubt_moment → t.doubt_base ≡ s.doubt_base → MayCome o t
  may-come-still o s t may state unsure moment base doubt m b =
      record {
        some = λ none. may.some (sym doubt ∙ none);
        next = λ log leads. subst
            (λ (es : List Entry). IsLegal (served_by o) o.book.state (log ++ es)) (sym doubt)
            (may.next log (leads-same o t s log leads (sym state) (sym moment) (sym base)));
        records = ap records_of doubt ∙ may.records ∙ sym unsure;
        at = subst (λ (es : List Entry). AllByRecursion
            (λ (e : Entry). (e.moment ≡ t.doubt_moment) × (e.base ≡ t.doubt_base)) es) (sym doubt)
            (subst (λ (k : ℕ). AllByRecursion
            (λ (e : Entry). (e.moment ≡ k) × (e.base ≡ t.doubt_base)) s.doubt) (sym m)
            (subst (λ (k : ℕ). AllByRecursion
            (λ (e : Entry). (e.moment ≡ s.doubt_moment) × (e.base ≡ k)) s.doubt)
            (sym b) may.at));
        no_faults = ap fault_count doubt ∙ may.no_faults;
        in_range = (let p = may.in_range in omega arith);
        later = (let p = may.later in omega arith);
      }

  -- the entries in doubt have come
  pub leads-in : (o : Opening D) (s t : Shard D) (log : List Entry) → LeadsTo o s log →
      MayCome o s → t.book.state ≡ apply_all s.book.state s.book.unsure →
      t.moment ≡ s.doubt_moment → t.base ≡ s.doubt_base → LeadsTo o t (log ++ s.doubt)
  leads-in o s t log leads may state moment base =
      let after = after-all o.book.state log s.doubt s.doubt_moment s.doubt_base may.some may.at in
      record {
        legal = may.next log leads;
        state = state-append o.book.state log s.doubt
            ∙ ap (λ (u : State). apply_all u (records_of s.doubt)) leads.state
            ∙ ap (λ (rs : List Record). apply_all s.book.state rs) may.records ∙ sym state;
        moment = after.0 ∙ sym moment;
        base = after.1 ∙ sym base;
      }

  -- a fault stands behind the history, and leads to the same
  pub leads-fault : NextIsLegal → FaultsComeNext →
      (o : Opening D) (s t : Shard D) (log : List Entry) → IsOpening (served_by o) o.book.state →
      LeadsTo o s log → t.book.state ≡ s.book.state →
      t.moment ≡ s.moment → t.base ≡ s.base → LeadsTo o t (log ++ fault_at s.moment s.base ∷ [])
  leads-fault next faults o s t log opening leads state moment base =
      let e : Entry = fault_at s.moment s.base in
      let after = after-one o.book.state log e in
      record {
        legal = next (served_by o) o.book.state log e leads.legal
            (faults (served_by o) o.book.state log e opening leads.legal refl (sym leads.moment)
            (sym leads.base));
        state = state-append o.book.state log (e ∷ []) ∙ leads.state ∙ sym state;
        moment = after.0 ∙ sym moment;
        base = after.1 ∙ sym base;
      }

  -- what StandsFor says but of the lane
  pub record Holds (tells : Type 0) (seen : D → List ℕ) (moment : D → ℕ)
      (left_since : D → ℕ → List ℕ → Type 0) (may_leave : D → List ℕ → Type 0)
      (counts : D → ℕ) (o : Opening D) (s : Shard D) (log : List Entry) (marks : List (Mark D)) : Type 0 where
    pub opening : IsOpening (served_by o) o.book.state
    pub terms : s.book.terms ≡ terms_of (served_by o).external o.config
    pub address : s.address ≡ s.book.terms.external.address
    pub book : IsBook tells seen may_leave s.book
    pub leads : LeadsTo o s log
    pub in_range : s.moment < 2 ^ 40
    pub later : s.book.last ≤ s.moment
    pub doubt : s.book.fault ≡ Some Disk → MayCome o s
    pub sure : s.book.fault ≢ Some Disk → s.doubt ≡ []
    pub failed : s.book.fault ≡ Some Disk → ends_in_fault log ≡ true
    pub risen : HaveRisenBy counts o.book.journal.pair s.book.journal.pair (fault_count log)
    pub kept : IsKeptSince tells moment left_since may_leave (served_by o) o.book s.book s.doubt log marks

  module _ (tells : Type 0) (seen : D → List ℕ) (moment : D → ℕ)
      (left_since : D → ℕ → List ℕ → Type 0) (may_leave : D → List ℕ → Type 0)
      (counts : D → ℕ) where
    abbrev Stands : Opening D → Shard D → List Entry → List (Mark D) → Type 0
    Stands = StandsFor tells seen moment left_since may_leave counts

    abbrev Held : Opening D → Shard D → List Entry → List (Mark D) → Type 0
    Held = Holds tells seen moment left_since may_leave counts

    abbrev Kept : Opening D → BookView D → List Entry → List Entry → List (Mark D) → Type 0
    Kept o = IsKeptSince tells moment left_since may_leave (served_by o) o.book

    -- a call of the book that left the state, or that with these records
    abbrev Ran : Shard D → BookView D → List Record → Type 0
    Ran s b records = tells → PairLeavesOnly moment left_since may_leave s.book.journal.pair
        b.journal.pair (StandsForWithOrWithout s.book.state records)

    -- the entries added were noted
    pub stands-noted : (o : Opening D) (s : Shard D) (log : List Entry) (marks : List (Mark D)) → Stands o s log marks →
        Stands o (record s { added = [] }) log marks
    stands-noted o s log marks stands =
        record {
          opening = stands.opening;
          terms = stands.terms;
          address = stands.address;
          book = stands.book;
          leads = leads-same o s (record s { added = [] }) log stands.leads refl refl refl;
          in_range = stands.in_range;
          later = stands.later;
          doubt = λ failed. may-come-still o s (record s { added = [] })
              (stands.doubt failed) refl refl refl refl refl refl refl;
          sure = stands.sure;
          failed = stands.failed;
          risen = stands.risen;
          indexed = record {
            index = stands.indexed.index;
            opening = stands.indexed.opening;
            leases = stands.indexed.leases;
            records = stands.indexed.records;
            noted = s.unpushed.items;
            unnoted = sym (append-nil s.unpushed.items);
          };
          kept = stands.kept;
        }

    -- nothing is added, and the history leads to the same
    pub stands-still : (o : Opening D) (s t : Shard D) (log : List Entry) (marks : List (Mark D)) (F : Type 0) →
        Stands o s log marks → t.book.state ≡ s.book.state → t.book.terms ≡ s.book.terms →
        IsBook tells seen may_leave t.book →
        PairHasCause counts s.book.journal.pair t.book.journal.pair F → t.moment ≡ s.moment →
        t.base ≡ s.base → t.address ≡ s.address → t.book.last ≤ t.moment →
        (t.book.fault ≡ Some Disk → MayCome o t) → (t.book.fault ≢ Some Disk → t.doubt ≡ []) →
        (t.book.fault ≡ Some Disk → ends_in_fault log ≡ true) → Kept o t.book t.doubt log marks →
        Held o t (log ++ []) (marks ++ [])
    stands-still o s t log marks F stands state terms book cause at base address later doubt sure
        failed kept =
        subst (Held o t (log ++ [])) (sym (append-nil marks))
        (subst (λ (l : List Entry). Held o t l marks) (sym (append-nil log)) (record {
          opening = stands.opening;
          terms = terms ∙ stands.terms;
          address = address ∙ stands.address ∙ ap (λ (k : Terms). k.external.address) (sym terms);
          book = book;
          leads = leads-same o s t log stands.leads state at base;
          in_range = (let p = stands.in_range in omega arith);
          later = later;
          doubt = doubt;
          sure = sure;
          failed = failed;
          risen = risen-on counts o.book.journal.pair s.book.journal.pair t.book.journal.pair
              (fault_count log) F stands.risen cause;
          kept = kept;
        }))

    -- a fault is added
    pub stands-fault : NextIsLegal → FaultsComeNext →
        (o : Opening D) (s t : Shard D) (log : List Entry) (marks : List (Mark D)) (F : Type 0) → F → Stands o s log marks →
        t.book.state ≡ s.book.state → t.book.terms ≡ s.book.terms →
        IsBook tells seen may_leave t.book →
        PairHasCause counts s.book.journal.pair t.book.journal.pair F → t.moment ≡ s.moment →
        t.base ≡ s.base → t.address ≡ s.address → t.book.last ≤ t.moment →
        (t.book.fault ≡ Some Disk → MayCome o t) → (t.book.fault ≢ Some Disk → t.doubt ≡ []) →
        Kept o t.book t.doubt (log ++ fault_at s.moment s.base ∷ []) (marks ++ mark_of t ∷ []) →
        Held o t (log ++ fault_at s.moment s.base ∷ []) (marks ++ mark_of t ∷ [])
    stands-fault next faults o s t log marks F failed stands state terms book cause at base address
        later doubt sure kept =
        record {
          opening = stands.opening;
          terms = terms ∙ stands.terms;
          address = address ∙ stands.address ∙ ap (λ (k : Terms). k.external.address) (sym terms);
          book = book;
          leads = leads-fault next faults o s t log stands.opening stands.leads state at base;
          in_range = (let p = stands.in_range in omega arith);
          later = later;
          doubt = doubt;
          sure = sure;
          failed = λ _. ends-fault log s.moment s.base;
          risen = subst (HaveRisenBy counts o.book.journal.pair t.book.journal.pair)
              (sym (faults-append log (fault_at s.moment s.base ∷ [])))
              (risen-more counts o.book.journal.pair s.book.journal.pair t.book.journal.pair
              (fault_count log) F failed stands.risen cause);
          kept = kept;
        }

    -- entries that are no faults are added
    pub stands-with : (o : Opening D) (s t : Shard D) (log : List Entry) (marks : List (Mark D)) (es : List Entry) (F : Type 0) →
        Stands o s log marks → LeadsTo o t (log ++ es) → fault_count es ≡ 0 →
        t.book.terms ≡ s.book.terms → t.address ≡ s.address →
        IsBook tells seen may_leave t.book →
        PairHasCause counts s.book.journal.pair t.book.journal.pair F → t.moment < 2 ^ 40 →
        t.book.last ≤ t.moment →
        t.book.fault ≡ None → t.doubt ≡ [] →
        Kept o t.book t.doubt (log ++ es) (marks ++ marks_beside (mark_of t) es) →
        Held o t (log ++ es) (marks ++ marks_beside (mark_of t) es)
    stands-with o s t log marks es F stands leads none terms address book cause in_range later settled
        sure kept =
        let all : fault_count (log ++ es) ≡ fault_count log =
        (let p = faults-append log es in omega arith) in
        record {
          opening = stands.opening;
          terms = terms ∙ stands.terms;
          address = address ∙ stands.address ∙ ap (λ (k : Terms). k.external.address) (sym terms);
          book = book;
          leads = leads;
          in_range = in_range;
          later = later;
          doubt = λ failed. absurd cc;
          sure = λ _. sure;
          failed = λ failed. absurd cc;
          risen = subst (HaveRisenBy counts o.book.journal.pair t.book.journal.pair) (sym all)
              (risen-on counts o.book.journal.pair s.book.journal.pair t.book.journal.pair
              (fault_count log) F stands.risen cause);
          kept = kept;
        }

    -- ---- what a crash leaves

    -- what is in doubt, by its records
    pub unsure-by : (o : Opening D) (s : Shard D) (log : List Entry) (marks : List (Mark D)) → Stands o s log marks →
        (f : Option JournalFault) → s.book.fault ≡ f → records_of s.doubt ≡ s.book.unsure
    unsure-by o s log marks stands (Some Disk) h = (stands.doubt h).records
    unsure-by o s log marks stands (Some Memory) h =
        let other : s.book.fault ≢ Some Disk = λ failed. absurd (cc (h, failed)) in
        ap records_of (stands.sure other) ∙ sym (stands.book.sure other)
    unsure-by o s log marks stands None h =
        let other : s.book.fault ≢ Some Disk = λ failed. absurd (cc (h, failed)) in
        ap records_of (stands.sure other) ∙ sym (stands.book.sure other)

    -- a fault, and what is in doubt behind it
    pub doubt-legal : NextIsLegal → FaultsComeNext → (o : Opening D) (s : Shard D)
        (log : List Entry) (marks : List (Mark D)) → Stands o s log marks → (f : Option JournalFault) → s.book.fault ≡ f →
        IsLegal (served_by o) o.book.state ((log ++ fault_at s.moment s.base ∷ []) ++ s.doubt)
    doubt-legal next faults o s log marks stands f h = by f h
      where
        whole : List Entry
        whole = log ++ fault_at s.moment s.base ∷ []

        leads : LeadsTo o s whole
        leads = leads-fault next faults o s s log stands.opening stands.leads refl refl refl

        none : s.doubt ≡ [] → IsLegal (served_by o) o.book.state (whole ++ s.doubt)
        none sure = subst (λ (d : List Entry). IsLegal (served_by o) o.book.state (whole ++ d))
            (sym sure)
            (subst (IsLegal (served_by o) o.book.state) (sym (append-nil whole)) leads.legal)

        by : (g : Option JournalFault) → s.book.fault ≡ g →
            IsLegal (served_by o) o.book.state (whole ++ s.doubt)
        by (Some Disk) same = (stands.doubt same).next whole leads
        by (Some Memory) same = none (stands.sure (λ failed. absurd (cc (same, failed))))
        by None same = none (stands.sure (λ failed. absurd (cc (same, failed))))

    -- no records were in doubt, or those behind the whole history
    pub unsure-how : (o : Opening D) (s : Shard D) (log : List Entry) (marks : List (Mark D)) → Stands o s log marks →
        (f : Option JournalFault) → s.book.fault ≡ f →
        (s.book.unsure ≡ []) ⊎ ((s.book.fault ≡ Some Disk) × (s.book.unsure ≡ s.book.unsure))
    unsure-how o s log marks stands (Some Disk) h = inr (h, refl)
    unsure-how o s log marks stands (Some Memory) h =
        inl (stands.book.sure (λ failed. absurd (cc (h, failed))))
    unsure-how o s log marks stands None h =
        inl (stands.book.sure (λ failed. absurd (cc (h, failed))))

    -- entries that are no faults come in, or don't
    pub kept-with : (o : Opening D) (s : Shard D) (b : BookView D) (log : List Entry) (marks : List (Mark D)) (es : List Entry)
        (records : List Record) → Stands o s log marks → records_of es ≡ records → fault_count es ≡ 0 →
        b.fault ≡ None → Ran s b records →
        Kept o b [] (log ++ es) (marks ++ marks_beside (mark_by b []) es)
    kept-with o s b log marks es records stands same none settled run =
        kept-on tells moment left_since may_leave (served_by o) o.book s.book b s.doubt [] log es
        marks (marks_beside (mark_by b []) es) (StandsForWithOrWithout s.book.state records)
        stands.kept
        (length-map es (λ (e : Entry). mark_by b []))
        (λ failed. absurd (cc (failed, settled))) run gives
      where
        gives : (y z : List ℕ) → StandsForWithOrWithout s.book.state records y z →
            StandsAlong (served_by o) o.book.state
            (doubts_in (marks ++ marks_beside (mark_by b []) es)) (log ++ es) y z
        gives y z (inl left) =
            along-front (served_by o) o.book.state
            (doubts_in (marks ++ marks_beside (mark_by b []) es)) log es y z
            (subst (λ (u : State). StandsForState u y z) (sym stands.leads.state) left)
        gives y z (inr left) =
            along-whole (served_by o) o.book.state
            (doubts_in (marks ++ marks_beside (mark_by b []) es)) (log ++ es) y z
            (subst (λ (u : State). StandsForState u y z)
            (sym (state-append o.book.state log es
            ∙ ap (λ (u : State). apply_all u (records_of es)) stands.leads.state
            ∙ ap (λ (rs : List Record). apply_all s.book.state rs) same)) left)

    -- a fault is told, and these entries are in doubt behind it
    pub kept-refused : (o : Opening D) (s : Shard D) (b : BookView D) (log : List Entry) (marks : List (Mark D)) (doubt : List Entry)
        (records : List Record) → Stands o s log marks →
        IsLegal (served_by o) o.book.state ((log ++ fault_at s.moment s.base ∷ []) ++ doubt) →
        records_of doubt ≡ records → Ran s b records →
        Kept o b doubt (log ++ fault_at s.moment s.base ∷ []) (marks ++ mark_by b doubt ∷ [])
    kept-refused o s b log marks doubt records stands legal same run =
        kept-on tells moment left_since may_leave (served_by o) o.book s.book b s.doubt doubt log
        (fault_at s.moment s.base ∷ []) marks (mark_by b doubt ∷ []) (StandsForWithOrWithout s.book.state records)
        stands.kept refl (λ failed. is) run gives
      where
        is : IsInDoubt (served_by o) o.book.state (doubts_in (marks ++ mark_by b doubt ∷ []))
            (log ++ fault_at s.moment s.base ∷ []) doubt
        is = record {
          fault = ends-fault log s.moment s.base;
          earlier = length log;
          last = length-append log (fault_at s.moment s.base ∷ []);
          there = subst (λ (n : ℕ).
              slice_get (doubts_in (marks ++ mark_by b doubt ∷ [])) n ≡ Some doubt)
              stands.kept.one_each (doubt-at-end marks (mark_by b doubt));
          legal = legal;
        }

        gives : (y z : List ℕ) → StandsForWithOrWithout s.book.state records y z →
            StandsAlong (served_by o) o.book.state (doubts_in (marks ++ mark_by b doubt ∷ []))
            (log ++ fault_at s.moment s.base ∷ []) y z
        gives y z (inl left) =
            along-front (served_by o) o.book.state (doubts_in (marks ++ mark_by b doubt ∷ [])) log
            (fault_at s.moment s.base ∷ []) y z
            (subst (λ (u : State). StandsForState u y z) (sym stands.leads.state) left)
        gives y z (inr left) =
            along-doubt (served_by o) o.book.state (doubts_in (marks ++ mark_by b doubt ∷ []))
            (log ++ fault_at s.moment s.base ∷ []) doubt y z is
            (subst (λ (u : State). StandsForState u y z)
            (sym (state-append o.book.state (log ++ fault_at s.moment s.base ∷ []) doubt
            ∙ ap (λ (u : State). apply_all u (records_of doubt))
            (state-append o.book.state log (fault_at s.moment s.base ∷ []) ∙ stands.leads.state)
            ∙ ap (λ (rs : List Record). apply_all s.book.state rs) same)) left)

    -- nothing is added: the records, if any, are those that were in doubt
    pub kept-still : (o : Opening D) (s : Shard D) (b : BookView D) (log : List Entry)
        (marks : List (Mark D)) (doubt : List Entry) (records : List Record) →
        (stands : Stands o s log marks) →
        (b.fault ≡ Some Disk → IsInDoubt (served_by o) o.book.state (doubts_in marks) log doubt) →
        (records ≡ []) ⊎ ((s.book.fault ≡ Some Disk) × (records ≡ s.book.unsure)) →
        Ran s b records → Kept o b doubt log marks
    kept-still o s b log marks doubt records stands now how run =
        kept-here tells moment left_since may_leave (served_by o) o.book s.book b s.doubt doubt log
        marks (StandsForWithOrWithout s.book.state records) stands.kept now run
        (λ y z left. by y z how left)
      where
        by : (y z : List ℕ) →
            (records ≡ []) ⊎ ((s.book.fault ≡ Some Disk) × (records ≡ s.book.unsure)) →
            StandsForWithOrWithout s.book.state records y z →
            StandsAlong (served_by o) o.book.state (doubts_in marks) log y z
        by y z which (inl left) =
            along-whole (served_by o) o.book.state (doubts_in marks) log y z
            (subst (λ (u : State). StandsForState u y z) (sym stands.leads.state) left)
        by y z (inl none) (inr left) =
            along-whole (served_by o) o.book.state (doubts_in marks) log y z
            (subst (λ (u : State). StandsForState u y z) (sym stands.leads.state)
            (subst (λ (rs : List Record). StandsForState (apply_all s.book.state rs) y z) none left))
        by y z (inr (failed, same)) (inr left) =
            along-doubt (served_by o) o.book.state (doubts_in marks) log s.doubt y z
            (stands.kept.now failed)
            (subst (λ (u : State). StandsForState u y z)
            (sym (state-append o.book.state log s.doubt
            ∙ ap (λ (u : State). apply_all u (records_of s.doubt)) stands.leads.state
            ∙ ap (λ (rs : List Record). apply_all s.book.state rs)
            ((stands.doubt failed).records ∙ sym same))) left)
