-- A shard stands for its history with the entries of a call, or with a fault and these in doubt.
use Rattle.std.specs.Prelude.{IsSome}
use Rattle.std.specs.List.{AllByRecursion, cons_option}
use Rattle.std.proofs.Common.{◌≡◌, ◌≢◌, ◌∙◌, ℕ, ◌≤◌, ◌<◌, ◌^◌, max, List, [], ◌∷◌, ◌++◌, inl, inr}
use Rattle.std.proofs.Common.{length, map, Option, Some, None, refl, ap, sym, subst, arith}
use Rattle.pcp_base.specs.declared.asks.Ask.{Ask}
use Rattle.pcp_base.specs.declared.configs.Config.{Config}
use Rattle.pcp_base.specs.declared.datagrams.Datagram.{Datagram}
use Rattle.pcp_base.specs.declared.datagrams.Entry.{Entry}
use Rattle.pcp_base.specs.declared.records.Change.TheVariants.{Lose}
use Rattle.pcp_base.specs.declared.records.Record.{Record}
use Rattle.pcp_base.specs.States.{State}
use Rattle.lease_disk.specs.Pairs.{PairHasCause}
use Rattle.lease_store.specs.declared.terms.Terms.{Terms}
use Rattle.lease_store.specs.LeaseTerms.{terms_of}
use Rattle.journal_sides.specs.declared.errors.JournalFault.{JournalFault}
use Rattle.journal_sides.specs.declared.errors.JournalFault.TheVariants.{Disk, Memory}
use Rattle.shard_book.specs.declared.batches.Answered.{Answered}
use Rattle.shard_book.specs.Batches.{answers_at, decide_all, records_kept}
use Rattle.shard_book.specs.Books.{BookView, IsBook}
use Rattle.shard_book.specs.Keepings.{Doubts, IsRefused, Keeps, Loses, Serves, batch_answers}
use Rattle.shard_book.specs.Keepings.{batch_records, lose_records}
use Rattle.lease_histories.specs.Entries.{Request, request_of}
use Rattle.lease_histories.specs.Laws.{Comes, DecisionsComeNext, FaultsComeNext, NextIsLegal}
use Rattle.lease_histories.specs.Laws.{ServersComeNext}
use Rattle.lease_histories.specs.Routes.{route_of}
use Rattle.turn_lock.specs.Marks.{marks_beside}
use Rattle.turned_shards.specs.declared.marks.Mark.{Mark}
use Rattle.turned_shards.specs.declared.openings.Opening.{Opening}
use Rattle.turned_shards.specs.declared.shards.Shard.{Shard}
use Rattle.turned_shards.specs.BatchEntries.{Asked, IsAskedOf, asked_by, asked_in, entries_along}
use Rattle.turned_shards.specs.BatchEntries.{fault_at, loss_at}
use Rattle.turned_shards.specs.Inside.{asked_shard, come_in_shard, left_shard}
use Rattle.turned_shards.specs.ShardCalls.{doubted, faults_of}
use Rattle.turned_shards.specs.Shards.{LeadsTo, MayCome, StandsFor, served_by}
use Rattle.turned_shards.proofs.Answering.{AreComing, along-at, along-legal, along-no-faults}
use Rattle.turned_shards.proofs.Answering.{along-records}
use Rattle.turned_shards.proofs.Standing.{Holds, kept-refused, kept-still, kept-with, leads-fault}
use Rattle.turned_shards.proofs.Standing.{mark_by}
use Rattle.turned_shards.proofs.Standing.{leads-in, leads-same, may-come-still, stands-fault}
use Rattle.turned_shards.proofs.Standing.{stands-still, stands-with}

module _ {D : Type 0} where
  -- the shard with entries in doubt whose records may be in the journal
  abbrev pub pending : List Entry → ℕ → ℕ → List Record → Shard D → Shard D
  pending es m base records s =
      record (asked_shard es m base s) { book = record s.book { unsure = records } }

  module _ (tells : Type 0) (seen : D → List ℕ) (moment : D → ℕ)
      (left_since : D → ℕ → List ℕ → Type 0) (may_leave : D → List ℕ → Type 0)
      (counts : D → ℕ) where
    -- the records are kept: the entries have come
    pub keeps-shard : (o : Opening D) (s : Shard D) (b : BookView D) (log : List Entry) (marks : List (Mark D)) (es : List Entry)
        (m base at : ℕ) (records : List Record) (F : Type 0) →
        StandsFor tells seen moment left_since may_leave counts o s log marks →
        MayCome o (pending es m base records s) →
        Keeps tells moment left_since may_leave at records s.book b → at ≤ m →
        IsBook tells seen may_leave b →
        PairHasCause counts s.book.journal.pair b.journal.pair F →
        Holds tells seen moment left_since may_leave counts o
        (record (come_in_shard (asked_shard es m base s)) { book = b }) (log ++ es)
        (marks ++ marks_beside (mark_by b []) es)
    keeps-shard o s b log marks es m base at records F stands may keeps early book cause =
        let p : Shard D = pending es m base records s in
        let t : Shard D = record (come_in_shard (asked_shard es m base s)) { book = b } in
        let leads : LeadsTo o t (log ++ es) = leads-in o p t log
        (leads-same o s p log stands.leads refl refl refl) may keeps.state refl refl in
        let last : b.last ≡ at = keeps.last in
        stands-with tells seen moment left_since may_leave counts o s t log marks es F stands leads may.no_faults
        keeps.terms refl book cause may.in_range (omega arith) keeps.fault refl
        (kept-with tells seen moment left_since may_leave counts o s b log marks es records stands
        may.records may.no_faults keeps.fault keeps.moments)

    -- the call was refused: they may be there
    pub doubts-shard : NextIsLegal → FaultsComeNext →
        (o : Opening D) (s : Shard D) (b : BookView D) (log : List Entry) (marks : List (Mark D)) (es : List Entry) (m base : ℕ)
        (records : List Record) (fault : JournalFault) (F : Type 0) →
        StandsFor tells seen moment left_since may_leave counts o s log marks → MayCome o (pending es m base records s) →
        Doubts tells moment left_since may_leave records s.book b fault →
        IsBook tells seen may_leave b →
        PairHasCause counts s.book.journal.pair b.journal.pair F → (fault ≡ Disk → F) →
        Holds tells seen moment left_since may_leave counts o
        (record (left_shard fault (asked_shard es m base s)) { book = b })
        (log ++ faults_of s.moment s.base fault)
        (marks ++ marks_beside (mark_by b (doubted fault es)) (faults_of s.moment s.base fault))
    doubts-shard next faults o s b log marks es m base records fault F stands may doubts book cause
        fails = by fault doubts fails
      where
        by : (f : JournalFault) → Doubts tells moment left_since may_leave records s.book b f →
            (f ≡ Disk → F) →
            Holds tells seen moment left_since may_leave counts o
            (record (left_shard f (asked_shard es m base s)) { book = b })
            (log ++ faults_of s.moment s.base f)
            (marks ++ marks_beside (mark_by b (doubted f es)) (faults_of s.moment s.base f))
        by Disk is fails =
            let t : Shard D = record (left_shard Disk (asked_shard es m base s)) { book = b } in
            let state = ap (λ (c : BookView D). c.state) is.same in
            stands-fault tells seen moment left_since may_leave counts next faults o s t log marks F
            (fails refl) stands state (ap (λ (c : BookView D). c.terms) is.same)
            book cause refl refl refl
            (subst (λ (c : BookView D). c.last ≤ s.moment) (sym is.same) stands.later)
            (λ failed. may-come-still o (pending es m base records s) t may state
            (ap (λ (c : BookView D). c.unsure) is.same) refl refl refl refl refl)
            (λ none. absurd (none (ap (λ (c : BookView D). c.fault) is.same)))
            (kept-refused tells seen moment left_since may_leave counts o s b log marks es records stands
            (may.next (log ++ fault_at s.moment s.base ∷ [])
            (leads-fault next faults o s (pending es m base records s) log stands.opening
            stands.leads refl refl refl)) may.records is.moments)
        by Memory is fails =
            let t : Shard D = record (left_shard Memory (asked_shard es m base s)) { book = b } in
            let told = ap (λ (c : BookView D). c.fault) is.same in
            stands-still tells seen moment left_since may_leave counts o s t log marks F stands
            (ap (λ (c : BookView D). c.state) is.same)
            (ap (λ (c : BookView D). c.terms) is.same) book cause refl refl refl
            (subst (λ (c : BookView D). c.last ≤ s.moment) (sym is.same) stands.later)
            (λ failed. absurd (cc (failed, told)))
            (λ none. refl)
            (λ failed. absurd (cc (failed, told)))
            (kept-still tells seen moment left_since may_leave counts o s b log marks [] [] stands
            (λ failed. absurd (cc (failed, told))) (inl refl) is.moments)

    -- a settled book isn't settled again, and a call of it is refused after that
    pub refused-settled : (now : ℕ) (records : BookView D → List Record) (b c : BookView D)
        (fault : JournalFault) → b.fault ≡ None →
        IsRefused tells moment left_since may_leave now records b c fault →
        Doubts tells moment left_since may_leave (records b) b c fault
    refused-settled now records b c fault none (inl keeps) =
        absurd (subst (λ (f : Option JournalFault). IsSome f → ⊥) (sym none)
        (λ h. absurd cc) keeps.doubt)
    refused-settled now records b c fault none (inr (mid, settled, settles, doubts)) =
        subst (λ (x : BookView D). Doubts tells moment left_since may_leave (records x) x c fault)
        (settles.clean none) doubts

    -- a settled book loses its leases at the moment that is asked, if that isn't early
    pub loses-settled : (m count : ℕ) (b c : BookView D) → b.fault ≡ None → b.last ≤ m →
        Loses tells moment left_since may_leave m b c count →
        Keeps tells moment left_since may_leave m (record { moment = m; change = Lose } ∷ []) b c
    loses-settled m count b c none early loses =
        let same : max m b.last ≡ m = omega arith in
        subst (λ (n : ℕ). Keeps tells moment left_since may_leave n
        (record { moment = n; change = Lose } ∷ []) b c) same
        (subst (λ (x : BookView D). Keeps tells moment left_since may_leave (max m x.last)
        (lose_records m x) x c) (loses.settles.clean none) loses.keeps)

    lose-records-at : (m : ℕ) (b : BookView D) → b.last ≤ m →
        lose_records m b ≡ record { moment = m; change = Lose } ∷ []
    lose-records-at m b early =
        let same : max m b.last ≡ m = omega arith in
        ap (λ (n : ℕ). record { moment = n; change = Lose } ∷ []) same

    pub loss-refused : (m : ℕ) (b c : BookView D) (fault : JournalFault) → b.fault ≡ None →
        b.last ≤ m → IsRefused tells moment left_since may_leave m (lose_records m) b c fault →
        Doubts tells moment left_since may_leave (record { moment = m; change = Lose } ∷ [])
        b c fault
    loss-refused m b c fault none early refused =
        subst (λ (rs : List Record). Doubts tells moment left_since may_leave rs b c fault)
        (lose-records-at m b early) (refused-settled m (lose_records m) b c fault none refused)

    -- so it is with a batch
    pub serves-settled : (m base : ℕ) (asks : List Ask) (b c : BookView D)
        (answers : List Answered) → b.fault ≡ None → b.last ≤ m → b.state.base ≤ base →
        Serves tells moment left_since may_leave m base asks b c answers →
        Keeps tells moment left_since may_leave m (records_kept (decide_all b.terms b.state m asks))
        b c × (answers ≡ answers_at m base (decide_all b.terms b.state m asks))
    serves-settled m base asks b c answers none early low serves =
        let same : max m b.last ≡ m = omega arith in
        let told : max base b.state.base ≡ base = omega arith in
        let is : serves.mid ≡ b = serves.settles.clean none in (
          subst (λ (n : ℕ). Keeps tells moment left_since may_leave n
              (records_kept (decide_all b.terms b.state n asks)) b c) same
              (subst (λ (x : BookView D). Keeps tells moment left_since may_leave (max m x.last)
              (batch_records m asks x) x c) is serves.keeps),
          subst (λ (x : BookView D). answers ≡ batch_answers m base asks x) is serves.answered
              ∙ ap (λ (n : ℕ). answers_at n (max base b.state.base)
              (decide_all b.terms b.state n asks)) same
              ∙ ap (λ (n : ℕ). answers_at m n (decide_all b.terms b.state m asks)) told,
        )

    pub batch-refused : (m : ℕ) (asks : List Ask) (b c : BookView D) (fault : JournalFault) →
        b.fault ≡ None → b.last ≤ m → IsRefused tells moment left_since may_leave m
        (batch_records m asks) b c fault →
        Doubts tells moment left_since may_leave (records_kept (decide_all b.terms b.state m asks))
        b c fault
    batch-refused m asks b c fault none early refused =
        let same : max m b.last ≡ m = omega arith in
        subst (λ (n : ℕ). Doubts tells moment left_since may_leave
        (records_kept (decide_all b.terms b.state n asks)) b c fault) same
        (refused-settled m (batch_records m asks) b c fault none refused)

-- ---- a batch

coming-by : {D : Type 0} (o : Opening D) (config : Config) (d : Datagram) (request : Option Request)
    (more : List Asked) → config ≡ o.config → route_of config d ≡ o.place →
    AllByRecursion (IsAskedOf config) (cons_option (asked_by d request) more) →
    (AllByRecursion (IsAskedOf config) more → AreComing (served_by o) more) →
    AreComing (served_by o) (cons_option (asked_by d request) more)
coming-by o config d None more same routed are rest = rest are
coming-by o config d (Some r) more same routed are rest = (
  subst (λ (c : Config). Comes (record (served_by o) { config = c }) d r) same
      (record { octets = are.0.octets; routed = routed; asks = are.0.asks }),
  rest are.1,
)

pub coming-in : {D : Type 0} (o : Opening D) (config : Config) (batch : List Datagram) →
    config ≡ o.config → AllByRecursion (λ (d : Datagram). route_of config d ≡ o.place) batch →
    AllByRecursion (IsAskedOf config) (asked_in config batch) →
    AreComing (served_by o) (asked_in config batch)
coming-in o config [] same routed are = tt
coming-in o config (d ∷ batch) same routed are =
    coming-by o config d (request_of config d) (asked_in config batch) same routed.0 are
    (coming-in o config batch same routed.1)

pub asked-long : (config : Config) (asked : List Asked) → AllByRecursion (IsAskedOf config) asked →
    AllByRecursion (λ (a : Asked). 2 ≤ length a.from.octets) asked
asked-long config [] are = tt
asked-long config (a ∷ asked) are = (are.0.long, asked-long config asked are.1)

along-some : (terms : Terms) (s : State) (m base : ℕ) (asked : List Asked) → asked ≢ [] →
    entries_along terms s m base asked ≢ []
along-some terms s m base [] some = absurd (some refl)
along-some terms s m base (a ∷ asked) some = λ none. absurd cc

-- the entries of a batch may come
pub batch-may-come : {D : Type 0} → NextIsLegal → DecisionsComeNext →
    (o : Opening D) (s : Shard D) (asked : List Asked) (m base : ℕ) →
    s.book.terms ≡ terms_of (served_by o).external o.config →
    asked ≢ [] → AreComing (served_by o) asked →
    AllByRecursion (λ (a : Asked). 2 ≤ length a.from.octets) asked → m < 2 ^ 40 → s.moment ≤ m →
    s.base ≤ base →
    MayCome o (pending (entries_along s.book.terms s.book.state m base asked) m base
    (records_kept
    (decide_all s.book.terms s.book.state m (map (λ (a : Asked). a.request.ask) asked))) s)
batch-may-come next decisions o s asked m base terms some coming long small later told =
    record {
      some = along-some s.book.terms s.book.state m base asked some;
      next = λ log leads. let p = leads.moment in let q = leads.base in
          along-legal next decisions (served_by o) o.book.state s.book.terms terms asked log
          s.book.state m base leads.legal leads.state
          (record { in_range = small; later = omega arith; told = omega arith }) coming;
      records = along-records s.book.terms asked s.book.state m base;
      at = along-at s.book.terms asked s.book.state m base;
      no_faults = along-no-faults s.book.terms asked s.book.state m base long;
      in_range = small;
      later = later;
    }

-- ---- a loss

pub loss-may-come : {D : Type 0} → NextIsLegal → ServersComeNext →
    (o : Opening D) (s : Shard D) (m base : ℕ) → m < 2 ^ 40 → s.moment ≤ m → s.base ≤ base →
    MayCome o (pending (loss_at m base ∷ []) m (max base m)
    (record { moment = m; change = Lose } ∷ []) s)
loss-may-come next servers o s m base small later told =
    record {
      some = λ none. absurd cc;
      next = λ log leads. let p = leads.moment in let q = leads.base in
          next (served_by o) o.book.state log (loss_at m base) leads.legal
          (servers (served_by o) o.book.state log (loss_at m base)
          (record { moment = m; change = Lose }) leads.legal
          (record { in_range = small; later = omega arith; told = omega arith }) refl refl refl
          (omega arith));
      records = refl;
      at = ((refl, refl), tt);
      no_faults = refl;
      in_range = small;
      later = later;
    }
