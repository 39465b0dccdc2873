-- What answering a batch leaves of a shard.
use Rattle.std.proofs.Common.{◌≡◌, ◌≢◌, ◌∙◌, ℕ, ◌≤◌, ◌<◌, ◌^◌, max, List, [], ◌∷◌, ◌++◌, length}
use Rattle.std.proofs.Common.{map, Option, Some, None, refl, ap, sym, subst, arith}
use Rattle.std.specs.List.{cons_option, filter_map}
use Rattle.std.proofs.lemmas.List.{append-nil, length-map}
use Rattle.pcp_base.specs.declared.addresses.Address.{Address}
use Rattle.pcp_base.specs.declared.asks.Ask.{Ask}
use Rattle.pcp_base.specs.declared.configs.Config.{Config}
use Rattle.pcp_base.specs.declared.datagrams.Datagram.{Datagram}
use Rattle.pcp_base.specs.declared.datagrams.Entry.{Entry}
use Rattle.pcp_base.specs.declared.records.Record.{Record}
use Rattle.pcp_base.specs.States.{State}
use Rattle.lease_disk.specs.Pairs.{PairHasCause}
use Rattle.journal_sides.specs.declared.errors.JournalFault.{JournalFault}
use Rattle.journal_sides.specs.declared.errors.JournalFault.TheVariants.{Disk, Memory}
use Rattle.shard_book.specs.declared.batches.Answered.{Answered}
use Rattle.lease_store.specs.declared.terms.Terms.{Terms}
use Rattle.lease_core.specs.Decide.{decide}
use Rattle.shard_book.specs.Batches.{answer_at, answers_at, decide_all, kept_before, records_kept}
use Rattle.shard_book.specs.Batches.{with_kept}
use Rattle.lease_core.specs.declared.decided.Decided.{Decided}
use Rattle.lease_histories.specs.Legal.{records_of}
use Rattle.shard_book.specs.Books.{BookView, IsBook}
use Rattle.shard_book.specs.Keepings.{IsRefused, Serves, batch_records}
use Rattle.lease_histories.specs.Laws.{DecisionsComeNext, FaultsComeNext, LastIsGreatest}
use Rattle.lease_histories.specs.Laws.{NextIsLegal}
use Rattle.turn_lock.specs.Marks.{marks_beside}
use Rattle.turned_shards.specs.declared.marks.Mark.{Mark}
use Rattle.turned_shards.specs.declared.openings.Opening.{Opening}
use Rattle.turned_shards.specs.declared.reading.Requests.{Requests}
use Rattle.turned_shards.specs.declared.shards.Shard.{Shard}
use Rattle.lease_histories.specs.Entries.{Request, request_of}
use Rattle.turned_shards.specs.BatchEntries.{Asked, asked_by, asked_in, entries_along, reply_in}
use Rattle.turned_shards.specs.Inside.{IsMoved, asked_shard, come_in_shard, left_shard}
use Rattle.turned_shards.specs.Reading.{IsReadBy, replies_to}
use Rattle.turned_shards.specs.ShardCalls.{AddsBatch, AnswersBatch, IsBatchOf, LeavesInDoubt}
use Rattle.turned_shards.specs.ShardCalls.{batch_entries, doubted, faults_of}
use Rattle.turned_shards.specs.Shards.{MayCome, StandsFor, mark_of, marks_added, served_by}
use Rattle.turned_shards.proofs.Answering.{along-records, along-replies}
use Rattle.turned_shards.proofs.Keeping.{asked-long, batch-may-come, batch-refused, coming-in}
use Rattle.turned_shards.proofs.Keeping.{doubts-shard, keeps-shard, pending, serves-settled}
use Rattle.turned_shards.proofs.LaneLemmas.{stands-adding, stands-moved}
use Rattle.turned_shards.proofs.Standing.{Holds}

few-by : (d : Datagram) (o : Option Request) (more : List Asked) (batch : List Datagram) →
    length more ≤ length batch → length (cons_option (asked_by d o) more) ≤ length (d ∷ batch)
few-by d None more batch h = omega (arith, h)
few-by d (Some r) more batch h = omega (arith, h)

pub asked-few : (config : Config) (batch : List Datagram) →
    length (asked_in config batch) ≤ length batch
asked-few config [] = omega arith
asked-few config (d ∷ batch) = few-by d (request_of config d) (asked_in config batch) batch
    (asked-few config batch)

decided-count : (terms : Terms) (s : State) (m : ℕ) (asks : List Ask) →
    length (decide_all terms s m asks) ≡ length asks
decided-count terms s m [] = refl
decided-count terms s m (a ∷ asks) =
    let e = decided-count terms (with_kept s (decide terms s m a).kept) m asks in omega (arith, e)

pub answers-count : (m base : ℕ) (terms : Terms) (s : State) (asks : List Ask) →
    length (answers_at m base (decide_all terms s m asks)) ≡ length asks
answers-count m base terms s asks = length-map (decide_all terms s m asks) (answer_at m base)
    ∙ decided-count terms s m asks

-- the records that answers tell are those that are kept
kept-one : (kept : Option Record) (rs ss : List Record) → rs ≡ ss →
    cons_option kept rs ≡ kept_before kept ss
kept-one None rs ss same = same
kept-one (Some r) rs ss same = ap (λ (l : List Record). r ∷ l) same

kept-all : (m base : ℕ) (ds : List Decided) →
    filter_map (λ (a : Answered). a.kept) (answers_at m base ds) ≡ records_kept ds
kept-all m base [] = refl
kept-all m base (d ∷ ds) =
    kept-one d.kept (filter_map (λ (a : Answered). a.kept) (answers_at m base ds)) (records_kept ds)
    (kept-all m base ds)

no-faults-kept : (m base : ℕ) (fault : JournalFault) → records_of (faults_of m base fault) ≡ []
no-faults-kept m base Disk = refl
no-faults-kept m base Memory = refl

-- a fault is added, or nothing: no record waits
pub fault-adds : {D : Type 0} (tells : Type 0) (seen : D → List ℕ) (moment : D → ℕ)
    (left_since : D → ℕ → List ℕ → Type 0) (may_leave : D → List ℕ → Type 0)
    (counts : D → ℕ) (o : Opening D) (s t : Shard D) (log : List Entry) (marks : List (Mark D)) (fault : JournalFault) →
    StandsFor tells seen moment left_since may_leave counts o s log marks →
    Holds tells seen moment left_since may_leave counts o t (log ++ faults_of s.moment s.base fault)
    (marks ++ marks_beside (mark_of t) (faults_of s.moment s.base fault)) →
    t.added ≡ faults_of s.moment s.base fault →
    t.writer ≡ s.writer → t.unpushed ≡ s.unpushed →
    StandsFor tells seen moment left_since may_leave counts o t (log ++ faults_of s.moment s.base fault)
    (marks ++ marks_beside (mark_of t) (faults_of s.moment s.base fault))
fault-adds tells seen moment left_since may_leave counts o s t log marks fault stands holds added writer waits =
    let es : List Entry = faults_of s.moment s.base fault in
    stands-adding tells seen moment left_since may_leave counts o s t t log marks es stands holds refl writer
    (ap (λ v. v.items) waits ∙ sym (append-nil s.unpushed.items)
    ∙ ap (λ (l : List Record). s.unpushed.items ++ l)
    (sym (no-faults-kept s.moment s.base fault))) added

module _ {D : Type 0} (tells : Type 0) (seen : D → List ℕ) (moment : D → ℕ)
    (left_since : D → ℕ → List ℕ → Type 0) (may_leave : D → List ℕ → Type 0) (counts : D → ℕ) where
  abbrev Stands : Opening D → Shard D → List Entry → List (Mark D) → Type 0
  Stands = StandsFor tells seen moment left_since may_leave counts

  abbrev Held : Opening D → Shard D → List Entry → List (Mark D) → Type 0
  Held = Holds tells seen moment left_since may_leave counts

  abbrev entries : Shard D → ℕ → ℕ → Config → List Datagram → List Entry
  entries s m base config batch = entries_along s.book.terms s.book.state m base
      (asked_in config batch)

  -- what is known when the book is asked
  pub record IsAsked (config : Config) (batch : List Datagram) (requests : Requests) (s : Shard D)
      (m base : ℕ) (o : Opening D) (log : List Entry) (marks : List (Mark D)) : Type 0 where
    pub is : IsBatchOf o config batch
    pub read : IsReadBy config batch (asked_in config batch) requests
    pub some : requests.asks.items ≢ []
    pub stands : Stands o s log marks
    pub settled : s.book.fault ≡ None
    pub small : m < 2 ^ 40
    pub later : s.moment ≤ m
    pub told : s.base ≤ base

  pends : NextIsLegal → DecisionsComeNext →
      (config : Config) (batch : List Datagram) (requests : Requests) (s : Shard D) (m base : ℕ)
      (o : Opening D) (log : List Entry) (marks : List (Mark D)) → IsAsked config batch requests s m base o log marks →
      MayCome o (pending (entries s m base config batch) m base
      (records_kept (decide_all s.book.terms s.book.state m requests.asks.items)) s)
  pends next decisions config batch requests s m base o log marks a =
      let asked : List Asked = asked_in config batch in
      subst (λ (asks : List Ask). MayCome o
      (pending (entries s m base config batch) m base
      (records_kept (decide_all s.book.terms s.book.state m asks)) s)) (sym a.read.asks)
      (batch-may-come next decisions o s asked m base a.stands.terms
      (λ none. a.some
      (a.read.asks ∙ ap (λ (l : List Asked). map (λ (q : Asked). q.request.ask) l) none))
      (coming-in o config batch a.is.config_is a.is.routed a.read.are)
      (asked-long config asked a.read.are) a.small a.later a.told)

  low : LastIsGreatest → (config : Config) (batch : List Datagram) (requests : Requests)
      (s : Shard D) (m base : ℕ) (o : Opening D) (log : List Entry) (marks : List (Mark D)) →
      IsAsked config batch requests s m base o log marks → s.book.state.base ≤ base
  low greatest config batch requests s m base o log marks a =
      let g = (greatest (served_by o) o.book.state log a.stands.leads.legal).base in
      let p = ap (λ (u : State). u.base) a.stands.leads.state in
      let q = a.stands.leads.base in
      let r = a.told in
      omega (arith, g, p, q, r)

  early : (config : Config) (batch : List Datagram) (requests : Requests) (s : Shard D) (m base : ℕ)
      (o : Opening D) (log : List Entry) (marks : List (Mark D)) → IsAsked config batch requests s m base o log marks →
      s.book.last ≤ m
  early config batch requests s m base o log marks a =
      let p = a.stands.later in let q = a.later in omega (arith, p, q)

  pub answered-stands : NextIsLegal → DecisionsComeNext → LastIsGreatest →
      (config : Config) (batch : List Datagram) (requests : Requests) (s t : Shard D) (m base : ℕ)
      (answers : List Answered) (o : Opening D) (log : List Entry) (marks : List (Mark D)) (F : Type 0) →
      IsAsked config batch requests s m base o log marks →
      t ≡ record (come_in_shard (asked_shard (entries s m base config batch) m base s)) {
        book = t.book;
      } →
      Serves tells moment left_since may_leave m base requests.asks.items s.book t.book answers →
      IsBook tells seen may_leave t.book →
      PairHasCause counts s.book.journal.pair t.book.journal.pair F →
      Held o t (log ++ t.added) (marks ++ marks_added t)
  answered-stands next decisions greatest config batch requests s t m base answers o log marks F a same
      serves book cause =
      let b : BookView D = t.book in
      let both = serves-settled tells seen moment left_since may_leave counts m base
      requests.asks.items s.book b answers a.settled
      (early config batch requests s m base o log marks a)
      (low greatest config batch requests s m base o log marks a) serves in
      let full = keeps-shard tells seen moment left_since may_leave counts o s b log marks
      (entries s m base config batch) m base m _ F a.stands
      (pends next decisions config batch requests s m base o log marks a) both.0
      (omega arith) book cause in
      subst (λ (u : Shard D). Held o u (log ++ u.added) (marks ++ marks_added u)) (sym same) full

  -- the records that are answered are those of the entries
  kept-are : LastIsGreatest → (config : Config) (batch : List Datagram) (requests : Requests)
      (s : Shard D) (b : BookView D) (m base : ℕ) (answers : List Answered) (o : Opening D)
      (log : List Entry) (marks : List (Mark D)) →
      IsAsked config batch requests s m base o log marks →
      Serves tells moment left_since may_leave m base requests.asks.items s.book b answers →
      filter_map (λ (a : Answered). a.kept) answers ≡ records_of (entries s m base config batch)
  kept-are greatest config batch requests s b m base answers o log marks a serves =
      let asked : List Asked = asked_in config batch in
      let both = serves-settled tells seen moment left_since may_leave counts m base
      requests.asks.items s.book b answers a.settled
      (early config batch requests s m base o log marks a)
      (low greatest config batch requests s m base o log marks a) serves in
      ap (λ (l : List Answered). filter_map (λ (x : Answered). x.kept) l) both.1
      ∙ kept-all m base (decide_all s.book.terms s.book.state m requests.asks.items)
      ∙ ap (λ (asks : List Ask). records_kept (decide_all s.book.terms s.book.state m asks))
      a.read.asks
      ∙ sym (along-records s.book.terms asked s.book.state m base)

  -- the entries of a batch are added, and their records wait
  pub answered-up : NextIsLegal → DecisionsComeNext → LastIsGreatest →
      (config : Config) (batch : List Datagram) (requests : Requests) (s t u : Shard D) (m base : ℕ)
      (answers : List Answered) (o : Opening D) (log : List Entry) (marks : List (Mark D)) (F : Type 0) →
      IsAsked config batch requests s m base o log marks →
      t ≡ record (come_in_shard (asked_shard (entries s m base config batch) m base s)) {
        book = t.book;
      } →
      Serves tells moment left_since may_leave m base requests.asks.items s.book t.book answers →
      IsBook tells seen may_leave t.book →
      PairHasCause counts s.book.journal.pair t.book.journal.pair F →
      u ≡ record t { unpushed = u.unpushed } →
      u.unpushed.items ≡ t.unpushed.items ++ filter_map (λ (a : Answered). a.kept) answers →
      Stands o u (log ++ u.added) (marks ++ marks_added u)
  answered-up next decisions greatest config batch requests s t u m base answers o log marks F a same
      serves book cause up waiting =
      let es : List Entry = entries s m base config batch in
      let full = answered-stands next decisions greatest config batch requests s t m base answers o
      log marks F a same serves book cause in
      let added : t.added ≡ es = ap (λ (x : Shard D). x.added) same in
      let holds : Held o t (log ++ es) (marks ++ marks_beside (mark_of t) es) =
      subst (λ (l : List Entry). Held o t (log ++ l) (marks ++ marks_beside (mark_of t) l))
      added full in
      let more : u.unpushed.items ≡ s.unpushed.items ++ records_of es =
      waiting ∙ ap
      (λ (x : Shard D). x.unpushed.items ++ filter_map (λ (q : Answered). q.kept) answers) same
      ∙ ap (λ (l : List Record). s.unpushed.items ++ l)
      (kept-are greatest config batch requests s t.book m base answers o log marks a serves) in
      let done = stands-adding tells seen moment left_since may_leave counts o s t u log marks es a.stands holds up
      (ap (λ (x : Shard D). x.writer) same) more added in
      subst (λ (l : List Entry). Stands o u (log ++ l) (marks ++ marks_beside (mark_of u) l))
      (sym (ap (λ (x : Shard D). x.added) up ∙ added)) done

  pub answered-so : LastIsGreatest →
      (config : Config) (batch : List Datagram) (requests : Requests) (s t : Shard D)
      (now given m base : ℕ) (answers : List Answered) (o : Opening D) (log : List Entry) (marks : List (Mark D)) →
      m ≡ max now s.moment → base ≡ max given s.base →
      IsAsked config batch requests s m base o log marks →
      t ≡ record (come_in_shard (asked_shard (entries s m base config batch) m base s)) {
        book = t.book;
      } →
      Serves tells moment left_since may_leave m base requests.asks.items s.book t.book answers →
      AddsBatch config now given batch s t ×
      (replies_to t.address (asked_in config batch) answers ≡ map reply_in t.added)
  answered-so greatest config batch requests s t now given m base answers o log marks at told a same
      serves =
      let both = serves-settled tells seen moment left_since may_leave counts m base
      requests.asks.items s.book t.book answers a.settled
      (early config batch requests s m base o log marks a)
      (low greatest config batch requests s m base o log marks a) serves in
      let added : t.added ≡ entries s m base config batch = ap (λ (u : Shard D). u.added) same in
      let named : entries s m base config batch ≡ batch_entries config now given batch s =
      ap (λ (n : ℕ). entries s n base config batch) at
      ∙ ap (λ (n : ℕ). entries s (max now s.moment) n config batch) told in (
        record {
          added = added ∙ named;
          settled = both.0.fault;
          sure = ap (λ (u : Shard D). u.doubt) same;
        },
        ap (λ (b : Address). replies_to b (asked_in config batch) answers)
            (ap (λ (u : Shard D). u.address) same ∙ a.stands.address)
            ∙ ap (λ (l : List Answered). replies_to s.book.terms.external.address
            (asked_in config batch) l)
            (both.1 ∙ ap
            (λ (asks : List Ask). answers_at m base
            (decide_all s.book.terms s.book.state m asks)) a.read.asks)
            ∙ along-replies s.book.terms (asked_in config batch) s.book.state m base
            ∙ ap (λ (l : List Entry). map reply_in l) (sym added),
      )

  pub refused-stands : NextIsLegal → DecisionsComeNext → FaultsComeNext →
      (config : Config) (batch : List Datagram) (requests : Requests) (s t : Shard D) (m base : ℕ)
      (fault : JournalFault) (o : Opening D) (log : List Entry) (marks : List (Mark D)) (F : Type 0) →
      IsAsked config batch requests s m base o log marks →
      t ≡ record (left_shard fault (asked_shard (entries s m base config batch) m base s)) {
        book = t.book;
      } →
      IsRefused tells moment left_since may_leave m (batch_records m requests.asks.items)
      s.book t.book fault → IsBook tells seen may_leave t.book →
      PairHasCause counts s.book.journal.pair t.book.journal.pair F → (fault ≡ Disk → F) →
      Held o t (log ++ t.added) (marks ++ marks_added t)
  refused-stands next decisions faults config batch requests s t m base fault o log marks F a same refused
      book cause fails =
      let doubts = batch-refused tells seen moment left_since may_leave counts m requests.asks.items
      s.book t.book fault a.settled (early config batch requests s m base o log marks a) refused in
      let full = doubts-shard tells seen moment left_since may_leave counts next faults o s t.book
      log marks (entries s m base config batch) m base _ fault F a.stands
      (pends next decisions config batch requests s m base o log marks a) doubts book cause fails in
      subst (λ (u : Shard D). Held o u (log ++ u.added) (marks ++ marks_added u)) (sym same) full

  -- a fault is added, or nothing: no record waits
  pub refused-up : NextIsLegal → DecisionsComeNext → FaultsComeNext →
      (config : Config) (batch : List Datagram) (requests : Requests) (s t : Shard D) (m base : ℕ)
      (fault : JournalFault) (o : Opening D) (log : List Entry) (marks : List (Mark D)) (F : Type 0) →
      IsAsked config batch requests s m base o log marks →
      t ≡ record (left_shard fault (asked_shard (entries s m base config batch) m base s)) {
        book = t.book;
      } →
      IsRefused tells moment left_since may_leave m (batch_records m requests.asks.items)
      s.book t.book fault → IsBook tells seen may_leave t.book →
      PairHasCause counts s.book.journal.pair t.book.journal.pair F → (fault ≡ Disk → F) →
      Stands o t (log ++ t.added) (marks ++ marks_added t)
  refused-up next decisions faults config batch requests s t m base fault o log marks F a same refused
      book cause fails =
      let es : List Entry = faults_of s.moment s.base fault in
      let full = refused-stands next decisions faults config batch requests s t m base fault o log marks F
      a same refused book cause fails in
      let added : t.added ≡ es = ap (λ (x : Shard D). x.added) same in
      let holds : Held o t (log ++ es) (marks ++ marks_beside (mark_of t) es) =
      subst (λ (l : List Entry). Held o t (log ++ l) (marks ++ marks_beside (mark_of t) l))
      added full in
      let done = fault-adds tells seen moment left_since may_leave counts o s t log marks fault a.stands holds added
      (ap (λ (x : Shard D). x.writer) same) (ap (λ (x : Shard D). x.unpushed) same) in
      subst (λ (l : List Entry). Stands o t (log ++ l) (marks ++ marks_beside (mark_of t) l))
      (sym added) done

  -- there was no room: nothing was done
  pub moved-stands : (s t : Shard D) (o : Opening D) (log : List Entry) (marks : List (Mark D)) → Stands o s log marks →
      s.added ≡ [] → IsMoved s t →
      Stands o t (log ++ t.added) (marks ++ marks_added t)
  moved-stands s t o log marks stands noted moved =
      let none : t.added ≡ [] = ap (λ (x : Shard D). x.added) moved.same ∙ noted in
      subst (λ (l : List Entry). Stands o t (log ++ l) (marks ++ marks_beside (mark_of t) l))
      (sym none) (subst (Stands o t (log ++ [])) (sym (append-nil marks))
      (subst (λ (l : List Entry). Stands o t l marks) (sym (append-nil log))
      (stands-moved tells seen moment left_since may_leave counts o s t log marks stands moved)))

  -- what a call adds to a shard with room it adds to the one before
  pub adds-moved : (config : Config) (now given : ℕ) (batch : List Datagram) (s r t u : Shard D) →
      IsMoved s r → AddsBatch config now given batch r t → u ≡ record t { unpushed = u.unpushed } →
      AddsBatch config now given batch s u
  adds-moved config now given batch s r t u moved adds up =
      record {
        added = ap (λ (x : Shard D). x.added) up ∙ adds.added
            ∙ ap (λ (x : Shard D). batch_entries config now given batch x) moved.same;
        settled = ap (λ (x : Shard D). x.book.fault) up ∙ adds.settled;
        sure = ap (λ (x : Shard D). x.doubt) up ∙ adds.sure;
      }

  pub serves-count : (m base : ℕ) (asks : List Ask) (b c : BookView D) (answers : List Answered) →
      Serves tells moment left_since may_leave m base asks b c answers →
      length answers ≡ length asks
  serves-count m base asks b c answers serves =
      ap (λ (l : List Answered). length l) serves.answered
      ∙ answers-count (max m serves.mid.last) (max base serves.mid.state.base)
      serves.mid.terms serves.mid.state asks
