-- A call on a book that is settled.
use Rattle.std.specs.Prelude.{max, IsSome, Result, Ok, Err, IfOk, IfErr, OnOk}
use Rattle.std.specs.List.{slice_get}
use Rattle.std.specs.Option.{option_map}
use Rattle.std.proofs.Common.{◌≡◌, ◌∙◌, ℕ, List, map, Option, Some, None, refl, ap, subst, inl, inr, arith}
use Rattle.pcp_base.specs.declared.addresses.Address.{Address}
use Rattle.pcp_base.specs.declared.asks.Ask.{Ask}
use Rattle.pcp_base.specs.declared.configs.Config.{Config}
use Rattle.pcp_base.specs.declared.configs.External.{External}
use Rattle.pcp_base.specs.declared.datagrams.Datagram.{Datagram}
use Rattle.pcp_base.specs.declared.records.Record.{Record}
use Rattle.pcp_base.specs.Epoch.{epoch_of}
use Rattle.lease_core.specs.Decide.{decide}
use Rattle.lease_store.specs.Lookups.{lease_count}
use Rattle.lease_disk.specs.declared.disks.DiskPair.{DiskPair}
use Rattle.journal_sides.specs.declared.errors.JournalFault.{JournalFault}
use Rattle.journal_sides.specs.declared.errors.JournalFault.TheVariants.{Disk}
use Rattle.shard_book.specs.declared.batches.DatedAnswer.{DatedAnswer}
use Rattle.shard_book.specs.Batches.{answer_at, dated_of}
use Rattle.shard_book.specs.Books.{BookView}
use Rattle.shard_book.specs.Keepings.{Doubts, IsRefused, Keeps, Loses, ServesOne, dated_answer, lose_records}
use Rattle.shard_book.specs.Settlings.{HasSettled, KeepsDoubt}
use Rattle.lease_histories.specs.Entries.{reply_text_of, request_of}
use Rattle.lease_histories.specs.HouseHistories.{greatest}
use Rattle.lease_histories.specs.Routes.{route_of}
use Rattle.lease_house.specs.declared.routes.Routed.{Routed}
use Rattle.lease_house.specs.BookCalls.{AnswersAsk, ChangesAt, StaysBook, ask_answer}
use Rattle.lease_house.specs.Routings.{routed_by}
use Rattle.lease_house.specs.SoloCalls.{AnswersPacket, IsDoubtKept, IsLineRefused, LosesAt, SettlesAt, ask_records, fault_at, loss_records, told_at}
use Rattle.lease_house.specs.SoloHouses.{ChangesBook, HouseView, IsHouse}
use Rattle.lease_house.proofs.BookLemmas.{After, after-call, answered-address, house-of, on-terms}
use Rattle.lease_house.proofs.ListLemmas.{greatest-has}
use Rattle.lease_house.proofs.PlainLemmas.{answers-packet, loses-plainly, plain-greatest, routed-is}

module _ {D : Type 0} (tells : Type 0) (moment : D → ℕ) (left_since : D → ℕ → List ℕ → Type 0) (may_leave : D → List ℕ → Type 0) where
  serves-settled : (now base : ℕ) (ask : Ask) (b c : BookView D) (answer : DatedAnswer) → b.fault ≡ None →
      ServesOne tells moment left_since may_leave now base ask b c answer →
      (answer ≡ dated_answer now base ask b) × Keeps tells moment left_since may_leave (max now b.last) (ask_records now ask b) b c
  serves-settled now base ask b c answer clean is =
      subst (λ (m : BookView D). (answer ≡ dated_answer now base ask m) × Keeps tells moment left_since may_leave (max now m.last) (ask_records now ask m) m c)
      (is.settles.clean clean) (is.answered, is.keeps)

  pub loses-settled : (now : ℕ) (b c : BookView D) (count : ℕ) → b.fault ≡ None → Loses tells moment left_since may_leave now b c count →
      (count ≡ lease_count b.state.table (max now b.last)) × Keeps tells moment left_since may_leave (max now b.last) (lose_records now b) b c
  loses-settled now b c count clean is =
      subst (λ (m : BookView D). (count ≡ lease_count m.state.table (max now m.last)) × Keeps tells moment left_since may_leave (max now m.last) (lose_records now m) m c)
      (is.settles.clean clean) (is.counted, is.keeps)

  pub refused-settled : (now : ℕ) (records : BookView D → List Record) (b c : BookView D) (fault : JournalFault) → b.fault ≡ None →
      IsRefused tells moment left_since may_leave now records b c fault → Doubts tells moment left_since may_leave (records b) b c fault
  refused-settled now records b c fault clean (inl doubt) = let e : IsSome {T = JournalFault} None = subst (λ (o : Option JournalFault). IsSome o) clean doubt.doubt in absurd cc
  refused-settled now records b c fault clean (inr (mid, settled, settles, doubts)) =
      subst (λ (m : BookView D). Doubts tells moment left_since may_leave (records m) m c fault) (settles.clean clean) doubts

  pub settled-terms : {T : Type 0} (now : ℕ) (told : Result T JournalFault) (b c : BookView D) → OnOk told (HasSettled tells moment left_since may_leave now b c) →
      IfErr told (λ _. KeepsDoubt tells moment left_since may_leave b c) → c.terms ≡ b.terms
  settled-terms now (Ok settled) b c is doubt = is.1.terms
  settled-terms now (Err fault) b c is doubt = ap (λ (v : BookView D). v.terms) doubt.same

  pub kept-terms : {T : Type 0} (told : Result T JournalFault) (n : ℕ) (records rs : List Record) (P : T → Type 0) (b c : BookView D) →
      IfOk told (λ x. P x × Keeps tells moment left_since may_leave n records b c) → IfErr told (Doubts tells moment left_since may_leave rs b c) → c.terms ≡ b.terms
  kept-terms (Ok x) n records rs P b c is doubt = is.1.terms
  kept-terms (Err fault) n records rs P b c is doubt = ap (λ (v : BookView D). v.terms) doubt.same

  pub loses-well : (now : ℕ) (told : Result ℕ JournalFault) (b c : BookView D) → b.fault ≡ None → IfOk told (Loses tells moment left_since may_leave now b c) →
      IfErr told (IsRefused tells moment left_since may_leave now (lose_records now) b c) →
      IfOk told (λ count. (count ≡ lease_count b.state.table (max now b.last))
      × Keeps tells moment left_since may_leave (max now b.last) (loss_records now b) b c)
      × IfErr told (Doubts tells moment left_since may_leave (loss_records now b) b c)
  loses-well now (Ok count) b c clean is refused = (loses-settled now b c count clean is, tt)
  loses-well now (Err fault) b c clean is refused = (tt, refused-settled now (lose_records now) b c fault clean refused)

  -- no base is greater than that of all books
  greatest-answer : (now : ℕ) (ask : Ask) (books : List (BookView D)) (place : ℕ) (b : BookView D) → slice_get books place ≡ Some b →
      dated_answer now (greatest (map (λ (x : BookView D). x.state.base) books)) ask b ≡ ask_answer now (greatest (map (λ (x : BookView D). x.state.base) books)) ask b
  greatest-answer now ask books place b there =
      let base : ℕ = greatest (map (λ (x : BookView D). x.state.base) books) in
      let least = greatest-has (λ (x : BookView D). x.state.base) books place b there in
      let told : max base b.state.base ≡ base = omega (arith, least) in
      ap (λ n. dated_of (answer_at (max now b.last) n (decide b.terms b.state (max now b.last) ask))) told

  pub asks-well : (now base : ℕ) (ask : Ask) (books : List (BookView D)) (place : ℕ) (told : Result DatedAnswer JournalFault) (b c : BookView D) →
      b.fault ≡ None → slice_get books place ≡ Some b → base ≡ greatest (map (λ (x : BookView D). x.state.base) books) →
      IfOk told (ServesOne tells moment left_since may_leave now base ask b c) →
      IfErr told (IsRefused tells moment left_since may_leave now (ask_records now ask) b c) →
      IfOk told (λ answer. (answer ≡ ask_answer now (greatest (map (λ (x : BookView D). x.state.base) books)) ask b)
      × Keeps tells moment left_since may_leave (max now b.last) (ask_records now ask b) b c)
      × IfErr told (Doubts tells moment left_since may_leave (ask_records now ask b) b c)
  asks-well now base ask books place (Ok answer) b c clean there least served refused =
      let well = serves-settled now (greatest (map (λ (x : BookView D). x.state.base) books)) ask b c answer clean
      (subst (λ (n : ℕ). ServesOne tells moment left_since may_leave now n ask b c answer) least served) in
      ((well.0 ∙ greatest-answer now ask books place b there, well.1), tt)
  asks-well now base ask books place (Err fault) b c clean there least served refused =
      (tt, refused-settled now (ask_records now ask) b c fault clean refused)

-- ---- what the house tells of it

module _ {D : Type 0} (tells : Type 0) (seen : D → List ℕ) (moment : D → ℕ) (left_since : D → ℕ → List ℕ → Type 0) (may_leave : D → List ℕ → Type 0) (faults : D → ℕ) where
  pub settle-after : {T : Type 0} (now place : ℕ) (told : Result T JournalFault) (old : HouseView D) (config : Config) (books new : List (BookView D)) (spare : List (DiskPair D)) →
      house-of config books spare ≡ old → IsHouse tells seen may_leave (house-of config books spare) →
      ChangesAt place books new (λ b c. StaysBook tells seen may_leave faults (told ≡ Err Disk) b c
      × (OnOk told (HasSettled tells moment left_since may_leave now b c) × IfErr told (λ _. KeepsDoubt tells moment left_since may_leave b c))) →
      After tells seen may_leave faults place told old (house-of config new spare)
      (λ b c. OnOk told (HasSettled tells moment left_since may_leave now b c) × IfErr told (λ _. KeepsDoubt tells moment left_since may_leave b c))
  settle-after now place told old config books new spare same is at =
      after-call tells seen may_leave faults place told old config books new spare
      (λ b c. OnOk told (HasSettled tells moment left_since may_leave now b c) × IfErr told (λ _. KeepsDoubt tells moment left_since may_leave b c)) same is at

  pub ask-after : (now place : ℕ) (ask : Ask) (told : Result DatedAnswer JournalFault) (old : HouseView D) (config : Config) (books new : List (BookView D)) (spare : List (DiskPair D)) →
      house-of config books spare ≡ old → IsHouse tells seen may_leave (house-of config books spare) →
      ChangesAt place books new (λ b c. StaysBook tells seen may_leave faults (told ≡ Err Disk) b c
      × (IfOk told (λ answer. (answer ≡ ask_answer now (greatest (map (λ (x : BookView D). x.state.base) books)) ask b)
      × Keeps tells moment left_since may_leave (max now b.last) (ask_records now ask b) b c)
      × IfErr told (Doubts tells moment left_since may_leave (ask_records now ask b) b c))) →
      After tells seen may_leave faults place told old (house-of config new spare)
      (λ b c. IfOk told (λ answer. (answer ≡ ask_answer now (greatest (map (λ (x : BookView D). x.state.base) books)) ask b)
      × Keeps tells moment left_since may_leave (max now b.last) (ask_records now ask b) b c)
      × IfErr told (Doubts tells moment left_since may_leave (ask_records now ask b) b c))
  ask-after now place ask told old config books new spare same is at =
      after-call tells seen may_leave faults place told old config books new spare
      (λ b c. IfOk told (λ answer. (answer ≡ ask_answer now (greatest (map (λ (x : BookView D). x.state.base) books)) ask b)
      × Keeps tells moment left_since may_leave (max now b.last) (ask_records now ask b) b c)
      × IfErr told (Doubts tells moment left_since may_leave (ask_records now ask b) b c)) same is at

  pub lose-after : (now place : ℕ) (told : Result ℕ JournalFault) (old : HouseView D) (config : Config) (books new : List (BookView D)) (spare : List (DiskPair D)) →
      house-of config books spare ≡ old → IsHouse tells seen may_leave (house-of config books spare) →
      ChangesAt place books new (λ b c. StaysBook tells seen may_leave faults (told ≡ Err Disk) b c
      × (IfOk told (λ count. (count ≡ lease_count b.state.table (max now b.last))
      × Keeps tells moment left_since may_leave (max now b.last) (loss_records now b) b c)
      × IfErr told (Doubts tells moment left_since may_leave (loss_records now b) b c))) →
      After tells seen may_leave faults place told old (house-of config new spare)
      (λ b c. IfOk told (λ count. (count ≡ lease_count b.state.table (max now b.last))
      × Keeps tells moment left_since may_leave (max now b.last) (loss_records now b) b c)
      × IfErr told (Doubts tells moment left_since may_leave (loss_records now b) b c))
  lose-after now place told old config books new spare same is at =
      after-call tells seen may_leave faults place told old config books new spare
      (λ b c. IfOk told (λ count. (count ≡ lease_count b.state.table (max now b.last))
      × Keeps tells moment left_since may_leave (max now b.last) (loss_records now b) b c)
      × IfErr told (Doubts tells moment left_since may_leave (loss_records now b) b c)) same is at

  pub settles-house : {T : Type 0} (now place : ℕ) (told : Result T JournalFault) (old new : HouseView D) →
      After tells seen may_leave faults place told old new (λ b c. OnOk told (HasSettled tells moment left_since may_leave now b c) × IfErr told (λ _. KeepsDoubt tells moment left_since may_leave b c)) →
      OnOk (told_at place told) (SettlesAt tells moment left_since may_leave now place old new)
      × IfErr (told_at place told) (λ fault. IsDoubtKept tells moment left_since may_leave place old new fault)
  settles-house now place (Ok settled) old new a =
      (record { book = a.before; settled_book = a.after; settled = a.how.0.0; settles = a.how.0.1; changes = a.changes }, tt)
  settles-house now place (Err fault) old new a =
      (tt, (fault, refl, record { book = a.before; read_book = a.after; keeps = a.how.1; changes = a.changes }))

  refused-at : (now place : ℕ) (records : BookView D → List Record) (old mid new : HouseView D) (b c : BookView D) (fault : JournalFault) →
      SettlesAt tells moment left_since may_leave now place old mid → ChangesBook place b c mid new → Doubts tells moment left_since may_leave (records b) b c fault →
      IsLineRefused tells moment left_since may_leave now place records old new (fault_at place fault)
  refused-at now place records old mid new b c fault settles changes doubts =
      (fault, refl, inr (mid, settles, record { book = b; unsure_book = c; doubts = doubts; changes = changes }))

  pub answers-house : (now place : ℕ) (ask : Ask) (told : Result DatedAnswer JournalFault) (old mid new : HouseView D) (books : List (BookView D)) → books ≡ mid.books → SettlesAt tells moment left_since may_leave now place old mid →
      IsHouse tells seen may_leave mid →
      After tells seen may_leave faults place told mid new (λ b c.
      IfOk told (λ answer. (answer ≡ ask_answer now (greatest (map (λ (x : BookView D). x.state.base) books)) ask b)
      × Keeps tells moment left_since may_leave (max now b.last) (ask_records now ask b) b c)
      × IfErr told (Doubts tells moment left_since may_leave (ask_records now ask b) b c)) →
      IfOk (told_at place told) (AnswersAsk tells moment left_since may_leave now place ask old new)
      × IfErr (told_at place told) (IsLineRefused tells moment left_since may_leave now place (ask_records now ask) old new)
  answers-house now place ask (Ok answer) old mid new books same settles is a = (
    record {
      mid = mid;
      settles = settles;
      book = a.before;
      kept_book = a.after;
      on_terms = on-terms tells seen may_leave mid place a.before is a.changes.there;
      told = a.how.0.0 ∙ ap (λ (l : List (BookView D)). ask_answer now (greatest (map (λ (x : BookView D). x.state.base) l)) ask a.before) same
          ∙ ap (λ n. ask_answer now n ask a.before) (plain-greatest mid.books);
      keeps = a.how.0.1;
      changes = a.changes;
    },
    tt,
  )
  answers-house now place ask (Err fault) old mid new books same settles is a =
      (tt, refused-at now place (ask_records now ask) old mid new a.before a.after fault settles a.changes a.how.1)

  -- what was read of a datagram, and where it goes
  pub read-answers : (now : ℕ) (from : Datagram) (r : Routed) (old new : HouseView D) (answer : DatedAnswer) (address : Address) → routed_by old.config from ≡ Some r →
      option_map (λ (x : External). x.address) (slice_get old.config.externals r.place) ≡ Some address →
      AnswersAsk tells moment left_since may_leave now r.place r.ask old new answer → IsHouse tells seen may_leave new →
      AnswersPacket tells moment left_since may_leave now from old new (reply_text_of from.octets address r.items answer.answer (epoch_of answer.moment answer.base))
  read-answers now from r old new answer address read told asks is =
      let place : ℕ = route_of old.config from in
      let asked = routed-is place (request_of old.config from) r read in
      let here : AnswersAsk tells moment left_since may_leave now place r.ask old new answer =
      subst (λ (p : ℕ). AnswersAsk tells moment left_since may_leave now p r.ask old new answer) asked.1 asks in
      let there : option_map (λ (x : External). x.address) (slice_get old.config.externals place) ≡ Some address =
      subst (λ (p : ℕ). option_map (λ (x : External). x.address) (slice_get old.config.externals p) ≡ Some address) asked.1 told in
      answers-packet tells moment left_since may_leave now from (record { ask = r.ask; items = r.items }) old new answer address asked.0 here
      (answered-address tells seen moment left_since may_leave now place r.ask old new answer address here is there)

  pub loses-house : (now place : ℕ) (told : Result ℕ JournalFault) (old mid new : HouseView D) → SettlesAt tells moment left_since may_leave now place old mid →
      After tells seen may_leave faults place told mid new (λ b c.
      IfOk told (λ count. (count ≡ lease_count b.state.table (max now b.last))
      × Keeps tells moment left_since may_leave (max now b.last) (loss_records now b) b c)
      × IfErr told (Doubts tells moment left_since may_leave (loss_records now b) b c)) →
      IfOk (told_at place told) (LosesAt tells moment left_since may_leave now place old new)
      × IfErr (told_at place told) (IsLineRefused tells moment left_since may_leave now place (loss_records now) old new)
  loses-house now place (Ok count) old mid new settles a =
      (loses-plainly tells moment left_since may_leave now place old mid new a.before a.after count settles a.changes a.how.0.0 a.how.0.1, tt)
  loses-house now place (Err fault) old mid new settles a =
      (tt, refused-at now place (loss_records now) old mid new a.before a.after fault settles a.changes a.how.1)
