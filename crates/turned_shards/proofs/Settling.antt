-- A settled shard stands for its history with the entries that the settling adds.
use Rattle.std.specs.Prelude.{not}
use Rattle.std.specs.Option.{option_map_or}
use Rattle.std.proofs.Common.{◌≡◌, ◌≢◌, ◌∙◌, ℕ, ◌≤◌, ◌<◌, ◌^◌, max, List, [], ◌∷◌, ◌++◌, ◌⊎◌, inl}
use Rattle.std.proofs.Common.{inr, true, false, Bool, Option, Some, None, refl, ap, sym, subst}
use Rattle.std.proofs.Common.{append_assoc, arith}
use Rattle.pcp_base.specs.declared.addresses.Address.{Address}
use Rattle.pcp_base.specs.declared.datagrams.Entry.{Entry}
use Rattle.pcp_base.specs.declared.records.Change.{Change}
use Rattle.pcp_base.specs.declared.records.Change.TheVariants.{Start, Lose}
use Rattle.pcp_base.specs.declared.records.Record.{Record}
use Rattle.pcp_base.specs.Apply.{apply, empties, is_another}
use Rattle.pcp_base.specs.States.{State}
use Rattle.pcp_base.proofs.Same.{same_address-Decides}
use Rattle.lease_disk.specs.Pairs.{PairHasCause, PairLeavesOnly}
use Rattle.journal_sides.specs.Journals.{StandsForWithOrWithout, fresh_state}
use Rattle.journal_sides.specs.declared.errors.JournalFault.{JournalFault}
use Rattle.journal_sides.specs.declared.errors.JournalFault.TheVariants.{Disk, Memory}
use Rattle.shard_book.specs.declared.standings.Settled.{Settled}
use Rattle.shard_book.specs.declared.standings.Standing.{Standing}
use Rattle.shard_book.specs.declared.standings.Standing.TheVariants.{Clean, In, Out, Fresh}
use Rattle.shard_book.specs.Addresses.{renumber_at, state_anew}
use Rattle.shard_book.specs.Books.{BookView, IsBook}
use Rattle.shard_book.specs.Settlings.{IsExpected, KeepsDoubt, Settles, StandingMeans, refused_of}
use Rattle.lease_histories.specs.Entries.{entry_kind, has_just_begun, begins_anew}
use Rattle.lease_histories.specs.Legal.{IsLegal, IsOfServer, state_after, moment_after, base_after}
use Rattle.lease_histories.specs.Laws.{FaultsComeNext, IsNoLess, LastIsGreatest, NextIsLegal}
use Rattle.lease_histories.specs.Laws.{ServersComeNext}
use Rattle.turn_lock.specs.Marks.{marks_beside}
use Rattle.turned_shards.specs.declared.marks.Mark.{Mark}
use Rattle.turned_shards.specs.declared.openings.Opening.{Opening}
use Rattle.turned_shards.specs.declared.shards.Shard.{Shard}
use Rattle.turned_shards.specs.BatchEntries.{fault_at, server_entry}
use Rattle.turned_shards.specs.Inside.{settled_shard, shard_by}
use Rattle.turned_shards.specs.ShardCalls.{faults_of}
use Rattle.turned_shards.specs.Shards.{LeadsTo, MayCome, StandsFor, served_by, marks_added}
use Rattle.turned_shards.proofs.Histories.{after-one, last-append, state-append}
use Rattle.turned_shards.proofs.Standing.{Holds, doubt-legal, kept-refused, kept-still, kept-with, mark_by}
use Rattle.turned_shards.proofs.Standing.{leads-in, may-come-still, stands-fault, stands-still}
use Rattle.turned_shards.proofs.Standing.{stands-with, unsure-by, unsure-how}

-- ---- a table that begins anew

-- after a Start or a Lose, and the record of the address, the state is that of a new journal
pub anew-state : (s : State) (r : Record) (a : Address) → is_another a (Some a) ≡ false →
    s.started ≡ true → s.address ≡ Some a → (r.change ≡ Start) ⊎ (r.change ≡ Lose) →
    apply (apply s r) (renumber_at r.moment a) ≡ state_anew r.moment a
anew-state s r a same started address (inl begins) =
    let is : record { moment = r.moment; change = Start } ≡ r =
    ap (λ (c : Change). record { moment = r.moment; change = c }) (sym begins) in
    subst (λ (q : Record). apply (apply s q) (renumber_at r.moment a) ≡ state_anew r.moment a)
    is refl
anew-state s r a same started address (inr begins) =
    let is : record { moment = r.moment; change = Lose } ≡ r =
    ap (λ (c : Change). record { moment = r.moment; change = c }) (sym begins) in
    let here : s ≡ record s { started = true; address = Some a } =
    ap (λ (b : Bool). record s { started = b }) started
    ∙ ap (λ (o : Option Address). record s { started = true; address = o }) address in
    subst (λ (q : Record). apply (apply s q) (renumber_at r.moment a) ≡ state_anew r.moment a) is
    (subst (λ (u : State). apply (apply u (record { moment = r.moment; change = Lose }))
    (renumber_at r.moment a) ≡ state_anew r.moment a) (sym here) (rw same refl))

same-another : (a : Address) → is_another a (Some a) ≡ false
same-another a = ap not ((same_address-Decides a a).1 refl)

server-begins : (log : List Entry) (base : ℕ) (r : Record) → empties r.change ≡ true →
    has_just_begun (log ++ server_entry base r ∷ []) ≡ true
server-begins log base r empty =
    ap (λ (l : Option Entry). option_map_or (λ (e : Entry). begins_anew (entry_kind e)) l false)
    (last-append None log (server_entry base r) []) ∙ empty

begins-empty : (r : Record) → (r.change ≡ Start) ⊎ (r.change ≡ Lose) → empties r.change ≡ true
begins-empty r (inl h) = ap empties h
begins-empty r (inr h) = ap empties h

begins-server : (log : List Entry) (r : Record) → (r.change ≡ Start) ⊎ (r.change ≡ Lose) →
    IsOfServer log r.change
begins-server log r (inl h) = subst (IsOfServer log) (sym h) refl
begins-server log r (inr h) = subst (IsOfServer log) (sym h) refl

begins-how : {found : State} (r : Record) →
    ((r.change ≡ Start) × (found ≡ fresh_state r.moment)) ⊎ (r.change ≡ Lose) →
    (r.change ≡ Start) ⊎ (r.change ≡ Lose)
begins-how r (inl h) = inl h.0
begins-how r (inr h) = inr h

module _ {D : Type 0} where
  -- a table that begins anew, and its address, stand behind the history
  pub leads-anew : NextIsLegal → ServersComeNext →
      (o : Opening D) (s t : Shard D) (log : List Entry) (a : Address) (r : Record) →
      LeadsTo o s log → s.book.state.started ≡ true →
      s.book.state.address ≡ Some a → (r.change ≡ Start) ⊎ (r.change ≡ Lose) → r.moment < 2 ^ 40 →
      s.moment ≤ r.moment → t.book.state ≡ state_anew r.moment a → t.moment ≡ r.moment →
      t.base ≡ max (max s.base r.moment) r.moment →
      LeadsTo o t
      (log ++ server_entry s.base r ∷ server_entry (max s.base r.moment)
      (renumber_at r.moment a) ∷ [])
  leads-anew next servers o s t log a r leads started address begins in_range later state moment
      base =
      let x = served_by o in
      let op : State = o.book.state in
      let e : Entry = server_entry s.base r in
      let q : Record = renumber_at r.moment a in
      let f : Entry = server_entry (max s.base r.moment) q in
      let p0 = leads.moment in
      let b0 = leads.base in
      let less : IsNoLess op log r.moment (max s.base r.moment) =
      record { in_range = in_range; later = omega arith; told = omega arith } in
      let one : IsLegal x op (log ++ e ∷ []) =
      next x op log e leads.legal
      (servers x op log e r leads.legal less refl refl (begins-server log r begins)
      (omega arith)) in
      let after = after-one op log e in
      let p1 : moment_after op (log ++ e ∷ []) ≡ r.moment = after.0 in
      let b1 : base_after op (log ++ e ∷ []) ≡ max s.base r.moment = after.1 in
      let less' : IsNoLess op (log ++ e ∷ []) r.moment (max (max s.base r.moment) r.moment) =
      record { in_range = in_range; later = omega arith; told = omega arith } in
      let two : IsLegal x op ((log ++ e ∷ []) ++ f ∷ []) =
      next x op (log ++ e ∷ []) f one
      (servers x op (log ++ e ∷ []) f q one less' refl refl
      (server-begins log s.base r (begins-empty r begins)) (omega arith)) in
      let after' = after-one op (log ++ e ∷ []) f in
      let joins : (log ++ e ∷ []) ++ f ∷ [] ≡ log ++ e ∷ f ∷ [] =
      append_assoc log (e ∷ []) (f ∷ []) in
      record {
        legal = subst (IsLegal x op) joins two;
        state = state-append op log (e ∷ f ∷ [])
            ∙ ap (λ (u : State). apply (apply u r) q) leads.state
            ∙ anew-state s.book.state r a (same-another a) started address begins ∙ sym state;
        moment = ap (moment_after op) (sym joins) ∙ after'.0 ∙ sym moment;
        base = ap (base_after op) (sym joins) ∙ after'.1 ∙ sym base;
      }

  module _ (tells : Type 0) (seen : D → List ℕ) (moment : D → ℕ)
      (left_since : D → ℕ → List ℕ → Type 0) (may_leave : D → List ℕ → Type 0)
      (counts : D → ℕ) where
    -- the shard with the settled book
    abbrev with_book : Shard D → BookView D → Shard D
    with_book s b = record s { book = b }

    settles-by : NextIsLegal → LastIsGreatest → ServersComeNext →
        (o : Opening D) (s : Shard D) (b : BookView D) (log : List Entry) (marks : List (Mark D)) (m : ℕ) (F : Type 0)
        (address : Option Record) (standing : Standing) →
        StandsFor tells seen moment left_since may_leave counts o s log marks → s.added ≡ [] → s.moment ≤ m →
        StandingMeans (max m s.book.last) s.book.terms.external.address
        (refused_of s.book) b.state address standing →
        b.last ≡ max s.book.last b.state.last → b.terms ≡ s.book.terms → b.fault ≡ None →
        IsBook tells seen may_leave b →
        PairHasCause counts s.book.journal.pair b.journal.pair F →
        (tells → IsExpected standing) →
        (tells → PairLeavesOnly moment left_since may_leave s.book.journal.pair b.journal.pair
        (StandsForWithOrWithout s.book.state s.book.unsure)) →
        Holds tells seen moment left_since may_leave counts o
        (record (shard_by address standing s) { book = b; doubt = [] })
        (log ++ (shard_by address standing s).added)
        (marks ++ marks_beside (mark_by b []) (shard_by address standing s).added)
    settles-by next greatest servers o s b log marks m F address Clean stands noted reached means last
        terms settled book cause expected run =
        let p = stands.later in let q = stands.book.later in
        let same : b.state.last ≡ s.book.state.last = ap (λ (u : State). u.last) means.same in
        subst (λ (es : List Entry). Holds tells seen moment left_since may_leave counts o
        (record s { book = b; doubt = [] }) (log ++ es)
        (marks ++ marks_beside (mark_by b []) es)) (sym noted)
        (stands-still tells seen moment left_since may_leave counts o s (record s { book = b; doubt = [] })
        log marks F stands means.same terms book cause refl refl refl (omega arith)
        (λ failed. absurd cc) (λ _. refl) (λ failed. absurd cc)
        (kept-still tells seen moment left_since may_leave counts o s b log marks [] s.book.unsure stands
        (λ failed. absurd cc) (unsure-how tells seen moment left_since may_leave counts o s log marks
        stands s.book.fault refl) run))
    settles-by next greatest servers o s b log marks m F address Out stands noted reached means last terms
        settled book cause expected run =
        let p = stands.later in let q = stands.book.later in
        let same : b.state.last ≡ s.book.state.last = ap (λ (u : State). u.last) means.same in
        subst (λ (es : List Entry). Holds tells seen moment left_since may_leave counts o
        (record s { book = b; doubt = [] }) (log ++ es)
        (marks ++ marks_beside (mark_by b []) es)) (sym noted)
        (stands-still tells seen moment left_since may_leave counts o s (record s { book = b; doubt = [] })
        log marks F stands means.same terms book cause refl refl refl (omega arith)
        (λ failed. absurd cc) (λ _. refl) (λ failed. absurd cc)
        (kept-still tells seen moment left_since may_leave counts o s b log marks [] s.book.unsure stands
        (λ failed. absurd cc) (unsure-how tells seen moment left_since may_leave counts o s log marks
        stands s.book.fault refl) run))
    settles-by next greatest servers o s b log marks m F address In stands noted reached means last terms
        settled book cause expected run =
        let may : MayCome o s = stands.doubt means.fault in
        let t : Shard D =
        record s {
          book = b;
          added = s.doubt;
          doubt = [];
          moment = s.doubt_moment;
          base = s.doubt_base;
        } in
        let leads : LeadsTo o t (log ++ s.doubt) =
        leads-in o s t log stands.leads may means.same refl refl in
        let p = stands.later in let q = may.later in
        let low = (greatest (served_by o) o.book.state (log ++ s.doubt) leads.legal).last in
        let a : (state_after o.book.state (log ++ s.doubt)).last ≡ b.state.last =
        ap (λ (u : State). u.last) leads.state in
        let c : moment_after o.book.state (log ++ s.doubt) ≡ s.doubt_moment = leads.moment in
        stands-with tells seen moment left_since may_leave counts o s t log marks s.doubt F stands leads
        may.no_faults terms refl book cause may.in_range (omega arith) settled refl
        (kept-with tells seen moment left_since may_leave counts o s b log marks s.doubt s.book.unsure
        stands may.records may.no_faults settled run)
    settles-by next greatest servers o s b log marks m F address
        (Fresh r) stands noted reached means last terms settled book cause expected run =
        let a : Address = s.book.terms.external.address in
        let q : Record = renumber_at r.moment a in
        let t : Shard D = record (shard_by (Some q) (Fresh r) s) { book = b; doubt = [] } in
        let since = means.begins.no_sooner in
        let top = stands.later in
        let new : b.state.last ≡ r.moment = ap (λ (u : State). u.last) means.new in
        let small = book.last in
        let bound : r.moment < 1099511627776 = omega arith in
        let leads : LeadsTo o t
        (log ++ server_entry s.base r ∷ server_entry (max s.base r.moment) q ∷ []) =
        leads-anew next servers o s t log a r stands.leads stands.book.started stands.book.address
        (begins-how r means.begins.begins) bound (omega arith) means.new refl refl in
        subst (λ (n : Option Record). Holds tells seen moment left_since may_leave counts o
        (record (shard_by n (Fresh r) s) { book = b; doubt = [] })
        (log ++ (shard_by n (Fresh r) s).added)
        (marks ++ marks_beside (mark_by b []) (shard_by n (Fresh r) s).added)) (sym means.named)
        (stands-with tells seen moment left_since may_leave counts o s t log marks
        (server_entry s.base r ∷ server_entry (max s.base r.moment) q ∷ [])
        F stands leads refl terms refl book cause bound (omega arith) settled refl
        (kept-with tells seen moment left_since may_leave counts o s b log marks
        (server_entry s.base r ∷ server_entry (max s.base r.moment) q ∷ []) (r ∷ q ∷ []) stands
        refl refl settled (λ told. absurd (expected told))))

    -- a settled shard
    pub settles-shard : NextIsLegal → LastIsGreatest → ServersComeNext →
        (o : Opening D) (s : Shard D) (b : BookView D) (log : List Entry) (marks : List (Mark D)) (m : ℕ) (F : Type 0)
        (settled : Settled) →
        StandsFor tells seen moment left_since may_leave counts o s log marks → s.added ≡ [] → s.moment ≤ m →
        Settles tells moment left_since may_leave m s.book b settled →
        IsBook tells seen may_leave b →
        PairHasCause counts s.book.journal.pair b.journal.pair F →
        Holds tells seen moment left_since may_leave counts o (settled_shard settled (with_book s b))
        (log ++ (settled_shard settled (with_book s b)).added)
        (marks ++ marks_added (settled_shard settled (with_book s b)))
    settles-shard next greatest servers o s b log marks m F settled stands noted reached settles book
        cause =
        by settled.journal
        (settles-by next greatest servers o s b log marks m F settled.address settled.journal stands
        noted reached settles.means settles.last settles.terms settles.fault book cause
        settles.expected settles.moments)
      where
        by : (standing : Standing) → Holds tells seen moment left_since may_leave counts o
            (record (shard_by settled.address standing s) { book = b; doubt = [] })
            (log ++ (shard_by settled.address standing s).added)
            (marks ++ marks_beside (mark_by b []) (shard_by settled.address standing s).added) →
            Holds tells seen moment left_since may_leave counts o
            (record (shard_by settled.address standing (with_book s b)) { doubt = [] })
            (log ++ (shard_by settled.address standing (with_book s b)).added)
            (marks ++ marks_added
            (record (shard_by settled.address standing (with_book s b)) { doubt = [] }))
        by Clean h = h
        by In h = h
        by Out h = h
        by (Fresh r) h = at settled.address h
          where
            at : (n : Option Record) → Holds tells seen moment left_since may_leave counts o
                (record (shard_by n (Fresh r) s) { book = b; doubt = [] })
                (log ++ (shard_by n (Fresh r) s).added)
                (marks ++ marks_beside (mark_by b []) (shard_by n (Fresh r) s).added) →
                Holds tells seen moment left_since may_leave counts o
                (record (shard_by n (Fresh r) (with_book s b)) { doubt = [] })
                (log ++ (shard_by n (Fresh r) (with_book s b)).added)
                (marks ++ marks_added
                (record (shard_by n (Fresh r) (with_book s b)) { doubt = [] }))
            at None h = h
            at (Some q) h = h

    -- a settling that was refused: what was in doubt is so still
    pub refuses-settling : NextIsLegal → FaultsComeNext →
        (o : Opening D) (s : Shard D) (b : BookView D) (log : List Entry) (marks : List (Mark D)) (fault : JournalFault)
        (F : Type 0) →
        StandsFor tells seen moment left_since may_leave counts o s log marks →
        KeepsDoubt tells moment left_since may_leave s.book b → IsBook tells seen may_leave b →
        PairHasCause counts s.book.journal.pair b.journal.pair F → (fault ≡ Disk → F) →
        Holds tells seen moment left_since may_leave counts o
        (record s { book = b; added = faults_of s.moment s.base fault })
        (log ++ faults_of s.moment s.base fault)
        (marks ++ marks_beside (mark_by b s.doubt) (faults_of s.moment s.base fault))
    refuses-settling next faults o s b log marks fault F stands keeps book cause fails = by fault fails
      where
        still : (f : BookView D → Type 0) → f (record s.book { journal = b.journal }) → f b
        still f = subst f (sym keeps.same)

        later : b.last ≤ s.moment
        later = still (λ (c : BookView D). c.last ≤ s.moment) stands.later

        doubt : (es : List Entry) → b.fault ≡ Some Disk →
            MayCome o (record s { book = b; added = es })
        doubt es failed = may-come-still o s (record s { book = b; added = es })
            (stands.doubt (sym (ap (λ (c : BookView D). c.fault) keeps.same) ∙ failed))
            (ap (λ (c : BookView D). c.state) keeps.same)
            (ap (λ (c : BookView D). c.unsure) keeps.same) refl refl refl refl refl

        sure : b.fault ≢ Some Disk → s.doubt ≡ []
        sure none =
            stands.sure (λ failed. none (ap (λ (c : BookView D). c.fault) keeps.same ∙ failed))

        by : (f : JournalFault) → (f ≡ Disk → F) →
            Holds tells seen moment left_since may_leave counts o
            (record s { book = b; added = faults_of s.moment s.base f })
            (log ++ faults_of s.moment s.base f)
            (marks ++ marks_beside (mark_by b s.doubt) (faults_of s.moment s.base f))
        by Disk f = stands-fault tells seen moment left_since may_leave counts next faults o s
            (record s { book = b; added = fault_at s.moment s.base ∷ [] }) log marks F (f refl) stands
            (ap (λ (c : BookView D). c.state) keeps.same)
            (ap (λ (c : BookView D). c.terms) keeps.same) book cause refl refl refl later
            (doubt (fault_at s.moment s.base ∷ [])) sure
            (kept-refused tells seen moment left_since may_leave counts o s b log marks s.doubt
            s.book.unsure stands (doubt-legal tells seen moment left_since may_leave counts next
            faults o s log marks stands s.book.fault refl)
            (unsure-by tells seen moment left_since may_leave counts o s log marks stands s.book.fault
            refl) keeps.moments)
        by Memory f = stands-still tells seen moment left_since may_leave counts o s
            (record s { book = b; added = [] }) log marks F stands
            (ap (λ (c : BookView D). c.state) keeps.same)
            (ap (λ (c : BookView D). c.terms) keeps.same) book cause refl refl refl later
            (doubt []) sure
            (λ failed. stands.failed
            (sym (ap (λ (c : BookView D). c.fault) keeps.same) ∙ failed))
            (kept-still tells seen moment left_since may_leave counts o s b log marks s.doubt
            s.book.unsure stands (λ failed. stands.kept.now
            (sym (ap (λ (c : BookView D). c.fault) keeps.same) ∙ failed))
            (unsure-how tells seen moment left_since may_leave counts o s log marks stands s.book.fault
            refl) keeps.moments)
