-- What the lane of a shard has, as its history grows and as records are published.
use Rattle.std.specs.List.{cons_option}
use Rattle.std.specs.Prelude.{IfSome}
use Rattle.std.proofs.Common.{◌≡◌, ◌∙◌, ℕ, ◌≤◌, List, [], ◌∷◌, ◌++◌, take, Option, refl, ap, sym}
use Rattle.std.proofs.Common.{subst, append_assoc, arith}
use Rattle.std.proofs.lemmas.List.{append-nil, append_cancel_right}
use Rattle.std.proofs.lemmas.List.Elements.{filter_map-append}
use Rattle.pcp_base.specs.declared.datagrams.Entry.{Entry}
use Rattle.pcp_base.specs.declared.records.Record.{Record}
use Rattle.pcp_base.specs.Apply.{apply, apply_all}
use Rattle.pcp_base.specs.Sound.{Sound}
use Rattle.pcp_base.specs.States.{State}
use Rattle.lane_index.specs.Lanes.{WriterKnowledge}
use Rattle.lease_histories.specs.Legal.{IsLegal, IsNextEntry, records_of, state_after}
use Rattle.turn_lock.specs.Passes.{PassKnowledge, TurnName}
use Rattle.lease_histories.specs.Laws.{StatesStand}
use Rattle.turn_lock.specs.Marks.{marks_beside}
use Rattle.turned_shards.specs.declared.marks.Mark.{Mark}
use Rattle.turned_shards.specs.declared.openings.Opening.{Opening}
use Rattle.turned_shards.specs.declared.shards.Shard.{Shard}
use Rattle.turned_shards.specs.HeldShards.{IsHeldBy}
use Rattle.turned_shards.specs.Inside.{IsMoved}
use Rattle.turned_shards.specs.Laws.{IsPublishedOf}
use Rattle.turned_shards.specs.Publishing.{IsNextRecord, IsWithLane, KeepsRecords, MayPush}
use Rattle.turned_shards.specs.Shards.{HasIndexed, StandsFor, mark_of, served_by}
use Rattle.turned_shards.proofs.Histories.{state-append}
use Rattle.turned_shards.proofs.RecordsOf.{AreAlike, all-alike, apply-alike, at-place, entry-of}
use Rattle.turned_shards.proofs.RecordsOf.{first-of}
use Rattle.turned_shards.proofs.Standing.{Holds, leads-same, may-come-still}

-- a record may come after those that were pushed
pub next-pushed : (w v : WriterKnowledge) (first : List Record) (r : Record) →
    v ≡ record w { pending = w.pending ++ first } →
    IsNextRecord (apply_all w.opening ((w.published ++ w.pending) ++ first)) r →
    IsNextRecord (apply_all v.opening (v.published ++ v.pending)) r
next-pushed w v first r is next =
    subst (λ (x : WriterKnowledge). IsNextRecord (apply_all x.opening (x.published ++ x.pending)) r)
    (sym is)
    (subst (λ (l : List Record). IsNextRecord (apply_all w.opening l) r)
    (append_assoc w.published w.pending first) next)

module _ {D : Type 0} where
  -- the records of entries that a call adds wait
  pub indexed-adds : (o : Opening D) (s t : Shard D) (log es : List Entry) → HasIndexed o s log →
      t.writer ≡ s.writer → t.unpushed.items ≡ s.unpushed.items ++ records_of es → t.added ≡ es →
      HasIndexed o t (log ++ es)
  indexed-adds o s t log es has writer waiting added =
      let sent : List Record = s.writer.published ++ s.writer.pending in
      record {
        index = ap (λ (w : WriterKnowledge). w.index) writer ∙ has.index;
        opening = ap (λ (w : WriterKnowledge). w.opening) writer ∙ has.opening;
        leases = has.leases;
        records = ap (λ (w : WriterKnowledge). (w.published ++ w.pending) ++ t.unpushed.items)
            writer ∙ ap (λ (l : List Record). sent ++ l) waiting
            ∙ sym (append_assoc sent s.unpushed.items (records_of es))
            ∙ ap (λ (l : List Record). l ++ records_of es) has.records
            ∙ sym (filter_map-append (λ (e : Entry). e.kept) log es);
        noted = s.unpushed.items;
        unnoted = waiting ∙ ap (λ (l : List Entry). s.unpushed.items ++ records_of l) (sym added);
      }

  -- the same records, of entries that were all noted
  pub indexed-still : (o : Opening D) (s t : Shard D) (log : List Entry) → HasIndexed o s log →
      KeepsRecords s t → t.added ≡ [] → HasIndexed o t log
  indexed-still o s t log has keeps added =
      record {
        index = keeps.index ∙ has.index;
        opening = keeps.opening ∙ has.opening;
        leases = has.leases;
        records = keeps.all ∙ has.records;
        noted = t.unpushed.items;
        unnoted = sym (append-nil t.unpushed.items)
            ∙ ap (λ (l : List Entry). t.unpushed.items ++ records_of l) (sym added);
      }

  module _ (tells : Type 0) (seen : D → List ℕ) (moment : D → ℕ)
      (left_since : D → ℕ → List ℕ → Type 0) (may_leave : D → List ℕ → Type 0)
      (counts : D → ℕ) where
    abbrev Stands : Opening D → Shard D → List Entry → List (Mark D) → Type 0
    Stands = StandsFor tells seen moment left_since may_leave counts

    -- what holds but for the lane doesn't speak of the lane
    pub stands-up : (o : Opening D) (s t : Shard D) (log : List Entry) (marks : List (Mark D)) →
        Holds tells seen moment left_since may_leave counts o s log marks →
        t ≡ record s { writer = t.writer; unpushed = t.unpushed } → HasIndexed o t log →
        Stands o t log marks
    stands-up o s t log marks holds same has =
        let u : Shard D = record s { writer = t.writer; unpushed = t.unpushed } in
        subst (λ (x : Shard D). Stands o x log marks) (sym same) (record {
          opening = holds.opening;
          terms = holds.terms;
          address = holds.address;
          book = holds.book;
          leads = leads-same o s u log holds.leads refl refl refl;
          in_range = holds.in_range;
          later = holds.later;
          doubt = λ failed. may-come-still o s u (holds.doubt failed)
              refl refl refl refl refl refl refl;
          sure = holds.sure;
          failed = holds.failed;
          risen = holds.risen;
          indexed = subst (λ (x : Shard D). HasIndexed o x log) same has;
          kept = holds.kept;
        })

    pub stands-down : (o : Opening D) (s : Shard D) (log : List Entry) (marks : List (Mark D)) → Stands o s log marks →
        Holds tells seen moment left_since may_leave counts o s log marks
    stands-down o s log marks stands =
        record {
          opening = stands.opening;
          terms = stands.terms;
          address = stands.address;
          book = stands.book;
          leads = stands.leads;
          in_range = stands.in_range;
          later = stands.later;
          doubt = stands.doubt;
          sure = stands.sure;
          failed = stands.failed;
          risen = stands.risen;
          kept = stands.kept;
        }

    -- what waits was moved to where there is room
    pub stands-moved : (o : Opening D) (s t : Shard D) (log : List Entry) (marks : List (Mark D)) → Stands o s log marks →
        IsMoved s t → Stands o t log marks
    stands-moved o s t log marks stands moved =
        let has = stands.indexed in
        let writer : t.writer ≡ s.writer = ap (λ (x : Shard D). x.writer) moved.same in
        let same : t ≡ record s { writer = t.writer; unpushed = t.unpushed } = moved.same
        ∙ ap (λ (w : WriterKnowledge). record s { writer = w; unpushed = t.unpushed })
        (sym writer) in
        stands-up o s t log marks (stands-down o s log marks stands) same (record {
          index = ap (λ (w : WriterKnowledge). w.index) writer ∙ has.index;
          opening = ap (λ (w : WriterKnowledge). w.opening) writer ∙ has.opening;
          leases = has.leases;
          records = ap (λ (w : WriterKnowledge). (w.published ++ w.pending) ++ t.unpushed.items)
              writer ∙ ap (λ (l : List Record). (s.writer.published ++ s.writer.pending) ++ l)
              moved.waiting ∙ has.records;
          noted = has.noted;
          unnoted = moved.waiting ∙ has.unnoted
              ∙ ap (λ (l : List Entry). has.noted ++ records_of l)
              (sym (ap (λ (x : Shard D). x.added) moved.same));
        })

    -- all records are published, or pushed, or wait still
    pub stands-shown : (o : Opening D) (s t : Shard D) (log : List Entry) (marks : List (Mark D)) → Stands o s log marks →
        s.added ≡ [] → t ≡ record s { writer = t.writer; unpushed = t.unpushed } →
        KeepsRecords s t → Stands o t log marks
    stands-shown o s t log marks stands noted same keeps =
        let added : t.added ≡ [] = ap (λ (x : Shard D). x.added) same ∙ noted in
        stands-up o s t log marks (stands-down o s log marks stands) same
        (indexed-still o s t log stands.indexed keeps added)

    -- entries are added, and their records wait
    pub stands-adding : (o : Opening D) (s t u : Shard D) (log : List Entry) (marks : List (Mark D)) (es : List Entry) → Stands o s log marks →
        Holds tells seen moment left_since may_leave counts o t (log ++ es)
        (marks ++ marks_beside (mark_of t) es) → u ≡ record t { unpushed = u.unpushed } →
        t.writer ≡ s.writer → u.unpushed.items ≡ s.unpushed.items ++ records_of es → t.added ≡ es →
        Stands o u (log ++ es) (marks ++ marks_beside (mark_of u) es)
    stands-adding o s t u log marks es stands holds same writer waiting added =
        let to : u.writer ≡ t.writer = ap (λ (x : Shard D). x.writer) same in
        let at : u ≡ record t { writer = u.writer; unpushed = u.unpushed } = same
        ∙ ap (λ (w : WriterKnowledge). record t { writer = w; unpushed = u.unpushed })
        (sym to) in
        subst (λ (m : Mark D). Stands o u (log ++ es) (marks ++ marks_beside m es))
        (sym (ap (λ (x : Shard D). mark_of x) same))
        (stands-up o t u (log ++ es) (marks ++ marks_beside (mark_of t) es) holds at
        (indexed-adds o s u log es stands.indexed (to ∙ writer) waiting
        (ap (λ (x : Shard D). x.added) same ∙ added)))

    -- what waits may be pushed
    pub may-push : StatesStand → (o : Opening D) (s : Shard D) (log : List Entry) (marks : List (Mark D)) → Stands o s log marks →
        MayPush s.writer s.unpushed.items
    may-push law o s log marks stands k r there =
        let has = stands.indexed in
        let op : State = o.book.state in
        let sent : List Record = s.writer.published ++ s.writer.pending in
        let first : List Record = take k s.unpushed.items in
        let rs : List Record = sent ++ first in
        let at = at-place s.unpushed.items k r there in
        let split : records_of log ≡ rs ++ r ∷ at.more = sym has.records
        ∙ ap (λ (l : List Record). sent ++ l) at.is
        ∙ sym (append_assoc sent first (r ∷ at.more)) in
        let e = entry-of log rs r at.more split in
        let next : IsNextEntry (served_by o) op e.head e.entry =
        stands.leads.legal e.head e.entry e.rest e.log_is in
        let recorded : r.moment ≡ e.entry.moment =
        subst (λ (q : Option Record). IfSome q (λ (x : Record). x.moment ≡ e.entry.moment))
        e.kept_is next.recorded in
        let before : state_after op e.head ≡ apply_all op rs =
        ap (λ (l : List Record). apply_all op l) e.before_is in
        let begins : AreAlike s.writer.opening op =
        subst (λ (q : State). AreAlike q op) (sym (has.opening ∙ has.leases))
        (record { table = refl; last = refl }) in
        let alike : AreAlike (apply_all s.writer.opening rs) (apply_all op rs) =
        all-alike rs s.writer.opening op begins in
        let low : (apply_all op rs).last ≤ e.entry.moment =
        subst (λ (q : State). q.last ≤ e.entry.moment) before next.after_records in
        let same = alike.last in
        let joins : log ≡ (e.head ++ e.entry ∷ []) ++ e.rest = e.log_is
        ∙ sym (append_assoc e.head (e.entry ∷ []) e.rest) in
        let after = law (served_by o) op (e.head ++ e.entry ∷ []) e.rest stands.opening
        (subst (IsLegal (served_by o) op) joins stands.leads.legal) in
        let grown : state_after op (e.head ++ e.entry ∷ []) ≡ apply (apply_all op rs) r =
        state-append op e.head (e.entry ∷ [])
        ∙ ap (λ (q : State). apply_all q (records_of (e.entry ∷ []))) before
        ∙ ap (λ (q : Option Record). apply_all (apply_all op rs) (cons_option q []))
        e.kept_is in
        let sound : Sound (apply (apply_all op rs) r).table =
        subst (λ (q : State). Sound q.table) grown after.reached.sound.table in
        record {
          later = omega (arith, low, same, recorded);
          sound = subst Sound
              (sym (apply-alike r (apply_all s.writer.opening rs) (apply_all op rs) alike).table)
              sound;
        }

    -- what is published are records of noted entries
    pub published-noted : (o : Opening D) (s : Shard D) (log : List Entry) (marks : List (Mark D)) →
        Stands o s (log ++ s.added) marks → IsPublishedOf s log
    published-noted o s log marks stands =
        let has = stands.indexed in
        let w = s.writer in
        let sent : List Record = w.published ++ w.pending in
        let added : List Record = records_of s.added in
        let all : (sent ++ has.noted) ++ added ≡ records_of log ++ added =
        append_assoc sent has.noted added ∙ sym (ap (λ (l : List Record). sent ++ l) has.unnoted)
        ∙ has.records ∙ filter_map-append (λ (e : Entry). e.kept) log s.added in
        let front : sent ++ has.noted ≡ records_of log =
        append_cancel_right (sent ++ has.noted) (records_of log) added all in
        let first = first-of log w.published (w.pending ++ has.noted)
        (sym front ∙ append_assoc w.published w.pending has.noted) in
        record {
          first = first.first;
          more = first.more;
          noted_is = first.log_is;
          published = first.before_is;
        }

    -- a held shard of which all records are published, or wait still
    pub held-shown : (turn : TurnName (Opening D)) (p : PassKnowledge Entry (Mark D)) (s t : Shard D) →
        IsHeldBy tells seen moment left_since may_leave counts turn s p → IsWithLane s t → KeepsRecords s t →
        IsHeldBy tells seen moment left_since may_leave counts turn t p
    held-shown turn p s t held same keeps =
        record {
          turn_is = held.turn_is;
          out = held.out;
          stands = stands-shown turn.key s t p.seen p.marks held.stands held.noted same keeps;
          noted = ap (λ (x : Shard D). x.added) same ∙ held.noted;
        }
