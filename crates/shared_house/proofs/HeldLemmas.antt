-- Calls on a held shard, one after the other, and between a take and a give.
use Rattle.std.specs.Prelude.{is_err, Result, Ok, Err, OnOk, OnErr, IfOk, IfErr}
use Rattle.std.specs.List.{range_with_len}
use Rattle.std.proofs.Common.{◌≡◌, ◌∙◌, ℕ, ◌+◌, ◌≤◌, max, List, [], ◌∷◌, ◌++◌, inl, inr, true, false}
use Rattle.std.proofs.Common.{Bool, length, map, refl, ap, sym, subst, arith}
use Rattle.std.proofs.Common.{◌⊎◌, Option, Some, None, append_assoc}
use Rattle.std.proofs.lemmas.List.{append-nil}
use Rattle.pcp_base.specs.declared.configs.Config.{Config}
use Rattle.pcp_base.specs.declared.datagrams.Datagram.{Datagram}
use Rattle.pcp_base.specs.declared.datagrams.Entry.{Entry}
use Rattle.pcp_base.specs.States.{State}
use Rattle.lease_store.specs.declared.terms.Terms.{Terms}
use Rattle.lease_store.specs.LeaseTerms.{terms_of}
use Rattle.lease_store.specs.Lookups.{lease_count}
use Rattle.journal_sides.specs.declared.errors.JournalFault.{JournalFault}
use Rattle.journal_sides.specs.declared.errors.JournalFault.TheVariants.{Disk, Memory}
use Rattle.lane_index.specs.Lanes.{ToldRecords}
use Rattle.lease_histories.proofs.Growing.{state-more}
use Rattle.lease_histories.specs.Legal.{IsLegal, base_after, moment_after, state_after}
use Rattle.turn_lock.specs.Passes.{PassKnowledge, SeesMore, after_give, after_note}
use Rattle.epoch_word.specs.Rule.{SeatKnowledge}
use Rattle.turn_lock.specs.Marks.{marks_beside}
use Rattle.turned_shards.specs.declared.marks.Mark.{Mark}
use Rattle.turned_shards.specs.Crashes.{IsInDoubt, doubts_in}
use Rattle.turned_shards.specs.declared.openings.Opening.{Opening}
use Rattle.turned_shards.specs.declared.passes.HousePass.{HousePass}
use Rattle.turned_shards.specs.declared.shards.Shard.{Shard}
use Rattle.turned_shards.specs.BatchEntries.{asked_in, entries_along, fault_at, loss_at, reply_in}
use Rattle.shared_house.specs.HeldCalls.{FailsHeld, FailsWith, HearsAndRaises, HearsMore, LosesHeld}
use Rattle.shared_house.specs.HeldCalls.{MarksIfDisk, NotesBehind, NotesOwn, RefusesHeld, RefusesLoss}
use Rattle.shared_house.specs.HeldCalls.{ServesHeld, SettlesHeld, raised_to}
use Rattle.shared_house.specs.HouseCalls.{AddsTo, AsksTheWord, Hears, IsSettling, LosesHouse}
use Rattle.shared_house.specs.HouseCalls.{MayAskTheWord, MaySettle, Notes}
use Rattle.shared_house.specs.HouseCalls.{RefusesHouse, RefusesWith, ServesHouse, batch_behind}
use Rattle.shared_house.specs.HouseCalls.{before_own, loss_behind, raised_behind, raised_by_loss}
use Rattle.turned_shards.specs.Publishing.{IsWithLane, told_of}
use Rattle.turned_shards.specs.ShardCalls.{LeavesInDoubt, RefusesBatch, SettlesShard, StaysInDoubt}
use Rattle.turned_shards.specs.ShardCalls.{batch_entries, faults_of, loss_entries}
use Rattle.turned_shards.specs.Shards.{StandsFor, mark_of, served_by}

-- what two clauses on an Ok say together
pub if-ok-both : {X E : Type 0} (r : Result X E) (P : Type 0) (Q R : X → Type 0) → OnOk r P →
    IfOk r Q → (P → (x : X) → Q x → R x) → IfOk r R
if-ok-both (Ok x) P Q R p q f = f p x q
if-ok-both (Err e) P Q R p q f = tt

-- what two clauses on an Ok, each on what it gives, say together
pub if-ok-two : {X E : Type 0} (r : Result X E) (P Q R : X → Type 0) → IfOk r P → IfOk r Q →
    ((x : X) → P x → Q x → R x) → IfOk r R
if-ok-two (Ok x) P Q R p q f = f x p q
if-ok-two (Err e) P Q R p q f = tt

pub on-ok : {X E : Type 0} (r : Result X E) (P : Type 0) → P → OnOk r P
on-ok (Ok x) P p = p
on-ok (Err e) P p = tt

pub on-ok-weaker : {X E : Type 0} (r : Result X E) (P Q : Type 0) → OnOk r P → (P → Q) → OnOk r Q
on-ok-weaker (Ok x) P Q p f = f p
on-ok-weaker (Err e) P Q p f = tt

pub if-err-weaker : {X E : Type 0} (r : Result X E) (Q R : E → Type 0) → IfErr r Q →
    ((e : E) → Q e → R e) → IfErr r R
if-err-weaker (Ok x) Q R q f = tt
if-err-weaker (Err e) Q R q f = f e q

pub if-ok-weaker : {X E : Type 0} (r : Result X E) (Q R : X → Type 0) → IfOk r Q →
    ((x : X) → Q x → R x) → IfOk r R
if-ok-weaker (Ok x) Q R q f = f x q
if-ok-weaker (Err e) Q R q f = tt

pub on-ok-from : {X E : Type 0} (r : Result X E) (Q : X → Type 0) (P : Type 0) → IfOk r Q →
    ((x : X) → Q x → P) → OnOk r P
on-ok-from (Ok x) Q P q f = f x q
on-ok-from (Err e) Q P q f = tt

pub on-err-from : {X E : Type 0} (r : Result X E) (Q : E → Type 0) (P : Type 0) → IfErr r Q →
    ((e : E) → Q e → P) → OnErr r P
on-err-from (Ok x) Q P q f = tt
on-err-from (Err e) Q P q f = f e q

pub if-err-two : {X E : Type 0} (r : Result X E) (P Q R : E → Type 0) → IfErr r P → IfErr r Q →
    ((e : E) → P e → Q e → R e) → IfErr r R
if-err-two (Ok x) P Q R p q f = tt
if-err-two (Err e) P Q R p q f = f e p q

own-none : {M : Type 0} (mark : M) (p : PassKnowledge Entry M) → p ≡ after_note true [] mark p
own-none {M} mark p =
    ap (λ (l : List Entry). record p { seen = l }) (sym (append-nil p.seen))
    ∙ ap (λ (l : List M). record p { seen = p.seen ++ []; marks = l }) (sym (append-nil p.marks))
    ∙ ap (λ (l : List ℕ). record p { seen = p.seen ++ []; marks = p.marks ++ []; mine = l })
    (sym (append-nil p.mine))

note-none : {M : Type 0} (mark : M) (p : PassKnowledge Entry M) → after_note false [] mark p ≡ p
note-none {M} mark p =
    ap (λ (l : List Entry). record p {
      seen = l;
      marks = p.marks ++ [];
      settled = p.settled ++ [];
    }) (append-nil p.seen)
    ∙ ap (λ (l : List M). record p { marks = l; settled = p.settled ++ [] }) (append-nil p.marks)
    ∙ ap (λ (l : List ℕ). record p { settled = l }) (append-nil p.settled)

-- what a seat raised and then was told
raises-told : (raised base : ℕ) (p q r : SeatKnowledge) → raised ≡ max p.raised base →
    q ≡ raised_to base p → r ≡ record q { heard = r.heard; asked = r.asked } →
    q.heard ≤ r.heard → Hears raised p r
raises-told raised base p q r is first then later =
    let here : q.heard ≡ p.heard = ap (λ (k : SeatKnowledge). k.heard) first in
    record {
      same = then ∙ ap (λ (k : SeatKnowledge). record k { heard = r.heard; asked = r.asked }) first
          ∙ ap (λ (n : ℕ). record p { raised = n; heard = r.heard; asked = r.asked }) (sym is);
      heard = omega (arith, here, later);
    }

-- the seat that was told
told-once : (q r : SeatKnowledge) → HearsMore q r →
    r ≡ record q { heard = r.heard; asked = r.asked }
told-once q r hears =
    let once : r.asked ≡ q.asked + 1 = ap (λ (k : SeatKnowledge). k.asked) hears.same in
    hears.same ∙ ap (λ (n : ℕ). record q { heard = r.heard; asked = n }) (sym once)

-- the word was asked once behind what was raised, or not at all
asks-then : (base : ℕ) (p q r : SeatKnowledge) → q ≡ raised_to base p → r.asked ≡ q.asked + 1 →
    AsksTheWord p r
asks-then base p q r first then = then ∙ ap (λ (k : SeatKnowledge). k.asked + 1) first

asks-nothing : (base : ℕ) (p q : SeatKnowledge) → q ≡ raised_to base p → MayAskTheWord p q
asks-nothing base p q first = inr (
  ap (λ (k : SeatKnowledge). k.asked) first,
  ap (λ (k : SeatKnowledge). k.heard) first,
)

asks-more : (base : ℕ) (p q r : SeatKnowledge) → q ≡ raised_to base p → HearsMore q r →
    AsksTheWord p r
asks-more base p q r first hears =
    asks-then base p q r first (ap (λ (k : SeatKnowledge). k.asked) hears.same)

asks-and-raises : (base m : ℕ) (p q r : SeatKnowledge) → q ≡ raised_to base p →
    HearsAndRaises q r m → AsksTheWord p r
asks-and-raises base m p q r first hears =
    asks-then base p q r first (ap (λ (k : SeatKnowledge). k.asked) hears.same)

told-raised : (base : ℕ) (p q r : SeatKnowledge) → q ≡ raised_to base p →
    r ≡ record q { heard = r.heard; asked = r.asked } → q.raised ≤ r.heard → r.raised ≤ r.heard
told-raised base p q r first then told =
    let same : r.raised ≡ q.raised = ap (λ (k : SeatKnowledge). k.raised) then in
    omega (arith, same, told)

-- what stands behind a pass that took a turn, noted twice, and gave it back
given-notes : {D : Type 0} (p h q k : PassKnowledge Entry (Mark D)) (others settling : List Entry)
    (own : List Entry → List Entry) (m n : Mark D) → SeesMore p h → p.seen ++ others ≡ h.seen →
    q ≡ after_note true (own (h.seen ++ settling)) n (after_note false settling m h) →
    k ≡ after_give q → Notes p k others settling (own ((p.seen ++ others) ++ settling))
given-notes {D} p h q k others settling own m n more came noted given =
    let log : (p.seen ++ others) ++ settling ≡ h.seen ++ settling =
    ap (λ (l : List Entry). l ++ settling) came in
    let is : k ≡ after_give
    (after_note true (own (h.seen ++ settling)) n (after_note false settling m h)) = given
    ∙ ap after_give noted in
    record {
      turn = ap (λ (x : PassKnowledge Entry (Mark D)). x.turn) is ∙ more.turn;
      home = ap (λ (x : PassKnowledge Entry (Mark D)). x.out) is;
      room = ap (λ (x : PassKnowledge Entry (Mark D)). x.room) is ∙ more.room;
      seen = ap (λ (x : PassKnowledge Entry (Mark D)). x.seen) is
          ∙ ap (λ (l : List Entry). l ++ own l) (sym log);
      more = more.marks.0 ++ marks_beside m settling;
      mark = n;
      marks = ap (λ (x : PassKnowledge Entry (Mark D)). x.marks) is
          ∙ ap (λ (l : List (Mark D)). (l ++ marks_beside m settling)
          ++ marks_beside n (own (h.seen ++ settling))) (sym more.marks.1)
          ∙ ap (λ (l : List (Mark D)). l ++ marks_beside n (own (h.seen ++ settling)))
          (append_assoc p.marks more.marks.0 (marks_beside m settling))
          ∙ ap (λ (l : List Entry). (p.marks ++ (more.marks.0 ++ marks_beside m settling))
          ++ marks_beside n (own l)) (sym log);
      settled = ap (λ (x : PassKnowledge Entry (Mark D)). x.settled) is
          ∙ ap (λ (l : List ℕ). l ++ range_with_len (length h.seen) (length settling)) more.settled
          ∙ ap (λ (l : List Entry). p.settled ++ range_with_len (length l) (length settling))
          (sym came);
      mine = ap (λ (x : PassKnowledge Entry (Mark D)). x.mine) is
          ∙ ap (λ (l : List ℕ). l ++ range_with_len (length (h.seen ++ settling))
          (length (own (h.seen ++ settling)))) more.mine
          ∙ ap (λ (l : List Entry). p.mine ++ range_with_len (length l) (length (own l))) (sym log);
    }

module _ {D : Type 0} (tells : Type 0) (seen : D → List ℕ) (moment : D → ℕ)
    (left_since : D → ℕ → List ℕ → Type 0) (may_leave : D → List ℕ → Type 0) (counts : D → ℕ) where
  abbrev Stands : Opening D → Shard D → List Entry → List (Mark D) → Type 0
  Stands = StandsFor tells seen moment left_since may_leave counts

  abbrev Settling : Opening D → ℕ → List Entry → List Entry → Type 0
  Settling o now = IsSettling o tells seen moment left_since may_leave counts now

  abbrev Settled : Opening D → ℕ → (old new : HousePass D) → Shard D → Type 0
  Settled o now p q s = SettlesHeld tells seen moment left_since may_leave counts o now p q s

  -- the entries of a batch are those behind the history for which the shard stands
  pub entries-behind : (o : Opening D) (config : Config) (now heard : ℕ) (batch : List Datagram)
      (s : Shard D) (log : List Entry) (marks : List (Mark D)) → config ≡ o.config →
      Stands o s log marks →
      batch_entries config now heard batch s ≡ batch_behind o log now heard batch
  entries-behind o config now heard batch s log marks same stands =
      let m : ℕ = max now s.moment in
      let base : ℕ = max heard s.base in
      ap (λ (c : Config). entries_along s.book.terms s.book.state m base (asked_in c batch)) same
      ∙ ap (λ (t : Terms). entries_along t s.book.state m base (asked_in o.config batch))
      stands.terms
      ∙ ap (λ (u : State). entries_along (terms_of (served_by o).external o.config) u m base
      (asked_in o.config batch)) (sym stands.leads.state)
      ∙ ap (λ (n : ℕ). entries_along (terms_of (served_by o).external o.config)
      (state_after o.book.state log) (max now n) base (asked_in o.config batch))
      (sym stands.leads.moment)
      ∙ ap (λ (n : ℕ). entries_along (terms_of (served_by o).external o.config)
      (state_after o.book.state log) (max now (moment_after o.book.state log)) (max heard n)
      (asked_in o.config batch)) (sym stands.leads.base)

  -- so is the loss
  pub loss-behind : (o : Opening D) (now heard : ℕ) (s : Shard D) (log : List Entry)
      (marks : List (Mark D)) → Stands o s log marks → loss_entries now heard s ≡ loss_behind o log now heard
  loss-behind o now heard s log marks stands =
      ap (λ (n : ℕ). loss_at (max now n) (max heard s.base) ∷ []) (sym stands.leads.moment)
      ∙ ap (λ (n : ℕ). loss_at (max now (moment_after o.book.state log)) (max heard n) ∷ [])
      (sym stands.leads.base)

  -- and a fault
  fault-behind : (o : Opening D) (s : Shard D) (log : List Entry) (marks : List (Mark D)) →
      Stands o s log marks →
      fault_at s.moment s.base ∷ [] ≡ fault_at (moment_after o.book.state log)
      (base_after o.book.state log) ∷ []
  fault-behind o s log marks stands =
      ap (λ (n : ℕ). fault_at n s.base ∷ []) (sym stands.leads.moment)
      ∙ ap (λ (n : ℕ). fault_at (moment_after o.book.state log) n ∷ []) (sym stands.leads.base)

  raised-as : (o : Opening D) (s : Shard D) (log : List Entry) (marks : List (Mark D)) (raised : ℕ) →
      Stands o s log marks →
      raised_behind o log raised ≡ max raised s.book.state.base
  raised-as o s log marks raised stands = ap (λ (u : State). max raised u.base) stands.leads.state

  -- a shard of which only the lane is another is as settled
  pub settles-on : (o : Opening D) (now : ℕ) (p q : HousePass D) (s t : Shard D) → IsWithLane s t →
      Settled o now p q s → Settled o now p q t
  settles-on o now p q s t same done =
      record {
        settling = done.settling;
        settles = done.settles;
        mark = done.mark;
        history = done.history;
        settled = ap (λ (x : Shard D). x.book.fault) same ∙ done.settled;
      }

  -- the shard stands for what the settled pass has seen
  settled-log : (o : Opening D) (now : ℕ) (p q : HousePass D) (s : Shard D)
      (done : Settled o now p q s) → Stands o s q.history.seen q.history.marks →
      Stands o s (p.history.seen ++ done.settling) q.history.marks
  settled-log o now p q s done stands = subst (λ (l : List Entry). Stands o s l q.history.marks)
      (ap (λ (h : PassKnowledge Entry (Mark D)). h.seen) done.history) stands

  -- own entries stand behind those of the settling
  noted-both : (o : Opening D) (now : ℕ) (p q r : HousePass D) (s : Shard D)
      (done : Settled o now p q s) (es fs : List Entry) → (notes : NotesOwn es q r) → es ≡ fs →
      r.history ≡ after_note true fs notes.0 (after_note false done.settling done.mark p.history)
  noted-both o now p q r s done es fs notes same = notes.1
      ∙ ap (λ (l : List Entry). after_note true l notes.0 q.history) same
      ∙ ap (after_note true fs notes.0) done.history

  -- what the shard added, noted as the call's own
  pub notes-added : (own : Bool) (es : List Entry) (t : Shard D) (p q : HousePass D) → own ≡ true →
      t.added ≡ es → q.history ≡ after_note own t.added (mark_of t) p.history → NotesOwn es p q
  notes-added own es t p q is same noted = (
    mark_of t,
    noted ∙ ap (λ (b : Bool). after_note b t.added (mark_of t) p.history) is
        ∙ ap (λ (l : List Entry). after_note true l (mark_of t) p.history) same,
  )

  -- a settling that was refused, noted
  pub refused-by : {X : Type 0} (r : Result X JournalFault) (own : Bool) (s t : Shard D)
      (p q : HousePass D) → own ≡ is_err r →
      IfErr r (StaysInDoubt tells moment left_since may_leave s t) →
      q.history ≡ after_note own t.added (mark_of t) p.history →
      IfErr r (λ (fault : JournalFault). NotesOwn (faults_of s.moment s.base fault) p q)
  refused-by (Ok x) own s t p q is stays noted = tt
  refused-by (Err fault) own s t p q is stays noted =
      notes-added own (faults_of s.moment s.base fault) t p q is
      (ap (λ (x : Shard D). x.added) stays.same) noted

  -- a batch that was refused, noted
  pub batch-refused : (config : Config) (now heard : ℕ) (batch : List Datagram) (s t : Shard D)
      (p q : HousePass D) (fault : JournalFault) → RefusesBatch config now heard batch s t fault →
      q.history ≡ after_note true t.added (mark_of t) p.history →
      RefusesHeld s (batch_entries config now heard batch s) p q fault
  batch-refused config now heard batch s t p q fault (inl leaves) noted =
      inl (notes-added true (faults_of s.moment s.base fault) t p q refl leaves.added noted)
  batch-refused config now heard batch s t p q fault (inr (is, adds)) noted =
      inr (is, notes-added true (batch_entries config now heard batch s) t p q refl adds.added noted)

  -- a settling, noted
  pub settled-by : {X E : Type 0} (o : Opening D) (now : ℕ) (r : Result X E) (own : Bool)
      (s t u : Shard D) (p q : HousePass D) → own ≡ is_err r → Stands o s p.history.seen p.history.marks →
      OnOk r (SettlesShard tells moment left_since may_leave now s t) →
      q.history ≡ after_note own t.added (mark_of t) p.history → u ≡ record t { added = [] } →
      OnOk r (Settled o now p q u)
  settled-by o now (Ok x) own s t u p q is stands settles noted same =
      record {
        settling = t.added;
        settles = record {
          shard = s;
          settled = t;
          marks = p.history.marks;
          stands = stands;
          settles = settles;
          added = refl;
        };
        mark = mark_of t;
        history = noted ∙ ap (λ (b : Bool). after_note b t.added (mark_of t) p.history) is;
        settled = ap (λ (v : Shard D). v.book.fault) same ∙ settles.settles.fault;
      }
  settled-by o now (Err e) own s t u p q is stands settles noted same = tt

  -- a settled shard, and then one that answers
  pub serves-held : (o : Opening D) (config : Config) (now : ℕ) (batch : List Datagram)
      (s : Shard D) (p q r : HousePass D) (replies : List Datagram) → config ≡ o.config →
      Settled o now p q s →
      Stands o s q.history.seen q.history.marks → q.epoch ≡ raised_to s.book.state.base p.epoch →
      NotesOwn (batch_entries config now r.epoch.heard batch s) q r →
      replies ≡ map reply_in (batch_entries config now r.epoch.heard batch s) →
      HearsMore q.epoch r.epoch →
      ServesHeld tells seen moment left_since may_leave counts o now batch p r replies
  serves-held o config now batch s p q r replies same done stands raised notes told hears =
      let log : List Entry = p.history.seen ++ done.settling in
      let here : Stands o s log q.history.marks = settled-log o now p q s done stands in
      let are : batch_entries config now r.epoch.heard batch s
      ≡ batch_behind o log now r.epoch.heard batch =
      entries-behind o config now r.epoch.heard batch s log q.history.marks same here in
      record {
        notes = record {
          settling = done.settling;
          settles = done.settles;
          settled_mark = done.mark;
          mark = notes.0;
          noted = noted-both o now p q r s done _ _ notes are;
        };
        told = told ∙ ap (λ (l : List Entry). map reply_in l) are;
        hears = raises-told (raised_behind o log p.epoch.raised)
            s.book.state.base p.epoch q.epoch r.epoch (raised-as o s log q.history.marks p.epoch.raised here)
            raised (told-once q.epoch r.epoch hears) hears.heard;
        asks = asks-more s.book.state.base p.epoch q.epoch r.epoch raised hears;
        raised = told-raised s.book.state.base p.epoch q.epoch r.epoch raised
            (told-once q.epoch r.epoch hears) hears.raised;
      }

  fails-with : (o : Opening D) (now : ℕ) (s : Shard D) (p q r : HousePass D) (es : List Entry)
      (own : List Entry → List Entry) (raised : List Entry → ℕ → ℕ) (done : Settled o now p q s) →
      Stands o s (p.history.seen ++ done.settling) q.history.marks →
      NotesOwn es q r → es ≡ own (p.history.seen ++ done.settling) →
      Hears (raised (p.history.seen ++ done.settling) p.epoch.raised) p.epoch r.epoch →
      MayAskTheWord p.epoch r.epoch →
      FailsWith tells seen moment left_since may_leave counts o now own raised p r
  fails-with o now s p q r es own raised done here notes are hears asks =
      record {
        notes = record {
          settling = done.settling;
          settles = inr done.settles;
          settled_mark = done.mark;
          mark = notes.0;
          noted = noted-both o now p q r s done es (own (p.history.seen ++ done.settling))
              notes are;
        };
        hears = hears;
        asks = asks;
      }

  -- the fault of the call is noted
  fails-noted : (o : Opening D) (now : ℕ) (s : Shard D) (p q r : HousePass D)
      (own : List Entry → List Entry) (raised : List Entry → ℕ → ℕ) (fault : JournalFault)
      (done : Settled o now p q s) → Stands o s (p.history.seen ++ done.settling) q.history.marks →
      NotesOwn (faults_of s.moment s.base fault) q r →
      Hears (raised_behind o (p.history.seen ++ done.settling) p.epoch.raised) p.epoch r.epoch →
      MayAskTheWord p.epoch r.epoch →
      FailsHeld tells seen moment left_since may_leave counts o now own raised p r fault
  fails-noted o now s p q r own raised Disk done here notes hears asks =
      fails-with o now s p q r (fault_at s.moment s.base ∷ [])
      (λ (log : List Entry). fault_at (moment_after o.book.state log)
      (base_after o.book.state log) ∷ []) (raised_behind o) done here notes
      (fault-behind o s (p.history.seen ++ done.settling) q.history.marks here) hears asks
  fails-noted o now s p q r own raised Memory done here notes hears asks =
      inl (fails-with o now s p q r [] (λ (log : List Entry). [])
      (raised_behind o) done here notes refl hears asks)

  -- what was asked is noted, and memory was wanting for what comes after that
  fails-after : (o : Opening D) (now : ℕ) (s : Shard D) (p q r : HousePass D)
      (own : List Entry → List Entry) (raised : List Entry → ℕ → ℕ) (fault : JournalFault)
      (done : Settled o now p q s) → Stands o s (p.history.seen ++ done.settling) q.history.marks →
      fault ≡ Memory → NotesOwn (own (p.history.seen ++ done.settling)) q r →
      Hears (raised (p.history.seen ++ done.settling) p.epoch.raised) p.epoch r.epoch →
      AsksTheWord p.epoch r.epoch →
      FailsHeld tells seen moment left_since may_leave counts o now own raised p r fault
  fails-after o now s p q r own raised Disk done here is notes hears asks = absurd cc
  fails-after o now s p q r own raised Memory done here is notes hears asks =
      inr (
        fails-with o now s p q r (own (p.history.seen ++ done.settling))
            own raised done here notes refl hears (inl asks),
        asks,
      )

  fails-by : (o : Opening D) (now : ℕ) (s : Shard D) (p q r : HousePass D)
      (own : List Entry → List Entry) (fault : JournalFault) (done : Settled o now p q s) →
      Stands o s (p.history.seen ++ done.settling) q.history.marks →
      RefusesHeld s (own (p.history.seen ++ done.settling)) q r fault →
      Hears (raised_behind o (p.history.seen ++ done.settling) p.epoch.raised) p.epoch r.epoch →
      AsksTheWord p.epoch r.epoch →
      FailsHeld tells seen moment left_since may_leave counts o now own (raised_behind o) p r fault
  fails-by o now s p q r own fault done here (inl notes) hears asks =
      fails-noted o now s p q r own (raised_behind o) fault done here notes hears (inl asks)
  fails-by o now s p q r own fault done here (inr (same, notes)) hears asks =
      fails-after o now s p q r own (raised_behind o) fault done here same notes hears asks

  -- a settled shard, and then one whose batch is refused
  pub fails-held : (o : Opening D) (config : Config) (now : ℕ) (batch : List Datagram) (s : Shard D)
      (p q r : HousePass D) (fault : JournalFault) → config ≡ o.config → Settled o now p q s →
      Stands o s q.history.seen q.history.marks → q.epoch ≡ raised_to s.book.state.base p.epoch →
      RefusesHeld s (batch_entries config now r.epoch.heard batch s) q r fault →
      HearsMore q.epoch r.epoch →
      FailsHeld tells seen moment left_since may_leave counts o now
      (λ (log : List Entry). batch_behind o log now r.epoch.heard batch)
      (raised_behind o) p r fault
  fails-held o config now batch s p q r fault same done stands raised refused hears =
      let log : List Entry = p.history.seen ++ done.settling in
      let here : Stands o s log q.history.marks = settled-log o now p q s done stands in
      let are : batch_entries config now r.epoch.heard batch s
      ≡ batch_behind o log now r.epoch.heard batch =
      entries-behind o config now r.epoch.heard batch s log q.history.marks same here in
      fails-by o now s p q r (λ (l : List Entry). batch_behind o l now r.epoch.heard batch)
      fault done here (subst (λ (es : List Entry). RefusesHeld s es q r fault) are refused)
      (raises-told (raised_behind o log p.epoch.raised) s.book.state.base p.epoch q.epoch r.epoch
      (raised-as o s log q.history.marks p.epoch.raised here) raised (told-once q.epoch r.epoch hears) hears.heard)
      (asks-more s.book.state.base p.epoch q.epoch r.epoch raised hears)

  unsettled-with : (o : Opening D) (now : ℕ) (p q : HousePass D) (es : List Entry)
      (own : List Entry → List Entry) → NotesOwn es p q → es ≡ own (p.history.seen ++ []) →
      Hears (raised_behind o (p.history.seen ++ []) p.epoch.raised) p.epoch q.epoch →
      MayAskTheWord p.epoch q.epoch →
      FailsWith tells seen moment left_since may_leave counts o now own (raised_behind o) p q
  unsettled-with o now p q es own notes are hears asks =
      record {
        notes = record {
          settling = [];
          settles = inl refl;
          settled_mark = notes.0;
          mark = notes.0;
          noted = notes.1 ∙ ap (λ (l : List Entry). after_note true l notes.0 p.history) are
              ∙ ap (after_note true (own (p.history.seen ++ [])) notes.0)
              (sym (note-none notes.0 p.history));
        };
        hears = hears;
        asks = asks;
      }

  -- the settling was refused
  pub unsettled-held : (o : Opening D) (now : ℕ) (s t : Shard D) (p q : HousePass D)
      (own : List Entry → List Entry) (up : List Entry → ℕ → ℕ) (fault : JournalFault) →
      Stands o s p.history.seen p.history.marks →
      NotesOwn (faults_of s.moment s.base fault) p q →
      q.epoch ≡ raised_to t.book.state.base p.epoch → t.book.state ≡ s.book.state →
      FailsHeld tells seen moment left_since may_leave counts o now own up p q fault
  unsettled-held o now s t p q own up fault stands notes raised same = by fault notes
    where
      here : Stands o s (p.history.seen ++ []) p.history.marks
      here = subst (λ (l : List Entry). Stands o s l p.history.marks)
          (sym (append-nil p.history.seen)) stands

      still : q.epoch ≡ raised_to s.book.state.base p.epoch
      still = raised ∙ ap (λ (u : State). raised_to u.base p.epoch) same

      hears : Hears (raised_behind o (p.history.seen ++ []) p.epoch.raised) p.epoch q.epoch
      hears = raises-told (raised_behind o (p.history.seen ++ []) p.epoch.raised)
          s.book.state.base p.epoch q.epoch q.epoch
          (raised-as o s (p.history.seen ++ []) p.history.marks p.epoch.raised here) still refl (omega arith)

      asks : MayAskTheWord p.epoch q.epoch
      asks = asks-nothing t.book.state.base p.epoch q.epoch raised

      by : (f : JournalFault) → NotesOwn (faults_of s.moment s.base f) p q →
          FailsHeld tells seen moment left_since may_leave counts o now own up p q f
      by Disk n = unsettled-with o now p q (fault_at s.moment s.base ∷ [])
          (λ (log : List Entry). fault_at (moment_after o.book.state log)
          (base_after o.book.state log) ∷ []) n
          (fault-behind o s (p.history.seen ++ []) p.history.marks here) hears asks
      by Memory n = inl (unsettled-with o now p q [] (λ (log : List Entry). []) n refl hears asks)

  -- the settling is noted, and memory was wanting to publish what waits
  pub unshown-held : (o : Opening D) (now : ℕ) (s : Shard D) (p q : HousePass D)
      (own : List Entry → List Entry) (up : List Entry → ℕ → ℕ) (fault : JournalFault) →
      fault ≡ Memory → Settled o now p q s →
      Stands o s q.history.seen q.history.marks → q.epoch ≡ raised_to s.book.state.base p.epoch →
      FailsHeld tells seen moment left_since may_leave counts o now own up p q fault
  unshown-held o now s p q own up fault is done stands raised =
      let log : List Entry = p.history.seen ++ done.settling in
      let here : Stands o s log q.history.marks = settled-log o now p q s done stands in
      let none : NotesOwn (faults_of s.moment s.base Memory) q q = (mark_of s, own-none (mark_of s) q.history) in
      fails-noted o now s p q q own up fault done here
      (subst (λ (f : JournalFault). NotesOwn (faults_of s.moment s.base f) q q) (sym is) none)
      (raises-told (raised_behind o log p.epoch.raised) s.book.state.base p.epoch q.epoch q.epoch
      (raised-as o s log q.history.marks p.epoch.raised here) raised refl (omega arith))
      (asks-nothing s.book.state.base p.epoch q.epoch raised)

  -- ---- a loss

  -- the base of the state is then the moment of the loss
  loss-base : (o : Opening D) (s : Shard D) (log : List Entry) (marks : List (Mark D)) (m base : ℕ) →
      Stands o s (log ++ loss_at m base ∷ []) marks → s.book.state.base ≡ m
  loss-base o s log marks m base stands = ap (λ (u : State). u.base)
      (sym stands.leads.state ∙ state-more o.book.state log (loss_at m base))

  twice-raised : (raised : ℕ) (base m : ℕ) (p q r : SeatKnowledge) →
      raised ≡ max (max p.raised base) m → q ≡ raised_to base p → HearsAndRaises q r m →
      Hears raised p r
  twice-raised raised base m p q r is first then =
      let here : q.heard ≡ p.heard = ap (λ (k : SeatKnowledge). k.heard) first in
      let later = then.heard in
      let once : r.asked ≡ p.asked + 1 = asks-and-raises base m p q r first then in
      record {
        same = then.same
            ∙ ap (λ (k : SeatKnowledge).
            record k { raised = max k.raised m; heard = r.heard; asked = k.asked + 1 }) first
            ∙ ap (λ (n : ℕ). record p { raised = n; heard = r.heard; asked = p.asked + 1 }) (sym is)
            ∙ ap (λ (n : ℕ). record p { raised = raised; heard = r.heard; asked = n }) (sym once);
        heard = omega (arith, here, later);
      }

  -- a settled shard, and then one that loses its leases
  pub loses-held : (o : Opening D) (now : ℕ) (s t : Shard D) (p q r : HousePass D) (count : ℕ) →
      Settled o now p q s →
      Stands o s q.history.seen q.history.marks → Stands o t r.history.seen r.history.marks →
      q.epoch ≡ raised_to s.book.state.base p.epoch →
      NotesOwn (loss_entries now r.epoch.heard s) q r →
      count ≡ lease_count s.book.state.table (max now s.moment) →
      HearsAndRaises q.epoch r.epoch t.book.state.base →
      LosesHeld tells seen moment left_since may_leave counts o now p r count
  loses-held o now s t p q r count done stands after raised notes counted hears =
      let log : List Entry = p.history.seen ++ done.settling in
      let here : Stands o s log q.history.marks = settled-log o now p q s done stands in
      let are : loss_entries now r.epoch.heard s ≡ loss_behind o log now r.epoch.heard =
      loss-behind o now r.epoch.heard s log q.history.marks here in
      let m : ℕ = max now (moment_after o.book.state log) in
      let noted : r.history ≡ after_note true (loss_behind o log now r.epoch.heard) notes.0
      (after_note false done.settling done.mark p.history) =
      noted-both o now p q r s done _ _ notes are in
      let there : Stands o t (log ++ loss_behind o log now r.epoch.heard) r.history.marks =
      subst (λ (l : List Entry). Stands o t l r.history.marks) (ap (λ (h : PassKnowledge Entry (Mark D)). h.seen) noted) after in
      let base : t.book.state.base ≡ m = loss-base o t log r.history.marks m
      (max r.epoch.heard (base_after o.book.state log)) there in
      let twice : HearsAndRaises q.epoch r.epoch m =
      subst (HearsAndRaises q.epoch r.epoch) base hears in
      let grown = raised-as o s log q.history.marks p.epoch.raised here in
      let first : q.epoch.raised ≡ max p.epoch.raised s.book.state.base =
      ap (λ (k : SeatKnowledge). k.raised) raised in
      let told = hears.raised in
      record {
        notes = record {
          settling = done.settling;
          settles = done.settles;
          settled_mark = done.mark;
          mark = notes.0;
          noted = noted;
        };
        counted = counted ∙ ap (λ (u : State). lease_count u.table (max now s.moment))
            (sym here.leads.state)
            ∙ ap (λ (n : ℕ). lease_count (state_after o.book.state log).table (max now n))
            (sym here.leads.moment);
        hears = twice-raised (max (raised_behind o log p.epoch.raised) m)
            s.book.state.base m p.epoch q.epoch r.epoch (ap (λ (n : ℕ). max n m) grown)
            raised twice;
        asks = asks-and-raises s.book.state.base m p.epoch q.epoch r.epoch raised twice;
        raised = omega (arith, grown, first, told);
      }

  -- a settled shard, and then one whose loss is refused
  keeps-held : (o : Opening D) (now : ℕ) (s t : Shard D) (p q r : HousePass D)
      (own : List Entry → List Entry) (up : List Entry → ℕ → ℕ) (fault : JournalFault) →
      Settled o now p q s →
      Stands o s q.history.seen q.history.marks → q.epoch ≡ raised_to s.book.state.base p.epoch →
      NotesOwn (faults_of s.moment s.base fault) q r → t.book.state ≡ s.book.state →
      HearsAndRaises q.epoch r.epoch t.book.state.base →
      FailsHeld tells seen moment left_since may_leave counts o now own up p r fault
  keeps-held o now s t p q r own up fault done stands raised notes same hears =
      let log : List Entry = p.history.seen ++ done.settling in
      let here : Stands o s log q.history.marks = settled-log o now p q s done stands in
      let base : t.book.state.base ≡ s.book.state.base = ap (λ (u : State). u.base) same in
      let grown = raised-as o s log q.history.marks p.epoch.raised here in
      let is : raised_behind o log p.epoch.raised
      ≡ max (max p.epoch.raised s.book.state.base) s.book.state.base = omega (arith, grown) in
      fails-noted o now s p q r own up fault done here notes
      (twice-raised (raised_behind o log p.epoch.raised)
      s.book.state.base s.book.state.base p.epoch q.epoch r.epoch is raised
      (subst (HearsAndRaises q.epoch r.epoch) base hears))
      (inl (asks-and-raises s.book.state.base t.book.state.base p.epoch q.epoch r.epoch raised
      hears))

  -- or whose loss is noted, and isn't published
  lost-held : (o : Opening D) (now : ℕ) (s t : Shard D) (p q r : HousePass D)
      (fault : JournalFault) → fault ≡ Memory → Settled o now p q s →
      Stands o s q.history.seen q.history.marks → Stands o t r.history.seen r.history.marks →
      q.epoch ≡ raised_to s.book.state.base p.epoch →
      NotesOwn (loss_entries now r.epoch.heard s) q r →
      HearsAndRaises q.epoch r.epoch t.book.state.base →
      FailsHeld tells seen moment left_since may_leave counts o now
      (λ (log : List Entry). loss_behind o log now r.epoch.heard)
      (raised_by_loss o now) p r fault
  lost-held o now s t p q r fault is done stands after raised notes hears =
      let log : List Entry = p.history.seen ++ done.settling in
      let here : Stands o s log q.history.marks = settled-log o now p q s done stands in
      let are : loss_entries now r.epoch.heard s ≡ loss_behind o log now r.epoch.heard =
      loss-behind o now r.epoch.heard s log q.history.marks here in
      let m : ℕ = max now (moment_after o.book.state log) in
      let noted : r.history ≡ after_note true (loss_behind o log now r.epoch.heard) notes.0
      (after_note false done.settling done.mark p.history) =
      noted-both o now p q r s done _ _ notes are in
      let there : Stands o t (log ++ loss_behind o log now r.epoch.heard) r.history.marks =
      subst (λ (l : List Entry). Stands o t l r.history.marks) (ap (λ (h : PassKnowledge Entry (Mark D)). h.seen) noted) after in
      let base : t.book.state.base ≡ m = loss-base o t log r.history.marks m
      (max r.epoch.heard (base_after o.book.state log)) there in
      let twice : HearsAndRaises q.epoch r.epoch m =
      subst (HearsAndRaises q.epoch r.epoch) base hears in
      let grown = raised-as o s log q.history.marks p.epoch.raised here in
      fails-after o now s p q r (λ (l : List Entry). loss_behind o l now r.epoch.heard)
      (raised_by_loss o now) fault done here is
      (subst (λ (l : List Entry). NotesOwn l q r) are notes)
      (twice-raised (max (raised_behind o log p.epoch.raised) m)
      s.book.state.base m p.epoch q.epoch r.epoch (ap (λ (n : ℕ). max n m) grown) raised twice)
      (asks-and-raises s.book.state.base m p.epoch q.epoch r.epoch raised twice)

  -- a settled shard, and then one whose loss is refused
  pub refuses-loss : (o : Opening D) (now : ℕ) (s t : Shard D) (p q r : HousePass D)
      (fault : JournalFault) → Settled o now p q s →
      Stands o s q.history.seen q.history.marks → Stands o t r.history.seen r.history.marks →
      q.epoch ≡ raised_to s.book.state.base p.epoch →
      RefusesLoss s t (loss_entries now r.epoch.heard s) q r fault →
      HearsAndRaises q.epoch r.epoch t.book.state.base →
      FailsHeld tells seen moment left_since may_leave counts o now
      (λ (log : List Entry). loss_behind o log now r.epoch.heard)
      (raised_by_loss o now) p r fault
  refuses-loss o now s t p q r fault done stands after raised (inl (notes, same)) hears =
      keeps-held o now s t p q r (λ (log : List Entry). loss_behind o log now r.epoch.heard)
      (raised_by_loss o now) fault done stands raised notes same hears
  refuses-loss o now s t p q r fault done stands after raised (inr (is, notes)) hears =
      lost-held o now s t p q r fault is done stands after raised notes hears

  -- ---- what is in doubt at a fault

  -- a settling was refused: what was in doubt is so still
  pub marks-settling : (o : Opening D) (s t : Shard D) (p q : HousePass D) (own : Bool)
      (wanted : List Entry → List Entry) (fault : JournalFault) →
      Stands o s p.history.seen p.history.marks →
      StaysInDoubt tells moment left_since may_leave s t fault →
      q.history ≡ after_note own t.added (mark_of t) p.history → MarksIfDisk o wanted q fault
  marks-settling o s t p q own wanted Memory stands stays noted = λ is. absurd cc
  marks-settling o s t p q own wanted Disk stands stays noted = λ is.
      let added : t.added ≡ fault_at s.moment s.base ∷ [] =
      ap (λ (x : Shard D). x.added) stays.same in
      record {
        before = p.history.seen;
        fault = fault_at s.moment s.base;
        seen = ap (λ (x : PassKnowledge Entry (Mark D)). x.seen) noted
            ∙ ap (λ (l : List Entry). p.history.seen ++ l) added;
        earlier = p.history.marks;
        one_each = stands.kept.one_each;
        mark = mark_of t;
        marks = ap (λ (x : PassKnowledge Entry (Mark D)). x.marks) noted
            ∙ ap (λ (l : List Entry). p.history.marks ++ marks_beside (mark_of t) l) added;
        doubt = inr (by s.book.fault refl);
      }
    where
      same : t.doubt ≡ s.doubt
      same = ap (λ (x : Shard D). x.doubt) stays.same

      by : (f : Option JournalFault) → s.book.fault ≡ f → (t.doubt ≡ [])
          ⊎ IsInDoubt (served_by o) o.book.state (doubts_in p.history.marks) p.history.seen t.doubt
      by (Some Disk) h = inr (subst
          (IsInDoubt (served_by o) o.book.state (doubts_in p.history.marks) p.history.seen)
          (sym same) (stands.kept.now h))
      by (Some Memory) h = inl (same ∙ stands.sure (λ failed. absurd (cc (h, failed))))
      by None h = inl (same ∙ stands.sure (λ failed. absurd (cc (h, failed))))

  -- entries that were asked for are in doubt
  pub marks-asked : (o : Opening D) (s t : Shard D) (p q : HousePass D) (own : Bool)
      (es : List Entry) (wanted : List Entry → List Entry) (fault : JournalFault) →
      Stands o s p.history.seen p.history.marks → es ≡ wanted p.history.seen →
      LeavesInDoubt es s t fault →
      q.history ≡ after_note own t.added (mark_of t) p.history → MarksIfDisk o wanted q fault
  marks-asked o s t p q own es wanted Memory stands are leaves noted = λ is. absurd cc
  marks-asked o s t p q own es wanted Disk stands are leaves noted = λ is. record {
    before = p.history.seen;
    fault = fault_at s.moment s.base;
    seen = ap (λ (x : PassKnowledge Entry (Mark D)). x.seen) noted
        ∙ ap (λ (l : List Entry). p.history.seen ++ l) leaves.added;
    earlier = p.history.marks;
    one_each = stands.kept.one_each;
    mark = mark_of t;
    marks = ap (λ (x : PassKnowledge Entry (Mark D)). x.marks) noted
        ∙ ap (λ (l : List Entry). p.history.marks ++ marks_beside (mark_of t) l) leaves.added;
    doubt = inl (leaves.doubt ∙ are);
  }

  -- so it is with a batch
  pub marks-batch : (o : Opening D) (config : Config) (now heard : ℕ) (batch : List Datagram)
      (s t : Shard D) (p q : HousePass D) (own : Bool) (fault : JournalFault) →
      config ≡ o.config → Stands o s p.history.seen p.history.marks →
      RefusesBatch config now heard batch s t fault →
      q.history ≡ after_note own t.added (mark_of t) p.history →
      MarksIfDisk o (λ (log : List Entry). batch_behind o log now heard batch) q fault
  marks-batch o config now heard batch s t p q own fault same stands (inl leaves) noted =
      marks-asked o s t p q own (batch_entries config now heard batch s)
      (λ (log : List Entry). batch_behind o log now heard batch) fault stands
      (entries-behind o config now heard batch s p.history.seen p.history.marks same stands)
      leaves noted
  marks-batch o config now heard batch s t p q own fault same stands (inr (is, adds)) noted =
      λ failed. absurd (cc (is, failed))

  -- without a disk's fault there is nothing to tell
  pub marks-nothing : (o : Opening D) (q : HousePass D) (wanted : List Entry → List Entry)
      (fault : JournalFault) → fault ≡ Memory → MarksIfDisk o wanted q fault
  marks-nothing o q wanted fault is = λ failed. absurd (cc (is, failed))

  -- ---- between a take and a give

  abbrev adds-to : (o : Opening D) (Settles : List Entry → List Entry → Type 0) (p : HousePass D)
      (h : PassKnowledge Entry (Mark D)) (q : HousePass D) (k : PassKnowledge Entry (Mark D))
      (own : List Entry → List Entry) → SeesMore p.history h →
      NotesBehind Settles (record p { history = h }) q own → k ≡ after_give q.history →
      IsLegal (served_by o) o.book.state q.history.seen →
      AddsTo o Settles p (record q { history = k }) own
  adds-to o Settles p h q k own more notes given legal =
      record {
        others = more.seen.0;
        settling = notes.settling;
        settles = subst (λ (l : List Entry). Settles l notes.settling)
            (sym more.seen.1) notes.settles;
        notes = given-notes p.history h q.history k more.seen.0 notes.settling own
            notes.settled_mark notes.mark more more.seen.1 notes.noted given;
        legal = subst (IsLegal (served_by o) o.book.state)
            (sym (ap (λ (n : PassKnowledge Entry (Mark D)). n.seen) given)) legal;
      }

  came-log : (o : Opening D) (p : HousePass D) (h : PassKnowledge Entry (Mark D))
      (others settling : List Entry) → p.history.seen ++ others ≡ h.seen →
      h.seen ++ settling ≡ before_own o p others settling
  came-log o p h others settling came = ap (λ (l : List Entry). l ++ settling) (sym came)

  -- a batch that is answered
  pub serves-house : (o : Opening D) (now : ℕ) (batch : List Datagram) (p : HousePass D)
      (h : PassKnowledge Entry (Mark D)) (q : HousePass D) (k : PassKnowledge Entry (Mark D))
      (replies : List Datagram) (lane : ToldRecords) → SeesMore p.history h →
      ServesHeld tells seen moment left_since may_leave counts o now batch
      (record p { history = h }) q replies → lane ≡ told_of o q.history.seen →
      k ≡ after_give q.history → IsLegal (served_by o) o.book.state q.history.seen →
      ServesHouse o tells seen moment left_since may_leave counts now batch p
      (record q { history = k }) replies lane
  serves-house o now batch p h q k replies lane more serves shown given legal =
      let log = came-log o p h more.seen.0 serves.notes.settling more.seen.1 in
      record {
        adds = adds-to o (Settling o now) p h q k
            (λ (l : List Entry). batch_behind o l now q.epoch.heard batch)
            more serves.notes given legal;
        told = subst
            (λ (l : List Entry). replies ≡ map reply_in (batch_behind o l now q.epoch.heard batch))
            log serves.told;
        hears = subst (λ (l : List Entry). Hears (raised_behind o l p.epoch.raised) p.epoch q.epoch)
            log serves.hears;
        asks = serves.asks;
        raised = serves.raised;
        published = shown ∙ ap (λ (n : PassKnowledge Entry (Mark D)). told_of o n.seen) (sym given);
      }

  -- leases that are lost
  pub loses-house : (o : Opening D) (now : ℕ) (p : HousePass D) (h : PassKnowledge Entry (Mark D))
      (q : HousePass D) (k : PassKnowledge Entry (Mark D)) (count : ℕ) (lane : ToldRecords) →
      SeesMore p.history h →
      LosesHeld tells seen moment left_since may_leave counts o now
      (record p { history = h }) q count → lane ≡ told_of o q.history.seen →
      k ≡ after_give q.history → IsLegal (served_by o) o.book.state q.history.seen →
      LosesHouse o tells seen moment left_since may_leave counts now p
      (record q { history = k }) count lane
  loses-house o now p h q k count lane more loses shown given legal =
      let log = came-log o p h more.seen.0 loses.notes.settling more.seen.1 in
      record {
        adds = adds-to o (Settling o now) p h q k
            (λ (l : List Entry). loss_behind o l now q.epoch.heard) more loses.notes given legal;
        counted = subst
            (λ (l : List Entry). count ≡ lease_count (state_after o.book.state l).table
            (max now (moment_after o.book.state l))) log loses.counted;
        hears = subst
            (λ (l : List Entry). Hears
            (max (raised_behind o l p.epoch.raised) (max now (moment_after o.book.state l)))
            p.epoch q.epoch) log loses.hears;
        asks = loses.asks;
        raised = subst (λ (l : List Entry). raised_behind o l p.epoch.raised ≤ q.epoch.heard)
            log loses.raised;
        published = shown ∙ ap (λ (n : PassKnowledge Entry (Mark D)). told_of o n.seen) (sym given);
      }

  refuses-with : (o : Opening D) (now : ℕ) (p : HousePass D) (h : PassKnowledge Entry (Mark D))
      (q : HousePass D) (k : PassKnowledge Entry (Mark D)) (own : List Entry → List Entry)
      (raised : List Entry → ℕ → ℕ) → SeesMore p.history h →
      FailsWith tells seen moment left_since may_leave counts o now own raised
      (record p { history = h }) q → k ≡ after_give q.history →
      IsLegal (served_by o) o.book.state q.history.seen →
      RefusesWith o tells seen moment left_since may_leave counts now own raised p
      (record q { history = k })
  refuses-with o now p h q k own raised more fails given legal =
      let log = came-log o p h more.seen.0 fails.notes.settling more.seen.1 in
      record {
        adds = adds-to o (MaySettle o tells seen moment left_since may_leave counts now)
            p h q k own more fails.notes given legal;
        hears = subst (λ (l : List Entry). Hears (raised l p.epoch.raised) p.epoch q.epoch)
            log fails.hears;
        asks = fails.asks;
      }

  -- a call that is refused
  pub refuses-house : (o : Opening D) (now : ℕ) (p : HousePass D) (h : PassKnowledge Entry (Mark D))
      (q : HousePass D) (k : PassKnowledge Entry (Mark D)) (own : List Entry → List Entry)
      (raised : List Entry → ℕ → ℕ) (fault : JournalFault) → SeesMore p.history h →
      FailsHeld tells seen moment left_since may_leave counts o now own raised
      (record p { history = h }) q fault → MarksIfDisk o own q fault → k ≡ after_give q.history →
      IsLegal (served_by o) o.book.state q.history.seen →
      RefusesHouse o tells seen moment left_since may_leave counts now own raised p
      (record q { history = k }) fault
  refuses-house o now p h q k own raised Disk more fails marked given legal = (
    refuses-with o now p h q k
        (λ (log : List Entry). fault_at (moment_after o.book.state log)
        (base_after o.book.state log) ∷ []) (raised_behind o) more fails given legal,
    let is = marked refl in
        record {
          before = is.before;
          fault = is.fault;
          seen = ap (λ (x : PassKnowledge Entry (Mark D)). x.seen) given ∙ is.seen;
          earlier = is.earlier;
          one_each = is.one_each;
          mark = is.mark;
          marks = ap (λ (x : PassKnowledge Entry (Mark D)). x.marks) given ∙ is.marks;
          doubt = is.doubt;
        },
  )
  refuses-house o now p h q k own raised Memory more (inl fails) marked given legal =
      inl (refuses-with o now p h q k (λ (log : List Entry). [])
      (raised_behind o) more fails given legal)
  refuses-house o now p h q k own raised Memory more (inr (fails, asks)) marked given legal =
      inr (refuses-with o now p h q k own raised more fails given legal, asks)
