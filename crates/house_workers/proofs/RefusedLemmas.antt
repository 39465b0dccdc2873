-- What was in doubt where a disk refused a call of a worker.
use Rattle.std.proofs.Common.{◌≡◌, ◌∙◌, ◌⊎◌, inl, inr, ℕ, ◌/◌, List, [], ◌∷◌, ◌++◌, length, map, Option, Some, None, refl, sym, ap, subst, append_assoc}
use Rattle.std.specs.List.{AllByRecursion, last_or, slice_get}
use Rattle.std.proofs.lemmas.List.{length-map, map-append}
use mathlib.Core.List.{IsPrefix}
use Rattle.pcp_base.specs.declared.datagrams.Datagram.{Datagram}
use Rattle.pcp_base.specs.declared.datagrams.Entry.{Entry}
use Rattle.pcp_base.specs.States.{State}
use Rattle.journal_sides.specs.declared.errors.JournalFault.{JournalFault}
use Rattle.journal_sides.specs.declared.errors.JournalFault.TheVariants as JournalFaults
use Rattle.lease_house.specs.declared.faults.HouseFault.{HouseFault}
use Rattle.lease_house.specs.declared.faults.HouseFault.TheVariants as HouseFaults
use Rattle.lease_house.specs.SoloCalls.{fault_at as fault_of}
use Rattle.lease_histories.specs.Entries.{Served}
use Rattle.job_queue.specs.declared.jobs.Job.{Job}
use Rattle.job_queue.specs.declared.jobs.Job.TheVariants as Jobs
use Rattle.job_workers.specs.Works.{DoesCalls, IsOfHouse, Lost, Refused, Replied, WorkCall, WorkResult, WorkState}
use Rattle.turned_shards.specs.declared.marks.Mark.{Mark}
use Rattle.turned_shards.specs.declared.openings.Opening.{Opening}
use Rattle.turned_shards.specs.declared.passes.HousePass.{HousePass}
use Rattle.turned_shards.specs.Crashes.{IsInDoubt, doubts_in}
use Rattle.turned_shards.specs.Shards.{served_by}
use Rattle.shared_house.specs.HouseCalls.{HouseView, MarksDoubt, batch_behind, before_own, loss_behind}
use Rattle.house_workers.specs.Crashes.{AreRefusedAlong, IsAskedFor, IsRefusedAlong}
use Rattle.house_workers.specs.HouseCallsOf.{IsOpeningOf, NotesHere, NotesOwn, calls_of, fault_behind}
use Rattle.house_workers.proofs.NoteLemmas.{at_first, prefix_trans, there_still}
use Rattle.house_workers.proofs.OwnLemmas.{noted_along}

some_same : {X : Type 0} (x y : X) → Some x ≡ Some y → x ≡ y
some_same x y e = cc

-- ---- lists of marks

doubts_stay : {D : Type 0} (marks more : List (Mark D)) (n : ℕ) (doubt : List Entry) →
    slice_get (doubts_in marks) n ≡ Some doubt → slice_get (doubts_in (marks ++ more)) n ≡ Some doubt
doubts_stay {D} marks more n doubt there =
    subst (λ (l : List (List Entry)). slice_get l n ≡ Some doubt)
    (sym (map-append (λ (m : Mark D). m.doubt) marks more))
    (there_still (doubts_in marks) (doubts_in more) n doubt there)

doubt_at_end : {D : Type 0} (marks : List (Mark D)) (m : Mark D) (n : ℕ) → length marks ≡ n →
    slice_get (doubts_in (marks ++ m ∷ [])) n ≡ Some m.doubt
doubt_at_end {D} marks m n many =
    subst (λ (l : List (List Entry)). slice_get l n ≡ Some m.doubt)
    (sym (map-append (λ (k : Mark D). k.doubt) marks (m ∷ [])))
    (subst (λ (k : ℕ). slice_get (doubts_in marks ++ m.doubt ∷ []) k ≡ Some m.doubt)
    (length-map marks (λ (k : Mark D). k.doubt) ∙ many) (at_first (doubts_in marks) [] m.doubt))

-- what was in doubt behind these entries was so, whatever was noted since
in_doubt_still : {D : Type 0} (x : Served) (opening : State) (marks more : List (Mark D)) (first doubt : List Entry) →
    IsInDoubt x opening (doubts_in marks) first doubt → IsInDoubt x opening (doubts_in (marks ++ more)) first doubt
in_doubt_still x opening marks more first doubt is = record {
  fault = is.fault;
  earlier = is.earlier;
  last = is.last;
  there = doubts_stay marks more is.earlier doubt is.there;
  legal = is.legal;
}

last_append : (o : Option Entry) (xs : List Entry) (y : Entry) → last_or o (xs ++ y ∷ []) ≡ Some y
last_append o [] y = refl
last_append o (x ∷ xs) y = last_append (Some x) xs y

-- the last entries of two lists that are the same
last_same : (xs ys : List Entry) (x y : Entry) → xs ++ x ∷ [] ≡ ys ++ y ∷ [] → x ≡ y
last_same xs ys x y same = some_same x y
    (sym (last_append None xs x) ∙ (ap (last_or None) same ∙ last_append None ys y))

module _ {D : Type 0} where
  -- the mark of a fault, in a history that grew
  refused_by : (o : Opening D) (call : WorkCall) (heard : ℕ) (wanted : List Entry → List Entry)
      (new : HousePass D) (before : List Entry) (fault : Entry) (history : List Entry)
      (marks : List (Mark D)) → ((log : List Entry) →
      IsAskedFor o log (call.time / 1000) heard call.jobs (wanted log)) → MarksDoubt o wanted new →
      new.history.seen ≡ before ++ fault ∷ [] → call.own ≡ fault ∷ [] →
      IsPrefix new.history.seen history → IsPrefix new.history.marks marks →
      IsRefusedAlong o history (doubts_in marks) call
  refused_by o call heard wanted new before fault history marks asks m seen own grown later =
      let same : fault ≡ m.fault = last_same before m.before fault m.fault (sym seen ∙ m.seen) in
      let all : marks ≡ (m.earlier ++ m.mark ∷ []) ++ later.0 =
      sym later.1 ∙ ap (λ (l : List (Mark D)). l ++ later.0) m.marks in
      let joined : marks ≡ m.earlier ++ (m.mark ∷ later.0) =
      all ∙ append_assoc m.earlier (m.mark ∷ []) later.0 in
      record {
        before = m.before;
        fault = m.fault;
        more = grown.0;
        history_is = sym grown.1 ∙ (ap (λ (l : List Entry). l ++ grown.0) m.seen
            ∙ append_assoc m.before (m.fault ∷ []) grown.0);
        own = own ∙ ap (λ (e : Entry). e ∷ []) same;
        doubt = m.mark.doubt;
        there = subst (λ (l : List (Mark D)). slice_get (doubts_in l) (length m.before) ≡ Some m.mark.doubt)
            (sym all) (doubts_stay (m.earlier ++ m.mark ∷ []) later.0 (length m.before) m.mark.doubt
            (doubt_at_end m.earlier m.mark (length m.before) m.one_each));
        heard = heard;
        asked = by m.doubt joined;
      }
    where
      by : (m.mark.doubt ≡ wanted m.before) ⊎ ((m.mark.doubt ≡ [])
          ⊎ IsInDoubt (served_by o) o.book.state (doubts_in m.earlier) m.before m.mark.doubt) →
          marks ≡ m.earlier ++ (m.mark ∷ later.0) →
          IsAskedFor o m.before (call.time / 1000) heard call.jobs m.mark.doubt
          ⊎ ((m.mark.doubt ≡ []) ⊎ IsInDoubt (served_by o) o.book.state (doubts_in marks) m.before m.mark.doubt)
      by (inl is) joined = inl (subst (IsAskedFor o m.before (call.time / 1000) heard call.jobs) (sym is)
          (asks m.before))
      by (inr (inl none)) joined = inr (inl none)
      by (inr (inr is)) joined = inr (inr (subst (λ (l : List (Mark D)).
          IsInDoubt (served_by o) o.book.state (doubts_in l) m.before m.mark.doubt) (sym joined)
          (in_doubt_still (served_by o) o.book.state m.earlier (m.mark ∷ later.0) m.before m.mark.doubt is)))

  one_opening : (house : HouseView D) (old : HousePass D) (o p : Opening D) → IsOpeningOf house old o →
      IsOpeningOf house old p → p ≡ o
  one_opening house old o p is was =
      let turn = some_same was.begins.0 is.begins.0 (sym was.begins.1 ∙ is.begins.1) in
      sym was.begins.2 ∙ (ap (λ t. t.key) turn ∙ is.begins.2)

  pub stays_opening : (house : HouseView D) (old new : HousePass D) (o : Opening D) → new.shard ≡ old.shard
      → IsOpeningOf house old o → IsOpeningOf house new o
  stays_opening house old new o place is = record {
    begins = (
      is.begins.0,
      subst (λ n. slice_get house.turns n ≡ Some is.begins.0) (sym place) is.begins.1,
      is.begins.2,
    );
    config = is.config;
  }

module _ {D : Type 0} (tells : Type 0) (seen : D → List ℕ) (moment : D → ℕ)
    (left_since : D → ℕ → List ℕ → Type 0) (may_leave : D → List ℕ → Type 0) (faults : D → ℕ)
  where
    -- a call with this cause
    by_cause : (house : HouseView D) (p o : Opening D) (call : WorkCall) (now : ℕ) (wanted : List Entry → List Entry)
        (raised : List Entry → ℕ → ℕ) (old new : HousePass D) (fault : HouseFault) (cause : JournalFault) (place : ℕ)
        (history : List Entry) (marks : List (Mark D)) → p ≡ o → ((log : List Entry) →
        IsAskedFor p log (call.time / 1000) new.epoch.heard call.jobs (wanted log)) → fault ≡ fault_of old.shard cause →
        fault ≡ HouseFaults.Disk place → NotesOwn tells seen moment left_since may_leave faults now p wanted raised old new call.own cause →
        IsPrefix new.history.seen history → IsPrefix new.history.marks marks →
        IsRefusedAlong o history (doubts_in marks) call
    by_cause house p o call now wanted raised old new fault JournalFaults.Memory place history marks same asks is disk notes grown later =
        absurd (cc (is, disk))
    by_cause house p o call now wanted raised old new fault JournalFaults.Disk place history marks same asks is disk notes grown later =
        let n = notes.0.refuses.adds in
        let before = before_own p old n.others n.settling in
        subst (λ (k : Opening D). IsRefusedAlong k history (doubts_in marks) call) same
        (refused_by p call new.epoch.heard wanted new before _ history marks asks notes.1 n.notes.seen notes.0.own_is grown later)

    refused_in_call : (house : HouseView D) (o : Opening D) (call : WorkCall) (old new : HousePass D) (place : ℕ)
        (history : List Entry) (marks : List (Mark D)) (result : WorkResult) → result ≡ Refused (HouseFaults.Disk place) →
        IsOpeningOf house old o →
        IsOfHouse (calls_of tells seen moment left_since may_leave faults house) (call.time / 1000) old new call.jobs call.own result →
        IsPrefix new.history.seen history → IsPrefix new.history.marks marks →
        IsRefusedAlong o history (doubts_in marks) call
    refused_in_call house o call old new place history marks (Replied handed) is opens h grown later = absurd cc
    refused_in_call house o call old new place history marks Lost is opens h grown later = absurd cc
    refused_in_call house o call old new place history marks (Refused fault) is opens (inl h) grown later =
        let a = h.refuses in
        let disk : fault ≡ HouseFaults.Disk place = cc in
        by_cause house a.opening o call (call.time / 1000) (λ log. batch_behind a.opening log (call.time / 1000) new.epoch.heard h.batch)
        _ old new fault a.cause place history marks (one_opening house old o a.opening opens a.opens)
        (λ log. inl (h.batch, h.jobs_are, refl)) a.fault_is disk a.notes grown later
    refused_in_call house o call old new place history marks (Refused fault) is opens (inr h) grown later =
        let a = h.refuses in
        let disk : fault ≡ HouseFaults.Disk place = cc in
        by_cause house a.opening o call (call.time / 1000) (λ log. loss_behind a.opening log (call.time / 1000) new.epoch.heard)
        _ old new fault a.cause place history marks (one_opening house old o a.opening opens a.opens)
        (λ log. inr (h.jobs_are, refl)) a.fault_is disk a.notes grown later

    pub refused_along : (house : HouseView D) (o : Opening D) (calls : List WorkCall) (a b : WorkState (HousePass D))
        (history : List Entry) (marks : List (Mark D)) → IsOpeningOf house a.pass o →
        DoesCalls (calls_of tells seen moment left_since may_leave faults house) calls a b →
        IsPrefix b.pass.history.seen history → IsPrefix b.pass.history.marks marks →
        AreRefusedAlong o history (doubts_in marks) calls
    refused_along house o [] a b history marks opens does grown later = tt
    refused_along house o (c ∷ cs) a b history marks opens does grown later =
        let mid : HousePass D = does.0.pass in
        let rest = noted_along tells seen moment left_since may_leave faults house cs does.0 b does.2 in (
          λ place is. refused_in_call house o c a.pass mid place history marks c.result is opens does.1.by_house
              (prefix_trans mid.history.seen b.pass.history.seen history rest.seen grown)
              (prefix_trans mid.history.marks b.pass.history.marks marks rest.marks later),
          refused_along house o cs does.0 b history marks (stays_opening house a.pass mid o does.1.stays.place opens)
              does.2 grown later,
        )
