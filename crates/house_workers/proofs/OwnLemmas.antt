-- What the calls of a worker noted as their own.
use Rattle.std.proofs.Common.{◌≡◌, ◌∙◌, ℕ, ◌/◌, List, [], ◌∷◌, ◌++◌, sym, subst, inl, inr, append_assoc}
use Rattle.pcp_base.specs.declared.datagrams.Entry.{Entry}
use Rattle.journal_sides.specs.declared.errors.JournalFault.{JournalFault}
use Rattle.journal_sides.specs.declared.errors.JournalFault.TheVariants as JournalFaults
use Rattle.job_queue.specs.declared.jobs.Job.{Job}
use Rattle.job_workers.specs.Works.{DoesCalls, IsOfHouse, Lost, Refused, Replied, WorkCall, WorkResult, WorkState}
use Rattle.turn_lock.specs.Passes.{PassKnowledge}
use Rattle.turn_lock.specs.Marks.{marks_beside}
use Rattle.turned_shards.specs.declared.marks.Mark.{Mark}
use Rattle.turned_shards.specs.declared.openings.Opening.{Opening}
use Rattle.turned_shards.specs.declared.passes.HousePass.{HousePass}
use Rattle.shared_house.specs.HouseCalls.{AddsTo, HouseView, Notes, before_own}
use Rattle.house_workers.specs.HouseCallsOf.{NotesHere, NotesOwn, calls_of}
use Rattle.house_workers.specs.OwnEntries.{NotesInOrder, own_in}
use Rattle.house_workers.proofs.NoteLemmas.{notes_append, notes_none, notes_one}

-- a call that added these entries behind all that the pass then had seen
noted : {D : Type 0} (old new : PassKnowledge Entry (Mark D)) (others settling own : List Entry) → Notes old new others settling own
    → NotesInOrder old new own
noted old new others settling own h =
    notes_one old new (others ++ settling) ((old.seen ++ others) ++ settling) own
    (h.more ++ marks_beside h.mark own, sym (append_assoc old.marks h.more (marks_beside h.mark own)) ∙ sym h.marks)
    (append_assoc old.seen others settling) h.seen h.mine

module _ {D : Type 0} (tells : Type 0) (seen : D → List ℕ) (moment : D → ℕ)
    (left_since : D → ℕ → List ℕ → Type 0) (may_leave : D → List ℕ → Type 0) (faults : D → ℕ)
  where
    noted_as : (o : Opening D) (Settles : List Entry → List Entry → Type 0) (old new : HousePass D)
        (wanted : List Entry → List Entry) (own : List Entry) → (adds : AddsTo o Settles old new wanted)
        → own ≡ wanted (before_own o old adds.others adds.settling)
        → NotesInOrder old.history new.history own
    noted_as o Settles old new wanted own adds is =
        subst (λ (l : List Entry). NotesInOrder old.history new.history l) (sym is)
        (noted old.history new.history adds.others adds.settling _ adds.notes)

    noted_here : (now : ℕ) (o : Opening D) (wanted : List Entry → List Entry) (raised : List Entry → ℕ → ℕ)
        (old new : HousePass D) (own : List Entry)
        → NotesHere tells seen moment left_since may_leave faults now o wanted raised old new own
        → NotesInOrder old.history new.history own
    noted_here now o wanted raised old new own h =
        noted_as o _ old new wanted own h.refuses.adds h.own_is

    noted_own : (now : ℕ) (o : Opening D) (wanted : List Entry → List Entry) (raised : List Entry → ℕ → ℕ)
        (old new : HousePass D) (own : List Entry) (cause : JournalFault)
        → NotesOwn tells seen moment left_since may_leave faults now o wanted raised old new own cause
        → NotesInOrder old.history new.history own
    noted_own now o wanted raised old new own JournalFaults.Disk h = noted_here now o _ _ old new own h.0
    noted_own now o wanted raised old new own JournalFaults.Memory (inl h) = noted_here now o _ _ old new own h
    noted_own now o wanted raised old new own JournalFaults.Memory (inr h) = noted_here now o _ _ old new own h

    noted_in_call : (house : HouseView D) (now : ℕ) (old new : HousePass D) (jobs : List Job) (own : List Entry) (result : WorkResult)
        → IsOfHouse (calls_of tells seen moment left_since may_leave faults house) now old new jobs own result
        → NotesInOrder old.history new.history own
    noted_in_call house now old new jobs own (Replied handed) h =
        noted_as h.answers.opening _ old new _ own h.answers.serves.adds h.answers.own_is
    noted_in_call house now old new jobs own Lost h =
        noted_as h.loses.opening _ old new _ own h.loses.loses.adds h.loses.own_is
    noted_in_call house now old new jobs own (Refused fault) (inl h) =
        noted_own now h.refuses.opening _ _ old new own h.refuses.cause h.refuses.notes
    noted_in_call house now old new jobs own (Refused fault) (inr h) =
        noted_own now h.refuses.opening _ _ old new own h.refuses.cause h.refuses.notes

    pub noted_along : (house : HouseView D) (calls : List WorkCall) (a b : WorkState (HousePass D))
        → DoesCalls (calls_of tells seen moment left_since may_leave faults house) calls a b
        → NotesInOrder a.pass.history b.pass.history (own_in calls)
    noted_along house [] a b does =
        subst (λ (s : WorkState (HousePass D)). NotesInOrder a.pass.history s.pass.history []) (sym does) (notes_none a.pass.history)
    noted_along house (c ∷ cs) a b does =
        notes_append a.pass.history does.0.pass.history b.pass.history c.own (own_in cs)
        (noted_in_call house (c.time / 1000) a.pass does.0.pass c.jobs c.own c.result does.1.by_house)
        (noted_along house cs does.0 b does.2)
