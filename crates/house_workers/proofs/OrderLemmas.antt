-- Own entries, less faults, stand in the order of the jobs.
use Rattle.std.proofs.Common.{◌≡◌, ℕ, ◌/◌, ◌<◌, max, Bool, true, false, not, cond, eqb, ◌&&◌, if◌then◌else◌, List, [], ◌∷◌, length, map, filter, is_some, Option, Some, None, refl, sym, ap, subst, inl, inr, arith}
use Rattle.std.specs.List.{AllZip, cons_option}
use Rattle.std.proofs.lemmas.Bool.Decides.{nat_tests}
use Rattle.std.proofs.lemmas.List.Elements.{filter-append}
use Rattle.pcp_base.specs.declared.addresses.Address.{Address}
use Rattle.pcp_base.specs.declared.configs.Config.{Config}
use Rattle.pcp_base.specs.declared.datagrams.Datagram.{Datagram}
use Rattle.pcp_base.specs.declared.datagrams.Entry.{Entry}
use Rattle.pcp_base.specs.declared.records.Record.{Record}
use Rattle.pcp_base.specs.States.{State}
use Rattle.pcp_options.specs.Verdicts.{verdict_of}
use Rattle.journal_sides.specs.declared.errors.JournalFault.{JournalFault}
use Rattle.journal_sides.specs.declared.errors.JournalFault.TheVariants as JournalFaults
use Rattle.lease_store.specs.declared.terms.Terms.{Terms}
use Rattle.lease_core.specs.declared.decided.Decided.{Decided}
use Rattle.lease_core.specs.Decide.{decide}
use Rattle.lease_histories.specs.Entries.{EntryKind, OfRequest, Request, entry_kind, kind_without_octets, request_by, request_of}
use Rattle.lease_histories.specs.Legal.{base_after, moment_after}
use Rattle.lease_histories.specs.PlainHouses.{with_kept}
use Rattle.lease_histories.specs.Routes.{verdict_of_datagram}
use Rattle.lease_house.specs.declared.faults.HouseFault.{HouseFault}
use Rattle.lease_house.specs.declared.faults.HouseFault.TheVariants as HouseFaults
use Rattle.lease_house.specs.SoloCalls.{fault_at as fault_of}
use Rattle.job_queue.specs.declared.jobs.Job.{Job}
use Rattle.job_queue.specs.declared.jobs.Job.TheVariants as Jobs
use Rattle.job_workers.specs.Works.{DoesCalls, IsOfHouse, Lost, Refused, Replied, WorkCall, WorkResult, WorkState}
use Rattle.turned_shards.specs.declared.passes.HousePass.{HousePass}
use Rattle.turned_shards.specs.BatchEntries.{Asked, asked_by, asked_in, entries_along, entry_of, loss_at}
use Rattle.turned_shards.specs.FaultCounts.{is_of_fault}
use Rattle.turned_shards.specs.declared.openings.Opening.{Opening}
use Rattle.shared_house.specs.HouseCalls.{HouseView, batch_behind, before_own, loss_behind, raised_behind, raised_by_loss}
use Rattle.house_workers.specs.HouseCallsOf.{NotesOwn, calls_of}
use Rattle.house_workers.specs.OwnEntries.{IsEntryOf, StandInOrder, all_with_entries, is_asked, less_faults, own_in, with_entries}
use Rattle.house_workers.proofs.NoteLemmas.{zip_append}

-- ---- requests have octets

octets_asked : (config : Config) (source : Address) (octets : List ℕ) (r : Request)
    → request_by (verdict_of_datagram config source octets) ≡ Some r → 0 < length octets
unfolding verdict_of_datagram verdict_of
octets_asked config source [] r e = absurd cc
octets_asked config source (x ∷ xs) r e = omega arith

kind_by : (b c : Bool) (kept : Option Record) → b ≡ false
    → (if b && c then kind_without_octets kept else OfRequest) ≡ OfRequest
kind_by false c kept h = refl
kind_by true c kept h = absurd cc

no_fault : (e : Entry) → 0 < length e.from.octets → not (is_of_fault (entry_kind e)) ≡ true
no_fault e some =
    let test : eqb (length e.from.octets) 0 ≡ false = grind (arith, nat_tests, some) in
    ap (λ (k : EntryKind). not (is_of_fault k)) (kind_by (eqb (length e.from.octets) 0) (eqb (length e.reply) 0) e.kept test)

-- ---- a batch

order_one : (terms : Terms) (m base : ℕ) (d : Datagram) (jobs : List Job) (asked : List Asked) (s : State) (r : Option Request)
    → ((q : Request) → r ≡ Some q → 0 < length d.octets)
    → ((t : State) → AllZip IsEntryOf jobs (less_faults (entries_along terms t m base asked)))
    → AllZip IsEntryOf (cond {A = List Job} (is_some r) (Jobs.Packet d ∷ jobs) jobs)
    (less_faults (entries_along terms s m base (cons_option (asked_by d r) asked)))
order_one terms m base d jobs asked s None some rest = rest s
order_one terms m base d jobs asked s (Some q) some rest =
    let decided : Decided = decide terms s m q.ask in
    let e : Entry = entry_of terms.external.address m base (record { from = d; request = q }) decided in
    let later : List Entry = less_faults (entries_along terms (with_kept s decided.kept) m base asked) in
    subst (λ (b : Bool). AllZip IsEntryOf (Jobs.Packet d ∷ jobs) (cond {A = List Entry} b (e ∷ later) later))
    (sym (no_fault e (some q refl))) (refl, rest (with_kept s decided.kept))

batch_in_order : (config : Config) (terms : Terms) (m base : ℕ) (batch : List Datagram) (s : State)
    → AllZip IsEntryOf (filter (is_asked config) (map Jobs.Packet batch)) (less_faults (entries_along terms s m base (asked_in config batch)))
batch_in_order config terms m base [] s = tt
batch_in_order config terms m base (d ∷ ds) s =
    order_one terms m base d (filter (is_asked config) (map Jobs.Packet ds)) (asked_in config ds) s (request_of config d)
    (λ q e. octets_asked config d.peer d.octets q e) (λ t. batch_in_order config terms m base ds t)

-- ---- a call

-- without memory a call noted nothing, or what was wanted
memory_in_order : (config : Config) (jobs : List Job) (own : List Entry) → AllZip IsEntryOf (filter (is_asked config) jobs) (less_faults own)
    → AllZip IsEntryOf (with_entries config (Refused HouseFaults.Memory) own jobs) (less_faults own)
memory_in_order config jobs [] h = tt
memory_in_order config jobs (e ∷ own) h = h

loss_in_order : (config : Config) (m base : ℕ) → AllZip IsEntryOf (filter (is_asked config) (Jobs.Lose ∷ [])) (less_faults (loss_at m base ∷ []))
loss_in_order config m base = ((_, refl, refl), tt)

loss_told : {D : Type 0} (config : Config) (o : Opening D) (log : List Entry) (now heard : ℕ)
    → AllZip IsEntryOf (filter (is_asked config) (Jobs.Lose ∷ [])) (less_faults (loss_behind o log now heard))
loss_told config o log now heard =
    loss_in_order config (max now (moment_after o.book.state log)) (max heard (base_after o.book.state log))

-- what is so of these jobs and entries
as_told : (config : Config) (result : WorkResult) (jobs js : List Job) (own es : List Entry) → jobs ≡ js → own ≡ es
    → AllZip IsEntryOf (with_entries config result es js) (less_faults es)
    → AllZip IsEntryOf (with_entries config result own jobs) (less_faults own)
as_told config result jobs js own es e d h =
    subst (λ (l : List Job). AllZip IsEntryOf (with_entries config result own l) (less_faults own)) (sym e)
    (subst (λ (l : List Entry). AllZip IsEntryOf (with_entries config result l js) (less_faults l)) (sym d) h)

as_refused : (config : Config) (fault told : HouseFault) (jobs : List Job) (own : List Entry) → fault ≡ told
    → AllZip IsEntryOf (with_entries config (Refused told) own jobs) (less_faults own)
    → AllZip IsEntryOf (with_entries config (Refused fault) own jobs) (less_faults own)
as_refused config fault told jobs own e h =
    subst (λ (f : HouseFault). AllZip IsEntryOf (with_entries config (Refused f) own jobs) (less_faults own)) (sym e) h

-- a batch of the configuration with which the history began
batch_told : (config opened : Config) (terms : Terms) (m base : ℕ) (batch : List Datagram) (s : State) → opened ≡ config
    → AllZip IsEntryOf (filter (is_asked config) (map Jobs.Packet batch)) (less_faults (entries_along terms s m base (asked_in opened batch)))
batch_told config opened terms m base batch s e =
    subst (λ (k : Config). AllZip IsEntryOf (filter (is_asked config) (map Jobs.Packet batch)) (less_faults (entries_along terms s m base (asked_in k batch))))
    (sym e) (batch_in_order config terms m base batch s)

module _ {D : Type 0} (tells : Type 0) (seen : D → List ℕ) (moment : D → ℕ)
    (left_since : D → ℕ → List ℕ → Type 0) (may_leave : D → List ℕ → Type 0) (faults : D → ℕ)
  where
    batch_refused : (house : HouseView D) (now : ℕ) (o : Opening D) (batch : List Datagram) (old new : HousePass D) (jobs : List Job) (own : List Entry) (place : ℕ) (fault : HouseFault) (cause : JournalFault)
        → o.config ≡ house.config → jobs ≡ map Jobs.Packet batch → fault ≡ fault_of place cause
        → NotesOwn tells seen moment left_since may_leave faults now o (λ log. batch_behind o log now new.epoch.heard batch) (raised_behind o) old new own cause
        → AllZip IsEntryOf (with_entries house.config (Refused fault) own jobs) (less_faults own)
    batch_refused house now o batch old new jobs own place fault JournalFaults.Disk opened are e n =
        as_refused house.config fault (HouseFaults.Disk place) jobs own e
        (as_told house.config (Refused (HouseFaults.Disk place)) jobs jobs own _ refl n.0.own_is tt)
    batch_refused house now o batch old new jobs own place fault JournalFaults.Memory opened are e (inl n) =
        as_refused house.config fault HouseFaults.Memory jobs own e
        (as_told house.config (Refused HouseFaults.Memory) jobs jobs own [] refl n.own_is tt)
    batch_refused house now o batch old new jobs own place fault JournalFaults.Memory opened are e (inr n) =
        as_refused house.config fault HouseFaults.Memory jobs own e
        (as_told house.config (Refused HouseFaults.Memory) jobs (map Jobs.Packet batch) own _ are n.own_is
        (memory_in_order house.config (map Jobs.Packet batch) _
        (batch_told house.config o.config _ _ _ batch _ opened)))

    loss_refused : (house : HouseView D) (now : ℕ) (o : Opening D) (old new : HousePass D) (jobs : List Job) (own : List Entry) (place : ℕ) (fault : HouseFault) (cause : JournalFault)
        → jobs ≡ Jobs.Lose ∷ [] → fault ≡ fault_of place cause
        → NotesOwn tells seen moment left_since may_leave faults now o (λ log. loss_behind o log now new.epoch.heard) (raised_by_loss o now) old new own cause
        → AllZip IsEntryOf (with_entries house.config (Refused fault) own jobs) (less_faults own)
    loss_refused house now o old new jobs own place fault JournalFaults.Disk are e n =
        as_refused house.config fault (HouseFaults.Disk place) jobs own e
        (as_told house.config (Refused (HouseFaults.Disk place)) jobs jobs own _ refl n.0.own_is tt)
    loss_refused house now o old new jobs own place fault JournalFaults.Memory are e (inl n) =
        as_refused house.config fault HouseFaults.Memory jobs own e
        (as_told house.config (Refused HouseFaults.Memory) jobs jobs own [] refl n.own_is tt)
    loss_refused house now o old new jobs own place fault JournalFaults.Memory are e (inr n) =
        as_refused house.config fault HouseFaults.Memory jobs own e
        (as_told house.config (Refused HouseFaults.Memory) jobs (Jobs.Lose ∷ []) own _ are n.own_is
        (memory_in_order house.config (Jobs.Lose ∷ []) (loss_behind o (before_own o old n.refuses.adds.others n.refuses.adds.settling) now new.epoch.heard)
        (loss_told house.config o (before_own o old n.refuses.adds.others n.refuses.adds.settling) now new.epoch.heard)))

    in_order : (house : HouseView D) (now : ℕ) (old new : HousePass D) (jobs : List Job) (own : List Entry) (result : WorkResult)
        → IsOfHouse (calls_of tells seen moment left_since may_leave faults house) now old new jobs own result
        → AllZip IsEntryOf (with_entries house.config result own jobs) (less_faults own)
    in_order house now old new jobs own (Replied handed) h =
        as_told house.config (Replied handed) jobs (map Jobs.Packet h.batch) own _ h.jobs_are h.answers.own_is
        (batch_told house.config h.answers.opening.config _ _ _ h.batch _ h.answers.opens.config)
    in_order house now old new jobs own Lost h =
        as_told house.config Lost jobs (Jobs.Lose ∷ []) own _ h.jobs_are h.loses.own_is
        (loss_told house.config h.loses.opening (before_own h.loses.opening old h.loses.loses.adds.others h.loses.loses.adds.settling) now new.epoch.heard)
    in_order house now old new jobs own (Refused fault) (inl h) =
        batch_refused house now h.refuses.opening h.batch old new jobs own old.shard fault h.refuses.cause h.refuses.opens.config h.jobs_are h.refuses.fault_is h.refuses.notes
    in_order house now old new jobs own (Refused fault) (inr h) =
        loss_refused house now h.refuses.opening old new jobs own old.shard fault h.refuses.cause h.jobs_are h.refuses.fault_is h.refuses.notes

    pub order_along : (house : HouseView D) (calls : List WorkCall) (a b : WorkState (HousePass D))
        → DoesCalls (calls_of tells seen moment left_since may_leave faults house) calls a b
        → StandInOrder house.config calls
    order_along house [] a b does = tt
    order_along house (c ∷ cs) a b does =
        subst (λ (l : List Entry). AllZip IsEntryOf (all_with_entries house.config (c ∷ cs)) l)
        (sym (filter-append (λ (e : Entry). not (is_of_fault (entry_kind e))) c.own (own_in cs)))
        (zip_append IsEntryOf (with_entries house.config c.result c.own c.jobs) (all_with_entries house.config cs) (less_faults c.own) (less_faults (own_in cs))
        (in_order house (c.time / 1000) a.pass does.0.pass c.jobs c.own c.result does.1.by_house)
        (order_along house cs does.0 b does.2))
