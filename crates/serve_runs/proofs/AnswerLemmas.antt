-- What a `serve` answers, and by what.
use Rattle.std.proofs.Common.{◌≡◌, ◌≢◌, ◌∙◌, ◌⊎◌, inl, inr, ℕ, Bool, true, false, List, Option, None, Some, Result, Ok, Err, refl, sym, ap, subst}
use Rattle.pcp_base.specs.declared.configs.Config.{Config}
use Rattle.pcp_io.specs.Faults.{HasRisen}
use Rattle.lease_disk.specs.declared.disks.DiskPair.{DiskPair}
use Rattle.lease_house.specs.declared.faults.HouseFault.{HouseFault}
use Rattle.lease_house.specs.declared.faults.HouseFault.TheVariants as HouseFaults
use Rattle.journal_dump.specs.Dumps.{HasPairFault}
use Rattle.config_source.specs.declared.reading.ConfigFault.{ConfigFault}
use Rattle.config_source.specs.declared.reading.ConfigFault.TheVariants as ConfigFaults
use Rattle.server_commands.specs.declared.statuses.ConfigCause.{ConfigCause}
use Rattle.server_commands.specs.declared.statuses.Status.{Status}
use Rattle.server_commands.specs.declared.statuses.Status.TheVariants as Statuses
use Rattle.pcp_server.specs.Opened.{IsUnread}
use Rattle.pcp_server.specs.Outsides.{DiskMeanings}
use Rattle.pcp_server.specs.Statuses.{unopened_as, unread_as}
use Rattle.job_workers.specs.declared.tallies.TallyRow.{TallyRow}
use Rattle.request_workers.specs.declared.faults.ServeFault.{ServeFault}
use Rattle.request_workers.specs.declared.faults.ServeFault.TheVariants as ServeFaults
use Rattle.serve_runs.specs.Answers.{AnswersByCause, AnswersWithoutFault, CauseOf, IsServedToStop, IsNoFault, NothingFails, StreamFaults}
use Rattle.serve_runs.specs.Served.{IsLostAt, IsToldTo, ServeState, Serves, ServesConfig, ended_as, first_lost}

-- ---- what is told once there is a configuration

-- whether the words and the configuration are accepted
abbrev is_served : Status → Bool
is_served Statuses.Done = true
is_served Statuses.WordsRefused = false
is_served (Statuses.ConfigRefused cause) = false
is_served (Statuses.ScriptRefused line) = false
is_served Statuses.ReadFault = true
is_served Statuses.WriteFault = true
is_served (Statuses.DiskFault shard) = true
is_served Statuses.Memory = true

ended-served : (shard : Option ℕ) → is_served (ended_as shard) ≡ true
ended-served None = refl
ended-served (Some shard) = refl

unopened-served : (fault : HouseFault) → is_served (unopened_as fault) ≡ true
unopened-served (HouseFaults.Disk shard) = refl
unopened-served HouseFaults.Memory = refl

module _ {D : Type 0} (lost : D → Bool) where
  told-served : {W : Type 0} (tally : Result (List TallyRow) ServeFault) (pairs : List (DiskPair D)) (old new : W)
      (before now : Option (List ℕ)) (status : Status) → IsToldTo lost tally pairs old new before now status
      → is_served status ≡ true
  told-served (Ok rows) pairs old new before now status (inl told) =
      ap is_served told.0 ∙ ended-served (first_lost lost rows pairs)
  told-served (Ok rows) pairs old new before now status (inr (inl told)) = ap is_served told.0
  told-served (Ok rows) pairs old new before now status (inr (inr told)) = ap is_served told.0
  told-served (Err ServeFaults.Read) pairs old new before now status told = ap is_served told.0
  told-served (Err ServeFaults.Memory) pairs old new before now status told = ap is_served told.0
  told-served (Err ServeFaults.Threads) pairs old new before now status told = ap is_served told.0

  -- what is told at Done
  record IsStopped (tally : Result (List TallyRow) ServeFault) (pairs : List (DiskPair D)) : Type 0 where
    rows : List TallyRow
    stopped : tally ≡ Ok rows
    none_lost : first_lost lost rows pairs ≡ None

  ended-none : (first : Option ℕ) → ended_as first ≡ Statuses.Done → first ≡ None
  ended-none None is = refl
  ended-none (Some shard) is = absurd cc

  told-done : {W : Type 0} (tally : Result (List TallyRow) ServeFault) (pairs : List (DiskPair D)) (old new : W)
      (before now : Option (List ℕ)) → IsToldTo lost tally pairs old new before now Statuses.Done
      → IsStopped tally pairs
  told-done (Ok rows) pairs old new before now (inl told) =
      record { rows = rows; stopped = refl; none_lost = ended-none (first_lost lost rows pairs) (sym told.0) }
  told-done (Ok rows) pairs old new before now (inr (inl told)) = absurd (let e = told.0 in cc)
  told-done (Ok rows) pairs old new before now (inr (inr told)) = absurd (let e = told.0 in cc)
  told-done (Err ServeFaults.Read) pairs old new before now told = absurd (let e = told.0 in cc)
  told-done (Err ServeFaults.Memory) pairs old new before now told = absurd (let e = told.0 in cc)
  told-done (Err ServeFaults.Threads) pairs old new before now told = absurd (let e = told.0 in cc)

unread-done : (fault : ConfigFault) → Statuses.Done ≡ unread_as fault → ⊥
unread-done (ConfigFaults.Refused cause) is = cc
unread-done ConfigFaults.Read is = cc
unread-done ConfigFaults.Memory is = cc

unopened-done : (fault : HouseFault) → Statuses.Done ≡ unopened_as fault → ⊥
unopened-done (HouseFaults.Disk shard) is = cc
unopened-done HouseFaults.Memory is = cc

unread-config : (fault : ConfigFault) (cause : ConfigCause) → Statuses.ConfigRefused cause ≡ unread_as fault
    → fault ≡ ConfigFaults.Refused cause
unread-config (ConfigFaults.Refused other) cause is =
    let same : other ≡ cause = cc in ap ConfigFaults.Refused same
unread-config ConfigFaults.Read cause is = absurd cc
unread-config ConfigFaults.Memory cause is = absurd cc

unread-script : (fault : ConfigFault) (line : ℕ) → Statuses.ScriptRefused line ≡ unread_as fault → ⊥
unread-script (ConfigFaults.Refused other) line is = cc
unread-script ConfigFaults.Read line is = cc
unread-script ConfigFaults.Memory line is = cc

-- ---- causes

module _ {W I D : Type 0} (disks : DiskMeanings D) (lost : D → Bool) (words : List (List ℕ))
    (source_before source_now : Option (List ℕ)) (faults_before faults_now : StreamFaults) (before now : ServeState W I D) where
  config-served : (config : Config) (status : Status) → ServesConfig disks lost config before now status → is_served status ≡ true
  config-served config status (inl unopened) = ap is_served unopened.told ∙ unopened-served unopened.fault
  config-served config status (inr ends) =
      told-served lost ends.tally now.pairs before.out now.out before.held now.held status ends.told

  abbrev Caused : Status → Type 0
  Caused = CauseOf disks lost words source_before source_now faults_before faults_now before now

  abbrev Answered : Status → Type 0
  Answered = Serves disks lost source_before source_now before now

  done-cause : Answered Statuses.Done → Caused Statuses.Done
  done-cause (inl unread) = absurd (unread-done unread.fault unread.told)
  done-cause (inr (config, accepted, inl unopened)) = absurd (unopened-done unopened.fault unopened.told)
  done-cause (inr (config, accepted, inr ends)) =
      let stop = told-done lost ends.tally now.pairs before.out now.out before.held now.held ends.told in
      record {
        config = config;
        accepted = accepted;
        served = ends;
        rows = stop.rows;
        stopped = stop.stopped;
        none_lost = stop.none_lost;
      }

  config-cause : (cause : ConfigCause) → Answered (Statuses.ConfigRefused cause) → Caused (Statuses.ConfigRefused cause)
  config-cause cause (inl unread) =
      subst (IsUnread source_before source_now) (unread-config unread.fault cause unread.told) unread.source
  config-cause cause (inr (config, accepted, served)) =
      absurd (let bad : false ≡ true = config-served config (Statuses.ConfigRefused cause) served in cc)

  script-cause : (line : ℕ) → Answered (Statuses.ScriptRefused line) → ⊥
  script-cause line (inl unread) = unread-script unread.fault line unread.told
  script-cause line (inr (config, accepted, served)) =
      let bad : false ≡ true = config-served config (Statuses.ScriptRefused line) served in cc

  has-cause : (status : Status) → Answered status → status ≢ Statuses.WordsRefused
      → (status ≡ Statuses.ReadFault → HasRisen faults_before.source faults_now.source ⊎ HasRisen before.edges.faults now.edges.faults)
      → (status ≡ Statuses.WriteFault → HasRisen faults_before.sink faults_now.sink)
      → ((shard : ℕ) → status ≡ Statuses.DiskFault shard → HasPairFault disks.faults before.pairs now.pairs shard)
      → ((shard : ℕ) → status ≡ Statuses.DiskFault shard → (now.inbox ≡ before.inbox) ⊎ IsLostAt lost now.pairs shard)
      → Caused status
  has-cause Statuses.Done serves served read write disk how = done-cause serves
  has-cause Statuses.WordsRefused serves served read write disk how = absurd (served refl)
  has-cause (Statuses.ConfigRefused cause) serves served read write disk how = config-cause cause serves
  has-cause (Statuses.ScriptRefused line) serves served read write disk how = script-cause line serves
  has-cause Statuses.ReadFault serves served read write disk how = read refl
  has-cause Statuses.WriteFault serves served read write disk how = write refl
  has-cause (Statuses.DiskFault shard) serves served read write disk how =
      record { risen = disk shard refl; how = how shard refl }
  has-cause Statuses.Memory serves served read write disk how = tt

  abbrev NoneFails : Type 0
  NoneFails = NothingFails disks lost words source_before source_now faults_before faults_now before now

  neither : {A B : Type 0} → ¬ A → ¬ B → A ⊎ B → ⊥
  neither a b (inl x) = a x
  neither a b (inr y) = b y

  no-fault : (status : Status) → Caused status → NoneFails
      → IsNoFault disks lost words source_before source_now faults_before faults_now before now status
  no-fault Statuses.Done cause none = inl (inl refl)
  no-fault Statuses.WordsRefused cause none = inr (inl refl)
  no-fault (Statuses.ConfigRefused why) cause none = inr (inr (why, refl))
  no-fault (Statuses.ScriptRefused line) cause none = absurd cause
  no-fault Statuses.ReadFault cause none = absurd (neither none.source none.inbox cause)
  no-fault Statuses.WriteFault cause none = absurd (none.sink cause)
  no-fault (Statuses.DiskFault shard) cause none = absurd (none.pairs shard cause.risen)
  no-fault Statuses.Memory cause none = inl (inr refl)

  done-or-memory : (status : Status) → is_served status ≡ true
      → IsNoFault disks lost words source_before source_now faults_before faults_now before now status
      → (status ≡ Statuses.Done) ⊎ (status ≡ Statuses.Memory)
  done-or-memory status served (inl plain) = plain
  done-or-memory status served (inr (inl words)) =
      absurd (let bad : false ≡ true = sym (ap is_served words) ∙ served in cc)
  done-or-memory status served (inr (inr (why, refused))) =
      absurd (let bad : false ≡ true = sym (ap is_served refused) ∙ served in cc)

  pub by-cause : (status : Status) → Caused status
      → AnswersByCause disks lost words source_before source_now faults_before faults_now before now status
  by-cause status cause = record {
    cause = cause;
    without_fault = λ none. record {
      answers = no-fault status cause none;
      served = λ config serves. done-or-memory status (config-served config status serves) (no-fault status cause none);
    };
  }

  pub answers-by-cause : (status : Status) → Serves disks lost source_before source_now before now status → status ≢ Statuses.WordsRefused
      → (status ≡ Statuses.ReadFault → HasRisen faults_before.source faults_now.source ⊎ HasRisen before.edges.faults now.edges.faults)
      → (status ≡ Statuses.WriteFault → HasRisen faults_before.sink faults_now.sink)
      → ((shard : ℕ) → status ≡ Statuses.DiskFault shard → HasPairFault disks.faults before.pairs now.pairs shard)
      → ((shard : ℕ) → status ≡ Statuses.DiskFault shard → (now.inbox ≡ before.inbox) ⊎ IsLostAt lost now.pairs shard)
      → AnswersByCause disks lost words source_before source_now faults_before faults_now before now status
  answers-by-cause status serves served read write disk how =
      by-cause status (has-cause status serves served read write disk how)
