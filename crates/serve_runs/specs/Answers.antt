-- What `serve` answers, and by what (our own).
use Rattle.std.specs.Prelude.{◌≡◌, ◌⊎◌, ℕ, ⊤, Bool, List, Option, None, Ok}
use Rattle.pcp_base.specs.declared.configs.Config.{Config}
use Rattle.pcp_io.specs.Faults.{HasRisen}
use Rattle.config_source.specs.ConfigSources.{RefusesConfig}
use Rattle.journal_dump.specs.Dumps.{HasPairFault}
use Rattle.server_commands.specs.declared.statuses.ConfigCause.{ConfigCause}
use Rattle.server_commands.specs.declared.statuses.Status.{Status}
use Rattle.server_commands.specs.declared.statuses.Status.TheVariants as Statuses
use Rattle.serve_commands.specs.declared.commands.ServePlan.{ServePlan}
use Rattle.serve_commands.specs.Words.{IsServeWords}
use Rattle.pcp_server.specs.Opened.{Accepts}
use Rattle.pcp_server.specs.Outsides.{DiskMeanings}
use Rattle.job_workers.specs.declared.tallies.TallyRow.{TallyRow}
use Rattle.serve_runs.specs.Served.{EndsServed, IsLostAt, ServeState, ServesConfig, first_lost}

-- the counts of faults of the configuration's source and of the sink
pub record StreamFaults : Type 0 where
  pub source : ℕ
  pub sink : ℕ

module _ {W I D : Type 0} (disks : DiskMeanings D) (lost : D → Bool) (words : List (List ℕ))
    (source_before source_now : Option (List ℕ)) (faults_before faults_now : StreamFaults)
    (before now : ServeState W I D) where
  -- The house was served until the inbox stopped, and the tally is written. No disk that refused
  -- jobs is lost.
  pub record IsServedToStop : Type 0 where
    pub config : Config
    pub accepted : Accepts source_before source_now config
    pub served : EndsServed disks lost config before now Statuses.Done
    pub rows : List TallyRow
    pub stopped : served.tally ≡ Ok rows
    pub none_lost : first_lost lost rows now.pairs ≡ None

  -- a count of that pair rose; it ended the opening, or a side of the pair is lost
  pub record HasFailedAt (shard : ℕ) : Type 0 where
    pub risen : HasPairFault disks.faults before.pairs now.pairs shard
    pub how : (now.inbox ≡ before.inbox) ⊎ IsLostAt lost now.pairs shard

  -- A fault is answered only where a count of faults rose. Where memory was wanting no clause says.
  abbrev pub CauseOf : Status → Type 0
  CauseOf Statuses.Done = IsServedToStop
  CauseOf Statuses.WordsRefused = (plan : ServePlan) → ¬ (IsServeWords words plan)
  CauseOf (Statuses.ConfigRefused cause) = RefusesConfig source_before source_now cause
  CauseOf (Statuses.ScriptRefused line) = ⊥
  CauseOf Statuses.ReadFault =
      HasRisen faults_before.source faults_now.source
      ⊎ HasRisen before.edges.faults now.edges.faults
  CauseOf Statuses.WriteFault = HasRisen faults_before.sink faults_now.sink
  CauseOf (Statuses.DiskFault shard) = HasFailedAt shard
  CauseOf Statuses.Memory = ⊤

  -- no count rose in the call, nor stands at its end
  pub record NothingFails : Type 0 where
    pub source : ¬ (HasRisen faults_before.source faults_now.source)
    pub inbox : ¬ (HasRisen before.edges.faults now.edges.faults)
    pub sink : ¬ (HasRisen faults_before.sink faults_now.sink)
    pub pairs : (shard : ℕ) → ¬ (HasPairFault disks.faults before.pairs now.pairs shard)

  -- these are answered then
  abbrev pub IsNoFault : Status → Type 0
  IsNoFault status =
      ((status ≡ Statuses.Done) ⊎ (status ≡ Statuses.Memory))
      ⊎ ((status ≡ Statuses.WordsRefused)
      ⊎ ((cause : ConfigCause) × (status ≡ Statuses.ConfigRefused cause)))

  -- Where no count rises the answer is Done, Memory, or a refusal of the words or of the
  -- configuration; and where that is accepted it is Done or Memory.
  pub record AnswersWithoutFault (status : Status) : Type 0 where
    pub answers : IsNoFault status
    pub served : (config : Config) → ServesConfig disks lost config before now status →
        (status ≡ Statuses.Done) ⊎ (status ≡ Statuses.Memory)

  pub record AnswersByCause (status : Status) : Type 0 where
    pub cause : CauseOf status
    pub without_fault : NothingFails → AnswersWithoutFault status
