-- How a play of an empty script ends.
use Rattle.std.specs.Prelude.{⊤}
use Rattle.std.proofs.Common.{◌≡◌, ◌≢◌, ◌∙◌, ◌<◌, ◌+◌, ℕ, List, [], ◌∷◌, ◌++◌, inl, inr, length, flat_map, Option, Some, None, refl, sym, ap, subst, arith, append-nil, length-append}
use Rattle.std.proofs.lemmas.Option.{same_Some}
use Rattle.toml.specs.Data.{Members}
use Rattle.toml.specs.Parse.{parse_document}
use Rattle.pcp_base.specs.declared.configs.Config.{Config}
use Rattle.pcp_config.specs.ConfigTables.{IsConfigTable}
use Rattle.pcp_config.specs.ConfigTexts.{IsConfigText, IsTomlText}
use Rattle.config_source.specs.ConfigSources.{RefusesConfig}
use Rattle.config_source.specs.declared.reading.ConfigFault.{ConfigFault}
use Rattle.config_source.specs.declared.reading.ConfigFault.TheVariants as Reading
use Rattle.lease_house.specs.declared.faults.HouseFault.{HouseFault}
use Rattle.lease_house.specs.declared.faults.HouseFault.TheVariants as House
use Rattle.script_player.specs.Played.{EndsRefused, IsOver, LeavesOf, Outcome, Streams}
use Rattle.script_player.specs.Scripts.{AreFirst, ended}
use Rattle.script_player.specs.Ways.{Course}
use Rattle.script_player.specs.declared.player.PlayStatus.{PlayStatus}
use Rattle.script_player.specs.declared.player.PlayStatus.TheVariants as Play
use Rattle.server_commands.specs.declared.statuses.ConfigCause.{ConfigCause}
use Rattle.server_commands.specs.declared.statuses.ConfigCause.TheVariants.{TooLong, NotToml, NotConfig}
use Rattle.server_commands.specs.declared.statuses.Status.{Status}
use Rattle.server_commands.specs.declared.statuses.Status.TheVariants.{Done, WordsRefused, ConfigRefused, ScriptRefused, ReadFault, WriteFault, DiskFault, Memory}
use Rattle.pcp_server.specs.Opened.{IsUnread}
use Rattle.pcp_server.specs.Outsides.{DiskMeanings, Input, Outside}
use Rattle.pcp_server.specs.Played.{IsUntold, Plays}
use Rattle.pcp_server.specs.Statuses.{played_as, unopened_as, unread_as}
use Rattle.play_rows.specs.Endings.{IsDoneUnless}

-- nothing is refused
abbrev IsUnrefused : Status → Type 0
IsUnrefused status = IsDoneUnless ⊤ ⊤ (λ shard. ⊤) status

-- ---- the configuration

whole : (text left read : List ℕ) → Some text ≡ Some (read ++ left) → left ≡ [] → text ≡ read
whole text left read e none = same_Some _ _ e ∙ ap (λ xs. read ++ xs) none ∙ append-nil read

accepted : (text : List ℕ) (config : Config) (now : Option (List ℕ)) (cause : ConfigCause) → IsConfigText text config → RefusesConfig (Some text) now cause → ⊥
accepted text config None TooLong is h = let bad : Some text ≡ None = h.octets in absurd (cc)
accepted text config (Some left) TooLong is h =
    let same : text ≡ h.ahead ++ left = same_Some _ _ h.octets in
    omega (arith, is.short, h.enough, ap length same, length-append h.ahead left)
accepted text config None NotToml is h = let bad : Some text ≡ None = h.whole.octets in absurd (cc)
accepted text config (Some left) NotToml is h =
    let same : text ≡ h.text = whole text left h.text h.whole.octets h.whole.none_left in
    h.refused.none is.members (subst (λ (t : List ℕ). IsTomlText t is.members) same is.toml)
accepted text config None NotConfig is h = let bad : Some text ≡ None = h.whole.octets in absurd (cc)
accepted text config (Some left) NotConfig is h =
    let same : text ≡ h.text = whole text left h.text h.whole.octets h.whole.none_left in
    let one : is.members ≡ h.refused.members = same_Some _ _ (sym is.toml.1 ∙ ap parse_document same ∙ h.refused.toml.1) in
    h.refused.none config (subst (λ (m : Members). IsConfigTable m config) one is.stands)

unread : (text : List ℕ) (config : Config) (now : Option (List ℕ)) (fault : ConfigFault) → IsConfigText text config → IsUnread (Some text) now fault → IsUnrefused (unread_as fault)
unread text config now (Reading.Refused cause) is h = absurd (accepted text config now cause is h)
unread text config now Reading.Read is h = tt
unread text config now Reading.Memory is h = tt

-- ---- the journals and the updates

unopened : (fault : HouseFault) → IsUnrefused (unopened_as fault)
unopened (House.Disk shard) = tt
unopened House.Memory = tt

untold : (text : List ℕ) (before now : Option (List ℕ)) (status : Status) → IsUntold text before now status → IsUnrefused status
untold text before now WriteFault h = tt
untold text before now Memory h = tt
untold text before now Done h = tt
untold text before now ReadFault h = tt
untold text before now (DiskFault shard) h = tt
untold text before now WordsRefused h = absurd h
untold text before now (ConfigRefused cause) h = absurd h
untold text before now (ScriptRefused line) h = absurd h

-- ---- the script

some-octets : (xs : List ℕ) → xs ≢ [] → 0 < length xs
some-octets [] h = absurd (h refl)
some-octets (x ∷ xs) h = omega arith

-- behind the lines of an empty script stands nothing
nothing-behind : (texts : List (List ℕ)) (rest : List ℕ) → AreFirst [] rest texts → length rest ≡ 0
nothing-behind texts rest first = elim first.spelled [
  | inl all ↦ omega (arith, ap length all, length-append (flat_map ended texts) rest)
  | inr last ↦ ap length last.none_behind
]

no-line : {House : Type 0} (course : Course House) (n : ℕ) (outcome : Outcome) → EndsRefused course [] n outcome → ⊥
no-line course n outcome h =
    let none = nothing-behind h.texts (h.text ++ h.tail) h.first in
    elim h.refused.some [
      | inl text ↦ omega (arith, none, length-append h.text h.tail, some-octets h.text text)
      | inr tail ↦ omega (arith, none, length-append h.text h.tail, some-octets h.tail tail)
    ]

over : {House : Type 0} (course : Course House) (script : List ℕ) (before now : Streams) (status : PlayStatus) → script ≡ [] → IsOver course script before now status → IsUnrefused (played_as status)
over course script before now Play.Done none o = tt
over course script before now (Play.ScriptRefused n) none o = absurd (no-line course n o.outcome (subst (λ (s : List ℕ). EndsRefused course s n o.outcome) none o.played))
over course script before now Play.ReadFault none o = tt
over course script before now Play.WriteFault none o = tt
over course script before now (Play.DiskFault shard) none o = tt
over course script before now Play.Memory none o = tt

-- the script of a source that had nothing left
empty : (script left : List ℕ) (before now : Option (List ℕ)) → before ≡ Some [] → LeavesOf script left before now → script ≡ []
empty script left before now is (inl told) = same_Some _ _ (sym told.0 ∙ is)
empty script left before now is (inr none) = let bad : None ≡ Some [] = sym none.0 ∙ is in absurd (cc)

-- ---- all of it

pub unrefused : {S W D : Type 0} (disks : DiskMeanings D) (start : ℕ) (source_now : Option (List ℕ)) (text : List ℕ) (config : Config) (script_before script_now : Input S) (before now : Outside W D) (status : Status) →
    IsConfigText text config → script_before.left ≡ Some [] → Plays disks start (Some text) source_now script_before script_now before now status → IsUnrefused status
unrefused disks start source_now text config script_before script_now before now status is none plays = elim plays [
  | inl (bad, still) ↦ subst IsUnrefused (sym bad.told) (unread text config source_now bad.fault is bad.source)
  | inr (served, accepts, ends) ↦ elim ends [
    | inl (early, still) ↦ elim early [
      | inl bad ↦ subst IsUnrefused (sym bad.told) (unopened bad.fault)
      | inr bad ↦ untold _ before.held now.held status bad.updates
    ]
    | inr all ↦ subst IsUnrefused (sym all.told)
        (over _ all.script _ _ all.play_status (empty all.script all.lines.outcome.left _ _ none all.lines.left_is) all.lines)
  ]
]

pub done-unless : (read write : Type 0) (disk : ℕ → Type 0) (status : Status) → IsUnrefused status → (status ≡ ReadFault → read) → (status ≡ WriteFault → write) → ((shard : ℕ) → status ≡ DiskFault shard → disk shard)
    → IsDoneUnless read write disk status
done-unless read write disk Done h r w d = tt
done-unless read write disk Memory h r w d = tt
done-unless read write disk ReadFault h r w d = r refl
done-unless read write disk WriteFault h r w d = w refl
done-unless read write disk (DiskFault shard) h r w d = d shard refl
done-unless read write disk WordsRefused h r w d = absurd h
done-unless read write disk (ConfigRefused cause) h r w d = absurd h
done-unless read write disk (ScriptRefused line) h r w d = absurd h
