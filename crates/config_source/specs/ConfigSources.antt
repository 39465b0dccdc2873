-- The configuration that a source has (our own).
use Rattle.std.specs.Prelude.{◌≡◌, ℕ, List, Option}
use Rattle.pcp_base.specs.declared.configs.Config.{Config}
use Rattle.pcp_config.specs.ConfigTexts.{IsConfigText, IsNotConfig, IsNotToml}
use Rattle.pcp_config.specs.declared.TheConstants.{LONGEST_CONFIG}
use Rattle.script_player.specs.Wholes.{ReadsWhole, StopsWhole}
use Rattle.script_player.specs.declared.wholes.WholeFault.TheVariants as Whole
use Rattle.server_commands.specs.declared.statuses.ConfigCause.{ConfigCause}
use Rattle.server_commands.specs.declared.statuses.ConfigCause.TheVariants.{TooLong, NotToml, NotConfig}

-- The source was read to its end, and its text is this configuration and no other.
pub record ReadsConfig (before now : Option (List ℕ)) (config : Config) : Type 0 where
  pub text : List ℕ
  pub whole : ReadsWhole LONGEST_CONFIG before now text
  pub is : IsConfigText text config
  pub only : (other : Config) → IsConfigText text other → other ≡ config

-- It was read to its end, and its text is refused so.
pub record ReadsRefused (before now : Option (List ℕ)) (Refused : List ℕ → Type 0) : Type 0 where
  pub text : List ℕ
  pub whole : ReadsWhole LONGEST_CONFIG before now text
  pub refused : Refused text

-- Either it gave more octets than a configuration has, and no piece behind the one that passed
-- that; or it was read to its end, and its text is refused.
abbrev pub RefusesConfig : (before now : Option (List ℕ)) → ConfigCause → Type 0
RefusesConfig before now TooLong = StopsWhole LONGEST_CONFIG before now Whole.TooLong
RefusesConfig before now NotToml = ReadsRefused before now IsNotToml
RefusesConfig before now NotConfig = ReadsRefused before now IsNotConfig

-- What was read before the source failed: no more than a configuration has.
abbrev pub StopsAtFault : (before now : Option (List ℕ)) → Type 0
StopsAtFault before now = StopsWhole LONGEST_CONFIG before now Whole.Read

-- What was read at most, in any case: one piece that passes the limit.
abbrev pub ReadsNoFurther : (before now : Option (List ℕ)) → Type 0
ReadsNoFurther before now = StopsWhole LONGEST_CONFIG before now Whole.Memory
