-- The texts of configurations (our own; TOML is version 1.1).
use Rattle.std.specs.Prelude.{◌≡◌, ℕ, ◌≤◌, ◌<◌, ⊤, List, length, Some, IsUtf8}
use Rattle.toml.specs.Data.{Members}
use Rattle.toml.specs.Parse.{parse_document}
use Rattle.pcp_base.specs.declared.configs.Config.{Config}
use Rattle.pcp_config.specs.ConfigTables.{IsConfigTable}
use Rattle.pcp_config.specs.declared.TheConstants.{LONGEST_CONFIG}
use Rattle.pcp_config.specs.declared.texts.ConfigRefused.{ConfigRefused}
use Rattle.pcp_config.specs.declared.texts.ConfigRefused.TheVariants.{TooLong, NotToml, NotConfig, Memory}

-- the text is TOML, and this is its table
abbrev pub IsTomlText : List ℕ → Members → Type 0
IsTomlText text members = IsUtf8 text × (parse_document text ≡ Some members)

-- the text stands for the configuration
pub record IsConfigText (text : List ℕ) (c : Config) : Type 0 where
  pub short : length text ≤ LONGEST_CONFIG
  pub members : Members
  pub toml : IsTomlText text members
  pub stands : IsConfigTable members c

-- the text is short and isn't TOML
pub record IsNotToml (text : List ℕ) : Type 0 where
  pub short : length text ≤ LONGEST_CONFIG
  pub none : (members : Members) → ¬ (IsTomlText text members)

-- the text is short and TOML, and its table stands for no configuration
pub record IsNotConfig (text : List ℕ) : Type 0 where
  pub short : length text ≤ LONGEST_CONFIG
  pub members : Members
  pub toml : IsTomlText text members
  pub none : (c : Config) → ¬ (IsConfigTable members c)

-- the cause of each refusal
abbrev pub IsRefusedFor : List ℕ → ConfigRefused → Type 0
IsRefusedFor text TooLong = LONGEST_CONFIG < length text
IsRefusedFor text NotToml = IsNotToml text
IsRefusedFor text NotConfig = IsNotConfig text
IsRefusedFor text Memory = ⊤
