-- A refusal isn't a success (RFC 6887, section 7.4).
use Rattle.std.specs.Prelude.{◌≡◌, ◌≢◌, ℕ, List}
use Rattle.pcp_base.specs.declared.addresses.Address.{Address}
use Rattle.pcp_base.specs.declared.asks.Refusal.{Refusal}
use Rattle.pcp_base.specs.declared.codes.Code.TheVariants.{Success}
use Rattle.pcp_base.specs.declared.configs.Config.{Config}
use Rattle.pcp_options.specs.declared.verdicts.Verdict.TheVariants.{Refuse}
use Rattle.pcp_options.specs.Verdicts.{verdict_of}

abbrev pub RefusalsAreErrors : Type 0
RefusalsAreErrors = (config : Config) (source : Address) (message : List ℕ) (refusal : Refusal)
    → verdict_of config source message ≡ Refuse refusal → refusal.code ≢ Success
