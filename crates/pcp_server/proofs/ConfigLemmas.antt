-- A source that has no configuration.
use Rattle.std.proofs.Common.{◌≡◌, ℕ, List, Option, Result, Err, refl}
use Rattle.pcp_base.specs.declared.configs.Config.{Config}
use Rattle.config_source.specs.ConfigSources.{ReadsNoFurther, RefusesConfig, StopsAtFault}
use Rattle.config_source.specs.declared.reading.ConfigFault.{ConfigFault}
use Rattle.config_source.specs.declared.reading.ConfigFault.TheVariants.{Refused, Read, Memory}
use Rattle.server_commands.specs.declared.statuses.ConfigCause.{ConfigCause}
use Rattle.server_commands.specs.declared.statuses.Status.{Status}
use Rattle.pcp_server.specs.Opened.{EndsUnread, IsUnread}
use Rattle.pcp_server.specs.Outsides.{Outside}
use Rattle.pcp_server.specs.Statuses.{unread_as}

pub ends-unread : {W D : Type 0} (source_before source_now : Option (List ℕ)) (before : Outside W D) (status : Status) (result : Result Config ConfigFault) (fault : ConfigFault) →
    result ≡ Err fault → status ≡ unread_as fault →
    ((cause : ConfigCause) → result ≡ Err (Refused cause) → RefusesConfig source_before source_now cause) →
    (result ≡ Err Read → StopsAtFault source_before source_now) → ReadsNoFurther source_before source_now →
    EndsUnread source_before source_now before before status
ends-unread source_before source_now before status result fault is told refused stopped few = record {
  fault = fault;
  told = told;
  source = go fault is;
  untouched = record { out = refl; pairs = refl };
}
  where
    go : (fault : ConfigFault) → result ≡ Err fault → IsUnread source_before source_now fault
    go (Refused cause) is = refused cause is
    go Read is = stopped is
    go Memory is = few
