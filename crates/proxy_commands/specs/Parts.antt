-- Commands put together of their parts, where all are there (our own; for private contracts).
use Rattle.std.specs.Prelude.{ℕ, nat_lt, List, Option, Some, None, if◌then◌else◌}
use Rattle.pcp_base.specs.declared.addresses.Address.{Address}
use Rattle.proxy_commands.specs.declared.commands.CascadeCommand.{CascadeCommand}
use Rattle.proxy_commands.specs.declared.commands.ProxyCommand.{ProxyCommand}

abbrev pub proxy_with : Option Address → Option Address → Option Address → Option (List ℕ) →
    Option ProxyCommand
proxy_with (Some server) (Some own) (Some inner) (Some key) =
    Some (record { server = server; own = own; inner = inner; key = key })
proxy_with server own inner key = None

-- none where the lowest port exceeds the highest
abbrev pub cascade_with : Option ProxyCommand → Option ℕ → Option ℕ → Option CascadeCommand
cascade_with (Some relay) (Some low) (Some high) =
    if nat_lt high low then None
    else Some (record { relay = relay; low = low; high = high })
cascade_with relay low high = None
