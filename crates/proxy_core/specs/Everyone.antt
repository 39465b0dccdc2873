-- The configuration by which a relay judges requests (our own): every address may ask, and what has one of the relay's prefixes
-- of THIRD_PARTY also for others. Whether the relay itself may is the upstream server's to say.
use Rattle.std.specs.Prelude.{List, [], ◌∷◌, replicate}
use Rattle.pcp_base.specs.declared.addresses.Address.{Address}
use Rattle.pcp_base.specs.declared.addresses.Prefix.{Prefix}
use Rattle.pcp_base.specs.declared.configs.Config.{Config}
use Rattle.pcp_base.specs.declared.configs.Orders.TheVariants.{Both}

abbrev pub no_address : Address
no_address = record { 0 = replicate 16 0 }

-- the prefix of no bits, which holds every address
abbrev pub every_address : Prefix
every_address = record { bits = 0; address = no_address }

-- every address may ask, for itself
abbrev pub everyone : Config
everyone = record {
  quota = 1;
  lifetime_min = 1;
  lifetime_max = 1;
  third_party = [];
  externals = (record { address = no_address; low = 1; high = 1 }) ∷ [];
  subscribers = (record { prefix = every_address; external = 0 }) ∷ [];
  listen = [];
  orders = Both;
}

-- and what has one of these prefixes also for others
abbrev pub judged_by : List Prefix → Config
judged_by third_party = record everyone { third_party = third_party }
