-- A history of three entries of an external address, which begins with one lease (our own): a disk
-- fails, all leases are lost, and a disk fails again.
use Rattle.std.specs.Prelude.{ℕ, List, [], ◌∷◌, ◌++◌, replicate, true, Some, None}
use Rattle.pcp_base.specs.declared.addresses.Address.{Address}
use Rattle.pcp_base.specs.declared.configs.Config.{Config}
use Rattle.pcp_base.specs.declared.configs.External.{External}
use Rattle.pcp_base.specs.declared.configs.Orders.TheVariants.{Both}
use Rattle.pcp_base.specs.declared.datagrams.Entry.{Entry}
use Rattle.pcp_base.specs.declared.leases.MapLease.{MapLease}
use Rattle.pcp_base.specs.declared.leases.Protocol.TheVariants.{Udp}
use Rattle.pcp_base.specs.declared.records.Change.TheVariants.{Lose}
use Rattle.pcp_base.specs.AddressTexts.{v4_front}
use Rattle.pcp_base.specs.States.{State}
use Rattle.lease_histories.specs.Entries.{Served}
use Rattle.lease_histories.specs.PlainHouses.{nobody}

abbrev pub v4 : List ℕ → Address
v4 octets = record { 0 = v4_front ++ octets }

abbrev pub outside : External
outside = record { address = v4 (192 ∷ 0 ∷ 2 ∷ 1 ∷ []); low = 1024; high = 1031 }

abbrev pub served_config : Config
served_config = record {
  quota = 8;
  lifetime_min = 120;
  lifetime_max = 86400;
  third_party = [];
  externals = outside ∷ [];
  subscribers = [];
  listen = [];
  orders = Both;
}

abbrev pub served : Served
served = record { config = served_config; place = 0; external = outside }

-- granted at 1000 until 4600
abbrev pub lease : MapLease
lease = record {
  address = v4 (10 ∷ 0 ∷ 0 ∷ 5 ∷ []);
  protocol = Udp;
  internal = 5000;
  count = 1;
  external = 1024;
  nonce = record { 0 = replicate 12 7 };
  granted = 1000;
  expiry = 4600;
  filters = [];
}

abbrev pub opening : State
opening = record {
  table = record { maps = lease ∷ []; peers = [] };
  ends = [];
  base = 900;
  address = Some outside.address;
  last = 1000;
  started = true;
}

-- a disk failed at m
abbrev pub failed : ℕ → ℕ → Entry
failed m base = record { moment = m; from = nobody; reply = []; kept = None; base = base }

abbrev pub lost : Entry
lost = record {
  moment = 1100;
  from = nobody;
  reply = [];
  kept = Some (record { moment = 1100; change = Lose });
  base = 1100;
}
