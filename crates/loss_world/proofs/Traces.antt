-- A success that goes to an address is traced to an entry of the history.
use Rattle.std.specs.Prelude.{Contains, unwrap_or}
use Rattle.std.specs.List.{AllByRecursion}
use Rattle.std.proofs.Common.{◌≡◌, ◌⊎◌, List, Option}
use Rattle.pcp_base.specs.declared.addresses.Address.{Address}
use Rattle.pcp_codec.specs.declared.requests.Common.{Common}
use Rattle.lease_histories.specs.HouseHistories.{HouseEntry}
use Rattle.loss_world.specs.Disclosure.{Grants, IsRenumbered, rewritten}
use Rattle.loss_world.specs.Packets.{Packet}
use Rattle.loss_world.specs.Worlds.{Beginning, ClientHost, RelayTerms, Renumbering}
use Rattle.loss_world.proofs.Held.{AreTold, SlotHolds}

-- by its third party and its data

pub record IsTraced (b : Beginning) (history : List HouseEntry) (renumberings : List Renumbering) (to : Address) (third : Option Address) (c : Common) : Type 0 where
  pub entry : HouseEntry
  pub among : Contains history entry
  pub told : Common
  pub grants : Grants entry told (unwrap_or third to)
  pub relays : List RelayTerms
  pub on_the_way : AllByRecursion (Contains b.relays) relays
  pub rewritten_to : told.nonce ≡ rewritten relays to c.nonce
  pub protocol : told.protocol ≡ c.protocol
  pub internal : told.internal ≡ c.internal
  pub external : told.external ≡ c.external
  pub address : (told.address ≡ c.address) ⊎ IsRenumbered renumberings entry c.address

abbrev pub IsToldPacket : Beginning → List HouseEntry → List Renumbering → Packet → Type 0
IsToldPacket b history renumberings p = AreTold (IsTraced b history renumberings p.out.peer) p.out.octets

abbrev pub HostHolds : Beginning → List HouseEntry → List Renumbering → ClientHost → Type 0
HostHolds b history renumberings h = AllByRecursion (SlotHolds (IsTraced b history renumberings h.client.own)) h.client.wants
