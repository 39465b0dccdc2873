-- What a response says to the wants of a client: which want it is for (RFC 6887, sections 8.3, 11.4 and 12.4), and what it
-- grants or refuses.
use Rattle.std.specs.Prelude.{ℕ, ◌==◌, ◌&&◌, min, not, bytes_eq, Bool, true, false, List, [], ◌∷◌, position, unwrap_or, slice_index_or, Option, Some, None, if◌then◌else◌}
use Rattle.pcp_base.specs.declared.addresses.Address.{Address}
use Rattle.pcp_base.specs.declared.addresses.Nonce.{Nonce}
use Rattle.pcp_base.specs.declared.leases.Endpoint.{Endpoint}
use Rattle.pcp_base.specs.declared.asks.Ask.{Ask}
use Rattle.pcp_base.specs.declared.asks.Ask.TheVariants as Asks
use Rattle.pcp_base.specs.Codes.{code_number}
use Rattle.pcp_base.specs.Protocols.{protocol_number}
use Rattle.pcp_codec.specs.declared.requests.Common.{Common}
use Rattle.pcp_codec.specs.declared.requests.Body.{Body}
use Rattle.pcp_codec.specs.declared.requests.Body.TheVariants.{Announce, Map, Peer}
use Rattle.pcp_options.specs.declared.options.Item.{Item}
use Rattle.pcp_options.specs.declared.options.Item.TheVariants.{ThirdParty, PreferFailure, Filter, PortSet}
use Rattle.pcp_options.specs.declared.responses.Response.{Response}
use Rattle.pcp_options.specs.Asking.{third_of}
use Rattle.client_core.specs.declared.events.Grant.{Grant}
use Rattle.client_core.specs.declared.meanings.Notice.TheVariants as Notices
use Rattle.client_core.specs.declared.meanings.Meaning.{Meaning}
use Rattle.client_core.specs.declared.meanings.Meaning.TheVariants.{Nothing, Says}
use Rattle.client_core.specs.Wants.{WantView}

-- the want of an id
abbrev pub want_at : List (Option WantView) → ℕ → Option WantView
want_at wants id = slice_index_or wants id None

-- whether the data of a response have the nonce, the protocol and the internal port of an ask
abbrev pub same_common : Endpoint → Nonce → Common → Bool
same_common endpoint nonce c =
    bytes_eq nonce.0 c.nonce.0 && protocol_number endpoint.protocol == c.protocol
    && endpoint.port == c.internal

-- whether they are of its opcode, have these, and for PEER its remote
abbrev pub same_key : Ask → Body → Bool
same_key (Asks.Map ask) (Map c) = same_common ask.endpoint ask.nonce c
same_key (Asks.Peer ask) (Peer c port remote) =
    same_common ask.endpoint ask.nonce c && ask.remote_port == port
    && bytes_eq ask.remote.0 remote.0
same_key ask body = false

abbrev pub same_third : Option Address → Option Address → Bool
same_third None None = true
same_third (Some a) (Some b) = bytes_eq a.0 b.0
same_third a b = false

-- whether a response is for a want
abbrev pub answers : Response → Option WantView → Bool
answers r None = false
answers r (Some w) = same_key w.ask r.body && same_third w.third (third_of r.items)

-- the size of the set of ports that a response tells (RFC 7753): 1 where it has no PORT_SET
abbrev pub size_in : Item → Option ℕ
size_in (PortSet set) = Some set.size
size_in (ThirdParty address) = None
size_in PreferFailure = None
size_in (Filter filter) = None

abbrev pub set_size : List Item → ℕ
set_size [] = 1
set_size (item ∷ items) = unwrap_or (size_in item) (set_size items)

-- what a success with these data grants
abbrev pub grant_of : Response → Common → Grant
grant_of r c = record {
  lifetime = r.lifetime;
  address = c.address;
  external = c.external;
  count = set_size r.items;
}

-- What a response says to a want. An error is told with its code, and lasts at most 1800 seconds. A success with lifetime
-- 0 removes an ending want, and is an error of 30 seconds for any other. One with another lifetime says nothing to an
-- ending want.
abbrev pub said_to : Response → Common → ℕ → Bool → Meaning
said_to r c id ending =
    if not (code_number r.code == 0)
    then Says r.epoch (Notices.Refuses id r.code (min r.lifetime 1800))
    else if ending then (if r.lifetime == 0 then Says r.epoch (Notices.Removes id) else Nothing)
    else if r.lifetime == 0 then Says r.epoch (Notices.Refuses id r.code 30)
    else Says r.epoch (Notices.Grants id (grant_of r c))

abbrev pub said_at : Response → Common → ℕ → Option WantView → Meaning
said_at r c id None = Nothing
said_at r c id (Some w) = said_to r c id w.ending

abbrev pub said_of : List (Option WantView) → Response → Common → Option ℕ → Meaning
said_of wants r c None = Nothing
said_of wants r c (Some id) = said_at r c id (want_at wants id)

-- Of the wants that it is for, a response speaks to that of the least id. One for ANNOUNCE tells its epoch alone.
abbrev pub said_by : List (Option WantView) → Response → Body → Meaning
said_by wants r Announce = Says r.epoch Notices.Epoch
said_by wants r (Map c) = said_of wants r c (position (answers r) wants)
said_by wants r (Peer c port remote) = said_of wants r c (position (answers r) wants)

abbrev pub said_in : List (Option WantView) → Option Response → Meaning
said_in wants None = Nothing
said_in wants (Some r) = said_by wants r r.body
