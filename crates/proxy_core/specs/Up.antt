-- The request that a relay asks upstream for a client (RFC 7648, sections 3 and 4, in role; what is
-- rewritten is our own).
use Rattle.std.specs.Prelude.{ℕ, List, ◌∷◌, Option, Some, None}
use Rattle.pcp_base.specs.declared.addresses.Address.{Address}
use Rattle.pcp_base.specs.declared.datagrams.Datagram.{Datagram}
use Rattle.pcp_codec.specs.declared.requests.Common.{Common}
use Rattle.pcp_codec.specs.declared.requests.Body.{Body}
use Rattle.pcp_codec.specs.declared.requests.Body.TheVariants.{Announce, Map, Peer}
use Rattle.pcp_codec.specs.Requests.{body_of, frame_of}
use Rattle.pcp_options.specs.declared.options.Item.{Item}
use Rattle.pcp_options.specs.declared.options.Item.TheVariants.{ThirdParty}
use Rattle.pcp_options.specs.Asking.{third_of, subject_of}
use Rattle.pcp_options.specs.Requests.{request_with}
use Rattle.proxy_core.specs.declared.keys.WaitingKey.{WaitingKey}
use Rattle.proxy_core.specs.Keys.{key_of}
use Rattle.proxy_core.specs.Nonces.{upstream_nonce}

abbrev pub up_common : List ℕ → Address → Common → Common
up_common key client c = record c { nonce = upstream_nonce key client c.nonce }

-- the data of the request, with the upstream nonce
abbrev pub up_body : List ℕ → Address → Body → Body
up_body key client Announce = Announce
up_body key client (Map c) = Map (up_common key client c)
up_body key client (Peer c port remote) = Peer (up_common key client c) port remote

abbrev pub with_third : Address → List Item → Option Address → List Item
with_third client items None = ThirdParty client ∷ items
with_third client items (Some third) = items

-- its options: THIRD_PARTY with the client's address first, unless it is there
abbrev pub up_items : Address → List Item → List Item
up_items client items = with_third client items (third_of items)

-- Up: the relay's own address as client address, the lifetime of the request, the data and the
-- options
abbrev pub up_text : List ℕ → Address → Datagram → List Item → List ℕ
up_text key own d items =
    request_with own (frame_of d.octets).lifetime (up_body key d.peer (body_of d.octets))
    (up_items d.peer items)

-- the key of its reply; none for ANNOUNCE
abbrev pub up_key : List ℕ → Datagram → List Item → Option WaitingKey
up_key key d items =
    key_of (up_body key d.peer (body_of d.octets)) (Some (subject_of d.peer (third_of items)))
