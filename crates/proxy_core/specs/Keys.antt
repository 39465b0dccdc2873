-- By what a reply from upstream is matched with the request that waits for it (our own; the fields:
-- RFC 6887, sections 11.1, 12.1 and 13.1).
use Rattle.std.specs.Prelude.{ℕ, ◌==◌, ◌&&◌, Bool, bytes_eq, Option, Some, None}
use Rattle.std.specs.Option.{option_eq}
use Rattle.pcp_base.specs.declared.addresses.Address.{Address}
use Rattle.pcp_base.specs.Tables.{same_address}
use Rattle.pcp_codec.specs.declared.layout.TheConstants.{MAP_OPCODE, PEER_OPCODE}
use Rattle.pcp_codec.specs.declared.requests.Common.{Common}
use Rattle.pcp_codec.specs.declared.requests.Body.{Body}
use Rattle.pcp_codec.specs.declared.requests.Body.TheVariants.{Announce, Map, Peer}
use Rattle.proxy_core.specs.declared.keys.WaitingKey.{WaitingKey}

abbrev pub common_key : ℕ → Common → Option Address → Option (Address × ℕ) → WaitingKey
common_key opcode c third remote = record {
  nonce = c.nonce;
  opcode = opcode;
  protocol = c.protocol;
  internal = c.internal;
  third = third;
  remote = remote;
}

-- the key of a message with this data and this address in THIRD_PARTY; ANNOUNCE has none
abbrev pub key_of : Body → Option Address → Option WaitingKey
key_of Announce third = None
key_of (Map c) third = Some (common_key MAP_OPCODE c third None)
key_of (Peer c port remote) third = Some (common_key PEER_OPCODE c third (Some (remote, port)))

abbrev pub is_remote : Address × ℕ → Address × ℕ → Bool
is_remote a b = same_address a.0 b.0 && a.1 == b.1

-- whether all six parts of two keys are equal
abbrev pub is_key : WaitingKey → WaitingKey → Bool
is_key a b =
    bytes_eq a.nonce.0 b.nonce.0 && a.opcode == b.opcode && a.protocol == b.protocol
    && a.internal == b.internal
    && option_eq same_address a.third b.third && option_eq is_remote a.remote b.remote
