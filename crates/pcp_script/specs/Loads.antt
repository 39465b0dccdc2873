-- The load that a number makes (our own; the requests are those of RFC 6887, sections 7.1 and 11.1).
use Rattle.std.specs.Prelude.{ℕ, ◌+◌, ◌*◌, ◌/◌, ◌%◌, ◌^◌, ◌==◌, List, [], ◌∷◌, ◌++◌, replicate, slice_index, if◌then◌else◌}
use Rattle.std.specs.Int.{w16, w32, w64, to_be_bytes, to_le_bytes}
use Rattle.rand_chacha.specs.ChaCha.{ChaCha, key_of, word_at}
use Rattle.pcp_base.specs.AddressTexts.{v4_front}
use Rattle.pcp_base.specs.declared.addresses.Address.{Address}
use Rattle.pcp_base.specs.Protocols.{protocol_number}
use Rattle.pcp_base.specs.declared.leases.Protocol.{Protocol}
use Rattle.pcp_base.specs.declared.leases.Protocol.TheVariants.{Tcp, Udp}
use Rattle.pcp_base.specs.declared.datagrams.Datagram.{Datagram}
use Rattle.pcp_script.specs.declared.load.TheConstants.{LOAD_PORT}

-- the key of a number: its 8 octets, the lowest first, and zeros
abbrev pub load_key : ℕ → List ℕ
load_key number = key_of (to_le_bytes w64 number ++ replicate 24 0)

-- word k of the stream 0 of ChaCha8, which has 4 double rounds, under the number's key
abbrev pub load_word : ℕ → ℕ → ℕ
load_word number k = word_at 4 (load_key number) 0 (k % 2 ^ 68)

-- the generator of a number where the first i requests are made, each of three words
abbrev pub load_at : ℕ → ℕ → ChaCha
load_at number i = record { key = load_key number; stream = 0; word_pos = (3 * i) % 2 ^ 68 }

-- the IPv4 address 10.0.x.y
abbrev pub load_host : ℕ → List ℕ
load_host w = 10 ∷ 0 ∷ (w / 256) % 4 ∷ w % 256 ∷ []

abbrev pub load_port : ℕ → ℕ
load_port w = 1024 + w % 512

abbrev pub load_protocol : ℕ → Protocol
load_protocol w = if (w / 512) % 2 == 0 then Udp else Tcp

abbrev pub load_lifetime : ℕ → ℕ
load_lifetime w = slice_index (0 ∷ 120 ∷ 3600 ∷ 86400 ∷ []) (w % 4)

-- the head of a MAP request
abbrev pub load_head : Address → ℕ → List ℕ
load_head peer lifetime = (2 ∷ 1 ∷ 0 ∷ 0 ∷ []) ++ (to_be_bytes w32 lifetime ++ peer.0)

-- the IPv4 address, the internal port and zeros
abbrev pub load_nonce : List ℕ → ℕ → List ℕ
load_nonce host port = host ++ (to_be_bytes w16 port ++ replicate 6 0)

-- the rest of the data of a MAP request, which suggests nothing
abbrev pub load_ports : ℕ → Protocol → List ℕ
load_ports port protocol =
    (protocol_number protocol ∷ 0 ∷ 0 ∷ 0 ∷ []) ++ (to_be_bytes w16 port ++ replicate 18 0)

-- the request that three words make
abbrev pub load_request : ℕ → ℕ → ℕ → Datagram
load_request first second third =
    let host = load_host first in
    let peer : Address = record { 0 = v4_front ++ host } in
    let port = load_port second in
    record {
      peer = peer;
      port = LOAD_PORT;
      door = 0;
      octets = load_head peer (load_lifetime third) ++ load_nonce host port ++ load_ports port (load_protocol second);
    }

-- request i of a number, counted from 0
abbrev pub request_at : ℕ → ℕ → Datagram
request_at number i =
    load_request (load_word number (3 * i)) (load_word number (3 * i + 1)) (load_word number (3 * i + 2))
