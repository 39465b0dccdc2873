-- What the lines of a script put out (our own).
use Rattle.std.specs.Prelude.{ℕ, List, [], ◌∷◌, ◌++◌, length, flat_map, codes, decimal, Some, None}
use Rattle.hex.specs.Hex.{encode_lower}
use Rattle.pcp_base.specs.AddressTexts.{address_text}
use Rattle.pcp_base.specs.Protocols.{protocol_number}
use Rattle.pcp_base.specs.declared.datagrams.Datagram.{Datagram}
use Rattle.pcp_base.specs.declared.leases.Endpoint.{Endpoint}
use Rattle.pcp_base.specs.declared.leases.Owner.{Owner as PortOwner}
use Rattle.pcp_script.specs.declared.results.LineResult.{LineResult}
use Rattle.pcp_script.specs.declared.results.LineResult.TheVariants.{Silent, Reply, Owner, Lost, Owners}

-- octets as a script has them
abbrev pub hex_field : List ℕ → List ℕ
hex_field [] = codes "-"
hex_field (x ∷ xs) = encode_lower (x ∷ xs)

-- reply ADDRESS PORT HEX; no door, since a script's datagrams come and go by door 0 alone
abbrev pub reply_line : Datagram → List ℕ
reply_line to =
    codes "reply " ++ address_text to.peer ++ codes " " ++ decimal to.port ++ codes " "
    ++ hex_field to.octets ++ 10 ∷ []

-- owner ADDRESS PROTOCOL PORT
abbrev pub owner_line : Endpoint → List ℕ
owner_line e =
    codes "owner " ++ address_text e.address ++ codes " " ++ decimal (protocol_number e.protocol)
    ++ codes " " ++ decimal e.port ++ 10 ∷ []

-- own PROTOCOL EXTERNALPORT ADDRESS PORT
abbrev pub own_line : PortOwner → List ℕ
own_line o =
    codes "own " ++ decimal (protocol_number o.protocol) ++ codes " " ++ decimal o.external ++ codes " "
    ++ address_text o.endpoint.address ++ codes " " ++ decimal o.endpoint.port ++ 10 ∷ []

-- lost N
abbrev pub lost_line : ℕ → List ℕ
lost_line n = codes "lost " ++ decimal n ++ 10 ∷ []

-- a line for each owned port, then owners N
abbrev pub owners_lines : List PortOwner → List ℕ
owners_lines owners = flat_map own_line owners ++ codes "owners " ++ decimal (length owners) ++ 10 ∷ []

-- what a line puts out
abbrev pub result_text : LineResult → List ℕ
result_text Silent = codes "silent" ++ 10 ∷ []
result_text (Reply to) = reply_line to
result_text (Owner None) = codes "none" ++ 10 ∷ []
result_text (Owner (Some e)) = owner_line e
result_text (Lost n) = lost_line n
result_text (Owners owners) = owners_lines owners
