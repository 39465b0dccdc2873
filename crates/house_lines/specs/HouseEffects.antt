-- What the lines of a script do to a house, and what they are told (our own).
use Rattle.std.specs.Prelude.{List, Option, Some, None, ℕ}
use Rattle.pcp_base.specs.declared.datagrams.Datagram.{Datagram}
use Rattle.pcp_script.specs.declared.lines.Line.{Line}
use Rattle.pcp_script.specs.declared.lines.Line.TheVariants.{Skip, Packet, Look, Lose, Owners}
use Rattle.pcp_script.specs.declared.results.LineResult.{LineResult}
use Rattle.pcp_script.specs.declared.results.LineResult.TheVariants as Told
use Rattle.script_player.specs.Houses.{LineEffects}
use Rattle.lease_histories.specs.PlainHouses.{PlainHouse, look_in, lose_after, lost_count, owners_in, packet_after, packet_reply}

-- a reply goes back to where the datagram came from, by the door at which it came; a silent one has none
abbrev pub told_reply : Datagram → Option (List ℕ) → LineResult
told_reply from None = Told.Silent
told_reply from (Some octets) =
    Told.Reply (record {
      peer = from.peer;
      port = from.port;
      door = from.door;
      octets = octets;
    })

-- the house after a line: one that looks up changes nothing
abbrev pub line_after : PlainHouse → Line → PlainHouse
line_after house Skip = house
line_after house (Packet now from) = packet_after house now from
line_after house (Look m shard protocol port remote remote_port) = house
line_after house (Lose now shard) = lose_after house shard now
line_after house (Owners m shard) = house

-- what a line is told, if anything
abbrev pub line_result : PlainHouse → Line → Option LineResult
line_result house Skip = None
line_result house (Packet now from) = Some (told_reply from (packet_reply house now from))
line_result house (Look m shard protocol port remote remote_port) =
    Some (Told.Owner (look_in house shard protocol port remote remote_port m))
line_result house (Lose now shard) = Some (Told.Lost (lost_count house shard now))
line_result house (Owners m shard) = Some (Told.Owners (owners_in house shard m))

abbrev pub house_effects : LineEffects PlainHouse
house_effects = record {
  externals = λ house. house.config.externals;
  after = line_after;
  result_of = line_result;
}
