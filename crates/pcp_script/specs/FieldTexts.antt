-- The fields of a line, as texts (our own).
use Rattle.std.specs.Prelude.{ℕ, List, [], ◌∷◌}
use Rattle.pcp_script.specs.declared.lines.LookFields.{LookFields}
use Rattle.pcp_script.specs.declared.lines.PacketFields.{PacketFields}

abbrev pub packet_texts : PacketFields → List (List ℕ)
packet_texts f = f.word.now ∷ f.moment.now ∷ f.peer.now ∷ f.port.now ∷ f.hex.now ∷ []

abbrev pub look_texts : LookFields → List (List ℕ)
look_texts f =
    f.word.now ∷ f.moment.now ∷ f.external.now ∷ f.protocol.now ∷ f.port.now ∷ f.remote.now ∷ f.remote_port.now ∷ []
