use Rattle.journal_sides.proofs.SnapshotLaws.{first_reached}
use Rattle.journal_sides.proofs.UniqueLaws.{format_is}
use Rattle.journal_sides.proofs.laws.formats_differ.Goals as goal

pub returns : goal.returns
returns c = record { octet = format_is; next = λ parity octets g batches side. side.contents.next; first = first_reached c.first_states_are_sound.ensures.made }
