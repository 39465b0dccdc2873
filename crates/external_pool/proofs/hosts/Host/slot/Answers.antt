use Rattle.std.proofs.Common.{ap, ◌*◌, ◌∙◌}
use Rattle.external_pool.specs.HostSlots.{slot_of}
use Rattle.external_pool.specs.declared.hosts.TheConstants.{MIXER}
use Rattle.external_pool.proofs.SlotLemmas.{slot_of-from, top_bits}
use Rattle.external_pool.proofs.hosts.Host.slot.Goals as goal

pub returns-clause-slot : goal.returns-clause-slot
returns-clause-slot c = slot_of-from c.self.inside.octets c.from_be_bytes.result c.from_be_bytes.ensures ∙ ap slot_of c.self.view_is

pub returns-clause-below : goal.returns-clause-below
returns-clause-below c = top_bits (c.from_be_bytes.result * MIXER)
