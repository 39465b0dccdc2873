-- A record of the first format fits after a sound state exactly where it suits it.
use Rattle.std.specs.Prelude.{◌↔◌}
use Rattle.pcp_base.specs.declared.records.Record.{Record}
use Rattle.pcp_base.specs.Tables.{live}
use Rattle.pcp_base.specs.States.{State}
use Rattle.pcp_base.specs.Fits.{FitsFirst}
use Rattle.pcp_base.specs.Sound.{Sound}
use Rattle.pcp_base.specs.Rooms.{SuitsFirst}
use Rattle.pcp_base.proofs.RoomLaws.{Sound-changed, HasRoom-needed}
use Rattle.pcp_base.proofs.TableLemmas.{Sound-live}

pub FitsFirst-iff_SuitsFirst : (s : State) (r : Record) → Sound s.table → FitsFirst s r ↔ SuitsFirst s r
FitsFirst-iff_SuitsFirst s r sound = (
  λ fits. record {
    of_first = fits.of_first;
    table = record {
      next = record { formed = fits.formed; first = fits.first; later = fits.later };
      allowed = fits.allowed;
      room = HasRoom-needed (live s.table r.moment) r.change fits.sound;
    };
  },
  λ suits. record {
    of_first = suits.of_first;
    formed = suits.table.next.formed;
    first = suits.table.next.first;
    later = suits.table.next.later;
    allowed = suits.table.allowed;
    sound = Sound-changed (live s.table r.moment) r.moment r.change (Sound-live s.table r.moment sound) suits.table.next.formed.change suits.table.allowed suits.table.room;
  },
)
