use Rattle.pcp_base.proofs.RoomLaws.{Sound-changed, HasRoom-needed, Fits-from_Suits, Suits-from_Fits}
use Rattle.pcp_base.proofs.FirstRoomLaws.{FitsFirst-iff_SuitsFirst}
use Rattle.pcp_base.proofs.laws.new_leases_need_room.Goals as goal

pub returns-clause-sound : goal.returns-clause-sound
returns-clause-sound c = λ t m change h formed allowed. (HasRoom-needed t change, Sound-changed t m change h formed allowed)

pub returns-clause-fits : goal.returns-clause-fits
returns-clause-fits c = λ s r h. (Suits-from_Fits s r, Fits-from_Suits s r h)

pub returns-clause-fits_first : goal.returns-clause-fits_first
returns-clause-fits_first c = λ s r sound. FitsFirst-iff_SuitsFirst s r sound
