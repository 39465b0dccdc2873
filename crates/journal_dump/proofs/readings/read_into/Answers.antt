use Rattle.journal_dump.proofs.ReplayLemmas.{view_reached}
use Rattle.journal_dump.proofs.readings.read_into.Goals as goal

pub value_of-requires : goal.value_of-requires
value_of-requires g c =
    let st = g.S.LeaseStore in
    view_reached st.state st.reached st.replaying st.replaying_first st.made st.made_first c.in_ok-found.found c.view.new.replay c.in_ok-found.ensures.replaying
