use Rattle.std.proofs.Common.{ap, ◌∙◌}
use Rattle.std.proofs.lemmas.Result.{IfOk-weaker}
use Rattle.pcp_base.specs.Tables.{live}
use Rattle.lease_json.specs.Objects.{maps_value}
use Rattle.journal_dump.proofs.ReplayLemmas.{live_maps}
use Rattle.journal_dump.proofs.readings.maps_in.Goals as goal

pub returns : goal.returns
returns g c =
    let s = g.S.LeaseStore.state c.args.core.now in
    IfOk-weaker c.maps_of.result _ _
    (λ v told. told ∙ ap maps_value (c.deref.ensures.value ∙ c.in_ok-maps.ensures ∙ ap (λ m. (live s.table m).maps) c.last.ensures.value ∙ live_maps s c.requires))
    c.maps_of.ensures
