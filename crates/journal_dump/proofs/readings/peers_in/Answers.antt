use Rattle.std.proofs.Common.{ap, ◌∙◌}
use Rattle.std.proofs.lemmas.Result.{IfOk-weaker}
use Rattle.pcp_base.specs.Tables.{live}
use Rattle.lease_json.specs.Objects.{peers_value}
use Rattle.journal_dump.proofs.ReplayLemmas.{live_peers}
use Rattle.journal_dump.proofs.readings.peers_in.Goals as goal

pub returns : goal.returns
returns g c =
    let s = g.S.LeaseStore.state c.args.core.now in
    IfOk-weaker c.peers_of.result _ _
    (λ v told. told ∙ ap peers_value (c.deref.ensures.value ∙ c.in_ok-peers.ensures ∙ ap (λ m. (live s.table m).peers) c.last.ensures.value ∙ live_peers s c.requires))
    c.peers_of.ensures
