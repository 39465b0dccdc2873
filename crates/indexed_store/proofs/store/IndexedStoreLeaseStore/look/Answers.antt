use Rattle.std.proofs.Common.{◌≤◌, find, max, subst, sym, ap, ◌∙◌}
use Rattle.std.specs.Option.{option_map}
use Rattle.std.proofs.Math.Nat.{le-max_right}
use Rattle.pcp_base.specs.declared.leases.Owner.{Owner}
use Rattle.pcp_base.specs.Tables.{Table, live}
use Rattle.pcp_base.specs.Owners.{is_port}
use Rattle.filter_rules.specs.Lookups.{owners_for}
use Rattle.indexed_store.specs.Indexed.{Indexed, IsIndexed}
use Rattle.indexed_store.specs.declared.store.IndexedStore.TheInside.{Inside}
use Rattle.indexed_store.proofs.FirstLemmas.{sound-tabled}
use Rattle.indexed_store.proofs.KeptStates.{sound-at}
use Rattle.indexed_store.proofs.Uniques.{live-live}
use Rattle.indexed_store.proofs.store.IndexedStoreLeaseStore.look.Goals as goal

pub returns : goal.returns
returns c =
    let i = c.self-inside.inside.0.0 in let m = c.args.m in
    c.look.ensures
    ∙ ap (λ (t : Table). option_map (λ (o : Owner). o.endpoint) (find (is_port c.args.protocol c.args.port) (owners_for t c.args.remote.now c.args.remote_port)))
    (ap (live i.leases.all) c.later-m.ensures ∙ sym (live-live i.leases.all i.last (max m i.last) (le-max_right m i.last))
    ∙ ap (λ (x : Inside). live x.state.state.table (max m x.state.state.last)) c.self-inside.view_is ∙ ap (λ (x : Indexed). live x.kept.state.table (max m x.kept.state.last)) c.self.view_is)

pub look-requires-clause-sound : goal.look-requires-clause-sound
look-requires-clause-sound c =
    let i = c.self-inside.inside.0.0 in
    let indexed = subst (λ (x : Inside). IsIndexed x.state x.reached x.terms) (sym c.self-inside.view_is) c.self.invariant in
    let later = subst (λ n. i.last ≤ n) (sym c.later-m.ensures) (le-max_right c.args.m i.last) in
    sound-tabled c.sound_tables_have_sound_maps.ensures c.sound_tables_have_sound_peers.ensures (live i.leases.all c.later-m.result)
    (sound-at i.leases.all i.last c.later-m.result later indexed.sound.sound.table)
