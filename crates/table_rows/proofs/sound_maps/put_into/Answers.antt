use Rattle.std.proofs.Common.{◌∙◌, ap}
use Rattle.std.specs.List.{position}
use Rattle.pcp_base.specs.Tables.{first_endpoint, is_map_of}
use Rattle.pcp_base.proofs.Puts.{put_at, put_behind}
use Rattle.table_rows.proofs.sound_maps.put_into.Goals as goal

pub returns-in-Some-clause-ok : goal.returns-in-Some-clause-ok
returns-in-Some-clause-ok c =
    let test = is_map_of (first_endpoint c.args.lease) in
    put_at test c.args.lease c.args.leases.now.items c.in-Some.place (c.in-Some.ensures ∙ ap (λ k. position (is_map_of k) c.deref.result.now) c.first_endpoint.ensures ∙ ap (position test) c.deref.ensures.value)

pub returns-in_ok-push-in-None-clause-ok : goal.returns-in_ok-push-in-None-clause-ok
returns-in_ok-push-in-None-clause-ok c =
    let test = is_map_of (first_endpoint c.args.lease) in
    c.in_ok-push-in-None.ensures.items ∙ put_behind test c.args.lease c.args.leases.now.items (c.in-None.ensures ∙ ap (λ k. position (is_map_of k) c.deref.result.now) c.first_endpoint.ensures ∙ ap (position test) c.deref.ensures.value)
