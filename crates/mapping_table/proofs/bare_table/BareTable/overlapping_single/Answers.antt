use Rattle.std.proofs.Common.{ℕ, sym, ap, ◌∙◌}
use Rattle.std.specs.Map.{values_of}
use Rattle.std.specs.Option.{option_copied}
use Rattle.pcp_base.specs.declared.leases.Protocol.{Protocol}
use Rattle.pcp_base.specs.declared.leases.Endpoint.{Endpoint}
use Rattle.mapping_table.specs.MapLists.{map_covering, map_owning}
use Rattle.mapping_table.proofs.Meetings.{single_inside, single_outside, first_tells, second_tells, renewed_tells}
use Rattle.mapping_table.proofs.bare_table.BareTable.overlapping_single.Goals as goal

pub returns-in_default-clause-overlapped : goal.returns-in_default-clause-overlapped
returns-in_default-clause-overlapped g c =
    let ls = values_of c.args.self.now.entries in let l = c.args.lease.now in
    second_tells ls l (option_copied c.find-found.result) (option_copied c.by_external-owner.result)
    (single_inside ls c.requires.sound l c.requires.single (option_copied c.find-found.result) (c.find-found.ensures.lease ∙ ap (λ (e : Endpoint). map_covering e ls) c.first_endpoint.ensures))
    (single_outside ls c.requires.sound l c.requires.single (option_copied c.by_external-owner.result)
    (c.by_external-owner.ensures.lease ∙ ap (λ (p : Protocol). map_owning p c.external.result ls) c.protocol.ensures ∙ ap (λ (n : ℕ). map_owning l.protocol n ls) c.external.ensures))
    c.in_default.ensures c.overlapped_key-in_default.result c.overlapped_key-in_default.ensures

pub returns-clause-overlapped : goal.returns-clause-overlapped
returns-clause-overlapped g c =
    let ls = values_of c.args.self.now.entries in let l = c.args.lease.now in
    first_tells ls l (option_copied c.find-found.result)
    (single_inside ls c.requires.sound l c.requires.single (option_copied c.find-found.result) (c.find-found.ensures.lease ∙ ap (λ (e : Endpoint). map_covering e ls) c.first_endpoint.ensures))
    c.in-Some.key c.in-Some.ensures

pub returns-then-is_renewed-clause-overlapped : goal.returns-then-is_renewed-clause-overlapped
returns-then-is_renewed-clause-overlapped g c =
    let ls = values_of c.args.self.now.entries in let l = c.args.lease.now in
    renewed_tells ls c.requires.sound l c.requires.single (option_copied c.find-found.result)
    (c.find-found.ensures.lease ∙ ap (λ (e : Endpoint). map_covering e ls) c.first_endpoint.ensures) (sym c.is_renewed.ensures ∙ c.if-is_renewed.true)
