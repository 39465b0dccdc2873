use Rattle.std.proofs.Common.{◌≡◌, ◌∙◌, ap, sym, Bool, Some}
use Rattle.std.specs.Prelude.{find}
use Rattle.pcp_base.specs.declared.leases.MapLease.{MapLease}
use Rattle.pcp_base.specs.Tables.{Table, first_endpoint, is_map_of}
use Rattle.plain_replay.proofs.NewLeases.{decided_where_some}
use Rattle.pcp_base.proofs.RenewalLemmas.{renewed-from_test, test-from_renewed}
use Rattle.plain_replay.proofs.table.PlainTable.allows_map.Goals as goal

pub returns : goal.returns
returns c =
    let test : MapLease → Bool = is_map_of (first_endpoint c.args.lease.now) in
    let kept : MapLease → Type 0 = λ old. c.args.lease.now ≡ record old { expiry = c.args.lease.now.expiry; filters = c.args.lease.now.filters } in
    let some : find test c.args.self.now.maps ≡ Some c.in-Some.held.now =
    sym (c.in-Some.ensures ∙ ap (find test) (c.deref.ensures.value ∙ ap (λ (t : Table). t.maps) c.self.view_is)) in
    decided_where_some (find test c.args.self.now.maps) c.in-Some.held.now kept c.is_renewed_map.result some (
      λ h. renewed-from_test c.in-Some.held.now c.args.lease.now (sym c.is_renewed_map.ensures ∙ h),
      λ e. c.is_renewed_map.ensures ∙ test-from_renewed c.in-Some.held.now c.args.lease.now e,
    )
