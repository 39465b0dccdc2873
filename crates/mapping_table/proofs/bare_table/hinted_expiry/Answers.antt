use Rattle.std.proofs.Common.{Some, sym, ap, ◌∙◌}
use Rattle.std.specs.Option.{option_map}
use Rattle.pcp_base.specs.declared.leases.MapLease.{MapLease}
use Rattle.mapping_table.proofs.Lookups.{owning_is}
use Rattle.mapping_table.proofs.bare_table.hinted_expiry.Goals as goal

pub returns-then-owns : goal.returns-then-owns
returns-then-owns c =
    let entry = c.in-Some.entry.now in
    ap Some c.expires_at.ensures
    ∙ ap (option_map (λ (l : MapLease). l.expiry)) (owning_is c.args.kept.now c.requires.kept c.args.protocol c.args.port entry.0 entry.1 c.in-Some.ensures.held (sym c.owns.ensures ∙ c.if-owns.true))
