use Rattle.std.proofs.Common.{◌≡◌, map}
use Rattle.toml.specs.View.{members_view}
use Rattle.pcp_config.specs.TomlValues.{has_only}
use Rattle.pcp_config.proofs.values.has_only.Given as goal

abbrev pub invariant-members : goal.invariant-members
invariant-members l =
    (goal.iterator-members).can_next l.key-iterator × (goal.iterator-members).is_finite l.key-iterator
    × (has_only (map (λ key. key.now) l.keys) (members_view l.key-iterator) ≡ has_only (map (λ key. key.now) l.keys) (members_view l.table.entries))
