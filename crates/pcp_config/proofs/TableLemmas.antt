-- Tables that stand for nothing.
use Rattle.std.proofs.Common.{◌≡◌, ℕ, codes, Some, sym, subst, ◌∙◌, ap}
use Rattle.std.proofs.lemmas.Option.{same_Some}
use Rattle.toml.specs.Data.{Data, Members, as_table}
use Rattle.pcp_base.specs.declared.configs.External.{External}
use Rattle.pcp_config.specs.ConfigTables.{IsExternalTable}
use Rattle.pcp_config.specs.declared.TheConstants.{LAST_PORT}
use Rattle.pcp_config.specs.TomlValues.{TellsAt, IsNumberIn, IsTableOf}
use Rattle.pcp_config.proofs.UniqueLemmas.{TellsAt-unique, IsNumberIn-unique}

-- where the last port is refused, above the first one that was read
pub high_untold : (members : Members) (low : ℕ) → TellsAt members (codes "low") (IsNumberIn 1 LAST_PORT) low
    → ((n : ℕ) → ¬ (TellsAt members (codes "high") (IsNumberIn low LAST_PORT) n)) → (x : External) → ¬ (IsExternalTable members x)
high_untold members low read none x h =
    let same : x.low ≡ low = TellsAt-unique members (codes "low") (IsNumberIn 1 LAST_PORT) (IsNumberIn 1 LAST_PORT) (IsNumberIn-unique 1 LAST_PORT 1 LAST_PORT) x.low low h.low read in
    none x.high (subst (λ (n : ℕ). TellsAt members (codes "high") (IsNumberIn n LAST_PORT) x.high) same h.high)

-- a table that tells nothing
pub untold_table : {A : Type 0} (Tells : Members → A → Type 0) (d : Data) (members : Members) → Some members ≡ as_table d
    → ((x : A) → ¬ (Tells members x)) → (x : A) → ¬ (IsTableOf Tells d x)
untold_table Tells d members seen none x (other, is, tells) =
    let same : members ≡ other = same_Some _ _ (seen ∙ ap as_table is) in
    none x (subst (λ t. Tells t x) (sym same) tells)
