-- External addresses by their place.
use Rattle.std.specs.List.{position_from}
use Rattle.std.proofs.Common.{◌≡◌, ℕ, zero, suc, ◌+◌, ◌<◌, Bool, true, false, cond, List, [], ◌∷◌, length, slice_get, Some, None, refl, sym, ap, ◌∙◌, subst, arith}
use Rattle.std.proofs.lemmas.Option.{same_Some, slice_get_within}
use Rattle.toml.specs.Data.{Data, as_str}
use Rattle.pcp_base.specs.AddressTexts.{IsAddressText}
use Rattle.pcp_base.specs.Tables.{same_address}
use Rattle.pcp_base.specs.declared.addresses.Address.{Address}
use Rattle.pcp_base.specs.declared.configs.External.{External}
use Rattle.pcp_base.proofs.AddressLemmas.{IsAddressText-unique}
use Rattle.pcp_base.proofs.Same.{same_address-Decides}
use Rattle.pcp_base.proofs.Places.{IsFound, found, missed, has_address}
use Rattle.pcp_config.specs.ConfigTables.{IsExternalText}
use Rattle.pcp_config.specs.TomlValues.{IsTextOf}

-- the external that is found at an index
record IsAtIndex (externals : List External) (address : Address) (index : ℕ) : Type 0 where
  pub external : External
  pub place : slice_get externals index ≡ Some external
  pub same : external.address ≡ address

at_index : (externals : List External) (address : Address) (index : ℕ) → position_from (has_address address) 0 externals ≡ Some index → IsAtIndex externals address index
at_index externals address index e =
    let f = found (has_address address) externals 0 index e in
    let place : f.i ≡ index = omega (arith, f.place) in
    record {
      external = f.x;
      place = subst (λ (k : ℕ). slice_get externals k ≡ Some f.x) place f.item;
      same = (same_address-Decides f.x.address address).0 f.passes;
    }

pub index_within : (externals : List External) (address : Address) (index : ℕ) → position_from (has_address address) 0 externals ≡ Some index
    → index < length externals
index_within externals address index e = let f = at_index externals address index e in slice_get_within externals index f.external f.place

pub index_found : (externals : List External) (d : Data) (address : Address) (index : ℕ) → IsTextOf IsAddressText d address
    → position_from (has_address address) 0 externals ≡ Some index → IsTextOf (IsExternalText externals) d index
index_found externals d address index (text, is, writes) e =
    let f = at_index externals address index e in
    (text, is, (f.external, f.place, subst (λ (a : Address). IsAddressText text a) (sym f.same) writes))

pub index_missed : (externals : List External) (d : Data) (address : Address) → IsTextOf IsAddressText d address
    → position_from (has_address address) 0 externals ≡ None → (index : ℕ) → ¬ (IsTextOf (IsExternalText externals) d index)
index_missed externals d address (text, is, writes) e index (other, is', (x, place, writes')) =
    let same : other ≡ text = same_Some _ _ (ap as_str (sym is' ∙ is)) in
    let one : x.address ≡ address = IsAddressText-unique text x.address address (subst (λ (t : List ℕ). IsAddressText t x.address) same writes') writes in
    let bad : true ≡ false = sym ((same_address-Decides x.address address).1 one) ∙ missed (has_address address) externals 0 e index x place in absurd (cc)

pub index_untold : (externals : List External) (d : Data) → ((a : Address) → ¬ (IsTextOf IsAddressText d a))
    → (index : ℕ) → ¬ (IsTextOf (IsExternalText externals) d index)
index_untold externals d none index (text, is, (x, place, writes)) = none x.address (text, is, writes)
