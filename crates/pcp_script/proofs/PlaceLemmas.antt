-- The place of the first of a list that passes a test, and external addresses by their place.
use Rattle.std.specs.List.{position_from}
use Rattle.std.proofs.Common.{◌≡◌, ℕ, zero, suc, ◌+◌, ◌<◌, ◌≤◌, Bool, true, false, cond, List, [], ◌∷◌, slice_get, Some, None, refl, sym, ap, ◌∙◌, subst, arith}
use Rattle.pcp_base.specs.AddressTexts.{IsAddressText}
use Rattle.pcp_base.specs.Tables.{same_address}
use Rattle.pcp_base.specs.declared.addresses.Address.{Address}
use Rattle.pcp_base.specs.declared.configs.External.{External}
use Rattle.pcp_base.proofs.Same.{same_address-Decides}
use Rattle.pcp_base.proofs.Places.{IsFound, found, missed, has_address}
use Rattle.pcp_script.specs.Fields.{IsExternalField}

first-step : {X : Type 0} (p : X → Bool) (y : X) (xs : List X) (n m : ℕ) (b : Bool) → p y ≡ b → cond b (Some n) (position_from p (n + 1) xs) ≡ Some m
    → (position_from p (n + 1) xs ≡ Some m → (i : ℕ) (x : X) → slice_get xs i ≡ Some x → p x ≡ true → m ≤ n + 1 + i)
    → (i : ℕ) (x : X) → slice_get (y ∷ xs) i ≡ Some x → p x ≡ true → m ≤ n + i
first-step p y xs n m true t e f i x at pass = let same : n ≡ m = cc in omega (arith, same)
first-step p y xs n m false t e f zero x at pass =
    let same : y ≡ x = cc in
    let bad : false ≡ true = sym t ∙ ap p same ∙ pass in absurd (cc)
first-step p y xs n m false t e f (suc i) x at pass = omega (arith, f e i x at pass)

first : {X : Type 0} (p : X → Bool) (xs : List X) (n m : ℕ) → position_from p n xs ≡ Some m → (i : ℕ) (x : X) → slice_get xs i ≡ Some x → p x ≡ true → m ≤ n + i
first p [] n m e i x at pass = let bad : None ≡ Some x = at in absurd (cc)
first p (y ∷ xs) n m e i x at pass = first-step p y xs n m (p y) refl e (λ rest. first p xs (n + 1) m rest) i x at pass

pub external-found : (externals : List External) (text : List ℕ) (address : Address) (shard : ℕ) → position_from (has_address address) 0 externals ≡ Some shard
    → shard < 16 → IsAddressText text address → IsExternalField externals text shard
external-found externals text address shard e few h =
    let f = found (has_address address) externals 0 shard e in
    let same : f.x.address ≡ address = (same_address-Decides f.x.address address).0 f.passes in
    let place : f.i ≡ shard = omega (arith, f.place) in
    record {
      external = f.x;
      place = subst (λ (k : ℕ). slice_get externals k ≡ Some f.x) place f.item;
      few = few;
      address = subst (λ (a : Address). IsAddressText text a) (sym same) h;
    }

passes : (text : List ℕ) (address : Address) → ((b : Address) → IsAddressText text b → b ≡ address) → (external : External) → IsAddressText text external.address
    → has_address address external ≡ true
passes text address only external h = (same_address-Decides external.address address).1 (only external.address h)

pub external-missed : (externals : List External) (text : List ℕ) (address : Address) → position_from (has_address address) 0 externals ≡ None
    → ((b : Address) → IsAddressText text b → b ≡ address) → (shard : ℕ) → ¬ (IsExternalField externals text shard)
external-missed externals text address e only shard h =
    let bad : true ≡ false = sym (passes text address only h.external h.address) ∙ missed (has_address address) externals 0 e shard h.external h.place in absurd (cc)

pub external-past : (externals : List External) (text : List ℕ) (address : Address) (m : ℕ) → position_from (has_address address) 0 externals ≡ Some m → 16 ≤ m
    → ((b : Address) → IsAddressText text b → b ≡ address) → (shard : ℕ) → ¬ (IsExternalField externals text shard)
external-past externals text address m e many only shard h =
    omega (arith, many, h.few, first (has_address address) externals 0 m e shard h.external h.place (passes text address only h.external h.address))
