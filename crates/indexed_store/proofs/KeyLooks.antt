-- The lease with a key, by the one that covers it.
use Rattle.std.proofs.Common.{◌≡◌, ℕ, Bool, true, false, cond, Option, Some, None, find, refl}
use Rattle.pcp_base.specs.declared.leases.Endpoint.{Endpoint}
use Rattle.pcp_base.specs.declared.leases.MapLease.{MapLease}
use Rattle.pcp_base.specs.Tables.{Table, covers, is_map_of, live}
use Rattle.indexed_store.specs.Judging.{map_with_key}
use Rattle.indexed_store.specs.Tabled.{AreTabled}
use Rattle.indexed_store.proofs.Uniques.{key-none, key-some, key-other}

-- the lease that covers a key, where it is the one with the key
pub key-looked : (t : Table) (m : ℕ) (key : Endpoint) → AreTabled t → (o : Option MapLease)
    → o ≡ find (λ l. covers l key) (live t m).maps → map_with_key key o ≡ find (is_map_of key) (live t m).maps
key-looked t m key tabled None is = key-none t m key tabled is
key-looked t m key tabled (Some l) is = step (is_map_of key l) refl
  where
    step : (b : Bool) → is_map_of key l ≡ b → cond b (Some l) None ≡ find (is_map_of key) (live t m).maps
    step true has = key-some t m key tabled l is has
    step false other = key-other t m key tabled l is other
