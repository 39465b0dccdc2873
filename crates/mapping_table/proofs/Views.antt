-- What equal views have in common.
use Rattle.std.proofs.Common.{◌≡◌, ℕ, ap}
use Rattle.std.specs.Map.{values_of}
use Rattle.std.specs.Ordering.{nat_cmp}
use Rattle.std.specs.BTreeMap.{get}
use Rattle.pcp_base.specs.declared.leases.MapLease.{MapLease}
use Rattle.ordered_index.specs.Aged.{Aged}
use Rattle.mapping_table.specs.Kept.{BareLeases, leases_in}

pub values_is : {a b : BareLeases} → a ≡ b → values_of a.entries ≡ values_of b.entries
values_is same = ap (λ (it : BareLeases). values_of it.entries) same

pub next_is : {a b : BareLeases} → a ≡ b → a.next ≡ b.next
next_is same = ap (λ (it : BareLeases). it.next) same

pub number_is : {a b : BareLeases} → a ≡ b → (n : ℕ) → get nat_cmp (leases_in a) n ≡ get nat_cmp (leases_in b) n
number_is same n = ap (λ (it : BareLeases). get nat_cmp (leases_in it) n) same

pub found_is : {a b : Aged MapLease} → a ≡ b → a.found ≡ b.found
found_is same = ap (λ (t : Aged MapLease). t.found) same

pub past_is : {a b : Aged MapLease} → a ≡ b → a.past ≡ b.past
past_is same = ap (λ (t : Aged MapLease). t.past) same

pub all_is : {a b : Aged MapLease} → a ≡ b → a.all ≡ b.all
all_is same = ap (λ (t : Aged MapLease). t.all) same
