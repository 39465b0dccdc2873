-- What equal views have in common.
use Rattle.std.proofs.Common.{◌≡◌, ap}
use Rattle.pcp_base.specs.declared.leases.PeerLease.{PeerLease}
use Rattle.ordered_index.specs.Aged.{Aged}

pub found_is : {a b : Aged PeerLease} → a ≡ b → a.found ≡ b.found
found_is same = ap (λ (t : Aged PeerLease). t.found) same

pub past_is : {a b : Aged PeerLease} → a ≡ b → a.past ≡ b.past
past_is same = ap (λ (t : Aged PeerLease). t.past) same

pub all_is : {a b : Aged PeerLease} → a ≡ b → a.all ≡ b.all
all_is same = ap (λ (t : Aged PeerLease). t.all) same
