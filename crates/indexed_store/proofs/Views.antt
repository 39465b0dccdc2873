-- What a state in tables is seen as.
use Rattle.std.proofs.Common.{◌≡◌, ap}
use Rattle.pcp_base.specs.States.{State}
use Rattle.indexed_store.specs.Tabled.{Tables, TabledState}

pub state_of : {a b : TabledState} → a ≡ b → a.state ≡ b.state
state_of {a} {b} same = ap (λ (v : TabledState). v.state) same

pub found_is : {a b : Tables} → a ≡ b → a.found ≡ b.found
found_is same = ap (λ (t : Tables). t.found) same

pub past_is : {a b : Tables} → a ≡ b → a.past ≡ b.past
past_is same = ap (λ (t : Tables). t.past) same

pub all_is : {a b : Tables} → a ≡ b → a.all ≡ b.all
all_is same = ap (λ (t : Tables). t.all) same
