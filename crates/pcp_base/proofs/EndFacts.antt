-- What the definitions give for a few records: ends that come, rest and go.
use Rattle.std.specs.Prelude.{◌≡◌, refl, ℕ, ◌&&◌, ◌==◌, true, false, List, [], ◌∷◌, Some, None}
use Rattle.std.proofs.Common.{inl, inr, sym, ap, arith, get_or, length}
use Rattle.std.proofs.lemmas.Bool.{and_parts, eq-eqb}
use Rattle.pcp_base.specs.declared.addresses.Address.{Address}
use Rattle.pcp_base.specs.declared.leases.Protocol.{Protocol}
use Rattle.pcp_base.specs.declared.leases.Protocol.TheVariants.{Tcp, Udp}
use Rattle.pcp_base.specs.declared.leases.Endpoint.{Endpoint}
use Rattle.pcp_base.specs.declared.leases.MapLease.{MapLease}
use Rattle.pcp_base.specs.declared.leases.PeerLease.{PeerLease}
use Rattle.pcp_base.specs.declared.leases.End.{End}
use Rattle.pcp_base.specs.declared.records.Change.{Change}
use Rattle.pcp_base.specs.declared.records.Change.TheVariants.{Start, Map, Peer, DropMap, Lose, Mark, Rest, Renumber}
use Rattle.pcp_base.specs.declared.records.Record.{Record}
use Rattle.pcp_base.specs.Tables.{empty_table, same_endpoint, IsMapLease}
use Rattle.pcp_base.specs.States.{State}
use Rattle.pcp_base.specs.Ends.{ends_by, rests_for, rests}
use Rattle.pcp_base.specs.Apply.{apply_all, state_of, state_of_first}
use Rattle.pcp_base.specs.Fits.{Fits, FitsFirst}
use Rattle.pcp_base.specs.Sound.{Sound}
use Rattle.pcp_base.proofs.Members.{any-some}
use Rattle.pcp_base.proofs.Same.{same_endpoint-Decides}
use Rattle.pcp_base.proofs.TableLemmas.{Sound-empty, Sound-put_new}

abbrev host : ℕ → Address
host n = record { 0 = n ∷ [] }

abbrev endpoint : ℕ → Protocol → ℕ → Endpoint
endpoint n protocol port = record { address = host n; protocol = protocol; port = port }

-- a MAP lease of `count` ports from 5000 on, owning those from `external` on
abbrev lease : ℕ → Protocol → ℕ → ℕ → ℕ → MapLease
lease n protocol count external expiry = record {
  address = host n;
  protocol = protocol;
  internal = 5000;
  count = count;
  external = external;
  nonce = record { 0 = [] };
  granted = 1010;
  expiry = expiry;
  filters = [];
}

abbrev peer : ℕ → Protocol → ℕ → ℕ → PeerLease
peer n protocol external expiry = record {
  endpoint = endpoint n protocol 5000;
  external = external;
  remote = host 99;
  remote_port = 80;
  nonce = record { 0 = [] };
  granted = 1010;
  expiry = expiry;
}

abbrev at : ℕ → Change → Record
at m change = record { moment = m; change = change }

abbrev end : ℕ → Protocol → ℕ → ℕ → ℕ → End
end n protocol port external moment = record { endpoint = endpoint n protocol port; external = external; end = moment }

-- a Start, and a lease of one port that expires at 4610
abbrev granted : List Record
granted = at 1000 Start ∷ at 1010 (Map (lease 1 Udp 1 1024 4610)) ∷ []

-- the same, and what comes then
abbrev then_ : List Record → State
then_ rs = apply_all (state_of granted) rs

-- a lease that expires rests 120 seconds for its endpoint, with or without a record
expired-ends : (then_ (at 4610 Mark ∷ [])).ends ≡ end 1 Udp 5000 1024 4610 ∷ []
expired-ends = refl

live-ends : (then_ (at 4609 Mark ∷ [])).ends ≡ []
live-ends = refl

last_second-ends : (then_ (at 4610 Mark ∷ at 4729 Mark ∷ [])).ends ≡ end 1 Udp 5000 1024 4610 ∷ []
last_second-ends = refl

over-ends : (then_ (at 4610 Mark ∷ at 4730 Mark ∷ [])).ends ≡ []
over-ends = refl

-- also where no record came between
late-ends : (then_ (at 4730 Mark ∷ [])).ends ≡ []
late-ends = refl

unrecorded-ends_by : ends_by (then_ []) 4610 ≡ end 1 Udp 5000 1024 4610 ∷ []
unrecorded-ends_by = refl

owned-rests_for : rests_for (then_ []) 4609 1024 (endpoint 1 Udp 5000) ≡ false
owned-rests_for = refl

expired-rests_for : rests_for (then_ []) 4610 1024 (endpoint 1 Udp 5000) ≡ true
expired-rests_for = refl

last_second-rests_for : rests_for (then_ []) 4729 1024 (endpoint 1 Udp 5000) ≡ true
last_second-rests_for = refl

over-rests_for : rests_for (then_ []) 4730 1024 (endpoint 1 Udp 5000) ≡ false
over-rests_for = refl

other_host-rests_for : rests_for (then_ []) 4610 1024 (endpoint 2 Udp 5000) ≡ false
other_host-rests_for = refl

other_port-rests_for : rests_for (then_ []) 4610 1025 (endpoint 1 Udp 5000) ≡ false
other_port-rests_for = refl

some-rests : rests (then_ []) 4610 Udp 1024 ≡ true
some-rests = refl

other_protocol-rests : rests (then_ []) 4610 Tcp 1024 ≡ false
other_protocol-rests = refl

-- a deleted lease rests from its deletion on
deleted-ends : (then_ (at 2000 (DropMap (endpoint 1 Udp 5000)) ∷ [])).ends ≡ end 1 Udp 5000 1024 2000 ∷ []
deleted-ends = refl

deleted-over : (then_ (at 2000 (DropMap (endpoint 1 Udp 5000)) ∷ at 2120 Mark ∷ [])).ends ≡ []
deleted-over = refl

-- a renewal takes nothing out
renewed-table : (then_ (at 2000 (Map (lease 1 Udp 1 1024 5600)) ∷ [])).table ≡ record { maps = lease 1 Udp 1 1024 5600 ∷ []; peers = [] }
renewed-table = refl

renewed-ends : (then_ (at 2000 (Map (lease 1 Udp 1 1024 5600)) ∷ [])).ends ≡ []
renewed-ends = refl

-- the end goes when the port is owned again
owned_again-ends : (then_ (at 2000 (DropMap (endpoint 1 Udp 5000)) ∷ at 2050 (Map (lease 1 Udp 1 1024 5600)) ∷ [])).ends ≡ []
owned_again-ends = refl

-- also where the lease expired before, without a record between
expired_again-ends : (then_ (at 4650 (Map (lease 1 Udp 1 1024 5600)) ∷ [])).ends ≡ []
expired_again-ends = refl

other_owned-ends : (then_ (at 2000 (DropMap (endpoint 1 Udp 5000)) ∷ at 2050 (Map (lease 1 Udp 1 1025 5600)) ∷ [])).ends ≡ end 1 Udp 5000 1024 2000 ∷ []
other_owned-ends = refl

-- a Lose and a Start forget the ends, and what would have ended
lost-ends : (then_ (at 2000 (DropMap (endpoint 1 Udp 5000)) ∷ at 2001 Lose ∷ [])).ends ≡ []
lost-ends = refl

lost_late-ends : (then_ (at 4610 Lose ∷ [])).ends ≡ []
lost_late-ends = refl

started-ends : (then_ (at 2000 (DropMap (endpoint 1 Udp 5000)) ∷ at 2001 Start ∷ [])).ends ≡ []
started-ends = refl

-- A Renumber raises the base only where another address was there.
first-base : (then_ (at 2000 (Renumber (host 7)) ∷ [])).base ≡ 1000
first-base = refl

same-base : (then_ (at 2000 (Renumber (host 7)) ∷ at 2001 (Renumber (host 7)) ∷ [])).base ≡ 1000
same-base = refl

another-base : (then_ (at 2000 (Renumber (host 7)) ∷ at 2001 (Renumber (host 8)) ∷ [])).base ≡ 2001
another-base = refl

another-address : (then_ (at 2000 (Renumber (host 7)) ∷ at 2001 (Renumber (host 8)) ∷ [])).address ≡ Some (host 8)
another-address = refl

renumbered-table : (then_ (at 2000 (Renumber (host 7)) ∷ at 2001 (Renumber (host 8)) ∷ [])).table ≡ (then_ []).table
renumbered-table = refl

-- the address stays at a Lose, and goes at a Start
lost-address : (then_ (at 2000 (Renumber (host 7)) ∷ at 2001 Lose ∷ [])).address ≡ Some (host 7)
lost-address = refl

started-address : (then_ (at 2000 (Renumber (host 7)) ∷ at 2001 Start ∷ [])).address ≡ None
started-address = refl

-- A Rest adds its end.
rested-ends : (then_ (at 2000 (Rest (endpoint 2 Udp 6000) 1025 1900) ∷ [])).ends ≡ end 2 Udp 6000 1025 1900 ∷ []
rested-ends = refl

-- MAP and PEER leases of one endpoint: the port has an end when the last of them goes, with the later expiry
shared-ends : (then_ (at 1020 (Peer (peer 1 Udp 1024 4700)) ∷ at 4610 Mark ∷ [])).ends ≡ []
shared-ends = refl

shared_later-ends : (then_ (at 1020 (Peer (peer 1 Udp 1024 4700)) ∷ at 4700 Mark ∷ [])).ends ≡ end 1 Udp 5000 1024 4700 ∷ []
shared_later-ends = refl

shared_sooner-ends : (then_ (at 1020 (Peer (peer 1 Udp 1024 4600)) ∷ at 4700 Mark ∷ [])).ends ≡ end 1 Udp 5000 1024 4610 ∷ []
shared_sooner-ends = refl

-- each port of a lease ends for its own internal port; TCP stands before UDP, and then the lesser port first
ordered-ends : (then_ (at 1020 (Map (lease 2 Udp 2 1000 4600)) ∷ at 1021 (Map (lease 3 Tcp 1 2000 4600)) ∷ at 4620 Mark ∷ [])).ends
    ≡ end 3 Tcp 5000 2000 4600 ∷ end 2 Udp 5000 1000 4600 ∷ end 2 Udp 5001 1001 4600 ∷ end 1 Udp 5000 1024 4610 ∷ []
ordered-ends = refl

-- a deletion makes an end of the deleted lease, and of one that had expired
both-ends : (then_ (at 1020 (Map (lease 2 Udp 1 1000 5600)) ∷ at 4650 (DropMap (endpoint 2 Udp 5000)) ∷ [])).ends
    ≡ end 2 Udp 5000 1000 4650 ∷ end 1 Udp 5000 1024 4610 ∷ []
both-ends = refl

-- the first format makes no end
first_format-ends : (state_of_first (at 1000 Start ∷ at 1010 (Map (lease 1 Udp 1 1024 4610)) ∷ at 2000 (DropMap (endpoint 1 Udp 5000)) ∷ [])).ends ≡ []
first_format-ends = refl

first_format_expired-ends : (state_of_first (at 1000 Start ∷ at 1010 (Map (lease 1 Udp 1 1024 4610)) ∷ at 4610 Mark ∷ [])).ends ≡ []
first_format_expired-ends = refl

first_format_expired-table : (state_of_first (at 1000 Start ∷ at 1010 (Map (lease 1 Udp 1 1024 4610)) ∷ at 4610 Mark ∷ [])).table ≡ empty_table
first_format_expired-table = refl

-- ---- which records fit

-- the lease was deleted at 2000
abbrev deleted : State
deleted = then_ (at 2000 (DropMap (endpoint 1 Udp 5000)) ∷ [])

no_true : true ≡ false → ⊥
no_true h = cc

no_false : false ≡ true → ⊥
no_false h = cc

-- a Rest of a port that a lease owns doesn't fit
rest_owned-Fits : ¬ (Fits (then_ []) (at 2000 (Rest (endpoint 1 Udp 5000) 1024 1990)))
rest_owned-Fits f = no_true f.rested.unowned

-- nor where that lease isn't live any more, and its port doesn't rest either
rest_dead-Fits : ¬ (Fits (then_ []) (at 4800 (Rest (endpoint 1 Udp 5000) 1024 4790)))
rest_dead-Fits f = no_true f.rested.unowned

-- nor of a port that has an end, of whatever endpoint and however old
rest_ended-Fits : ¬ (Fits deleted (at 2200 (Rest (endpoint 2 Udp 5000) 1024 2190)))
rest_ended-Fits f = no_true f.rested.endless

-- nor one that is over
rest_over-Fits : ¬ (Fits deleted (at 2200 (Rest (endpoint 2 Udp 5000) 1030 2080)))
rest_over-Fits f = absurd (let recent = f.formed.change.recent in omega arith)

-- a new lease of a port that rests for another endpoint doesn't fit
others-Fits : ¬ (Fits deleted (at 2119 (Map (lease 2 Udp 1 1024 5600))))
others-Fits f =
    let same : endpoint 1 Udp 5000 ≡ endpoint 2 Udp 5000 = f.rested.0 (endpoint 1 Udp 5000) refl refl in
    no_false (eq-eqb 1 2 (ap (λ (e : Endpoint). get_or e.address.0 0 0) same))

-- nor for another port of the same host
other_internal-Fits : ¬ (Fits deleted (at 2119 (Map (record (lease 1 Udp 1 1024 5600) { internal = 5001 }))))
other_internal-Fits f =
    let same : endpoint 1 Udp 5000 ≡ endpoint 1 Udp 5001 = f.rested.0 (endpoint 1 Udp 5000) refl refl in
    no_false (eq-eqb 5000 5001 (ap (λ (e : Endpoint). e.port) same))

-- one of a port that rests for its own endpoint does
own_rest : (e : Endpoint) → e.protocol ≡ Udp → rests_for deleted 2050 1024 e ≡ true → e ≡ endpoint 1 Udp 5000
own_rest e protocol h =
    let r = any-some (λ (x : End). same_endpoint x.endpoint e && x.external == 1024) (end 1 Udp 5000 1024 2000 ∷ []) h in
    elim r.1 [
      | inl same ↦ (let there = rw (← same) at r.2 in sym ((same_endpoint-Decides (endpoint 1 Udp 5000) e).0 (and_parts _ _ there).0))
      | inr none ↦ absurd none
    ]

own_lease : IsMapLease (lease 1 Udp 1 1024 5600)
own_lease = record {
  ports = record { internal = omega arith; external = omega arith; some = omega arith; few = omega arith; internal_end = omega arith; external_end = omega arith };
  filters = record { few = omega arith; different = tt; prefixes = tt };
}

own_table : Sound (record { maps = lease 1 Udp 1 1024 5600 ∷ []; peers = [] })
own_table = Sound-put_new empty_table (lease 1 Udp 1 1024 5600) Sound-empty own_lease
    (record { one = refl; uncovered = tt; unnamed = tt; free = tt; room = omega arith })

own-Fits : Fits deleted (at 2050 (Map (lease 1 Udp 1 1024 5600)))
own-Fits = record {
  formed = record { moment = omega arith; change = (own_lease, record { come = omega arith; live = omega arith; near = omega arith }) };
  first = refl;
  later = omega arith;
  allowed = tt;
  rested = (own_rest, tt);
  sound = record { table = own_table; ordered = tt; unowned = tt };
}

-- a renewal with another nonce, and another Start, don't fit
other_nonce-Fits : ¬ (Fits (then_ []) (at 2000 (Map (record (lease 1 Udp 1 1024 5600) { nonce = record { 0 = 1 ∷ [] } }))))
other_nonce-Fits f = no_false (eq-eqb 1 0 (ap (λ (l : MapLease). length l.nonce.0) f.allowed))

second_start-Fits : ¬ (Fits (then_ []) (at 2000 Start))
second_start-Fits f = no_true f.first

-- a deletion at the lease's expiry doesn't fit
late_deletion-Fits : ¬ (Fits (then_ []) (at 4610 (DropMap (endpoint 1 Udp 5000))))
late_deletion-Fits f = no_true (sym f.allowed)

-- in the first format neither a Rest nor a Renumber fits
rest-FitsFirst : ¬ (FitsFirst (then_ []) (at 2000 (Rest (endpoint 2 Udp 5000) 1030 1990)))
rest-FitsFirst f = f.of_first

renumber-FitsFirst : ¬ (FitsFirst (then_ []) (at 2000 (Renumber (host 7))))
renumber-FitsFirst f = f.of_first
