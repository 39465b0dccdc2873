-- A relay beside a translator of its own, and what time makes of it (RFC 7648 in role; the rules
-- are our own). Times are in milliseconds; one that is smaller than the last counts as the last.
use Rattle.std.specs.Prelude.{◌≡◌, ℕ, ◌-◌, ◌/◌, ◌^◌, max, min, List, [], length, Option, Some, None, refl}
use Rattle.std.specs.Coded.{Coded, code_by, coded×, coded_list, coded_option, coded_ℕ}
use Rattle.pcp_base.specs.declared.addresses.Address.{Address}
use Rattle.pcp_base.specs.declared.configs.Config.{Config}
use Rattle.proxy_core.specs.declared.epochs.Heard.{Heard}
use Rattle.proxy_core.specs.Everyone.{everyone}
use Rattle.cascade_ties.specs.declared.ties.Tied.{Tied}
use Rattle.cascade_ties.specs.Ties.{Ties, no_ties, still, ties_code}

-- an epoch that was heard as a pair, and back
abbrev pub pair_in : Option Heard → Option (ℕ × ℕ)
pair_in None = None
pair_in (Some h) = Some (h.epoch, h.at_ms)

abbrev pub heard_in : Option (ℕ × ℕ) → Option Heard
heard_in None = None
heard_in (Some p) = Some (record { epoch = p.0; at_ms = p.1 })

pub heard_again : (o : Option Heard) → heard_in (pair_in o) ≡ o
heard_again None = refl
heard_again (Some h) = refl

pub record Cascade : Type 0 where
  -- the address of its own, whose ports are tied
  pub own : Address
  -- the address of the upstream server
  pub server : Address
  -- 32 octets that no client knows
  pub key : List ℕ
  -- the ties, with what waits for each
  pub ties : Ties
  -- from when epochs count
  pub base : ℕ
  -- the last epoch that the server told, and when
  pub heard : Option Heard
  -- the last time
  pub last : ℕ

-- the parts of the record, one after the other
abbrev pub cascade_code : Coded Tied → Coded Cascade
cascade_code tied =
    code_by
    (List ℕ × (List ℕ × (List ℕ × (Ties × (ℕ × (Option (ℕ × ℕ) × ℕ))))))
    (coded× (coded_list coded_ℕ)
    (coded× (coded_list coded_ℕ)
    (coded× (coded_list coded_ℕ)
    (coded× (ties_code tied)
    (coded× coded_ℕ (coded× (coded_option (coded× coded_ℕ coded_ℕ)) coded_ℕ))))))
    (λ c. (c.own.0, (c.server.0, (c.key, (c.ties, (c.base, (pair_in c.heard, c.last)))))))
    (λ p. record {
      own = record { 0 = p.0 };
      server = record { 0 = p.1.0 };
      key = p.1.1.0;
      ties = p.1.1.1.0;
      base = p.1.1.1.1.0;
      heard = heard_in p.1.1.1.1.1.0;
      last = p.1.1.1.1.1.1;
    })
    (λ c i. record c { heard = heard_again c.heard i })

-- one without a tie, which heard nothing
abbrev pub new_cascade : Address → Address → List ℕ → ℕ → ℕ → ℕ → Cascade
new_cascade own server key low high now = record {
  own = own;
  server = server;
  key = key;
  ties = no_ties low high;
  base = now;
  heard = None;
  last = now;
}

-- what a call makes of a cascade, and what it gives
pub record Step (X : Type 0) : Type 0 where
  pub cascade : Cascade
  pub out : X

-- the cascade at a time: ties whose time has come are dropped
abbrev pub at : Cascade → ℕ → Cascade
at c now = record c { last = max c.last now; ties = still (max c.last now) c.ties }

-- and are counted
abbrev pub on_tick : Cascade → ℕ → Step ℕ
on_tick c now = record {
  cascade = at c now;
  out = length c.ties.each - length (at c now).ties.each;
}

-- the epoch that it tells: the whole seconds since the base (RFC 6887, section 8.5)
abbrev pub told_epoch : Cascade → ℕ
told_epoch c = min ((c.last - c.base) / 1000) (2 ^ 32 - 1)

-- how clients are judged: every address may ask, for itself alone
abbrev pub for_itself : Config
for_itself = record everyone { third_party = [] }
