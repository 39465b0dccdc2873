-- A range of ports, its free runs, and what calls make of them (our own).
use Rattle.std.specs.Prelude.{ℕ, List, [], Bool, false, nat_eq, ◌&&◌, ◌||◌, not, nat_le, ◌+◌, nat_lt, ◌<◌, ◌≤◌, IsTrue, ◌≡◌, ◌↔◌, ◌%◌, Option, IfSome, IfNone}
use Rattle.std.specs.Bool.{OnTrue, OnFalse}
use Rattle.std.specs.List.{list_any}
use Rattle.std.specs.List.Sorted.{IsStrictlyIncreasing}

-- from low to high, both of the range; the taken ports stand in ascending order
pub record Ports : Type 0 where
  pub low : ℕ
  pub high : ℕ
  pub taken : List ℕ

-- whether a port is one of the taken ones
abbrev pub is_taken : Ports → ℕ → Bool
is_taken ports port = list_any (nat_eq port) ports.taken

-- whether a port lies in the range and isn't taken
abbrev pub is_untaken : Ports → ℕ → Bool
is_untaken ports port = nat_le ports.low port && nat_le port ports.high && not (is_taken ports port)

-- whether a port is one of the n ports from start on
abbrev pub is_in_run : ℕ → ℕ → ℕ → Bool
is_in_run start n port = nat_le start port && nat_lt port (start + n)

-- the n ports from start on are free
abbrev pub IsFreeRun : Ports → ℕ → ℕ → Type 0
IsFreeRun ports start n =
    (port : ℕ) → start ≤ port → port < start + n → IsTrue (is_untaken ports port)

-- the number has the remainder by 2 that is asked, if one is
abbrev pub HasParity : Option ℕ → ℕ → Type 0
HasParity parity n = IfSome parity (λ remainder. n % 2 ≡ remainder)

-- the n ports from start on are free, and start has the remainder by 2 that is asked
abbrev pub IsFittingRun : Ports → ℕ → Option ℕ → ℕ → Type 0
IsFittingRun ports n parity start = IsFreeRun ports start n × HasParity parity start

-- n ports are free from some start on that has the remainder by 2 that is asked
abbrev pub HasFittingRun : Ports → Option ℕ → ℕ → Type 0
HasFittingRun ports parity n = (start : ℕ) × IsFittingRun ports n parity start

-- the least number of which it holds; None where there is none
pub record IsLeast (holds : ℕ → Type 0) (result : Option ℕ) : Type 0 where
  pub fits : IfSome result holds
  pub least : IfSome result (λ n. (other : ℕ) → holds other → n ≤ other)
  pub none : IfNone result ((other : ℕ) → ¬ holds other)

-- the greatest number of which it holds, and 0 where it holds of none from 1 on
pub record IsGreatest (holds : ℕ → Type 0) (n : ℕ) : Type 0 where
  pub fits : 1 ≤ n → holds n
  pub greatest : (other : ℕ) → holds other → other ≤ n

-- no port of the range is taken
abbrev pub untaken : ℕ → ℕ → Ports
untaken low high = record { low = low; high = high; taken = [] }

-- the n ports from start on are taken where all of them were free; else nothing changes
pub record TakesRun (old : Ports) (start n : ℕ) (took : Bool) (new : Ports) : Type 0 where
  pub answer : IsTrue took ↔ IsFreeRun old start n
  pub low : new.low ≡ old.low
  pub high : new.high ≡ old.high
  pub taken :
      OnTrue took ((port : ℕ) → is_taken new port ≡ (is_taken old port || is_in_run start n port))
  pub unchanged : OnFalse took (new ≡ old)
  pub ascending : IsStrictlyIncreasing new.taken

-- the n ports from start on aren't taken any more
pub record GivesRun (old : Ports) (start n : ℕ) (new : Ports) : Type 0 where
  pub low : new.low ≡ old.low
  pub high : new.high ≡ old.high
  pub taken : (port : ℕ) → is_taken new port ≡ (is_taken old port && not (is_in_run start n port))
  pub ascending : IsStrictlyIncreasing new.taken

-- so many ports are free from start on, counted up to a limit
pub record IsCountAt (ports : Ports) (start limit count : ℕ) : Type 0 where
  pub most : count ≤ limit
  pub free : IsFreeRun ports start count
  pub stops : count < limit → is_untaken ports (start + count) ≡ false
