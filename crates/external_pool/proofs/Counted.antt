-- Counts of the ports that addresses hold, after a change of uses.
use Rattle.std.proofs.Common.{◌≡◌, ℕ, zero, suc, ◌+◌, ◌-◌, ◌*◌, ◌<◌, ◌≤◌, ◌&&◌, Bool, true, false, cond, List, [], ◌∷◌, ◌++◌, length, take, drop, replicate, refl, sym, ap, ◌∙◌, arith, length-take-le, length-drop, get_or-take, get_or-drop, take-append-drop, count_by}
use Rattle.std.proofs.lemmas.List.{drop-drop, length-replicate}
use Rattle.std.proofs.lemmas.List.Sums.{sum_by-append, sum_by-cons, count_by-le-length}
use Rattle.std.proofs.lemmas.List.Folds.{sum_by-replicate}
use Rattle.std.proofs.lemmas.Slice.Eq.{bytes_eq-Decides}
use Rattle.pcp_base.specs.declared.addresses.Address.{Address}
use Rattle.pcp_base.specs.declared.leases.Protocol.{Protocol}
use Rattle.pcp_base.specs.declared.leases.Protocol.TheVariants.{Tcp, Udp}
use Rattle.pcp_base.specs.Tables.{same_address, same_protocol}
use Rattle.port_runs.specs.Ports.{is_in_run}
use Rattle.external_pool.specs.declared.uses.Use.{Use}
use Rattle.external_pool.specs.declared.uses.Use.TheVariants.{Free, Held, Resting}
use Rattle.external_pool.specs.PortUses.{PortUses, all_free, use_at, use_along, uses_along, is_held, is_held_by, is_resting, with_run, is_free_use, AreUsed}
use Rattle.external_pool.specs.Holdings.{Holdings, pool_of, IsWhole, uses_of, use_of, ports_held, fresh_pool, with_use, NoneHeld, AllHeldBy, AllFree, AllRest}
use Rattle.external_pool.specs.HeldCounts.{HeldCounts, held_by}
use Rattle.external_pool.specs.Kept.{IsCounted}
use Rattle.external_pool.proofs.Painted.{length-with_run, use_at-with_run, length-uses_along, use_at-uses_along, held_along}

-- uses that a test tells alike
one_more : (b : Bool) (n : ℕ) → cond b 1 0 + cond b n 0 ≡ cond b (suc n) 0
one_more true n = omega arith
one_more false n = refl

times : (b : Bool) (n : ℕ) → n * cond b 1 0 ≡ cond b n 0
times true n = omega arith
times false n = omega arith

count_alike : (p : Use → Bool) (b : Bool) (xs : List Use) → ((i : ℕ) → i < length xs → p (use_at xs i) ≡ b) → count_by p xs ≡ cond b (length xs) 0
count_alike p true [] h = refl
count_alike p false [] h = refl
count_alike p b (x ∷ xs) h =
    let rest : count_by p xs ≡ cond b (length xs) 0 = count_alike p b xs (λ i few. h (suc i) (omega (arith, few))) in
    sum_by-cons (λ (y : Use). cond (p y) 1 0) x xs ∙ ap (λ (t : Bool). cond t 1 0 + count_by p xs) (h zero (omega arith)) ∙ ap (λ (t : ℕ). cond b 1 0 + t) rest ∙ one_more b (length xs)

count_replicate : (p : Use → Bool) (n : ℕ) (value : Use) → count_by p (replicate n value) ≡ cond (p value) n 0
count_replicate p n value = sum_by-replicate (λ (x : Use). cond (p x) 1 0) n value ∙ times (p value) n

pub length-all_free : (count : ℕ) → length (all_free count) ≡ count
unfolding all_free
length-all_free count = length-replicate count Free

pub count-all_free : (who : Address) (count : ℕ) → count_by (is_held_by who) (all_free count) ≡ 0
unfolding all_free
count-all_free who count = count_replicate (is_held_by who) count Free

count_along : (who : Address) (n : ℕ) (value : Use) → count_by (is_held_by who) (uses_along n value) ≡ cond (is_held_by who value) n 0
count_along who n value =
    count_alike (is_held_by who) (is_held_by who value) (uses_along n value)
    (λ i few. ap (is_held_by who) (use_at-uses_along n i value (omega (arith, few, length-uses_along n value))) ∙ held_along who i value)
    ∙ ap (λ (t : ℕ). cond (is_held_by who value) t 0) (length-uses_along n value)

-- the n uses from start on
abbrev pub part : ℕ → ℕ → List Use → List Use
part start n each = take n (drop start each)

module _ (start n : ℕ) (each : List Use) (within : start + n ≤ length each) where
  parts : take start each ++ (part start n each ++ drop (start + n) each) ≡ each
  parts = ap (λ (t : List Use). take start each ++ (part start n each ++ t)) (sym (drop-drop n start each))
      ∙ ap (λ (t : List Use). take start each ++ t) (take-append-drop n (drop start each)) ∙ take-append-drop start each

  pub length-part : length (part start n each) ≡ n
  length-part = length-take-le n (drop start each) (omega (arith, length-drop start each))

  pub use_at-part : (i : ℕ) → i < n → use_at (part start n each) i ≡ use_at each (start + i)
  use_at-part i few = get_or-take n (drop start each) i Free few ∙ get_or-drop start each i Free

  -- what is counted of those painted over goes, and what is painted comes
  pub count_painted : (who : Address) (value : Use) → count_by (is_held_by who) (with_run start n value each) + count_by (is_held_by who) (part start n each) ≡ count_by (is_held_by who) each + cond (is_held_by who value) n 0
  count_painted who value =
      let p : Use → Bool = is_held_by who in
      let f : Use → ℕ = λ x. cond (p x) 1 0 in
      let before : count_by p each ≡ count_by p (take start each) + (count_by p (part start n each) + count_by p (drop (start + n) each)) =
      sym (ap (count_by p) parts) ∙ sum_by-append f (take start each) (part start n each ++ drop (start + n) each)
      ∙ ap (λ (t : ℕ). count_by p (take start each) + t) (sum_by-append f (part start n each) (drop (start + n) each)) in
      let after : count_by p (with_run start n value each) ≡ count_by p (take start each) + (cond (p value) n 0 + count_by p (drop (start + n) each)) =
      sum_by-append f (take start each) (uses_along n value ++ drop (start + n) each)
      ∙ ap (λ (t : ℕ). count_by p (take start each) + t) (sum_by-append f (uses_along n value) (drop (start + n) each))
      ∙ ap (λ (t : ℕ). count_by p (take start each) + (t + count_by p (drop (start + n) each))) (count_along who n value) in
      omega (arith, before, after)

-- an address is the same as itself
pub same_address-refl : (who : Address) → same_address who who ≡ true
same_address-refl who = (bytes_eq-Decides who.0 who.0).1 refl

not_by : (who : Address) (value : Use) → is_held value ≡ false → is_held_by who value ≡ false
not_by who Free h = refl
not_by who (Held holder) h = cc
not_by who (Resting last port) h = refl

-- a pool has a use for each port number
pub fresh-whole : (low high quota : ℕ) → IsWhole (fresh_pool low high quota)
fresh-whole low high quota = record { tcp = length-all_free 65536; udp = length-all_free 65536 }

all_of : (pool : Holdings) (protocol : Protocol) → IsWhole pool → length (uses_of pool protocol).each ≡ 65536
all_of pool Tcp whole = whole.tcp
all_of pool Udp whole = whole.udp

pub with_use-whole : (pool : Holdings) (protocol : Protocol) (start n : ℕ) (value : Use) → IsWhole pool → start + n ≤ 65536 → IsWhole (with_use protocol start n value pool)
with_use-whole pool Tcp start n value whole within = record { tcp = length-with_run start n value pool.tcp.each (omega (arith, within, whole.tcp)) ∙ whole.tcp; udp = whole.udp }
with_use-whole pool Udp start n value whole within = record { tcp = whole.tcp; udp = length-with_run start n value pool.udp.each (omega (arith, within, whole.udp)) ∙ whole.udp }

-- what each port is used for after some got a use
pub use_of-with_use : (pool : Holdings) (protocol : Protocol) (start n : ℕ) (value : Use) → IsWhole pool → start + n ≤ 65536 → (other : Protocol) (port : ℕ)
    → use_of (with_use protocol start n value pool) other port ≡ cond (same_protocol protocol other && is_in_run start n port) (use_along (port - start) value) (use_of pool other port)
use_of-with_use pool Tcp start n value whole within Tcp port = use_at-with_run start n value pool.tcp.each (omega (arith, within, whole.tcp)) port
use_of-with_use pool Tcp start n value whole within Udp port = refl
use_of-with_use pool Udp start n value whole within Tcp port = refl
use_of-with_use pool Udp start n value whole within Udp port = use_at-with_run start n value pool.udp.each (omega (arith, within, whole.udp)) port

module _ (pool : Holdings) (counts : HeldCounts) (is : IsCounted pool counts) where
  module _ (protocol : Protocol) (start n : ℕ) (within : start + n ≤ 65536) where
    short : start + n ≤ length (uses_of pool protocol).each
    short = omega (arith, within, all_of pool protocol is.whole)

    none_in : NoneHeld pool protocol start n → (who : Address) → count_by (is_held_by who) (part start n (uses_of pool protocol).each) ≡ 0
    none_in none who = count_alike (is_held_by who) false (part start n (uses_of pool protocol).each) (λ i few.
        let less : i < n = omega (arith, few, length-part start n (uses_of pool protocol).each short) in
        ap (is_held_by who) (use_at-part start n (uses_of pool protocol).each short i less) ∙ not_by who _ (none (start + i) (omega arith) (omega (arith, less))))

    all_in : (holder : Address) → AllHeldBy pool holder protocol start n → (who : Address) → count_by (is_held_by who) (part start n (uses_of pool protocol).each) ≡ cond (same_address holder who) n 0
    all_in holder all who = count_alike (is_held_by who) (same_address holder who) (part start n (uses_of pool protocol).each) (λ i few.
        let less : i < n = omega (arith, few, length-part start n (uses_of pool protocol).each short) in
        ap (is_held_by who) (use_at-part start n (uses_of pool protocol).each short i less ∙ all (start + i) (omega arith) (omega (arith, less))))
        ∙ ap (λ (t : ℕ). cond (same_address holder who) t 0) (length-part start n (uses_of pool protocol).each short)

  owned_marked : (protocol : Protocol) (start n : ℕ) (value : Use) → start + n ≤ 65536 → (who : Address)
      → ports_held (with_use protocol start n value pool) who + count_by (is_held_by who) (part start n (uses_of pool protocol).each) ≡ ports_held pool who + cond (is_held_by who value) n 0
  owned_marked Tcp start n value within who = omega (arith, count_painted start n pool.tcp.each (short Tcp start n within) who value)
  owned_marked Udp start n value within who = omega (arith, count_painted start n pool.udp.each (short Udp start n within) who value)

  -- ports that nobody held are held by an address
  pub counted_held : (who : Address) (protocol : Protocol) (start n : ℕ) → start + n ≤ 65536 → NoneHeld pool protocol start n → (new : HeldCounts)
      → ((other : Address) → held_by new other ≡ held_by counts other + cond (same_address who other) n 0) → IsCounted (with_use protocol start n (Held who) pool) new
  counted_held who protocol start n within none new more = record {
    whole = with_use-whole pool protocol start n (Held who) is.whole within;
    counted = λ other. omega (arith, more other, is.counted other, owned_marked protocol start n (Held who) within other, none_in protocol start n within none other);
  }

  -- ports of an address are held no longer
  pub counted_released : (who : Address) (protocol : Protocol) (start n : ℕ) → start + n ≤ 65536 → AllHeldBy pool who protocol start n → (new : HeldCounts)
      → ((other : Address) → held_by new other ≡ held_by counts other - cond (same_address who other) n 0) → IsCounted (with_use protocol start n Free pool) new
  counted_released who protocol start n within all new fewer = record {
    whole = with_use-whole pool protocol start n Free is.whole within;
    counted = λ other. omega (arith, fewer other, is.counted other, owned_marked protocol start n Free within other, all_in protocol start n within who all other);
  }

  -- nobody holds more ports than there are
  pub few_held : (who : Address) → held_by counts who ≤ 131072
  few_held who = omega (arith, is.counted who, is.whole.tcp, is.whole.udp, count_by-le-length (is_held_by who) pool.tcp.each, count_by-le-length (is_held_by who) pool.udp.each)

  -- so many are counted as are held
  pub enough : (who : Address) (protocol : Protocol) (start n : ℕ) → start + n ≤ 65536 → AllHeldBy pool who protocol start n → n ≤ held_by counts who
  enough who protocol start n within all =
      let mine : cond (same_address who who) n 0 ≡ n = ap (λ (b : Bool). cond b n 0) (same_address-refl who) in
      omega (arith, is.counted who, owned_marked protocol start n Free within who, all_in protocol start n within who all who, mine)

  -- ports that nobody held are still held by nobody
  pub counted_rested : (protocol : Protocol) (start n : ℕ) (value : Use) → start + n ≤ 65536 → NoneHeld pool protocol start n → is_held value ≡ false → IsCounted (with_use protocol start n value pool) counts
  counted_rested protocol start n value within none unheld = record {
    whole = with_use-whole pool protocol start n value is.whole within;
    counted = λ other.
        let nothing : cond (is_held_by other value) n 0 ≡ 0 = ap (λ (b : Bool). cond b n 0) (not_by other value unheld) in
        omega (arith, is.counted other, owned_marked protocol start n value within other, none_in protocol start n within none other, nothing);
  }

  -- ports of an address are at rest
  pub counted_retired : (who : Address) (protocol : Protocol) (start n : ℕ) (value : Use) → start + n ≤ 65536 → AllHeldBy pool who protocol start n → is_held value ≡ false → (new : HeldCounts)
      → ((other : Address) → held_by new other ≡ held_by counts other - cond (same_address who other) n 0) → IsCounted (with_use protocol start n value pool) new
  counted_retired who protocol start n value within all unheld new fewer = record {
    whole = with_use-whole pool protocol start n value is.whole within;
    counted = λ other.
        let nothing : cond (is_held_by other value) n 0 ≡ 0 = ap (λ (b : Bool). cond b n 0) (not_by other value unheld) in
        omega (arith, fewer other, is.counted other, owned_marked protocol start n value within other, all_in protocol start n within who all other, nothing);
  }

-- one port that isn't held
pub none_held_at : (pool : Holdings) (protocol : Protocol) (port : ℕ) (value : Use) → use_of pool protocol port ≡ value → is_held value ≡ false → NoneHeld pool protocol port 1
none_held_at pool protocol port value use_is unheld q from to =
    let same : q ≡ port = omega arith in
    ap (λ (p : ℕ). is_held (use_of pool protocol p)) same ∙ ap is_held use_is ∙ unheld

-- ports that are free, and ports that rest, aren't held
pub none_held_free : (pool : Holdings) (protocol : Protocol) (start n : ℕ) → AllFree pool protocol start n → NoneHeld pool protocol start n
none_held_free pool protocol start n free port from to = ap is_held (free port from to)

rests_unheld : (value : Use) → is_resting value ≡ true → is_held value ≡ false
rests_unheld Free h = refl
rests_unheld (Held who) h = absurd (let no : false ≡ true = h in cc)
rests_unheld (Resting last internal) h = refl

pub none_held_rest : (pool : Holdings) (protocol : Protocol) (start n : ℕ) → AllRest pool protocol start n → NoneHeld pool protocol start n
none_held_rest pool protocol start n rests port from to = rests_unheld (use_of pool protocol port) (rests port from to)

-- ports that an address holds are used, whatever the quota
pub used_held : (quota other : ℕ) (tcp udp : PortUses) (who : Address) (protocol : Protocol) (start n : ℕ) → AllHeldBy (pool_of quota tcp udp) who protocol start n → AreUsed (uses_of (pool_of other tcp udp) protocol).each start n
used_held quota other tcp udp who Tcp start n all port from to = ap is_free_use (all port from to)
used_held quota other tcp udp who Udp start n all port from to = ap is_free_use (all port from to)
