-- In the pool of a state an address holds as many ports as its live leases own.
use Rattle.std.specs.Prelude.{◌≡◌, refl, ℕ, zero, suc, ◌+◌, ◌<◌, ◌&&◌, ◌||◌, ◌==◌, Bool, true, false, List, [], ◌∷◌, length, count_by}
use Rattle.std.proofs.Common.{ap, ◌∙◌, cond, arith, inl, inr}
use Rattle.std.proofs.lemmas.List.Sums.{sum_by-cons}
use Rattle.std.proofs.lemmas.Bool.Decides.{nat_tests}
use Rattle.pcp_base.specs.declared.addresses.Address.{Address}
use Rattle.pcp_base.specs.declared.leases.Protocol.{Protocol}
use Rattle.pcp_base.specs.declared.leases.Protocol.TheVariants.{Tcp, Udp}
use Rattle.pcp_base.specs.declared.leases.Owner.{Owner}
use Rattle.pcp_base.specs.Tables.{live, same_protocol}
use Rattle.pcp_base.specs.Owners.{is_owned, owned, port_count}
use Rattle.pcp_base.specs.States.{State}
use Rattle.pcp_base.proofs.Members.{IsIn}
use Rattle.pcp_base.proofs.EndLemmas.{some-owned}
use Rattle.external_pool.specs.declared.uses.Use.{Use}
use Rattle.external_pool.specs.PortUses.{use_at, is_held_by}
use Rattle.external_pool.specs.Holdings.{Holdings, uses_of, ports_held}
use Rattle.external_pool.specs.PoolOf.{IsPoolOf, owners_at}

-- how many of the numbers below n pass a test
abbrev count_below : ℕ → (ℕ → Bool) → ℕ
count_below zero f = 0
count_below (suc n) f = cond (f 0) 1 0 + count_below n (λ i. f (suc i))

count_below-same : (n : ℕ) (f g : ℕ → Bool) → ((i : ℕ) → f i ≡ g i) → count_below n f ≡ count_below n g
count_below-same zero f g same = refl
count_below-same (suc n) f g same =
    ap (λ (b : Bool). cond b 1 0 + count_below n (λ i. f (suc i))) (same 0)
    ∙ ap (λ (t : ℕ). cond (g 0) 1 0 + t) (count_below-same n (λ i. f (suc i)) (λ i. g (suc i)) (λ i. same (suc i)))

count_below-none : (n : ℕ) → count_below n (λ i. false) ≡ 0
count_below-none zero = refl
count_below-none (suc n) = omega (arith, count_below-none n)

first_test : (b : Bool) (n : ℕ) → 1 + n ≡ cond b 0 1 + (cond b 1 0 + n)
first_test true n = omega arith
first_test false n = omega arith

zero_is : (i : ℕ) → (0 == suc i) ≡ false
zero_is i = grind (arith, nat_tests)

suc_is : (x i : ℕ) → (suc x == suc i) ≡ (x == i)
suc_is x i = grind (arith, nat_tests)

suc_not : (x : ℕ) → (suc x == 0) ≡ false
suc_not x = grind (arith, nat_tests)

-- one number more passes
count_below-more : (n x : ℕ) (f : ℕ → Bool) → x < n → count_below n (λ i. (x == i) || f i) ≡ cond (f x) 0 1 + count_below n f
count_below-more zero x f h = absurd (omega arith)
count_below-more (suc n) zero f h =
    ap (λ (t : ℕ). 1 + t) (count_below-same n (λ i. (0 == suc i) || f (suc i)) (λ i. f (suc i)) (λ i. ap (λ (b : Bool). b || f (suc i)) (zero_is i)))
    ∙ first_test (f 0) (count_below n (λ i. f (suc i)))
count_below-more (suc n) (suc x) f h =
    let rest : count_below n (λ i. (suc x == suc i) || f (suc i)) ≡ count_below n (λ i. (x == i) || f (suc i)) =
    count_below-same n (λ i. (suc x == suc i) || f (suc i)) (λ i. (x == i) || f (suc i)) (λ i. ap (λ (b : Bool). b || f (suc i)) (suc_is x i)) in
    let more : count_below n (λ i. (x == i) || f (suc i)) ≡ cond (f (suc x)) 0 1 + count_below n (λ i. f (suc i)) =
    count_below-more n x (λ i. f (suc i)) (omega (arith, h)) in
    let here : cond {A = ℕ} ((suc x == 0) || f 0) 1 0 ≡ cond {A = ℕ} (f 0) 1 0 = ap (λ (b : Bool). cond {A = ℕ} (b || f 0) 1 0) (suc_not x) in
    omega (arith, rest, more, here)

-- what is counted in a list
count_by-below : (p : Use → Bool) (us : List Use) → count_by p us ≡ count_below (length us) (λ i. p (use_at us i))
count_by-below p [] = refl
count_by-below p (u ∷ us) =
    sum_by-cons (λ (y : Use). cond (p y) 1 0) u us ∙ ap (λ (t : ℕ). cond (p u) 1 0 + t) (count_by-below p us)

module _ (size : Protocol → ℕ) where
  -- the owned ports of both protocols
  abbrev counted : List Owner → ℕ
  counted os = count_below (size Tcp) (λ port. is_owned Tcp port os) + count_below (size Udp) (λ port. is_owned Udp port os)

  one_more : (p : Protocol) (x : ℕ) (os : List Owner) → x < size p
      → count_below (size Tcp) (λ port. (same_protocol p Tcp && x == port) || is_owned Tcp port os)
      + count_below (size Udp) (λ port. (same_protocol p Udp && x == port) || is_owned Udp port os)
      ≡ cond (is_owned p x os) 0 1 + counted os
  one_more Tcp x os h = omega (arith, count_below-more (size Tcp) x (λ port. is_owned Tcp port os) h)
  one_more Udp x os h = omega (arith, count_below-more (size Udp) x (λ port. is_owned Udp port os) h)

  counted-different : (os : List Owner) → ((o : Owner) → IsIn o os → o.external < size o.protocol) → counted os ≡ port_count os
  counted-different [] few = omega (arith, count_below-none (size Tcp), count_below-none (size Udp))
  counted-different (o ∷ os) few =
      one_more o.protocol o.external os (few o (inl refl))
      ∙ ap (λ (t : ℕ). cond (is_owned o.protocol o.external os) 0 1 + t) (counted-different os (λ x there. few x (inr there)))

-- what is held stands in the list
held-within : (us : List Use) (port : ℕ) (who : Address) → is_held_by who (use_at us port) ≡ true → port < length us
held-within [] port who h = cc
held-within (u ∷ us) zero who h = omega arith
held-within (u ∷ us) (suc port) who h = omega (arith, held-within us port who h)

pub ports_held-owned : (pool : Holdings) (s : State) (m : ℕ) (who : Address) → IsPoolOf pool s m → ports_held pool who ≡ owned s.table m who
ports_held-owned pool s m who is =
    let os : List Owner = owners_at who (live s.table m) in
    let size : Protocol → ℕ = λ p. length (uses_of pool p).each in
    let few : (o : Owner) → IsIn o os → o.external < size o.protocol =
    λ o there. held-within (uses_of pool o.protocol).each o.external who (is.held who o.protocol o.external ∙ some-owned os o there) in
    let tcp : count_by (is_held_by who) pool.tcp.each ≡ count_below (size Tcp) (λ port. is_owned Tcp port os) =
    count_by-below (is_held_by who) pool.tcp.each ∙ count_below-same (size Tcp) (λ i. is_held_by who (use_at pool.tcp.each i)) (λ port. is_owned Tcp port os) (is.held who Tcp) in
    let udp : count_by (is_held_by who) pool.udp.each ≡ count_below (size Udp) (λ port. is_owned Udp port os) =
    count_by-below (is_held_by who) pool.udp.each ∙ count_below-same (size Udp) (λ i. is_held_by who (use_at pool.udp.each i)) (λ port. is_owned Udp port os) (is.held who Udp) in
    ap (λ (t : ℕ). t + count_by (is_held_by who) pool.udp.each) tcp
    ∙ ap (λ (t : ℕ). count_below (size Tcp) (λ port. is_owned Tcp port os) + t) udp
    ∙ counted-different size os few
