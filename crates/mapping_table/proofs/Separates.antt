-- Of sound leases one at most covers an endpoint, and one at most owns a port.
use Rattle.std.proofs.Common.{◌≡◌, ℕ, ◌+◌, ◌<◌, ◌≤◌, Bool, true, false, List, [], ◌∷◌, refl, sym, ap, ◌∙◌, Some, arith}
use Rattle.std.specs.List.{AllByRecursion}
use Rattle.std.specs.Ordering.{nat_cmp}
use Rattle.std.specs.BTreeMap.{BTreeMap, get, values}
use Rattle.std.proofs.lemmas.Bool.{and_parts, and_from, ltb-true, leb-true, lt-ltb, le-leb}
use Rattle.pcp_base.specs.declared.leases.Protocol.{Protocol}
use Rattle.pcp_base.specs.declared.leases.Endpoint.{Endpoint}
use Rattle.pcp_base.specs.declared.leases.MapLease.{MapLease}
use Rattle.pcp_base.specs.Tables.{EachTwo, IsMapLease, covers}
use Rattle.pcp_base.proofs.Members.{All-weaker, All-both}
use Rattle.pcp_base.proofs.Same.{same_address-Decides, same_protocol-Decides}
use Rattle.pcp_base.proofs.TableLemmas.{IsCovered-from_covers}
use Rattle.ordered_index.proofs.Keeping.{each_weaker}
use Rattle.ordered_index.proofs.OrderLaws.{protocol_one}
use Rattle.mapping_table.specs.Kept.{port_of_lease}
use Rattle.pcp_base.specs.Owners.{owns}
use Rattle.mapping_table.specs.MapLists.{runs_meet, AreSeparate, AreSoundMaps}
use Rattle.ordered_index.proofs.Entries.{one_passes, All-at}

-- what `owns` says
pub record IsOwned (l : MapLease) (of : Protocol) (port : ℕ) : Type 0 where
  pub protocol : l.protocol ≡ of
  pub from : l.external ≤ port
  pub below : port < l.external + l.count

pub IsOwned-from_owns : (l : MapLease) (protocol : Protocol) (port : ℕ) → owns protocol port l ≡ true → IsOwned l protocol port
IsOwned-from_owns l protocol port h =
    let a = and_parts _ _ h in let b = and_parts _ _ a.0 in record {
      protocol = (same_protocol-Decides l.protocol protocol).0 b.0;
      from = leb-true l.external port b.1;
      below = ltb-true port (l.external + l.count) a.1;
    }

pub owns-from_IsOwned : (l : MapLease) (protocol : Protocol) (port : ℕ) → l.protocol ≡ protocol → l.external ≤ port → port < l.external + l.count → owns protocol port l ≡ true
owns-from_IsOwned l protocol port same from below =
    and_from _ _ (and_from _ _ ((same_protocol-Decides l.protocol protocol).1 same) (le-leb l.external port from)) (lt-ltb port (l.external + l.count) below)

meet : (p a n b k : ℕ) → a ≤ p → p < a + n → b ≤ p → p < b + k → runs_meet a n b k ≡ true
meet p a n b k h1 h2 h3 h4 = and_from _ _ (lt-ltb a (b + k) (omega (arith, h1, h4))) (lt-ltb b (a + n) (omega (arith, h2, h3)))

clash : (b : Bool) → b ≡ true → b ≡ false → ⊥
clash b h k = let no : true ≡ false = sym h ∙ k in cc

pub cover_apart : (e : Endpoint) (a b : MapLease) → AreSeparate a b → covers a e ≡ true → covers b e ≡ true → ⊥
cover_apart e a b h ca cb =
    let x = IsCovered-from_covers a e ca in let y = IsCovered-from_covers b e cb in
    clash _ (and_from _ _ (and_from _ _ ((same_address-Decides a.address b.address).1 (x.address ∙ sym y.address)) ((same_protocol-Decides a.protocol b.protocol).1 (x.protocol ∙ sym y.protocol)))
    (meet e.port a.internal a.count b.internal b.count x.from x.below y.from y.below)) h.inside

pub own_apart : (protocol : Protocol) (port : ℕ) (a b : MapLease) → AreSeparate a b → owns protocol port a ≡ true → owns protocol port b ≡ true → ⊥
own_apart protocol port a b h ca cb =
    let x = IsOwned-from_owns a protocol port ca in let y = IsOwned-from_owns b protocol port cb in
    clash _ (and_from _ _ ((same_protocol-Decides a.protocol b.protocol).1 (x.protocol ∙ sym y.protocol))
    (meet port a.external a.count b.external b.count x.from x.below y.from y.below)) h.outside

-- by what each of them is
each_two_of : {X : Type 0} (Q : X → Type 0) (R S : X → X → Type 0) → ((x y : X) → Q x → Q y → R x y → S x y) → (xs : List X) → AllByRecursion Q xs → EachTwo R xs → EachTwo S xs
each_two_of Q R S f [] q h = tt
each_two_of Q R S f (x ∷ xs) q h =
    (All-weaker (λ y. Q y × R x y) (S x) (λ y both. f x y q.0 both.0 both.1) xs (All-both Q (R x) xs q.1 h.0), each_two_of Q R S f xs q.1 h.1)

first_port : (a : MapLease) → IsMapLease a → owns a.protocol a.external a ≡ true
first_port a h = let some = h.ports.some in owns-from_IsOwned a a.protocol a.external refl (omega arith) (omega (arith, some))

-- first external ports differ
pub ports_apart : (ls : List MapLease) → AreSoundMaps ls → EachTwo (λ a b. port_of_lease a ≡ port_of_lease b → ⊥) ls
ports_apart ls h = each_two_of IsMapLease AreSeparate (λ a b. port_of_lease a ≡ port_of_lease b → ⊥) (λ a b is_a is_b apart same.
    let protocol : a.protocol ≡ b.protocol = protocol_one a.protocol b.protocol a.external b.external same in
    let port : a.external ≡ b.external = ap (λ (z : ℕ × ℕ). z.1) same in
    own_apart b.protocol b.external a b apart
    (ap (λ (z : Protocol). owns z b.external a) (sym protocol) ∙ ap (λ (z : ℕ). owns a.protocol z a) (sym port) ∙ first_port a is_a) (first_port b is_b)) ls h.leases h.separate

module _ (leases : BTreeMap ℕ MapLease) (sound : AreSoundMaps (values leases)) where
  pub one_covers : (e : Endpoint) (n m : ℕ) (x y : MapLease) → get nat_cmp leases n ≡ Some x → get nat_cmp leases m ≡ Some y → covers x e ≡ true → covers y e ≡ true → n ≡ m
  one_covers e n m x y a b = one_passes (λ l. covers l e) leases.entries n m x y (each_weaker AreSeparate (λ p q. covers p e ≡ true → covers q e ≡ true → ⊥) (cover_apart e) (values leases) sound.separate) a b

  pub one_owns : (protocol : Protocol) (port n m : ℕ) (x y : MapLease) → get nat_cmp leases n ≡ Some x → get nat_cmp leases m ≡ Some y → owns protocol port x ≡ true → owns protocol port y ≡ true → n ≡ m
  one_owns protocol port n m x y a b = one_passes (owns protocol port) leases.entries n m x y (each_weaker AreSeparate (λ p q. owns protocol port p ≡ true → owns protocol port q ≡ true → ⊥) (own_apart protocol port) (values leases) sound.separate) a b

  pub lease_is : (n : ℕ) (l : MapLease) → get nat_cmp leases n ≡ Some l → IsMapLease l
  lease_is n l h = All-at IsMapLease leases.entries n l sound.leases h
