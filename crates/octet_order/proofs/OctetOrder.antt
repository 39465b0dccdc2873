-- Octets are in the order of the number that they spell.
use Rattle.std.proofs.Common.{◌≡◌, ℕ, suc, ◌+◌, ◌*◌, ◌<◌, ◌==◌, bytes_eq, List, [], ◌∷◌, length, refl, ap, sym, ◌∙◌, arith}
use Rattle.std.specs.List.{AllByRecursion, slice_index}
use Rattle.std.specs.Ordering.{nat_cmp, ordering_then, is_eq, MatchOrdering}
use Rattle.std.specs.declared.cmp.Ordering.{Ordering}
use Rattle.std.specs.declared.cmp.Ordering.TheVariants.{Less, Equal, Greater}
use Rattle.std.specs.Cmp.{unsigned_ties}
use Rattle.std.specs.Cmp.Lexicographic.{slice_cmp, texts_ties}
use Rattle.std.specs.Int.{w128, from_be_bytes}
use Rattle.std.proofs.lemmas.Cmp.{ranked}

-- the number that n and then the octets spell
abbrev spelled : ℕ → List ℕ → ℕ
spelled n [] = n
spelled n (b ∷ bs) = spelled (n * 256 + b) bs

then_equal : (o : Ordering) → ordering_then o Equal ≡ o
then_equal Less = refl
then_equal Equal = refl
then_equal Greater = refl

then_grouped : (o p q : Ordering) → ordering_then o (ordering_then p q) ≡ ordering_then (ordering_then o p) q
then_grouped Less p q = refl
then_grouped Equal p q = refl
then_grouped Greater p q = refl

same_cases : (a b : ℕ) (o p : Ordering) → MatchOrdering o (a < b) (a ≡ b) (b < a) → MatchOrdering p (a < b) (a ≡ b) (b < a) → o ≡ p
same_cases a b Less Less h k = refl
same_cases a b Less Equal h k = absurd (omega (arith, h, k))
same_cases a b Less Greater h k = absurd (omega (arith, h, k))
same_cases a b Equal Less h k = absurd (omega (arith, h, k))
same_cases a b Equal Equal h k = refl
same_cases a b Equal Greater h k = absurd (omega (arith, h, k))
same_cases a b Greater Less h k = absurd (omega (arith, h, k))
same_cases a b Greater Equal h k = absurd (omega (arith, h, k))
same_cases a b Greater Greater h k = refl

digit_cases : (n m a b : ℕ) (o p : Ordering) → a < 256 → b < 256 → MatchOrdering o (n < m) (n ≡ m) (m < n) → MatchOrdering p (a < b) (a ≡ b) (b < a) →
    MatchOrdering (ordering_then o p) (n * 256 + a < m * 256 + b) (n * 256 + a ≡ m * 256 + b) (m * 256 + b < n * 256 + a)
digit_cases n m a b Less p small_a small_b h k = omega (arith, h, small_a)
digit_cases n m a b Equal Less small_a small_b h k = omega (arith, h, k)
digit_cases n m a b Equal Equal small_a small_b h k = omega (arith, h, k)
digit_cases n m a b Equal Greater small_a small_b h k = omega (arith, h, k)
digit_cases n m a b Greater p small_a small_b h k = omega (arith, h, small_b)

-- one octet more
digit : (n m a b : ℕ) → a < 256 → b < 256 → ordering_then (nat_cmp n m) (nat_cmp a b) ≡ nat_cmp (n * 256 + a) (m * 256 + b)
digit n m a b small_a small_b =
    same_cases (n * 256 + a) (m * 256 + b) (ordering_then (nat_cmp n m) (nat_cmp a b)) (nat_cmp (n * 256 + a) (m * 256 + b))
    (digit_cases n m a b (nat_cmp n m) (nat_cmp a b) small_a small_b (ranked n m (nat_cmp n m) refl) (ranked a b (nat_cmp a b) refl))
    (ranked (n * 256 + a) (m * 256 + b) (nat_cmp (n * 256 + a) (m * 256 + b)) refl)

abbrev pub AreOctets : List ℕ → Type 0
AreOctets bs = AllByRecursion (λ b. b < 256) bs

pub spelled-order : (xs ys : List ℕ) (n m : ℕ) → length xs ≡ length ys → AreOctets xs → AreOctets ys → ordering_then (nat_cmp n m) (slice_cmp nat_cmp xs ys) ≡ nat_cmp (spelled n xs) (spelled m ys)
spelled-order [] [] n m same h k = then_equal (nat_cmp n m)
spelled-order [] (y ∷ ys) n m same h k = absurd (omega (arith, same))
spelled-order (x ∷ xs) [] n m same h k = absurd (omega (arith, same))
spelled-order (x ∷ xs) (y ∷ ys) n m same h k =
    then_grouped (nat_cmp n m) (nat_cmp x y) (slice_cmp nat_cmp xs ys)
    ∙ ap (λ o. ordering_then o (slice_cmp nat_cmp xs ys)) (digit n m x y h.0 k.0)
    ∙ spelled-order xs ys (n * 256 + x) (m * 256 + y) (let rest : suc (length xs) ≡ suc (length ys) = same in omega (arith, rest)) h.1 k.1

cells : (a b c d e f g h i j k l m n o p : ℕ) →
    from_be_bytes w128 (a ∷ b ∷ c ∷ d ∷ e ∷ f ∷ g ∷ h ∷ i ∷ j ∷ k ∷ l ∷ m ∷ n ∷ o ∷ p ∷ []) ≡ spelled 0 (a ∷ b ∷ c ∷ d ∷ e ∷ f ∷ g ∷ h ∷ i ∷ j ∷ k ∷ l ∷ m ∷ n ∷ o ∷ p ∷ [])
cells a b c d e f g h i j k l m n o p = omega arith

-- of as many octets as the number has
pub whole : (xs : List ℕ) → length xs ≡ 16 → from_be_bytes w128 xs ≡ spelled 0 xs
whole [] same = absurd (omega (arith, same))
whole (a ∷ []) same = absurd (omega (arith, same))
whole (a ∷ b ∷ []) same = absurd (omega (arith, same))
whole (a ∷ b ∷ c ∷ []) same = absurd (omega (arith, same))
whole (a ∷ b ∷ c ∷ d ∷ []) same = absurd (omega (arith, same))
whole (a ∷ b ∷ c ∷ d ∷ e ∷ []) same = absurd (omega (arith, same))
whole (a ∷ b ∷ c ∷ d ∷ e ∷ f ∷ []) same = absurd (omega (arith, same))
whole (a ∷ b ∷ c ∷ d ∷ e ∷ f ∷ g ∷ []) same = absurd (omega (arith, same))
whole (a ∷ b ∷ c ∷ d ∷ e ∷ f ∷ g ∷ h ∷ []) same = absurd (omega (arith, same))
whole (a ∷ b ∷ c ∷ d ∷ e ∷ f ∷ g ∷ h ∷ i ∷ []) same = absurd (omega (arith, same))
whole (a ∷ b ∷ c ∷ d ∷ e ∷ f ∷ g ∷ h ∷ i ∷ j ∷ []) same = absurd (omega (arith, same))
whole (a ∷ b ∷ c ∷ d ∷ e ∷ f ∷ g ∷ h ∷ i ∷ j ∷ k ∷ []) same = absurd (omega (arith, same))
whole (a ∷ b ∷ c ∷ d ∷ e ∷ f ∷ g ∷ h ∷ i ∷ j ∷ k ∷ l ∷ []) same = absurd (omega (arith, same))
whole (a ∷ b ∷ c ∷ d ∷ e ∷ f ∷ g ∷ h ∷ i ∷ j ∷ k ∷ l ∷ m ∷ []) same = absurd (omega (arith, same))
whole (a ∷ b ∷ c ∷ d ∷ e ∷ f ∷ g ∷ h ∷ i ∷ j ∷ k ∷ l ∷ m ∷ n ∷ []) same = absurd (omega (arith, same))
whole (a ∷ b ∷ c ∷ d ∷ e ∷ f ∷ g ∷ h ∷ i ∷ j ∷ k ∷ l ∷ m ∷ n ∷ o ∷ []) same = absurd (omega (arith, same))
whole (a ∷ b ∷ c ∷ d ∷ e ∷ f ∷ g ∷ h ∷ i ∷ j ∷ k ∷ l ∷ m ∷ n ∷ o ∷ p ∷ []) same = cells a b c d e f g h i j k l m n o p
whole (a ∷ b ∷ c ∷ d ∷ e ∷ f ∷ g ∷ h ∷ i ∷ j ∷ k ∷ l ∷ m ∷ n ∷ o ∷ p ∷ q ∷ rest) same = absurd (omega (arith, same))

pub octets_from : (bs : List ℕ) → ((i : ℕ) → slice_index bs i < 256) → AreOctets bs
octets_from [] h = tt
octets_from (b ∷ bs) h = (h 0, octets_from bs (λ i. h (suc i)))

pub numbers-order : (xs ys : List ℕ) → length xs ≡ 16 → length ys ≡ 16 → AreOctets xs → AreOctets ys → slice_cmp nat_cmp xs ys ≡ nat_cmp (from_be_bytes w128 xs) (from_be_bytes w128 ys)
numbers-order xs ys n m h k =
    spelled-order xs ys 0 0 (n ∙ sym m) h k
    ∙ ap (λ (i : ℕ). nat_cmp i (spelled 0 ys)) (sym (whole xs n)) ∙ ap (nat_cmp (from_be_bytes w128 xs)) (sym (whole ys m))

pub numbers-same : (xs ys : List ℕ) → length xs ≡ 16 → length ys ≡ 16 → AreOctets xs → AreOctets ys → bytes_eq xs ys ≡ (from_be_bytes w128 xs == from_be_bytes w128 ys)
numbers-same xs ys n m h k =
    texts_ties xs ys ∙ ap is_eq (numbers-order xs ys n m h k) ∙ sym (unsigned_ties (from_be_bytes w128 xs) (from_be_bytes w128 ys))
