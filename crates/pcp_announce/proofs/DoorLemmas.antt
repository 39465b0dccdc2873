-- Doors by their place.
use Rattle.std.proofs.Common.{◌≡◌, ℕ, zero, suc, ◌+◌, ◌<◌, List, [], ◌∷◌, length, slice_get, None, Some, refl, sym, ap, ◌∙◌, arith}
use Rattle.pcp_base.specs.declared.configs.Config.{Config}
use Rattle.pcp_base.specs.declared.configs.ListenAddress.{ListenAddress}
use Rattle.pcp_base.specs.declared.configs.Orders.{Orders}
use Rattle.pcp_announce.specs.declared.doors.Door.{Door}
use Rattle.pcp_announce.specs.Doors.{door_number, doors, doors_from, doors_of}

length-from : (orders : Orders) (first : ℕ) (xs : List ListenAddress) → length (doors_from orders first xs) ≡ length xs
length-from orders first [] = refl
length-from orders first (x ∷ xs) = ap suc (length-from orders (first + 1) xs)

abbrev entry_door : Orders → ℕ → ListenAddress → Door
entry_door orders place x = record { number = door_number orders place x.address; address = x.address }

at-from : (orders : Orders) (first i : ℕ) (xs : List ListenAddress) (x : ListenAddress) → slice_get xs i ≡ Some x
    → slice_get (doors_from orders first xs) i ≡ Some (entry_door orders (first + i) x)
at-from orders first i [] x at = absurd (let e : None ≡ Some x = at in cc)
at-from orders first zero (y ∷ ys) x at =
    let same : y ≡ x = cc in
    ap Some (ap (entry_door orders first) same ∙ ap (λ n. entry_door orders n x) (omega arith))
at-from orders first (suc i) (y ∷ ys) x at =
    at-from orders (first + 1) i ys x at ∙ ap (λ n. Some (entry_door orders n x)) (omega arith)

-- an entry each, where there is one
doors-count : (orders : Orders) (xs : List ListenAddress) → 0 < length xs → length (doors_of orders xs) ≡ length xs
doors-count orders [] some = absurd (omega (arith, some))
doors-count orders (x ∷ xs) some = length-from orders 0 (x ∷ xs)

pub counted : (config : Config) (xs : List ListenAddress) → xs ≡ config.listen → 0 < length xs → length xs ≡ length (doors config)
counted config xs are some = sym (doors-count config.orders xs some) ∙ ap (λ l. length (doors_of config.orders l)) are

pub counted_anywhere : (config : Config) (xs : List ListenAddress) → xs ≡ config.listen → length xs ≡ 0 → 2 ≡ length (doors config)
counted_anywhere config [] are none = ap (λ l. length (doors_of config.orders l)) are
counted_anywhere config (x ∷ xs) are none = absurd (omega (arith, none))

door-at : (orders : Orders) (xs : List ListenAddress) (i : ℕ) (x : ListenAddress) → slice_get xs i ≡ Some x
    → slice_get (doors_of orders xs) i ≡ Some (entry_door orders i x)
door-at orders [] i x at = absurd (let e : None ≡ Some x = at in cc)
door-at orders (y ∷ ys) i x at = at-from orders 0 i (y ∷ ys) x at ∙ ap (λ n. Some (entry_door orders n x)) (omega arith)

pub found : (config : Config) (xs : List ListenAddress) (i number : ℕ) (x : ListenAddress) → xs ≡ config.listen → slice_get xs i ≡ Some x
    → number ≡ door_number config.orders i x.address
    → slice_get (doors config) i ≡ Some (record { number = number; address = x.address })
found config xs i number x are at is =
    ap (λ l. slice_get (doors_of config.orders l) i) (sym are) ∙ door-at config.orders xs i x at
    ∙ ap (λ n. Some (record { number = n; address = x.address })) (sym is)
