-- Facts of results.
use Rattle.std.specs.Prelude.{◌≡◌, Result, Ok, Err, OnOk, IfErr}

pub both_ok : {T E : Type 0} → (r : Result T E) (A B C : Type 0) → OnOk r A → OnOk r B → (A → B → C) → OnOk r C
both_ok (Ok x) A B C a b gives = gives a b
both_ok (Err e) A B C a b gives = a

pub any_err : {T E : Type 0} → (r : Result T E) (P : E → Type 0) → ((e : E) → P e) → IfErr r P
any_err (Ok x) P each = tt
any_err (Err e) P each = each e

pub map_ok : {T E : Type 0} → (r : Result T E) (A B : Type 0) → OnOk r A → (A → B) → OnOk r B
map_ok (Ok x) A B a gives = gives a
map_ok (Err e) A B a gives = tt

pub at_ok : {T E : Type 0} → (r : Result T E) (x : T) (A : Type 0) → r ≡ Ok x → OnOk r A → A
at_ok (Ok y) x A is a = a
at_ok (Err e) x A is a = absurd cc
