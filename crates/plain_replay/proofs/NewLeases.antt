-- A test where a key is new, and where it is there.
use Rattle.std.specs.Prelude.{◌≡◌, ◌↔◌, Bool, true, false, Option, Some, None, Result, is_some, IsTrue, IfOk, IfNone, IfSome}

pub decided_where_none : {X E : Type 0} (o : Option X) (P : Type 0) (r : Result Bool E) → is_some o ≡ false →
    IfOk r (λ b. IsTrue b ↔ P) → IfOk r (λ b. IsTrue b ↔ IfNone o P)
decided_where_none None P r h decided = decided
decided_where_none (Some x) P r h decided = absurd cc

pub decided_where_some : {X : Type 0} (o : Option X) (x : X) (P : X → Type 0) (b : Bool) → o ≡ Some x →
    (IsTrue b ↔ P x) → IsTrue b ↔ IfSome o P
decided_where_some o x P b h decided = rw h decided
