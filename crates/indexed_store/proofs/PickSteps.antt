-- What a pick takes, by what is due and by what its address holds.
use Rattle.std.proofs.Common.{◌≡◌, ℕ, ◌+◌, ◌*◌, ◌<◌, ◌≤◌, ◌&&◌, nat_lt, Bool, true, false, cond, refl, sym, subst, arith}
use Rattle.std.specs.Bool.{OnTrue}
use Rattle.std.proofs.lemmas.Bool.{ltb-true, lt-ltb}
use Rattle.pcp_base.specs.declared.addresses.Address.{Address}
use Rattle.leased_ports.specs.declared.falls.TheConstants.{RUN_STEPS}
use Rattle.leased_ports.specs.declared.picks.TheConstants.{DUE_STEPS}
use Rattle.leased_ports.specs.declared.ports.TheConstants.{PICK_STEPS}
use Rattle.leased_ports.specs.declared.plain.TheConstants.{PLAIN_STEPS}
use Rattle.leased_ports.specs.Leased.{Leased, at_moment}
use Rattle.leased_ports.specs.Counts.{held_since, ports_due}
use Rattle.leased_ports.proofs.SettledLemmas.{due-settled, held-settled}
use Rattle.indexed_store.specs.Looks.{pick_steps}

-- where more is seen to, a pick takes no more
pub settled-fewer : (v w : Leased) (m n : ℕ) (who : Address) (plain : Bool) → w ≡ record (at_moment m v) { settled = n } → v.settled ≤ n → pick_steps w m who plain ≤ pick_steps v m who plain
settled-fewer v w m n who plain is more =
    subst (λ (x : Leased). pick_steps x m who plain ≤ pick_steps v m who plain) (sym is)
    (step plain (nat_lt (held_since at who) v.quota) (nat_lt (held_since v who) v.quota)
    (λ less. lt-ltb _ _ (let held = held-settled (at_moment m v) n who more in let fewer = ltb-true _ _ less in omega (arith, held, fewer)))
    (due-settled (at_moment m v) n more))
  where
    at : Leased
    at = record (at_moment m v) { settled = n }

    step : (plain b c : Bool) → (c ≡ true → b ≡ true) → ports_due at ≤ ports_due (at_moment m v)
        → cond (plain && b) PLAIN_STEPS (PICK_STEPS + DUE_STEPS * ports_due at) ≤ cond (plain && c) PLAIN_STEPS (PICK_STEPS + DUE_STEPS * ports_due (at_moment m v))
    step false b c sooner due = omega (arith, due)
    step true true true sooner due = omega arith
    step true true false sooner due = omega arith
    step true false true sooner due = absurd (let never : false ≡ true = sooner refl in cc)
    step true false false sooner due = omega (arith, due)

-- a pick at the moment reached takes what is told
pub pick-within : (v : Leased) (m : ℕ) (who : Address) (plain : Bool) (before after room : ℕ) → v.reached ≡ m
    → OnTrue plain (held_since v who < v.quota → after ≤ before + PLAIN_STEPS)
    → after ≤ before + PICK_STEPS + room + DUE_STEPS * ports_due v
    → after ≤ before + pick_steps v m who plain + room
pick-within v m who plain before after room now few steps =
    subst (λ (n : ℕ). after ≤ before + pick_steps v n who plain + room) now
    (step plain (nat_lt (held_since v who) v.quota) (λ less. ltb-true _ _ less) few steps)
  where
    step : (plain b : Bool) → (b ≡ true → held_since v who < v.quota)
        → OnTrue plain (held_since v who < v.quota → after ≤ before + PLAIN_STEPS)
        → after ≤ before + PICK_STEPS + room + DUE_STEPS * ports_due v
        → after ≤ before + cond (plain && b) PLAIN_STEPS (PICK_STEPS + DUE_STEPS * ports_due v) + room
    step true true less few steps = let told = few (less refl) in omega (arith, told)
    step true false less few steps = omega (arith, steps)
    step false b less few steps = omega (arith, steps)

-- and a look at its quota no more than a plain pick
pub quota-within : (v : Leased) (m : ℕ) (who : Address) (before after : ℕ) → v.reached ≡ m
    → (held_since v who < v.quota → after ≤ before + 64)
    → after ≤ before + 129 + (23 + RUN_STEPS) * ports_due v
    → after ≤ before + pick_steps v m who true
quota-within v m who before after now few steps =
    let told = pick-within v m who true before after 0 now (λ below. let told = few below in omega (arith, told)) (omega (arith, steps)) in
    omega (arith, told)
