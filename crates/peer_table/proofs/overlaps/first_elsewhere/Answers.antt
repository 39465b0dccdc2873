use Rattle.std.proofs.Common.{◌≡◌, ℕ, ◌≤◌, ◌+◌, ◌*◌, not, length, Bool, true, cond, find, count_by, Some, refl, sym, ap, ◌∙◌, arith}
use Rattle.std.proofs.Math.Nat.{add-mul}
use Rattle.std.specs.BTreeMap.{values}
use Rattle.step_count.specs.Levels.{levels}
use Rattle.ordered_index.proofs.EntryLaws.{tally, count-cons}
use Rattle.peer_table.specs.Kept.{PeerKey, has_remote}
use Rattle.peer_table.proofs.PortUses.{found_here, found_nowhere}
use Rattle.peer_table.proofs.overlaps.first_elsewhere.Goals as goal

-- a look for a key that is passed
one-passed : (lv n m s s' all : ℕ) → m ≡ 1 + n → s' ≡ s + lv → s + m * lv ≤ all → s' + n * lv ≤ all
one-passed lv n m s s' all turn look paid =
    let split : (n + 1) * lv ≡ n * lv + 1 * lv = add-mul n 1 lv in
    let is : m ≡ n + 1 = omega (arith, turn) in
    let same : m * lv ≡ (n + 1) * lv = ap (λ (z : ℕ). z * lv) is in
    omega (arith, split, same, look, paid)

pub loop-key-init : goal.loop-key-init
loop-key-init g c = (refl, omega arith)

pub loop-key-preserved : goal.loop-key-preserved
loop-key-preserved g c =
    let test : PeerKey × ℕ → Bool = λ e. has_remote c.args.lease.now.remote c.args.lease.now.remote_port e.0 in
    let here : PeerKey × ℕ = (c.in-Some.key.now, c.in-Some.number.now) in let rest = c.next.new.self in
    let has : test here ≡ true = sym c.has_remote.ensures ∙ c.if-not-has_remote.false in
    let turn : count_by test c.loop-key.key-iterator ≡ 1 + count_by test rest =
    ap (count_by test) c.in-Some.ensures.steps ∙ count-cons test here rest ∙ ap (λ (b : Bool). tally b + count_by test rest) has in
    let find_rest = find (λ (e : PeerKey × ℕ). not (test e)) rest in (
      sym (ap (find (λ (e : PeerKey × ℕ). not (test e))) c.in-Some.ensures.steps ∙ ap (λ (b : Bool). cond (not b) (Some here) find_rest) has) ∙ c.loop-key.invariant.0,
      one-passed (levels (length (values c.args.kept.now.leases))) (count_by test rest) (count_by test c.loop-key.key-iterator) c.loop-key.steps _ _ turn c.look-in-loop-key.ensures c.loop-key.invariant.1,
    )

pub returns-then-not-has_remote-clause-first : goal.returns-then-not-has_remote-clause-first
returns-then-not-has_remote-clause-first g c =
    let test = λ (e : PeerKey × ℕ). not (has_remote c.args.lease.now.remote c.args.lease.now.remote_port e.0) in
    let whole = c.into_iter-key-iterator.ensures.into_iter_gives ∙ c.range-key-items.ensures.between tt in
    found_here test c.in-Some.key.now c.in-Some.number.now c.next.new.self c.loop-key.key-iterator _
    (ap not (sym c.has_remote.ensures ∙ c.if-not-has_remote.true)) c.in-Some.ensures.steps (c.loop-key.invariant.0 ∙ ap (find test) whole)

pub returns-clause-first : goal.returns-clause-first
returns-clause-first g c =
    let test = λ (e : PeerKey × ℕ). not (has_remote c.args.lease.now.remote c.args.lease.now.remote_port e.0) in
    let whole = c.into_iter-key-iterator.ensures.into_iter_gives ∙ c.range-key-items.ensures.between tt in
    found_nowhere test c.loop-key.key-iterator _ c.in-None.ensures.steps.0 (c.loop-key.invariant.0 ∙ ap (find test) whole)
