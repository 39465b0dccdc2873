use Rattle.std.proofs.Common.{◌+◌, ◌-◌, ◌/◌, refl, arith, sym, ◌∙◌}
use Rattle.port_runs.specs.Flags.{flags_of}
use Rattle.port_runs.proofs.WordFlags.{words_of_flags}
use Rattle.port_runs.proofs.Search.{Spot, none_first, found_first, some_cost, none_cost, root_spot, level_down, level_on, level_end, none_when, spot_within, spot_place, left_summary, right_summary, go_left, none_found, word_within, least_in_word, word_has}
use Rattle.port_runs.proofs.tree.first_run.Goals as goal
use Rattle.port_runs.proofs.tree.first_run.Goals.{then-longest_run-n-2, else-longest_run-n-2+else-is_some}

pub returns-then-longest_run-n-clause-found : goal.returns-then-longest_run-n-clause-found
returns-then-longest_run-n-clause-found g c =
    let short = rw (c.longest_run.ensures, c.look.ensures.node) at c.if-longest_run-n.true in
    none_first (flags_of c.args.words.now) c.args.nodes.now c.args.n c.args.parity c.requires.some c.requires.tree.whole c.requires.clear c.requires.tree.leaves c.requires.tree.joined short

pub loop-level-init : goal.loop-level-init
loop-level-init g c =
    let long = rw (c.longest_run.ensures, c.look.ensures.node) at c.if-longest_run-n.false in
    record {
      spot = root_spot (flags_of c.args.words.now) c.args.nodes.now c.args.n c.args.parity c.requires.some c.requires.tree.whole c.requires.clear c.requires.tree.leaves c.requires.tree.joined long;
      small = λ _. omega arith;
      within = omega arith;
      cost = omega arith;
    }

pub overflow_sub-begins : goal.overflow_sub-begins
overflow_sub-begins g c =
    let l = c.loop-level in
    let spot = level_down (flags_of c.args.words.now) c.args.nodes.now c.args.n c.args.parity c.requires.some c.requires.tree.whole c.requires.clear c.requires.tree.leaves c.requires.tree.joined l.level l.place l.first l.half c.loop-level-test.true l.invariant.spot in
    let left = left_summary (flags_of c.args.words.now) c.args.nodes.now c.args.n c.args.parity c.requires.some c.requires.tree.whole c.requires.clear c.requires.tree.leaves c.requires.tree.joined (9 - l.level) l.place l.first l.half spot in
    rw c.look-left.ensures.node (omega (arith, left.suffix.within))

pub first_between-found-requires-clause-ends : goal.first_between-found-requires-clause-ends
first_between-found-requires-clause-ends g c =
    let l = c.loop-level in
    let spot = level_down (flags_of c.args.words.now) c.args.nodes.now c.args.n c.args.parity c.requires.some c.requires.tree.whole c.requires.clear c.requires.tree.leaves c.requires.tree.joined l.level l.place l.first l.half c.loop-level-test.true l.invariant.spot in
    let right = right_summary (flags_of c.args.words.now) c.args.nodes.now c.args.n c.args.parity c.requires.some c.requires.tree.whole c.requires.clear c.requires.tree.leaves c.requires.tree.joined (9 - l.level) l.place l.first l.half spot in
    rw c.look-right.ensures.node (omega (arith, right.prefix.within, l.invariant.within))

pub returns-then-is_some-clause-found : goal.returns-then-is_some-clause-found
returns-then-is_some-clause-found g c =
    let l = c.loop-level in
    let spot = level_down (flags_of c.args.words.now) c.args.nodes.now c.args.n c.args.parity c.requires.some c.requires.tree.whole c.requires.clear c.requires.tree.leaves c.requires.tree.joined l.level l.place l.first l.half c.loop-level-test.true l.invariant.spot in
    let short = rw c.longest_run-in-loop-level.ensures at c.if-longest_run-n-2.false in
    let there = sym c.is_some.ensures ∙ c.if-is_some.true in
    found_first (flags_of c.args.words.now) c.args.nodes.now c.args.n c.args.parity c.requires.some c.requires.tree.whole c.requires.clear c.requires.tree.leaves c.requires.tree.joined (9 - l.level) l.place l.first l.half spot c.look-left.result c.look-right.result c.look-left.ensures.node c.look-right.ensures.node short c.first_between-found.result there c.first_between-found.ensures.found

pub returns-then-is_some-clause-some : goal.returns-then-is_some-clause-some
returns-then-is_some-clause-some g c =
    let l = c.loop-level in
    some_cost c.first_between-found.result (record { levels = l.level + 1; words = 0; is = omega (arith, l.invariant.cost, c.look-left.ensures.cost, c.look-right.ensures.cost); some = omega arith; few = omega arith; one = omega arith; last = λ more. absurd (omega arith) })

pub returns-then-is_some-clause-none : goal.returns-then-is_some-clause-none
returns-then-is_some-clause-none g c = none_cost _ c.first_between-found.result (sym c.is_some.ensures ∙ c.if-is_some.true)

pub loop-level-preserved : goal.loop-level-preserved
loop-level-preserved g c =
    let l = c.loop-level in
    let j = c.if-longest_run-n-2 in
    let spot = level_down (flags_of c.args.words.now) c.args.nodes.now c.args.n c.args.parity c.requires.some c.requires.tree.whole c.requires.clear c.requires.tree.leaves c.requires.tree.joined l.level l.place l.first l.half c.loop-level-test.true l.invariant.spot in
    let next : Spot (flags_of c.args.words.now) c.args.nodes.now c.args.n c.args.parity (9 - l.level) j.place j.first (l.half / 2) =
    elim c.if-longest_run-n-2.branch [
      | then-longest_run-n-2 w ↦ (let long = rw (c.longest_run-in-loop-level.ensures, c.look-left.ensures.node) at w.if-longest_run-n-2.true in
          rw (w.place-is, w.first-is) (go_left (flags_of c.args.words.now) c.args.nodes.now c.args.n c.args.parity c.requires.some c.requires.tree.whole c.requires.clear c.requires.tree.leaves c.requires.tree.joined (9 - l.level) l.place l.first l.half spot long))
      | else-longest_run-n-2+else-is_some w ↦ (let short = rw c.longest_run-in-loop-level.ensures at w.if-longest_run-n-2.false in
          let none = none_when _ w.first_between-found.result (sym w.is_some.ensures ∙ w.if-is_some.false) w.first_between-found.ensures.none in
          rw (w.place-is, w.first-is) (none_found (flags_of c.args.words.now) c.args.nodes.now c.args.n c.args.parity c.requires.some c.requires.tree.whole c.requires.clear c.requires.tree.leaves c.requires.tree.joined (9 - l.level) l.place l.first l.half spot c.look-left.result c.look-right.result c.look-left.ensures.node c.look-right.ensures.node short (λ t has from. none t has (omega (arith, from)))))
    ]
    in
    let on = level_on (flags_of c.args.words.now) c.args.nodes.now c.args.n c.args.parity c.requires.some c.requires.tree.whole c.requires.clear c.requires.tree.leaves c.requires.tree.joined l.level j.place j.first (l.half / 2) next in
    record {
      spot = on;
      small = λ more. spot_place (flags_of c.args.words.now) c.args.nodes.now c.args.n c.args.parity c.requires.some c.requires.tree.whole c.requires.clear c.requires.tree.leaves c.requires.tree.joined (10 - (l.level + 1)) j.place j.first (l.half / 2) (omega arith) on;
      within = spot_within (flags_of c.args.words.now) c.args.nodes.now c.args.n c.args.parity c.requires.some c.requires.tree.whole c.requires.clear c.requires.tree.leaves c.requires.tree.joined (10 - (l.level + 1)) j.place j.first (l.half / 2) on;
      cost = omega (arith, l.invariant.cost, c.look-left.ensures.cost, c.look-right.ensures.cost);
    }

pub look_in_word-requires-clause-index : goal.look_in_word-requires-clause-index
look_in_word-requires-clause-index g c =
    let l = c.loop-level in
    let spot = level_end (flags_of c.args.words.now) c.args.nodes.now c.args.n c.args.parity c.requires.some c.requires.tree.whole c.requires.clear c.requires.tree.leaves c.requires.tree.joined l.level l.place l.first l.half c.loop-level-test.false l.invariant.spot in
    word_within (flags_of c.args.words.now) c.args.nodes.now c.args.n c.args.parity c.requires.some c.requires.tree.whole c.requires.clear c.requires.tree.leaves c.requires.tree.joined l.place l.first l.half spot

pub look_in_word-requires-clause-words : goal.look_in_word-requires-clause-words
look_in_word-requires-clause-words g c = words_of_flags c.args.words.now c.requires.tree.whole

pub returns-clause-found : goal.returns-clause-found
returns-clause-found g c =
    let l = c.loop-level in
    let spot = level_end (flags_of c.args.words.now) c.args.nodes.now c.args.n c.args.parity c.requires.some c.requires.tree.whole c.requires.clear c.requires.tree.leaves c.requires.tree.joined l.level l.place l.first l.half c.loop-level-test.false l.invariant.spot in
    least_in_word (flags_of c.args.words.now) c.args.nodes.now c.args.n c.args.parity c.requires.some c.requires.tree.whole c.requires.clear c.requires.tree.leaves c.requires.tree.joined l.place l.first l.half spot c.look_in_word.result c.look_in_word.ensures.found

pub returns-clause-some : goal.returns-clause-some
returns-clause-some g c =
    let l = c.loop-level in
    some_cost c.look_in_word.result (record { levels = 10; words = 1; is = omega (arith, l.invariant.cost, c.look_in_word.ensures.cost); some = omega arith; few = omega arith; one = omega arith; last = λ _. refl })

pub returns-clause-none : goal.returns-clause-none
returns-clause-none g c =
    let l = c.loop-level in
    let spot = level_end (flags_of c.args.words.now) c.args.nodes.now c.args.n c.args.parity c.requires.some c.requires.tree.whole c.requires.clear c.requires.tree.leaves c.requires.tree.joined l.level l.place l.first l.half c.loop-level-test.false l.invariant.spot in
    none_cost _ c.look_in_word.result (word_has (flags_of c.args.words.now) c.args.nodes.now c.args.n c.args.parity c.requires.some c.requires.tree.whole c.requires.clear c.requires.tree.leaves c.requires.tree.joined l.place l.first l.half spot c.look_in_word.result c.look_in_word.ensures.found)
