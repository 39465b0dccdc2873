use Rattle.std.proofs.Common.{◌≡◌, ℕ, ◌≤◌, List, length, take, Option, sym, ◌∙◌, ap, subst, arith}
use Rattle.journal_sides.specs.Heads.{IsHead}
use Rattle.journal_sides.specs.Walks.{WalkEnds, WalkFails, WalkMeans}
use Rattle.journal_sides.specs.Writes.{side_parity}
use Rattle.journal_sides.proofs.JudgeLemmas.{judged_good, judged_bad, judged_empty, whole_head}
use Rattle.journal_sides.proofs.walks.judge_side.Goals as goal

pub returns-in-Some-2-clause-judged : goal.returns-in-Some-2-clause-judged
returns-in-Some-2-clause-judged g c = λ told.
    let d = g.D.LeaseDisk in
    let octets = d.seen c.args.disk.now in
    let same = c.in_ok-size.ensures.unchanged told in
    let here : d.seen c.fill.new.disk ≡ octets = c.in_ok-count.ensures.seen told ∙ same in
    let long : c.in_ok-size.size ≡ length octets = c.in_ok-size.ensures.size told in
    let enough : 15 ≤ length octets = omega (arith, long, c.if-size.false) in
    let read : c.fill.new.piece ≡ take 14 octets = whole_head octets (d.seen c.len.new.self) c.fill.new.piece c.in_ok-count.count c.fill.auto.piece (omega (arith, c.if-count-lt-SIDE_HEAD.false)) c.in_ok-count.ensures.bound (c.in_ok-count.ensures.reads told) same in
    let head = subst (λ (l : List ℕ). IsHead (side_parity c.args.side) l c.in-Some.format c.in-Some.generation) read c.in-Some.ensures.found in
    let now = g.R.Replay.state c.walk.new.replay in
    let walked = c.in_ok-end.ensures.means told (long ∙ sym (ap length here)) in
    let ends = subst (λ (l : List ℕ). WalkEnds c.in-Some.format now l c.in-Some-2.end) here (subst (λ (o : Option ℕ). WalkMeans c.in-Some.format now (d.seen c.fill.new.disk) o) c.in-Some-2.is walked) in
    (now, judged_good (side_parity c.args.side) octets c.in-Some.format c.in-Some.generation head now c.in-Some-2.end c.in_ok-size.size (omega (arith, c.if-end.true)) long ends)

pub returns-in-Some-2-clause-replayed : goal.returns-in-Some-2-clause-replayed
returns-in-Some-2-clause-replayed g c = λ told.
    let d = g.D.LeaseDisk in
    let octets = d.seen c.args.disk.now in
    let same = c.in_ok-size.ensures.unchanged told in
    let here : d.seen c.fill.new.disk ≡ octets = c.in_ok-count.ensures.seen told ∙ same in
    let long : c.in_ok-size.size ≡ length octets = c.in_ok-size.ensures.size told in
    let enough : 15 ≤ length octets = omega (arith, long, c.if-size.false) in
    let read : c.fill.new.piece ≡ take 14 octets = whole_head octets (d.seen c.len.new.self) c.fill.new.piece c.in_ok-count.count c.fill.auto.piece (omega (arith, c.if-count-lt-SIDE_HEAD.false)) c.in_ok-count.ensures.bound (c.in_ok-count.ensures.reads told) same in
    let head = subst (λ (l : List ℕ). IsHead (side_parity c.args.side) l c.in-Some.format c.in-Some.generation) read c.in-Some.ensures.found in
    let now = g.R.Replay.state c.walk.new.replay in
    let walked = c.in_ok-end.ensures.means told (long ∙ sym (ap length here)) in
    let ends = subst (λ (l : List ℕ). WalkEnds c.in-Some.format now l c.in-Some-2.end) here (subst (λ (o : Option ℕ). WalkMeans c.in-Some.format now (d.seen c.fill.new.disk) o) c.in-Some-2.is walked) in
    judged_good (side_parity c.args.side) octets c.in-Some.format c.in-Some.generation head now c.in-Some-2.end c.in_ok-size.size (omega (arith, c.if-end.true)) long ends

pub returns-in_default-2-clause-judged : goal.returns-in_default-2-clause-judged
returns-in_default-2-clause-judged g c = λ told.
    let d = g.D.LeaseDisk in
    let octets = d.seen c.args.disk.now in
    let same = c.in_ok-size.ensures.unchanged told in
    let here : d.seen c.fill.new.disk ≡ octets = c.in_ok-count.ensures.seen told ∙ same in
    let long : c.in_ok-size.size ≡ length octets = c.in_ok-size.ensures.size told in
    let enough : 15 ≤ length octets = omega (arith, long, c.if-size.false) in
    let read : c.fill.new.piece ≡ take 14 octets = whole_head octets (d.seen c.len.new.self) c.fill.new.piece c.in_ok-count.count c.fill.auto.piece (omega (arith, c.if-count-lt-SIDE_HEAD.false)) c.in_ok-count.ensures.bound (c.in_ok-count.ensures.reads told) same in
    let head = subst (λ (l : List ℕ). IsHead (side_parity c.args.side) l c.in-Some.format c.in-Some.generation) read c.in-Some.ensures.found in
    let now = g.R.Replay.state c.walk.new.replay in
    let walked = c.in_ok-end.ensures.means told (long ∙ sym (ap length here)) in
    let ends = subst (λ (l : List ℕ). WalkEnds c.in-Some.format now l c.in-Some-2.end) here (subst (λ (o : Option ℕ). WalkMeans c.in-Some.format now (d.seen c.fill.new.disk) o) c.in-Some-2.is walked) in
    judged_empty (side_parity c.args.side) octets c.in-Some.format c.in-Some.generation head enough now c.in-Some-2.end (λ past. omega (arith, past, c.if-end.false)) ends

pub returns-in_default-2-2-clause-judged : goal.returns-in_default-2-2-clause-judged
returns-in_default-2-2-clause-judged g c = λ told.
    let d = g.D.LeaseDisk in
    let octets = d.seen c.args.disk.now in
    let same = c.in_ok-size.ensures.unchanged told in
    let here : d.seen c.fill.new.disk ≡ octets = c.in_ok-count.ensures.seen told ∙ same in
    let long : c.in_ok-size.size ≡ length octets = c.in_ok-size.ensures.size told in
    let enough : 15 ≤ length octets = omega (arith, long, c.if-size.false) in
    let read : c.fill.new.piece ≡ take 14 octets = whole_head octets (d.seen c.len.new.self) c.fill.new.piece c.in_ok-count.count c.fill.auto.piece (omega (arith, c.if-count-lt-SIDE_HEAD.false)) c.in_ok-count.ensures.bound (c.in_ok-count.ensures.reads told) same in
    let head = subst (λ (l : List ℕ). IsHead (side_parity c.args.side) l c.in-Some.format c.in-Some.generation) read c.in-Some.ensures.found in
    let now = g.R.Replay.state c.walk.new.replay in
    let walked = c.in_ok-end.ensures.means told (long ∙ sym (ap length here)) in
    let fails = subst (λ (l : List ℕ). WalkFails c.in-Some.format l) here (subst (λ (o : Option ℕ). WalkMeans c.in-Some.format now (d.seen c.fill.new.disk) o) c.in_default-2.is walked) in
    judged_bad (side_parity c.args.side) octets c.in-Some.format c.in-Some.generation head enough fails
