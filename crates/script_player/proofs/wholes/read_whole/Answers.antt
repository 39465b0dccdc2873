use Rattle.std.proofs.Common.{rules, ◌≡◌, ◌+◌, length, arith}
use Rattle.script_player.proofs.WholeLemmas.{ReadsSome-piece}
use Rattle.script_player.proofs.wholes.read_whole.Goals as goal

pub returns-then-count-most-clause-stops : goal.returns-then-count-most-clause-stops
returns-then-count-most-clause-stops g c =
    let size : length c.read.new.piece ≡ 4096 = omega arith in
    ReadsSome-piece _ (g.S.Source.left c.loop-text.input) _ c.loop-text.text.items c.loop-text.piece c.read.new.piece c.in_ok-count.count _ _
    c.loop-text.invariant.octets c.in_ok-count.ensures.reads size (omega arith) (omega (arith, c.loop-text.invariant.few))

pub returns-in_err-extend_from_slice-clause-stops :
    goal.returns-in_err-extend_from_slice-clause-stops
returns-in_err-extend_from_slice-clause-stops g c =
    let size : length c.read.new.piece ≡ 4096 = omega arith in
    let some = ReadsSome-piece (g.S.Source.left c.args.input.now) (g.S.Source.left c.loop-text.input) (g.S.Source.left c.read.new.self) c.loop-text.text.items c.loop-text.piece c.read.new.piece c.in_ok-count.count 0 (c.args.most + 4096)
    c.loop-text.invariant.octets c.in_ok-count.ensures.reads size (omega arith) (omega (arith, c.loop-text.invariant.few)) in
    search rules
