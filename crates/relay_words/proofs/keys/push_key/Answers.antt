use Rattle.std.proofs.Common.{◌<◌, length, refl, rules, arith}
use Rattle.relay_words.proofs.KeyLemmas.{keyed, keyed_twice, unkeyed}
use Rattle.relay_words.proofs.keys.push_key.Goals as goal

pub returns-then-len-gt1 : goal.returns-then-len-gt1
returns-then-len-gt1 c = keyed_twice (λ s. s.now) (λ s. s.now) c.in_ok-files.files.items _ c.in_ok-files.ensures c.args.filed _ (omega (arith, c.if-len-gt1.true, c.len.ensures))

pub returns-in_default : goal.returns-in_default
returns-in_default c =
    let some : 0 < length c.in_ok-files.files.items = search rules in
    unkeyed (λ s. s.now) (λ s. s.now) c.in_ok-files.files.items _ c.in_ok-files.ensures c.args.filed _ some (search rules)

pub returns : goal.returns
returns c =
    let some : 0 < length c.in_ok-files.files.items = search rules in
    keyed (λ s. s.now) (λ s. s.now) c.in_ok-files.files.items _ c.in_ok-files.ensures c.args.filed c.in-Some.text _ _ _ _ some (omega (arith, c.if-len-gt1.false, c.len.ensures)) c.in-Some.is refl
    c.in_ok-push_word.ensures c.in_ok-push_word-2.ensures
