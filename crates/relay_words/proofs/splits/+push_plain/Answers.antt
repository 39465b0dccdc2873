use Rattle.std.proofs.Common.{ap, string_bytes}
use Rattle.relay_words.proofs.PlainLemmas.{left_out, on_ok, with_first, with_word}
use Rattle.relay_words.proofs.splits.+push_plain.Goals as goal

pub returns-then-is_left_out : goal.returns-then-is_left_out
returns-then-is_left_out t c =
    on_ok _ (left_out string_bytes c.args.words.now c.args.seen _ _ (string_bytes c.word-item.result) (string_bytes c.value-item.result) c.in-len1-up.len_at_least
    (ap string_bytes c.word-item.is) c.in-len1-up-rest.len_at_least (ap string_bytes c.value-item.is) _ _ _ c.if-is_left_out.true
    (rw c.deref-2.ensures at c.is_left_out.ensures)) c.push_plain.ensures

pub returns-then-is_inner : goal.returns-then-is_inner
returns-then-is_inner t c =
    on_ok _ (with_first string_bytes c.args.words.now c.args.seen _ _ (string_bytes c.word-item.result) (string_bytes c.value-item.result) c.in-len1-up.len_at_least
    (ap string_bytes c.word-item.is) c.in-len1-up-rest.len_at_least (ap string_bytes c.value-item.is) _ _ _ _ _ _ c.if-is_left_out.false
    (rw c.deref-2.ensures at c.is_left_out.ensures) c.if-is_inner.true (rw c.deref-4.ensures at c.is_inner.ensures) (rw c.deref-3.ensures at c.in_ok-push_word.ensures)
    (rw c.deref-then-is_inner.ensures at c.in_ok-push_word-2.ensures)) c.push_plain-then-is_inner.ensures

pub returns : goal.returns
returns t c =
    on_ok _ (with_word string_bytes c.args.words.now c.args.seen _ _ (string_bytes c.word-item.result) (string_bytes c.value-item.result) c.in-len1-up.len_at_least
    (ap string_bytes c.word-item.is) c.in-len1-up-rest.len_at_least (ap string_bytes c.value-item.is) _ _ _ _ _ c.if-is_left_out.false
    (rw c.deref-2.ensures at c.is_left_out.ensures) c.if-is_inner.false (rw c.deref-4.ensures at c.is_inner.ensures) (rw c.deref-3.ensures at c.in_ok-push_word.ensures)) c.push_plain-2.ensures
