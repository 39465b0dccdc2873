use Rattle.std.proofs.Common.{◌≡◌, ap, true, string_bytes, rules}
use Rattle.relay_words.proofs.AskLemmas.{older_keyed}
use Rattle.relay_words.proofs.asks.older_in.Goals as goal

pub returns : goal.returns
returns c =
    let there : c.in_ok-push_key.field-0 ≡ true = search rules in
    older_keyed string_bytes c.args.words.now _ _ (string_bytes c.name-item.result) c.in-len1-up.len_at_least (ap string_bytes c.name-item.is) _ _ _ c.in_ok-push_key.field-0 there
    (rw (c.new-older.ensures.items, c.deref.ensures) at c.in_ok-push_word.ensures) c.in_ok-push_key.ensures c.in_ok-push_plain.ensures
