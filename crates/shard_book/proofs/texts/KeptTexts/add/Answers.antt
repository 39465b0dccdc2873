use Rattle.std.proofs.Common.{◌++◌, List, ℕ, sym, subst, ◌∙◌, ap}
use Rattle.shard_book.specs.KeptTexts.{AreKeptAt, KeptRecords}
use Rattle.shard_book.proofs.KeptLemmas.{shown, shows_more}
use Rattle.shard_book.proofs.texts.KeptTexts.add.Goals as goal

pub invariant_of-self-2 : goal.invariant_of-self-2
invariant_of-self-2 c =
    let octets = c.self.inside.octets.items in
    let place = c.self.inside.place in
    let grown = c.in_ok-extend_from_slice.ensures.items ∙ ap (λ (l : List ℕ). octets ++ l) c.deref.ensures.value in
    subst (λ (l : List ℕ). AreKeptAt l place) (sym grown) (shows_more octets place c.self.invariant c.in_ok-texts.texts.items c.args.records.now c.in_ok-texts.ensures).stands

pub returns-clause-ok : goal.returns-clause-ok
returns-clause-ok c =
    let octets = c.self.inside.octets.items in
    let place = c.self.inside.place in
    let grown = c.in_ok-extend_from_slice.ensures.items ∙ ap (λ (l : List ℕ). octets ++ l) c.deref.ensures.value in
    ap (λ (l : List ℕ). shown l place) grown ∙ (shows_more octets place c.self.invariant c.in_ok-texts.texts.items c.args.records.now c.in_ok-texts.ensures).view ∙ ap (λ (k : KeptRecords). record { sure = k.sure; added = k.added ++ c.args.records.now }) c.self.view_is
