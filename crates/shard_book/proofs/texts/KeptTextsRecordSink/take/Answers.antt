use Rattle.std.proofs.Common.{◌++◌, ◌∷◌, [], List, ℕ, sym, subst, ◌∙◌, ap, append_assoc}
use Rattle.lease_records.specs.RecordTexts.{record_text}
use Rattle.journal_sides.proofs.RecordTextLaws.{one_text}
use Rattle.shard_book.specs.KeptTexts.{AreKeptAt, KeptRecords}
use Rattle.shard_book.proofs.KeptLemmas.{shown, shows_more}
use Rattle.shard_book.proofs.texts.KeptTextsRecordSink.take.Goals as goal

pub invariant_of-self-2 : goal.invariant_of-self-2
invariant_of-self-2 c =
    let octets = c.self.inside.octets.items in
    let place = c.self.inside.place in
    let r = c.args.kept.now in
    subst (λ (l : List ℕ). AreKeptAt l place) (sym c.in_ok-write_record.ensures.ok) (shows_more octets place c.self.invariant (record_text r) (r ∷ []) (one_text r c.in_ok-write_record.ensures.text)).stands

pub returns : goal.returns
returns c =
    let octets = c.self.inside.octets.items in
    let place = c.self.inside.place in
    let r = c.args.kept.now in
    let before = shown octets place in
    let view = ap (λ (l : List ℕ). shown l place) c.in_ok-write_record.ensures.ok ∙ (shows_more octets place c.self.invariant (record_text r) (r ∷ []) (one_text r c.in_ok-write_record.ensures.text)).view in
    ap (λ (k : KeptRecords). k.sure ++ k.added) view
    ∙ sym (append_assoc before.sure before.added (r ∷ []))
    ∙ ap (λ (k : KeptRecords). (k.sure ++ k.added) ++ r ∷ []) c.self.view_is
