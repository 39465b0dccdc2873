use Rattle.std.proofs.Common.{◌≡◌, ◌≤◌, ◌∙◌, ℕ, List, length, ap, sym, subst}
use Rattle.std.proofs.lemmas.Option.{get_or_from_slice_get}
use Rattle.pcp_base.specs.declared.datagrams.Datagram.{Datagram}
use Rattle.pcp_base.specs.Epoch.{epoch_of}
use Rattle.pcp_options.specs.declared.options.Item.{Item}
use Rattle.shard_book.specs.declared.batches.DatedAnswer.{DatedAnswer}
use Rattle.lease_histories.specs.Entries.{reply_text_of}
use Rattle.turned_shards.proofs.reading.reply_at.Goals as goal

pub reply_of-requires : goal.reply_of-requires
reply_of-requires c =
    let a = c.requires.source.0 in
    let is = c.requires.source.1 in
    let d = c.index-batch-source.result in
    let same : d ≡ a.from = c.index-batch-source.is
    ∙ get_or_from_slice_get c.args.batch.now c.args.source.now.at a.from d is.there in
    subst (λ (l : List ℕ). 2 ≤ length l)
    (sym (c.items-request.ensures ∙ ap (λ (x : Datagram). x.octets) same)) is.long

-- what is sent back to the sender of a datagram, by its door
abbrev back : Datagram → List ℕ → Datagram
back from octets = record { peer = from.peer; port = from.port; door = from.door; octets = octets }

pub returns : goal.returns
returns c = λ a is.
    let address = c.args.address.now in
    let d = c.index-batch-source.result in
    let told = c.dated.result in
    let items = c.args.source.now.items in
    let same : d ≡ a.from = c.index-batch-source.is
    ∙ get_or_from_slice_get c.args.batch.now c.args.source.now.at a.from d is.there in
    let request : c.items-request.result.now ≡ a.from.octets =
    c.items-request.ensures ∙ ap (λ (x : Datagram). x.octets) same in
    ap (λ (x : Datagram). back x c.in_ok-octets.octets) same
    ∙ ap (λ (l : List ℕ). back a.from l) (c.in_ok-octets.ensures
    ∙ ap (λ (l : List ℕ). reply_text_of l address items told.answer (epoch_of told.moment told.base))
    request
    ∙ ap (λ (l : List Item). reply_text_of a.from.octets address l told.answer
    (epoch_of told.moment told.base)) is.items
    ∙ ap (λ (x : DatedAnswer). reply_text_of a.from.octets address a.request.items x.answer
    (epoch_of x.moment x.base)) c.dated.ensures)
