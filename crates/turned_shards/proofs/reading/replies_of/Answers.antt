use Rattle.std.specs.List.{slice_get}
use Rattle.std.proofs.Common.{◌≡◌, ◌<◌, ◌∙◌, List, [], ◌∷◌, ◌++◌, length, take, Some, Option, ap}
use Rattle.std.proofs.Common.{sym, arith, rules}
use Rattle.std.proofs.lemmas.List.{length-map}
use Rattle.std.proofs.lemmas.Option.{slice_get-get_or}
use Rattle.pcp_base.specs.declared.asks.Ask.{Ask}
use Rattle.pcp_base.specs.declared.datagrams.Datagram.{Datagram}
use Rattle.pcp_options.specs.declared.options.Item.{Item}
use Rattle.shard_book.specs.declared.batches.Answered.{Answered}
use Rattle.turned_shards.specs.declared.reading.Source.{Source}
use Rattle.turned_shards.specs.BatchEntries.{Asked, asked_in}
use Rattle.turned_shards.specs.Reading.{replies_to, reply_to, source_in, source_of}
use Rattle.turned_shards.proofs.ReadLemmas.{asked-at, get-within, replies-more}
use Rattle.turned_shards.proofs.reading.replies_of.Goals as goal

pub reply_at-requires-clause-at : goal.reply_at-requires-clause-at
reply_at-requires-clause-at c =
    let config = c.args._config.now in
    let batch = c.args.batch.now in
    let asked = asked_in config batch in
    let r = c.args.requests.now in
    let k = c.loop-k.k in
    let s = c.index-source.result.now in
    let small : k < length c.args.answers.now = search rules in
    let n = c.requires.answers in
    let p = length-map r.sources.items (source_in batch) in
    let q = ap (λ (l : List (Option (Datagram × List Item))). length l) c.requires.read.sources in
    let u = length-map asked source_of in
    let v = ap (λ (l : List Ask). length l) c.requires.read.asks in
    let w = length-map asked (λ (a : Asked). a.request.ask) in
    let inside : k < length r.sources.items = omega (arith, small, n, p, q, u, v, w) in
    let there : slice_get r.sources.items k ≡ Some s = slice_get-get_or r.sources.items k s inside
    ∙ ap (λ (x : Source). Some x) (sym c.index-source.ensures) in
    let x = asked-at config batch asked r k s c.requires.read there in
    get-within batch s.at x.a.from x.from

pub reply_at-requires-clause-source : goal.reply_at-requires-clause-source
reply_at-requires-clause-source c =
    let config = c.args._config.now in
    let batch = c.args.batch.now in
    let asked = asked_in config batch in
    let r = c.args.requests.now in
    let k = c.loop-k.k in
    let s = c.index-source.result.now in
    let small : k < length c.args.answers.now = search rules in
    let n = c.requires.answers in
    let p = length-map r.sources.items (source_in batch) in
    let q = ap (λ (l : List (Option (Datagram × List Item))). length l) c.requires.read.sources in
    let u = length-map asked source_of in
    let v = ap (λ (l : List Ask). length l) c.requires.read.asks in
    let w = length-map asked (λ (a : Asked). a.request.ask) in
    let inside : k < length r.sources.items = omega (arith, small, n, p, q, u, v, w) in
    let there : slice_get r.sources.items k ≡ Some s = slice_get-get_or r.sources.items k s inside
    ∙ ap (λ (x : Source). Some x) (sym c.index-source.ensures) in
    let x = asked-at config batch asked r k s c.requires.read there in
    (x.a, record { there = x.from; items = x.items; long = x.is.long })

pub loop-k-preserved : goal.loop-k-preserved
loop-k-preserved c =
    let config = c.args._config.now in
    let batch = c.args.batch.now in
    let asked = asked_in config batch in
    let r = c.args.requests.now in
    let k = c.loop-k.k in
    let s = c.index-source.result.now in
    let small : k < length c.args.answers.now = search rules in
    let n = c.requires.answers in
    let p = length-map r.sources.items (source_in batch) in
    let q = ap (λ (l : List (Option (Datagram × List Item))). length l) c.requires.read.sources in
    let u = length-map asked source_of in
    let v = ap (λ (l : List Ask). length l) c.requires.read.asks in
    let w = length-map asked (λ (a : Asked). a.request.ask) in
    let inside : k < length r.sources.items = omega (arith, small, n, p, q, u, v, w) in
    let there : slice_get r.sources.items k ≡ Some s = slice_get-get_or r.sources.items k s inside
    ∙ ap (λ (x : Source). Some x) (sym c.index-source.ensures) in
    let x = asked-at config batch asked r k s c.requires.read there in
    let y = c.index-answers-k.result in
    let told : c.in_ok-reply.reply ≡ reply_to c.args.address.now x.a y =
    c.in_ok-reply.ensures x.a (record { there = x.from; items = x.items; long = x.is.long }) in
    let here : slice_get c.args.answers.now k ≡ Some y =
    slice_get-get_or c.args.answers.now k y small
    ∙ ap (λ (z : Answered). Some z) (sym c.index-answers-k.is) in
    c.in_ok-push.ensures.items
    ∙ ap (λ (l : List Datagram). l ++ c.in_ok-reply.reply ∷ []) c.loop-k.invariant
    ∙ ap (λ (z : Datagram). replies_to c.args.address.now (take k asked)
    (take k c.args.answers.now) ++ z ∷ []) told
    ∙ sym (replies-more c.args.address.now asked c.args.answers.now k x.a y x.at here)
