use Rattle.std.specs.List.{slice_get}
use Rattle.std.proofs.Common.{◌≡◌, ◌∙◌, ◌+◌, [], ◌∷◌, ◌++◌, take, Some, None, ap, sym, subst, rules}
use Rattle.std.proofs.lemmas.List.{take_more}
use Rattle.std.proofs.lemmas.Option.{slice_get-get_or}
use Rattle.pcp_base.specs.declared.datagrams.Datagram.{Datagram}
use Rattle.pcp_options.specs.Responses.{AreOctets}
use Rattle.lease_histories.specs.Entries.{request_of}
use Rattle.lease_histories.specs.Routes.{route_of}
use Rattle.lease_house.specs.Routings.{MayBeAsked, routed_by}
use Rattle.turned_shards.proofs.ReadLemmas.{read-request, read-silent, routed-as, routed-nothing}
use Rattle.turned_shards.proofs.reading.read_next.Goals as goal

pub returns-in_ok-push-2 : goal.returns-in_ok-push-2
returns-in_ok-push-2 c =
    let config = c.args.config.now in
    let batch = c.args.batch.now in
    let at = c.args.at in
    let d = c.index-batch-at.result in
    let r = c.in-Some.routed in
    let more : take (at + 1) batch ≡ take at batch ++ d ∷ [] = take_more batch at d c.requires.at
    ∙ ap (λ (x : Datagram). take at batch ++ x ∷ []) (sym c.index-batch-at.is) in
    let there : slice_get batch at ≡ Some d = slice_get-get_or batch at d c.requires.at
    ∙ ap (λ (x : Datagram). Some x) (sym c.index-batch-at.is) in
    let routed : routed_by config d ≡ Some r = search rules in
    let may : MayBeAsked config d r.place r.ask = search rules in
    read-request config batch at d c.args.requests.now
    (record { asks = c.push.new.self; sources = c.push-in-Some.new.self })
    (record { ask = r.ask; items = r.items })
    more there (routed-as (route_of config d) (request_of config d) r routed)
    (subst AreOctets c.items.ensures c.are_octets.ensures) may.long may.formed
    c.in_ok-push.ensures.items c.in_ok-push-2.ensures.items c.requires.read

pub returns-in_default : goal.returns-in_default
returns-in_default c =
    let config = c.args.config.now in
    let batch = c.args.batch.now in
    let at = c.args.at in
    let d = c.index-batch-at.result in
    let more : take (at + 1) batch ≡ take at batch ++ d ∷ [] = take_more batch at d c.requires.at
    ∙ ap (λ (x : Datagram). take at batch ++ x ∷ []) (sym c.index-batch-at.is) in
    let routed : routed_by config d ≡ None = search rules in
    read-silent config batch at d c.args.requests.now more
    (routed-nothing (route_of config d) (request_of config d) routed) c.requires.read
