-- The requests of a batch, as they are read one after the other, and their replies.
use Rattle.std.specs.List.{AllByRecursion, cons_option, slice_get}
use Rattle.std.specs.Option.{option_map}
use Rattle.std.proofs.Common.{◌≡◌, ◌∙◌, ℕ, zero, suc, ◌+◌, ◌≤◌, ◌<◌, List, [], ◌∷◌, ◌++◌, length}
use Rattle.std.proofs.Common.{map, take, Option, Some, None, refl, ap, sym, subst, arith}
use Rattle.std.proofs.lemmas.List.{append-nil, map-append}
use Rattle.std.proofs.lemmas.List.Elements.{filter_map-append}
use Rattle.std.proofs.lemmas.Option.{slice_get-map}
use Rattle.pcp_base.specs.declared.addresses.Address.{Address}
use Rattle.pcp_base.specs.declared.asks.Ask.{Ask}
use Rattle.pcp_base.specs.declared.configs.Config.{Config}
use Rattle.pcp_base.specs.declared.datagrams.Datagram.{Datagram}
use Rattle.pcp_base.specs.Asks.{IsWellFormedAsk}
use Rattle.pcp_base.proofs.Members.{All-push}
use Rattle.pcp_options.specs.declared.options.Item.{Item}
use Rattle.pcp_options.specs.Responses.{AreOctets}
use Rattle.shard_book.specs.declared.batches.Answered.{Answered}
use Rattle.lease_histories.specs.Entries.{Request, request_of}
use Rattle.lease_house.specs.declared.routes.Routed.{Routed}
use Rattle.lease_house.specs.Routings.{routed_to}
use Rattle.turned_shards.specs.declared.reading.Requests.{Requests}
use Rattle.turned_shards.specs.declared.reading.Source.{Source}
use Rattle.turned_shards.specs.BatchEntries.{Asked, IsAskedOf, asked_by, asked_in}
use Rattle.turned_shards.specs.Reading.{IsReadBy, replies_to, reply_to, source_in, source_of}

asked-more : (config : Config) (xs : List Datagram) (d : Datagram) (o : Option Request) →
    request_of config d ≡ o → asked_in config (xs ++ d ∷ [])
    ≡ asked_in config xs ++ cons_option (asked_by d o) []
asked-more config xs d o is =
    filter_map-append (λ (e : Datagram). asked_by e (request_of config e)) xs (d ∷ [])
    ∙ ap (λ (q : Option Request). asked_in config xs ++ cons_option (asked_by d q) []) is

-- a silent datagram
pub read-silent : (config : Config) (batch : List Datagram) (at : ℕ) (d : Datagram) (r : Requests) →
    take (at + 1) batch ≡ take at batch ++ d ∷ [] → request_of config d ≡ None →
    IsReadBy config batch (asked_in config (take at batch)) r →
    IsReadBy config batch (asked_in config (take (at + 1) batch)) r
read-silent config batch at d r more silent read =
    let same : asked_in config (take (at + 1) batch) ≡ asked_in config (take at batch) =
    ap (asked_in config) more ∙ asked-more config (take at batch) d None silent
    ∙ append-nil (asked_in config (take at batch)) in
    subst (λ (asked : List Asked). IsReadBy config batch asked r) (sym same) read

-- a request
pub read-request : (config : Config) (batch : List Datagram) (at : ℕ) (d : Datagram)
    (r t : Requests) (q : Request) → take (at + 1) batch ≡ take at batch ++ d ∷ [] →
    slice_get batch at ≡ Some d →
    request_of config d ≡ Some q → AreOctets d.octets → 2 ≤ length d.octets →
    IsWellFormedAsk q.ask → t.asks.items ≡ r.asks.items ++ q.ask ∷ [] →
    t.sources.items ≡ r.sources.items ++ record { at = at; items = q.items } ∷ [] →
    IsReadBy config batch (asked_in config (take at batch)) r →
    IsReadBy config batch (asked_in config (take (at + 1) batch)) t
read-request config batch at d r t q more there asks octets long formed new_asks new_sources read =
    let before : List Asked = asked_in config (take at batch) in
    let a : Asked = record { from = d; request = q } in
    let s : Source = record { at = at; items = q.items } in
    let same : asked_in config (take (at + 1) batch) ≡ before ++ a ∷ [] = ap (asked_in config) more
    ∙ asked-more config (take at batch) d (Some q) asks in
    let found : source_in batch s ≡ source_of a =
    ap (λ (o : Option Datagram). option_map (λ (e : Datagram). (e, q.items)) o) there in
    subst (λ (asked : List Asked). IsReadBy config batch asked t) (sym same) (record {
      asks = new_asks ∙ ap (λ (l : List Ask). l ++ q.ask ∷ []) read.asks
          ∙ sym (map-append (λ (b : Asked). b.request.ask) before (a ∷ []));
      sources = ap (map (source_in batch)) new_sources
          ∙ map-append (source_in batch) r.sources.items (s ∷ [])
          ∙ ap (λ (l : List (Option (Datagram × List Item))). l ++ source_in batch s ∷ [])
          read.sources
          ∙ ap (λ (o : Option (Datagram × List Item)). map source_of before ++ o ∷ []) found
          ∙ sym (map-append source_of before (a ∷ []));
      formed = subst (λ (l : List Ask). AllByRecursion IsWellFormedAsk l) (sym new_asks)
          (All-push IsWellFormedAsk r.asks.items q.ask read.formed formed);
      are = All-push (IsAskedOf config) before a read.are
          (record { octets = octets; long = long; asks = asks });
    })

pub routed-as : (place : ℕ) (o : Option Request) (r : Routed) →
    option_map (routed_to place) o ≡ Some r → o ≡ Some (record { ask = r.ask; items = r.items })
routed-as place None r h = absurd cc
routed-as place (Some q) r h =
    let same : routed_to place q ≡ r = cc in
    ap (λ (x : Routed). Some (record { ask = x.ask; items = x.items })) same

pub routed-nothing : (place : ℕ) (o : Option Request) → option_map (routed_to place) o ≡ None →
    o ≡ None
routed-nothing place None h = refl
routed-nothing place (Some q) h = absurd cc

-- ---- replies

-- the request at a place
pub record IsAskedAt (config : Config) (batch : List Datagram) (asked : List Asked) (k : ℕ)
    (s : Source) : Type 0 where
  pub a : Asked
  pub at : slice_get asked k ≡ Some a
  pub from : slice_get batch s.at ≡ Some a.from
  pub items : s.items ≡ a.request.items
  pub is : IsAskedOf config a

source-found : (batch : List Datagram) (s : Source) (o : Option Datagram) (a : Asked) →
    option_map {U = Datagram × List Item} (λ (d : Datagram). (d, s.items)) o ≡ source_of a →
    (o ≡ Some a.from) × (s.items ≡ a.request.items)
source-found batch s None a h = absurd cc
source-found batch s (Some d) a h =
    let p : ◌≡◌ {A = Datagram × List Item} (d, s.items) (a.from, a.request.items) = cc in
    (ap (λ (x : Datagram × List Item). Some x.0) p, ap (λ (x : Datagram × List Item). x.1) p)

all-at : {X : Type 0} (P : X → Type 0) (xs : List X) (k : ℕ) (x : X) → AllByRecursion P xs →
    slice_get xs k ≡ Some x → P x
all-at P [] k x all at = absurd cc
all-at P (y ∷ ys) zero x all at = let same : y ≡ x = cc in subst P same all.0
all-at P (y ∷ ys) (suc k) x all at = all-at P ys k x all.1 at

pub get-within : {X : Type 0} (xs : List X) (k : ℕ) (x : X) → slice_get xs k ≡ Some x →
    k < length xs
get-within [] k x at = absurd cc
get-within (y ∷ ys) zero x at = omega arith
get-within (y ∷ ys) (suc k) x at = let e = get-within ys k x at in omega (arith, e)

some-at : {X Y : Type 0} (f : X → Y) (o : Option X) (y : Y) → option_map f o ≡ Some y →
    (x : X) × (o ≡ Some x) × (f x ≡ y)
some-at f None y h = absurd cc
some-at f (Some x) y h = (x, refl, cc)

pub asked-at : (config : Config) (batch : List Datagram) (asked : List Asked) (r : Requests) (k : ℕ)
    (s : Source) → IsReadBy config batch asked r → slice_get r.sources.items k ≡ Some s →
    IsAskedAt config batch asked k s
asked-at config batch asked r k s read there =
    let met : option_map source_of (slice_get asked k) ≡ Some (source_in batch s) =
    sym (slice_get-map source_of asked k)
    ∙ ap (λ (l : List (Option (Datagram × List Item))). slice_get l k) (sym read.sources)
    ∙ slice_get-map (source_in batch) r.sources.items k
    ∙ ap (option_map (source_in batch)) there in
    let a = some-at source_of (slice_get asked k) (source_in batch s) met in
    let found = source-found batch s (slice_get batch s.at) a.0 (sym a.2) in
    record {
      a = a.0;
      at = a.1;
      from = found.0;
      items = found.1;
      is = all-at (IsAskedOf config) asked k a.0 read.are a.1;
    }

pub replies-more : (address : Address) (asked : List Asked) (answers : List Answered) (k : ℕ)
    (a : Asked) (x : Answered) → slice_get asked k ≡ Some a → slice_get answers k ≡ Some x →
    replies_to address (take (k + 1) asked) (take (k + 1) answers)
    ≡ replies_to address (take k asked) (take k answers) ++ reply_to address a x ∷ []
replies-more address [] answers k a x at told = absurd cc
replies-more address (b ∷ asked) [] k a x at told = absurd cc
replies-more address (b ∷ asked) (y ∷ answers) zero a x at told =
    let p : b ≡ a = cc in
    let q : y ≡ x = cc in
    ap (λ (c : Asked). reply_to address c y ∷ []) p
    ∙ ap (λ (z : Answered). reply_to address a z ∷ []) q
replies-more address (b ∷ asked) (y ∷ answers) (suc k) a x at told =
    let e : suc k + 1 ≡ suc (k + 1) = omega arith in
    rw e (ap (λ (l : List Datagram). reply_to address b y ∷ l)
    (replies-more address asked answers k a x at told))
