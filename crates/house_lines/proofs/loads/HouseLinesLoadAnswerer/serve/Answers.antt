use Rattle.std.proofs.Common.{rules, ◌≡◌, ◌∙◌, ℕ, Bool, List, [], Option, Some, None, ap}
use Rattle.std.specs.Prelude.{unwrap_or}
use Rattle.lease_histories.specs.PlainHouses.{packet_reply}
use Rattle.lease_house.specs.Routings.{routed_by}
use Rattle.lease_house.specs.SoloHouses.{plain_house}
use Rattle.house_lines.specs.HouseWays.{stays-with}
use Rattle.house_lines.specs.LoadFindings.{is_there, kind_told}
use Rattle.house_lines.proofs.CallLemmas.{served-house, served-told, silence}
use Rattle.house_lines.proofs.KindLemmas.{kinds-agree, silent-kind}
use Rattle.house_lines.proofs.LoadLemmas.{shards-sound}
use Rattle.house_lines.proofs.loads.HouseLinesLoadAnswerer.serve.Goals as goal

pub returns-in_err-read-clause-way : goal.returns-in_err-read-clause-way
returns-in_err-read-clause-way g c =
    let d = g.D.LeaseDisk in
    stays-with d.tells d.seen d.moment d.left_since d.may_leave c.args.self.now _ c.requires

-- a silent datagram
pub returns-in_default-clause-kind : goal.returns-in_default-clause-kind
returns-in_default-clause-kind g c =
    let d = g.D.LeaseDisk in
    let house = c.args.self.now in
    let unread : routed_by house.config c.args.request.now ≡ None = search rules in
    let silent = silence d.tells d.seen d.moment d.left_since d.may_leave house c.requires c.args.request.now unread in
    silent-kind (plain_house house) c.args.request.now c.args.now silent.silent

pub returns-in_default-clause-reply : goal.returns-in_default-clause-reply
returns-in_default-clause-reply g c =
    let d = g.D.LeaseDisk in
    let house = c.args.self.now in
    let unread : routed_by house.config c.args.request.now ≡ None = search rules in
    let silent = silence d.tells d.seen d.moment d.left_since d.may_leave house c.requires c.args.request.now unread in
    let told = served-told d.tells d.seen d.moment d.left_since d.may_leave house c.requires c.args.now c.args.request.now house None silent in
    let empty : [] ≡ unwrap_or (packet_reply (plain_house house) c.args.now c.args.request.now) [] = ap (λ (o : Option (List ℕ)). unwrap_or o []) told in
    search rules

pub returns-in_default-clause-house : goal.returns-in_default-clause-house
returns-in_default-clause-house g c =
    let d = g.D.LeaseDisk in
    let house = c.args.self.now in
    let unread : routed_by house.config c.args.request.now ≡ None = search rules in
    let silent = silence d.tells d.seen d.moment d.left_since d.may_leave house c.requires c.args.request.now unread in
    served-house d.tells d.seen d.moment d.left_since d.may_leave house c.requires c.args.now c.args.request.now house None silent

pub returns-in_default-clause-way : goal.returns-in_default-clause-way
returns-in_default-clause-way g c =
    let d = g.D.LeaseDisk in
    stays-with d.tells d.seen d.moment d.left_since d.may_leave c.args.self.now _ c.requires

-- a request
pub returns-clause-kind : goal.returns-clause-kind
returns-clause-kind g c =
    let d = g.D.LeaseDisk in
    let house = c.args.self.now in
    let from = c.args.request.now in
    let now = c.args.now in
    let read = c.in-Some.read in
    let routed : routed_by house.config from ≡ Some read = search rules in
    let found = is_there (plain_house house) read.place read.ask now in
    let there : c.is_there-there.result ≡ found = search rules in
    let counted : c.kind_of.result ≡ kind_told read.ask found c.in_ok-octets.octets =
    c.kind_of.ensures ∙ ap (λ (b : Bool). kind_told read.ask b c.items.result.now) there
    ∙ ap (λ (reply : List ℕ). kind_told read.ask found reply) c.items.ensures in
    counted ∙ kinds-agree (plain_house house) now from read c.in_ok-octets.octets (shards-sound d.tells d.seen d.may_leave house c.requires) routed c.in_ok-octets.ensures.told
