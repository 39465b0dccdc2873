-- What requests and losses do to the moments and the bases of a house of plain states.
use Rattle.std.specs.Prelude.{fold, max, IfSome, slice_get, slice_set, map}
use Rattle.std.specs.List.{AllByRecursion}
use Rattle.std.proofs.Common.{◌≡◌, ◌∙◌, ℕ, zero, suc, ◌≤◌, true, false, cond, List, [], ◌∷◌, Option, Some, None, refl, ap, sym, subst, arith}
use Rattle.pcp_base.specs.declared.addresses.Address.{Address}
use Rattle.pcp_base.specs.declared.datagrams.Datagram.{Datagram}
use Rattle.pcp_base.specs.declared.datagrams.Entry.{Entry}
use Rattle.pcp_base.specs.declared.records.Change.{Change}
use Rattle.pcp_base.specs.declared.records.Change.TheVariants as Changes
use Rattle.pcp_base.specs.declared.records.Record.{Record}
use Rattle.pcp_base.specs.Apply.{rebases}
use Rattle.pcp_base.specs.Epoch.{epoch_of}
use Rattle.pcp_base.specs.States.{State}
use Rattle.lease_store.specs.LeaseTerms.{terms_of}
use Rattle.lease_core.specs.Laws.{ChangesLease, DecisionsChangeLeases}
use Rattle.lease_histories.specs.Entries.{Request, decided_on, request_entry, request_of}
use Rattle.lease_histories.specs.HouseHistories.{greatest}
use Rattle.lease_histories.specs.PlainHouses.{PlainHouse, PlainShard, add_by, add_entry, entry_by, greatest_base, packet_after, packet_entry, raised, served_at, shard_after, with_kept}
use Rattle.lease_histories.specs.Routes.{route_of}
use Rattle.loss_world.proofs.EpochReads.{TellsAtMost, reply-most}
use Rattle.loss_world.specs.HouseLosses.{Cause, Loses, Restarts, Renumbers, at_address, control_entry, controlled, house_after, is_loss, readdressed, shards_at}

-- ---- lists by their places

greatest-from : (a : ℕ) (xs : List ℕ) → fold max a xs ≡ max a (fold max 0 xs)
greatest-from a [] = omega arith
greatest-from a (x ∷ xs) =
    let p = greatest-from (max a x) xs in
    let q = greatest-from (max 0 x) xs in
    let e : max 0 x ≡ x = omega arith in
    omega (arith, p, q, e)

greatest-has : {X : Type 0} (f : X → ℕ) (xs : List X) (i : ℕ) (x : X) → slice_get xs i ≡ Some x → f x ≤ greatest (map f xs)
greatest-has f [] i x h = absurd cc
greatest-has f (z ∷ zs) zero x h =
    let same : z ≡ x = cc in
    let at : f z ≡ f x = ap f same in
    let q = greatest-from (max 0 (f z)) (map f zs) in
    omega (arith, q, at)
greatest-has f (z ∷ zs) (suc i) x h =
    let r = greatest-has f zs i x h in
    let q = greatest-from (max 0 (f z)) (map f zs) in
    omega (arith, q, r)

pub All-set : {X : Type 0} (P : X → Type 0) (xs : List X) (i : ℕ) (y : X) → AllByRecursion P xs → P y → AllByRecursion P (slice_set xs i y)
All-set P [] i y all h = tt
All-set P (x ∷ xs) zero y all h = (h, all.1)
All-set P (x ∷ xs) (suc i) y all h = (all.0, All-set P xs i y all.1 h)

pub All-got : {X : Type 0} (P : X → Type 0) (xs : List X) (i : ℕ) (x : X) → AllByRecursion P xs → slice_get xs i ≡ Some x → P x
All-got P [] i x all h = absurd cc
All-got P (y ∷ ys) zero x all h = let same : y ≡ x = cc in subst P same all.0
All-got P (y ∷ ys) (suc i) x all h = All-got P ys i x all.1 h

pub All-map : {X Y : Type 0} (P : X → Type 0) (Q : Y → Type 0) (f : X → Y) → ((x : X) → P x → Q (f x)) → (xs : List X) → AllByRecursion P xs → AllByRecursion Q (map f xs)
All-map P Q f g [] h = tt
All-map P Q f g (x ∷ xs) h = (g x h.0, All-map P Q f g xs h.1)

pub All-mapped : {X Y : Type 0} (Q : Y → Type 0) (f : X → Y) → ((x : X) → Q (f x)) → (xs : List X) → AllByRecursion Q (map f xs)
All-mapped Q f g [] = tt
All-mapped Q f g (x ∷ xs) = (g x, All-mapped Q f g xs)

got-set : {X : Type 0} (xs : List X) (i : ℕ) (x y : X) → slice_get xs i ≡ Some x → slice_get (slice_set xs i y) i ≡ Some y
got-set [] i x y h = absurd cc
got-set (z ∷ zs) zero x y h = refl
got-set (z ∷ zs) (suc i) x y h = got-set zs i x y h

map-set : {X : Type 0} (f : X → ℕ) (xs : List X) (i : ℕ) (x y : X) → slice_get xs i ≡ Some x → f y ≡ f x → map f (slice_set xs i y) ≡ map f xs
map-set f [] i x y h e = absurd cc
map-set f (z ∷ zs) zero x y h e =
    let same : z ≡ x = cc in
    ap (λ n. n ∷ map f zs) (e ∙ sym (ap f same))
map-set f (z ∷ zs) (suc i) x y h e = ap (λ ns. f z ∷ ns) (map-set f zs i x y h e)

-- ---- requests

no-rebase : (change : Change) → ChangesLease change → (s : State) → rebases change s.address ≡ false
no-rebase Changes.Start h s = absurd h
no-rebase (Changes.Map l) h s = refl
no-rebase (Changes.Peer l) h s = refl
no-rebase (Changes.DropMap e) h s = refl
no-rebase (Changes.DropPeer e remote port) h s = refl
no-rebase Changes.Lose h s = absurd h
no-rebase (Changes.Rest e port end) h s = absurd h
no-rebase (Changes.Renumber a) h s = absurd h
no-rebase Changes.Mark h s = absurd h

kept-base : (s : State) (kept : Option Record) (m : ℕ) → IfSome kept (λ r. ChangesLease r.change × (r.moment ≡ m)) → (with_kept s kept).base ≡ s.base
kept-base s None m h = refl
kept-base s (Some r) m h = ap (λ b. cond b r.moment s.base) (no-rebase r.change h.0 s)

-- no last moment of an external address is later than this one
abbrev pub IsBy : ℕ → PlainHouse → Type 0
IsBy m house = AllByRecursion (λ s. s.last ≤ m) house.shards

-- after a request at m its entry tells the base that is the greatest, and that stays
pub record IsAnswered (m : ℕ) (house after : PlainHouse) (e : Entry) : Type 0 where
  pub moment : e.moment ≡ m
  pub base : e.base ≡ greatest_base house
  pub reply : TellsAtMost e.reply (epoch_of e.moment e.base)
  pub by : IsBy m after
  pub stays : greatest_base after ≡ greatest_base house

answers-by : DecisionsChangeLeases → (m : ℕ) (house : PlainHouse) (d : Datagram) (shard : Option PlainShard) (request : Option Request) (e : Entry) →
    IsBy m house → slice_get house.shards (route_of house.config d) ≡ shard → entry_by house m d shard request ≡ Some e →
    IsAnswered m house (add_by house (route_of house.config d) shard (Some e)) e
answers-by law m house d None None e by at h = absurd cc
answers-by law m house d None (Some request) e by at h = absurd cc
answers-by law m house d (Some shard) None e by at h = absurd cc
answers-by law m house d (Some shard) (Some request) e by at h =
    let x = served_at house (route_of house.config d) shard in
    let made : request_entry x shard.state (raised m shard) (greatest_base house) d request ≡ e = cc in
    let past = All-got (λ (s : PlainShard). s.last ≤ m) house.shards (route_of house.config d) shard by at in
    let now : raised m shard ≡ m = omega (arith, past) in
    let change = law (terms_of x.external x.config) shard.state (raised m shard) request.ask in
    let base = kept-base shard.state (decided_on x shard.state (raised m shard) request).kept (raised m shard) change in
    let kept : (with_kept shard.state e.kept).base ≡ shard.state.base = ap (λ (y : Entry). (with_kept shard.state y.kept).base) (sym made) ∙ base in
    let moment : e.moment ≡ m = ap (λ (y : Entry). y.moment) (sym made) ∙ now in
    record {
      moment = moment;
      base = ap (λ (y : Entry). y.base) (sym made);
      reply = subst (λ (y : Entry). TellsAtMost y.reply (epoch_of y.moment y.base)) made
          (reply-most d.octets x.external.address request.items (decided_on x shard.state (raised m shard) request).answer (epoch_of (raised m shard) (greatest_base house)));
      by = All-set (λ (s : PlainShard). s.last ≤ m) house.shards (route_of house.config d) (shard_after shard e) by (omega (arith, moment));
      stays = ap greatest (map-set (λ (s : PlainShard). s.state.base) house.shards (route_of house.config d) shard (shard_after shard e) at kept);
    }

pub answers : DecisionsChangeLeases → (m : ℕ) (house : PlainHouse) (d : Datagram) (e : Entry) → IsBy m house → packet_entry house m d ≡ Some e → IsAnswered m house (packet_after house m d) e
answers law m house d e by h =
    let done = answers-by law m house d (slice_get house.shards (route_of house.config d)) (request_of house.config d) e by refl h in
    subst (λ x. IsAnswered m house (add_entry house (route_of house.config d) x) e) (sym h) done

-- ---- losses

-- after a loss at m the greatest base is no less than m
pub record IsLost (m : ℕ) (after : PlainHouse) : Type 0 where
  pub by : IsBy m after
  pub base : m ≤ greatest_base after

controls : (m : ℕ) (house : PlainHouse) (place : ℕ) (shard : PlainShard) (change : Change) → slice_get house.shards place ≡ Some shard →
    controlled house place m change ≡ record house { shards = slice_set house.shards place (shard_after shard (control_entry house m change)) }
controls m house place shard change h = ap (λ s. add_by house place s (Some (control_entry house m change))) h

based : (m : ℕ) (house : PlainHouse) (place : ℕ) (shard : PlainShard) (change : Change) → IsBy m house → slice_get house.shards place ≡ Some shard → rebases change shard.state.address ≡ true →
    IsLost m (controlled house place m change)
based m house place shard change by h is =
    let after = shard_after shard (control_entry house m change) in
    let base : after.state.base ≡ m = ap (λ b. cond b m shard.state.base) is in
    let there = greatest-has (λ (s : PlainShard). s.state.base) (slice_set house.shards place after) place after (got-set house.shards place shard after h) in
    subst (IsLost m) (sym (controls m house place shard change h)) (record {
      by = All-set (λ (s : PlainShard). s.last ≤ m) house.shards place after by (omega arith);
      base = omega (arith, there, base);
    })

-- a record that follows keeps the base
followed : (m : ℕ) (house : PlainHouse) (place : ℕ) (shard : PlainShard) (change : Change) → IsBy m house → slice_get house.shards place ≡ Some shard → rebases change shard.state.address ≡ false → shard.state.base ≡ m →
    IsLost m (controlled house place m change)
followed m house place shard change by h is was =
    let after = shard_after shard (control_entry house m change) in
    let base : after.state.base ≡ m = ap (λ b. cond b m shard.state.base) is ∙ was in
    let there = greatest-has (λ (s : PlainShard). s.state.base) (slice_set house.shards place after) place after (got-set house.shards place shard after h) in
    subst (IsLost m) (sym (controls m house place shard change h)) (record {
      by = All-set (λ (s : PlainShard). s.last ≤ m) house.shards place after by (omega arith);
      base = omega (arith, there, base);
    })

addressed : (house : PlainHouse) (place : ℕ) (a : Address) (shard : PlainShard) → slice_get house.shards place ≡ Some shard →
    (readdressed house place a).shards ≡ slice_set house.shards place (record shard { external = at_address a shard.external })
addressed house place a shard h = ap (λ s. shards_at house.shards place a s) h

pub loses-house : (m : ℕ) (house : PlainHouse) (place : ℕ) (shard : PlainShard) (cause : Cause) → IsBy m house → slice_get house.shards place ≡ Some shard → is_loss shard cause ≡ true →
    IsLost m (house_after house place shard m cause)
loses-house m house place shard Loses by h is = based m house place shard Changes.Lose by h refl
loses-house m house place shard Restarts by h is =
    let first = control_entry house m Changes.Start in
    let begun = based m house place shard Changes.Start by h refl in
    let e = controls m house place shard Changes.Start h in
    let there : slice_get (controlled house place m Changes.Start).shards place ≡ Some (shard_after shard first) =
    ap (λ (x : PlainHouse). slice_get x.shards place) e ∙ got-set house.shards place shard (shard_after shard first) h in
    followed m (controlled house place m Changes.Start) place (shard_after shard first) (Changes.Renumber shard.external.address) begun.by there refl refl
loses-house m house place shard (Renumbers a) by h is =
    let moved = record shard { external = at_address a shard.external } in
    let e = addressed house place a shard h in
    let past = All-got (λ (s : PlainShard). s.last ≤ m) house.shards place shard by h in
    let by_now : IsBy m (readdressed house place a) =
    subst (λ xs. AllByRecursion (λ (s : PlainShard). s.last ≤ m) xs) (sym e) (All-set (λ (s : PlainShard). s.last ≤ m) house.shards place moved by past) in
    let there : slice_get (readdressed house place a).shards place ≡ Some moved =
    ap (λ xs. slice_get xs place) e ∙ got-set house.shards place shard moved h in
    based m (readdressed house place a) place moved (Changes.Renumber a) by_now there is
