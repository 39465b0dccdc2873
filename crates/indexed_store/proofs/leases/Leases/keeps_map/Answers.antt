use Rattle.std.proofs.Common.{◌≡◌, nat_lt, true, find, is_some, Option, None, IfSome, sym, ap, ◌∙◌, subst}
use Rattle.pcp_base.specs.declared.leases.MapLease.{MapLease}
use Rattle.pcp_base.specs.Tables.{Table, live, is_map_of}
use Rattle.indexed_store.proofs.DeadGo.{found-none, key-goes, none-left, own-live}
use Rattle.indexed_store.proofs.Views.{found_is}
use Rattle.indexed_store.proofs.leases.Leases.keeps_map.Goals as goal

-- ---- one is live

pub returns-then-is_some-clause-own : goal.returns-then-is_some-clause-own
returns-then-is_some-clause-own g c =
    let key = c.args.key.now in
    let some : is_some (find (is_map_of key) (live c.args.self.now.found c.args.m).maps) ≡ true = ap is_some (sym c.map_of_counted.ensures.lease) ∙ sym c.is_some.ensures ∙ c.if-is_some.true in
    (own-live c.args.m c.args.self.now.found c.requires key some).0

pub returns-then-is_some-clause-there : goal.returns-then-is_some-clause-there
returns-then-is_some-clause-there g c =
    let key = c.args.key.now in
    let some : is_some (find (is_map_of key) (live c.args.self.now.found c.args.m).maps) ≡ true = ap is_some (sym c.map_of_counted.ensures.lease) ∙ sym c.is_some.ensures ∙ c.if-is_some.true in
    (own-live c.args.m c.args.self.now.found c.requires key some).1

-- ---- none is

pub returns-clause-tabled : goal.returns-clause-tabled
returns-clause-tabled g c =
    let key = c.args.key.now in
    let before : Table = record { maps = c.self.inside.maps.found; peers = c.self.inside.peers.found } in
    let none : find (is_map_of key) (live c.args.self.now.found c.args.m).maps ≡ None = sym c.map_of_counted.ensures.lease ∙ found-none c.map_of_counted.result (sym c.is_some.ensures ∙ c.if-is_some.false) in
    (key-goes c.args.m before c.args.self.now.found (found_is c.self.view_is) c.requires c.fewer_maps_are_sound.ensures key none c.remove.new.self.found c.remove.ensures.removed.removed).tabled

pub returns-clause-live : goal.returns-clause-live
returns-clause-live g c =
    let key = c.args.key.now in
    let before : Table = record { maps = c.self.inside.maps.found; peers = c.self.inside.peers.found } in
    let none : find (is_map_of key) (live c.args.self.now.found c.args.m).maps ≡ None = sym c.map_of_counted.ensures.lease ∙ found-none c.map_of_counted.result (sym c.is_some.ensures ∙ c.if-is_some.false) in
    (key-goes c.args.m before c.args.self.now.found (found_is c.self.view_is) c.requires c.fewer_maps_are_sound.ensures key none c.remove.new.self.found c.remove.ensures.removed.removed).same

pub returns-clause-own : goal.returns-clause-own
returns-clause-own g c =
    subst (λ (o : Option MapLease). IfSome o (λ l. nat_lt c.args.m l.expiry ≡ true)) (sym (none-left (is_map_of c.args.key.now) c.self.inside.maps.found c.remove.new.self.found c.remove.ensures.removed.removed)) tt

pub returns-clause-there : goal.returns-clause-there
returns-clause-there g c = ap is_some (sym (none-left (is_map_of c.args.key.now) c.self.inside.maps.found c.remove.new.self.found c.remove.ensures.removed.removed))

pub returns-clause-maps_from : goal.returns-clause-maps_from
returns-clause-maps_from g c =
    let key = c.args.key.now in
    let before : Table = record { maps = c.self.inside.maps.found; peers = c.self.inside.peers.found } in
    let none : find (is_map_of key) (live c.args.self.now.found c.args.m).maps ≡ None = sym c.map_of_counted.ensures.lease ∙ found-none c.map_of_counted.result (sym c.is_some.ensures ∙ c.if-is_some.false) in
    (key-goes c.args.m before c.args.self.now.found (found_is c.self.view_is) c.requires c.fewer_maps_are_sound.ensures key none c.remove.new.self.found c.remove.ensures.removed.removed).maps_from
