-- A command is said where each of its parts is, and by these alone.
use Rattle.std.proofs.Common.{◌≡◌, ℕ, List, Option, Some, None, refl, sym, ◌∙◌, codes}
use Rattle.std.specs.Prelude.{Bool}
use Rattle.clap.specs.Words.{Row, Text}
use Rattle.pcp_base.specs.declared.addresses.Address.{Address}
use Rattle.pcp_base.specs.declared.leases.Protocol.{Protocol}
use Rattle.client_commands.specs.declared.commands.ClientCommand.{ClientCommand}
use Rattle.client_commands.specs.declared.commands.ClientCommand.TheVariants.{Map, Peer, Announce}
use Rattle.client_commands.specs.declared.commands.MapWanted.{MapWanted}
use Rattle.client_commands.specs.declared.commands.Mapping.{Mapping}
use Rattle.client_commands.specs.declared.commands.PeerWanted.{PeerWanted}
use Rattle.client_commands.specs.declared.commands.Target.{Target}
use Rattle.client_commands.specs.Commands.{IsAnnounceIn, IsMapIn, IsMapWanted, IsMapping, IsOnly, IsPeerIn, IsPeerWanted, IsTarget, external_range, lifetime_range, port_range, size_range, tries_range, value_in}
use Rattle.client_commands.specs.Parts.{announce_with, map_wanted_of, map_with, mapping_of, peer_wanted_of, peer_with, target_of}
use Rattle.client_commands.specs.Values.{IsAddressAt, IsNumberAt, IsProtocolAt, flag_at}

-- what is found is what is such
the_one : {X : Type 0} {Is : X → Type 0} (x y : X) → IsOnly Is (Some x) → Is y → x ≡ y
the_one x y h is = cc (h.only y is)

-- where nothing is found nothing is such
none_is : {X A : Type 0} {Is : X → Type 0} (y : X) → IsOnly Is None → Is y → A
none_is y h is = absurd (cc (h.only y is))

module _ (values : Text → Option Text) where
  pub target_only : (s o : Option Address) (t : Option ℕ) → IsOnly (IsAddressAt (values (codes "server"))) s → IsOnly (IsAddressAt (values (codes "own"))) o
      → IsOnly (IsNumberAt tries_range (values (codes "tries"))) t → IsOnly (IsTarget values) (target_of s o t)
  target_only None o t hs ho ht = record { value = tt; only = λ x is. none_is x.server hs is.server }
  target_only (Some s) None t hs ho ht = record { value = tt; only = λ x is. none_is x.own ho is.own }
  target_only (Some s) (Some o) None hs ho ht = record { value = tt; only = λ x is. none_is x.tries ht is.tries }
  target_only (Some s) (Some o) (Some t) hs ho ht = record {
    value = record { server = hs.value; own = ho.value; tries = ht.value };
    only = λ x is. rw (the_one s x.server hs is.server, the_one o x.own ho is.own, the_one t x.tries ht is.tries) refl;
  }

  pub mapping_only : (p : Option Protocol) (n l e : Option ℕ) → IsOnly (IsProtocolAt (values (codes "protocol"))) p
      → IsOnly (IsNumberAt port_range (values (codes "port"))) n → IsOnly (IsNumberAt lifetime_range (values (codes "lifetime"))) l
      → IsOnly (IsNumberAt external_range (values (codes "external-port"))) e → IsOnly (IsMapping values) (mapping_of p n l e)
  mapping_only None n l e hp hn hl he = record { value = tt; only = λ x is. none_is x.protocol hp is.protocol }
  mapping_only (Some p) None l e hp hn hl he = record { value = tt; only = λ x is. none_is x.port hn is.port }
  mapping_only (Some p) (Some n) None e hp hn hl he = record { value = tt; only = λ x is. none_is x.lifetime hl is.lifetime }
  mapping_only (Some p) (Some n) (Some l) None hp hn hl he = record { value = tt; only = λ x is. none_is x.external he is.external }
  mapping_only (Some p) (Some n) (Some l) (Some e) hp hn hl he = record {
    value = record { protocol = hp.value; port = hn.value; lifetime = hl.value; external = he.value };
    only = λ x is. rw (the_one p x.protocol hp is.protocol, the_one n x.port hn is.port, the_one l x.lifetime hl is.lifetime, the_one e x.external he is.external) refl;
  }

  pub map_wanted_only : (m : Option Mapping) (n : Option ℕ) (b : Bool) → IsOnly (IsMapping values) m → IsOnly (IsNumberAt size_range (values (codes "size"))) n
      → b ≡ flag_at (values (codes "prefer-failure")) → IsOnly (IsMapWanted values) (map_wanted_of m n b)
  map_wanted_only None n b hm hn hb = record { value = tt; only = λ x is. none_is x.mapping hm is.mapping }
  map_wanted_only (Some m) None b hm hn hb = record { value = tt; only = λ x is. none_is x.size hn is.size }
  map_wanted_only (Some m) (Some n) b hm hn hb = record {
    value = record { mapping = hm.value; size = hn.value; prefer = hb };
    only = λ x is. rw (the_one m x.mapping hm is.mapping, the_one n x.size hn is.size, hb ∙ sym is.prefer) refl;
  }

  pub peer_wanted_only : (m : Option Mapping) (a : Option Address) (n : Option ℕ) → IsOnly (IsMapping values) m → IsOnly (IsAddressAt (values (codes "remote"))) a
      → IsOnly (IsNumberAt port_range (values (codes "remote-port"))) n → IsOnly (IsPeerWanted values) (peer_wanted_of m a n)
  peer_wanted_only None a n hm ha hn = record { value = tt; only = λ x is. none_is x.mapping hm is.mapping }
  peer_wanted_only (Some m) None n hm ha hn = record { value = tt; only = λ x is. none_is x.remote ha is.remote }
  peer_wanted_only (Some m) (Some a) None hm ha hn = record { value = tt; only = λ x is. none_is x.remote_port hn is.remote_port }
  peer_wanted_only (Some m) (Some a) (Some n) hm ha hn = record {
    value = record { mapping = hm.value; remote = ha.value; remote_port = hn.value };
    only = λ x is. rw (the_one m x.mapping hm is.mapping, the_one a x.remote ha is.remote, the_one n x.remote_port hn is.remote_port) refl;
  }

module _ (rows : List Row) where
  pub map_only : (t : Option Target) (w : Option MapWanted) → IsOnly (IsTarget (value_in rows)) t → IsOnly (IsMapWanted (value_in rows)) w
      → IsOnly (IsMapIn rows) (map_with t w)
  map_only None w ht hw = record { value = tt; only = none }
    where
      none : (c : ClientCommand) → IsMapIn rows c → None ≡ Some c
      none (Map t w) is = none_is t ht is.0
      none (Peer t w) is = absurd is
      none (Announce t) is = absurd is
  map_only (Some t) None ht hw = record { value = tt; only = none }
    where
      none : (c : ClientCommand) → IsMapIn rows c → None ≡ Some c
      none (Map t w) is = none_is w hw is.1
      none (Peer t w) is = absurd is
      none (Announce t) is = absurd is
  map_only (Some t) (Some w) ht hw = record { value = (ht.value, hw.value); only = one }
    where
      one : (c : ClientCommand) → IsMapIn rows c → Some (Map t w) ≡ Some c
      one (Map u v) is = rw (the_one t u ht is.0, the_one w v hw is.1) refl
      one (Peer t w) is = absurd is
      one (Announce t) is = absurd is

  pub peer_only : (t : Option Target) (w : Option PeerWanted) → IsOnly (IsTarget (value_in rows)) t → IsOnly (IsPeerWanted (value_in rows)) w
      → IsOnly (IsPeerIn rows) (peer_with t w)
  peer_only None w ht hw = record { value = tt; only = none }
    where
      none : (c : ClientCommand) → IsPeerIn rows c → None ≡ Some c
      none (Peer t w) is = none_is t ht is.0
      none (Map t w) is = absurd is
      none (Announce t) is = absurd is
  peer_only (Some t) None ht hw = record { value = tt; only = none }
    where
      none : (c : ClientCommand) → IsPeerIn rows c → None ≡ Some c
      none (Peer t w) is = none_is w hw is.1
      none (Map t w) is = absurd is
      none (Announce t) is = absurd is
  peer_only (Some t) (Some w) ht hw = record { value = (ht.value, hw.value); only = one }
    where
      one : (c : ClientCommand) → IsPeerIn rows c → Some (Peer t w) ≡ Some c
      one (Peer u v) is = rw (the_one t u ht is.0, the_one w v hw is.1) refl
      one (Map t w) is = absurd is
      one (Announce t) is = absurd is

  pub announce_only : (t : Option Target) → IsOnly (IsTarget (value_in rows)) t → IsOnly (IsAnnounceIn rows) (announce_with t)
  announce_only None ht = record { value = tt; only = none }
    where
      none : (c : ClientCommand) → IsAnnounceIn rows c → None ≡ Some c
      none (Announce t) is = none_is t ht is
      none (Map t w) is = absurd is
      none (Peer t w) is = absurd is
  announce_only (Some t) ht = record { value = ht.value; only = one }
    where
      one : (c : ClientCommand) → IsAnnounceIn rows c → Some (Announce t) ≡ Some c
      one (Announce u) is = rw (the_one t u ht is) refl
      one (Map t w) is = absurd is
      one (Peer t w) is = absurd is
