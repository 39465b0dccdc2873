-- Leases that have left, at later moments, and what all leases tell beside them.
use Rattle.std.proofs.Common.{◌≡◌, ℕ, ◌≤◌, nat_lt, false, List, [], filter, refl, sym, ap, ◌∙◌, subst, inl, arith}
use Rattle.std.proofs.lemmas.Bool.{le-ltb, ltb-false}
use Rattle.pcp_base.specs.declared.leases.MapLease.{MapLease}
use Rattle.pcp_base.specs.declared.leases.PeerLease.{PeerLease}
use Rattle.pcp_base.specs.Tables.{Table, empty_table, live}
use Rattle.pcp_base.proofs.Members.{All-from_IsIn, Contains-from_IsIn, IsIn-from_Contains}
use Rattle.ordered_index.specs.Aged.{AreTogether, no_leases}
use Rattle.mapping_table.specs.MapLists.{is_live_map}
use Rattle.peer_table.specs.PeerLists.{is_live_peer}
use Rattle.indexed_store.specs.Tabled.{ArePart, ArePast, AreWhole, Tables, no_tables}
use Rattle.indexed_store.proofs.Uniques.{live-live}

pub ended-later : (m n expiry : ℕ) → m ≤ n → nat_lt m expiry ≡ false → nat_lt n expiry ≡ false
ended-later m n expiry later ended = le-ltb n expiry (let past = ltb-false m expiry ended in omega (arith, later, past))

pub past-later : (m n : ℕ) (t : Table) → m ≤ n → ArePast m t → ArePast n t
past-later m n t later past = record {
  maps = λ l there. ended-later m n l.expiry later (past.maps l there);
  peers = λ l there. ended-later m n l.expiry later (past.peers l there);
}

pub past-part : (m : ℕ) (part whole : Table) → ArePart part whole → ArePast m whole → ArePast m part
past-part m part whole among past = record {
  maps = λ l there. past.maps l (among.maps l there);
  peers = λ l there. past.peers l (among.peers l there);
}

pub past-none : (m : ℕ) (t : Table) → t ≡ empty_table → ArePast m t
past-none m t none = subst (ArePast m) (sym none) (record {
  maps = λ l there. absurd (IsIn-from_Contains [] l there);
  peers = λ l there. absurd (IsIn-from_Contains [] l there);
})

together-none : {X : Type 0} → AreTogether {L = X} no_leases
together-none = record {
  of_all = λ l there. inl there;
  of_found = λ l there. there;
  of_past = λ l there. there;
  same = λ test fails. refl;
  counted = λ test. refl;
}

pub whole-none : (t : Tables) → t ≡ no_tables → AreWhole t
whole-none t none = subst AreWhole (sym none) (record { maps = together-none; peers = together-none })

-- what is live of all where none that has left is
pub whole-live : (t : Tables) (m : ℕ) → AreWhole t → ArePast m t.past → live t.all m ≡ live t.found m
whole-live t m whole past =
    ap (λ (ls : List MapLease). record { maps = ls; peers = filter (λ (l : PeerLease). nat_lt m l.expiry) t.all.peers })
    (whole.maps.same (is_live_map m) (All-from_IsIn (λ l. is_live_map m l ≡ false) t.past.maps (λ l i. past.maps l (Contains-from_IsIn t.past.maps l i))))
    ∙ ap (λ (ls : List PeerLease). record { maps = filter (λ (l : MapLease). nat_lt m l.expiry) t.found.maps; peers = ls })
    (whole.peers.same (is_live_peer m) (All-from_IsIn (λ l. is_live_peer m l ≡ false) t.past.peers (λ l i. past.peers l (Contains-from_IsIn t.past.peers l i))))

-- what is live of all at a later moment
pub whole-later : (t : Tables) (last m : ℕ) → last ≤ m → AreWhole t → ArePast m t.past → live (live t.all last) m ≡ live t.found m
whole-later t last m later whole past = live-live t.all last m later ∙ whole-live t m whole past
