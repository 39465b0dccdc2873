-- What a state in tables keeps where it is new, after a record, and at a later moment.
use Rattle.std.proofs.Common.{◌≡◌, ℕ, ◌≤◌, nat_lt, Bool, true, false, cond, List, [], ◌++◌, filter, Option, None, refl, sym, ap, ◌∙◌, subst, arith}
use Rattle.pcp_base.specs.declared.addresses.Address.{Address}
use Rattle.pcp_base.specs.declared.leases.Protocol.{Protocol}
use Rattle.pcp_base.specs.declared.leases.Protocol.TheVariants.{Tcp, Udp}
use Rattle.pcp_base.specs.declared.leases.End.{End}
use Rattle.pcp_base.specs.Tables.{Table, empty_table, live}
use Rattle.pcp_base.specs.States.{State, empty_state}
use Rattle.pcp_base.specs.Sound.{Sound}
use Rattle.pcp_base.specs.Reached.{IsReached}
use Rattle.pcp_base.specs.Laws.{RecordsReach}
use Rattle.lease_store.specs.declared.terms.Terms.{Terms}
use Rattle.lease_store.specs.LeaseTerms.{AreTerms}
use Rattle.port_spans.specs.Along.{end_told, spot}
use Rattle.leased_ports.specs.Leased.{Leased, IsPortsOf, IsOnTerms, at_moment, end_of, fresh_ports}
use Rattle.leased_ports.specs.Kept.{end_by}
use Rattle.leased_ports.specs.Listed.{ends_come, has_come, listed}
use Rattle.leased_ports.specs.Laws.{NewPortsAreFree, PortsFollowMoments}
use Rattle.pcp_base.proofs.TableLemmas.{Sound-live}
use Rattle.leased_ports.proofs.ListedLemmas.{listed-empty}
use Rattle.indexed_store.specs.Tabled.{ArePast, AreTabled, IsNew, TabledState, Tables, no_tables, state_in, tabled_state}
use Rattle.indexed_store.specs.Indexed.{IsIndexed, IsKept}
use Rattle.indexed_store.proofs.PastLemmas.{past-later, past-none}
use Rattle.indexed_store.proofs.Uniques.{live-live}
use Rattle.indexed_store.proofs.Views.{all_is, found_is, past_is}

-- no end came by ports that have none
pub none-ends : (protocol : Protocol) (port : ℕ) → end_by [] protocol port ≡ None
none-ends protocol port = step (nat_lt port 65536)
  where
    step : (b : Bool) → end_told (spot protocol port) (cond b None None) ≡ None
    step true = refl
    step false = refl

pub none-come : (m low high quota : ℕ) → ends_come m (fresh_ports low high quota) ≡ []
none-come m low high quota =
    let v = fresh_ports low high quota in
    ap (λ (es : List End). filter (has_come m) (es ++ listed (end_of v Udp) 0 65536)) (listed-empty (end_of v Tcp) 0 65536 (λ i a b. none-ends Tcp i))
    ∙ ap (filter (has_come m)) (listed-empty (end_of v Udp) 0 65536 (λ i a b. none-ends Udp i))

-- no leases, and ports that have no last ends, make the state of no record
pub fresh-new : (t : Tables) (v : Leased) (base last low high quota : ℕ) → t ≡ no_tables → v ≡ fresh_ports low high quota → base ≡ 0 → last ≡ 0
    → IsNew (tabled_state t v base None last false)
fresh-new t v base last low high quota none free from zeroth = record {
  state =
      ap (λ (u : Tables). state_in u.all v base None last false) none
      ∙ ap (λ (x : Leased). state_in empty_table x base None last false) free
      ∙ ap (λ (n : ℕ). state_in empty_table (fresh_ports low high quota) n None last false) from
      ∙ ap (λ (n : ℕ). state_in empty_table (fresh_ports low high quota) 0 None n false) zeroth
      ∙ ap (λ (es : List End). record empty_state { ends = es }) (none-come 0 low high quota);
  leases = found_is none;
  past = past_is none;
  all = all_is none;
  reached = ap (λ (x : Leased). x.reached) free;
}

pub tabled-empty : AreTabled empty_table
tabled-empty = record {
  maps = record { leases = tt; separate = tt; few = omega arith };
  peers = record { leases = tt; fellows = tt; few = omega arith; few_peers = λ e. omega arith };
  few = omega arith;
}

pub new-kept : NewPortsAreFree → (s : TabledState) (low high quota : ℕ) → IsNew s → s.ports ≡ fresh_ports low high quota → IsKept s
new-kept free s low high quota new ports = record {
  tabled = subst AreTabled (sym new.leases) tabled-empty;
  table = ap (λ (x : State). x.table) new.state ∙ ap (λ (t : Table). live t s.state.last) (sym new.all);
  live = λ m later. ap (λ (x : State). live x.table m) new.state ∙ ap (λ (t : Table). live t m) (sym new.leases);
  past = past-none s.ports.reached s.past new.past;
  ports = subst (λ (x : State). IsPortsOf s.ports x) (sym new.state) (subst (λ (v : Leased). IsPortsOf v empty_state) (sym ports) (free low high quota));
}

-- what is seen to, nor the moment, changes anything of the ports of a state
pub settled-ports : (v : Leased) (n : ℕ) (s : State) → IsPortsOf v s → IsPortsOf (record v { settled = n }) s
settled-ports v n s are = record { passed = are.passed; same = are.same }

pub on-settled : (v : Leased) (m n : ℕ) (terms : Terms) → IsOnTerms v terms → IsOnTerms (record (at_moment m v) { settled = n }) terms
on-settled v m n terms on = record { low = on.low; high = on.high; quota = on.quota }

pub later-kept : PortsFollowMoments → (old new : TabledState) (m n : ℕ) → old.ports.reached ≤ m → new.state ≡ old.state → new.all ≡ old.all → AreTabled new.leases
    → ((k : ℕ) → m ≤ k → live new.leases k ≡ live old.leases k) → (ArePast m old.past → ArePast m new.past)
    → new.ports ≡ record (at_moment m old.ports) { settled = n } → IsKept old → IsKept new
later-kept follow old new m n later state all tabled lives past ports kept = record {
  tabled = tabled;
  table = ap (λ (x : State). x.table) state ∙ kept.table ∙ ap (λ (x : State). live old.all x.last) (sym state) ∙ ap (λ (t : Table). live t new.state.last) (sym all);
  live = λ k after.
      let now : m ≤ k = subst (λ (v : Leased). v.reached ≤ k) ports after in
      let then : old.ports.reached ≤ k = omega (arith, later, now) in
      ap (λ (x : State). live x.table k) state ∙ kept.live k then ∙ sym (lives k now);
  past = subst (λ (v : Leased). ArePast v.reached new.past) (sym ports) (past (past-later old.ports.reached m old.past later kept.past));
  ports = subst (λ (x : State). IsPortsOf new.ports x) (sym state) (subst (λ (v : Leased). IsPortsOf v old.state) (sym ports)
      (settled-ports (at_moment m old.ports) n old.state (follow old.ports old.state m later kept.ports)));
}

-- leases that are sound at one moment are sound later
pub sound-at : (t : Table) (last m : ℕ) → last ≤ m → Sound (live t last) → Sound (live t m)
sound-at t last m later sound = subst Sound (live-live t last m later) (Sound-live (live t last) m sound)

-- a state that is new, on terms that are allowed
pub new-indexed : RecordsReach → (s : TabledState) (reached : ℕ) (terms : Terms) → AreTerms terms → IsNew s → IsKept s → reached ≡ 0 → IsOnTerms s.ports terms → IsIndexed s reached terms
new-indexed made s reached terms allowed new kept is on = record {
  allowed = allowed;
  sound = subst IsReached (sym new.state) (made [] tt);
  kept = kept;
  now = new.reached ∙ sym is;
  on = on;
}

-- what is seen to changes nothing that it keeps
pub picked-indexed : (t : Tables) (v w : Leased) (base : ℕ) (address : Option Address) (last : ℕ) (started : Bool) (reached : ℕ) (terms : Terms) → w ≡ record v { settled = w.settled }
    → IsIndexed (tabled_state t v base address last started) reached terms → IsIndexed (tabled_state t w base address last started) reached terms
picked-indexed t v w base address last started reached terms is indexed =
    subst (λ (x : Leased). IsIndexed (tabled_state t x base address last started) reached terms) (sym is)
    (record {
      allowed = indexed.allowed;
      sound = indexed.sound;
      kept = record {
        tabled = indexed.kept.tabled;
        table = indexed.kept.table;
        live = indexed.kept.live;
        past = indexed.kept.past;
        ports = record { passed = indexed.kept.ports.passed; same = indexed.kept.ports.same };
      };
      now = indexed.now;
      on = record { low = indexed.on.low; high = indexed.on.high; quota = indexed.on.quota };
    })
