-- Slots by ports, and the map that they stand for.
use Rattle.std.proofs.Common.{◌≡◌, ℕ, ◌+◌, ◌-◌, ◌%◌, ◌<◌, ◌≤◌, ◌==◌, Bool, true, false, cond, nat_lt, List, [], length, slice_set, Option, Some, None, IsSome, refl, sym, ap, ◌∙◌, subst, arith, inl, inr, get_or-set_other, get_or-set_same}
use Rattle.std.specs.Prelude.{slice_index}
use Rattle.std.specs.List.Sorted.{IsStrictlySortedBy}
use Rattle.std.specs.Map.{remove_entry}
use Rattle.std.specs.Ordering.{nat_cmp, is_gt, is_lt, is_eq, ordering_then}
use Rattle.std.specs.declared.cmp.Ordering.TheVariants.{Less, Equal, Greater}
use Rattle.std.specs.Cmp.{nat_cmp_total}
use Rattle.std.specs.BTreeMap.{BTreeMap, get, is_at, insert_entry}
use Rattle.std.proofs.lemmas.Bool.{cases_lt, cases_eq, lt-ltb, ltb-true, ltb-false}
use Rattle.std.proofs.lemmas.Cmp.{tied_itself}
use Rattle.std.proofs.lemmas.List.{length-set}
use Rattle.std.proofs.lemmas.Map.Keys.{le_from_not_gt}
use Rattle.pcp_base.specs.declared.leases.Protocol.{Protocol}
use Rattle.pcp_base.specs.declared.leases.Protocol.TheVariants.{Tcp, Udp}
use Rattle.ordered_index.specs.Marks.{is_marked, IsLastPass, IsLastUpTo, Marks}
use Rattle.ordered_index.specs.MapSteps.{HasEntry, Inserts, IsBlankMap, Moves, Removes}
use Rattle.ordered_index.specs.Orders.{port_at, port_cmp, port_total}
use Rattle.ordered_index.specs.PortSlots.{ArePortSlots, IsLastSlot, noted, port_of, slot_if, slot_of}
use Rattle.ordered_index.specs.declared.marks.TheConstants.{MOST_MARKS}
use Rattle.ordered_index.specs.declared.slots.TheConstants.{MOST_SLOTS}
use Rattle.ordered_index.proofs.Entries.{false_by, greater, is_at-nat, number_other, number_same}
use Rattle.ordered_index.proofs.EntryLaws.{equal, inserted-same, key-self, none_by}
use Rattle.ordered_index.proofs.MapChanges.{entered, taken_out}
use Rattle.ordered_index.proofs.OrderLaws.{port_exact}

-- ---- the order of places
less : (a b : ℕ) → a < b → nat_cmp a b ≡ Less
less a b below = ap (λ t. cond t Less (cond (a == b) Equal Greater)) (lt-ltb a b below)

same_cmp : (a b c d : ℕ) → (a < b → c < d) → (a ≡ b → c ≡ d) → (b < a → d < c) → nat_cmp c d ≡ nat_cmp a b
same_cmp a b c d below same above = elim (cases_lt a b) [
  | inl l ↦ less c d (below l) ∙ sym (less a b l)
  | inr le ↦ elim (cases_eq a b) [
    | inl e ↦ ap (nat_cmp c) (sym (same e)) ∙ (tied_itself nat_cmp_total c ∙ (sym (tied_itself nat_cmp_total a) ∙ ap (nat_cmp a) e))
    | inr apart ↦ greater c d (above (omega (arith, le, apart))) ∙ sym (greater a b (omega (arith, le, apart)))
  ]
]

abbrev side : Bool → ℕ
side tcp = cond {A = ℕ} tcp 6 17

order_step : (a b : ℕ) → a < 131072 → b < 131072 → (x y : Bool) → nat_lt a 65536 ≡ x → nat_lt b 65536 ≡ y → ordering_then (nat_cmp (side x) (side y)) (nat_cmp (a % 65536) (b % 65536)) ≡ nat_cmp a b
order_step a b fits_a fits_b true true x y =
    let low_a : a < 65536 = ltb-true a 65536 x in
    let low_b : b < 65536 = ltb-true b 65536 y in
    same_cmp a b (a % 65536) (b % 65536) (λ h. omega (arith, low_a, low_b, h)) (λ h. omega (arith, low_a, low_b, h)) (λ h. omega (arith, low_a, low_b, h))
order_step a b fits_a fits_b true false x y =
    let low_a : a < 65536 = ltb-true a 65536 x in
    let high_b : 65536 ≤ b = ltb-false b 65536 y in
    sym (less a b (omega (arith, low_a, high_b)))
order_step a b fits_a fits_b false true x y =
    let high_a : 65536 ≤ a = ltb-false a 65536 x in
    let low_b : b < 65536 = ltb-true b 65536 y in
    sym (greater a b (omega (arith, high_a, low_b)))
order_step a b fits_a fits_b false false x y =
    let high_a : 65536 ≤ a = ltb-false a 65536 x in
    let high_b : 65536 ≤ b = ltb-false b 65536 y in
    same_cmp a b (a % 65536) (b % 65536) (λ h. omega (arith, fits_a, fits_b, high_a, high_b, h)) (λ h. omega (arith, fits_a, fits_b, high_a, high_b, h)) (λ h. omega (arith, fits_a, fits_b, high_a, high_b, h))

-- ports stand in the order of their places
pub ports_as_places : (a b : ℕ) → a < MOST_MARKS → b < MOST_MARKS → port_cmp (port_of a) (port_of b) ≡ nat_cmp a b
ports_as_places a b fits_a fits_b = order_step a b fits_a fits_b (nat_lt a 65536) (nat_lt b 65536) refl refl

-- the places of ports of TCP and of UDP
pub tcp_place : (port : ℕ) → port < 65536 → (6, port) ≡ port_of port
tcp_place port fits =
    let low : nat_lt port 65536 ≡ true = lt-ltb port 65536 fits in
    let same : port % 65536 ≡ port = omega (arith, fits) in
    ap (λ (p : ℕ). (6, p)) (sym same) ∙ ap (λ (b : Bool). (side b, port % 65536)) (sym low)

pub udp_place : (port : ℕ) → port < 65536 → (17, port) ≡ port_of (65536 + port)
udp_place port fits =
    let high : nat_lt (65536 + port) 65536 ≡ false = false_by (nat_lt (65536 + port) 65536) (λ e. let is : 65536 + port < 65536 = ltb-true (65536 + port) 65536 e in omega (arith, is)) in
    let same : (65536 + port) % 65536 ≡ port = omega (arith, fits) in
    ap (λ (p : ℕ). (17, p)) (sym same) ∙ ap (λ (b : Bool). (side b, (65536 + port) % 65536)) (sym high)

-- two places with one port are one
pub one_place : (a b : ℕ) → a < MOST_MARKS → b < MOST_MARKS → port_of a ≡ port_of b → a ≡ b
one_place a b fits_a fits_b same =
    number_same a b (ap is_eq (sym (ports_as_places a b fits_a fits_b)) ∙ (ap (λ p. is_at (port_cmp (port_of a)) p) (sym same) ∙ key-self port_total (port_of a)))

at_place : (a b : ℕ) → a < MOST_MARKS → b < MOST_MARKS → (a ≡ b → ⊥) → is_at (port_cmp (port_of a)) (port_of b) ≡ false
at_place a b fits_a fits_b apart = ap is_eq (ports_as_places a b fits_a fits_b) ∙ number_other a b apart

-- whether two ports are one, by their places
pub same_place : (a b : ℕ) (p q : ℕ × ℕ) → a < MOST_MARKS → b < MOST_MARKS → p ≡ port_of a → q ≡ port_of b → (a == b) ≡ is_at (port_cmp p) q
same_place a b p q fits_a fits_b p_is q_is =
    sym (is_at-nat a b)
    ∙ (ap is_eq (sym (ports_as_places a b fits_a fits_b))
    ∙ (ap (λ x. is_at (port_cmp x) (port_of b)) (sym p_is)
    ∙ ap (is_at (port_cmp p)) (sym q_is)))

-- the port with a place, by the protocol
pub tcp_at : (protocol : Protocol) (port place : ℕ) → protocol ≡ Tcp → place ≡ port → port < 65536 → port_at protocol port ≡ port_of place
tcp_at protocol port place tcp is fits = ap (λ p. port_at p port) tcp ∙ (tcp_place port fits ∙ ap port_of (sym is))

pub udp_at : (protocol : Protocol) (port place : ℕ) → protocol ≡ Udp → place ≡ 65536 + port → port < 65536 → port_at protocol port ≡ port_of place
udp_at protocol port place udp is fits = ap (λ p. port_at p port) udp ∙ (udp_place port fits ∙ ap port_of (sym is))

-- ---- an entry that moves
module _ (map : BTreeMap (ℕ × ℕ) ℕ) (from to : ℕ × ℕ) (n : ℕ) where
  pub stays_there : HasEntry port_cmp map from n → is_at (port_cmp from) to ≡ true → Moves port_cmp map map from to n
  stays_there has same =
      let one : from ≡ to = port_exact from to (equal (port_cmp from to) same) in
      let found : get port_cmp map to ≡ Some n = ap (get port_cmp map) (sym one) ∙ has.found in
      record {
        entries = sym (ap (λ b. cond b (insert_entry port_cmp map.entries to n) (remove_entry (is_at (port_cmp from)) (insert_entry port_cmp map.entries to n))) same
            ∙ inserted-same port_total to n map.entries has.ordered found);
        ordered = has.ordered;
      }

  pub moves_there : (mid new : BTreeMap (ℕ × ℕ) ℕ) → Inserts port_cmp map mid to n → Removes port_cmp mid new from → is_at (port_cmp from) to ≡ false → Moves port_cmp map new from to n
  moves_there mid new came went apart = record {
    entries = went.entries
        ∙ (ap (remove_entry (is_at (port_cmp from))) came.entries
        ∙ sym (ap (λ b. cond b (insert_entry port_cmp map.entries to n) (remove_entry (is_at (port_cmp from)) (insert_entry port_cmp map.entries to n))) apart));
    ordered = went.ordered;
  }

-- ---- what stands at a port
pub some_slot : (o : Option ℕ) (slot : ℕ) → Some slot ≡ slot_of o → (n : ℕ) × (o ≡ Some n)
some_slot None slot h = absurd (let no : Some slot ≡ None = h in cc)
some_slot (Some n) slot h = (n, refl)

some_number : (o : Option ℕ) → IsSome o → (n : ℕ) × (o ≡ Some n)
some_number None some = absurd (let no : false ≡ true = some in cc)
some_number (Some n) some = (n, refl)

not_above : (a b : ℕ) → a ≤ b → is_gt (nat_cmp a b) ≡ false
not_above a b le = elim (cases_lt a b) [
  | inl l ↦ ap is_gt (less a b l)
  | inr ge ↦ (let same : a ≡ b = omega (arith, le, ge) in ap (λ c. is_gt (nat_cmp a c)) (sym same) ∙ ap is_gt (tied_itself nat_cmp_total a))
]

not_below : (a b : ℕ) → b ≤ a → is_lt (nat_cmp a b) ≡ false
not_below a b le = elim (cases_lt b a) [
  | inl l ↦ ap is_lt (greater a b l)
  | inr ge ↦ (let same : a ≡ b = omega (arith, le, ge) in ap (λ c. is_lt (nat_cmp a c)) (sym same) ∙ ap is_lt (tied_itself nat_cmp_total a))
]

unmarked : (b : Bool) (slot : ℕ) (o : Option ℕ) (n : ℕ) → slot_if b slot ≡ slot_of o → b ≡ false → o ≡ Some n → ⊥
unmarked b slot o n tells isnt is =
    let both : None ≡ Some (n % MOST_SLOTS) = sym (ap (λ c. slot_if c slot) isnt) ∙ (tells ∙ ap slot_of is) in cc

blank_ordered : IsStrictlySortedBy port_cmp []
unfolding IsStrictlySortedBy
blank_ordered = tt

pub blank_noted : (note : List (BTreeMap (ℕ × ℕ) ℕ)) → note ≡ [] → IsBlankMap port_cmp (noted note)
blank_noted note is = subst (λ (m : List (BTreeMap (ℕ × ℕ) ℕ)). IsBlankMap port_cmp (noted m)) (sym is) (record { entries = refl; ordered = blank_ordered })

-- no port
pub blank_ports : (slots marks : List ℕ) (note : List (BTreeMap (ℕ × ℕ) ℕ)) → length slots ≡ MOST_MARKS → ((n : ℕ) → is_marked marks n ≡ false) → note ≡ [] → ArePortSlots slots marks (noted note)
blank_ports slots marks note all none is =
    subst (λ (m : List (BTreeMap (ℕ × ℕ) ℕ)). ArePortSlots slots marks (noted m)) (sym is) (record {
      ordered = blank_ordered;
      all = all;
      tells = λ place small. ap (λ b. slot_if b (slice_index slots place)) (none place);
      placed = λ port some. absurd (let no : false ≡ true = some in cc);
    })

module _ (slots marks : List ℕ) (map : BTreeMap (ℕ × ℕ) ℕ) (h : ArePortSlots slots marks map) where
  -- a port that was changed, and its place
  module _ (place : ℕ) (within : place < MOST_MARKS) (port : ℕ × ℕ) (port_is : port ≡ port_of place) where
    -- the slot that is kept for it
    pub told : slot_if (is_marked marks place) (slice_index slots place) ≡ slot_of (get port_cmp map port)
    told = h.tells place within ∙ ap (λ p. slot_of (get port_cmp map p)) (sym port_is)

    at_self : is_at (port_cmp port) (port_of place) ≡ true
    at_self = ap (is_at (port_cmp port)) (sym port_is) ∙ key-self port_total port

    at_other : (other : ℕ) → other < MOST_MARKS → (other ≡ place → ⊥) → is_at (port_cmp port) (port_of other) ≡ false
    at_other other fits apart = ap (λ p. is_at (port_cmp p) (port_of other)) port_is ∙ at_place place other within fits (λ same. apart (sym same))

    module _ (marks2 : List ℕ) where
      -- a number came
      module _ (n : ℕ) (slots2 : List ℕ) (slots_are : slots2 ≡ slice_set slots place (n % MOST_SLOTS)) (change : Marks marks place true marks2) (map2 : BTreeMap (ℕ × ℕ) ℕ) (entries : map2.entries ≡ insert_entry port_cmp map.entries port n) where
        pub came : Inserts port_cmp map map2 port n
        came = entered port_total port port_exact map map2 n h.ordered entries

        slot_here : slice_index slots2 place ≡ n % MOST_SLOTS
        slot_here = ap (λ (s : List ℕ). slice_index s place) slots_are ∙ get_or-set_same slots place (n % MOST_SLOTS) 0 (let all = h.all in omega (arith, all, within))

        slot_other : (other : ℕ) → (other ≡ place → ⊥) → slice_index slots2 other ≡ slice_index slots other
        slot_other other apart = ap (λ (s : List ℕ). slice_index s other) slots_are ∙ get_or-set_other slots place other (n % MOST_SLOTS) 0 apart

        came_tells : (other : ℕ) → other < MOST_MARKS → slot_if (is_marked marks2 other) (slice_index slots2 other) ≡ slot_of (get port_cmp map2 (port_of other))
        came_tells other fits = elim (cases_eq other place) [
          | inl same ↦ subst (λ (q : ℕ). slot_if (is_marked marks2 q) (slice_index slots2 q) ≡ slot_of (get port_cmp map2 (port_of q))) (sym same) here
          | inr apart ↦
              ap (λ b. slot_if b (slice_index slots2 other)) (change.others other apart)
              ∙ (ap (slot_if (is_marked marks other)) (slot_other other apart)
              ∙ (h.tells other fits
              ∙ ap slot_of (sym (came.changed (port_of other) ∙ ap (λ b. cond b (Some n) (get port_cmp map (port_of other))) (at_other other fits apart)))))
        ]
          where
            here : slot_if (is_marked marks2 place) (slice_index slots2 place) ≡ slot_of (get port_cmp map2 (port_of place))
            here =
                ap (λ b. slot_if b (slice_index slots2 place)) change.here
                ∙ (ap Some slot_here
                ∙ ap slot_of (sym (came.changed (port_of place) ∙ ap (λ b. cond b (Some n) (get port_cmp map (port_of place))) at_self)))

        came_placed : (q : ℕ × ℕ) (b : Bool) → is_at (port_cmp port) q ≡ b → IsSome (cond b (Some n) (get port_cmp map q)) → (other : ℕ) × (other < MOST_MARKS) × (q ≡ port_of other)
        came_placed q true e some = (place, within, sym (port_exact port q (equal (port_cmp port q) e)) ∙ port_is)
        came_placed q false e some = h.placed q some

        pub came_slots : ArePortSlots slots2 marks2 map2
        came_slots = record {
          ordered = came.ordered;
          all = ap length slots_are ∙ (length-set slots place (n % MOST_SLOTS) ∙ h.all);
          tells = came_tells;
          placed = λ q some. came_placed q (is_at (port_cmp port) q) refl (subst IsSome (came.changed q) some);
        }

      -- a number went
      module _ (change : Marks marks place false marks2) (map2 : BTreeMap (ℕ × ℕ) ℕ) (entries : map2.entries ≡ remove_entry (is_at (port_cmp port)) map.entries) where
        pub went : Removes port_cmp map map2 port
        went = taken_out port_total port port_exact map map2 h.ordered entries

        went_tells : (other : ℕ) → other < MOST_MARKS → slot_if (is_marked marks2 other) (slice_index slots other) ≡ slot_of (get port_cmp map2 (port_of other))
        went_tells other fits = elim (cases_eq other place) [
          | inl same ↦ subst (λ (q : ℕ). slot_if (is_marked marks2 q) (slice_index slots q) ≡ slot_of (get port_cmp map2 (port_of q))) (sym same) here
          | inr apart ↦
              ap (λ b. slot_if b (slice_index slots other)) (change.others other apart)
              ∙ (h.tells other fits
              ∙ ap slot_of (sym (went.changed (port_of other) ∙ ap (λ b. cond b None (get port_cmp map (port_of other))) (at_other other fits apart))))
        ]
          where
            here : slot_if (is_marked marks2 place) (slice_index slots place) ≡ slot_of (get port_cmp map2 (port_of place))
            here =
                ap (λ b. slot_if b (slice_index slots place)) change.here
                ∙ ap slot_of (sym (went.changed (port_of place) ∙ ap (λ b. cond b None (get port_cmp map (port_of place))) at_self))

        went_placed : (q : ℕ × ℕ) (b : Bool) → IsSome (cond b None (get port_cmp map q)) → (other : ℕ) × (other < MOST_MARKS) × (q ≡ port_of other)
        went_placed q true some = absurd (let no : false ≡ true = some in cc)
        went_placed q false some = h.placed q some

        pub went_slots : ArePortSlots slots marks2 map2
        went_slots = record {
          ordered = went.ordered;
          all = h.all;
          tells = went_tells;
          placed = λ q some. went_placed q (is_at (port_cmp port) q) (subst IsSome (went.changed q) some);
        }

    -- ---- the last port up to it
    up_to : (other : ℕ) → other < MOST_MARKS → is_gt (port_cmp (port_of other) port) ≡ false → other ≤ place
    up_to other fits below =
        le_from_not_gt other place (sym (ap is_gt (ports_as_places other place fits within)) ∙ (ap (λ p. is_gt (port_cmp (port_of other) p)) (sym port_is) ∙ below))

    pub no_last : IsLastUpTo (is_marked marks) place None → IsLastSlot map port None
    no_last none = record {
      number = None;
      last = λ q below. none_by (get port_cmp map q) (λ n is.
          let at = h.placed q (subst IsSome (sym is) refl) in
          let first : is_gt (port_cmp (port_of at.0) port) ≡ false = ap (λ p. is_gt (port_cmp p port)) (sym at.2) ∙ below in
          unmarked (is_marked marks at.0) (slice_index slots at.0) (get port_cmp map (port_of at.0)) n (h.tells at.0 at.1) (none at.0 (up_to at.0 at.1 first)) (ap (get port_cmp map) (sym at.2) ∙ is));
      named = refl;
    }

    module _ (last : ℕ) (is : IsLastPass (is_marked marks) place last) where
      last_fits : last < MOST_MARKS
      last_fits = let up = is.up_to in omega (arith, up, within)

      last_told : Some (slice_index slots last) ≡ slot_of (get port_cmp map (port_of last))
      last_told = ap (λ b. slot_if b (slice_index slots last)) (sym is.met) ∙ h.tells last last_fits

      number : (n : ℕ) × (get port_cmp map (port_of last) ≡ Some n)
      number = some_slot (get port_cmp map (port_of last)) (slice_index slots last) last_told

      below_last : (q : ℕ × ℕ) → is_gt (port_cmp q port) ≡ false → IsSome (get port_cmp map q) → is_lt (port_cmp (port_of last) q) ≡ false
      below_last q below some =
          let at = h.placed q some in
          let first : is_gt (port_cmp (port_of at.0) port) ≡ false = ap (λ p. is_gt (port_cmp p port)) (sym at.2) ∙ below in
          let upper = up_to at.0 at.1 first in
          let found = some_number (get port_cmp map q) some in
          let fine : at.0 ≤ last = elim (cases_lt last at.0) [
            | inl past ↦ absurd (unmarked (is_marked marks at.0) (slice_index slots at.0) (get port_cmp map (port_of at.0)) found.0 (h.tells at.0 at.1) (is.none at.0 past upper) (ap (get port_cmp map) (sym at.2) ∙ found.1))
            | inr fits ↦ fits
          ] in
          ap (λ p. is_lt (port_cmp (port_of last) p)) at.2 ∙ (ap is_lt (ports_as_places last at.0 last_fits at.1) ∙ not_below last at.0 fine)

      pub some_last : IsLastSlot map port (Some (slice_index slots last))
      some_last = record {
        number = Some number.0;
        last = (
          port_of last,
          record {
            found = number.1;
            up_to = ap (λ p. is_gt (port_cmp (port_of last) p)) port_is ∙ (ap is_gt (ports_as_places last place last_fits within) ∙ not_above last place is.up_to);
            greatest = below_last;
          },
        );
        named = last_told ∙ ap slot_of number.1;
      }
