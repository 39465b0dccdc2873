-- Counts in slots and beside them, after a change at one host.
use Rattle.std.specs.Prelude.{◌⊎◌}
use Rattle.std.proofs.Common.{◌≡◌, ℕ, zero, suc, ◌+◌, ◌-◌, ◌*◌, ◌/◌, ◌%◌, ◌^◌, ◌<◌, ◌≤◌, ◌==◌, Bool, true, false, cond, List, [], length, length-set, replicate, slice_index_or, inl, inr, refl, sym, ap, subst, ◌∙◌, arith}
use Rattle.std.proofs.lemmas.Bool.{eqb-true, eqb-false, cases_eq, cases_lt}
use Rattle.std.proofs.lemmas.Nat.{leading_top}
use Rattle.std.proofs.Math.Pow.{pow_mono}
use Rattle.std.specs.Int.Count.{leading_of_zero}
use Rattle.std.proofs.lemmas.List.{length-replicate, get_or-set_same, get_or-set_other}
use Rattle.std.specs.Int.{w128, from_be_bytes}
use Rattle.std.specs.Str.{bytes_eq}
use Rattle.pcp_base.specs.declared.addresses.Address.{Address}
use Rattle.step_count.specs.Levels.{levels}
use Rattle.external_pool.specs.HostSlots.{slot_of}
use Rattle.external_pool.specs.HeldCounts.{held_counts, free_slot, free_slots, slot_at, in_slot, with_slot, in_others, held_by, is_in_slot, AreApart, AreKept}
use Rattle.external_pool.specs.declared.hosts.TheConstants.{MIXER, SLOTS}
use Rattle.external_pool.specs.declared.host_counts.HostSlot.{HostSlot}
use Rattle.external_pool.proofs.CountLemmas.{equal_bytes, more_at, fewer_at}

-- which slot a host has
abbrev mixed : ℕ → ℕ
mixed n = n * MIXER % 2 ^ 128 / 2 ^ 116

pub slot_of-from : (host : List ℕ) (n : ℕ) → n ≡ from_be_bytes w128 host → mixed n ≡ slot_of host
unfolding slot_of
slot_of-from host n is = ap mixed is

pub top_bits : (n : ℕ) → n % 2 ^ 128 / 2 ^ 116 < 4096
top_bits n = omega arith

pub slot_below : (host : List ℕ) → slot_of host < SLOTS
unfolding slot_of
slot_below host = top_bits _

-- nothing is counted
nothing : (b : Bool) → cond {A = ℕ} b 0 0 ≡ 0
nothing true = refl
nothing false = refl

free_at : (n i : ℕ) → slice_index_or (replicate n free_slot) i free_slot ≡ free_slot
free_at zero i = refl
free_at (suc n) zero = refl
free_at (suc n) (suc i) = free_at n i

none_in_free : (n : ℕ) (host : List ℕ) → in_slot (free_slots n) host ≡ 0
unfolding free_slots
none_in_free n host = ap (λ (s : HostSlot). cond (bytes_eq s.host host) s.count 0) (free_at n (slot_of host)) ∙ nothing (bytes_eq free_slot.host host)

length-free : (n : ℕ) → length (free_slots n) ≡ n
unfolding free_slots
length-free n = length-replicate n free_slot

module _ (slots : List HostSlot) (others : List (List ℕ × ℕ)) (is_free : slots ≡ free_slots SLOTS) (is_empty : others ≡ []) where
  pub free_apart : AreApart slots others
  free_apart = record {
    all = ap length is_free ∙ length-free SLOTS;
    apart = λ host. inl (ap (λ (xs : List HostSlot). in_slot xs host) is_free ∙ none_in_free SLOTS host);
  }

  pub free_held : (who : Address) → held_by (held_counts slots others) who ≡ 0
  free_held who =
      ap (λ (xs : List HostSlot). in_slot xs who.0 + in_others others who.0) is_free
      ∙ ap (λ (es : List (List ℕ × ℕ)). in_slot (free_slots SLOTS) who.0 + in_others es who.0) is_empty
      ∙ ap (λ n. n + 0) (none_in_free SLOTS who.0)

-- a host that is counted in its slot isn't counted beside it
here : (count beside : ℕ) (same free : Bool) → (count == 0) ≡ free → cond free (beside == 0) same ≡ true → (cond same count 0 ≡ 0) ⊎ (beside ≡ 0) → beside ≡ 0
here count beside true true is h apart = eqb-true beside 0 h
here count beside false true is h apart = eqb-true beside 0 h
here count beside true false is h (inl none) = absurd (eqb-false count 0 is none)
here count beside true false is h (inr none) = none
here count beside false false is h apart = absurd (let no : false ≡ true = h in cc)

-- how many levels a map has whose length fits
pub few_levels : (n : ℕ) → n < 2 ^ 63 → levels n ≤ 63
few_levels zero small = omega (arith, leading_of_zero 64)
few_levels (suc n) small =
    let top = leading_top 64 (suc n) (omega arith) (omega (arith, small)) in
    let less : top.0 < 63 = elim (cases_lt top.0 63) [
      | inl less ↦ less
      | inr greater ↦ let steep : 2 ^ 63 ≤ 2 ^ top.0 = pow_mono greater in omega (arith, steep, top.2, small)
    ] in
    omega (arith, less, top.1)

-- a slot that counts no other host than this
alone : (holder host other : List ℕ) (count : ℕ) (beside free : Bool) → (count == 0) ≡ free → cond free beside (bytes_eq holder host) ≡ true → bytes_eq host other ≡ false → cond (bytes_eq holder other) count 0 ≡ 0
alone holder host other count beside true is h differ = ap (λ (n : ℕ). cond (bytes_eq holder other) n 0) (eqb-true count 0 is) ∙ nothing (bytes_eq holder other)
alone holder host other count beside false is h differ =
    ap (λ (o : List ℕ). cond (bytes_eq o other) count 0) (equal_bytes holder host h) ∙ ap (λ (b : Bool). cond b count 0) differ

none_of_another : (b : Bool) (c was : ℕ) → (b ≡ false → was ≡ 0) → cond b c 0 ≡ cond b c was
none_of_another true c was h = refl
none_of_another false c was h = sym (h refl)

only_there : (b : Bool) (c was : ℕ) → (b ≡ true → ⊥) → was ≡ cond b c was
only_there true c was h = absurd (h refl)
only_there false c was h = refl

part_of : (b : Bool) (n f : ℕ) → (b ≡ true → n ≤ f) → cond b n 0 ≤ f
part_of true n f h = h refl
part_of false n f h = omega arith

abbrev count_of_slot : List ℕ → HostSlot → ℕ
count_of_slot host s = cond (bytes_eq s.host host) s.count 0

module _ (slots : List HostSlot) (others : List (List ℕ × ℕ)) (host : List ℕ) where
  -- a host that is counted in its slot
  module _ (is : AreApart slots others) (stands : is_in_slot slots others host ≡ true) where
    pub none_beside : in_others others host ≡ 0
    none_beside = here (slot_at slots host).count (in_others others host) (bytes_eq (slot_at slots host).host host) ((slot_at slots host).count == 0) refl stands (is.apart host)

    module _ (c : ℕ) where
      there : slot_at (with_slot slots host c) host ≡ record { host = host; count = c }
      there = get_or-set_same slots (slot_of host) (record { host = host; count = c }) free_slot (omega (arith, is.all, slot_below host))

      written : (other : List ℕ) → in_slot (with_slot slots host c) other ≡ cond (bytes_eq host other) c (in_slot slots other)
      written other = elim (cases_eq (slot_of other) (slot_of host)) [
        | inl same ↦
            ap (λ (i : ℕ). count_of_slot other (slice_index_or (with_slot slots host c) i free_slot)) same ∙ ap (count_of_slot other) there
            ∙ none_of_another (bytes_eq host other) c (in_slot slots other) (λ differ.
            ap (λ (i : ℕ). count_of_slot other (slice_index_or slots i free_slot)) same
            ∙ alone (slot_at slots host).host host other (slot_at slots host).count (in_others others host == 0) ((slot_at slots host).count == 0) refl stands differ)
        | inr differ ↦
            ap (count_of_slot other) (get_or-set_other slots (slot_of host) (slot_of other) (record { host = host; count = c }) free_slot differ)
            ∙ only_there (bytes_eq host other) c (in_slot slots other) (λ e. differ (ap slot_of (sym (equal_bytes host other e))))
      ]

      pub written_apart : AreApart (with_slot slots host c) others
      written_apart = record {
        all = length-set slots (slot_of host) (record { host = host; count = c }) ∙ is.all;
        apart = λ other. elim (bytes_eq host other) as (λ b. bytes_eq host other ≡ b → (in_slot (with_slot slots host c) other ≡ 0) ⊎ (in_others others other ≡ 0)) [
          | true ↦ λ e. inr (ap (in_others others) (sym (equal_bytes host other e)) ∙ none_beside)
          | false ↦ λ e. elim (is.apart other) [
            | inl none ↦ inl (written other ∙ ap (λ (b : Bool). cond b c (in_slot slots other)) e ∙ none)
            | inr none ↦ inr none
          ]
        ] refl;
      }

      -- nobody holds more than the most that held before, or than this
      pub written_kept : (most : ℕ) → ((who : Address) → held_by (held_counts slots others) who ≤ most) → c ≤ most → AreKept (with_slot slots host c) others most
      written_kept most bound fits = record {
        places = written_apart;
        bound = λ who. elim (bytes_eq host who.0) as (λ b. bytes_eq host who.0 ≡ b → held_by (held_counts (with_slot slots host c) others) who ≤ most) [
          | true ↦ λ e.
              let now : in_slot (with_slot slots host c) who.0 ≡ c = written who.0 ∙ ap (λ (b : Bool). cond b c (in_slot slots who.0)) e in
              let beside : in_others others who.0 ≡ 0 = ap (in_others others) (sym (equal_bytes host who.0 e)) ∙ none_beside in
              omega (arith, now, beside, fits)
          | false ↦ λ e.
              let same : in_slot (with_slot slots host c) who.0 ≡ in_slot slots who.0 = written who.0 ∙ ap (λ (b : Bool). cond b c (in_slot slots who.0)) e in
              omega (arith, same, bound who)
        ] refl;
      }

      pub raised_here : (n : ℕ) → c ≡ in_slot slots host + n → (other : List ℕ)
          → in_slot (with_slot slots host c) other + in_others others other ≡ in_slot slots other + in_others others other + cond (bytes_eq host other) n 0
      raised_here n c_is other =
          let more : in_slot (with_slot slots host c) other ≡ in_slot slots other + cond (bytes_eq host other) n 0 = written other ∙ more_at (in_slot slots) host other n c c_is in
          omega (arith, more)

      pub lowered_here : (n : ℕ) → n ≤ in_slot slots host → c ≡ in_slot slots host - n → (other : List ℕ)
          → in_slot (with_slot slots host c) other + in_others others other ≡ in_slot slots other + in_others others other - cond (bytes_eq host other) n 0
      lowered_here n enough c_is other =
          let fewer : in_slot (with_slot slots host c) other ≡ in_slot slots other - cond (bytes_eq host other) n 0 = written other ∙ fewer_at (in_slot slots) host other n c c_is in
          let few : cond (bytes_eq host other) n 0 ≤ in_slot slots other = part_of (bytes_eq host other) n (in_slot slots other) (λ e. subst (λ (o : List ℕ). n ≤ in_slot slots o) (equal_bytes host other e) enough) in
          omega (arith, few, fewer)
