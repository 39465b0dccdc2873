-- What is told of a word's flags by its runs, one after the other.
use Rattle.std.proofs.Common.{◌≡◌, ℕ, ◌+◌, ◌-◌, ◌*◌, ◌%◌, ◌<◌, ◌≤◌, max, Bool, true, false, cond, List, length, Option, Some, None, is_some, IfSome, slice_index_or, eqb, refl, sym, ◌∙◌, ap, subst, arith, inl, inr}
use Rattle.std.proofs.lemmas.Bool.{cases_lt, cases_eq}
use Rattle.std.proofs.lemmas.Bool.Decides.{nat_tests}
use Rattle.std.specs.Int.{bit_at}
use Rattle.port_runs.specs.Bits.{IsBitRun, IsBitSuffix, IsNextRun}
use Rattle.port_runs.specs.Flags.{flags_of, IsSetBetween, FitsBlock}
use Rattle.port_runs.specs.Nodes.{IsPrefix, IsSuffix, RunIn, IsLongest, IsSummary, IsFirstOver}
use Rattle.port_runs.specs.Ports.{HasParity, IsLeast}
use Rattle.port_runs.proofs.Blocks.{set_and_not}
use Rattle.port_runs.proofs.WordFlags.{flag_set, flag_clear}
use Rattle.port_runs.proofs.WordBits.{one_and_zero}

-- the bit behind a run from the first on
end_of : (word run : ℕ) → run < 64 → IsBitRun word 0 run → bit_at word run ≡ 0
end_of word run less r =
    let same : 0 + run ≡ run = omega arith in
    ap (bit_at word) (sym same) ∙ r.ends (omega arith)

-- n is the longest run of the block that begins before a place of it, with this remainder by 2
pub record IsLongestBefore (flags : List Bool) (a place remainder n : ℕ) : Type 0 where
  pub most : (s k : ℕ) → s % 2 ≡ remainder → a ≤ s → s < a + place → s + k ≤ a + 64 → IsSetBetween flags s (s + k) → k ≤ n
  pub met : 1 ≤ n → RunIn flags a (a + 64) remainder n

pub longest_begins : (flags : List Bool) (a remainder : ℕ) → IsLongestBefore flags a 0 remainder 0
longest_begins flags a remainder = record { most = λ s k has from before to set. absurd (omega arith); met = λ some. absurd (omega arith) }

pub longest_of_word : (flags : List Bool) (a place remainder n : ℕ) → 64 ≤ place → IsLongestBefore flags a place remainder n → IsLongest flags a (a + 64) remainder n
longest_of_word flags a place remainder n done h = record {
  most = λ s k has from to set. elim (cases_lt s (a + place)) [
    | inl before ↦ h.most s k has from before to set
    | inr past ↦ omega arith
  ];
  met = h.met;
}

-- that no run of n flags of the block begins before a place of it
abbrev pub NoneBefore : List Bool → ℕ → ℕ → Option ℕ → ℕ → Type 0
NoneBefore flags a n parity place = (t : ℕ) → FitsBlock flags a (a + 64) n parity t → a + place ≤ t

module _ (words : List ℕ) (index : ℕ) (within : index < length words) where
  clear_flag : (bit i : ℕ) → bit < 64 → i ≡ 64 * index + bit → IsBitRun (slice_index_or words index 0) 0 bit → slice_index_or (flags_of words) i false ≡ false
  clear_flag bit i small place r = ap (λ (k : ℕ). slice_index_or (flags_of words) k false) place ∙ flag_clear words index bit within small (end_of (slice_index_or words index 0) bit small r)

  set_flag : (i : ℕ) → 64 * index ≤ i → i < 64 * index + 64 → ((bit : ℕ) → bit ≡ i - 64 * index → bit < 64 → 64 * index + bit ≡ i → slice_index_or (flags_of words) (64 * index + bit) false ≡ true) → slice_index_or (flags_of words) i false ≡ true
  set_flag i low high h =
      let bit : ℕ = i - 64 * index in
      let place : 64 * index + bit ≡ i = omega arith in
      subst (λ (k : ℕ). slice_index_or (flags_of words) k false ≡ true) place (h bit refl (omega arith) place)

  pub prefix_of_run : (run : ℕ) → IsBitRun (slice_index_or words index 0) 0 run → IsPrefix (flags_of words) (64 * index) (64 * index + 64) run
  prefix_of_run run r = record {
    within = omega (arith, r.within);
    set = λ i low high. (let fits = r.within in set_flag i low (omega arith) (λ bit is small place. flag_set words index bit within small (r.set bit (omega arith) (omega arith))));
    ends = λ i here small. clear_flag run i (omega arith) here r;
  }

  pub suffix_of_run : (run : ℕ) → IsBitSuffix (slice_index_or words index 0) run → IsSuffix (flags_of words) (64 * index) (64 * index + 64) run
  suffix_of_run run r = record {
    within = omega (arith, r.within);
    set = λ i low high. (let fits = r.within in set_flag i (omega arith) high (λ bit is small place. flag_set words index bit within small (r.set bit (omega arith) (omega arith))));
    ends = λ i here large.
        let bit : ℕ = i - 64 * index in
        let place : i ≡ 64 * index + bit = omega arith in
        ap (λ (k : ℕ). slice_index_or (flags_of words) k false) place ∙ flag_clear words index bit within (omega arith) (r.ends bit (omega arith));
  }

  module _ (place start stop : ℕ) (next : IsNextRun (slice_index_or words index 0) place start stop) where
    gap_clear : (i : ℕ) → 64 * index + place ≤ i → i < 64 * index + start → slice_index_or (flags_of words) i false ≡ false
    gap_clear i low high =
        let upto = next.within in let ordered = next.ordered in
        let bit : ℕ = i - 64 * index in
        let at : i ≡ 64 * index + bit = omega arith in
        ap (λ (k : ℕ). slice_index_or (flags_of words) k false) at ∙ flag_clear words index bit within (omega arith) (next.clear bit (omega arith) (omega arith))

    pub run_set : IsSetBetween (flags_of words) (64 * index + start) (64 * index + stop)
    run_set i low high =
        let upto = next.within in
        let bit : ℕ = i - 64 * index in
        let at : i ≡ 64 * index + bit = omega arith in
        ap (λ (k : ℕ). slice_index_or (flags_of words) k false) at ∙ flag_set words index bit within (omega arith) (next.set bit (omega arith) (omega arith))

    stop_clear : stop < 64 → slice_index_or (flags_of words) (64 * index + stop) false ≡ false
    stop_clear less = flag_clear words index stop within less (next.ends less)

    -- a run that begins from the place on begins in the next run or behind it, and ends with it
    begins_in : (s k : ℕ) → 1 ≤ k → 64 * index + place ≤ s → IsSetBetween (flags_of words) s (s + k) → 64 * index + start ≤ s
    begins_in s k some low set = elim (cases_lt s (64 * index + start)) [
      | inl before ↦ absurd (set_and_not (flags_of words) s (set s (omega arith) (omega arith)) (gap_clear s low before))
      | inr past ↦ past
    ]

    ends_in : (s k : ℕ) → s ≤ 64 * index + stop → s + k ≤ 64 * index + 64 → IsSetBetween (flags_of words) s (s + k) → s + k ≤ 64 * index + stop
    ends_in s k low to set = elim (cases_lt (64 * index + stop) (s + k)) [
      | inl over ↦ absurd (set_and_not (flags_of words) (64 * index + stop) (set (64 * index + stop) low over) (stop_clear (omega arith)))
      | inr upto ↦ upto
    ]

    -- the longest of the runs that begin before the place, and the next one
    module _ (remainder n counted : ℕ) (two : remainder < 2) (counted_is : counted ≡ cond (eqb (start % 2) remainder) (stop - start) (stop - start - 1)) (h : IsLongestBefore (flags_of words) (64 * index) place remainder n) where
      counted_most : (s k : ℕ) → s % 2 ≡ remainder → 64 * index + start ≤ s → s + k ≤ 64 * index + stop → k ≤ counted
      counted_most s k has low upto = elim (cases_eq (start % 2) remainder) [
        | inl same ↦ (let is : counted ≡ stop - start = grind (arith, nat_tests, counted_is) in omega arith)
        | inr other ↦ (let is : counted ≡ stop - start - 1 = grind (arith, nat_tests, counted_is) in omega arith)
      ]

      counted_met : 1 ≤ counted → RunIn (flags_of words) (64 * index) (64 * index + 64) remainder counted
      counted_met some = let upto = next.within in elim (cases_eq (start % 2) remainder) [
        | inl same ↦
            let is : counted ≡ stop - start = grind (arith, nat_tests, counted_is) in
            record { start = 64 * index + start; from = omega arith; to = omega arith; has = omega arith; set = λ i low high. run_set i low (omega arith) }
        | inr other ↦
            let is : counted ≡ stop - start - 1 = grind (arith, nat_tests, counted_is) in
            record { start = 64 * index + start + 1; from = omega arith; to = omega arith; has = omega arith; set = λ i low high. run_set i (omega arith) (omega arith) }
      ]

      most_on : (s k : ℕ) → s % 2 ≡ remainder → 64 * index ≤ s → s < 64 * index + (stop + 1) → s + k ≤ 64 * index + 64 → IsSetBetween (flags_of words) s (s + k) → k ≤ max n counted
      most_on s k has from before to set = elim (cases_lt s (64 * index + place)) [
        | inl early ↦ (let few : k ≤ n = h.most s k has from early to set in omega arith)
        | inr late ↦ elim (cases_lt 0 k) [
          | inl some ↦
              let few : k ≤ counted = counted_most s k has (begins_in s k some late set) (ends_in s k (omega arith) to set) in
              omega arith
          | inr none ↦ omega arith
        ]
      ]

      longest_more : IsLongestBefore (flags_of words) (64 * index) (stop + 1) remainder (max n counted)
      longest_more = record {
        most = most_on;
        met = λ some. elim (cases_lt n counted) [
          | inl longer ↦ (let is : max n counted ≡ counted = omega arith in rw is (counted_met (omega arith)))
          | inr not ↦ (let is : max n counted ≡ n = omega arith in rw is (h.met (omega arith)))
        ];
      }

      pub longest_on : (longest : ℕ) → longest ≡ max n counted → IsLongestBefore (flags_of words) (64 * index) (stop + 1) remainder longest
      longest_on longest is = subst (λ (m : ℕ). IsLongestBefore (flags_of words) (64 * index) (stop + 1) remainder m) (sym is) longest_more

    -- the first run of n flags
    module _ (n : ℕ) (parity : Option ℕ) (some : 1 ≤ n) (h : NoneBefore (flags_of words) (64 * index) n parity place) where
      fits_in : (t : ℕ) → FitsBlock (flags_of words) (64 * index) (64 * index + 64) n parity t → 64 * index + start ≤ t
      fits_in t f = begins_in t n some (h t f) f.fits.run

      pub none_on : ((s : ℕ) → HasParity parity s → 64 * index + start ≤ s → 64 * index + stop < s + n) → NoneBefore (flags_of words) (64 * index) n parity (stop + 1)
      none_on none t f = elim (cases_lt (64 * index + stop) t) [
        | inl behind ↦ omega arith
        | inr inside ↦
            let upto : t + n ≤ 64 * index + stop = ends_in t n inside f.to f.fits.run in
            let over : 64 * index + stop < t + n = none t f.fits.remainder (fits_in t f) in
            absurd (omega arith)
      ]

      pub found_in : (s : ℕ) → IsFirstOver (64 * index + start) (64 * index + stop) n parity s → IsLeast (FitsBlock (flags_of words) (64 * index) (64 * index + 64) n parity) (Some s)
      found_in s f = record {
        fits = record {
          fits = record { run = λ i low high. run_set i (omega (arith, f.from)) (omega (arith, f.to)); remainder = f.remainder };
          from = omega (arith, f.from);
          to = omega (arith, f.to, next.within);
        };
        least = λ t g. f.least t g.fits.remainder (fits_in t g);
        none = tt;
      }

      pub found_of : (result : Option ℕ) → is_some result ≡ true → IfSome result (IsFirstOver (64 * index + start) (64 * index + stop) n parity) → IsLeast (FitsBlock (flags_of words) (64 * index) (64 * index + 64) n parity) result
      found_of None there f = (cc)
      found_of (Some s) there f = found_in s f

pub none_in_word : (flags : List Bool) (a n : ℕ) (parity : Option ℕ) (place : ℕ) → 1 ≤ n → 64 ≤ place → NoneBefore flags a n parity place → IsLeast (FitsBlock flags a (a + 64) n parity) None
none_in_word flags a n parity place some done h = record {
  fits = tt;
  least = tt;
  none = λ t f. (let past = h t f in let upto = f.to in absurd (omega arith));
}

-- all flags of a word are set where those from its first on are 64, and where those up to its last are
both_or_none : (word prefix suffix : ℕ) → IsBitRun word 0 prefix → IsBitSuffix word suffix → (prefix ≡ 64 → suffix ≡ 64) × (prefix < 64 → suffix < 64)
both_or_none word prefix suffix p s = (
  λ full. elim (cases_lt suffix 64) [
    | inl less ↦ absurd (one_and_zero word (63 - suffix) (p.set (63 - suffix) (omega arith) (omega arith)) (s.ends (63 - suffix) (omega arith)))
    | inr all ↦ omega (arith, s.within)
  ],
  λ less. elim (cases_lt suffix 64) [
    | inl few ↦ few
    | inr all ↦ absurd (one_and_zero word prefix (s.set prefix (omega arith) less) (end_of word prefix less p))
  ],
)

pub word_summary : (words : List ℕ) (index : ℕ) → index < length words → (prefix suffix even odd : ℕ) → IsBitRun (slice_index_or words index 0) 0 prefix → IsBitSuffix (slice_index_or words index 0) suffix
    → IsLongest (flags_of words) (64 * index) (64 * index + 64) 0 even → IsLongest (flags_of words) (64 * index) (64 * index + 64) 1 odd
    → IsSummary (flags_of words) (64 * index) (64 * index + 64) (record { prefix = prefix; suffix = suffix; even = even; odd = odd; full = eqb prefix 64 })
word_summary words index within prefix suffix even odd p s e o =
    let both = both_or_none (slice_index_or words index 0) prefix suffix p s in
    let fits = p.within in
    record {
      prefix = prefix_of_run words index within prefix p;
      suffix = suffix_of_run words index within suffix s;
      even = e;
      odd = o;
      filled = λ full. (let is : prefix ≡ 64 = grind (arith, nat_tests, full) in let all : suffix ≡ 64 = both.0 is in (omega arith, omega arith));
      open_ended = λ not. (let less : prefix < 64 = grind (arith, nat_tests, not, fits) in let few : suffix < 64 = both.1 less in (omega arith, omega arith));
    }

-- no run in a word is longer than it
pub longest_small : (flags : List Bool) (a remainder n : ℕ) → IsLongest flags a (a + 64) remainder n → n ≤ 64
longest_small flags a remainder n h = elim (cases_lt 0 n) [
  | inl some ↦ (let run = h.met some in let from = run.from in let to = run.to in omega arith)
  | inr none ↦ omega arith
]
