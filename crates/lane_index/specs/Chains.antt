-- Underway along a chain (our own).
use Rattle.std.specs.Prelude.{◌≡◌, ℕ, suc, ◌<◌, ◌≤◌, Bool, true, List, length, slice_get, slice_index, Some}
use Rattle.lane_index.specs.declared.keys.TheConstants.{BUCKETS}
use Rattle.lane_index.specs.declared.keys.LeaseKey.{LeaseKey}
use Rattle.lane_index.specs.declared.cells.Cell.{Cell}
use Rattle.lane_index.specs.Applying.{ended}
use Rattle.lane_index.specs.Keys.{bucket_of, is_keyed}
use Rattle.lane_index.specs.Links.{ChainLists, AreChained}

-- there is a cell at this place, and it passes
abbrev pub HasPassing : (Cell → Bool) → List Cell → ℕ → Type 0
HasPassing p cells i = (x : Cell) × (slice_get cells i ≡ Some x) × (p x ≡ true)

-- `newer`, or where that is 0 the head, tells `at`, which is none or one that passes
pub record IsTold (p : Cell → Bool) (head : ℕ) (cells : List Cell) (c : ChainLists) (newer at : ℕ)
    : Type 0 where
  pub here : (i : ℕ) → at ≡ suc i → HasPassing p cells i
  pub from_head : newer ≡ 0 → slice_index c.heads head ≡ at
  pub from_link : (k : ℕ) → newer ≡ suc k →
      (at ≤ k) × (slice_index c.older k ≡ at) × HasPassing p cells k

-- Of the first cells those from place `at` on are ended where they have the key; the others aren't
-- yet.
pub record IsEnding (key : LeaseKey) (first cells : List Cell) (c : ChainLists) (newer at : ℕ)
    : Type 0 where
  pub chained : AreChained BUCKETS is_keyed cells c
  pub told : IsTold (is_keyed (bucket_of key)) (bucket_of key) cells c newer at
  pub done : (i : ℕ) (x : Cell) → at ≤ i → slice_get first i ≡ Some x →
      slice_get cells i ≡ Some (ended key x)
  pub left : (i : ℕ) → i < at → slice_get cells i ≡ slice_get first i
  pub long : length cells ≡ length first
