-- What a call of a command is handed and what it leaves, as far as that tells (our own).
use Rattle.std.specs.Prelude.{◌≡◌, ℕ, List, Option}
use Rattle.std.specs.List.{AllZip}
use Rattle.lease_disk.specs.Pairs.{PairHasCause}
use Rattle.lease_disk.specs.declared.disks.DiskPair.{DiskPair}

-- what the disks of a type tell: the trait `LeaseDisk` says what each of these is
pub record DiskMeanings (D : Type 0) : Type 1 where
  pub tells : Type 0
  pub seen : D → List ℕ
  pub moment : D → ℕ
  pub left_since : D → ℕ → List ℕ → Type 0
  pub may_leave : D → List ℕ → Type 0
  pub faults : D → ℕ

abbrev pub disks_by : {D : Type 0} → Type 0 → (D → List ℕ) → (D → ℕ) → (D → ℕ → List ℕ → Type 0)
    → (D → List ℕ → Type 0) → (D → ℕ) → DiskMeanings D
disks_by tells seen moment left_since may_leave faults = record {
  tells = tells;
  seen = seen;
  moment = moment;
  left_since = left_since;
  may_leave = may_leave;
  faults = faults;
}

-- the sink and the pairs at one moment
pub record Outside (W D : Type 0) : Type 0 where
  pub out : W
  -- what the sink holds
  pub held : Option (List ℕ)
  pub pairs : List (DiskPair D)

-- the script's source at one moment, and what it has left
pub record Input (S : Type 0) : Type 0 where
  pub source : S
  pub left : Option (List ℕ)

-- no count of faults of a disk has fallen
abbrev pub HaveNotFallen : {D : Type 0} → (D → ℕ) → (before now : List (DiskPair D)) → Type 0
HaveNotFallen faults before now = AllZip (λ p q. PairHasCause faults p q ⊥) before now

-- nothing was written, and no pair had a call
pub record IsUntouched {W D : Type 0} (before now : Outside W D) : Type 0 where
  pub out : now.out ≡ before.out
  pub pairs : now.pairs ≡ before.pairs
