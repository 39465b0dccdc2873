-- A dump over the first pairs.
use Rattle.std.proofs.Common.{◌≡◌, ◌∙◌, ◌≤◌, ℕ, zero, suc, List, [], ◌∷◌, ◌++◌, length, take, drop, refl, sym, ap, subst, arith}
use Rattle.std.specs.List.{AllZip}
use Rattle.std.proofs.lemmas.List.{take-append-drop}
use Rattle.pcp_base.specs.declared.configs.Config.{Config}
use Rattle.pcp_io.specs.Writes.{WritesPart}
use Rattle.lease_disk.specs.declared.disks.DiskPair.{DiskPair}
use Rattle.lease_disk.specs.Pairs.{PairHasCause}
use Rattle.journal_dump.specs.Dumps.{HasPairFault, IsOnlyRead}
use Rattle.journal_dump.specs.declared.faults.DumpFault.{DumpFault}
use Rattle.journal_dump.specs.declared.faults.DumpFault.TheVariants as Dump
use Rattle.pcp_server.specs.Dumped.{DumpsBy, HasDump, OnlyReads}
use Rattle.pcp_server.specs.Outsides.{DiskMeanings, HaveNotFallen, Outside}
use Rattle.pcp_server.specs.Statuses.{undumped_as}
use Rattle.pcp_server.proofs.PairLemmas.{fault-join, none_fell, none_fell-join, zip_weaker}

abbrev pub IsRead : {D : Type 0} → DiskMeanings D → DiskPair D → DiskPair D → Type 0
IsRead disks p q = IsOnlyRead disks.tells disks.seen disks.moment disks.left_since disks.may_leave disks.faults p q

pub zip-length : {X : Type 0} (R : X → X → Type 0) (xs ys : List X) → AllZip R xs ys → length ys ≡ length xs
zip-length R [] [] h = refl
zip-length R [] (y ∷ ys) h = absurd h
zip-length R (x ∷ xs) [] h = absurd h
zip-length R (x ∷ xs) (y ∷ ys) h = ap (λ n. suc n) (zip-length R xs ys h.1)

pub take-all-front : {X : Type 0} (xs ys : List X) → take (length xs) (xs ++ ys) ≡ xs
take-all-front [] ys = refl
take-all-front (x ∷ xs) ys = ap (λ zs. x ∷ zs) (take-all-front xs ys)

drop-all-front : {X : Type 0} (xs ys : List X) → drop (length xs) (xs ++ ys) ≡ ys
drop-all-front [] ys = refl
drop-all-front (x ∷ xs) ys = drop-all-front xs ys

pub length-front : {X : Type 0} (xs : List X) (n : ℕ) → n ≤ length xs → length (take n xs) ≡ n
length-front xs zero few = refl
length-front [] (suc n) few = absurd (omega (arith, few))
length-front (x ∷ xs) (suc n) few = ap (λ k. suc k) (length-front xs n (omega (arith, few)))

-- the first pairs were read, and the others had no call
pub only-reads : {D : Type 0} (disks : DiskMeanings D) (config : Config) (old front new : List (DiskPair D)) → length config.externals ≤ length old →
    AllZip (IsRead disks) (take (length config.externals) old) front → new ≡ front ++ drop (length config.externals) old → OnlyReads disks config old new
only-reads disks config old front new enough read is =
    let n = length config.externals in
    let count : length front ≡ n = zip-length (IsRead disks) (take n old) front read ∙ length-front old n enough in
    let first : take n new ≡ front = ap (take n) is ∙ subst (λ k. take k (front ++ drop n old) ≡ front) count (take-all-front front (drop n old)) in
    record {
      read = subst (AllZip (IsRead disks) (take n old)) (sym first) read;
      unused = ap (drop n) is ∙ subst (λ k. drop k (front ++ drop n old) ≡ drop n old) count (drop-all-front front (drop n old));
    }

pub reads-later : {D : Type 0} (disks : DiskMeanings D) (n : ℕ) (old front new : List (DiskPair D)) →
    AllZip (IsRead disks) (take n old) front → new ≡ front ++ drop n old → HaveNotFallen disks.faults old new
reads-later disks n old front new read is =
    let fell = none_fell-join disks.faults (take n old) front (drop n old) (drop n old)
    (zip_weaker (IsRead disks) (λ p q. PairHasCause disks.faults p q ⊥) (λ p q r. r.later) (take n old) front read) (none_fell disks.faults (drop n old)) in
    subst (HaveNotFallen disks.faults old) (sym is) (subst (λ ps. HaveNotFallen disks.faults ps (front ++ drop n old)) (take-append-drop n old) fell)

pub reads-fault : {D : Type 0} (faults : D → ℕ) (n : ℕ) (old front new : List (DiskPair D)) (shard : ℕ) →
    HasPairFault faults (take n old) front shard → new ≡ front ++ drop n old → HasPairFault faults old new shard
reads-fault faults n old front new shard fault is =
    let all = fault-join faults (take n old) front (drop n old) (drop n old) shard fault in
    subst (λ ps. HasPairFault faults old ps shard) (sym is) (subst (λ ps. HasPairFault faults ps (front ++ drop n old) shard) (take-append-drop n old) all)

-- what is written where the dump isn't whole
pub dumps-by : {W D : Type 0} (disks : DiskMeanings D) (config : Config) (before now : Outside W D) (fault : DumpFault) →
    (fault ≡ Dump.Write → HasDump disks config before.pairs (WritesPart before.held now.held)) → (fault ≡ Dump.Memory → now.out ≡ before.out) →
    ((shard : ℕ) → fault ≡ Dump.Disk shard → now.out ≡ before.out) → DumpsBy disks config before now (undumped_as fault)
dumps-by disks config before now (Dump.Disk shard) part memory disk = disk shard refl
dumps-by disks config before now Dump.Write part memory disk = part refl
dumps-by disks config before now Dump.Memory part memory disk = memory refl
