-- The text of a summary (our own).
use Rattle.std.specs.Prelude.{ℕ, List, [], ◌∷◌, ◌++◌, codes, decimal}
use Rattle.hex.specs.Hex.{encode_lower}
use Rattle.sha2.specs.Sha256.{sha256}
use Rattle.load_summary.specs.declared.counts.LoadCounts.{LoadCounts}
use Rattle.load_summary.specs.declared.counts.LoadKind.{LoadKind}
use Rattle.load_summary.specs.Counts.{counts_of}

-- a name, a space and a number
abbrev pub count_line : List ℕ → ℕ → List ℕ
count_line name n = name ++ codes " " ++ decimal n ++ 10 ∷ []

abbrev pub changes_text : LoadCounts → List ℕ
changes_text counts =
    count_line (codes "requests") counts.requests ++ count_line (codes "granted") counts.granted
    ++ count_line (codes "renewed") counts.renewed

abbrev pub rest_text : LoadCounts → List ℕ
rest_text counts =
    count_line (codes "deleted") counts.deleted ++ count_line (codes "absent") counts.absent
    ++ count_line (codes "refused") counts.refused

abbrev pub totals_text : (leases owned : ℕ) → List ℕ
totals_text leases owned = count_line (codes "leases") leases ++ count_line (codes "owned") owned

abbrev pub digest_line : List ℕ → List ℕ
digest_line digest = codes "digest " ++ encode_lower digest ++ 10 ∷ []

abbrev pub summary_of : LoadCounts → (leases owned : ℕ) → (digest : List ℕ) → List ℕ
summary_of counts leases owned digest =
    changes_text counts ++ rest_text counts ++ totals_text leases owned ++ digest_line digest

-- Of requests of these kinds, after which so many leases were live and ports owned, and which got
-- these octets of replies in all.
abbrev pub summary_text : List LoadKind → (leases owned : ℕ) → (replies : List ℕ) → List ℕ
summary_text kinds leases owned replies = summary_of (counts_of kinds) leases owned (sha256 replies)
