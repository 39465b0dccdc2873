-- Updates that are written one after the other.
use Rattle.std.proofs.Common.{◌≡◌, ◌∙◌, ◌+◌, ◌<◌, ◌≤◌, ◌⊎◌, inl, inr, ℕ, zero, suc, List, [], ◌∷◌, ◌++◌, length, take, flat_map, codes, decimal, Option, Some, None, refl, sym, ap, subst, arith, length-append, append_assoc}
use Rattle.std.specs.Io.KnownBytes.{append_known}
use Rattle.std.proofs.lemmas.List.{append-nil}
use Rattle.pcp_base.specs.AddressTexts.{address_text}
use Rattle.pcp_base.specs.declared.datagrams.Datagram.{Datagram}
use Rattle.pcp_io.specs.Writes.{WritesPart}
use Rattle.pcp_io.proofs.KnownOctets.{append_known-append}
use Rattle.pcp_script.specs.Results.{hex_field, reply_line}
use Rattle.server_commands.specs.declared.statuses.Status.{Status}
use Rattle.server_commands.specs.declared.statuses.Status.TheVariants.{Done, WordsRefused, ConfigRefused, ScriptRefused, ReadFault, WriteFault, DiskFault, Memory}
use Rattle.pcp_server.specs.Played.{IsUntold, WritesFront}

pub append_known-nil : (known : Option (List ℕ)) → append_known known [] ≡ known
append_known-nil None = refl
append_known-nil (Some xs) = ap Some (append-nil xs)

-- nothing was written
pub untold-nothing : (text : List ℕ) (before : Option (List ℕ)) → WritesFront before before text
untold-nothing text before = record { taken = 0; few = inl refl; front = sym (append_known-nil before) }

-- the first octets of a text in the middle of another
take-behind : (written line rest : List ℕ) (n : ℕ) → n ≤ length line → take (length written + n) (written ++ (line ++ rest)) ≡ written ++ take n line
take-behind [] line rest n few =
    let same : 0 + n ≡ n = omega arith in
    ap (λ k. take k (line ++ rest)) same ∙ take-front line rest n few
  where
    take-front : (line rest : List ℕ) (n : ℕ) → n ≤ length line → take n (line ++ rest) ≡ take n line
    take-front line rest zero few = refl
    take-front [] rest (suc n) few = absurd (omega (arith, few))
    take-front (x ∷ line) rest (suc n) few = ap (λ xs. x ∷ xs) (take-front line rest n (omega (arith, few)))
take-behind (x ∷ written) line rest n few =
    let same : suc (length written) + n ≡ suc (length written + n) = omega arith in
    ap (λ k. take k (x ∷ (written ++ (line ++ rest)))) same ∙ ap (λ xs. x ∷ xs) (take-behind written line rest n few)

fits-behind : (written line rest : List ℕ) (n : ℕ) → length (written ++ (line ++ rest)) ≡ length written + (length line + length rest)
fits-behind written line rest n = length-append written (line ++ rest) ∙ ap (λ k. length written + k) (length-append line rest)

front-behind : (written line rest : List ℕ) (before mid now : Option (List ℕ)) (n : ℕ) → mid ≡ append_known before written → now ≡ append_known mid (take n line) → n ≤ length line →
    now ≡ append_known before (take (length written + n) (written ++ (line ++ rest)))
front-behind written line rest before mid now n so front few =
    front ∙ ap (λ k. append_known k (take n line)) so ∙ append_known-append before written (take n line)
    ∙ ap (append_known before) (sym (take-behind written line rest n few))

-- the line of one update in the text of all
pub all-behind : {X : Type 0} (line : X → List ℕ) (written : List ℕ) (xs more : List X) (x : X) (whole : List ℕ) → xs ≡ x ∷ more → written ++ flat_map line xs ≡ whole →
    written ++ (line x ++ flat_map line more) ≡ whole
all-behind line written xs more x whole is all = ap (λ ys. written ++ flat_map line ys) (sym is) ∙ all

pub one-more : {X : Type 0} (line : X → List ℕ) (written : List ℕ) (xs more : List X) (x : X) (whole : List ℕ) → xs ≡ x ∷ more → written ++ flat_map line xs ≡ whole →
    (written ++ line x) ++ flat_map line more ≡ whole
one-more line written xs more x whole is all = append_assoc written (line x) (flat_map line more) ∙ all-behind line written xs more x whole is all

-- each line of an update has octets
pub reply_line-some : (update : Datagram) → 0 < length (reply_line update)
reply_line-some update =
    let front = codes "reply " ++ address_text update.peer ++ codes " " ++ decimal update.port ++ codes " " ++ hex_field update.octets in
    omega (arith, length-append front (10 ∷ []))

not-all : (taken n : ℕ) → 0 < n → (taken ≡ 0) ⊎ (taken < n) → taken < n
not-all taken n some (inl none) = omega (arith, some, none)
not-all taken n some (inr less) = less

-- where the line of one update isn't told, not all are
pub untold-behind : (written line rest whole : List ℕ) → 0 < length line → (before mid now : Option (List ℕ)) (status : Status) → mid ≡ append_known before written → written ++ (line ++ rest) ≡ whole →
    IsUntold line mid now status → IsUntold whole before now status
untold-behind written line rest whole some before mid now WriteFault so all part = subst (WritesPart before now) all (record {
  taken = length written + part.taken;
  short = (let s = part.short in let l = fits-behind written line rest 0 in omega (arith, s, l));
  front = front-behind written line rest before mid now part.taken so part.front (let s = part.short in omega (arith, s));
})
untold-behind written line rest whole some before mid now Memory so all part =
    let fewer : part.taken < length line = not-all part.taken (length line) some part.few in
    subst (WritesFront before now) all (record {
      taken = length written + part.taken;
      few = inr (let l = fits-behind written line rest 0 in omega (arith, fewer, l));
      front = front-behind written line rest before mid now part.taken so part.front (omega (arith, fewer));
    })
untold-behind written line rest whole some before mid now Done so all bad = absurd bad
untold-behind written line rest whole some before mid now WordsRefused so all bad = absurd bad
untold-behind written line rest whole some before mid now (ConfigRefused cause) so all bad = absurd bad
untold-behind written line rest whole some before mid now (ScriptRefused n) so all bad = absurd bad
untold-behind written line rest whole some before mid now ReadFault so all bad = absurd bad
untold-behind written line rest whole some before mid now (DiskFault shard) so all bad = absurd bad

-- not all updates are written: never by these
pub untold-words : (text : List ℕ) (before now : Option (List ℕ)) (status : Status) → IsUntold text before now status → status ≡ WordsRefused → ⊥
untold-words text before now status untold is = subst (IsUntold text before now) is untold

pub untold-read : (text : List ℕ) (before now : Option (List ℕ)) (status : Status) → IsUntold text before now status → status ≡ ReadFault → ⊥
untold-read text before now status untold is = subst (IsUntold text before now) is untold

pub untold-disk : (text : List ℕ) (before now : Option (List ℕ)) (status : Status) (shard : ℕ) → IsUntold text before now status → status ≡ DiskFault shard → ⊥
untold-disk text before now status shard untold is = subst (IsUntold text before now) is untold
