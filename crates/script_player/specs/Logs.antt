-- A house that keeps which lines were answered, for tests (our own): the external addresses, and of
-- each line the first letter of its word.
use Rattle.std.specs.Prelude.{ℕ, ◌-◌, ◌^◌, min, List, [], ◌∷◌, ◌++◌, length, codes, Option, Some, None, if◌then◌else◌, ◌==◌}
use Rattle.std.proofs.Common.{inl, inr, refl}
use Rattle.pcp_base.proofs.Members.{Contains-from_IsIn, IsIn, IsIn-from_Contains}
use Rattle.pcp_base.specs.declared.configs.External.{External}
use Rattle.pcp_script.specs.declared.lines.Line.{Line}
use Rattle.pcp_script.specs.declared.lines.Line.TheVariants.{Skip, Packet, Look, Lose, Owners}
use Rattle.pcp_script.specs.declared.results.LineResult.{LineResult}
use Rattle.pcp_script.specs.declared.results.LineResult.TheVariants as Told
use Rattle.script_player.specs.Houses.{LineEffects}
use Rattle.script_player.specs.Ways.{WayLaws}

abbrev pub letter_of : Line → List ℕ
letter_of Skip = []
letter_of (Packet moment from) = codes "p"
letter_of (Look moment shard protocol port remote remote_port) = codes "k"
letter_of (Lose moment shard) = codes "l"
letter_of (Owners moment shard) = codes "o"

-- what a line is told, after so many lines
abbrev pub told_after : ℕ → Line → Option LineResult
told_after count Skip = None
told_after count (Packet moment from) = Some Told.Silent
told_after count (Look moment shard protocol port remote remote_port) = Some (Told.Owner None)
told_after count (Lose moment shard) = Some (Told.Lost (min count (2 ^ 32 - 1)))
told_after count (Owners moment shard) = Some (Told.Owners [])

abbrev pub log_effects : LineEffects (List External × List ℕ)
log_effects = record {
  externals = λ log. log.0;
  after = λ log line. (log.0, log.1 ++ letter_of line);
  result_of = λ log line. told_after (length log.1) line;
}

-- one disk of one shard counts faults
abbrev pub faults_at : (shard count : ℕ) → ℕ → ℕ → ℕ
faults_at shard count x disk = if x == shard then count else 0

-- A crash leaves the house as it is, and each line is one step of it.
abbrev pub leaves_both : {A House : Type 0} → (A → House) → A → A → List House → Type 0
leaves_both house a b houses = IsIn (house a) houses × IsIn (house b) houses

in_front : {X : Type 0} (x : X) (xs ys : List X) → IsIn x xs → IsIn x (xs ++ ys)
in_front x [] ys h = absurd h
in_front x (y ∷ xs) ys (inl e) = inl e
in_front x (y ∷ xs) ys (inr h) = inr (in_front x xs ys h)

behind : {X : Type 0} (x : X) (xs ys : List X) → IsIn x ys → IsIn x (xs ++ ys)
behind x [] ys h = h
behind x (y ∷ xs) ys h = inr (behind x xs ys h)

pub both_ways : {A House : Type 0} (house : A → House) → WayLaws (leaves_both house)
both_ways house = record {
  joins = λ a b c houses more w v.
      (in_front (house a) houses more w.0, behind (house c) houses more v.1);
  weaker = λ a b houses more f w. (
    IsIn-from_Contains more (house a) (f (house a) (Contains-from_IsIn houses (house a) w.0)),
    IsIn-from_Contains more (house b) (f (house b) (Contains-from_IsIn houses (house b) w.1)),
  );
  ends = λ a b houses w. (w.1, w.1);
}

pub still_there : {A House : Type 0} (house : A → House) (a : A) → leaves_both house a a (house a ∷ [])
still_there house a = (inl refl, inl refl)
