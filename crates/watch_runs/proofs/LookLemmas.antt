-- Looks that were given, one behind the other.
use Rattle.std.proofs.Common.{◌≡◌, ◌⊎◌, inl, inr, ℕ, ◌+◌, ◌<◌, ◌≤◌, Bool, true, false, List, [], ◌∷◌, ◌++◌, length, map, Option, Some, None, option_map, is_some, Result, Ok, Err, refl, sym, ap, subst, ◌∙◌, arith, length-append, append_assoc}
use Rattle.std.specs.Prelude.{is_ok}
use Rattle.std.specs.List.{All}
use Rattle.std.proofs.lemmas.Bool.{false≢true}
use Rattle.std.proofs.lemmas.List.{map-append}
use Rattle.std.proofs.lemmas.List.Elements.{All-nil, All-push}
use Rattle.pcp_base.specs.declared.configs.External.{External}
use Rattle.watch_lines.specs.declared.doubts.Doubt.{Doubt}
use Rattle.watch_readings.specs.declared.readings.Told.{Told}
use Rattle.watch_readings.specs.Copies.{sides_of}
use Rattle.watch_readings.specs.Readings.{IsReadOf, IsToldBy, IsToldOf, OnceReading}
use Rattle.watch_readings.specs.Readings.OnceReading.{Counts, Doubtful}
use Rattle.watch_runs.specs.declared.links.Look.{Look}
use Rattle.watch_runs.specs.declared.links.LookFault.{LookFault}
use Rattle.watch_runs.specs.declared.links.LookFault.TheVariants.{File, Memory}
use Rattle.watch_runs.specs.Looks.{FailsFrom, GaveLooks, GivesLook, IsInDoubt, IsNextLook, IsToldFrom, IsToldNext}

abbrev pub Left : Type 0
Left = Option (List (Result Look LookFault))

next_gave : (before now : Left) (look : Look) → IsNextLook before now (Ok look) → GaveLooks before (look ∷ []) now
next_gave None now look is = sym (ap (option_map (λ rest. map Ok (look ∷ []) ++ rest)) is)
next_gave (Some []) now look is = absurd (false≢true (sym (ap is_ok is.0)))
next_gave (Some (next ∷ rest)) now look is =
    ap (λ given. Some (given ∷ rest)) (sym is.0) ∙ sym (ap (option_map (λ left. map Ok (look ∷ []) ++ left)) is.1)

look_gave : (before now : Left) (look : Look) → GivesLook before now (Ok look) → GaveLooks before (look ∷ []) now
look_gave before now look (inl is) = next_gave before now look is
look_gave before now look (inr is) = absurd (false≢true (sym (ap is_ok is.0)))

none_gave : (left : Left) → GaveLooks left [] left
none_gave None = refl
none_gave (Some rest) = refl

abbrev is_file : Result Look LookFault → Bool
is_file (Ok look) = false
is_file (Err File) = true
is_file (Err Memory) = false

pub look_fails : (before now : Left) (given : Result Look LookFault) → given ≡ Err File → GivesLook before now given → IsNextLook before now (Err File)
look_fails before now given same (inl is) = subst (λ g. IsNextLook before now g) same is
look_fails before now given same (inr is) = absurd (false≢true (sym (ap is_file is.0) ∙ ap is_file same))

pub fails_first : (most : ℕ) (before now : Left) → 0 < most → IsNextLook before now (Err File) → FailsFrom most before now
fails_first most before now some is = record {
  looks = [];
  few = some;
  doubted = All-nil IsInDoubt;
  behind = before;
  gave = none_gave before;
  fails = is;
}

pub gave_more : (before between now : Left) (xs ys : List Look) → GaveLooks before xs between → GaveLooks between ys now → GaveLooks before (xs ++ ys) now
gave_more before between None xs ys first second = first ∙ ap (option_map (λ rest. map Ok xs ++ rest)) second
gave_more before between (Some left) xs ys first second =
    first ∙ ap (option_map (λ rest. map Ok xs ++ rest)) second
    ∙ ap Some (sym (append_assoc (map Ok xs) (map Ok ys) left) ∙ ap (λ l. l ++ left) (sym (map-append Ok xs ys)))

-- ---- what is told behind so many looks

pub record AreLooked (e : External) (shard count : ℕ) (before now : Left) (told : Told) : Type 0 where
  pub earlier : List Look
  pub last : Look
  pub counted : length earlier + 1 ≡ count
  pub gave : GaveLooks before (earlier ++ last ∷ []) now
  pub doubted : All IsInDoubt earlier
  pub is : IsToldBy (sides_of last.a last.b) e shard last.time told

pub looked_once : (e : External) (shard : ℕ) (before now : Left) (told : Told) → IsToldNext e shard before now told → AreLooked e shard 1 before now told
looked_once e shard before now told next = record {
  earlier = [];
  last = next.look;
  counted = refl;
  gave = next.gave;
  doubted = All-nil IsInDoubt;
  is = next.is;
}

doubt_of : (e : External) (shard time : ℕ) (reading : OnceReading) (told : Told) → IsToldOf e shard time reading told → is_some told.doubt ≡ true
    → (doubt : Doubt) × (reading ≡ Doubtful doubt)
doubt_of e shard time (Counts generation s) told tells some = absurd (false≢true (sym (ap is_some tells.0) ∙ some))
doubt_of e shard time (Doubtful doubt) told tells some = (doubt, refl)

in_doubt : (e : External) (shard : ℕ) (look : Look) (told : Told) → IsToldBy (sides_of look.a look.b) e shard look.time told → is_some told.doubt ≡ true
    → IsInDoubt look
in_doubt e shard look told is some =
    let (doubt, same) = doubt_of e shard look.time is.reading told is.tells_it some in
    (doubt, subst (λ r. IsReadOf (sides_of look.a look.b) r) same is.of_sides)

pub looked_more : (e : External) (shard count : ℕ) (before between now : Left) (told more : Told) → AreLooked e shard count before between told
    → is_some told.doubt ≡ true → IsToldNext e shard between now more → AreLooked e shard (count + 1) before now more
looked_more e shard count before between now told more so some next = record {
  earlier = so.earlier ++ so.last ∷ [];
  last = next.look;
  counted = omega (arith, length-append so.earlier (so.last ∷ []), so.counted);
  gave = gave_more before between now (so.earlier ++ so.last ∷ []) (next.look ∷ []) so.gave next.gave;
  doubted = All-push IsInDoubt so.earlier so.last so.doubted (in_doubt e shard so.last told so.is some);
  is = next.is;
}

length_of : (e : External) (shard count : ℕ) (before now : Left) (told : Told) (so : AreLooked e shard count before now told)
    → length (so.earlier ++ so.last ∷ []) ≡ count
length_of e shard count before now told so = length-append so.earlier (so.last ∷ []) ∙ so.counted

ends_at : (count most n : ℕ) (o : Option Doubt) → n ≡ count → (o ≡ None) ⊎ (count ≡ most) → (o ≡ None) ⊎ (n ≡ most)
ends_at count most n o same (inl none) = inl none
ends_at count most n o same (inr all) = inr (same ∙ all)

pub looked_told : (most : ℕ) (e : External) (shard count : ℕ) (before now : Left) (told : Told) → AreLooked e shard count before now told
    → count ≤ most → (told.doubt ≡ None) ⊎ (count ≡ most) → IsToldFrom most e shard before now told
looked_told most e shard count before now told so few ends = record {
  looks = so.earlier ++ so.last ∷ [];
  gave = so.gave;
  is = record {
    earlier = so.earlier;
    last = so.last;
    are = refl;
    few = omega (arith, few, length_of e shard count before now told so);
    doubted = so.doubted;
    is = so.is;
    ends = ends_at count most (length (so.earlier ++ so.last ∷ [])) told.doubt (length_of e shard count before now told so) ends;
  };
}

pub fails_behind : (most : ℕ) (e : External) (shard count : ℕ) (before between now : Left) (told : Told) → AreLooked e shard count before between told
    → count < most → is_some told.doubt ≡ true → IsNextLook between now (Err File) → FailsFrom most before now
fails_behind most e shard count before between now told so few some is = record {
  looks = so.earlier ++ so.last ∷ [];
  few = omega (arith, few, length_of e shard count before between told so);
  doubted = All-push IsInDoubt so.earlier so.last so.doubted (in_doubt e shard so.last told so.is some);
  behind = between;
  gave = so.gave;
  fails = is;
}

-- ---- a look that was given

pub look_told : (e : External) (shard : ℕ) (before now : Left) (given : Result Look LookFault) (look : Look) (told : Told) → given ≡ Ok look
    → GivesLook before now given → IsToldBy (sides_of look.a look.b) e shard look.time told → IsToldNext e shard before now told
look_told e shard before now given look told same gives is = record {
  look = look;
  gave = look_gave before now look (subst (λ g. GivesLook before now g) same gives);
  is = is;
}

-- ---- whether one is in doubt

pub none_from : (o : Option Doubt) → is_some o ≡ false → o ≡ None
none_from None same = refl
none_from (Some doubt) same = absurd (false≢true (sym same))
