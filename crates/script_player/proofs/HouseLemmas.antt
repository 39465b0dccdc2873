-- One more line: what it adds to the lines, to what they put out and to the houses along them.
use Rattle.std.proofs.Common.{◌≡◌, List, [], ◌∷◌, ◌++◌, refl, sym, ap, subst, ◌∙◌, inl, inr, append_assoc, append-nil}
use Rattle.std.specs.Prelude.{Contains}
use Rattle.std.specs.List.{AllZip}
use Rattle.pcp_base.proofs.Members.{IsIn, IsIn-from_Contains, Contains-from_IsIn}
use Rattle.pcp_script.specs.declared.lines.Line.{Line}
use Rattle.script_player.specs.Houses.{LineEffects, after_lines, houses_along, line_out, out_of}

pub AllZip-push : {X Y : Type 0} (R : X → Y → Type 0) (xs : List X) (ys : List Y) (x : X) (y : Y) →
    AllZip R xs ys → R x y → AllZip R (xs ++ x ∷ []) (ys ++ y ∷ [])
AllZip-push R [] [] x y h new = (new, tt)
AllZip-push R [] (y' ∷ ys) x y h new = absurd h
AllZip-push R (x' ∷ xs) [] x y h new = absurd h
AllZip-push R (x' ∷ xs) (y' ∷ ys) x y h new = (h.0, AllZip-push R xs ys x y h.1 new)

IsIn-front : {X : Type 0} (x : X) (xs ys : List X) → IsIn x xs → IsIn x (xs ++ ys)
IsIn-front x [] ys h = absurd h
IsIn-front x (z ∷ xs) ys (inl e) = inl e
IsIn-front x (z ∷ xs) ys (inr h) = inr (IsIn-front x xs ys h)

IsIn-back : {X : Type 0} (x : X) (xs ys : List X) → IsIn x ys → IsIn x (xs ++ ys)
IsIn-back x [] ys h = h
IsIn-back x (z ∷ xs) ys h = inr (IsIn-back x xs ys h)

-- a member of both lists together is one of a third, where those of each are
IsIn-both : {X : Type 0} (x : X) (xs ys zs : List X) → ((y : X) → IsIn y xs → IsIn y zs) →
    ((y : X) → IsIn y ys → IsIn y zs) → IsIn x (xs ++ ys) → IsIn x zs
IsIn-both x [] ys zs f g h = g x h
IsIn-both x (z ∷ xs) ys zs f g (inl e) = f x (inl e)
IsIn-both x (z ∷ xs) ys zs f g (inr h) = IsIn-both x xs ys zs (λ y k. f y (inr k)) g h

module _ {House : Type 0} (effects : LineEffects House) where
  pub after_lines-push : (house : House) (lines : List Line) (line : Line) →
      after_lines effects house (lines ++ line ∷ []) ≡ effects.after (after_lines effects house lines) line
  after_lines-push house [] line = refl
  after_lines-push house (l ∷ lines) line = after_lines-push (effects.after house l) lines line

  pub out_of-push : (house : House) (lines : List Line) (line : Line) →
      out_of effects house (lines ++ line ∷ [])
      ≡ out_of effects house lines ++ line_out (effects.result_of (after_lines effects house lines) line)
  out_of-push house [] line = append-nil (line_out (effects.result_of house line))
  out_of-push house (l ∷ lines) line =
      let text = line_out (effects.result_of house l) in
      let next = effects.after house l in
      ap (λ out. text ++ out) (out_of-push next lines line)
      ∙ sym (append_assoc text (out_of effects next lines) (line_out (effects.result_of (after_lines effects next lines) line)))

  pub houses_along-push : (house : House) (lines : List Line) (line : Line) →
      houses_along effects house (lines ++ line ∷ [])
      ≡ houses_along effects house lines ++ effects.after (after_lines effects house lines) line ∷ []
  houses_along-push house [] line = refl
  houses_along-push house (l ∷ lines) line =
      ap (λ houses. house ∷ houses) (houses_along-push (effects.after house l) lines line)

  -- the house after the lines is the last of those along them
  last_along : (house : House) (lines : List Line) →
      IsIn (after_lines effects house lines) (houses_along effects house lines)
  last_along house [] = inl refl
  last_along house (l ∷ lines) = inr (last_along (effects.after house l) lines)

  only_last : (house : House) (lines : List Line) (y : House) →
      IsIn y (after_lines effects house lines ∷ []) → IsIn y (houses_along effects house lines)
  only_last house lines y (inl e) = rw (← e) (last_along house lines)
  only_last house lines y (inr h) = absurd h

  -- those along the lines, and that after them once more
  pub along_still : (house : House) (lines : List Line) (x : House) →
      Contains (houses_along effects house lines ++ after_lines effects house lines ∷ []) x →
      Contains (houses_along effects house lines) x
  along_still house lines x h =
      let houses = houses_along effects house lines in
      let last : List House = after_lines effects house lines ∷ [] in
      Contains-from_IsIn houses x
      (IsIn-both x houses last houses (λ y k. k) (only_last house lines) (IsIn-from_Contains (houses ++ last) x h))

  last_or_next : (house : House) (lines : List Line) (line : Line) (y : House) →
      IsIn y (after_lines effects house lines ∷ effects.after (after_lines effects house lines) line ∷ []) →
      IsIn y (houses_along effects house lines ++ effects.after (after_lines effects house lines) line ∷ [])
  last_or_next house lines line y (inl e) =
      let next : List House = effects.after (after_lines effects house lines) line ∷ [] in
      rw (← e) (IsIn-front (after_lines effects house lines) (houses_along effects house lines) next (last_along house lines))
  last_or_next house lines line y (inr h) =
      IsIn-back y (houses_along effects house lines) (effects.after (after_lines effects house lines) line ∷ []) h

  -- those along the lines, and those before and after one more
  pub along_more : (house : House) (lines : List Line) (line : Line) (x : House) →
      Contains (houses_along effects house lines ++ after_lines effects house lines ∷ effects.after (after_lines effects house lines) line ∷ []) x →
      Contains (houses_along effects house (lines ++ line ∷ [])) x
  along_more house lines line x h =
      let houses = houses_along effects house lines in
      let last = after_lines effects house lines in
      let next = effects.after last line in
      let all = houses ++ next ∷ [] in
      let both : List House = last ∷ next ∷ [] in
      let is_in : IsIn x all = IsIn-both x houses both all (λ y k. IsIn-front y houses (next ∷ []) k) (last_or_next house lines line) (IsIn-from_Contains (houses ++ both) x h) in
      subst (λ (hs : List House). Contains hs x) (sym (houses_along-push house lines line)) (Contains-from_IsIn all x is_in)

  -- lines change no external address
  pub externals_after : ((house : House) (line : Line) → effects.externals (effects.after house line) ≡ effects.externals house) →
      (house : House) (lines : List Line) → effects.externals (after_lines effects house lines) ≡ effects.externals house
  externals_after same house [] = refl
  externals_after same house (l ∷ lines) = externals_after same (effects.after house l) lines ∙ same house l
