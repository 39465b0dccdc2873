-- Opening a book, over plain values.
use Rattle.std.proofs.Common.{◌≡◌, inl, inr, ℕ, ◌<◌, ◌≤◌, ◌^◌, max, true, false, List, [], ◌∷◌, Option, Some, None, refl, sym, ◌∙◌, ap, subst}
use Rattle.std.specs.Prelude.{◌⊎◌}
use Rattle.pcp_base.specs.declared.addresses.Address.{Address}
use Rattle.pcp_base.specs.declared.records.Change.TheVariants.{Lose}
use Rattle.pcp_base.specs.declared.records.Record.{Record}
use Rattle.pcp_base.specs.Apply.{apply_all}
use Rattle.pcp_base.specs.Fits.{Fits}
use Rattle.pcp_base.specs.Laws.{SuitingFits}
use Rattle.pcp_base.specs.Reached.{IsReached, IsReachedFirst}
use Rattle.pcp_base.specs.States.{State}
use Rattle.pcp_base.proofs.Same.{same_address-Decides}
use Rattle.lease_journal.specs.declared.errors.Found.{Found}
use Rattle.lease_journal.specs.declared.errors.Found.TheVariants.{Recovered, Blank, Damaged}
use Rattle.journal_sides.specs.declared.formats.Format.{Format}
use Rattle.journal_sides.specs.declared.formats.Format.TheVariants.{First, Second}
use Rattle.journal_sides.specs.Formats.{IsReplaying}
use Rattle.journal_sides.specs.Journals.{IsBlank, IsDamaged, StandsFor, StandsForWithOrWithout}
use Rattle.journal_sides.specs.Laws.{OneState, RecoveredAlone}
use Rattle.lease_journal.specs.Openings.{FoundMeans, MayOpen}
use Rattle.shard_book.specs.Addresses.{is_named, renumber_at, renumbering}
use Rattle.shard_book.specs.Openings.{MayOpenBook}

-- ---- what fits

pub renumber_fits : SuitingFits → (s : State) (m : ℕ) (address : Address) → IsReached s → s.started ≡ true → s.last ≤ m → m < 2 ^ 40 → Fits s (renumber_at m address)
renumber_fits room s m address is started later bound = (room s (renumber_at m address) is.sound).1 (record {
  formed = record { moment = bound; change = tt };
  first = rw started refl;
  later = later;
  allowed = tt;
  rested = tt;
  room = tt;
})

pub lose_fits : SuitingFits → (s : State) (m : ℕ) → IsReached s → s.started ≡ true → s.last ≤ m → m < 2 ^ 40 → Fits s (record { moment = m; change = Lose })
lose_fits room s m is started later bound = (room s (record { moment = m; change = Lose }) is.sound).1 (record {
  formed = record { moment = bound; change = tt };
  first = rw started refl;
  later = later;
  allowed = tt;
  rested = tt;
  room = tt;
})

-- ---- the address that a state names

pub named_is : (address : Address) (told : Option Address) → is_named address told ≡ true → told ≡ Some address
named_is address None is = absurd cc
named_is address (Some other) is = ap (λ (a : Address). Some a) (sym ((same_address-Decides address other).0 is))

pub named_again : (address : Address) → is_named address (Some address) ≡ true
named_again address = (same_address-Decides address address).1 refl

pub no_renumbering : (m : ℕ) (address : Address) (s : State) → is_named address s.address ≡ true → renumbering m address s ≡ []
no_renumbering m address s is = rw is refl

pub one_renumbering : (m : ℕ) (address : Address) (s : State) → is_named address s.address ≡ false → renumbering m address s ≡ renumber_at (max m s.last) address ∷ []
one_renumbering m address s is = rw is refl

-- ---- what a replay holds that has read a journal

pub replay_reached : {S : Type 0} (state : S → State) (reached : S → ℕ) (replaying replaying_first : S → Type 0) → ((core : S) → replaying core → IsReached (state core)) → ((core : S) → replaying_first core → IsReachedFirst (state core)) → (format : Format) (core : S)
    → IsReplaying format (λ (x : S). replaying x × (reached x ≡ (state x).last)) (λ (x : S). replaying_first x × (reached x ≡ (state x).last)) core → IsReached (state core) × (reached core ≡ (state core).last)
replay_reached state reached replaying replaying_first made made_first First core is = ((made_first core is.0).reached, is.1)
replay_reached state reached replaying replaying_first made made_first Second core is = (made core is.0, is.1)

-- ---- what a crash may leave

pub opens_may : (m : ℕ) (address : Address) (a b : List ℕ) (s : State) (found : Found) (x y : List ℕ) → FoundMeans m a b s found → StandsForWithOrWithout s (renumbering m address s) x y → MayOpenBook m address a b x y
opens_may m address a b s Recovered x y is (inl stands) = inl (inl (s, is, stands))
opens_may m address a b s Recovered x y is (inr stands) = inr (s, inl is, stands)
opens_may m address a b s Blank x y is (inl stands) = inl (inr (inl (is.0, inr (subst (λ (t : State). StandsFor t x y) is.1 stands))))
opens_may m address a b s Blank x y is (inr stands) = inr (s, inr (inl is.0, is.1), stands)
opens_may m address a b s Damaged x y is (inl stands) = inl (inr (inr (is.0, inr (inr (subst (λ (t : State). StandsFor t x y) is.1 stands)))))
opens_may m address a b s Damaged x y is (inr stands) = inr (s, inr (inr is.0, is.1), stands)

-- sides that stand for a state are neither blank nor damaged
not_blank : RecoveredAlone → (s : State) (a b : List ℕ) → StandsFor s a b → ¬ (IsBlank a b)
not_blank alone s a b is = (alone a b is.0 is.1 is.2).0

not_damaged : RecoveredAlone → (s : State) (a b : List ℕ) → StandsFor s a b → ¬ (IsDamaged a b)
not_damaged alone s a b is = (alone a b is.0 is.1 is.2).1

either_way : (s : State) (rs : List Record) (a b : List ℕ) → StandsForWithOrWithout s rs a b → (t : State) × StandsFor t a b × ((t ≡ s) ⊎ (t ≡ apply_all s rs))
either_way s rs a b (inl is) = (s, is, inl refl)
either_way s rs a b (inr is) = (apply_all s rs, is, inr refl)

back : (s t : State) (rs : List Record) (x y : List ℕ) → (t ≡ s) ⊎ (t ≡ apply_all s rs) → StandsFor t x y → StandsForWithOrWithout s rs x y
back s t rs x y (inl is) stands = inl (subst (λ (u : State). StandsFor u x y) is stands)
back s t rs x y (inr is) stands = inr (subst (λ (u : State). StandsFor u x y) is stands)

pub one_of : (s t : State) (rs : List Record) (x y : List ℕ) → (t ≡ s) ⊎ (t ≡ apply_all s rs) → StandsFor t x y → StandsForWithOrWithout s rs x y
one_of s t rs x y which stands = back s t rs x y which stands

-- what is found is one of the two states
pub found_known : OneState → RecoveredAlone → (m : ℕ) (a b : List ℕ) (s : State) (rs : List Record) (now : State) (found : Found) → StandsForWithOrWithout s rs a b → FoundMeans m a b now found → (now ≡ s) ⊎ (now ≡ apply_all s rs)
found_known one alone m a b s rs now found known is =
    let (t, stands, which) = either_way s rs a b known in by t stands which found is
  where
    by : (t : State) → StandsFor t a b → (t ≡ s) ⊎ (t ≡ apply_all s rs) → (f : Found) → FoundMeans m a b now f → (now ≡ s) ⊎ (now ≡ apply_all s rs)
    by t stands (inl which) Recovered means = inl (one a b now t means stands ∙ which)
    by t stands (inr which) Recovered means = inr (one a b now t means stands ∙ which)
    by t stands which Blank means = absurd (not_blank alone t a b stands means.0)
    by t stands which Damaged means = absurd (not_damaged alone t a b stands means.0)

-- and so is what a crash may leave while the journal is opened
pub may_known : OneState → RecoveredAlone → (m : ℕ) (a b : List ℕ) (s : State) (rs : List Record) (x y : List ℕ) → StandsForWithOrWithout s rs a b → MayOpen m a b x y → StandsForWithOrWithout s rs x y
may_known one alone m a b s rs x y known may =
    let (t, stands, which) = either_way s rs a b known in by t stands which may
  where
    by : (t : State) → StandsFor t a b → (t ≡ s) ⊎ (t ≡ apply_all s rs) → MayOpen m a b x y → StandsForWithOrWithout s rs x y
    by t stands which (inl (u, held, left)) = back s t rs x y which (subst (λ (v : State). StandsFor v x y) (one a b u t held stands) left)
    by t stands which (inr (inl starting)) = absurd (not_blank alone t a b stands starting.0)
    by t stands which (inr (inr starting)) = absurd (not_damaged alone t a b stands starting.0)
