-- The history of three entries is legal, and what the laws say of it.
use Rattle.std.specs.Prelude.{Contains}
use Rattle.std.specs.List.{AllByRecursion}
use Rattle.std.proofs.Common.{◌≡◌, [], ◌∷◌, true, false, inl, inr, refl, ap, arith}
use Rattle.pcp_base.specs.declared.leases.Owner.{Owner}
use Rattle.pcp_base.specs.declared.records.Change.TheVariants.{Lose}
use Rattle.pcp_base.specs.Configs.{IsConfig}
use Rattle.pcp_base.specs.Owners.{map_owner, owners}
use Rattle.pcp_base.specs.Reached.{IsReached}
use Rattle.pcp_base.specs.Sound.{Sound}
use Rattle.pcp_base.proofs.Members.{Contains-from_IsIn, IsIn, IsIn-from_Contains}
use Rattle.lease_histories.specs.Laws.{ChangesByNonce, EpochsDisclose, FaultsComeNext, IsNoLess, IsWithinAge, NextIsLegal, NoncesDecide, NothingIsLegal, ServersComeNext}
use Rattle.lease_histories.specs.Legal.{IsLegal, IsOpening, state_after}
use Rattle.lease_histories.specs.PlainHouses.{nobody}
use Rattle.lease_histories.proofs.NextEntries.{heard}
use Rattle.house_rows.specs.ThreeEntries.{failed, lease, lost, opening, served, served_config}

allowed : IsConfig served_config
allowed = record {
  quota = (omega arith, omega arith);
  lifetime_min = omega arith;
  lifetimes = omega arith;
  lifetime_max = omega arith;
  third_party_count = omega arith;
  third_party = tt;
  external_count = (omega arith, omega arith);
  externals = (record { low = omega arith; ordered = omega arith; high = omega arith }, tt);
  external_addresses = (tt, tt);
  subscriber_count = omega arith;
  subscribers = tt;
  listen_count = omega arith;
  listen = tt;
  listen_different = tt;
}

only-one : (o p q : Owner) → IsIn p (o ∷ []) → IsIn q (o ∷ []) → p ≡ q
only-one o p q (inl a) (inl b) = cc
only-one o p q (inl a) (inr b) = absurd b
only-one o p q (inr a) h = absurd a

one : (p q : Owner) → Contains (owners opening.table) p → Contains (owners opening.table) q → p ≡ q
one p q h k = only-one (map_owner lease 0) p q (IsIn-from_Contains (owners opening.table) p h) (IsIn-from_Contains (owners opening.table) q k)

sound : Sound opening.table
sound = record {
  maps = (
    record {
      ports = record {
        internal = omega arith;
        external = omega arith;
        some = omega arith;
        few = omega arith;
        internal_end = omega arith;
        external_end = omega arith;
      };
      filters = record { few = omega arith; different = tt; prefixes = tt };
    },
    tt,
  );
  peers = tt;
  apart = (tt, tt);
  different = tt;
  one_owner = λ p q h k protocol external. ap (λ (x : Owner). x.endpoint) (one p q h k);
  one_port = λ p q h k endpoint. ap (λ (x : Owner). x.external) (one p q h k);
  few = omega arith;
  few_peers = λ e. omega arith;
}

reached : IsReached opening
reached = record {
  sound = record { table = sound; ordered = tt; unowned = tt };
  maps = (record { come = omega arith; live = omega arith; near = omega arith }, tt);
  peers = tt;
  ends = tt;
  base = omega arith;
  last = omega arith;
}

pub opens : IsOpening served opening
opens = record { config = allowed; there = refl; reached = reached; started = refl }

module _ (nothing : NothingIsLegal) (next : NextIsLegal) (servers : ServersComeNext) (faults : FaultsComeNext) where
  first : IsLegal served opening (failed 1000 900 ∷ [])
  first =
      let none = nothing served opening in
      next served opening [] (failed 1000 900) none (faults served opening [] (failed 1000 900) opens none refl refl refl)

  second : IsLegal served opening (failed 1000 900 ∷ lost ∷ [])
  second =
      let less : IsNoLess opening (failed 1000 900 ∷ []) lost.moment lost.base = record { in_range = omega arith; later = omega arith; told = omega arith } in
      next served opening (failed 1000 900 ∷ []) lost first
      (servers served opening (failed 1000 900 ∷ []) lost (record { moment = 1100; change = Lose }) first less refl refl refl (omega arith))

  pub third : IsLegal served opening (failed 1000 900 ∷ lost ∷ failed 1100 1100 ∷ [])
  third =
      next served opening (failed 1000 900 ∷ lost ∷ []) (failed 1100 1100) second
      (faults served opening (failed 1000 900 ∷ lost ∷ []) (failed 1100 1100) opens second refl refl refl)

  pub is-kept : NoncesDecide → Contains (state_after opening (failed 1000 900 ∷ [])).table.maps lease
  is-kept decide =
      let changes : ChangesByNonce served_config (failed 1000 900) opening.table (state_after opening (failed 1000 900 ∷ [])).table =
      decide served opening [] (failed 1000 900) (lost ∷ failed 1100 1100 ∷ []) opens third in
      elim (changes.maps lease (Contains-from_IsIn (lease ∷ []) lease (inl refl))) [
        | inl still ↦ still
        | inr may ↦ elim may [
          | inl request ↦ (let bad : true ≡ false = heard served_config nobody request.request request.asks in absurd (cc))
          | inr anew ↦ absurd (cc)
        ]
      ]

  pub are-within : EpochsDisclose → AllByRecursion (IsWithinAge 1000) (lost ∷ failed 1100 1100 ∷ [])
  are-within disclose =
      disclose served opening (failed 1000 900 ∷ []) lost (failed 1100 1100 ∷ []) opens third 1000
      (record { live_lease = Contains-from_IsIn (1000 ∷ []) 1000 (inl refl); how = refl })
