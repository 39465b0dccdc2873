-- What a crash may leave on the way of an answerer from one moment to another (our own): images,
-- each of which stands for a house.
use Rattle.std.specs.Prelude.{ℕ, List, ◌++◌, Contains}
use Rattle.pcp_io.specs.Faults.{HasRisen}
use Rattle.script_player.specs.Houses.{LineEffects}

-- `way a b houses`: at each moment from a to b each image stands for one of these houses.
pub record WayLaws {A House : Type 0} (way : A → A → List House → Type 0) : Type 0 where
  -- a way, and the next one, are a way over the houses of both
  pub joins : (a b c : A) (houses more : List House) →
      way a b houses → way b c more → way a c (houses ++ more)
  -- more houses say less
  pub weaker : (a b : A) (houses more : List House) →
      ((house : House) → Contains houses house → Contains more house) →
      way a b houses → way a b more
  -- the last moment is one of them
  pub ends : (a b : A) (houses : List House) → way a b houses → way b b houses

-- What became of a house from one moment to another, by lines that do this.
pub record Course (House : Type 0) : Type 1 where
  pub effects : LineEffects House
  pub begun : House
  pub ended : House
  -- at each moment each image stands for one of these
  pub over : List House → Type 0
  -- at the last moment each image stands for one of these
  pub at_end : List House → Type 0

abbrev pub course_of : {A House : Type 0} → LineEffects House → (A → House) →
    (A → A → List House → Type 0) → A → A → Course House
course_of effects house way old new = record {
  effects = effects;
  begun = house old;
  ended = house new;
  over = way old new;
  at_end = way new new;
}

-- A count of faults has risen, of those of the disks of a shard.
abbrev pub HasFault : (before now : ℕ → ℕ) → Type 0
HasFault before now = (disk : ℕ) × HasRisen (before disk) (now disk)
