-- What leads to what in one step after another.
use Rattle.std.specs.Prelude.{◌≡◌, ◌⊎◌}

module _ {A : Type 0} (Step : A → A → Type 0) where
  -- in at least one step
  pub data Reaches : A → A → Type 0 where
    once : {u v : A} → Step u v → Reaches u v
    again : {u v w : A} → Step u v → Reaches v w → Reaches u w

  -- in any number of steps
  abbrev pub Comes : A → A → Type 0
  Comes u v = (u ≡ v) ⊎ Reaches u v
