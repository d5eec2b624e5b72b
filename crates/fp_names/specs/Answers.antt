-- What the calls on names answer.
use Rattle.std.specs.Prelude.{◌≡◌, ℕ, List, [], ◌∷◌, ◌++◌, Option, None}
use Rattle.fp_base.specs.declared.refusal.Refusal.{Refusal}
use Rattle.fp_meaning.specs.declared.names.Definition.{Definition}
use Rattle.fp_meaning.specs.declared.names.Mention.{Mention}
use Rattle.fp_meaning.specs.Broken.{IsUnmeant}
use Rattle.fp_base.specs.Least.{IsLeast, lesser_of}
use Rattle.fp_meaning.specs.Meaning.{AreMeanings, Means}
use Rattle.fp_names.specs.declared.lookups.LookedUp.{LookedUp}

-- where nothing was found to be broken, the numbers are those of what the uses mean
abbrev pub AreFound : List Definition → List Mention → LookedUp → Type 0
AreFound ds ms found = found.first ≡ None → AreMeanings ds ms found.meanings

-- one use more: what it means, or what it breaks
pub record Notes (ds : List Definition) (m : Mention) (before after : LookedUp) : Type 0 where
  pub said : Option Refusal
  pub least : IsLeast (IsUnmeant ds m) said
  pub first : after.first ≡ lesser_of before.first said
  pub meant : said ≡ None → (number : ℕ) × Means ds m.scope m.name m.group number × (after.meanings ≡ before.meanings ++ number ∷ [])
