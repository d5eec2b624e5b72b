-- The rules of names, and where each is broken.
use Rattle.std.specs.Prelude.{◌≡◌, ℕ, ◌⊎◌, List, take}
use Rattle.fp_base.specs.declared.refusal.Refusal.{Refusal}
use Rattle.fp_base.specs.declared.rule.Rule.TheVariants.{DefinedTwice, Undefined, WrongKindOfName}
use Rattle.fp_tree.specs.declared.source.Source.{Source}
use Rattle.fp_meaning.specs.declared.group.Group.{Group}
use Rattle.fp_meaning.specs.declared.names.Definition.{Definition}
use Rattle.fp_meaning.specs.declared.names.Mention.{Mention}
use Rattle.fp_base.specs.Least.{broken_at, Either, InSome}
use Rattle.fp_meaning.specs.Meaning.{IsNamed, HasMeaning}
use Rattle.fp_meaning.specs.Names.{definitions, mentions}

-- a definition before has the group and the qualified name
abbrev pub HasEarlier : List Definition → Definition → Type 0
HasEarlier before d = (earlier : ℕ) × IsNamed before d.group d.name earlier

-- N1, at the later name. FPP Language Specification, "Multiple Definitions with the Same Qualified Name"
abbrev pub IsTwice : List Definition → ℕ → Definition → Refusal → Type 0
IsTwice ds number d f = (f ≡ broken_at DefinedTwice d.place) × HasEarlier (take number ds) d

-- N2, at the use: it means nothing in any group
abbrev pub IsUndefined : List Definition → Mention → Refusal → Type 0
IsUndefined ds m f = (f ≡ broken_at Undefined m.place) × ((group : Group) → HasMeaning ds m group → ⊥)

-- N3, at the use: it means something, and nothing in the group that is wanted
abbrev pub IsWrongKind : List Definition → Mention → Refusal → Type 0
IsWrongKind ds m f = (f ≡ broken_at WrongKindOfName m.place) × ((group : Group) × HasMeaning ds m group) × (HasMeaning ds m m.group → ⊥)

abbrev pub IsUnmeant : List Definition → Mention → Refusal → Type 0
IsUnmeant ds m f = IsUndefined ds m f ⊎ IsWrongKind ds m f

-- a name of the source is defined twice
abbrev pub BrokenByDefinitions : Source → Refusal → Type 0
BrokenByDefinitions source = InSome (IsTwice (definitions source)) (definitions source)

-- a use of the source means nothing in the group that is wanted
abbrev pub BrokenByUses : Source → Refusal → Type 0
BrokenByUses source = InSome (λ _. IsUnmeant (definitions source)) (mentions source)

-- a rule of names is broken
abbrev pub NamesBroken : Source → Refusal → Type 0
NamesBroken source = Either (BrokenByDefinitions source) (BrokenByUses source)
