-- What the items of a source are resolved to: what its uses mean, and its expressions, by their numbers.
use Rattle.std.specs.Prelude.{◌≡◌, ℕ, ◌+◌, Bool, cond, ℤ, pos, List, [], ◌∷◌, ◌++◌, length, map, slice_get, Option, Some, None}
use Rattle.std.specs.Option.{option_flatten}
use Rattle.fp_base.specs.declared.value.Value.{Value, Enumerated}
use Rattle.fp_tree.specs.declared.source.Source.{Source}
use Rattle.fp_tree.specs.declared.name.Name.{Name}
use Rattle.fp_tree.specs.declared.definition.Def.{Def}
use Rattle.fp_tree.specs.declared.expression.Expr.{Expr}
use Rattle.fp_tree.specs.declared.part.EnumConst.{EnumConst}
use Rattle.fp_tables.specs.declared.kind.Constant.{Constant}
use Rattle.fp_tables.specs.declared.kind.Kind.{Kind}
use Rattle.fp_tables.specs.declared.kind.Kind.TheVariants as kind
use Rattle.fp_meaning.specs.declared.group.Group.{Group}
use Rattle.fp_meaning.specs.declared.group.Group.TheVariants as group
use Rattle.fp_meaning.specs.declared.item.Item.{Item}
use Rattle.fp_meaning.specs.declared.item.Item.TheVariants as item
use Rattle.fp_meaning.specs.declared.names.Definition.{Definition}
use Rattle.fp_meaning.specs.Meaning.{Means, AreMeanings}
use Rattle.fp_meaning.specs.Layout as layout
use Rattle.fp_meaning.specs.Names.{Path, definitions, mentions, definitions_of, uses_of}
use Rattle.fp_meaning.specs.Origins.{Placed, placed, expressions, expressions_of}
use Rattle.fp_meaning.specs.Sites.{Naming}
use Rattle.fp_meaning.specs.Values.{opened, IsValue}
use Rattle.fp_consts.specs.Laid.{past, IsPast}
use Rattle.fp_consts.specs.Marked.{AreValues}
use Rattle.fp_type_sizes.specs.declared.written.WrittenType.{WrittenType}
use Rattle.fp_type_sizes.specs.declared.written.Own.{Own}
use Rattle.fp_type_sizes.specs.declared.written.Own.TheVariants as own
use Rattle.fp_type_forms.specs.declared.ranking.Ranking.{Ranking}
use Rattle.fp_type_forms.specs.declared.resolving.Resolution.{Resolution}
use Rattle.fp_type_forms.specs.declared.resolving.Resolution.TheVariants as resolution
use Rattle.fp_type_forms.specs.declared.resolving.Resolved.{Resolved}
use Rattle.fp_type_forms.specs.Written.{AllAt, AreWritten, IsWritten, TypeHere, type_count, types_among, types_before, types_in, types_of}

-- ---- how many types stand before each definition

abbrev pub ranks_from : ℕ → List Definition → List ℕ
ranks_from n [] = []
ranks_from n (d ∷ ds) = n ∷ ranks_from (n + type_count d) ds

-- with an item more
pub record IsRankedWith (i : Item) (before after : Ranking) : Type 0 where
  pub ranks : after.ranks ≡ before.ranks ++ ranks_from before.next (definitions_of i)
  pub next : after.next ≡ before.next + types_among (definitions_of i)

-- ---- what items are resolved to

-- what a use that stands in no expression means, by its number among the definitions
abbrev pub UseMeans : Source → Naming → ℕ → Type 0
UseMeans source n number = Means (definitions source) n.scope (map (λ (x : Name). x.text) n.names) n.group number

-- a type by its number among the types, any other definition by its number among the definitions
abbrev pub use_resolved : Group → List Definition → ℕ → Resolution
use_resolved group.Kind ds number = resolution.Type (types_before ds number)
use_resolved _ ds number = resolution.Meant number

module _ (source : Source) (marks : List (Option Value)) where
  -- the expression's value, or that it has none, stands at the number
  abbrev pub HasMark : Placed → ℕ → Type 0
  HasMark p number = (o : Option Value) × (slice_get marks number ≡ Some o) × IsValue source p.scope (opened p.expression) o

  abbrev pub IsMarkOf : Path → Option Expr → Resolution → Type 0
  IsMarkOf scope None r = Unit {0}
  IsMarkOf scope (Some e) r = (number : ℕ) × (r ≡ resolution.Expression number) × HasMark (placed scope e) number

  abbrev pub IsResolved : Item → Resolution → Type 0
  IsResolved (item.Defined s) r = Unit {0}
  IsResolved (item.Enumerated e) r = IsMarkOf e.scope e.constant.value r
  IsResolved (item.Declared d) r = Unit {0}
  IsResolved (item.Used since n) r = (number : ℕ) × UseMeans source n number × (r ≡ use_resolved n.group (definitions source) number)
  IsResolved (item.Written since p) r = IsMarkOf p.scope (Some p.expression) r

  -- from a place on, each item's resolution
  abbrev pub AreResolved : List Resolution → List Item → ℕ → Type 0
  AreResolved rs [] at = Unit {0}
  AreResolved rs (i ∷ is) at = ((r : Resolution) × (slice_get rs at ≡ Some r) × IsResolved i r) × AreResolved rs is (at + 1)

  -- what is read of these items, from one place to another, where these and others behind them are resolved
  abbrev pub Takes : List Resolution → List Item → ℕ → ℕ → Type 0 → Type 0
  Takes rs mine before after P = (others : List Item) → AreResolved rs (mine ++ others) before → P × AreResolved rs others after

abbrev pub type_ranked : Option ℕ → Resolution
type_ranked None = resolution.Nothing
type_ranked (Some rank) = resolution.Type rank

abbrev pub numbered_in : Group → List ℕ → ℕ → Resolution
numbered_in group.Kind ranks number = type_ranked (slice_get ranks number)
numbered_in _ ranks number = resolution.Meant number

abbrev pub meant_in : Group → List ℕ → Option ℕ → Resolution
meant_in group ranks None = resolution.Nothing
meant_in group ranks (Some number) = numbered_in group ranks number

abbrev pub resolved_to : List ℕ → List ℕ → ℕ → ℕ → Item → Resolution
resolved_to meanings ranks next_use next_mark (item.Defined s) = resolution.Nothing
resolved_to meanings ranks next_use next_mark (item.Enumerated e) = resolution.Expression next_mark
resolved_to meanings ranks next_use next_mark (item.Declared d) = resolution.Nothing
resolved_to meanings ranks next_use next_mark (item.Used since n) = meant_in n.group ranks (slice_get meanings next_use)
resolved_to meanings ranks next_use next_mark (item.Written since p) = resolution.Expression next_mark

-- with an item more
pub record IsResolvedWith (meanings ranks : List ℕ) (limit : ℕ) (i : Item) (before after : Resolved) : Type 0 where
  pub at : after.at ≡ before.at ++ resolved_to meanings ranks before.next_use before.next_mark i ∷ []
  pub next_use : IsPast (uses_of i) (length meanings) before.next_use after.next_use
  pub next_mark : after.next_mark ≡ past (length (expressions_of i)) limit before.next_mark

-- what is given of a source that is laid out
pub record IsReady (source : Source) (marks : List (Option Value)) (is : List Item) (meanings ranks : List ℕ) (limit : ℕ) : Type 0 where
  pub laid : is ≡ layout.items source
  pub meant : AreMeanings (definitions source) (mentions source) meanings
  pub valued : AreValues source (expressions source) marks
  pub ranked : ranks ≡ ranks_from 0 (definitions source)
  pub counted : limit ≡ length marks

abbrev pub ResolvesAll : List Item → List ℕ → List ℕ → ℕ → List Resolution → Type 0
ResolvesAll is meanings ranks limit rs = (source : Source) (marks : List (Option Value)) → IsReady source marks is meanings ranks limit → AreResolved source marks rs is 0

-- items that are a source's, with what its uses mean and the values of its expressions
pub record AreItemsOf (source : Source) (is : List Item) (meanings : List ℕ) (marks : List (Option Value)) : Type 0 where
  pub laid : is ≡ layout.items source
  pub meant : AreMeanings (definitions source) (mentions source) meanings
  pub valued : AreValues source (expressions source) marks

abbrev pub ResolvesItems : List Item → List ℕ → List (Option Value) → List Resolution → Type 0
ResolvesItems is meanings marks rs = (source : Source) → AreItemsOf source is meanings marks → AreResolved source marks rs is 0

-- ---- what is read of a resolution

abbrev pub kind_resolved : Option Resolution → Option Kind
kind_resolved (Some (resolution.Type number)) = Some (kind.Named number)
kind_resolved _ = None

abbrev pub number_meant : Option Resolution → Option ℕ
number_meant (Some (resolution.Meant number)) = Some number
number_meant _ = None

abbrev pub value_resolved : List (Option Value) → Option Resolution → Option Value
value_resolved marks (Some (resolution.Expression number)) = option_flatten (slice_get marks number)
value_resolved marks _ = None

abbrev pub own_with : Option Value → Own
own_with None = own.NoValue
own_with (Some v) = own.Has v

-- of two that are both there
abbrev pub both_there : {A B C : Type 0} → (A → B → C) → Option A → Option B → Option C
both_there f (Some x) (Some y) = Some (f x y)
both_there f (Some x) None = None
both_there f None y = None

abbrev pub one_more : {A : Type 0} → Option (List A) → Option A → Option (List A)
one_more xs x = both_there (λ ys y. ys ++ y ∷ []) xs x

-- the number of an enumerated constant, from its position and what is read of its value
abbrev pub number_given : ℕ → Bool → Option Expr → Option ℤ → Option ℤ
number_given position implied (Some e) written = written
number_given position implied None written = cond implied (Some (pos position)) None

abbrev pub constant_with : List ℕ → EnumConst → ℤ → Constant
constant_with of c n = record { name = c.name.text; value = Enumerated of c.name.text n; note = c.note }

-- one behind, where something stands there
abbrev pub Moves : List Resolution → ℕ → ℕ → Type 0
Moves rs before after = (r : Resolution) → slice_get rs before ≡ Some r → after ≡ before + 1

-- an item that is read gives so many at the end, where both it and what stands in it are resolved
abbrev pub parts_of_item : Item → List Item
parts_of_item (item.Defined s) = layout.part_items s.scope s.definition
parts_of_item (item.Declared d) = layout.model_own_items d.scope d.definition
parts_of_item _ = []

abbrev pub AddsWritten : List (Option Value) → List Resolution → ℕ → Item → List WrittenType → List WrittenType → Type 0
AddsWritten marks rs start i before after =
    (source : Source) → AreResolved source marks rs (parts_of_item i) start
    → (ws : List WrittenType) × (after ≡ before ++ ws) × AllAt (λ position. IsWritten source) 0 (types_of i) ws

-- what is read of a type is what is written of it
abbrev pub IsWrittenBy : (Source → Type 0) → TypeHere → WrittenType → Type 0
IsWrittenBy P t w = (source : Source) → P source → IsWritten source t w

abbrev pub one_or_none : Option WrittenType → List WrittenType
one_or_none None = []
one_or_none (Some w) = w ∷ []

abbrev pub AreWrittenIn : List (Option Value) → List Resolution → ℕ → Path → Def → Option WrittenType → Type 0
AreWrittenIn marks rs start scope d o =
    (source : Source) → AreResolved source marks rs (layout.part_items scope d) start → AllAt (λ position. IsWritten source) 0 (types_in scope d) (one_or_none o)

-- what is written of the types among items that are the source's
abbrev pub WritesAll : List (Option Value) → List Resolution → List Item → List WrittenType → Type 0
WritesAll marks rs is ws = (source : Source) → is ≡ layout.items source → AreResolved source marks rs is 0 → AreWritten source ws
