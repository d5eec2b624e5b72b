-- The least of what machines break, one item after another.
use Rattle.std.proofs.Common.{◌≡◌, ℕ, List, map, Option, Some, sym, ap, subst}
use Rattle.fp_base.specs.declared.place.Place.{Place}
use Rattle.fp_base.specs.declared.refusal.Refusal.{Refusal}
use Rattle.fp_base.specs.declared.value.Value.{Value}
use Rattle.fp_base.specs.Least.{InSome, IsLeast}
use Rattle.fp_base.proofs.Calculus.{least_same}
use Rattle.fp_tree.specs.declared.machine.Behavior.{Behavior}
use Rattle.fp_tree.specs.declared.machine.BehaviorElement.{BehaviorElement}
use Rattle.fp_tree.specs.declared.source.Source.{Source}
use Rattle.fp_tables.specs.declared.kind.Kind.{Kind}
use Rattle.fp_tables.specs.declared.kind.TypeDef.{TypeDef}
use Rattle.fp_meaning.specs.declared.item.Item.{Item}
use Rattle.fp_meaning.specs.Layout.{behavior_items, items, model_own_items}
use Rattle.fp_meaning.specs.Names.{Path, in_optional}
use Rattle.fp_meaning.specs.Sites.{ModelDef}
use Rattle.fp_type_sizes.specs.declared.written.WrittenType.{WrittenType}
use Rattle.fp_types.specs.Converting.{DefaultIs}
use Rattle.fp_type_forms.specs.declared.resolving.Resolution.{Resolution}
use Rattle.fp_type_forms.specs.Resolved.{AreResolved, parts_of_item}
use Rattle.fp_source_types.specs.Typed.{AreTypesOf}
use Rattle.fp_source_parts.proofs.Given.{one_types}
use Rattle.fp_machine_rules.specs.Broken.{MachineBroken}
use Rattle.fp_machine_rules.specs.Forms.{IsLaid}
use Rattle.fp_machine_rules.specs.declared.item.Item.{Item as LaidItem}
use Rattle.fp_machines.specs.Layout.{laid}
use Rattle.fp_machines.specs.Numbers.{type_numbers}
use Rattle.fp_machines.specs.Ordered.{AreInOrder}
use Rattle.fp_source_parts.specs.MachineBroken.{BrokenBehavior, BrokenElements, BrokenItem, BrokenModel, MachinesBroken}
use Rattle.fp_source_parts.specs.DeclaredElements.{DeclareAll}
use Rattle.fp_source_parts.proofs.Taken.{one_declared}

-- elements in their order stand behind the states that they stand in
pub laid_in_order : (xs : List LaidItem) → AreInOrder xs → IsLaid xs
laid_in_order xs h v p s = let b = h v p s in (b.before, b.is_state)

module _ (types : List TypeDef) (source : Source) where
  pub elements_least : (scope : Path) (place : Place) (es : List BehaviorElement) (kinds : List (Option Kind)) (first : Option Refusal) → DeclareAll source scope es kinds
      → IsLeast (MachineBroken (laid place es (type_numbers types kinds))) first → IsLeast (BrokenElements types source scope place es) first
  elements_least scope place es kinds first are l =
      least_same (λ f b. record { kinds = kinds; declared = are; broken = b })
      (λ f b. subst (λ (ks : List (Option Kind)). MachineBroken (laid place es (type_numbers types ks)) f) (one_declared source scope es b.kinds kinds b.declared are) b.broken) l

  module _ (marks : List (Option Value)) (rs : List Resolution) (start : ℕ) where
    pub behavior_by : (scope : Path) (place : Place) (d e : Option Behavior) (o : Option Refusal) → d ≡ e
        → (AreResolved source marks rs (in_optional (behavior_items scope) e) start → IsLeast (BrokenBehavior types source scope place e) o)
        → AreResolved source marks rs (in_optional (behavior_items scope) d) start → IsLeast (BrokenBehavior types source scope place d) o
    behavior_by scope place d e o is h =
        subst (λ (x : Option Behavior). AreResolved source marks rs (in_optional (behavior_items scope) x) start → IsLeast (BrokenBehavior types source scope place x) o) (sym is) h

    pub model_by : (scope : Path) (d e : ModelDef) (o : Option Refusal) → d ≡ e
        → (AreResolved source marks rs (model_own_items scope e) start → IsLeast (BrokenModel types source scope e) o)
        → AreResolved source marks rs (model_own_items scope d) start → IsLeast (BrokenModel types source scope d) o
    model_by scope d e o is h =
        subst (λ (x : ModelDef). AreResolved source marks rs (model_own_items scope x) start → IsLeast (BrokenModel types source scope x) o) (sym is) h

    pub item_by : (i j : Item) (o : Option Refusal) → i ≡ j → (AreResolved source marks rs (parts_of_item j) start → IsLeast (BrokenItem types source j) o)
        → AreResolved source marks rs (parts_of_item i) start → IsLeast (BrokenItem types source i) o
    item_by i j o is h = subst (λ (x : Item). AreResolved source marks rs (parts_of_item x) start → IsLeast (BrokenItem types source x) o) (sym is) h

pub machines_least : ((ws : List WrittenType) (k : Kind) (a b : Value) → DefaultIs ws k a → DefaultIs ws k b → a ≡ b) → (source : Source) (types : List TypeDef) (first : Option Refusal)
    → AreTypesOf source (map (λ (d : TypeDef). Some d) types) → IsLeast (InSome (λ (k : ℕ). BrokenItem types source) (items source)) first → IsLeast (MachinesBroken source) first
machines_least one_default source types first given l =
    least_same (λ f b. record { types = types; given = given; broken = b })
    (λ f b. subst (λ (ts : List TypeDef). InSome (λ (k : ℕ). BrokenItem ts source) (items source) f) (one_types one_default source b.types types b.given given) b.broken) l
