-- From what callees say over items and slices to what is said of the source.
use Rattle.std.proofs.Common.{◌≡◌, ℕ, List, Option, sym, subst}
use Rattle.fp_base.specs.declared.refusal.Refusal.{Refusal}
use Rattle.fp_base.specs.declared.value.Value.{Value}
use Rattle.fp_base.specs.Least.{InSome, IsLeast, lesser_of}
use Rattle.fp_base.proofs.Calculus.{least_along, least_either}
use Rattle.fp_tree.specs.declared.source.Source.{Source}
use Rattle.fp_tables.specs.declared.kind.TypeDef.{TypeDef}
use Rattle.fp_meaning.specs.declared.item.Item.{Item}
use Rattle.fp_meaning.specs.Layout.{items}
use Rattle.fp_type_sizes.specs.declared.written.WrittenType.{WrittenType}
use Rattle.fp_type_forms.specs.declared.resolving.Resolution.{Resolution}
use Rattle.fp_type_forms.specs.Resolved.{AreResolved}
use Rattle.fp_component_forms.specs.declared.writing.WrittenSource.{WrittenSource}
use Rattle.fp_component_forms.specs.Written.{IsWrittenSource, TypeNamesStand}
use Rattle.fp_written_parts.specs.declared.port.WrittenPortDef.{WrittenPortDef}
use Rattle.fp_written_parts.specs.declared.member.WrittenInterface.{WrittenInterface}
use Rattle.fp_written_parts.specs.declared.member.WrittenComponent.{WrittenComponent}
use Rattle.fp_component_rules.specs.PortBroken.{PortsBroken}
use Rattle.fp_dictdefs.specs.Broken.{DictionaryBroken}
use Rattle.fp_component_rules.specs.Broken.{ComponentsBroken}
use Rattle.fp_source_parts.specs.Broken.{BrokenBy}
use Rattle.fp_source_parts.specs.Valued.{IsValued}

-- what is written of the source whose items these are
pub written_of : (source : Source) (is : List Item) (values : List (Option Value)) (own rs : List Resolution) (ws : List WrittenType) (types : List TypeDef) (w : WrittenSource)
    → is ≡ items source → rs ≡ own → IsValued source values own ws types → TypeNamesStand source
    → ((s : Source) → is ≡ items s → AreResolved s values rs is 0 → TypeNamesStand s → IsWrittenSource s w) → IsWrittenSource source w
written_of source is values own rs ws types w laid same valued stand say =
    say source laid
    (subst (λ (l : List Item). AreResolved source values rs l 0) (sym laid) (subst (λ (l : List Resolution). AreResolved source values l (items source) 0) (sym same) valued.resolved)) stand

-- the least of the three lists of rules
pub fault_least : (types : List TypeDef) (w : WrittenSource) (definitions : List WrittenPortDef) (interfaces : List WrittenInterface) (components : List WrittenComponent) (ports dictionaries wholes behind first : Option Refusal)
    → definitions ≡ w.definitions → interfaces ≡ w.interfaces → components ≡ w.components → IsLeast (PortsBroken definitions interfaces components) ports
    → IsLeast (InSome (λ (k : ℕ). DictionaryBroken types) components) dictionaries → IsLeast (ComponentsBroken interfaces components) wholes
    → behind ≡ lesser_of dictionaries wholes → first ≡ lesser_of ports behind → IsLeast (BrokenBy types w) first
fault_least types w definitions interfaces components ports dictionaries wholes behind first ds is cs of_ports of_dictionaries of_wholes last all =
    let p = subst (λ (x : List WrittenPortDef). IsLeast (PortsBroken x interfaces components) ports) ds of_ports in
    let q = subst (λ (x : List WrittenInterface). IsLeast (PortsBroken w.definitions x components) ports) is p in
    let r = subst (λ (x : List WrittenComponent). IsLeast (PortsBroken w.definitions w.interfaces x) ports) cs q in
    let d = subst (λ (x : List WrittenComponent). IsLeast (InSome (λ (k : ℕ). DictionaryBroken types) x) dictionaries) cs of_dictionaries in
    let u = subst (λ (x : List WrittenInterface). IsLeast (ComponentsBroken x components) wholes) is of_wholes in
    let v = subst (λ (x : List WrittenComponent). IsLeast (ComponentsBroken w.interfaces x) wholes) cs u in
    least_along (sym all) (least_either ports behind r (least_along (sym last) (least_either dictionaries wholes d v)))
