-- The least of what is broken by what is written is the least that the source breaks.
use Rattle.std.proofs.Common.{◌≡◌, ℕ, List, map, Option, Some, subst}
use Rattle.fp_base.specs.declared.refusal.Refusal.{Refusal}
use Rattle.fp_base.specs.Least.{InSome, IsLeast}
use Rattle.fp_base.proofs.Calculus.{least_same}
use Rattle.fp_base.specs.declared.value.Value.{Value}
use Rattle.fp_tree.specs.declared.source.Source.{Source}
use Rattle.fp_tables.specs.declared.kind.Kind.{Kind}
use Rattle.fp_tables.specs.declared.kind.TypeDef.{TypeDef}
use Rattle.fp_type_sizes.specs.declared.written.WrittenType.{WrittenType}
use Rattle.fp_types.specs.Converting.{DefaultIs}
use Rattle.fp_source_types.specs.Typed.{AreTypesOf}
use Rattle.fp_component_forms.specs.declared.writing.WrittenSource.{WrittenSource}
use Rattle.fp_component_forms.specs.Written.{IsWrittenSource}
use Rattle.fp_dictdefs.specs.Running.{RunningBroken}
use Rattle.fp_source_parts.specs.Broken.{BrokenBy, PartsBroken}
use Rattle.fp_source_parts.specs.Machines.{InstancesBroken, externals}
use Rattle.fp_source_parts.proofs.Given.{one_types}
use Rattle.fp_source_parts.proofs.Once.{one_source}

pub parts_least : ((ws : List WrittenType) (k : Kind) (a b : Value) → DefaultIs ws k a → DefaultIs ws k b → a ≡ b) → (source : Source) (types : List TypeDef) (w : WrittenSource) (o : Option Refusal)
    → IsWrittenSource source w → AreTypesOf source (map (λ (d : TypeDef). Some d) types) → IsLeast (BrokenBy types w) o → IsLeast (PartsBroken source) o
parts_least one_default source types w o are given l =
    least_same (λ f b. record { written = w; are = are; types = types; given = given; broken = b })
    (λ f b. subst (λ (v : WrittenSource). BrokenBy types v f) (one_source source b.written w b.are are)
    (subst (λ (ts : List TypeDef). BrokenBy ts b.written f) (one_types one_default source b.types types b.given given) b.broken)) l

pub instances_least : (source : Source) (w : WrittenSource) (o : Option Refusal) → IsWrittenSource source w
    → IsLeast (InSome (λ (k : ℕ). RunningBroken (externals source)) w.components) o → IsLeast (InstancesBroken source) o
instances_least source w o are l =
    least_same (λ f b. record { written = w; are = are; broken = b })
    (λ f b. subst (λ (v : WrittenSource). InSome (λ (k : ℕ). RunningBroken (externals source)) v.components f) (one_source source b.written w b.are are) b.broken) l
