-- The least that is broken in what belongs to a definition.
use Rattle.std.proofs.Common.{◌≡◌, ℕ, List, Option, sym, subst}
use Rattle.fp_base.specs.Least.{IsLeast}
use Rattle.fp_base.specs.declared.refusal.Refusal.{Refusal}
use Rattle.fp_base.specs.declared.value.Value.{Value}
use Rattle.fp_tree.specs.declared.source.Source.{Source}
use Rattle.fp_meaning.specs.Layout.{model_own_items}
use Rattle.fp_meaning.specs.Sites.{Path, ModelDef}
use Rattle.fp_type_forms.specs.declared.resolving.Resolution.{Resolution}
use Rattle.fp_type_forms.specs.Resolved.{AreResolved}
use Rattle.fp_type_forms.proofs.Taking.{taken_all}
use Rattle.fp_part_values.specs.FormBroken.{BrokenByDeclared, scope_inside}
use Rattle.fp_part_values.specs.Names.{type_names_of}
use Rattle.fp_part_values.specs.Numbers.{numbers_of}
use Rattle.fp_part_values.proofs.Joining.{Faults}

pub definition_by : (source : Source) (marks : List (Option Value)) (rs : List Resolution) (start : ℕ) (scope : Path) (d e : ModelDef) (b : ℕ) (r : Option Refusal) → d ≡ e
    → Faults source marks rs (scope_inside scope e) (model_own_items scope e) start b (type_names_of e) (numbers_of e) r
    → AreResolved source marks rs (model_own_items scope d) start → IsLeast (BrokenByDeclared source scope d) r
definition_by source marks rs start scope d e b r same h =
    subst (λ (x : ModelDef). AreResolved source marks rs (model_own_items scope x) start → IsLeast (BrokenByDeclared source scope x) r) (sym same)
    (taken_all source marks rs (model_own_items scope e) start b h)
