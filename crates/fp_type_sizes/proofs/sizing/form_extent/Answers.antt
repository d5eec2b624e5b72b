use Rattle.std.proofs.Common.{Option, Some, None, ap, ◌∙◌}
use Rattle.std.specs.Prelude.{option_map, cond, Bool}
use Rattle.fp_type_sizes.specs.declared.written.Size.{Size}
use Rattle.fp_tables.specs.declared.kind.Kind.TheVariants as kind
use Rattle.fp_type_sizes.specs.Sized.{leaf, with_end, times, ends_in_integer}
use Rattle.fp_type_sizes.proofs.Counted.{abstract_arm, alias_arm, array_arm, struct_arm_of, enum_arm, arm}
use Rattle.fp_type_sizes.proofs.sizing.form_extent.Goals as goal

pub returns-in-Abstract : goal.returns-in-Abstract
returns-in-Abstract c = arm c.args.table.now c.args.number _ _ _ _ c.in-Abstract.is c.leaf_if.ensures (abstract_arm c.args.table.now c.args.number)

pub returns-in-Alias : goal.returns-in-Alias
returns-in-Alias c = arm c.args.table.now c.args.number _ _ _ _ c.in-Alias.is c.kind_extent.ensures (alias_arm c.args.table.now c.args.number c.in-Alias.target)

pub returns-in-Array : goal.returns-in-Array
returns-in-Array c =
    let i = c.args.number in
    let n = c.in-Array.size in
    arm c.args.table.now i _ _ _ _ c.in-Array.is
    (c.with_end.ensures ∙ ap (λ (x : Option Size). option_map (with_end (kind.Named i)) x) (c.times_if.ensures ∙ ap (λ (x : Option Size). option_map (times n) x) c.kind_size-one.ensures))
    (array_arm c.args.table.now i n c.in-Array.element c.in-Array.format)

pub returns-in-Struct : goal.returns-in-Struct
returns-in-Struct c =
    let i = c.args.number in
    arm c.args.table.now i _ _ _ _ c.in-Struct.is
    (c.with_end-in-Struct.ensures ∙ ap (λ (x : Option Size). option_map (with_end (kind.Named i)) x) c.within_if.ensures)
    (struct_arm_of c.args.table.now i _ c.as_slice.result.now c.fields_size-members.result c.as_slice.ensures c.fields_size-members.ensures)

pub returns-in-Enum : goal.returns-in-Enum
returns-in-Enum c =
    let i = c.args.number in
    arm c.args.table.now i _ _ _ _ c.in-Enum.is
    (c.leaf_if-in-Enum.ensures ∙ ap (λ (b : Bool). cond b (Some (leaf (kind.Named i))) None) (c.ends_in_integer.ensures ∙ ap ends_in_integer c.kind_extent-in-Enum.ensures))
    (enum_arm c.args.table.now i c.in-Enum.repr c.in-Enum.constants)
