use Rattle.std.proofs.Common.{None, sym, ap, subst}
use Rattle.fp_tables.specs.declared.kind.Kind.TheVariants as kind
use Rattle.fp_tree.specs.declared.type_name.TypeForm.{TypeForm}
use Rattle.fp_meaning.specs.Layout.{type_form_items}
use Rattle.fp_type_forms.specs.Written.{IsOnly, KindIs, primitive}
use Rattle.fp_type_forms.specs.Resolved.{Takes}
use Rattle.fp_type_forms.proofs.Taking.{taken_leaf, taken_f32, taken_f64, taken_use}
use Rattle.fp_type_forms.proofs.kinds.kind_taken.Goals as goal

pub returns-in-U8 : goal.returns-in-U8
returns-in-U8 c source scope since = taken_leaf source c.args.marks.now c.args.resolutions.now since scope c.args.form.now kind.U8 c.args.next.now (ap primitive c.in-U8.is)

pub returns-in-U16 : goal.returns-in-U16
returns-in-U16 c source scope since = taken_leaf source c.args.marks.now c.args.resolutions.now since scope c.args.form.now kind.U16 c.args.next.now (ap primitive c.in-U16.is)

pub returns-in-U32 : goal.returns-in-U32
returns-in-U32 c source scope since = taken_leaf source c.args.marks.now c.args.resolutions.now since scope c.args.form.now kind.U32 c.args.next.now (ap primitive c.in-U32.is)

pub returns-in-U64 : goal.returns-in-U64
returns-in-U64 c source scope since = taken_leaf source c.args.marks.now c.args.resolutions.now since scope c.args.form.now kind.U64 c.args.next.now (ap primitive c.in-U64.is)

pub returns-in-I8 : goal.returns-in-I8
returns-in-I8 c source scope since = taken_leaf source c.args.marks.now c.args.resolutions.now since scope c.args.form.now kind.I8 c.args.next.now (ap primitive c.in-I8.is)

pub returns-in-I16 : goal.returns-in-I16
returns-in-I16 c source scope since = taken_leaf source c.args.marks.now c.args.resolutions.now since scope c.args.form.now kind.I16 c.args.next.now (ap primitive c.in-I16.is)

pub returns-in-I32 : goal.returns-in-I32
returns-in-I32 c source scope since = taken_leaf source c.args.marks.now c.args.resolutions.now since scope c.args.form.now kind.I32 c.args.next.now (ap primitive c.in-I32.is)

pub returns-in-I64 : goal.returns-in-I64
returns-in-I64 c source scope since = taken_leaf source c.args.marks.now c.args.resolutions.now since scope c.args.form.now kind.I64 c.args.next.now (ap primitive c.in-I64.is)

pub returns-in-Bool : goal.returns-in-Bool
returns-in-Bool c source scope since = taken_leaf source c.args.marks.now c.args.resolutions.now since scope c.args.form.now kind.Bool c.args.next.now (ap primitive c.in-Bool.is)

pub returns-in-F32 : goal.returns-in-F32
returns-in-F32 c source scope since = subst (λ (t : TypeForm). Takes source c.args.marks.now c.args.resolutions.now (type_form_items since scope t) c.args.next.now c.args.next.now (IsOnly (KindIs source scope t) None)) (sym c.in-F32.is) (taken_f32 source c.args.marks.now c.args.resolutions.now since scope c.args.next.now)

pub returns-in-F64 : goal.returns-in-F64
returns-in-F64 c source scope since = subst (λ (t : TypeForm). Takes source c.args.marks.now c.args.resolutions.now (type_form_items since scope t) c.args.next.now c.args.next.now (IsOnly (KindIs source scope t) None)) (sym c.in-F64.is) (taken_f64 source c.args.marks.now c.args.resolutions.now since scope c.args.next.now)

pub returns-in-Text : goal.returns-in-Text
returns-in-Text c source scope since = subst (λ (t : TypeForm). Takes source c.args.marks.now c.args.resolutions.now (type_form_items since scope t) c.args.next.now c.text_taken.new.next (IsOnly (KindIs source scope t) c.text_taken.result)) (sym c.in-Text.is) (c.text_taken.ensures source scope since)

pub returns-in-Use : goal.returns-in-Use
returns-in-Use c source scope since =
    subst (λ (t : TypeForm). Takes source c.args.marks.now c.args.resolutions.now (type_form_items since scope t) c.args.next.now c.use_taken.new.next (IsOnly (KindIs source scope t) c.use_taken.result)) (sym c.in-Use.is)
    (taken_use source c.args.marks.now c.args.resolutions.now since scope c.in-Use.field-0 c.args.next.now c.use_taken.new.next c.use_taken.result c.use_taken.ensures.kind c.use_taken.ensures.moves)
