use Rattle.std.proofs.Common.{Some, sym, ap, subst}
use Rattle.fp_base.specs.Least.{IsLeast}
use Rattle.fp_tree.specs.declared.type_name.TypeForm.{TypeForm}
use Rattle.fp_tables.specs.declared.kind.Kind.TheVariants as kind
use Rattle.fp_meaning.specs.Layout.{type_form_items}
use Rattle.fp_type_forms.specs.Written.{primitive}
use Rattle.fp_type_forms.specs.Broken.{BrokenByForm}
use Rattle.fp_type_forms.specs.Resolved.{Takes}
use Rattle.fp_type_forms.proofs.Breaking.{leaf_unbroken, f32_broken, f64_broken, use_unbroken}
use Rattle.fp_type_forms.proofs.faults.form_fault.Goals as goal

pub returns-in-U8 : goal.returns-in-U8
returns-in-U8 c source scope since = leaf_unbroken source c.args.marks.now c.args.resolutions.now since scope c.args.place c.args.form.now kind.U8 c.args.next.now (ap primitive c.in-U8.is)

pub returns-in-U16 : goal.returns-in-U16
returns-in-U16 c source scope since = leaf_unbroken source c.args.marks.now c.args.resolutions.now since scope c.args.place c.args.form.now kind.U16 c.args.next.now (ap primitive c.in-U16.is)

pub returns-in-U32 : goal.returns-in-U32
returns-in-U32 c source scope since = leaf_unbroken source c.args.marks.now c.args.resolutions.now since scope c.args.place c.args.form.now kind.U32 c.args.next.now (ap primitive c.in-U32.is)

pub returns-in-U64 : goal.returns-in-U64
returns-in-U64 c source scope since = leaf_unbroken source c.args.marks.now c.args.resolutions.now since scope c.args.place c.args.form.now kind.U64 c.args.next.now (ap primitive c.in-U64.is)

pub returns-in-I8 : goal.returns-in-I8
returns-in-I8 c source scope since = leaf_unbroken source c.args.marks.now c.args.resolutions.now since scope c.args.place c.args.form.now kind.I8 c.args.next.now (ap primitive c.in-I8.is)

pub returns-in-I16 : goal.returns-in-I16
returns-in-I16 c source scope since = leaf_unbroken source c.args.marks.now c.args.resolutions.now since scope c.args.place c.args.form.now kind.I16 c.args.next.now (ap primitive c.in-I16.is)

pub returns-in-I32 : goal.returns-in-I32
returns-in-I32 c source scope since = leaf_unbroken source c.args.marks.now c.args.resolutions.now since scope c.args.place c.args.form.now kind.I32 c.args.next.now (ap primitive c.in-I32.is)

pub returns-in-I64 : goal.returns-in-I64
returns-in-I64 c source scope since = leaf_unbroken source c.args.marks.now c.args.resolutions.now since scope c.args.place c.args.form.now kind.I64 c.args.next.now (ap primitive c.in-I64.is)

pub returns-in-Bool : goal.returns-in-Bool
returns-in-Bool c source scope since = leaf_unbroken source c.args.marks.now c.args.resolutions.now since scope c.args.place c.args.form.now kind.Bool c.args.next.now (ap primitive c.in-Bool.is)

pub returns-in-F32 : goal.returns-in-F32
returns-in-F32 c source scope since =
    subst (λ (t : TypeForm). Takes source c.args.marks.now c.args.resolutions.now (type_form_items since scope t) c.args.next.now c.args.next.now (IsLeast (BrokenByForm source scope c.args.place t) (Some c.refusal_at.result))) (sym c.in-F32.is) (f32_broken source c.args.marks.now c.args.resolutions.now since scope c.args.place c.args.next.now c.refusal_at.result c.refusal_at.ensures)

pub returns-in-F64 : goal.returns-in-F64
returns-in-F64 c source scope since =
    subst (λ (t : TypeForm). Takes source c.args.marks.now c.args.resolutions.now (type_form_items since scope t) c.args.next.now c.args.next.now (IsLeast (BrokenByForm source scope c.args.place t) (Some c.refusal_at-in-F64.result))) (sym c.in-F64.is) (f64_broken source c.args.marks.now c.args.resolutions.now since scope c.args.place c.args.next.now c.refusal_at-in-F64.result c.refusal_at-in-F64.ensures)

pub returns-in-Text : goal.returns-in-Text
returns-in-Text c source scope since = subst (λ (t : TypeForm). Takes source c.args.marks.now c.args.resolutions.now (type_form_items since scope t) c.args.next.now c.optional_size.new.next (IsLeast (BrokenByForm source scope c.args.place t) c.optional_size.result)) (sym c.in-Text.is) (c.optional_size.ensures source scope since)

pub returns-in-Use : goal.returns-in-Use
returns-in-Use c source scope since =
    subst (λ (t : TypeForm). Takes source c.args.marks.now c.args.resolutions.now (type_form_items since scope t) c.args.next.now c.past_use.new.next (IsLeast (BrokenByForm source scope c.args.place t) c.past_use.result)) (sym c.in-Use.is)
    (use_unbroken source c.args.marks.now c.args.resolutions.now since scope c.args.place c.in-Use.field-0 c.args.next.now c.past_use.new.next c.past_use.result c.past_use.ensures.nothing c.past_use.ensures.moves)
