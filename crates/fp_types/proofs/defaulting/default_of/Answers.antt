use Rattle.std.proofs.Common.{refl, sym, ◌∙◌}
use Rattle.fp_base.proofs.Options.{if_ok_then}
use Rattle.fp_tables.specs.declared.kind.Kind.TheVariants as kind
use Rattle.fp_type_sizes.proofs.Counted.{no_form_of}
use Rattle.fp_types.proofs.Passed.{unsized, unformed, by_own}
use Rattle.fp_type_sizes.proofs.Limits.{is_sized}
use Rattle.fp_types.proofs.defaulting.default_of.Goals as goal

pub returns-then-not-sized : goal.returns-then-not-sized
returns-then-not-sized c =
    unsized c.args.types.now c.args.table.now c.args.number c.args.extents.now c.requires.known.sizes (sym c.is_sized-sized.ensures ∙ c.if-not-sized.true)

pub returns-in-Some : goal.returns-in-Some
returns-in-Some c =
    let ws = c.args.types.now in
    let size = is_sized ws c.args.extents.now c.requires.known.sizes (kind.Named c.args.number) (sym c.is_sized-sized.ensures ∙ c.if-not-sized.false) in
    if_ok_then c.form_default.result _ _
    (λ o h. by_own ws c.args.table.now c.args.number c.args.written.now.default c.in-Some.form o (record { written = c.args.written.now; here = c.requires.here; form = c.in-Some.is }) size
    (record { written = c.args.written.now; here = c.requires.here; own = refl }) h) c.form_default.ensures

pub returns-in-None : goal.returns-in-None
returns-in-None c = unformed c.args.types.now c.args.table.now c.args.number (no_form_of c.args.types.now c.args.number c.args.written.now c.requires.here c.in-None.is)
