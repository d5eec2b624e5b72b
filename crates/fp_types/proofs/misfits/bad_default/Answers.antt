use Rattle.std.proofs.Common.{◌≡◌, true, false, sym, ◌∙◌}
use Rattle.fp_tables.specs.declared.kind.Kind.TheVariants as kind
use Rattle.fp_type_sizes.proofs.Counted.{no_form_past}
use Rattle.fp_type_sizes.proofs.Limits.{is_sized, sized_is}
use Rattle.fp_types.proofs.Causes.{default_unsized, default_unformed}
use Rattle.fp_types.proofs.misfits.bad_default.Goals as goal

clash : {b : _} → b ≡ true → b ≡ false → ⊥
clash e h = let both : true ≡ false = sym e ∙ h in cc

pub bad_default_of-requires : goal.bad_default_of-requires
bad_default_of-requires c = record {
  sizes = c.requires;
  here = sym c.in-Some.ensures;
  sized = is_sized c.args.types.now c.args.extents.now c.requires (kind.Named c.args.number) (sym c.is_sized-sized.ensures ∙ c.if-not-sized.false);
}

pub returns-then-not-sized : goal.returns-then-not-sized
returns-then-not-sized c =
    default_unsized c.args.types.now c.args.number c.args.place
    (λ s. clash (sized_is c.args.types.now c.args.extents.now c.requires (kind.Named c.args.number) s) (sym c.is_sized-sized.ensures ∙ c.if-not-sized.true))

pub returns-in-None : goal.returns-in-None
returns-in-None c = default_unformed c.args.types.now c.args.number c.args.place (no_form_past c.args.types.now c.args.number (sym c.in-None.ensures))
