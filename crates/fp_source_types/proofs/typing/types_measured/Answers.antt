use Rattle.std.proofs.Common.{List, sym, subst}
use Rattle.fp_type_sizes.specs.declared.written.WrittenType.{WrittenType}
use Rattle.fp_type_forms.specs.declared.resolving.Resolution.{Resolution}
use Rattle.fp_type_forms.specs.Resolved.{AreResolved}
use Rattle.fp_type_forms.specs.Written.{AreWritten}
use Rattle.fp_source_types.proofs.Resulting.{least_of_source, least_of_types, sized_slices, defaulted_slices}
use Rattle.fp_source_types.proofs.typing.types_measured.Goals as goal

pub wholes_broken-requires : goal.wholes_broken-requires
wholes_broken-requires c = record { meanings = c.requires.meanings; sizes = sized_slices c.args.measured.now _ _ c.as_slice-types.ensures c.as_slice-sizes.ensures c.requires.measured }

pub given-requires : goal.given-requires
given-requires c = defaulted_slices c.args.measured.now _ _ c.as_slice-types.ensures c.as_slice-found.ensures c.requires.measured

pub returns-clause-at : goal.returns-clause-at
returns-clause-at c source are = record {
  written = c.as_slice-types.result.now;
  are = subst (λ (ws : List WrittenType). AreWritten source ws) (sym c.as_slice-types.ensures) are;
  types = c.in_ok-at.ensures;
}

pub returns-clause-first : goal.returns-clause-first
returns-clause-first c source laid resolved are =
    let ws = c.as_slice-types.result.now in
    least_of_source source ws c.lesser-first.result (subst (λ (vs : List WrittenType). AreWritten source vs) (sym c.as_slice-types.ensures) are)
    (least_of_types source ws c.args.items.now c.in_ok-parts.parts c.in_ok-wholes.wholes c.lesser-first.result laid c.lesser-first.ensures
    (c.in_ok-parts.ensures source ws (sized_slices c.args.measured.now ws c.as_slice-sizes.result.now c.as_slice-types.ensures c.as_slice-sizes.ensures c.requires.measured) laid
    (subst (λ (rs : List Resolution). AreResolved source c.args.values.now rs c.args.items.now 0) (sym c.as_slice-resolutions.ensures) resolved))
    c.in_ok-wholes.ensures)
