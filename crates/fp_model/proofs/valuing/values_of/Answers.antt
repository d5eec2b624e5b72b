use Rattle.std.proofs.Common.{List, flat_map, sym, ap, subst, ◌∙◌}
use Rattle.fp_base.proofs.Calculus.{least_along}
use Rattle.fp_meaning.specs.declared.item.Item.{Item}
use Rattle.fp_meaning.specs.Meaning.{AreMeanings}
use Rattle.fp_meaning.specs.Names.{definitions_of, uses_of}
use Rattle.fp_meaning.specs.Origins.{expressions}
use Rattle.fp_model.proofs.Judged.{all_valued, found, unbroken_found, valued_found}
use Rattle.fp_model.proofs.Standing.{all_stand}
use Rattle.fp_model.proofs.valuing.values_of.Goals as goal

pub types_measured-requires : goal.types_measured-requires
types_measured-requires c =
    record {
      meanings = subst (λ (is : List Item). AreMeanings (flat_map definitions_of is) (flat_map uses_of is) c.args.uses.now.meanings) (sym c.requires.laid) c.requires.meanings;
      measured = c.in_ok-measured.ensures.measured;
    }

pub formats_broken-requires : goal.formats_broken-requires
formats_broken-requires c = c.requires.definitions ∙ ap (λ (is : List Item). flat_map definitions_of is) (sym c.requires.laid)

pub parts_broken-of_parts-requires : goal.parts_broken-of_parts-requires
parts_broken-of_parts-requires c = c.in_ok-measured.ensures.measured

pub returns-in_ok-given-in-None-clause-values : goal.returns-in_ok-given-in-None-clause-values
returns-in_ok-given-in-None-clause-values c =
    let f =
    found c.args.source.now c.args.items.now c.requires.laid c.args.uses.now.meanings c.in_ok-marks.marks.at c.as_slice-values.result.now c.as_slice-values.ensures c.requires.meanings c.in_ok-marks.ensures.at
    c.in_ok-measured.measured.resolutions c.in_ok-measured.measured.written c.in_ok-measured.ensures.resolved c.in_ok-measured.ensures.written c.in_ok-types.types.at c.in_ok-types.ensures.at
    c.in_ok-marks.marks.first c.in_ok-types.types.first c.in_ok-formats.formats c.parts_broken-of_parts.result c.lesser-behind.result c.lesser-of_types.result c.lesser-first.result c.in_ok-marks.ensures.first
    c.in_ok-types.ensures.first c.in_ok-formats.ensures c.parts_broken-of_parts.ensures c.lesser-behind.ensures c.lesser-of_types.ensures c.lesser-first.ensures in
    all_stand c.args.source.now c.in_ok-marks.marks.at (expressions c.args.source.now) c.in_ok-marks.ensures.at
    (all_valued c.args.source.now c.in_ok-marks.marks.at c.in_ok-measured.measured.resolutions c.in_ok-measured.measured.written c.in_ok-types.types.at c.lesser-first.result f c.in-None.is
    (c.unbroken_values_exist.ensures c.args.source.now c.args.uses.now.meanings c.in_ok-types.types.at c.requires.meanings))

pub returns-in_ok-given-in-None-clause-valued : goal.returns-in_ok-given-in-None-clause-valued
returns-in_ok-given-in-None-clause-valued c =
    let f =
    found c.args.source.now c.args.items.now c.requires.laid c.args.uses.now.meanings c.in_ok-marks.marks.at c.as_slice-values.result.now c.as_slice-values.ensures c.requires.meanings c.in_ok-marks.ensures.at
    c.in_ok-measured.measured.resolutions c.in_ok-measured.measured.written c.in_ok-measured.ensures.resolved c.in_ok-measured.ensures.written c.in_ok-types.types.at c.in_ok-types.ensures.at
    c.in_ok-marks.marks.first c.in_ok-types.types.first c.in_ok-formats.formats c.parts_broken-of_parts.result c.lesser-behind.result c.lesser-of_types.result c.lesser-first.result c.in_ok-marks.ensures.first
    c.in_ok-types.ensures.first c.in_ok-formats.ensures c.parts_broken-of_parts.ensures c.lesser-behind.ensures c.lesser-of_types.ensures c.lesser-first.ensures in
    valued_found c.args.source.now c.in_ok-marks.marks.at c.in_ok-measured.measured.resolutions c.in_ok-measured.measured.written c.in_ok-types.types.at c.lesser-first.result f c.in-None.is
    c.in_ok-given-in-None.given c.in_ok-given-in-None.ensures
    (c.unbroken_values_exist.ensures c.args.source.now c.args.uses.now.meanings c.in_ok-types.types.at c.requires.meanings)
    (λ constants types. c.unbroken_types_exist.ensures c.args.source.now c.args.uses.now.meanings c.in_ok-types.types.at c.requires.meanings c.requires.enumerations constants types)

pub returns-in_ok-given-in-None-clause-unbroken : goal.returns-in_ok-given-in-None-clause-unbroken
returns-in_ok-given-in-None-clause-unbroken c =
    let f =
    found c.args.source.now c.args.items.now c.requires.laid c.args.uses.now.meanings c.in_ok-marks.marks.at c.as_slice-values.result.now c.as_slice-values.ensures c.requires.meanings c.in_ok-marks.ensures.at
    c.in_ok-measured.measured.resolutions c.in_ok-measured.measured.written c.in_ok-measured.ensures.resolved c.in_ok-measured.ensures.written c.in_ok-types.types.at c.in_ok-types.ensures.at
    c.in_ok-marks.marks.first c.in_ok-types.types.first c.in_ok-formats.formats c.parts_broken-of_parts.result c.lesser-behind.result c.lesser-of_types.result c.lesser-first.result c.in_ok-marks.ensures.first
    c.in_ok-types.ensures.first c.in_ok-formats.ensures c.parts_broken-of_parts.ensures c.lesser-behind.ensures c.lesser-of_types.ensures c.lesser-first.ensures in
    unbroken_found c.args.source.now c.in_ok-marks.marks.at c.in_ok-measured.measured.resolutions c.in_ok-measured.measured.written c.in_ok-types.types.at c.lesser-first.result f c.in-None.is

pub returns-in-Some-clause-stop : goal.returns-in-Some-clause-stop
returns-in-Some-clause-stop c =
    let f =
    found c.args.source.now c.args.items.now c.requires.laid c.args.uses.now.meanings c.in_ok-marks.marks.at c.as_slice-values.result.now c.as_slice-values.ensures c.requires.meanings c.in_ok-marks.ensures.at
    c.in_ok-measured.measured.resolutions c.in_ok-measured.measured.written c.in_ok-measured.ensures.resolved c.in_ok-measured.ensures.written c.in_ok-types.types.at c.in_ok-types.ensures.at
    c.in_ok-marks.marks.first c.in_ok-types.types.first c.in_ok-formats.formats c.parts_broken-of_parts.result c.lesser-behind.result c.lesser-of_types.result c.lesser-first.result c.in_ok-marks.ensures.first
    c.in_ok-types.ensures.first c.in_ok-formats.ensures c.parts_broken-of_parts.ensures c.lesser-behind.ensures c.lesser-of_types.ensures c.lesser-first.ensures in
    least_along c.in-Some.is f.least
