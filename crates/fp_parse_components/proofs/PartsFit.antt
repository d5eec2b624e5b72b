-- The grammars of components and interfaces pass the test for the tokens of lookahead, at each depth.
use Rattle.std.proofs.Common.{ℕ, [], ◌∷◌, refl}
use Rattle.fp_grammar.specs.Promises.{RefsGood}
use Rattle.fp_grammar.specs.Throughout.{FitsThroughout}
use Rattle.fp_grammar.proofs.Sealed.{sealed_good}
use Rattle.fp_grammar.proofs.Sames.{same_good}
use Rattle.fp_parse_pieces.specs.Kinds.{kind}
use Rattle.fp_parse_pieces.proofs.WordsFit.{each_kind}
use Rattle.fp_parse_defs.proofs.DefinitionsFit.{expression_good, type_good}
use Rattle.fp_parse_states.proofs.NestedFit.{rest_good}
use Rattle.fp_parse_components.specs.Kinds.{k_word, general_kind, severity_words, special_kind, update_words}
use Rattle.fp_parse_components.specs.Parts.{definition_begins, definition_body, definition_goes_on, definition_sealed, interface_parts, part_begins, part_body, part_goes_on, part_of, parts, stated_goes_on, stated_part, words_first}
use Rattle.fp_parse_components.specs.Components.{component, interface}
use Rattle.fp_parse_components.proofs.StatedSame.{same_stated}

pub general_kind_fits : FitsThroughout kind general_kind
general_kind_fits = record { predictive = refl; each = refl; refs = assumption each_kind }

pub special_kind_fits : FitsThroughout kind special_kind
special_kind_fits = record { predictive = refl; each = refl; refs = assumption each_kind }

pub severity_fits : FitsThroughout kind severity_words
severity_fits = record { predictive = refl; each = refl; refs = assumption each_kind }

pub update_fits : FitsThroughout kind update_words
update_fits = record { predictive = refl; each = refl; refs = assumption each_kind }

module _ (depth : ℕ) where
  pub definition_fits : FitsThroughout kind (definition_body depth)
  definition_fits = let e = expression_good depth in let t = type_good depth in record { predictive = refl; each = refl; refs = assumption (each_kind, e, t) }

  definition_good : RefsGood kind (definition_sealed depth)
  definition_good = sealed_good (definition_body depth) definition_begins definition_goes_on refl refl refl refl definition_fits.refs

  pub stated_fits : FitsThroughout kind (words_first depth)
  stated_fits = let e = expression_good depth in let r = rest_good depth in record { predictive = refl; each = refl; refs = assumption (each_kind, e, r) }

  stated_good : RefsGood kind (stated_part depth)
  stated_good = same_good (same_stated depth) (sealed_good (words_first depth) (k_word "state" ∷ []) stated_goes_on refl refl refl refl stated_fits.refs)

  pub part_fits : FitsThroughout kind (part_body depth)
  part_fits =
      let e = expression_good depth in
      let t = type_good depth in
      let d = definition_good in
      let s = stated_good in
      record { predictive = refl; each = refl; refs = assumption (each_kind, e, t, d, s) }

  part_good : RefsGood kind (part_of depth)
  part_good = sealed_good (part_body depth) part_begins part_goes_on refl refl refl refl part_fits.refs

  pub parts_fit : FitsThroughout kind (parts depth)
  parts_fit = let p = part_good in record { predictive = refl; each = refl; refs = assumption (each_kind, p) }

  pub component_fits : FitsThroughout kind (component depth)
  component_fits = let p = part_good in record { predictive = refl; each = refl; refs = assumption (each_kind, p) }

  pub interface_parts_fit : FitsThroughout kind (interface_parts depth)
  interface_parts_fit = let e = expression_good depth in record { predictive = refl; each = refl; refs = assumption (each_kind, e) }

  pub interface_fits : FitsThroughout kind (interface depth)
  interface_fits = let e = expression_good depth in record { predictive = refl; each = refl; refs = assumption (each_kind, e) }
