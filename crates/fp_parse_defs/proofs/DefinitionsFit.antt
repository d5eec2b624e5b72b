-- The grammar of definitions passes the test for the tokens of lookahead, at each depth.
use Rattle.std.proofs.Common.{ℕ, ◌∷◌, refl}
use Rattle.fp_grammar.specs.Promises.{RefsGood, Fits}
use Rattle.fp_grammar.specs.Throughout.{FitsThroughout}
use Rattle.fp_grammar.proofs.Sealed.{sealed_good}
use Rattle.fp_grammar.proofs.Throughout.{fits_whole}
use Rattle.fp_parse_pieces.specs.Kinds.{kind}
use Rattle.fp_parse_pieces.proofs.WordsFit.{each_kind}
use Rattle.fp_parse_defs.specs.Language.{expr}
use Rattle.fp_parse_defs.specs.Definitions.{type_begins, expr_goes_on, k_size, type_body, type_name, definition}
use Rattle.fp_parse_defs.proofs.Levels.{kept}

pub expression_good : (depth : ℕ) → RefsGood kind (expr depth)
expression_good depth = (kept depth).exprs

pub type_body_fits : (depth : ℕ) → FitsThroughout kind (type_body depth)
type_body_fits depth = let e = (kept depth).exprs in record { predictive = refl; each = refl; refs = assumption (each_kind, e) }

pub type_good : (depth : ℕ) → RefsGood kind (type_name depth)
type_good depth = let e = (kept depth).exprs in sealed_good (type_body depth) type_begins (k_size ∷ expr_goes_on) refl refl refl refl (assumption (each_kind, e))

pub definition_parts_fit : (depth : ℕ) → FitsThroughout kind (definition depth)
definition_parts_fit depth = let e = (kept depth).exprs in let t = type_good depth in record { predictive = refl; each = refl; refs = assumption (each_kind, e, t) }

pub definition_fits : (depth : ℕ) → Fits kind (definition depth)
definition_fits depth = fits_whole (definition_parts_fit depth)
