-- The grammar of members passes the test for the tokens of lookahead, at each depth.
use Rattle.std.proofs.Common.{ℕ, zero, suc, false, [], ◌∷◌, List, refl, sym, subst}
use Rattle.std.specs.Prelude.{◌≡◌, Result}
use Rattle.fp_lexer.specs.declared.token.Token.{Token}
use Rattle.fp_parse_parts.specs.declared.bare.BareMember.{BareMember}
use Rattle.fp_grammar.specs.declared.halt.Halt.{Halt}
use Rattle.fp_grammar.specs.Seal.{seal}
use Rattle.fp_grammar.specs.Promises.{IsGood, RefsGood, Fits}
use Rattle.fp_grammar.specs.Parses.{Refuses, Parses}
use Rattle.fp_grammar.specs.Throughout.{FitsThroughout}
use Rattle.fp_grammar.proofs.Fits.{good_of}
use Rattle.fp_grammar.proofs.Throughout.{fits_whole}
use Rattle.fp_grammar.proofs.Sealed.{sealed_good}
use Rattle.fp_grammar.proofs.Nesting.{closed_good, nested_good, closed_refuses, open_accepts, open_refuses}
use Rattle.fp_grammar.proofs.Answering.{handing}
use Rattle.fp_parse_pieces.specs.Kinds.{kind}
use Rattle.fp_parse_pieces.specs.Lists.{noted}
use Rattle.fp_parse_defs.specs.Definitions.{definition}
use Rattle.fp_parse_pieces.proofs.WordsFit.{each_kind}
use Rattle.fp_parse_defs.proofs.DefinitionsFit.{definition_fits}
use Rattle.fp_parse_states.proofs.NestedFit.{machine_fits}
use Rattle.fp_parse_components.proofs.PartsFit.{component_fits, interface_fits, parts_fit}
use Rattle.fp_parse_topologies.proofs.TopologiesFit.{instance_fits, members_fit as topology_list_fits, topology_fits}
use Rattle.fp_parse_parts.specs.Members as M
use Rattle.fp_parse_parts.specs.Models.{any_model, model_begins, model_goes_on}
use Rattle.fp_parse_parts.specs.Members.{definition_begins, definition_goes_on, k_module, modules}
use Rattle.fp_parse_parts.specs.Units.{unit, component_parts, topology_members}

pub definition_good : (expressions : ℕ) → RefsGood kind (seal kind (definition expressions) definition_begins definition_goes_on)
definition_good expressions = sealed_good (definition expressions) definition_begins definition_goes_on (definition_fits expressions).predictive refl refl refl (definition_fits expressions).refs

pub any_model_fits : (depth : ℕ) → FitsThroughout kind (any_model depth)
any_model_fits depth = record {
  predictive = refl;
  each = refl;
  refs = ((machine_fits depth).refs, ((component_fits depth).refs, ((interface_fits depth).refs, ((instance_fits depth).refs, (topology_fits depth).refs))));
}

pub model_good : (expressions : ℕ) → RefsGood kind (seal kind (any_model expressions) model_begins model_goes_on)
model_good expressions = sealed_good (any_model expressions) model_begins model_goes_on (any_model_fits expressions).predictive refl refl refl (any_model_fits expressions).refs

pub definition_or_model_good : (expressions : ℕ) → RefsGood kind (M.definition_or_model expressions)
definition_or_model_good expressions = (definition_good expressions, model_good expressions)

pub include_fits : Fits kind M.include
include_fits = record { predictive = refl; some = refl; refs = assumption each_kind }

pub locate_words_fits : Fits kind M.locate_words
locate_words_fits = record { predictive = refl; some = refl; refs = assumption each_kind }

pub locate_fits : Fits kind M.locate
locate_fits = record { predictive = refl; some = refl; refs = assumption each_kind }

pub other_member_good : (expressions : ℕ) → RefsGood kind (M.other_member expressions)
other_member_good expressions = (include_fits.refs, (locate_fits.refs, definition_or_model_good expressions))

-- the sets of modules hold what they promise
pub modules_good : (expressions depth : ℕ) → IsGood kind (modules expressions depth) false false (k_module ∷ []) []
modules_good expressions zero = closed_good (λ w x s. s)
modules_good expressions (suc depth) =
    let g = modules_good expressions depth in
    let d = definition_good expressions in
    let m = model_good expressions in
    nested_good (good_of (M.opened_module expressions depth) refl (assumption (each_kind, g, d, m)))

pub member_fits : (expressions depth : ℕ) → Fits kind (M.member expressions depth)
member_fits expressions depth = let g = modules_good expressions depth in let d = definition_good expressions in let m = model_good expressions in record { predictive = refl; some = refl; refs = assumption (each_kind, g, d, m) }

pub noted_member_fits : (expressions depth : ℕ) → Fits kind (noted (M.member expressions depth))
noted_member_fits expressions depth = let g = modules_good expressions depth in let d = definition_good expressions in let m = model_good expressions in record { predictive = refl; some = refl; refs = assumption (each_kind, g, d, m) }

pub some_members_fits : (expressions depth : ℕ) → Fits kind (M.some_members expressions depth)
some_members_fits expressions depth = let g = modules_good expressions depth in let d = definition_good expressions in let m = model_good expressions in record { predictive = refl; some = refl; refs = assumption (each_kind, g, d, m) }

pub opened_module_fits : (expressions depth : ℕ) → Fits kind (M.opened_module expressions depth)
opened_module_fits expressions depth = let g = modules_good expressions depth in let d = definition_good expressions in let m = model_good expressions in record { predictive = refl; some = refl; refs = assumption (each_kind, g, d, m) }

pub members_fit : (expressions depth : ℕ) → Fits kind (M.members expressions depth)
members_fit expressions depth = let g = modules_good expressions depth in let d = definition_good expressions in let m = model_good expressions in record { predictive = refl; some = refl; refs = assumption (each_kind, g, d, m) }

pub unit_fits : (depth : ℕ) → Fits kind (unit depth)
unit_fits depth = members_fit depth depth

pub component_parts_fit : (depth : ℕ) → Fits kind (component_parts depth)
component_parts_fit depth = fits_whole (parts_fit depth)

pub topology_members_fit : (depth : ℕ) → Fits kind (topology_members depth)
topology_members_fit depth = fits_whole (topology_list_fits depth)

-- no depth is left: there are no modules
pub no_modules : (expressions depth : ℕ) (tokens : List Token) (from : ℕ) → depth ≡ 0 → Refuses kind (M.nested_module expressions depth) tokens from from
no_modules expressions zero tokens from e = closed_refuses (λ w x s. s) tokens from
no_modules expressions (suc depth) tokens from e = cc

-- a module has one depth less inside it
pub module_inside : (expressions depth inner : ℕ) (tokens : List Token) (from : ℕ) (r : Result (BareMember × ℕ) Halt) → depth ≡ suc inner → Parses kind (M.opened_module expressions inner) tokens from r → Parses kind (M.nested_module expressions depth) tokens from r
module_inside expressions depth inner tokens from r e p =
    subst (λ d. Parses kind (M.nested_module expressions d) tokens from r) (sym e) (handing (λ x to i. open_accepts (λ w y s. s) (λ w y s. s) i) (λ to i. open_refuses (λ w y s. s) (λ w y s. s) i) r p)
