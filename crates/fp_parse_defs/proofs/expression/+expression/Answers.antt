use Rattle.std.proofs.Common.{rules, ◌≡◌, ◌<◌, ◌≤◌, ◌-◌, suc, arith, refl, sym, ap, subst, ◌∙◌, ◌∷◌, []}
use Rattle.std.proofs.lemmas.Bool.{lt-ltb, le-ltb}
use Rattle.fp_base.proofs.Numbers.{max_within}
use Rattle.fp_grammar.specs.Grammar.Grammar.{alt}
use Rattle.fp_grammar.proofs.Answering.{passing, handing, absent_now, refused_later, as_value, absent_map, absent_both}
use Rattle.fp_grammar.proofs.Choices.{absent_beside, absent_unless}
use Rattle.fp_grammar.proofs.Sealed.{sealed_accepts, sealed_refuses}
use Rattle.fp_grammar.proofs.Walk.{begin, under, next, done, stop, stop_first, as_made}
use Rattle.fp_grammar.proofs.Steps.{absent, map_accepts, map_refuses, alt_first_accepts, alt_first_refuses, alt_second_accepts, alt_second_refuses, optional_absent, optional_accepts, optional_refuses}
use Rattle.fp_grammar.proofs.TurnSteps.{turn_next, turn_absent, turn_refuses}
use Rattle.fp_grammar.proofs.ChainSteps.{chain_begin, chain_first_refused, chain_next, chain_done, chain_full, chain_stop}
use Rattle.fp_parse_pieces.specs.Kinds.{k_name, k_minus, k_open, k_open_bracket}
use Rattle.fp_parse_defs.specs.Words.{nesting, literal, named}
use Rattle.fp_parse_pieces.specs.Lists.{gathered, separated_by, commas}
use Rattle.fp_parse_pieces.specs.Lists.ListPiece.{element}
use Rattle.fp_parse_defs.specs.Language
use Rattle.fp_parse_defs.specs.Language.{with_item, with_member}
use Rattle.fp_parse_pieces.proofs.WordsFit.{each_kind, building_as}
use Rattle.fp_parse_defs.proofs.Levels.{factor_fits, term_fits, expr_fits, product_fits, sum_fits, negated_fits, group_fits, noted_expr_fits, items_fits, array_fits, setting_fits, noted_setting_fits, some_members_fits, structure_fits, inside_fits, nested_closed, nested_open, low_factor_accepts, low_factor_refuses, low_term_accepts, low_term_refuses}
use Rattle.fp_parse_defs.proofs.Parts.{absent_seq, separator_accepts, separator_refuses, combined_low}
use Rattle.fp_parse_defs.proofs.expression.+expression.Goals as goal

pub negated-returns-in_err-minus-clause-parses : goal.negated-returns-in_err-minus-clause-parses
negated-returns-in_err-minus-clause-parses t c = passing _ _ (λ to p. stop_first (under (begin _ _ (negated_fits _))) p) c.in_err-minus.ensures c.from_residual.ensures.1

pub negated-returns-in_err-operand-clause-parses : goal.negated-returns-in_err-operand-clause-parses
negated-returns-in_err-operand-clause-parses t c = passing _ _ (λ to p. stop (next (under (begin _ _ (negated_fits _))) c.in_ok-minus.ensures) p) c.in_err-operand.ensures.parses c.from_residual-in_err-operand.ensures.1

pub negated-returns-clause-parses : goal.negated-returns-clause-parses
negated-returns-clause-parses t c = as_value (sym c.in_ok-negative.ensures) (done (next (under (begin _ _ (negated_fits _))) c.in_ok-minus.ensures) c.in_ok-operand.ensures.parses)

pub group-returns-in_err-opening-clause-parses : goal.group-returns-in_err-opening-clause-parses
group-returns-in_err-opening-clause-parses t c = passing _ _ (λ to p. stop_first (under (begin _ _ (group_fits _))) p) c.in_err-opening.ensures c.from_residual.ensures.1

pub group-returns-in_err-inner-clause-parses : goal.group-returns-in_err-inner-clause-parses
group-returns-in_err-inner-clause-parses t c = passing _ _ (λ to p. stop_first (next (under (begin _ _ (group_fits _))) c.in_ok-opening.ensures) p) c.in_err-inner.ensures.parses c.from_residual-in_err-inner.ensures.1

pub group-returns-in_err-closing-clause-parses : goal.group-returns-in_err-closing-clause-parses
group-returns-in_err-closing-clause-parses t c = passing _ _ (λ to p. stop (next (next (under (begin _ _ (group_fits _))) c.in_ok-opening.ensures) c.in_ok-inner.ensures.parses) p) c.in_err-closing.ensures c.from_residual-in_err-closing.ensures.1

pub group-returns-clause-parses : goal.group-returns-clause-parses
group-returns-clause-parses t c = as_value (sym c.in_ok-grouped.ensures) (done (next (next (under (begin _ _ (group_fits _))) c.in_ok-opening.ensures) c.in_ok-inner.ensures.parses) c.in_ok-closing.ensures)

pub bracketed-returns-in_err-opening-clause-parses : goal.bracketed-returns-in_err-opening-clause-parses
bracketed-returns-in_err-opening-clause-parses t c = passing _ _ (λ to p. stop_first (under (begin _ _ (array_fits _))) p) c.in_err-opening.ensures c.from_residual.ensures.1

pub bracketed-returns-in_err-inner-clause-parses : goal.bracketed-returns-in_err-inner-clause-parses
bracketed-returns-in_err-inner-clause-parses t c = passing _ _ (λ to p. stop_first (next (under (begin _ _ (array_fits _))) c.in_ok-opening.ensures) p) c.in_err-inner.ensures.parses c.from_residual-in_err-inner.ensures.1

pub bracketed-returns-in_err-closing-clause-parses : goal.bracketed-returns-in_err-closing-clause-parses
bracketed-returns-in_err-closing-clause-parses t c = passing _ _ (λ to p. stop (next (next (under (begin _ _ (array_fits _))) c.in_ok-opening.ensures) c.in_ok-inner.ensures.parses) p) c.in_err-closing.ensures c.from_residual-in_err-closing.ensures.1

pub bracketed-returns-clause-parses : goal.bracketed-returns-clause-parses
bracketed-returns-clause-parses t c = as_value (sym c.array.ensures) (done (next (next (under (begin _ _ (array_fits _))) c.in_ok-opening.ensures) c.in_ok-inner.ensures.parses) c.in_ok-closing.ensures)

pub braced-returns-in_err-opening-clause-parses : goal.braced-returns-in_err-opening-clause-parses
braced-returns-in_err-opening-clause-parses t c = passing _ _ (λ to p. stop_first (under (begin _ _ (structure_fits _))) p) c.in_err-opening.ensures c.from_residual.ensures.1

pub braced-returns-in_err-inner-clause-parses : goal.braced-returns-in_err-inner-clause-parses
braced-returns-in_err-inner-clause-parses t c = passing _ _ (λ to p. stop_first (next (under (begin _ _ (structure_fits _))) c.in_ok-opening.ensures) p) c.in_err-inner.ensures.parses c.from_residual-in_err-inner.ensures.1

pub braced-returns-in_err-closing-clause-parses : goal.braced-returns-in_err-closing-clause-parses
braced-returns-in_err-closing-clause-parses t c = passing _ _ (λ to p. stop (next (next (under (begin _ _ (structure_fits _))) c.in_ok-opening.ensures) c.in_ok-inner.ensures.parses) p) c.in_err-closing.ensures c.from_residual-in_err-closing.ensures.1

pub braced-returns-clause-parses : goal.braced-returns-clause-parses
braced-returns-clause-parses t c = as_value (sym c.structure.ensures) (done (next (next (under (begin _ _ (structure_fits _))) c.in_ok-opening.ensures) c.in_ok-inner.ensures.parses) c.in_ok-closing.ensures)

pub setting-returns-in_err-name-clause-parses : goal.setting-returns-in_err-name-clause-parses
setting-returns-in_err-name-clause-parses t c = passing _ _ (λ to p. stop_first (under (begin _ _ (setting_fits _))) p) c.in_err-name.ensures c.from_residual.ensures.1

pub setting-returns-in_err-at-clause-parses : goal.setting-returns-in_err-at-clause-parses
setting-returns-in_err-at-clause-parses t c = passing _ _ (λ to p. stop_first (next (under (begin _ _ (setting_fits _))) c.in_ok-name.ensures) p) c.in_err-at.ensures c.from_residual-in_err-at.ensures.1

pub setting-returns-in_err-value-clause-parses : goal.setting-returns-in_err-value-clause-parses
setting-returns-in_err-value-clause-parses t c = passing _ _ (λ to p. stop (next (next (under (begin _ _ (setting_fits _))) c.in_ok-name.ensures) c.in_ok-at.ensures) p) c.in_err-value.ensures.parses c.from_residual-in_err-value.ensures.1

pub setting-returns-clause-parses : goal.setting-returns-clause-parses
setting-returns-clause-parses t c = done (next (next (under (begin _ _ (setting_fits _))) c.in_ok-name.ensures) c.in_ok-at.ensures) c.in_ok-value.ensures.parses

pub noted_expression-returns-in_err-lines-clause-parses : goal.noted_expression-returns-in_err-lines-clause-parses
noted_expression-returns-in_err-lines-clause-parses t c = passing _ _ (λ to p. stop_first (under (begin _ _ (noted_expr_fits _))) p) c.in_err-lines.ensures c.from_residual.ensures.1

pub noted_expression-returns-in_err-node-clause-parses : goal.noted_expression-returns-in_err-node-clause-parses
noted_expression-returns-in_err-node-clause-parses t c = passing _ _ (λ to p. stop_first (next (under (begin _ _ (noted_expr_fits _))) c.in_ok-lines.ensures) p) c.in_err-node.ensures.parses c.from_residual-in_err-node.ensures.1

pub noted_expression-returns-in_err-more-clause-parses : goal.noted_expression-returns-in_err-more-clause-parses
noted_expression-returns-in_err-more-clause-parses t c = passing _ _ (λ to p. stop (next (next (under (begin _ _ (noted_expr_fits _))) c.in_ok-lines.ensures) c.in_ok-node.ensures.parses) p) c.in_err-more.ensures c.from_residual-in_err-more.ensures.1

pub noted_expression-returns-clause-parses : goal.noted_expression-returns-clause-parses
noted_expression-returns-clause-parses t c = as_value (ap (λ l. (c.in_ok-node.node, l)) (sym c.in_ok-lines-2.ensures)) (done (next (next (under (begin _ _ (noted_expr_fits _))) c.in_ok-lines.ensures) c.in_ok-node.ensures.parses) c.in_ok-more.ensures)

pub noted_setting-returns-in_err-lines-clause-parses : goal.noted_setting-returns-in_err-lines-clause-parses
noted_setting-returns-in_err-lines-clause-parses t c = passing _ _ (λ to p. stop_first (under (begin _ _ (noted_setting_fits _))) p) c.in_err-lines.ensures c.from_residual.ensures.1

pub noted_setting-returns-in_err-node-clause-parses : goal.noted_setting-returns-in_err-node-clause-parses
noted_setting-returns-in_err-node-clause-parses t c = passing _ _ (λ to p. stop_first (next (under (begin _ _ (noted_setting_fits _))) c.in_ok-lines.ensures) p) c.in_err-node.ensures.parses c.from_residual-in_err-node.ensures.1

pub noted_setting-returns-in_err-more-clause-parses : goal.noted_setting-returns-in_err-more-clause-parses
noted_setting-returns-in_err-more-clause-parses t c = passing _ _ (λ to p. stop (next (next (under (begin _ _ (noted_setting_fits _))) c.in_ok-lines.ensures) c.in_ok-node.ensures.parses) p) c.in_err-more.ensures c.from_residual-in_err-more.ensures.1

pub noted_setting-returns-clause-parses : goal.noted_setting-returns-clause-parses
noted_setting-returns-clause-parses t c = as_value (ap (λ l. (c.in_ok-node.node, l)) (sym c.in_ok-lines-2.ensures)) (done (next (next (under (begin _ _ (noted_setting_fits _))) c.in_ok-lines.ensures) c.in_ok-node.ensures.parses) c.in_ok-more.ensures)

pub nested-returns-then-depth-eq0-clause-parses : goal.nested-returns-then-depth-eq0-clause-parses
nested-returns-then-depth-eq0-clause-parses t c = nested_closed _ _ _ c.if-depth-eq0.true

pub nested-returns-clause-parses : goal.nested-returns-clause-parses
nested-returns-clause-parses t c = nested_open _ _ _ _ _ (omega (arith, c.if-depth-eq0.false)) c.inside.ensures.parses

pub factor-returns-then-name_at-clause-parses : goal.factor-returns-then-name_at-clause-parses
factor-returns-then-name_at-clause-parses t c =
    let first = absent_beside {b = literal} (k_name ∷ []) c.if-name_at.ensures refl refl refl (factor_fits c.args.depth).refs.0 in
    let third = absent_beside {b = Language.nested c.args.depth} (k_name ∷ []) c.if-name_at.ensures refl refl refl (factor_fits c.args.depth).refs.1.1 in
    handing (λ x to p. sealed_accepts (alt_second_accepts first (alt_first_accepts third p))) (λ to p. sealed_refuses (alt_second_refuses first (alt_first_refuses third p))) _ c.named.ensures

pub factor-returns-then-nested_at-clause-parses : goal.factor-returns-then-nested_at-clause-parses
factor-returns-then-nested_at-clause-parses t c =
    let first = absent_beside {b = literal} nesting c.if-nested_at.ensures refl refl refl (factor_fits c.args.depth).refs.0 in
    let second = absent_beside {b = named} nesting c.if-nested_at.ensures refl refl refl (factor_fits c.args.depth).refs.1.0 in
    handing (λ x to p. sealed_accepts (alt_second_accepts first (alt_second_accepts second p))) (λ to p. sealed_refuses (alt_second_refuses first (alt_second_refuses second p))) _ c.nested.ensures.parses

pub factor-returns-clause-parses : goal.factor-returns-clause-parses
factor-returns-clause-parses t c =
    let second = absent_unless {b = named} c.if-name_at.ensures refl refl (factor_fits c.args.depth).refs.1.0 in
    let third = absent_unless {b = Language.nested c.args.depth} c.if-nested_at.ensures refl refl (factor_fits c.args.depth).refs.1.1 in
    let others = absent_both second third in
    handing (λ x to p. sealed_accepts (alt_first_accepts others p)) (λ to p. sealed_refuses (alt_first_refuses others p)) _ c.literal.ensures

pub inside-returns-then-mark_at-clause-parses : goal.inside-returns-then-mark_at-clause-parses
inside-returns-then-mark_at-clause-parses t c =
    let others = absent_beside {b = alt (Language.group c.args.depth) (alt (Language.array c.args.depth) (Language.structure c.args.depth))} (k_minus ∷ []) c.if-mark_at.ensures refl refl refl (inside_fits c.args.depth).refs.1 in
    handing (λ x to p. alt_first_accepts others p) (λ to p. alt_first_refuses others p) _ c.negated.ensures.parses

pub inside-returns-then-mark_at-2-clause-parses : goal.inside-returns-then-mark_at-2-clause-parses
inside-returns-then-mark_at-2-clause-parses t c =
    let first = absent_beside {b = Language.negated c.args.depth} (k_open ∷ []) c.if-mark_at-2.ensures refl refl refl (inside_fits c.args.depth).refs.0 in
    let others = absent_beside {b = alt (Language.array c.args.depth) (Language.structure c.args.depth)} (k_open ∷ []) c.if-mark_at-2.ensures refl refl refl (inside_fits c.args.depth).refs.1.1 in
    handing (λ x to p. alt_second_accepts first (alt_first_accepts others p)) (λ to p. alt_second_refuses first (alt_first_refuses others p)) _ c.group.ensures.parses

pub inside-returns-then-mark_at-3-clause-parses : goal.inside-returns-then-mark_at-3-clause-parses
inside-returns-then-mark_at-3-clause-parses t c =
    let first = absent_beside {b = Language.negated c.args.depth} (k_open_bracket ∷ []) c.if-mark_at-3.ensures refl refl refl (inside_fits c.args.depth).refs.0 in
    let second = absent_beside {b = Language.group c.args.depth} (k_open_bracket ∷ []) c.if-mark_at-3.ensures refl refl refl (inside_fits c.args.depth).refs.1.0 in
    let others = absent_beside {b = Language.structure c.args.depth} (k_open_bracket ∷ []) c.if-mark_at-3.ensures refl refl refl (inside_fits c.args.depth).refs.1.1.1 in
    handing (λ x to p. alt_second_accepts first (alt_second_accepts second (alt_first_accepts others p))) (λ to p. alt_second_refuses first (alt_second_refuses second (alt_first_refuses others p))) _ c.bracketed.ensures.parses

pub inside-returns-clause-parses : goal.inside-returns-clause-parses
inside-returns-clause-parses t c =
    let first = absent_unless {b = Language.negated c.args.depth} c.if-mark_at.ensures refl refl (inside_fits c.args.depth).refs.0 in
    let second = absent_unless {b = Language.group c.args.depth} c.if-mark_at-2.ensures refl refl (inside_fits c.args.depth).refs.1.0 in
    let third = absent_unless {b = Language.array c.args.depth} c.if-mark_at-3.ensures refl refl (inside_fits c.args.depth).refs.1.1.0 in
    handing (λ x to p. alt_second_accepts first (alt_second_accepts second (alt_second_accepts third p))) (λ to p. alt_second_refuses first (alt_second_refuses second (alt_second_refuses third p))) _ c.braced.ensures.parses

pub expression-returns-in_err-sum-clause-parses : goal.expression-returns-in_err-sum-clause-parses
expression-returns-in_err-sum-clause-parses t c = passing _ _ (λ to p. sealed_refuses (chain_first_refused (expr_fits _) p)) c.in_err-sum.ensures.parses c.from_residual.ensures.1

pub expression-summands-init : goal.expression-summands-init
expression-summands-init t c = (chain_begin (expr_fits _) c.in_ok-sum.ensures.parses, c.in_ok-sum.ensures.within)

pub expression-returns-in-None-clause-parses : goal.expression-returns-in-None-clause-parses
expression-returns-in-None-clause-parses t c = sealed_accepts (chain_done c.summands.invariant.0 (absent_seq (absent c.in-None.ensures)))

pub expression-returns-then-sum-depth-clause-parses : goal.expression-returns-then-sum-depth-clause-parses
expression-returns-then-sum-depth-clause-parses t c = sealed_accepts (chain_full c.summands.invariant.0 (le-ltb _ _ (omega (arith, c.if-sum-depth.true))))

pub expression-returns-in_err-right-in-Some-clause-parses : goal.expression-returns-in_err-right-in-Some-clause-parses
expression-returns-in_err-right-in-Some-clause-parses t c =
    let low : c.summands.sum.height < c.args.depth = omega (arith, c.if-sum-depth.false) in
    let pos : 0 < c.args.depth = omega (arith, low) in
    let less : c.args.depth ≡ suc (c.args.depth - 1) = omega (arith, low) in
    passing _ _ (λ to p. sealed_refuses (chain_stop c.summands.invariant.0 (lt-ltb _ _ low) (λ e. absurd (omega (arith, e, p.place))) (stop (next (begin _ _ (sum_fits _ pos)) c.in-Some.ensures.1) (low_term_refuses _ _ less p)))) c.in_err-right-in-Some.ensures.parses c.from_residual-in_err-right-in-Some.ensures.1

pub expression-summands-preserved : goal.expression-summands-preserved
expression-summands-preserved t c =
    let low : c.summands.sum.height < c.args.depth = omega (arith, c.if-sum-depth.false) in
    let pos : 0 < c.args.depth = omega (arith, low) in
    let less : c.args.depth ≡ suc (c.args.depth - 1) = omega (arith, low) in (
      building_as (sym c.in_ok-sum-in-Some.ensures) (chain_next c.summands.invariant.0 (lt-ltb _ _ low) (done (next (begin _ _ (sum_fits _ pos)) c.in-Some.ensures.1) (low_term_accepts _ _ less c.in_ok-right-in-Some.ensures.parses))),
      subst (λ m. m.height ≤ c.args.depth) (sym c.in_ok-sum-in-Some.ensures) (combined_low _ _ _ low c.in_ok-right-in-Some.ensures.within),
    )

pub term-returns-in_err-product-clause-parses : goal.term-returns-in_err-product-clause-parses
term-returns-in_err-product-clause-parses t c = passing _ _ (λ to p. sealed_refuses (chain_first_refused (term_fits _) p)) c.in_err-product.ensures.parses c.from_residual.ensures.1

pub term-factors-init : goal.term-factors-init
term-factors-init t c = (chain_begin (term_fits _) c.in_ok-product.ensures.parses, c.in_ok-product.ensures.within)

pub term-returns-in-None-clause-parses : goal.term-returns-in-None-clause-parses
term-returns-in-None-clause-parses t c = sealed_accepts (chain_done c.factors.invariant.0 (absent_seq (absent c.in-None.ensures)))

pub term-returns-then-product-depth-clause-parses : goal.term-returns-then-product-depth-clause-parses
term-returns-then-product-depth-clause-parses t c = sealed_accepts (chain_full c.factors.invariant.0 (le-ltb _ _ (omega (arith, c.if-product-depth.true))))

pub term-returns-in_err-right-in-Some-clause-parses : goal.term-returns-in_err-right-in-Some-clause-parses
term-returns-in_err-right-in-Some-clause-parses t c =
    let low : c.factors.product.height < c.args.depth = omega (arith, c.if-product-depth.false) in
    let pos : 0 < c.args.depth = omega (arith, low) in
    let less : c.args.depth ≡ suc (c.args.depth - 1) = omega (arith, low) in
    passing _ _ (λ to p. sealed_refuses (chain_stop c.factors.invariant.0 (lt-ltb _ _ low) (λ e. absurd (omega (arith, e, p.place))) (stop (next (begin _ _ (product_fits _ pos)) c.in-Some.ensures.1) (low_factor_refuses _ _ less p)))) c.in_err-right-in-Some.ensures.parses c.from_residual-in_err-right-in-Some.ensures.1

pub term-factors-preserved : goal.term-factors-preserved
term-factors-preserved t c =
    let low : c.factors.product.height < c.args.depth = omega (arith, c.if-product-depth.false) in
    let pos : 0 < c.args.depth = omega (arith, low) in
    let less : c.args.depth ≡ suc (c.args.depth - 1) = omega (arith, low) in (
      building_as (sym c.in_ok-product-in-Some.ensures) (chain_next c.factors.invariant.0 (lt-ltb _ _ low) (done (next (begin _ _ (product_fits _ pos)) c.in-Some.ensures.1) (low_factor_accepts _ _ less c.in_ok-right-in-Some.ensures.parses))),
      subst (λ m. m.height ≤ c.args.depth) (sym c.in_ok-product-in-Some.ensures) (combined_low _ _ _ low c.in_ok-right-in-Some.ensures.within),
    )

pub items-returns-in_err-first-clause-parses : goal.items-returns-in_err-first-clause-parses
items-returns-in_err-first-clause-parses t c = passing _ _ (λ to p. stop_first (under (begin _ _ (items_fits _))) (map_refuses p)) c.in_err-first.ensures.parses c.from_residual.ensures.1

pub items-separators-init : goal.items-separators-init
items-separators-init t c = (
  as_made (λ rest. ap (λ z. gathered with_item z (element c.in_ok-first.first c.in_ok-first.first_lines ∷ rest)) (sym c.no_items-items.ensures)) (next (under (begin _ _ (items_fits _))) (map_accepts c.in_ok-first.ensures.parses)),
  subst (λ z. z.height ≤ c.args.depth) (sym c.no_items-items.ensures) (omega arith),
  c.in_ok-first.ensures.within,
)

pub items-returns-then-not-comma_at-clause-parses : goal.items-returns-then-not-comma_at-clause-parses
items-returns-then-not-comma_at-clause-parses t c = as_value (sym c.in_ok-with_item.ensures) (done c.separators.invariant.0 (turn_absent c.separators.invariant.0.fits (absent_unless {b = separated_by commas} c.if-not-comma_at.ensures refl refl (each_kind, each_kind))))

pub items-returns-in_err-more-clause-parses : goal.items-returns-in_err-more-clause-parses
items-returns-in_err-more-clause-parses t c = passing _ _ (λ to p. stop c.separators.invariant.0 (turn_refuses c.separators.invariant.0.fits (λ e. absurd (omega (arith, e, p.place))) (separator_refuses c.if-not-comma_at.ensures p))) c.in_err-more.ensures c.from_residual-in_err-more.ensures.1

pub items-returns-then-eq-clause-parses : goal.items-returns-then-eq-clause-parses
items-returns-then-eq-clause-parses t c =
    let r = (turn_next c.separators.invariant.0 (separator_accepts c.if-not-comma_at.ensures c.in_ok-more.ensures)) in
    as_value (sym (c.in_ok-items.ensures ∙ ap (λ l. with_item c.separators.items c.separators.item l) c.in_ok-lines.ensures)) (done r (turn_absent r.fits (absent_map (absent_now _ (search rules) c.in-Err.ensures.parses))))

pub items-returns-else-eq-clause-parses : goal.items-returns-else-eq-clause-parses
items-returns-else-eq-clause-parses t c =
    let r = (turn_next c.separators.invariant.0 (separator_accepts c.if-not-comma_at.ensures c.in_ok-more.ensures)) in
    refused_later (λ to later p. stop r (turn_refuses r.fits later (map_refuses p))) _ (search rules) c.in-Err.ensures.parses

pub items-separators-preserved : goal.items-separators-preserved
items-separators-preserved t c =
    let r = turn_next (turn_next c.separators.invariant.0 (separator_accepts c.if-not-comma_at.ensures c.in_ok-more.ensures)) (map_accepts c.in-Ok.ensures.parses) in
    let e = (c.in_ok-items.ensures ∙ ap (λ l. with_item c.separators.items c.separators.item l) c.in_ok-lines.ensures) in (
      as_made (λ rest. ap (λ z. gathered with_item z (element c.in-Ok.next.0 c.in-Ok.next.1 ∷ rest)) (sym e)) r,
      subst (λ z. z.height ≤ c.args.depth) (sym e) (max_within _ _ _ c.separators.invariant.1 c.separators.invariant.2),
      c.in-Ok.ensures.within,
    )

pub some_members-returns-in_err-first-clause-parses : goal.some_members-returns-in_err-first-clause-parses
some_members-returns-in_err-first-clause-parses t c = passing _ _ (λ to p. stop_first (under (begin _ _ (some_members_fits _))) (map_refuses p)) c.in_err-first.ensures.parses c.from_residual.ensures.1

pub some_members-separators-init : goal.some_members-separators-init
some_members-separators-init t c = (
  as_made (λ rest. ap (λ z. gathered with_member z (element c.in_ok-first.first c.in_ok-first.first_lines ∷ rest)) (sym c.no_members-members.ensures)) (next (under (begin _ _ (some_members_fits _))) (map_accepts c.in_ok-first.ensures.parses)),
  subst (λ z. z.height ≤ c.args.depth) (sym c.no_members-members.ensures) (omega arith),
  c.in_ok-first.ensures.within,
)

pub some_members-returns-then-not-comma_at-clause-parses : goal.some_members-returns-then-not-comma_at-clause-parses
some_members-returns-then-not-comma_at-clause-parses t c = as_value (sym c.in_ok-with_member.ensures) (done c.separators.invariant.0 (turn_absent c.separators.invariant.0.fits (absent_unless {b = separated_by commas} c.if-not-comma_at.ensures refl refl (each_kind, each_kind))))

pub some_members-returns-in_err-more-clause-parses : goal.some_members-returns-in_err-more-clause-parses
some_members-returns-in_err-more-clause-parses t c = passing _ _ (λ to p. stop c.separators.invariant.0 (turn_refuses c.separators.invariant.0.fits (λ e. absurd (omega (arith, e, p.place))) (separator_refuses c.if-not-comma_at.ensures p))) c.in_err-more.ensures c.from_residual-in_err-more.ensures.1

pub some_members-returns-then-eq-clause-parses : goal.some_members-returns-then-eq-clause-parses
some_members-returns-then-eq-clause-parses t c =
    let r = (turn_next c.separators.invariant.0 (separator_accepts c.if-not-comma_at.ensures c.in_ok-more.ensures)) in
    as_value (sym (c.in_ok-members.ensures ∙ ap (λ l. with_member c.separators.members c.separators.current l) c.in_ok-lines.ensures)) (done r (turn_absent r.fits (absent_map (absent_now _ (search rules) c.in-Err.ensures.parses))))

pub some_members-returns-else-eq-clause-parses : goal.some_members-returns-else-eq-clause-parses
some_members-returns-else-eq-clause-parses t c =
    let r = (turn_next c.separators.invariant.0 (separator_accepts c.if-not-comma_at.ensures c.in_ok-more.ensures)) in
    refused_later (λ to later p. stop r (turn_refuses r.fits later (map_refuses p))) _ (search rules) c.in-Err.ensures.parses

pub some_members-separators-preserved : goal.some_members-separators-preserved
some_members-separators-preserved t c =
    let r = turn_next (turn_next c.separators.invariant.0 (separator_accepts c.if-not-comma_at.ensures c.in_ok-more.ensures)) (map_accepts c.in-Ok.ensures.parses) in
    let e = (c.in_ok-members.ensures ∙ ap (λ l. with_member c.separators.members c.separators.current l) c.in_ok-lines.ensures) in (
      as_made (λ rest. ap (λ z. gathered with_member z (element c.in-Ok.next.0 c.in-Ok.next.1 ∷ rest)) (sym e)) r,
      subst (λ z. z.height ≤ c.args.depth) (sym e) (max_within _ _ _ c.separators.invariant.1 c.separators.invariant.2),
      c.in-Ok.ensures.within,
    )

pub members-returns-then-eq-clause-parses : goal.members-returns-then-eq-clause-parses
members-returns-then-eq-clause-parses t c = as_value (sym c.no_members.ensures) (map_accepts (optional_absent (absent_now _ (search rules) c.in-Err.ensures.parses)))

pub members-returns-else-eq-clause-parses : goal.members-returns-else-eq-clause-parses
members-returns-else-eq-clause-parses t c = refused_later (λ to later p. map_refuses (optional_refuses later p)) _ (search rules) c.in-Err.ensures.parses

pub members-returns-in-Ok-clause-parses : goal.members-returns-in-Ok-clause-parses
members-returns-in-Ok-clause-parses t c = map_accepts (optional_accepts c.in-Ok.ensures.parses)
