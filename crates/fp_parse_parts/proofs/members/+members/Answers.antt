use Rattle.std.proofs.Common.{rules, arith, refl, sym, ap, ◌∷◌, []}
use Rattle.fp_grammar.proofs.Answering.{passing, handing, absent_now, refused_later, as_value, absent_map}
use Rattle.fp_grammar.proofs.Choices.{absent_beside, absent_unless}
use Rattle.fp_grammar.proofs.Walk.{begin, under, next, done, stop, stop_first, as_made}
use Rattle.fp_grammar.proofs.Steps.{map_accepts, map_refuses, alt_first_accepts, alt_first_refuses, alt_second_accepts, alt_second_refuses, optional_absent, optional_accepts, optional_refuses}
use Rattle.fp_grammar.proofs.TurnSteps.{turn_next, turn_absent, turn_refuses}
use Rattle.fp_parse_pieces.specs.Lists.{gathered, separated_by}
use Rattle.fp_parse_pieces.specs.Lists.ListPiece.{element}
use Rattle.fp_parse_pieces.proofs.WordsFit.{each_kind}
use Rattle.fp_parse_parts.specs.Members as M
use Rattle.fp_parse_parts.specs.Members.{k_module, semicolons, with_member}
use Rattle.fp_parse_parts.proofs.MembersFit.{member_fits, noted_member_fits, some_members_fits, opened_module_fits, no_modules, module_inside}
use Rattle.fp_parse_parts.proofs.Semicolons.{separator_accepts, separator_refuses, unmapped_accepts, unmapped_refuses}
use Rattle.fp_parse_parts.proofs.members.+members.Goals as goal

pub nested_module-returns-then-depth-eq0 : goal.nested_module-returns-then-depth-eq0
nested_module-returns-then-depth-eq0 t c = no_modules _ _ _ _ c.if-depth-eq0.true

pub nested_module-returns : goal.nested_module-returns
nested_module-returns t c = module_inside _ _ _ _ _ _ (omega (arith, c.if-depth-eq0.false)) c.opened_module.ensures

pub opened_module-returns-in_err-word : goal.opened_module-returns-in_err-word
opened_module-returns-in_err-word t c = passing _ _ (λ to p. stop_first (under (begin _ _ (opened_module_fits _ _))) p) c.in_err-word.ensures c.from_residual.ensures.1

pub opened_module-returns-in_err-name : goal.opened_module-returns-in_err-name
opened_module-returns-in_err-name t c = passing _ _ (λ to p. stop_first (next (under (begin _ _ (opened_module_fits _ _))) c.in_ok-word.ensures) p) c.in_err-name.ensures c.from_residual-in_err-name.ensures.1

pub opened_module-returns-in_err-at : goal.opened_module-returns-in_err-at
opened_module-returns-in_err-at t c = passing _ _ (λ to p. stop_first (under (next (next (under (begin _ _ (opened_module_fits _ _))) c.in_ok-word.ensures) c.in_ok-name.ensures)) p) c.in_err-at.ensures c.from_residual-in_err-at.ensures.1

pub opened_module-returns-in_err-found : goal.opened_module-returns-in_err-found
opened_module-returns-in_err-found t c = passing _ _ (λ to p. stop_first (next (under (next (next (under (begin _ _ (opened_module_fits _ _))) c.in_ok-word.ensures) c.in_ok-name.ensures)) c.in_ok-at.ensures.1) p) c.in_err-found.ensures c.from_residual-in_err-found.ensures.1

pub opened_module-returns-in_err-closing : goal.opened_module-returns-in_err-closing
opened_module-returns-in_err-closing t c = passing _ _ (λ to p. stop (next (next (under (next (next (under (begin _ _ (opened_module_fits _ _))) c.in_ok-word.ensures) c.in_ok-name.ensures)) c.in_ok-at.ensures.1) c.in_ok-found.ensures) p) c.in_err-closing.ensures c.from_residual-in_err-closing.ensures.1

pub opened_module-returns : goal.opened_module-returns
opened_module-returns t c = as_value (sym c.module_of.ensures) (done (next (next (under (next (next (under (begin _ _ (opened_module_fits _ _))) c.in_ok-word.ensures) c.in_ok-name.ensures)) c.in_ok-at.ensures.1) c.in_ok-found.ensures) c.in_ok-closing.ensures)

pub member-returns-then-word_at : goal.member-returns-then-word_at
member-returns-then-word_at t c =
    let others = absent_beside {b = M.other_member c.args.expressions} (k_module ∷ []) c.if-word_at.ensures refl refl refl (member_fits c.args.expressions c.args.depth).refs.1 in
    handing (λ x to p. alt_first_accepts others p) (λ to p. alt_first_refuses others p) _ c.nested_module.ensures

pub member-returns : goal.member-returns
member-returns t c =
    let none = absent_unless {b = M.nested_module c.args.expressions c.args.depth} c.if-word_at.ensures refl refl (member_fits c.args.expressions c.args.depth).refs.0 in
    handing (λ x to p. alt_second_accepts none p) (λ to p. alt_second_refuses none p) _ c.other_member.ensures

pub boxed_member-returns : goal.boxed_member-returns
boxed_member-returns t c = as_value (sym c.in_ok-new.ensures) c.in_ok-node.ensures

pub annotated_member-returns-in_err-lines : goal.annotated_member-returns-in_err-lines
annotated_member-returns-in_err-lines t c = passing _ _ (λ to p. stop_first (under (begin _ _ (noted_member_fits _ _))) p) c.in_err-lines.ensures c.from_residual.ensures.1

pub annotated_member-returns-in_err-node : goal.annotated_member-returns-in_err-node
annotated_member-returns-in_err-node t c = passing _ _ (λ to p. stop_first (next (under (begin _ _ (noted_member_fits _ _))) c.in_ok-lines.ensures) p) c.in_err-node.ensures c.from_residual-in_err-node.ensures.1

pub annotated_member-returns-in_err-lines-2 : goal.annotated_member-returns-in_err-lines-2
annotated_member-returns-in_err-lines-2 t c = passing _ _ (λ to p. stop (next (next (under (begin _ _ (noted_member_fits _ _))) c.in_ok-lines.ensures) c.in_ok-node.ensures) (unmapped_refuses p)) c.in_err-lines-2.ensures c.from_residual-in_err-lines-2.ensures.1

pub annotated_member-returns : goal.annotated_member-returns
annotated_member-returns t c =
    let u = unmapped_accepts c.in_ok-lines-2.ensures in
    as_value (ap (λ l. (c.in_ok-node.node, l)) (sym u.1)) (done (next (next (under (begin _ _ (noted_member_fits _ _))) c.in_ok-lines.ensures) c.in_ok-node.ensures) u.2)

pub some_members-returns-in_err-first : goal.some_members-returns-in_err-first
some_members-returns-in_err-first t c = passing _ _ (λ to p. stop_first (under (begin _ _ (some_members_fits _ _))) (map_refuses p)) c.in_err-first.ensures c.from_residual.ensures.1

pub some_members-separators-init : goal.some_members-separators-init
some_members-separators-init t c = as_made (λ rest. ap (λ z. gathered with_member z (element c.in_ok-first.first c.in_ok-first.first_lines ∷ rest)) (sym c.new-all_members.ensures)) (next (under (begin _ _ (some_members_fits _ _))) (map_accepts c.in_ok-first.ensures))

pub some_members-returns-then-not-semicolon_at : goal.some_members-returns-then-not-semicolon_at
some_members-returns-then-not-semicolon_at t c = as_value (sym c.in_ok-with_member.ensures) (done c.separators.invariant (turn_absent c.separators.invariant.fits (absent_unless {b = separated_by semicolons} c.if-not-semicolon_at.ensures refl refl (each_kind, each_kind))))

pub some_members-returns-in_err-more_members : goal.some_members-returns-in_err-more_members
some_members-returns-in_err-more_members t c = passing _ _ (λ to p. stop c.separators.invariant (turn_refuses c.separators.invariant.fits (λ e. absurd (omega (arith, e, p.place))) (separator_refuses c.if-not-semicolon_at.ensures (unmapped_refuses p)))) c.in_err-more_members.ensures c.from_residual-in_err-more_members.ensures.1

pub some_members-returns-then-eq : goal.some_members-returns-then-eq
some_members-returns-then-eq t c =
    let u = unmapped_accepts c.in_ok-more_members.ensures in
    let r = turn_next c.separators.invariant (separator_accepts c.if-not-semicolon_at.ensures u.2) in
    as_value (sym u.1) (done r (turn_absent r.fits (absent_map (absent_now _ (search rules) c.in-Err.ensures))))

pub some_members-returns-else-eq : goal.some_members-returns-else-eq
some_members-returns-else-eq t c =
    let u = unmapped_accepts c.in_ok-more_members.ensures in
    let r = turn_next c.separators.invariant (separator_accepts c.if-not-semicolon_at.ensures u.2) in
    refused_later (λ to later p. stop r (turn_refuses r.fits later (map_refuses p))) _ (search rules) c.in-Err.ensures

pub some_members-separators-preserved : goal.some_members-separators-preserved
some_members-separators-preserved t c =
    let u = unmapped_accepts c.in_ok-more_members.ensures in
    let r = turn_next (turn_next c.separators.invariant (separator_accepts c.if-not-semicolon_at.ensures u.2)) (map_accepts c.in-Ok.ensures) in
    as_made (λ rest. ap (λ z. gathered with_member z (element c.in-Ok.next.0 c.in-Ok.next.1 ∷ rest)) (sym u.1)) r

pub members-returns-then-eq : goal.members-returns-then-eq
members-returns-then-eq t c = as_value (sym c.new.ensures) (map_accepts (optional_absent (absent_now _ (search rules) c.in-Err.ensures)))

pub members-returns-else-eq : goal.members-returns-else-eq
members-returns-else-eq t c = refused_later (λ to later p. map_refuses (optional_refuses later p)) _ (search rules) c.in-Err.ensures

pub members-returns-in-Ok : goal.members-returns-in-Ok
members-returns-in-Ok t c = map_accepts (optional_accepts c.in-Ok.ensures)
