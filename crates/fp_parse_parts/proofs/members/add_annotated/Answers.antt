use Rattle.std.proofs.Common.{sym, ap, ◌∙◌}
use Rattle.fp_grammar.proofs.Answering.{passing, as_value}
use Rattle.fp_grammar.proofs.Steps.{map_accepts, map_refuses}
use Rattle.fp_parse_parts.specs.Members.{with_member}
use Rattle.fp_parse_parts.proofs.Semicolons.{unmapped_accepts, unmapped_refuses}
use Rattle.fp_parse_parts.proofs.members.add_annotated.Goals as goal

pub returns-in_err-all_lines : goal.returns-in_err-all_lines
returns-in_err-all_lines c = passing _ _ (λ to p. map_refuses (unmapped_refuses p)) c.in_err-all_lines.ensures c.from_residual.ensures.1

pub returns : goal.returns
returns c =
    let u = unmapped_accepts c.in_ok-all_lines.ensures in
    as_value (ap (λ l. with_member c.args.members c.args.item l) (sym u.1) ∙ sym c.in_ok-with_member.ensures) (map_accepts u.2)
