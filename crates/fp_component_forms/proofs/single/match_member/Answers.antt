use Rattle.std.proofs.Common.{refl, sym, subst}
use Rattle.fp_written_parts.specs.declared.member.WrittenMatch.{WrittenMatch}
use Rattle.fp_component_forms.specs.Written.{MatchIs}
use Rattle.fp_component_forms.proofs.single.match_member.Goals as goal

pub returns : goal.returns
returns c source scope has =
    (subst (λ (w : WrittenMatch). MatchIs source scope c.args.ports.now w) (sym c.in_ok-boxed.ensures) (record { first = c.in_ok-first.ensures; second = c.in_ok-second.ensures; at = refl }), tt)
