use Rattle.std.proofs.Common.{◌∙◌, ap, ◌++◌, ◌∷◌, []}
use Rattle.fp_parse_parts.specs.Files.{tried_at}
use Rattle.fp_parse_parts.proofs.Following.{tried_told}
use Rattle.fp_parse_parts.proofs.refusing.starts_member.Goals as goal

pub returns : goal.returns
returns g c = tried_told g.F.FileKind.grammar c.args.word _ _ _ _ _ c.requires.within (c.as_slice.ensures ∙ c.in_ok-push.ensures.ok ∙ ap (λ l. l ++ tried_at c.args.word c.args.place ∷ []) c.in_ok-tried.ensures) c.in_ok-reached.ensures
