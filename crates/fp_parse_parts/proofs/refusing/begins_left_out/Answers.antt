use Rattle.std.proofs.Common.{sym, ◌∙◌, inl, take}
use Rattle.fp_parse_parts.proofs.Following.{begins_none, begins_handed}
use Rattle.fp_parse_parts.proofs.refusing.begins_left_out.Goals as goal

pub returns-then-anywhere : goal.returns-then-anywhere
returns-then-anywhere g c = inl (sym c.is_left_out-anywhere.ensures ∙ c.if-anywhere.true)

pub returns-in-Some : goal.returns-in-Some
returns-in-Some g c =
    begins_handed g.F.FileKind.grammar g.F.FileKind.probe (take c.args.at c.args.tokens.now) c.args.token.now c.in-Some.word _ (sym c.is_left_out-anywhere.ensures ∙ c.if-anywhere.false) (sym c.in-Some.is ∙ c.tried.ensures) c.starts_member.ensures

pub returns-in-None : goal.returns-in-None
returns-in-None g c =
    begins_none g.F.FileKind.grammar g.F.FileKind.probe (take c.args.at c.args.tokens.now) c.args.token.now (sym c.is_left_out-anywhere.ensures ∙ c.if-anywhere.false) (sym c.in-None.is ∙ c.tried.ensures)
