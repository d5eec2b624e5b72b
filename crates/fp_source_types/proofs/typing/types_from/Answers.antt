use Rattle.std.proofs.Common.{◌∙◌}
use Rattle.fp_base.proofs.Options.{if_ok_then}
use Rattle.fp_source_types.proofs.typing.types_from.Goals as goal

pub returns-clause-at : goal.returns-clause-at
returns-clause-at c =
    if_ok_then c.types_in.result _ _
    (λ types h. h c.args.source.now (record { laid = c.items-items.ensures ∙ c.in_ok-layout.ensures; meant = c.requires.meanings; valued = c.requires.values })) c.types_in.ensures.at

pub returns-clause-first : goal.returns-clause-first
returns-clause-first c =
    if_ok_then c.types_in.result _ _
    (λ types h. h c.args.source.now (record { laid = c.items-items.ensures ∙ c.in_ok-layout.ensures; meant = c.requires.meanings; valued = c.requires.values })) c.types_in.ensures.first
