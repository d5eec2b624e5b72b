use Rattle.std.proofs.Common.{ℕ, List, flat_map, refl, sym, ap, ◌∙◌, subst}
use Rattle.fp_base.proofs.Options.{if_ok_then}
use Rattle.fp_meaning.specs.declared.item.Item.{Item}
use Rattle.fp_meaning.specs.Meaning.{AreMeanings}
use Rattle.fp_meaning.specs.Names.{definitions, definitions_of, mentions}
use Rattle.fp_type_forms.specs.Resolved.{ranks_from}
use Rattle.fp_type_forms.proofs.resolving.resolve_items.Goals as goal

pub returns : goal.returns
returns c =
    if_ok_then c.resolutions.result _ _
    (λ rs h source of. h source c.args.marks.now (record {
      laid = of.laid;
      meant = subst (λ (ms : List ℕ). AreMeanings (definitions source) (mentions source) ms) (sym c.as_slice-meanings.ensures) of.meant;
      valued = of.valued;
      ranked = c.as_slice-ranks.ensures ∙ c.in_ok-ranked.ensures ∙ ap (λ (is : List Item). ranks_from 0 (flat_map definitions_of is)) of.laid;
      counted = refl;
    })) c.resolutions.ensures
