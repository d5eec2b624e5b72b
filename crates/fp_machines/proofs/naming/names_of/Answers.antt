use Rattle.std.proofs.Common.{◌∙◌, List, subst}
use Rattle.fp_machine_rules.specs.declared.item.Item.{Item}
use Rattle.fp_machines.specs.Found.{AreScopes}
use Rattle.fp_machines.proofs.naming.names_of.Goals as goal

pub returns-clause-known : goal.returns-clause-known
returns-clause-known c =
    let es = c.args.elements.now in
    record {
      scopes =
          subst (λ (items : List Item). AreScopes es items c.in_ok-scopes.scopes) (c.deref.ensures.value ∙ c.in_ok-outlines.ensures)
          (c.in_ok-scopes.ensures es c.in_ok-spellings.ensures);
      outlines = c.from_vec.ensures ∙ c.in_ok-outlines.ensures;
      counted = c.in_ok-counts.ensures;
    }
