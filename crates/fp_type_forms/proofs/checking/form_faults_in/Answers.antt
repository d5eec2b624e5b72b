use Rattle.fp_type_forms.proofs.Uniting.{forms_least}
use Rattle.fp_type_forms.proofs.checking.form_faults_in.Goals as goal

pub returns : goal.returns
returns c source ws are laid h =
    forms_least source ws c.in_ok-parts.parts c.in_ok-names.names c.representation_faults-numbers.result c.lesser-others.result c.lesser.result c.args.items.now laid c.lesser-others.ensures c.lesser.ensures
    (c.in_ok-parts.ensures source laid h) c.in_ok-names.ensures (c.representation_faults-numbers.ensures ws are source laid h)
