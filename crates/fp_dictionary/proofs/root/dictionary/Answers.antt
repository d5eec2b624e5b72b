use Rattle.std.proofs.Common.{◌∙◌, ap, subst, sym, Option, List, ℕ}
use Rattle.std.proofs.lemmas.Result.{IfOk-weaker}
use Rattle.std.specs.Option.{option_copied}
use Rattle.fp_tables.specs.declared.topology.Topology.{Topology}
use Rattle.fp_dictionary.specs.Dictionary.{IsText}
use Rattle.fp_dictionary.proofs.root.dictionary.Goals as goal

pub returns-in-Some : goal.returns-in-Some
returns-in-Some c =
    let found = sym (sym c.get.ensures.value ∙ ap option_copied c.in-Some.is) in
    IfOk-weaker c.text_of.result _ _ (λ (text : List ℕ) h. subst (λ (o : Option Topology). IsText c.args.model.now o text) found h) c.text_of.ensures

pub returns-in-None : goal.returns-in-None
returns-in-None c =
    let found = sym (sym c.get.ensures.value ∙ ap option_copied c.in-None.is) in
    subst (λ (o : Option Topology). IsText c.args.model.now o c.new.result) found c.new.ensures
