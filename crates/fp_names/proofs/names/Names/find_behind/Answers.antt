use Rattle.std.proofs.Common.{List, subst}
use Rattle.fp_meaning.specs.declared.names.Definition.{Definition}
use Rattle.fp_names.specs.Tree.{IsTable}
use Rattle.fp_names.proofs.Faults.{found_behind}
use Rattle.fp_names.proofs.names.Names.find_behind.Goals as goal

pub returns : goal.returns
returns c =
    found_behind c.args.self.now c.self.inside.nodes.items c.as_slice.result.now c.args.group c.args.scope.now c.args.first.now c.args.others.now c.look_up_in.result
    (subst (λ (ds : List Definition). IsTable ds c.self.inside.nodes.items) c.self.view_is c.self.invariant) c.as_slice.ensures.value c.look_up_in.ensures
