use Rattle.std.proofs.Common.{◌++◌, refl}
use Rattle.fp_meaning.specs.Layout.{type_items, value_items}
use Rattle.fp_type_forms.proofs.Taking.{taken_as, taken_then}
use Rattle.fp_component_forms.proofs.dictionary.param_taken.Goals as goal

pub returns : goal.returns
returns c source scope =
    taken_as source c.args.marks.now c.args.resolutions.now ((((type_items 0 scope c.args.param.now.of ++ value_items scope c.args.param.now.default) ++ value_items scope c.args.param.now.id) ++ value_items scope c.args.param.now.set) ++ value_items scope c.args.param.now.save) c.args.next.now _
    (λ t has. record { name = c.in_ok-name.ensures; at = refl; kind = t.0.0.0.0 has; default = t.0.0.0.1; id = t.0.0.1; set = t.0.1; save = t.1; note = c.in_ok-note.ensures })
    (taken_then source c.args.marks.now c.args.resolutions.now (((type_items 0 scope c.args.param.now.of ++ value_items scope c.args.param.now.default) ++ value_items scope c.args.param.now.id) ++ value_items scope c.args.param.now.set) (value_items scope c.args.param.now.save) c.args.next.now _ _ (taken_then source c.args.marks.now c.args.resolutions.now ((type_items 0 scope c.args.param.now.of ++ value_items scope c.args.param.now.default) ++ value_items scope c.args.param.now.id) (value_items scope c.args.param.now.set) c.args.next.now _ _ (taken_then source c.args.marks.now c.args.resolutions.now (type_items 0 scope c.args.param.now.of ++ value_items scope c.args.param.now.default) (value_items scope c.args.param.now.id) c.args.next.now _ _ (taken_then source c.args.marks.now c.args.resolutions.now (type_items 0 scope c.args.param.now.of) (value_items scope c.args.param.now.default) c.args.next.now _ _ (c.type_taken-kind.ensures source scope)
    (c.in_ok-default.ensures source scope))
    (c.optional_taken-id.ensures source scope))
    (c.optional_taken-set.ensures source scope))
    (c.optional_taken-save.ensures source scope))
