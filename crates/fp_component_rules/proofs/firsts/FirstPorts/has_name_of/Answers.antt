use Rattle.std.proofs.Common.{◌∙◌, ℕ, List, ap}
use Rattle.fp_base.specs.NameSets.{has_name}
use Rattle.fp_component_rules.specs.Firsts.{has_port}
use Rattle.fp_component_rules.proofs.firsts.FirstPorts.has_name_of.Goals as goal

pub returns : goal.returns
returns c =
    c.contains.ensures ∙ ap (λ (n : List ℕ). has_name c.self.inside.names n) c.as_str.ensures ∙ c.self.invariant c.args.port.now.name
    ∙ ap (has_port c.args.port.now.name) c.self.view_is
