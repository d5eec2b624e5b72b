-- What a borrowed definition stands for.
use Rattle.fp_meaning.specs.declared.item.ModelDef.{ModelDef as Read}
use Rattle.fp_meaning.specs.declared.item.ModelDef.TheVariants as borrowed
use Rattle.fp_meaning.specs.Sites.{Path, ModelDef, machine, component, interface, instance, topology, Declaration, declaration}

abbrev pub read : Read → ModelDef
read (borrowed.Machine d) = machine d.now
read (borrowed.Component d) = component d.now
read (borrowed.Interface d) = interface d.now
read (borrowed.Instance d) = instance d.now
read (borrowed.Topology d) = topology d.now

abbrev pub declared_there : Path → Read → Declaration
declared_there scope d = declaration scope (read d)
