-- The includes of members, in source order, also those in modules. FPP Language Specification, "Include Specifiers". An include in a
-- component or in a topology stands for members of that, and not for members of a file: it is none of these.
use Rattle.std.specs.Prelude.{List, [], ◌∷◌, flat_map}
use Rattle.fp_tree.specs.declared.member.Include.{Include}
use Rattle.fp_tree.specs.declared.member.Member.{Member, Member-F, fold-Member}
use Rattle.fp_tree.specs.declared.member.Member.TheOpen as open_member
use Rattle.fp_tree.specs.declared.member.Module.{Module-F}

abbrev pub includes_of_member : Member-F (List Include) (List Include) → List Include
includes_of_member (open_member.Module inner) = inner
includes_of_member (open_member.Include i) = i ∷ []
includes_of_member _ = []

abbrev pub includes_of_module : Module-F (List Include) (List Include) → List Include
includes_of_module m = flat_map (λ is. is) m.members

abbrev pub includes_within : Member → List Include
includes_within m = fold-Member (List Include) (List Include) includes_of_member includes_of_module m

abbrev pub includes_in : List Member → List Include
includes_in ms = flat_map includes_within ms
