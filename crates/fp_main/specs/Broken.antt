-- The rules that files and their source break, phase by phase.
use Rattle.std.specs.Prelude.{List, ◌∷◌, Contains}
use Rattle.fp_base.specs.declared.refusal.Refusal.{Refusal}
use Rattle.fp_base.specs.Least.{Either}
use Rattle.fp_tree.specs.declared.source.Source.{Source}
use Rattle.fp_meaning.specs.Broken.{NamesBroken}
use Rattle.fp_gather.specs.gathering.Gathered.{InFiles}
use Rattle.fp_gather.specs.gathering.Reading.{BreaksGrammar, BreaksTokenRule}
use Rattle.fp_gather.specs.gathering.Walks.{Walked}
use Rattle.fp_model.specs.Broken as model
use Rattle.fp_model.specs.Phases.{InPhases}

-- where an include breaks its rule, these and the rules of names are one phase
abbrev pub WithIncludes : Walked → Source → Refusal → Type 0
WithIncludes walked source f = ((g : Refusal) × Contains walked.refused g) × Either (Contains walked.refused) (NamesBroken source) f

-- what each phase breaks, the earliest first: the rules of tokens and of the grammar; bad includes, with names; then what the source breaks: the
-- rules of names, those of values, those of ports, dictionaries and components, and those of state machines
abbrev pub phases : Walked → Source → List (Refusal → Type 0)
phases walked source = InFiles BreaksTokenRule walked ∷ InFiles BreaksGrammar walked ∷ WithIncludes walked source ∷ model.phases source

-- broken in the earliest phase in which something is
abbrev pub SourceBroken : Walked → Source → Refusal → Type 0
SourceBroken walked source = InPhases (phases walked source)
