-- What a stop in a phase says of the whole source, and that no phase is broken.
use Rattle.std.proofs.Common.{◌≡◌, inl, inr, [], ◌∷◌, Option, Some, None, refl, sym, subst}
use Rattle.std.specs.Prelude.{Result, Ok, Err, IfErr, IsErrAnd, OnOk, unwrap_or}
use Rattle.fp_base.specs.declared.refusal.Refusal.{Refusal}
use Rattle.fp_base.specs.declared.refusal.Stop.{Stop}
use Rattle.fp_base.specs.declared.refusal.Stop.TheVariants as stop
use Rattle.fp_base.specs.Least.{IsLeast, IsUnbroken, IsStop}
use Rattle.fp_base.proofs.Calculus.{least_either, least_none, none_broken, least_first}
use Rattle.fp_names.specs.Answers as names
use Rattle.fp_tree.specs.declared.source.Source.{Source}
use Rattle.fp_tables.specs.declared.model.Model.{Model}
use Rattle.fp_numbering.specs.Answers as numbering
use Rattle.fp_numbering.specs.Wired.{NumbersBroken}
use Rattle.fp_meaning.specs.Broken.{BrokenByDefinitions, BrokenByUses, NamesBroken}
use Rattle.fp_source_parts.specs.Broken.{PartsBroken}
use Rattle.fp_source_parts.specs.Machines.{InstancesBroken}
use Rattle.fp_source_parts.specs.MachineBroken.{MachinesBroken}
use Rattle.fp_source_parts.specs.TopologyBroken.{SourceInstancesBroken, SourceNumbersBroken, SourceTopologiesBroken, deployed}
use Rattle.fp_model.specs.Broken.{ModelBroken, StatesBroken, ValuesBroken}
use Rattle.fp_model.specs.Joined.{StatesHold, TopologiesHold}
use Rattle.fp_model.specs.Phases.{InPhases}
use Rattle.fp_model.proofs.Phased.{first_unbroken, later_unbroken, least_last, least_later, none_phased}

-- an error that is handed on
pub passed : {A : Type 0} (r : Result A Stop) (s : Stop) (P : Stop → Type 0) → IsErrAnd r (λ y. y ≡ s) → P s → IfErr r P
passed (Ok x) s P e p = tt
passed (Err y) s P e p = subst P (sym e) p

module _ (source : Source) where
  -- a use that means nothing, where no name is defined twice
  pub uses_stop : IsUnbroken (BrokenByDefinitions source) → (s : Stop) → IsStop (BrokenByUses source) s → IsStop (NamesBroken source) s
  uses_stop once (stop.Broken f) l = least_either None (Some f) (least_none once) l
  uses_stop once stop.NoMemory l = tt

  -- a name that is defined twice is broken
  pub twice_broken : (f : Refusal) → IsStop (BrokenByDefinitions source) (stop.Broken f) → BrokenByDefinitions source f
  twice_broken f l = l.holds f refl

  -- the least of all, where one is broken
  pub least_there : (o : Option Refusal) (f : Refusal) → BrokenByDefinitions source f → IsLeast (NamesBroken source) o → IsLeast (NamesBroken source) (Some (unwrap_or o f))
  least_there None f broken l = absurd (none_broken l f (inl broken))
  least_there (Some g) f broken l = l

  pub names_unbroken : IsUnbroken (BrokenByDefinitions source) → IsUnbroken (BrokenByUses source) → IsUnbroken (NamesBroken source)
  names_unbroken once meant f (inl b) = once f b
  names_unbroken once meant f (inr b) = meant f b

  -- a stop in a phase, where those before it aren't broken
  pub names_stop : (s : Stop) → IsStop (NamesBroken source) s → IsStop (ModelBroken source) s
  names_stop (stop.Broken f) l = least_first f l
  names_stop stop.NoMemory l = tt

  pub values_stop : IsUnbroken (NamesBroken source) → (s : Stop) → IsStop (ValuesBroken source) s → IsStop (ModelBroken source) s
  values_stop named (stop.Broken f) l = least_later (Some f) named (least_first f l)
  values_stop named stop.NoMemory l = tt

  pub parts_stop : IsUnbroken (NamesBroken source) → IsUnbroken (ValuesBroken source) → (s : Stop) → IsStop (PartsBroken source) s → IsStop (ModelBroken source) s
  parts_stop named valued (stop.Broken f) l = least_later (Some f) named (least_later (Some f) valued (least_first f l))
  parts_stop named valued stop.NoMemory l = tt

  pub states_stop : IsUnbroken (NamesBroken source) → IsUnbroken (ValuesBroken source) → IsUnbroken (PartsBroken source) → (s : Stop) → IsStop (StatesBroken source) s → IsStop (ModelBroken source) s
  states_stop named valued whole (stop.Broken f) l = least_later (Some f) named (least_later (Some f) valued (least_later (Some f) whole (least_first f l)))
  states_stop named valued whole stop.NoMemory l = tt

  module _ (h : StatesHold source) where
    -- behind the phases up to that of state machines
    behind : (f : Refusal) → IsLeast (InPhases (SourceInstancesBroken source ∷ SourceTopologiesBroken source ∷ SourceNumbersBroken source ∷ [])) (Some f) → IsLeast (ModelBroken source) (Some f)
    behind f l = least_later (Some f) h.names (least_later (Some f) h.values (least_later (Some f) h.parts (least_later (Some f) h.states l)))

    pub instances_stop : (s : Stop) → IsStop (SourceInstancesBroken source) s → IsStop (ModelBroken source) s
    instances_stop (stop.Broken f) l = behind f (least_first f l)
    instances_stop stop.NoMemory l = tt

    pub topologies_stop : IsUnbroken (SourceInstancesBroken source) → (s : Stop) → IsStop (SourceTopologiesBroken source) s → IsStop (ModelBroken source) s
    topologies_stop placed (stop.Broken f) l = behind f (least_later (Some f) placed (least_first f l))
    topologies_stop placed stop.NoMemory l = tt

    pub numbers_stop : IsUnbroken (SourceInstancesBroken source) → IsUnbroken (SourceTopologiesBroken source) → (s : Stop) → IsStop (SourceNumbersBroken source) s → IsStop (ModelBroken source) s
    numbers_stop placed joined (stop.Broken f) l = behind f (least_later (Some f) placed (least_later (Some f) joined (least_last (Some f) l)))
    numbers_stop placed joined stop.NoMemory l = tt

  pub none_stops : TopologiesHold source → IsUnbroken (SourceNumbersBroken source) → IsUnbroken (ModelBroken source)
  none_stops h numbered =
      none_phased h.before.names
      (none_phased h.before.values (none_phased h.before.parts (none_phased h.before.states (none_phased h.instances (none_phased h.topologies (none_phased numbered (λ f p. p)))))))

module _ (source : Source) (unbroken : IsUnbroken (ModelBroken source)) where
  behind_names : IsUnbroken (InPhases (ValuesBroken source ∷ PartsBroken source ∷ StatesBroken source ∷ SourceInstancesBroken source ∷ SourceTopologiesBroken source ∷ SourceNumbersBroken source ∷ []))
  behind_names = later_unbroken unbroken

  behind_values : IsUnbroken (InPhases (PartsBroken source ∷ StatesBroken source ∷ SourceInstancesBroken source ∷ SourceTopologiesBroken source ∷ SourceNumbersBroken source ∷ []))
  behind_values = later_unbroken behind_names

  behind_parts : IsUnbroken (InPhases (StatesBroken source ∷ SourceInstancesBroken source ∷ SourceTopologiesBroken source ∷ SourceNumbersBroken source ∷ []))
  behind_parts = later_unbroken behind_values

  behind_states : IsUnbroken (InPhases (SourceInstancesBroken source ∷ SourceTopologiesBroken source ∷ SourceNumbersBroken source ∷ []))
  behind_states = later_unbroken behind_parts

  -- no phase before that of numbering
  pub all_hold : TopologiesHold source
  all_hold = record {
    before = record { names = first_unbroken unbroken; values = first_unbroken behind_names; parts = first_unbroken behind_values; states = first_unbroken behind_parts };
    instances = first_unbroken behind_states;
    topologies = first_unbroken (later_unbroken behind_states);
  }

module _ (source : Source) (h : StatesHold source) where
  pub machines_hold : IsUnbroken (MachinesBroken source)
  machines_hold f b = h.states f (inl b)

  pub running_hold : IsUnbroken (InstancesBroken source)
  running_hold f b = h.states f (inr b)

-- ---- numbering

-- the rules of numbering that the model breaks are those of its deployment
abbrev pub LeastOfSource : Source → Model → Type 0
LeastOfSource source m = (o : Option Refusal) → IsLeast (NumbersBroken (deployed m.ports m.components m.instances m.topologies)) o → IsLeast (SourceNumbersBroken source) o

module _ (source : Source) (m : Model) where
  pub numbers_none : (r : Result Model Stop) → LeastOfSource source m → OnOk r (IsUnbroken (NumbersBroken m)) → OnOk r (IsUnbroken (SourceNumbersBroken source))
  numbers_none (Ok x) least none = none_broken (least None (least_none none))
  numbers_none (Err e) least none = tt

  pub numbers_least_stop : (r : Result Model Stop) → LeastOfSource source m → IfErr r (IsStop (NumbersBroken m)) → IfErr r (IsStop (SourceNumbersBroken source))
  numbers_least_stop (Ok x) least stop = tt
  numbers_least_stop (Err (stop.Broken f)) least l = least (Some f) l
  numbers_least_stop (Err stop.NoMemory) least l = tt
