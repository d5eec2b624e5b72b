-- The parts of a printed dictionary.
use Rattle.std.specs.Prelude.{◌≡◌, ℕ, Bool, true, false, codes, List, [], ◌∷◌, ◌++◌}
use Rattle.fp_tables.specs.declared.model.Model.{Model}
use Rattle.fp_tables.specs.declared.topology.Topology.{Topology}
use Rattle.fp_dictionary.specs.Used.{AreUsedTypes}
use Rattle.serde_json.specs.Data.{Data}
use Rattle.serde_json.specs.Written.{comma_if, compact_text}
use Rattle.fp_dictionary.specs.Dictionary.{Numbered, said, types_data}

-- the items of a list without its brackets; a comma stands before each, and before the first one where others stand before it
abbrev pub items_printed : Bool → List Data → List ℕ
items_printed later [] = []
items_printed later (d ∷ ds) = comma_if later ++ compact_text d ++ items_printed true ds

-- what is added is such a list, as the items of a list
abbrev pub Adds : (List Numbered → Type 0) → List ℕ → List ℕ → Type 0
Adds P before after = (ns : List Numbered) × P ns × (after ≡ before ++ items_printed false (said ns))

-- what is added are the types that a topology's dictionary describes, as the items of a list
abbrev pub AddsTypes : Model → Topology → List ℕ → List ℕ → Type 0
AddsTypes m o before after = (ks : List ℕ) × AreUsedTypes m o ks × (after ≡ before ++ items_printed false (types_data m.types ks))

-- a whole dictionary from the items of its lists and its metadata
abbrev pub pieces : (commands events head parameters channels types : List ℕ) → List ℕ
pieces commands events head parameters channels types =
    codes "{\"commands\":[" ++ (commands ++ (codes "],\"containers\":[],\"events\":[" ++ (events ++ (codes "],\"metadata\":" ++ (head ++ (codes ",\"parameters\":[" ++ (parameters ++ (codes "],\"records\":[],\"telemetryChannels\":[" ++ (channels ++ (codes "],\"telemetryPacketSets\":[],\"typeDefinitions\":[" ++ (types ++ codes "]}\n")))))))))))
