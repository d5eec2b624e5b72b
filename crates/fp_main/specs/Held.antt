-- The files that hold the load. This profile: their names.
use Rattle.std.specs.Prelude.{ℕ, List, [], ◌∷◌, codes}
use Rattle.fp_outside.specs.declared.files.HeldFile.{HeldFile}
use Rattle.fp_main.specs.Load.{scenario_text, source_text}

-- a source and a scenario, under their names
abbrev pub both_files : List ℕ → List ℕ → List HeldFile
both_files source scenario = record { name = codes "make.fpp"; bytes = source } ∷ record { name = codes "make.json"; bytes = scenario } ∷ []

-- those of the load with so many instances
abbrev pub load_files : ℕ → List HeldFile
load_files n = both_files (source_text n) (scenario_text n)
