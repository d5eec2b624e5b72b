-- The lines that say why a call ended otherwise.
use Rattle.std.specs.Prelude.{ℕ, List, ◌++◌, codes, decimal}
use Rattle.fp_base.specs.Rules.{text_of}
use Rattle.fp_base.specs.declared.place.Place.{Place}
use Rattle.fp_base.specs.declared.rule.Rule.{Rule}

abbrev pub newline : List ℕ
newline = codes "\n"

abbrev pub usage_line : ℕ → List ℕ
usage_line word = codes "fpp: usage at word " ++ decimal word ++ newline

abbrev pub read_fault_line : List ℕ → List ℕ
read_fault_line name = codes "fpp: read fault " ++ name ++ newline

abbrev pub no_file_line : List ℕ → List ℕ
no_file_line name = codes "fpp: no file " ++ name ++ newline

abbrev pub no_topology_line : List ℕ → List ℕ
no_topology_line name = codes "fpp: no topology " ++ name ++ newline

abbrev pub write_fault_line : List ℕ
write_fault_line = codes "fpp: write fault\n"

abbrev pub no_memory_line : List ℕ
no_memory_line = codes "fpp: no memory\n"

-- FILE:LINE:COLUMN: RULE
abbrev pub refusal_line : List ℕ → Place → Rule → List ℕ
refusal_line file place rule = file ++ codes ":" ++ decimal place.line ++ codes ":" ++ decimal place.column ++ codes ": " ++ text_of rule ++ newline

-- FILE:PATH: RULE, of a rule that a scenario breaks
abbrev pub scenario_line : List ℕ → List ℕ → Rule → List ℕ
scenario_line file path rule = file ++ codes ":" ++ path ++ codes ": " ++ text_of rule ++ newline
