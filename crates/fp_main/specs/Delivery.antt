-- How an output and a line are written to two sinks of which each may fail.
use Rattle.std.specs.Prelude.{ℕ, ◌≡◌, ◌<◌, ◌⊎◌, List, ◌++◌, length, take, Option, Bool, true, false}
use Rattle.std.specs.Option.{option_map}
use Rattle.fp_outside.specs.Counts.{Rose}
use Rattle.fp_main.specs.Lines.{write_fault_line}
use Rattle.fp_main.specs.declared.status.Status.{Status}
use Rattle.fp_main.specs.declared.status.Status.TheVariants.{WriteFault}

-- what a sink tells before and after a call, and its count of faults
pub record SinkRun : Type 0 where
  pub before : Option (List ℕ)
  pub after : Option (List ℕ)
  pub faults_before : ℕ
  pub faults_after : ℕ

abbrev pub sink_run : {S : Type 0} → (S → Option (List ℕ)) → (S → ℕ) → S → S → SinkRun
sink_run told faults old new = record { before = told old; after = told new; faults_before = faults old; faults_after = faults new }

-- these bytes were added, where the sink tells what was written
abbrev pub Adds : List ℕ → SinkRun → Type 0
Adds bytes run = run.after ≡ option_map (λ written. written ++ bytes) run.before

-- a proper front of these bytes was added
abbrev pub AddsFront : List ℕ → SinkRun → Type 0
AddsFront bytes run = (count : ℕ) × (count < length bytes) × Adds (take count bytes) run

abbrev pub NoFault : SinkRun → Type 0
NoFault run = run.faults_after ≡ run.faults_before

abbrev pub HadFault : SinkRun → Type 0
HadFault run = Rose run.faults_before run.faults_after

-- a piece was written whole, or a write failed
abbrev pub Written : Bool → List ℕ → SinkRun → Type 0
Written true bytes run = Adds bytes run × NoFault run
Written false bytes run = AddsFront bytes run × HadFault run

-- nothing failed
pub record IsWhole (due : Status) (output line : List ℕ) (out diag : SinkRun) (status : Status) : Type 0 where
  pub ends : status ≡ due
  pub written : Adds output out
  pub said : Adds line diag
  pub out_sound : NoFault out
  pub diag_sound : NoFault diag

-- a write to out failed: a proper front of the output stands there, and the line says so, or a proper front of it where a write to
-- diag failed too
pub record OutFailed (output : List ℕ) (out diag : SinkRun) (status : Status) : Type 0 where
  pub ends : status ≡ WriteFault
  pub written : AddsFront output out
  pub fault : HadFault out
  pub said : (Adds write_fault_line diag × NoFault diag) ⊎ (AddsFront write_fault_line diag × HadFault diag)

-- a write to diag alone failed: a proper front of the line stands there
pub record DiagFailed (output line : List ℕ) (out diag : SinkRun) (status : Status) : Type 0 where
  pub ends : status ≡ WriteFault
  pub written : Adds output out
  pub out_sound : NoFault out
  pub said : AddsFront line diag
  pub fault : HadFault diag

abbrev pub Delivered : Status → List ℕ → List ℕ → SinkRun → SinkRun → Status → Type 0
Delivered due output line out diag status = IsWhole due output line out diag status ⊎ (OutFailed output out diag status ⊎ DiagFailed output line out diag status)
