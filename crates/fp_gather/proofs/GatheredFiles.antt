-- What gathering answers, from how its walk ends and what is concluded.
use Rattle.std.proofs.Common.{◌≡◌, ℕ, List, map, refl, sym, ap, subst, ◌∙◌}
use Rattle.std.specs.Prelude.{Result, Ok, Err, IsErrAnd}
use Rattle.fp_base.specs.declared.refusal.Refusal.{Refusal}
use Rattle.fp_tree.specs.declared.member.Member.{Member}
use Rattle.fp_tree.specs.declared.member.Unit.{Unit as File}
use Rattle.fp_tree.specs.declared.source.Source.{Source}
use Rattle.fp_gather.proofs.AmongRead.{InFilesRead}
use Rattle.fp_gather.proofs.FirstInFiles.{first_any}
use Rattle.fp_gather.specs.FilesRun.{FilesRun}
use Rattle.fp_gather.specs.gathering.Answers.{AreJudged, Comes, Judges, Knows}
use Rattle.fp_gather.specs.gathering.Gathered.{AreRead, FirstBroken, Gathers, StandsAmong, file_of, name_of, names_read, source_of}
use Rattle.fp_gather.specs.gathering.Walks.{Walked, WalksFiles, nothing_read}
use Rattle.fp_gather.specs.declared.gathering.Halt.{Halt}
use Rattle.fp_gather.specs.declared.gathering.Halt.TheVariants as halt
use Rattle.fp_gather.specs.declared.gathering.concluding.Concluded.{Concluded}
use Rattle.fp_gather.specs.declared.gathering.progress.Progress.{Progress}

pub same_source : (names : List (List ℕ)) (units : List File) (walked : Walked) (files : List (List Member)) → names ≡ names_read walked → units ≡ map file_of files
    → record { names = names; units = units } ≡ source_of walked files
same_source names units walked files en eu =
    ap (λ (x : List (List ℕ)). record { names = x; units = units }) en ∙ ap (λ (x : List File). record { names = names_read walked; units = x }) eu

stopped : (names : List (List ℕ)) (files : FilesRun) (progress : Progress) (h : Halt) → Comes files (λ told. WalksFiles told names) nothing_read progress (Err h)
    → Gathers names files (Err h)
stopped names files progress (halt.Broken refusal file) c = absurd c
stopped names files progress (halt.NoFile name) c = record { sound = c.0; missed = c.1; stopped = c.2 }
stopped names files progress (halt.ReadFault name) c = record { fault = c.0; found = c.1; stopped = c.2 }
stopped names files progress halt.NoMemory c = tt

-- a walk that stops
pub gathers_stopped : (names : List (List ℕ)) (files : FilesRun) (progress : Progress) (h : Halt) (r : Result Source Halt)
    → IsErrAnd r (λ y. y ≡ h) → Comes files (λ told. WalksFiles told names) nothing_read progress (Err h) → Gathers names files r
gathers_stopped names files progress h (Ok source) e c = absurd e
gathers_stopped names files progress h (Err y) e c = subst (λ (z : Halt). Gathers names files (Err z)) (sym e) (stopped names files progress h c)

pub gathers_nothing : (names : List (List ℕ)) (files : FilesRun) (r : Result Source Halt) → IsErrAnd r (λ y. y ≡ halt.NoMemory) → Gathers names files r
gathers_nothing names files (Ok source) e = absurd e
gathers_nothing names files (Err y) e = subst (λ (z : Halt). Gathers names files (Err z)) (sym e) tt

-- what is broken first stands in one of the files
first_among : InFilesRead → (names : List (List ℕ)) (files : FilesRun) (walked : Walked) (source : Source) (f : Refusal)
    → AreRead names files walked source → FirstBroken walked source f → StandsAmong (names_read walked) f
first_among among names files walked source f read broken =
    first_any walked (source_of walked read.units) f (λ any. among files.told names walked read.units f read.read any) (subst (λ (s : Source). FirstBroken walked s f) read.made broken)

-- a walk that goes through, with what is judged of what is concluded
pub gathers_judged : InFilesRead → (names : List (List ℕ)) (files : FilesRun) (progress : Progress) (units : List (List Member)) (concluded : Concluded) (r : Result Source Halt)
    → Comes files (λ told. WalksFiles told names) nothing_read progress (Ok units)
    → ((walked : Walked) → Knows progress walked → (concluded.source ≡ source_of walked units) × AreJudged walked concluded)
    → ((walked : Walked) → AreJudged walked concluded → Judges walked concluded.source r)
    → Gathers names files r
gathers_judged among names files progress units concluded r c end judged = go r (judged c.2.0 e.1)
  where
    e : (concluded.source ≡ source_of c.2.0 units) × AreJudged c.2.0 concluded
    e = end c.2.0 c.2.2

    read : AreRead names files c.2.0 concluded.source
    read = record { sound = c.0; found = c.1; units = units; read = c.2.1; made = e.0 }

    go : (r : Result Source Halt) → Judges c.2.0 concluded.source r → Gathers names files r
    go (Ok source) j = (c.2.0, subst (λ (s : Source). AreRead names files c.2.0 s) (sym j.0) read, j.1)
    go (Err (halt.Broken refusal file)) j = record {
      walked = c.2.0;
      source = concluded.source;
      read = read;
      some = j.0.1;
      first = j.0.0;
      among = first_among among names files c.2.0 concluded.source refusal read (j.0.0.holds refusal refl);
      named = j.1 ∙ ap (λ (ns : List (List ℕ)). name_of ns refusal.place.file) e.1.names;
    }
    go (Err (halt.NoFile name)) j = absurd j
    go (Err (halt.ReadFault name)) j = absurd j
    go (Err halt.NoMemory) j = tt
