use Rattle.std.proofs.Common.{◌≡◌, take}
use Rattle.std.specs.Option.{option_copied}
use Rattle.fp_outside.specs.Files.{bytes_of}
use Rattle.fp_outside.proofs.mem_files.look_up.Given as goal

-- what was found is what the files so far hold
abbrev pub invariant-loop-file : goal.invariant-loop-file
invariant-loop-file l = option_copied l.found ≡ bytes_of (take l.file-index l.held) l.name
