use Rattle.std.proofs.Common.{◌≡◌, refl}
use Rattle.fp_outside.specs.Files.{bytes_of}
use Rattle.fp_outside.proofs.Remaining.{nothing_told}
use Rattle.fp_outside.proofs.host.HostFilesFiles.TheImpl.Goals as goal

pub read-tells : goal.read-tells
read-tells g c = record {
  told = refl;
  faults = c.ensures.faults;
  misses = c.ensures.misses;
  bytes = nothing_told c.result (λ read held. read ≡ bytes_of held c.args.name.now);
}
