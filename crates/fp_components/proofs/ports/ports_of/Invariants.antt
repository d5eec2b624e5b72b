use Rattle.std.proofs.Common.{◌≡◌, ℕ, Some, map, slice_get, take}
use Rattle.fp_written_parts.specs.declared.port.WrittenPort.{WrittenPort}
use Rattle.fp_components.specs.Resolved.{AreEach, PortIs}
use Rattle.fp_components.specs.Whole.{IsWholePort}
use Rattle.fp_components.proofs.ports.ports_of.Given as goal

abbrev pub invariant-loop-port : goal.invariant-loop-port
invariant-loop-port l = ((k : ℕ) (p : WrittenPort) → slice_get (map (λ port. port.now) l.ports) k ≡ Some p → IsWholePort l.definitions p)
    → AreEach (λ k. PortIs l.definitions) (take l.port-index (map (λ port. port.now) l.ports)) l.row
