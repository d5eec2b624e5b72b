-- The parameters of a port, by its role.
use Rattle.std.proofs.Common.{◌≡◌, true, false, List, subst, IfOk}
use Rattle.std.specs.Prelude.{Result}
use Rattle.fp_base.proofs.Options.{if_ok_then}
use Rattle.fp_tables.specs.declared.kind.Formal.{Formal}
use Rattle.fp_written_parts.specs.declared.port.WrittenFormal.{WrittenFormal}
use Rattle.fp_written_parts.specs.declared.port.WrittenPort.{WrittenPort}
use Rattle.fp_written_parts.specs.declared.port.WrittenPortDef.{WrittenPortDef}
use Rattle.fp_written_parts.specs.declared.port.WrittenRole.{WrittenRole}
use Rattle.fp_written_parts.specs.declared.port.WrittenRole.TheVariants.{AsyncInput, SyncInput, GuardedInput, Output, Special, Internal}
use Rattle.fp_components.specs.Listing.{is_internal}
use Rattle.fp_components.specs.Resolved.{AreDefined, ArePortFormals, formals_of}

own_are : (definitions : List WrittenPortDef) (role : WrittenRole) (p : WrittenPort) (fs : List Formal) → is_internal role ≡ true → fs ≡ formals_of p.formals → ArePortFormals definitions role p fs
own_are definitions AsyncInput p fs e h = absurd (cc)
own_are definitions SyncInput p fs e h = absurd (cc)
own_are definitions GuardedInput p fs e h = absurd (cc)
own_are definitions Output p fs e h = absurd (cc)
own_are definitions (Special s) p fs e h = absurd (cc)
own_are definitions Internal p fs e h = h

defined_are : (definitions : List WrittenPortDef) (role : WrittenRole) (p : WrittenPort) (fs : List Formal) → is_internal role ≡ false → AreDefined definitions p.of fs → ArePortFormals definitions role p fs
defined_are definitions AsyncInput p fs e h = h
defined_are definitions SyncInput p fs e h = h
defined_are definitions GuardedInput p fs e h = h
defined_are definitions Output p fs e h = h
defined_are definitions (Special s) p fs e h = h
defined_are definitions Internal p fs e h = absurd (cc)

module _ {E : Type 0} (r : Result (List Formal) E) (definitions : List WrittenPortDef) (p : WrittenPort) where
  pub own_formals : (ws : List WrittenFormal) → is_internal p.role ≡ true → ws ≡ p.formals → IfOk r (λ fs. fs ≡ formals_of ws) → IfOk r (ArePortFormals definitions p.role p)
  own_formals ws e same h =
      if_ok_then r _ _ (λ fs is. own_are definitions p.role p fs e (subst (λ (xs : List WrittenFormal). fs ≡ formals_of xs) same is)) h

  pub defined_formals : is_internal p.role ≡ false → IfOk r (AreDefined definitions p.of) → IfOk r (ArePortFormals definitions p.role p)
  defined_formals e h = if_ok_then r _ _ (λ fs is. defined_are definitions p.role p fs e is) h
