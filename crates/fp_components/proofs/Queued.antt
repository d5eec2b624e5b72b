-- What is put into the queue, and the roles of ports.
use Rattle.std.proofs.Common.{◌≡◌, ℤ, pos, refl, sym, subst}
use Rattle.fp_tables.specs.declared.component.Full.{Full}
use Rattle.fp_tables.specs.declared.component.Way.{Way}
use Rattle.fp_tables.specs.declared.component.Way.TheVariants.{Later}
use Rattle.fp_tables.specs.declared.component.Role.TheVariants as role
use Rattle.fp_written_parts.specs.declared.port.QueueWords.{QueueWords}
use Rattle.fp_written_parts.specs.declared.port.WrittenRole.{WrittenRole}
use Rattle.fp_written_parts.specs.declared.port.WrittenRole.TheVariants.{AsyncInput, Internal}
use Rattle.fp_components.specs.Resolved.{IsLater, IsNumber, IsRole, full_of}
use Rattle.fp_components.specs.Whole.{IsWholeQueue, IsWholeRole}

module _ (queue : QueueWords) where
  pub later_is : (p y : ℤ) (full : Full) → y ≡ p → IsNumber (pos 0) queue.priority p → full ≡ full_of queue.full → IsLater queue (Later y full)
  later_is p y full same number is = (subst (IsNumber (pos 0) queue.priority) (sym same) number, is)

  pub asynchronous : (r : WrittenRole) (way : Way) → r ≡ AsyncInput → (IsWholeQueue queue → IsLater queue way) → IsWholeRole r queue → IsRole r queue (role.Input way)
  asynchronous r way is clause whole =
      subst (λ (s : WrittenRole). IsRole s queue (role.Input way)) (sym is) (way, refl, clause (subst (λ (s : WrittenRole). IsWholeRole s queue) is whole))

  pub internal : (r : WrittenRole) (way : Way) → r ≡ Internal → (IsWholeQueue queue → IsLater queue way) → IsWholeRole r queue → IsRole r queue (role.Internal way)
  internal r way is clause whole =
      subst (λ (s : WrittenRole). IsRole s queue (role.Internal way)) (sym is) (way, refl, clause (subst (λ (s : WrittenRole). IsWholeRole s queue) is whole))
