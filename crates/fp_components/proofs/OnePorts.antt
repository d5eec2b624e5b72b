-- What is written of a port comes to one port.
use Rattle.std.proofs.Common.{◌≡◌, ℕ, ℤ, pos, List, [], Option, Some, None, slice_get, refl, sym, ap, ◌∙◌}
use Rattle.fp_base.proofs.Options.{one_some, same_some}
use Rattle.fp_base.proofs.Numbers.{pos_same}
use Rattle.fp_tables.specs.declared.component.Full.{Full}
use Rattle.fp_tables.specs.declared.component.Port.{Port}
use Rattle.fp_tables.specs.declared.component.Role.{Role}
use Rattle.fp_tables.specs.declared.component.Role.TheVariants as role
use Rattle.fp_tables.specs.declared.component.Way.{Way}
use Rattle.fp_tables.specs.declared.component.Way.TheVariants.{Later, Sync, Guarded}
use Rattle.fp_tables.specs.declared.kind.Formal.{Formal}
use Rattle.fp_written_parts.specs.declared.port.Given.{Given}
use Rattle.fp_written_parts.specs.declared.port.QueueWords.{QueueWords}
use Rattle.fp_written_parts.specs.declared.port.WrittenPort.{WrittenPort}
use Rattle.fp_written_parts.specs.declared.port.WrittenPortDef.{WrittenPortDef}
use Rattle.fp_written_parts.specs.declared.port.WrittenRole.{WrittenRole}
use Rattle.fp_written_parts.specs.declared.port.WrittenRole.TheVariants.{AsyncInput, SyncInput, GuardedInput, Output, Special, Internal}
use Rattle.fp_components.specs.Resolved.{AreDefined, ArePortFormals, IsLater, IsNumber, IsRole, PortIs, formals_of}

pub number_same : (implied : ℤ) (given : Option Given) (m n : ℤ) → IsNumber implied given m → IsNumber implied given n → m ≡ n
number_same implied None m n h k = h ∙ sym k
number_same implied (Some g) m n h k = one_some g.number m n h k

pub later_same : (q : QueueWords) (a b : Way) → IsLater q a → IsLater q b → a ≡ b
later_same q (Later m f) (Later n g) h k = both (number_same (pos 0) q.priority m n h.0 k.0) (h.1 ∙ sym k.1)
  where
    both : {m n : ℤ} {f g : Full} → m ≡ n → f ≡ g → Later m f ≡ Later n g
    both {n = n} {f = f} d e = ap (λ (x : ℤ). Later x f) d ∙ ap (λ (x : Full). Later n x) e
later_same q (Later m f) Sync h k = absurd k
later_same q (Later m f) Guarded h k = absurd k
later_same q Sync b h k = absurd h
later_same q Guarded b h k = absurd h

way_in : (made : Way → Role) (q : QueueWords) (r s : Role) → ((way : Way) × (r ≡ made way) × IsLater q way) → ((way : Way) × (s ≡ made way) × IsLater q way) → r ≡ s
way_in made q r s h k = h.1 ∙ ap made (later_same q h.0 k.0 h.2 k.2) ∙ sym k.1

role_same : (w : WrittenRole) (q : QueueWords) (r s : Role) → IsRole w q r → IsRole w q s → r ≡ s
role_same AsyncInput q r s h k = way_in role.Input q r s h k
role_same SyncInput q r s h k = h ∙ sym k
role_same GuardedInput q r s h k = h ∙ sym k
role_same Output q r s h k = h ∙ sym k
role_same (Special x) q r s h k = h ∙ sym k
role_same Internal q r s h k = way_in role.Internal q r s h k

module _ (ds : List WrittenPortDef) where
  defined_same : (of : Option ℕ) (fs gs : List Formal) → AreDefined ds of fs → AreDefined ds of gs → fs ≡ gs
  defined_same None fs gs h k = h ∙ sym k
  defined_same (Some n) fs gs h k = h.2 ∙ ap (λ (d : WrittenPortDef). formals_of d.formals) (one_some (slice_get ds n) h.0 k.0 h.1 k.1) ∙ sym k.2

  formals_same : (w : WrittenRole) (p : WrittenPort) (fs gs : List Formal) → ArePortFormals ds w p fs → ArePortFormals ds w p gs → fs ≡ gs
  formals_same AsyncInput p fs gs h k = defined_same p.of fs gs h k
  formals_same SyncInput p fs gs h k = defined_same p.of fs gs h k
  formals_same GuardedInput p fs gs h k = defined_same p.of fs gs h k
  formals_same Output p fs gs h k = defined_same p.of fs gs h k
  formals_same (Special x) p fs gs h k = defined_same p.of fs gs h k
  formals_same Internal p fs gs h k = h ∙ sym k

  pub port_same : (p : WrittenPort) (x y : Port) → PortIs ds p x → PortIs ds p y → x ≡ y
  port_same p x y h k =
      made (h.name ∙ sym k.name) (role_same p.role p.queue x.role y.role h.role k.role)
      (pos_same x.size y.size (number_same (pos 1) p.size (pos x.size) (pos y.size) h.size k.size)) (h.of ∙ sym k.of)
      (formals_same p.role p x.formals y.formals h.formals k.formals)
    where
      made : x.name ≡ y.name → x.role ≡ y.role → x.size ≡ y.size → x.of ≡ y.of → x.formals ≡ y.formals → x ≡ y
      made a b c d e i = record { name = a i; role = b i; size = c i; of = d i; formals = e i }
