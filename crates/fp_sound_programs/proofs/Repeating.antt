-- What is given twice, by the keys that are sorted.
use Rattle.std.proofs.Common.{◌≡◌, ℕ, Bool, true, false, ◌&&◌, List, map, eqb, Ordering, Less, Equal, Greater, sym, ap, refl, ◌∙◌, arith}
use Rattle.std.specs.Ordering.{eq_by_cmp, is_eq, nat_cmp, ordering_then}
use Rattle.std.proofs.lemmas.Bool.Decides.{nat_tests}
use Rattle.fp_tables.specs.Lists.{apart}
use Rattle.fp_tables.specs.Found.{key_cmp}
use Rattle.fp_tables.specs.SoundPrograms.{same_guard, same_spot, same_place}
use Rattle.fp_tables.specs.declared.program.Answers.{Answers}
use Rattle.fp_tables.specs.declared.program.Handler.{Handler}
use Rattle.fp_tables.specs.declared.program.Spot.{Spot}
use Rattle.fp_tables.specs.declared.program.Spot.TheVariants as spot
use Rattle.fp_tables.proofs.Differing.{apart-map}

same_guards : (a b : Answers) → eq_by_cmp key_cmp (a.instance, a.running, a.guard) (b.instance, b.running, b.guard) ≡ same_guard a b
same_guards a b = grind (arith, nat_tests)

pub guards_apart : (xs : List Answers) → apart (eq_by_cmp key_cmp) (map (λ (a : Answers). (a.instance, a.running, a.guard)) xs) ≡ apart same_guard xs
guards_apart xs =
    sym (apart-map same_guard (eq_by_cmp key_cmp) (λ (a : Answers). (a.instance, a.running, a.guard)) (λ a b. sym (same_guards a b)) xs)

-- where what comes next is not equal, nothing is
never : (o next : Ordering) (b : Bool) → is_eq next ≡ false → is_eq (ordering_then o next) ≡ (b && false)
never Less next true e = refl
never Less next false e = refl
never Equal next true e = e
never Equal next false e = e
never Greater next true e = refl
never Greater next false e = refl

-- an order of places by their instances, then by their sorts, then by their numbers
pub record Agrees (cmp : ℕ × Spot → ℕ × Spot → Ordering) : Type 0 where
  pub port_port : (m n r q : ℕ) → cmp (m, spot.Port r) (n, spot.Port q) ≡ ordering_then (nat_cmp m n) (nat_cmp r q)
  pub port_command : (m n r q : ℕ) → cmp (m, spot.Port r) (n, spot.Command q) ≡ ordering_then (nat_cmp m n) Less
  pub port_action : (m n r q v : ℕ) → cmp (m, spot.Port r) (n, spot.Action q v) ≡ ordering_then (nat_cmp m n) Less
  pub port_hook_port : (m n r q : ℕ) → cmp (m, spot.Port r) (n, spot.HookPort q) ≡ ordering_then (nat_cmp m n) Less
  pub port_hook_command : (m n r q : ℕ) → cmp (m, spot.Port r) (n, spot.HookCommand q) ≡ ordering_then (nat_cmp m n) Less
  pub port_hook_signal : (m n r q : ℕ) → cmp (m, spot.Port r) (n, spot.HookSignal q) ≡ ordering_then (nat_cmp m n) Less
  pub command_port : (m n r q : ℕ) → cmp (m, spot.Command r) (n, spot.Port q) ≡ ordering_then (nat_cmp m n) Greater
  pub command_command : (m n r q : ℕ) → cmp (m, spot.Command r) (n, spot.Command q) ≡ ordering_then (nat_cmp m n) (nat_cmp r q)
  pub command_action : (m n r q v : ℕ) → cmp (m, spot.Command r) (n, spot.Action q v) ≡ ordering_then (nat_cmp m n) Less
  pub command_hook_port : (m n r q : ℕ) → cmp (m, spot.Command r) (n, spot.HookPort q) ≡ ordering_then (nat_cmp m n) Less
  pub command_hook_command : (m n r q : ℕ) → cmp (m, spot.Command r) (n, spot.HookCommand q) ≡ ordering_then (nat_cmp m n) Less
  pub command_hook_signal : (m n r q : ℕ) → cmp (m, spot.Command r) (n, spot.HookSignal q) ≡ ordering_then (nat_cmp m n) Less
  pub action_port : (m n r u q : ℕ) → cmp (m, spot.Action r u) (n, spot.Port q) ≡ ordering_then (nat_cmp m n) Greater
  pub action_command : (m n r u q : ℕ) → cmp (m, spot.Action r u) (n, spot.Command q) ≡ ordering_then (nat_cmp m n) Greater
  pub action_action : (m n r u q v : ℕ) → cmp (m, spot.Action r u) (n, spot.Action q v) ≡ ordering_then (nat_cmp m n) (ordering_then (nat_cmp r q) (nat_cmp u v))
  pub action_hook_port : (m n r u q : ℕ) → cmp (m, spot.Action r u) (n, spot.HookPort q) ≡ ordering_then (nat_cmp m n) Less
  pub action_hook_command : (m n r u q : ℕ) → cmp (m, spot.Action r u) (n, spot.HookCommand q) ≡ ordering_then (nat_cmp m n) Less
  pub action_hook_signal : (m n r u q : ℕ) → cmp (m, spot.Action r u) (n, spot.HookSignal q) ≡ ordering_then (nat_cmp m n) Less
  pub hook_port_port : (m n r q : ℕ) → cmp (m, spot.HookPort r) (n, spot.Port q) ≡ ordering_then (nat_cmp m n) Greater
  pub hook_port_command : (m n r q : ℕ) → cmp (m, spot.HookPort r) (n, spot.Command q) ≡ ordering_then (nat_cmp m n) Greater
  pub hook_port_action : (m n r q v : ℕ) → cmp (m, spot.HookPort r) (n, spot.Action q v) ≡ ordering_then (nat_cmp m n) Greater
  pub hook_port_hook_port : (m n r q : ℕ) → cmp (m, spot.HookPort r) (n, spot.HookPort q) ≡ ordering_then (nat_cmp m n) (nat_cmp r q)
  pub hook_port_hook_command : (m n r q : ℕ) → cmp (m, spot.HookPort r) (n, spot.HookCommand q) ≡ ordering_then (nat_cmp m n) Less
  pub hook_port_hook_signal : (m n r q : ℕ) → cmp (m, spot.HookPort r) (n, spot.HookSignal q) ≡ ordering_then (nat_cmp m n) Less
  pub hook_command_port : (m n r q : ℕ) → cmp (m, spot.HookCommand r) (n, spot.Port q) ≡ ordering_then (nat_cmp m n) Greater
  pub hook_command_command : (m n r q : ℕ) → cmp (m, spot.HookCommand r) (n, spot.Command q) ≡ ordering_then (nat_cmp m n) Greater
  pub hook_command_action : (m n r q v : ℕ) → cmp (m, spot.HookCommand r) (n, spot.Action q v) ≡ ordering_then (nat_cmp m n) Greater
  pub hook_command_hook_port : (m n r q : ℕ) → cmp (m, spot.HookCommand r) (n, spot.HookPort q) ≡ ordering_then (nat_cmp m n) Greater
  pub hook_command_hook_command : (m n r q : ℕ) → cmp (m, spot.HookCommand r) (n, spot.HookCommand q) ≡ ordering_then (nat_cmp m n) (nat_cmp r q)
  pub hook_command_hook_signal : (m n r q : ℕ) → cmp (m, spot.HookCommand r) (n, spot.HookSignal q) ≡ ordering_then (nat_cmp m n) Less
  pub hook_signal_port : (m n r q : ℕ) → cmp (m, spot.HookSignal r) (n, spot.Port q) ≡ ordering_then (nat_cmp m n) Greater
  pub hook_signal_command : (m n r q : ℕ) → cmp (m, spot.HookSignal r) (n, spot.Command q) ≡ ordering_then (nat_cmp m n) Greater
  pub hook_signal_action : (m n r q v : ℕ) → cmp (m, spot.HookSignal r) (n, spot.Action q v) ≡ ordering_then (nat_cmp m n) Greater
  pub hook_signal_hook_port : (m n r q : ℕ) → cmp (m, spot.HookSignal r) (n, spot.HookPort q) ≡ ordering_then (nat_cmp m n) Greater
  pub hook_signal_hook_command : (m n r q : ℕ) → cmp (m, spot.HookSignal r) (n, spot.HookCommand q) ≡ ordering_then (nat_cmp m n) Greater
  pub hook_signal_hook_signal : (m n r q : ℕ) → cmp (m, spot.HookSignal r) (n, spot.HookSignal q) ≡ ordering_then (nat_cmp m n) (nat_cmp r q)

module _ (cmp : ℕ × Spot → ℕ × Spot → Ordering) (agrees : Agrees cmp) where
  same_places : (m n : ℕ) (s q : Spot) → eq_by_cmp cmp (m, s) (n, q) ≡ (eqb m n && same_spot s q)
  same_places m n (spot.Port r) (spot.Port q) = rw (agrees.port_port m n r q) (grind (arith, nat_tests))
  same_places m n (spot.Port r) (spot.Command q) = rw (agrees.port_command m n r q) (never (nat_cmp m n) Less (eqb m n) refl)
  same_places m n (spot.Port r) (spot.Action q v) = rw (agrees.port_action m n r q v) (never (nat_cmp m n) Less (eqb m n) refl)
  same_places m n (spot.Port r) (spot.HookPort q) = rw (agrees.port_hook_port m n r q) (never (nat_cmp m n) Less (eqb m n) refl)
  same_places m n (spot.Port r) (spot.HookCommand q) = rw (agrees.port_hook_command m n r q) (never (nat_cmp m n) Less (eqb m n) refl)
  same_places m n (spot.Port r) (spot.HookSignal q) = rw (agrees.port_hook_signal m n r q) (never (nat_cmp m n) Less (eqb m n) refl)
  same_places m n (spot.Command r) (spot.Port q) = rw (agrees.command_port m n r q) (never (nat_cmp m n) Greater (eqb m n) refl)
  same_places m n (spot.Command r) (spot.Command q) = rw (agrees.command_command m n r q) (grind (arith, nat_tests))
  same_places m n (spot.Command r) (spot.Action q v) = rw (agrees.command_action m n r q v) (never (nat_cmp m n) Less (eqb m n) refl)
  same_places m n (spot.Command r) (spot.HookPort q) = rw (agrees.command_hook_port m n r q) (never (nat_cmp m n) Less (eqb m n) refl)
  same_places m n (spot.Command r) (spot.HookCommand q) = rw (agrees.command_hook_command m n r q) (never (nat_cmp m n) Less (eqb m n) refl)
  same_places m n (spot.Command r) (spot.HookSignal q) = rw (agrees.command_hook_signal m n r q) (never (nat_cmp m n) Less (eqb m n) refl)
  same_places m n (spot.Action r u) (spot.Port q) = rw (agrees.action_port m n r u q) (never (nat_cmp m n) Greater (eqb m n) refl)
  same_places m n (spot.Action r u) (spot.Command q) = rw (agrees.action_command m n r u q) (never (nat_cmp m n) Greater (eqb m n) refl)
  same_places m n (spot.Action r u) (spot.Action q v) = rw (agrees.action_action m n r u q v) (grind (arith, nat_tests))
  same_places m n (spot.Action r u) (spot.HookPort q) = rw (agrees.action_hook_port m n r u q) (never (nat_cmp m n) Less (eqb m n) refl)
  same_places m n (spot.Action r u) (spot.HookCommand q) = rw (agrees.action_hook_command m n r u q) (never (nat_cmp m n) Less (eqb m n) refl)
  same_places m n (spot.Action r u) (spot.HookSignal q) = rw (agrees.action_hook_signal m n r u q) (never (nat_cmp m n) Less (eqb m n) refl)
  same_places m n (spot.HookPort r) (spot.Port q) = rw (agrees.hook_port_port m n r q) (never (nat_cmp m n) Greater (eqb m n) refl)
  same_places m n (spot.HookPort r) (spot.Command q) = rw (agrees.hook_port_command m n r q) (never (nat_cmp m n) Greater (eqb m n) refl)
  same_places m n (spot.HookPort r) (spot.Action q v) = rw (agrees.hook_port_action m n r q v) (never (nat_cmp m n) Greater (eqb m n) refl)
  same_places m n (spot.HookPort r) (spot.HookPort q) = rw (agrees.hook_port_hook_port m n r q) (grind (arith, nat_tests))
  same_places m n (spot.HookPort r) (spot.HookCommand q) = rw (agrees.hook_port_hook_command m n r q) (never (nat_cmp m n) Less (eqb m n) refl)
  same_places m n (spot.HookPort r) (spot.HookSignal q) = rw (agrees.hook_port_hook_signal m n r q) (never (nat_cmp m n) Less (eqb m n) refl)
  same_places m n (spot.HookCommand r) (spot.Port q) = rw (agrees.hook_command_port m n r q) (never (nat_cmp m n) Greater (eqb m n) refl)
  same_places m n (spot.HookCommand r) (spot.Command q) = rw (agrees.hook_command_command m n r q) (never (nat_cmp m n) Greater (eqb m n) refl)
  same_places m n (spot.HookCommand r) (spot.Action q v) = rw (agrees.hook_command_action m n r q v) (never (nat_cmp m n) Greater (eqb m n) refl)
  same_places m n (spot.HookCommand r) (spot.HookPort q) = rw (agrees.hook_command_hook_port m n r q) (never (nat_cmp m n) Greater (eqb m n) refl)
  same_places m n (spot.HookCommand r) (spot.HookCommand q) = rw (agrees.hook_command_hook_command m n r q) (grind (arith, nat_tests))
  same_places m n (spot.HookCommand r) (spot.HookSignal q) = rw (agrees.hook_command_hook_signal m n r q) (never (nat_cmp m n) Less (eqb m n) refl)
  same_places m n (spot.HookSignal r) (spot.Port q) = rw (agrees.hook_signal_port m n r q) (never (nat_cmp m n) Greater (eqb m n) refl)
  same_places m n (spot.HookSignal r) (spot.Command q) = rw (agrees.hook_signal_command m n r q) (never (nat_cmp m n) Greater (eqb m n) refl)
  same_places m n (spot.HookSignal r) (spot.Action q v) = rw (agrees.hook_signal_action m n r q v) (never (nat_cmp m n) Greater (eqb m n) refl)
  same_places m n (spot.HookSignal r) (spot.HookPort q) = rw (agrees.hook_signal_hook_port m n r q) (never (nat_cmp m n) Greater (eqb m n) refl)
  same_places m n (spot.HookSignal r) (spot.HookCommand q) = rw (agrees.hook_signal_hook_command m n r q) (never (nat_cmp m n) Greater (eqb m n) refl)
  same_places m n (spot.HookSignal r) (spot.HookSignal q) = rw (agrees.hook_signal_hook_signal m n r q) (grind (arith, nat_tests))

pub places_apart : {cmp : ℕ × Spot → ℕ × Spot → Ordering} (b : Bool) (places : List (ℕ × Spot)) (hs : List Handler) →
    b ≡ apart (eq_by_cmp cmp) places → places ≡ map (λ (h : Handler). (h.instance, h.place)) hs → Agrees cmp → b ≡ apart same_place hs
places_apart {cmp = cmp} b places hs p e agrees =
    p ∙ ap (apart (eq_by_cmp cmp)) e
    ∙ sym (apart-map same_place (eq_by_cmp cmp) (λ (h : Handler). (h.instance, h.place)) (λ h g. sym (same_places cmp agrees h.instance g.instance h.place g.place)) hs)
