-- What actions take, and where what a set or save command sends leads.
use Rattle.std.proofs.Common.{◌≡◌, ◌∙◌, ◌⊎◌, inl, inr, ℕ, Bool, true, false, cond, nat_lt, length, Option, Some, None, refl, ap, subst}
use Rattle.std.specs.Prelude.{option_and_then, option_map, option_to_list}
use Rattle.fp_graph.specs.Visits.{Among}
use Rattle.fp_base.proofs.Options.{then_some, mapped_some, same_some}
use Rattle.fp_tables.specs.Lookup.{Described}
use Rattle.fp_tables.specs.Acts.{command_of, machine_at}
use Rattle.fp_tables.specs.Programs.{port_way, command_way}
use Rattle.fp_tables.specs.Specials.{special_wire}
use Rattle.fp_tables.specs.declared.component.Full.TheVariants.{Assert, Block, Dropped, Hook}
use Rattle.fp_tables.specs.declared.component.Way.{Way}
use Rattle.fp_tables.specs.declared.component.Way.TheVariants.{Later, Sync, Guarded}
use Rattle.fp_tables.specs.declared.component.CommandPart.{CommandPart}
use Rattle.fp_tables.specs.declared.component.CommandPart.TheVariants.{Plain, SetParam, SaveParam}
use Rattle.fp_tables.specs.declared.component.Command.{Command}
use Rattle.fp_tables.specs.declared.component.Special.{Special}
use Rattle.fp_tables.specs.declared.component.Special.TheVariants as special
use Rattle.fp_tables.specs.declared.machine.Machine.{Machine}
use Rattle.fp_tables.specs.declared.topology.End.{End}
use Rattle.fp_tables.specs.declared.program.Act.{Act}
use Rattle.fp_tables.specs.declared.program.Verb.{Verb}
use Rattle.fp_tables.specs.declared.program.Verb.TheVariants as verb
use Rattle.fp_tables.specs.declared.program.Spot.{Spot}
use Rattle.fp_tables.specs.declared.program.Spot.TheVariants as spot
use Rattle.fp_reach.specs.declared.node.Node.{Node}
use Rattle.fp_reach.specs.declared.node.Node.TheVariants.{At, Implied}
use Rattle.fp_reach.specs.declared.node.Arrival.{Arrival}
use Rattle.fp_reach.specs.declared.node.Arrival.TheVariants as arrival
use Rattle.fp_reach.specs.declared.node.Lock.{Lock as Held}
use Rattle.fp_reach.specs.declared.node.Lock.TheVariants.{Guard, Turn}
use Rattle.fp_reach.specs.Nodes.{at_end, handled, guarded, held, sent, sent_for, sends, arrival_of, leads, guards, opens, taken, taken_with}
use Rattle.fp_reach.proofs.Amid.{among_either}

abbrev pub IsAt : Node → Type 0
IsAt (At i place) = Unit {0}
IsAt (Implied i n) = ⊥

abbrev instance_of : Held → ℕ
instance_of (Turn i) = i
instance_of (Guard i) = i

option_among : {A : Type 0} (o : Option A) (x : A) → Among (option_to_list o) x → o ≡ Some x
option_among None x h = absurd h
option_among (Some y) x (inl e) = ap Some e
option_among (Some y) x (inr h) = absurd h

handled_at : (w : Way) (u h v : Node) → IsAt u → IsAt h → handled w u h ≡ Some v → IsAt v
handled_at (Later p Hook) u h v a b e = subst IsAt (same_some e) b
handled_at (Later p Assert) u h v a b e = absurd (cc)
handled_at (Later p Block) u h v a b e = absurd (cc)
handled_at (Later p Dropped) u h v a b e = absurd (cc)
handled_at Sync u h v a b e = subst IsAt (same_some e) a
handled_at Guarded u h v a b e = subst IsAt (same_some e) a

guarded_no_turn : (i j : ℕ) (w : Way) → guarded i w ≡ Some (Turn j) → ⊥
guarded_no_turn i j Guarded e = let clash : Guard i ≡ Turn j = same_some e in cc
guarded_no_turn i j Sync e = cc
guarded_no_turn i j (Later p f) e = cc

held_own : (i j : ℕ) (w : Way) → held i w ≡ Some (Turn j) → i ≡ j
held_own i j (Later p f) e = ap instance_of (same_some e)
held_own i j Guarded e = ap instance_of (same_some e)
held_own i j Sync e = absurd (cc)

module _ (t : Described) where
  sent_at : (i : ℕ) (s : Special) (x : Arrival) → Among (option_to_list (sent t i s)) x → (e : End) × (at_end e ≡ x)
  sent_at i s x h =
      let m = mapped_some (λ (w : End × End). at_end w.1) (special_wire t i s) x (option_among (sent t i s) x h) in (m.0.1, m.2)

  sent_for_at : (i : ℕ) (part : Option CommandPart) (x : Arrival) → Among (sent_for t i part) x → (e : End) × (at_end e ≡ x)
  sent_for_at i (Some (SetParam k)) x h = sent_at i special.CmdResp x h
  sent_for_at i (Some (SaveParam k)) x h =
      either (among_either (option_to_list (sent t i special.PrmSet)) (option_to_list (sent t i special.CmdResp)) x h)
    where
      either : Among (option_to_list (sent t i special.PrmSet)) x ⊎ Among (option_to_list (sent t i special.CmdResp)) x → (e : End) × (at_end e ≡ x)
      either (inl k) = sent_at i special.PrmSet x k
      either (inr k) = sent_at i special.CmdResp x k
  sent_for_at i (Some Plain) x h = absurd h
  sent_for_at i None x h = absurd h

  port_led_at : (i p : ℕ) (v : Node) → leads t (arrival.Port i p) ≡ Some v → IsAt v
  port_led_at i p v e =
      let s = then_some (λ (w : Way). handled w (At i (spot.Port p)) (At i (spot.HookPort p))) (port_way t i p) v e in
      handled_at s.0 (At i (spot.Port p)) (At i (spot.HookPort p)) v tt tt s.2

  pub sends_at : (i n : ℕ) (x : Arrival) (v : Node) → Among (sends t i n) x → leads t x ≡ Some v → IsAt v
  sends_at i n x v among e =
      let s = sent_for_at i (option_map (λ (c : Command). c.part) (command_of t i n)) x among in
      port_led_at s.0.instance s.0.port v (ap (leads t) s.1 ∙ e)

  pub guards_no_turn : (x : Arrival) (j : ℕ) → guards t x ≡ Some (Turn j) → ⊥
  guards_no_turn (arrival.Port i p) j e = let s = then_some (guarded i) (port_way t i p) (Turn j) e in guarded_no_turn i j s.0 s.2
  guards_no_turn (arrival.Command i n) j e = let s = then_some (guarded i) (command_way t i n) (Turn j) e in guarded_no_turn i j s.0 s.2
  guards_no_turn (arrival.Signal i r) j e = cc

  arrival_no_turn : (i : ℕ) (a : Act) (j : ℕ) → option_and_then (guards t) (arrival_of t i a) ≡ Some (Turn j) → ⊥
  arrival_no_turn i a j e = let s = then_some (guards t) (arrival_of t i a) (Turn j) e in guards_no_turn s.0 j s.2

  pub dispatch_takes : (i : ℕ) (a : Act) → a.verb ≡ verb.Dispatch → taken t i a ≡ Some (Turn i)
  dispatch_takes i a d = ap (taken_with t i a) d

  turn_by : (i : ℕ) (a : Act) (j : ℕ) (v : Verb) → a.verb ≡ v → taken_with t i a v ≡ Some (Turn j) → (a.verb ≡ verb.Dispatch) × (i ≡ j)
  turn_by i a j verb.Dispatch is e = (is, ap instance_of (same_some e))
  turn_by i a j verb.Call is e = absurd (arrival_no_turn i a j e)
  turn_by i a j verb.Command is e = absurd (arrival_no_turn i a j e)
  turn_by i a j verb.Emit is e = absurd (arrival_no_turn i a j e)
  turn_by i a j verb.Write is e = absurd (arrival_no_turn i a j e)
  turn_by i a j verb.Read is e = absurd (arrival_no_turn i a j e)
  turn_by i a j verb.Signal is e = absurd (arrival_no_turn i a j e)
  turn_by i a j verb.Post is e = absurd (arrival_no_turn i a j e)
  turn_by i a j verb.Respond is e = absurd (arrival_no_turn i a j e)
  turn_by i a j verb.Return is e = absurd (arrival_no_turn i a j e)

  -- only a dispatch takes a turn, that of its own instance
  pub turn_taken : (i : ℕ) (a : Act) (j : ℕ) → taken t i a ≡ Some (Turn j) → (a.verb ≡ verb.Dispatch) × (i ≡ j)
  turn_taken i a j e = turn_by i a j a.verb refl e

  turn_if : (i j : ℕ) (b : Bool) → cond b (Some (Turn i)) None ≡ Some (Turn j) → i ≡ j
  turn_if i j true e = ap instance_of (same_some e)
  turn_if i j false e = absurd (cc)

  -- a handler opens with the turn of its own instance
  pub own_turn : (i : ℕ) (place : Spot) (j : ℕ) → opens t i place ≡ Some (Turn j) → i ≡ j
  own_turn i (spot.Port p) j e = let s = then_some (held i) (port_way t i p) (Turn j) e in held_own i j s.0 s.2
  own_turn i (spot.Command n) j e = let s = then_some (held i) (command_way t i n) (Turn j) e in held_own i j s.0 s.2
  own_turn i (spot.Action r k) j e =
      let s = then_some (λ (m : Machine). cond (nat_lt k (length m.actions)) (Some (Turn i)) None) (machine_at t i r) (Turn j) e in turn_if i j (nat_lt k (length s.0.actions)) s.2
  own_turn i (spot.HookPort p) j e = absurd (cc)
  own_turn i (spot.HookCommand n) j e = absurd (cc)
  own_turn i (spot.HookSignal r) j e = absurd (cc)
