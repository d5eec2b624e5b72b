-- Runs by computing: the steps that actors take in a given order.
use Rattle.std.specs.Prelude.{ℕ, Option, Some, None, option_map, option_and_then, List, [], ◌∷◌, map, cond, nat_le}
use Rattle.fp_events.specs.System.{System}
use Rattle.fp_events.specs.SystemRun.{World, after, opening}

module _ {S A Q E : Type 0} (system : System S A Q E) where
  -- the actor takes the entry, where its stamp is within the limit
  abbrev pub taken : World S A → ℕ → E × S → Option (E × World S A)
  taken w a r = cond (nat_le (system.stamp r.0) system.steps) (option_map (λ x. (r.0, after system w r.0 r.1 x)) (system.actor_part a (w.actors a) r.0)) None

  -- the step that the actor can take: its entry, and the world after it
  abbrev pub turn : World S A → ℕ → Option (E × World S A)
  turn w a = option_and_then (λ d. option_and_then (taken w a) (system.instance_part d.0 (w.instances d.0) a d.1 (system.actor_stamp (w.actors a)))) (system.due a (w.actors a))

  -- the entries of these actors' steps, in this order, and the world after them
  abbrev pub schedule : World S A → List ℕ → Option (List E × World S A)
  schedule w [] = Some ([], w)
  schedule w (a ∷ order) = option_and_then (λ r. option_map (λ rest. (r.0 ∷ rest.0, rest.1)) (schedule r.1 order)) (turn w a)

  -- what the actors of these entries make in this order
  abbrev pub replayed : List E → Option (List E)
  replayed es = option_map (λ (r : List E × World S A). r.0) (schedule (opening system) (map system.actor es))
