-- Logs by computing: what the actors' steps make, taken in a given order.
use Rattle.std.specs.Prelude.{◌≡◌, ℕ, true, List, [], ◌∷◌, ◌++◌, take, Option, Some, option_map, option_and_then, is_none}
use Rattle.std.specs.List.{list_all}
use Rattle.fp_events.specs.Schedule.{schedule}
use Rattle.fp_tables.specs.Lookup.{Described}
use Rattle.fp_tables.specs.declared.program.Program.{Program}
use Rattle.fp_events.specs.declared.event.Entry.{Entry}
use Rattle.fp_events.specs.declared.event.Finish.{Finish}
use Rattle.fp_events.specs.Step.{core}
use Rattle.fp_events.specs.Run.{World, opening}
use Rattle.fp_events.specs.Ends.{finish}

module _ (t : Described) (program : Program) (order : List ℕ) where
  -- the entries of these actors' steps, and the world after them
  abbrev pub scheduled : List ℕ → Option (List Entry × World)
  scheduled actors = schedule (core t program) (opening t program) actors

  abbrev pub log : Option (List Entry)
  log = option_map (λ (r : List Entry × World). r.0) (scheduled order)

  abbrev pub end : Option Finish
  end = option_and_then (λ (r : List Entry × World). finish t program r.0 r.1) (scheduled order)

  -- steps in this order make these entries and this end, and after the first so many of them each of these actors has no step
  pub record Makes (made : List Entry) (at_end : Finish) (idle : List (ℕ × List ℕ)) : Type 0 where
    pub entries : log ≡ Some made
    pub ending : end ≡ Some at_end
    pub waiting : list_all (λ (p : ℕ × List ℕ). list_all (λ a. is_none (scheduled (take p.0 order ++ a ∷ []))) p.1) idle ≡ true
