-- What a list has that is sorted anew.
use Rattle.std.proofs.Common.{◌≡◌, ℕ, List, ◌++◌, map, eqb, sym, ap, ap₂, ◌∙◌, subst}
use Rattle.std.proofs.lemmas.List.Elements.{filter-append}
use mathlib.Core.List.{IsPrefix}
use Rattle.fp_tables.specs.Lookup.{Described, placed}
use Rattle.fp_tables.specs.declared.program.Program.{Program}
use Rattle.fp_events.specs.declared.event.Entry.{Entry}
use Rattle.fp_events.specs.Run.{at, by, actors, history, trace, IsKept, IsTold, AreRecords}
use Rattle.fp_running.specs.Progress.{Progress}
use Rattle.fp_running.proofs.Parts.{parts_at, parts_by}

-- where a list has the parts of one that goes on, what stood before is a prefix of its parts
pub at_begins : (before more es : List Entry) → ((i : ℕ) → at i es ≡ at i (before ++ more)) → (i : ℕ) → IsPrefix (at i before) (at i es)
at_begins before more es at_are i = (at i more, sym (at_are i ∙ filter-append (λ (e : Entry). eqb e.instance i) before more))

pub by_begins : (before more es : List Entry) → ((a : ℕ) → by a es ≡ by a (before ++ more)) → (a : ℕ) → IsPrefix (by a before) (by a es)
by_begins before more es by_are a = (by a more, sym (by_are a ∙ filter-append (λ (e : Entry). eqb e.actor a) before more))

module _ (t : Described) (p : Program) (r : Progress) (same_tables : r.tables ≡ t) (same_program : r.program ≡ p) (histories traces : List (List Entry))
    (histories_are : histories ≡ map (λ i. at i r.entries) (placed r.tables)) (traces_are : traces ≡ map (λ a. by a r.entries) (actors r.tables r.program)) where
  here : histories ≡ map (λ i. at i r.entries) (placed t)
  here = histories_are ∙ ap (λ (u : Described). map (λ i. at i r.entries) (placed u)) same_tables

  there : traces ≡ map (λ a. by a r.entries) (actors t p)
  there = traces_are ∙ ap₂ (λ (u : Described) (q : Program). map (λ a. by a r.entries) (actors u q)) same_tables same_program

  -- the parts of the run are its records, and a list that is merged from them has them
  pub are_records : AreRecords t p (map (λ i. at i r.entries) (placed t)) (map (λ a. by a r.entries) (actors t p)) → AreRecords t p histories traces
  are_records k =
      subst (λ (hs : List (List Entry)). AreRecords t p hs traces) (sym here)
      (subst (λ (ts : List (List Entry)). AreRecords t p (map (λ i. at i r.entries) (placed t)) ts) (sym there) k)

  pub at_anew : ((i : ℕ) → IsKept t p i (at i r.entries)) → (es : List Entry) → ((i : ℕ) → at i es ≡ history t p histories i) → (i : ℕ) → at i es ≡ at i r.entries
  at_anew kept es merged i = merged i ∙ ap (λ (hs : List (List Entry)). history t p hs i) here ∙ parts_at t p r.entries kept i

  pub by_anew : ((a : ℕ) → IsTold t p a (by a r.entries)) → (es : List Entry) → ((a : ℕ) → by a es ≡ trace t p traces a) → (a : ℕ) → by a es ≡ by a r.entries
  by_anew told es merged a = merged a ∙ ap (λ (ts : List (List Entry)). trace t p ts a) there ∙ parts_by t p r.entries told a
