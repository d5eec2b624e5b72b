-- How many elements of each kind stand before each position.
use Rattle.std.specs.Prelude.{◌≡◌, ◌<◌, ℕ, suc, List, filter, length, slice_get, take, Some}
use Rattle.fp_tree.specs.declared.machine.BehaviorElement.{BehaviorElement}
use Rattle.fp_tree.specs.declared.machine.ElementForm.{ElementForm}
use Rattle.fp_tree.specs.declared.machine.ElementForm.TheVariants as element
use Rattle.fp_machines.specs.declared.counting.Counts.{Counts}
use Rattle.fp_machines.specs.declared.counting.CountTable.{CountTable}
use Rattle.fp_machines.specs.Made.{is_action, is_guard, is_signal, is_vertex}

abbrev pub counts_of : List BehaviorElement → Counts
counts_of es = record {
  vertices = length (filter (λ (e : BehaviorElement). is_vertex e.form) es);
  signals = length (filter (λ (e : BehaviorElement). is_signal e.form) es);
  actions = length (filter (λ (e : BehaviorElement). is_action e.form) es);
  guards = length (filter (λ (e : BehaviorElement). is_guard e.form) es);
}

-- with one element more
abbrev pub counts_with : Counts → ElementForm → Counts
counts_with c (element.State n) = record c { vertices = suc c.vertices }
counts_with c (element.Choice x) = record c { vertices = suc c.vertices }
counts_with c (element.Signal t) = record c { signals = suc c.signals }
counts_with c (element.Action t) = record c { actions = suc c.actions }
counts_with c (element.Guard t) = record c { guards = suc c.guards }
counts_with c _ = c

pub record AreCounted (es : List BehaviorElement) (table : CountTable) : Type 0 where
  pub each : length table.before ≡ length es
  pub exact : (at : ℕ) → at < length es → slice_get table.before at ≡ Some (counts_of (take at es))
  pub all : table.all ≡ counts_of es
