-- How many entries so far are of a kind.
use Rattle.std.proofs.Common.{◌≡◌, ℕ, ◌+◌, ◌<◌, Bool, true, false, List, length, take, get_or, ap, sym, ◌∙◌}
use Rattle.std.proofs.lemmas.List.Sums.{count_by_more_no, count_by_more_yes}
use Rattle.fp_events.specs.declared.event.Entry.{Entry}
use Rattle.fp_events.specs.declared.event.What.{What}
use Rattle.fp_scenario_run.specs.Told.{count_of}

module _ (kind : What → Bool) (entries : List Entry) (i : ℕ) (e : Entry) (within : i < length entries) (is : e ≡ get_or entries i e) where
  pub one_counted : (answer : Bool) (before : ℕ) → answer ≡ kind e.what → answer ≡ true → before ≡ count_of kind (take i entries) → before + 1 ≡ count_of kind (take (i + 1) entries)
  one_counted answer before tested yes' so_far =
      ap (λ (n : ℕ). n + 1) so_far
      ∙ sym (count_by_more_yes (λ (x : Entry). kind x.what) entries i e within (ap (λ (x : Entry). kind x.what) (sym is) ∙ sym tested ∙ yes'))

  pub none_counted : (answer : Bool) (before : ℕ) → answer ≡ kind e.what → answer ≡ false → before ≡ count_of kind (take i entries) → before ≡ count_of kind (take (i + 1) entries)
  none_counted answer before tested other so_far =
      so_far ∙ sym (count_by_more_no (λ (x : Entry). kind x.what) entries i e within (ap (λ (x : Entry). kind x.what) (sym is) ∙ sym tested ∙ other))
