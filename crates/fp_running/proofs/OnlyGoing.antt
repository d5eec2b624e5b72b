-- A run that is replayed from the opening and goes on.
use Rattle.std.proofs.Common.{◌≡◌, Bool, true, false, List, [], ◌∷◌, ◌++◌, append-nil, sym, ap, ◌∙◌, subst}
use Rattle.fp_tables.specs.Lookup.{Described}
use Rattle.fp_tables.specs.declared.program.Program.{Program}
use Rattle.fp_events.specs.declared.event.Entry.{Entry}
use Rattle.fp_events.specs.declared.event.Finish.{Finish}
use Rattle.fp_events.specs.Ends.{EndsAs}
use Rattle.fp_running.specs.Progress.{Progress, Added, and_then}

-- it has these entries and those that were added, none where so it is told
pub record GoneOn (t : Described) (p : Program) (es : List Entry) (more : Bool) (r : Progress) : Type 0 where
  pub same_tables : r.tables ≡ t
  pub same_program : r.program ≡ p
  pub added : List Entry
  pub entries : r.entries ≡ es ++ added
  pub all : more ≡ false → r.entries ≡ es

gone_from : (t : Described) (p : Program) (es : List Entry) (replayed gone : Progress) → replayed ≡ record { tables = t; program = p; entries = es }
    → (more : Bool) → Added more replayed gone → GoneOn t p es more gone
gone_from t p es replayed gone stands false same =
    let is : gone ≡ record { tables = t; program = p; entries = es } = same ∙ stands in
    record {
      same_tables = ap (λ (r : Progress). r.tables) is;
      same_program = ap (λ (r : Progress). r.program) is;
      added = [];
      entries = ap (λ (r : Progress). r.entries) is ∙ sym (append-nil es);
      all = λ told. ap (λ (r : Progress). r.entries) is;
    }
gone_from t p es replayed gone stands true (e, more, same) =
    let is : gone ≡ record { tables = t; program = p; entries = es ++ e ∷ more } = same ∙ ap (λ (r : Progress). and_then r (e ∷ more)) stands in
    record {
      same_tables = ap (λ (r : Progress). r.tables) is;
      same_program = ap (λ (r : Progress). r.program) is;
      added = e ∷ more;
      entries = ap (λ (r : Progress). r.entries) is;
      all = λ told. absurd (cc);
    }

-- opened, replayed by the entries of a slice, and gone on
pub gone_on : (t : Described) (p : Program) (es slice : List Entry) (opened replayed gone ended : Progress) (more : Bool) → slice ≡ es
    → opened ≡ record { tables = t; program = p; entries = [] } → replayed ≡ and_then opened slice → Added more replayed gone → ended ≡ gone
    → GoneOn t p es more ended
gone_on t p es slice opened replayed gone ended more same is_opened is_replayed added is_gone =
    subst (GoneOn t p es more) (sym is_gone)
    (gone_from t p es replayed gone (is_replayed ∙ ap (λ (r : Progress). and_then r slice) is_opened ∙ ap (λ (xs : List Entry). record { tables = t; program = p; entries = xs }) same) more added)

-- its end is one of its tables and its program
pub ends_so : (t : Described) (p : Program) (r : Progress) (f : Finish) → r.tables ≡ t → r.program ≡ p → EndsAs r.tables r.program r.entries f → EndsAs t p r.entries f
ends_so t p r f same_tables same_program h =
    subst (λ (u : Described). EndsAs u p r.entries f) same_tables (subst (λ (q : Program). EndsAs r.tables q r.entries f) same_program h)
