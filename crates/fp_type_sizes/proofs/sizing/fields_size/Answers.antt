use Rattle.std.proofs.Common.{◌+◌, List, drop, refl, sym, subst, ◌∙◌}
use Rattle.std.proofs.lemmas.List.{at_drop_all}
use Rattle.fp_tables.specs.declared.kind.Field.{Field}
use Rattle.fp_type_sizes.specs.declared.written.Size.{Size}
use Rattle.fp_type_sizes.proofs.Counted.{IsRunning, running_first, running_next, running_none, running_last, member_found, full_at, left_of, field_kind, none_found, at_size}
use Rattle.fp_type_sizes.proofs.sizing.fields_size.Goals as goal

pub loop-field-init : goal.loop-field-init
loop-field-init c ws sound = running_first ws _ _ refl

pub returns-in-None : goal.returns-in-None
returns-in-None c ws sound =
    let fields = c.args.fields.now in
    let i = c.loop-field.field-index in
    let f = c.field-item.result in
    let run = subst (λ (rest : List Field). IsRunning ws fields rest c.loop-field.sum) (left_of fields i f c.loop-field-test.true c.field-item.is) (c.loop-field.invariant ws sound) in
    let found = at_size _ _ _ (sym c.member_size.ensures ∙ c.in-None.is) (member_found ws c.args.table.now f.size f.kind sound) in
    none_found _ _ (λ full a b m. running_none _ run found (full_at ws c.args.table.now _ i f.kind (field_kind fields i f c.loop-field-test.true c.field-item.is) full) a b m)

pub loop-field-preserved : goal.loop-field-preserved
loop-field-preserved c ws sound =
    let fields = c.args.fields.now in
    let i = c.loop-field.field-index in
    let f = c.field-item.result in
    let run = subst (λ (rest : List Field). IsRunning ws fields rest c.loop-field.sum) (left_of fields i f c.loop-field-test.true c.field-item.is) (c.loop-field.invariant ws sound) in
    let p = (member_found ws c.args.table.now f.size f.kind sound).holds c.in-Some.one (sym c.member_size.ensures ∙ c.in-Some.is) in
    subst (λ (s : Size). IsRunning ws fields (drop (i + 1) fields) s) (sym c.beside-sum.ensures) (running_next p.0 p.1 c.in-Some.one run p.2 p.3)

pub returns : goal.returns
returns c ws sound =
    let fields = c.args.fields.now in
    let run = subst (λ (rest : List Field). IsRunning ws fields rest c.loop-field.sum) (at_drop_all (λ (xs : List Field). xs) fields c.loop-field.field-index c.loop-field-test.false) (c.loop-field.invariant ws sound) in
    running_last _ run
