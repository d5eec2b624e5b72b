use Rattle.std.proofs.Common.{◌≡◌, List, [], sym, ap, ◌∙◌, subst}
use Rattle.fp_actor.specs.declared.level.Level.{Level}
use Rattle.fp_actor.specs.Stacked.{frames, IsBottom}
use Rattle.fp_actor.proofs.Closing.{nothing_closes, closing_follows}
use Rattle.fp_actor.proofs.Keeping.{kept_taken}
use Rattle.fp_actor.proofs.view.View.close_frame.Goals as goal

pub returns-in_default : goal.returns-in_default
returns-in_default c = λ bindings entry o kept.
    let v = c.args.self.now in
    let none : c.args.levels.now.items ≡ [] = sym c.as_slice.ensures.value ∙ c.in_default.ensures bindings in
    let same = ap (frames v.tables.now v.program.now v.number v.trace.now bindings) none in
    record { follow = λ x h. same ∙ nothing_closes v.tables.now v.program.now entry.instance x entry.what o (h ∙ same); kept = kept }

pub returns : goal.returns
returns c = λ bindings entry o kept.
    let v = c.args.self.now in
    let ls = c.args.levels.now.items in
    let b = c.in-Some.bottom in
    let is = subst (λ (ms : List Level). IsBottom v.tables.now v.program.now v.number v.trace.now bindings ms b) c.as_slice.ensures.value (c.in-Some.ensures bindings) in
    rw c.close.ensures
    (record {
      follow = λ x h. closing_follows v.tables.now v.program.now v.number v.trace.now bindings ls b is entry.instance x entry.what o h;
      kept = kept_taken v.tables.now v.program.now v.number v.trace.now bindings ls kept b.below;
    })
