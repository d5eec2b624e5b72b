use Rattle.std.proofs.Common.{◌≡◌, List, [], sym, ap, ◌∙◌, subst}
use Rattle.fp_actor.specs.declared.level.Level.{Level}
use Rattle.fp_actor.specs.Stacked.{frames, IsBottom}
use Rattle.fp_actor.proofs.Closing.{nothing_returns, unnamed_follows}
use Rattle.fp_actor.proofs.Keeping.{kept_taken}
use Rattle.fp_actor.proofs.view.View.return_from_frame.Goals as goal

pub returns-in_default : goal.returns-in_default
returns-in_default c = λ entry there o.
    let v = c.args.self.now in
    let bs = c.args.bindings.now.items in
    let none : c.args.levels.now.items ≡ [] = sym c.as_slice.ensures.value ∙ c.in_default.ensures bs in
    let same = ap (frames v.tables.now v.program.now v.number v.trace.now bs) none in
    record { follow = λ x h. same ∙ nothing_returns v.tables.now v.program.now entry.instance x entry.what o (h ∙ same); kept = c.requires.kept }

pub close_and_bind-requires-clause-bottom : goal.close_and_bind-requires-clause-bottom
close_and_bind-requires-clause-bottom c =
    let v = c.args.self.now in
    let bs = c.args.bindings.now.items in
    subst (λ (ms : List Level). IsBottom v.tables.now v.program.now v.number v.trace.now bs ms c.in-Some.bottom) c.as_slice.ensures.value (c.in-Some.ensures bs)

pub returns-in-None : goal.returns-in-None
returns-in-None c = λ entry there o.
    let v = c.args.self.now in
    let ls = c.args.levels.now.items in
    let bs = c.args.bindings.now.items in
    let b = c.in-Some.bottom in
    let is = subst (λ (ms : List Level). IsBottom v.tables.now v.program.now v.number v.trace.now bs ms b) c.as_slice.ensures.value (c.in-Some.ensures bs) in
    rw c.close.ensures
    (record {
      follow = λ x h. unnamed_follows v.tables.now v.program.now v.number v.trace.now bs ls b is c.in-None.ensures entry.instance x entry.what o h;
      kept = kept_taken v.tables.now v.program.now v.number v.trace.now bs ls c.requires.kept b.below;
    })
