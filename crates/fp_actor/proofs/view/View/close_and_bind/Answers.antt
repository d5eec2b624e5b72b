use Rattle.std.proofs.Common.{◌≡◌, ◌<◌, List, [], ◌∷◌, ◌++◌, length, take, sym, ap, ◌∙◌, subst}
use Rattle.std.proofs.Math.Seq.{take-append_seam}
use Rattle.std.proofs.lemmas.Option.{slice_get_within}
use Rattle.fp_base.proofs.Lists.{no_items}
use Rattle.fp_actor.specs.declared.level.Base.{Base}
use Rattle.fp_actor.specs.declared.level.Level.{Level}
use Rattle.fp_actor.specs.Placed.{AreKept, IsBeginning}
use Rattle.fp_actor.proofs.Bound.{some_of, returning_follows, returning_nowhere}
use Rattle.fp_actor.proofs.Keeping.{bindable, call_before, kept_taken, kept_bound}
use Rattle.fp_actor.proofs.view.View.close_and_bind.Goals as goal

pub returns-in_default : goal.returns-in_default
returns-in_default c = λ entry there o.
    let v = c.args.self.now in
    let r = c.requires in
    let ls = c.args.levels.now.items in
    let bs = c.args.bindings.now.items in
    let cut = c.close.ensures in
    let seen = c.as_slice.ensures.value in
    let last = c.in_default.ensures.cases in
    let none : length (take c.args.bottom.below ls) ≡ 0 = cc in
    rw c.close.ensures
    (record {
      follow =
          λ x h. returning_nowhere v.tables.now v.program.now v.number v.trace.now bs c.args.call c.args.at ls c.args.bottom r.bottom r.base _ (some_of _ [] r.named) entry there x o h
          (no_items _ none);
      kept = kept_taken v.tables.now v.program.now v.number v.trace.now bs ls r.kept c.args.bottom.below;
    })

pub returns : goal.returns
returns c = λ entry there o.
    let v = c.args.self.now in
    let r = c.requires in
    let ls = c.args.levels.now.items in
    let bs = c.args.bindings.now.items in
    let n = c.args.bottom.below in
    let l = c.in-Some.level.now in
    let lower = c.in-Some.below.now in
    let cut = c.close.ensures in
    let seen = c.as_slice.ensures.value in
    let last = c.in-Some.ensures.cases.0 in
    let whole : c.close.new.levels.items ≡ lower ++ l ∷ [] = cc in
    let split : take n ls ≡ lower ++ l ∷ [] = sym cut ∙ whole in
    let under : take (length lower) c.close.new.levels.items ≡ lower = ap (take (length lower)) whole ∙ take-append_seam lower (l ∷ []) in
    let lt : c.args.at < length v.trace.now = slice_get_within _ _ entry there in
    let begins = subst (λ (b : Base). IsBeginning b) (sym r.base) tt in
    let can = bindable v.tables.now v.program.now v.number v.trace.now bs ls r.kept n c.args.bottom.level r.bottom.there begins in
    let called = call_before v.tables.now v.program.now v.number v.trace.now (length bs) (take n ls) c.args.bottom.level c.args.call r.base (r.kept.standing n c.args.bottom.level r.bottom.there) in
    rw (c.bind.ensures.levels, c.bind.ensures.bindings, under)
    (record {
      follow = λ x h. returning_follows v.tables.now v.program.now v.number v.trace.now bs c.args.call c.args.at ls c.args.bottom r.bottom r.base _ (some_of _ [] r.named) entry there x o h lower l split can;
      kept =
          kept_bound v.tables.now v.program.now v.number v.trace.now bs lower l (record { name = c.args.call; value = c.args.at })
          (subst (λ (ms : List Level). AreKept v.tables.now v.program.now v.number v.trace.now bs ms) split (kept_taken v.tables.now v.program.now v.number v.trace.now bs ls r.kept n)) called lt;
    })
