use Rattle.std.proofs.Common.{◌≡◌, sym, ◌∙◌, subst}
use Rattle.fp_base.proofs.Options.{same_some}
use Rattle.fp_events.specs.declared.event.Entry.{Entry}
use Rattle.fp_actor.specs.declared.step.Step.{Step}
use Rattle.fp_actor.specs.Awaited.{IsStep}
use Rattle.fp_actor.proofs.Closing.{staying_follows}
use Rattle.fp_actor.proofs.view.View.follow.Goals as goal

pub returns-in-Stay : goal.returns-in-Stay
returns-in-Stay c = λ entry there awaited.
    let v = c.args.self.now in
    let same : c.in-Some.entry.now ≡ entry = same_some (c.in-Some.ensures ∙ there) in
    let step = subst (λ (s : Step). IsStep s entry.what) c.in-Stay.is (subst (λ (e : Entry). IsStep c.step_of.result e.what) same c.step_of.ensures) in
    record { follow = λ x h. sym h ∙ staying_follows v.tables.now v.program.now entry.instance x entry.what step; kept = c.requires.kept }

pub returns-in-Close : goal.returns-in-Close
returns-in-Close c = λ entry there awaited.
    let v = c.args.self.now in
    let same : c.in-Some.entry.now ≡ entry = same_some (c.in-Some.ensures ∙ there) in
    let step = subst (λ (s : Step). IsStep s entry.what) c.in-Close.is (subst (λ (e : Entry). IsStep c.step_of.result e.what) same c.step_of.ensures) in
    c.close_frame.ensures c.args.bindings.now.items entry step c.requires.kept

pub returns-in-Return : goal.returns-in-Return
returns-in-Return c = λ entry there awaited.
    let v = c.args.self.now in
    let same : c.in-Some.entry.now ≡ entry = same_some (c.in-Some.ensures ∙ there) in
    let step = subst (λ (s : Step). IsStep s entry.what) c.in-Return.is (subst (λ (e : Entry). IsStep c.step_of.result e.what) same c.step_of.ensures) in
    c.return_from_frame.ensures entry there step

pub returns-in-Take : goal.returns-in-Take
returns-in-Take c = λ entry there awaited.
    let v = c.args.self.now in
    let same : c.in-Some.entry.now ≡ entry = same_some (c.in-Some.ensures ∙ there) in
    let step = subst (λ (s : Step). IsStep s entry.what) c.in-Take.is (subst (λ (e : Entry). IsStep c.step_of.result e.what) same c.step_of.ensures) in
    c.take.ensures c.args.bindings.now.items entry there step awaited c.requires.kept

pub returns-in-Act : goal.returns-in-Act
returns-in-Act c = λ entry there awaited.
    let v = c.args.self.now in
    let same : c.in-Some.entry.now ≡ entry = same_some (c.in-Some.ensures ∙ there) in
    let step = subst (λ (s : Step). IsStep s entry.what) c.in-Act.is (subst (λ (e : Entry). IsStep c.step_of.result e.what) same c.step_of.ensures) in
    c.act.ensures entry there step awaited
