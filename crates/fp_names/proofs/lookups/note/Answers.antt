use Rattle.fp_names.specs.Answers.{Notes}
use Rattle.fp_names.proofs.Faults.{notes_meant}
use Rattle.std.proofs.Common.{refl}
use Rattle.fp_base.proofs.Options.{on_ok_then}
use Rattle.fp_names.proofs.lookups.note.Goals as goal

pub unmeant-requires : goal.unmeant-requires
unmeant-requires c = λ h. c.in-None.ensures h.0 h.1

pub returns-in-Some : goal.returns-in-Some
returns-in-Some c =
    on_ok_then c.push.result _ (Notes c.args.names.now c.args.mention.now c.args.found.now (record { meanings = c.push.new.self; first = c.args.found.now.first }))
    (λ e. notes_meant c.args.names.now c.args.mention.now c.args.found.now _ c.in-Some.number c.in-Some.ensures refl e) c.push.ensures.ok
