use Rattle.std.proofs.Common.{◌≡◌, ℕ, List, [], Some, length, slice_get, refl, sym, subst}
use Rattle.std.proofs.lemmas.Option.{slice_get_read}
use Rattle.fp_meaning.specs.Broken.{IsUnmeant}
use Rattle.fp_meaning.specs.Meaning.{AreMeanings}
use Rattle.fp_base.proofs.Elements.{least_first_none}
use Rattle.fp_names.proofs.Faults.{least_next, found_next, meanings_none}
use Rattle.fp_names.proofs.lookups.look_up.Goals as goal

pub loop-mention-init : goal.loop-mention-init
loop-mention-init c = record { least = least_first_none (λ _. IsUnmeant c.args.names.now) c.args.mentions.now; found = λ e. subst (λ (ns : List ℕ). AreMeanings c.args.names.now [] ns) (sym c.new.ensures) (meanings_none c.args.names.now) }

pub loop-mention-preserved : goal.loop-mention-preserved
loop-mention-preserved c =
    let all = c.args.mentions.now in
    let n = c.loop-mention.mention-index in
    let m = c.mention-item.result in
    let at : slice_get all n ≡ Some m = slice_get_read all (length all) n m refl c.loop-mention-test.true c.mention-item.is in
    record {
      least = least_next c.args.names.now all n m c.loop-mention.found c.note.new.found at c.in_ok-note.ensures c.loop-mention.invariant.least;
      found = found_next c.args.names.now all n m c.loop-mention.found c.note.new.found at c.in_ok-note.ensures c.loop-mention.invariant.found;
    }
