use Rattle.std.proofs.Common.{◌≡◌, sym, subst, ℕ, List, Option, None, Some}
use Rattle.fp_base.specs.declared.refusal.Refusal.{Refusal}
use Rattle.fp_base.specs.Least.{IsLeast}
use Rattle.fp_numbering.specs.Ends.{matches_of, tips_of}
use Rattle.fp_numbering.specs.Numbers.{Numbered}
use Rattle.fp_numbering.specs.Walked.{BreaksWalked}
use Rattle.fp_numbering.proofs.Ending.{lanes_of_tips, numbered, least, nothing, all, each}
use Rattle.fp_numbering.proofs.numbering.number_tips.Goals as goal

pub walked_faults-requires-clause-lanes : goal.walked_faults-requires-clause-lanes
walked_faults-requires-clause-lanes c = lanes_of_tips c.args.model.now c.args.links.now c.requires.sound c.args.tips.now c.requires.ends c.in_ok-walked.walked c.in_ok-walked.ensures

least_of : (o q : Option Refusal) (P : Refusal → Type 0) → o ≡ q → IsLeast P o → IsLeast P q
least_of o q P e h = subst (λ (x : Option Refusal). IsLeast P x) e h

pub returns-in-Some-clause-stop : goal.returns-in-Some-clause-stop
returns-in-Some-clause-stop c =
    let m = c.args.model.now in
    let ts = c.args.tips.now in
    let w = c.in_ok-walked.walked in
    least m c.args.links.now c.requires.sound ts c.requires.ends w c.in_ok-walked.ensures (Some c.in-Some.refusal) (least_of c.in_ok-first.first (Some c.in-Some.refusal) (BreaksWalked m ts w) c.in-Some.is c.in_ok-first.ensures)

pub wires-requires-clause-each : goal.wires-requires-clause-each
wires-requires-clause-each c = each c.args.model.now c.args.links.now c.requires.sound c.args.tips.now c.requires.ends c.in_ok-walked.walked c.in_ok-walked.ensures

pub wires-requires-clause-known : goal.wires-requires-clause-known
wires-requires-clause-known c =
    let m = c.args.model.now in
    let ts = c.args.tips.now in
    let w = c.in_ok-walked.walked in
    all m c.args.links.now c.requires.sound ts c.requires.ends w c.in_ok-walked.ensures (least_of c.in_ok-first.first None (BreaksWalked m ts w) c.in-None.is c.in_ok-first.ensures)

pub returns-clause-ok : goal.returns-clause-ok
returns-clause-ok c =
    let m = c.args.model.now in
    let ts = c.args.tips.now in
    let w = c.in_ok-walked.walked in
    record {
      unbroken = nothing m c.args.links.now c.requires.sound ts c.requires.ends w c.in_ok-walked.ensures (least_of c.in_ok-first.first None (BreaksWalked m ts w) c.in-None.is c.in_ok-first.ensures);
      joined = c.in_ok-wires-in-None.ensures.joined;
      numbered =
          subst (λ (xs : List (Option ℕ)). Numbered (matches_of m) (tips_of m c.args.links.now) xs) (sym c.in_ok-wires-in-None.ensures.numbers)
          (numbered m c.args.links.now c.requires.sound ts c.requires.ends w c.in_ok-walked.ensures);
    }
