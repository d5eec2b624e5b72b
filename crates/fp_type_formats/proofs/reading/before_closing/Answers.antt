use Rattle.std.proofs.Common.{◌≡◌, ◌++◌, ◌∷◌, suc, take, drop, arith}
use Rattle.std.proofs.Math.Seq.{split_at}
use Rattle.fp_formats.proofs.Braces.{opened_first}
use Rattle.fp_type_formats.proofs.reading.before_closing.Goals as goal

pub returns-in-123 : goal.returns-in-123
returns-in-123 c inside rest h e =
    let s = split_at c.args.bytes.now c.loop-at.at 0 (omega arith) in
    let is = c.in-123.is in
    let p : take c.loop-at.at c.args.bytes.now ++ (123 ∷ drop (suc c.loop-at.at) c.args.bytes.now) ≡ inside ++ (125 ∷ rest) = cc in
    opened_first (take c.loop-at.at c.args.bytes.now) (drop (suc c.loop-at.at) c.args.bytes.now) inside rest c.loop-at.invariant h p
