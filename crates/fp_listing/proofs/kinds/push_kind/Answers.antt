use Rattle.std.proofs.Common.{◌≡◌, ◌++◌, OnOk, subst, sym}
use Rattle.std.specs.Prelude.{codes, decimal}
use Rattle.fp_tables.specs.declared.kind.Kind.{Kind}
use Rattle.fp_listing.specs.Kinds.{kind_text}
use Rattle.fp_logtext.proofs.Pushed.{first, next, last}
use Rattle.fp_listing.proofs.kinds.push_kind.Goals as goal

pub returns-in_ok-push_text-in-Str-2 : goal.returns-in_ok-push_text-in-Str-2
returns-in_ok-push_text-in-Str-2 c =
    let word = first c.args.out.now (codes "string ") c.in_ok-push_text-in-Str.ensures in
    let words = next word (codes "size ") c.in_ok-push_text-in-Str-2.ensures in
    subst (λ (k : Kind). OnOk c.push_number.result (c.push_number.new.log ≡ c.args.out.now ++ kind_text c.args.types.now k)) (sym c.in-Str.is)
    (last words (decimal c.in-Str.size) c.push_number.new.log c.push_number.result c.push_number.ensures)
