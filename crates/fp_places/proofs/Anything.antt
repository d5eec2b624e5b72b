-- Nothing that is asked of a name, and nothing of a token.
use Rattle.std.proofs.Common.{List}
use Rattle.std.specs.List.{AllByRecursion as Each}
use Rattle.fp_base.proofs.Lists.{each_of_any}
use Rattle.fp_lexer.specs.declared.token.Token.{Token}
use Rattle.fp_tree.specs.declared.name.Name.{Name}

abbrev pub AnyName : Name → Type 0
AnyName n = Unit {0}

abbrev pub AnyToken : Token → Type 0
AnyToken t = Unit {0}

pub any_names : (ns : List Name) → Each AnyName ns
any_names ns = each_of_any AnyName (λ n. tt) ns
