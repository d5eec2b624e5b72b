use Rattle.fp_tables.proofs.Aliasing.{alias_followed, not_alias, not_there, not_named}
use Rattle.fp_dictionary.proofs.descriptors.alias.Goals as goal

pub returns-in-Alias : goal.returns-in-Alias
returns-in-Alias c = λ n. alias_followed c.args.types.now n c.in-Named.at c.args.kind c.in-Alias.target c.in-Some.form.now c.in-Named.is c.in-Some.ensures c.in-Alias.is

pub returns-in_default-form : goal.returns-in_default-form
returns-in_default-form c = λ n. not_alias c.args.types.now n c.in-Named.at c.args.kind c.in-Some.form.now c.in-Named.is c.in-Some.ensures c.in_default-form.not-Alias

pub returns-in-None : goal.returns-in-None
returns-in-None c = λ n. not_there c.args.types.now n c.in-Named.at c.args.kind c.in-Named.is c.in-None.ensures

pub returns-in_default : goal.returns-in_default
returns-in_default c = λ n. not_named c.args.types.now n c.args.kind c.in_default.not-Named
