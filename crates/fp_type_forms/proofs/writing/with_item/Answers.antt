use Rattle.std.proofs.Common.{ap}
use Rattle.fp_type_forms.proofs.Adding.{adds_nothing}
use Rattle.fp_type_forms.specs.Written.{types_of}
use Rattle.fp_type_forms.proofs.writing.with_item.Goals as goal

pub returns-in-Enumerated : goal.returns-in-Enumerated
returns-in-Enumerated c = adds_nothing c.args.marks.now c.args.resolutions.now c.args.start c.args.item.now c.args.before (ap types_of c.in-Enumerated.is)

pub returns-in-Declared : goal.returns-in-Declared
returns-in-Declared c = adds_nothing c.args.marks.now c.args.resolutions.now c.args.start c.args.item.now c.args.before (ap types_of c.in-Declared.is)

pub returns-in-Used : goal.returns-in-Used
returns-in-Used c = adds_nothing c.args.marks.now c.args.resolutions.now c.args.start c.args.item.now c.args.before (ap types_of c.in-Used.is)

pub returns-in-Written : goal.returns-in-Written
returns-in-Written c = adds_nothing c.args.marks.now c.args.resolutions.now c.args.start c.args.item.now c.args.before (ap types_of c.in-Written.is)
