use Rattle.std.proofs.Common.{arith, ◌∙◌}
use Rattle.std.specs.String.{string_bytes}
use Rattle.fp_names.proofs.Nodes.{grows}
use Rattle.fp_names.proofs.tree.grow.Goals as goal

pub returns : goal.returns
returns c = (
  omega (arith, c.len-to.ensures, c.args.nodes.now.ok.0),
  grows c.args.nodes.now.items c.push.new.self.items c.leaf.result c.index_mut.result.now c.lead.new.node c.args.from c.len-to.result c.args.name.now (string_bytes c.in_ok-key.key)
      c.requires.absent c.in_ok-push.ensures.items c.leaf.ensures c.index_mut.ensures.value c.requires.within c.in_ok-lead.ensures (c.in_ok-key.ensures.ok ∙ c.as_str.ensures)
      (omega (arith, c.len-to.ensures, c.args.nodes.now.ok.0)),
)
