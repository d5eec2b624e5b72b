use Rattle.fp_meaning.specs.Sites.{naming}
use Rattle.fp_component_forms.proofs.Readers.{taken_position}
use Rattle.fp_component_forms.proofs.reading.position_taken.Goals as goal

pub returns : goal.returns
returns c source marks g scope name other ranked =
    taken_position source marks c.args.resolutions.now g scope name c.args.next.now c.meant_taken-meant.new.next c.args.ranks.now c.meant_taken-meant.result c.rank_of.result ranked c.rank_of.ensures
    (c.meant_taken-meant.ensures source marks 0 (naming g scope name) other)
