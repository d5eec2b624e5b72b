use Rattle.fp_main.proofs.Wording.{no_text}
use Rattle.fp_main.proofs.words.text_of.Goals as goal

pub returns-else-eq-2 : goal.returns-else-eq-2
returns-else-eq-2 c = no_text c.args.word.now _ _ c.eq.ensures c.if-eq.false c.eq-else-eq.ensures c.if-eq-2.false
