use Rattle.fp_grammar.proofs.Fits.{good_of}
use Rattle.fp_grammar.proofs.LongestLemmas.{answers_longest_of}
use Rattle.fp_grammar.proofs.Sames.{same_parses, same_good}
use Rattle.fp_grammar.proofs.laws.same_answers.Goals as goal

pub returns-clause-parses : goal.returns-clause-parses
returns-clause-parses g c = λ tokens from answer p. same_parses tokens from g.G.Rewritten.same answer p

pub returns-clause-longest : goal.returns-clause-longest
returns-clause-longest g c = λ tokens from answer p.
    let good = same_good g.G.Rewritten.same (good_of g.G.Rewritten.worked g.G.Rewritten.fits.predictive g.G.Rewritten.fits.refs) in
    answers_longest_of _ g.G.Rewritten.as_written tokens from answer (good.spelling g.G.Rewritten.fits.some) (same_parses tokens from g.G.Rewritten.same answer p)

pub returns-clause-one : goal.returns-clause-one
returns-clause-one g c = (same_good g.G.Rewritten.same (good_of g.G.Rewritten.worked g.G.Rewritten.fits.predictive g.G.Rewritten.fits.refs)).unique
