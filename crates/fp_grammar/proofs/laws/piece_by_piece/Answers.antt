use Rattle.fp_grammar.proofs.StepsGood.{from_fits}
use Rattle.fp_grammar.proofs.StepsWalk.{parses_on, reads, step_ends, step_stop}
use Rattle.fp_grammar.proofs.StepsDecided.{from_decided}
use Rattle.fp_grammar.proofs.laws.piece_by_piece.Goals as goal

pub returns-clause-fits : goal.returns-clause-fits
returns-clause-fits g c = λ s. from_fits g.G.Stepwise.driven s

pub returns-clause-goes_on : goal.returns-clause-goes_on
returns-clause-goes_on g c = λ s after tokens from at piece answer p e a. parses_on g.G.Stepwise.driven p e answer a

pub returns-clause-ends : goal.returns-clause-ends
returns-clause-ends g c = λ s tokens from to piece node p e. step_ends g.G.Stepwise.driven p e

pub returns-clause-stops : goal.returns-clause-stops
returns-clause-stops g c = λ s tokens from to p. step_stop g.G.Stepwise.driven p

pub returns-clause-reads : goal.returns-clause-reads
returns-clause-reads g c = λ s tokens from to piece p. reads g.G.Stepwise.driven p

pub returns-clause-decided : goal.returns-clause-decided
returns-clause-decided g c = λ d s tokens from. from_decided g.G.Stepwise.driven d s tokens from
