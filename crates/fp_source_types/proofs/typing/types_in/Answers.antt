use Rattle.fp_source_types.proofs.typing.types_in.Goals as goal

pub types_measured-requires : goal.types_measured-requires
types_measured-requires c = record { meanings = c.requires.meanings; measured = c.in_ok-measured.ensures.measured }

pub returns-clause-at : goal.returns-clause-at
returns-clause-at c source of = c.in_ok-types.ensures.at source (c.in_ok-measured.ensures.written source of)

pub returns-clause-first : goal.returns-clause-first
returns-clause-first c source of = c.in_ok-types.ensures.first source of.laid (c.in_ok-measured.ensures.resolved source of) (c.in_ok-measured.ensures.written source of)
