use Rattle.fp_source_types.proofs.Listing.{listed_items}
use Rattle.fp_source_types.proofs.laws.listed_items_have_constants.Goals as goal

pub returns : goal.returns
returns c = listed_items
