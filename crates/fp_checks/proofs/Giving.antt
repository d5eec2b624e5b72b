-- All hands of a plant are the plant's.
use Rattle.std.proofs.Common.{List, All, get_or}
use Rattle.std.proofs.lemmas.Option.{slice_get-get_or}
use Rattle.fp_plant.specs.Planted.{Handed, Planted, Gives, AreAll}

pub all_given : (w : Planted) (hs : List Handed) → AreAll w hs → All (λ (h : Handed). Gives w h) hs
all_given w hs a k d within = (a.each k (get_or hs k d) (slice_get-get_or hs k d within)).0
