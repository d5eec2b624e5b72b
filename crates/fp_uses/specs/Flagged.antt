-- What is broken at a definition, by its flags.
use Rattle.std.specs.Prelude.{◌≡◌, ℕ, Bool, true, List, slice_get, Some}
use Rattle.fp_base.specs.declared.place.Place.{Place}
use Rattle.fp_base.specs.declared.refusal.Refusal.{Refusal}
use Rattle.fp_base.specs.declared.rule.Rule.TheVariants.{Cycle, ChainTooLong}
use Rattle.fp_base.specs.Least.{broken_at, Either}
use Rattle.fp_meaning.specs.declared.group.Group.{Group}
use Rattle.fp_meaning.specs.declared.group.Group.TheVariants.{Kind, Value}
use Rattle.fp_meaning.specs.declared.names.Definition.{Definition}
use Rattle.fp_uses.specs.declared.users.Users.{Users}
use Rattle.fp_uses.specs.declared.users.Users.TheVariants.{Constants, Types}

abbrev pub group_of_users : Users → Group
group_of_users Constants = Value
group_of_users Types = Kind

-- by whether it is on a cycle and whether it is the head of too long a chain
abbrev pub MarkedAt : Place → Bool → Bool → Refusal → Type 0
MarkedAt place cyclic deep =
    Either (λ f. (f ≡ broken_at Cycle place) × (cyclic ≡ true)) (λ f. (f ≡ broken_at ChainTooLong place) × (deep ≡ true))

abbrev pub FlaggedAt : Users → Definition → Bool → Bool → Refusal → Type 0
FlaggedAt users d cyclic deep f = (d.group ≡ group_of_users users) × MarkedAt d.place cyclic deep f

-- the same of the definition with a number
abbrev pub MarkedBy : List Bool → List Bool → ℕ → Place → Refusal → Type 0
MarkedBy cyclic deep number place =
    Either
    (λ f. (f ≡ broken_at Cycle place) × (slice_get cyclic number ≡ Some true))
    (λ f. (f ≡ broken_at ChainTooLong place) × (slice_get deep number ≡ Some true))

abbrev pub Flagged : List Bool → List Bool → Users → ℕ → Definition → Refusal → Type 0
Flagged cyclic deep users number d f = (d.group ≡ group_of_users users) × MarkedBy cyclic deep number d.place f
