use Rattle.std.proofs.Common.{◌∙◌, ap, rules}
use Rattle.std.specs.Prelude.{flat_map}
use Rattle.std.proofs.lemmas.List.Sorted.{IsNonDecreasingBy-from_sort_by_key}
use Rattle.fp_dictionary.specs.Dictionary.{members_at}
use Rattle.fp_dictionary.specs.declared.lists.Placed.{Placed}
use Rattle.fp_dictionary.proofs.Ordering.{in_order}
use Rattle.fp_dictionary.proofs.lists.in_order.Goals as goal

pub returns : goal.returns
returns g c =
    let listed = g.T.Listed in
    let m = c.args.model.now in
    let data_of = listed.data_of m.types in
    let same = c.in_ok-places.ensures ∙ ap (flat_map (members_at m listed.members_of listed.number_of data_of)) c.as_slice.ensures in
    in_order data_of _ c.in_ok-places.places.items c.sort_by_key.new.self.items same c.sort_by_key.ensures.permutation
    (IsNonDecreasingBy-from_sort_by_key (λ (p : Placed _). p.number) _ c.in_ok-sort_by_key.ensures.sorted (λ a r q k. search rules))
