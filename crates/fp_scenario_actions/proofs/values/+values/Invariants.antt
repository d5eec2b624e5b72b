use Rattle.std.proofs.Common.{◌≡◌, List, ◌++◌, take}
use Rattle.serde_json.specs.View.{items_view, members_view}
use Rattle.serde_json.proofs.Views.{Entry}
use Rattle.fp_scenario_actions.specs.Wanted.{wanted}
use Rattle.fp_scenario_actions.specs.Arguments.{EachMeans, MembersMean}
use Rattle.fp_scenario_actions.proofs.values.+values.Given as goal

abbrev pub invariant-members_of-loop-key : goal.invariant-members_of-loop-key
invariant-members_of-loop-key l = (done : List Entry) × (l.members.entries ≡ done ++ l.key-iterator) × MembersMean l.types l.fields (members_view done) l.given

abbrev pub invariant-values_of-loop-item : goal.invariant-values_of-loop-item
invariant-values_of-loop-item l = EachMeans l.types (wanted l.types l.fn.element) (items_view (take l.item-index l.items)) l.made
