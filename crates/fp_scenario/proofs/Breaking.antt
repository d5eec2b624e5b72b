-- A flaw in a value, seen from the value itself and from those round it.
use Rattle.std.proofs.Common.{◌≡◌, ℕ, List, [], ◌∷◌, ◌++◌, Option, Some, None, true, IsSome, is_some, decimal, refl, sym, ap, ◌∙◌, subst, append_assoc, true≢false}
use Rattle.std.specs.List.{list_all}
use Rattle.std.proofs.lemmas.Option.{none-some}
use Rattle.serde_json.specs.Data.{Data}
use Rattle.serde_json.specs.Find.{get, at, as_object}
use Rattle.fp_base.proofs.Options.{same_some}
use Rattle.fp_base.specs.declared.rule.Rule.{Rule}
use Rattle.fp_base.specs.declared.rule.Rule.TheVariants.{UnknownKey, WrongKindOfValue, MissingKey, PastSize}
use Rattle.fp_scenario.specs.Keys.{first_of, wants_object, needed, wanted_at, wanted_of_items}
use Rattle.fp_scenario.specs.Kinds.{is_of_kind, is_of_size}
use Rattle.fp_scenario.specs.Broken.{PartOf, itself, in_member, in_item, Flaw, Breaks, below}
use Rattle.fp_scenario.specs.Checked.{IsSound, ItemsAreSound, MembersAreSound, Stops, StopsBelow, IsFault}
use Rattle.fp_scenario.specs.declared.scenario.ScenarioStop.{ScenarioStop}
use Rattle.fp_scenario.specs.declared.scenario.ScenarioStop.TheVariants.{Broken, NoMemory}
use Rattle.fp_scenario.specs.declared.wanted.Wanted.{Wanted}
use Rattle.fp_scenario.specs.declared.wanted.Wanted.TheVariants.{Scenario, Callers, Caller, Handlers, Handler, Guards, Guard, Actions, Action, Answers, Steps, Number, Text, Identifier, Truth, Yes, Values, Anything}

pub breaks_here : (w : Wanted) (d : Data) (rule : Rule) (path : List ℕ) → Flaw rule w d path → Breaks w d rule path
breaks_here w d rule path flaw = record { part_wanted = w; part = d; before = []; after = path; stands = itself refl; flaw = flaw; joined = refl }

joins_below : (step path before after : List ℕ) → path ≡ before ++ after → below step path ≡ below step before ++ after
joins_below step path before after is = ap (λ p. 47 ∷ p) (ap (λ p. step ++ p) is ∙ sym (append_assoc step before after))

pub breaks_in_member : (w v : Wanted) (d x : Data) (k : List ℕ) → get k d ≡ Some x → wanted_at w d k ≡ Some v → (rule : Rule) (path : List ℕ) → Breaks v x rule path → Breaks w d rule (below k path)
breaks_in_member w v d x k found wants rule path b = record {
  part_wanted = b.part_wanted;
  part = b.part;
  before = below k b.before;
  after = b.after;
  stands = in_member k x v found wants b.stands refl;
  flaw = b.flaw;
  joined = joins_below k path b.before b.after b.joined;
}

pub breaks_in_item : (w v : Wanted) (d x : Data) (i : ℕ) → at i d ≡ Some x → wanted_of_items w ≡ Some v → (rule : Rule) (path : List ℕ) → Breaks v x rule path → Breaks w d rule (below (decimal i) path)
breaks_in_item w v d x i found wants rule path b = record {
  part_wanted = b.part_wanted;
  part = b.part;
  before = below (decimal i) b.before;
  after = b.after;
  stands = in_item i x v found wants b.stands refl;
  flaw = b.flaw;
  joined = joins_below (decimal i) path b.before b.after b.joined;
}

-- ---- from a stop to a fault

pub fault_of_stop : (w : Wanted) (d : Data) (rule : Rule) (path : List ℕ) (stop : ScenarioStop) → Stops rule path stop → Breaks w d rule path → IsFault w d stop
fault_of_stop w d rule path (Broken stop) is b = subst (λ r. Breaks w d r stop.path) (sym is.0) (subst (λ p. Breaks w d rule p) (sym is.1) b)
fault_of_stop w d rule path NoMemory is b = tt

pub fault_below : (w v : Wanted) (d x : Data) (step : List ℕ) (stop seen : ScenarioStop) → StopsBelow step stop seen → IsFault v x stop
    → ((rule : Rule) (path : List ℕ) → Breaks v x rule path → Breaks w d rule (below step path)) → IsFault w d seen
fault_below w v d x step (Broken stop) seen is fault up = fault_of_stop w d stop.rule (below step stop.path) seen is (up stop.rule stop.path fault)
fault_below w v d x step NoMemory seen is fault up = subst (λ s. IsFault w d s) (sym is) tt

-- ---- what has no flaw

-- only objects have keys
pub object_at_key : (w : Wanted) (d : Data) (k : List ℕ) (v : Wanted) → wanted_at w d k ≡ Some v → wants_object w ≡ true
object_at_key Scenario d k v is = refl
object_at_key Caller d k v is = refl
object_at_key Handler d k v is = refl
object_at_key Guard d k v is = refl
object_at_key Action d k v is = refl
object_at_key Callers d k v is = absurd (none-some v is)
object_at_key Handlers d k v is = absurd (none-some v is)
object_at_key Guards d k v is = absurd (none-some v is)
object_at_key Actions d k v is = absurd (none-some v is)
object_at_key Answers d k v is = absurd (none-some v is)
object_at_key Steps d k v is = absurd (none-some v is)
object_at_key Number d k v is = absurd (none-some v is)
object_at_key Text d k v is = absurd (none-some v is)
object_at_key Identifier d k v is = absurd (none-some v is)
object_at_key Truth d k v is = absurd (none-some v is)
object_at_key Yes d k v is = absurd (none-some v is)
object_at_key Values d k v is = absurd (none-some v is)
object_at_key Anything d k v is = absurd (none-some v is)

unknown_none : (w : Wanted) (d : Data) (k : List ℕ) (found : Option Data) → get k d ≡ found → IsSome found → wants_object w ≡ true → wanted_at w d k ≡ None → MembersAreSound w d → ⊥
unknown_none w d k (Some x) is some object none members =
    let known = members k x is object in
    none-some known.0 (sym none ∙ known.1)
unknown_none w d k None is some object none members = true≢false (sym some)

-- the value itself has none
record WellFormed (w : Wanted) (d : Data) : Type 0 where
  kind : is_of_kind w d ≡ true
  size : is_of_size w d ≡ true
  has_needed : IsSome (as_object d) → list_all (λ k. is_some (get k d)) (needed w (first_of d)) ≡ true
  members : MembersAreSound w d

no_flaw : (rule : Rule) (w : Wanted) (d : Data) (path : List ℕ) → WellFormed w d → Flaw rule w d path → ⊥
no_flaw UnknownKey w d path well flaw = unknown_none w d flaw.0 (get flaw.0 d) refl flaw.3 flaw.2 flaw.4 well.members
no_flaw WrongKindOfValue w d path well flaw = true≢false (sym well.kind ∙ flaw.1)
no_flaw MissingKey w d path well flaw = true≢false (sym (well.has_needed flaw.1) ∙ flaw.2)
no_flaw PastSize w d path well flaw = true≢false (sym well.size ∙ flaw.2)
no_flaw _ w d path well flaw = flaw

part_sound : (v : Wanted) (x : Data) (path : List ℕ) (u : Wanted) (y : Data) (rule : Rule) (after : List ℕ) → IsSound v x → PartOf v x path u y → Flaw rule u y after → ⊥
part_sound v x path u y rule after sound part flaw = sound rule (path ++ after) (record { part_wanted = u; part = y; before = path; after = after; stands = part; flaw = flaw; joined = refl })

none_in : {w u : Wanted} {d y : Data} {path : List ℕ} (rule : Rule) (after : List ℕ) → WellFormed w d → ItemsAreSound w d → PartOf w d path u y → Flaw rule u y after → ⊥
none_in rule after well each (itself is) flaw = no_flaw rule _ _ after well flaw
none_in {w} {u} {d} {y} rule after well each (in_member k x v found wants part is) flaw =
    let known = well.members k x found (object_at_key w d k v wants) in
    part_sound v x _ u y rule after (subst (λ o. IsSound o x) (same_some (sym known.1 ∙ wants)) known.2) part flaw
none_in {w} {u} {d} {y} rule after well each (in_item i x v found wants part is) flaw = part_sound v x _ u y rule after (each i x v found wants) part flaw

pub sound : (w : Wanted) (d : Data) → is_of_kind w d ≡ true → is_of_size w d ≡ true → (IsSome (as_object d) → list_all (λ k. is_some (get k d)) (needed w (first_of d)) ≡ true) → MembersAreSound w d → ItemsAreSound w d → IsSound w d
sound w d kind size needed_there members each rule path b = none_in rule b.after (record { kind = kind; size = size; has_needed = needed_there; members = members }) each b.stands b.flaw
