-- Which values actions and guards are given. FPP Language Specification, "State Machine Behavior Elements".
use Rattle.std.specs.Prelude.{◌≡◌, ℕ, Bool, MatchBool, List, length, slice_get, Option, Some, None}
use Rattle.fp_machine_rules.specs.declared.item.Target.{Target}
use Rattle.fp_machine_rules.specs.declared.item.Target.TheVariants.{To}
use Rattle.fp_machine_rules.specs.declared.item.Form.{Form}
use Rattle.fp_machine_rules.specs.declared.item.Form.TheVariants.{Initial, On, Entry, Exit}
use Rattle.fp_machine_rules.specs.declared.item.Item.{Item}
use Rattle.fp_machine_rules.specs.declared.item.Use.{Use}
use Rattle.fp_machine_rules.specs.declared.item.Meaning.TheVariants.{Typed}
use Rattle.fp_machine_rules.specs.Forms.{Stands, IsChoice}
use Rattle.fp_machine_rules.specs.Through.{Through}

-- over the types of the values of the declared signals
module _ (items : List Item) (signals : List (Option ℕ)) where
  -- what an item that isn't a choice gives: a transition the value of its signal, the others none
  pub data Gives : Form → Option ℕ → Type 0 where
    initial : {target : Target} → Gives (Initial target) None
    entry : Gives Entry None
    exit : Gives Exit None
    on : {signal at : ℕ} {target : Target} {value : Option ℕ} → slice_get signals at ≡ Some value → Gives (On signal (Some at) target) value

  -- the step of an item leads to a vertex
  pub data Enters : Form → ℕ → Type 0 where
    initial : {v : ℕ} → Enters (Initial (To v)) v
    on : {v signal : ℕ} {means : Option ℕ} → Enters (On signal means (To v)) v

  -- a value that is given in an item: its own, or in a choice that of some way into it, perhaps through other choices
  pub data IsGiven : ℕ → Option ℕ → Type 0 where
    own : {v : ℕ} {f : Form} {p value : Option ℕ} → Stands items v f p → Gives f value → IsGiven v value
    entered : {v way target : ℕ} {f : Form} {p value : Option ℕ} → IsChoice items v → Stands items way f p → Gives f value → Enters f target
        → Through items target v → IsGiven v value

  -- another value than one of this type is given, or none
  pub record IsGivenOther (wanted v : ℕ) : Type 0 where
    pub value : Option ℕ
    pub given : IsGiven v value
    pub other : value ≡ Some wanted → ⊥

  -- a use of what takes a value, where another or none is given
  pub record IsMisgiven (used : Use) : Type 0 where
    pub wanted : ℕ
    pub wants : used.means ≡ Typed wanted
    pub given : IsGivenOther wanted used.item

  -- a flag for each of the first n uses says whether it is so
  pub record AreUseFlags (uses : List Use) (n : ℕ) (flags : List Bool) : Type 0 where
    pub each : length flags ≡ n
    pub exact : (k : ℕ) (used : Use) (b : Bool) → slice_get uses k ≡ Some used → slice_get flags k ≡ Some b → MatchBool b (IsMisgiven used) (IsMisgiven used → ⊥)
