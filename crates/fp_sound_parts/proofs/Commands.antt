-- A command that is resolved from one which breaks no rule, or from a parameter: its names, its parameters, what it is of, and how it is treated.
use Rattle.std.proofs.Common.{◌≡◌, ℕ, zero, suc, ◌+◌, ◌<◌, ◌≤◌, inl, Bool, true, false, not, ◌&&◌, ◌||◌, ◌==◌, List, [], ◌∷◌, length, map, Option, Some, None, refl, sym, ap, ap₂, ◌∙◌, arith}
use Rattle.std.specs.Prelude.{nat_lt, slice_get}
use Rattle.std.specs.List.{cons_option, filter_map, list_any}
use Rattle.std.proofs.lemmas.Bool.Decides.{nat_tests}
use Rattle.std.proofs.lemmas.Option.{slice_get_within}
use Rattle.fp_base.specs.Least.{IsUnbroken}
use Rattle.fp_base.specs.Names.{is_name}
use Rattle.fp_base.proofs.Bools.{both, join}
use Rattle.fp_base.proofs.Numbers.{below_told}
use Rattle.fp_base.specs.Numbers.{numbers_from}
use Rattle.fp_tables.specs.Components.{are_one_each, is_later, names_of, same_kind, saved_parameter, set_parameter, takes_its_value}
use Rattle.fp_tables.specs.Lists.{all_from, some_and}
use Rattle.fp_tables.specs.Names.{numbers_differ, texts_differ}
use Rattle.fp_tables.specs.Positions as positions
use Rattle.fp_tables.specs.Sound as sound
use Rattle.fp_tables.specs.declared.kind.Formal.{Formal}
use Rattle.fp_tables.specs.declared.component.Way.{Way}
use Rattle.fp_tables.specs.declared.component.CommandPart.{CommandPart}
use Rattle.fp_tables.specs.declared.component.CommandPart.TheVariants as part
use Rattle.fp_tables.specs.declared.component.Command.{Command}
use Rattle.fp_tables.specs.declared.component.Param.{Param}
use Rattle.fp_tree.specs.declared.dictionary.CommandKind.{CommandKind}
use Rattle.fp_tree.specs.declared.dictionary.CommandKind.TheVariants.{Async, Sync, Guarded}
use Rattle.fp_written_parts.specs.declared.port.QueueWords.{QueueWords}
use Rattle.fp_written_parts.specs.declared.dictionary.WrittenParam.{WrittenParam}
use Rattle.fp_dictdefs.specs.Broken.{BrokenMember}
use Rattle.fp_dictdefs.specs.Listed.{save_name, set_name}
use Rattle.fp_tables.specs.declared.kind.TypeDef.{TypeDef}
use Rattle.fp_tables.proofs.OneKind.{kind_itself}
use Rattle.fp_component_rules.specs.Broken.{is_async, waits_itself}
use Rattle.fp_components.specs.Resolved.{CommandHere, written, sets, saves, IsCommandHere, IsWay, formals_of, value_formal}
use Rattle.fp_sound_parts.specs.Ready.{formals_have_names, member_has_names, member_lies}
use Rattle.fp_sound_parts.proofs.Formals.{formals_apart, formals_lying, formals_named}
use Rattle.fp_sound_parts.proofs.Single.{save_is_name, set_is_name}
use Rattle.fp_sound_parts.proofs.ComponentListed.{HereHas, command_listed, part_here, saved_by, set_by}
use Rattle.fp_sound_parts.proofs.Lists.{numbers_differ_from}

-- ---- one command

pub command_name : (h : CommandHere) (d : Command) → IsCommandHere h d → d.name ≡ (command_listed h).name
command_name (written c) d is = is.name
command_name (sets n p) d is = is.name
command_name (saves n p) d is = is.name

pub command_part : (h : CommandHere) (d : Command) → IsCommandHere h d → d.part ≡ part_here h
command_part (written c) d is = is.part
command_part (sets n p) d is = is.part
command_part (saves n p) d is = is.part

abbrev has_names : List ℕ → List Formal → Bool
has_names name fs = is_name name && sound.formals_have_names fs

pub command_names : (h : CommandHere) (d : Command) → IsCommandHere h d → HereHas (λ m. member_has_names m ≡ true) h → (is_name d.name && sound.formals_have_names d.formals) ≡ true
command_names (written c) d is h =
    let t = both (is_name c.name) (formals_have_names c.formals) h in
    ap₂ has_names is.name is.formals ∙ join (is_name c.name) (sound.formals_have_names (formals_of c.formals)) t.0 (formals_named c.formals t.1)
command_names (sets n p) d is h = ap₂ has_names is.name is.formals ∙ join (is_name (set_name p.name)) true (set_is_name p.name h) refl
command_names (saves n p) d is h = ap₂ has_names is.name is.formals ∙ join (is_name (save_name p.name)) true (save_is_name p.name h) refl

pub command_apart : (types : List TypeDef) (h : CommandHere) (d : Command) → IsCommandHere h d → HereHas (λ m. IsUnbroken (BrokenMember types m)) h → texts_differ (names_of d.formals) ≡ true
command_apart types (written c) d is u =
    ap (λ (fs : List Formal). texts_differ (names_of fs)) is.formals ∙ formals_apart c.formals (λ f h. u f (inl (inl h)))
command_apart types (sets n p) d is u = ap (λ (fs : List Formal). texts_differ (names_of fs)) is.formals
command_apart types (saves n p) d is u = ap (λ (fs : List Formal). texts_differ (names_of fs)) is.formals

-- what isn't asynchronous isn't put into the queue
way_quiet : (k : CommandKind) (q : QueueWords) (way : Way) → IsWay k q way → (is_async k ≡ true → ⊥) → not (is_later way) ≡ true
way_quiet Async q way h none = absurd (none refl)
way_quiet Sync q way same none = ap (λ (w : Way). not (is_later w)) same
way_quiet Guarded q way same none = ap (λ (w : Way). not (is_later w)) same

pub command_quiet : (h : CommandHere) (d : Command) → IsCommandHere h d → HereHas (λ m. waits_itself m ≡ true → ⊥) h → not (is_later d.way) ≡ true
command_quiet (written c) d is none = way_quiet c.kind c.queue d.way is.way none
command_quiet (sets n p) d is none = ap (λ (w : Way). not (is_later w)) is.way
command_quiet (saves n p) d is none = ap (λ (w : Way). not (is_later w)) is.way

-- ---- beside the parameters

module _ (params : List Param) where
  abbrev lies_as : ℕ → List Formal → CommandPart → Bool
  lies_as types fs part = positions.formals_lie types fs && positions.part_lies (length params) part

  abbrev takes_as : Command → CommandPart → List Formal → Bool
  takes_as d r fs = takes_its_value params (record d { part = r; formals = fs })

  -- the parameter at a place has the type of the one that is written there
  abbrev pub HasParam : WrittenParam → ℕ → Type 0
  HasParam p n = (y : Param) × (slice_get params n ≡ Some y) × (y.kind ≡ p.kind)

  abbrev pub HasItsParam : CommandHere → Type 0
  HasItsParam (written c) = Unit {0}
  HasItsParam (sets n p) = HasParam p n
  HasItsParam (saves n p) = HasParam p n

  param_lies : (p : WrittenParam) (n : ℕ) → HasParam p n → nat_lt n (length params) ≡ true
  param_lies p n (y, at, same) = below_told n (length params) (slice_get_within params n y at)

  pub command_lies : (types : ℕ) (h : CommandHere) (d : Command) → IsCommandHere h d → HereHas (λ m. member_lies types m ≡ true) h → HasItsParam h
      → positions.command_lies types (length params) d ≡ true
  command_lies types (written c) d is h has =
      ap₂ (lies_as types) is.formals is.part ∙ join (positions.formals_lie types (formals_of c.formals)) true (formals_lying types c.formals h) refl
  command_lies types (sets n p) d is h has =
      ap₂ (lies_as types) is.formals is.part
      ∙ join (positions.formals_lie types (value_formal p.kind ∷ [])) (nat_lt n (length params)) (join (positions.kind_lies types p.kind) true h refl) (param_lies p n has)
  command_lies types (saves n p) d is h has = ap₂ (lies_as types) is.formals is.part ∙ param_lies p n has

  pub command_takes : (h : CommandHere) (d : Command) → IsCommandHere h d → HasItsParam h → takes_its_value params d ≡ true
  command_takes (written c) d is has = ap (λ (r : CommandPart). takes_as d r d.formals) is.part
  command_takes (sets n p) d is (y, at, same) =
      ap₂ (takes_as d) is.part is.formals ∙ ap (some_and (λ (x : Param). same_kind p.kind x.kind)) at ∙ ap (same_kind p.kind) same ∙ kind_itself p.kind
  command_takes (saves n p) d is has = ap₂ (takes_as d) is.part is.formals

-- ---- each parameter once

set_is : (d : Command) (r : CommandPart) → set_parameter (record d { part = r }) ≡ set_by r
set_is d part.Plain = refl
set_is d (part.SetParam n) = refl
set_is d (part.SaveParam n) = refl

saved_is : (d : Command) (r : CommandPart) → saved_parameter (record d { part = r }) ≡ saved_by r
saved_is d part.Plain = refl
saved_is d (part.SetParam n) = refl
saved_is d (part.SaveParam n) = refl

pub set_same : (d : Command) → set_parameter d ≡ set_by d.part
set_same d = set_is d d.part

pub saved_same : (d : Command) → saved_parameter d ≡ saved_by d.part
saved_same d = saved_is d d.part

pub chosen_through : {A B C : Type 0} (f : A → Option C) (g : B → Option C) (h : A → B) → ((x : A) → f x ≡ g (h x)) → (xs : List A) → filter_map f xs ≡ filter_map g (map h xs)
chosen_through f g h same [] = refl
chosen_through f g h same (x ∷ xs) = ap₂ (λ (o : Option _) (ys : List _). cons_option o ys) (same x) (chosen_through f g h same xs)

any_there : {B : Type 0} (test : B → Bool) (o : Option B) (ys : List B) → list_any test (cons_option o ys) ≡ (some_and test o || list_any test ys)
any_there test None ys = refl
any_there test (Some b) ys = refl

any_chosen : {A B : Type 0} (test : B → Bool) (f : A → Option B) (xs : List A) → list_any (λ (x : A). some_and test (f x)) xs ≡ list_any test (filter_map f xs)
any_chosen test f [] = refl
any_chosen test f (x ∷ xs) = ap (λ (b : Bool). some_and test (f x) || b) (any_chosen test f xs) ∙ sym (any_there test (f x) (filter_map f xs))

or_else : (a b : Bool) → (a ≡ false → b ≡ true) → (a || b) ≡ true
or_else true b h = refl
or_else false b h = h refl

past : (first k : ℕ) → first ≤ k → (first == k) ≡ false → suc first ≤ k
past first k low h = grind (arith, nat_tests)

any_number : (first count k : ℕ) → first ≤ k → k < first + count → list_any (λ n. n == k) (numbers_from first count) ≡ true
any_number first zero k low high = absurd (omega arith)
any_number first (suc count) k low high = or_else (first == k) (list_any (λ n. n == k) (numbers_from (suc first) count)) (λ other. any_number (suc first) count k (past first k low other) (omega arith))

all_from_each : {A : Type 0} (test : ℕ → Bool) (first : ℕ) (xs : List A) → ((k : ℕ) → first ≤ k → k < first + length xs → test k ≡ true) → all_from (λ k (_ : A). test k) first xs ≡ true
all_from_each test first [] h = refl
all_from_each test first (x ∷ xs) h =
    join (test first) (all_from (λ k _. test k) (suc first) xs) (h first (omega arith) (omega arith)) (all_from_each test (suc first) xs (λ k low high. h k (omega arith) (omega arith)))

pub one_each : (parameter : Command → Option ℕ) (commands : List Command) (params : List Param) → filter_map parameter commands ≡ numbers_from zero (length params)
    → are_one_each parameter commands params ≡ true
one_each parameter commands params same =
    join (all_from (λ k (_ : Param). list_any (λ c. some_and (λ n. n == k) (parameter c)) commands) 0 params) (numbers_differ (filter_map parameter commands))
    (all_from_each (λ k. list_any (λ (c : Command). some_and (λ n. n == k) (parameter c)) commands) 0 params
    (λ k low high.
    any_chosen (λ n. n == k) parameter commands ∙ ap (list_any (λ n. n == k)) same ∙ any_number 0 (length params) k low high))
    (ap numbers_differ same ∙ numbers_differ_from 0 (length params))
