-- A place of a component is spelled in one way.
use Rattle.std.proofs.Common.{◌≡◌, ℕ, Bool, true, false, cond, List, [], ◌∷◌, ◌++◌, length, take, drop, Option, Some, None, option_map, refl, sym, ap, ap₂, ◌∙◌}
use Rattle.std.specs.Prelude.{codes, ◌==◌, ◌||◌, option_and_then, position, slice_get, unwrap_or}
use Rattle.std.specs.Str.{bytes_eq}
use Rattle.std.proofs.lemmas.List.{take-append-drop}
use Rattle.fp_base.proofs.Options.{same_some, mapped_some, then_some, some_if}
use Rattle.fp_base.proofs.Sameness.{nat_same}
use Rattle.fp_base.proofs.Bytes.{same_bytes}
use Rattle.fp_base.proofs.Passing.{position_passes}
use Rattle.fp_tables.specs.Lists.{some_and}
use Rattle.fp_tables.specs.Lookup.{Described}
use Rattle.fp_tables.specs.Programs.{is_general_input, is_internal, is_hooked, way_in, way_written}
use Rattle.fp_tables.specs.declared.component.Port.{Port}
use Rattle.fp_tables.specs.declared.component.Command.{Command}
use Rattle.fp_tables.specs.declared.component.Running.{Running}
use Rattle.fp_tables.specs.declared.component.Component.{Component}
use Rattle.fp_tables.specs.declared.machine.Named.{Named}
use Rattle.fp_tables.specs.declared.machine.Machine.{Machine}
use Rattle.fp_tables.specs.declared.program.Spot.{Spot}
use Rattle.fp_tables.specs.declared.program.Spot.TheVariants as spot
use Rattle.fp_scenario_actions.specs.Acting.{machine_in}
use Rattle.fp_scenario_actions.specs.Named.{port_named, port_where, command_named, running_named, name_of}
use Rattle.fp_scenario_actions.specs.Spots.{behind, parted, form, port_spot, command_spot, action_at, action_spot, hook_port_spot, hook_command_spot, hook_signal_spot, spot_in}

-- ---- the parts of a text

behind_is : (beginning text rest : List ℕ) → behind beginning text ≡ Some rest → text ≡ beginning ++ rest
behind_is beginning text rest h = go (bytes_eq (take (length beginning) text) beginning) refl h
  where
    go : (same : Bool) → bytes_eq (take (length beginning) text) beginning ≡ same → cond same (Some (drop (length beginning) text)) None ≡ Some rest → text ≡ beginning ++ rest
    go true is e = sym (take-append-drop (length beginning) text) ∙ ap₂ (λ (xs ys : List ℕ). xs ++ ys) (same_bytes (take (length beginning) text) beginning is) (same_some e)
    go false is e = absurd (cc)

parted_is : (byte : ℕ) (text : List ℕ) (p : List ℕ × List ℕ) → parted byte text ≡ Some p → text ≡ p.0 ++ byte ∷ p.1
parted_is byte [] p h = absurd (cc)
parted_is byte (b ∷ bs) p h = go (b == byte) refl (parted byte bs) (parted_is byte bs) h
  where
    go : (same : Bool) → (b == byte) ≡ same → (o : Option (List ℕ × List ℕ)) → ((q : List ℕ × List ℕ) → o ≡ Some q → bs ≡ q.0 ++ byte ∷ q.1)
        → cond same (Some ([], bs)) (option_map (λ (q : List ℕ × List ℕ). (b ∷ q.0, q.1)) o) ≡ Some p → b ∷ bs ≡ p.0 ++ byte ∷ p.1
    go true is o rest e = ap (λ n. n ∷ bs) (nat_same.equal b byte is) ∙ ap (λ (q : List ℕ × List ℕ). q.0 ++ byte ∷ q.1) (same_some e)
    go false is None rest e = absurd (cc)
    go false is (Some q) rest e = ap (λ xs. b ∷ xs) (rest q refl) ∙ ap (λ (r : List ℕ × List ℕ). r.0 ++ byte ∷ r.1) (same_some e)

-- ---- names by positions

pub text_is : {A : Type 0} (name : A → List ℕ) (xs : List A) (text : List ℕ) (n : ℕ) → position (λ x. bytes_eq (name x) text) xs ≡ Some n → text ≡ unwrap_or (option_map name (slice_get xs n)) []
text_is name xs text n h =
    let x = position_passes (λ y. bytes_eq (name y) text) xs n h in
    sym (same_bytes (name x.0) text x.2) ∙ sym (ap (λ o. unwrap_or (option_map name o) []) x.1)

where_named : (test : Port → Bool) (ports : List Port) (name : List ℕ) (n : ℕ) → port_where test ports name ≡ Some n → port_named ports name ≡ Some n
where_named test ports name n h =
    let q = then_some (λ (m : ℕ). cond (some_and test (slice_get ports m)) (Some m) None) (port_named ports name) n h in
    q.1 ∙ ap Some (some_if q.0 n (some_and test (slice_get ports q.0)) q.2)

-- one position has one name at most
pub one_named : {A : Type 0} (name : A → List ℕ) (xs : List A) (a b : List ℕ) (n : ℕ) → position (λ x. bytes_eq (name x) a) xs ≡ Some n → position (λ x. bytes_eq (name x) b) xs ≡ Some n → a ≡ b
one_named name xs a b n h k = text_is name xs a n h ∙ sym (text_is name xs b n k)

-- ---- forms

pub form_is : (o : Option (List ℕ)) (meant : List ℕ → Option Spot) (others : Option Spot) (s : Spot) (P : Type 0) →
    ((rest : List ℕ) → o ≡ Some rest → meant rest ≡ Some s → P) → (others ≡ Some s → P) → form o meant others ≡ Some s → P
form_is None meant others s P first next h = next h
form_is (Some rest) meant others s P first next h = first rest refl h

module _ (t : Described) (c : Component) where
  abbrev port_text : ℕ → List ℕ
  port_text n = unwrap_or (option_map (λ (x : Port). x.name) (slice_get c.ports n)) []

  abbrev command_text : ℕ → List ℕ
  command_text n = unwrap_or (option_map (λ (x : Command). x.name) (slice_get c.commands n)) []

  abbrev running_text : ℕ → List ℕ
  running_text n = unwrap_or (option_map (λ (x : Running). x.name) (slice_get c.machines n)) []

  abbrev action_text : ℕ → ℕ → List ℕ
  action_text r a = unwrap_or (option_map (λ (m : Machine). unwrap_or (option_map (λ (x : Named). x.name) (slice_get m.actions a)) []) (machine_in t c r)) []

  abbrev spelled : Spot → List ℕ
  spelled (spot.Port n) = codes "port " ++ port_text n
  spelled (spot.Command n) = codes "command " ++ command_text n
  spelled (spot.Action r a) = codes "action " ++ (running_text r ++ 46 ∷ action_text r a)
  spelled (spot.HookPort n) = codes "hook port " ++ port_text n
  spelled (spot.HookCommand n) = codes "hook command " ++ command_text n
  spelled (spot.HookSignal n) = codes "hook signal " ++ running_text n

  port_is : (test : Port → Bool) (name : List ℕ) (n : ℕ) → port_where test c.ports name ≡ Some n → name ≡ port_text n
  port_is test name n h = text_is (λ (x : Port). x.name) c.ports name n (where_named test c.ports name n h)

  port_spelled : (name : List ℕ) (s : Spot) → port_spot t c name ≡ Some s → codes "port " ++ name ≡ spelled s
  port_spelled name s h =
      let n = mapped_some (λ m. spot.Port m) (port_where (λ (x : Port). is_general_input x.role || is_internal x.role) c.ports name) s h in
      ap (λ xs. codes "port " ++ xs) (port_is (λ (x : Port). is_general_input x.role || is_internal x.role) name n.0 n.1) ∙ ap spelled n.2

  command_spelled : (name : List ℕ) (s : Spot) → command_spot t c name ≡ Some s → codes "command " ++ name ≡ spelled s
  command_spelled name s h =
      let n = mapped_some (λ m. spot.Command m) (command_named c.commands name) s h in
      ap (λ xs. codes "command " ++ xs) (text_is (λ (x : Command). x.name) c.commands name n.0 n.1) ∙ ap spelled n.2

  action_is : (r : ℕ) (name : List ℕ) (s : Spot) → action_at t c name r ≡ Some s → (a : ℕ) × (name ≡ action_text r a) × (spot.Action r a ≡ s)
  action_is r name s h =
      let m = then_some (λ (m : Machine). option_map (λ k. spot.Action r k) (name_of m.actions name)) (machine_in t c r) s h in
      let a = mapped_some (λ k. spot.Action r k) (name_of m.0.actions name) s m.2 in
      (a.0, text_is (λ (x : Named). x.name) m.0.actions name a.0 a.1 ∙ sym (ap (λ o. unwrap_or (option_map (λ (m : Machine). unwrap_or (option_map (λ (x : Named). x.name) (slice_get m.actions a.0)) []) o) []) m.1), a.2)

  action_spelled : (name : List ℕ) (s : Spot) → action_spot t c name ≡ Some s → codes "action " ++ name ≡ spelled s
  action_spelled name s h =
      let p = then_some (λ (p : List ℕ × List ℕ). option_and_then (action_at t c p.1) (running_named c.machines p.0)) (parted 46 name) s h in
      let r = then_some (action_at t c p.0.1) (running_named c.machines p.0.0) s p.2 in
      let a = action_is r.0 p.0.1 s r.2 in
      ap (λ xs. codes "action " ++ xs) (parted_is 46 name p.0 p.1 ∙ ap₂ (λ (xs ys : List ℕ). xs ++ 46 ∷ ys) (text_is (λ (x : Running). x.name) c.machines p.0.0 r.0 r.1) a.1) ∙ ap spelled a.2

  hook_port_spelled : (name : List ℕ) (s : Spot) → hook_port_spot t c name ≡ Some s → codes "hook port " ++ name ≡ spelled s
  hook_port_spelled name s h =
      let n = mapped_some (λ m. spot.HookPort m) (port_where (λ (x : Port). some_and is_hooked (way_in x.role)) c.ports name) s h in
      ap (λ xs. codes "hook port " ++ xs) (port_is (λ (x : Port). some_and is_hooked (way_in x.role)) name n.0 n.1) ∙ ap spelled n.2

  pub kept_spot : (make : ℕ → Spot) (n : ℕ) (s : Spot) (b : Bool) → cond b (Some (make n)) None ≡ Some s → make n ≡ s
  kept_spot make n s true e = same_some e
  kept_spot make n s false e = absurd (cc)

  hook_command_spelled : (name : List ℕ) (s : Spot) → hook_command_spot t c name ≡ Some s → codes "hook command " ++ name ≡ spelled s
  hook_command_spelled name s h =
      let n = then_some (λ n. cond (some_and (λ (x : Command). some_and is_hooked (way_written x.way x.part)) (slice_get c.commands n)) (Some (spot.HookCommand n)) None) (command_named c.commands name) s h in
      ap (λ xs. codes "hook command " ++ xs) (text_is (λ (x : Command). x.name) c.commands name n.0 n.1)
      ∙ ap spelled (kept_spot (λ m. spot.HookCommand m) n.0 s (some_and (λ (x : Command). some_and is_hooked (way_written x.way x.part)) (slice_get c.commands n.0)) n.2)

  hook_signal_spelled : (name : List ℕ) (s : Spot) → hook_signal_spot t c name ≡ Some s → codes "hook signal " ++ name ≡ spelled s
  hook_signal_spelled name s h =
      let n = then_some (λ n. cond (some_and (λ (x : Running). is_hooked x.way) (slice_get c.machines n)) (Some (spot.HookSignal n)) None) (running_named c.machines name) s h in
      ap (λ xs. codes "hook signal " ++ xs) (text_is (λ (x : Running). x.name) c.machines name n.0 n.1)
      ∙ ap spelled (kept_spot (λ m. spot.HookSignal m) n.0 s (some_and (λ (x : Running). is_hooked x.way) (slice_get c.machines n.0)) n.2)

  spot_is : (on : List ℕ) (s : Spot) → spot_in t c on ≡ Some s → on ≡ spelled s
  spot_is on s =
      form_is (behind (codes "port ") on) (port_spot t c) _ s (on ≡ spelled s) (λ rest is means. behind_is (codes "port ") on rest is ∙ port_spelled rest s means)
      (form_is (behind (codes "command ") on) (command_spot t c) _ s (on ≡ spelled s) (λ rest is means. behind_is (codes "command ") on rest is ∙ command_spelled rest s means)
      (form_is (behind (codes "action ") on) (action_spot t c) _ s (on ≡ spelled s) (λ rest is means. behind_is (codes "action ") on rest is ∙ action_spelled rest s means)
      (form_is (behind (codes "hook port ") on) (hook_port_spot t c) _ s (on ≡ spelled s) (λ rest is means. behind_is (codes "hook port ") on rest is ∙ hook_port_spelled rest s means)
      (form_is (behind (codes "hook command ") on) (hook_command_spot t c) _ s (on ≡ spelled s) (λ rest is means. behind_is (codes "hook command ") on rest is ∙ hook_command_spelled rest s means)
      (form_is (behind (codes "hook signal ") on) (hook_signal_spot t c) None s (on ≡ spelled s) (λ rest is means. behind_is (codes "hook signal ") on rest is ∙ hook_signal_spelled rest s means)
      (λ e. absurd (nothing s e)))))))
    where
      nothing : (q : Spot) → ◌≡◌ {A = Option Spot} None (Some q) → ⊥
      nothing q e = cc

  -- two texts that mean one place are the same
  pub one_spelling : (a b : List ℕ) (s : Spot) → spot_in t c a ≡ Some s → spot_in t c b ≡ Some s → a ≡ b
  one_spelling a b s h k = spot_is a s h ∙ sym (spot_is b s k)
