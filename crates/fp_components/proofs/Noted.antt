-- The lists of a component with one member more.
use Rattle.std.proofs.Common.{◌≡◌, ◌∙◌, ℕ, suc, ◌+◌, List, [], ◌∷◌, ◌++◌, length, flat_map, slice_get, Some, refl, sym, ap, subst, arith, append_assoc}
use Rattle.std.specs.Prelude.{OnOk, Result}
use Rattle.std.proofs.lemmas.List.{length-append}
use Rattle.std.proofs.lemmas.Grind.{flat_map-append}
use Rattle.fp_base.proofs.Options.{on_ok_then}
use Rattle.fp_base.proofs.Mapped.{flat_last}
use Rattle.fp_tables.specs.declared.component.Command.{Command}
use Rattle.fp_tables.specs.declared.component.Event.{Event}
use Rattle.fp_tables.specs.declared.component.Channel.{Channel}
use Rattle.fp_tables.specs.declared.component.Param.{Param}
use Rattle.fp_tables.specs.declared.component.Running.{Running}
use Rattle.fp_type_sizes.specs.declared.written.WrittenType.{WrittenType}
use Rattle.fp_written_parts.specs.declared.dictionary.WrittenCommand.{WrittenCommand}
use Rattle.fp_written_parts.specs.declared.dictionary.WrittenEvent.{WrittenEvent}
use Rattle.fp_written_parts.specs.declared.dictionary.WrittenChannel.{WrittenChannel}
use Rattle.fp_written_parts.specs.declared.dictionary.WrittenParam.{WrittenParam}
use Rattle.fp_written_parts.specs.declared.member.WrittenRunning.{WrittenRunning}
use Rattle.fp_written_parts.specs.declared.member.WrittenMember.{WrittenMember}
use Rattle.fp_written_parts.specs.declared.member.WrittenMember.TheVariants as member
use Rattle.fp_dictdefs.specs.declared.listed.Listed.{Listed}
use Rattle.fp_dictdefs.specs.Listed.{set_name, save_name, commands_in, events_in, channels_in, params_in}
use Rattle.fp_components.specs.declared.ids.Ids.{Ids}
use Rattle.fp_components.specs.declared.parts.Parts.{Parts}
use Rattle.fp_components.specs.Listing.{AreIdsKnown, AreListed, IsKnownAt}
use Rattle.fp_components.specs.Resolved.{AreEach, CommandHere, IsChannel, IsCommand, IsEvent, IsParam, IsRunning, channel_in, commands_from, event_in, param_in, running_in, saves, sets, written}
use Rattle.fp_components.specs.Whole.{AreWholeLimits, IsWholeCommand, IsWholeEvent, IsWholeMember, IsWholeParam, IsWholeQueue}
use Rattle.fp_components.proofs.Each.{each_same, still}

-- ---- flat maps

behind_at : {B : Type 0} (xs : List B) (y : B) (ys : List B) → slice_get (xs ++ y ∷ ys) (length xs) ≡ Some y
behind_at [] y ys = refl
behind_at (x ∷ xs) y ys = behind_at xs y ys

-- the first item of a member stands behind those of the members before it
place : {A B : Type 0} (f : A → List B) (members before rest : List A) (m : A) (y : B) (ys : List B) (n : ℕ) → members ≡ before ++ m ∷ rest → f m ≡ y ∷ ys → n ≡ length (flat_map f before)
    → slice_get (flat_map f members) n ≡ Some y
place {A = A} {B = B} f members before rest m y ys n split is count =
    ap (λ (ms : List A). slice_get (flat_map f ms) n) split ∙ ap (λ (zs : List B). slice_get zs n) (flat_map-append f before (m ∷ rest))
    ∙ ap (λ (zs : List B). slice_get (flat_map f before ++ (zs ++ flat_map f rest)) n) is ∙ ap (λ (k : ℕ). slice_get (flat_map f before ++ y ∷ (ys ++ flat_map f rest)) k) count
    ∙ behind_at (flat_map f before) y (ys ++ flat_map f rest)

-- and the second one behind it
place_second : {A B : Type 0} (f : A → List B) (members before rest : List A) (m : A) (x y : B) (ys : List B) (n : ℕ) → members ≡ before ++ m ∷ rest → f m ≡ x ∷ y ∷ ys
    → n ≡ length (flat_map f before) + 1 → slice_get (flat_map f members) n ≡ Some y
place_second {A = A} {B = B} f members before rest m x y ys n split is count =
    ap (λ (ms : List A). slice_get (flat_map f ms) n) split ∙ ap (λ (zs : List B). slice_get zs n) (flat_map-append f before (m ∷ rest))
    ∙ ap (λ (zs : List B). slice_get (flat_map f before ++ (zs ++ flat_map f rest)) n) is
    ∙ ap (λ (zs : List B). slice_get zs n) (sym (append_assoc (flat_map f before) (x ∷ []) (y ∷ (ys ++ flat_map f rest))))
    ∙ ap (λ (k : ℕ). slice_get ((flat_map f before ++ x ∷ []) ++ y ∷ (ys ++ flat_map f rest)) k) (count ∙ sym (length-append (flat_map f before) (x ∷ [])))
    ∙ behind_at (flat_map f before ++ x ∷ []) y (ys ++ flat_map f rest)

same_counts : {A B C : Type 0} (f : A → List B) (g : A → List C) → ((a : A) → length (f a) ≡ length (g a)) → (as_ : List A) → length (flat_map f as_) ≡ length (flat_map g as_)
same_counts f g same [] = refl
same_counts f g same (a ∷ as_) =
    let one = same a in
    let more = same_counts f g same as_ in
    length-append (f a) (flat_map f as_) ∙ ap (λ (n : ℕ). n + length (flat_map f as_)) one ∙ ap (λ (n : ℕ). length (g a) + n) more ∙ sym (length-append (g a) (flat_map g as_))

event_count : (m : WrittenMember) → length (event_in m) ≡ length (events_in m)
event_count (member.Port p) = refl
event_count (member.Import i) = refl
event_count (member.Command d) = refl
event_count (member.Event e) = refl
event_count (member.Channel t) = refl
event_count (member.Param p) = refl
event_count (member.Match d) = refl
event_count (member.Running d) = refl

channel_count : (m : WrittenMember) → length (channel_in m) ≡ length (channels_in m)
channel_count (member.Port p) = refl
channel_count (member.Import i) = refl
channel_count (member.Command d) = refl
channel_count (member.Event e) = refl
channel_count (member.Channel t) = refl
channel_count (member.Param p) = refl
channel_count (member.Match d) = refl
channel_count (member.Running d) = refl

param_count : (m : WrittenMember) → length (param_in m) ≡ length (params_in m)
param_count (member.Port p) = refl
param_count (member.Import i) = refl
param_count (member.Command d) = refl
param_count (member.Event e) = refl
param_count (member.Channel t) = refl
param_count (member.Param p) = refl
param_count (member.Match d) = refl
param_count (member.Running d) = refl

command_count : (n : ℕ) (ms : List WrittenMember) → length (commands_from n ms) ≡ length (flat_map commands_in ms)
command_count n [] = refl
command_count n (member.Port p ∷ ms) = command_count n ms
command_count n (member.Import i ∷ ms) = command_count n ms
command_count n (member.Command d ∷ ms) = ap suc (command_count n ms)
command_count n (member.Event e ∷ ms) = command_count n ms
command_count n (member.Channel t ∷ ms) = command_count n ms
command_count n (member.Param p ∷ ms) = ap (λ (k : ℕ). suc (suc k)) (command_count (suc n) ms)
command_count n (member.Match d ∷ ms) = command_count n ms
command_count n (member.Running d ∷ ms) = command_count n ms

commands_behind : (n : ℕ) (ms : List WrittenMember) (m : WrittenMember) → commands_from n (ms ++ m ∷ []) ≡ commands_from n ms ++ commands_from (n + length (flat_map param_in ms)) (m ∷ [])
commands_behind n [] m = let on : n ≡ n + 0 = omega arith in ap (λ (k : ℕ). commands_from k (m ∷ [])) on
commands_behind n (member.Port p ∷ ms) m = commands_behind n ms m
commands_behind n (member.Import i ∷ ms) m = commands_behind n ms m
commands_behind n (member.Command d ∷ ms) m = ap (λ (hs : List CommandHere). written d ∷ hs) (commands_behind n ms m)
commands_behind n (member.Event e ∷ ms) m = commands_behind n ms m
commands_behind n (member.Channel t ∷ ms) m = commands_behind n ms m
commands_behind n (member.Param p ∷ ms) m =
    let count = length (flat_map param_in ms) in
    let on : suc n + count ≡ n + suc count = omega arith in
    ap (λ (hs : List CommandHere). sets n p ∷ saves n p ∷ hs) (commands_behind (suc n) ms m ∙ ap (λ (k : ℕ). commands_from (suc n) ms ++ commands_from k (m ∷ [])) on)
commands_behind n (member.Match d ∷ ms) m = commands_behind n ms m
commands_behind n (member.Running d ∷ ms) m = commands_behind n ms m

-- ---- one member more

module _ (ws : List WrittenType) (members before : List WrittenMember) where
  commands_next : (m : WrittenMember) → commands_from 0 (before ++ m ∷ []) ≡ commands_from 0 before ++ commands_from (length (flat_map param_in before)) (m ∷ [])
  commands_next m =
      let count = length (flat_map param_in before) in
      let on : 0 + count ≡ count = omega arith in
      commands_behind 0 before m ∙ ap (λ (k : ℕ). commands_from 0 before ++ commands_from k (m ∷ [])) on

  next : (m : WrittenMember) (parts : Parts)
      → AreEach (IsCommand (flat_map commands_in members)) (commands_from 0 before ++ commands_from (length (flat_map param_in before)) (m ∷ [])) parts.commands
      → AreEach (IsEvent (flat_map events_in members)) (flat_map event_in before ++ event_in m) parts.events
      → AreEach (IsChannel (flat_map channels_in members)) (flat_map channel_in before ++ channel_in m) parts.channels
      → AreEach (IsParam ws (flat_map params_in members)) (flat_map param_in before ++ param_in m) parts.params
      → AreEach (λ k. IsRunning) (flat_map running_in before ++ running_in m) parts.machines
      → AreListed ws members (before ++ m ∷ []) parts
  next m parts commands events channels params machines = record {
    commands = each_same _ _ _ parts.commands (sym (commands_next m)) commands;
    events = each_same _ _ _ parts.events (sym (flat_last event_in before m)) events;
    channels = each_same _ _ _ parts.channels (sym (flat_last channel_in before m)) channels;
    params = each_same _ _ _ parts.params (sym (flat_last param_in before m)) params;
    machines = each_same _ _ _ parts.machines (sym (flat_last running_in before m)) machines;
  }

  -- a member that is of none of these kinds
  pub passed : (m n : WrittenMember) (parts : Parts) → m ≡ n → commands_from (length (flat_map param_in before)) (n ∷ []) ≡ [] → event_in n ≡ [] → channel_in n ≡ [] → param_in n ≡ []
      → running_in n ≡ [] → AreListed ws members before parts → AreListed ws members (before ++ m ∷ []) parts
  passed m n parts is commands events channels params machines listed =
      subst (λ (k : WrittenMember). AreListed ws members (before ++ k ∷ []) parts) (sym is)
      (next n parts (still _ _ _ _ commands listed.commands) (still _ _ _ _ events listed.events) (still _ _ _ _ channels listed.channels) (still _ _ _ _ params listed.params)
      (still _ _ _ _ machines listed.machines))

module _ {T E : Type 0} (ws : List WrittenType) (members before rest : List WrittenMember) (ids : Ids) (known : AreIdsKnown members ids) (parts : Parts)
    (listed : AreListed ws members before parts) (m : WrittenMember) (split : members ≡ before ++ m ∷ rest) (whole : IsWholeMember ws m) (r : Result T E) where
  split_at : (n : WrittenMember) → m ≡ n → members ≡ before ++ n ∷ rest
  split_at n is = subst (λ (k : WrittenMember). members ≡ before ++ k ∷ rest) is split

  whole_at : (n : WrittenMember) → m ≡ n → IsWholeMember ws n
  whole_at n is = subst (IsWholeMember ws) is whole

  back : (n : WrittenMember) (more : Parts) → m ≡ n → OnOk r (AreListed ws members (before ++ n ∷ []) more) → OnOk r (AreListed ws members (before ++ m ∷ []) more)
  back n more is h = subst (λ (k : WrittenMember). OnOk r (AreListed ws members (before ++ k ∷ []) more)) (sym is) h

  pub with_command : (f d : WrittenCommand) (row : List Command) → m ≡ member.Command f → d ≡ f
      → ((all : List Listed) (hs : List CommandHere) → IsKnownAt all ids.commands (length hs) → IsWholeCommand d.kind d.queue → AreEach (IsCommand all) hs parts.commands
      → OnOk r (AreEach (IsCommand all) (hs ++ written d ∷ []) row))
      → OnOk r (AreListed ws members (before ++ m ∷ []) (record { commands = row; events = parts.events; channels = parts.channels; params = parts.params; machines = parts.machines }))
  with_command f d row is same clause =
      let all = flat_map commands_in members in
      let hs = commands_from 0 before in
      let there = place commands_in members before rest (member.Command f) (record { name = f.name; id = f.opcode; at = f.at }) [] (length hs) (split_at (member.Command f) is) refl (command_count 0 before) in
      let more : Parts = record { commands = row; events = parts.events; channels = parts.channels; params = parts.params; machines = parts.machines } in
      back (member.Command f) more is
      (on_ok_then r (AreEach (IsCommand all) (hs ++ written d ∷ []) row) (AreListed ws members (before ++ member.Command f ∷ []) more)
      (λ h. next ws members before (member.Command f) more (subst (λ (x : WrittenCommand). AreEach (IsCommand all) (hs ++ written x ∷ []) row) same h) (still _ _ _ _ refl listed.events)
      (still _ _ _ _ refl listed.channels) (still _ _ _ _ refl listed.params) (still _ _ _ _ refl listed.machines))
      (clause all hs (known.commands (length hs) _ there) (subst (λ (x : WrittenCommand). IsWholeCommand x.kind x.queue) (sym same) (whole_at (member.Command f) is)) listed.commands))

  pub with_event : (f d : WrittenEvent) (row : List Event) → m ≡ member.Event f → d ≡ f
      → ((all : List Listed) (es : List WrittenEvent) → IsKnownAt all ids.events (length es) → IsWholeEvent d → AreEach (IsEvent all) es parts.events
      → OnOk r (AreEach (IsEvent all) (es ++ d ∷ []) row))
      → OnOk r (AreListed ws members (before ++ m ∷ []) (record { commands = parts.commands; events = row; channels = parts.channels; params = parts.params; machines = parts.machines }))
  with_event f d row is same clause =
      let all = flat_map events_in members in
      let es = flat_map event_in before in
      let there = place events_in members before rest (member.Event f) (record { name = f.name; id = f.id; at = f.at }) [] (length es) (split_at (member.Event f) is) refl
      (same_counts event_in events_in event_count before) in
      let more : Parts = record { commands = parts.commands; events = row; channels = parts.channels; params = parts.params; machines = parts.machines } in
      back (member.Event f) more is
      (on_ok_then r (AreEach (IsEvent all) (es ++ d ∷ []) row) (AreListed ws members (before ++ member.Event f ∷ []) more)
      (λ h. next ws members before (member.Event f) more (still _ _ _ _ refl listed.commands) (subst (λ (x : WrittenEvent). AreEach (IsEvent all) (es ++ x ∷ []) row) same h)
      (still _ _ _ _ refl listed.channels) (still _ _ _ _ refl listed.params) (still _ _ _ _ refl listed.machines))
      (clause all es (known.events (length es) _ there) (subst IsWholeEvent (sym same) (whole_at (member.Event f) is)) listed.events))

  pub with_channel : (f d : WrittenChannel) (row : List Channel) → m ≡ member.Channel f → d ≡ f
      → ((all : List Listed) (ts : List WrittenChannel) → IsKnownAt all ids.channels (length ts) → AreWholeLimits d.limits → AreEach (IsChannel all) ts parts.channels
      → OnOk r (AreEach (IsChannel all) (ts ++ d ∷ []) row))
      → OnOk r (AreListed ws members (before ++ m ∷ []) (record { commands = parts.commands; events = parts.events; channels = row; params = parts.params; machines = parts.machines }))
  with_channel f d row is same clause =
      let all = flat_map channels_in members in
      let ts = flat_map channel_in before in
      let there = place channels_in members before rest (member.Channel f) (record { name = f.name; id = f.id; at = f.at }) [] (length ts) (split_at (member.Channel f) is) refl
      (same_counts channel_in channels_in channel_count before) in
      let more : Parts = record { commands = parts.commands; events = parts.events; channels = row; params = parts.params; machines = parts.machines } in
      back (member.Channel f) more is
      (on_ok_then r (AreEach (IsChannel all) (ts ++ d ∷ []) row) (AreListed ws members (before ++ member.Channel f ∷ []) more)
      (λ h. next ws members before (member.Channel f) more (still _ _ _ _ refl listed.commands) (still _ _ _ _ refl listed.events)
      (subst (λ (x : WrittenChannel). AreEach (IsChannel all) (ts ++ x ∷ []) row) same h) (still _ _ _ _ refl listed.params) (still _ _ _ _ refl listed.machines))
      (clause all ts (known.channels (length ts) _ there) (subst (λ (x : WrittenChannel). AreWholeLimits x.limits) (sym same) (whole_at (member.Channel f) is)) listed.channels))

  pub with_running : (f d : WrittenRunning) (row : List Running) → m ≡ member.Running f → d ≡ f
      → ((rs : List WrittenRunning) → IsWholeQueue d.queue → AreEach (λ k. IsRunning) rs parts.machines → OnOk r (AreEach (λ k. IsRunning) (rs ++ d ∷ []) row))
      → OnOk r (AreListed ws members (before ++ m ∷ []) (record { commands = parts.commands; events = parts.events; channels = parts.channels; params = parts.params; machines = row }))
  with_running f d row is same clause =
      let rs = flat_map running_in before in
      let more : Parts = record { commands = parts.commands; events = parts.events; channels = parts.channels; params = parts.params; machines = row } in
      back (member.Running f) more is
      (on_ok_then r (AreEach (λ k. IsRunning) (rs ++ d ∷ []) row) (AreListed ws members (before ++ member.Running f ∷ []) more)
      (λ h. next ws members before (member.Running f) more (still _ _ _ _ refl listed.commands) (still _ _ _ _ refl listed.events) (still _ _ _ _ refl listed.channels)
      (still _ _ _ _ refl listed.params) (subst (λ (x : WrittenRunning). AreEach (λ k. IsRunning) (rs ++ x ∷ []) row) same h))
      (clause rs (subst (λ (x : WrittenRunning). IsWholeQueue x.queue) (sym same) (whole_at (member.Running f) is)) listed.machines))

  -- both commands of a parameter, and then the parameter
  pub with_param : (f d : WrittenParam) (at : ℕ) (commands : List Command) (row : List Param) → m ≡ member.Param f → d ≡ f → at ≡ length parts.params
      → ((all : List Listed) (hs : List CommandHere) → IsKnownAt all ids.commands (length hs) → IsKnownAt all ids.commands (length (hs ++ sets at d ∷ []))
      → AreEach (IsCommand all) hs parts.commands → AreEach (IsCommand all) ((hs ++ sets at d ∷ []) ++ saves at d ∷ []) commands)
      → ((all : List Listed) (ps : List WrittenParam) → IsKnownAt all ids.params (length ps) → IsWholeParam ws d → AreEach (IsParam ws all) ps parts.params
      → OnOk r (AreEach (IsParam ws all) (ps ++ d ∷ []) row))
      → OnOk r (AreListed ws members (before ++ m ∷ []) (record { commands = commands; events = parts.events; channels = parts.channels; params = row; machines = parts.machines }))
  with_param f d at commands row is same count implied clause =
      let all = flat_map params_in members in
      let ps = flat_map param_in before in
      let opcodes = flat_map commands_in members in
      let hs = commands_from 0 before in
      let here = split_at (member.Param f) is in
      let there = place params_in members before rest (member.Param f) (record { name = f.name; id = f.id; at = f.at }) [] (length ps) here refl (same_counts param_in params_in param_count before) in
      let first = place commands_in members before rest (member.Param f) (record { name = set_name f.name; id = f.set; at = f.at })
      (record { name = save_name f.name; id = f.save; at = f.at } ∷ []) (length hs) here refl (command_count 0 before) in
      let second = place_second commands_in members before rest (member.Param f) (record { name = set_name f.name; id = f.set; at = f.at })
      (record { name = save_name f.name; id = f.save; at = f.at }) [] (length (hs ++ sets at d ∷ [])) here refl
      (length-append hs (sets at d ∷ []) ∙ ap (λ (n : ℕ). n + 1) (command_count 0 before)) in
      let both = implied opcodes hs (known.commands (length hs) _ first) (known.commands (length (hs ++ sets at d ∷ [])) _ second) listed.commands in
      let place_is : at ≡ length ps = count ∙ listed.params.each in
      let joined : (hs ++ sets at d ∷ []) ++ saves at d ∷ [] ≡ hs ++ sets (length ps) f ∷ saves (length ps) f ∷ [] =
      append_assoc hs (sets at d ∷ []) (saves at d ∷ []) ∙ ap (λ (n : ℕ). hs ++ sets n d ∷ saves n d ∷ []) place_is
      ∙ ap (λ (x : WrittenParam). hs ++ sets (length ps) x ∷ saves (length ps) x ∷ []) same in
      let more : Parts = record { commands = commands; events = parts.events; channels = parts.channels; params = row; machines = parts.machines } in
      back (member.Param f) more is
      (on_ok_then r (AreEach (IsParam ws all) (ps ++ d ∷ []) row) (AreListed ws members (before ++ member.Param f ∷ []) more)
      (λ h. next ws members before (member.Param f) more (each_same _ _ _ commands joined both) (still _ _ _ _ refl listed.events) (still _ _ _ _ refl listed.channels)
      (subst (λ (x : WrittenParam). AreEach (IsParam ws all) (ps ++ x ∷ []) row) same h) (still _ _ _ _ refl listed.machines))
      (clause all ps (known.params (length ps) _ there) (subst (IsWholeParam ws) (sym same) (whole_at (member.Param f) is)) listed.params))
