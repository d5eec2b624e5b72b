-- What members list, kind by kind: names with ids beside what they are of, and what holds of each member holds of what it lists.
use Rattle.std.proofs.Common.{◌≡◌, ℕ, zero, suc, ◌+◌, List, [], ◌∷◌, ◌++◌, map, length, flat_map, Option, Some, None, slice_get, refl, sym, ap, ap₂, ◌∙◌, arith}
use Rattle.std.specs.List.{AllByRecursion, filter_map}
use Rattle.std.proofs.lemmas.List.{map-append}
use Rattle.std.proofs.lemmas.Option.{slice_get-map}
use Rattle.std.specs.Prelude.{option_map}
use Rattle.fp_base.proofs.Lists.{each_flat, each_weaker, of_item, each_item}
use Rattle.fp_base.specs.Numbers.{numbers_from}
use Rattle.fp_tables.specs.declared.component.CommandPart.{CommandPart}
use Rattle.fp_tables.specs.declared.component.CommandPart.TheVariants as part
use Rattle.fp_written_parts.specs.declared.dictionary.WrittenEvent.{WrittenEvent}
use Rattle.fp_written_parts.specs.declared.dictionary.WrittenChannel.{WrittenChannel}
use Rattle.fp_written_parts.specs.declared.dictionary.WrittenParam.{WrittenParam}
use Rattle.fp_written_parts.specs.declared.member.WrittenRunning.{WrittenRunning}
use Rattle.fp_written_parts.specs.declared.member.WrittenMember.{WrittenMember}
use Rattle.fp_written_parts.specs.declared.member.WrittenMember.TheVariants.{Port, Import, Command, Event, Channel, Param, Match, Running}
use Rattle.fp_dictdefs.specs.declared.listed.Listed.{Listed}
use Rattle.fp_dictdefs.specs.Listed.{channels_in, commands_in, events_in, params_in, save_name, set_name}
use Rattle.fp_components.specs.Resolved.{CommandHere, written, sets, saves, channel_in, commands_from, event_in, param_in, running_in}

-- ---- what is listed of each

abbrev pub event_listed : WrittenEvent → Listed
event_listed e = record { name = e.name; id = e.id; at = e.at }

abbrev pub channel_listed : WrittenChannel → Listed
channel_listed t = record { name = t.name; id = t.id; at = t.at }

abbrev pub param_listed : WrittenParam → Listed
param_listed p = record { name = p.name; id = p.id; at = p.at }

abbrev pub command_listed : CommandHere → Listed
command_listed (written c) = record { name = c.name; id = c.opcode; at = c.at }
command_listed (sets n p) = record { name = set_name p.name; id = p.set; at = p.at }
command_listed (saves n p) = record { name = save_name p.name; id = p.save; at = p.at }

-- each is listed by itself
listed_alike : {X : Type 0} (pick : WrittenMember → List X) (listed : WrittenMember → List Listed) (of : X → Listed) → ((m : WrittenMember) → listed m ≡ map of (pick m))
    → (ms : List WrittenMember) → flat_map listed ms ≡ map of (flat_map pick ms)
listed_alike pick listed of same [] = refl
listed_alike pick listed of same (m ∷ ms) =
    ap₂ (λ (xs ys : List Listed). xs ++ ys) (same m) (listed_alike pick listed of same ms) ∙ sym (map-append of (pick m) (flat_map pick ms))

event_alike : (m : WrittenMember) → events_in m ≡ map event_listed (event_in m)
event_alike (Port p) = refl
event_alike (Import i) = refl
event_alike (Command c) = refl
event_alike (Event e) = refl
event_alike (Channel t) = refl
event_alike (Param p) = refl
event_alike (Match d) = refl
event_alike (Running r) = refl

channel_alike : (m : WrittenMember) → channels_in m ≡ map channel_listed (channel_in m)
channel_alike (Port p) = refl
channel_alike (Import i) = refl
channel_alike (Command c) = refl
channel_alike (Event e) = refl
channel_alike (Channel t) = refl
channel_alike (Param p) = refl
channel_alike (Match d) = refl
channel_alike (Running r) = refl

param_alike : (m : WrittenMember) → params_in m ≡ map param_listed (param_in m)
param_alike (Port p) = refl
param_alike (Import i) = refl
param_alike (Command c) = refl
param_alike (Event e) = refl
param_alike (Channel t) = refl
param_alike (Param p) = refl
param_alike (Match d) = refl
param_alike (Running r) = refl

pub events_alike : (ms : List WrittenMember) → flat_map events_in ms ≡ map event_listed (flat_map event_in ms)
events_alike ms = listed_alike event_in events_in event_listed event_alike ms

pub channels_alike : (ms : List WrittenMember) → flat_map channels_in ms ≡ map channel_listed (flat_map channel_in ms)
channels_alike ms = listed_alike channel_in channels_in channel_listed channel_alike ms

pub params_alike : (ms : List WrittenMember) → flat_map params_in ms ≡ map param_listed (flat_map param_in ms)
params_alike ms = listed_alike param_in params_in param_listed param_alike ms

pub commands_alike : (n : ℕ) (ms : List WrittenMember) → flat_map commands_in ms ≡ map command_listed (commands_from n ms)
commands_alike n [] = refl
commands_alike n (Port p ∷ ms) = commands_alike n ms
commands_alike n (Import i ∷ ms) = commands_alike n ms
commands_alike n (Command c ∷ ms) = ap (λ (xs : List Listed). command_listed (written c) ∷ xs) (commands_alike n ms)
commands_alike n (Event e ∷ ms) = commands_alike n ms
commands_alike n (Channel t ∷ ms) = commands_alike n ms
commands_alike n (Param p ∷ ms) = ap (λ (xs : List Listed). command_listed (sets n p) ∷ command_listed (saves n p) ∷ xs) (commands_alike (suc n) ms)
commands_alike n (Match d ∷ ms) = commands_alike n ms
commands_alike n (Running r ∷ ms) = commands_alike n ms

-- at a place
pub listed_at : {X : Type 0} (of : X → Listed) (xs : List X) (listed : List Listed) → listed ≡ map of xs → (k : ℕ) (x : X) → slice_get xs k ≡ Some x
    → slice_get listed k ≡ Some (of x)
listed_at of xs listed same k x e = ap (λ (ls : List Listed). slice_get ls k) same ∙ slice_get-map of xs k ∙ ap (option_map of) e

-- ---- what holds of each member

module _ (P : WrittenMember → Type 0) where
  picked : {X : Type 0} (pick : WrittenMember → List X) (Q : X → Type 0) → ((m : WrittenMember) → P m → AllByRecursion Q (pick m)) → (ms : List WrittenMember)
      → ((k : ℕ) (m : WrittenMember) → slice_get ms k ≡ Some m → P m) → (k : ℕ) (x : X) → slice_get (flat_map pick ms) k ≡ Some x → Q x
  picked pick Q has ms each k x e =
      of_item Q (flat_map pick ms) k x (each_flat Q pick ms (each_weaker P (λ (m : WrittenMember). AllByRecursion Q (pick m)) has ms (each_item P ms each))) e

  event_has : (m : WrittenMember) → P m → AllByRecursion (λ (e : WrittenEvent). P (Event e)) (event_in m)
  event_has (Port p) h = tt
  event_has (Import i) h = tt
  event_has (Command c) h = tt
  event_has (Event e) h = (h, tt)
  event_has (Channel t) h = tt
  event_has (Param p) h = tt
  event_has (Match d) h = tt
  event_has (Running r) h = tt

  channel_has : (m : WrittenMember) → P m → AllByRecursion (λ (t : WrittenChannel). P (Channel t)) (channel_in m)
  channel_has (Port p) h = tt
  channel_has (Import i) h = tt
  channel_has (Command c) h = tt
  channel_has (Event e) h = tt
  channel_has (Channel t) h = (h, tt)
  channel_has (Param p) h = tt
  channel_has (Match d) h = tt
  channel_has (Running r) h = tt

  param_has : (m : WrittenMember) → P m → AllByRecursion (λ (p : WrittenParam). P (Param p)) (param_in m)
  param_has (Port p) h = tt
  param_has (Import i) h = tt
  param_has (Command c) h = tt
  param_has (Event e) h = tt
  param_has (Channel t) h = tt
  param_has (Param p) h = (h, tt)
  param_has (Match d) h = tt
  param_has (Running r) h = tt

  running_has : (m : WrittenMember) → P m → AllByRecursion (λ (r : WrittenRunning). P (Running r)) (running_in m)
  running_has (Port p) h = tt
  running_has (Import i) h = tt
  running_has (Command c) h = tt
  running_has (Event e) h = tt
  running_has (Channel t) h = tt
  running_has (Param p) h = tt
  running_has (Match d) h = tt
  running_has (Running r) h = (h, tt)

  pub events_have : (ms : List WrittenMember) → ((k : ℕ) (m : WrittenMember) → slice_get ms k ≡ Some m → P m) → (k : ℕ) (e : WrittenEvent)
      → slice_get (flat_map event_in ms) k ≡ Some e → P (Event e)
  events_have ms each k e at = picked event_in (λ (x : WrittenEvent). P (Event x)) event_has ms each k e at

  pub channels_have : (ms : List WrittenMember) → ((k : ℕ) (m : WrittenMember) → slice_get ms k ≡ Some m → P m) → (k : ℕ) (t : WrittenChannel)
      → slice_get (flat_map channel_in ms) k ≡ Some t → P (Channel t)
  channels_have ms each k t at = picked channel_in (λ (x : WrittenChannel). P (Channel x)) channel_has ms each k t at

  pub params_have : (ms : List WrittenMember) → ((k : ℕ) (m : WrittenMember) → slice_get ms k ≡ Some m → P m) → (k : ℕ) (p : WrittenParam)
      → slice_get (flat_map param_in ms) k ≡ Some p → P (Param p)
  params_have ms each k p at = picked param_in (λ (x : WrittenParam). P (Param x)) param_has ms each k p at

  pub runnings_have : (ms : List WrittenMember) → ((k : ℕ) (m : WrittenMember) → slice_get ms k ≡ Some m → P m) → (k : ℕ) (r : WrittenRunning)
      → slice_get (flat_map running_in ms) k ≡ Some r → P (Running r)
  runnings_have ms each k r at = picked running_in (λ (x : WrittenRunning). P (Running x)) running_has ms each k r at

  -- a command of a parameter has what the parameter has
  abbrev pub HereHas : CommandHere → Type 0
  HereHas (written c) = P (Command c)
  HereHas (sets n p) = P (Param p)
  HereHas (saves n p) = P (Param p)

  each_here : (n : ℕ) (ms : List WrittenMember) → AllByRecursion P ms → AllByRecursion HereHas (commands_from n ms)
  each_here n [] h = tt
  each_here n (Port p ∷ ms) h = each_here n ms h.1
  each_here n (Import i ∷ ms) h = each_here n ms h.1
  each_here n (Command c ∷ ms) h = (h.0, each_here n ms h.1)
  each_here n (Event e ∷ ms) h = each_here n ms h.1
  each_here n (Channel t ∷ ms) h = each_here n ms h.1
  each_here n (Param p ∷ ms) h = (h.0, (h.0, each_here (suc n) ms h.1))
  each_here n (Match d ∷ ms) h = each_here n ms h.1
  each_here n (Running r ∷ ms) h = each_here n ms h.1

  pub commands_have : (ms : List WrittenMember) → ((k : ℕ) (m : WrittenMember) → slice_get ms k ≡ Some m → P m) → (k : ℕ) (x : CommandHere)
      → slice_get (commands_from zero ms) k ≡ Some x → HereHas x
  commands_have ms each k x at = of_item HereHas (commands_from zero ms) k x (each_here zero ms (each_item P ms each)) at

-- ---- commands of parameters

-- the parameter of a command
abbrev pub ParamHere : ℕ → List WrittenParam → CommandHere → Type 0
ParamHere n ps (written c) = Unit {0}
ParamHere n ps (sets k p) = (i : ℕ) × (k ≡ n + i) × (slice_get ps i ≡ Some p)
ParamHere n ps (saves k p) = (i : ℕ) × (k ≡ n + i) × (slice_get ps i ≡ Some p)

param_next : (n : ℕ) (q : WrittenParam) (ps : List WrittenParam) (x : CommandHere) → ParamHere (suc n) ps x → ParamHere n (q ∷ ps) x
param_next n q ps (written c) h = tt
param_next n q ps (sets k p) h = (suc h.0, omega (arith, h.1), h.2)
param_next n q ps (saves k p) h = (suc h.0, omega (arith, h.1), h.2)

params_here : (n : ℕ) (ms : List WrittenMember) → AllByRecursion (ParamHere n (flat_map param_in ms)) (commands_from n ms)
params_here n [] = tt
params_here n (Port p ∷ ms) = params_here n ms
params_here n (Import i ∷ ms) = params_here n ms
params_here n (Command c ∷ ms) = (tt, params_here n ms)
params_here n (Event e ∷ ms) = params_here n ms
params_here n (Channel t ∷ ms) = params_here n ms
params_here n (Param p ∷ ms) = (
  (zero, omega arith, refl),
  ((zero, omega arith, refl), each_weaker (ParamHere (suc n) (flat_map param_in ms)) (ParamHere n (p ∷ flat_map param_in ms)) (param_next n p (flat_map param_in ms)) (commands_from (suc n) ms) (params_here (suc n) ms)),
)
params_here n (Match d ∷ ms) = params_here n ms
params_here n (Running r ∷ ms) = params_here n ms

pub param_at : (ms : List WrittenMember) (k : ℕ) (x : CommandHere) → slice_get (commands_from zero ms) k ≡ Some x → ParamHere zero (flat_map param_in ms) x
param_at ms k x e = of_item (ParamHere zero (flat_map param_in ms)) (commands_from zero ms) k x (params_here zero ms) e

-- what a command is of
abbrev pub part_here : CommandHere → CommandPart
part_here (written c) = part.Plain
part_here (sets n p) = part.SetParam n
part_here (saves n p) = part.SaveParam n

abbrev pub set_by : CommandPart → Option ℕ
set_by (part.SetParam n) = Some n
set_by _ = None

abbrev pub saved_by : CommandPart → Option ℕ
saved_by (part.SaveParam n) = Some n
saved_by _ = None

-- each parameter is set once and saved once, in order
pub sets_in_order : (n : ℕ) (ms : List WrittenMember) → filter_map set_by (map part_here (commands_from n ms)) ≡ numbers_from n (length (flat_map param_in ms))
sets_in_order n [] = refl
sets_in_order n (Port p ∷ ms) = sets_in_order n ms
sets_in_order n (Import i ∷ ms) = sets_in_order n ms
sets_in_order n (Command c ∷ ms) = sets_in_order n ms
sets_in_order n (Event e ∷ ms) = sets_in_order n ms
sets_in_order n (Channel t ∷ ms) = sets_in_order n ms
sets_in_order n (Param p ∷ ms) = ap (λ (ns : List ℕ). n ∷ ns) (sets_in_order (suc n) ms)
sets_in_order n (Match d ∷ ms) = sets_in_order n ms
sets_in_order n (Running r ∷ ms) = sets_in_order n ms

pub saves_in_order : (n : ℕ) (ms : List WrittenMember) → filter_map saved_by (map part_here (commands_from n ms)) ≡ numbers_from n (length (flat_map param_in ms))
saves_in_order n [] = refl
saves_in_order n (Port p ∷ ms) = saves_in_order n ms
saves_in_order n (Import i ∷ ms) = saves_in_order n ms
saves_in_order n (Command c ∷ ms) = saves_in_order n ms
saves_in_order n (Event e ∷ ms) = saves_in_order n ms
saves_in_order n (Channel t ∷ ms) = saves_in_order n ms
saves_in_order n (Param p ∷ ms) = ap (λ (ns : List ℕ). n ∷ ns) (saves_in_order (suc n) ms)
saves_in_order n (Match d ∷ ms) = saves_in_order n ms
saves_in_order n (Running r ∷ ms) = saves_in_order n ms

-- no member is an instance of a state machine
pub none_running : (NoRunning : WrittenMember → Type 0) → ((m : WrittenMember) → NoRunning m → running_in m ≡ []) → (ms : List WrittenMember)
    → ((k : ℕ) (m : WrittenMember) → slice_get ms k ≡ Some m → NoRunning m) → flat_map running_in ms ≡ []
none_running NoRunning empty [] each = refl
none_running NoRunning empty (m ∷ ms) each =
    ap₂ (λ (xs ys : List _). xs ++ ys) (empty m (each zero m refl)) (none_running NoRunning empty ms (λ k x e. each (suc k) x e))
