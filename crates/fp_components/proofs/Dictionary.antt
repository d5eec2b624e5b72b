-- What is written of commands, events, channels, parameters, matches and instances of state machines comes to one of each.
use Rattle.std.proofs.Common.{◌≡◌, ℕ, zero, suc, ℤ, pos, ◌+ℤ◌, List, [], ◌∷◌, Option, Some, None, slice_get, refl, sym, ap, subst, ◌∙◌}
use Rattle.std.specs.Prelude.{position}
use Rattle.fp_base.proofs.Options.{one_some, same_some}
use Rattle.fp_base.proofs.Numbers.{pos_same}
use Rattle.fp_base.specs.declared.format.Format.{Format}
use Rattle.fp_base.specs.declared.format.FormatPiece.{FormatPiece}
use Rattle.fp_base.specs.declared.value.Value.{Value, Int}
use Rattle.fp_formats.specs.Spelling.{IsFormat}
use Rattle.fp_tables.specs.declared.component.Channel.{Channel}
use Rattle.fp_tables.specs.declared.component.Command.{Command}
use Rattle.fp_tables.specs.declared.component.Event.{Event}
use Rattle.fp_tables.specs.declared.component.Limit.{Limit}
use Rattle.fp_tables.specs.declared.component.Param.{Param}
use Rattle.fp_tables.specs.declared.component.Running.{Running}
use Rattle.fp_tables.specs.declared.component.Way.{Way}
use Rattle.fp_tables.specs.declared.kind.Kind.{Kind}
use Rattle.fp_tree.specs.declared.dictionary.CommandKind.{CommandKind}
use Rattle.fp_tree.specs.declared.dictionary.CommandKind.TheVariants as kind
use Rattle.fp_type_sizes.specs.declared.written.WrittenType.{WrittenType}
use Rattle.fp_types.specs.Converting.{Converts, DefaultIs}
use Rattle.fp_written_parts.specs.declared.dictionary.WrittenChannel.{WrittenChannel}
use Rattle.fp_written_parts.specs.declared.dictionary.WrittenCommand.{WrittenCommand}
use Rattle.fp_written_parts.specs.declared.dictionary.WrittenEvent.{WrittenEvent}
use Rattle.fp_written_parts.specs.declared.dictionary.WrittenLimit.{WrittenLimit}
use Rattle.fp_written_parts.specs.declared.dictionary.WrittenParam.{WrittenParam}
use Rattle.fp_written_parts.specs.declared.member.WrittenMatch.{WrittenMatch}
use Rattle.fp_written_parts.specs.declared.member.WrittenRunning.{WrittenRunning}
use Rattle.fp_written_parts.specs.declared.port.Given.{Given}
use Rattle.fp_written_parts.specs.declared.port.QueueWords.{QueueWords}
use Rattle.fp_written_parts.specs.declared.port.WrittenPort.{WrittenPort}
use Rattle.fp_dictdefs.specs.declared.listed.Listed.{Listed}
use Rattle.fp_dictdefs.specs.Ids.{HasId, IsGivenOr, IsIdBy, IsImplied}
use Rattle.fp_component_rules.specs.Firsts.{is_named}
use Rattle.fp_components.specs.Resolved.{CommandHere, IsChannel, IsCommand, IsCommandHere, IsDefault, IsEvent, IsId, IsLimit, IsMatch, IsParam, IsRunning, IsThrottle, IsWay, IsWrittenCommand, IsSetCommand, IsSaveCommand}
use Rattle.fp_components.specs.Resolved.CommandHere.{written, sets, saves}
use Rattle.fp_components.proofs.Lists.{each_same}
use Rattle.fp_components.proofs.OnePorts.{later_same}
use Rattle.fp_components.proofs.Pieces.{one_format}

-- ---- ids

module _ (listed : List Listed) where
  given_same : (P : ℤ → Type 0) → ((m n : ℤ) → P m → P n → m ≡ n) → (o : Option Given) (m n : ℤ) → IsGivenOr P o m → IsGivenOr P o n → m ≡ n
  given_same P one None m n h k = one m n h k
  given_same P one (Some g) m n h k = one_some g.number m n h k

  by_same : (P : ℤ → Type 0) → ((m n : ℤ) → P m → P n → m ≡ n) → (k : ℕ) (m n : ℤ) → IsIdBy P listed k m → IsIdBy P listed k n → m ≡ n
  by_same P one k m n h j =
      given_same P one j.0.id m n (subst (λ (x : Listed). IsGivenOr P x.id m) (one_some (slice_get listed k) h.0 j.0 h.1 j.1) h.2) j.2

  implied_same : (k : ℕ) (m n : ℤ) → IsImplied listed k m → IsImplied listed k n → m ≡ n
  implied_same zero m n h j = h ∙ sym j
  implied_same (suc k) m n h j = h.2 ∙ ap (λ (x : ℤ). x +ℤ pos 1) (by_same (IsImplied listed k) (implied_same k) k h.0 j.0 h.1 j.1) ∙ sym j.2

  pub id_same : (k a b : ℕ) → IsId listed k a → IsId listed k b → a ≡ b
  id_same k a b h j = pos_same a b (by_same (IsImplied listed k) (implied_same k) k (pos a) (pos b) h j)

  -- ---- commands

  way_same : (c : CommandKind) (q : QueueWords) (a b : Way) → IsWay c q a → IsWay c q b → a ≡ b
  way_same kind.Async q a b h j = later_same q a b h j
  way_same kind.Sync q a b h j = h ∙ sym j
  way_same kind.Guarded q a b h j = h ∙ sym j

  command_made : (x y : Command) → x.name ≡ y.name → x.part ≡ y.part → x.way ≡ y.way → x.opcode ≡ y.opcode → x.formals ≡ y.formals → x.note ≡ y.note → x ≡ y
  command_made x y a b c d e f i = record { name = a i; part = b i; way = c i; opcode = d i; formals = e i; note = f i }

  pub command_same : (k : ℕ) (h : CommandHere) (x y : Command) → IsCommand listed k h x → IsCommand listed k h y → x ≡ y
  command_same k h x y a b = by_kind h a.is b.is
    where
      code : x.opcode ≡ y.opcode
      code = id_same k x.opcode y.opcode a.opcode b.opcode

      by_kind : (h : CommandHere) → IsCommandHere h x → IsCommandHere h y → x ≡ y
      by_kind (written c) p q =
          command_made x y (p.name ∙ sym q.name) (p.part ∙ sym q.part) (way_same c.kind c.queue x.way y.way p.way q.way) code (p.formals ∙ sym q.formals) (p.note ∙ sym q.note)
      by_kind (sets n w) p q = command_made x y (p.name ∙ sym q.name) (p.part ∙ sym q.part) (p.way ∙ sym q.way) code (p.formals ∙ sym q.formals) (p.note ∙ sym q.note)
      by_kind (saves n w) p q = command_made x y (p.name ∙ sym q.name) (p.part ∙ sym q.part) (p.way ∙ sym q.way) code (p.formals ∙ sym q.formals) (p.note ∙ sym q.note)

  -- ---- events

  throttle_same : (o : Option Given) (a b : Option ℕ) → IsThrottle o a → IsThrottle o b → a ≡ b
  throttle_same None a b h j = h ∙ sym j
  throttle_same (Some g) a b h j = h.2 ∙ ap (λ (n : ℕ). Some n) (pos_same h.0 j.0 (one_some g.number (pos h.0) (pos j.0) h.1 j.1)) ∙ sym j.2

  format_made : (x y : Format) → x.parts ≡ y.parts → x ≡ y
  format_made x y a i = record { parts = a i }

  pub event_same : (k : ℕ) (e : WrittenEvent) (x y : Event) → IsEvent listed k e x → IsEvent listed k e y → x ≡ y
  event_same k e x y h j =
      made (h.name ∙ sym j.name) (id_same k x.id y.id h.id j.id) (h.severity ∙ sym j.severity) (h.formals ∙ sym j.formals) (h.format ∙ sym j.format)
      (format_made x.fields y.fields (one_format e.format x.fields.parts y.fields.parts h.fields j.fields)) (throttle_same e.throttle x.throttle y.throttle h.throttle j.throttle) (h.note ∙ sym j.note)
    where
      made : x.name ≡ y.name → x.id ≡ y.id → x.severity ≡ y.severity → x.formals ≡ y.formals → x.format ≡ y.format → x.fields ≡ y.fields → x.throttle ≡ y.throttle → x.note ≡ y.note → x ≡ y
      made a b c d e f g h i = record { name = a i; id = b i; severity = c i; formals = d i; format = e i; fields = f i; throttle = g i; note = h i }

  -- ---- channels

  limit_same : (l : WrittenLimit) (x y : Limit) → IsLimit l x → IsLimit l y → x ≡ y
  limit_same l x y h j =
      made (h.high ∙ sym j.high) (h.color ∙ sym j.color) (h.value.2 ∙ ap (λ (n : ℤ). Int n) (one_some l.value.number h.value.0 j.value.0 h.value.1 j.value.1) ∙ sym j.value.2)
    where
      made : x.high ≡ y.high → x.color ≡ y.color → x.value ≡ y.value → x ≡ y
      made a b c i = record { high = a i; color = b i; value = c i }

  pub channel_same : (k : ℕ) (t : WrittenChannel) (x y : Channel) → IsChannel listed k t x → IsChannel listed k t y → x ≡ y
  channel_same k t x y h j =
      made (h.name ∙ sym j.name) (id_same k x.id y.id h.id j.id) (h.kind ∙ sym j.kind) (h.on_change ∙ sym j.on_change) (h.format ∙ sym j.format)
      (each_same (λ (at : ℕ). IsLimit) t.limits x.limits y.limits (λ n l p q at. limit_same l p q) h.limits j.limits) (h.note ∙ sym j.note)
    where
      made : x.name ≡ y.name → x.id ≡ y.id → x.kind ≡ y.kind → x.on_change ≡ y.on_change → x.format ≡ y.format → x.limits ≡ y.limits → x.note ≡ y.note → x ≡ y
      made a b c d e f g i = record { name = a i; id = b i; kind = c i; on_change = d i; format = e i; limits = f i; note = g i }

  -- ---- parameters

  module _ (ws : List WrittenType) (one_default : (k : Kind) (a b : Value) → DefaultIs ws k a → DefaultIs ws k b → a ≡ b)
      (one_result : (v : Value) (k : Kind) (a b : Value) → Converts ws v k a → Converts ws v k b → a ≡ b) where
    default_same : (k : Kind) (o : Option Value) (a b : Value) → IsDefault ws k o a → IsDefault ws k o b → a ≡ b
    default_same k None a b h j = one_default k a b h j
    default_same k (Some v) a b h j = one_result v k a b h j

    pub param_same : (k : ℕ) (p : WrittenParam) (x y : Param) → IsParam ws listed k p x → IsParam ws listed k p y → x ≡ y
    param_same k p x y h j =
        made (h.name ∙ sym j.name) (id_same k x.id y.id h.id j.id) (h.kind ∙ sym j.kind) (default_same p.kind p.default x.default y.default h.default j.default) (h.written ∙ sym j.written)
        (h.note ∙ sym j.note)
      where
        made : x.name ≡ y.name → x.id ≡ y.id → x.kind ≡ y.kind → x.default ≡ y.default → x.written ≡ y.written → x.note ≡ y.note → x ≡ y
        made a b c d e f i = record { name = a i; id = b i; kind = c i; default = d i; written = e i; note = f i }

-- ---- matches and instances of state machines

pub match_same : (all : List WrittenPort) (m : WrittenMatch) (p q : ℕ × ℕ) → IsMatch all m p → IsMatch all m q → p ≡ q
match_same all m p q h j =
    made (one_some (position (is_named m.first) all) p.0 q.0 h.first j.first) (one_some (position (is_named m.second) all) p.1 q.1 h.second j.second)
  where
    made : p.0 ≡ q.0 → p.1 ≡ q.1 → p ≡ q
    made a b i = (a i, b i)

pub running_same : (r : WrittenRunning) (x y : Running) → IsRunning r x → IsRunning r y → x ≡ y
running_same r x y h j = made (h.name ∙ sym j.name) (h.machine ∙ sym j.machine) (later_same r.queue x.way y.way h.way j.way)
  where
    made : x.name ≡ y.name → x.machine ≡ y.machine → x.way ≡ y.way → x ≡ y
    made a b c i = record { name = a i; machine = b i; way = c i }
