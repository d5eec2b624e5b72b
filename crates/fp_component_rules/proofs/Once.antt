-- Where no member gives a name that an earlier one gives, no two ports of the whole list have one name.
use Rattle.std.proofs.Common.{◌≡◌, ℕ, zero, suc, ◌+◌, Bool, true, false, not, List, [], ◌∷◌, ◌++◌, slice_get, Some, refl, arith}
use Rattle.std.specs.List.{AllByRecursion}
use Rattle.fp_base.proofs.Lists.{each_append}
use Rattle.fp_base.proofs.Bytes.{same_bytes}
use Rattle.fp_written_parts.specs.declared.port.WrittenPort.{WrittenPort}
use Rattle.fp_written_parts.specs.declared.member.WrittenInterface.{WrittenInterface}
use Rattle.fp_written_parts.specs.declared.member.WrittenMember.{WrittenMember}
use Rattle.fp_written_parts.specs.declared.member.WrittenMember.TheVariants.{Port, Import, Command, Event, Channel, Param, Match, Running}
use Rattle.fp_written_parts.specs.Giving.{Gives, own, imported, GiveAll, none, port, import_, cyclic, command, event, channel, param, match, running}
use Rattle.fp_component_rules.specs.Firsts.{is_named}
use Rattle.fp_component_rules.specs.Lists.{IsGivenApart, IsNamedOnce}
use Rattle.fp_component_rules.proofs.Listed.{in_given}
use Rattle.fp_component_rules.proofs.Named.{Differ, differ_apart}

abbrev Others : WrittenPort → List WrittenPort → Type 0
Others p qs = AllByRecursion (λ (q : WrittenPort). not (is_named p.name q) ≡ true) qs

differ_joined : (ps qs : List WrittenPort) → Differ ps → Differ qs → ((k : ℕ) (p : WrittenPort) → slice_get ps k ≡ Some p → Others p qs) → Differ (ps ++ qs)
differ_joined [] qs d e cross = e
differ_joined (p ∷ ps) qs d e cross = (
  each_append (λ (q : WrittenPort). not (is_named p.name q) ≡ true) ps qs d.0 (cross zero p refl),
  differ_joined ps qs d.1 e (λ k q h. cross (suc k) q h),
)

not_named : (p q : WrittenPort) → (p.name ≡ q.name → ⊥) → not (is_named p.name q) ≡ true
not_named p q differ = go (is_named p.name q) refl
  where
    go : (b : Bool) → is_named p.name q ≡ b → not b ≡ true
    go true is = absurd (differ (same_bytes p.name q.name is))
    go false is = refl

others_all : (p : WrittenPort) (qs : List WrittenPort) → ((k : ℕ) (q : WrittenPort) → slice_get qs k ≡ Some q → p.name ≡ q.name → ⊥) → Others p qs
others_all p [] h = tt
others_all p (q ∷ qs) h = (not_named p q (h zero q refl), others_all p qs (λ k r e. h (suc k) r e))

module _ (fs : List WrittenInterface) (once : (v : ℕ) (f : WrittenInterface) → slice_get fs v ≡ Some f → IsNamedOnce fs f.members) where
  once_behind : (m : WrittenMember) (ms : List WrittenMember) → IsNamedOnce fs (m ∷ ms) → IsNamedOnce fs ms
  once_behind m ms h j k a b p q low d e = h (suc j) (suc k) a b p q (omega arith) d e

  first_once : (m : WrittenMember) (ms : List WrittenMember) (p : WrittenPort) (qs : List WrittenPort) → IsNamedOnce fs (m ∷ ms) → Gives fs m p → GiveAll fs ms qs → Others p qs
  first_once m ms p qs h gives all =
      others_all p qs
      (λ k q e same.
      let g = in_given fs all k q e in
      h zero (suc g.k) m g.member p q (omega arith) refl g.here gives g.gives same)

  pub all_differ : {ms : List WrittenMember} {ps : List WrittenPort} → GiveAll fs ms ps → IsNamedOnce fs ms → Differ ps
  all_differ none h = tt
  all_differ (port {p = p} {ms = ms} {ps = ps} a) h = (first_once (Port p) ms p ps h own a, all_differ a (once_behind (Port p) ms h))
  all_differ (import_ {i = i} {f = f} {ms = ms} {ps = ps} {qs = qs} here acyclic a b) h =
      differ_joined ps qs (all_differ a (once i.interface f here)) (all_differ b (once_behind (Import i) ms h))
      (λ k p e.
      let g = in_given fs a k p e in
      first_once (Import i) ms p qs h (imported g.k here acyclic g.here g.gives) b)
  all_differ (cyclic {i = i} {ms = ms} c a) h = all_differ a (once_behind (Import i) ms h)
  all_differ (command {c = x} {ms = ms} a) h = all_differ a (once_behind (Command x) ms h)
  all_differ (event {e = x} {ms = ms} a) h = all_differ a (once_behind (Event x) ms h)
  all_differ (channel {t = x} {ms = ms} a) h = all_differ a (once_behind (Channel x) ms h)
  all_differ (param {d = x} {ms = ms} a) h = all_differ a (once_behind (Param x) ms h)
  all_differ (match {d = x} {ms = ms} a) h = all_differ a (once_behind (Match x) ms h)
  all_differ (running {d = x} {ms = ms} a) h = all_differ a (once_behind (Running x) ms h)

pub given_apart : (fs : List WrittenInterface) → ((v : ℕ) (f : WrittenInterface) → slice_get fs v ≡ Some f → IsNamedOnce fs f.members) → (ms : List WrittenMember) → IsNamedOnce fs ms
    → IsGivenApart fs ms
given_apart fs once ms h ps given = differ_apart ps (all_differ fs once given h)
