-- Where no member gives a special port of a kind that an earlier one gives, no two ports of the whole list are of one kind.
use Rattle.std.proofs.Common.{◌≡◌, ◌⊎◌, inl, inr, ℕ, zero, suc, ◌+◌, ◌<◌, List, ◌∷◌, ◌++◌, length, slice_get, Some, refl, sym, subst, arith}
use Rattle.std.proofs.lemmas.Option.{slice_get_within}
use Rattle.fp_base.proofs.Options.{same_some}
use Rattle.fp_graph.proofs.Places.{get_joined}
use Rattle.fp_written_parts.specs.declared.port.WrittenPort.{WrittenPort}
use Rattle.fp_written_parts.specs.declared.member.WrittenInterface.{WrittenInterface}
use Rattle.fp_written_parts.specs.declared.member.WrittenMember.{WrittenMember}
use Rattle.fp_written_parts.specs.declared.member.WrittenMember.TheVariants.{Port, Import, Command, Event, Channel, Param, Match, Running}
use Rattle.fp_written_parts.specs.Giving.{Gives, own, imported, GiveAll, none, port, import_, cyclic, command, event, channel, param, match, running}
use Rattle.fp_component_rules.proofs.Listed.{in_given}
use Rattle.fp_component_rules.specs.Broken.{GivesAgain}

module _ (Clash : WrittenPort → WrittenPort → Type 0) where
  -- no port clashes with a later one
  abbrev pub NoneClash : List WrittenPort → Type 0
  NoneClash ps = (j k : ℕ) (p q : WrittenPort) → j < k → slice_get ps j ≡ Some p → slice_get ps k ≡ Some q → Clash p q → ⊥

  none_joined : (ps qs : List WrittenPort) → NoneClash ps → NoneClash qs
      → ((j k : ℕ) (p q : WrittenPort) → slice_get ps j ≡ Some p → slice_get qs k ≡ Some q → Clash p q → ⊥) → NoneClash (ps ++ qs)
  none_joined ps qs d e cross j k p q low a b clash = go (get_joined ps qs p j a) (get_joined ps qs q k b)
    where
      go : (slice_get ps j ≡ Some p) ⊎ ((i : ℕ) × (j ≡ length ps + i) × (slice_get qs i ≡ Some p))
          → (slice_get ps k ≡ Some q) ⊎ ((i : ℕ) × (k ≡ length ps + i) × (slice_get qs i ≡ Some q)) → ⊥
      go (inl x) (inl y) = d j k p q low x y clash
      go (inl x) (inr y) = cross j y.0 p q x y.2 clash
      go (inr x) (inl y) = let past = slice_get_within ps k q y in let at = x.1 in absurd (omega arith)
      go (inr x) (inr y) =
          let one = x.1 in
          let other = y.1 in
          let less : x.0 < y.0 = omega arith in
          e x.0 y.0 p q less x.2 y.2 clash

  module _ (fs : List WrittenInterface) where
    -- no member gives a port that clashes with one that an earlier member gives
    abbrev pub IsGivenOnce : List WrittenMember → Type 0
    IsGivenOnce ms = (k : ℕ) (m : WrittenMember) → slice_get ms k ≡ Some m → GivesAgain fs Clash ms k m → ⊥

    module _ (once : (v : ℕ) (f : WrittenInterface) → slice_get fs v ≡ Some f → IsGivenOnce f.members) where
      once_behind : (m : WrittenMember) (ms : List WrittenMember) → IsGivenOnce (m ∷ ms) → IsGivenOnce ms
      once_behind m ms h k x at g =
          let low = g.given.before in
          h (suc k) x at
          (record {
            earlier = g.earlier;
            given = record { j = suc g.given.j; before = omega arith; member = g.given.member; here = g.given.here; gives = g.given.gives };
            later = g.later;
            gives = g.gives;
            clash = g.clash;
          })

      -- what the first gives clashes with nothing behind it
      first_once : (m : WrittenMember) (ms : List WrittenMember) (p : WrittenPort) (qs : List WrittenPort) → IsGivenOnce (m ∷ ms) → Gives fs m p → GiveAll fs ms qs
          → (k : ℕ) (q : WrittenPort) → slice_get qs k ≡ Some q → Clash p q → ⊥
      first_once m ms p qs h gives all k q e clash =
          let g = in_given fs all k q e in
          h (suc g.k) g.member g.here
          (record { earlier = p; given = record { j = zero; before = omega arith; member = m; here = refl; gives = gives }; later = q; gives = g.gives; clash = clash })

      none_pushed : (p : WrittenPort) (qs : List WrittenPort) → NoneClash qs → ((k : ℕ) (q : WrittenPort) → slice_get qs k ≡ Some q → Clash p q → ⊥) → NoneClash (p ∷ qs)
      none_pushed p qs rest first zero zero a b low d e clash = absurd (omega arith)
      none_pushed p qs rest first zero (suc k) a b low d e clash = first k b e (subst (λ (x : WrittenPort). Clash x b) (sym (same_some d)) clash)
      none_pushed p qs rest first (suc j) zero a b low d e clash = absurd (omega arith)
      none_pushed p qs rest first (suc j) (suc k) a b low d e clash = rest j k a b (omega arith) d e clash

      pub none_clash : {ms : List WrittenMember} {ps : List WrittenPort} → GiveAll fs ms ps → IsGivenOnce ms → NoneClash ps
      none_clash none h = λ j k p q low d e clash. absurd (cc)
      none_clash (port {p = p} {ms = ms} {ps = ps} a) h = none_pushed p ps (none_clash a (once_behind (Port p) ms h)) (first_once (Port p) ms p ps h own a)
      none_clash (import_ {i = i} {f = f} {ms = ms} {ps = ps} {qs = qs} here acyclic a b) h =
          none_joined ps qs (none_clash a (once i.interface f here)) (none_clash b (once_behind (Import i) ms h))
          (λ j k p q d e clash.
          let g = in_given fs a j p d in
          first_once (Import i) ms p qs h (imported g.k here acyclic g.here g.gives) b k q e clash)
      none_clash (cyclic {i = i} {ms = ms} c a) h = none_clash a (once_behind (Import i) ms h)
      none_clash (command {c = x} {ms = ms} a) h = none_clash a (once_behind (Command x) ms h)
      none_clash (event {e = x} {ms = ms} a) h = none_clash a (once_behind (Event x) ms h)
      none_clash (channel {t = x} {ms = ms} a) h = none_clash a (once_behind (Channel x) ms h)
      none_clash (param {d = x} {ms = ms} a) h = none_clash a (once_behind (Param x) ms h)
      none_clash (match {d = x} {ms = ms} a) h = none_clash a (once_behind (Match x) ms h)
      none_clash (running {d = x} {ms = ms} a) h = none_clash a (once_behind (Running x) ms h)
