-- The ports that members give: what holds of each member holds of the ports, and two ports of a list clash only where two members give them.
use Rattle.std.proofs.Common.{◌≡◌, ℕ, zero, suc, List, [], ◌∷◌, ◌++◌, slice_get, Some, subst, arith, refl}
use Rattle.std.specs.List.{AllByRecursion}
use Rattle.fp_base.proofs.Lists.{each_append, of_item, each_item}
use Rattle.fp_base.proofs.Options.{same_some}
use Rattle.fp_written_parts.specs.declared.port.WrittenPort.{WrittenPort}
use Rattle.fp_written_parts.specs.declared.member.WrittenInterface.{WrittenInterface}
use Rattle.fp_written_parts.specs.declared.member.WrittenMember.{WrittenMember}
use Rattle.fp_written_parts.specs.declared.member.WrittenMember.TheVariants.{Port, Import, Command, Event, Channel, Param, Match, Running}
use Rattle.fp_written_parts.specs.Giving.{Gives, own, imported, GiveAll, none, port, import_, cyclic, command, event, channel, param, match, running}
use Rattle.fp_component_rules.proofs.Listed.{in_given}
use Rattle.fp_component_rules.specs.Broken.{GivesAgain}
use Rattle.fp_sound_parts.proofs.Lists.{AreApart}

-- ---- what holds of each member of the interfaces

module _ (fs : List WrittenInterface) (P : WrittenMember → Type 0)
    (inside : (v k : ℕ) (f : WrittenInterface) (m : WrittenMember) → slice_get fs v ≡ Some f → slice_get f.members k ≡ Some m → P m) where
  gives_with : {m : WrittenMember} {p : WrittenPort} → Gives fs m p → P m → P (Port p)
  gives_with own h = h
  gives_with (imported {i = i} {f = f} k {m = m} here acyclic there g) h = gives_with g (inside i.interface k f m here there)

  pub given_with : (ms : List WrittenMember) (all : List WrittenPort) → GiveAll fs ms all → ((k : ℕ) (m : WrittenMember) → slice_get ms k ≡ Some m → P m)
      → (k : ℕ) (p : WrittenPort) → slice_get all k ≡ Some p → P (Port p)
  given_with ms all given each k p e =
      let g = in_given fs given k p e in
      gives_with g.gives (each g.k g.member g.here)

-- ---- ports that clash

module _ (fs : List WrittenInterface) (Clash : WrittenPort → WrittenPort → Type 0) where
  -- no member gives a port that clashes with one that an earlier member gives
  abbrev pub GiveApart : List WrittenMember → Type 0
  GiveApart ms = (k : ℕ) (m : WrittenMember) → slice_get ms k ≡ Some m → GivesAgain fs Clash ms k m → ⊥

  abbrev Others : WrittenPort → List WrittenPort → Type 0
  Others p qs = AllByRecursion (λ (q : WrittenPort). Clash p q → ⊥) qs

  abbrev Pairs : List WrittenPort → Type 0
  Pairs [] = Unit {0}
  Pairs (p ∷ ps) = Others p ps × Pairs ps

  pairs_joined : (ps qs : List WrittenPort) → Pairs ps → Pairs qs → ((k : ℕ) (p : WrittenPort) → slice_get ps k ≡ Some p → Others p qs) → Pairs (ps ++ qs)
  pairs_joined [] qs d e cross = e
  pairs_joined (p ∷ ps) qs d e cross = (
    each_append (λ (q : WrittenPort). Clash p q → ⊥) ps qs d.0 (cross zero p refl),
    pairs_joined ps qs d.1 e (λ k q h. cross (suc k) q h),
  )

  pairs_apart : (ps : List WrittenPort) → Pairs ps → AreApart Clash ps
  pairs_apart [] d j k x y low e f = absurd (cc)
  pairs_apart (p ∷ ps) d zero zero x y low e f = absurd (omega arith)
  pairs_apart (p ∷ ps) d zero (suc k) x y low e f =
      let h : Clash p y → ⊥ = of_item (λ (q : WrittenPort). Clash p q → ⊥) ps k y d.0 f in
      subst (λ (z : WrittenPort). Clash z y → ⊥) (same_some e) h
  pairs_apart (p ∷ ps) d (suc j) zero x y low e f = absurd (omega arith)
  pairs_apart (p ∷ ps) d (suc j) (suc k) x y low e f = pairs_apart ps d.1 j k x y (omega arith) e f

  give_behind : (m : WrittenMember) (ms : List WrittenMember) → GiveApart (m ∷ ms) → GiveApart ms
  give_behind m ms h k e at again =
      h (suc k) e at
      (record {
        earlier = again.earlier;
        given = record { j = suc again.given.j; before = omega (arith, again.given.before); member = again.given.member; here = again.given.here; gives = again.given.gives };
        later = again.later;
        gives = again.gives;
        clash = again.clash;
      })

  first_apart : (m : WrittenMember) (ms : List WrittenMember) (p : WrittenPort) (qs : List WrittenPort) → GiveApart (m ∷ ms) → Gives fs m p → GiveAll fs ms qs → Others p qs
  first_apart m ms p qs h gives all =
      each_item (λ (q : WrittenPort). Clash p q → ⊥) qs
      (λ k q e clash.
      let g = in_given fs all k q e in
      h (suc g.k) g.member g.here
      (record {
        earlier = p;
        given = record { j = zero; before = omega arith; member = m; here = refl; gives = gives };
        later = q;
        gives = g.gives;
        clash = clash;
      }))

  module _ (inside : (v : ℕ) (f : WrittenInterface) → slice_get fs v ≡ Some f → GiveApart f.members) where
    all_pairs : {ms : List WrittenMember} {ps : List WrittenPort} → GiveAll fs ms ps → GiveApart ms → Pairs ps
    all_pairs none h = tt
    all_pairs (port {p = p} {ms = ms} {ps = ps} a) h = (first_apart (Port p) ms p ps h own a, all_pairs a (give_behind (Port p) ms h))
    all_pairs (import_ {i = i} {f = f} {ms = ms} {ps = ps} {qs = qs} here acyclic a b) h =
        pairs_joined ps qs (all_pairs a (inside i.interface f here)) (all_pairs b (give_behind (Import i) ms h))
        (λ k p e.
        let g = in_given fs a k p e in
        first_apart (Import i) ms p qs h (imported g.k here acyclic g.here g.gives) b)
    all_pairs (cyclic {i = i} {ms = ms} c a) h = all_pairs a (give_behind (Import i) ms h)
    all_pairs (command {c = x} {ms = ms} a) h = all_pairs a (give_behind (Command x) ms h)
    all_pairs (event {e = x} {ms = ms} a) h = all_pairs a (give_behind (Event x) ms h)
    all_pairs (channel {t = x} {ms = ms} a) h = all_pairs a (give_behind (Channel x) ms h)
    all_pairs (param {d = x} {ms = ms} a) h = all_pairs a (give_behind (Param x) ms h)
    all_pairs (match {d = x} {ms = ms} a) h = all_pairs a (give_behind (Match x) ms h)
    all_pairs (running {d = x} {ms = ms} a) h = all_pairs a (give_behind (Running x) ms h)

    -- where that holds of each interface and of the members, no two ports of the list clash
    pub given_apart : (ms : List WrittenMember) (ps : List WrittenPort) → GiveAll fs ms ps → GiveApart ms → AreApart Clash ps
    given_apart ms ps given h = pairs_apart ps (all_pairs given h)
