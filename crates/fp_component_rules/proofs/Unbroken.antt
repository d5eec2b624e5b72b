-- What holds of components, and of interfaces, where no rule on them as wholes is broken.
use Rattle.std.proofs.Common.{◌≡◌, ◌∙◌, ◌⊎◌, inl, inr, ℕ, zero, suc, ◌<◌, ℤ, Bool, true, false, cond, List, [], ◌∷◌, slice_get, Option, Some, None, refl, sym, ap, subst, arith}
use Rattle.std.specs.List.{find}
use Rattle.std.specs.Ordering.{int_eq}
use Rattle.std.proofs.lemmas.Bool.Decides.{Decides-int_eq}
use Rattle.std.proofs.lemmas.Bool.{true_from_ne_false}
use Rattle.fp_base.specs.declared.place.Place.{Place}
use Rattle.fp_base.specs.declared.rule.Rule.{Rule}
use Rattle.fp_base.specs.declared.rule.Rule.TheVariants.{PortNameRepeated, SpecialPort, PassiveWithQueueUse, BadMatch, InterfaceCycle}
use Rattle.fp_base.specs.Least.{BrokenAt, ByOptional, IsUnbroken, broken_at}
use Rattle.fp_base.proofs.Options.{one_some, same_some}
use Rattle.fp_base.proofs.Bools.{not_both}
use Rattle.fp_base.proofs.Bytes.{same_bytes}
use Rattle.fp_graph.specs.Chains.{LeadsThrough, one, more}
use Rattle.fp_tables.specs.declared.component.Queueing.{Queueing}
use Rattle.fp_tables.specs.declared.component.Queueing.TheVariants.{Passive}
use Rattle.fp_written_parts.specs.declared.port.WrittenPort.{WrittenPort}
use Rattle.fp_written_parts.specs.declared.member.WrittenComponent.{WrittenComponent}
use Rattle.fp_written_parts.specs.declared.member.WrittenInterface.{WrittenInterface}
use Rattle.fp_written_parts.specs.declared.member.WrittenMatch.{WrittenMatch}
use Rattle.fp_written_parts.specs.declared.member.WrittenMember.{WrittenMember}
use Rattle.fp_written_parts.specs.declared.member.WrittenMember.TheVariants.{Port, Import, Command, Event, Channel, Param, Match, Running}
use Rattle.fp_written_parts.specs.Giving.{Gives, GiveAll, Imports, IsCyclic, LeadsToCycle, at_once, through}
use Rattle.fp_component_rules.specs.Cycles.{Reaches}
use Rattle.fp_component_rules.specs.Firsts.{is_named}
use Rattle.fp_component_rules.specs.Gifts.{LeadsAmong}
use Rattle.fp_component_rules.specs.Lists.{AreNamedOnce, IsNamedOnce}
use Rattle.fp_component_rules.proofs.Listed.{GivesBy, gives_by, one_list}
use Rattle.fp_component_rules.specs.Broken.{AreOfOneKind, ComponentsBroken, DifferInSize, GivesAgain, HaveOneName, IsBadMatch, Names, NamesNone, QueueBroken, RepeatsBroken, Waits, bringer_at, giver_at, is_general, size_of, waits_itself}
use Rattle.fp_component_rules.specs.Consistent.{AreConsistent, AreOfManyKinds, ArePaired, IsConsistent}
use Rattle.fp_component_rules.proofs.Apart.{IsGivenOnce, none_clash}

-- ---- places

giver_there : (fs : List WrittenInterface) (m : WrittenMember) (p : WrittenPort) → Gives fs m p → (place : Place) × (giver_at m ≡ Some place)
giver_there fs m p g = go m (gives_by fs g)
  where
    go : (m : WrittenMember) → GivesBy fs m p → (place : Place) × (giver_at m ≡ Some place)
    go (Port q) h = (q.at, refl)
    go (Import i) h = (i.at, refl)
    go (Command x) h = absurd h
    go (Event x) h = absurd h
    go (Channel x) h = absurd h
    go (Param x) h = absurd h
    go (Match x) h = absurd h
    go (Running x) h = absurd h

itself_there : (m : WrittenMember) → waits_itself m ≡ true → (place : Place) × (bringer_at m ≡ Some place)
itself_there (Port q) e = absurd (cc)
itself_there (Import i) e = absurd (cc)
itself_there (Command x) e = (x.begins, refl)
itself_there (Event x) e = absurd (cc)
itself_there (Channel x) e = absurd (cc)
itself_there (Param x) e = absurd (cc)
itself_there (Match x) e = absurd (cc)
itself_there (Running x) e = (x.begins, refl)

giver_there_too : (fs : List WrittenInterface) (m : WrittenMember) (p : WrittenPort) → Gives fs m p → (place : Place) × (bringer_at m ≡ Some place)
giver_there_too fs m p g = go m (gives_by fs g)
  where
    go : (m : WrittenMember) → GivesBy fs m p → (place : Place) × (bringer_at m ≡ Some place)
    go (Port q) h = (q.begins, refl)
    go (Import i) h = (i.at, refl)
    go (Command x) h = absurd h
    go (Event x) h = absurd h
    go (Channel x) h = absurd h
    go (Param x) h = absurd h
    go (Match x) h = absurd h
    go (Running x) h = absurd h

bringer_there : (fs : List WrittenInterface) (m : WrittenMember) → Waits fs m → (place : Place) × (bringer_at m ≡ Some place)
bringer_there fs m (inl e) = itself_there m e
bringer_there fs m (inr t) = giver_there_too fs m t.0 t.1

-- a fact that breaks a rule at a place that is there
placed : (rule : Rule) (Q : Type 0) (o : Option Place) (place : Place) → o ≡ Some place → Q → ByOptional (λ at. BrokenAt rule at Q) o (broken_at rule place)
placed rule Q o place e q = subst (λ (x : Option Place). ByOptional (λ at. BrokenAt rule at Q) x (broken_at rule place)) (sym e) (refl, q)

-- ---- what a search finds

found_at : (name : List ℕ) (ps : List WrittenPort) (p : WrittenPort) → find (is_named name) ps ≡ Some p → (k : ℕ) × (slice_get ps k ≡ Some p) × (p.name ≡ name)
found_at name [] p e = absurd (cc)
found_at name (x ∷ ps) p e = go (is_named name x) refl e (found_at name ps p)
  where
    go : (b : Bool) → is_named name x ≡ b → cond b (Some x) (find (is_named name) ps) ≡ Some p
        → (find (is_named name) ps ≡ Some p → (k : ℕ) × (slice_get ps k ≡ Some p) × (p.name ≡ name)) → (k : ℕ) × (slice_get (x ∷ ps) k ≡ Some p) × (p.name ≡ name)
    go true is h rest = (zero, h, ap (λ (y : WrittenPort). y.name) (sym (same_some h)) ∙ sym (same_bytes name x.name is))
    go false is h rest = let t = rest h in (suc t.0, t.1, t.2)

order : (j k : ℕ) → (j ≡ k) ⊎ ((j < k) ⊎ (k < j))
order zero zero = inl refl
order zero (suc k) = inr (inl (omega arith))
order (suc j) zero = inr (inr (omega arith))
order (suc j) (suc k) = go (order j k)
  where
    go : (j ≡ k) ⊎ ((j < k) ⊎ (k < j)) → (suc j ≡ suc k) ⊎ ((suc j < suc k) ⊎ (suc k < suc j))
    go (inl is) = inl (ap suc is)
    go (inr (inl low)) = inr (inl (omega arith))
    go (inr (inr low)) = inr (inr (omega arith))

equal : (m n : ℤ) → ((m ≡ n → ⊥) → ⊥) → m ≡ n
equal m n h = go (int_eq m n) refl
  where
    go : (b : Bool) → int_eq m n ≡ b → m ≡ n
    go true is = (Decides-int_eq m n).0 is
    go false is = absurd (h (λ e. not_both ((Decides-int_eq m n).1 e) is))

paired_by : (ports : List WrittenPort) (d : WrittenMatch) (p q : WrittenPort) → find (is_named d.first) ports ≡ Some p → find (is_named d.second) ports ≡ Some q
    → ((d.first ≡ d.second) ⊎ ((is_general p.role ≡ false) ⊎ ((is_general q.role ≡ false) ⊎ DifferInSize (size_of p.size) (size_of q.size))) → ⊥) → ArePaired ports d
paired_by ports d p q first second like =
    let a = found_at d.first ports p first in
    let b = found_at d.second ports q second in
    record {
      j = a.0;
      one = p;
      here = a.1;
      first = first;
      k = b.0;
      other = q;
      there = b.1;
      second = second;
      differ = λ same.
          let one_port : p ≡ q = one_some (slice_get ports b.0) p q (subst (λ (n : ℕ). slice_get ports n ≡ Some p) same a.1) b.1 in
          like (inl (sym a.2 ∙ ap (λ (x : WrittenPort). x.name) one_port ∙ b.2));
      one_general = true_from_ne_false (is_general p.role) (λ e. like (inr (inl e)));
      other_general = true_from_ne_false (is_general q.role) (λ e. like (inr (inr (inl e))));
      sizes = λ m n x y. equal m n (λ no. like (inr (inr (inr (m, n, x, y, no)))));
    }

-- ---- interfaces and components

module _ (fs : List WrittenInterface) (cs : List WrittenComponent) (good : IsUnbroken (ComponentsBroken fs cs)) where
  good_interface : (v : ℕ) (f : WrittenInterface) → slice_get fs v ≡ Some f → IsUnbroken (RepeatsBroken fs f.members)
  good_interface v f at r b = good r (inr (inl (v, f, at, b)))

  good_component : (k : ℕ) (c : WrittenComponent) → slice_get cs k ≡ Some c → IsUnbroken (RepeatsBroken fs c.members)
  good_component k c at r b = good r (inr (inr (k, c, at, inl (inl b))))

  -- ---- cycles

  no_cycle : (v : ℕ) → IsCyclic fs v → ⊥
  no_cycle v c = go c
    where
      back : (b : ℕ) (i : Imports fs b v) → Reaches fs v b → ⊥
      back b i r =
          good (broken_at InterfaceCycle i.import_.at)
          (inl
          (record {
            importer = b;
            written = i.written;
            here = i.here;
            k = i.k;
            import_ = i.import_;
            member = i.member;
            back = subst (λ (x : ℕ). Reaches fs x b) (sym i.of) r;
            is = refl;
          }))

      go : LeadsThrough (Imports fs) v v → ⊥
      go (one i) = back v i (inl refl)
      go (more {between = b} p i) = back b i (inr p)

  never_leads : {m : WrittenMember} → LeadsToCycle fs m → ⊥
  never_leads (at_once {i = i} c) = no_cycle i.interface c
  never_leads (through k here there l) = never_leads l

  -- ---- ports that are given twice

  names_once : (ms : List WrittenMember) → IsUnbroken (RepeatsBroken fs ms) → IsGivenOnce HaveOneName fs ms
  names_once ms unbroken k m at g =
      let p = giver_there fs m g.later g.gives in
      unbroken (broken_at PortNameRepeated p.0) (k, m, at, inl (placed PortNameRepeated (GivesAgain fs HaveOneName ms k m) (giver_at m) p.0 p.1 g))

  kinds_once : (ms : List WrittenMember) → IsUnbroken (RepeatsBroken fs ms) → IsGivenOnce AreOfOneKind fs ms
  kinds_once ms unbroken k m at g =
      let p = giver_there fs m g.later g.gives in
      unbroken (broken_at SpecialPort p.0) (k, m, at, inr (placed SpecialPort (GivesAgain fs AreOfOneKind ms k m) (giver_at m) p.0 p.1 g))

  named_by : (ms : List WrittenMember) → IsUnbroken (RepeatsBroken fs ms) → IsNamedOnce fs ms
  named_by ms unbroken j k m e p q low d at gives later same =
      names_once ms unbroken k e at
      (record { earlier = p; given = record { j = j; before = low; member = m; here = d; gives = gives }; later = q; gives = later; clash = same })

  named_once : AreNamedOnce fs cs
  named_once = record {
    in_interfaces = λ v f at. named_by f.members (good_interface v f at);
    in_components = λ k c at. named_by c.members (good_component k c at);
  }

  -- ---- a component

  module _ (at : ℕ) (c : WrittenComponent) (here : slice_get cs at ≡ Some c) where
    -- no two special ports of the whole list are of one kind
    kinds_apart : (ports : List WrittenPort) → GiveAll fs c.members ports → AreOfManyKinds ports
    kinds_apart ports given j k p q d e same = go (order j k)
      where
        none : (j k : ℕ) (p q : WrittenPort) → j < k → slice_get ports j ≡ Some p → slice_get ports k ≡ Some q → AreOfOneKind p q → ⊥
        none = none_clash AreOfOneKind fs (λ v f is. kinds_once f.members (good_interface v f is)) given (kinds_once c.members (good_component at c here))

        go : (j ≡ k) ⊎ ((j < k) ⊎ (k < j)) → j ≡ k
        go (inl is) = is
        go (inr (inl low)) = absurd (none j k p q low d e same)
        go (inr (inr low)) = absurd (none k j q p low e d (same.0, same.2, same.1))

    -- nothing waits in a passive component
    nothing_waits : c.queueing ≡ Passive → (k : ℕ) (m : WrittenMember) → slice_get c.members k ≡ Some m → Waits fs m → ⊥
    nothing_waits passive k m is waits =
        let p = bringer_there fs m waits in
        let r = broken_at PassiveWithQueueUse p.0 in
        good r
        (inr
        (inr (
          at,
          c,
          here,
          inl
              (inr
              (subst (λ (q : Queueing). QueueBroken fs q c.at c.members r) (sym passive)
              (k, m, is, placed PassiveWithQueueUse (Waits fs m) (bringer_at m) p.0 p.1 waits))),
        )))

    -- ---- matches

    good_match : (k : ℕ) (d : WrittenMatch) → slice_get c.members k ≡ Some (Match d) → IsBadMatch fs c.members d → ⊥
    good_match k d is bad = good (broken_at BadMatch d.at) (inr (inr (at, c, here, inr (inr (k, Match d, is, (refl, bad))))))

    no_leads : LeadsAmong fs c.members → ⊥
    no_leads l = never_leads l.leads

    paired : (ports : List WrittenPort) → GiveAll fs c.members ports → (k : ℕ) (d : WrittenMatch) → slice_get c.members k ≡ Some (Match d) → ArePaired ports d
    paired ports given k d is = go (find (is_named d.first) ports) (find (is_named d.second) ports) refl refl
      where
        none_named : (name : List ℕ) → find (is_named name) ports ≡ None → NamesNone fs c.members name
        none_named name none p n =
            let same : n.all ≡ ports = one_list fs refl n.given given in
            let e : find (is_named name) ports ≡ Some p = subst (λ (ps : List WrittenPort). find (is_named name) ps ≡ Some p) same n.first in
            absurd (cc)

        named : (name : List ℕ) (p : WrittenPort) → find (is_named name) ports ≡ Some p → Names fs c.members name p
        named name p e = record { all = ports; given = given; first = e }

        go : (x y : Option WrittenPort) → find (is_named d.first) ports ≡ x → find (is_named d.second) ports ≡ y → ArePaired ports d
        go None y first second = absurd (good_match k d is (inl (inl (none_named d.first first), no_leads)))
        go (Some p) None first second = absurd (good_match k d is (inl (inr (none_named d.second second), no_leads)))
        go (Some p) (Some q) first second =
            paired_by ports d p q first second
            (λ u. good_match k d is (inr (record { one = p; first = named d.first p first; other = q; second = named d.second q second; unlike = u })))

  consistent : (at : ℕ) (c : WrittenComponent) → slice_get cs at ≡ Some c → IsConsistent fs c
  consistent at c here = record { kinds = kinds_apart at c here; waits = nothing_waits at c here; pairs = paired at c here }

  pub all_consistent : AreConsistent fs cs
  all_consistent = record { named = named_once; acyclic = no_cycle; each = consistent }
