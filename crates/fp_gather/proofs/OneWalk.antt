-- Files that tell what they hold, and of which no read fails, are read in one way.
use Rattle.std.proofs.Common.{◌≡◌, ℕ, zero, suc, List, [], ◌∷◌, Option, Some, None, inl, inr, sym, ap, subst, ◌∙◌}
use Rattle.std.specs.Prelude.{◌⊎◌}
use Rattle.fp_lexer.specs.declared.token.Token.{Token}
use Rattle.fp_base.specs.declared.place.Place.{Place}
use Rattle.fp_base.specs.declared.refusal.Refusal.{Refusal}
use Rattle.fp_base.specs.declared.rule.Rule.{Rule}
use Rattle.fp_outside.specs.Files.{bytes_of as held_bytes}
use Rattle.fp_outside.specs.declared.files.HeldFile.{HeldFile}
use Rattle.fp_parse_parts.specs.Units.{SpellsInside, BreaksInside}
use Rattle.fp_parse_parts.specs.declared.parsing.Inside.{Inside}
use Rattle.fp_parse_parts.specs.declared.parsing.Inside.TheVariants as inside
use Rattle.fp_parse_parts.specs.declared.parsing.Members.{Members}
use Rattle.fp_parse_parts.specs.declared.parsing.Members.TheVariants as given
use Rattle.fp_tree.specs.declared.member.Member.{Member}
use Rattle.fp_gather.specs.declared.gathering.including.Inclusion.{Inclusion}
use Rattle.fp_gather.proofs.Absent.{gone_not_stopped}
use Rattle.fp_gather.proofs.FoundInFiles.{same_tokens}
use Rattle.fp_gather.specs.gathering.Includes.{included_name, inclusions_in, members_of, replaced}
use Rattle.fp_gather.specs.gathering.Reading.{Reading, BreaksTokenRule, BreaksGrammar, Gives, HasTokens}
use Rattle.fp_gather.specs.gathering.Walks.{Walked, Walk, Outcome, Went, Stops, Stopped, NoFile, ReadFault, WalksEach, NoReadFault, Reads, WalksFile, WalksInclude, WalksNamed, WalksFiles, most_levels, next_reading, with_reading}

-- a walk has one outcome
abbrev One : {A : Type 0} → Walk A → Type 0
One {A = A} P = (b : Walked) (o p : Outcome A) → P b o → P b p → NoReadFault o → NoReadFault p → o ≡ p

abbrev walked_of : {A : Type 0} → Walked → Outcome A → Walked
walked_of other (Went w x) = w
walked_of other (Stops s) = other

abbrev given_of : {A : Type 0} → A → Outcome A → A
given_of other (Went w x) = x
given_of other (Stops s) = other

abbrev stopped_of : {A : Type 0} → Stopped → Outcome A → Stopped
stopped_of other (Went w x) = other
stopped_of other (Stops s) = s

pub same_walked : {A : Type 0} {w v : Walked} {x y : A} → Went w x ≡ Went v y → w ≡ v
same_walked {w = w} e = ap (walked_of w) e

pub same_given : {A : Type 0} {w v : Walked} {x y : A} → Went w x ≡ Went v y → x ≡ y
same_given {x = x} e = ap (given_of x) e

same_stopped : {A : Type 0} {s t : Stopped} → ◌≡◌ {A = Outcome A} (Stops s) (Stops t) → s ≡ t
same_stopped {s = s} e = ap (stopped_of s) e

same_went : {A : Type 0} {w v : Walked} {x y : A} → w ≡ v → x ≡ y → Went w x ≡ Went v y
same_went {w = w} {v = v} {x = x} {y = y} d e = ap (λ (u : Walked). Went u x) d ∙ ap (λ u. Went v u) e

-- ---- lists

one_each : {X A : Type 0} (P : X → Walk A) → ((x : X) → One (P x)) → (xs : List X) → One (WalksEach P xs)
one_each P one [] b (Went w x) (Went v y) h k f g = same_went (h.0 ∙ sym k.0) (h.1 ∙ sym k.1)
one_each P one [] b (Went w x) (Stops t) h k f g = absurd k
one_each P one [] b (Stops s) p h k f g = absurd h
one_each {A = A} P one (z ∷ zs) b (Went w xs) (Went v ys) (m, x, us, h, hs, d) (n, y, vs, k, ks, e) f g =
    let first = one z b (Went m x) (Went n y) h k tt tt in
    let rest = one_each P one zs n (Went w us) (Went v vs) (subst (λ (u : Walked). WalksEach P zs u (Went w us)) (same_walked first) hs) ks tt tt in
    same_went (same_walked rest) (d ∙ ap (λ (u : A). u ∷ us) (same_given first) ∙ ap (λ (us' : List A). y ∷ us') (same_given rest) ∙ sym e)
one_each P one (z ∷ zs) b (Went w xs) (Stops t) (m, x, us, h, hs, d) (inl k) f g = absurd (gone_not_stopped m x t (one z b (Went m x) (Stops t) h k tt g))
one_each P one (z ∷ zs) b (Went w xs) (Stops t) (m, x, us, h, hs, d) (inr (n, y, k, ks)) f g =
    let first = one z b (Went m x) (Went n y) h k tt tt in
    absurd (gone_not_stopped w us t (one_each P one zs n (Went w us) (Stops t) (subst (λ (u : Walked). WalksEach P zs u (Went w us)) (same_walked first) hs) ks tt g))
one_each P one (z ∷ zs) b (Stops s) (Went v ys) (inl h) (n, y, vs, k, ks, e) f g = absurd (gone_not_stopped n y s (one z b (Went n y) (Stops s) k h tt f))
one_each P one (z ∷ zs) b (Stops s) (Went v ys) (inr (m, x, h, hs)) (n, y, vs, k, ks, e) f g =
    let first = one z b (Went n y) (Went m x) k h tt tt in
    absurd (gone_not_stopped v vs s (one_each P one zs m (Went v vs) (Stops s) (subst (λ (u : Walked). WalksEach P zs u (Went v vs)) (same_walked first) ks) hs tt f))
one_each P one (z ∷ zs) b (Stops s) (Stops t) (inl h) (inl k) f g = ap Stops (same_stopped (one z b (Stops s) (Stops t) h k f g))
one_each P one (z ∷ zs) b (Stops s) (Stops t) (inl h) (inr (n, y, k, ks)) f g = absurd (gone_not_stopped n y s (one z b (Went n y) (Stops s) k h tt f))
one_each P one (z ∷ zs) b (Stops s) (Stops t) (inr (m, x, h, hs)) (inl k) f g = absurd (gone_not_stopped m x t (one z b (Went m x) (Stops t) h k tt g))
one_each P one (z ∷ zs) b (Stops s) (Stops t) (inr (m, x, h, hs)) (inr (n, y, k, ks)) f g =
    let first = one z b (Went m x) (Went n y) h k tt tt in
    ap Stops (same_stopped (one_each P one zs n (Stops s) (Stops t) (subst (λ (u : Walked). WalksEach P zs u (Stops s)) (same_walked first) hs) ks f g))

-- ---- one file

same_text : (o : Option (List ℕ)) (text other : List ℕ) → o ≡ Some text → o ≡ Some other → text ≡ other
same_text None text other d e = cc
same_text (Some x) text other d e = cc

no_text : (o : Option (List ℕ)) (text : List ℕ) → o ≡ Some text → o ≡ None → ⊥
no_text None text d e = cc
no_text (Some x) text d e = cc

-- tokens spell one list of members of what they stand in, and none where they break its grammar
module _ (one_spelled : (tokens : List Token) (i : Inside) (xs ys : Members) → SpellsInside tokens i xs → SpellsInside tokens i ys → xs ≡ ys)
    (never : (tokens : List Token) (i : Inside) (rule : Rule) (place : Place) (xs : Members) → BreaksInside tokens i rule place → SpellsInside tokens i xs → ⊥) where
  not_broken : (r : Reading) (tokens : List Token) (x : Members) (f : Refusal) → HasTokens r tokens → SpellsInside tokens r.inside x → BreaksTokenRule r f ⊎ BreaksGrammar r f → ⊥
  not_broken r tokens x f has spelled (inl b) = has.unbroken f b
  not_broken r tokens x f has spelled (inr (ts, h, o, b)) =
      never tokens r.inside f.rule f.place x (subst (λ (us : List Token). BreaksInside us r.inside f.rule f.place) (same_tokens r ts tokens h has) b) spelled

  one_gift : (r : Reading) (x y : Members) → Gives r x → Gives r y → x ≡ y
  one_gift r x y (inl (ts, h, s)) (inl (us, k, t)) =
      one_spelled us r.inside x y (subst (λ (vs : List Token). SpellsInside vs r.inside x) (same_tokens r ts us h k) s) t
  one_gift r x y (inl (ts, h, s)) (inr (b, e)) = absurd (not_broken r ts x b.0 h s b.1)
  one_gift r x y (inr (b, e)) (inl (ts, h, s)) = absurd (not_broken r ts y b.0 h s b.1)
  one_gift r x y (inr (b, d)) (inr (c, e)) = d ∙ sym e

  one_read : (held : List HeldFile) (round : List (List ℕ)) (within : Inside) (name : List ℕ) → One (Reads (Some held) round within name)
  one_read held round within name b (Went w x) (Went v y) (text, h, e, s) (other, k, d, t) f g =
      let same = same_text (held_bytes held name) text other h k in
      same_went (e ∙ ap (λ (u : List ℕ). with_reading b (next_reading b round within name u)) same ∙ sym d)
      (one_gift (next_reading b round within name other) x y (subst (λ (u : List ℕ). Gives (next_reading b round within name u) x) same s) t)
  one_read held round within name b (Went w x) (Stops (NoFile n)) (text, h, e, s) (d, k) f g = absurd (no_text (held_bytes held name) text h k)
  one_read held round within name b (Went w x) (Stops (ReadFault n)) h k f g = absurd g
  one_read held round within name b (Stops (NoFile m)) (Went v y) (d, k) (text, h, e, s) f g = absurd (no_text (held_bytes held name) text h k)
  one_read held round within name b (Stops (NoFile m)) (Stops (NoFile n)) h k f g = ap (λ (u : List ℕ). Stops (NoFile u)) (h.0 ∙ sym k.0)
  one_read held round within name b (Stops (NoFile m)) (Stops (ReadFault n)) h k f g = absurd g
  one_read held round within name b (Stops (ReadFault m)) p h k f g = absurd f

  -- ---- a file with its includes

  module _ (held : List HeldFile) (inclusion : List (List ℕ) → Inclusion → Walk Members) (one : (round : List (List ℕ)) (i : Inclusion) → One (inclusion round i)) where
    abbrev Inner : List (List ℕ) → List ℕ → Members → Walk (List Members)
    Inner round name own = WalksEach (inclusion (name ∷ round)) (inclusions_in own)

    one_inner : (round : List (List ℕ)) (name : List ℕ) (own : Members) → One (Inner round name own)
    one_inner round name own = one_each (inclusion (name ∷ round)) (one (name ∷ round)) (inclusions_in own)

    -- the walk behind one read of the file, seen behind another
    moved : (round : List (List ℕ)) (within : Inside) (name : List ℕ) (b m n : Walked) (x y : Members) (o : Outcome (List Members))
        → Reads (Some held) round within name b (Went m x) → Reads (Some held) round within name b (Went n y) → Inner round name x m o → Inner round name y n o
    moved round within name b m n x y o h k i =
        let same = one_read held round within name b (Went m x) (Went n y) h k tt tt in
        subst (λ (u : Members). Inner round name u n o) (same_given same) (subst (λ (u : Walked). Inner round name x u o) (same_walked same) i)

    one_file : (round : List (List ℕ)) (within : Inside) (name : List ℕ) → One (WalksFile (Some held) inclusion round within name)
    one_file round within name b (Went w x) (Went v y) (m, own, ps, h, hs, d) (n, our, qs, k, ks, e) f g =
        let rest = one_inner round name our n (Went w ps) (Went v qs) (moved round within name b m n own our (Went w ps) h k hs) ks tt tt in
        let same = one_read held round within name b (Went m own) (Went n our) h k tt tt in
        same_went (same_walked rest) (d ∙ ap (λ (u : Members). replaced u ps) (same_given same) ∙ ap (replaced our) (same_given rest) ∙ sym e)
    one_file round within name b (Went w x) (Stops t) (m, own, ps, h, hs, d) (inl k) f g =
        absurd (gone_not_stopped m own t (one_read held round within name b (Went m own) (Stops t) h k tt g))
    one_file round within name b (Went w x) (Stops t) (m, own, ps, h, hs, d) (inr (n, our, k, ks)) f g =
        absurd (gone_not_stopped w ps t (one_inner round name our n (Went w ps) (Stops t) (moved round within name b m n own our (Went w ps) h k hs) ks tt g))
    one_file round within name b (Stops s) (Went v y) (inl h) (n, our, qs, k, ks, e) f g =
        absurd (gone_not_stopped n our s (one_read held round within name b (Went n our) (Stops s) k h tt f))
    one_file round within name b (Stops s) (Went v y) (inr (m, own, h, hs)) (n, our, qs, k, ks, e) f g =
        absurd (gone_not_stopped v qs s (one_inner round name own m (Went v qs) (Stops s) (moved round within name b n m our own (Went v qs) k h ks) hs tt f))
    one_file round within name b (Stops s) (Stops t) (inl h) (inl k) f g = ap Stops (same_stopped (one_read held round within name b (Stops s) (Stops t) h k f g))
    one_file round within name b (Stops s) (Stops t) (inl h) (inr (n, our, k, ks)) f g =
        absurd (gone_not_stopped n our s (one_read held round within name b (Went n our) (Stops s) k h tt f))
    one_file round within name b (Stops s) (Stops t) (inr (m, own, h, hs)) (inl k) f g =
        absurd (gone_not_stopped m own t (one_read held round within name b (Went m own) (Stops t) h k tt g))
    one_file round within name b (Stops s) (Stops t) (inr (m, own, h, hs)) (inr (n, our, k, ks)) f g =
        ap Stops (same_stopped (one_inner round name our n (Stops s) (Stops t) (moved round within name b m n own our (Stops s) h k hs) ks f g))

  one_include : (held : List HeldFile) (levels : ℕ) (round : List (List ℕ)) (i : Inclusion) → One (WalksInclude (Some held) levels round i)
  one_include held zero round i b o p h k f g = h ∙ sym k
  one_include held (suc levels) round i b o p (inl h) (inl k) f g = h.1 ∙ sym k.1
  one_include held (suc levels) round i b o p (inl h) (inr k) f g = absurd (k.0 h.0)
  one_include held (suc levels) round i b o p (inr h) (inl k) f g = absurd (h.0 k.0)
  one_include held (suc levels) round i b o p (inr h) (inr k) f g =
      one_file held (WalksInclude (Some held) levels) (one_include held levels) round i.inside (included_name round i.include) b o p h.1 k.1 f g

  -- a file that a name asks for
  abbrev Named : List HeldFile → List ℕ → Walk Members
  Named held name = WalksFile (Some held) (WalksInclude (Some held) most_levels) [] inside.Unit name

  one_asked : (held : List HeldFile) (name : List ℕ) → One (Named held name)
  one_asked held name = one_file held (WalksInclude (Some held) most_levels) (one_include held most_levels) [] inside.Unit name

  one_named : (held : List HeldFile) (name : List ℕ) → One (WalksNamed (Some held) name)
  one_named held name b (Went w xs) (Went v ys) h k f g =
      let same = one_asked held name b (Went w (given.Unit xs)) (Went v (given.Unit ys)) h k tt tt in
      same_went (same_walked same) (ap members_of (same_given same))
  one_named held name b (Went w xs) (Stops t) h k f g =
      absurd (gone_not_stopped w (given.Unit xs) t (one_asked held name b (Went w (given.Unit xs)) (Stops t) h k tt g))
  one_named held name b (Stops s) (Went v ys) h k f g =
      absurd (gone_not_stopped v (given.Unit ys) s (one_asked held name b (Went v (given.Unit ys)) (Stops s) k h tt f))
  one_named held name b (Stops s) (Stops t) h k f g =
      ap Stops (same_stopped (one_asked held name b (Stops s) (Stops t) h k f g))

  pub one_walk : (told : Option (List HeldFile)) (held : List HeldFile) (names : List (List ℕ)) (b : Walked) (o p : Outcome (List (List Member)))
      → told ≡ Some held → WalksFiles told names b o → WalksFiles told names b p → NoReadFault o → NoReadFault p → o ≡ p
  one_walk told held names b o p e h k f g =
      one_each (WalksNamed (Some held)) (one_named held) names b o p
      (subst (λ (t : Option (List HeldFile)). WalksFiles t names b o) e h) (subst (λ (t : Option (List HeldFile)). WalksFiles t names b p) e k) f g
