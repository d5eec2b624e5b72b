-- What is made of lists, an item at a time.
use Rattle.std.proofs.Common.{◌≡◌, ℕ, zero, suc, ◌+◌, ◌<◌, ◌≤◌, List, [], ◌∷◌, ◌++◌, length, take, get_or, slice_get, Some, refl, sym, ap, ◌∙◌, subst}
use Rattle.std.proofs.lemmas.List.{take_all}
use Rattle.std.proofs.lemmas.Option.{slice_get_read}
use Rattle.fp_base.specs.declared.value.Value.{Value}
use Rattle.fp_base.specs.declared.value.MemberValue.{MemberValue}
use Rattle.fp_base.proofs.Options.{same_some}
use Rattle.fp_base.proofs.Lists.{taken_next}
use Rattle.fp_tables.specs.declared.kind.Kind.{Kind}
use Rattle.fp_tables.specs.declared.kind.Field.{Field}
use Rattle.fp_type_sizes.specs.declared.written.WrittenType.{WrittenType}
use Rattle.fp_types.specs.Converting.{Opened, opened, of_kind, member, member_named, Becomes, EachBecomes, none, more, MembersBecome, no_part, part, BecomesInEach, no_member, in_member}

abbrev pub made_part : List ℕ → Value → MemberValue
made_part n v = record { name = n; value = v }

module _ (types : List WrittenType) where
  -- ---- items

  each_add : (k : Kind) (v w : Value) {vs ws : List Value} → EachBecomes types k vs ws → Becomes types (opened v) (of_kind k) w
      → EachBecomes types k (vs ++ v ∷ []) (ws ++ w ∷ [])
  each_add k v w none g = more g none
  each_add k v w (more h hs) g = more h (each_add k v w hs g)

  pub each_first : (k : Kind) (made : List Value) → made ≡ [] → EachBecomes types k [] made
  each_first k made is = subst (λ (ws : List Value). EachBecomes types k [] ws) (sym is) none

  pub each_next : (k : Kind) (items : List Value) (i : ℕ) (item value : Value) (made more_made : List Value) → i < length items → item ≡ get_or items i item
      → EachBecomes types k (take i items) made → Becomes types (opened item) (of_kind k) value → more_made ≡ made ++ value ∷ []
      → EachBecomes types k (take (i + 1) items) more_made
  each_next k items i item v made more_made lt is h g e =
      subst (λ (vs : List Value). EachBecomes types k vs more_made) (sym (taken_next items i item lt is))
      (subst (λ (ws : List Value). EachBecomes types k (take i items ++ item ∷ []) ws) (sym e) (each_add k item v h g))

  pub each_last : (k : Kind) (items : List Value) (i : ℕ) (made : List Value) → length items ≤ i → EachBecomes types k (take i items) made → EachBecomes types k items made
  each_last k items i made all h = subst (λ (vs : List Value). EachBecomes types k vs made) (take_all i items all) h

  each_at : (k : Kind) {vs ws : List Value} (i : ℕ) (v : Value) → EachBecomes types k vs ws → slice_get vs i ≡ Some v → (w : Value) × Becomes types (opened v) (of_kind k) w
  each_at k i v none e = absurd (cc)
  each_at k zero v (more {w = w} h hs) e = (w, subst (λ (x : Value). Becomes types (opened x) (of_kind k) w) (same_some e) h)
  each_at k (suc i) v (more h hs) e = each_at k i v hs e

  pub each_none : (r : Type 0) (k : Kind) (items : List Value) (i : ℕ) (item : Value) → i < length items → item ≡ get_or items i item
      → (r → (w : Value) → Becomes types (opened item) (of_kind k) w → ⊥) → r → (ws : List Value) → EachBecomes types k items ws → ⊥
  each_none r k items i item lt is never reached ws h =
      let p = each_at k i item h (slice_get_read items (length items) i item refl lt is) in never reached p.0 p.1

  -- ---- members that are named

  members_add : (fields : List Field) (p : MemberValue) (f : Field) (w : Value) {ps given : List MemberValue} → MembersBecome types fields ps given → member_named fields p.name ≡ Some f
      → Becomes types (opened p.value) (member f) w → MembersBecome types fields (ps ++ p ∷ []) (given ++ made_part p.name w ∷ [])
  members_add fields p f w no_part e g = part e g no_part
  members_add fields p f w (part d h hs) e g = part d h (members_add fields p f w hs e g)

  pub members_first : (fields : List Field) (given : List MemberValue) → given ≡ [] → MembersBecome types fields [] given
  members_first fields given is = subst (λ (ps : List MemberValue). MembersBecome types fields [] ps) (sym is) no_part

  pub members_next : (fields : List Field) (parts : List MemberValue) (i : ℕ) (p : MemberValue) (name : List ℕ) (value : Value) (given more_given : List MemberValue) → i < length parts → p ≡ get_or parts i p
      → MembersBecome types fields (take i parts) given → name ≡ p.name → (f : Field) × (member_named fields p.name ≡ Some f) × Becomes types (opened p.value) (member f) value
      → more_given ≡ given ++ made_part name value ∷ []
      → MembersBecome types fields (take (i + 1) parts) more_given
  members_next fields parts i p name v given more_given lt is h named g e =
      subst (λ (ps : List MemberValue). MembersBecome types fields ps more_given) (sym (taken_next parts i p lt is))
      (subst (λ (qs : List MemberValue). MembersBecome types fields (take i parts ++ p ∷ []) qs) (sym (e ∙ ap (λ (n : List ℕ). given ++ made_part n v ∷ []) named)) (members_add fields p g.0 v h g.1 g.2))

  pub members_last : (fields : List Field) (parts : List MemberValue) (i : ℕ) (given : List MemberValue) → length parts ≤ i → MembersBecome types fields (take i parts) given → MembersBecome types fields parts given
  members_last fields parts i given all h = subst (λ (ps : List MemberValue). MembersBecome types fields ps given) (take_all i parts all) h

  members_at : (fields : List Field) {ps given : List MemberValue} (i : ℕ) (p : MemberValue) → MembersBecome types fields ps given → slice_get ps i ≡ Some p
      → (f : Field) × (w : Value) × (member_named fields p.name ≡ Some f) × Becomes types (opened p.value) (member f) w
  members_at fields i p no_part e = absurd (cc)
  members_at fields zero p (part {f = f} {w = w} d h hs) e =
      (f, w, subst (λ (x : MemberValue). member_named fields x.name ≡ Some f) (same_some e) d, subst (λ (x : MemberValue). Becomes types (opened x.value) (member f) w) (same_some e) h)
  members_at fields (suc i) p (part d h hs) e = members_at fields i p hs e

  pub members_none : (r : Type 0) (fields : List Field) (parts : List MemberValue) (i : ℕ) (p : MemberValue) → i < length parts → p ≡ get_or parts i p
      → (r → (f : Field) (w : Value) → member_named fields p.name ≡ Some f → Becomes types (opened p.value) (member f) w → ⊥)
      → r → (given : List MemberValue) → MembersBecome types fields parts given → ⊥
  members_none r fields parts i p lt is never reached given h =
      let q = members_at fields i p h (slice_get_read parts (length parts) i p refl lt is) in never reached q.0 q.1 q.2 q.3

  -- ---- all members

  in_each_add : (o : Opened) (f : Field) (w : Value) {fs : List Field} {made : List MemberValue} → BecomesInEach types o fs made → Becomes types o (member f) w
      → BecomesInEach types o (fs ++ f ∷ []) (made ++ made_part f.name w ∷ [])
  in_each_add o f w no_member g = in_member g no_member
  in_each_add o f w (in_member h hs) g = in_member h (in_each_add o f w hs g)

  pub in_each_first : (o : Opened) (made : List MemberValue) → made ≡ [] → BecomesInEach types o [] made
  in_each_first o made is = subst (λ (ps : List MemberValue). BecomesInEach types o [] ps) (sym is) no_member

  pub in_each_next : (o : Opened) (fields : List Field) (i : ℕ) (f : Field) (name : List ℕ) (value : Value) (made more_made : List MemberValue) → i < length fields → f ≡ get_or fields i f
      → BecomesInEach types o (take i fields) made → name ≡ f.name → Becomes types o (member f) value → more_made ≡ made ++ made_part name value ∷ []
      → BecomesInEach types o (take (i + 1) fields) more_made
  in_each_next o fields i f name v made more_made lt is h named g e =
      subst (λ (fs : List Field). BecomesInEach types o fs more_made) (sym (taken_next fields i f lt is))
      (subst (λ (qs : List MemberValue). BecomesInEach types o (take i fields ++ f ∷ []) qs) (sym (e ∙ ap (λ (n : List ℕ). made ++ made_part n v ∷ []) named)) (in_each_add o f v h g))

  pub in_each_last : (o : Opened) (fields : List Field) (i : ℕ) (made : List MemberValue) → length fields ≤ i → BecomesInEach types o (take i fields) made → BecomesInEach types o fields made
  in_each_last o fields i made all h = subst (λ (fs : List Field). BecomesInEach types o fs made) (take_all i fields all) h

  in_each_at : (o : Opened) {fs : List Field} {made : List MemberValue} (i : ℕ) (f : Field) → BecomesInEach types o fs made → slice_get fs i ≡ Some f → (w : Value) × Becomes types o (member f) w
  in_each_at o i f no_member e = absurd (cc)
  in_each_at o zero f (in_member {w = w} h hs) e = (w, subst (λ (x : Field). Becomes types o (member x) w) (same_some e) h)
  in_each_at o (suc i) f (in_member h hs) e = in_each_at o i f hs e

  pub in_each_none : (r : Type 0) (o : Opened) (fields : List Field) (i : ℕ) (f : Field) → i < length fields → f ≡ get_or fields i f
      → (r → (w : Value) → Becomes types o (member f) w → ⊥) → r → (made : List MemberValue) → BecomesInEach types o fields made → ⊥
  in_each_none r o fields i f lt is never reached made h =
      let p = in_each_at o i f h (slice_get_read fields (length fields) i f refl lt is) in never reached p.0 p.1
