-- The steps of walks over files.
use Rattle.std.proofs.Common.{◌≡◌, ℕ, zero, suc, ◌+◌, ◌-◌, ◌<◌, ◌≤◌, List, [], ◌∷◌, ◌++◌, map, take, drop, length, get_or, Option, Some, None, refl, inl, inr, sym, ap, subst, ◌∙◌, arith}
use Rattle.std.specs.Prelude.{Result, Ok, Err, IsErrAnd, IfSome}
use Rattle.std.proofs.lemmas.List.{take_all, take-append-drop, append_assoc, map-append}
use Rattle.fp_outside.specs.Counts.{Rose}
use Rattle.fp_outside.specs.Files.{bytes_of as held_bytes, CountsFault, CountsMiss}
use Rattle.fp_outside.specs.declared.files.ReadRefusal.{ReadRefusal}
use Rattle.fp_outside.specs.declared.files.ReadRefusal.TheVariants.{Failed}
use Rattle.fp_outside.specs.declared.files.HeldFile.{HeldFile}
use Rattle.fp_base.proofs.Options.{same_some}
use Rattle.fp_base.proofs.Lists.{taken_next, take_none}
use Rattle.fp_base.specs.declared.rule.Rule.TheVariants.{BadInclude}
use Rattle.fp_parse_parts.specs.declared.parsing.Inside.{Inside}
use Rattle.fp_parse_parts.specs.declared.parsing.Inside.TheVariants as inside
use Rattle.fp_parse_parts.specs.declared.parsing.Members.{Members}
use Rattle.fp_parse_parts.specs.declared.parsing.Members.TheVariants as given
use Rattle.fp_lexer.specs.declared.token.Token.{Token}
use Rattle.fp_parse_parts.specs.Units.{SpellsInside}
use Rattle.fp_tree.specs.declared.member.Member.{Member}
use Rattle.fp_base.specs.Least.{broken_at}
use Rattle.fp_gather.specs.FilesRun.{FilesRun, files_run, IsHeld, NoFault, NoMiss}
use Rattle.fp_gather.specs.gathering.Answers.{Comes, Knows}
use Rattle.fp_gather.specs.declared.gathering.including.Inclusion.{Inclusion}
use Rattle.fp_gather.specs.gathering.Includes.{included_name, inclusions_in, members_of, replaced}
use Rattle.fp_gather.specs.gathering.Reading.{Reading, Gives, nothing_in}
use Rattle.fp_gather.specs.gathering.Walks.{Walked, Walk, Outcome, Went, Stops, Stopped, NoFile, ReadFault, WalksEach, IsBad, IsRefused, Reads, WalksFile, WalksFiles, WalksInclude, WalksNamed, most_levels, next_reading, with_reading, with_refused}
use Rattle.fp_gather.specs.declared.gathering.Halt.{Halt}
use Rattle.fp_gather.specs.declared.gathering.Halt.TheVariants as halt
use Rattle.fp_gather.specs.declared.gathering.progress.Progress.{Progress}

abbrev Told : Type 0
Told = Option (List HeldFile)

-- ---- lists of walks

pub each_more : {X A : Type 0} (P : X → Walk A) (xs : List X) (x : X) (a b c : Walked) (ys : List A) (y : A)
    → WalksEach P xs a (Went b ys) → P x b (Went c y) → WalksEach P (xs ++ x ∷ []) a (Went c (ys ++ y ∷ []))
each_more {A = A} P [] x a b c ys y h k =
    let here : P x a (Went c y) = subst (λ (w : Walked). P x w (Went c y)) h.0 k in
    (c, y, [], here, (refl, refl), ap (λ (l : List A). l ++ y ∷ []) h.1)
each_more {A = A} P (z ∷ xs) x a b c ys y (between, first, others, p, rest, e) k =
    (between, first, others ++ y ∷ [], p, each_more P xs x between b c others y rest k, ap (λ (l : List A). l ++ y ∷ []) e)

pub each_stops : {X A : Type 0} (P : X → Walk A) (xs : List X) (x : X) (more : List X) (a b : Walked) (ys : List A) (s : Stopped)
    → WalksEach P xs a (Went b ys) → P x b (Stops s) → WalksEach P (xs ++ x ∷ more) a (Stops s)
each_stops P [] x more a b ys s h k = inl (subst (λ (w : Walked). P x w (Stops s)) h.0 k)
each_stops P (z ∷ xs) x more a b ys s (between, first, others, p, rest, e) k = inr (between, first, p, each_stops P xs x more between b others s rest k)

pub split_there : {X : Type 0} (xs : List X) (i : ℕ) (x : X) → i < length xs → x ≡ get_or xs i x → xs ≡ take i xs ++ x ∷ drop (i + 1) xs
split_there {X = X} xs i x lt is =
    sym (take-append-drop (i + 1) xs) ∙ ap (λ (l : List X). l ++ drop (i + 1) xs) (taken_next xs i x lt is) ∙ append_assoc (take i xs) (x ∷ []) (drop (i + 1) xs)

pub mapped_next : {S X : Type 0} (f : S → X) (xs : List S) (i : ℕ) (x : S) → i < length xs → x ≡ get_or xs i x → map f (take (i + 1) xs) ≡ map f (take i xs) ++ f x ∷ []
mapped_next f xs i x lt is = ap (map f) (taken_next xs i x lt is) ∙ map-append f (take i xs) (x ∷ [])

pub mapped_split : {S X : Type 0} (f : S → X) (xs : List S) (i : ℕ) (x : S) → i < length xs → x ≡ get_or xs i x → map f xs ≡ map f (take i xs) ++ f x ∷ map f (drop (i + 1) xs)
mapped_split f xs i x lt is = ap (map f) (split_there xs i x lt is) ∙ map-append f (take i xs) (x ∷ drop (i + 1) xs)

-- ---- includes

pub include_at_end : (told : Told) (levels : ℕ) (round : List (List ℕ)) (i : Inclusion) (before : Walked) (o : Outcome Members)
    → levels ≡ 0 → IsRefused i before o → WalksInclude told levels round i before o
include_at_end told zero round i before o e h = h
include_at_end told (suc levels) round i before o e h = absurd (omega (arith, e))

pub include_bad : (told : Told) (levels : ℕ) (round : List (List ℕ)) (i : Inclusion) (name : List ℕ) (before : Walked) (o : Outcome Members)
    → name ≡ included_name round i.include → IsBad before round name → IsRefused i before o → WalksInclude told levels round i before o
include_bad told zero round i name before o e bad h = h
include_bad told (suc levels) round i name before o e bad h = inl (subst (λ (n : List ℕ). IsBad before round n) e bad, h)

-- an include that breaks its rule, with what is kept then
pub refused_comes : (files : FilesRun) (P : Told → Walk Members) (i : Inclusion) (before : Walked) (q : Progress) (gives : Members) → NoFault files → NoMiss files → gives ≡ nothing_in i.inside
    → Knows q (with_refused before (broken_at BadInclude i.include.at.first)) → ((o : Outcome Members) → IsRefused i before o → P files.told before o) → Comes files P before q (Ok gives)
refused_comes files P i before q gives sound found e known to =
    (sound, found, (with_refused before (broken_at BadInclude i.include.at.first), to _ (ap (λ (x : Members). Went (with_refused before (broken_at BadInclude i.include.at.first)) x) e), known))

pub include_read : (told : Told) (levels : ℕ) (round : List (List ℕ)) (i : Inclusion) (name : List ℕ) (before : Walked) (o : Outcome Members)
    → (levels ≡ 0 → ⊥) → name ≡ included_name round i.include → (IsBad before round name → ⊥)
    → WalksFile told (WalksInclude told (levels - 1)) round i.inside name before o → WalksInclude told levels round i before o
include_read told zero round i name before o some e good h = absurd (some refl)
include_read told (suc levels) round i name before o some e good h =
    let less : suc levels - 1 ≡ levels = omega arith in
    inr (
      subst (λ (n : List ℕ). IsBad before round n → ⊥) e good,
      subst (λ (n : List ℕ). WalksFile told (WalksInclude told levels) round i.inside n before o) e
          (subst (λ (n : ℕ). WalksFile told (WalksInclude told n) round i.inside name before o) less h),
    )

-- ---- files that names ask for

-- what tokens spell that stand in a file are members, and so is what a file of members gives
spelled_unit : (tokens : List Token) (x : Members) → SpellsInside tokens inside.Unit x → x ≡ given.Unit (members_of x)
spelled_unit tokens (given.Unit ms) s = refl
spelled_unit tokens (given.Component ps) s = absurd s
spelled_unit tokens (given.Topology ms) s = absurd s

gift_unit : (r : Reading) (x : Members) → r.inside ≡ inside.Unit → Gives r x → x ≡ given.Unit (members_of x)
gift_unit r x e (inl (tokens, has, s)) = spelled_unit tokens x (subst (λ (i : Inside). SpellsInside tokens i x) e s)
gift_unit r x e (inr (broken, is)) =
    let none : x ≡ given.Unit [] = is ∙ ap nothing_in e in
    none ∙ sym (ap (λ (y : Members). given.Unit (members_of y)) none)

replaced_unit : (own whole : Members) (inserts : List Members) → own ≡ given.Unit (members_of own) → whole ≡ replaced own inserts → whole ≡ given.Unit (members_of whole)
replaced_unit (given.Unit ms) whole inserts e is = is ∙ sym (ap (λ (y : Members). given.Unit (members_of y)) is)
replaced_unit (given.Component ps) whole inserts e is = cc
replaced_unit (given.Topology ms) whole inserts e is = cc

named_gives : (told : Told) (inclusion : List (List ℕ) → Inclusion → Walk Members) (name : List ℕ) (before after : Walked) (whole : Members)
    → WalksFile told inclusion [] inside.Unit name before (Went after whole) → whole ≡ given.Unit (members_of whole)
named_gives told inclusion name before after whole (read, own, inserts, (text, held, e, g), hs, is) =
    replaced_unit own whole inserts (gift_unit (next_reading before [] inside.Unit name text) own refl g) is

-- the same file by another copy of its name
pub asked_as : (told : Told) (round : List (List ℕ)) (name asked : List ℕ) (before : Walked) (o : Outcome Members) → round ≡ [] → name ≡ asked
    → WalksFile told (WalksInclude told most_levels) round inside.Unit name before o → WalksFile told (WalksInclude told most_levels) [] inside.Unit asked before o
asked_as told round name asked before o er en h =
    subst (λ (n : List ℕ). WalksFile told (WalksInclude told most_levels) [] inside.Unit n before o) en
    (subst (λ (r : List (List ℕ)). WalksFile told (WalksInclude told most_levels) r inside.Unit name before o) er h)

pub named_comes : (files : FilesRun) (name : List ℕ) (before : Walked) (progress : Progress) (whole : Members) (out : List Member) → out ≡ members_of whole
    → Comes files (λ t. WalksFile t (WalksInclude t most_levels) [] inside.Unit name) before progress (Ok whole) → Comes files (λ t. WalksNamed t name) before progress (Ok out)
named_comes files name before progress whole out e c =
    let is : whole ≡ given.Unit out = named_gives files.told (WalksInclude files.told most_levels) name before c.2.0 whole c.2.1 ∙ ap given.Unit (sym e) in
    (c.0, c.1, (c.2.0, subst (λ (x : Members). WalksFile files.told (WalksInclude files.told most_levels) [] inside.Unit name before (Went c.2.0 x)) is c.2.1, c.2.2))

-- ---- what walks come to

pub comes_as : {A : Type 0} (files : FilesRun) (P Q : Told → Walk A) (before : Walked) (progress : Progress) (r : Result A Halt)
    → ((o : Outcome A) → P files.told before o → Q files.told before o) → Comes files P before progress r → Comes files Q before progress r
comes_as files P Q before progress (Ok x) to c = (c.0, c.1, (c.2.0, to _ c.2.1, c.2.2))
comes_as files P Q before progress (Err (halt.Broken refusal file)) to c = c
comes_as files P Q before progress (Err (halt.NoFile name)) to c = (c.0, c.1, to _ c.2)
comes_as files P Q before progress (Err (halt.ReadFault name)) to c = (c.0, c.1, to _ c.2)
comes_as files P Q before progress (Err halt.NoMemory) to c = tt

-- ---- one read

held_so : (told : Told) (name : List ℕ) (o : Option (List ℕ)) → IfSome told (λ held. o ≡ held_bytes held name) → IsHeld told name o
held_so None name o h = h
held_so (Some held) name o h = sym h

-- what was read is there
pub reads_some : (files : FilesRun) (round : List (List ℕ)) (within : Inside) (name asked slice text : List ℕ) (o : Option (List ℕ)) (gives : Members) (before : Walked) (q : Progress)
    → o ≡ Some text → slice ≡ text → asked ≡ name → NoFault files → CountsMiss (Ok o) files.misses_before files.misses_after → IfSome files.told (λ held. o ≡ held_bytes held asked)
    → Gives (next_reading before round within name slice) gives × Knows q (with_reading before (next_reading before round within name slice))
    → Comes files (λ t. Reads t round within name) before q (Ok gives)
reads_some files round within name asked slice text None gives before q e es ea sound misses held t = cc
reads_some files round within name asked slice text (Some x) gives before q e es ea sound misses held t =
    (sound, misses, (with_reading before (next_reading before round within name slice), (slice, held_so files.told name (Some slice) there, refl, t.0), t.1))
  where
    there : IfSome files.told (λ h. Some slice ≡ held_bytes h name)
    there =
        subst (λ (s : List ℕ). IfSome files.told (λ h. Some s ≡ held_bytes h name)) (same_some e ∙ sym es)
        (subst (λ (a : List ℕ). IfSome files.told (λ h. Some x ≡ held_bytes h a)) ea held)

-- there is no such file
pub reads_none : (files : FilesRun) (round : List (List ℕ)) (within : Inside) (name asked copied : List ℕ) (o : Option (List ℕ)) (before : Walked) (q : Progress)
    → o ≡ None → asked ≡ name → copied ≡ name → NoFault files → CountsMiss (Ok o) files.misses_before files.misses_after → IfSome files.told (λ held. o ≡ held_bytes held asked)
    → Comes files (λ t. Reads t round within name) before q (Err (halt.NoFile copied))
reads_none files round within name asked copied None before q e ea ec sound missed held =
    (sound, missed, (ec, held_so files.told name None (subst (λ (a : List ℕ). IfSome files.told (λ h. None ≡ held_bytes h a)) ea held)))
reads_none files round within name asked copied (Some x) before q e ea ec sound missed held = cc

-- the read failed
pub reads_failed : (files : FilesRun) (round : List (List ℕ)) (within : Inside) (name copied : List ℕ) (e : ReadRefusal) (before : Walked) (q : Progress)
    → e ≡ Failed → copied ≡ name → CountsFault (Err e) files.faults_before files.faults_after → CountsMiss (Err e) files.misses_before files.misses_after
    → Comes files (λ t. Reads t round within name) before q (Err (halt.ReadFault copied))
reads_failed files round within name copied e before q is ec fault found =
    (subst (λ (x : ReadRefusal). CountsFault (Err x) files.faults_before files.faults_after) is fault, found, ec)

-- the way out of a `?`
pub handed_on : {A : Type 0} (files : FilesRun) (P : Told → Walk A) (before : Walked) (progress : Progress) (r : Result A Halt) (h : Halt)
    → IsErrAnd r (λ y. y ≡ h) → Comes files P before progress (Err h) → Comes files P before progress r
handed_on files P before progress (Ok x) h e c = absurd e
handed_on files P before progress (Err y) h e c = subst (λ (z : Halt). Comes files P before progress (Err z)) (sym e) c

pub memory_refused : {A : Type 0} (files : FilesRun) (P : Told → Walk A) (before : Walked) (progress : Progress) (r : Result A Halt)
    → IsErrAnd r (λ y. y ≡ halt.NoMemory) → Comes files P before progress r
memory_refused files P before progress r e = handed_on files P before progress r halt.NoMemory e tt

module _ {F : Type 0} (told : F → Told) (faults misses : F → ℕ) where
  abbrev run : F → F → FilesRun
  run old new = files_run told faults misses old new

  -- it stops where its first part stops
  pub stops_first : {A B : Type 0} (old new : F) (P : Told → Walk A) (Q : Told → Walk B) (before : Walked) (p q : Progress) (h : Halt)
      → ((s : Stopped) → P (told old) before (Stops s) → Q (told old) before (Stops s))
      → Comes (run old new) P before p (Err h) → Comes (run old new) Q before q (Err h)
  stops_first old new P Q before p q (halt.Broken refusal file) to c = c
  stops_first old new P Q before p q (halt.NoFile name) to c = (c.0, c.1, to (NoFile name) c.2)
  stops_first old new P Q before p q (halt.ReadFault name) to c = (c.0, c.1, to (ReadFault name) c.2)
  stops_first old new P Q before p q halt.NoMemory to c = tt

  -- it stops where a part stops behind what went through
  pub stops_later : {A B : Type 0} (old mid new : F) (P : Told → Walk A) (Q : Told → Walk B) (before between : Walked) (p q : Progress) (h : Halt)
      → told mid ≡ told old → NoFault (run old mid) → NoMiss (run old mid)
      → ((s : Stopped) → P (told old) between (Stops s) → Q (told old) before (Stops s))
      → Comes (run mid new) P between p (Err h) → Comes (run old new) Q before q (Err h)
  stops_later old mid new P Q before between p q (halt.Broken refusal file) e sound found to c = c
  stops_later old mid new P Q before between p q (halt.NoFile name) e sound found to c =
      (c.0 ∙ sound, subst (λ (n : ℕ). Rose n (misses new)) found c.1, to (NoFile name) (subst (λ (t : Told). P t between (Stops (NoFile name))) e c.2))
  stops_later old mid new P Q before between p q (halt.ReadFault name) e sound found to c =
      (subst (λ (n : ℕ). Rose n (faults new)) sound c.0, c.1 ∙ found, to (ReadFault name) (subst (λ (t : Told). P t between (Stops (ReadFault name))) e c.2))
  stops_later old mid new P Q before between p q halt.NoMemory e sound found to c = tt

  -- it goes through where a part does behind what went through
  pub goes_later : {A B : Type 0} (old mid new : F) (P : Told → Walk A) (Q : Told → Walk B) (before between : Walked) (q : Progress) (x : A) (y : B)
      → told mid ≡ told old → NoFault (run old mid) → NoMiss (run old mid)
      → ((after : Walked) → P (told old) between (Went after x) → Q (told old) before (Went after y))
      → Comes (run mid new) P between q (Ok x) → Comes (run old new) Q before q (Ok y)
  goes_later old mid new P Q before between q x y e sound found to c =
      (c.0 ∙ sound, c.1 ∙ found, (c.2.0, to c.2.0 (subst (λ (t : Told). P t between (Went c.2.0 x)) e c.2.1), c.2.2))

  -- one more of several
  pub each_goes_on : {X A : Type 0} (old mid new : F) (P : Told → X → Walk A) (xs more : List X) (x : X) (before : Walked) (p q : Progress) (ys zs : List A) (y : A)
      → more ≡ xs ++ x ∷ [] → zs ≡ ys ++ y ∷ [] → told mid ≡ told old → Comes (run old mid) (λ t. WalksEach (P t) xs) before p (Ok ys)
      → ((b : Walked) → Knows p b → Comes (run mid new) (λ t. P t x) b q (Ok y))
      → Comes (run old new) (λ t. WalksEach (P t) more) before q (Ok zs)
  each_goes_on {X = X} {A = A} old mid new P xs more x before p q ys zs y em ez e c next =
      goes_later old mid new (λ t. P t x) (λ t. WalksEach (P t) more) before c.2.0 q y zs e c.0 c.1
      (λ after h. subst (λ (l : List X). WalksEach (P (told old)) l before (Went after zs)) (sym em)
      (subst (λ (l : List A). WalksEach (P (told old)) (xs ++ x ∷ []) before (Went after l)) (sym ez) (each_more (P (told old)) xs x before c.2.0 after ys y c.2.1 h)))
      (next c.2.0 c.2.2)

  pub each_stops_on : {X A : Type 0} (old mid new : F) (P : Told → X → Walk A) (xs all : List X) (x : X) (rest : List X) (before : Walked) (p q r : Progress) (ys : List A) (h : Halt)
      → all ≡ xs ++ x ∷ rest → told mid ≡ told old → Comes (run old mid) (λ t. WalksEach (P t) xs) before p (Ok ys)
      → ((b : Walked) → Knows p b → Comes (run mid new) (λ t. P t x) b q (Err h))
      → Comes (run old new) (λ t. WalksEach (P t) all) before r (Err h)
  each_stops_on {X = X} old mid new P xs all x rest before p q r ys h ea e c next =
      stops_later old mid new (λ t. P t x) (λ t. WalksEach (P t) all) before c.2.0 q r h e c.0 c.1
      (λ s k. subst (λ (l : List X). WalksEach (P (told old)) l before (Stops s)) (sym ea) (each_stops (P (told old)) xs x rest before c.2.0 ys s c.2.1 k))
      (next c.2.0 c.2.2)

  pub each_begins : {X A : Type 0} (old : F) (P : Told → X → Walk A) (xs : List X) (before : Walked) (p : Progress) (ys : List A) → ys ≡ [] → Knows p before
      → Comes (run old old) (λ t. WalksEach (P t) (take 0 xs)) before p (Ok ys)
  each_begins {X = X} old P xs before p ys e known =
      (refl, refl, (before, subst (λ (l : List X). WalksEach (P (told old)) l before (Went before ys)) (sym (take_none xs)) (refl, e), known))

  pub each_ends : {X A : Type 0} (old new : F) (P : Told → X → Walk A) (xs : List X) (i : ℕ) (before : Walked) (p : Progress) (ys : List A) → length xs ≤ i
      → Comes (run old new) (λ t. WalksEach (P t) (take i xs)) before p (Ok ys) → Comes (run old new) (λ t. WalksEach (P t) xs) before p (Ok ys)
  each_ends {X = X} old new P xs i before p ys le c =
      (c.0, c.1, (c.2.0, subst (λ (l : List X). WalksEach (P (told old)) l before (Went c.2.0 ys)) (take_all i xs le) c.2.1, c.2.2))

  pub files_begin : {S : Type 0} (old : F) (name : S → List ℕ) (names : List S) (before : Walked) (p : Progress) (ys : List (List Member)) → ys ≡ [] → Knows p before
      → Comes (run old old) (λ t. WalksFiles t (map name (take 0 names))) before p (Ok ys)
  files_begin {S = S} old name names before p ys e known =
      (refl, refl, (before, subst (λ (l : List S). WalksFiles (told old) (map name l) before (Went before ys)) (sym (take_none names)) (refl, e), known))

  pub files_end : {S : Type 0} (old new : F) (name : S → List ℕ) (names : List S) (i : ℕ) (before : Walked) (p : Progress) (ys : List (List Member)) → length names ≤ i
      → Comes (run old new) (λ t. WalksFiles t (map name (take i names))) before p (Ok ys) → Comes (run old new) (λ t. WalksFiles t (map name names)) before p (Ok ys)
  files_end {S = S} old new name names i before p ys le c =
      (c.0, c.1, (c.2.0, subst (λ (l : List S). WalksFiles (told old) (map name l) before (Went c.2.0 ys)) (take_all i names le) c.2.1, c.2.2))

  -- a file, behind its own read
  pub file_stops_later : (old mid new : F) (inclusion : Told → List (List ℕ) → Inclusion → Walk Members) (round inner : List (List ℕ)) (within : Inside) (name : List ℕ)
      (own : Members) (includes : List Inclusion) (before : Walked) (p q r : Progress) (h : Halt)
      → inner ≡ name ∷ round → includes ≡ inclusions_in own → told mid ≡ told old
      → Comes (run old mid) (λ t. Reads t round within name) before p (Ok own)
      → ((b : Walked) → Knows p b → Comes (run mid new) (λ t. WalksEach (inclusion t inner) includes) b q (Err h))
      → Comes (run old new) (λ t. WalksFile t (inclusion t) round within name) before r (Err h)
  file_stops_later old mid new inclusion round inner within name own includes before p q r h ei el e c next =
      stops_later old mid new (λ t. WalksEach (inclusion t inner) includes) (λ t. WalksFile t (inclusion t) round within name) before c.2.0 q r h e c.0 c.1
      (λ s k. inr (
        c.2.0,
        own,
        c.2.1,
        subst (λ (w : List (List ℕ)). WalksEach (inclusion (told old) w) (inclusions_in own) c.2.0 (Stops s)) ei
            (subst (λ (l : List Inclusion). WalksEach (inclusion (told old) inner) l c.2.0 (Stops s)) el k),
      ))
      (next c.2.0 c.2.2)

  pub file_goes : (old mid new : F) (inclusion : Told → List (List ℕ) → Inclusion → Walk Members) (round inner : List (List ℕ)) (within : Inside) (name : List ℕ)
      (own : Members) (includes : List Inclusion) (inserts : List Members) (out : Members) (before : Walked) (p q : Progress)
      → inner ≡ name ∷ round → includes ≡ inclusions_in own → out ≡ replaced own inserts → told mid ≡ told old
      → Comes (run old mid) (λ t. Reads t round within name) before p (Ok own)
      → ((b : Walked) → Knows p b → Comes (run mid new) (λ t. WalksEach (inclusion t inner) includes) b q (Ok inserts))
      → Comes (run old new) (λ t. WalksFile t (inclusion t) round within name) before q (Ok out)
  file_goes old mid new inclusion round inner within name own includes inserts out before p q ei el eo e c next =
      goes_later old mid new (λ t. WalksEach (inclusion t inner) includes) (λ t. WalksFile t (inclusion t) round within name) before c.2.0 q inserts out e c.0 c.1
      (λ after k. (
        c.2.0,
        own,
        inserts,
        c.2.1,
        subst (λ (w : List (List ℕ)). WalksEach (inclusion (told old) w) (inclusions_in own) c.2.0 (Went after inserts)) ei
            (subst (λ (l : List Inclusion). WalksEach (inclusion (told old) inner) l c.2.0 (Went after inserts)) el k),
        eo,
      ))
      (next c.2.0 c.2.2)
