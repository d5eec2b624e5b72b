-- The first keys that an object has, key by key.
use Rattle.std.proofs.lemmas.List.{take_more, drop_more, take-append-drop}
use Rattle.std.proofs.Common.{◌≡◌, ◌+◌, ◌<◌, length, get_or, take, drop, true≢false, ℕ, List, [], ◌∷◌, ◌++◌, Bool, true, false, Option, Some, None, is_some, if◌then◌else◌, refl, sym, ap, ◌∙◌, append-nil, ⊎_elim, ◌⊎◌, inl, inr}
use Rattle.std.proofs.lemmas.Option.{none-some}
use Rattle.serde_json.specs.Data.{Data}
use Rattle.serde_json.specs.Find.{get}
use Rattle.fp_scenario.specs.Keys.{key_text, kept, only, first_keys, first_of}
use Rattle.fp_scenario.specs.declared.first_key.FirstKey.{FirstKey}

abbrev pub one : Option FirstKey → List FirstKey
one (Some key) = key ∷ []
one None = []

pub only-one : (found : Option FirstKey) → only (one found) ≡ found
only-one (Some key) = refl
only-one None = refl

with_key-append : (b : Bool) (key : FirstKey) (xs ys zs : List FirstKey) → zs ≡ xs ++ ys → (if b then key ∷ zs else zs) ≡ (if b then key ∷ xs else xs) ++ ys
with_key-append true key xs ys zs is = ap (λ ks. key ∷ ks) is
with_key-append false key xs ys zs is = is

pub kept-append : (xs ys : List FirstKey) (d : Data) → kept (xs ++ ys) d ≡ kept xs d ++ kept ys d
kept-append [] ys d = refl
kept-append (x ∷ xs) ys d = with_key-append (is_some (get (key_text x) d)) x (kept xs d) (kept ys d) (kept (xs ++ ys) d) (kept-append xs ys d)

-- one key more
pub kept_had : (xs : List FirstKey) (key : FirstKey) (d : Data) → true ≡ is_some (get (key_text key) d) → kept xs d ≡ [] → kept (xs ++ key ∷ []) d ≡ key ∷ []
kept_had xs key d had none = kept-append xs (key ∷ []) d ∙ rw (none, sym had) refl

pub kept_not : (xs : List FirstKey) (key : FirstKey) (d : Data) → false ≡ is_some (get (key_text key) d) → kept (xs ++ key ∷ []) d ≡ kept xs d
kept_not xs key d had = kept-append xs (key ∷ []) d ∙ rw (sym had) (append-nil (kept xs d))

-- a second key
pub only_two : (xs : List FirstKey) (first key : FirstKey) (rest : List FirstKey) (d : Data) → true ≡ is_some (get (key_text key) d) → kept xs d ≡ first ∷ [] → only (kept (xs ++ key ∷ rest) d) ≡ None
only_two xs first key rest d had one_there = ap only (kept-append xs (key ∷ rest) d) ∙ rw (one_there, sym had) refl

-- at a place of a list of keys
pub second_at : (keys : List FirstKey) (i : ℕ) (k : FirstKey) (d : Data) (found : Option FirstKey) → i < length keys → true ≡ is_some (get (key_text (get_or keys i k)) d) → true ≡ is_some found → kept (take i keys) d ≡ one found → None ≡ only (kept keys d)
second_at keys i k d (Some first) within had some before =
    let split : keys ≡ take i keys ++ get_or keys i k ∷ drop (i + 1) keys = sym (take-append-drop i keys) ∙ ap (λ rest. take i keys ++ rest) (drop_more keys i k within) in
    sym (ap (λ ks. only (kept ks d)) split ∙ only_two (take i keys) first (get_or keys i k) (drop (i + 1) keys) d had before)
second_at keys i k d None within had some before = absurd (true≢false some)

pub had_at : (keys : List FirstKey) (i : ℕ) (k : FirstKey) (d : Data) (found : Option FirstKey) → i < length keys → true ≡ is_some (get (key_text (get_or keys i k)) d) → false ≡ is_some found → kept (take i keys) d ≡ one found → kept (take (i + 1) keys) d ≡ get_or keys i k ∷ []
had_at keys i k d None within had none before = ap (λ ks. kept ks d) (take_more keys i k within) ∙ kept_had (take i keys) (get_or keys i k) d had before
had_at keys i k d (Some first) within had none before = absurd (true≢false (sym none))

pub not_at : (keys : List FirstKey) (i : ℕ) (k : FirstKey) (d : Data) (found : Option FirstKey) → i < length keys → false ≡ is_some (get (key_text (get_or keys i k)) d) → kept (take i keys) d ≡ one found → kept (take (i + 1) keys) d ≡ one found
not_at keys i k d found within had before = ap (λ ks. kept ks d) (take_more keys i k within) ∙ kept_not (take i keys) (get_or keys i k) d had ∙ before

-- a key that is kept is there
kept_step : (b : Bool) (x k : FirstKey) (ys rest : List FirstKey) → (if b then x ∷ ys else ys) ≡ k ∷ rest → ((x ≡ k) × (b ≡ true)) ⊎ (ys ≡ k ∷ rest)
kept_step true x k ys rest is = inl (cc, refl)
kept_step false x k ys rest is = inr is

nothing_kept : {k : FirstKey} {rest : List FirstKey} → [] ≡ k ∷ rest → ⊥
nothing_kept is = cc

pub kept_has : (keys : List FirstKey) (k : FirstKey) (rest : List FirstKey) (d : Data) → kept keys d ≡ k ∷ rest → is_some (get (key_text k) d) ≡ true
kept_has [] k rest d is = absurd (nothing_kept is)
kept_has (x ∷ keys) k rest d is =
    ⊎_elim (λ (here : (x ≡ k) × (is_some (get (key_text x) d) ≡ true)). ap (λ j. is_some (get (key_text j) d)) (sym here.0) ∙ here.1) (λ (later : kept keys d ≡ k ∷ rest). kept_has keys k rest d later) (kept_step (is_some (get (key_text x) d)) x k (kept keys d) rest is)

only_one : (keys : List FirstKey) (k : FirstKey) → only keys ≡ Some k → keys ≡ k ∷ []
only_one [] k is = absurd (none-some _ is)
only_one (x ∷ []) k is = cc
only_one (x ∷ y ∷ keys) k is = absurd (none-some _ is)

-- the only first key is there
pub first_there : (d : Data) (k : FirstKey) → first_of d ≡ Some k → is_some (get (key_text k) d) ≡ true
first_there d k is = kept_has first_keys k [] d (only_one (kept first_keys d) k is)
