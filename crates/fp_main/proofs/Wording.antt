-- Words that have a form, and words that have none.
use Rattle.std.proofs.Common.{◌≡◌, ◌<◌, ◌≤◌, ◌+◌, ◌==◌, ℕ, List, [], ◌∷◌, ◌++◌, length, codes, decimal, Bool, true, false, refl, map, ◌∙◌, inl, inr, lit<, arith, sym, subst, eq-eqb, eqb→eq, T, Result}
use Rattle.std.proofs.lemmas.Fmt.{decimal_injective}
use Rattle.std.specs.Str.{bytes_eq}
use Rattle.std.proofs.lemmas.Slice.Eq.{bytes_eq-Decides}
use Rattle.fp_base.proofs.Lists.{head_same}
use Rattle.fp_main.specs.Words.{AsksFor, BeginsForm, IsCheck, IsForm, IsMake, IsRun, IsWrong, Names, NamesTopology, ReadsWords, most_instances, word_of}
use Rattle.fp_main.specs.declared.words.Command.{Command}
use Rattle.fp_main.specs.declared.words.TopologyText.{TopologyText}
use Rattle.fp_main.specs.declared.words.TopologyText.TheVariants.{Connections, Dictionary}

-- ---- lists of words

apart : (a b : List ℕ) → bytes_eq a b ≡ false → a ≡ b → ⊥
apart a b other e = let same : bytes_eq a b ≡ true = (bytes_eq-Decides a b).1 e in cc

check_is_no_text : (text : TopologyText) → codes "check" ≡ word_of text → ⊥
check_is_no_text Connections e = apart (codes "check") (codes "ports") refl e
check_is_no_text Dictionary e = apart (codes "check") (codes "dict") refl e

run_is_no_text : (text : TopologyText) → codes "run" ≡ word_of text → ⊥
run_is_no_text Connections e = apart (codes "run") (codes "ports") refl e
run_is_no_text Dictionary e = apart (codes "run") (codes "dict") refl e

run_is_no_check : codes "run" ≡ codes "check" → ⊥
run_is_no_check e = apart (codes "run") (codes "check") refl e

make_is_no_text : (text : TopologyText) → codes "make" ≡ word_of text → ⊥
make_is_no_text Connections e = apart (codes "make") (codes "ports") refl e
make_is_no_text Dictionary e = apart (codes "make") (codes "dict") refl e

make_is_no_check : codes "make" ≡ codes "check" → ⊥
make_is_no_check e = apart (codes "make") (codes "check") refl e

make_is_no_run : codes "make" ≡ codes "run" → ⊥
make_is_no_run e = apart (codes "make") (codes "run") refl e

pub check_names_nothing : (words names files : List (List ℕ)) (topology : List ℕ) → IsCheck words names → NamesTopology words topology files → ⊥
check_names_nothing words names files topology check (inl (text, named)) =
    check_is_no_text text (head_same (codes "check") (word_of text) names (topology ∷ files) (sym check.words_are ∙ named.words_are))
check_names_nothing words names files topology check (inr (scenario, run)) =
    run_is_no_check (head_same (codes "run") (codes "check") (topology ∷ scenario ∷ files) names (sym run.words_are ∙ check.words_are))

pub text_is_no_run : (words names files : List (List ℕ)) (text : TopologyText) (named topology scenario : List ℕ) → Names text words named names → IsRun words topology scenario files → ⊥
text_is_no_run words names files text named topology scenario asked run =
    run_is_no_text text (head_same (codes "run") (word_of text) (topology ∷ scenario ∷ files) (named ∷ names) (sym run.words_are ∙ asked.words_are))

pub same_run : (words a b : List (List ℕ)) (t u s r : List ℕ) → IsRun words t s a → IsRun words u r b → (t ≡ u) × (s ≡ r) × (a ≡ b)
same_run words a b t u s r x y = (second (sym x.words_are ∙ y.words_are), third (sym x.words_are ∙ y.words_are), rest (sym x.words_are ∙ y.words_are))
  where
    second : codes "run" ∷ t ∷ s ∷ a ≡ codes "run" ∷ u ∷ r ∷ b → t ≡ u
    second h = cc

    third : codes "run" ∷ t ∷ s ∷ a ≡ codes "run" ∷ u ∷ r ∷ b → s ≡ r
    third h = cc

    rest : codes "run" ∷ t ∷ s ∷ a ≡ codes "run" ∷ u ∷ r ∷ b → a ≡ b
    rest h = cc

-- words that ask for the load ask for no files
pub make_asks_nothing : (words files : List (List ℕ)) (instances : ℕ) → IsMake words instances → AsksFor words files → ⊥
make_asks_nothing words files instances make (inl check) =
    make_is_no_check (head_same (codes "make") (codes "check") (decimal instances ∷ []) files (sym make.words_are ∙ check.words_are))
make_asks_nothing words files instances make (inr (topology, inl (text, named))) =
    make_is_no_text text (head_same (codes "make") (word_of text) (decimal instances ∷ []) (topology ∷ files) (sym make.words_are ∙ named.words_are))
make_asks_nothing words files instances make (inr (topology, inr (scenario, run))) =
    make_is_no_run (head_same (codes "make") (codes "run") (decimal instances ∷ []) (topology ∷ scenario ∷ files) (sym make.words_are ∙ run.words_are))

-- and for one number of instances
pub same_make : (words : List (List ℕ)) (n m : ℕ) → IsMake words n → IsMake words m → n ≡ m
same_make words n m a b = decimal_injective n m (omega (arith, a.few)) (omega (arith, b.few)) (second (sym a.words_are ∙ b.words_are))
  where
    second : codes "make" ∷ decimal n ∷ [] ≡ codes "make" ∷ decimal m ∷ [] → decimal n ≡ decimal m
    second h = cc

-- so many words with none behind them
none_behind : (word other : List ℕ) (files : List (List ℕ)) → word ∷ [] ≡ other ∷ files → 0 < length files → ⊥
none_behind word other [] e some = omega (arith, some)
none_behind word other (file ∷ files) e some = cc

one_behind : (word second other topology : List ℕ) (files : List (List ℕ)) → word ∷ second ∷ [] ≡ other ∷ topology ∷ files → 0 < length files → ⊥
one_behind word second other topology [] e some = omega (arith, some)
one_behind word second other topology (file ∷ files) e some = cc

two_behind : (word second third other topology scenario : List ℕ) (files : List (List ℕ)) → word ∷ second ∷ third ∷ [] ≡ other ∷ topology ∷ scenario ∷ files → 0 < length files → ⊥
two_behind word second third other topology scenario [] e some = omega (arith, some)
two_behind word second third other topology scenario (file ∷ files) e some = cc

none_alone : (word : List ℕ) (words : List (List ℕ)) → [] ≡ word ∷ words → ⊥
none_alone word words e = cc

one_alone : (word other second : List ℕ) (words : List (List ℕ)) → word ∷ [] ≡ other ∷ second ∷ words → ⊥
one_alone word other second words e = cc

two_alone : (word second other topology scenario : List ℕ) (words : List (List ℕ)) → word ∷ second ∷ [] ≡ other ∷ topology ∷ scenario ∷ words → ⊥
two_alone word second other topology scenario words e = cc

-- ---- what begins forms

check_a : IsCheck (codes "check" ∷ codes "a" ∷ []) (codes "a" ∷ [])
check_a = record { words_are = refl; some = lit< tt }

names_a : (text : TopologyText) (topology : List ℕ) → Names text (word_of text ∷ topology ∷ codes "a" ∷ []) topology (codes "a" ∷ [])
names_a text topology = record { words_are = refl; some = lit< tt }

run_a : (topology scenario : List ℕ) → IsRun (codes "run" ∷ topology ∷ scenario ∷ codes "a" ∷ []) topology scenario (codes "a" ∷ [])
run_a topology scenario = record { words_are = refl; some = lit< tt }

make_one : IsMake (codes "make" ∷ decimal 1 ∷ []) 1
make_one = record { words_are = refl; some = lit< tt; few = omega arith }

none_begins : BeginsForm []
none_begins = (codes "check" ∷ codes "a" ∷ [], inl (codes "a" ∷ [], inl check_a))

check_begins : BeginsForm (codes "check" ∷ [])
check_begins = (codes "a" ∷ [], inl (codes "a" ∷ [], inl check_a))

text_begins : (text : TopologyText) → BeginsForm (word_of text ∷ [])
text_begins text = (codes "T" ∷ codes "a" ∷ [], inl (codes "a" ∷ [], inr (codes "T", inl (text, names_a text (codes "T")))))

topology_begins : (text : TopologyText) (topology : List ℕ) → BeginsForm (word_of text ∷ topology ∷ [])
topology_begins text topology = (codes "a" ∷ [], inl (codes "a" ∷ [], inr (topology, inl (text, names_a text topology))))

run_begins : BeginsForm (codes "run" ∷ [])
run_begins = (codes "T" ∷ codes "s" ∷ codes "a" ∷ [], inl (codes "a" ∷ [], inr (codes "T", inr (codes "s", run_a (codes "T") (codes "s")))))

run_over_begins : (topology : List ℕ) → BeginsForm (codes "run" ∷ topology ∷ [])
run_over_begins topology = (codes "s" ∷ codes "a" ∷ [], inl (codes "a" ∷ [], inr (topology, inr (codes "s", run_a topology (codes "s")))))

scenario_begins : (topology scenario : List ℕ) → BeginsForm (codes "run" ∷ topology ∷ scenario ∷ [])
scenario_begins topology scenario = (codes "a" ∷ [], inl (codes "a" ∷ [], inr (topology, inr (scenario, run_a topology scenario))))

make_begins : BeginsForm (codes "make" ∷ [])
make_begins = (decimal 1 ∷ [], inr (1, make_one))

count_begins : (count : List ℕ) (instances : ℕ) → 0 < instances → instances ≤ most_instances → count ≡ decimal instances → BeginsForm (codes "make" ∷ count ∷ [])
count_begins count instances some few is =
    ([], inr (instances, record { words_are = subst (λ (w : List ℕ). codes "make" ∷ w ∷ [] ≡ codes "make" ∷ decimal instances ∷ []) (sym is) refl; some = some; few = few }))

-- ---- what is no form

-- no form has these words
module _ (words : List (List ℕ)) (check : (files : List (List ℕ)) → IsCheck words files → ⊥)
    (text : (wanted : TopologyText) (topology : List ℕ) (files : List (List ℕ)) → Names wanted words topology files → ⊥)
    (run : (topology scenario : List ℕ) (files : List (List ℕ)) → IsRun words topology scenario files → ⊥)
    (make : (instances : ℕ) → IsMake words instances → ⊥) where
  no_asks : (files : List (List ℕ)) → AsksFor words files → ⊥
  no_asks files (inl asked) = check files asked
  no_asks files (inr (topology, inl (wanted, named))) = text wanted topology files named
  no_asks files (inr (topology, inr (scenario, asked))) = run topology scenario files asked

  no_form : IsForm words → ⊥
  no_form (inl (files, asked)) = no_asks files asked
  no_form (inr (instances, asked)) = make instances asked

none_is_none : IsForm [] → ⊥
none_is_none =
    no_form [] (λ files c. none_alone (codes "check") files c.words_are) (λ text topology files n. none_alone (word_of text) (topology ∷ files) n.words_are)
    (λ topology scenario files r. none_alone (codes "run") (topology ∷ scenario ∷ files) r.words_are)
    (λ instances m. none_alone (codes "make") (decimal instances ∷ []) m.words_are)

one_is_none : (word : List ℕ) → IsForm (word ∷ []) → ⊥
one_is_none word =
    no_form (word ∷ []) (λ files c. none_behind word (codes "check") files c.words_are c.some)
    (λ text topology files n. one_alone word (word_of text) topology files n.words_are)
    (λ topology scenario files r. one_alone word (codes "run") topology (scenario ∷ files) r.words_are)
    (λ instances m. one_alone word (codes "make") (decimal instances) [] m.words_are)

topology_is_none : (text : TopologyText) (topology : List ℕ) → IsForm (word_of text ∷ topology ∷ []) → ⊥
topology_is_none text topology =
    no_form (word_of text ∷ topology ∷ [])
    (λ files c. check_is_no_text text (sym (head_same (word_of text) (codes "check") (topology ∷ []) files c.words_are)))
    (λ other name files n. one_behind (word_of text) topology (word_of other) name files n.words_are n.some)
    (λ name scenario files r. two_alone (word_of text) topology (codes "run") name scenario files r.words_are)
    (λ instances m. make_is_no_text text (sym (head_same (word_of text) (codes "make") (topology ∷ []) (decimal instances ∷ []) m.words_are)))

run_over_is_none : (topology : List ℕ) → IsForm (codes "run" ∷ topology ∷ []) → ⊥
run_over_is_none topology =
    no_form (codes "run" ∷ topology ∷ []) (λ files c. run_is_no_check (head_same (codes "run") (codes "check") (topology ∷ []) files c.words_are))
    (λ text name files n. run_is_no_text text (head_same (codes "run") (word_of text) (topology ∷ []) (name ∷ files) n.words_are))
    (λ name scenario files r. two_alone (codes "run") topology (codes "run") name scenario files r.words_are)
    (λ instances m. make_is_no_run (sym (head_same (codes "run") (codes "make") (topology ∷ []) (decimal instances ∷ []) m.words_are)))

scenario_is_none : (topology scenario : List ℕ) → IsForm (codes "run" ∷ topology ∷ scenario ∷ []) → ⊥
scenario_is_none topology scenario =
    no_form (codes "run" ∷ topology ∷ scenario ∷ [])
    (λ files c. run_is_no_check (head_same (codes "run") (codes "check") (topology ∷ scenario ∷ []) files c.words_are))
    (λ text name files n. run_is_no_text text (head_same (codes "run") (word_of text) (topology ∷ scenario ∷ []) (name ∷ files) n.words_are))
    (λ name other files r. two_behind (codes "run") topology scenario (codes "run") name other files r.words_are r.some)
    (λ instances m. make_is_no_run (sym (head_same (codes "run") (codes "make") (topology ∷ scenario ∷ []) (decimal instances ∷ []) m.words_are)))

-- a count of another text, and one with words behind it
count_is_none : (count : List ℕ) (more : List (List ℕ)) → ((n : ℕ) → 0 < n → n ≤ most_instances → count ≡ decimal n → ⊥) → IsForm (codes "make" ∷ count ∷ more) → ⊥
count_is_none count more other =
    no_form (codes "make" ∷ count ∷ more) (λ files c. make_is_no_check (head_same (codes "make") (codes "check") (count ∷ more) files c.words_are))
    (λ text topology files n. make_is_no_text text (head_same (codes "make") (word_of text) (count ∷ more) (topology ∷ files) n.words_are))
    (λ topology scenario files r. make_is_no_run (head_same (codes "make") (codes "run") (count ∷ more) (topology ∷ scenario ∷ files) r.words_are))
    (λ instances m. other instances m.some m.few (second instances m.words_are))
  where
    second : (instances : ℕ) → codes "make" ∷ count ∷ more ≡ codes "make" ∷ decimal instances ∷ [] → count ≡ decimal instances
    second instances h = cc

further_is_none : (count word : List ℕ) (more : List (List ℕ)) → IsForm (codes "make" ∷ count ∷ word ∷ more) → ⊥
further_is_none count word more =
    no_form (codes "make" ∷ count ∷ word ∷ more) (λ files c. make_is_no_check (head_same (codes "make") (codes "check") (count ∷ word ∷ more) files c.words_are))
    (λ text topology files n. make_is_no_text text (head_same (codes "make") (word_of text) (count ∷ word ∷ more) (topology ∷ files) n.words_are))
    (λ topology scenario files r. make_is_no_run (head_same (codes "make") (codes "run") (count ∷ word ∷ more) (topology ∷ scenario ∷ files) r.words_are))
    (λ instances m. third instances m.words_are)
  where
    third : (instances : ℕ) → codes "make" ∷ count ∷ word ∷ more ≡ codes "make" ∷ decimal instances ∷ [] → ⊥
    third instances h = cc

other_begins_none : (word : List ℕ) (words : List (List ℕ)) → (word ≡ codes "check" → ⊥) → (word ≡ codes "run" → ⊥) → (word ≡ codes "make" → ⊥)
    → ((text : TopologyText) → word ≡ word_of text → ⊥) → BeginsForm (word ∷ words) → ⊥
other_begins_none word words no_check no_run no_make no_text begins =
    no_form (word ∷ words ++ begins.0) (λ files c. no_check (head_same word (codes "check") (words ++ begins.0) files c.words_are))
    (λ text topology files n. no_text text (head_same word (word_of text) (words ++ begins.0) (topology ∷ files) n.words_are))
    (λ topology scenario files r. no_run (head_same word (codes "run") (words ++ begins.0) (topology ∷ scenario ∷ files) r.words_are))
    (λ instances m. no_make (head_same word (codes "make") (words ++ begins.0) (decimal instances ∷ []) m.words_are)) begins.1

-- ---- the first word that doesn't fit or is missing

missing_command : IsWrong [] 1
missing_command = record { counted = lit< tt; begun = none_begins; ends = inr (refl, none_is_none) }

other_command : (word : List ℕ) (words : List (List ℕ)) → (word ≡ codes "check" → ⊥) → (word ≡ codes "run" → ⊥) → (word ≡ codes "make" → ⊥)
    → ((text : TopologyText) → word ≡ word_of text → ⊥) → IsWrong (word ∷ words) 1
other_command word words no_check no_run no_make no_text =
    record { counted = lit< tt; begun = none_begins; ends = inl (omega arith, other_begins_none word [] no_check no_run no_make no_text) }

missing_file : IsWrong (codes "check" ∷ []) 2
missing_file = record { counted = lit< tt; begun = check_begins; ends = inr (refl, one_is_none (codes "check")) }

missing_topology : (text : TopologyText) → IsWrong (word_of text ∷ []) 2
missing_topology text = record { counted = lit< tt; begun = text_begins text; ends = inr (refl, one_is_none (word_of text)) }

missing_topology_file : (text : TopologyText) (topology : List ℕ) → IsWrong (word_of text ∷ topology ∷ []) 3
missing_topology_file text topology = record { counted = lit< tt; begun = topology_begins text topology; ends = inr (refl, topology_is_none text topology) }

missing_run_topology : IsWrong (codes "run" ∷ []) 2
missing_run_topology = record { counted = lit< tt; begun = run_begins; ends = inr (refl, one_is_none (codes "run")) }

missing_scenario : (topology : List ℕ) → IsWrong (codes "run" ∷ topology ∷ []) 3
missing_scenario topology = record { counted = lit< tt; begun = run_over_begins topology; ends = inr (refl, run_over_is_none topology) }

missing_scenario_file : (topology scenario : List ℕ) → IsWrong (codes "run" ∷ topology ∷ scenario ∷ []) 4
missing_scenario_file topology scenario = record { counted = lit< tt; begun = scenario_begins topology scenario; ends = inr (refl, scenario_is_none topology scenario) }

missing_count : IsWrong (codes "make" ∷ []) 2
missing_count = record { counted = lit< tt; begun = make_begins; ends = inr (refl, one_is_none (codes "make")) }

other_count : (count : List ℕ) (more : List (List ℕ)) → ((n : ℕ) → 0 < n → n ≤ most_instances → count ≡ decimal n → ⊥) → IsWrong (codes "make" ∷ count ∷ more) 2
other_count count more other = record { counted = lit< tt; begun = make_begins; ends = inl (omega arith, λ begins. count_is_none count begins.0 other begins.1) }

further_word : (count word : List ℕ) (more : List (List ℕ)) (instances : ℕ) → 0 < instances → instances ≤ most_instances → count ≡ decimal instances
    → IsWrong (codes "make" ∷ count ∷ word ∷ more) 3
further_word count word more instances some few is =
    record { counted = lit< tt; begun = count_begins count instances some few is; ends = inl (omega arith, λ begins. further_is_none count word begins.0 begins.1) }

-- ---- the same, of words that stand for their bytes

-- the test that a word is a word of ours
differs : (ours read word : List ℕ) (test : Bool) → read ≡ word → test ≡ bytes_eq read ours → test ≡ false → word ≡ ours → ⊥
differs ours read word test same is other h =
    let yes' : bytes_eq read ours ≡ true = (bytes_eq-Decides read ours).1 (same ∙ h) in
    let no' : bytes_eq read ours ≡ false = sym is ∙ other in
    cc

-- a word that is none of those
pub no_text : (word : List ℕ) (is_ports is_dict : Bool) → is_ports ≡ bytes_eq word (codes "ports") → is_ports ≡ false → is_dict ≡ bytes_eq word (codes "dict") → is_dict ≡ false
    → (text : TopologyText) → word ≡ word_of text → ⊥
no_text word is_ports is_dict ports no_ports dict no_dict Connections e = differs (codes "ports") word word is_ports refl ports no_ports e
no_text word is_ports is_dict ports no_ports dict no_dict Dictionary e = differs (codes "dict") word word is_dict refl dict no_dict e

-- the test that none are left
pub none_left : (n : ℕ) (test : Bool) → test ≡ (n == 0) → test ≡ true → n ≡ 0
none_left n test is same = eqb→eq n 0 (subst T (sym (sym is ∙ same)) tt)

pub some_left : (n : ℕ) (test : Bool) → test ≡ (n == 0) → test ≡ false → n ≡ 0 → ⊥
some_left n test is other e = let yes' : (n == 0) ≡ true = eq-eqb n 0 e in let no' : (n == 0) ≡ false = sym is ∙ other in cc

module _ {S : Type 0} (bytes : S → List ℕ) where
  pub missing_command_of : (words : List S) → length words ≡ 0 → IsWrong (map bytes words) 1
  missing_command_of [] e = missing_command
  missing_command_of (word ∷ words) e = absurd (omega (arith, e))

  pub missing_file_of : (files : List S) → length files ≡ 0 → IsWrong (codes "check" ∷ map bytes files) 2
  missing_file_of [] e = missing_file
  missing_file_of (file ∷ files) e = absurd (omega (arith, e))

  pub check_of : (files : List S) → (length files ≡ 0 → ⊥) → IsCheck (codes "check" ∷ map bytes files) (map bytes files)
  check_of [] some = absurd (some refl)
  check_of (file ∷ files) some = record { words_are = refl; some = omega arith }

  pub other_command_of : (words : List S) (word : S) (files : List S) (read : List ℕ) (is_check is_run is_make : Bool)
      → words ≡ word ∷ files → read ≡ bytes word → is_check ≡ bytes_eq read (codes "check") → is_check ≡ false
      → is_run ≡ bytes_eq read (codes "run") → is_run ≡ false → is_make ≡ bytes_eq read (codes "make") → is_make ≡ false
      → ((text : TopologyText) → read ≡ word_of text → ⊥) → IsWrong (map bytes words) 1
  other_command_of words word files read is_check is_run is_make e is check no_check run no_run make no_make no_text_there =
      subst (λ (ws : List S). IsWrong (map bytes ws) 1) (sym e)
      (other_command (bytes word) (map bytes files) (differs (codes "check") read (bytes word) is_check is check no_check)
      (differs (codes "run") read (bytes word) is_run is run no_run) (differs (codes "make") read (bytes word) is_make is make no_make) (λ text h. no_text_there text (is ∙ h)))

  -- behind the word `make`
  pub missing_count_of : (words : List S) → length words ≡ 0 → IsWrong (codes "make" ∷ map bytes words) 2
  missing_count_of [] e = missing_count
  missing_count_of (word ∷ words) e = absurd (omega (arith, e))

  module _ (words more : List S) (count : S) (read : List ℕ) (split : words ≡ count ∷ more) (is : read ≡ bytes count) where
    at_words : (P : List (List ℕ) → Type 0) → P (codes "make" ∷ read ∷ map bytes more) → P (codes "make" ∷ map bytes words)
    at_words P h =
        subst (λ (ws : List S). P (codes "make" ∷ map bytes ws)) (sym split) (subst (λ (w : List ℕ). P (codes "make" ∷ w ∷ map bytes more)) is h)

    pub other_count_of : ((n : ℕ) → 0 < n → n ≤ most_instances → read ≡ decimal n → ⊥) → IsWrong (codes "make" ∷ map bytes words) 2
    other_count_of other = at_words (λ ws. IsWrong ws 2) (other_count read (map bytes more) other)

    module _ (instances : ℕ) (some : 0 < instances) (few : instances ≤ most_instances) (spelled : read ≡ decimal instances) where
      pub make_of : length more ≡ 0 → IsMake (codes "make" ∷ map bytes words) instances
      make_of none = at_words (λ ws. IsMake ws instances) (go more none)
        where
          go : (more : List S) → length more ≡ 0 → IsMake (codes "make" ∷ read ∷ map bytes more) instances
          go [] e = record { words_are = subst (λ (w : List ℕ). codes "make" ∷ read ∷ [] ≡ codes "make" ∷ w ∷ []) spelled refl; some = some; few = few }
          go (word ∷ words) e = absurd (omega (arith, e))

      pub further_word_of : (length more ≡ 0 → ⊥) → IsWrong (codes "make" ∷ map bytes words) 3
      further_word_of left = at_words (λ ws. IsWrong ws 3) (go more left)
        where
          go : (more : List S) → (length more ≡ 0 → ⊥) → IsWrong (codes "make" ∷ read ∷ map bytes more) 3
          go [] left = absurd (left refl)
          go (word ∷ words) left = further_word read (bytes word) (map bytes words) instances some few spelled

  -- behind the word `run`
  pub missing_run_topology_of : (words : List S) → length words ≡ 0 → IsWrong (codes "run" ∷ map bytes words) 2
  missing_run_topology_of [] e = missing_run_topology
  missing_run_topology_of (word ∷ words) e = absurd (omega (arith, e))

  pub missing_scenario_of : (topology : List ℕ) (words : List S) → length words ≡ 0 → IsWrong (codes "run" ∷ topology ∷ map bytes words) 3
  missing_scenario_of topology [] e = missing_scenario topology
  missing_scenario_of topology (word ∷ words) e = absurd (omega (arith, e))

  pub missing_scenario_file_of : (topology : List ℕ) (words files : List S) (scenario : S) → words ≡ scenario ∷ files → length files ≡ 0 → IsWrong (codes "run" ∷ topology ∷ map bytes words) 4
  missing_scenario_file_of topology words files scenario e none = subst (λ (ws : List S). IsWrong (codes "run" ∷ topology ∷ map bytes ws) 4) (sym e) (go files none)
    where
      go : (files : List S) → length files ≡ 0 → IsWrong (codes "run" ∷ topology ∷ bytes scenario ∷ map bytes files) 4
      go [] e = missing_scenario_file topology (bytes scenario)
      go (file ∷ files) e = absurd (omega (arith, e))

  pub run_of : (topology : List ℕ) (words files : List S) (scenario : S) (name : List ℕ) → words ≡ scenario ∷ files → name ≡ bytes scenario → (length files ≡ 0 → ⊥)
      → IsRun (codes "run" ∷ topology ∷ map bytes words) topology name (map bytes files)
  run_of topology words files scenario name e is some =
      subst (λ (ws : List S). IsRun (codes "run" ∷ topology ∷ map bytes ws) topology name (map bytes files)) (sym e)
      (subst (λ (n : List ℕ). IsRun (codes "run" ∷ topology ∷ bytes scenario ∷ map bytes files) topology n (map bytes files)) (sym is) (go files some))
    where
      go : (files : List S) → (length files ≡ 0 → ⊥) → IsRun (codes "run" ∷ topology ∷ bytes scenario ∷ map bytes files) topology (bytes scenario) (map bytes files)
      go [] some = absurd (some refl)
      go (file ∷ files) some = record { words_are = refl; some = omega arith }

  -- and behind the name of a topology
  pub run_over_of : (words rest : List S) (topology : S) (name : List ℕ) (result : Result Command ℕ) → words ≡ topology ∷ rest → name ≡ bytes topology
      → ReadsWords (codes "run" ∷ name ∷ map bytes rest) result → ReadsWords (codes "run" ∷ map bytes words) result
  run_over_of words rest topology name result e is reads =
      subst (λ (ws : List S). ReadsWords (codes "run" ∷ map bytes ws) result) (sym e)
      (subst (λ (n : List ℕ). ReadsWords (codes "run" ∷ n ∷ map bytes rest) result) is reads)

module _ (text : TopologyText) {S : Type 0} (bytes : S → List ℕ) where
  pub missing_topology_of : (words : List S) → length words ≡ 0 → IsWrong (word_of text ∷ map bytes words) 2
  missing_topology_of [] e = missing_topology text
  missing_topology_of (word ∷ words) e = absurd (omega (arith, e))

  pub missing_topology_file_of : (words files : List S) (topology : S) → words ≡ topology ∷ files → length files ≡ 0 → IsWrong (word_of text ∷ map bytes words) 3
  missing_topology_file_of words files topology e none = subst (λ (ws : List S). IsWrong (word_of text ∷ map bytes ws) 3) (sym e) (go files none)
    where
      go : (files : List S) → length files ≡ 0 → IsWrong (word_of text ∷ bytes topology ∷ map bytes files) 3
      go [] e = missing_topology_file text (bytes topology)
      go (file ∷ files) e = absurd (omega (arith, e))

  pub topology_of : (words files : List S) (topology : S) (name : List ℕ) → words ≡ topology ∷ files → name ≡ bytes topology → (length files ≡ 0 → ⊥)
      → Names text (word_of text ∷ map bytes words) name (map bytes files)
  topology_of words files topology name e is some =
      subst (λ (ws : List S). Names text (word_of text ∷ map bytes ws) name (map bytes files)) (sym e)
      (subst (λ (n : List ℕ). Names text (word_of text ∷ bytes topology ∷ map bytes files) n (map bytes files)) (sym is) (go files some))
    where
      go : (files : List S) → (length files ≡ 0 → ⊥) → Names text (word_of text ∷ bytes topology ∷ map bytes files) (bytes topology) (map bytes files)
      go [] some = absurd (some refl)
      go (file ∷ files) some = record { words_are = refl; some = omega arith }

  pub topology_command_of : (words : List S) (word : S) (files : List S) (read : List ℕ) (result : Result Command ℕ) → words ≡ word ∷ files → read ≡ bytes word → read ≡ word_of text
      → ReadsWords (word_of text ∷ map bytes files) result → ReadsWords (map bytes words) result
  topology_command_of words word files read result e one is reads =
      subst (λ (ws : List S). ReadsWords (map bytes ws) result) (sym e)
      (subst (λ (w : List ℕ). ReadsWords (w ∷ map bytes files) result) (sym is ∙ one) reads)
