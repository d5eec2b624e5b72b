use Rattle.std.proofs.Common.{◌≡◌, ℕ, true, ◌+◌, ◌<◌, ◌≤◌, List, [], ◌∷◌, ◌++◌, length, length-append, length-set, set, Option, None, Some, refl, is_none, subst, sym, ap, ap₂, ◌∙◌, arith}
use Rattle.fp_sound_machines.specs.Behind.{found_at, found_count, choice_at, open_branch, IsPath, Begins}
use Rattle.fp_sound_machines.specs.declared.choices.Behind.{Behind}
use Rattle.fp_tables.specs.declared.machine.Vertex.{Vertex}
use Rattle.fp_base.proofs.Bools.{both}
use Rattle.fp_sound_machines.proofs.Chains.{long_path, choice_within}
use Rattle.fp_sound_machines.proofs.Found.{found_more, count_within}
use Rattle.fp_sound_machines.proofs.Going.{branch_open, path_longer, begins_longer, last_open, path_shorter, begins_shorter, still_found, more_behind, finds_more}
use Rattle.fp_sound_machines.proofs.choices.settle.Goals as goal

-- what the last choice of a path is
record IsLast (vs : List Vertex) (found : List (Option Behind)) (choice : ℕ) : Type 0 where
  is_choice : choice_at vs choice ≡ true
  not_found : found_at found choice ≡ None
  lies : choice < length vs

is_last : (vs : List Vertex) (found : List (Option Behind)) (path rest : List ℕ) (choice : ℕ) → IsPath vs found path → path ≡ rest ++ choice ∷ [] → IsLast vs found choice
is_last vs found path rest choice h e =
    let opened = both (choice_at vs choice) (is_none (found_at found choice)) (last_open vs found rest choice (subst (IsPath vs found) e h)) in
    record { is_choice = opened.0; not_found = none_of (found_at found choice) opened.1; lies = choice_within vs choice opened.0 }
  where
    none_of : (o : Option Behind) → is_none o ≡ true → o ≡ None
    none_of None h = refl
    none_of (Some b) h = absurd (cc)

pub returns-then-len-vertices : goal.returns-then-len-vertices
returns-then-len-vertices c =
    let vs = c.args.machine.now.vertices in
    let long = ap (λ (xs : List ℕ). length xs) c.in-Some.ensures.items ∙ length-append c.pop.new.self.items (c.in-Some.choice ∷ []) in
    let kept = c.pop.new.self.ok.0 in
    let all = ap (λ (xs : List Vertex). length xs) c.as_slice-vertices.ensures in
    long_path vs c.loop-choice.found.items c.loop-choice.path.items c.loop-choice.invariant.path (omega (arith, long, kept, all, c.len.ensures, c.if-len-vertices.true))

pub loop-choice-preserved-in-Continue-branch-3 : goal.loop-choice-preserved-in-Continue-branch-3
loop-choice-preserved-in-Continue-branch-3 c =
    let vs = c.args.machine.now.vertices in
    let found = c.loop-choice.found.items in
    let rest = c.pop.new.self.items in
    let choice = c.in-Some.choice in
    let next = c.in-Some-open_branch.next in
    let longer = (c.in_ok-push-in-Some-open_branch-2).ensures.items ∙ ap (λ (xs : List ℕ). xs ++ next ∷ []) (c.in_ok-push-in-Some-open_branch).ensures.items in
    let size = ap (λ (xs : List ℕ). length xs) longer ∙ length-append (rest ++ choice ∷ []) (next ∷ []) in
    let inner = length-append rest (choice ∷ []) in
    let all = ap (λ (xs : List Vertex). length xs) c.as_slice-vertices.ensures in
    let opened = branch_open vs found choice next (c.in-Some-open_branch.ensures ∙ ap₂ (λ xs fs. open_branch xs fs choice) c.as_slice-vertices.ensures c.as_slice.ensures.value) in
    record {
      known = c.loop-choice.invariant.known;
      path = subst (IsPath vs found) (sym longer) (path_longer vs found rest choice next (subst (IsPath vs found) c.in-Some.ensures.items c.loop-choice.invariant.path) opened.0 opened.1);
      short = omega (arith, size, inner, all, c.len.ensures, c.pop.new.self.ok.0, c.if-len-vertices.false);
      begins = subst (Begins found c.args.start) (sym longer) (begins_longer vs found c.args.start rest choice next (subst (Begins found c.args.start) c.in-Some.ensures.items c.loop-choice.invariant.begins));
      kept = c.loop-choice.invariant.kept;
    }

pub behind_choice-requires-clause-is_choice : goal.behind_choice-requires-clause-is_choice
behind_choice-requires-clause-is_choice c =
    (is_last c.args.machine.now.vertices c.loop-choice.found.items c.loop-choice.path.items c.pop.new.self.items c.in-Some.choice c.loop-choice.invariant.path c.in-Some.ensures.items).is_choice

pub index_mut-requires : goal.index_mut-requires
index_mut-requires c =
    let last = is_last c.args.machine.now.vertices c.loop-choice.found.items c.loop-choice.path.items c.pop.new.self.items c.in-Some.choice c.loop-choice.invariant.path c.in-Some.ensures.items in
    omega (arith, last.lies, c.loop-choice.invariant.known.one_each, c.loop-choice.found.ok.0)

pub loop-choice-smaller : goal.loop-choice-smaller
loop-choice-smaller c =
    let vs = c.args.machine.now.vertices in
    let found = c.loop-choice.found.items in
    let rest = c.pop.new.self.items in
    let choice = c.in-Some.choice in
    let each = c.loop-choice.invariant.known.one_each in
    let last = is_last vs found c.loop-choice.path.items rest choice c.loop-choice.invariant.path c.in-Some.ensures.items in
    let lies : choice < length found = omega (arith, last.lies, each) in
    let more = found_more found choice c.behind_choice.result lies last.not_found in
    let within = count_within (set found choice (Some c.behind_choice.result)) in
    let same = length-set found choice (Some c.behind_choice.result) in
    let long = ap (λ (xs : List ℕ). length xs) c.in-Some.ensures.items ∙ length-append rest (choice ∷ []) in
    let few : found_count found < length vs = omega (arith, more, within, same, each) in
    rw (more, long) (finds_more (length vs) (found_count found) (length rest) few)

pub loop-choice-preserved : goal.loop-choice-preserved
loop-choice-preserved c =
    let types = c.args.types.now in
    let m = c.args.machine.now in
    let vs = m.vertices in
    let found = c.loop-choice.found.items in
    let rest = c.pop.new.self.items in
    let choice = c.in-Some.choice in
    let b = c.behind_choice.result in
    let each = c.loop-choice.invariant.known.one_each in
    let last = is_last vs found c.loop-choice.path.items rest choice c.loop-choice.invariant.path c.in-Some.ensures.items in
    let lies : choice < length found = omega (arith, last.lies, each) in
    let long = ap (λ (xs : List ℕ). length xs) c.in-Some.ensures.items ∙ length-append rest (choice ∷ []) in
    let bounded = subst (λ (fs : List (Option Behind)). b.choices ≤ found_count fs + 1) c.as_slice-in-None.ensures.value c.behind_choice.ensures.bounded in
    let closed = sym (c.in-None.ensures ∙ ap₂ (λ xs fs. open_branch xs fs choice) c.as_slice-vertices.ensures c.as_slice.ensures.value) in
    record {
      known = more_behind vs found choice b lies types m c.loop-choice.invariant.known last.not_found c.behind_choice.ensures.behind bounded;
      path = path_shorter vs found choice b lies rest (subst (IsPath vs found) c.in-Some.ensures.items c.loop-choice.invariant.path) closed;
      short = omega (arith, long, c.loop-choice.invariant.short);
      begins = begins_shorter vs found choice b lies c.args.start rest (subst (Begins found c.args.start) c.in-Some.ensures.items c.loop-choice.invariant.begins);
      kept = λ v h. still_found vs found choice b lies v (c.loop-choice.invariant.kept v h);
    }
