-- A proof of several elements is made of at most 122 nodes for each of them.
use Rattle.std.proofs.Common.{◌≡◌, ℕ, zero, suc, ◌+◌, ◌*◌, ◌<◌, ◌≤◌, ⊎_elim, Bool, true, false, ◌||◌}
use Rattle.std.proofs.Common.{cond, List, [], ◌∷◌, ◌++◌, length, None, refl, sym, ◌∙◌, ap, subst, arith}
use Rattle.std.proofs.Common.{length-append}
use Rattle.std.specs.List.{AllByRecursion}
use Rattle.std.proofs.lemmas.Bool.{cases_lt, cases_Bool}
use Rattle.merkle_forest.specs.Forest.{Tree, leaf, branch, height, leaf_count, leaves}
use Rattle.merkle_forest.specs.Perfect.{IsPerfect}
use Rattle.merkle_forest.specs.Trees.{Located, located}
use Rattle.merkle_theory.specs.Multi.{first_bad, is_named, unnamed_nodes, multi_nodes}
use Rattle.merkle_theory.proofs.Unnamed.{good_head, names, names_before, names_in, names_after, unnamed_test}
use Rattle.merkle_theory.proofs.Unnamed.{unnamed_none}

-- so many times
abbrev times : ℕ → ℕ → ℕ
times zero h = 0
times (suc c) h = h + times c h

times-add : (c d h : ℕ) → times (c + d) h ≡ times c h + times d h
times-add zero d h =
    let e : 0 + d ≡ d = omega arith in
    let f : times d h ≡ 0 + times d h = omega arith in
    ap (λ n. times n h) e ∙ f
times-add (suc c) d h =
    let e : suc c + d ≡ suc (c + d) = omega arith in
    omega (arith, ap (λ n. times n h) e, times-add c d h)

times-suc : (c h : ℕ) → times c (suc h) ≡ c + times c h
times-suc zero h = refl
times-suc (suc c) h = omega (arith, times-suc c h)

-- how many of these locations stand from a on and before e
abbrev pub count : ℕ → ℕ → List ℕ → ℕ
count a e [] = 0
count a e (l ∷ locations) = cond (names a e l) (suc (count a e locations)) (count a e locations)

step : (a e l : ℕ) (locations : List ℕ) (b : Bool) → names a e l ≡ b
    → count a e (l ∷ locations) ≡ cond b (suc (count a e locations)) (count a e locations)
step a e l locations b is = ap (λ x. cond x (suc (count a e locations)) (count a e locations)) is

pub count_parts : (a m e : ℕ) (locations : List ℕ) → a ≤ m → m ≤ e
    → count a e locations ≡ count a m locations + count m e locations
count_parts a m e [] low high = refl
count_parts a m e (l ∷ locations) low high =
    let rest = count_parts a m e locations low high in
    ⊎_elim
    (λ below. omega (
      arith,
      rest,
      step a e l locations false (names_before a e l below),
      step a m l locations false (names_before a m l below),
      step m e l locations false (names_before m e l (omega
          (arith, low, below))),
    ))
    (λ from. ⊎_elim
    (λ left. omega (
      arith,
      rest,
      step a e l locations true (names_in a e l from (omega (arith, left, high))),
      step a m l locations true (names_in a m l from left),
      step m e l locations false (names_before m e l left),
    ))
    (λ right. ⊎_elim
    (λ within. omega (
      arith,
      rest,
      step a e l locations true (names_in a e l from within),
      step a m l locations false (names_after a m l from right),
      step m e l locations true (names_in m e l right within),
    ))
    (λ past. omega (
      arith,
      rest,
      step a e l locations false (names_after a e l from past),
      step a m l locations false (names_after a m l from right),
      step m e l locations false
          (names_after m e l right past),
    ))
    (cases_lt l e)) (cases_lt l m)) (cases_lt l a)

is_some : ℕ → Bool
is_some zero = false
is_some (suc n) = true

some_if : (b r : Bool) (n : ℕ) → r ≡ is_some n → (b || r) ≡ is_some (cond b (suc n) n)
unfolding is_some
some_if true r n is = refl
some_if false r n is = is

named_some : (locations : List ℕ) (tree : Located)
    → is_named locations tree ≡ is_some (count tree.0 (tree.0 + leaf_count tree.1) locations)
unfolding is_some
named_some [] tree = refl
named_some (l ∷ locations) tree =
    some_if (names tree.0 (tree.0 + leaf_count tree.1) l) (is_named locations tree)
    (count tree.0 (tree.0 + leaf_count tree.1) locations) (named_some locations tree)

none_zero : (n : ℕ) → false ≡ is_some n → n ≡ 0
unfolding is_some
none_zero zero is = refl
none_zero (suc n) is = absurd cc

some_more : (n : ℕ) → true ≡ is_some n → 0 < n
unfolding is_some
some_more zero is = absurd cc
some_more (suc n) is = omega arith

-- a tree without one of the locations is one node; else there are at most as many as it is high for each of them
pub record IsFew (nodes c h : ℕ) : Type 0 where
  pub none : c ≡ 0 → nodes ≡ 1
  pub some : 0 < c → nodes ≤ times c h

both_few : (left right c d h : ℕ) → IsFew left c h → IsFew right d h → 0 < c + d → left + right ≤ times (c + d) (suc h)
both_few left right zero d h one other some =
    let e : 0 + d ≡ d = omega arith in
    omega (arith, one.none refl, other.some (omega (arith, some)), times-suc d h, ap (λ n. times n (suc h)) e, some)
both_few left right (suc c) zero h one other some =
    omega (arith, one.some (omega arith), other.none refl, times-suc (suc c) h, times-add (suc c) 0 (suc h))
both_few left right (suc c) (suc d) h one other some =
    omega (
      arith,
      one.some (omega arith),
      other.some (omega arith),
      times-suc (suc c) h,
      times-suc (suc d) h,
      times-add (suc c) (suc d) (suc h),
    )

times-two : (c h q : ℕ) → h + q ≤ 122 → times c h + times c q ≤ times c 122
times-two zero h q le = omega arith
times-two (suc c) h q le = omega (arith, le, times-two c h q le)

times-most : (c : ℕ) → times c 122 ≡ 122 * c
times-most zero = omega arith
times-most (suc c) = omega (arith, times-most c)

times-one : (c q : ℕ) → 0 < c → q ≤ times c q
times-one zero q some = absurd (omega (arith, some))
times-one (suc c) q some = omega arith

pub count_most : (a e : ℕ) (locations : List ℕ) → count a e locations ≤ length locations
count_most a e [] = omega arith
count_most a e (l ∷ locations) =
    ⊎_elim (λ is. omega (arith, step a e l locations true is, count_most a e locations))
    (λ is. omega (arith, step a e l locations false is, count_most a e locations)) (cases_Bool (names a e l))

pub count_first : (e l : ℕ) (locations : List ℕ) → l < e → 0 < count 0 e (l ∷ locations)
count_first e l locations below = omega (arith, step 0 e l locations true (names_in 0 e l (omega arith) below))

module _ (locations : List ℕ) where
  abbrev here : ℕ → Tree → ℕ
  here at t = count at (at + leaf_count t) locations

  none_few : (at : ℕ) (t : Tree) → is_named locations (at, t) ≡ false
      → IsFew (length (unnamed_nodes locations at t)) (here at t) (height t)
  none_few at t out = record {
    none = λ zero_is. ap length (unnamed_none locations at t out);
    some = λ more. absurd (omega (arith, more, none_zero (here at t) (sym out ∙ named_some locations (at, t))));
  }

  pub tree_few : (at : ℕ) (t : Tree) → IsPerfect t
      → IsFew (length (unnamed_nodes locations at t)) (here at t) (height t)
  tree_few at (leaf p) perfect =
      ⊎_elim
      (λ named. record {
        none = λ zero_is. absurd (omega (
          arith,
          zero_is,
          some_more (here at (leaf p)) (sym named
              ∙ named_some locations (at, leaf p)),
        ));
        some = λ more. omega (arith, ap length (leaf_nodes named));
      })
      (λ out. none_few at (leaf p) out) (cases_Bool (is_named locations (at, leaf p)))
    where
      leaf_nodes : is_named locations (at, leaf p) ≡ true → unnamed_nodes locations at (leaf p) ≡ []
      leaf_nodes named = rw named refl
  tree_few at (branch p left right) perfect =
      let middle = at + leaf_count left in
      let e = at + leaf_count (branch p left right) in
      let last : middle + leaf_count right ≡ e = omega arith in
      let parts = count_parts at middle e locations (omega arith) (omega arith) in
      let there = subst (λ n. IsFew (length (unnamed_nodes locations middle right)) (count middle n locations)
      (height right)) last
      (tree_few middle right perfect.2) in
      let other = subst (IsFew (length (unnamed_nodes locations middle right)) (count middle e locations))
      (sym perfect.0) there in
      ⊎_elim
      (λ named.
      let more = some_more (here at (branch p left right)) (sym named
      ∙ named_some locations (at, branch p left right)) in
      let nodes = ap length (unnamed_test locations at p left right true named)
      ∙ length-append (unnamed_nodes locations at left) (unnamed_nodes locations middle right) in
      let few = both_few (length (unnamed_nodes locations at left)) (length (unnamed_nodes locations middle right))
      (count at middle locations) (count middle e locations) (height left) (tree_few at left perfect.1) other (omega
      (arith, more, parts)) in
      let whole = ap (λ c. times c (suc (height left))) parts in
      record {
        none = λ zero_is. absurd (omega (arith, zero_is, more));
        some = λ some. omega (arith, nodes, few, whole);
      })
      (λ out. none_few at (branch p left right) out) (cases_Bool (is_named locations (at, branch p left right)))

  -- peaks: `q` is how many others there are
  pub record AreShort (nodes c q k : ℕ) : Type 0 where
    pub others : ℕ
    pub few : nodes + times c q ≤ times c 122 + others
    pub most : others ≤ k
    pub less : 0 < c → others + 1 ≤ k

  abbrev total : List Located → ℕ
  total [] = 0
  total (peak ∷ peaks) = here peak.0 peak.1 + total peaks

  abbrev pub IsLow : ℕ → Located → Type 0
  IsLow q peak = IsPerfect peak.1 × (height peak.1 + q ≤ 122)

  more_short : (own nodes d c h q k : ℕ) → IsFew own d h → h + q ≤ 122 → AreShort nodes c q k
      → AreShort (own + nodes) (d + c) q (suc k)
  more_short own nodes zero c h q k one low rest =
      let e : 0 + c ≡ c = omega arith in record {
        others = suc rest.others;
        few = omega (arith, one.none refl, rest.few, ap (λ n. times n q) e, ap (λ n. times n 122) e);
        most = omega (arith, rest.most);
        less = λ some. omega (arith, rest.less (omega (arith, some)));
      }
  more_short own nodes (suc d) c h q k one low rest = record {
    others = rest.others;
    few = omega (
      arith,
      one.some (omega arith),
      rest.few,
      times-add (suc d) c q,
      times-add (suc d) c 122,
      times-two
          (suc d) h q low,
    );
    most = omega (arith, rest.most);
    less = λ some. omega (arith, rest.most);
  }

  pub peaks_short : (q : ℕ) (peaks : List Located) → AllByRecursion (IsLow q) peaks
      → AreShort (length (multi_nodes locations peaks)) (total peaks) q (length peaks)
  peaks_short q [] all = record {
    others = 0;
    few = omega arith;
    most = omega arith;
    less = λ some. absurd (omega
        (arith, some));
  }
  peaks_short q (peak ∷ peaks) all =
      subst (λ n. AreShort n (total (peak ∷ peaks)) q (length (peak ∷ peaks)))
      (sym (length-append (unnamed_nodes locations peak.0 peak.1) (multi_nodes locations peaks)))
      (more_short (length (unnamed_nodes locations peak.0 peak.1)) (length (multi_nodes locations peaks))
      (here peak.0 peak.1) (total peaks)
      (height peak.1) q (length peaks) (tree_few peak.0 peak.1 all.0.0) all.0.1 (peaks_short q peaks all.1))

  total_append : (front : List Located) (peak : Located) → total (front ++ peak ∷ []) ≡ total front + here peak.0 peak.1
  total_append [] peak = omega arith
  total_append (p ∷ front) peak = omega (arith, total_append front peak)

  count_none : (a : ℕ) → (ls : List ℕ) → count a a ls ≡ 0
  count_none a [] = refl
  count_none a (l ∷ ls) = ⊎_elim (λ below. omega (
    arith,
    step a a l ls false
        (names_before a a l below),
    count_none a ls,
  ))
      (λ from. omega (arith, step a a l ls false (names_after a a l from from), count_none a ls)) (cases_lt l a)

  pub total_located : (trees : List Tree) → total (located trees) ≡ count 0 (leaves trees) locations
  total_located [] = sym (count_none 0 locations)
  total_located (t ∷ trees) =
      let e : leaves trees + leaf_count t ≡ leaves (t ∷ trees) = omega arith in
      let parts = count_parts 0 (leaves trees) (leaves trees + leaf_count t) locations (omega arith) (omega arith) in
      let whole = ap (λ n. count 0 n locations) e in
      omega (arith, total_append (located trees) (leaves trees, t), total_located trees, parts, whole)

  pub short : (q : ℕ) (trees : List Tree) → length (located trees) ≡ suc q → AllByRecursion (IsLow q) (located trees)
      → 0 < count 0 (leaves trees) locations → length (multi_nodes locations (located trees)) ≤ 122 * length locations
  short q trees long low some =
      let c = total (located trees) in
      let is = peaks_short q (located trees) low in
      let most : 122 * c ≤ 122 * length locations = omega (
        arith,
        total_located trees,
        count_most 0
            (leaves trees) locations,
      ) in
      let more : 0 < c = omega (arith, total_located trees, some) in
      omega (arith, is.few, is.less more, long, times-one c q more, times-most c, most)

-- locations that can be shown are counted
pub some_counted : (e : ℕ) (locations : List ℕ) → 0 < length locations → first_bad e 0 locations ≡ None
    → 0 < count 0 e locations
some_counted e [] some good = absurd (omega (arith, some))
some_counted e (l ∷ locations) some good =
    let head = good_head e 0 l locations (cases_lt l 0) (cases_lt l e) good in
    count_first e l locations head.1

-- where some are counted there is a place
pub some_place : (e : ℕ) (locations : List ℕ) → 0 < count 0 e locations → 0 < e
some_place e [] some = absurd (omega (arith, some))
some_place e (l ∷ locations) some =
    ⊎_elim (λ none. none) (λ none. ⊎_elim
    (λ below. omega (arith, below))
    (λ past. some_place e locations (omega (
      arith,
      some,
      step 0 e l locations false (names_after 0 e l
          (omega arith) past),
    )))
    (cases_lt l e)) (cases_lt 0 e)
