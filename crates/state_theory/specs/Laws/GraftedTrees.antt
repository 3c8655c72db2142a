-- What is read of a state's two trees are the digests of its grafted tree.
use Rattle.std.proofs.Common.{◌≡◌, ◌⊎◌, inl, inr, ℕ, zero, suc, ◌+◌, ◌-◌, ◌*◌, ◌/◌, ◌^◌, ◌<◌, ◌≤◌, eqb, true, false}
use Rattle.std.proofs.Common.{List, [], ◌∷◌, length, Option, None, Some, option_map, refl, sym, ◌∙◌, ap, ap₂, subst}
use Rattle.std.proofs.Common.{arith}
use Rattle.std.specs.Option.{option_or}
use Rattle.std.specs.Prelude.{IfSome, IsSome, option_and_then, slice_get, slice_index_or, unwrap_or}
use Rattle.std.proofs.lemmas.Bool.{cases_lt, cond-true, cond-false, eq-eqb, ne_eqb, le-ltb}
use Rattle.std.proofs.lemmas.Nat.{pow_pos, pow-add}
use Rattle.std.proofs.Math.Nat.{add-mul, mul_assoc, mul-div_cancel}
use Rattle.merkle_forest.specs.Forest.{Tree, leaf, branch, position, height, leaf_count, size, Rule, forest_of}
use Rattle.merkle_forest.specs.Hashing.{Hash, node_string}
use Rattle.merkle_forest.specs.Laws.ForestGrowth.{forest_of-perfect, leaf_count-perfect, size-mono}
use Rattle.merkle_forest.specs.Laws.NodeGrowth.{node-stays, one-node}
use Rattle.merkle_forest.specs.Laws.Nodes.{node-perfect}
use Rattle.merkle_forest.specs.Laws.Places.{node-left, node-right}
use Rattle.merkle_forest.specs.Nodes.{HasNode, IsNodeAt}
use Rattle.merkle_forest.specs.Perfect.{IsPairing, IsPerfect}
use Rattle.merkle_forest.specs.Trees.{plain_digest}
use Rattle.merkle_core_parts.specs.Laws.Growth.{IsNew, grown}
use Rattle.merkle_core_parts.specs.Laws.Held.{right-there}
use Rattle.merkle_core_parts.specs.Laws.Mem.{get_some}
use Rattle.merkle_core_parts.specs.Laws.Plain.{digest-plain, leaf-place, length-plain}
use Rattle.merkle_core_parts.specs.Mem.{AreKeptNodes, AreNodesOf, Nodes, digest_at, node_at as kept_at, node_count}
use Rattle.merkle_core_parts.specs.Mem.{plain_leaf_digests, tree_digest}
use Rattle.merkle_theory.specs.Plans.{Lookup}
use Rattle.merkle_theory.specs.MultiReads.{both_there}
use Rattle.merkle_theory.specs.Subtrees.{HasTree}
use Rattle.state_theory.specs.Sources.{IsSourceOf, Source}
use Rattle.state_theory.specs.Canonical.{Setting, State, chunk, chunk_bits, chunks, forest, grafted_digests}
use Rattle.state_theory.specs.GraftedNodes.{AreGraftedLeaves, IsLookupOfChunks, IsLookupOfOperations, TwoTrees}
use Rattle.state_theory.specs.GraftedNodes.{chunks_node, grafted_lookup, known_or_made, node_over}
use Rattle.state_theory.specs.GraftedNodes.{operations_position}
use Rattle.state_theory.specs.GraftedNodes.{position_or}
use Rattle.state_theory.specs.Grafting.{grafted, grafted_digest}
use Rattle.state_theory.specs.SameNodes.{IsSameNode}
use Rattle.state_theory.specs.Verifier.{node_at}
use Rattle.state_theory.specs.Laws.GraftedNodes.{Aligned, Roots, node_over-is, node_over-some}
use Rattle.state_theory.specs.Laws.GraftedReads.{read-low, read-high}
use Rattle.state_theory.specs.Laws.Heights.{some_height}
use Rattle.state_theory.specs.Laws.Roots.{is_grafted_digests}
use Rattle.state_theory.specs.Laws.SameNodes.{AreBorn, in_chunks}
use Rattle.state_theory.specs.Laws.Verifier.{node_at-is, node_at-tree}

-- ---- the position at which a branch of the tree of the chunks is hashed
pub same_position : (rule : Rule) (root : ℕ → ℕ → ℕ) → IsPairing rule → Roots rule root → (level ops p : ℕ)
    → IsSameNode rule level ops p
    → operations_position rule level p ≡ ops
unfolding operations_position
same_position rule root pairs roots level ops p it =
    let tree = it.over_operations.1 in
    let first : ℕ = it.chunk * 2 ^ level in
    ap (position_or rule level p) (node_at-is rule pairs it.chunk p it.high it.over_chunks)
    ∙ ap (λ o. unwrap_or (option_map position o) p)
    (node_over-is rule root pairs roots tree.leaf_total first (it.high
    + level) it.over_operations.0 tree.few tree.stands tree.level)
    ∙ sym tree.subtree

-- the operations' node that is found is over the same chunks
found_same : (rule : Rule) (level p : ℕ) (x : ℕ × ℕ) (t : Tree) → HasTree rule x.0 p x.1
    → node_over rule (x.0 * 2 ^ level) (x.1 + level) ≡ Some t
    → IsSameNode rule level (position t) p
found_same rule level p x t over is =
    let it = node_over-some rule (x.0 * 2 ^ level) (x.1 + level) t is in
    record {
      chunk = x.0;
      high = x.1;
      over_operations =
          (t, record { leaf_total = 2 ^ 62; few = omega arith; stands = it.0; subtree = refl; level = sym it.1 });
      over_chunks = over;
    }

alone_over : (rule : Rule) (level p : ℕ) (x : ℕ × ℕ) (got : Option Tree) → HasTree rule x.0 p x.1
    → node_over rule (x.0 * 2 ^ level) (x.1 + level) ≡ got → ((ops : ℕ) → IsSameNode rule level ops p → ⊥)
    → unwrap_or (option_map position got) p ≡ p
alone_over rule level p x None over is alone = refl
alone_over rule level p x (Some t) over is alone = absurd (alone (position t) (found_same rule level p x t over is))

alone_at : (rule : Rule) (level p : ℕ) (got : Option (ℕ × ℕ)) → node_at rule p ≡ got
    → ((ops : ℕ) → IsSameNode rule level ops p → ⊥)
    → position_or rule level p got ≡ p
alone_at rule level p None is alone = refl
alone_at rule level p (Some x) is alone =
    alone_over rule level p x (node_over rule (x.0 * 2 ^ level) (x.1 + level)) (node_at-tree rule p x is) refl alone

pub own_position : (rule : Rule) (level p : ℕ) → ((ops : ℕ) → IsSameNode rule level ops p → ⊥)
    → operations_position rule level p ≡ p
unfolding operations_position
own_position rule level p alone = alone_at rule level p (node_at rule p) refl alone

-- ---- below the grafting height digests are plain
pub plain_below : (hash : Hash) (level bits : ℕ) (given elements : List (List ℕ)) (at : ℕ) (t : Tree)
    → IsPerfect t → height t < level
    → plain_digest hash elements at t ≡ grafted_digest hash level bits given elements at t
plain_below hash level bits given elements at (leaf p) perfect low = refl
plain_below hash level bits given elements at (branch p left right) perfect low =
    let one = plain_below hash level bits given elements at left perfect.1 (omega arith) in
    let other = plain_below hash level bits given elements (at
    + leaf_count left) right perfect.2 (omega (arith, perfect.0)) in
    let own : List ℕ = hash (node_string p (grafted_digest hash level bits given elements at left)
    (grafted_digest hash level bits given elements (at + leaf_count left) right)) in
    ap₂ (λ a b. hash (node_string p a b)) one other
    ∙ sym (cond-false (eqb (height (branch p left right)) level)
    (grafted hash (slice_index_or given (at / bits) []) own) own
    (ne_eqb (height (branch p left right)) level (λ same. omega (arith, same, low))))

-- at it the chunk is joined in
joined_at : (hash : Hash) (level bits index at : ℕ) (given elements : List (List ℕ)) (t : Tree) → IsPerfect t
    → height t ≡ level → 0 < level
    → at / bits ≡ index
    → grafted hash (slice_index_or given index []) (plain_digest hash elements at t)
    ≡ grafted_digest hash level bits given elements at t
joined_at hash level bits index at given elements (leaf p) perfect same some begins = absurd (omega (arith, same, some))
joined_at hash level bits index at given elements (branch p left right) perfect same some begins =
    let one = plain_below hash level bits given elements at left perfect.1 (omega (arith, same)) in
    let other = plain_below hash level bits given elements (at
    + leaf_count left) right perfect.2 (omega (arith, same, perfect.0)) in
    let own : List ℕ = hash (node_string p (grafted_digest hash level bits given elements at left)
    (grafted_digest hash level bits given elements (at + leaf_count left) right)) in
    ap (λ k. grafted hash (slice_index_or given k []) (plain_digest hash elements at (branch p left right)))
    (sym begins)
    ∙ ap (grafted hash (slice_index_or given (at / bits) [])) (ap₂ (λ a b. hash (node_string p a b)) one other)
    ∙ sym (cond-true (eqb (height (branch p left right)) level)
    (grafted hash (slice_index_or given (at / bits) []) own) own
    (eq-eqb (height (branch p left right)) level same))

-- above it a branch is hashed with its position
plain_above : (hash : Hash) (level bits at p : ℕ) (given elements : List (List ℕ)) (left right : Tree)
    → level < height (branch p left right)
    → hash (node_string p (grafted_digest hash level bits given elements at left)
    (grafted_digest hash level bits given elements (at + leaf_count left) right))
    ≡ grafted_digest hash level bits given elements at (branch p left right)
plain_above hash level bits at p given elements left right high =
    let own : List ℕ = hash (node_string p (grafted_digest hash level bits given elements at left)
    (grafted_digest hash level bits given elements (at + leaf_count left) right)) in
    sym (cond-false (eqb (height (branch p left right)) level)
    (grafted hash (slice_index_or given (at / bits) []) own) own
    (ne_eqb (height (branch p left right)) level (λ same. omega (arith, same, high))))

-- ---- what is there
some_or : (one other : Option (List ℕ)) → IsSome other → IsSome (option_or one other)
some_or None other some = some
some_or (Some x) other some = refl

both_some : (join : List ℕ → List ℕ → List ℕ) (one other : Option (List ℕ)) → IsSome one → IsSome other
    → IsSome (both_there join one other)
both_some join (Some x) (Some y) one two = refl
both_some join None other one two = absurd (let e : false ≡ true = one in cc)
both_some join (Some x) None one two = absurd (let e : false ≡ true = two in cc)

-- ---- a node of the operations' tree, and that of the chunks' tree over the same chunks
pub record AreOver (rule : Rule) (n level first chunk : ℕ) (wide narrow : Tree) : Type 0 where
  pub few : n ≤ 2 ^ 62
  pub operations : IsNodeAt first wide (forest_of rule n)
  pub count : ℕ
  pub few_chunks : count ≤ 2 ^ 62
  pub chunks : IsNodeAt chunk narrow (forest_of rule count)
  pub begins : first ≡ chunk * 2 ^ level
  pub high : height wide ≡ height narrow + level

module _ (rule : Rule) (pairs : IsPairing rule) (n level : ℕ) where
  pub left_over : (first chunk q p : ℕ) (a b l r : Tree)
      → AreOver rule n level first chunk (branch q a b) (branch p l r)
      → AreOver rule n level first chunk a l
  left_over first chunk q p a b l r over = record {
    few = over.few;
    operations = node-left first q a b (forest_of rule n) over.operations;
    count = over.count;
    few_chunks = over.few_chunks;
    chunks = node-left chunk p l r (forest_of rule over.count) over.chunks;
    begins = over.begins;
    high = omega (arith, over.high);
  }

  pub right_over : (first chunk q p : ℕ) (a b l r : Tree)
      → AreOver rule n level first chunk (branch q a b) (branch p l r)
      → AreOver rule n level (first + leaf_count a) (chunk + leaf_count l) b r
  right_over first chunk q p a b l r over =
      let wide = node-perfect first (branch q a b) (forest_of rule n)
      (forest_of-perfect rule pairs n) over.operations in
      let narrow = node-perfect chunk (branch p l r) (forest_of rule over.count)
      (forest_of-perfect rule pairs over.count) over.chunks in
      let left_high : height a ≡ height l + level = omega (arith, over.high) in
      let leaves_are : leaf_count a ≡ leaf_count l * 2 ^ level =
      leaf_count-perfect a wide.1 ∙ ap (λ k. 2 ^ k) left_high ∙ pow-add 2 (height l) level
      ∙ ap (λ k. k * 2 ^ level) (sym (leaf_count-perfect l narrow.1)) in
      record {
        few = over.few;
        operations = node-right first q a b (forest_of rule n) over.operations;
        count = over.count;
        few_chunks = over.few_chunks;
        chunks = node-right chunk p l r (forest_of rule over.count) over.chunks;
        begins = ap₂ (λ x y. x + y) over.begins leaves_are ∙ sym (add-mul chunk (leaf_count l) (2 ^ level));
        high = omega (arith, left_high, wide.0, narrow.0);
      }

module _ (rule : Rule)
    (root : ℕ → ℕ → ℕ) (pairs : IsPairing rule) (roots : Roots rule root) (hash : Hash) (n level bits : ℕ)
    (given elements : List (List ℕ)) (whole : bits ≡ 2 ^ level) (some : 0 < level) where
  abbrev joined_digest : ℕ → Tree → List ℕ
  joined_digest = grafted_digest hash level bits given elements

  same_of : (first chunk : ℕ) (wide narrow : Tree) → AreOver rule n level first chunk wide narrow
      → IsSameNode rule level (position wide) (position narrow)
  same_of first chunk wide narrow over =
      let Stands : ℕ → Type 0 = λ k. IsNodeAt k wide (forest_of rule n) in
      record {
        chunk = chunk;
        high = height narrow;
        over_operations = (
          wide,
          record {
            leaf_total = n;
            few = over.few;
            stands = subst Stands over.begins over.operations;
            subtree = refl;
            level = sym over.high;
          },
        );
        over_chunks = (
          narrow,
          record { leaf_total = over.count; few = over.few_chunks; stands = over.chunks; subtree = refl; level = refl },
        );
      }

  -- a branch over the same chunks has the digest of its children's digests
  branch_is : (first chunk q p : ℕ) (a b l r : Tree) → AreOver rule n level first chunk (branch q a b) (branch p l r)
      → (x y : List ℕ) → x ≡ joined_digest first a → y ≡ joined_digest (first + leaf_count a) b
      → chunks_node hash rule level p x y ≡ joined_digest first (branch q a b)
  branch_is first chunk q p a b l r over x y one other =
      let at : operations_position rule level p ≡ q =
      same_position rule root pairs roots level q p (same_of first chunk (branch q a b) (branch p l r) over) in
      ap (λ k. hash (node_string k x y)) at ∙ ap₂ (λ u v. hash (node_string q u v)) one other
      ∙ plain_above hash level bits first q given elements a b (omega (arith, over.high))

  -- ---- what is known, or made of what is known
  module _ (lookup : Lookup)
      (of : (first p : ℕ) (tree : Tree) (d : List ℕ) → IsNodeAt first tree (forest_of rule n)
      → IsSameNode rule level (position tree) p
      → lookup p ≡ Some d → d ≡ joined_digest first tree) where
    abbrev answer : Tree → Option (List ℕ)
    answer = known_or_made (chunks_node hash rule level) lookup

    both_is : (p : ℕ) (one other : Option (List ℕ)) (d : List ℕ) (result : List ℕ)
        → ((x y : List ℕ) → one ≡ Some x → other ≡ Some y → chunks_node hash rule level p x y ≡ result)
        → both_there (chunks_node hash rule level p) one other ≡ Some d → d ≡ result
    both_is p (Some x) (Some y) d result each is =
        let same : chunks_node hash rule level p x y ≡ d = cc in
        sym same ∙ each x y refl refl
    both_is p None other d result each is = absurd (let e : ◌≡◌ {A = Option (List ℕ)} None (Some d) = is in cc)
    both_is p (Some x) None d result each is = absurd (let e : ◌≡◌ {A = Option (List ℕ)} None (Some d) = is in cc)

    known_is : (p : ℕ) (got made : Option (List ℕ)) (d : List ℕ) (result : List ℕ) → lookup p ≡ got
        → (lookup p ≡ Some d → d ≡ result) → (made ≡ Some d → d ≡ result) → option_or got made ≡ Some d → d ≡ result
    known_is p None made d result at one other is = other is
    known_is p (Some e) made d result at one other is = one (at ∙ is)

    answer_is : (first chunk : ℕ) (wide narrow : Tree) (d : List ℕ) → AreOver rule n level first chunk wide narrow
        → answer narrow ≡ Some d → d ≡ joined_digest first wide
    answer_is first chunk wide (leaf p) d over is =
        of first p wide d over.operations (same_of first chunk wide (leaf p) over) is
    answer_is first chunk (leaf q) (branch p l r) d over is =
        absurd (let high : 0 ≡ suc (height l) + level = over.high in omega (arith, high))
    answer_is first chunk (branch q a b) (branch p l r) d over is =
        known_is p (lookup p) (both_there (chunks_node hash rule level p) (answer l) (answer r)) d
        (joined_digest first (branch q a b)) refl
        (λ known. of first p (branch q a b) d over.operations
        (same_of first chunk (branch q a b) (branch p l r) over) known)
        (λ made. both_is p (answer l) (answer r) d (joined_digest first (branch q a b))
        (λ x y one other. branch_is first chunk q p a b l r over x y
        (answer_is first chunk a l x (left_over rule pairs n level first chunk q p a b l r over) one)
        (answer_is (first + leaf_count a) (chunk
        + leaf_count l) b r y (right_over rule pairs n level first chunk q p a b l r over) other)) made) is

  -- ---- the digests over grafted leaves
  module _ (leaf_digests : List (List ℕ))
      (joined : (index : ℕ) (node : Tree) → IsNodeAt (index * 2 ^ level) node (forest_of rule n) → height node ≡ level
      → slice_get leaf_digests index
      ≡ Some (grafted hash (slice_index_or given index []) (plain_digest hash elements (index * 2 ^ level) node))) where
    listed_is : (first chunk : ℕ) (wide narrow : Tree) → AreOver rule n level first chunk wide narrow
        → tree_digest (chunks_node hash rule level) leaf_digests chunk narrow ≡ joined_digest first wide
    listed_is first chunk wide (leaf p) over =
        let Stands : ℕ → Type 0 = λ k. IsNodeAt k wide (forest_of rule n) in
        let level_is : height wide ≡ level = omega (arith, over.high) in
        let perfect = node-perfect first wide (forest_of rule n) (forest_of-perfect rule pairs n) over.operations in
        let begins : first / bits ≡ chunk =
        ap₂ (λ x y. x / y) over.begins whole ∙ mul-div_cancel chunk (pow_pos level) in
        get_some leaf_digests chunk _ (joined chunk wide (subst Stands over.begins over.operations) level_is)
        ∙ ap (λ k. grafted hash (slice_index_or given chunk []) (plain_digest hash elements k wide)) (sym over.begins)
        ∙ joined_at hash level bits chunk first given elements wide perfect level_is some begins
    listed_is first chunk (leaf q) (branch p l r) over =
        absurd (let high : 0 ≡ suc (height l) + level = over.high in omega (arith, high))
    listed_is first chunk (branch q a b) (branch p l r) over =
        branch_is first chunk q p a b l r over _ _
        (listed_is first chunk a l (left_over rule pairs n level first chunk q p a b l r over))
        (listed_is (first + leaf_count a) (chunk
        + leaf_count l) b r (right_over rule pairs n level first chunk q p a b l r over))

  -- ---- nothing is missing over leaves that are known
  module _ (lookup : Lookup)
      (known : (c : ℕ) → HasNode (forest_of rule n) (c * 2 ^ level) level → IsSome (lookup (node_count rule c))) where
    there_is : (first chunk : ℕ) (wide narrow : Tree) → AreOver rule n level first chunk wide narrow
        → IsSome (known_or_made (chunks_node hash rule level) lookup narrow)
    there_is first chunk wide (leaf p) over =
        let Stands : ℕ → Type 0 = λ k. IsNodeAt k wide (forest_of rule n) in
        let Some_at : ℕ → Type 0 = λ q. IsSome (lookup q) in
        subst Some_at (sym (leaf-place rule pairs over.count chunk p over.chunks))
        (known chunk (wide, subst Stands over.begins over.operations, omega (arith, over.high)))
    there_is first chunk (leaf q) (branch p l r) over =
        absurd (let high : 0 ≡ suc (height l) + level = over.high in omega (arith, high))
    there_is first chunk (branch q a b) (branch p l r) over =
        some_or (lookup p) _ (both_some (chunks_node hash rule level p) _ _
        (there_is first chunk a l (left_over rule pairs n level first chunk q p a b l r over))
        (there_is (first + leaf_count a) (chunk
        + leaf_count l) b r (right_over rule pairs n level first chunk q p a b l r over)))

-- ---- what is read of both trees
quotient_whole : (first c h level : ℕ) → first ≡ c * 2 ^ h → level ≤ h → first ≡ (first / 2 ^ level) * 2 ^ level
quotient_whole first c h level at low =
    let sum : h - level + level ≡ h = omega (arith, low) in
    let spread : first ≡ (c * 2 ^ (h - level)) * 2 ^ level =
    at ∙ ap (λ k. c * 2 ^ k) (sym sum) ∙ ap (λ k. c * k) (pow-add 2 (h - level) level)
    ∙ sym (mul_assoc c (2 ^ (h - level)) (2 ^ level)) in
    let quotient : first / 2 ^ level ≡ c * 2 ^ (h - level) =
    ap (λ k. k / 2 ^ level) spread ∙ mul-div_cancel (c * 2 ^ (h - level)) (pow_pos level) in
    spread ∙ ap (λ k. k * 2 ^ level) (sym quotient)

-- the digests of the grafted tree, as a state has them
grafted_is : (setting : Setting) (state : State) (first : ℕ) (tree : Tree)
    → grafted_digest setting.hash setting.grafting_height (chunk_bits setting)
    (chunks setting state) state.operations first tree
    ≡ grafted_digests setting state first tree
grafted_is setting state first tree =
    ap (λ (digest : ℕ → Tree → List ℕ). digest first tree)
    (is_grafted_digests setting state setting.grafting_height (chunk_bits setting)
    (chunks setting state) state.operations refl refl refl refl)

module _ (setting : Setting) (state : State)
    (root : ℕ → ℕ → ℕ) (pairs : IsPairing setting.rule) (roots : Roots setting.rule root)
    (whole : 8 * setting.width ≡ 2 ^ setting.grafting_height) (few : length state.operations ≤ 2 ^ 62) where
  abbrev rule : Rule
  rule = setting.rule

  abbrev hash : Hash
  hash = setting.hash

  abbrev level : ℕ
  level = setting.grafting_height

  abbrev count : ℕ
  count = length state.operations

  abbrev digest_of : ℕ → Tree → List ℕ
  digest_of = grafted_digest hash level (chunk_bits setting) (chunks setting state) state.operations

  abbrev trees_of : Lookup → Lookup → TwoTrees
  trees_of operations chunks_known = record { grafting_height = level; operations = operations; chunks = chunks_known }

  -- below the grafting height
  low_is : (operations : Lookup) → IsLookupOfOperations setting state operations
      → (first : ℕ) (tree : Tree) (d : List ℕ)
      → IsNodeAt first tree (forest_of rule count) → height tree < level → operations (position tree) ≡ Some d
      → d ≡ digest_of first tree
  low_is operations of first tree d stands low is =
      let listed : length (plain_leaf_digests hash rule 0 state.operations)
      ≡ count = length-plain hash rule 0 state.operations in
      let Stands : ℕ → Type 0 = λ k. IsNodeAt first tree (forest_of rule k) in
      let perfect = node-perfect first tree (forest_of rule count) (forest_of-perfect rule pairs count) stands in
      of first tree d (subst Stands (sym listed) stands) is
      ∙ digest-plain hash rule pairs state.operations first tree stands
      ∙ plain_below hash level (chunk_bits setting) (chunks setting state) state.operations first tree perfect low

  -- at it and above it
  high_is : (chunks_known : Lookup) → IsLookupOfChunks setting state chunks_known
      → (first c : ℕ) (tree : Tree) (d : List ℕ) (got : Option Tree)
      → IsNodeAt first tree (forest_of rule count) → first ≡ c * 2 ^ height tree → level ≤ height tree
      → node_over rule (first / 2 ^ level) (height tree - level) ≡ got
      → option_and_then (known_or_made (chunks_node hash rule level) chunks_known) got ≡ Some d
      → d ≡ digest_of first tree
  high_is chunks_known of first c tree d None stands at high got is =
      absurd (let e : ◌≡◌ {A = Option (List ℕ)} None (Some d) = is in cc)
  high_is chunks_known of first c tree d (Some narrow) stands at high got is =
      let it = node_over-some rule (first / 2 ^ level) (height tree - level) narrow got in
      answer_is rule root pairs roots hash count level (chunk_bits setting)
      (chunks setting state) state.operations whole
      (some_height setting.width level whole) chunks_known
      (λ f p t e there same known. of f p t e there same known ∙ sym (grafted_is setting state f t))
      first (first / 2 ^ level) tree narrow d
      (record {
        few = few;
        operations = stands;
        count = 2 ^ 62;
        few_chunks = omega arith;
        chunks = it.0;
        begins = quotient_whole first c (height tree) level at high;
        high = omega (arith, it.1, high);
      }) is

  pub nodes_are : Aligned rule → (operations chunks_known : Lookup) → IsLookupOfOperations setting state operations
      → IsLookupOfChunks setting state chunks_known → (first : ℕ) (tree : Tree) (d : List ℕ)
      → IsNodeAt first tree (forest setting state)
      → grafted_lookup rule hash (trees_of operations chunks_known) (position tree) ≡ Some d
      → d ≡ grafted_digests setting state first tree
  nodes_are aligned operations chunks_known of_operations of_chunks first tree d stands is =
      let trees : TwoTrees = trees_of operations chunks_known in
      let p : ℕ = position tree in
      let at : node_at rule p ≡ Some (first, height tree) =
      node_at-is rule pairs first p (height tree) (
        tree,
        record {
          leaf_total = count;
          few = few;
          stands = stands;
          subtree = refl;
          level = refl;
        },
      ) in
      let part = aligned count first tree stands in
      elim (cases_lt (height tree) level) [
        | inl low ↦
            low_is operations of_operations first tree d stands low (read-low rule hash trees p first (height tree)
            (operations p) at low refl ∙ is)
            ∙ grafted_is setting state first tree
        | inr high ↦
            high_is chunks_known of_chunks first part.0 tree d (node_over rule (first / 2 ^ level) (height tree
            - level)) stands part.1 high refl
            (read-high rule hash trees p first (height tree) at high ∙ is)
            ∙ grafted_is setting state first tree
      ]

  pub source_is : Aligned rule → (source : Source) (operations chunks_known : Lookup)
      → IsLookupOfOperations setting state operations
      → IsLookupOfChunks setting state chunks_known → source.span.leaves ≡ length state.operations
      → source.bits ≡ state.bits
      → source.known ≡ grafted_lookup rule hash (trees_of operations chunks_known) → IsSourceOf setting state source
  source_is aligned source operations chunks_known of_operations of_chunks leaves_are bits_are known_is = record {
    leaves = leaves_are;
    bits = bits_are;
    known = λ first tree d stands is.
        nodes_are aligned operations chunks_known of_operations of_chunks first tree d stands
        (ap (λ (known : Lookup). known (position tree)) (sym known_is) ∙ is);
  }

  -- ---- a tree in memory over grafted leaves
  get_below : (xs : List (List ℕ)) (i : ℕ) (x : List ℕ) → slice_get xs i ≡ Some x → i < length xs
  get_below [] i x is = absurd cc
  get_below (y ∷ xs) zero x is = omega arith
  get_below (y ∷ xs) (suc i) x is = omega (arith, get_below xs i x is)

  kept_below : (nodes : Nodes) (p : ℕ) (d : List ℕ) → AreKeptNodes rule nodes → kept_at rule nodes p ≡ Some d
      → p < node_count rule nodes.leaves
  kept_below nodes p d shape is =
      let start : ℕ = node_count rule nodes.boundary in
      elim (cases_lt p start) [
        | inl before ↦ omega (arith, before, shape.counted)
        | inr after ↦
            (let there : slice_get nodes.digests (p - start) ≡ Some d =
            sym (cond-false _ (digest_at nodes.pinned p) (slice_get nodes.digests (p - start)) (le-ltb p start after))
            ∙ is in
            omega (arith, get_below nodes.digests (p - start) d there, shape.counted, after))
      ]

  new_later : (n first : ℕ) (tree : Tree) → IsNew n (size (forest_of rule n)) first tree
      → size (forest_of rule n) ≤ position tree
  new_later n first tree (inl new) = omega (arith, ap position new.1)
  new_later n first tree (inr new) = omega (arith, ap position new.is, new.after)

  old_of : (n first : ℕ) (tree : Tree) → position tree < size (forest_of rule n)
      → IsNodeAt first tree (forest_of rule n) ⊎ IsNew n (size (forest_of rule n)) first tree
      → IsNodeAt first tree (forest_of rule n)
  old_of n first tree below (inl old) = old
  old_of n first tree below (inr new) = absurd (omega (arith, below, new_later n first tree new))

  there_before : (n more first : ℕ) (tree : Tree) → position tree < size (forest_of rule n)
      → IsNodeAt first tree (forest_of rule (n + more))
      → IsNodeAt first tree (forest_of rule n)
  there_before n zero first tree below stands =
      let Stands : ℕ → Type 0 = λ k. IsNodeAt first tree (forest_of rule k) in
      let same : n + 0 ≡ n = omega arith in
      subst Stands same stands
  there_before n (suc more) first tree below stands =
      let Stands : ℕ → Type 0 = λ k. IsNodeAt first tree (forest_of rule k) in
      let same : n + suc more ≡ suc (n + more) = omega arith in
      there_before n more first tree below
      (old_of (n + more) first tree (omega (arith, below, size-mono rule pairs n (n + more) (omega arith)))
      ((grown rule pairs (n + more)).each first tree (subst Stands same stands)))

  -- a node whose position the forest has is one of it
  stands_below : (n m first : ℕ) (tree : Tree) → position tree < size (forest_of rule n)
      → IsNodeAt first tree (forest_of rule m)
      → IsNodeAt first tree (forest_of rule n)
  stands_below n m first tree below stands =
      there_before n m first tree below (node-stays rule pairs m (n + m) first tree (omega arith) stands)

  some_digest : (x y : List ℕ) → ◌≡◌ {A = Option (List ℕ)} (Some x) (Some y) → x ≡ y
  some_digest x y same = cc

  pub chunks_are : (leaf_digests : List (List ℕ)) (nodes : Nodes) → AreGraftedLeaves setting state leaf_digests
      → AreNodesOf (chunks_node hash rule level) rule leaf_digests nodes
      → IsLookupOfChunks setting state (kept_at rule nodes)
  chunks_are leaf_digests nodes leaves_are are first p tree d stands same is =
      let wide = same.over_operations.1 in
      let narrow = same.over_chunks.1 in
      let small : Tree = same.over_chunks.0 in
      let one = one-node rule pairs count wide.leaf_total first (same.chunk
      * 2 ^ level) tree same.over_operations.0 stands wide.stands wide.subtree in
      let over : AreOver rule count level first same.chunk tree small = record {
        few = few;
        operations = stands;
        count = narrow.leaf_total;
        few_chunks = narrow.few;
        chunks = narrow.stands;
        begins = one.0;
        high = ap height one.1 ∙ sym wide.level ∙ ap (λ k. k + level) narrow.level;
      } in
      let below : position small < size (forest_of rule (length leaf_digests)) =
      omega (arith, narrow.subtree, kept_below nodes p d are.shape is, ap (node_count rule) are.counted) in
      let there = stands_below (length leaf_digests) narrow.leaf_total same.chunk small below narrow.stands in
      let known : kept_at rule nodes (position small) ≡ Some d = ap (kept_at rule nodes) (sym narrow.subtree) ∙ is in
      let If : Option (List ℕ)
      → Type 0 = λ o. IfSome o (λ e. e ≡ tree_digest (chunks_node hash rule level) leaf_digests same.chunk small) in
      subst If known (right-there (chunks_node hash rule level) rule leaf_digests nodes are same.chunk small there)
      ∙ listed_is rule root pairs roots hash count level (chunk_bits setting)
      (chunks setting state) state.operations whole
      (some_height setting.width level whole) leaf_digests leaves_are.joined first same.chunk tree small over
      ∙ grafted_is setting state first tree

  -- ---- each node is there
  high_there : (birth : ℕ → ℕ → ℕ) → AreBorn rule birth → (chunks_known : Lookup)
      → ((c : ℕ) → HasNode (forest_of rule count) (c * 2 ^ level) level → IsSome (chunks_known (node_count rule c)))
      → (first c : ℕ) (tree : Tree) (got : Option Tree)
      → IsNodeAt first tree (forest_of rule count) → first ≡ c * 2 ^ height tree → level ≤ height tree
      → node_over rule (first / 2 ^ level) (height tree - level) ≡ got
      → IsSome (option_and_then (known_or_made (chunks_node hash rule level) chunks_known) got)
  high_there birth are chunks_known known first c tree None stands at high got =
      let sum : height tree - level + level ≡ height tree = omega (arith, high) in
      let Node : ℕ → Type 0 = λ k. HasNode (forest_of rule count) (c * 2 ^ k) k in
      let Stands : ℕ → Type 0 = λ k. IsNodeAt k tree (forest_of rule count) in
      let over : HasNode (forest_of rule count) (c * 2 ^ height tree) (height tree) = (
        tree,
        subst Stands at stands,
        refl,
      ) in
      let it = in_chunks rule birth pairs are count c (height tree - level) level few (subst Node (sym sum) over) in
      let quotient : first / 2 ^ level ≡ c * 2 ^ (height tree - level) =
      ap (λ k. k / 2 ^ level) (at ∙ ap (λ k. c * 2 ^ k) (sym sum)
      ∙ ap (λ k. c * k) (pow-add 2 (height tree - level) level)
      ∙ sym (mul_assoc c (2 ^ (height tree - level)) (2 ^ level)))
      ∙ mul-div_cancel (c * 2 ^ (height tree - level)) (pow_pos level) in
      let found : ◌≡◌ {A = Option Tree} None (Some it.2.0) =
      sym got ∙ ap (λ k. node_over rule k (height tree - level)) quotient
      ∙ node_over-is rule root pairs roots it.0 (c * 2 ^ (height tree - level)) (height tree
      - level) it.2.0 it.1 it.2.1 it.2.2 in
      absurd cc
  high_there birth are chunks_known known first c tree (Some narrow) stands at high got =
      let it = node_over-some rule (first / 2 ^ level) (height tree - level) narrow got in
      there_is rule root pairs roots hash count level (chunk_bits setting) (chunks setting state) state.operations whole
      (some_height setting.width level whole) chunks_known known first (first / 2 ^ level) tree narrow
      (record {
        few = few;
        operations = stands;
        count = 2 ^ 62;
        few_chunks = omega arith;
        chunks = it.0;
        begins = quotient_whole first c (height tree) level at high;
        high = omega (arith, it.1, high);
      })

  pub nodes_there : (birth : ℕ → ℕ → ℕ) → AreBorn rule birth → Aligned rule → (operations chunks_known : Lookup)
      → ((first : ℕ) (tree : Tree) → IsNodeAt first tree (forest_of rule count) → height tree < level
      → IsSome (operations (position tree)))
      → ((c : ℕ) → HasNode (forest_of rule count) (c * 2 ^ level) level → IsSome (chunks_known (node_count rule c)))
      → (first : ℕ) (tree : Tree) → IsNodeAt first tree (forest_of rule count)
      → IsSome (grafted_lookup rule hash (trees_of operations chunks_known) (position tree))
  nodes_there birth are aligned operations chunks_known low_known high_known first tree stands =
      let trees : TwoTrees = trees_of operations chunks_known in
      let p : ℕ = position tree in
      let at : node_at rule p ≡ Some (first, height tree) =
      node_at-is rule pairs first p (height tree) (
        tree,
        record {
          leaf_total = count;
          few = few;
          stands = stands;
          subtree = refl;
          level = refl;
        },
      ) in
      let part = aligned count first tree stands in
      elim (cases_lt (height tree) level) [
        | inl low ↦
            subst (λ o. IsSome o) (read-low rule hash trees p first (height tree) (operations p) at low refl)
            (low_known first tree stands low)
        | inr high ↦
            subst (λ o. IsSome o) (read-high rule hash trees p first (height tree) at high)
            (high_there birth are chunks_known high_known first part.0 tree
            (node_over rule (first / 2 ^ level) (height tree - level)) stands
            part.1 high refl)
      ]
